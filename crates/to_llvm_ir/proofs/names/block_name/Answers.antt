-- The texts of the two literals, and that they are names that the form takes.
use Rattle.std.proofs.Common.{◌≡◌, ◌++◌, ℕ, Some, None, Option, List, ap, sym, subst, ◌∙◌, append_assoc, refl}
use Rattle.std.specs.Prelude.{codes}
use Rattle.std.specs.Fmt.{decimal}
use Rattle.std.specs.Option.{option_copied}
use Rattle.std.proofs.lemmas.Result.{IfOk-weaker}
use Rattle.kinds.specs.Names.{IsGoodOrNone}
use Rattle.to_llvm_ir.specs.Exported.{block_name}
use Rattle.to_llvm_ir.proofs.NameLaws.{given_good, bare_good}
use Rattle.to_llvm_ir.proofs.names.block_name.Goals as goal

pub returns-in-Some-clause-name : goal.returns-in-Some-clause-name
returns-in-Some-clause-name c =
    let label = c.as_str.result.now in
    let place = c.args.place in
    let same : Some label ≡ option_copied c.args.label = ap Some c.as_str.ensures.text ∙ sym (ap option_copied c.in-Some.is) in
    IfOk-weaker c.joined.result (λ s. s ≡ label ++ (codes "_block" ++ decimal place)) (λ s. s ≡ block_name (option_copied c.args.label) place)
    (λ s wrote. wrote ∙ sym (append_assoc label (codes "_block") (decimal place)) ∙ ap (λ l. block_name l place) same) (rw c.from.ensures at c.joined.ensures)

pub returns-in-Some-clause-good : goal.returns-in-Some-clause-good
returns-in-Some-clause-good c = λ k lt.
    let label = c.as_str.result.now in
    let same : option_copied c.args.label ≡ Some label = ap option_copied c.in-Some.is ∙ ap Some (sym c.as_str.ensures.text) in
    subst (λ (l : Option (List ℕ)). IsGoodOrNone (block_name l k)) (sym same)
    (subst IsGoodOrNone (sym (append_assoc label (codes "_block") (decimal k))) (given_good label (codes "_block") k lt (rw c.as_str.ensures.text c.as_str.ensures.legal) refl))

pub returns-in-None-clause-good : goal.returns-in-None-clause-good
returns-in-None-clause-good c = λ k lt.
    let same : option_copied c.args.label ≡ None = ap option_copied c.in-None.is in
    subst (λ (l : Option (List ℕ)). IsGoodOrNone (block_name l k)) (sym same) (bare_good 98 (codes "lock") k lt refl)
