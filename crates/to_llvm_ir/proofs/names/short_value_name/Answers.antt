-- The texts of the two literals, and that they are names that the form takes.
use Rattle.std.proofs.Common.{◌≡◌, ◌++◌, [], ℕ, Some, None, Option, List, ap, sym, subst, ◌∙◌, append_assoc, refl}
use Rattle.std.specs.Prelude.{IfSome, codes}
use Rattle.std.specs.Fmt.{decimal}
use Rattle.std.specs.Option.{option_copied}
use Rattle.kinds.specs.Names.{IsGoodOrNone}
use Rattle.to_llvm_ir.specs.Exported.{value_name}
use Rattle.to_llvm_ir.proofs.NameLaws.{given_good, bare_good}
use Rattle.to_llvm_ir.proofs.names.short_value_name.Goals as goal

weaker : {X : Type 0} (o : Option X) (P Q : X → Type 0) → ((x : X) → P x → Q x) → IfSome o P → IfSome o Q
weaker None P Q f h = h
weaker (Some x) P Q f h = f x h

pub returns-in-Some-clause-name : goal.returns-in-Some-clause-name
returns-in-Some-clause-name c =
    let given = c.as_str.result.now in
    let number = c.args.number in
    let same : Some given ≡ option_copied c.args.given = ap Some c.as_str.ensures.text ∙ sym (ap option_copied c.in-Some.is) in
    weaker c.short_joined.result (λ s. s ≡ given ++ (codes "_v" ++ decimal number)) (λ s. s ≡ value_name (option_copied c.args.given) number)
    (λ s wrote. wrote ∙ sym (append_assoc given (codes "_v") (decimal number)) ∙ ap (λ l. value_name l number) same) c.short_joined.ensures

pub returns-in-Some-clause-good : goal.returns-in-Some-clause-good
returns-in-Some-clause-good c = λ k lt.
    let given = c.as_str.result.now in
    let same : option_copied c.args.given ≡ Some given = ap option_copied c.in-Some.is ∙ ap Some (sym c.as_str.ensures.text) in
    subst (λ (l : Option (List ℕ)). IsGoodOrNone (value_name l k)) (sym same)
    (subst IsGoodOrNone (sym (append_assoc given (codes "_v") (decimal k))) (given_good given (codes "_v") k lt (rw c.as_str.ensures.text c.as_str.ensures.legal) refl))

pub returns-in-None-clause-good : goal.returns-in-None-clause-good
returns-in-None-clause-good c = λ k lt.
    let same : option_copied c.args.given ≡ None = ap option_copied c.in-None.is in
    subst (λ (l : Option (List ℕ)). IsGoodOrNone (value_name l k)) (sym same) (bare_good 118 [] k lt refl)
