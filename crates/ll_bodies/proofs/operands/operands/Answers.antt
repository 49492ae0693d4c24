-- What `operands::operands` owes besides what the check finds.
use Rattle.std.proofs.Common.{[], ◌∷◌, refl, arith}
use Rattle.std.proofs.lemmas.Option.{slice_get-get_or}
use Rattle.llvm_core.specs.Data.{operand_of}
use Rattle.ll_lines.specs.Lines.{Typed}
use Rattle.ll_bodies.specs.Meaning.{operand}
use Rattle.ll_bodies.specs.SourceViews.{structs_in, typed_in, source_trees}
use Rattle.ll_bodies.proofs.ListLaws.{one_made, two_made, none_made, done_more, done_refused}
use Rattle.ll_bodies.proofs.ErrLaws.{passed_on}
use Rattle.ll_bodies.proofs.operands.operands.Goals as goal

pub returns-in_ok-operand-in-len1-clause-ok : goal.returns-in_ok-operand-in-len1-clause-ok
returns-in_ok-operand-in-len1-clause-ok c = λ s knows.
    let source = c.args.source.now in
    let xs = c.args.typed.now in
    let some = c.in-len1.len_at_least in
    let few = c.in-len1.len_below in
    let x = c.in_ok-operand-in-len1 in
    rw c.one.ensures (one_made (typed_in source) (λ (x : Typed). operand (structs_in source) s x.type x.said) (operand_of (source_trees source)) xs _ x.field-0 (omega (arith, few)) (slice_get-get_or xs 0 _ (omega (arith, some))) (x.ensures.ok s knows))

pub returns-in_ok-second-in-len2-clause-ok : goal.returns-in_ok-second-in-len2-clause-ok
returns-in_ok-second-in-len2-clause-ok c = λ s knows.
    let source = c.args.source.now in
    let xs = c.args.typed.now in
    let some = c.in-len2.len_at_least in
    let few = c.in-len2.len_below in
    let x = c.in_ok-first-in-len2 in
    let y = c.in_ok-second-in-len2 in
    rw c.two.ensures (two_made (typed_in source) (λ (x : Typed). operand (structs_in source) s x.type x.said) (operand_of (source_trees source)) xs _ _ x.first y.second (omega (arith, few)) (slice_get-get_or xs 0 _ (omega (arith, some))) (slice_get-get_or xs 1 _ (omega (arith, some))) (x.ensures.ok s knows) (y.ensures.ok s knows))

pub returns-in_err-operand-in-len1-clause-not_yet : goal.returns-in_err-operand-in-len1-clause-not_yet
returns-in_err-operand-in-len1-clause-not_yet c = λ e s knows.
    let source = c.args.source.now in
    let xs = c.args.typed.now in
    let some = c.in-len1.len_at_least in
    let x = c.in_err-operand-in-len1 in
    let none = x.ensures.not_yet (passed_on c.from_residual.result x.field-0.0 c.from_residual.ensures.1 e) s knows in
    done_refused (typed_in source) (λ (x : Typed). operand (structs_in source) s x.type x.said) (operand_of (source_trees source)) xs 0 [] _ (slice_get-get_or xs 0 _ (omega (arith, some))) none
    (none_made (typed_in source) (λ (x : Typed). operand (structs_in source) s x.type x.said) (operand_of (source_trees source)) xs)

pub returns-in_err-first-in-len2-clause-not_yet : goal.returns-in_err-first-in-len2-clause-not_yet
returns-in_err-first-in-len2-clause-not_yet c = λ e s knows.
    let source = c.args.source.now in
    let xs = c.args.typed.now in
    let some = c.in-len2.len_at_least in
    let x = c.in_err-first-in-len2 in
    let f = c.from_residual-in_err-first-in-len2 in
    let none = x.ensures.not_yet (passed_on f.result x.field-0.0 f.ensures.1 e) s knows in
    done_refused (typed_in source) (λ (x : Typed). operand (structs_in source) s x.type x.said) (operand_of (source_trees source)) xs 0 [] _ (slice_get-get_or xs 0 _ (omega (arith, some))) none
    (none_made (typed_in source) (λ (x : Typed). operand (structs_in source) s x.type x.said) (operand_of (source_trees source)) xs)

pub returns-in_err-second-in-len2-clause-not_yet : goal.returns-in_err-second-in-len2-clause-not_yet
returns-in_err-second-in-len2-clause-not_yet c = λ e s knows.
    let source = c.args.source.now in
    let xs = c.args.typed.now in
    let some = c.in-len2.len_at_least in
    let x = c.in_ok-first-in-len2 in
    let y = c.in_err-second-in-len2 in
    let f = c.from_residual-in_err-second-in-len2 in
    let none = y.ensures.not_yet (passed_on f.result y.field-0.0 f.ensures.1 e) s knows in
    done_refused (typed_in source) (λ (x : Typed). operand (structs_in source) s x.type x.said) (operand_of (source_trees source)) xs 1 (x.first ∷ []) _ (slice_get-get_or xs 1 _ (omega (arith, some))) none
    (done_more (typed_in source) (λ (x : Typed). operand (structs_in source) s x.type x.said) (operand_of (source_trees source)) xs 0 1 [] _ x.first (slice_get-get_or xs 0 _ (omega (arith, some))) refl (x.ensures.ok s knows)
    (none_made (typed_in source) (λ (x : Typed). operand (structs_in source) s x.type x.said) (operand_of (source_trees source)) xs))
