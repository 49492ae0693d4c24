-- What `typing::bytes_type` owes besides what the check finds.
use Rattle.std.proofs.Common.{arith, ◌+◌, subst, sym, ◌≡◌, false}
use Rattle.std.proofs.lemmas.Option.{slice_get_within}
use Rattle.std.proofs.lemmas.Result.{IfOk-weaker}
use Rattle.dialect_types.proofs.GrowthLaws.{grows_by, grows_got, grows_then}
use Rattle.kinds.proofs.DepthLaws.{shallow_at}
use Rattle.kinds.specs.Held.{too_deep}
use Rattle.kinds.specs.Types.{depth}
use Rattle.dialect_types.specs.Trees.{TypeTree}
use Rattle.const_attrs.proofs.typing.bytes_type.Goals as goal

pub get-requires-clause-nesting : goal.get-requires-clause-nesting
get-requires-clause-nesting c = shallow_at 1 (omega arith)

pub get-requires-2-clause-parts : goal.get-requires-2-clause-parts
get-requires-2-clause-parts c = slice_get_within _ _ _ c.in_ok-byte.ensures.interned.here

pub get-requires-2-clause-nesting : goal.get-requires-2-clause-nesting
get-requires-2-clause-nesting c = subst (λ (t : TypeTree). too_deep (1 + depth t) ≡ false) (sym c.in_ok-byte.ensures.tree) (shallow_at 2 (omega arith))

pub returns-clause-within : goal.returns-clause-within
returns-clause-within c = IfOk-weaker c.get-2.result _ _ (λ t h. slice_get_within _ _ _ h.here) c.get-2.ensures.interned

pub returns-clause-grows : goal.returns-clause-grows
returns-clause-grows c =
    let first = c.in_ok-byte.ensures in
    grows_then _ _ _ (grows_by _ _ _ _ first.interned first.structs) (grows_got c.get-2.result _ _ _ c.get-2.ensures.interned c.get-2.ensures.structs c.get-2.ensures.err)
