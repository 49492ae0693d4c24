-- What `type_store::TypeStore::append_type` and what it calls owe besides what the check finds.
use Rattle.std.proofs.Common.{arith, length, subst}
use Rattle.std.proofs.lemmas.Result.{on_ok_weaker}
use Rattle.dialect_types.specs.Trees.{HasPartsBelow, type_at, types_at, type_trees}
use Rattle.dialect_types.specs.Text.{joined, type_text, type_texts}
use Rattle.dialect_types.specs.declared.types.TypeHandle.{TypeHandle}
use Rattle.dialect_types.proofs.TextLemmas.{joined_step, all_printed, func_printed, earlier_parts, reach-at, AllBelow-at, keeps_then}
use Rattle.dialect_types.proofs.type_store.TypeStore.+append_type.Goals as goal

-- ---- parts are earlier

pub append_type-append_struct-requires : goal.append_type-append_struct-requires
append_type-append_struct-requires t c =
    let parts = subst (HasPartsBelow c.args.ty.0) c.in-Struct.is c.kind.ensures.parts in
    let earlier = earlier_parts c.args.ty.0 (length c.args.self.now) c.in-Struct.fields c.as_slice.result.now c.as_slice.ensures c.requires parts in
    (omega (arith, earlier.1), earlier.0)

pub append_type-append_func-requires : goal.append_type-append_func-requires
append_type-append_func-requires t c =
    let parts = subst (HasPartsBelow c.args.ty.0) c.in-Func.is c.kind.ensures.parts in
    let earlier = earlier_parts c.args.ty.0 (length c.args.self.now) c.in-Func.params c.as_slice-in-Func.result.now c.as_slice-in-Func.ensures c.requires parts.1 in
    (omega (arith, parts.0, earlier.1), (omega (arith, parts.0, c.requires), earlier.0))

pub append_types-append_type-requires : goal.append_types-append_type-requires
append_types-append_type-requires t c = (
  omega (arith, reach-at c.args.types.now c.loop-i.i (record { 0 = 0 }) c.loop-i-test.true),
  AllBelow-at (length c.args.self.now) c.args.types.now c.loop-i.i (record { 0 = 0 }) c.requires c.loop-i-test.true,
)

-- ---- lists of types

pub append_types-returns-in_err-append_type-clause-kept : goal.append_types-returns-in_err-append_type-clause-kept
append_types-returns-in_err-append_type-clause-kept t c =
    keeps_then _ _ _ c.loop-i.invariant.kept (keeps_then _ _ _ c.in_ok-print_comma_before.ensures.kept c.append_type.ensures.kept)

pub append_types-loop-i-preserved : goal.append_types-loop-i-preserved
append_types-loop-i-preserved t c = record {
  printed =
      joined_step (λ (x : TypeHandle). type_text (type_at (type_trees c.args.self.now) x)) c.args.types.now c.loop-i.i (record { 0 = 0 }) _ _ _ _
      c.loop-i-test.true c.loop-i.invariant.printed c.in_ok-print_comma_before.ensures.ok c.in_ok-append_type.ensures.ok;
  kept = keeps_then _ _ _ c.loop-i.invariant.kept (keeps_then _ _ _ c.in_ok-print_comma_before.ensures.kept c.in_ok-append_type.ensures.kept);
}

pub append_types-returns-clause-ok : goal.append_types-returns-clause-ok
append_types-returns-clause-ok t c = all_printed (type_trees c.args.self.now) c.args.types.now c.loop-i.i _ _ (omega arith) c.loop-i.invariant.printed

-- ---- functions

pub append_func-returns-clause-ok : goal.append_func-returns-clause-ok
append_func-returns-clause-ok t c =
    on_ok_weaker c.print_func_end.result
    (func_printed (type_text (type_at (type_trees c.args.self.now) c.args.returned)) (joined (type_texts (types_at (type_trees c.args.self.now) c.args.params.now))) c.args.variadic _ _ _ _ _ _
    c.in_ok-extend_from_slice.ensures.items c.in_ok-append_type.ensures.ok c.in_ok-extend_from_slice-2.ensures.items c.in_ok-append_types.ensures.ok)
    c.print_func_end.ensures.ok
