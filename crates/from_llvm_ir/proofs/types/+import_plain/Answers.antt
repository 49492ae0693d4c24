-- What `types::import_plain` and what it calls owe besides what the check finds.
use Rattle.std.proofs.Common.{◌∙◌, ◌+◌, ◌<◌, All, List, Some, ap, get_or, length, map, sym, subst, take, arith}
use Rattle.kinds.specs.Held.{IsHeld, IsHeldResult, IsShallow}
use Rattle.kinds.specs.Types.{ArrayType, VectorType}
use Rattle.kinds.proofs.HeldLaws.{held_result_if, held_result_shallow}
use Rattle.llvm_core.specs.declared.numbers.LLVMType.{LLVMType}
use Rattle.llvm_core.specs.Data as L
use Rattle.llvm_core.specs.Data.{trees_of}
use Rattle.llvm_core.proofs.DataLemmas.{type_tree_of}
use Rattle.dialect_types.specs.Trees.{type_trees, structs_of, AllBelow}
use Rattle.from_llvm_ir.proofs.TypeLaws.{Imports, imports_more, grows_none, all_below}
use Rattle.from_llvm_ir.proofs.KindLaws.{array_part, vector_part, struct_parts, kind_held, no_parts, struct_stands, held_fit, below_reach, reach_below}
use Rattle.kinds.specs.Structs.{Struct}
use Rattle.from_llvm_ir.specs.Types.{NamesAmong}
use Rattle.from_llvm_ir.proofs.FoundLaws.{array_among, vector_among, fields_among}
use Rattle.from_llvm_ir.proofs.SeenLaws.{seen_unnamed}
use Rattle.from_llvm_ir.proofs.types.+import_plain.Goals as goal

-- ---- the types of a list

pub import_all-import_plain-requires : goal.import_all-import_plain-requires
import_all-import_plain-requires t c =
    let i = c.loop-ty.ty-index in
    let lt = c.loop-ty-test.true in (
      omega (arith, below_reach c.args.types.now i (record { 0 = 0 }) lt),
      (
        c.requires.sound,
        (
          c.requires.within i _ lt,
          (
            held_result_if _ (c.requires.held i _ lt),
            subst (λ (ss : List Struct). NamesAmong ss (L.type_at (trees_of c.args.source.now).types (get_or c.args.types.now i (record { 0 = 0 })))) (sym c.loop-ty.invariant.grown.structs) (c.requires.ready i _ lt),
          ),
        ),
      ),
    )

pub import_all-loop-ty-preserved : goal.import_all-loop-ty-preserved
import_all-loop-ty-preserved t c =
    subst (λ ts. Imports c.args.ctx.now c.import_plain.new.ctx (trees_of c.args.source.now).types (take (c.loop-ty.ty-index + 1) c.args.types.now) ts) (sym c.in_ok-push.ensures.items)
    (imports_more c.args.ctx.now c.loop-ty.ctx c.import_plain.new.ctx (trees_of c.args.source.now).types c.args.types.now c.loop-ty.ty-index (record { 0 = 0 }) c.loop-ty.imported.items c.in_ok-import_plain.field-0
    c.loop-ty-test.true c.loop-ty.invariant c.import_plain.ensures.grown c.in_ok-import_plain.ensures.ty c.in_ok-import_plain.ensures.within)

-- ---- the kinds with parts

pub import_kind-import_plain-requires : goal.import_kind-import_plain-requires
import_kind-import_plain-requires t c =
    let r = c.requires in
    let p = array_part c.args.source.now r.sound c.args.ty c.type_kind.result.now (seen_unnamed _ _ c.type_kind.ensures.kind r.unnamed) r.held c.in-Array.count c.in-Array.element c.in-Array.is in (
      omega (arith, p.0),
      (
        r.sound,
        (
          omega (arith, p.0, r.within),
          (
            p.1,
            array_among (structs_of c.args.ctx.now.types) c.args.source.now r.sound c.args.ty c.type_kind.result.now (seen_unnamed _ _ c.type_kind.ensures.kind r.unnamed) r.ready c.in-Array.count c.in-Array.element c.in-Array.is,
          ),
        ),
      ),
    )

pub import_kind-returns-in_ok-element-in-Array-clause-tree : goal.import_kind-returns-in_ok-element-in-Array-clause-tree
import_kind-returns-in_ok-element-in-Array-clause-tree t c =
    let m = c.args.source.now in
    ap (ArrayType c.in-Array.count) c.in_ok-element-in-Array.ensures.ty ∙ ap (L.type_tree (trees_of m).types) (sym c.in-Array.is) ∙ sym (type_tree_of m c.args.ty c.type_kind.result.now c.requires.sound (seen_unnamed _ _ c.type_kind.ensures.kind c.requires.unnamed))

pub import_kind-import_plain-requires-in-Vector : goal.import_kind-import_plain-requires-in-Vector
import_kind-import_plain-requires-in-Vector t c =
    let r = c.requires in
    let p = vector_part c.args.source.now r.sound c.args.ty c.type_kind.result.now (seen_unnamed _ _ c.type_kind.ensures.kind r.unnamed) r.held c.in-Vector.kind c.in-Vector.count c.in-Vector.element c.in-Vector.is in (
      omega (arith, p.0),
      (
        r.sound,
        (
          omega (arith, p.0, r.within),
          (
            p.1,
            vector_among (structs_of c.args.ctx.now.types) c.args.source.now r.sound c.args.ty c.type_kind.result.now (seen_unnamed _ _ c.type_kind.ensures.kind r.unnamed) r.ready c.in-Vector.kind c.in-Vector.count c.in-Vector.element c.in-Vector.is,
          ),
        ),
      ),
    )

pub import_kind-returns-in_ok-element-in-Vector-clause-tree : goal.import_kind-returns-in_ok-element-in-Vector-clause-tree
import_kind-returns-in_ok-element-in-Vector-clause-tree t c =
    let m = c.args.source.now in
    ap (VectorType c.in-Vector.kind c.in-Vector.count) c.in_ok-element-in-Vector.ensures.ty ∙ ap (L.type_tree (trees_of m).types) (sym c.in-Vector.is) ∙ sym (type_tree_of m c.args.ty c.type_kind.result.now c.requires.sound (seen_unnamed _ _ c.type_kind.ensures.kind c.requires.unnamed))

pub import_kind-import_all-requires : goal.import_kind-import_all-requires
import_kind-import_all-requires t c =
    let r = c.requires in
    let m = c.args.source.now in
    let p = struct_parts m r.sound c.args.ty c.type_kind.result.now (seen_unnamed _ _ c.type_kind.ensures.kind r.unnamed) r.held c.in-Literal.fields c.in-Literal.layout c.in-Literal.is in
    let below = subst (All (λ (u : LLVMType). u.0 < c.args.ty.0)) (sym c.as_slice.ensures) p.0 in (
      omega (arith, reach_below c.args.ty.0 c.as_slice.result.now below),
      (
        r.sound,
        (
          λ k d lt. omega (arith, below k d lt, r.within),
          (
            subst (All (λ (u : LLVMType). IsHeld (L.type_at (trees_of m).types u))) (sym c.as_slice.ensures) p.1,
            subst (All (λ (u : LLVMType). NamesAmong (structs_of c.args.ctx.now.types) (L.type_at (trees_of m).types u))) (sym c.as_slice.ensures)
                (fields_among (structs_of c.args.ctx.now.types) m r.sound c.args.ty c.type_kind.result.now (seen_unnamed _ _ c.type_kind.ensures.kind r.unnamed) r.ready c.in-Literal.fields c.in-Literal.layout c.in-Literal.is),
          ),
        ),
      ),
    )

pub import_kind-returns-in_ok-fields-in-Literal-clause-parts : goal.import_kind-returns-in_ok-fields-in-Literal-clause-parts
import_kind-returns-in_ok-fields-in-Literal-clause-parts t c =
    let n = length c.import_all.new.ctx.types in
    subst (AllBelow n) (sym c.from_vec.ensures) (all_below n c.in_ok-fields-in-Literal.fields.items c.in_ok-fields-in-Literal.ensures.within)

pub import_kind-returns-in_ok-fields-in-Literal-clause-tree : goal.import_kind-returns-in_ok-fields-in-Literal-clause-tree
import_kind-returns-in_ok-fields-in-Literal-clause-tree t c =
    let m = c.args.source.now in
    let are = c.in_ok-fields-in-Literal.ensures.types ∙ ap (map (λ (u : LLVMType). L.type_at (trees_of m).types u)) c.as_slice.ensures in
    struct_stands (type_trees c.import_all.new.ctx.types) (trees_of m).types c.in-Literal.fields c.in_ok-fields-in-Literal.fields.items c.from_vec.result c.in-Literal.layout are c.from_vec.ensures
    ∙ ap (L.type_tree (trees_of m).types) (sym c.in-Literal.is) ∙ sym (type_tree_of m c.args.ty c.type_kind.result.now c.requires.sound (seen_unnamed _ _ c.type_kind.ensures.kind c.requires.unnamed))

-- ---- the others

pub import_kind-plain_kind-requires : goal.import_kind-plain_kind-requires
import_kind-plain_kind-requires t c =
    let held = kind_held c.args.source.now c.requires.sound c.args.ty c.type_kind.result.now (seen_unnamed _ _ c.type_kind.ensures.kind c.requires.unnamed) c.requires.held in
    let at = seen_unnamed _ _ c.type_kind.ensures.kind c.requires.unnamed in
    record { held = held; plain = no_parts c.type_kind.result.now held (λ n is. c.requires.unnamed n (at ∙ ap Some is)) c.in_default.not-Array c.in_default.not-Vector c.in_default.not-Literal }

pub import_kind-returns-in_default : goal.import_kind-returns-in_default
import_kind-returns-in_default t c =
    let m = c.args.source.now in
    record {
      grown = grows_none c.args.ctx.now;
      parts = c.plain_kind.ensures.parts (length c.args.ctx.now.types);
      plain = c.plain_kind.ensures.plain;
      tree = c.plain_kind.ensures.tree (trees_of m).types (type_trees c.args.ctx.now.types) ∙ sym (type_tree_of m c.args.ty c.type_kind.result.now c.requires.sound (seen_unnamed _ _ c.type_kind.ensures.kind c.requires.unnamed));
    }

-- ---- the type

pub import_plain-intern-requires-clause-fit : goal.import_plain-intern-requires-clause-fit
import_plain-intern-requires-clause-fit t c = held_fit (type_trees c.import_kind.new.ctx.types) c.in_ok-kind.kind c.in_ok-kind.ensures.plain (subst IsHeldResult (sym c.in_ok-kind.ensures.tree) c.requires.held)

pub import_plain-intern-requires-clause-nesting : goal.import_plain-intern-requires-clause-nesting
import_plain-intern-requires-clause-nesting t c = subst IsShallow (sym c.in_ok-kind.ensures.tree) (held_result_shallow _ c.requires.held)
