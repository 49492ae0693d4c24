-- What `constants::add_constant` owes besides what the check finds.
use Rattle.std.proofs.Common.{◌∙◌, ◌+◌, ◌++◌, ◌∷◌, All, List, ap, sym, subst, Some, None, [], length, refl}
use Rattle.std.proofs.lemmas.List.Elements.{All-nil}
use Rattle.std.proofs.lemmas.Result.{IfOk-weaker, on_ok_weaker}
use Rattle.dialect_core.specs.declared.ops.Value.{Value}
use Rattle.dialect_core.specs.declared.ops.Successor.{Successor}
use Rattle.dialect_core.specs.ContextData.{ContextData, IsValueWithin, IsSuccessorWithin}
use Rattle.kinds.specs.Held.{IsHeldResult}
use Rattle.kinds.proofs.HeldLaws.{held_result_if}
use Rattle.dialect_types.specs.Trees.{TypeTree, structs_of, type_at, type_trees}
use Rattle.llvm_core.specs.Data.{const_at, trees_of}
use Rattle.llvm_core.specs.Elements.{HasElements}
use Rattle.kinds.specs.Structs.{Struct}
use Rattle.from_llvm_ir.specs.Building.{IsOpen, new_op, with_ops}
use Rattle.from_llvm_ir.specs.Types.{NamesAmong}
use Rattle.from_llvm_ir.proofs.ConstLaws.{const_typed}
use Rattle.from_llvm_ir.proofs.UnderLaws.{typed_open}
use Rattle.from_llvm_ir.proofs.KeepLaws.{keeps_then, keeps_types}
use Rattle.from_llvm_ir.proofs.constants.add_constant.Goals as goal

pub import_plain-requires-clause-held : goal.import_plain-requires-clause-held
import_plain-requires-clause-held g c =
    subst IsHeldResult (sym (const_typed c.args.source.now c.args.c c.type_of-ty.result c.requires.sound c.type_of-ty.ensures.ty)) (held_result_if _ c.requires.held.held)

pub import_plain-requires-clause-ready : goal.import_plain-requires-clause-ready
import_plain-requires-clause-ready g c =
    subst (NamesAmong (structs_of c.args.ctx.now.types)) (sym (const_typed c.args.source.now c.args.c c.type_of-ty.result c.requires.sound c.type_of-ty.ensures.ty)) c.requires.ready

pub add_op-requires-clause-open : goal.add_op-requires-clause-open
add_op-requires-clause-open g c =
    let o = c.requires.open in
    (o.0, o.1, o.2, o.3, o.4, typed_open o.0 o.1 c.args.ctx.now c.import_plain.new.ctx c.args.block o.2 o.3 o.4 o.5 c.import_plain.ensures.grown)

pub returns-clause-made : goal.returns-clause-made
returns-clause-made g c =
    IfOk-weaker c.add_op.result _ _
    (λ o added h base left now right u.
    let ts = type_trees c.import_plain.new.ctx.types in
    let ty = type_at ts c.in_ok-made.made in
    let typed = c.in_ok-made.ensures.ty ∙ const_typed c.args.source.now c.args.c c.type_of-ty.result c.requires.sound c.type_of-ty.ensures.ty in
    let k = c.in_ok-kind.ensures in (
      new_op o.0 None k.made [] [] (Some ty),
      refl,
      (k.made, k.own, ap (λ (t : TypeTree). new_op o.0 None k.made [] [] (Some t)) typed),
      subst (λ (ss : List Successor). IsOpen h base c.add_op.new.ctx c.args.block left (with_ops now (now.ops ++ new_op o.0 None k.made [] ss (Some ty) ∷ [])) right) c.new-successors.ensures
          (subst (λ (os : List Value). IsOpen h base c.add_op.new.ctx c.args.block left (with_ops now (now.ops ++ new_op o.0 None k.made os c.new-successors.result (Some ty) ∷ [])) right) c.zero-operands.ensures
          (added h base left now right k.made k.is (typed_open h base c.args.ctx.now c.import_plain.new.ctx c.args.block left now right u c.import_plain.ensures.grown))),
    ))
    c.add_op.ensures.added

pub returns-in_err-made-clause-kept : goal.returns-in_err-made-clause-kept
returns-in_err-made-clause-kept g c = λ n b behind. keeps_types n b c.args.ctx.now c.import_plain.new.ctx c.import_plain.ensures.grown

pub returns-in_err-kind-clause-kept : goal.returns-in_err-kind-clause-kept
returns-in_err-kind-clause-kept g c = λ n b behind. keeps_types n b c.args.ctx.now c.import_plain.new.ctx c.import_plain.ensures.grown

pub returns-clause-kept : goal.returns-clause-kept
returns-clause-kept g c = λ n b behind. keeps_then n b c.args.ctx.now c.import_plain.new.ctx c.add_op.new.ctx (keeps_types n b c.args.ctx.now c.import_plain.new.ctx c.import_plain.ensures.grown) (c.add_op.ensures.kept n b behind)

pub add_op-requires-clause-result_ty : goal.add_op-requires-clause-result_ty
add_op-requires-clause-result_ty g c = c.in_ok-made.ensures.within

pub add_op-requires-clause-operands : goal.add_op-requires-clause-operands
add_op-requires-clause-operands g c =
    let P = IsValueWithin (length c.import_plain.new.ctx.ops) (length c.import_plain.new.ctx.blocks) in
    subst (All P) (sym c.zero-operands.ensures) (All-nil P)

pub add_op-requires-clause-successors : goal.add_op-requires-clause-successors
add_op-requires-clause-successors g c =
    let P = IsSuccessorWithin (length c.import_plain.new.ctx.ops) (length c.import_plain.new.ctx.blocks) in
    subst (All P) (sym c.new-successors.ensures) (All-nil P)

pub returns-clause-number : goal.returns-clause-number
returns-clause-number g c = IfOk-weaker c.add_op.result _ _ (λ o number. number ∙ ap (λ (x : ContextData). length x.ops) c.import_plain.ensures.grown.rest) c.add_op.ensures.number

pub returns-clause-count : goal.returns-clause-count
returns-clause-count g c = on_ok_weaker c.add_op.result (λ count. count ∙ ap (λ (x : ContextData). length x.ops + 1) c.import_plain.ensures.grown.rest) c.add_op.ensures.count

pub type_of-ty-requires : goal.type_of-ty-requires
type_of-ty-requires g c = c.requires.within

pub import_plain-requires-clause-sound : goal.import_plain-requires-clause-sound
import_plain-requires-clause-sound g c = c.requires.sound

pub add_op-requires-clause-plain : goal.add_op-requires-clause-plain
add_op-requires-clause-plain g c = c.in_ok-kind.ensures.plain

pub add_op-requires-clause-types : goal.add_op-requires-clause-types
add_op-requires-clause-types g c = c.in_ok-kind.ensures.types

pub constant_kind-requires-clause-taken : goal.constant_kind-requires-clause-taken
constant_kind-requires-clause-taken g c =
    let h = c.requires.held in
    (h.form, h.short, subst (λ (structs : List Struct). HasElements structs (const_at (trees_of c.args.source.now).consts c.args.c)) (sym c.import_plain.ensures.grown.structs) c.requires.elements)

pub constant_kind-requires-clause-ty : goal.constant_kind-requires-clause-ty
constant_kind-requires-clause-ty g c = c.in_ok-made.ensures.ty ∙ const_typed c.args.source.now c.args.c c.type_of-ty.result c.requires.sound c.type_of-ty.ensures.ty
