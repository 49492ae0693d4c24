-- What `operations::import_op` owes besides what the check finds.
use Rattle.std.proofs.Common.{◌∙◌, ◌+◌, ℕ, refl, sym, ap, subst, List, All, length}
use Rattle.std.specs.Option.{option_map}
use Rattle.llvm_core.specs.Parts.{operands}
use Rattle.llvm_core.specs.Data.{Instruction, trees_of}
use Rattle.meaning.specs.Pairs.{Matched}
use Rattle.dialect_types.specs.Trees.{type_at, type_trees}
use Rattle.dialect_core.specs.declared.ops.Successor.{Successor}
use Rattle.dialect_core.specs.ContextData.{ContextData, IsValueWithin, IsSuccessorWithin}
use Rattle.from_consts.specs.declared.conversion_err.ConversionErr.TheVariants as E
use Rattle.from_llvm_ir.specs.Imported.{IsGivenName}
use Rattle.from_llvm_ir.specs.Parts.{target_blocks}
use Rattle.from_llvm_ir.specs.Edges.{IsKnownEdge}
use Rattle.kinds.specs.Structs.{Struct}
use Rattle.from_llvm_ir.specs.Types.{NamesAmong}
use Rattle.from_llvm_ir.proofs.FoundLaws.{inst_ready}
use Rattle.from_llvm_ir.specs.Building.{new_op}
use Rattle.from_llvm_ir.specs.Converted.{IsKind}
use Rattle.from_llvm_ir.proofs.SourceLaws.{inst_within, inst_name, inst_number, instruction_is, phi_read, type_of_inst}
use Rattle.from_llvm_ir.proofs.NameLaws.{given_kept, goes_same}
use Rattle.from_llvm_ir.proofs.UnderLaws.{typed_open}
use Rattle.held_types.proofs.WalkLaws.{passed_on}
use Rattle.from_llvm_ir.proofs.ReadyLaws.{body_open, edges_stand, edges_within, in_operands, in_targets, operands_settled, operands_stand, targets_ready, values_within}
use Rattle.from_llvm_ir.proofs.RefusalLaws.{late}
use Rattle.from_llvm_ir.proofs.OperationLaws.{kind_found, kind_types, operation_more, plain_kind}
use Rattle.from_llvm_ir.proofs.KeepLaws.{keeps_none, keeps_then, keeps_types}
use Rattle.from_llvm_ir.proofs.operations.import_op.Goals as goal

pub known_operands-requires-clause-settled : goal.known_operands-requires-clause-settled
known_operands-requires-clause-settled g c =
    let r = c.requires c.args.names.now (goes_same c.args.names.now) in
    operands_settled r.0 c.args.source.now r.1 c.args.targets.now c.args.entries.now c.args.ctx.now c.args.values.now c.args.from c.args.block c.args.i r.2 r.3 r.4 r.5 r.6 c.inst-inst.result.now c.inst-inst.ensures.inst r.7 c.inst-inst.ensures.values

pub returns-in_err-operands-clause-err : goal.returns-in_err-operands-clause-err
returns-in_err-operands-clause-err g c =
    passed_on c.from_residual.result c.in_err-operands.field-0.0 _ c.from_residual.ensures.1
    (λ fr f j x b p h other later places inverse.
    late fr c.args.source.now f c.args.targets.now c.args.entries.now c.args.ctx.now c.args.values.now c.args.from c.args.block c.args.i j x b p h other places inverse _ c.in_err-operands.field-0.0
    (λ o is_in. in_operands fr c.args.source.now f c.args.targets.now c.args.entries.now c.args.ctx.now c.args.values.now c.args.from c.args.block c.args.i j x b p h c.inst-inst.result.now c.inst-inst.ensures.inst other (operands c.inst-inst.result.now) o refl is_in) c.in_err-operands.ensures.err)

pub known_successors-requires : goal.known_successors-requires
known_successors-requires g c = let r = c.requires c.args.names.now (goes_same c.args.names.now) in (r.1, r.0.source, targets_ready r.0 c.args.source.now r.1 c.args.targets.now c.args.entries.now c.args.ctx.now c.args.values.now c.args.from c.args.block c.args.i r.2 r.3 r.4 r.5 r.6 c.inst-inst.result.now c.inst-inst.ensures.inst r.7)

pub returns-in_err-edges-clause-err : goal.returns-in_err-edges-clause-err
returns-in_err-edges-clause-err g c =
    passed_on c.from_residual-in_err-edges.result c.in_err-edges.field-0.0 _ c.from_residual-in_err-edges.ensures.1
    (λ fr f j x b p h other later places inverse.
    late fr c.args.source.now f c.args.targets.now c.args.entries.now c.args.ctx.now c.args.values.now c.args.from c.args.block c.args.i j x b p h other places inverse _ c.in_err-edges.field-0.0
    (λ o is_in. in_targets fr c.args.source.now f c.args.targets.now c.args.entries.now c.args.ctx.now c.args.values.now c.args.from c.args.block c.args.i j x b p h c.inst-inst.result.now c.inst-inst.ensures.inst (target_blocks c.inst-inst.result.now) o refl is_in)
    (c.in_err-edges.ensures.err f fr.source (targets_ready fr c.args.source.now f c.args.targets.now c.args.entries.now c.args.ctx.now c.args.values.now c.args.from c.args.block c.args.i j x b p h c.inst-inst.result.now c.inst-inst.ensures.inst other)))

pub import_result_type-requires : goal.import_result_type-requires
import_result_type-requires g c =
    let r = c.requires c.args.names.now (goes_same c.args.names.now) in
    let ready = inst_ready r.0.source r.0.home.structs r.6.framed.ready r.6.place r.4 r.3 r.5 r.6.of_block.at r.6.inst.at in
    (r.5.type, type_of_inst c.args.source.now r.1 r.0.source c.args.from r.6.place r.4 c.args.i r.3 r.5 r.6.framed.source r.6.of_block r.6.inst, subst (λ (ss : List Struct). NamesAmong ss r.5.type) (sym r.6.body.under.structs) ready)

pub inst_name-requires : goal.inst_name-requires
inst_name-requires g c = let r = c.requires c.args.names.now (goes_same c.args.names.now) in inst_within c.args.source.now r.4 c.args.i r.3 r.5 r.6.inst

pub add_op-requires-clause-operands : goal.add_op-requires-clause-operands
add_op-requires-clause-operands g c =
    let r = c.requires c.args.names.now (goes_same c.args.names.now) in
    let m = c.args.source.now in
    let noted = c.in_ok-operands.ensures.ok in
    subst (λ (x : ContextData). All (IsValueWithin (length x.ops) (length x.blocks)) c.in_ok-operands.operands) (sym c.import_result_type.ensures.grown.rest)
    (values_within r.0 m c.args.ctx.now c.args.values.now r.2 r.3 r.4 r.6.body _ c.in_ok-operands.operands (operands_stand r.0 m r.1 c.args.targets.now c.args.entries.now c.args.ctx.now c.args.values.now c.args.from c.args.block c.args.i r.2 r.3 r.4 r.5 r.6 c.inst-inst.result.now c.inst-inst.ensures.inst r.7 c.in_ok-operands.operands noted))

pub add_op-requires-clause-successors : goal.add_op-requires-clause-successors
add_op-requires-clause-successors g c =
    let r = c.requires c.args.names.now (goes_same c.args.names.now) in
    let m = c.args.source.now in
    let edges = c.in_ok-edges.ensures.ok r.1 r.0.source (targets_ready r.0 m r.1 c.args.targets.now c.args.entries.now c.args.ctx.now c.args.values.now c.args.from c.args.block c.args.i r.2 r.3 r.4 r.5 r.6 c.inst-inst.result.now c.inst-inst.ensures.inst r.7) in
    subst (λ (x : ContextData). All (IsSuccessorWithin (length x.ops) (length x.blocks)) c.from_vec-successors.result) (sym c.import_result_type.ensures.grown.rest)
    (subst (All (IsSuccessorWithin (length c.args.ctx.now.ops) (length c.args.ctx.now.blocks))) (sym c.from_vec-successors.ensures) (edges_within r.0 m c.args.ctx.now c.args.values.now r.2 r.3 r.4 r.6.body r.4.number _ c.in_ok-edges.edges.items (edges_stand r.0 m r.1 c.args.targets.now c.args.entries.now c.args.ctx.now c.args.values.now c.args.from c.args.block c.args.i r.2 r.3 r.4 r.5 r.6 c.inst-inst.result.now c.inst-inst.ensures.inst c.in_ok-edges.edges.items edges)))

pub add_op-requires-clause-open : goal.add_op-requires-clause-open
add_op-requires-clause-open g c =
    let r = c.requires c.args.names.now (goes_same c.args.names.now) in
    (r.0.home, r.0.base, _, _, _, typed_open r.0.home r.0.base c.args.ctx.now c.import_result_type.new.ctx c.args.block _ _ _ (body_open r.0 c.args.source.now c.args.ctx.now c.args.values.now r.2 r.3 r.4 r.6.body c.args.block r.6.number) c.import_result_type.ensures.grown)

pub returns-clause-ok : goal.returns-clause-ok
returns-clause-ok g c = λ fr f j x b p h other later.
    let m = c.args.source.now in
    let grown = c.import_result_type.ensures.grown in
    let c1 = c.import_result_type.new.ctx in
    let noted = c.in_ok-operands.ensures.ok in
    let edges = c.in_ok-edges.ensures.ok f fr.source (targets_ready fr m f c.args.targets.now c.args.entries.now c.args.ctx.now c.args.values.now c.args.from c.args.block c.args.i j x b p h c.inst-inst.result.now c.inst-inst.ensures.inst other) in
    let kind = kind_found (trees_of m) (type_trees c1.types) c.inst-inst.result.now c.kind_of.result c.kind_of.ensures in
    let o = new_op c.in_ok-op.op.0 c.in_ok-name.name kind.0 c.in_ok-operands.operands c.from_vec-successors.result (option_map (type_at (type_trees c1.types)) c.in_ok-ty.ty) in
    let under = typed_open fr.home fr.base c.args.ctx.now c1 c.args.block _ _ _ (body_open fr m c.args.ctx.now c.args.values.now j x b h.body c.args.block h.number) grown in
    operation_more fr m f c.args.ctx.now c.args.values.now j x b h.body h.framed c.add_op.new.ctx c.set.new.self c.args.i p o c.args.block h.inst.at other (inst_number m b c.args.i x p h.inst)
    (record {
      kind = subst (λ (i : Instruction). IsKind i kind.0) (sym (instruction_is m b c.args.i x p c.inst-inst.result.now h.inst c.inst-inst.ensures.inst)) kind.2;
      name = subst (λ (n : List ℕ). IsGivenName fr.given n c.in_ok-name.name) (inst_name m b c.args.i x p c.inst_name.result.now h.inst c.inst_name.ensures) (given_kept c.given.new.names fr.given c.inst_name.result.now c.in_ok-name.name later c.in_ok-name.ensures.given);
      operands = operands_stand fr m f c.args.targets.now c.args.entries.now c.args.ctx.now c.args.values.now c.args.from c.args.block c.args.i j x b p h c.inst-inst.result.now c.inst-inst.ensures.inst other c.in_ok-operands.operands noted;
      successors = edges_stand fr m f c.args.targets.now c.args.entries.now c.args.ctx.now c.args.values.now c.args.from c.args.block c.args.i j x b p h c.inst-inst.result.now c.inst-inst.ensures.inst c.from_vec-successors.result (subst (λ (ss : List Successor). Matched (IsKnownEdge m fr.source c.args.values.now c.args.targets.now c.args.from) (target_blocks c.inst-inst.result.now) ss) (sym c.from_vec-successors.ensures) edges);
      result = c.in_ok-ty.ensures.ty p.type (type_of_inst m f fr.source c.args.from h.place b c.args.i x p h.framed.source h.of_block h.inst);
    })
    (c.in_ok-op.ensures.number ∙ ap (λ (y : ContextData). length y.ops) grown.rest)
    (c.in_ok-op.ensures.count ∙ ap (λ (y : ContextData). length y.ops + 1) grown.rest)
    (c.in_ok-op.ensures.added fr.home fr.base _ _ _ kind.0 kind.1 under)
    c.in_ok-set.ensures

pub returns-in_err-ty-clause-kept : goal.returns-in_err-ty-clause-kept
returns-in_err-ty-clause-kept g c = λ n b behind. keeps_types n b c.args.ctx.now c.import_result_type.new.ctx c.import_result_type.ensures.grown

pub returns-in_err-name-clause-kept : goal.returns-in_err-name-clause-kept
returns-in_err-name-clause-kept g c = λ n b behind. keeps_types n b c.args.ctx.now c.import_result_type.new.ctx c.import_result_type.ensures.grown

pub returns-in_err-op-clause-kept : goal.returns-in_err-op-clause-kept
returns-in_err-op-clause-kept g c = λ n b behind. keeps_then n b c.args.ctx.now c.import_result_type.new.ctx c.add_op.new.ctx (keeps_types n b c.args.ctx.now c.import_result_type.new.ctx c.import_result_type.ensures.grown) (c.add_op.ensures.kept n b behind)

pub returns-in_err-set-clause-kept : goal.returns-in_err-set-clause-kept
returns-in_err-set-clause-kept g c = λ n b behind. keeps_then n b c.args.ctx.now c.import_result_type.new.ctx c.add_op.new.ctx (keeps_types n b c.args.ctx.now c.import_result_type.new.ctx c.import_result_type.ensures.grown) (c.add_op.ensures.kept n b behind)

pub returns-clause-kept : goal.returns-clause-kept
returns-clause-kept g c = λ n b behind. keeps_then n b c.args.ctx.now c.import_result_type.new.ctx c.add_op.new.ctx (keeps_types n b c.args.ctx.now c.import_result_type.new.ctx c.import_result_type.ensures.grown) (c.add_op.ensures.kept n b behind)

pub known_operands-requires-clause-other : goal.known_operands-requires-clause-other
known_operands-requires-clause-other g c = let r = c.requires c.args.names.now (goes_same c.args.names.now) in sym (phi_read c.args.source.now r.4 c.args.i r.3 r.5 c.inst-inst.result.now r.6.inst c.inst-inst.ensures.inst) ∙ r.7

pub kind_of-requires : goal.kind_of-requires
kind_of-requires g c = let r = c.requires c.args.names.now (goes_same c.args.names.now) in sym (phi_read c.args.source.now r.4 c.args.i r.3 r.5 c.inst-inst.result.now r.6.inst c.inst-inst.ensures.inst) ∙ r.7

pub returns-in_err-ty-clause-err : goal.returns-in_err-ty-clause-err
returns-in_err-ty-clause-err g c = passed_on c.from_residual-in_err-ty.result E.NoMemory _ c.from_residual-in_err-ty.ensures.1 (λ fr f j x b p h other later places inverse. tt)

pub returns-in_err-name-clause-err : goal.returns-in_err-name-clause-err
returns-in_err-name-clause-err g c = passed_on c.from_residual-in_err-name.result E.NoMemory _ c.from_residual-in_err-name.ensures.1 (λ fr f j x b p h other later places inverse. tt)

pub returns-in_err-op-clause-err : goal.returns-in_err-op-clause-err
returns-in_err-op-clause-err g c = passed_on c.from_residual-in_err-op.result E.NoMemory _ c.from_residual-in_err-op.ensures.1 (λ fr f j x b p h other later places inverse. tt)

pub returns-in_err-set-clause-err : goal.returns-in_err-set-clause-err
returns-in_err-set-clause-err g c = passed_on c.from_residual-in_err-set.result E.NoMemory _ c.from_residual-in_err-set.ensures.1 (λ fr f j x b p h other later places inverse. tt)

pub returns-in_err-operands-clause-kept : goal.returns-in_err-operands-clause-kept
returns-in_err-operands-clause-kept g c = λ n b behind. keeps_none n b c.args.ctx.now

pub returns-in_err-edges-clause-kept : goal.returns-in_err-edges-clause-kept
returns-in_err-edges-clause-kept g c = λ n b behind. keeps_none n b c.args.ctx.now

pub add_op-requires-clause-result_ty : goal.add_op-requires-clause-result_ty
add_op-requires-clause-result_ty g c = c.in_ok-ty.ensures.within

pub inst-inst-requires : goal.inst-inst-requires
inst-inst-requires g c = let r = c.requires c.args.names.now (goes_same c.args.names.now) in inst_within c.args.source.now r.4 c.args.i r.3 r.5 r.6.inst

pub add_op-requires-clause-plain : goal.add_op-requires-clause-plain
add_op-requires-clause-plain g c = plain_kind c.inst-inst.result.now c.kind_of.result c.kind_of.ensures

pub add_op-requires-clause-types : goal.add_op-requires-clause-types
add_op-requires-clause-types g c = kind_types (length c.import_result_type.new.ctx.types) c.inst-inst.result.now c.kind_of.result c.kind_of.ensures

pub returns-in_err-operands-clause-grows : goal.returns-in_err-operands-clause-grows
returns-in_err-operands-clause-grows g c = goes_same c.args.names.now

pub returns-in_err-edges-clause-grows : goal.returns-in_err-edges-clause-grows
returns-in_err-edges-clause-grows g c = goes_same c.args.names.now

pub returns-in_err-ty-clause-grows : goal.returns-in_err-ty-clause-grows
returns-in_err-ty-clause-grows g c = goes_same c.args.names.now
