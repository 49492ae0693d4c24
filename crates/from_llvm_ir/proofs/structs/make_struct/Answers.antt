-- What `structs::make_struct` owes besides what the check finds.
use Rattle.std.proofs.Common.{List, [], ◌∷◌, All, slice_get, refl, ap, ◌∙◌}
use Rattle.std.specs.Option.{option_map}
use Rattle.kinds.specs.Held.{IsHeld}
use Rattle.llvm_core.specs.declared.numbers.LLVMType.{LLVMType}
use Rattle.llvm_core.specs.declared.structs.StructFields.{StructFields}
use Rattle.llvm_core.specs.Data as L
use Rattle.llvm_core.specs.Data.{trees_of}
use Rattle.dialect_types.specs.declared.types.TypeKind.{TypeKind}
use Rattle.dialect_types.specs.Trees.{structs_of, fields_of, type_trees}
use Rattle.from_llvm_ir.specs.Types.{NamesAmong}
use Rattle.from_llvm_ir.proofs.TypeLaws.{adds}
use Rattle.from_consts.proofs.GivesLaws.{adds_then, adds_interned}
use Rattle.from_llvm_ir.proofs.FieldLaws.{body_holds, body_read}
use Rattle.from_llvm_ir.proofs.StructLaws.{put_as, only_same, only_put}
use Rattle.from_llvm_ir.proofs.structs.make_struct.Goals as goal

pub import_fields-requires-clause-held : goal.import_fields-requires-clause-held
import_fields-requires-clause-held c =
    body_holds (λ (b : StructFields). All (λ (t : LLVMType). IsHeld (L.type_at (trees_of c.args.source.now).types t)) b.types) (slice_get c.args.module.now.structs c.args.s.0) c.struct_body.result c.struct_body.ensures.body c.requires.held

pub import_fields-requires-clause-ready : goal.import_fields-requires-clause-ready
import_fields-requires-clause-ready c =
    body_holds (λ (b : StructFields). All (λ (t : LLVMType). NamesAmong (structs_of c.args.ctx.now.types) (L.type_at (trees_of c.args.source.now).types t)) b.types) (slice_get c.args.module.now.structs c.args.s.0) c.struct_body.result
    c.struct_body.ensures.body c.requires.ready

pub returns-clause-added : goal.returns-clause-added
returns-clause-added c =
    let e = c.in_ok-get_named.ensures in
    let mid = c.import_fields.new.ctx in
    adds_then c.args.ctx.now mid _ (adds c.args.ctx.now mid c.import_fields.ensures.grown) (adds_interned mid _ c.types_mut.result.now _ _ refl c.types_mut.ensures.value e.interned e.kept)

pub returns-in_err-body-clause-only : goal.returns-in_err-body-clause-only
returns-in_err-body-clause-only c = only_same (structs_of c.args.ctx.now.types) (structs_of c.import_fields.new.ctx.types) (c.args.identifier.now ∷ []) c.import_fields.ensures.grown.structs

pub returns-in_err-clone-clause-only : goal.returns-in_err-clone-clause-only
returns-in_err-clone-clause-only c = only_same (structs_of c.args.ctx.now.types) (structs_of c.types_mut.result.now) (c.args.identifier.now ∷ []) (ap structs_of c.types_mut.ensures.value ∙ c.import_fields.ensures.grown.structs)

pub returns-in_err-get_named-clause-only : goal.returns-in_err-get_named-clause-only
returns-in_err-get_named-clause-only c =
    only_same (structs_of c.args.ctx.now.types) (structs_of c.get_named.new.self) (c.args.identifier.now ∷ []) (ap structs_of c.in_err-get_named.ensures.err ∙ ap structs_of c.types_mut.ensures.value ∙ c.import_fields.ensures.grown.structs)

pub returns-clause-only : goal.returns-clause-only
returns-clause-only c =
    let body = option_map (fields_of (type_trees c.types_mut.result.now)) c.in_ok-body.body in
    only_put (structs_of c.args.ctx.now.types) (structs_of c.get_named.new.self) (record { name = c.args.identifier.now; body = body })
    (put_as (structs_of c.types_mut.result.now) (structs_of c.args.ctx.now.types) (structs_of c.get_named.new.self) c.in_ok-clone.field-0 c.args.identifier.now body body (ap structs_of c.types_mut.ensures.value ∙ c.import_fields.ensures.grown.structs)
    c.in_ok-clone.ensures refl c.in_ok-get_named.ensures.structs)

pub returns-clause-put : goal.returns-clause-put
returns-clause-put c = λ x at.
    let source = (trees_of c.args.source.now).types in
    let lent = c.types_mut.ensures.value in
    let body = ap (λ (ts : List TypeKind). option_map (fields_of (type_trees ts)) c.in_ok-body.body) lent ∙ c.in_ok-body.ensures.fields ∙ body_read (L.fields_of source) (slice_get c.args.module.now.structs c.args.s.0) c.struct_body.result x c.struct_body.ensures.body at in
    put_as (structs_of c.types_mut.result.now) (structs_of c.args.ctx.now.types) (structs_of c.get_named.new.self) c.in_ok-clone.field-0 c.args.identifier.now (option_map (fields_of (type_trees c.types_mut.result.now)) c.in_ok-body.body) (option_map (L.fields_of source) x.body)
    (ap structs_of lent ∙ c.import_fields.ensures.grown.structs) c.in_ok-clone.ensures body c.in_ok-get_named.ensures.structs
