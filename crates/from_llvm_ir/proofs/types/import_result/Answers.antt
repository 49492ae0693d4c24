-- What `types::import_result` owes besides what the check finds.
use Rattle.std.proofs.Common.{◌∙◌, sym, ap, subst, Some}
use Rattle.std.proofs.lemmas.Option.{slice_get_within}
use Rattle.std.proofs.lemmas.Result.{IfOk-weaker}
use Rattle.kinds.specs.Types.{result_of}
use Rattle.dialect_types.specs.Trees.{structs_of}
use Rattle.from_llvm_ir.specs.Types.{NamesAmong}
use Rattle.from_llvm_ir.proofs.FoundLaws.{result_ready}
use Rattle.from_llvm_ir.proofs.SourceLaws.{function_within, function_kind, result_held, parts_within}
use Rattle.from_llvm_ir.proofs.SeenLaws.{seen_function}
use Rattle.from_llvm_ir.proofs.types.import_result.Goals as goal

pub function_type-requires : goal.function_type-requires
function_type-requires c = function_within c.args.source.now c.args.f c.requires.0 c.requires.1

pub type_kind-requires : goal.type_kind-requires
type_kind-requires c = slice_get_within c.args.source.now.types c.function_type.result.0 c.function_type.ensures.function.0 c.function_type.ensures.function.1

pub unreachable-requires : goal.unreachable-requires
unreachable-requires c =
    let k = function_kind c.args.source.now c.args.f c.requires.0 c.requires.1 c.function_type.result c.type_kind.result.now c.function_type.ensures.ty (seen_function c.args.source.now.types c.function_type.result c.type_kind.result.now c.type_kind.ensures.kind c.function_type.ensures.function) in
    c.in_default.not-Function k.0 k.1 k.2 k.3

pub import_plain-requires-clause-within : goal.import_plain-requires-clause-within
import_plain-requires-clause-within c =
    (parts_within c.args.source.now c.function_type.result c.in-Function.result c.in-Function.params c.in-Function.variadic c.requires.1.sound ((seen_function c.args.source.now.types c.function_type.result c.type_kind.result.now c.type_kind.ensures.kind c.function_type.ensures.function) ∙ ap Some c.in-Function.is)).0

pub import_plain-requires-clause-held : goal.import_plain-requires-clause-held
import_plain-requires-clause-held c =
    (result_held c.args.source.now c.args.f c.requires.0 c.requires.1 c.function_type.result c.type_kind.result.now c.in-Function.result c.in-Function.params c.in-Function.variadic c.function_type.ensures.ty (seen_function c.args.source.now.types c.function_type.result c.type_kind.result.now c.type_kind.ensures.kind c.function_type.ensures.function) c.in-Function.is).1

pub import_plain-requires-clause-ready : goal.import_plain-requires-clause-ready
import_plain-requires-clause-ready c =
    let r = c.requires in
    let same = (result_held c.args.source.now c.args.f r.0 r.1 c.function_type.result c.type_kind.result.now c.in-Function.result c.in-Function.params c.in-Function.variadic c.function_type.ensures.ty (seen_function c.args.source.now.types c.function_type.result c.type_kind.result.now c.type_kind.ensures.kind c.function_type.ensures.function) c.in-Function.is).0 in
    subst (NamesAmong (structs_of c.args.ctx.now.types)) (sym (same ∙ sym (ap result_of r.1.form.type))) (result_ready r.0 (structs_of c.args.ctx.now.types) r.2)

pub returns-clause-ty : goal.returns-clause-ty
returns-clause-ty c =
    IfOk-weaker c.import_plain.result _ _ (λ t is g h. is ∙ (result_held c.args.source.now c.args.f g h c.function_type.result c.type_kind.result.now c.in-Function.result c.in-Function.params c.in-Function.variadic c.function_type.ensures.ty (seen_function c.args.source.now.types c.function_type.result c.type_kind.result.now c.type_kind.ensures.kind c.function_type.ensures.function) c.in-Function.is).0) c.import_plain.ensures.ty
