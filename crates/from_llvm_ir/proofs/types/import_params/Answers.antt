-- What `types::import_params` owes besides what the check finds.
use Rattle.std.proofs.Common.{◌<◌, ◌∙◌, sym, ap, subst, Some, All, length, map}
use Rattle.std.proofs.lemmas.Option.{slice_get_within}
use Rattle.std.proofs.lemmas.Result.{IfOk-weaker}
use Rattle.llvm_core.specs.Data.{trees_of, type_at}
use Rattle.kinds.specs.Held.{IsHeld}
use Rattle.dialect_types.specs.Trees.{structs_of}
use Rattle.from_llvm_ir.specs.Types.{NamesAmong}
use Rattle.from_llvm_ir.proofs.FoundLaws.{numbers_ready}
use Rattle.from_llvm_ir.proofs.SourceLaws.{function_within, function_kind, params_held, params_listed, parts_within}
use Rattle.from_llvm_ir.proofs.SeenLaws.{seen_function}
use Rattle.from_llvm_ir.proofs.types.import_params.Goals as goal

pub function_type-requires : goal.function_type-requires
function_type-requires c = function_within c.args.source.now c.args.f c.requires.0 c.requires.1

pub type_kind-requires : goal.type_kind-requires
type_kind-requires c = slice_get_within c.args.source.now.types c.function_type.result.0 c.function_type.ensures.function.0 c.function_type.ensures.function.1

pub unreachable-requires : goal.unreachable-requires
unreachable-requires c =
    let k = function_kind c.args.source.now c.args.f c.requires.0 c.requires.1 c.function_type.result c.type_kind.result.now c.function_type.ensures.ty (seen_function c.args.source.now.types c.function_type.result c.type_kind.result.now c.type_kind.ensures.kind c.function_type.ensures.function) in
    c.in_default.not-Function k.0 k.1 k.2 k.3

pub import_all-requires-clause-within : goal.import_all-requires-clause-within
import_all-requires-clause-within c =
    subst (All (λ t. t.0 < length c.args.source.now.types)) (sym c.as_slice.ensures) (parts_within c.args.source.now c.function_type.result c.in-Function.result c.in-Function.params c.in-Function.variadic c.requires.1.sound ((seen_function c.args.source.now.types c.function_type.result c.type_kind.result.now c.type_kind.ensures.kind c.function_type.ensures.function) ∙ ap Some c.in-Function.is)).1

pub import_all-requires-clause-held : goal.import_all-requires-clause-held
import_all-requires-clause-held c =
    subst (All (λ t. IsHeld (type_at (trees_of c.args.source.now).types t))) (sym c.as_slice.ensures) (params_held c.args.source.now c.args.f c.requires.0 c.requires.1 c.function_type.result c.type_kind.result.now c.in-Function.result c.in-Function.params c.in-Function.variadic c.function_type.ensures.ty (seen_function c.args.source.now.types c.function_type.result c.type_kind.result.now c.type_kind.ensures.kind c.function_type.ensures.function) c.in-Function.is)

pub import_all-requires-clause-ready : goal.import_all-requires-clause-ready
import_all-requires-clause-ready c =
    let r = c.requires in
    let structs = structs_of c.args.ctx.now.types in
    let trees = (trees_of c.args.source.now).types in
    let are = params_listed c.args.source.now c.args.f r.0 r.1 c.function_type.result c.type_kind.result.now c.in-Function.result c.in-Function.params c.in-Function.variadic c.function_type.ensures.ty (seen_function c.args.source.now.types c.function_type.result c.type_kind.result.now c.type_kind.ensures.kind c.function_type.ensures.function) c.in-Function.is in
    subst (All (λ t. NamesAmong structs (type_at trees t))) (sym c.as_slice.ensures) (numbers_ready r.0 structs r.2 trees c.in-Function.params are)

pub returns-clause-types : goal.returns-clause-types
returns-clause-types c =
    IfOk-weaker c.import_all.result _ _ (λ ts are g h. are ∙ ap (map (λ t. type_at (trees_of c.args.source.now).types t)) c.as_slice.ensures ∙ params_listed c.args.source.now c.args.f g h c.function_type.result c.type_kind.result.now c.in-Function.result c.in-Function.params c.in-Function.variadic c.function_type.ensures.ty (seen_function c.args.source.now.types c.function_type.result c.type_kind.result.now c.type_kind.ensures.kind c.function_type.ensures.function) c.in-Function.is) c.import_all.ensures.types
