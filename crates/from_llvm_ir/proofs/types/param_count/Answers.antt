-- What `types::param_count` owes besides what the check finds.
use Rattle.std.proofs.Common.{◌∙◌, ap, length}
use Rattle.std.proofs.lemmas.Option.{slice_get_within}
use Rattle.from_llvm_ir.proofs.SourceLaws.{function_within, function_kind, params_counted}
use Rattle.from_llvm_ir.proofs.SeenLaws.{seen_function}
use Rattle.from_llvm_ir.proofs.types.param_count.Goals as goal

pub function_type-requires : goal.function_type-requires
function_type-requires c = function_within c.args.source.now c.args.f c.requires.0 c.requires.1

pub type_kind-requires : goal.type_kind-requires
type_kind-requires c = slice_get_within c.args.source.now.types c.function_type.result.0 c.function_type.ensures.function.0 c.function_type.ensures.function.1

pub unreachable-requires : goal.unreachable-requires
unreachable-requires c =
    let k = function_kind c.args.source.now c.args.f c.requires.0 c.requires.1 c.function_type.result c.type_kind.result.now c.function_type.ensures.ty (seen_function c.args.source.now.types c.function_type.result c.type_kind.result.now c.type_kind.ensures.kind c.function_type.ensures.function) in
    c.in_default.not-Function k.0 k.1 k.2 k.3

pub returns : goal.returns
returns c = λ g h.
    ap (λ ps. length ps) c.as_slice.ensures ∙ params_counted c.args.source.now c.args.f g h c.function_type.result c.type_kind.result.now c.in-Function.result c.in-Function.params c.in-Function.variadic c.function_type.ensures.ty (seen_function c.args.source.now.types c.function_type.result c.type_kind.result.now c.type_kind.ensures.kind c.function_type.ensures.function) c.in-Function.is
