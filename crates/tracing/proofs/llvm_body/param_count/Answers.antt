-- What `llvm_body::param_count` owes besides what the check finds.
use Rattle.std.proofs.Common.{Some, sym, subst, ap, ◌∙◌, length}
use Rattle.std.specs.Prelude.{IsTrue}
use Rattle.std.proofs.lemmas.Option.{same_Some}
use Rattle.llvm_core.specs.declared.types.LLVMTypeKind.{LLVMTypeKind}
use Rattle.llvm_core.specs.Parts.{is_function}
use Rattle.tracing.proofs.IndexLaws.{arity_is, typed_function}
use Rattle.tracing.proofs.llvm_body.param_count.Goals as goal

pub returns : goal.returns
returns c = λ h is.
    ap length c.as_slice.ensures
    ∙ sym (arity_is c.args.m.now h c.args.f.0 c.function_type.result c.in-Function.result c.in-Function.params c.in-Function.variadic is c.function_type.ensures.ty (c.type_kind.ensures.kind ∙ ap Some c.in-Function.is))

pub unreachable-requires : goal.unreachable-requires
unreachable-requires c =
    let f = c.function_type.ensures.function in
    let same = same_Some f.0 c.type_kind.result.now (sym f.1 ∙ c.type_kind.ensures.kind) in
    typed_function c.args.m.now c.type_kind.result.now (subst (λ (k : LLVMTypeKind). IsTrue (is_function k)) same f.2) c.in_default.not-Function
