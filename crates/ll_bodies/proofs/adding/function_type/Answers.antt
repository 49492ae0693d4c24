-- What `adding::function_type` owes besides what the check finds.
use Rattle.std.proofs.Common.{◌≡◌, ◌<◌, List, All, Some, false, map, length, ap, sym, ◌∙◌, subst}
use Rattle.std.proofs.lemmas.Result.{IfOk-weaker}
use Rattle.llvm_core.specs.declared.numbers.LLVMType.{LLVMType}
use Rattle.llvm_core.specs.declared.types.LLVMTypeKind.TheVariants as kinds
use Rattle.ll_lines.specs.declared.lines.Param.{Param}
use Rattle.ll_bodies.proofs.AddingLaws.{types_there}
use Rattle.ll_bodies.proofs.adding.function_type.Goals as goal

pub type_number-requires-clause-parts : goal.type_number-requires-clause-parts
type_number-requires-clause-parts c =
    let n = length c.args.module.now.types in
    let is : c.in_ok-params.params ≡ map (λ (p : Param). p.ty) c.args.said.now.params.items = c.in_ok-params.ensures ∙ ap (λ (ps : List Param). map (λ (p : Param). p.ty) ps) c.as_slice.ensures.value in
    (c.requires.0, subst (λ (ts : List LLVMType). All (λ (t : LLVMType). t.0 < n) ts) (sym is) (types_there n c.args.said.now.params.items c.requires.1))

pub returns-clause-here : goal.returns-clause-here
returns-clause-here c =
    let is : c.in_ok-params.params ≡ map (λ (p : Param). p.ty) c.args.said.now.params.items = c.in_ok-params.ensures ∙ ap (λ (ps : List Param). map (λ (p : Param). p.ty) ps) c.as_slice.ensures.value in
    IfOk-weaker c.type_number.result _ _ (λ t h. h ∙ ap (λ (ts : List LLVMType). Some (kinds.Function c.args.said.now.result ts false)) is) c.type_number.ensures.here
