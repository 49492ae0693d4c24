-- What `functions::declare` owes besides what the check finds.
use Rattle.std.proofs.Common.{ℕ, List, sym, ap, subst, ◌∙◌, All, length}
use Rattle.std.proofs.lemmas.Result.{IfOk-weaker, on_ok_weaker}
use Rattle.support.proofs.ResultLaws.{ok_both}
use Rattle.dialect_types.specs.Names.{IsIdentifier}
use Rattle.dialect_types.specs.Trees.{TypeTree, type_at, type_trees}
use Rattle.dialect_core.specs.declared.ops.BlockData.{BlockData}
use Rattle.dialect_core.specs.ContextData.{ContextData}
use Rattle.dialect_core.specs.Data.{with_func}
use Rattle.from_llvm_ir.specs.Imported.{IsBuilding, IsBelow, kept_name}
use Rattle.from_llvm_ir.specs.Building.{bare_func}
use Rattle.from_llvm_ir.proofs.SourceLaws.{function_within, name_of}
use Rattle.from_llvm_ir.proofs.UnderLaws.{typed_building}
use Rattle.from_llvm_ir.proofs.KeepLaws.{keeps_then, keeps_types}
use Rattle.from_llvm_ir.proofs.functions.declare.Goals as goal

pub add_func-requires-clause-module : goal.add_func-requires-clause-module
add_func-requires-clause-module g c = let h = c.requires.«module» in (h.0, h.1, typed_building c.args.ctx.now c.import_function_type.new.ctx h.0 c.args.body h.1 h.2 c.import_function_type.ensures.grown)

pub returns-clause-declared : goal.returns-clause-declared
returns-clause-declared g c =
    let r = c.add_func.result in
    let e = c.add_func.ensures in
    IfOk-weaker r _ _
    (λ func is f h m d b.
    let typed = typed_building c.args.ctx.now c.import_function_type.new.ctx m c.args.body d b c.import_function_type.ensures.grown in
    let n = func.0.0 in
    record {
      building = subst (λ (t : TypeTree). IsBuilding c.add_func.new.ctx m c.args.body (with_func d (bare_func n c.args.name.now (kept_name f.name c.args.name.now) t))) (c.in_ok-ty.ensures.ty f h)
          (subst (λ (name : List ℕ). IsBuilding c.add_func.new.ctx m c.args.body (with_func d (bare_func n name (kept_name f.name name) (type_at (type_trees c.import_function_type.new.ctx.types) c.in_ok-ty.ty)))) c.in_ok-name.ensures
          (subst (λ (llvm_name : List ℕ). IsBuilding c.add_func.new.ctx m c.args.body (with_func d (bare_func n c.in_ok-name.name (kept_name llvm_name c.in_ok-name.name) (type_at (type_trees c.import_function_type.new.ctx.types) c.in_ok-ty.ty)))) (name_of c.args.source.now c.args.f f h c.function_name.result.now c.function_name.ensures) (is.0.0 m d typed)));
      legal = subst IsIdentifier c.in_ok-name.ensures e.legal;
      before = subst (λ (k : ℕ). All (IsBelow k (length c.add_func.new.ctx.blocks)) d.functions) (sym is.0.1)
          (subst (λ (bs : List BlockData). All (IsBelow (length c.import_function_type.new.ctx.ops) (length bs)) d.functions) (sym is.1) typed.below);
    })
    (ok_both r _ _ (ok_both r _ _ e.building e.number) e.blocks)

pub returns-clause-number : goal.returns-clause-number
returns-clause-number g c = IfOk-weaker c.add_func.result _ _ (λ func number. number ∙ ap (λ (y : ContextData). length y.ops) c.import_function_type.ensures.grown.rest) c.add_func.ensures.number

pub returns-clause-blocks : goal.returns-clause-blocks
returns-clause-blocks g c = on_ok_weaker c.add_func.result (λ same. same ∙ ap (λ (y : ContextData). y.blocks) c.import_function_type.ensures.grown.rest) c.add_func.ensures.blocks

pub returns-in_err-ty-clause-kept : goal.returns-in_err-ty-clause-kept
returns-in_err-ty-clause-kept g c = λ m d h n b before behind. keeps_types n b c.args.ctx.now c.import_function_type.new.ctx c.import_function_type.ensures.grown

pub returns-in_err-name-clause-kept : goal.returns-in_err-name-clause-kept
returns-in_err-name-clause-kept g c = λ m d h n b before behind. keeps_types n b c.args.ctx.now c.import_function_type.new.ctx c.import_function_type.ensures.grown

pub returns-clause-kept : goal.returns-clause-kept
returns-clause-kept g c = λ m d h n b before behind. keeps_then n b c.args.ctx.now c.import_function_type.new.ctx c.add_func.new.ctx (keeps_types n b c.args.ctx.now c.import_function_type.new.ctx c.import_function_type.ensures.grown) (c.add_func.ensures.kept m d (typed_building c.args.ctx.now c.import_function_type.new.ctx m c.args.body d h c.import_function_type.ensures.grown) n b before behind)

pub import_function_type-requires : goal.import_function_type-requires
import_function_type-requires g c = c.requires.source

pub add_func-requires-clause-ty : goal.add_func-requires-clause-ty
add_func-requires-clause-ty g c = c.in_ok-ty.ensures.within

pub returns-clause-func : goal.returns-clause-func
returns-clause-func g c = c.add_func.ensures.func

pub function_name-requires : goal.function_name-requires
function_name-requires g c = function_within c.args.source.now c.args.f c.requires.source.0 c.requires.source.1
