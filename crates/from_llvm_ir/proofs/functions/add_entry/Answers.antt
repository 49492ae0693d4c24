-- What `functions::add_entry` owes besides what the check finds.
use Rattle.std.proofs.Common.{◌∙◌, [], Some, ap, refl, map, ◌<◌, All, length, subst, sym, arith}
use Rattle.std.proofs.lemmas.Result.{IfOk-weaker}
use Rattle.support.proofs.ResultLaws.{ok_both}
use Rattle.dialect_types.specs.Trees.{type_at, type_trees}
use Rattle.dialect_core.specs.ContextData.{ContextData, kind_at}
use Rattle.dialect_types.specs.declared.types.TypeHandle.{TypeHandle}
use Rattle.from_llvm_ir.specs.Types.{IsReadyFor}
use Rattle.from_llvm_ir.proofs.StartLaws.{more_heads, first_source, next_head}
use Rattle.from_llvm_ir.proofs.KeepLaws.{keeps_then, keeps_types, keeps_none}
use Rattle.from_llvm_ir.proofs.functions.add_entry.Goals as goal

pub returns-clause-heads : goal.returns-clause-heads
returns-clause-heads c =
    let r = c.add_func_block.result in
    let e = c.add_func_block.ensures in
    IfOk-weaker r _ _
    (λ block is fr framed h.
    let b = first_source c.args.source.now c.args.f fr framed in
    let ctx = c.import_params.new.ctx in
    more_heads fr c.args.func c.args.ctx.now ctx c.add_func_block.new.ctx 0 b.0
    (record { number = block.0; label = Some c.in_ok-label.label; args = map (type_at (type_trees ctx.types)) c.as_slice.result.now; ops = [] })
    h c.import_params.ensures.grown b.1 is.0.0
    (ap Some c.in_ok-label.ensures)
    (ap (map (type_at (type_trees ctx.types))) c.as_slice.ensures.value ∙ c.in_ok-args.ensures.types fr.source framed.source)
    refl is.0.1 is.1.0 is.1.1 (e.kept 0 0 (omega arith)).structs)
    (ok_both r _ _ (ok_both r _ _ e.number e.building) (ok_both r _ _ e.func e.count))

pub returns-in_err-args-clause-kept : goal.returns-in_err-args-clause-kept
returns-in_err-args-clause-kept c = λ n b later. keeps_types n b c.args.ctx.now c.import_params.new.ctx c.import_params.ensures.grown

pub returns-clause-kept : goal.returns-clause-kept
returns-clause-kept c = λ n b later. keeps_then n b c.args.ctx.now c.import_params.new.ctx c.add_func_block.new.ctx (keeps_types n b c.args.ctx.now c.import_params.new.ctx c.import_params.ensures.grown) (c.add_func_block.ensures.kept n b later)

pub import_params-requires : goal.import_params-requires
import_params-requires c = let r = c.requires in (r.0.source, r.1.source, subst (IsReadyFor r.0.source) (sym r.2.structs) r.1.ready)

pub add_func_block-requires-clause-func : goal.add_func_block-requires-clause-func
add_func_block-requires-clause-func c = ap (λ (x : ContextData). kind_at x.ops c.args.func.0) c.import_params.ensures.grown.rest ∙ c.requires.2.kind

pub add_func_block-requires-clause-args : goal.add_func_block-requires-clause-args
add_func_block-requires-clause-args c = subst (All (λ (t : TypeHandle). t.0 < length c.import_params.new.ctx.types)) (sym c.as_slice.ensures.value) c.in_ok-args.ensures.within

pub returns-clause-number : goal.returns-clause-number
returns-clause-number c =
    IfOk-weaker c.add_func_block.result _ _ (λ block number fr h. let e = next_head fr c.args.func c.args.ctx.now c.import_params.new.ctx 0 block.0 h c.import_params.ensures.grown number in omega (arith, e)) c.add_func_block.ensures.number

pub returns-in_err-label-clause-kept : goal.returns-in_err-label-clause-kept
returns-in_err-label-clause-kept c = λ n b later. keeps_none n b c.args.ctx.now
