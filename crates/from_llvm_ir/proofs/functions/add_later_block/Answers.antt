-- What `functions::add_later_block` owes besides what the check finds.
use Rattle.std.proofs.Common.{◌∙◌, ◌<◌, ℕ, List, [], All, ap, length, refl, map, subst, sym, arith}
use Rattle.std.proofs.lemmas.Result.{IfOk-weaker}
use Rattle.support.proofs.ResultLaws.{ok_both}
use Rattle.dialect_types.specs.declared.types.TypeHandle.{TypeHandle}
use Rattle.dialect_types.specs.Trees.{type_at, type_trees}
use Rattle.from_llvm_ir.specs.Imported.{IsGivenName}
use Rattle.dialect_core.specs.ContextData.{ContextData, kind_at}
use Rattle.from_llvm_ir.specs.Types.{IsReadyFor}
use Rattle.from_llvm_ir.proofs.NameLaws.{given_kept, goes_same}
use Rattle.from_llvm_ir.proofs.SourceLaws.{block_name, block_within}
use Rattle.from_llvm_ir.proofs.StartLaws.{later_heads, next_head}
use Rattle.from_llvm_ir.proofs.KeepLaws.{keeps_none, keeps_then, keeps_types}
use Rattle.from_llvm_ir.proofs.functions.add_later_block.Goals as goal

pub returns-clause-heads : goal.returns-clause-heads
returns-clause-heads c =
    let r = c.add_func_block.result in
    let e = c.add_func_block.ensures in
    IfOk-weaker r _ _
    (λ block made fr f j place b framed is here h later.
    let ctx = c.import_phi_types.new.ctx in
    later_heads fr c.args.func c.args.ctx.now ctx c.add_func_block.new.ctx j b
    (record { number = block.0; label = c.in_ok-label.label; args = map (type_at (type_trees ctx.types)) c.as_slice.result.now; ops = [] })
    h c.import_phi_types.ensures.grown here made.0.0
    (subst (λ (n : List ℕ). IsGivenName fr.given n c.in_ok-label.label) (block_name c.args.source.now fr.source c.args.from place b c.block_name.result.now is c.block_name.ensures) (given_kept c.given.new.names fr.given c.block_name.result.now c.in_ok-label.label later c.in_ok-label.ensures.given))
    (ap (map (type_at (type_trees ctx.types))) c.as_slice.ensures.value ∙ c.in_ok-args.ensures.types f fr.source place b framed.source is)
    refl made.0.1 made.1.0 made.1.1 (e.kept 0 0 (omega arith)).structs)
    (ok_both r _ _ (ok_both r _ _ e.number e.building) (ok_both r _ _ e.func e.count))

pub returns-in_err-args-clause-kept : goal.returns-in_err-args-clause-kept
returns-in_err-args-clause-kept c = λ n b later. keeps_types n b c.args.ctx.now c.import_phi_types.new.ctx c.import_phi_types.ensures.grown

pub returns-clause-kept : goal.returns-clause-kept
returns-clause-kept c = λ n b later. keeps_then n b c.args.ctx.now c.import_phi_types.new.ctx c.add_func_block.new.ctx (keeps_types n b c.args.ctx.now c.import_phi_types.new.ctx c.import_phi_types.ensures.grown) (c.add_func_block.ensures.kept n b later)

pub import_phi_types-requires : goal.import_phi_types-requires
import_phi_types-requires c = let r = c.requires c.args.names.now (goes_same c.args.names.now) in (r.1, r.0.source, r.3, r.4, r.5.source, r.6, subst (IsReadyFor r.0.source) (sym r.8.structs) r.5.ready)

pub add_func_block-requires-clause-args : goal.add_func_block-requires-clause-args
add_func_block-requires-clause-args c = subst (All (λ (t : TypeHandle). t.0 < length c.import_phi_types.new.ctx.types)) (sym c.as_slice.ensures.value) c.in_ok-args.ensures.within

pub returns-in_err-label-clause-kept : goal.returns-in_err-label-clause-kept
returns-in_err-label-clause-kept c = λ n b later. keeps_none n b c.args.ctx.now

pub block_name-requires : goal.block_name-requires
block_name-requires c = let r = c.requires c.args.names.now (goes_same c.args.names.now) in block_within c.args.source.now r.0.source c.args.from r.3 r.4 r.6

pub add_func_block-requires-clause-func : goal.add_func_block-requires-clause-func
add_func_block-requires-clause-func c = ap (λ (x : ContextData). kind_at x.ops c.args.func.0) c.import_phi_types.ensures.grown.rest ∙ (c.requires c.args.names.now (goes_same c.args.names.now)).8.kind

pub returns-clause-number : goal.returns-clause-number
returns-clause-number c =
    IfOk-weaker c.add_func_block.result _ _ (λ block number fr j h. next_head fr c.args.func c.args.ctx.now c.import_phi_types.new.ctx j block.0 h c.import_phi_types.ensures.grown number) c.add_func_block.ensures.number
