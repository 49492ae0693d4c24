-- What `constants::hoist_block` owes besides what the check finds.
use Rattle.std.proofs.Common.{◌++◌, not, subst, sym, List, filter, take, arith}
use Rattle.std.specs.List.{flat_map}
use Rattle.std.proofs.lemmas.List.{append-nil, take_all}
use Rattle.llvm_core.specs.Data.{Placed, data_of}
use Rattle.llvm_core.specs.Form.{is_phi}
use Rattle.from_llvm_ir.specs.Imported.{constants_in}
use Rattle.from_llvm_ir.specs.Body.{IsHoisting, uses_of_inst}
use Rattle.from_llvm_ir.proofs.SourceLaws.{listed_at, insts_listed, block_within}
use Rattle.from_llvm_ir.proofs.HoistLaws.{hoisting_ready, uses_then, block_uses}
use Rattle.from_llvm_ir.proofs.KeepLaws.{keeps_none, keeps_then}
use Rattle.from_llvm_ir.proofs.constants.hoist_block.Goals as goal

pub hoist_inst-requires-clause-site : goal.hoist_inst-requires-clause-site
hoist_inst-requires-clause-site g c =
    let r = c.requires.site in
    let x = listed_at c.args.source.now r.1 c.args.from r.2 r.3 c.instructions-i-items.result.now c.loop-i.i-index (record { 0 = 0 }) r.4.sound r.6 c.instructions-i-items.ensures.insts c.loop-i-test.true in
    let h = c.requires.hoisting in
    let ready = hoisting_ready h.0 c.args.source.now r.1 c.args.ctx.now c.loop-i.ctx c.args.values.now c.loop-i.values h.1 _ h.2 (c.loop-i.invariant.hoisting r.0 r.1 r.2 r.3 r.4 r.5 r.6 h.0 h.1 h.2 h.3) r.7 in
    (r.0, r.1, r.3, x.0, record { source = r.4; noted = r.5; place = r.2; of_block = r.6; at = c.loop-i.i-index; inst = x.1 }, ready)

pub hoist_inst-requires-clause-hoisting : goal.hoist_inst-requires-clause-hoisting
hoist_inst-requires-clause-hoisting g c =
    let r = c.requires.site in
    let h = c.requires.hoisting in
    (h.0, _, c.loop-i.invariant.hoisting r.0 r.1 r.2 r.3 r.4 r.5 r.6 h.0 h.1 h.2 h.3, h.3)

pub loop-i-preserved : goal.loop-i-preserved
loop-i-preserved g c = record {
  hoisting = λ f h place b source noted of_block fr uses hoisting number.
      let m = c.args.source.now in
      let x = listed_at m h c.args.from place b c.instructions-i-items.result.now c.loop-i.i-index (record { 0 = 0 }) source.sound of_block c.instructions-i-items.ensures.insts c.loop-i-test.true in
      uses_then fr m c.hoist_inst.new.ctx c.hoist_inst.new.values uses (flat_map (constants_in (data_of m) h b) (filter (λ (p : Placed). not (is_phi p)) (take c.loop-i.i-index b.instructions))) (uses_of_inst (data_of m) h b x.0) _ (block_uses (data_of m) h b c.loop-i.i-index x.0 x.1.at)
      (c.in_ok-hoist_inst.ensures.hoisting f h b x.0 (record { source = source; noted = noted; place = place; of_block = of_block; at = c.loop-i.i-index; inst = x.1 }) fr _ (c.loop-i.invariant.hoisting f h place b source noted of_block fr uses hoisting number) number);
  kept = λ n b behind. keeps_then n b c.args.ctx.now c.loop-i.ctx c.hoist_inst.new.ctx (c.loop-i.invariant.kept n b behind) (c.hoist_inst.ensures.kept n b behind);
}

pub returns-clause-hoisting : goal.returns-clause-hoisting
returns-clause-hoisting g c = λ f h place b source noted of_block fr uses hoisting number.
    let m = c.args.source.now in
    let listed = insts_listed m h c.args.from place b c.instructions-i-items.result.now source.sound of_block c.instructions-i-items.ensures.insts in
    subst (λ (ps : List Placed). IsHoisting fr m c.loop-i.ctx c.loop-i.values (uses ++ flat_map (constants_in (data_of m) h b) (filter (λ (p : Placed). not (is_phi p)) ps))) (take_all c.loop-i.i-index b.instructions (omega (arith, listed.long, c.loop-i-test.false)))
    (c.loop-i.invariant.hoisting f h place b source noted of_block fr uses hoisting number)

pub returns-in_err-hoist_inst-clause-kept : goal.returns-in_err-hoist_inst-clause-kept
returns-in_err-hoist_inst-clause-kept g c = λ n b behind. keeps_then n b c.args.ctx.now c.loop-i.ctx c.hoist_inst.new.ctx (c.loop-i.invariant.kept n b behind) (c.hoist_inst.ensures.kept n b behind)

pub loop-i-init : goal.loop-i-init
loop-i-init g c = record {
  hoisting = λ f h place b source noted of_block fr uses hoisting number. subst (IsHoisting fr c.args.source.now c.args.ctx.now c.args.values.now) (sym (append-nil uses)) hoisting;
  kept = λ n b behind. keeps_none n b c.args.ctx.now;
}

pub returns-clause-kept : goal.returns-clause-kept
returns-clause-kept g c = c.loop-i.invariant.kept

pub instructions-i-items-requires : goal.instructions-i-items-requires
instructions-i-items-requires g c = let r = c.requires.site in block_within c.args.source.now r.1 c.args.from r.2 r.3 r.6
