-- What `types::import_phi_types` owes besides what the check finds.
use Rattle.std.proofs.Common.{◌∙◌, ◌+◌, sym, ap, subst, List, take, arith}
use Rattle.std.proofs.lemmas.List.{take_all}
use Rattle.llvm_core.specs.Data as L
use Rattle.kinds.specs.Held.{IsHeldResult}
use Rattle.dialect_types.specs.declared.types.TypeHandle.{TypeHandle}
use Rattle.dialect_core.specs.ContextData.{ContextData}
use Rattle.kinds.specs.Structs.{Struct}
use Rattle.dialect_types.specs.Trees.{structs_of}
use Rattle.from_llvm_ir.specs.Types.{NamesAmong}
use Rattle.from_llvm_ir.proofs.FoundLaws.{inst_ready}
use Rattle.from_llvm_ir.proofs.SourceLaws.{listed_at, listed_within, insts_listed, phi_read, type_of_inst, type_read, block_within}
use Rattle.from_llvm_ir.proofs.TypeLaws.{ImportsPhis, phis_skip, phis_more, grows_then}
use Rattle.from_llvm_ir.proofs.types.import_phi_types.Goals as goal
use Rattle.from_llvm_ir.proofs.types.import_phi_types.Goals.{then-is_phi+in_ok-import_plain+in_ok-push, else-is_phi}

pub import_plain-requires-clause-held : goal.import_plain-requires-clause-held
import_plain-requires-clause-held c =
    let r = c.requires in
    let m = c.args.source.now in
    let x = listed_at m r.1 c.args.block r.2 r.3 c.instructions-i-items.result.now c.loop-i.i-index (record { 0 = 0 }) r.4.sound r.5 c.instructions-i-items.ensures.insts c.loop-i-test.true in
    let t = type_of_inst m r.0 r.1 c.args.block r.2 r.3 _ c.loop-i.i-index x.0 r.4 r.5 x.1 in
    subst IsHeldResult (sym (type_read m _ x.0.type c.type_of.result t c.type_of.ensures.ty)) t.held

pub import_plain-requires-clause-ready : goal.import_plain-requires-clause-ready
import_plain-requires-clause-ready c =
    let r = c.requires in
    let m = c.args.source.now in
    let x = listed_at m r.1 c.args.block r.2 r.3 c.instructions-i-items.result.now c.loop-i.i-index (record { 0 = 0 }) r.4.sound r.5 c.instructions-i-items.ensures.insts c.loop-i-test.true in
    let t = type_of_inst m r.0 r.1 c.args.block r.2 r.3 _ c.loop-i.i-index x.0 r.4 r.5 x.1 in
    let structs = structs_of c.args.ctx.now.types in
    let ready = subst (NamesAmong structs) (sym (type_read m _ x.0.type c.type_of.result t c.type_of.ensures.ty)) (inst_ready r.1 structs r.6 r.2 r.3 c.loop-i.i-index x.0 r.5.at x.1.at) in
    subst (λ (ss : List Struct). NamesAmong ss (L.type_at (L.trees_of m).types c.type_of.result)) (sym (c.loop-i.invariant r.0 r.1 r.2 r.3 r.4 r.5).grown.structs) ready

pub returns-in_err-import_plain-clause-grown : goal.returns-in_err-import_plain-clause-grown
returns-in_err-import_plain-clause-grown c = let r = c.requires in grows_then _ _ _ (c.loop-i.invariant r.0 r.1 r.2 r.3 r.4 r.5).grown c.import_plain.ensures.grown

pub returns-in_err-push-clause-grown : goal.returns-in_err-push-clause-grown
returns-in_err-push-clause-grown c = let r = c.requires in grows_then _ _ _ (c.loop-i.invariant r.0 r.1 r.2 r.3 r.4 r.5).grown c.import_plain.ensures.grown

pub loop-i-preserved : goal.loop-i-preserved
loop-i-preserved c = λ f g place b s of_block.
    let m = c.args.source.now in
    let x = listed_at m g c.args.block place b c.instructions-i-items.result.now c.loop-i.i-index (record { 0 = 0 }) s.sound of_block c.instructions-i-items.ensures.insts c.loop-i-test.true in
    let read = phi_read m b _ c.loop-i.i-index x.0 c.inst.result.now x.1 c.inst.ensures.inst ∙ sym c.is_phi.ensures in
    let before = c.loop-i.invariant f g place b s of_block in
    elim c.if-is_phi.branch [
      | then-is_phi+in_ok-import_plain+in_ok-push w ↦
          let t = type_of_inst m f g c.args.block place b _ c.loop-i.i-index x.0 s of_block x.1 in
          let is = w.in_ok-import_plain.ensures.ty ∙ (type_read m _ x.0.type w.type_of.result t w.type_of.ensures.ty) in
          subst (λ (k : ContextData). ImportsPhis c.args.ctx.now k (take (c.loop-i.i-index + 1) b.instructions) c.if-is_phi.types.items) (sym w.ctx-is)
          (subst (λ (ts : List TypeHandle). ImportsPhis c.args.ctx.now w.import_plain.new.ctx (take (c.loop-i.i-index + 1) b.instructions) ts) (sym (ap (λ v. v.items) w.types-is ∙ w.in_ok-push.ensures.items))
          (phis_more c.args.ctx.now c.loop-i.ctx w.import_plain.new.ctx b.instructions c.loop-i.i-index x.0 c.loop-i.types.items w.in_ok-import_plain.field-0 x.1.at (read ∙ w.if-is_phi.true) before w.import_plain.ensures.grown is w.in_ok-import_plain.ensures.within))
      | else-is_phi w ↦
          subst (λ (k : ContextData). ImportsPhis c.args.ctx.now k (take (c.loop-i.i-index + 1) b.instructions) c.if-is_phi.types.items) (sym w.ctx-is)
          (subst (λ (ts : List TypeHandle). ImportsPhis c.args.ctx.now c.loop-i.ctx (take (c.loop-i.i-index + 1) b.instructions) ts) (sym (ap (λ v. v.items) w.types-is))
          (phis_skip c.args.ctx.now c.loop-i.ctx b.instructions c.loop-i.i-index x.0 c.loop-i.types.items x.1.at (read ∙ w.if-is_phi.false) before))
    ]

pub returns-clause-grown : goal.returns-clause-grown
returns-clause-grown c = let r = c.requires in (c.loop-i.invariant r.0 r.1 r.2 r.3 r.4 r.5).grown

pub returns-clause-types : goal.returns-clause-types
returns-clause-types c = λ f g place b s of_block.
    let listed = insts_listed c.args.source.now g c.args.block place b c.instructions-i-items.result.now s.sound of_block c.instructions-i-items.ensures.insts in
    (subst (λ (ps : List L.Placed). ImportsPhis c.args.ctx.now c.loop-i.ctx ps c.loop-i.types.items) (take_all c.loop-i.i-index b.instructions (omega (arith, listed.long, c.loop-i-test.false))) (c.loop-i.invariant f g place b s of_block)).are

pub returns-clause-within : goal.returns-clause-within
returns-clause-within c = let r = c.requires in (c.loop-i.invariant r.0 r.1 r.2 r.3 r.4 r.5).within

pub instructions-i-items-requires : goal.instructions-i-items-requires
instructions-i-items-requires c = let r = c.requires in block_within c.args.source.now r.1 c.args.block r.2 r.3 r.5

pub inst-requires : goal.inst-requires
inst-requires c = let r = c.requires in listed_within c.args.source.now r.1 c.args.block r.2 r.3 c.instructions-i-items.result.now c.loop-i.i-index (record { 0 = 0 }) r.4.sound r.5 c.instructions-i-items.ensures.insts c.loop-i-test.true

pub type_of-requires : goal.type_of-requires
type_of-requires c = let r = c.requires in listed_within c.args.source.now r.1 c.args.block r.2 r.3 c.instructions-i-items.result.now c.loop-i.i-index (record { 0 = 0 }) r.4.sound r.5 c.instructions-i-items.ensures.insts c.loop-i-test.true

pub import_plain-requires-clause-sound : goal.import_plain-requires-clause-sound
import_plain-requires-clause-sound c = c.requires.4.sound
