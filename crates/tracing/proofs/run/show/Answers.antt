-- What `run::show` owes besides what the check finds.
use Rattle.std.proofs.Common.{refl, sym, subst, map}
use Rattle.std.proofs.lemmas.Option.{slice_get-get_or}
use Rattle.meaning.specs.Terms.{Answer}
use Rattle.meaning.specs.Machine as M
use Rattle.tracing.specs.declared.body.Slot.{Slot}
use Rattle.tracing.specs.declared.trace.Types.{Types}
use Rattle.llvm_core.specs.Data.{VoidType, type_at}
use Rattle.tracing.specs.Types.{Stands, AllStand}
use Rattle.tracing.specs.Bodies.{same_slot}
use Rattle.tracing.proofs.RunLaws.{answered_at, shown_types}
use Rattle.tracing.proofs.run.show.Goals as goal

pub returns : goal.returns
returns c = λ now s ts below h named.
    let copy = c.in_ok-copy_types.ensures in
    let event = M.Event c.args.op (type_at now.types c.args.types.now.result) (map (type_at now.types) c.args.types.now.operands) ts in
    let noted = c.in_ok-note.ensures.at now s event h (
      refl,
      subst (λ (t : Types). Stands now.types t.result (type_at now.types c.args.types.now.result)) (sym copy) (slice_get-get_or now.types c.args.types.now.result.0 VoidType below.0),
      subst (λ (t : Types). AllStand now.types t.operands (map (type_at now.types) c.args.types.now.operands)) (sym copy) (shown_types now.types c.args.types.now below),
      named,
    ) in
    let shown = M.shows Slot same_slot s event in
    answered_at now c.set.new.run _ s c.args.slot event c.args.run.now.count h.count refl refl refl refl refl
    (c.in_ok-set.ensures.at now shown (Answer c.args.run.now.count) (c.in_ok-place.ensures.at now shown tt noted) (c.in_ok-place.ensures.named now.types))
