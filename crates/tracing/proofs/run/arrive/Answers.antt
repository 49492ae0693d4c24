-- What `run::arrive` owes besides what the check finds.
use Rattle.std.proofs.Common.{refl}
use Rattle.std.proofs.lemmas.Result.{on_ok_weaker}
use Rattle.meaning.specs.Machine as M
use Rattle.tracing.proofs.run.arrive.Goals as goal

pub straight-requires : goal.straight-requires
straight-requires c =
    let h = c.requires.3 in
    (c.requires.0, _, c.requires.2, c.in_ok-note.ensures.at c.requires.0 (record c.requires.1 { block = c.args.to }) (M.Entered c.args.to) (record { block = refl; count = h.count; typed = h.typed; constants = h.constants; env = h.env; shown = h.shown }) refl)

pub returns : goal.returns
returns c =
    on_ok_weaker c.straight.result
    (λ f now s typed h. f now _ typed (c.in_ok-note.ensures.at now (record s { block = c.args.to }) (M.Entered c.args.to) (record { block = refl; count = h.count; typed = h.typed; constants = h.constants; env = h.env; shown = h.shown }) refl))
    c.straight.ensures
