-- Both halves have what the whole promises; the second is refused for want of memory alone.
use Rattle.transfer.proofs.transferring.transfer.Goals as goal

pub returns-clause-same : goal.returns-clause-same
returns-clause-same c = c.finish.ensures.same c.args.«module».now c.in_ok-begun.ensures.begun
