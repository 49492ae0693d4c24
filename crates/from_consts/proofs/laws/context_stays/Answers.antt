-- What `laws::context_stays` owes.
use Rattle.std.proofs.Common.{refl}
use Rattle.from_consts.proofs.GrowthLaws.{context_kept}
use Rattle.from_consts.proofs.GivesLaws.{goes_none}
use Rattle.from_consts.proofs.laws.context_stays.Goals as goal

pub returns : goal.returns
returns c m old new more x types structs context = context_kept m old new more x x types structs (goes_none x.names) context.legal (λ t. refl) context.ready context
