-- An argument that was not mapped.
use Rattle.std.proofs.Common.{sym}
use Rattle.std.proofs.lemmas.Result.{on_ok_weaker}
use Rattle.dialect_core.specs.ArgumentMaps.{argued}
use Rattle.dialect_core.proofs.ArgumentMapLaws.{argument_noted}
use Rattle.dialect_core.proofs.argument_map.ArgumentMap.note.Goals as goal

pub returns-in-None : goal.returns-in-None
returns-in-None g c =
    on_ok_weaker c.set.result (λ set b i. argument_noted (argued c.args.self.now) (argued c.set.new.self) c.args.block c.args.place c.args.to (sym c.in-None.ensures) set b i) c.set.ensures
