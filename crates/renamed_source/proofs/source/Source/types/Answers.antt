-- The goals of `source::Source::types` that the tactics leave.
use Rattle.renamed_source.specs.Names.{struct_name}
use Rattle.renamed_source.specs.Source.{pairs_of}
use Rattle.renamed_source.proofs.NameLaws.{struct_name_injective}
use Rattle.renamed_source.proofs.SoundLaws.{renamed_sound, renamed_apart}
use Rattle.renamed_source.proofs.source.Source.types.Goals as goal

pub returns-clause-sound : goal.returns-clause-sound
returns-clause-sound c =
    let pairs = pairs_of c.self.inside.pairs.now in
    rw (← c.self.view_is) (renamed_sound (struct_name pairs) c.self.inside.«module».now (struct_name_injective pairs c.self.invariant.names) c.types.ensures.sound)

pub returns-clause-apart : goal.returns-clause-apart
returns-clause-apart c =
    let pairs = pairs_of c.self.inside.pairs.now in
    rw (← c.self.view_is) (renamed_apart (struct_name pairs) c.self.inside.«module».now (struct_name_injective pairs c.self.invariant.names) c.types.ensures.sound c.types.ensures.apart)
