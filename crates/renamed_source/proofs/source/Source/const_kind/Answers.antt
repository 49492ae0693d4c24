-- The goal of `source::Source::const_kind` that the tactics leave.
use Rattle.renamed_source.specs.Names.{struct_name}
use Rattle.renamed_source.specs.Source.{pairs_of}
use Rattle.renamed_source.proofs.NameLaws.{struct_name_injective}
use Rattle.renamed_source.proofs.SoundLaws.{const_there}
use Rattle.renamed_source.proofs.source.Source.const_kind.Goals as goal

pub returns-clause-parts : goal.returns-clause-parts
returns-clause-parts c = rw (← c.self.view_is) (const_there (struct_name (pairs_of c.self.inside.pairs.now)) c.self.inside.«module».now (struct_name_injective (pairs_of c.self.inside.pairs.now) c.self.invariant.names) c.const_kind.result.now c.const_kind.ensures.parts)
