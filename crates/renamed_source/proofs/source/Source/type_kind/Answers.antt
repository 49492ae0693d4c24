-- The goals of `source::Source::type_kind` that the tactics leave.
use Rattle.renamed_source.specs.Names.{struct_name}
use Rattle.renamed_source.specs.Source.{pairs_of}
use Rattle.renamed_source.proofs.SourceLaws.{seen_kind, seen_fits}
use Rattle.renamed_source.proofs.source.Source.type_kind.Goals as goal

pub returns-clause-kind : goal.returns-clause-kind
returns-clause-kind c = rw (← c.self.view_is) (seen_kind (struct_name (pairs_of c.self.inside.pairs.now)) c.self.inside.«module».now.types c.args.ty.0 c.type_kind.result.now c.type_kind.ensures.kind)

pub returns-clause-fit : goal.returns-clause-fit
returns-clause-fit c = rw (← c.self.view_is) (seen_fits (struct_name (pairs_of c.self.inside.pairs.now)) c.self.inside.«module».now.types c.type_kind.result.now c.type_kind.ensures.fit)
