-- Token by token; the structs of a store are named by identifiers.
use Rattle.dialect_types.specs.Trees.{structs_of}
use Rattle.dialect_types.proofs.StructLaws.{stored_names}
use Rattle.dialect_parsing.proofs.TextLaws.{text_spells}
use Rattle.dialect_parsing.proofs.laws.printed_text_spells.Goals as goal

pub returns : goal.returns
returns c = text_spells (structs_of c.args.types.now) (stored_names c.args.types.now c.len-count.ensures.stored)
