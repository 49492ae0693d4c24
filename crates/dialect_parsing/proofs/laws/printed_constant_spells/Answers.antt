-- Token by token; the structs of a store are named by identifiers.
use Rattle.dialect_types.specs.Trees.{structs_of}
use Rattle.dialect_types.proofs.StructLaws.{stored_names}
use Rattle.dialect_parsing.proofs.ConstantTexts.{text_spells_attr}
use Rattle.dialect_parsing.proofs.laws.printed_constant_spells.Goals as goal

pub returns : goal.returns
returns c = text_spells_attr (structs_of c.args.types.now) (stored_names c.args.types.now c.len-count.ensures.stored)
