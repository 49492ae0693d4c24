-- What the table says of the types of a row, as trees: the one statement that both sides cite.
use Rattle.std.specs.Prelude.{Bool, List, Option, None, length, slice_get, if◌then◌else◌}
use Rattle.std.specs.Option.{option_map}
use Rattle.kinds.specs.declared.op.Op.{Op}
use Rattle.kinds.specs.declared.rules.Gives.{Gives}
use Rattle.kinds.specs.declared.rules.Gives.TheVariants as G
use Rattle.kinds.specs.Types.{TypeTree, laned, bits_of, same_tree}
use Rattle.kinds.specs.Table.{rule_of}
use Rattle.kinds.specs.Fitting.{fits}

-- operands of these types fit the row, beside the type that is written or none
abbrev pub fits_trees : Op → (written : Option TypeTree) → List TypeTree → Bool
fits_trees op w ts = fits laned same_tree (rule_of op) (length ts) w (slice_get ts 0) (slice_get ts 1) (slice_get ts 2)

-- the type of the result, None where there is none: a line for each word
abbrev pub given : Gives → (written first second : Option TypeTree) → Option TypeTree
given G.Nothing w a b = None
given G.First w a b = a
given G.Second w a b = b
given G.Written w a b = w
given G.Bits w a b = option_map bits_of a

-- the type of a row's result: None where the operands do not fit, or there is no result
abbrev pub typed : Op → (written : Option TypeTree) → List TypeTree → Option TypeTree
typed op w ts = if fits_trees op w ts then given (rule_of op).gives w (slice_get ts 0) (slice_get ts 1) else None

-- the type that a row writes beside its operands, where its result has that type: that of the result, or none
abbrev pub written_for : {X : Type 0} → Gives → (result : Option X) → Option X
written_for G.Nothing own = None
written_for G.First own = None
written_for G.Second own = None
written_for G.Written own = own
written_for G.Bits own = None
