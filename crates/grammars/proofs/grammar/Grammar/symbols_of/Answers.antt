-- What a rule goes on with is an alternative of it, whose symbols stand at its number's place.
use Rattle.std.proofs.Common.{rules, ◌-◌, Some, slice_index_or}
use Rattle.grammars.specs.declared.rows.Alternative.{Alternative}
use Rattle.grammars.proofs.FlatLaws.{found_at}
use Rattle.grammars.proofs.ReadingLaws.{symbols_there}
use Rattle.grammars.proofs.grammar.Grammar.symbols_of.Goals as goal

pub returns : goal.returns
returns c r n e =
    let none : Alternative = record { start = 0; end = 0; first = 0; first_end = 0 } in
    let found = slice_index_or c.args.self.now.alternatives.now (c.args.alternative - 1) none in
    let at = found_at c.args.self.now.alternatives.now (c.args.alternative - 1) found (search rules) (search rules) in
    symbols_there c.args.self.now r c.args.alternative n (Some found) (search rules) e at
