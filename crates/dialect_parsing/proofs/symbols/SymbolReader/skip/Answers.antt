-- Equal symbols are one.
use Rattle.std.proofs.Common.{◌∙◌, sym}
use Rattle.dialect_parsing.proofs.SymbolLaws.{same_symbol, first_is}
use Rattle.dialect_parsing.proofs.symbols.SymbolReader.skip.Goals as goal

pub returns-in-len1-up-clause-yes : goal.returns-in-len1-up-clause-yes
returns-in-len1-up-clause-yes c = λ _.
    let same = same_symbol _ _ (sym c.eq.ensures ∙ c.if-eq.true) in
    sym c.self.view_is ∙ first_is c.self.inside.left.now c.first-item.result c.args.symbol.now c.in-len1-up.len_at_least c.first-item.is same
