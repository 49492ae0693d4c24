-- What `taken::pad` owes besides what the check finds.
use Rattle.std.proofs.Common.{arith}
use Rattle.dialect_types.proofs.LegalLaws.{tried_padded}
use Rattle.dialect_types.proofs.taken.pad.Goals as goal

pub returns-clause-tried : goal.returns-clause-tried
returns-clause-tried c =
    tried_padded c.args.texts.now c.args.tried.now.items c.resize.new.self.items _ c.args.at _ c.requires.tried c.resize.ensures.items (grind arith) c.requires.at (grind arith)
