-- What `lacks::value_lack` owes besides what the check finds.
use Rattle.held_types.proofs.LackLaws.{value_told}
use Rattle.held_types.proofs.lacks.value_lack.Goals as goal

pub returns-in-Const-clause-none : goal.returns-in-Const-clause-none
returns-in-Const-clause-none c = (value_told c.args.m.now c.told_of.result c.in-Const.c c.args.value c.in-Const.is c.told_of.ensures).0

pub returns-in-Const-clause-some : goal.returns-in-Const-clause-some
returns-in-Const-clause-some c = (value_told c.args.m.now c.told_of.result c.in-Const.c c.args.value c.in-Const.is c.told_of.ensures).1
