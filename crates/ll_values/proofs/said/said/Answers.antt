-- A constant is said where one is read.
use Rattle.std.proofs.Common.{sym}
use Rattle.ll_values.proofs.SaidLaws.{said_by, said_local}
use Rattle.ll_values.proofs.said.said.Goals as goal

pub returns-in-Local-clause-says : goal.returns-in-Local-clause-says
returns-in-Local-clause-says c = rw c.in-Local.is (said_local c.args.m.now c.args.store.now c.args.bytes.now c.in-Local.name c.requires.store)

pub returns-in-Const-clause-says : goal.returns-in-Const-clause-says
returns-in-Const-clause-says c =
    rw (c.in-Const.is, sym c.text.ensures) (said_by c.args.m.now c.said_const.new.m c.args.store.now c.args.bytes.now _ c.const_of-kind.result c.said_const.result c.requires.store c.const_of-kind.ensures.said c.const_of-kind.ensures.none c.said_const.ensures.interns c.said_const.ensures.there c.said_const.ensures.said)

pub returns-in-Null-clause-says : goal.returns-in-Null-clause-says
returns-in-Null-clause-says c =
    rw c.in-Null.is (said_by c.args.m.now c.said_const-in-Null.new.m c.args.store.now c.args.bytes.now _ c.null_of-kind.result c.said_const-in-Null.result c.requires.store c.null_of-kind.ensures.said c.null_of-kind.ensures.none c.said_const-in-Null.ensures.interns c.said_const-in-Null.ensures.there c.said_const-in-Null.ensures.said)
