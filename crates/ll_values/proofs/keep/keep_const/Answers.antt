-- The constant is the last of the table.
use Rattle.std.proofs.Common.{rules, ◌≡◌, length, refl}
use Rattle.ll_values.proofs.KeptLaws.{kept_const}
use Rattle.ll_values.proofs.keep.keep_const.Goals as goal

pub returns-clause-kept : goal.returns-clause-kept
returns-clause-kept c =
    let n : c.len-n.result ≡ length c.args.store.now.table.items = search rules in
    kept_const c.args.bytes.now c.args.m.now c.args.store.now c.requires.store c.args.line (record c.args.store.now { table = c.push.new.self }) c.len-n.result c.requires.there refl c.in_ok-push.ensures.items n
