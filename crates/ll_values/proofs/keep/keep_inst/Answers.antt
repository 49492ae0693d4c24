-- The instruction is the last of the store.
use Rattle.std.proofs.Common.{rules, ◌≡◌, length, refl}
use Rattle.ll_values.proofs.KeptLaws.{kept_inst}
use Rattle.ll_values.proofs.keep.keep_inst.Goals as goal

pub returns-clause-kept : goal.returns-clause-kept
returns-clause-kept c =
    let n : c.len-n.result ≡ length c.args.store.now.insts.items = search rules in
    kept_inst c.args.bytes.now c.args.m.now c.args.store.now c.requires.store c.args.inst (record c.args.store.now { insts = c.push.new.self }) c.len-n.result c.requires.there refl c.in_ok-push.ensures.items n
