-- What `values::known_value` owes besides what the check finds.
use Rattle.std.proofs.Common.{◌≡◌, None, subst}
use Rattle.from_llvm_ir.specs.Values.{value_at, IsSettled}
use Rattle.from_llvm_ir.proofs.ForwardLaws.{forward_unknown}
use Rattle.from_llvm_ir.proofs.values.known_value.Goals as goal

pub returns-in-Inst-clause-err : goal.returns-in-Inst-clause-err
returns-in-Inst-clause-err c =
    let m = c.args.source.now in
    let unknown : value_at c.args.values.now c.args.value ≡ None = cc in
    forward_unknown m c.args.values.now c.args.value c.in-Inst.i c.undefined_value.result c.in-Inst.is unknown (subst (IsSettled m c.args.values.now) c.in-Inst.is c.requires) c.undefined_value.ensures
