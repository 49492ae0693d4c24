-- What `functions::parameters` owes besides what the check finds.
use Rattle.std.proofs.Common.{◌∙◌, ap}
use Rattle.from_llvm_ir.proofs.StartLaws.{params_known, params_noted, params_of}
use Rattle.from_llvm_ir.proofs.functions.parameters.Goals as goal

pub returns : goal.returns
returns c = λ m fr number count first.
    params_noted m fr c.args.f c.args.block c.args.count c.in_ok-values.values number count first
    (params_known c.args.f c.args.block c.args.count c.in_ok-values.values (c.in_ok-values.ensures.params ∙ ap (params_of c.args.f c.args.block) c.in_ok-place_of.ensures) c.in_ok-values.ensures.insts c.in_ok-values.ensures.consts)
