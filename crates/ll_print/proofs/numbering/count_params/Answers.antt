-- Each parameter is counted in its place.
use Rattle.std.proofs.Common.{arith}
use Rattle.ll_print.specs.Parts.{function_in}
use Rattle.ll_print.proofs.NumberLaws.{counts_none}
use Rattle.ll_print.proofs.CountLaws.{param_within, counts_param_more, counts_params_all}
use Rattle.ll_print.proofs.numbering.count_params.Goals as goal

pub loop-place-init : goal.loop-place-init
loop-place-init c = counts_none c.args.numbers.now

pub param_name-requires : goal.param_name-requires
param_name-requires c = param_within c.args.m.now c.args.numbers.now.function c.loop-place.place (omega (arith, c.requires.all, c.loop-place-test.true))

pub loop-place-preserved : goal.loop-place-preserved
loop-place-preserved c =
    counts_param_more c.args.m.now c.args.numbers.now.function c.args.numbers.now c.loop-place.numbers c.count_unnamed.new.self c.loop-place.place c.param_name.result.now c.param_name.ensures c.loop-place.invariant c.in_ok-count_unnamed.ensures

pub returns : goal.returns
returns c = counts_params_all (function_in c.args.m.now c.args.numbers.now.function).params c.args.numbers.now c.loop-place.numbers c.loop-place.place (omega (arith, c.requires.all, c.loop-place-test.false)) c.loop-place.invariant
