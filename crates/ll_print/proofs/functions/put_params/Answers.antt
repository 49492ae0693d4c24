-- Each parameter prints behind the others.
use Rattle.std.proofs.Common.{arith, sym}
use Rattle.std.proofs.lemmas.List.{append-nil}
use Rattle.ll_print.specs.Parts.{function_in}
use Rattle.ll_print.proofs.CountLaws.{param_within}
use Rattle.ll_print.proofs.FormLaws.{param_put, params_all}
use Rattle.ll_print.proofs.functions.put_params.Goals as goal

pub loop-place-preserved : goal.loop-place-preserved
loop-place-preserved c =
    param_put c.args.m.now c.args.numbers.now c.args.types.now c.loop-place.place c.param_name.result.now c.args.out.now.items _ _ _ _ _ c.requires.printing c.requires.typed
    (omega (arith, c.loop-place-test.true)) c.param_name.ensures c.loop-place.invariant c.in_ok-put_comma.ensures.text c.in_ok-put_type.ensures.text c.in_ok-push.ensures.items c.in_ok-put_local.ensures.text

pub loop-place-init : goal.loop-place-init
loop-place-init c = sym (append-nil c.args.out.now.items)

pub put_type-requires-clause-within : goal.put_type-requires-clause-within
put_type-requires-clause-within c = c.requires.within c.loop-place.place _ (omega (arith, c.loop-place-test.true))

pub param_name-requires : goal.param_name-requires
param_name-requires c = param_within c.args.m.now c.args.numbers.now.function c.loop-place.place (omega (arith, c.requires.all, c.loop-place-test.true))

pub returns-clause-text : goal.returns-clause-text
returns-clause-text c = params_all (function_in c.args.m.now c.args.numbers.now.function) c.loop-place.place c.args.out.now.items _ (omega (arith, c.requires.all, c.loop-place-test.false)) c.loop-place.invariant
