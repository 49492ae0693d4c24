-- The text spells the module that was read.
use Rattle.std.proofs.Common.{rules, ℕ, List, subst}
use Rattle.llvm_core.specs.Data.{data_of}
use Rattle.ll_text.specs.Spelling.{IsReadable, Spells}
use Rattle.round_ll.proofs.rounding.round_text.Goals as goal

pub returns-clause-rounds : goal.returns-clause-rounds
returns-clause-rounds c =
    let r = c.in_ok-source.ensures in
    let read : IsReadable c.in_ok-source.source = record { sound = r.sound; checked = r.checked; form = r.form } in
    let spelled = subst (λ (text : List ℕ). Spells text (data_of c.in_ok-source.source)) c.as_slice.ensures.value r.spelled in
    c.end.ensures.rounds c.in_ok-source.source read r.numbered c.in_ok-started.ensures.started c.args.bytes.items spelled

pub returns-clause-cause : goal.returns-clause-cause
returns-clause-cause c = c.end.ensures.cause c.args.bytes.items

pub returns-in_err-started-clause-cause : goal.returns-in_err-started-clause-cause
returns-in_err-started-clause-cause c =
    let spelled = subst (λ (text : List ℕ). Spells text (data_of c.in_ok-source.source)) c.as_slice.ensures.value c.in_ok-source.ensures.spelled in
    let cause = c.in_err-started.ensures.cause c.args.bytes.items spelled in
    search rules
