-- Each round takes a token; where one is refused, so are all texts that begin so.
use Rattle.std.proofs.Common.{rules, ◌≡◌, length, sym, subst, arith}
use Rattle.ll_tokens.specs.declared.kinds.Kind.TheVariants.{Global}
use Rattle.ll_events.specs.Events.{IsRefusedAtByte}
use Rattle.ll_events.proofs.EventLaws.{stands_at, taken, refused_here, all_read, refused_at_its_end}
use Rattle.ll_events.proofs.reading.events_of.Goals as goal

pub overflow_cast-number : goal.overflow_cast-number
overflow_cast-number c =
    let s = stands_at c.args.bytes.now c.args.tokens.now c.loop-number.number (record { kind = Global; start = 0; end = 0 }) c.requires.are c.loop-number-test.true in
    omega (arith, s.behind, c.start_of-start.ensures.gives, c.start_of-start.ensures.small)

pub seen_as-seen-requires-clause-order : goal.seen_as-seen-requires-clause-order
seen_as-seen-requires-clause-order c =
    let s = stands_at c.args.bytes.now c.args.tokens.now c.loop-number.number (record { kind = Global; start = 0; end = 0 }) c.requires.are c.loop-number-test.true in
    omega (arith, s.some)

pub seen_as-seen-requires-clause-within : goal.seen_as-seen-requires-clause-within
seen_as-seen-requires-clause-within c =
    (stands_at c.args.bytes.now c.args.tokens.now c.loop-number.number (record { kind = Global; start = 0; end = 0 }) c.requires.are c.loop-number-test.true).within

pub returns-then-not-branch-clause-refused : goal.returns-then-not-branch-clause-refused
returns-then-not-branch-clause-refused c place e =
    let a = c.args in
    let is : c.start_of-start.result ≡ place = cc in
    let refused = refused_here a.grammar.now a.words.now a.rule a.bytes.now a.tokens.now c.loop-number.reader c.loop-number.number (record { kind = Global; start = 0; end = 0 }) c.loop-number-test.true c.loop-number.invariant.0 c.requires.are
    (rw c.seen_as-seen.ensures at (c.in_ok-take.ensures.refused (search rules))) in
    subst (IsRefusedAtByte a.grammar.now a.words.now a.rule a.bytes.now) is (subst (IsRefusedAtByte a.grammar.now a.words.now a.rule a.bytes.now) (sym c.start_of-start.ensures.gives) refused)

pub loop-number-preserved : goal.loop-number-preserved
loop-number-preserved c =
    let a = c.args in
    let takes = c.in_ok-take.ensures.takes (search rules) in (
      taken a.grammar.now a.words.now a.rule a.bytes.now a.tokens.now c.loop-number.reader c.loop-number.number (record { kind = Global; start = 0; end = 0 }) c.loop-number-test.true c.loop-number.invariant.0 c.take.new.self
          (rw c.seen_as-seen.ensures at takes),
      takes.takes.fits,
    )

pub returns-then-not-branch-2-clause-refused : goal.returns-then-not-branch-2-clause-refused
returns-then-not-branch-2-clause-refused c place e =
    let a = c.args in
    let is : length a.bytes.now ≡ place = cc in
    subst (IsRefusedAtByte a.grammar.now a.words.now a.rule a.bytes.now) is
    (refused_at_its_end a.grammar.now a.words.now a.rule a.bytes.now a.tokens.now c.loop-number.reader c.loop-number.number c.loop-number-test.false c.loop-number.invariant.0 c.requires.are (c.in_ok-finish.ensures.refused (search rules)))

pub returns-clause-found : goal.returns-clause-found
returns-clause-found c =
    let a = c.args in
    all_read a.grammar.now a.words.now a.rule a.bytes.now a.tokens.now c.loop-number.reader c.loop-number.number c.loop-number-test.false c.loop-number.invariant.0 c.finish.new.self (c.in_ok-finish.ensures.reads (search rules))
