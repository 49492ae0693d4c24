-- Each round takes a symbol from the front.
use Rattle.std.proofs.Common.{rules, ◌≡◌, ◌∷◌, ◌++◌, [], refl, reverse, ap, ◌∙◌}
use Rattle.grammars.specs.declared.symbols.Event.{Event}
use Rattle.grammars.specs.declared.symbols.Event.TheVariants.{Took}
use Rattle.grammars.specs.declared.reader.Reader.{Reader}
use Rattle.grammars.specs.Reading.{stack_of, class_ahead, with_next}
use Rattle.grammars.proofs.ReadingLaws.{stops, word_read, leaf_held, end_read, no_choice, chosen_within, goes_on, less}
use Rattle.grammars.proofs.reader.Reader.read_on.Goals as goal

pub returns-in-Word-clause-reads : goal.returns-in-Word-clause-reads
returns-in-Word-clause-reads c same =
    let now = with_next c.loop-top.self c.loop-top.next.now in
    let new : Reader = record { next = c.pop.new.next; stack = c.pop.new.stack; last = c.pop.new.last; events = c.loop-top.self.events } in
    word_read c.args.grammar.now c.args.ahead.token c.args.self.now now new c.loop-top.invariant c.in-Word.class (rw (← c.in-Word.is) c.in-Some.ensures.some) refl (search rules)

pub returns-in-Leaf-clause-reads : goal.returns-in-Leaf-clause-reads
returns-in-Leaf-clause-reads c =
    let now = with_next c.loop-top.self c.loop-top.next.now in
    let new : Reader = record { next = c.pop.new.next; stack = c.pop.new.stack; last = c.pop.new.last; events = c.loop-top.self.events } in
    leaf_held c.args.grammar.now c.args.ahead.token c.args.self.now now new c.hold.new.self c.loop-top.invariant c.in-Leaf.class (rw (← c.in-Leaf.is) c.in-Some.ensures.some) refl c.hold.ensures.stack c.hold.result c.hold.ensures.held

pub returns-then-alternative-eq0-clause-refused : goal.returns-then-alternative-eq0-clause-refused
returns-then-alternative-eq0-clause-refused c _ =
    let now = with_next c.loop-top.self c.loop-top.next.now in
    let new : Reader = record { next = c.pop.new.next; stack = c.pop.new.stack; last = c.pop.new.last; events = c.loop-top.self.events } in
    let chosen = c.choose-alternative.ensures in
    stops _ c.args.ahead.token _ (no_choice c.args.grammar.now (class_ahead c.args.ahead.token) c.args.self.now now new c.loop-top.invariant c.in-Rule.rule c.choose-alternative.result (rw (← c.in-Rule.is) c.in-Some.ensures.some) chosen (search rules))

pub symbols_of-symbols-requires-clause-within : goal.symbols_of-symbols-requires-clause-within
symbols_of-symbols-requires-clause-within c = chosen_within c.args.grammar.now c.in-Rule.rule c.choose-alternative.result (class_ahead c.args.ahead.token) (search rules) c.choose-alternative.ensures

pub loop-top-smaller : goal.loop-top-smaller
loop-top-smaller c =
    let now = with_next c.loop-top.self c.loop-top.next.now in
    let new : Reader = record { next = c.pop.new.next; stack = c.pop.new.stack; last = c.pop.new.last; events = c.loop-top.self.events } in
    let last : Reader = record { next = c.put.new.next; stack = c.put.new.stack; last = c.pop.new.last; events = c.push.new.self } in
    let n = class_ahead c.args.ahead.token in
    let chosen = c.choose-alternative.ensures in
    let stacked : stack_of last ≡ reverse c.symbols_of-symbols.result.now ++ stack_of new = c.in_ok-put-in-Rule.ensures.stack c.pop.new.last in
    less c.args.grammar.now n c.args.self.now now new c.loop-top.invariant last c.in-Rule.rule c.choose-alternative.result c.symbols_of-symbols.result.now (rw (← c.in-Rule.is) c.in-Some.ensures.some) chosen (c.symbols_of-symbols.ensures c.in-Rule.rule n chosen) stacked

pub loop-top-preserved : goal.loop-top-preserved
loop-top-preserved c =
    let now = with_next c.loop-top.self c.loop-top.next.now in
    let new : Reader = record { next = c.pop.new.next; stack = c.pop.new.stack; last = c.pop.new.last; events = c.loop-top.self.events } in
    let last = with_next (record { next = c.loop-top.self.next; stack = c.put.new.stack; last = c.pop.new.last; events = c.push.new.self }) c.put.new.next.now in
    let n = class_ahead c.args.ahead.token in
    let chosen = c.choose-alternative.ensures in
    let stacked : stack_of last ≡ reverse c.symbols_of-symbols.result.now ++ stack_of new = c.in_ok-put-in-Rule.ensures.stack c.pop.new.last in
    let more : last.events.items ≡ now.events.items ++ Took c.choose-alternative.result ∷ [] = c.in_ok-push-in-Rule.ensures.items ∙ ap (λ (e : Event). now.events.items ++ e ∷ []) c.took.ensures in
    goes_on c.args.grammar.now n c.args.self.now now new c.loop-top.invariant last c.in-Rule.rule c.choose-alternative.result c.symbols_of-symbols.result.now (rw (← c.in-Rule.is) c.in-Some.ensures.some) chosen (c.symbols_of-symbols.ensures c.in-Rule.rule n chosen) stacked more

pub returns-clause-reads : goal.returns-clause-reads
returns-clause-reads c same =
    let now = with_next c.loop-top.self c.loop-top.next.now in
    let new : Reader = record { next = c.pop.new.next; stack = c.pop.new.stack; last = c.pop.new.last; events = c.loop-top.self.events } in
    end_read c.args.grammar.now c.args.ahead.token c.args.self.now now new c.loop-top.invariant (search rules) refl (search rules)
