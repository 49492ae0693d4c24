-- Each round takes a token; where one is refused, so are all that begin so.
use Rattle.std.proofs.Common.{rules, ◌≡◌, ◌+◌, ◌∷◌, ◌++◌, [], ℕ, List, length, sym, subst, take, slice_index_or}
use Rattle.std.proofs.lemmas.List.{take_more, take_all}
use Rattle.grammars.specs.declared.symbols.Token.{Token}
use Rattle.grammars.specs.FlatGrammar.{grammar_of}
use Rattle.grammars.specs.Reading.{IsBehind, IsRefusedAt}
use Rattle.grammars.proofs.ReadingLaws.{one_more, refused_at, refused_at_end}
use Rattle.grammars.proofs.reader.read.Goals as goal

pub returns-then-not-branch-clause-refused : goal.returns-then-not-branch-clause-refused
returns-then-not-branch-clause-refused c place e =
    let is : c.loop-place.place ≡ place = cc in
    let refused = refused_at c.args.grammar.now c.args.rule c.loop-place.reader c.args.tokens.now c.loop-place.place (record { class = 0; at = 0 }) c.loop-place.invariant.0 c.loop-place-test.true (c.in_ok-take.ensures.refused (search rules)) in
    subst (λ (n : ℕ). IsRefusedAt (grammar_of c.args.grammar.now) c.args.rule c.args.tokens.now n) is refused

pub loop-place-preserved : goal.loop-place-preserved
loop-place-preserved c =
    let t = slice_index_or c.args.tokens.now c.loop-place.place (record { class = 0; at = 0 }) in
    let taken = c.in_ok-take.ensures.takes (search rules) in
    let more : take (c.loop-place.place + 1) c.args.tokens.now ≡ take c.loop-place.place c.args.tokens.now ++ t ∷ [] = take_more c.args.tokens.now c.loop-place.place _ c.loop-place-test.true in
    (subst (IsBehind c.args.grammar.now c.args.rule c.take.new.self) (sym more) (one_more c.args.grammar.now c.args.rule (take c.loop-place.place c.args.tokens.now) t c.loop-place.reader c.take.new.self c.loop-place.invariant.0 taken), taken.takes.fits)

pub returns-then-not-branch-2-clause-refused : goal.returns-then-not-branch-2-clause-refused
returns-then-not-branch-2-clause-refused c place e =
    let is : length c.args.tokens.now ≡ place = cc in
    let behind = subst (λ (ts : List Token). IsBehind c.args.grammar.now c.args.rule c.loop-place.reader ts) (take_all c.loop-place.place c.args.tokens.now c.loop-place-test.false) c.loop-place.invariant.0 in
    subst (λ (n : ℕ). IsRefusedAt (grammar_of c.args.grammar.now) c.args.rule c.args.tokens.now n) is
    (refused_at_end c.args.grammar.now c.args.rule c.loop-place.reader c.args.tokens.now behind (c.in_ok-finish.ensures.refused (search rules)))
