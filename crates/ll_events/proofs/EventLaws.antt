-- The tokens of a text as a grammar sees them, one by one.
use Rattle.std.proofs.Common.{◌≡◌, ◌<◌, ◌≤◌, ℕ, zero, suc, ◌+◌, List, [], ◌∷◌, ◌++◌, length, get_or, take, Some, refl, sym, ap, ◌∙◌, subst, arith}
use Rattle.std.proofs.lemmas.List.{take_more, take_all, append-nil}
use Rattle.std.proofs.lemmas.Option.{slice_get_past, slice_get-get_or}
use Rattle.grammars.specs.declared.grammar.Grammar.{Grammar}
use Rattle.grammars.specs.declared.symbols.Event.{Event}
use Rattle.grammars.specs.declared.symbols.Symbol.TheVariants.{Rule}
use Rattle.grammars.specs.declared.symbols.Token as G
use Rattle.grammars.specs.FlatGrammar.{grammar_of, tables_of}
use Rattle.grammars.specs.Grammar.{Writes}
use Rattle.grammars.specs.Right.{Fits}
use Rattle.grammars.specs.declared.reader.Reader.{Reader}
use Rattle.grammars.specs.Reading.{stack_of, TakesToken, ReadsRest, IsBehind}
use Rattle.grammars.proofs.ReadingLaws.{right_of, one_more, refused_at, refused_at_end}
use Rattle.grammars.proofs.GrammarLaws.{one}
use Rattle.ll_classes.specs.declared.words.Words.{Words}
use Rattle.ll_tokens.specs.Tokens.{StandFrom, tokens_of}
use Rattle.ll_tokens.specs.declared.tokens.Token as L
use Rattle.ll_tokens.proofs.OrderLaws.{stand}
use Rattle.ll_events.specs.Events.{seen_as, seen, start_of, AreEvents, IsRefusedAtByte}

pub length-seen : (w : Words) (bytes : List ℕ) (n : ℕ) (ts : List L.Token) → length (seen w bytes n ts) ≡ length ts
length-seen w bytes n [] = refl
length-seen w bytes n (t ∷ ts) = ap (λ (k : ℕ). suc k) (length-seen w bytes (suc n) ts)

pub seen_at : (w : Words) (bytes : List ℕ) (n i : ℕ) (ts : List L.Token) (d : G.Token) (e : L.Token) → i < length ts → get_or (seen w bytes n ts) i d ≡ seen_as w bytes (n + i) (get_or ts i e)
seen_at w bytes n i [] d e within = absurd (omega arith)
seen_at w bytes n zero (t ∷ ts) d e within = let is : n ≡ n + 0 = omega arith in ap (λ (k : ℕ). seen_as w bytes k t) is
seen_at w bytes n (suc i) (t ∷ ts) d e within =
    let is : suc n + i ≡ n + suc i = omega arith in
    seen_at w bytes (suc n) i ts d e (omega arith) ∙ ap (λ (k : ℕ). seen_as w bytes k (get_or ts i e)) is

-- where a token stands
pub record StandsAt (number end : ℕ) (t : L.Token) : Type 0 where
  pub behind : number ≤ t.start
  pub some : t.start < t.end
  pub within : t.end ≤ end

stands_in : (end : ℕ) (ts : List L.Token) (at : ℕ) → StandFrom at end ts → at ≤ end
stands_in end [] at stand = stand
stands_in end (t ∷ ts) at stand = let le = stands_in end ts t.end stand.2 in omega (arith, le, stand.0, stand.1)

stands_from : (at end : ℕ) (ts : List L.Token) (i : ℕ) (e : L.Token) → i < length ts → StandFrom at end ts → StandsAt (at + i) end (get_or ts i e)
stands_from at end [] i e within stand = absurd (omega arith)
stands_from at end (t ∷ ts) zero e within stand = record { behind = omega (arith, stand.0); some = stand.1; within = stands_in end ts t.end stand.2 }
stands_from at end (t ∷ ts) (suc i) e within stand =
    let s = stands_from t.end end ts i e (omega arith) stand.2 in
    record { behind = omega (arith, s.behind, stand.0, stand.1); some = s.some; within = s.within }

pub stands_at : (bytes : List ℕ) (ts : List L.Token) (i : ℕ) (e : L.Token) → tokens_of bytes ≡ Some ts → i < length ts → StandsAt i (length bytes) (get_or ts i e)
stands_at bytes ts i e are within = let is : 0 + i ≡ i = omega arith in subst (λ (k : ℕ). StandsAt k (length bytes) (get_or ts i e)) is (stands_from 0 (length bytes) ts i e within (stand bytes ts are))

-- a text is read in one way
pub read_once : (g : Grammar) (w : Words) (rule : ℕ) (bytes : List ℕ) (ts us : List L.Token) (es fs : List Event) → AreEvents g w rule bytes ts es → AreEvents g w rule bytes us fs → (ts ≡ us) × (es ≡ fs)
read_once g w rule bytes ts us es fs a b =
    let same : ts ≡ us = cc (sym a.tokens ∙ b.tokens) in
    let v = subst (λ (vs : List L.Token). Writes (grammar_of g) (Rule rule ∷ []) fs (seen w bytes 0 vs)) (sym same) b.written in
    (same, one (grammar_of g) (tables_of g) (right_of g) a.written fs (fits g rule) v)
  where
    fits : (g : Grammar) (rule : ℕ) → Fits (tables_of g) (Rule rule ∷ [])
    fits g rule = ((λ c on. refl), tt)

-- and where it is refused, in none
pub not_read : (g : Grammar) (w : Words) (rule : ℕ) (bytes : List ℕ) (place : ℕ) (ts : List L.Token) (es : List Event) → IsRefusedAtByte g w rule bytes place → AreEvents g w rule bytes ts es → ⊥
not_read g w rule bytes place ts es r a =
    let same : ts ≡ r.tokens = cc (sym a.tokens ∙ r.are) in
    r.refused.none es (subst (λ (vs : List L.Token). Writes (grammar_of g) (Rule rule ∷ []) es (seen w bytes 0 vs)) same a.written)

-- ---- the loop

module _ (g : Grammar) (w : Words) (rule : ℕ) (bytes : List ℕ) (ts : List L.Token) (now : Reader) where
  module _ (i : ℕ) (e : L.Token) (within : i < length ts) (behind : IsBehind g rule now (take i (seen w bytes 0 ts))) where
    within_seen : i < length (seen w bytes 0 ts)
    within_seen = let same = length-seen w bytes 0 ts in omega (arith, same)

    here : (d : G.Token) → get_or (seen w bytes 0 ts) i d ≡ seen_as w bytes i (get_or ts i e)
    here d = let is : 0 + i ≡ i = omega arith in seen_at w bytes 0 i ts d e within ∙ ap (λ (k : ℕ). seen_as w bytes k (get_or ts i e)) is

    -- one token further
    pub taken : (new : Reader) → TakesToken g (seen_as w bytes i (get_or ts i e)) now new → IsBehind g rule new (take (i + 1) (seen w bytes 0 ts))
    taken new takes =
        let d : G.Token = record { class = 0; at = 0 } in
        let t = seen_as w bytes i (get_or ts i e) in
        let more : take (i + 1) (seen w bytes 0 ts) ≡ take i (seen w bytes 0 ts) ++ t ∷ [] = take_more (seen w bytes 0 ts) i d within_seen ∙ ap (λ (u : G.Token). take i (seen w bytes 0 ts) ++ u ∷ []) (here d) in
        subst (IsBehind g rule new) (sym more) (one_more g rule (take i (seen w bytes 0 ts)) t now new behind takes)

    pub refused_here : tokens_of bytes ≡ Some ts → ((es : List Event) (us : List G.Token) → Writes (grammar_of g) (stack_of now) es (seen_as w bytes i (get_or ts i e) ∷ us) → ⊥) → IsRefusedAtByte g w rule bytes (get_or ts i e).start
    refused_here are none =
        let d : G.Token = record { class = 0; at = 0 } in
        record {
          tokens = ts;
          are = are;
          number = i;
          refused = refused_at g rule now (seen w bytes 0 ts) i d behind within_seen (λ es us x. none es us (subst (λ (u : G.Token). Writes (grammar_of g) (stack_of now) es (u ∷ us)) (here d) x));
          place = ap (start_of (length bytes)) (sym (slice_get-get_or ts i e within));
        }

  module _ (i : ℕ) (past : length ts ≤ i) (behind : IsBehind g rule now (take i (seen w bytes 0 ts))) where
    all_behind : IsBehind g rule now (seen w bytes 0 ts)
    all_behind = let same = length-seen w bytes 0 ts in subst (IsBehind g rule now) (take_all i (seen w bytes 0 ts) (omega (arith, same))) behind

    pub all_read : (new : Reader) → ReadsRest g now new → Writes (grammar_of g) (Rule rule ∷ []) new.events.items (seen w bytes 0 ts)
    all_read new rest =
        subst (λ (es : List Event). Writes (grammar_of g) (Rule rule ∷ []) es (seen w bytes 0 ts)) (sym rest.events)
        (subst (λ (us : List G.Token). Writes (grammar_of g) (Rule rule ∷ []) (now.events.items ++ rest.read) us) (append-nil (seen w bytes 0 ts)) (all_behind.sound rest.read [] rest.written))

    pub refused_at_its_end : tokens_of bytes ≡ Some ts → ((es : List Event) → Writes (grammar_of g) (stack_of now) es [] → ⊥) → IsRefusedAtByte g w rule bytes (length bytes)
    refused_at_its_end are none = record {
      tokens = ts;
      are = are;
      number = length (seen w bytes 0 ts);
      refused = refused_at_end g rule now (seen w bytes 0 ts) all_behind none;
      place = let same = length-seen w bytes 0 ts in ap (start_of (length bytes)) (sym (slice_get_past ts (length (seen w bytes 0 ts)) (omega (arith, same))));
    }
