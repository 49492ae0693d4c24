-- Steps of a reader.
use Rattle.std.proofs.Common.{◌≡◌, ℕ, Bool, true, false, nat_eq, is_none, zero, suc, ◌<◌, ◌≤◌, List, [], ◌∷◌, ◌++◌, reverse, length, take, drop, slice_get, slice_index_or, ◌+◌, ◌-◌, Option, Some, None, refl, sym, ap, eqb-true, ◌∙◌, subst, append_assoc, drop-cons, arith}
use Rattle.std.specs.Prelude.{Result, Ok, Err, IfOk, IsTrue}
use Rattle.std.proofs.lemmas.List.{reverse-append, append-nil, take-append-drop, take_more}
use Rattle.std.proofs.lemmas.Option.{slice_get_within}
use Rattle.grammars.specs.declared.symbols.Symbol.{Symbol}
use Rattle.grammars.specs.declared.symbols.Symbol.TheVariants.{Word, Leaf, Rule}
use Rattle.grammars.specs.declared.symbols.Event.{Event}
use Rattle.grammars.specs.declared.symbols.Event.TheVariants.{Took, Held}
use Rattle.grammars.specs.declared.symbols.Token.{Token}
use Rattle.grammars.specs.declared.grammar.Grammar as code
use Rattle.grammars.specs.declared.reader.Reader.{Reader}
use Rattle.grammars.specs.Numbers.{some_number}
use Rattle.grammars.specs.Grammar.{Grammar, Writes, at_end}
use Rattle.grammars.specs.Right.{IsRight, lead}
use Rattle.grammars.specs.Moving.{Moves, Refuses}
use Rattle.grammars.specs.FlatGrammar.{rows, grammar_of, tables_of}
use Rattle.grammars.specs.Reading.{stack_of, class_ahead, is_class, ReadsUpTo, StopsAt, TakesToken, ReadsRest, IsOnTheWay, Holds, IsBehind, IsRefusedAt}
use Rattle.grammars.specs.declared.rows.Alternative.{Alternative}
use Rattle.grammars.specs.RowGrammar.{◌>>=◌}
use Rattle.grammars.specs.Flat.{symbols_of}
use Rattle.grammars.proofs.RowLaws.{rows_are_right, chosen_stands}
use Rattle.grammars.proofs.FlatLaws.{no_zero, symbols_alone}
use Rattle.grammars.proofs.GrammarLaws.{moves_rule, refuses_choice, takes_word, takes_leaf, refuses_word, refuses_leaf, lead_rule, from_end, none_word, none_leaf}

-- a grammar in flat tables passed the check
pub right_of : (g : code.Grammar) → IsRight (grammar_of g) (tables_of g)
right_of g = rows_are_right (rows g) g.right

-- the symbols of the alternative that a rule goes on with are those at its number's place
pub symbols_there : (g : code.Grammar) (r i : ℕ) (n : Option ℕ) (o : Option Alternative) → 1 ≤ i → some_number i ≡ (grammar_of g).choose r n → slice_get g.alternatives.now (i - 1) ≡ o
    → (o >>= λ a. Some (symbols_of g.symbols.now a)) ≡ (grammar_of g).symbols r i
symbols_there g r zero n o h e at = absurd (omega (arith, h))
symbols_there g r (suc i) n o h e at =
    let x = chosen_stands (rows g) g.right r (suc i) n (sym e) in
    ap (λ (p : Option Alternative). p >>= λ a. Some (symbols_of g.symbols.now a)) (sym at) ∙ symbols_alone g.symbols.now g.alternatives.now g.firsts.now g.mores.now (suc i) g.rows.now r x.0 x.1 (slice_get g.rows.now r) refl ∙ sym x.1

-- and there is one
pub chosen_within : (g : code.Grammar) (r i : ℕ) (n : Option ℕ) → 1 ≤ i → some_number i ≡ (grammar_of g).choose r n → i ≤ length g.alternatives.now
chosen_within g r i n h e = if_any (slice_get g.alternatives.now (i - 1)) refl
  where
    none_there : (j : ℕ) → 1 ≤ j → some_number j ≡ (grammar_of g).choose r n → None ≡ (grammar_of g).symbols r j → ⊥
    none_there zero h e s = absurd (omega (arith, h))
    none_there (suc j) h e s = let x = chosen_stands (rows g) g.right r (suc j) n (sym e) in let y : None ≡ Some x.0 = s ∙ x.1 in absurd cc

    if_any : (o : Option Alternative) → slice_get g.alternatives.now (i - 1) ≡ o → i ≤ length g.alternatives.now
    if_any (Some a) at = let inside = slice_get_within g.alternatives.now (i - 1) a at in omega (arith, inside, h)
    if_any None at = absurd (none_there i h e (symbols_there g r i n None h e at))

-- what stands last in the program stands first
pub front : {A : Type 0} (xs ys : List A) (s : A) → xs ≡ ys ++ s ∷ [] → reverse xs ≡ s ∷ reverse ys
front xs ys s e = ap (λ zs. reverse zs) e ∙ reverse-append ys (s ∷ [])

module _ (g : code.Grammar) (n : Option ℕ) (old now new : Reader) (way : IsOnTheWay g n old now) where
  -- the moves, with the symbol that stood next
  pub moves_to : (s : Symbol) → stack_of now ≡ s ∷ stack_of new → Moves (grammar_of g) (tables_of g) n (stack_of old) way.read (s ∷ stack_of new)
  moves_to s e = subst (λ st. Moves (grammar_of g) (tables_of g) n (stack_of old) way.read st) e way.moves

  -- no alternative begins so
  pub no_choice : (r i : ℕ) → stack_of now ≡ Rule r ∷ stack_of new → some_number i ≡ (grammar_of g).choose r n → i ≡ 0 → Refuses (grammar_of g) n (stack_of old)
  no_choice r i e c is = refuses_choice (grammar_of g) (tables_of g) (right_of g) n (stack_of old) way.read r (stack_of new) (moves_to (Rule r) e) (sym c ∙ ap some_number is)

  module _ (last : Reader) (r i : ℕ) (symbols : List Symbol) (popped : stack_of now ≡ Rule r ∷ stack_of new) (chosen : some_number i ≡ (grammar_of g).choose r n) (stand : Some (reverse symbols) ≡ (grammar_of g).symbols r i) (stacked : stack_of last ≡ reverse symbols ++ stack_of new) where
    pub goes_on : last.events.items ≡ now.events.items ++ Took i ∷ [] → IsOnTheWay g n old last
    goes_on more = record {
      read = way.read ++ Took i ∷ [];
      events = more ∙ ap (λ (es : List Event). es ++ Took i ∷ []) way.events ∙ append_assoc old.events.items way.read (Took i ∷ []);
      moves = subst (λ st. Moves (grammar_of g) (tables_of g) n (stack_of old) (way.read ++ Took i ∷ []) st) (sym stacked)
          (moves_rule (grammar_of g) (tables_of g) (right_of g) n (stack_of old) way.read r i (reverse symbols) (stack_of new) (moves_to (Rule r) popped) (there i chosen stand) (sym stand));
    }
      where
        there : (j : ℕ) → some_number j ≡ (grammar_of g).choose r n → Some (reverse symbols) ≡ (grammar_of g).symbols r j → (grammar_of g).choose r n ≡ Some j
        there zero c s = let x : Some (reverse symbols) ≡ None = s ∙ no_zero g.symbols.now g.alternatives.now g.rows.now g.firsts.now g.mores.now r in absurd cc
        there (suc j) c s = sym c

    pub less : lead (tables_of g) (stack_of last) < lead (tables_of g) (stack_of now)
    less =
        let a = lead_rule (grammar_of g) (tables_of g) (right_of g) r i (reverse symbols) (stack_of new) (sym stand) in
        rw (stacked, popped) a

module _ (g : code.Grammar) (t : Token) (old now new : Reader) (way : IsOnTheWay g (Some t.class) old now) where
  pub word_taken : (d : ℕ) → stack_of now ≡ Word d ∷ stack_of new → new.events.items ≡ now.events.items → d ≡ t.class → TakesToken g t old new
  word_taken d e same is = record { read = way.read; events = same ∙ way.events; takes = takes_word (grammar_of g) (tables_of g) t (stack_of old) way.read (stack_of new) d (moves_to g (Some t.class) old now new way (Word d) e) is }

  pub leaf_taken : (d : ℕ) → stack_of now ≡ Leaf d ∷ stack_of new → new.events.items ≡ now.events.items ++ Held t.at ∷ [] → d ≡ t.class → TakesToken g t old new
  leaf_taken d e more is = record {
    read = way.read ++ Held t.at ∷ [];
    events = more ∙ ap (λ (es : List Event). es ++ Held t.at ∷ []) way.events ∙ append_assoc old.events.items way.read (Held t.at ∷ []);
    takes = takes_leaf (grammar_of g) (tables_of g) t (stack_of old) way.read (stack_of new) d (moves_to g (Some t.class) old now new way (Leaf d) e) is;
  }

  pub other_word : (d : ℕ) → stack_of now ≡ Word d ∷ stack_of new → (d ≡ t.class → ⊥) → (es : List Event) (ts : List Token) → Writes (grammar_of g) (stack_of old) es (t ∷ ts) → ⊥
  other_word d e is = refuses_word (grammar_of g) (tables_of g) t (stack_of old) way.read (stack_of new) d (moves_to g (Some t.class) old now new way (Word d) e) is

  pub other_leaf : (d : ℕ) → stack_of now ≡ Leaf d ∷ stack_of new → (d ≡ t.class → ⊥) → (es : List Event) (ts : List Token) → Writes (grammar_of g) (stack_of old) es (t ∷ ts) → ⊥
  other_leaf d e is = refuses_leaf (grammar_of g) (tables_of g) t (stack_of old) way.read (stack_of new) d (moves_to g (Some t.class) old now new way (Leaf d) e) is

pub unequal : (a b : ℕ) → nat_eq a b ≡ false → a ≡ b → ⊥
unequal a b h e = grind (arith, h, e)

-- the tokens are over, and so are the symbols
pub all_read : (g : code.Grammar) (old now new : Reader) → IsOnTheWay g None old now → stack_of now ≡ [] → new.events.items ≡ now.events.items → ReadsRest g old new
all_read g old now new way none same =
    let m = subst (λ st. Moves (grammar_of g) (tables_of g) None (stack_of old) way.read st) none way.moves in
    record { read = way.read; events = same ∙ way.events; written = subst (λ es. Writes (grammar_of g) (stack_of old) es []) (append-nil way.read) (m.sound [] [] refl at_end) }

-- the symbol is written as a token and more
abbrev pub wants : Symbol → Bool
wants (Word d) = true
wants (Leaf d) = true
wants (Rule r) = false

-- what stands next wants a token
pub no_token : (g : code.Grammar) (old now new : Reader) (s : Symbol) → IsOnTheWay g None old now → stack_of now ≡ s ∷ stack_of new → wants s ≡ true → (es : List Event) → Writes (grammar_of g) (stack_of old) es [] → ⊥
no_token g old now new (Word d) way e is es w = none_word (grammar_of g) (tables_of g) ((moves_to g None old now new way (Word d) e).only es [] refl w).2
no_token g old now new (Leaf d) way e is es w = none_leaf (grammar_of g) (tables_of g) ((moves_to g None old now new way (Leaf d) e).only es [] refl w).2
no_token g old now new (Rule d) way e is es w = absurd cc

-- ---- a token, or the end

pub stops : (g : Grammar) (a : Option Token) (st : List Symbol) → Refuses g (class_ahead a) st → StopsAt g a st
stops g None st none = λ es. none es [] refl
stops g (Some t) st none = λ es ts. none es (t ∷ ts) refl

pub word_read : (g : code.Grammar) (a : Option Token) (old now new : Reader) → IsOnTheWay g (class_ahead a) old now → (d : ℕ) → stack_of now ≡ Word d ∷ stack_of new → new.events.items ≡ now.events.items → is_class a d ≡ true → ReadsUpTo g a old new
word_read g None old now new way d e same is = absurd cc
word_read g (Some t) old now new way d e same is = word_taken g t old now new way d e same (eqb-true d t.class is)

pub word_stops : (g : code.Grammar) (a : Option Token) (old now new : Reader) → IsOnTheWay g (class_ahead a) old now → (d : ℕ) → stack_of now ≡ Word d ∷ stack_of new → is_class a d ≡ false → StopsAt (grammar_of g) a (stack_of old)
word_stops g None old now new way d e is = no_token g old now new (Word d) way e refl
word_stops g (Some t) old now new way d e is = other_word g t old now new way d e (unequal d t.class is)

pub leaf_read : (g : code.Grammar) (a : Option Token) (t : Token) → a ≡ Some t → (old now new : Reader) → IsOnTheWay g (class_ahead a) old now → (d : ℕ) → stack_of now ≡ Leaf d ∷ stack_of new
    → new.events.items ≡ now.events.items ++ Held t.at ∷ [] → t.class ≡ d → ReadsUpTo g a old new
leaf_read g a t this old now new way d e more is =
    rw this (leaf_taken g t old now new (subst (λ (b : Option Token). IsOnTheWay g (class_ahead b) old now) this way) d e more (sym is))

held_read : (g : code.Grammar) (a : Option Token) (old now mid new : Reader) → IsOnTheWay g (class_ahead a) old now → (d : ℕ) → stack_of now ≡ Leaf d ∷ stack_of mid → mid.events ≡ now.events → stack_of new ≡ stack_of mid
    → Holds a d mid.events.items new.events.items → ReadsUpTo g a old new
held_read g a old now mid new way d e same stays h =
    leaf_read g a h.token h.is old now new way d (rw stays e) (rw (← same) h.events) h.class_is

pub leaf_held : {E : Type 0} (g : code.Grammar) (a : Option Token) (old now mid new : Reader) → IsOnTheWay g (class_ahead a) old now → (d : ℕ) → stack_of now ≡ Leaf d ∷ stack_of mid → mid.events ≡ now.events → stack_of new ≡ stack_of mid
    → (r : Result Bool E) → IfOk r (λ on. IsTrue on → Holds a d mid.events.items new.events.items) → IfOk r (λ on. IsTrue on → ReadsUpTo g a old new)
leaf_held g a old now mid new way d e same stays (Ok on) h = λ is. held_read g a old now mid new way d e same stays (h is)
leaf_held g a old now mid new way d e same stays (Err x) h = tt

pub leaf_stops : (g : code.Grammar) (a : Option Token) (old now new : Reader) → IsOnTheWay g (class_ahead a) old now → (d : ℕ) → stack_of now ≡ Leaf d ∷ stack_of new → is_class a d ≡ false → StopsAt (grammar_of g) a (stack_of old)
leaf_stops g None old now new way d e is = no_token g old now new (Leaf d) way e refl
leaf_stops g (Some t) old now new way d e is = other_leaf g t old now new way d e (unequal d t.class is)

pub end_read : (g : code.Grammar) (a : Option Token) (old now new : Reader) → IsOnTheWay g (class_ahead a) old now → stack_of now ≡ [] → new.events.items ≡ now.events.items → is_none a ≡ true → ReadsUpTo g a old new
end_read g None old now new way none same is = all_read g old now new way none same
end_read g (Some t) old now new way none same is = absurd cc

pub end_stops : (g : code.Grammar) (a : Option Token) (old now : Reader) → IsOnTheWay g (class_ahead a) old now → stack_of now ≡ [] → is_none a ≡ false → StopsAt (grammar_of g) a (stack_of old)
end_stops g None old now way none is = absurd cc
end_stops g (Some t) old now way none is = λ es ts w.
    let x = way.moves.only es (t ∷ ts) refl w in
    let y = from_end (grammar_of g) (tables_of g) (subst (λ st. Writes (grammar_of g) st x.0 (t ∷ ts)) none x.2) in
    let z = y.1 in absurd cc

-- ---- all tokens

pub one_more : (g : code.Grammar) (r : ℕ) (front : List Token) (t : Token) (now new : Reader) → IsBehind g r now front → TakesToken g t now new → IsBehind g r new (front ++ t ∷ [])
one_more g r front t now new b k = record {
  sound = λ es ts w.
      let x = b.sound (k.read ++ es) (t ∷ ts) (k.takes.sound es ts w) in
      rw (k.events, append_assoc now.events.items k.read es, append_assoc front (t ∷ []) ts) x;
  only = λ es ts w.
      let x = b.only es (t ∷ ts) (subst (λ (us : List Token). Writes (grammar_of g) (Rule r ∷ []) es us) (append_assoc front (t ∷ []) ts) w) in
      let y = k.takes.only x.0 ts x.2 in
      (y.0, x.1 ∙ ap (λ (zs : List Event). now.events.items ++ zs) y.1 ∙ sym (append_assoc now.events.items k.read y.0) ∙ ap (λ (zs : List Event). zs ++ y.0) (sym k.events), y.2);
}

pub no_rule : (s : Symbol) → ((r : ℕ) → s ≡ Rule r → ⊥) → wants s ≡ true
no_rule (Word d) h = refl
no_rule (Leaf d) h = refl
no_rule (Rule r) h = absurd (h r refl)

split : (ts : List Token) (i : ℕ) (d : Token) → i < length ts → ts ≡ take i ts ++ slice_index_or ts i d ∷ drop (i + 1) ts
split ts i d inside =
    let one : suc i ≡ i + 1 = omega arith in
    sym (take-append-drop i ts) ∙ ap (λ (us : List Token). take i ts ++ us) (drop-cons ts i d inside ∙ ap (λ (j : ℕ). slice_index_or ts i d ∷ drop j ts) one)

-- ---- a token that is refused behind those that were taken

refused_token : (g : code.Grammar) (r : ℕ) (now : Reader) (front : List Token) (t : Token) (behind all : List Token) → IsBehind g r now front → all ≡ front ++ t ∷ behind
    → ((es : List Event) (ts : List Token) → Writes (grammar_of g) (stack_of now) es (t ∷ ts) → ⊥) → (es : List Event) → Writes (grammar_of g) (Rule r ∷ []) es all → ⊥
refused_token g r now front t behind all b e none es w = let x = b.only es (t ∷ behind) (subst (λ (ts : List Token). Writes (grammar_of g) (Rule r ∷ []) es ts) e w) in none x.0 behind x.2

pub refused_at : (g : code.Grammar) (r : ℕ) (now : Reader) (ts : List Token) (i : ℕ) (d : Token) → IsBehind g r now (take i ts) → i < length ts
    → ((es : List Event) (us : List Token) → Writes (grammar_of g) (stack_of now) es (slice_index_or ts i d ∷ us) → ⊥) → IsRefusedAt (grammar_of g) r ts i
refused_at g r now ts i d b inside none =
    let t = slice_index_or ts i d in
    let more : take (i + 1) ts ≡ take i ts ++ t ∷ [] = take_more ts i d inside in
    record {
      none = refused_token g r now (take i ts) t (drop (i + 1) ts) ts b (split ts i d inside) none;
      within = omega (arith, inside);
      begun = λ _ es us. refused_token g r now (take i ts) t us (take (i + 1) ts ++ us) b (ap (λ (xs : List Token). xs ++ us) more ∙ append_assoc (take i ts) (t ∷ []) us) none es;
    }

pub refused_at_end : (g : code.Grammar) (r : ℕ) (now : Reader) (ts : List Token) → IsBehind g r now ts
    → ((es : List Event) → Writes (grammar_of g) (stack_of now) es [] → ⊥) → IsRefusedAt (grammar_of g) r ts (length ts)
refused_at_end g r now ts b none = record {
  none = λ es w. let x = b.only es [] (subst (λ (us : List Token). Writes (grammar_of g) (Rule r ∷ []) es us) (sym (append-nil ts)) w) in none x.0 x.2;
  within = omega arith;
  begun = λ inside es us w. absurd (omega (arith, inside));
}
