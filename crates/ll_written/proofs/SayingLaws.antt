-- What symbols say in tokens is what the events of these tokens say.
use Rattle.std.proofs.Common.{◌≡◌, ℕ, List, [], ◌∷◌, ◌++◌, Option, None, Some, length, take, drop, refl, sym, ap, subst, ◌∙◌}
use Rattle.grammars.specs.declared.symbols.Symbol.{Symbol}
use Rattle.grammars.specs.declared.symbols.Symbol.TheVariants.{Word, Leaf}
use Rattle.grammars.specs.declared.symbols.Event.{Event}
use Rattle.grammars.specs.declared.symbols.Event.TheVariants.{Took, Held}
use Rattle.grammars.specs.declared.symbols.Token as symbols
use Rattle.grammars.specs.Grammar.{Grammar, Writes, at_end, at_word, at_leaf, at_rule}
use Rattle.ll_tokens.specs.declared.tokens.Token.{Token}
use Rattle.ll_literals.specs.Chain.{◌>>=◌}
use Rattle.ll_values.specs.declared.form.Kind.{Kind}
use Rattle.ll_values.specs.Parts.{part_count}
use Rattle.ll_values.specs.Values.{Value, TextV, value_by}
use Rattle.ll_values.specs.Folding.{kind_at, make, token_by, step, fold}
use Rattle.ll_written.specs.Saying.{Written, Says, says_nothing, says_word, says_leaf, says_rule, Stand}

-- ---- lists

append_assoc : {X : Type 0} (xs ys zs : List X) → (xs ++ ys) ++ zs ≡ xs ++ (ys ++ zs)
append_assoc [] ys zs = refl
append_assoc (x ∷ xs) ys zs = ap (λ r. x ∷ r) (append_assoc xs ys zs)

take_front : {X : Type 0} (xs ys : List X) → take (length xs) (xs ++ ys) ≡ xs
take_front [] ys = refl
take_front (x ∷ xs) ys = ap (λ r. x ∷ r) (take_front xs ys)

drop_front : {X : Type 0} (xs ys : List X) → drop (length xs) (xs ++ ys) ≡ ys
drop_front [] ys = refl
drop_front (x ∷ xs) ys = drop_front xs ys

-- ---- symbols one behind another

writes_both : (g : Grammar) (st tt : List Symbol) (es fs : List Event) (ts us : List symbols.Token) → Writes g st es ts → Writes g tt fs us → Writes g (st ++ tt) (es ++ fs) (ts ++ us)
writes_both g _ tt _ fs _ us at_end w = w
writes_both g _ tt _ fs _ us (at_word st es ts t v) w = at_word (st ++ tt) (es ++ fs) (ts ++ us) t (writes_both g st tt es fs ts us v w)
writes_both g _ tt _ fs _ us (at_leaf st es ts t v) w = at_leaf (st ++ tt) (es ++ fs) (ts ++ us) t (writes_both g st tt es fs ts us v w)
writes_both g _ tt _ fs _ us (at_rule st es ts r i α is v) w =
    at_rule (st ++ tt) (es ++ fs) (ts ++ us) r i α is (subst (λ (s : List Symbol). Writes g s (es ++ fs) (ts ++ us)) (append_assoc α st tt) (writes_both g (α ++ st) tt es fs ts us v w))

module _ (g : Grammar) (kinds : List Kind) (bytes : List ℕ) (tokens : List Token) where
  -- what events say before others
  abbrev FoldsTo : List Event → List Value → Type 0
  FoldsTo es vs = (fs : List Event) → fold kinds bytes tokens (es ++ fs) ≡ (fold kinds bytes tokens fs >>= λ us. Some (vs ++ us))

  -- the events of those tokens
  pub record HasEvents (st : List Symbol) (vs : List Value) (ts : List symbols.Token) : Type 0 where
    pub events : List Event
    pub written : Writes g st events ts
    pub folds : FoldsTo events vs

  -- where tokens stand for two lists, they are two
  record IsSplit (ts : List symbols.Token) (ws us : List Written) : Type 0 where
    front : List symbols.Token
    back : List symbols.Token
    both : ts ≡ front ++ back
    first : Stand kinds bytes tokens front ws
    second : Stand kinds bytes tokens back us

  split : (ts : List symbols.Token) (ws us : List Written) → Stand kinds bytes tokens ts (ws ++ us) → IsSplit ts ws us
  split ts [] us h = record { front = []; back = ts; both = refl; first = tt; second = h }
  split [] (w ∷ ws) us h = absurd h
  split (t ∷ ts) (w ∷ ws) us h = let r = split ts ws us h.2 in record { front = t ∷ r.front; back = r.back; both = ap (λ rs. t ∷ rs) r.both; first = (h.0, h.1, r.first); second = r.second }

  held_folds : (t : symbols.Token) (v : Value) (es : List Event) (vs : List Value) → token_by kinds bytes tokens t ≡ Some v → FoldsTo es vs → FoldsTo (Held t.at ∷ es) (v ∷ vs)
  unfolding fold
  held_folds t v es vs is folds fs = ap (λ o. o >>= step kinds bytes tokens (Held t.at)) (folds fs) ∙ by (fold kinds bytes tokens fs)
    where
      by : (o : Option (List Value)) → ((o >>= λ us. Some (vs ++ us)) >>= step kinds bytes tokens (Held t.at)) ≡ (o >>= λ us. Some (v ∷ (vs ++ us)))
      by None = refl
      by (Some us) = ap (λ o. o >>= λ (v : Value). Some (v ∷ (vs ++ us))) is

  took_folds : (i : ℕ) (v : Value) (es : List Event) (cs vs : List Value) → length cs ≡ part_count (kind_at kinds i) → value_by (kind_at kinds i) cs ≡ Some v → FoldsTo es (cs ++ vs) → FoldsTo (Took i ∷ es) (v ∷ vs)
  unfolding fold
  took_folds i v es cs vs count made folds fs = ap (λ o. o >>= step kinds bytes tokens (Took i)) (folds fs) ∙ by (fold kinds bytes tokens fs)
    where
      -- the parts are the values that stand first
      made_of : (us : List Value) → make (kind_at kinds i) ((cs ++ vs) ++ us) ≡ Some (v ∷ (vs ++ us))
      made_of us =
          let whole = append_assoc cs vs us in
          let front : take (part_count (kind_at kinds i)) ((cs ++ vs) ++ us) ≡ cs = ap (λ n. take n ((cs ++ vs) ++ us)) (sym count) ∙ ap (take (length cs)) whole ∙ take_front cs (vs ++ us) in
          let back : drop (part_count (kind_at kinds i)) ((cs ++ vs) ++ us) ≡ vs ++ us = ap (λ n. drop n ((cs ++ vs) ++ us)) (sym count) ∙ ap (drop (length cs)) whole ∙ drop_front cs (vs ++ us) in
          ap (λ r. value_by (kind_at kinds i) r >>= λ (v : Value). Some (v ∷ drop (part_count (kind_at kinds i)) ((cs ++ vs) ++ us))) front
          ∙ ap (λ o. o >>= λ (v : Value). Some (v ∷ drop (part_count (kind_at kinds i)) ((cs ++ vs) ++ us))) made ∙ ap (λ r. Some (v ∷ r)) back

      by : (o : Option (List Value)) → ((o >>= λ us. Some ((cs ++ vs) ++ us)) >>= step kinds bytes tokens (Took i)) ≡ (o >>= λ us. Some (v ∷ (vs ++ us)))
      by None = refl
      by (Some us) = made_of us

  both_fold : (es fs : List Event) (vs us : List Value) → FoldsTo es vs → FoldsTo fs us → FoldsTo (es ++ fs) (vs ++ us)
  both_fold es fs vs us first second gs = ap (fold kinds bytes tokens) (append_assoc es fs gs) ∙ first (fs ++ gs) ∙ ap (λ o. o >>= λ (xs : List Value). Some (vs ++ xs)) (second gs) ∙ by (fold kinds bytes tokens gs)
    where
      by : (o : Option (List Value)) → ((o >>= λ xs. Some (us ++ xs)) >>= λ xs. Some (vs ++ xs)) ≡ (o >>= λ xs. Some ((vs ++ us) ++ xs))
      by None = refl
      by (Some xs) = ap Some (sym (append_assoc vs us xs))

  none_folds : FoldsTo [] []
  none_folds fs = by (fold kinds bytes tokens fs)
    where
      by : (o : Option (List Value)) → o ≡ (o >>= λ xs. Some xs)
      by None = refl
      by (Some xs) = refl

  -- ---- the law

  pub events_of : (st : List Symbol) (vs : List Value) (ws : List Written) (ts : List symbols.Token) → Says g kinds st vs ws → Stand kinds bytes tokens ts ws → HasEvents st vs ts
  events_of _ _ _ [] says_nothing h = record { events = []; written = at_end; folds = none_folds }
  events_of _ _ _ (t ∷ ts) says_nothing h = absurd h
  events_of _ _ _ [] (says_word st vs ws w s) h = absurd h
  events_of _ _ _ (t ∷ ts) (says_word st vs ws w s) h =
      let r = events_of st vs ws ts s h.2 in
      record { events = r.events; written = subst (λ (c : ℕ). Writes g (Word c ∷ st) r.events (t ∷ ts)) h.0 (at_word st r.events ts t r.written); folds = r.folds }
  events_of _ _ _ [] (says_leaf st vs ws w s) h = absurd h
  events_of _ _ _ (t ∷ ts) (says_leaf st vs ws w s) h =
      let r = events_of st vs ws ts s h.2 in
      record {
        events = Held t.at ∷ r.events;
        written = subst (λ (c : ℕ). Writes g (Leaf c ∷ st) (Held t.at ∷ r.events) (t ∷ ts)) h.0 (at_leaf st r.events ts t r.written);
        folds = held_folds t (TextV w.text) r.events vs h.1 r.folds;
      }
  events_of _ _ _ ts (says_rule i_r i α st v cs vs ws us is count made inside behind) h =
      let two = split ts ws us h in
      let r = events_of α cs ws two.front inside two.first in
      let q = events_of st vs us two.back behind two.second in
      let both = writes_both g α st r.events q.events two.front two.back r.written q.written in
      let whole = subst (λ (rs : List symbols.Token). Writes g (α ++ st) (r.events ++ q.events) rs) (sym two.both) both in
      record {
        events = Took i ∷ (r.events ++ q.events);
        written = at_rule st (r.events ++ q.events) ts i_r i α is whole;
        folds = took_folds i v (r.events ++ q.events) cs vs count made (both_fold r.events q.events cs vs r.folds q.folds);
      }
