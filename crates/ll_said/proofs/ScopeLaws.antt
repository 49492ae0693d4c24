-- What is known in a scope after definitions in order: each thing, under its name or under its number.
use Rattle.std.proofs.Common.{◌≡◌, ◌≢◌, ℕ, suc, ◌+◌, ◌<◌, ◌≤◌, ◌⊎◌, inl, inr, Bool, true, false, nat_le, nat_lt, List, [], ◌∷◌, ◌++◌, length, length-append, slice_get, Some, None, refl, ap, sym, ◌∙◌, subst, eq-eqb, ne_eqb, le-leb, lt-ltb, arith}
use Rattle.std.specs.List.{flat_map}
use Rattle.std.specs.Str.{bytes_eq}
use Rattle.std.proofs.lemmas.Grind.{flat_map-append}
use Rattle.std.proofs.lemmas.Slice.Eq.{bytes_eq-Decides}
use Rattle.support.proofs.ListLaws.{distinct_rest}
use Rattle.support.specs.Interned.{IsDistinctList}
use Rattle.llvm_core.specs.Checked.{named}
use Rattle.ll_literals.specs.Text.{Text}
use Rattle.ll_literals.specs.Numbers.{number_limit}
use Rattle.ll_bodies.specs.Scopes.{Key, Named, Numbered, Local, Scope, empty_scope, with_key, define}
use Rattle.ll_said.specs.Naming.{Unnamed, same_unnamed, if_unnamed}
use Rattle.ll_said.proofs.PositionLaws.{position, position_cons, position_here, position_behind, same_self, same_is}

-- a parameter, block or result, with its name
pub record Thing : Type 0 where
  pub name : Text
  pub place : Unnamed

abbrev pub unnamed : List Thing → List Unnamed
unnamed ts = flat_map (λ (t : Thing). if_unnamed t.name t.place) ts

abbrev pub names : List Thing → List Text
names ts = flat_map (λ (t : Thing). named t.name) ts

-- the thing is one of the list
abbrev pub Has : Thing → List Thing → Type 0
Has t [] = ⊥
Has t (u ∷ us) = (u ≡ t) ⊎ Has t us

-- the key of a thing among all things of its function
abbrev pub key_among : List Thing → Text → Unnamed → Key
key_among all [] x = Numbered (position x (unnamed all))
key_among all (b ∷ bs) x = Named (b ∷ bs)

-- ---- lists

-- an unnamed thing of a list stands among its unnamed ones
pub position_of : (t : Thing) (ts : List Thing) → Has t ts → t.name ≡ [] → position t.place (unnamed ts) < length (unnamed ts)
position_of t [] h e = absurd h
position_of t (u ∷ ts) h e = first (λ other. position_of t ts other e) u.name u.place refl h
  where
    later : (x : Unnamed) → position t.place (unnamed ts) < length (unnamed ts) → position t.place (x ∷ unnamed ts) < length (x ∷ unnamed ts)
    later x o = by (same_unnamed t.place x) refl
      where
        by : (b : Bool) → same_unnamed t.place x ≡ b → position t.place (x ∷ unnamed ts) < length (x ∷ unnamed ts)
        by true f = omega (arith, position_here t.place x (unnamed ts) f)
        by false f = omega (arith, position_cons t.place x (unnamed ts) f, o)

    first : (Has t ts → position t.place (unnamed ts) < length (unnamed ts)) → (n : Text) (x : Unnamed) → u ≡ record { name = n; place = x } → (u ≡ t) ⊎ Has t ts → position t.place (if_unnamed n x ++ unnamed ts) < length (if_unnamed n x ++ unnamed ts)
    first further [] x is (inl same) =
        let f : x ≡ t.place = ap (λ (v : Thing). v.place) (sym is ∙ same) in
        omega (arith, position_here t.place x (unnamed ts) (rw f (same_self t.place)))
    first further (b ∷ bs) x is (inl same) = let f : b ∷ bs ≡ [] = ap (λ (v : Thing). v.name) (sym is ∙ same) ∙ e in absurd cc
    first further [] x is (inr other) = later x (further other)
    first further (b ∷ bs) x is (inr other) = further other

-- ---- lists of names

-- no item is the name
abbrev pub Misses : Text → List Text → Type 0
Misses n ns = (i : ℕ) → slice_get ns i ≢ Some n

distinct_first : (n : Text) (ns : List Text) → IsDistinctList (n ∷ ns) → Misses n ns
distinct_first n ns h i at = let e : suc i ≡ 0 = h (suc i) 0 n at refl in absurd (omega arith)

misses_rest : (n m : Text) (ns : List Text) → Misses n (m ∷ ns) → Misses n ns
misses_rest n m ns h i at = h (suc i) at

-- ---- scopes, by what each thing stands for

module _ (local : Unnamed → Local) where
  abbrev pub after_one : Scope → Text → Unnamed → Scope
  after_one s [] x = with_key s (Numbered s.next) (local x) (s.next + 1)
  after_one s (b ∷ bs) x = with_key s (Named (b ∷ bs)) (local x) s.next

  abbrev pub after : Scope → List Thing → Scope
  after s [] = s
  after s (t ∷ ts) = after (after_one s t.name t.place) ts

  pub after-append : (s : Scope) (xs ys : List Thing) → after s (xs ++ ys) ≡ after (after s xs) ys
  after-append s [] ys = refl
  after-append s (t ∷ xs) ys = after-append (after_one s t.name t.place) xs ys

  one_next : (s : Scope) (n : Text) (x : Unnamed) → (after_one s n x).next ≡ s.next + length (if_unnamed n x)
  one_next s [] x = refl
  one_next s (b ∷ bs) x = omega arith

  -- the counter counts unnamed things
  pub after_next : (s : Scope) (ts : List Thing) → (after s ts).next ≡ s.next + length (unnamed ts)
  after_next s [] = omega arith
  after_next s (t ∷ ts) =
      let o = after_next (after_one s t.name t.place) ts in
      let f = one_next s t.name t.place in
      omega (arith, o, f, length-append (if_unnamed t.name t.place) (unnamed ts))

  -- ---- what stays known

  one_number : (s : Scope) (n : Text) (x : Unnamed) (k : ℕ) → k < s.next → (after_one s n x).known (Numbered k) ≡ s.known (Numbered k)
  one_number s [] x k h = rw (ne_eqb s.next k (λ e. omega (arith, e))) refl
  one_number s (b ∷ bs) x k h = refl

  number_stays : (s : Scope) (ts : List Thing) (k : ℕ) → k < s.next → (after s ts).known (Numbered k) ≡ s.known (Numbered k)
  number_stays s [] k h = refl
  number_stays s (t ∷ ts) k h =
      number_stays (after_one s t.name t.place) ts k (omega (arith, one_next s t.name t.place)) ∙ one_number s t.name t.place k h

  name_stays : (s : Scope) (ts : List Thing) (n : Text) → Misses n (names ts) → (after s ts).known (Named n) ≡ s.known (Named n)
  name_stays s [] n h = refl
  name_stays s (t ∷ ts) n h = first (λ u. name_stays u ts n) t.name h
    where
      other : (b : ℕ) (bs : Text) → (b ∷ bs) ≢ n → bytes_eq (b ∷ bs) n ≡ false
      other b bs ne = by (bytes_eq (b ∷ bs) n) refl
        where
          by : (e : Bool) → bytes_eq (b ∷ bs) n ≡ e → e ≡ false
          by true e = absurd (ne ((bytes_eq-Decides (b ∷ bs) n).0 e))
          by false e = refl

      first : ((u : Scope) → Misses n (names ts) → (after u ts).known (Named n) ≡ u.known (Named n)) → (m : Text) → Misses n (named m ++ names ts) → (after (after_one s m t.place) ts).known (Named n) ≡ s.known (Named n)
      first further [] g = further (after_one s [] t.place) g
      first further (b ∷ bs) g =
          further (after_one s (b ∷ bs) t.place) (misses_rest n (b ∷ bs) (names ts) g)
          ∙ rw (other b bs (λ e. g 0 (ap (λ (m : Text). Some m) e))) refl

  -- ---- what is known

  -- the unnamed thing of a number
  number_known : (s : Scope) (ts : List Thing) (x : Unnamed) → position x (unnamed ts) < length (unnamed ts)
      → (after s ts).known (Numbered (s.next + position x (unnamed ts))) ≡ Some (local x)
  number_known s [] x h = absurd (omega arith)
  number_known s (t ∷ ts) x h = first (λ u. number_known u ts x) t.name h
    where
      at : (k : ℕ) → k ≡ s.next → same_unnamed x t.place ≡ true → (after (after_one s [] t.place) ts).known (Numbered k) ≡ Some (local x)
      at k e same =
          number_stays (after_one s [] t.place) ts k (omega (arith, e))
          ∙ rw (eq-eqb s.next k (sym e)) (ap (λ (y : Unnamed). Some (local y)) (sym (same_is x t.place same)))

      by : ((u : Scope) → position x (unnamed ts) < length (unnamed ts) → (after u ts).known (Numbered (u.next + position x (unnamed ts))) ≡ Some (local x)) → (b : Bool) → same_unnamed x t.place ≡ b → position x (t.place ∷ unnamed ts) < suc (length (unnamed ts))
          → (after (after_one s [] t.place) ts).known (Numbered (s.next + position x (t.place ∷ unnamed ts))) ≡ Some (local x)
      by further true e g = at _ (omega (arith, position_here x t.place (unnamed ts) e)) e
      by further false e g =
          let c = position_cons x t.place (unnamed ts) e in
          let k : s.next + position x (t.place ∷ unnamed ts) ≡ (s.next + 1) + position x (unnamed ts) = omega (arith, c) in
          ap (λ (n : ℕ). (after (after_one s [] t.place) ts).known (Numbered n)) k
          ∙ further (after_one s [] t.place) (omega (arith, c))

      first : ((u : Scope) → position x (unnamed ts) < length (unnamed ts) → (after u ts).known (Numbered (u.next + position x (unnamed ts))) ≡ Some (local x)) → (m : Text) → position x (if_unnamed m t.place ++ unnamed ts) < length (if_unnamed m t.place ++ unnamed ts)
          → (after (after_one s m t.place) ts).known (Numbered (s.next + position x (if_unnamed m t.place ++ unnamed ts))) ≡ Some (local x)
      first further [] g = by further (same_unnamed x t.place) refl g
      first further (b ∷ bs) g = further (after_one s (b ∷ bs) t.place) g

  -- the thing of a name
  name_known : (s : Scope) (ts : List Thing) (t : Thing) → Has t ts → t.name ≢ [] → IsDistinctList (names ts) → (after s ts).known (Named t.name) ≡ Some (local t.place)
  name_known s [] t h some d = absurd h
  name_known s (u ∷ ts) t h some d = first (λ v other. name_known v ts t other some) u.name u.place refl h d
    where
      first : ((v : Scope) → Has t ts → IsDistinctList (names ts) → (after v ts).known (Named t.name) ≡ Some (local t.place)) → (m : Text) (x : Unnamed) → u ≡ record { name = m; place = x } → (u ≡ t) ⊎ Has t ts → IsDistinctList (named m ++ names ts) → (after (after_one s m x) ts).known (Named t.name) ≡ Some (local t.place)
      first further [] x is (inl same) e = absurd (some (sym (ap (λ (v : Thing). v.name) (sym is ∙ same))))
      first further (b ∷ bs) x is (inl same) e =
          let n : b ∷ bs ≡ t.name = ap (λ (v : Thing). v.name) (sym is ∙ same) in
          let p : x ≡ t.place = ap (λ (v : Thing). v.place) (sym is ∙ same) in
          subst (λ (m : Text). (after (after_one s (b ∷ bs) x) ts).known (Named m) ≡ Some (local t.place)) n
          (name_stays (after_one s (b ∷ bs) x) ts (b ∷ bs) (distinct_first (b ∷ bs) (names ts) e)
          ∙ rw ((bytes_eq-Decides (b ∷ bs) (b ∷ bs)).1 refl) (ap (λ (y : Unnamed). Some (local y)) p))
      first further [] x is (inr other) e = further (after_one s [] x) other e
      first further (b ∷ bs) x is (inr other) e = further (after_one s (b ∷ bs) x) other (distinct_rest (b ∷ bs) (names ts) e)

  -- each thing is known under its key
  pub known_under : (ts : List Thing) (t : Thing) → Has t ts → IsDistinctList (names ts) → (after empty_scope ts).known (key_among ts t.name t.place) ≡ Some (local t.place)
  known_under ts t h d = by t.name refl
    where
      by : (n : Text) → t.name ≡ n → (after empty_scope ts).known (key_among ts n t.place) ≡ Some (local t.place)
      by [] e =
          let zero_more : 0 + position t.place (unnamed ts) ≡ position t.place (unnamed ts) = omega arith in
          subst (λ (k : ℕ). (after empty_scope ts).known (Numbered k) ≡ Some (local t.place)) zero_more (number_known empty_scope ts t.place (position_of t ts h e))
      by (b ∷ bs) e =
          let some : t.name ≢ [] = λ f. let g : b ∷ bs ≡ [] = sym e ∙ f in absurd cc in
          subst (λ (m : Text). (after empty_scope ts).known (Named m) ≡ Some (local t.place)) e (name_known empty_scope ts t h some d)

  -- ---- the next definition

  -- the number of the next thing, where it has no name
  next_number : (done : List Thing) (x : Unnamed) (rest : List Unnamed) → position x (unnamed done) ≡ length (unnamed done) → position x (unnamed done ++ x ∷ rest) ≡ (after empty_scope done).next
  next_number done x rest new =
      let here = position_here x x rest (same_self x) in
      omega (arith, position_behind x (unnamed done) (x ∷ rest) new, here, after_next empty_scope done)

  pub defined_next : (done rest : List Thing) (n : Text) (x : Unnamed) → position x (unnamed done) ≡ length (unnamed done)
      → length (unnamed (done ++ record { name = n; place = x } ∷ rest)) ≤ number_limit
      → define (after empty_scope done) (local x) (Some (key_among (done ++ record { name = n; place = x } ∷ rest) n x)) ≡ Some (after_one (after empty_scope done) n x)
  defined_next done rest (b ∷ bs) x new few = refl
  defined_next done rest [] x new few = by (position x (unnamed all)) (ap (position x) parts ∙ next_number done x (unnamed rest) new)
    where
      all : List Thing
      all = done ++ record { name = []; place = x } ∷ rest

      parts : unnamed all ≡ unnamed done ++ x ∷ unnamed rest
      parts = flat_map-append (λ (u : Thing). if_unnamed u.name u.place) done (record { name = []; place = x } ∷ rest)

      by : (k : ℕ) → k ≡ (after empty_scope done).next → define (after empty_scope done) (local x) (Some (Numbered k)) ≡ Some (after_one (after empty_scope done) [] x)
      by k e =
          let size : length (unnamed all) ≡ length (unnamed done) + suc (length (unnamed rest)) = ap (λ (xs : List Unnamed). length xs) parts ∙ length-append (unnamed done) (x ∷ unnamed rest) in
          let small : k < number_limit = omega (arith, size, few, e, after_next empty_scope done) in
          subst (λ (j : ℕ). define (after empty_scope done) (local x) (Some (Numbered j)) ≡ Some (after_one (after empty_scope done) [] x)) (sym e)
          (let low : nat_le (after empty_scope done).next (after empty_scope done).next ≡ true = le-leb (after empty_scope done).next (after empty_scope done).next (omega arith) in
          let high : nat_lt (after empty_scope done).next number_limit ≡ true = lt-ltb (after empty_scope done).next number_limit (omega (arith, small, e)) in
          rw (low, high) refl)

  -- a thing for which nothing is written takes the counter
  pub defined_unwritten : (done : List Thing) (x : Unnamed) → length (unnamed done) < number_limit → define (after empty_scope done) (local x) None ≡ Some (after_one (after empty_scope done) [] x)
  defined_unwritten done x few =
      let high : nat_lt (after empty_scope done).next number_limit ≡ true = lt-ltb (after empty_scope done).next number_limit (omega (arith, few, after_next empty_scope done)) in
      rw high refl
