-- How the table of structs grows, and what it answers.
use Rattle.std.proofs.Common.{ℕ, suc, ◌≡◌, ◌<◌, ◌≤◌, ◌⊎◌, inl, inr, ◌∙◌, ◌+◌, refl, sym, ap, subst, Bool, true, false, not, List, [], ◌∷◌, ◌++◌, Option, Some, None, length, slice_get, take, drop, get_or, arith, if◌then◌else◌}
use Rattle.std.specs.Prelude.{position, nat_lt}
use Rattle.std.specs.List.{position_or_len}
use Rattle.std.specs.Option.{option_map, option_or}
use Rattle.std.specs.Str.{bytes_eq}
use Rattle.std.proofs.lemmas.Bool.{ltb-false}
use Rattle.std.proofs.lemmas.List.{take_all, take-append-drop}
use Rattle.std.proofs.lemmas.List.Folds.{find-append}
use Rattle.std.proofs.lemmas.List.Sums.{fails_before_first}
use Rattle.std.proofs.lemmas.List.Quantifiers.{position-Some}
use Rattle.std.proofs.lemmas.Option.{same_Some, slice_get_within, slice_get-map, slice_get-get_or, get_or_from_slice_get}
use Rattle.support.proofs.ListLaws.{slice_get-kept, slice_get-push, slice_get-push_cases, take_next}
use Rattle.kinds.specs.Structs.{Struct, struct_in}
use Rattle.llvm_core.specs.declared.numbers.LLVMStruct.{LLVMStruct}
use Rattle.llvm_core.specs.declared.structs.StructData.{StructData}
use Rattle.llvm_core.specs.Keys.{same_text}
use Rattle.llvm_core.specs.Names.{Stands, IsInserted}
use Rattle.llvm_core.specs.Module.{Module}
use Rattle.llvm_core.specs.Data.{trees_of, struct_of, structs_of}
use Rattle.llvm_core.proofs.NameLemmas.{position_there, position_past}
use Rattle.held_types.specs.declared.table.Table.{Table}
use Rattle.held_types.specs.Table.{IsFirst, HasFirsts, IsTable, IsTableTo}

-- ---- the first place of a name

found_at : {X : Type 0} (p : X → Bool) (xs : List X) (i : ℕ) → position_or_len p xs ≡ i → i < length xs → position p xs ≡ Some i
found_at p xs i e lt = by (nat_lt (position_or_len p xs) (length xs)) refl
  where
    by : (b : Bool) → nat_lt (position_or_len p xs) (length xs) ≡ b → (if b then Some (position_or_len p xs) else None) ≡ Some i
    by true f = ap Some e
    by false f = let past = ltb-false (position_or_len p xs) (length xs) f in absurd (omega (arith, e, lt, past))

place_kept : {X : Type 0} (p : X → Bool) (xs ys : List X) → position_or_len p xs < length xs → position_or_len p (xs ++ ys) ≡ position_or_len p xs
place_kept p [] ys lt = absurd (omega arith)
place_kept p (x ∷ xs) ys lt = by (p x) lt (place_kept p xs ys)
  where
    by : (b : Bool) → (if not b then 1 + position_or_len p xs else 0) < length (x ∷ xs) → (position_or_len p xs < length xs → position_or_len p (xs ++ ys) ≡ position_or_len p xs)
        → (if not b then 1 + position_or_len p (xs ++ ys) else 0) ≡ (if not b then 1 + position_or_len p xs else 0)
    by true lt rest = refl
    by false lt rest = ap (λ (n : ℕ). 1 + n) (rest (omega (arith, lt)))

longer : {X : Type 0} (xs : List X) (y : X) → length (xs ++ y ∷ []) ≡ 1 + length xs
longer [] y = refl
longer (x ∷ xs) y = let rest = longer xs y in omega (arith, rest)

-- it stays where a name is put last
position_kept : (p : List ℕ → Bool) (xs : List (List ℕ)) (y : List ℕ) (i : ℕ) → position p xs ≡ Some i → position p (xs ++ y ∷ []) ≡ Some i
position_kept p xs y i h =
    let there = position_there p xs i h in
    found_at p (xs ++ y ∷ []) i (place_kept p xs (y ∷ []) (omega (arith, there.0, there.1)) ∙ there.0) (omega (arith, there.1, longer xs y))

place_last : (name : List ℕ) (xs : List (List ℕ)) → ¬ Stands xs name → position_or_len (bytes_eq name) (xs ++ name ∷ []) ≡ length xs
place_last name [] absent = ap (λ b. if not b then 1 else 0) ((same_text name name).1 refl)
place_last name (x ∷ xs) absent = by (bytes_eq name x) refl (place_last name xs (λ s. absent (suc s.0, s.1)))
  where
    by : (b : Bool) → bytes_eq name x ≡ b → position_or_len (bytes_eq name) (xs ++ name ∷ []) ≡ length xs → (if not b then 1 + position_or_len (bytes_eq name) (xs ++ name ∷ []) else 0) ≡ suc (length xs)
    by true e rest = absurd (absent (0, ap Some (sym ((same_text name x).0 e))))
    by false e rest = omega (arith, rest)

-- that of one that was not there is the last
position_last : (name : List ℕ) (xs : List (List ℕ)) → ¬ Stands xs name → position (bytes_eq name) (xs ++ name ∷ []) ≡ Some (length xs)
position_last name xs absent = found_at (bytes_eq name) (xs ++ name ∷ []) (length xs) (place_last name xs absent) (omega (arith, longer xs name))

-- a name that is found nowhere is not there, and one that is found is
absent_name : (name : List ℕ) (xs : List (List ℕ)) → position (bytes_eq name) xs ≡ None → ¬ Stands xs name
absent_name name xs h (i, at) =
    let past = position_past (bytes_eq name) xs h in
    let fails = fails_before_first (bytes_eq name) xs i name (omega (arith, past, slice_get_within xs i name at)) in
    let is : bytes_eq name name ≡ false = ap (bytes_eq name) (sym (get_or_from_slice_get xs i name name at)) ∙ fails in
    let same = (same_text name name).1 refl in
    cc

present_name : (name : List ℕ) (xs : List (List ℕ)) (i : ℕ) → position (bytes_eq name) xs ≡ Some i → slice_get xs i ≡ Some name
present_name name xs i h =
    let there = position-Some (bytes_eq name) xs i name h in
    slice_get-get_or xs i name there.0 ∙ ap Some (sym ((same_text name (get_or xs i name)).0 there.1))

-- ---- the structs so far

or_first : {X : Type 0} (o p : Option X) (x : X) → o ≡ Some x → option_or o p ≡ Some x
or_first o p x e = ap (λ q. option_or q p) e

-- the first of these is the first of more
in_longer : (ss more : List Struct) (name : List ℕ) (s : Struct) → struct_in ss name ≡ Some s → struct_in (ss ++ more) name ≡ Some s
in_longer ss more name s e = find-append (λ (s : Struct). bytes_eq s.name name) ss more ∙ or_first (struct_in ss name) (struct_in more name) s e

one_named : (st : Struct) (name : List ℕ) (s : Struct) → struct_in (st ∷ []) name ≡ Some s → (st.name ≡ name) × (st ≡ s)
one_named st name s e = by (bytes_eq st.name name) refl e
  where
    by : (b : Bool) → bytes_eq st.name name ≡ b → (if b then Some st else None) ≡ Some s → (st.name ≡ name) × (st ≡ s)
    by true is e = ((same_text st.name name).0 is, same_Some st s e)
    by false is e = cc

named_one : (st : Struct) (name : List ℕ) → st.name ≡ name → struct_in (st ∷ []) name ≡ Some st
named_one st name e = ap (λ b. if b then Some st else None) ((same_text st.name name).1 e)

-- the first of one more is that of these, or the last
one_more : (ss : List Struct) (st : Struct) (name : List ℕ) (s : Struct) → struct_in (ss ++ st ∷ []) name ≡ Some s → (struct_in ss name ≡ Some s) ⊎ ((struct_in ss name ≡ None) × (st.name ≡ name) × (st ≡ s))
one_more ss st name s e = by (struct_in ss name) refl (sym (find-append (λ (s : Struct). bytes_eq s.name name) ss (st ∷ [])) ∙ e)
  where
    by : (o : Option Struct) → struct_in ss name ≡ o → option_or o (struct_in (st ∷ []) name) ≡ Some s → (struct_in ss name ≡ Some s) ⊎ ((struct_in ss name ≡ None) × (st.name ≡ name) × (st ≡ s))
    by None is e = let one = one_named st name s e in inr (is, one.0, one.1)
    by (Some y) is e = inl (is ∙ e)

last_known : (ss : List Struct) (st : Struct) → (s : Struct) × (struct_in (ss ++ st ∷ []) st.name ≡ Some s)
last_known ss st = by (struct_in ss st.name) refl
  where
    by : (o : Option Struct) → struct_in ss st.name ≡ o → (s : Struct) × (struct_in (ss ++ st ∷ []) st.name ≡ Some s)
    by None is = (st, find-append (λ (s : Struct). bytes_eq s.name st.name) ss (st ∷ []) ∙ ap (λ o. option_or o (struct_in (st ∷ []) st.name)) is ∙ named_one st st.name refl)
    by (Some y) is = (y, in_longer ss (st ∷ []) st.name y is)

abbrev struct_number : ℕ → LLVMStruct
struct_number n = record { 0 = n }

-- ---- one more

module _ (m : Module) (count : ℕ) (old new : Table) (x : StructData) (at : slice_get m.structs count ≡ Some x) (h : IsTableTo m count old) where
  abbrev last : Struct
  last = struct_of (trees_of m).types x

  abbrev earlier : List Struct
  earlier = take count (structs_of m)

  here : slice_get (structs_of m) count ≡ Some last
  here = slice_get-map (struct_of (trees_of m).types) m.structs count ∙ ap (option_map (struct_of (trees_of m).types)) at

  more : take (count + 1) (structs_of m) ≡ earlier ++ last ∷ []
  more = take_next (structs_of m) count last here

  -- where its name is not known
  pub table_more : (fresh : Bool) → position (bytes_eq x.name) old.names ≡ None → IsInserted old.names new.names x.name fresh → new.firsts.items ≡ old.firsts.items ++ struct_number count ∷ [] → IsTableTo m (count + 1) new
  table_more false unknown stands items = absurd (absent_name x.name old.names unknown stands)
  table_more true unknown (names, absent) items = record {
    lengths = ap length items ∙ longer old.firsts.items (struct_number count) ∙ ap (λ (n : ℕ). 1 + n) h.lengths ∙ sym (longer old.names x.name) ∙ sym (ap length names);
    known = λ i name is. elim (slice_get-push_cases old.names x.name i name (ap (λ (ns : List (List ℕ)). slice_get ns i) (sym names) ∙ is)) [
      | inl older ↦ (let s = h.known i name older in (s.0, ap (λ ss. struct_in ss name) more ∙ in_longer earlier (last ∷ []) name s.0 s.1))
      | inr newest ↦ (let s = last_known earlier last in (s.0, ap (struct_in (take (count + 1) (structs_of m))) newest.1 ∙ ap (λ ss. struct_in ss x.name) more ∙ s.1))
    ];
    firsts = λ name s e. elim (one_more earlier last name s (ap (λ ss. struct_in ss name) (sym more) ∙ e)) [
      | inl older ↦ (
          let f = h.firsts name s older in (
            f.0,
            (
              f.1.0,
              ap (position (bytes_eq name)) names ∙ position_kept (bytes_eq name) old.names x.name f.1.0 f.1.1,
              ap (λ (ns : List LLVMStruct). slice_get ns f.1.0) items ∙ slice_get-kept old.firsts.items (struct_number count ∷ []) f.1.0 f.0 f.1.2,
            ),
            f.2,
          )
          )
      | inr newest ↦ (
          let same = newest.1 in (
            struct_number count,
            (
              length old.names,
              subst (λ (n : List ℕ). position (bytes_eq n) new.names ≡ Some (length old.names)) same (ap (position (bytes_eq x.name)) names ∙ position_last x.name old.names absent),
              ap (λ (ns : List LLVMStruct). slice_get ns (length old.names)) items ∙ slice_get-push old.firsts.items (struct_number count) (length old.names) (sym h.lengths),
            ),
            record {
              struct = last;
              at = here;
              named = same;
              first =
                  ap (λ ss. struct_in ss name) (sym (take-append-drop (count + 1) (structs_of m)))
                  ∙ in_longer (take (count + 1) (structs_of m)) (drop (count + 1) (structs_of m)) name last (e ∙ ap Some (sym newest.2));
            },
          )
          )
    ];
  }

  -- where it is
  pub table_same : (i : ℕ) → position (bytes_eq x.name) old.names ≡ Some i → IsTableTo m (count + 1) old
  table_same i found =
      let first = h.known i x.name (present_name x.name old.names i found) in
      record {
        lengths = h.lengths;
        known = λ k name is. (let s = h.known k name is in (s.0, ap (λ ss. struct_in ss name) more ∙ in_longer earlier (last ∷ []) name s.0 s.1));
        firsts = λ name s e. elim (one_more earlier last name s (ap (λ ss. struct_in ss name) (sym more) ∙ e)) [
          | inl older ↦ h.firsts name s older
          | inr newest ↦ (let none : struct_in earlier x.name ≡ None = ap (struct_in earlier) newest.1 ∙ newest.0 in let some = first.1 in absurd (cc))
        ];
      }

-- the struct of a number, by the name that it answers
pub named_here : (m : Module) (s : ℕ) (name : List ℕ) → option_map (λ (x : StructData). x.name) (slice_get m.structs s) ≡ Some name → (x : StructData) × (slice_get m.structs s ≡ Some x) × (x.name ≡ name)
named_here m s name e = by (slice_get m.structs s) refl e
  where
    by : (o : Option StructData) → slice_get m.structs s ≡ o → option_map (λ (x : StructData). x.name) o ≡ Some name → (x : StructData) × (slice_get m.structs s ≡ Some x) × (x.name ≡ name)
    by None at e = cc
    by (Some x) at e = (x, at, same_Some x.name name e)

-- the table of as many structs as there are
pub whole_table : (m : Module) (count : ℕ) (t : Table) → length (structs_of m) ≤ count → IsTableTo m count t → IsTable m t
whole_table m count t past h = subst (λ ss. HasFirsts m ss t) (take_all count (structs_of m) past) h.firsts

-- a table has one struct for a name
pub one_first : (t : Table) (name : List ℕ) (n k : LLVMStruct) → IsFirst t name n → IsFirst t name k → n ≡ k
one_first t name n k (i, found, at) (j, there, is) =
    let same : i ≡ j = same_Some i j (sym found ∙ there) in
    same_Some n k (sym at ∙ ap (slice_get t.firsts.items) same ∙ is)
