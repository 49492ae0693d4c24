-- How deep the types of a module nest, by their kinds and by the names of its structs.
use Rattle.std.proofs.Common.{◌≡◌, ◌<◌, ◌+◌, ◌-◌, ℕ, zero, suc, Bool, true, false, ◌&&◌, List, [], ◌∷◌, ◌++◌, Option, Some, None, map, length, take, get_or, slice_get, refl, sym, ap, subst, ◌∙◌, arith}
use Rattle.std.specs.Prelude.{max, position}
use Rattle.std.specs.List.{position_or_len}
use Rattle.std.specs.Option.{option_map, option_map_or}
use Rattle.std.specs.Str.{bytes_eq}
use Rattle.std.proofs.lemmas.List.{take_more, length-map}
use Rattle.std.proofs.lemmas.List.Folds.{find_at}
use Rattle.std.proofs.lemmas.Option.{same_Some, slice_get_past, slice_get-map}
use Rattle.kinds.specs.Types.{TypeTree}
use Rattle.kinds.specs.Structs.{StructBody, Struct, struct_in, each_type, each_field, nests}
use Rattle.kinds.proofs.NestLaws.{nests_from, each_nests_from}
use Rattle.llvm_core.specs.declared.numbers.LLVMType.{LLVMType}
use Rattle.llvm_core.specs.declared.types.LLVMTypeKind.{LLVMTypeKind}
use Rattle.llvm_core.specs.declared.types.LLVMTypeKind.TheVariants as T
use Rattle.llvm_core.specs.declared.structs.StructFields.{StructFields}
use Rattle.llvm_core.specs.declared.structs.StructData.{StructData}
use Rattle.llvm_core.specs.Keys.{same_text}
use Rattle.llvm_core.specs.Module.{Module}
use Rattle.llvm_core.specs.Parts.{IsTypeOver}
use Rattle.llvm_core.specs.Data.{type_at, types_at, trees_of, fields_of, struct_of, structs_of}
use Rattle.llvm_core.specs.Checked.{struct_names}
use Rattle.llvm_core.specs.Depths.{IsLeast, IsLeastWithin, nests_at, all_nest_at, parts_nest_at, fields_nest_at}
use Rattle.llvm_core.proofs.TreeLemmas.{type_at-kind}
use Rattle.llvm_core.proofs.NameLemmas.{first_alike, position_there, position_past}
use Rattle.llvm_core.proofs.LeastLemmas.{Rises, within_same, least_later, within_both, none_first, none_second}

-- ---- lists of types

each_push : (p : TypeTree → Bool) (ts : List TypeTree) (xs : List LLVMType) (x : LLVMType) → each_type p (types_at ts (xs ++ x ∷ [])) ≡ (each_type p (types_at ts xs) && p (type_at ts x))
each_push p ts [] x = by (p (type_at ts x))
  where
    by : (b : Bool) → (b && true) ≡ (true && b)
    by true = refl
    by false = refl
each_push p ts (y ∷ xs) x = ap (λ b. p (type_at ts y) && b) (each_push p ts xs x) ∙ by (p (type_at ts y))
  where
    by : (b : Bool) → (b && (each_type p (types_at ts xs) && p (type_at ts x))) ≡ ((b && each_type p (types_at ts xs)) && p (type_at ts x))
    by true = refl
    by false = refl

each_fails : (p : TypeTree → Bool) (ts : List TypeTree) (xs : List LLVMType) (i : ℕ) (d : LLVMType) → i < length xs → p (type_at ts (get_or xs i d)) ≡ false → each_type p (types_at ts xs) ≡ false
each_fails p ts [] i d lt h = absurd (omega arith)
each_fails p ts (x ∷ xs) zero d lt h = cc
each_fails p ts (x ∷ xs) (suc i) d lt h =
    let rest = each_fails p ts xs i d (omega arith) h in
    by (p (type_at ts x)) rest
  where
    by : (b : Bool) → each_type p (types_at ts xs) ≡ false → (b && each_type p (types_at ts xs)) ≡ false
    by true e = e
    by false e = refl

module _ (m : Module) where
  type_rises : (t : LLVMType) → Rises (nests_at m t)
  type_rises t n k le h = nests_from (structs_of m) n k (type_at (trees_of m).types t) le h

  types_rise : (ts : List LLVMType) → Rises (all_nest_at m ts)
  types_rise ts n k le h = each_nests_from (structs_of m) n k (types_at (trees_of m).types ts) le h

  -- one type more
  pub all_more : (xs : List LLVMType) (i : ℕ) (d : LLVMType) (left a b : ℕ) → i < length xs → IsLeastWithin (all_nest_at m (take i xs)) left (Some a) → IsLeastWithin (nests_at m (get_or xs i d)) left (Some b)
      → (c : ℕ) → c ≡ max a b → IsLeastWithin (all_nest_at m (take (i + 1) xs)) left (Some c)
  all_more xs i d left a b lt h g c e =
      let x = get_or xs i d in
      let grown = within_both (all_nest_at m (take i xs)) (nests_at m x) (all_nest_at m (take i xs ++ x ∷ [])) (types_rise (take i xs)) (type_rises x) (λ n. each_push (nests (structs_of m) n) (trees_of m).types (take i xs) x) left a b h g in
      subst (λ (n : ℕ). IsLeastWithin (all_nest_at m (take (i + 1) xs)) left (Some n)) (sym e) (subst (λ (ys : List LLVMType). IsLeastWithin (all_nest_at m ys) left (Some (max a b))) (sym (take_more xs i d lt)) grown)

  pub all_fail : (xs : List LLVMType) (i : ℕ) (d : LLVMType) (left : ℕ) → i < length xs → nests_at m (get_or xs i d) left ≡ false → all_nest_at m xs left ≡ false
  all_fail xs i d left lt h = each_fails (nests (structs_of m) left) (trees_of m).types xs i d lt h

  -- ---- a type and its parts

  pub function_parts : (r : LLVMType) (ps : List LLVMType) (v : Bool) (left a b c : ℕ) → IsLeastWithin (nests_at m r) left (Some a) → IsLeastWithin (all_nest_at m ps) left (Some b) → c ≡ max a b → IsLeastWithin (parts_nest_at m (T.Function r ps v)) left (Some c)
  function_parts r ps v left a b c h g e =
      subst (λ (n : ℕ). IsLeastWithin (parts_nest_at m (T.Function r ps v)) left (Some n)) (sym e) (within_both (nests_at m r) (all_nest_at m ps) (parts_nest_at m (T.Function r ps v)) (type_rises r) (types_rise ps) (λ n. refl) left a b h g)

  pub no_result : (r : LLVMType) (ps : List LLVMType) (v : Bool) (left : ℕ) → nests_at m r left ≡ false → parts_nest_at m (T.Function r ps v) left ≡ false
  no_result r ps v left h = none_first (nests_at m r) (all_nest_at m ps) (parts_nest_at m (T.Function r ps v)) (type_rises r) (types_rise ps) (λ n. refl) left h

  pub no_params : (r : LLVMType) (ps : List LLVMType) (v : Bool) (left : ℕ) → all_nest_at m ps left ≡ false → parts_nest_at m (T.Function r ps v) left ≡ false
  no_params r ps v left h = none_second (nests_at m r) (all_nest_at m ps) (parts_nest_at m (T.Function r ps v)) (type_rises r) (types_rise ps) (λ n. refl) left h

  module _ (t : LLVMType) (k : LLVMTypeKind) (at : slice_get m.types t.0 ≡ Some k) (over : IsTypeOver t.0 k) where
    -- a type nests one deeper than its parts
    pub by_parts : (n : ℕ) → nests_at m t (suc n) ≡ parts_nest_at m k n
    by_parts n = ap (nests (structs_of m) (suc n)) (type_at-kind m.types t k at over)

    pub one_deeper : (n d : ℕ) → IsLeast (parts_nest_at m k) n → d ≡ 1 + n → IsLeast (nests_at m t) d
    one_deeper n d h e = subst (IsLeast (nests_at m t)) (let same : suc n ≡ d = omega arith in same) (least_later (parts_nest_at m k) (nests_at m t) refl by_parts n h)

    pub too_little : (left : ℕ) → ¬ (left ≡ 0) → parts_nest_at m k (left - 1) ≡ false → nests_at m t left ≡ false
    too_little left some h = let one : suc (left - 1) ≡ left = omega arith in subst (λ (n : ℕ). nests_at m t n ≡ false) one (by_parts (left - 1) ∙ h)

  -- no type nests in no depth
  pub none_left : (t : LLVMType) (left : ℕ) → left ≡ 0 → nests_at m t left ≡ false
  none_left t left e = ap (nests_at m t) e

-- ---- structs by name

same_names : (a b : List ℕ) → bytes_eq a b ≡ bytes_eq b a
same_names a b = by (bytes_eq a b) refl (bytes_eq b a) refl
  where
    by : (x : Bool) → bytes_eq a b ≡ x → (y : Bool) → bytes_eq b a ≡ y → x ≡ y
    by true e true f = refl
    by false e false f = refl
    by true e false f = let g = (same_text b a).1 (sym ((same_text a b).0 e)) in cc
    by false e true f = let g = (same_text a b).1 (sym ((same_text b a).0 f)) in cc

-- a look-up by name finds the struct at the place of the name
module _ (ts : List TypeTree) (xs : List StructData) (name : List ℕ) where
  abbrev has_name : Struct → Bool
  has_name s = bytes_eq s.name name

  same_place : position_or_len has_name (map (struct_of ts) xs) ≡ position_or_len (bytes_eq name) (map (λ (x : StructData). x.name) xs)
  same_place =
      sym (first_alike (λ (x : StructData). bytes_eq x.name name) has_name (struct_of ts) (λ x. refl) xs)
      ∙ first_alike (λ (x : StructData). bytes_eq x.name name) (bytes_eq name) (λ (x : StructData). x.name) (λ x. same_names x.name name) xs

  looked_up : struct_in (map (struct_of ts) xs) name ≡ slice_get (map (struct_of ts) xs) (position_or_len (bytes_eq name) (map (λ (x : StructData). x.name) xs))
  looked_up = find_at has_name (map (struct_of ts) xs) ∙ ap (slice_get (map (struct_of ts) xs)) same_place

  pub struct_found : (i : ℕ) → position (bytes_eq name) (map (λ (x : StructData). x.name) xs) ≡ Some i → (x : StructData) → slice_get xs i ≡ Some x → struct_in (map (struct_of ts) xs) name ≡ Some (struct_of ts x)
  struct_found i h x at =
      let there = position_there (bytes_eq name) (map (λ (x : StructData). x.name) xs) i h in
      looked_up ∙ ap (slice_get (map (struct_of ts) xs)) there.0 ∙ slice_get-map (struct_of ts) xs i ∙ ap (option_map (struct_of ts)) at

  pub struct_missed : position (bytes_eq name) (map (λ (x : StructData). x.name) xs) ≡ None → struct_in (map (struct_of ts) xs) name ≡ None
  struct_missed h =
      let past = position_past (bytes_eq name) (map (λ (x : StructData). x.name) xs) h in
      let names = length-map xs (λ (x : StructData). x.name) in
      let structs = length-map xs (struct_of ts) in
      looked_up ∙ slice_get_past (map (struct_of ts) xs) (position_or_len (bytes_eq name) (map (λ (x : StructData). x.name) xs)) (omega (arith, past, names, structs))

module _ (m : Module) (name : List ℕ) where
  -- a struct that is not there nests in no depth
  pub no_struct : (left : ℕ) → position (bytes_eq name) (struct_names m) ≡ None → fields_nest_at m name left ≡ false
  no_struct left h = ap (λ o. option_map_or (each_field (nests (structs_of m) left)) o false) (struct_missed (trees_of m).types m.structs name h)

  pub place_within : (i : ℕ) → position (bytes_eq name) (struct_names m) ≡ Some i → i < length m.structs
  place_within i h =
      let there = position_there (bytes_eq name) (struct_names m) i h in
      let names = length-map m.structs (λ (x : StructData). x.name) in
      omega (arith, there.1, names)

  module _ (i : ℕ) (h : position (bytes_eq name) (struct_names m) ≡ Some i) where
    by_struct : (x : StructData) → slice_get m.structs i ≡ Some x → (n : ℕ) → fields_nest_at m name n ≡ each_field (nests (structs_of m) n) (struct_of (trees_of m).types x)
    by_struct x at n = ap (λ o. option_map_or (each_field (nests (structs_of m) n)) o false) (struct_found (trees_of m).types m.structs name i h x at)

    pub body_there : (o : Option StructFields) → option_map (λ (x : StructData). x.body) (slice_get m.structs i) ≡ Some o → (x : StructData) × (slice_get m.structs i ≡ Some x) × (x.body ≡ o)
    body_there o e = by (slice_get m.structs i) refl e
      where
        by : (y : Option StructData) → slice_get m.structs i ≡ y → option_map (λ (x : StructData). x.body) y ≡ Some o → (x : StructData) × (slice_get m.structs i ≡ Some x) × (x.body ≡ o)
        by None at e = cc
        by (Some x) at e = (x, at, same_Some x.body o e)

    -- an opaque struct has no fields
    pub by_opaque : option_map (λ (x : StructData). x.body) (slice_get m.structs i) ≡ Some None → fields_nest_at m name 0 ≡ true
    by_opaque e =
        let x = body_there None e in
        by_struct x.0 x.1 0 ∙ ap (λ o. option_map_or (λ (b : StructBody). each_type (nests (structs_of m) 0) b.fields) (option_map (fields_of (trees_of m).types) o) true) x.2

    pub same_fields : (b : StructFields) → option_map (λ (x : StructData). x.body) (slice_get m.structs i) ≡ Some (Some b) → (n : ℕ) → fields_nest_at m name n ≡ all_nest_at m b.types n
    same_fields b e n =
        let x = body_there (Some b) e in
        by_struct x.0 x.1 n ∙ ap (λ o. option_map_or (λ (b : StructBody). each_type (nests (structs_of m) n) b.fields) (option_map (fields_of (trees_of m).types) o) true) x.2

    pub by_fields : (b : StructFields) → option_map (λ (x : StructData). x.body) (slice_get m.structs i) ≡ Some (Some b) → (left : ℕ) (r : Option ℕ) → IsLeastWithin (all_nest_at m b.types) left r → IsLeastWithin (fields_nest_at m name) left r
    by_fields b e = within_same (all_nest_at m b.types) (fields_nest_at m name) (same_fields b e)
