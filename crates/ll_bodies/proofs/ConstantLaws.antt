-- What a module may keep as a constant, in numbers, is what a written constant may be made of, in trees.
use Rattle.std.proofs.Common.{◌≡◌, ◌<◌, ◌≤◌, ℕ, zero, suc, Bool, true, false, ◌&&◌, not, nat_eq, if◌then◌else◌, List, [], ◌∷◌, Option, Some, None, All, map, length, slice_get, refl, sym, ap, ◌∙◌, subst, arith}
use Rattle.std.specs.Prelude.{replicate, IfSome}
use Rattle.std.specs.Str.{bytes_eq}
use Rattle.std.specs.List.{find}
use Rattle.std.specs.Option.{option_map, option_map_or, option_and_then}
use Rattle.std.proofs.lemmas.Bool.{eqb-true}
use Rattle.std.proofs.lemmas.Option.{same_Some}
use Rattle.std.proofs.lemmas.List.Elements.{All-nil, All-cons, All-head, All-tail}
use Rattle.support.proofs.ListLaws.{item_there}
use Rattle.kinds.specs.Types.{TypeTree, IntType, ArrayType, VectorType, StructType, NamedType, NoTypes, ThenType, same_tree}
use Rattle.kinds.specs.Structs.{StructBody, Struct, struct_in}
use Rattle.kinds.specs.declared.types.VectorTypeKind.TheVariants as N
use Rattle.kinds.proofs.TypeLaws.{tree_self, tree_told}
use Rattle.llvm_core.specs.declared.numbers.LLVMType.{LLVMType}
use Rattle.llvm_core.specs.declared.numbers.LLVMConst.{LLVMConst}
use Rattle.llvm_core.specs.declared.types.LLVMTypeKind.{LLVMTypeKind}
use Rattle.llvm_core.specs.declared.types.LLVMTypeKind.TheVariants as T
use Rattle.llvm_core.specs.declared.consts.LLVMConstKind.{LLVMConstKind}
use Rattle.llvm_core.specs.declared.consts.LLVMConstKind.TheVariants as C
use Rattle.llvm_core.specs.declared.structs.StructFields.{StructFields}
use Rattle.llvm_core.specs.declared.structs.StructData.{StructData}
use Rattle.llvm_core.specs.Module.{Module}
use Rattle.llvm_core.specs.Parts.{IsTypeOver}
use Rattle.llvm_core.specs.Parts as P
use Rattle.llvm_core.specs.Sound.{IsModule, IsStructIn, AreFieldsIn}
use Rattle.llvm_core.specs.Consts as K
use Rattle.llvm_core.specs.Consts.{IsElement, IsListOf, IsBytesType, AreElements, HasFields, struct_named}
use Rattle.llvm_core.specs.Data.{ConstTree, ConstTrees, NoConsts, ThenConst, type_at, types_at, const_at, consts_at, const_tree, const_type, type_tree, fields_of, struct_of, structs_of, trees_of}
use Rattle.llvm_core.proofs.DataLemmas.{type_tree_of, int_tree_of, const_tree_of, const_type_of}
use Rattle.llvm_core.proofs.WithinLemmas.{const_types_within}
use Rattle.ll_lines.specs.Views.{IsTypeIn}
use Rattle.ll_bodies.specs.Constants.{is_placeholder, is_element, are_all, are_each, body_named, are_elements}
use Rattle.ll_bodies.proofs.TypeLaws.{same_number}

-- ---- tests

pub both : (a b : Bool) → (a && b) ≡ true → (a ≡ true) × (b ≡ true)
both true true h = (refl, refl)
both true false h = absurd (let no : false ≡ true = h in cc (no))
both false b h = absurd (let no : false ≡ true = h in cc (no))

pub passes_both : (a b : Bool) → a ≡ true → b ≡ true → (a && b) ≡ true
passes_both a b h k = rw (h, k) refl

pub not_so : (a : Bool) → not a ≡ true → a ≡ false
not_so false h = refl
not_so true h = absurd (let no : false ≡ true = h in cc (no))

pub no_pass : {A : Type 0} → false ≡ true → A
no_pass h = absurd (cc (h))

-- ---- elements

holder_told : (ts : List TypeTree) (cs : List ConstTree) (k : LLVMConstKind) → is_placeholder (const_tree ts cs k) ≡ K.is_placeholder k
holder_told ts cs (C.Int t v) = refl
holder_told ts cs (C.Filled fill t) = refl
holder_told ts cs (C.Bytes t bytes) = refl
holder_told ts cs (C.List t elements) = refl
holder_told ts cs (C.Splat t element) = refl
holder_told ts cs (C.Placeholder number t) = refl

module _ (m : Module) (s : IsModule m) where
  abbrev tree : LLVMType → TypeTree
  tree t = type_at (trees_of m).types t

  abbrev const : LLVMConst → ConstTree
  const c = const_at (trees_of m).consts c

  holder_at : (c : LLVMConst) (k : LLVMConstKind) → slice_get m.consts c.0 ≡ Some k → is_placeholder (const c) ≡ K.is_placeholder k
  holder_at c k at = ap is_placeholder (const_tree_of m c k at (s.consts_below c.0 k at)) ∙ holder_told (trees_of m).types (trees_of m).consts k

  -- a constant that is there is an element of a type where its tree is one of the type's
  pub element_is : (c : LLVMConst) (t : LLVMType) → c.0 < length m.consts → IsTypeIn m t → is_element (tree t) (const c) ≡ true → IsElement m.consts t c
  element_is c t lt within h =
      let k = item_there m.consts c.0 lt in
      let p = both (same_tree (const_type (const c)) (tree t)) (not (is_placeholder (const c))) h in
      let own = const_types_within m s c.0 k.0 k.1 in
      let types : same_tree (tree (P.const_type k.0)) (tree t) ≡ true = ap (λ (τ : TypeTree). same_tree τ (tree t)) (sym (const_type_of m c k.0 s k.1)) ∙ p.0 in
      let number : (P.const_type k.0).0 ≡ t.0 = eqb-true (P.const_type k.0).0 t.0 (sym (same_number m s (P.const_type k.0) t own within) ∙ types) in
      let is : P.const_type k.0 ≡ t = ap (λ (n : ℕ). let u : LLVMType = record { 0 = n } in u) number in
      (k.0, k.1, (is, sym (holder_at c k.0 k.1) ∙ not_so (is_placeholder (const c)) p.1))

  pub is_element_there : (c : LLVMConst) (t : LLVMType) → IsElement m.consts t c → is_element (tree t) (const c) ≡ true
  is_element_there c t h =
      let at : slice_get m.consts c.0 ≡ Some h.0 = h.1 in
      let is : P.const_type h.0 ≡ t = h.2.0 in
      let types : const_type (const c) ≡ tree t = const_type_of m c h.0 s at ∙ ap tree is in
      let same : same_tree (const_type (const c)) (tree t) ≡ true = ap (λ (τ : TypeTree). same_tree τ (tree t)) types ∙ tree_self (tree t) in
      let holder : is_placeholder (const c) ≡ false = holder_at c h.0 at ∙ h.2.1 in
      passes_both (same_tree (const_type (const c)) (tree t)) (not (is_placeholder (const c))) same (ap not holder)

  -- ---- lists of elements

  -- each constant is an element of the type at its place
  pub record Fit (us : List LLVMType) (cs : List LLVMConst) : Type 0 where
    pub count : length cs ≡ length us
    pub each : (i : ℕ) (c : LLVMConst) (u : LLVMType) → slice_get cs i ≡ Some c → slice_get us i ≡ Some u → IsElement m.consts u c

  fit_none : Fit [] []
  fit_none = record { count = refl; each = λ i c u h k. absurd (cc (h)) }

  fit_more : (u : LLVMType) (us : List LLVMType) (c : LLVMConst) (cs : List LLVMConst) → IsElement m.consts u c → Fit us cs → Fit (u ∷ us) (c ∷ cs)
  fit_more u us c cs e f = record { count = ap suc f.count; each = at }
    where
      at : (i : ℕ) (d : LLVMConst) (v : LLVMType) → slice_get (c ∷ cs) i ≡ Some d → slice_get (u ∷ us) i ≡ Some v → IsElement m.consts v d
      at zero d v h k =
          let a : c ≡ d = same_Some c d h in
          let b : u ≡ v = same_Some u v k in
          subst (λ (x : LLVMType). IsElement m.consts x d) b (subst (λ (x : LLVMConst). IsElement m.consts u x) a e)
      at (suc i) d v h k = f.each i d v h k

  pub each_fit : (us : List LLVMType) (cs : List LLVMConst) → All (IsTypeIn m) us → All (λ (c : LLVMConst). c.0 < length m.consts) cs
      → are_each (types_at (trees_of m).types us) (consts_at (trees_of m).consts cs) ≡ true → Fit us cs
  each_fit [] [] g h e = fit_none
  each_fit [] (c ∷ cs) g h e = no_pass e
  each_fit (u ∷ us) [] g h e = no_pass e
  each_fit (u ∷ us) (c ∷ cs) g h e =
      let p = both (is_element (tree u) (const c)) (are_each (types_at (trees_of m).types us) (consts_at (trees_of m).consts cs)) e in
      let one = element_is c u (All-head (λ (d : LLVMConst). d.0 < length m.consts) c cs h) (All-head (IsTypeIn m) u us g) p.0 in
      fit_more u us c cs one (each_fit us cs (All-tail (IsTypeIn m) u us g) (All-tail (λ (d : LLVMConst). d.0 < length m.consts) c cs h) p.1)

  pub fit_each : (us : List LLVMType) (cs : List LLVMConst) → Fit us cs → are_each (types_at (trees_of m).types us) (consts_at (trees_of m).consts cs) ≡ true
  fit_each [] [] f = refl
  fit_each [] (c ∷ cs) f = absurd (let n = f.count in omega (arith, n))
  fit_each (u ∷ us) [] f = absurd (let n = f.count in omega (arith, n))
  fit_each (u ∷ us) (c ∷ cs) f =
      let rest : Fit us cs = record { count = (let n = f.count in omega (arith, n)); each = λ i d v h k. f.each (suc i) d v h k } in
      passes_both (is_element (tree u) (const c)) (are_each (types_at (trees_of m).types us) (consts_at (trees_of m).consts cs))
      (is_element_there c u (f.each 0 c u refl refl)) (fit_each us cs rest)

  -- so many of one type
  pub all_told : (n : ℕ) (u : LLVMType) (cs : List LLVMConst) → are_all n (tree u) (consts_at (trees_of m).consts cs) ≡ are_each (types_at (trees_of m).types (replicate n u)) (consts_at (trees_of m).consts cs)
  all_told zero u [] = refl
  all_told zero u (c ∷ cs) = refl
  all_told (suc n) u [] = refl
  all_told (suc n) u (c ∷ cs) = ap (λ (b : Bool). is_element (tree u) (const c) && b) (all_told n u cs)

-- ---- so many times one thing

pub all_copies : {X : Type 0} (P : X → Type 0) (n : ℕ) (x : X) → P x → All P (replicate n x)
all_copies P zero x p = All-nil P
all_copies P (suc n) x p = All-cons P x (replicate n x) p (all_copies P n x p)

pub count_copies : {X : Type 0} (n : ℕ) (x : X) → length (replicate n x) ≡ n
count_copies zero x = refl
count_copies (suc n) x = ap suc (count_copies n x)

pub are_copies : {X : Type 0} (n : ℕ) (x : X) (xs : List X) → length xs ≡ n → All (λ (y : X). y ≡ x) xs → xs ≡ replicate n x
are_copies zero x [] e h = refl
are_copies zero x (y ∷ xs) e h = absurd (omega (arith, e))
are_copies (suc n) x [] e h = absurd (omega (arith, e))
are_copies (suc n) x (y ∷ xs) e h =
    let same : y ≡ x = All-head (λ z. z ≡ x) y xs h in
    let rest = are_copies n x xs (omega (arith, e)) (All-tail (λ z. z ≡ x) y xs h) in
    ap (λ z. z ∷ xs) same ∙ ap (λ zs. x ∷ zs) rest

-- ---- structs by name

module _ (ts : List TypeTree) (name : List ℕ) where
  abbrev is_named : StructData → Bool
  is_named x = bytes_eq x.name name

  struct_looked_up : (xs : List StructData) → struct_in (map (struct_of ts) xs) name ≡ option_map (struct_of ts) (struct_named xs name)
  struct_looked_up [] = refl
  struct_looked_up (x ∷ xs) = by (is_named x) (struct_looked_up xs)
    where
      by : (b : Bool) → struct_in (map (struct_of ts) xs) name ≡ option_map (struct_of ts) (struct_named xs name)
          → (if b then Some (struct_of ts x) else struct_in (map (struct_of ts) xs) name) ≡ option_map (struct_of ts) (if b then Some x else struct_named xs name)
      by true e = refl
      by false e = e

  -- what holds of each struct holds of the one that is found
  found_holds : (Q : StructData → Type 0) (xs : List StructData) (x : StructData) → All Q xs → struct_named xs name ≡ Some x → Q x
  found_holds Q [] x h e = absurd (let no : None ≡ Some x = e in cc (no))
  found_holds Q (y ∷ xs) x h e = by (is_named y) (λ f. found_holds Q xs x (All-tail Q y xs h) f) e
    where
      by : (b : Bool) → (struct_named xs name ≡ Some x → Q x) → (if b then Some y else struct_named xs name) ≡ Some x → Q x
      by true rest e = subst Q (same_Some y x e) (All-head Q y xs h)
      by false rest e = rest e

-- the fields that are told of the struct of a name
abbrev pub told_fields : Module → List ℕ → Option StructFields
told_fields m name = option_and_then (λ (x : StructData). x.body) (struct_named m.structs name)

pub body_told : (m : Module) (name : List ℕ) → body_named (structs_of m) name ≡ option_map (fields_of (trees_of m).types) (told_fields m name)
body_told m name = ap (option_and_then (λ (x : Struct). x.body)) (struct_looked_up (trees_of m).types name m.structs) ∙ by (struct_named m.structs name)
  where
    by : (o : Option StructData) → option_and_then (λ (x : Struct). x.body) (option_map (struct_of (trees_of m).types) o) ≡ option_map (fields_of (trees_of m).types) (option_and_then (λ (x : StructData). x.body) o)
    by None = refl
    by (Some x) = refl

pub fields_within : (m : Module) (s : IsModule m) (name : List ℕ) (b : StructFields) → told_fields m name ≡ Some b → All (IsTypeIn m) b.types
fields_within m s name b h = by (struct_named m.structs name) refl h
  where
    by_body : (o : Option StructFields) → IfSome o (AreFieldsIn m.types) → o ≡ Some b → All (IsTypeIn m) b.types
    by_body None g e = absurd (let no : None ≡ Some b = e in cc (no))
    by_body (Some f) g e = subst (λ (f : StructFields). All (IsTypeIn m) f.types) (same_Some f b e) g.within

    by : (o : Option StructData) → struct_named m.structs name ≡ o → option_and_then (λ (x : StructData). x.body) o ≡ Some b → All (IsTypeIn m) b.types
    by None e h = absurd (let no : None ≡ Some b = h in cc (no))
    by (Some x) e h = by_body x.body (found_holds (trees_of m).types name (IsStructIn m.types) m.structs x s.structs e) h

pub has_fields : (m : Module) (name : List ℕ) (b : StructFields) → told_fields m name ≡ Some b → HasFields m.structs name b.types
has_fields m name b h = by (struct_named m.structs name) refl h
  where
    by : (o : Option StructData) → struct_named m.structs name ≡ o → option_and_then (λ (x : StructData). x.body) o ≡ Some b → HasFields m.structs name b.types
    by None e h = absurd (let no : None ≡ Some b = h in cc (no))
    by (Some x) e h = (x, b, e, h, refl)

-- how the fields of the struct of a name lie, where it is found or not
pub layout_missed : (m : Module) (name : List ℕ) → struct_named m.structs name ≡ None → option_map (λ (b : StructBody). b.layout) (body_named (structs_of m) name) ≡ None
layout_missed m name h = ap (option_map (λ (b : StructBody). b.layout)) (body_told m name ∙ ap (λ (o : Option StructData). option_map (fields_of (trees_of m).types) (option_and_then (λ (x : StructData). x.body) o)) h)

pub layout_found : (m : Module) (name : List ℕ) (x : StructData) (o : Option StructFields) → struct_named m.structs name ≡ Some x → x.body ≡ o
    → option_map (λ (b : StructBody). b.layout) (body_named (structs_of m) name) ≡ option_map (λ (b : StructFields). b.layout) o
layout_found m name x o h is =
    ap (option_map (λ (b : StructBody). b.layout)) (body_told m name ∙ ap (λ (o : Option StructData). option_map (fields_of (trees_of m).types) (option_and_then (λ (x : StructData). x.body) o)) h)
    ∙ ap (λ (b : Option StructFields). option_map (λ (b : StructBody). b.layout) (option_map (fields_of (trees_of m).types) b)) is ∙ by o
  where
    by : (o : Option StructFields) → option_map (λ (b : StructBody). b.layout) (option_map (fields_of (trees_of m).types) o) ≡ option_map (λ (b : StructFields). b.layout) o
    by None = refl
    by (Some b) = refl
