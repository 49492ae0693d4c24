-- A table of types that grows keeps its types, and equal types have one place.
use Rattle.std.proofs.Common.{true, ◌≤◌, All, Option, ◌≡◌, ◌<◌, inl, inr, ℕ, List, [], ◌∷◌, ◌++◌, Some, length, slice_get, get_or, sym, ap, subst, ◌∙◌, arith, length-append}
use Rattle.std.proofs.lemmas.Option.{none-some, slice_get_within, slice_get-get_or, get_or_from_slice_get}
use Rattle.support.specs.Interned.{Interned, IsDistinctList}
use Rattle.std.specs.Option.{option_map_or}
use Rattle.std.proofs.lemmas.List.Elements.{All-nil, All-cons, All-head, All-tail}
use Rattle.support.proofs.ListLaws.{slice_get-push_cases, item_there}
use Rattle.llvm_core.specs.declared.numbers.LLVMType.{LLVMType}
use Rattle.llvm_core.specs.declared.types.LLVMTypeKind.{LLVMTypeKind}
use Rattle.llvm_core.specs.Module.{Module}
use Rattle.llvm_core.specs.Sound.{IsStructIn, IsModule}
use Rattle.llvm_core.specs.declared.types.LLVMTypeKind.TheVariants as T
use Rattle.kinds.specs.declared.fitting.Shape.TheVariants as S
use Rattle.kinds.specs.Types.{shape, types_list}
use Rattle.kinds.specs.Fitting.{is_field, is_array_of, is_vector_of}
use Rattle.llvm_core.specs.Parts.{IsTypeOver, HasFitParts, shape_of, shape_at}
use Rattle.llvm_core.proofs.RuleLaws.{shape_kept}
use Rattle.llvm_core.proofs.WholeTypes.{shape_there}
use Rattle.support.proofs.InternedLaws.{interned_cases}
use Rattle.llvm_core.specs.Data.{TypeTree, VoidType, type_at, types_at, type_tree, type_trees}
use Rattle.llvm_core.proofs.TreeLemmas.{same_tree, type_at-kind, type_at-kept, length-type_trees}
use Rattle.llvm_core.proofs.ApartLemmas.{apart}
use Rattle.tracing.specs.Types.{AreOver, IsFitTree, IsTypeTable, KeepsTypes, Stands}

abbrev numbered : ℕ → LLVMType
numbered n = record { 0 = n }

-- ---- equal types have one place

-- the module that has these types and nothing else
abbrev only : List LLVMTypeKind → Module
only ks = record { name = []; types = ks; consts = []; structs = []; functions = []; blocks = []; insts = [] }

-- what rules look at in a type of a table is that of its tree
shape_in : (ks : List LLVMTypeKind) → AreOver ks → (t : LLVMType) → t.0 < length ks → shape_at ks t ≡ shape (type_at (type_trees ks) t)
shape_in ks over t lt =
    let k = item_there ks t.0 lt in
    ap (λ (o : Option LLVMTypeKind). option_map_or shape_of o S.Void) k.1 ∙ shape_kept (type_trees ks) k.0 ∙ ap shape (sym (type_at-kind ks t k.0 k.1 (over t.0 k.0 k.1)))

fields_by_tree : (ks : List LLVMTypeKind) → AreOver ks → (n : ℕ) → n ≤ length ks → (ts : List LLVMType) → All (λ (t : LLVMType). t.0 < n) ts → All (λ (t : TypeTree). is_field (shape t) ≡ true) (types_list (types_at (type_trees ks) ts))
    → All (λ (t : LLVMType). is_field (shape_at ks t) ≡ true) ts
fields_by_tree ks over n le [] below h = All-nil (λ (t : LLVMType). is_field (shape_at ks t) ≡ true)
fields_by_tree ks over n le (t ∷ ts) below h =
    let B : LLVMType → Type 0 = λ t. t.0 < n in
    let F : TypeTree → Type 0 = λ t. is_field (shape t) ≡ true in
    let τ = type_at (type_trees ks) t in
    let τs = types_list (types_at (type_trees ks) ts) in
    All-cons (λ (t : LLVMType). is_field (shape_at ks t) ≡ true) t ts (ap is_field (shape_in ks over t (omega (arith, All-head B t ts below, le))) ∙ All-head F τ τs h)
    (fields_by_tree ks over n le ts (All-tail B t ts below) (All-tail F τ τs h))

-- a kind is made of what it may be made of, where its tree is: a line for each kind
fit_by_tree : (ks : List LLVMTypeKind) → AreOver ks → (n : ℕ) → n ≤ length ks → (k : LLVMTypeKind) → IsTypeOver n k → IsFitTree (type_tree (type_trees ks) k) → HasFitParts ks k
fit_by_tree ks over n le (T.Array count t) below h = ap (is_array_of count) (shape_in ks over t (omega (arith, below, le))) ∙ h
fit_by_tree ks over n le (T.Vector kind count t) below h = ap (is_vector_of count) (shape_in ks over t (omega (arith, below, le))) ∙ h
fit_by_tree ks over n le (T.Literal fields layout) below h = fields_by_tree ks over n le fields below h
fit_by_tree ks over n le T.Void below h = tt
fit_by_tree ks over n le (T.Int width) below h = tt
fit_by_tree ks over n le (T.Ptr space) below h = tt
fit_by_tree ks over n le (T.Floating of) below h = tt
fit_by_tree ks over n le (T.Other of) below h = tt
fit_by_tree ks over n le (T.Named name) below h = tt
fit_by_tree ks over n le (T.Function r ps v) below h = tt

fields_to_tree : (m : Module) → IsModule m → (n : ℕ) → n ≤ length m.types → (ts : List LLVMType) → All (λ (t : LLVMType). t.0 < n) ts → All (λ (t : LLVMType). is_field (shape_at m.types t) ≡ true) ts
    → All (λ (t : TypeTree). is_field (shape t) ≡ true) (types_list (types_at (type_trees m.types) ts))
fields_to_tree m s n le [] below h = All-nil (λ (t : TypeTree). is_field (shape t) ≡ true)
fields_to_tree m s n le (t ∷ ts) below h =
    let B : LLVMType → Type 0 = λ t. t.0 < n in
    let F : LLVMType → Type 0 = λ t. is_field (shape_at m.types t) ≡ true in
    All-cons (λ (t : TypeTree). is_field (shape t) ≡ true) (type_at (type_trees m.types) t) (types_list (types_at (type_trees m.types) ts))
    (ap is_field (sym (shape_there m s t (omega (arith, All-head B t ts below, le)))) ∙ All-head F t ts h) (fields_to_tree m s n le ts (All-tail B t ts below) (All-tail F t ts h))

-- and the tree of a kind of a module is made of what it may be made of: a line for each kind
pub fit_to_tree : (m : Module) → IsModule m → (n : ℕ) → n ≤ length m.types → (k : LLVMTypeKind) → IsTypeOver n k → HasFitParts m.types k → IsFitTree (type_tree (type_trees m.types) k)
fit_to_tree m s n le (T.Array count t) below h = ap (is_array_of count) (sym (shape_there m s t (omega (arith, below, le)))) ∙ h
fit_to_tree m s n le (T.Vector kind count t) below h = ap (is_vector_of count) (sym (shape_there m s t (omega (arith, below, le)))) ∙ h
fit_to_tree m s n le (T.Literal fields layout) below h = fields_to_tree m s n le fields below h
fit_to_tree m s n le T.Void below h = tt
fit_to_tree m s n le (T.Int width) below h = tt
fit_to_tree m s n le (T.Ptr space) below h = tt
fit_to_tree m s n le (T.Floating of) below h = tt
fit_to_tree m s n le (T.Other of) below h = tt
fit_to_tree m s n le (T.Named name) below h = tt
fit_to_tree m s n le (T.Function r ps v) below h = tt

only_sound : (ks : List LLVMTypeKind) → IsTypeTable ks → IsDistinctList ks → IsModule (only ks)
only_sound ks table once = record {
  types = table.over;
  types_fit = λ i k at. fit_by_tree ks table.over i (omega (arith, slice_get_within ks i k at)) k (table.over i k at) (table.fit i k at);
  types_once = once;
  consts = λ i x at. absurd (none-some x at);
  consts_below = λ i x at. absurd (none-some x at);
  consts_once = λ i j x at at'. absurd (none-some x at);
  structs = All-nil (IsStructIn ks);
  functions = λ i x at. absurd (none-some x at);
  blocks = λ i x at. absurd (none-some x at);
  insts = λ i x at. absurd (none-some x at);
  listed_blocks = λ i x at. absurd (none-some x at);
  listed_insts = λ i x at. absurd (none-some x at);
  owned_blocks = λ i x at. absurd (none-some x at);
  owned_insts = λ i x at. absurd (none-some x at);
}

within : (ks : List LLVMTypeKind) (i : ℕ) (t : TypeTree) → slice_get (type_trees ks) i ≡ Some t → i < length ks
within ks i t at = omega (arith, length-type_trees ks, slice_get_within (type_trees ks) i t at)

pub types_apart : (ks : List LLVMTypeKind) → IsTypeTable ks → IsDistinctList ks → IsDistinctList (type_trees ks)
types_apart ks table once i j t at_i at_j =
    let same = get_or_from_slice_get (type_trees ks) i t VoidType at_i ∙ sym (get_or_from_slice_get (type_trees ks) j t VoidType at_j) in
    ap (λ (u : LLVMType). u.0) ((apart (only ks) (only_sound ks table once)).types (numbered i) (numbered j) (within ks i t at_i) (within ks j t at_j) same)

-- ---- types by place

-- the tree of a kind stands where the kind does
pub stands_kind : (ks : List LLVMTypeKind) (t : LLVMType) (k : LLVMTypeKind) → AreOver ks → slice_get ks t.0 ≡ Some k → Stands (type_trees ks) t (type_tree (type_trees ks) k)
stands_kind ks t k over at =
    let lt : t.0 < length (type_trees ks) = omega (arith, length-type_trees ks, slice_get_within ks t.0 k at) in
    slice_get-get_or (type_trees ks) t.0 VoidType lt ∙ ap Some (type_at-kind ks t k at (over t.0 k at))

appended_keeps : (old more : List LLVMTypeKind) → KeepsTypes (type_trees old) (type_trees (old ++ more))
appended_keeps old more k t at =
    let lt = within old k t at in
    let lt' : k < length (type_trees (old ++ more)) = omega (arith, lt, length-type_trees (old ++ more), length-append old more) in
    slice_get-get_or (type_trees (old ++ more)) k VoidType lt' ∙ ap Some (type_at-kept old more (numbered k) lt ∙ get_or_from_slice_get (type_trees old) k t VoidType at)

-- ---- a type is put in

pushed : (old : List LLVMTypeKind) (x : LLVMTypeKind) → AreOver old → IsTypeOver (length old) x → AreOver (old ++ x ∷ [])
pushed old x over here i y at = elim (slice_get-push_cases old x i y at) [
  | inl there ↦ over i y there
  | inr last ↦ subst (λ (n : ℕ). IsTypeOver n y) (sym last.0) (subst (IsTypeOver (length old)) (sym last.1) here)
]

pub interned_over : (old new : List LLVMTypeKind) (x : LLVMTypeKind) (n : ℕ) → AreOver old → IsTypeOver (length old) x → Interned old new x n → AreOver new
interned_over old new x n over here h = elim h.only [
  | inl e ↦ subst AreOver (sym e) over
  | inr e ↦ subst AreOver (sym e) (pushed old x over here)
]

pub interned_keeps : (old new : List LLVMTypeKind) (x : LLVMTypeKind) (n : ℕ) → Interned old new x n → KeepsTypes (type_trees old) (type_trees new)
interned_keeps old new x n h = elim h.only [
  | inl e ↦ subst (λ (ks : List LLVMTypeKind). KeepsTypes (type_trees old) (type_trees ks)) (sym e) (λ k t at. at)
  | inr e ↦ subst (λ (ks : List LLVMTypeKind). KeepsTypes (type_trees old) (type_trees ks)) (sym e) (appended_keeps old (x ∷ []))
]

-- what was over the old types has the same tree over the new
same_kept : (old new : List LLVMTypeKind) (x : LLVMTypeKind) → KeepsTypes (type_trees old) (type_trees new) → IsTypeOver (length old) x → type_tree (type_trees new) x ≡ type_tree (type_trees old) x
same_kept old new x keeps here =
    let agree : (j : ℕ) → j < length old → get_or (type_trees new) j VoidType ≡ get_or (type_trees old) j VoidType = λ j lt.
    get_or_from_slice_get (type_trees new) j _ VoidType (keeps j (get_or (type_trees old) j VoidType) (slice_get-get_or (type_trees old) j VoidType (omega (arith, lt, length-type_trees old)))) in
    same_tree (type_trees new) (type_trees old) (length old) agree x here

pub interned_stands : (old new : List LLVMTypeKind) (x : LLVMTypeKind) (n : ℕ) → AreOver old → IsTypeOver (length old) x → Interned old new x n → Stands (type_trees new) (numbered n) (type_tree (type_trees old) x)
interned_stands old new x n over here h =
    stands_kind new (numbered n) x (interned_over old new x n over here h) h.here ∙ ap Some (same_kept old new x (interned_keeps old new x n h) here)

-- a kind of the old table has the same tree in the new one
earlier_kept : (old new : List LLVMTypeKind) (i : ℕ) (y : LLVMTypeKind) → KeepsTypes (type_trees old) (type_trees new) → i ≤ length old → IsTypeOver i y → type_tree (type_trees new) y ≡ type_tree (type_trees old) y
earlier_kept old new i y keeps le here =
    let agree : (j : ℕ) → j < i → get_or (type_trees new) j VoidType ≡ get_or (type_trees old) j VoidType = λ j lt.
    get_or_from_slice_get (type_trees new) j _ VoidType (keeps j (get_or (type_trees old) j VoidType) (slice_get-get_or (type_trees old) j VoidType (omega (arith, lt, le, length-type_trees old)))) in
    same_tree (type_trees new) (type_trees old) i agree y here

-- one more kind that is made of what it may be made of
pub interned_table : (old new : List LLVMTypeKind) (x : LLVMTypeKind) (n : ℕ) → IsTypeTable old → IsTypeOver (length old) x → IsFitTree (type_tree (type_trees old) x) → Interned old new x n → IsTypeTable new
interned_table old new x n table here fit h =
    let keeps = interned_keeps old new x n h in
    record {
      over = interned_over old new x n table.over here h;
      fit = λ i y at. elim (interned_cases old new x n h i y at) [
        | inl before ↦ subst IsFitTree (sym (earlier_kept old new i y keeps (omega (arith, slice_get_within old i y before)) (table.over i y before))) (table.fit i y before)
        | inr last ↦ subst (λ (k : LLVMTypeKind). IsFitTree (type_tree (type_trees new) k)) (sym last.1) (subst IsFitTree (sym (same_kept old new x keeps here)) fit)
      ];
    }
