-- What a literal says at a type.
use Rattle.std.proofs.Common.{◌≡◌, ◌≢◌, ◌<◌, ◌≤◌, ℕ, Bool, true, false, if◌then◌else◌, inl, inr, List, [], ◌∷◌, ◌++◌, Option, Some, None, length, length-append, slice_get, get_or, refl, ap, sym, ◌∙◌, arith}
use Rattle.std.specs.Prelude.{IfSome, IfOk, OnOk, Result, Ok, Err}
use Rattle.std.specs.Option.{option_map, option_map_or}
use Rattle.std.proofs.lemmas.Option.{slice_get_within}
use Rattle.std.proofs.lemmas.List.{append-nil}
use Rattle.support.specs.Interned.{Interned}
use Rattle.kinds.specs.declared.fill.Fill.{Fill}
use Rattle.kinds.specs.declared.fill.Fill.TheVariants as F
use Rattle.kinds.specs.declared.fitting.Shape.{Shape}
use Rattle.kinds.specs.declared.fitting.Shape.TheVariants as S
use Rattle.kinds.specs.Fill.{is_own_fill}
use Rattle.kinds.specs.Fitting.{is_pointer}
use Rattle.kinds.specs.Types.{TypeTree, shape}
use Rattle.kinds.specs.Held.{width_in}
use Rattle.llvm_core.specs.declared.numbers.LLVMType.{LLVMType}
use Rattle.llvm_core.specs.declared.numbers.LLVMConst.{LLVMConst}
use Rattle.llvm_core.specs.declared.types.LLVMTypeKind.{LLVMTypeKind}
use Rattle.llvm_core.specs.declared.types.LLVMTypeKind.TheVariants as T
use Rattle.llvm_core.specs.declared.consts.LLVMConstKind.{LLVMConstKind}
use Rattle.llvm_core.specs.declared.consts.LLVMConstKind.TheVariants as C
use Rattle.llvm_core.specs.Module.{Module}
use Rattle.llvm_core.specs.Consts.{one_form}
use Rattle.llvm_core.specs.Parts.{shape_of, shape_at}
use Rattle.llvm_core.specs.Sound.{IsModule}
use Rattle.llvm_core.specs.Data.{ConstTree, IntConst, FilledConst, trees_of, type_trees, const_trees, type_at, const_at, const_tree, filled_const}
use Rattle.llvm_core.proofs.DataLemmas.{type_tree_of, int_tree_of, const_tree_of}
use Rattle.llvm_core.proofs.TreeLemmas.{same_parts, const_at-kept}
use Rattle.llvm_core.proofs.RuleLaws.{shape_kept}
use Rattle.llvm_core.proofs.WholeTypes.{shape_there}
use Rattle.ll_literals.specs.Literals.{const_value}
use Rattle.ll_lines.specs.Lines.{Text, SaidConst, Local, Const}
use Rattle.ll_lines.specs.declared.names.Name.{Name}
use Rattle.ll_lines.specs.declared.lines.SaidConst as code_const
use Rattle.ll_lines.specs.declared.lines.Said.{Said}
use Rattle.ll_lines.specs.declared.lines.Said.TheVariants as Told
use Rattle.ll_lines.specs.Views.{text_of, said_view, IsSaidIn}
use Rattle.ll_values.specs.declared.store.Store.{Store}
use Rattle.ll_values.specs.declared.value_err.ValueErr.{ValueErr}
use Rattle.ll_values.specs.Words.{fill_of}
use Rattle.ll_values.specs.Values.{plain, int_const, const_of, null_of}
use Rattle.ll_values.specs.Views.{table_of, made_in, IsStoreIn}
use Rattle.ll_values.specs.Growing.{Interns, KeptConst, Says}
use Rattle.ll_values.proofs.GrowLaws.{none_interned}
use Rattle.ll_values.proofs.KeepLaws.{store_kept, store_there}

-- ---- integers

-- at a type that is no integer
pub int_const-other : (m : Module) (ty : LLVMType) (k : LLVMTypeKind) → IsModule m → slice_get m.types ty.0 ≡ Some k → ((w : ℕ) → k ≢ T.Int w) → (t : Text) → int_const (type_at (trees_of m).types ty) t ≡ None
int_const-other m ty (T.Int w) s at other t = absurd (other w refl)
int_const-other m ty k s at other t = rw (type_tree_of m ty k s at) refl

-- at an integer type of the module, by what the digits are
pub int_const-read : (m : Module) (ty : LLVMType) (w : ℕ) (t : Text) (o : Option ℕ) → IsModule m → slice_get m.types ty.0 ≡ Some (T.Int w) → const_value w t ≡ o
    → int_const (type_at (trees_of m).types ty) t ≡ option_map (λ v. const_tree (trees_of m).types (trees_of m).consts (C.Int ty v)) o
int_const-read m ty w t o s at is = rw (int_tree_of m ty w s at) (ap (option_map (IntConst w)) is)

-- ---- constants of any type

-- zero, undef or poison of a type is in the module what it is in one form
pub filled_tree : (m : Module) (cs : List ConstTree) (fill : Fill) (t : LLVMType) → IsModule m → t.0 < length m.types → const_tree (trees_of m).types cs (one_form m (C.Filled fill t)) ≡ filled_const fill (type_at (trees_of m).types t)
filled_tree m cs fill t s within =
    by (is_own_fill fill (shape_at m.types t)) ∙ ap (λ (x : Shape). if is_own_fill fill x then FilledConst fill (type_at (trees_of m).types t) else IntConst (width_in (type_at (trees_of m).types t)) 0) (shape_there m s t within)
  where
    by : (own : Bool) → const_tree (trees_of m).types cs (if own then C.Filled fill t else C.Int t 0) ≡ (if own then FilledConst fill (type_at (trees_of m).types t) else IntConst (width_in (type_at (trees_of m).types t)) 0)
    by true = refl
    by false = refl

-- a word of such a constant says it, and another is an integer's digits or nothing
pub const_of-word : (m : Module) (fill : Fill) (ty : LLVMType) (t : Text) → IsModule m → ty.0 < length m.types → fill_of t ≡ Some fill
    → const_of (type_at (trees_of m).types ty) t ≡ Some (const_tree (trees_of m).types (trees_of m).consts (one_form m (C.Filled fill ty)))
const_of-word m fill ty t s within is =
    ap (λ (o : Option Fill). option_map_or (λ (f : Fill). Some (filled_const f (type_at (trees_of m).types ty))) o (int_const (type_at (trees_of m).types ty) t)) is
    ∙ ap Some (sym (filled_tree m (trees_of m).consts fill ty s within))

pub const_of-digits : (τ : TypeTree) (t : Text) → fill_of t ≡ None → const_of τ t ≡ int_const τ t
const_of-digits τ t is = ap (λ (o : Option Fill). option_map_or (λ (f : Fill). Some (filled_const f τ)) o (int_const τ t)) is

-- a pointer is no integer
pointer_own : (s : Shape) → is_pointer s ≡ true → is_own_fill F.Zero s ≡ true
pointer_own (S.Pointer space) h = refl
pointer_own S.Void h = absurd cc
pointer_own (S.Int w) h = absurd cc
pointer_own S.Other h = absurd cc
pointer_own (S.Refused of) h = absurd cc
pointer_own S.Made h = absurd cc
pointer_own S.Named h = absurd cc
pointer_own S.Function h = absurd cc

-- null at a type of the module
pointer_told : (m : Module) (ty : LLVMType) (k : LLVMTypeKind) (b : Bool) → IsModule m → slice_get m.types ty.0 ≡ Some k → is_pointer (shape_of k) ≡ b → is_pointer (shape (type_at (trees_of m).types ty)) ≡ b
pointer_told m ty k b s at is = ap (λ (τ : TypeTree). is_pointer (shape τ)) (type_tree_of m ty k s at) ∙ ap is_pointer (sym (shape_kept (trees_of m).types k)) ∙ is

pub null_of-pointer : (m : Module) (ty : LLVMType) (k : LLVMTypeKind) → IsModule m → slice_get m.types ty.0 ≡ Some k → is_pointer (shape_of k) ≡ true
    → null_of (type_at (trees_of m).types ty) ≡ Some (const_tree (trees_of m).types (trees_of m).consts (one_form m (C.Filled F.Zero ty)))
null_of-pointer m ty k s at is =
    let pointer = pointer_told m ty k true s at is in
    let one : filled_const F.Zero (type_at (trees_of m).types ty) ≡ FilledConst F.Zero (type_at (trees_of m).types ty) = rw (pointer_own (shape (type_at (trees_of m).types ty)) pointer) refl in
    let null : null_of (type_at (trees_of m).types ty) ≡ Some (FilledConst F.Zero (type_at (trees_of m).types ty)) = rw pointer refl in
    null ∙ ap Some (sym (filled_tree m (trees_of m).consts F.Zero ty s (slice_get_within m.types ty.0 k at) ∙ one))

pub null_of-other : (m : Module) (ty : LLVMType) (k : LLVMTypeKind) → IsModule m → slice_get m.types ty.0 ≡ Some k → is_pointer (shape_of k) ≡ false → null_of (type_at (trees_of m).types ty) ≡ None
null_of-other m ty k s at is = rw (pointer_told m ty k false s at is) refl

-- ---- what is said

-- a constant that a module was given is the one that it was given, over the types and the constants from before
pub given_const : (m n : Module) (c : LLVMConst) (k : LLVMConstKind) → IsModule n → n.types ≡ m.types → Interned m.consts n.consts k c.0 → const_tree (trees_of m).types (trees_of m).consts k ≡ const_at (trees_of n).consts c
given_const m n c k s same interned =
    same_parts (trees_of m).types (trees_of m).consts (trees_of n).consts c.0 parts_same k (s.consts_below c.0 k interned.here)
    ∙ ap (λ (ts : List LLVMTypeKind). const_tree (type_trees ts) (trees_of n).consts k) (sym same)
    ∙ sym (const_tree_of n c k interned.here (s.consts_below c.0 k interned.here))
  where
    grown : (more : List LLVMConstKind) × (n.consts ≡ m.consts ++ more) × (c.0 ≤ length m.consts)
    grown = elim interned.only [
      | inl same ↦ (let lt = slice_get_within n.consts c.0 k interned.here in ([], same ∙ sym (append-nil m.consts), omega (arith, lt, ap length same)))
      | inr more ↦ (let lt = slice_get_within n.consts c.0 k interned.here in (k ∷ [], more, omega (arith, lt, ap length more, length-append m.consts (k ∷ []))))
    ]

    parts_same : (j : ℕ) → j < c.0 → get_or (trees_of m).consts j (IntConst 0 0) ≡ get_or (trees_of n).consts j (IntConst 0 0)
    parts_same j below =
        sym (ap (λ (ts : List LLVMTypeKind). get_or (const_trees (type_trees ts) n.consts) j (IntConst 0 0)) same
        ∙ ap (λ (cs : List LLVMConstKind). get_or (const_trees (type_trees m.types) cs) j (IntConst 0 0)) grown.1
        ∙ const_at-kept (type_trees m.types) m.consts grown.0 j (omega (arith, below, grown.2)))

-- what is read as a constant is said as one
pub said_by : (m n : Module) (s : Store) (bytes : Text) (o : Option ConstTree) (kind : Option LLVMConstKind) (r : Result Said ValueErr) → IsStoreIn m s
    → (let tree = const_tree (trees_of m).types (trees_of m).consts in IfSome kind (λ k. o ≡ Some (tree (one_form m k))) → (kind ≡ None → o ≡ None)
    → OnOk r (Interns m n) → IfOk r (λ x. (made : ℕ) → IsSaidIn n made x)
    → IfOk r (λ x. (bytes : Text) (table : List SaidConst) → option_map (λ k. plain (tree (one_form m k))) kind ≡ Some (said_view bytes (trees_of n) table x)) → IfOk r (Says bytes m n s s (option_map plain o)))
said_by m n s bytes o kind (Err e) st is none g there says = tt
said_by m n s bytes o None (Ok x) st is none g there says = absurd (let never = says bytes [] in cc (never))
said_by m n s bytes o (Some k) (Ok x) st is none g there says =
    record { interns = g; store = store_there m n s g st; keeps = store_kept s; there = there (made_in s); value = ap (option_map plain) is ∙ says bytes (table_of bytes (trees_of n) s) }

-- a local is a name still
pub said_local : (m : Module) (s : Store) (bytes : Text) (name : Name) → IsStoreIn m s → Says bytes m m s s (Some (Local (text_of bytes name))) (Told.Local name)
said_local m s bytes name st = record { interns = none_interned m st.sound; store = st; keeps = store_kept s; there = tt; value = refl }

-- so is a constant that the table has now
pub said_made : (m : Module) (s t : Store) (bytes : Text) (made : SaidConst) (c : code_const.SaidConst) → KeptConst bytes m s t made c → Says bytes m m s t (Some (Const made)) (Told.Const c)
said_made m s t bytes made c kept = record { interns = none_interned m kept.store.sound; store = kept.store; keeps = kept.keeps; there = kept.there; value = ap (λ (x : SaidConst). Some (Const x)) (sym kept.value) }
