-- The one form of a constant, by its number, is that of its tree.
use Rattle.std.proofs.Common.{◌≡◌, ◌<◌, ℕ, suc, Bool, true, false, nat_eq, if◌then◌else◌, List, [], ◌∷◌, Option, Some, None, length, slice_get, get_or, ap, sym, ◌∙◌, refl, arith, ◌++◌}
use Rattle.std.specs.List.{list_all}
use Rattle.std.proofs.lemmas.Option.{slice_get_within}
use Rattle.std.specs.Option.{option_map_or, option_and_then}
use Rattle.kinds.specs.declared.fill.Fill.{Fill}
use Rattle.kinds.specs.declared.fill.Fill.TheVariants as F
use Rattle.kinds.specs.declared.fitting.Shape.{Shape}
use Rattle.kinds.specs.Fill.{is_own_fill}
use Rattle.kinds.specs.Fitting.{width_of}
use Rattle.kinds.specs.Held.{width_in}
use Rattle.llvm_core.specs.declared.numbers.LLVMType.{LLVMType}
use Rattle.llvm_core.specs.declared.numbers.LLVMConst.{LLVMConst}
use Rattle.llvm_core.specs.declared.types.LLVMTypeKind.{LLVMTypeKind}
use Rattle.llvm_core.specs.declared.types.LLVMTypeKind.TheVariants as T
use Rattle.llvm_core.specs.declared.consts.LLVMConstKind.{LLVMConstKind}
use Rattle.llvm_core.specs.declared.consts.LLVMConstKind.TheVariants as C
use Rattle.llvm_core.specs.Module.{Module}
use Rattle.llvm_core.specs.Parts.{IsTypeOver, shape_at, is_kind}
use Rattle.llvm_core.specs.Consts as numbers
use Rattle.llvm_core.specs.Consts.{IsListOf, HasConstParts, IsConstIn, fill_of, int_of, told, all_ints, common_fill, is_zero, one_form}
use Rattle.llvm_core.specs.Sound.{IsModule}
use Rattle.llvm_core.specs.Data.{TypeTree, ArrayType, IntType, ConstTree, IntConst, FilledConst, BytesConst, ListConst, SplatConst, type_at, type_tree, const_at, consts_at, const_tree, trees_of, const_trees, type_trees, fill_in, int_in, told_of, is_byte_array, formed}
use Rattle.llvm_core.proofs.DataLemmas.{type_tree_of, int_tree_of, const_tree_of}
use Rattle.llvm_core.proofs.GrowLemmas.{element_there, made_below}
use Rattle.llvm_core.proofs.TreeLemmas.{same_parts, const_at-kept}
use Rattle.llvm_core.proofs.WholeTypes.{shape_there}

module _ (m : Module) (s : IsModule m) where
  abbrev ts : List TypeTree
  ts = (trees_of m).types

  abbrev cs : List ConstTree
  cs = (trees_of m).consts

  fill_told : (k : LLVMConstKind) → fill_in (const_tree ts cs k) ≡ fill_of k
  fill_told (C.Int t v) = refl
  fill_told (C.Filled fill t) = refl
  fill_told (C.Bytes t bytes) = refl
  fill_told (C.List t elements) = refl
  fill_told (C.Splat t element) = refl
  fill_told (C.Placeholder number t) = refl

  int_told : (k : LLVMConstKind) → int_in (const_tree ts cs k) ≡ int_of k
  int_told (C.Int t v) = refl
  int_told (C.Filled fill t) = refl
  int_told (C.Bytes t bytes) = refl
  int_told (C.List t elements) = refl
  int_told (C.Splat t element) = refl
  int_told (C.Placeholder number t) = refl

  -- what is told of a constant that is there
  at_told : {X : Type 0} (f : ConstTree → Option X) (g : LLVMConstKind → Option X) → ((k : LLVMConstKind) → f (const_tree ts cs k) ≡ g k) → (c : LLVMConst) (k : LLVMConstKind) → slice_get m.consts c.0 ≡ Some k → f (const_at cs c) ≡ option_and_then g (slice_get m.consts c.0)
  at_told f g same c k at = ap f (const_tree_of m c k at (s.consts_below c.0 k at)) ∙ same k ∙ ap (option_and_then g) (sym at)

  -- whether it is zero, undef or poison
  pub fill_there : (c : LLVMConst) (k : LLVMConstKind) → slice_get m.consts c.0 ≡ Some k → fill_in (const_at cs c) ≡ option_and_then fill_of (slice_get m.consts c.0)
  fill_there c k at = at_told fill_in fill_of fill_told c k at

  -- and of a list of these
  list_told : {X : Type 0} (f : ConstTree → Option X) (g : LLVMConstKind → Option X) → ((k : LLVMConstKind) → f (const_tree ts cs k) ≡ g k) → (xs : List LLVMConst)
      → ((i : ℕ) (c : LLVMConst) → slice_get xs i ≡ Some c → (k : LLVMConstKind) × (slice_get m.consts c.0 ≡ Some k)) → told_of f (consts_at cs xs) ≡ told g m.consts xs
  list_told f g same [] there = refl
  list_told f g same (x ∷ xs) there =
      let (k, at) = there 0 x refl in
      let first = at_told f g same x k at in
      let rest = list_told f g same xs (λ i c here. there (suc i) c here) in
      cc

  byte_array : (t : LLVMType) (k : LLVMTypeKind) → slice_get m.types t.0 ≡ Some k → is_byte_array (type_at ts t) ≡ is_kind (numbers.is_byte_array m.types) m.types t
  byte_array t k at = ap is_byte_array (type_tree_of m t k s at) ∙ by k (s.types t.0 k at) ∙ ap (λ o. option_map_or (numbers.is_byte_array m.types) o false) (sym at)
    where
      by : (k : LLVMTypeKind) → IsTypeOver t.0 k → is_byte_array (type_tree ts k) ≡ numbers.is_byte_array m.types k
      by (T.Array count e) over = ap (λ (x : Shape). nat_eq (width_of x) 8) (sym (shape_there m s e (omega (arith, over, slice_get_within m.types t.0 k at))))
      by T.Void over = refl
      by (T.Int width) over = refl
      by (T.Ptr space) over = refl
      by (T.Floating of) over = refl
      by (T.Other of) over = refl
      by (T.Vector kind count e) over = refl
      by (T.Literal fields layout) over = refl
      by (T.Named name) over = refl
      by (T.Function result params variadic) over = refl

  list_tree : (t : LLVMType) (xs : List LLVMConst) → IsListOf m.types m.consts m.structs t xs → const_tree ts cs (one_form m (C.List t xs)) ≡ formed (const_tree ts cs (C.List t xs))
  list_tree t xs h =
      let there = element_there m t xs h in
      let fills : common_fill (told_of fill_in (consts_at cs xs)) ≡ common_fill (told fill_of m.consts xs) = ap common_fill (list_told fill_in fill_of fill_told xs there) in
      let ints = ap all_ints (list_told int_in int_of int_told xs there) in
      let array = byte_array t h.kind h.typed in
      let bytes : (if is_byte_array (type_at ts t) then all_ints (told_of int_in (consts_at cs xs)) else None) ≡ (if is_kind (numbers.is_byte_array m.types) m.types t then all_ints (told int_of m.consts xs) else None) = cc in
      by (common_fill (told fill_of m.consts xs)) (if is_kind (numbers.is_byte_array m.types) m.types t then all_ints (told int_of m.consts xs) else None)
      ∙ ap (λ (p : Option (List ℕ)). option_map_or (λ fill. FilledConst fill (type_at ts t)) (common_fill (told fill_of m.consts xs)) (option_map_or BytesConst p (ListConst (type_at ts t) (consts_at cs xs)))) (sym bytes)
      ∙ ap (λ (o : Option Fill). option_map_or (λ fill. FilledConst fill (type_at ts t)) o (option_map_or BytesConst (if is_byte_array (type_at ts t) then all_ints (told_of int_in (consts_at cs xs)) else None) (ListConst (type_at ts t) (consts_at cs xs)))) (sym fills)
    where
      by : (o : Option Fill) (p : Option (List ℕ)) → const_tree ts cs (option_map_or (λ fill. C.Filled fill t) o (option_map_or (C.Bytes t) p (C.List t xs))) ≡ option_map_or (λ fill. FilledConst fill (type_at ts t)) o (option_map_or BytesConst p (ListConst (type_at ts t) (consts_at cs xs)))
      by None None = refl
      by None (Some ns) = refl
      by (Some fill) p = refl

  pub form_tree : (k : LLVMConstKind) → HasConstParts m k → const_tree ts cs (one_form m k) ≡ formed (const_tree ts cs k)
  form_tree (C.Int t v) h = refl
  form_tree (C.Placeholder number t) h = refl
  form_tree (C.List t xs) h = list_tree t xs h
  form_tree (C.Filled fill t) h = by (is_own_fill fill (shape_at m.types t)) ∙ ap (λ (x : Shape). if is_own_fill fill x then FilledConst fill (type_at ts t) else IntConst (width_in (type_at ts t)) 0) (shape_there m s t h)
    where
      by : (b : Bool) → const_tree ts cs (if b then C.Filled fill t else C.Int t 0) ≡ (if b then FilledConst fill (type_at ts t) else IntConst (width_in (type_at ts t)) 0)
      by true = refl
      by false = refl
  form_tree (C.Bytes t bytes) h = by (list_all is_zero bytes)
    where
      array : type_at ts t ≡ ArrayType (length bytes) (IntType 8)
      array = type_tree_of m t (T.Array (length bytes) h.0.0) s h.0.1 ∙ ap (ArrayType (length bytes)) (int_tree_of m h.0.0 8 s h.0.2)

      by : (b : Bool) → const_tree ts cs (if b then C.Filled F.Zero t else C.Bytes t bytes) ≡ (if b then FilledConst F.Zero (ArrayType (length bytes) (IntType 8)) else BytesConst bytes)
      by true = ap (FilledConst F.Zero) array
      by false = refl
  form_tree (C.Splat t element) (count, e, typed, (k, at, fits)) =
      by (option_and_then fill_of (slice_get m.consts element.0)) ∙ ap (λ (o : Option Fill). option_map_or (λ fill. FilledConst fill (type_at ts t)) o (SplatConst (type_at ts t) (const_at cs element))) (sym (fill_there element k at))
    where
      by : (o : Option Fill) → const_tree ts cs (option_map_or (λ fill. C.Filled fill t) o (C.Splat t element)) ≡ option_map_or (λ fill. FilledConst fill (type_at ts t)) o (SplatConst (type_at ts t) (const_at cs element))
      by None = refl
      by (Some fill) = refl

-- the number that a constant gets reads as its form
pub form_at : (m n : Module) (k l : LLVMConstKind) (c : LLVMConst) → IsModule m → IsModule n → n ≡ record m { consts = n.consts }
    → HasConstParts m k → l ≡ one_form m k → IsConstIn m l → slice_get n.consts c.0 ≡ Some l → (more : List LLVMConstKind) → n.consts ≡ m.consts ++ more → const_at (trees_of n).consts c ≡ formed (const_tree (trees_of m).types (trees_of m).consts k)
form_at m n k l c s sn rest parts is over here more longer =
    const_tree_of n c l here (sn.consts_below c.0 l here)
    ∙ ap (λ (x : Module). const_tree (trees_of x).types (trees_of n).consts l) rest
    ∙ same_parts (trees_of m).types (trees_of n).consts (trees_of m).consts (length m.consts) agree l (made_below m l over)
    ∙ ap (const_tree (trees_of m).types (trees_of m).consts) is ∙ form_tree m s k parts
  where
    agree : (j : ℕ) → j < length m.consts → get_or (trees_of n).consts j (IntConst 0 0) ≡ get_or (trees_of m).consts j (IntConst 0 0)
    agree j below = ap (λ (x : Module). get_or (const_trees (type_trees x.types) n.consts) j (IntConst 0 0)) rest ∙ ap (λ (xs : List LLVMConstKind). get_or (const_trees (type_trees m.types) xs) j (IntConst 0 0)) longer ∙ const_at-kept (type_trees m.types) m.consts more j below
