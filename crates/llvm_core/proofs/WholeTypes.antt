-- A type of a module that has the shape of a type of values is one, all the way in: what it is made of fits.
use Rattle.std.proofs.Common.{◌≡◌, ◌<◌, ◌≤◌, ◌&&◌, ℕ, zero, suc, Bool, true, false, List, [], ◌∷◌, All, length, refl, sym, ap, ◌∙◌, arith}
use Rattle.std.specs.Option.{option_map_or}
use Rattle.std.proofs.lemmas.List.Elements.{All-head, All-tail}
use Rattle.support.proofs.ListLaws.{item_there}
use Rattle.kinds.specs.declared.fitting.Shape.{Shape}
use Rattle.kinds.specs.declared.fitting.Shape.TheVariants as S
use Rattle.kinds.specs.Types.{shape}
use Rattle.kinds.specs.Fitting.{is_first_class, is_field, is_array_of, is_vector_of}
use Rattle.kinds.specs.Held.{throughout, each_throughout, IsShallow, IsFirstClass, IsReturned}
use Rattle.kinds.specs.Held.{is_void as void_tree}
use Rattle.kinds.proofs.HeldLaws.{first_class_by, returned_if, returned_void}
use Rattle.kinds.proofs.PartLaws.{field_part, array_part, vector_part}
use Rattle.llvm_core.specs.declared.numbers.LLVMType.{LLVMType}
use Rattle.llvm_core.specs.declared.types.LLVMTypeKind.{LLVMTypeKind}
use Rattle.llvm_core.specs.declared.types.LLVMTypeKind.TheVariants as T
use Rattle.llvm_core.specs.Module.{Module}
use Rattle.llvm_core.specs.Parts.{shape_of, shape_at, IsTypeOver, HasFitParts}
use Rattle.llvm_core.specs.Sound.{IsModule}
use Rattle.llvm_core.specs.Data.{TypeTree, type_at, types_at, type_tree, trees_of}
use Rattle.llvm_core.proofs.DataLemmas.{type_tree_of}
use Rattle.llvm_core.proofs.RuleLaws.{shape_kept}

both : (a b : Bool) → a ≡ true → b ≡ true → (a && b) ≡ true
both a b e f = cc

module _ (m : Module) (sound : IsModule m) where
  abbrev tree : LLVMType → TypeTree
  tree t = type_at (trees_of m).types t

  -- what rules look at is that of the tree
  pub shape_there : (t : LLVMType) → t.0 < length m.types → shape_at m.types t ≡ shape (tree t)
  shape_there t within =
      let k = item_there m.types t.0 within in
      ap (λ o. option_map_or shape_of o S.Void) k.1 ∙ shape_kept (trees_of m).types k.0 ∙ ap shape (sym (type_tree_of m t k.0 sound k.1))

  abbrev IsWhole : LLVMType → Type 0
  IsWhole t = is_first_class (shape (tree t)) ≡ true → throughout is_first_class (tree t) ≡ true

  module _ (n : ℕ) (within : n ≤ length m.types) (known : (u : LLVMType) → u.0 < n → IsWhole u) where
    part_fits : (p : Shape → Bool) (u : LLVMType) → u.0 < n → p (shape_at m.types u) ≡ true → p (shape (tree u)) ≡ true
    part_fits p u below h = ap p (sym (shape_there u (omega (arith, below, within)))) ∙ h

    fields_whole : (ts : List LLVMType) → All (λ (t : LLVMType). t.0 < n) ts → All (λ (t : LLVMType). is_field (shape_at m.types t) ≡ true) ts → each_throughout is_first_class (types_at (trees_of m).types ts) ≡ true
    fields_whole [] below fit = refl
    fields_whole (t ∷ ts) below fit =
        let here = All-head (λ (t : LLVMType). t.0 < n) t ts below in
        let field = part_fits is_field t here (All-head (λ (t : LLVMType). is_field (shape_at m.types t) ≡ true) t ts fit) in
        both (is_field (shape (tree t)) && throughout is_first_class (tree t)) (each_throughout is_first_class (types_at (trees_of m).types ts))
        (both (is_field (shape (tree t))) (throughout is_first_class (tree t)) field (known t here (field_part (shape (tree t)) field)))
        (fields_whole ts (All-tail (λ (t : LLVMType). t.0 < n) t ts below) (All-tail (λ (t : LLVMType). is_field (shape_at m.types t) ≡ true) t ts fit))

    -- a line for each kind with parts
    kind_whole : (k : LLVMTypeKind) → IsTypeOver n k → HasFitParts m.types k → is_first_class (shape (type_tree (trees_of m).types k)) ≡ true → throughout is_first_class (type_tree (trees_of m).types k) ≡ true
    kind_whole (T.Array c u) over fit h =
        let here = part_fits (is_array_of c) u over fit in
        both (is_array_of c (shape (tree u))) (throughout is_first_class (tree u)) here (known u over (array_part c (shape (tree u)) here))
    kind_whole (T.Vector k c u) over fit h =
        let here = part_fits (is_vector_of c) u over fit in
        both (is_vector_of c (shape (tree u))) (throughout is_first_class (tree u)) here (known u over (vector_part c (shape (tree u)) here))
    kind_whole (T.Literal fields layout) over fit h = fields_whole fields over fit
    kind_whole T.Void over fit h = h
    kind_whole (T.Int w) over fit h = h
    kind_whole (T.Ptr s) over fit h = h
    kind_whole (T.Floating a) over fit h = h
    kind_whole (T.Other a) over fit h = h
    kind_whole (T.Named n) over fit h = h
    kind_whole (T.Function r ps v) over fit h = h

  whole_below : (size : ℕ) (t : LLVMType) → t.0 < size → t.0 < length m.types → IsWhole t
  whole_below zero t below within h = absurd (omega arith)
  whole_below (suc size) t below within h =
      let k = item_there m.types t.0 within in
      let same = type_tree_of m t k.0 sound k.1 in
      ap (throughout is_first_class) same
      ∙ kind_whole t.0 (omega (arith, within)) (λ u lt. whole_below size u (omega (arith, lt, below)) (omega (arith, lt, within))) k.0 (sound.types t.0 k.0 k.1) (sound.types_fit t.0 k.0 k.1)
      (ap (λ τ. is_first_class (shape τ)) (sym same) ∙ h)

  -- a type that is there, has the shape of one of values and nests no deeper than is allowed
  pub first_class_at : (t : LLVMType) → t.0 < length m.types → IsShallow (tree t) → is_first_class (shape (tree t)) ≡ true → IsFirstClass (tree t)
  first_class_at t within shallow h = first_class_by (tree t) (whole_below (suc t.0) t (omega arith) within h) shallow

  -- the same of what a function returns
  pub returned_at : (t : LLVMType) → t.0 < length m.types → IsShallow (tree t) → (v : Bool) → void_tree (tree t) ≡ v → (v ≡ false → is_first_class (shape (tree t)) ≡ true) → IsReturned (tree t)
  returned_at t within shallow true is h = returned_void (tree t) is
  returned_at t within shallow false is h = returned_if (tree t) (first_class_at t within shallow (h refl))
