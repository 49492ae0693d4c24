-- What stands in a struct of a module is of types of values all the way in, however deep it nests.
use Rattle.std.proofs.Common.{◌≡◌, ◌<◌, ◌≤◌, ◌&&◌, ℕ, zero, suc, Bool, true, List, [], ◌∷◌, All, length, refl, sym, ap, ◌∙◌, arith}
use Rattle.std.proofs.lemmas.Bool.{and_from}
use Rattle.std.proofs.lemmas.List.Elements.{All-head, All-tail}
use Rattle.support.proofs.ListLaws.{item_there}
use Rattle.kinds.specs.declared.fitting.Shape.{Shape}
use Rattle.kinds.specs.Types.{shape}
use Rattle.kinds.specs.Fitting.{is_first_class, is_field, is_array_of, is_vector_of}
use Rattle.kinds.specs.Held.{throughout, each_throughout}
use Rattle.kinds.proofs.PartLaws.{field_part, array_part, vector_part}
use Rattle.llvm_core.specs.declared.numbers.LLVMType.{LLVMType}
use Rattle.llvm_core.specs.declared.types.LLVMTypeKind.{LLVMTypeKind}
use Rattle.llvm_core.specs.declared.types.LLVMTypeKind.TheVariants as T
use Rattle.llvm_core.specs.Module.{Module}
use Rattle.llvm_core.specs.Parts.{shape_at, IsTypeOver, HasFitParts}
use Rattle.llvm_core.specs.Sound.{IsModule}
use Rattle.llvm_core.specs.Data.{TypeTree, type_at, types_at, type_tree, trees_of}
use Rattle.llvm_core.proofs.DataLemmas.{type_tree_of}
use Rattle.llvm_core.proofs.WholeTypes.{shape_there}

module _ (m : Module) (sound : IsModule m) where
  abbrev tree : LLVMType → TypeTree
  tree t = type_at (trees_of m).types t

  -- of the shape of a type of values, and one all the way in
  abbrev IsWhole : LLVMType → Type 0
  IsWhole t = is_first_class (shape (tree t)) ≡ true → throughout is_first_class (tree t) ≡ true

  module _ (n : ℕ) (within : n ≤ length m.types) (known : (u : LLVMType) → u.0 < n → IsWhole u) where
    part_fits : (p : Shape → Bool) (u : LLVMType) → u.0 < n → p (shape_at m.types u) ≡ true → p (shape (tree u)) ≡ true
    part_fits p u below h = ap p (sym (shape_there m sound u (omega (arith, below, within)))) ∙ h

    fields_by : (ts : List LLVMType) → All (λ (t : LLVMType). t.0 < n) ts → All (λ (t : LLVMType). is_field (shape_at m.types t) ≡ true) ts → each_throughout is_first_class (types_at (trees_of m).types ts) ≡ true
    fields_by [] below fit = refl
    fields_by (t ∷ ts) below fit =
        let B : LLVMType → Type 0 = λ t. t.0 < n in
        let F : LLVMType → Type 0 = λ t. is_field (shape_at m.types t) ≡ true in
        let here = All-head B t ts below in
        let field = part_fits is_field t here (All-head F t ts fit) in
        and_from (is_field (shape (tree t)) && throughout is_first_class (tree t)) (each_throughout is_first_class (types_at (trees_of m).types ts))
        (and_from (is_field (shape (tree t))) (throughout is_first_class (tree t)) field (known t here (field_part (shape (tree t)) field)))
        (fields_by ts (All-tail B t ts below) (All-tail F t ts fit))

    -- a line for each kind with parts
    kind_whole : (k : LLVMTypeKind) → IsTypeOver n k → HasFitParts m.types k → is_first_class (shape (type_tree (trees_of m).types k)) ≡ true → throughout is_first_class (type_tree (trees_of m).types k) ≡ true
    kind_whole (T.Array c u) over fit h =
        let here = part_fits (is_array_of c) u over fit in
        and_from (is_array_of c (shape (tree u))) (throughout is_first_class (tree u)) here (known u over (array_part c (shape (tree u)) here))
    kind_whole (T.Vector k c u) over fit h =
        let here = part_fits (is_vector_of c) u over fit in
        and_from (is_vector_of c (shape (tree u))) (throughout is_first_class (tree u)) here (known u over (vector_part c (shape (tree u)) here))
    kind_whole (T.Literal fields layout) over fit h = fields_by fields over fit
    kind_whole k over fit h = h

  whole_below : (size : ℕ) (t : LLVMType) → t.0 < size → t.0 < length m.types → IsWhole t
  whole_below zero t below within h = absurd (omega arith)
  whole_below (suc size) t below within h =
      let k = item_there m.types t.0 within in
      let same = type_tree_of m t k.0 sound k.1 in
      ap (throughout is_first_class) same
      ∙ kind_whole t.0 (omega (arith, within)) (λ u lt. whole_below size u (omega (arith, lt, below)) (omega (arith, lt, within))) k.0 (sound.types t.0 k.0 k.1) (sound.types_fit t.0 k.0 k.1)
      (ap (λ τ. is_first_class (shape τ)) (sym same) ∙ h)

  pub fields_whole : (ts : List LLVMType) → All (λ (t : LLVMType). t.0 < length m.types) ts → All (λ (t : LLVMType). is_field (shape_at m.types t) ≡ true) ts → each_throughout is_first_class (types_at (trees_of m).types ts) ≡ true
  fields_whole ts within fit = fields_by (length m.types) (omega arith) (λ u lt. whole_below (suc u.0) u (omega arith) lt) ts within fit
