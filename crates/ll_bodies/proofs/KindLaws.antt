-- What the lines of a table mean, by the kinds of constants that are asked of the module.
use Rattle.std.proofs.Common.{◌≡◌, ◌<◌, ◌^◌, ℕ, Bool, true, false, ◌&&◌, if◌then◌else◌, List, Option, Some, None, All, map, length, refl, sym, ap, ◌∙◌, subst}
use Rattle.std.specs.Prelude.{IfSome}
use Rattle.std.specs.Option.{option_map}
use Rattle.kinds.specs.Types.{TypeTree}
use Rattle.llvm_core.specs.declared.numbers.LLVMType.{LLVMType}
use Rattle.llvm_core.specs.declared.numbers.LLVMConst.{LLVMConst}
use Rattle.llvm_core.specs.declared.consts.LLVMConstKind.{LLVMConstKind}
use Rattle.llvm_core.specs.declared.consts.LLVMConstKind.TheVariants as C
use Rattle.llvm_core.specs.Module.{Module}
use Rattle.llvm_core.specs.Sound.{IsModule}
use Rattle.llvm_core.specs.Consts.{HasConstParts}
use Rattle.llvm_core.specs.Data.{ConstTree, ConstTrees, type_at, const_at, consts_at, structs_of, trees_of, listed}
use Rattle.ll_literals.specs.Chain.{◌>>=◌}
use Rattle.ll_lines.specs.declared.names.Name.{Name}
use Rattle.ll_lines.specs.declared.lines.Brackets.{Brackets}
use Rattle.ll_lines.specs.declared.lines.SaidConst.{SaidConst}
use Rattle.ll_lines.specs.declared.lines.ConstLine.{ConstLine}
use Rattle.ll_lines.specs.declared.lines.ConstLine.TheVariants as L
use Rattle.ll_lines.specs.Views.{saids_of, text_of, IsTypeIn, IsConstIn}
use Rattle.ll_bodies.specs.Constants.{stand_for, are_elements, consts_meant, chars_said, chars_const, splat_const}
use Rattle.ll_bodies.specs.Meaning.{all_of}
use Rattle.ll_bodies.specs.TableViews.{AreMeant, MeansKind, line_meant, number_in}
use Rattle.ll_bodies.proofs.HoldLaws.{list_means, bytes_mean}
use Rattle.ll_bodies.proofs.TableLaws.{view, number_means, elements_mean, elements_there}

-- what is meant is told otherwise
pub means_same : (m : Module) (x y : Option ConstTree) (o : Option LLVMConstKind) → x ≡ y → MeansKind m y o → MeansKind m x o
means_same m x y o e h = subst (λ (z : Option ConstTree). MeansKind m z o) (sym e) h

nothing : {A B : Type 0} (o : Option A) → (o >>= λ x. let z : Option B = None in z) ≡ None
nothing None = refl
nothing (Some x) = refl

-- ---- a text

module _ (bytes : List ℕ) (m : Module) (s : IsModule m) (lines : List ConstLine) where
  abbrev tree_in : LLVMType → TypeTree
  tree_in t = type_at (trees_of m).types t

  pub chars_mean : (ty : LLVMType) (token : Name) (o : Option (List ℕ)) → IsTypeIn m ty → o ≡ chars_said (text_of bytes token) → IfSome o (All (λ (b : ℕ). b < 2 ^ 8))
      → MeansKind m (line_meant bytes m lines (L.Chars ty token)) (option_map (λ (bs : List ℕ). C.Bytes ty bs) o)
  chars_mean ty token None within e small = ap (λ (o : Option (List ℕ)). o >>= chars_const (tree_in ty)) (sym e)
  chars_mean ty token (Some bs) within e small =
      means_same m (line_meant bytes m lines (L.Chars ty token)) (chars_const (tree_in ty) bs) (Some (C.Bytes ty bs)) (ap (λ (o : Option (List ℕ)). o >>= chars_const (tree_in ty)) (sym e)) (bytes_mean m s ty bs within small)

module _ (bytes : List ℕ) (m : Module) (s : IsModule m) (lines : List ConstLine) (k : ℕ) (numbers : List (Option LLVMConst)) (a : AreMeant bytes m lines k numbers) where
  abbrev tree : LLVMType → TypeTree
  tree t = type_at (trees_of m).types t

  -- ---- elements between brackets

  module _ (ty : LLVMType) (brackets : Brackets) (cs : List SaidConst) where
    abbrev meant : Option ConstTrees
    meant = consts_meant (structs_of m) (saids_of (map (view bytes m lines k numbers a) cs))

    abbrev told : Bool → ConstTrees → Option ConstTree
    told b ds = if b && are_elements (structs_of m) (tree ty) ds then Some (listed (tree ty) ds) else None

    -- brackets that do not stand for the type
    pub listed_apart : stand_for (structs_of m) brackets (tree ty) ≡ false → line_meant bytes m lines (L.Listed ty brackets cs) ≡ None
    listed_apart e = ap (λ (b : Bool). meant >>= told b) e ∙ nothing meant

    -- an element that means nothing
    pub listed_nothing : All (IsConstIn m k) cs → all_of (number_in numbers) cs ≡ None → line_meant bytes m lines (L.Listed ty brackets cs) ≡ None
    listed_nothing h e =
        ap (λ (o : Option ConstTrees). o >>= told (stand_for (structs_of m) brackets (tree ty)))
        (sym (elements_mean bytes m lines k numbers a cs h) ∙ ap (option_map (consts_at (trees_of m).consts)) e)

    pub listed_means : (found : List LLVMConst) → IsTypeIn m ty → All (IsConstIn m k) cs → stand_for (structs_of m) brackets (tree ty) ≡ true → all_of (number_in numbers) cs ≡ Some found
        → MeansKind m (line_meant bytes m lines (L.Listed ty brackets cs)) (Some (C.List ty found))
    listed_means found within h stand e =
        means_same m (line_meant bytes m lines (L.Listed ty brackets cs)) (told true (consts_at (trees_of m).consts found)) (Some (C.List ty found))
        (ap (λ (o : Option ConstTrees). o >>= told (stand_for (structs_of m) brackets (tree ty))) (sym (elements_mean bytes m lines k numbers a cs h) ∙ ap (option_map (consts_at (trees_of m).consts)) e)
        ∙ ap (λ (b : Bool). told b (consts_at (trees_of m).consts found)) stand)
        (list_means m s ty found within (elements_there bytes m lines k numbers a cs found h e))

    pub all_mean : (o : Option (List LLVMConst)) → IsTypeIn m ty → All (IsConstIn m k) cs → stand_for (structs_of m) brackets (tree ty) ≡ true → o ≡ all_of (number_in numbers) cs
        → MeansKind m (line_meant bytes m lines (L.Listed ty brackets cs)) (option_map (λ (found : List LLVMConst). C.List ty found) o)
    all_mean None within h stand e = listed_nothing h (sym e)
    all_mean (Some found) within h stand e = listed_means found within h stand (sym e)

  -- ---- a splat

  pub splat_is : (ty : LLVMType) (c : SaidConst) (o : Option LLVMConst) → IsConstIn m k c → o ≡ number_in numbers c
      → line_meant bytes m lines (L.Splat ty c) ≡ (option_map (const_at (trees_of m).consts) o >>= splat_const (tree ty))
  splat_is ty c o h e = ap (λ (x : Option ConstTree). x >>= splat_const (tree ty)) (sym (number_means bytes m lines k numbers a c h) ∙ ap (option_map (const_at (trees_of m).consts)) (sym e))
