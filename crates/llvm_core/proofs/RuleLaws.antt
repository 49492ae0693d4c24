-- What the table says of the numbers of types it says of their trees: whether a row fits, and the type that it gives.
use Rattle.std.proofs.Common.{◌≡◌, ◌<◌, ℕ, zero, suc, Bool, true, false, List, [], ◌∷◌, Option, Some, None, All, map, length, slice_get, if◌then◌else◌, refl, sym, ap, ◌∙◌, subst, arith, eq-eqb}
use Rattle.std.proofs.lemmas.Bool.{eqb-true}
use Rattle.std.proofs.lemmas.List.{length-map}
use Rattle.std.specs.Prelude.{IfSome}
use Rattle.std.specs.Option.{option_map, option_map_or}
use Rattle.std.proofs.lemmas.List.Elements.{All-head, All-tail}
use Rattle.kinds.specs.declared.rules.Gives.{Gives}
use Rattle.kinds.specs.declared.rules.Gives.TheVariants as G
use Rattle.kinds.specs.declared.fitting.Laned.{Laned}
use Rattle.kinds.specs.declared.fitting.TypeView.{TypeView}
use Rattle.kinds.specs.declared.fitting.Shape.TheVariants as S
use Rattle.kinds.specs.Types.{TypeTree, VoidType, IntType, shape, one, many, laned, in_lanes, bits_of, same_tree}
use Rattle.kinds.specs.Table.{rule_of}
use Rattle.kinds.specs.Fitting.{view_laned, view_same}
use Rattle.kinds.specs.Typing.{fits_trees, typed}
use Rattle.kinds.specs.Typing.{given as given_tree}
use Rattle.kinds.proofs.TypeLaws.{tree_self, tree_told}
use Rattle.kinds.proofs.FittingLaws.{fits_kept}
use Rattle.support.proofs.ListLaws.{item_there}
use Rattle.llvm_core.specs.declared.numbers.LLVMType.{LLVMType}
use Rattle.llvm_core.specs.declared.numbers.LLVMFunction.{LLVMFunction}
use Rattle.llvm_core.specs.declared.types.LLVMTypeKind.{LLVMTypeKind}
use Rattle.llvm_core.specs.declared.types.LLVMTypeKind.TheVariants as T
use Rattle.llvm_core.specs.declared.types.ResultType.TheVariants as R
use Rattle.llvm_core.specs.declared.code.LLVMValue.{LLVMValue}
use Rattle.llvm_core.specs.declared.code.LLVMValue.TheVariants as V
use Rattle.llvm_core.specs.declared.code.InstData.{InstData}
use Rattle.llvm_core.specs.declared.code.FunctionData.{FunctionData}
use Rattle.llvm_core.specs.declared.code.Row.{Row}
use Rattle.llvm_core.specs.Module.{Module}
use Rattle.llvm_core.specs.Code.{param_names}
use Rattle.llvm_core.specs.Sound.{IsModule}
use Rattle.llvm_core.specs.Parts.{IsTypeOver, shape_at, laned_of, laned_at, bits_at, IsValue, HasParts, value_type, const_type, kind_params, type_params, shape_of, view, type_nth, view_nth, given, row_fits, row_result}
use Rattle.llvm_core.specs.Data.{type_tree, type_at, trees_of, tree_of_result}
use Rattle.llvm_core.proofs.ApartLemmas.{apart}
use Rattle.llvm_core.proofs.DataLemmas.{type_tree_of}
use Rattle.llvm_core.proofs.WithinLemmas.{type_nth_within, HasParam, param_there}

-- what rules look at is that of the tree
pub shape_kept : (ts : List TypeTree) (k : LLVMTypeKind) → shape_of k ≡ shape (type_tree ts k)
shape_kept ts k = grind arith

bool_by : (a b : Bool) → (a ≡ true → b ≡ true) → (b ≡ true → a ≡ true) → a ≡ b
bool_by true b f g = sym (f refl)
bool_by false true f g = g refl
bool_by false false f g = refl

module _ (m : Module) (s : IsModule m) where
  abbrev pub tree : LLVMType → TypeTree
  tree t = type_at (trees_of m).types t

  abbrev named : TypeView → TypeTree
  named t = tree (record { 0 = t.number })

  -- the tree of a value's type
  abbrev pub tree_of : LLVMValue → TypeTree
  tree_of v = option_map_or tree (value_type m v) VoidType

  -- the shape and the lanes of a type that is there are those of its tree
  shape_told : (t : LLVMType) → t.0 < length m.types → shape_at m.types t ≡ shape (tree t)
  shape_told t lt =
      let k = item_there m.types t.0 lt in
      ap (λ o. option_map_or shape_of o S.Void) k.1 ∙ shape_kept (trees_of m).types k.0 ∙ ap shape (sym (type_tree_of m t k.0 s k.1))

  kind_laned : (k : LLVMTypeKind) (n : ℕ) → n < length m.types → IsTypeOver n k → laned_of m.types k ≡ laned (type_tree (trees_of m).types k)
  kind_laned (T.Vector kind count t) n lt over = ap (many kind count) (shape_told t (omega (arith, lt, over)))
  kind_laned k n lt over = ap one (shape_kept (trees_of m).types k)

  pub laned_told : (t : LLVMType) → t.0 < length m.types → laned_at m.types t ≡ laned (tree t)
  laned_told t lt =
      let k = item_there m.types t.0 lt in
      ap (λ o. option_map_or (laned_of m.types) o (one S.Void)) k.1 ∙ kind_laned k.0 t.0 lt (s.types t.0 k.0 k.1) ∙ ap laned (sym (type_tree_of m t k.0 s k.1))

  abbrev IsGood : TypeView → Type 0
  IsGood t = (t.number < length m.types) × (t.laned ≡ laned (named t))

  good_view : (t : LLVMType) → t.0 < length m.types → IsGood (view m.types t)
  good_view t lt = (lt, laned_told t lt)

  told : (a b : TypeView) → IsGood a → IsGood b → same_tree (named a) (named b) ≡ view_same a b
  told a b g h = bool_by (same_tree (named a) (named b)) (view_same a b)
      (λ e. eq-eqb a.number b.number (ap (λ (t : LLVMType). t.0) ((apart m s).types (record { 0 = a.number }) (record { 0 = b.number }) g.0 h.0 (tree_told (named a) (named b) e))))
      (λ e. let same : a.number ≡ b.number = eqb-true a.number b.number e in subst (λ (n : ℕ). same_tree (named a) (tree (record { 0 = n })) ≡ true) same (tree_self (named a)))

  -- ---- types of values that are there

  param_counted : (f : LLVMFunction) (place : ℕ) (p : HasParam m f place) → place < length (param_names m.functions f) → place < length (kind_params p.kind)
  param_counted f place p h =
      let lt : place < length p.function.params = subst (λ (o : Option FunctionData). place < length (option_map_or (λ (y : FunctionData). y.params) o [])) p.here h in
      let counted = (s.functions f.0 p.function p.here).params in
      let kinds : type_params m.types p.function.ty ≡ kind_params p.kind = ap (λ o. option_map_or kind_params o []) p.kind_is in
      omega (arith, lt, counted, ap (λ (ts : List LLVMType). length ts) kinds)

  there : (v : LLVMValue) → IsValue m v → (t : LLVMType) × (value_type m v ≡ Some t)
  there (V.Const c) h = let k = item_there m.consts c.0 h in (const_type k.0, ap (option_map const_type) k.1)
  there (V.Param f place) h =
      let p = param_there m f place s h in
      let listed : value_type m (V.Param f place) ≡ slice_get (kind_params p.kind) place = rw (p.here, p.kind_is) refl in
      let t = item_there (kind_params p.kind) place (param_counted f place p h) in
      (t.0, listed ∙ t.1)
  there (V.Inst i) h = let x = item_there m.insts i.0 h in (x.0.ty, ap (option_map (λ (y : InstData). y.ty)) x.1)

  -- the tree at a place
  nth_tree : (vs : List LLVMValue) → All (IsValue m) vs → (i : ℕ) → slice_get (map tree_of vs) i ≡ option_map tree (type_nth m vs i)
  nth_tree [] h i = refl
  nth_tree (v ∷ vs) h zero = let t = there v (All-head (IsValue m) v vs h) in rw t.1 refl
  nth_tree (v ∷ vs) h (suc i) = nth_tree vs (All-tail (IsValue m) v vs h) i

  named_view : (o : Option LLVMType) → option_map named (option_map (view m.types) o) ≡ option_map tree o
  named_view None = refl
  named_view (Some t) = refl

  good_some : (o : Option LLVMType) → ((t : LLVMType) → o ≡ Some t → t.0 < length m.types) → IfSome (option_map (view m.types) o) IsGood
  good_some None h = tt
  good_some (Some t) h = good_view t (h t refl)

  there_tree : (o : Option LLVMType) → option_map (tree_of_result (trees_of m).types) (option_map R.There o) ≡ option_map tree o
  there_tree None = refl
  there_tree (Some t) = refl

  bits_tree : (o : Option LLVMType) → ((t : LLVMType) → o ≡ Some t → t.0 < length m.types) → option_map (tree_of_result (trees_of m).types) (option_map (bits_at m.types) o) ≡ option_map bits_of (option_map tree o)
  bits_tree None h = refl
  bits_tree (Some t) h = ap (λ (l : Laned). Some (in_lanes l.lanes (IntType 1))) (laned_told t (h t refl))

  -- a line for each word
  given_by_tree : (g : Gives) (w a b : Option LLVMType) → ((t : LLVMType) → a ≡ Some t → t.0 < length m.types)
      → option_map (tree_of_result (trees_of m).types) (given m.types g w a b) ≡ given_tree g (option_map tree w) (option_map tree a) (option_map tree b)
  given_by_tree G.Nothing w a b h = refl
  given_by_tree G.First w a b h = there_tree a
  given_by_tree G.Second w a b h = there_tree b
  given_by_tree G.Written w a b h = there_tree w
  given_by_tree G.Bits w a b h = bits_tree a h

  -- ---- rows

  -- a row fits where the trees of what it names do
  pub fits_by_tree : (r : Row) → HasParts m r → fits_trees r.op (option_map tree r.written) (map tree_of r.operands) ≡ row_fits m r
  fits_by_tree r h =
      let vs = r.operands in
      let at = λ (i : ℕ). nth_tree vs h.0 i ∙ sym (named_view (type_nth m vs i)) in
      let good = λ (i : ℕ). good_some (type_nth m vs i) (λ t e. type_nth_within m vs i t s h.0 e) in
      let good_written = good_some r.written (λ t e. subst (λ (o : Option LLVMType). IfSome o (λ (x : LLVMType). x.0 < length m.types)) e h.2) in
      let e = fits_kept view_laned view_same laned same_tree named IsGood (λ t g. sym g.1) told (rule_of r.op) (length vs) (option_map (view m.types) r.written) (view_nth m vs 0) (view_nth m vs 1) (view_nth m vs 2)
      good_written (good 0) (good 1) (good 2) in
      let w = sym (named_view r.written) in
      let a = at 0 in
      let b = at 1 in
      let c = at 2 in
      let n = length-map vs tree_of in
      rw (n, a, b, c, w) e

  -- the tree of the type of a row's result is what the table says of the trees of what it names
  pub result_by_tree : (r : Row) → HasParts m r → option_map (tree_of_result (trees_of m).types) (row_result m r) ≡ typed r.op (option_map tree r.written) (map tree_of r.operands)
  result_by_tree r h = by (row_fits m r) (fits_by_tree r h)
    where
      by : (b : Bool) → fits_trees r.op (option_map tree r.written) (map tree_of r.operands) ≡ b
          → option_map (tree_of_result (trees_of m).types) (if b then given m.types (rule_of r.op).gives r.written (type_nth m r.operands 0) (type_nth m r.operands 1) else None) ≡ typed r.op (option_map tree r.written) (map tree_of r.operands)
      by true e =
          let a = nth_tree r.operands h.0 0 in
          let b = nth_tree r.operands h.0 1 in
          rw (e, a, b) (given_by_tree (rule_of r.op).gives r.written (type_nth m r.operands 0) (type_nth m r.operands 1) (λ t at. type_nth_within m r.operands 0 t s h.0 at))
      by false e = rw e refl
