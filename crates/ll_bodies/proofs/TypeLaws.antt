-- What the table says of the numbers of types it says of their trees.
use Rattle.std.proofs.Common.{◌≡◌, ◌<◌, ℕ, zero, suc, Bool, true, false, List, [], ◌∷◌, Option, Some, None, All, map, length, slice_get, refl, sym, ap, ◌∙◌, subst, eq-eqb, nat_eq}
use Rattle.std.specs.Prelude.{IfSome}
use Rattle.std.specs.Option.{option_map, option_map_or}
use Rattle.std.proofs.lemmas.Bool.{eqb-true}
use Rattle.std.proofs.lemmas.List.{length-map}
use Rattle.std.proofs.lemmas.List.Elements.{All-head, All-tail}
use Rattle.kinds.specs.declared.types.VectorTypeKind.{VectorTypeKind}
use Rattle.kinds.specs.declared.types.Lanes.{Lanes}
use Rattle.kinds.specs.declared.types.Lanes.TheVariants as N
use Rattle.kinds.specs.declared.fitting.Laned.{Laned}
use Rattle.kinds.specs.declared.fitting.TypeView.{TypeView}
use Rattle.kinds.specs.declared.fitting.Shape.TheVariants as S
use Rattle.kinds.specs.Types.{TypeTree, IntType, one, laned, in_lanes, bits_of, same_tree}
use Rattle.kinds.specs.Table.{rule_of}
use Rattle.kinds.specs.Fitting.{fits, view_laned, view_same}
use Rattle.kinds.specs.Typing.{fits_trees, given, typed}
use Rattle.kinds.proofs.TypeLaws.{tree_self, tree_told}
use Rattle.kinds.proofs.FittingLaws.{fits_kept}
use Rattle.std.proofs.lemmas.Option.{slice_get_within, same_Some}
use Rattle.support.specs.declared.number_map.NumberMap.{NumberMap}
use Rattle.support.specs.NumberMaps.{value_at}
use Rattle.support.proofs.ListLaws.{item_there}
use Rattle.llvm_core.specs.declared.numbers.LLVMType.{LLVMType}
use Rattle.llvm_core.specs.declared.types.LLVMTypeKind.{LLVMTypeKind}
use Rattle.llvm_core.specs.declared.types.LLVMTypeKind.TheVariants as T
use Rattle.llvm_core.specs.Module.{Module}
use Rattle.llvm_core.specs.Sound.{IsOfBits, IsModule}
use Rattle.llvm_core.specs.Parts.{laned_of, laned_at, view}
use Rattle.llvm_core.specs.Data.{Trees, type_at, trees_of}
use Rattle.llvm_core.proofs.ApartLemmas.{apart}
use Rattle.llvm_core.proofs.DataLemmas.{bits_tree_of}
use Rattle.llvm_core.proofs.RuleLaws.{laned_told}
use Rattle.ll_lines.specs.declared.lines.Typed.{Typed}
use Rattle.ll_lines.specs.declared.lines.RowLine.{RowLine}
use Rattle.ll_lines.specs.Lines as L
use Rattle.ll_lines.specs.Views.{typed_view, row_view, IsTypeIn, IsTypedIn}
use Rattle.ll_bodies.specs.Meaning.{result_type}
use Rattle.ll_bodies.specs.Bits.{HasBits}
use Rattle.ll_bodies.specs.SourceViews.{IsRowIn}

bool_by : (a b : Bool) → (a ≡ true → b ≡ true) → (b ≡ true → a ≡ true) → a ≡ b
bool_by true b f g = sym (f refl)
bool_by false true f g = g refl
bool_by false false f g = refl

module _ (m : Module) (s : IsModule m) where
  abbrev pub tree : LLVMType → TypeTree
  tree t = type_at (trees_of m).types t

  abbrev named : TypeView → TypeTree
  named t = tree (record { 0 = t.number })

  abbrev IsGood : TypeView → Type 0
  IsGood t = (t.number < length m.types) × (t.laned ≡ laned (named t))

  good_view : (t : LLVMType) → t.0 < length m.types → IsGood (view m.types t)
  good_view t lt = (lt, laned_told m s t lt)

  -- types are one where their numbers are
  pub same_number : (a b : LLVMType) → IsTypeIn m a → IsTypeIn m b → same_tree (tree a) (tree b) ≡ nat_eq a.0 b.0
  same_number a b g h = bool_by (same_tree (tree a) (tree b)) (nat_eq a.0 b.0)
      (λ e. eq-eqb a.0 b.0 (ap (λ (t : LLVMType). t.0) ((apart m s).types a b g h (tree_told (tree a) (tree b) e))))
      (λ e. let same : a.0 ≡ b.0 = eqb-true a.0 b.0 e in subst (λ (n : ℕ). same_tree (tree a) (tree (record { 0 = n })) ≡ true) same (tree_self (tree a)))

  told : (a b : TypeView) → IsGood a → IsGood b → same_tree (named a) (named b) ≡ view_same a b
  told a b g h = same_number (record { 0 = a.number }) (record { 0 = b.number }) g.0 h.0

  named_view : (o : Option LLVMType) → option_map named (option_map (view m.types) o) ≡ option_map tree o
  named_view None = refl
  named_view (Some t) = refl

  good_some : (o : Option LLVMType) → IfSome o (IsTypeIn m) → IfSome (option_map (view m.types) o) IsGood
  good_some None h = tt
  good_some (Some t) h = good_view t h

  nth_tree : (xs : List Typed) (i : ℕ) → slice_get (map (λ (x : Typed). tree x.ty) xs) i ≡ option_map tree (slice_get (map (λ (x : Typed). x.ty) xs) i)
  nth_tree [] i = refl
  nth_tree (x ∷ xs) zero = refl
  nth_tree (x ∷ xs) (suc i) = nth_tree xs i

  pub nth_there : (made : ℕ) (xs : List Typed) (i : ℕ) → All (IsTypedIn m made) xs → IfSome (slice_get (map (λ (x : Typed). x.ty) xs) i) (IsTypeIn m)
  nth_there made [] i h = tt
  nth_there made (x ∷ xs) zero h = (All-head (IsTypedIn m made) x xs h).0
  nth_there made (x ∷ xs) (suc i) h = nth_there made xs i (All-tail (IsTypedIn m made) x xs h)

  -- a row fits where the trees of its types do
  pub fits_told : (made : ℕ) (r : RowLine) → IsRowIn m made r
      → fits view_laned view_same (rule_of r.op) (length r.operands) (option_map (view m.types) r.written) (option_map (view m.types) (slice_get (map (λ (x : Typed). x.ty) r.operands) 0)) (option_map (view m.types) (slice_get (map (λ (x : Typed). x.ty) r.operands) 1)) (option_map (view m.types) (slice_get (map (λ (x : Typed). x.ty) r.operands) 2))
      ≡ fits_trees r.op (option_map tree r.written) (map (λ (x : Typed). tree x.ty) r.operands)
  fits_told made r h =
      let xs = r.operands in
      let at = λ (i : ℕ). nth_tree xs i ∙ sym (named_view (slice_get (map (λ (x : Typed). x.ty) xs) i)) in
      let good = λ (i : ℕ). good_some (slice_get (map (λ (x : Typed). x.ty) xs) i) (nth_there made xs i h.1) in
      let e = fits_kept view_laned view_same laned same_tree named IsGood (λ t g. sym g.1) told (rule_of r.op) (length xs) (option_map (view m.types) r.written) (option_map (view m.types) (slice_get (map (λ (x : Typed). x.ty) xs) 0)) (option_map (view m.types) (slice_get (map (λ (x : Typed). x.ty) xs) 1)) (option_map (view m.types) (slice_get (map (λ (x : Typed). x.ty) xs) 2))
      (good_some r.written h.0) (good 0) (good 1) (good 2) in
      let w = sym (named_view r.written) in
      let a = at 0 in
      let b = at 1 in
      let c = at 2 in
      let n = length-map xs (λ (x : Typed). tree x.ty) in
      sym (rw (n, a, b, c, w) e)

  -- a type of so many lanes is a vector
  pub vector_kind : (t : LLVMType) (kind : VectorTypeKind) (count : ℕ) → IsTypeIn m t → (laned_at m.types t).lanes ≡ N.Many kind count → (e : LLVMType) × (slice_get m.types t.0 ≡ Some (T.Vector kind count e))
  vector_kind t kind count lt is = let k = item_there m.types t.0 lt in by k.0 k.1 (sym (ap (λ o. (option_map_or (laned_of m.types) o (one S.Void)).lanes) k.1) ∙ is)
    where
      by : (k : LLVMTypeKind) → slice_get m.types t.0 ≡ Some k → (laned_of m.types k).lanes ≡ N.Many kind count → (e : LLVMType) × (slice_get m.types t.0 ≡ Some (T.Vector kind count e))
      by (T.Vector l n e) at is =
          let a : l ≡ kind = (cc) in
          let b : n ≡ count = (cc) in
          (e, at ∙ ap (λ (x : VectorTypeKind). Some (T.Vector x n e)) a ∙ ap (λ (x : ℕ). Some (T.Vector kind x e)) b)
      by k at is = absurd (cc)

  -- bits, as many as a type has lanes
  lanes_told : (t : LLVMType) (lanes : Lanes) → IsTypeIn m t → (laned_at m.types t).lanes ≡ lanes → in_lanes lanes (IntType 1) ≡ bits_of (tree t)
  lanes_told t lanes lt is = ap (λ (l : Lanes). in_lanes l (IntType 1)) (sym is ∙ ap (λ (l : Laned). l.lanes) (laned_told m s t lt))

  pub bits_told : (t b : LLVMType) (lanes : Lanes) → IsTypeIn m t → (laned_at m.types t).lanes ≡ lanes → IsOfBits m.types lanes b → tree b ≡ bits_of (tree t)
  bits_told t b lanes lt is of = bits_tree_of m b lanes s of ∙ lanes_told t lanes lt is

  pub bit_told : (t b : LLVMType) → IsTypeIn m t → (laned_at m.types t).lanes ≡ N.One → tree b ≡ IntType 1 → tree b ≡ bits_of (tree t)
  bit_told t b lt is of = of ∙ lanes_told t N.One lt is

  -- what is noted of a vector are its bits
  pub noted_told : (bits : NumberMap LLVMType) (t b : LLVMType) (kind : VectorTypeKind) (count : ℕ) → HasBits m bits → IsTypeIn m t → (laned_at m.types t).lanes ≡ N.Many kind count → value_at bits t.0 ≡ Some b
      → (tree b ≡ bits_of (tree t)) × IsTypeIn m b
  noted_told bits t b kind count has lt lanes noted =
      let v = vector_kind t kind count lt lanes in
      let x = has t.0 kind count v.0 v.1 in
      let of : IsOfBits m.types (N.Many kind count) b = subst (λ (u : LLVMType). IsOfBits m.types (N.Many kind count) u) (same_Some x.0 b (sym x.1 ∙ noted)) x.2 in
      (bits_told t b (N.Many kind count) lt lanes of, slice_get_within m.types b.0 (T.Vector kind count of.0) of.1)

  -- the type that a row gives
  pub typed_told : (r : RowLine) (result : Option LLVMType) → fits_trees r.op (option_map tree r.written) (map (λ (x : Typed). tree x.ty) r.operands) ≡ true
      → given (rule_of r.op).gives (option_map tree r.written) (option_map tree (slice_get (map (λ (x : Typed). x.ty) r.operands) 0)) (option_map tree (slice_get (map (λ (x : Typed). x.ty) r.operands) 1)) ≡ option_map tree result
      → typed r.op (option_map tree r.written) (map (λ (x : Typed). tree x.ty) r.operands) ≡ option_map tree result
  typed_told r result fit e = rw (fit, nth_tree r.operands 0, nth_tree r.operands 1) e

-- the types of the operands, as they are said
pub types_said : (bytes : List ℕ) (t : Trees) (table : List L.SaidConst) (xs : List Typed) → map (λ (x : L.Typed). x.type) (map (typed_view bytes t table) xs) ≡ map (λ (x : Typed). type_at t.types x.ty) xs
types_said bytes t table [] = refl
types_said bytes t table (x ∷ xs) = ap (λ ts. type_at t.types x.ty ∷ ts) (types_said bytes t table xs)

pub viewed_types : (bytes : List ℕ) (t : Trees) (table : List L.SaidConst) (r : RowLine) → result_type (L.Row (row_view bytes t table r)) ≡ typed r.op (option_map (type_at t.types) r.written) (map (λ (x : Typed). type_at t.types x.ty) r.operands)
viewed_types bytes t table r = ap (typed r.op (option_map (type_at t.types) r.written)) (types_said bytes t table r.operands)
