-- Constants that no import gives an attribute, by their numbers and in the data of a module.
use Rattle.std.proofs.Common.{ℕ, ◌≡◌, ◌<◌, ◌+◌, ◌∙◌, refl, sym, ap, subst, List, [], ◌∷◌, ◌++◌, Option, Some, None, All, IfSome, length, map, take, get_or, slice_get, zero, suc, inl, inr}
use Rattle.std.specs.Option.{option_map}
use Rattle.std.proofs.lemmas.List.{take_more}
use Rattle.std.proofs.lemmas.List.Elements.{All-nil, All-cons, All-append}
use Rattle.std.proofs.lemmas.Option.{slice_get-map, slice_get_within, slice_get-get_or}
use Rattle.support.proofs.ListLaws.{slice_get-push_cases}
use Rattle.support.proofs.OptionLaws.{part_of}
use Rattle.kinds.specs.declared.fill.Fill.{Fill}
use Rattle.kinds.specs.Types.{TypeTree}
use Rattle.kinds.specs.Held.{width_in}
use Rattle.llvm_core.specs.declared.numbers.LLVMType.{LLVMType}
use Rattle.llvm_core.specs.declared.numbers.LLVMConst.{LLVMConst}
use Rattle.llvm_core.specs.declared.types.LLVMTypeKind.TheVariants as T
use Rattle.llvm_core.specs.declared.consts.LLVMConstKind.{LLVMConstKind}
use Rattle.llvm_core.specs.declared.consts.LLVMConstKind.TheVariants as C
use Rattle.llvm_core.specs.declared.code.LLVMValue.{LLVMValue}
use Rattle.llvm_core.specs.declared.code.LLVMValue.TheVariants as V
use Rattle.llvm_core.specs.Module.{Module}
use Rattle.llvm_core.specs.Consts.{IsMadeBelow}
use Rattle.llvm_core.specs.Parts.{operands}
use Rattle.llvm_core.specs.Sound.{IsModule}
use Rattle.llvm_core.specs.Data.{ConstTree, ConstTrees, IntConst, FilledConst, BytesConst, ListConst, PlaceholderConst, Operand, Constant, Placed, Function, data_of, trees_of, consts_at, const_tree, operand_of, placed_in}
use Rattle.llvm_core.specs.Form.{operands_of}
use Rattle.llvm_core.proofs.DataLemmas.{function_at, int_tree_of, int_const_of, const_tree_of, within_at}
use Rattle.llvm_core.proofs.DistinctLaws.{function_from}
use Rattle.llvm_core.proofs.FormNested.{same_operands}
use Rattle.llvm_core.proofs.FormPlaces.{shown, own_inst}
use Rattle.held_types.specs.declared.lacks.Lack.{Lack}
use Rattle.held_types.specs.declared.lacks.Lack.TheVariants as K
use Rattle.held_types.specs.Held.{HasPart, HavePart, UsesConst}
use Rattle.held_types.specs.Lacks.{IsLacked, LacksNothing, LackNothing, Tells, TellsAny, AreTold, LacksNone, LacksIt, UsesHeld, UsesLack, tree_in}
use Rattle.held_types.proofs.PlacedLaws.{inst_placed}

-- one more item of a list
pub all_more : {X : Type 0} (P : X → Type 0) (xs : List X) (i : ℕ) (d : X) → i < length xs → All P (take i xs) → P (get_or xs i d) → All P (take (i + 1) xs)
all_more P xs i d lt all one = subst (All P) (sym (take_more xs i d lt)) (All-append P (take i xs) (get_or xs i d ∷ []) all (All-cons P (get_or xs i d) [] one (All-nil P)))

-- the item at a place that a loop is at
pub item_at : {X : Type 0} (xs : List X) (i : ℕ) (d : X) → i < length xs → slice_get xs i ≡ Some (get_or xs i d)
item_at xs i d lt = slice_get-get_or xs i d lt

-- ---- one constant: a line for each kind

int_lacks_nothing : (w v : ℕ) → ¬ (64 < w) → LacksNothing (IntConst w v)
int_lacks_nothing w v small (K.TooWide width) ((value, e), wide) = small (let same : width ≡ w = cc in subst (λ (n : ℕ). 64 < n) same wide)
int_lacks_nothing w v small K.ScalableSplat (t, x, e) = cc

filled_lacks_nothing : (fill : Fill) (t : TypeTree) → LacksNothing (FilledConst fill t)
filled_lacks_nothing fill t (K.TooWide width) ((value, e), wide) = cc
filled_lacks_nothing fill t K.ScalableSplat (u, x, e) = cc

bytes_lack_nothing : (bytes : List ℕ) → LacksNothing (BytesConst bytes)
bytes_lack_nothing bytes (K.TooWide width) ((value, e), wide) = cc
bytes_lack_nothing bytes K.ScalableSplat (u, x, e) = cc

placeholder_lacks_nothing : (n : ℕ) (t : TypeTree) → LacksNothing (PlaceholderConst n t)
placeholder_lacks_nothing n t (K.TooWide width) ((value, e), wide) = cc
placeholder_lacks_nothing n t K.ScalableSplat (u, x, e) = cc

list_is_held : (t : TypeTree) (cs : ConstTrees) (l : Lack) → IsLacked l (ListConst t cs) → ⊥
list_is_held t cs (K.TooWide width) ((value, e), wide) = cc
list_is_held t cs K.ScalableSplat (u, x, e) = cc

list_tells : (t : TypeTree) (cs : ConstTrees) (o : Option Lack) → TellsAny o cs → Tells o (ListConst t cs)
list_tells t cs None h = λ l p. elim p [ inl here ↦ list_is_held t cs l here | inr inside ↦ h l inside ]
list_tells t cs (Some l) h = inr h

-- ---- constants

module _ (m : Module) where
  -- one of which it holds among others
  pub have_part : (P : ConstTree → Type 0) (cs : List LLVMConst) (i : ℕ) (c : LLVMConst) → slice_get cs i ≡ Some c → HasPart P (tree_in m c) → HavePart P (consts_at (trees_of m).consts cs)
  have_part P [] i c at h = cc
  have_part P (x ∷ xs) zero c at h = let same : x ≡ c = cc in inl (subst (λ (d : LLVMConst). HasPart P (tree_in m d)) (sym same) h)
  have_part P (x ∷ xs) (suc i) c at h = inr (have_part P xs i c at h)

  -- nothing is lacked of any
  pub none_lacked : (cs : List LLVMConst) → ((i : ℕ) (c : LLVMConst) → slice_get cs i ≡ Some c → LacksNothing (tree_in m c)) → LackNothing (consts_at (trees_of m).consts cs)
  none_lacked [] h l p = absurd p
  none_lacked (x ∷ xs) h l p = elim p [ inl here ↦ h 0 x refl l here | inr rest ↦ none_lacked xs (λ (i : ℕ). h (suc i)) l rest ]

  -- what is told of one more constant
  pub told_more : (ls : List (Option Lack)) (o : Option Lack) (c : LLVMConst) → length ls ≡ c.0 → AreTold m ls → Tells o (tree_in m c) → AreTold m (ls ++ o ∷ [])
  told_more ls o c is h one i p at = elim (slice_get-push_cases ls o i p at) [
    | inl old ↦ h i p old
    | inr new ↦ subst (λ (q : Option Lack). Tells q (tree_in m (record { 0 = i }))) (sym new.1) (subst (λ (n : ℕ). Tells o (tree_in m (record { 0 = n }))) (sym (new.0 ∙ is)) one)
  ]

  -- what is told at a place
  pub told_at : (ls : List (Option Lack)) (c : LLVMConst) (d : Option Lack) → AreTold m ls → c.0 < length ls → Tells (get_or ls c.0 d) (tree_in m c)
  told_at ls c d h lt = h c.0 (get_or ls c.0 d) (slice_get-get_or ls c.0 d lt)

  -- of a value that is that constant
  pub value_told : (o : Option Lack) (c : LLVMConst) (v : LLVMValue) → v ≡ V.Const c → Tells o (tree_in m c) → (o ≡ None → LacksNone m v) × IfSome o (λ l. LacksIt m l v)
  value_told None c v is h = (λ e. subst (LacksNone m) (sym is) h, tt)
  value_told (Some l) c v is h = (λ e. absurd (let bad : Some l ≡ None = e in cc), (c, is, h))

  module _ (sound : IsModule m) (c : LLVMConst) where
    -- the answer of an integer, by its width
    pub int_told : (t : LLVMType) (value width : ℕ) → slice_get m.consts c.0 ≡ Some (C.Int t value) → slice_get m.types t.0 ≡ Some (T.Int width) → tree_in m c ≡ IntConst width value
    int_told t value width at typed = int_const_of m c t value at ∙ ap (λ (τ : TypeTree). IntConst (width_in τ) value) (int_tree_of m t width sound typed)

    pub int_tells : (t : LLVMType) (value width : ℕ) (o : Option Lack) → slice_get m.consts c.0 ≡ Some (C.Int t value) → slice_get m.types t.0 ≡ Some (T.Int width)
        → (o ≡ None → ¬ (64 < width)) → IfSome o (λ l. (w : ℕ) × (slice_get m.types t.0 ≡ Some (T.Int w)) × (64 < w) × (l ≡ K.TooWide w)) → Tells o (tree_in m c)
    int_tells t value width None at typed none some = subst LacksNothing (sym (int_told t value width at typed)) (int_lacks_nothing width value (none refl))
    int_tells t value width (Some l) at typed none (w, own, wide, is) =
        subst (λ (x : ConstTree). HasPart (IsLacked l) x) (sym (int_told t value w at own)) (subst (λ (k : Lack). IsLacked k (IntConst w value)) (sym is) ((value, refl), wide))

    module _ (k : LLVMConstKind) (at : slice_get m.consts c.0 ≡ Some k) (below : IsMadeBelow c.0 k) where
      tells_tree : (o : Option Lack) → Tells o (const_tree (trees_of m).types (trees_of m).consts k) → Tells o (tree_in m c)
      tells_tree o h = subst (Tells o) (sym (const_tree_of m c k at below)) h

      pub list_told : (t : LLVMType) (cs : List LLVMConst) (o : Option Lack) → k ≡ C.List t cs → TellsAny o (consts_at (trees_of m).consts cs) → Tells o (tree_in m c)
      list_told t cs o is h = tells_tree o (subst (λ (x : LLVMConstKind). Tells o (const_tree (trees_of m).types (trees_of m).consts x)) (sym is) (list_tells _ _ o h))

      pub splat_told : (t : LLVMType) (element : LLVMConst) → k ≡ C.Splat t element → Tells (Some K.ScalableSplat) (tree_in m c)
      splat_told t element is = tells_tree (Some K.ScalableSplat) (subst (λ (x : LLVMConstKind). Tells (Some K.ScalableSplat) (const_tree (trees_of m).types (trees_of m).consts x)) (sym is) (inl (_, _, refl)))

      pub filled_told : (fill : Fill) (t : LLVMType) → k ≡ C.Filled fill t → Tells None (tree_in m c)
      filled_told fill t is = tells_tree None (subst (λ (x : LLVMConstKind). Tells None (const_tree (trees_of m).types (trees_of m).consts x)) (sym is) (filled_lacks_nothing fill _))

      pub bytes_told : (t : LLVMType) (bytes : List ℕ) → k ≡ C.Bytes t bytes → Tells None (tree_in m c)
      bytes_told t bytes is = tells_tree None (subst (λ (x : LLVMConstKind). Tells None (const_tree (trees_of m).types (trees_of m).consts x)) (sym is) (bytes_lack_nothing bytes))

      pub placeholder_told : (n : ℕ) (t : LLVMType) → k ≡ C.Placeholder n t → Tells None (tree_in m c)
      placeholder_told n t is = tells_tree None (subst (λ (x : LLVMConstKind). Tells None (const_tree (trees_of m).types (trees_of m).consts x)) (sym is) (placeholder_lacks_nothing n _))

-- ---- in the data

module _ (m : Module) (sound : IsModule m) where
  abbrev shown_of : LLVMValue → Operand
  shown_of = operand_of (trees_of m)

  -- one that an instruction uses is one of the data
  pub lack_used : (l : Lack) (i : ℕ) → UsesLack m l i → UsesConst (data_of m) (IsLacked l)
  lack_used l i (z, at, (k, v, listed, (c, is, part))) =
      let p = inst_placed m sound i z at in
      record {
        place = p.f;
        f = shown m p.f p.x;
        at = function_at m p.f p.x p.at;
        index = p.k;
        p = p.placed;
        here = p.here;
        operand = k;
        constant = tree_in m c;
        used = ap (λ (os : List Operand). slice_get os k) p.used ∙ slice_get-map shown_of (operands z.inst) k ∙ ap (option_map shown_of) listed ∙ ap (λ (x : LLVMValue). Some (shown_of x)) is;
        part = part;
      }

  -- the value that shows as a constant is one
  shown_constant : (l : Lack) (v : LLVMValue) (x : ConstTree) → shown_of v ≡ Constant x → LacksNone m v → HasPart (IsLacked l) x → ⊥
  shown_constant l (V.Const c) x e none part = let same : tree_in m c ≡ x = cc in none l (subst (HasPart (IsLacked l)) (sym same) part)
  shown_constant l (V.Param f place) x e none part = cc
  shown_constant l (V.Inst i) x e none part = cc

  -- and where no instruction uses one, the data have none
  pub none_lacks : ((i : ℕ) → i < length m.insts → UsesHeld m i) → (l : Lack) → UsesConst (data_of m) (IsLacked l) → ⊥
  none_lacks each l h =
      let x = function_from m h.place h.f h.at in
      let own = own_inst m h.place x.0 h.index h.p sound x.1 (ap (λ (g : Function). slice_get (placed_in g) h.index) (sym x.2) ∙ h.here) in
      let z = own.inst in
      let used : operands_of h.p.instruction ≡ map shown_of (operands z.inst) = ap (λ (p : Placed). operands_of p.instruction) own.shown_as ∙ same_operands m z.inst in
      let listed : slice_get (map shown_of (operands z.inst)) h.operand ≡ Some (Constant h.constant) = ap (λ (os : List Operand). slice_get os h.operand) (sym used) ∙ h.used in
      let v = part_of shown_of (slice_get (operands z.inst) h.operand) (Constant h.constant) (sym (slice_get-map shown_of (operands z.inst) h.operand) ∙ listed) in
      let short = within_at (operands z.inst) (LacksNone m) (each own.number (slice_get_within m.insts own.number z own.here) z own.here) h.operand v.0 v.1.0 in
      shown_constant l v.0 h.constant v.1.1 short h.part
