-- The rules of an operation: the operands fit a row by the numbers of their types just where they do by the trees, and
-- each operand and each edge of what keeps the rules is one that there is.
use Rattle.std.proofs.Common.{◌≡◌, ◌<◌, ℕ, Bool, true, false, List, [], Option, Some, None, All, length, refl, sym, ◌∙◌, subst, eq-eqb, arith}
use Rattle.std.specs.Prelude.{IfSome}
use Rattle.std.specs.Option.{option_map}
use Rattle.std.proofs.lemmas.Bool.{eqb-true}
use Rattle.support.proofs.ListLaws.{all_from}
use Rattle.kinds.specs.declared.op.Op.{Op}
use Rattle.kinds.specs.declared.rules.Gives.{Gives}
use Rattle.kinds.specs.declared.rules.Gives.TheVariants as G
use Rattle.kinds.specs.declared.fitting.TypeView.{TypeView}
use Rattle.kinds.specs.Types.{laned, same_tree}
use Rattle.kinds.specs.Table.{rule_of}
use Rattle.kinds.specs.Fitting.{fits, view_laned, view_same}
use Rattle.kinds.specs.Typing.{written_for}
use Rattle.kinds.proofs.TypeLaws.{tree_self, tree_told}
use Rattle.kinds.proofs.FittingLaws.{fits_kept}
use Rattle.dialect_types.specs.declared.types.TypeHandle.{TypeHandle}
use Rattle.dialect_types.specs.Trees.{TypeTree, IsDistinctAsTrees}
use Rattle.dialect_core.specs.declared.ops.Value.{Value}
use Rattle.dialect_core.specs.declared.ops.Successor.{Successor}
use Rattle.dialect_core.specs.ContextData.{ContextData}
use Rattle.dialect_core.specs.Data.{Kind, ConstantOp, FilledOp, RowOp, Func, type_in}
use Rattle.dialect_core.specs.Checking.{tree_at}
use Rattle.dialect_core.specs.Rules.{IsEdge, IsFirstClassBy, IsOfKind, IsTypedBy, Typing, row_fits, type_nth}
use Rattle.dialect_core.proofs.LineLemmas.{all_at}

bool_by : (a b : Bool) → (a ≡ true → b ≡ true) → (b ≡ true → a ≡ true) → a ≡ b
bool_by true b f g = sym (f refl)
bool_by false true f g = g refl
bool_by false false f g = refl

-- ---- what is written

-- a line for each word
pub written_mapped : {X Y : Type 0} (h : X → Y) (k : Gives) (own : Option X) → option_map h (written_for k own) ≡ written_for k (option_map h own)
written_mapped h G.Nothing own = refl
written_mapped h G.First own = refl
written_mapped h G.Second own = refl
written_mapped h G.Written own = refl
written_mapped h G.Bits own = refl

pub written_kept : {X : Type 0} (P : X → Type 0) (k : Gives) (own : Option X) → IfSome own P → IfSome (written_for k own) P
written_kept P G.Nothing own h = tt
written_kept P G.First own h = tt
written_kept P G.Second own h = tt
written_kept P G.Written own h = h
written_kept P G.Bits own h = tt

-- ---- fitting

module _ (c : ContextData) (distinct : IsDistinctAsTrees c.types) where
  abbrev named : TypeView → TypeTree
  named t = tree_at c (record { 0 = t.number })

  abbrev IsGood : TypeView → Type 0
  IsGood t = (t.number < length c.types) × (t.laned ≡ laned (named t))

  told : (a b : TypeView) → IsGood a → IsGood b → same_tree (named a) (named b) ≡ view_same a b
  told a b g h = bool_by (same_tree (named a) (named b)) (view_same a b)
      (λ e. eq-eqb a.number b.number (distinct (record { 0 = a.number }) (record { 0 = b.number }) g.0 h.0 (tree_told (named a) (named b) e)))
      (λ e. let same : a.number ≡ b.number = eqb-true a.number b.number e in subst (λ (n : ℕ). same_tree (named a) (tree_at c (record { 0 = n })) ≡ true) same (tree_self (named a)))

  abbrev view : TypeHandle → TypeView
  view t = record { number = t.0; laned = laned (tree_at c t) }

  abbrev IsThere : Option TypeHandle → Type 0
  IsThere o = IfSome o (λ (t : TypeHandle). t.0 < length c.types)

  good_some : (o : Option TypeHandle) → IsThere o → IfSome (option_map view o) IsGood
  good_some None h = tt
  good_some (Some t) h = (h, refl)

  named_some : (o : Option TypeHandle) → option_map named (option_map view o) ≡ option_map (tree_at c) o
  named_some None = refl
  named_some (Some t) = refl

  -- views of the types of the first three values fit just where their trees do, beside the type that is written
  pub fits_by_tree : (op : Op) (vs : List Value) (own a b d : Option TypeHandle) → option_map (tree_at c) a ≡ type_nth (type_in c) vs 0 → option_map (tree_at c) b ≡ type_nth (type_in c) vs 1 → option_map (tree_at c) d ≡ type_nth (type_in c) vs 2
      → IsThere own → IsThere a → IsThere b → IsThere d
      → fits view_laned view_same (rule_of op) (length vs) (option_map view (written_for (rule_of op).gives own)) (option_map view a) (option_map view b) (option_map view d) ≡ row_fits (type_in c) op (option_map (tree_at c) own) vs
  fits_by_tree op vs own a b d is_a is_b is_d in_own in_a in_b in_d =
      let w = written_for (rule_of op).gives own in
      let in_w : IsThere w = written_kept (λ (t : TypeHandle). t.0 < length c.types) (rule_of op).gives own in_own in
      let e = fits_kept view_laned view_same laned same_tree named IsGood (λ t g. sym g.1) told (rule_of op) (length vs) (option_map view w) (option_map view a) (option_map view b) (option_map view d) (good_some w in_w) (good_some a in_a) (good_some b in_b) (good_some d in_d) in
      let u = named_some w ∙ written_mapped (tree_at c) (rule_of op).gives own in
      let x = named_some a ∙ is_a in
      let y = named_some b ∙ is_b in
      let z = named_some d ∙ is_d in
      sym e ∙ rw (u, x, y, z) refl

-- ---- what an operation names

none_hold : {X : Type 0} (P : X → Type 0) (xs : List X) → xs ≡ [] → All P xs
none_hold P xs e = let All_P : List _ → Type 0 = All P in subst All_P (sym e) (λ k d l. absurd (omega arith))

module _ (T : Typing) (g : Func) (vs : List Value) (own : Option TypeTree) (ss : List Successor) where
  -- each operand has a type
  pub kind_operands : (k : Kind) → IsOfKind T g vs own ss k → All (IsTypedBy T) vs
  kind_operands (ConstantOp constant) h = none_hold (IsTypedBy T) vs h.bare
  kind_operands (FilledOp fill) h = none_hold (IsTypedBy T) vs h.bare
  kind_operands (RowOp op) h = all_from (IsTypedBy T) vs (λ k v at. let w = all_at (IsFirstClassBy T) vs h.values k v at in (w.0, w.1))

  -- each edge keeps the rules of edges
  pub kind_edges : (k : Kind) → IsOfKind T g vs own ss k → All (IsEdge T g) ss
  kind_edges (ConstantOp constant) h = none_hold (IsEdge T g) ss h.ends_here
  kind_edges (FilledOp fill) h = none_hold (IsEdge T g) ss h.ends_here
  kind_edges (RowOp op) h = λ k d l. h.leads.1 k d l
