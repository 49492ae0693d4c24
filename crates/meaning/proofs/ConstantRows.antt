-- Operations of the dialect as rows of a woven shape: which of them pair off, that constants keep to a plan, and that
-- operations read only constants that are set, as the crates above show it of their operations.
use Rattle.std.proofs.Common.{◌≡◌, ◌∙◌, ℕ, suc, Bool, true, false, not, ◌||◌, if◌then◌else◌, List, [], ◌∷◌, Some, All, map, take, slice_get, refl, ap, ⊎_elim}
use Rattle.std.proofs.lemmas.Bool.{false≢true, or_cases}
use Rattle.std.proofs.lemmas.List.Elements.{All-nil, All-cons, All-head, All-tail, All-weaker}
use Rattle.dialect_core.specs.declared.ops.Value.{Value}
use Rattle.dialect_core.specs.declared.ops.Value.TheVariants.{Result}
use Rattle.dialect_core.specs.Data.{Func, DialectOp, Kind, ConstantOp, FilledOp, RowOp}
use Rattle.dialect_core.specs.Form.{is_constant, is_constant_kind, others_of}
use Rattle.meaning.specs.Terms.{Term, filled_term}
use Rattle.meaning.specs.Machine.{At, Holds, Row}
use Rattle.meaning.specs.Setting.{Setting}
use Rattle.meaning.specs.Dialect as dialect
use Rattle.meaning.specs.Dialect.{attr_term, same_value}
use Rattle.meaning.specs.Shape.{Plan, among, term_among, operands_of}
use Rattle.meaning.specs.Woven.{sets_constant, paired, KeepsPlan, AreSet, ReadsOnlySet}
use Rattle.meaning.proofs.WovenLaws.{swap_or}

module _ (setting : Setting) (g : Func) where
  abbrev pub rows : List DialectOp → List (Row Value)
  rows os = map (dialect.row setting g) os

  -- ---- rows that pair off

  constant_kind : (o : DialectOp) (k : Kind) → sets_constant (dialect.action setting g o k) ≡ is_constant_kind k
  constant_kind o (ConstantOp value) = refl
  constant_kind o (FilledOp fill) = refl
  constant_kind o (RowOp op) = refl

  paired_one : (o : DialectOp) (os : List DialectOp) (b : Bool) → paired (rows os) ≡ rows (others_of os) → (if not b then dialect.row setting g o ∷ paired (rows os) else paired (rows os)) ≡ rows (if not b then o ∷ others_of os else others_of os)
  paired_one o os true e = e
  paired_one o os false e = ap (λ (rs : List (Row Value)). dialect.row setting g o ∷ rs) e

  -- the rows of the operations but the constants
  pub paired_rows : (os : List DialectOp) → paired (rows os) ≡ rows (others_of os)
  paired_rows [] = refl
  paired_rows (o ∷ os) = ap (λ (b : Bool). if not b then dialect.row setting g o ∷ paired (rows os) else paired (rows os)) (constant_kind o o.kind) ∙ paired_one o os (is_constant o) (paired_rows os)

  module _ (plan : Plan) where
    -- ---- rows that keep to a plan

    -- the plan has the constant that the operation holds, where it holds one
    abbrev pub HasConstant : DialectOp → Kind → Type 0
    HasConstant o k = (t : Term) → dialect.action setting g o k ≡ Holds t → (among plan.hoisted (Result (record { 0 = o.number })) ≡ true) × (term_among plan.hoisted (Result (record { 0 = o.number })) ≡ t)

    kept_row : (o : DialectOp) (k : Kind) → HasConstant o k → KeepsPlan plan (dialect.action setting g o k) (Result (record { 0 = o.number }))
    kept_row o (ConstantOp value) h = h (attr_term setting value) refl
    kept_row o (FilledOp fill) h = h (filled_term fill (dialect.option_type o.result)) refl
    kept_row o (RowOp op) h = tt

    pub kept_rows : (os : List DialectOp) → ((i : ℕ) (o : DialectOp) → slice_get os i ≡ Some o → HasConstant o o.kind) → All (λ (r : Row Value). KeepsPlan plan r.action r.result) (rows os)
    kept_rows [] h = All-nil _
    kept_rows (o ∷ os) h = All-cons (λ (r : Row Value). KeepsPlan plan r.action r.result) (dialect.row setting g o) (rows os) (kept_row o o.kind (h 0 o refl)) (kept_rows os (λ i x at. h (suc i) x at))

    -- ---- rows that read only what is set

    -- if it is a constant, the rows set it
    abbrev pub IsSet : List (Row Value) → Value → Type 0
    IsSet done v = among plan.hoisted v ≡ true → among done v ≡ true

    are_set : (done : List (Row Value)) (vs : List Value) → All (IsSet done) vs → AreSet plan done (map At vs)
    are_set done [] h = tt
    are_set done (v ∷ vs) h = (All-head (IsSet done) v vs h, are_set done vs (All-tail (IsSet done) v vs h))

    operands_set : (done : List (Row Value)) (o : DialectOp) (k : Kind) → All (IsSet done) o.operands → AreSet plan done (operands_of (dialect.action setting g o k))
    operands_set done o (ConstantOp value) h = tt
    operands_set done o (FilledOp fill) h = tt
    operands_set done o (RowOp op) h = are_set done o.operands h

    -- if it is a constant, it is set by the rows that are done or by those operations
    abbrev pub IsSetBy : List (Row Value) → List DialectOp → Value → Type 0
    IsSetBy done os v = among plan.hoisted v ≡ true → (among done v || among (rows os) v) ≡ true

    -- each operation reads only constants that those done, or those before it, set
    pub reads_set : (os : List DialectOp) (done : List (Row Value)) → ((i : ℕ) (o : DialectOp) → slice_get os i ≡ Some o → All (IsSetBy done (take i os)) o.operands) → ReadsOnlySet plan done (rows os)
    reads_set [] done h = tt
    reads_set (o ∷ os) done h =
        let q = dialect.row setting g o in (
          operands_set done o o.kind (All-weaker (IsSetBy done []) (IsSet done) (λ v s m. ⊎_elim (λ x. x) (λ x. absurd (false≢true x)) (or_cases (among done v) false (s m))) o.operands (h 0 o refl)),
          reads_set os (q ∷ done) (λ i x at. All-weaker (IsSetBy done (take (suc i) (o ∷ os))) (IsSetBy (q ∷ done) (take i os)) (λ v s m. swap_or (among done v) (same_value q.result v) (among (rows (take i os)) v) (s m)) x.operands (h (suc i) x at)),
        )
