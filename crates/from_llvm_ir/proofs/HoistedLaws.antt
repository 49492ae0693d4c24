-- The rows of hoisted constants: each sets its value to its constant's term, and leaves all others.
use Rattle.std.proofs.Common.{ℕ, ◌≡◌, refl, sym, ap, ◌∙◌, Bool, true, false, ◌||◌, if◌then◌else◌, List, [], ◌∷◌, Some, None, inl, inr, map, slice_get, arith, eq-eqb, ne_eqb}
use Rattle.std.proofs.lemmas.Option.{same_Some}
use Rattle.llvm_core.specs.Data.{ConstTree, const_type}
use Rattle.dialect_core.specs.declared.ops.Value.{Value}
use Rattle.dialect_core.specs.declared.ops.Value.TheVariants as V
use Rattle.dialect_core.specs.Data.{DialectOp, Func, Kind}
use Rattle.meaning.specs.Terms.{Term, Unset, filled_term}
use Rattle.meaning.specs.Machine.{Action, Row, State, Holds, straight, begin, set_in}
use Rattle.meaning.specs.Setting.{Setting}
use Rattle.meaning.specs.Pairs.{Matched}
use Rattle.meaning.specs.Llvm.{const_term}
use Rattle.meaning.specs.Dialect as dialect
use Rattle.meaning.specs.Dialect.{same_value}
use Rattle.meaning.specs.Shape.{among, IsClosed, term_among}
use Rattle.from_llvm_ir.specs.Building.{new_op}
use Rattle.from_llvm_ir.specs.Known.{IsConstantOp, value_of}
use Rattle.from_llvm_ir.proofs.AttrLaws.{attr_means, kind_cases}

module _ (made : Setting) (G : Func) where
  abbrev pub rows_of : List DialectOp → List (Row Value)
  rows_of os = map (dialect.row made G) os

  -- a constant's operation holds its term
  pub holds : (source : Setting) (c : ConstTree) (o : DialectOp) → IsConstantOp c o → (dialect.row made G o).action ≡ Holds (const_term source c)
  holds source c o m =
      let bare : Kind → DialectOp = λ k. new_op o.number None k [] [] (Some (const_type c)) in
      let holding : Term → Action Value = λ t. Holds t in
      ap (λ (x : DialectOp). dialect.action made G x x.kind) m.2 ∙ elim (kind_cases c m.0 m.1) [
        | inl h ↦ ap (dialect.action made G (bare m.0)) h.is ∙ ap (λ (x : ConstTree). holding (filled_term h.fill (const_type x))) h.tree ∙ ap (λ (x : ConstTree). holding (const_term source x)) (sym h.tree)
        | inr h ↦ ap (dialect.action made G (bare m.0)) h.is ∙ ap holding (attr_means source made c h.attr h.of)
      ]

  pub closed : (done : List (Row Value)) (cs : List ConstTree) (os : List DialectOp) → Matched IsConstantOp cs os → IsClosed done (rows_of os)
  closed done [] [] h = tt
  closed done [] (o ∷ os) h = elim h [ ]
  closed done (c ∷ cs) [] h = elim h [ ]
  closed done (c ∷ cs) (o ∷ os) h =
      let e = holds made c o h.0 in
      (rw e tt, rw e tt, closed (dialect.row made G o ∷ done) cs os h.1)

  -- what no row sets
  pub not_among : (os : List DialectOp) (w : Value) → ((i : ℕ) (o : DialectOp) → slice_get os i ≡ Some o → same_value (value_of o) w ≡ false) → among (rows_of os) w ≡ false
  not_among [] w h = refl
  not_among (o ∷ os) w h = rw (h 0 o refl, not_among os w (λ i x at. h (ℕ.suc i) x at)) refl

  pub is_among : (os : List DialectOp) (i : ℕ) (o : DialectOp) → slice_get os i ≡ Some o → among (rows_of os) (value_of o) ≡ true
  is_among [] i o at = cc
  is_among (x ∷ os) ℕ.zero o at = let same : x ≡ o = same_Some x o at in rw (eq-eqb x.number o.number (ap (λ (y : DialectOp). y.number) same)) refl
  is_among (x ∷ os) (ℕ.suc i) o at = or_true (same_value (value_of x) (value_of o)) (is_among os i o at)
    where
      or_true : (a : Bool) {b : Bool} → b ≡ true → (a || b) ≡ true
      or_true true e = refl
      or_true false e = e

  -- ---- terms

  after : State Value → List DialectOp → State Value
  after s os = straight Value same_value s (rows_of os)

  one : (source : Setting) (s : State Value) (c : ConstTree) (o : DialectOp) (os : List DialectOp) → IsConstantOp c o → straight Value same_value s (rows_of (o ∷ os)) ≡ straight Value same_value (set_in Value same_value s (value_of o) (const_term source c)) (rows_of os)
  one source s c o os m = rw (holds source c o m) refl

  apart_number : (o : DialectOp) (n : ℕ) → ¬ (o.number ≡ n) → same_value (value_of o) (V.Result (record { 0 = n })) ≡ false
  apart_number o n ne = ne_eqb o.number n ne

  unaffected : (s : State Value) (cs : List ConstTree) (os : List DialectOp) (n : ℕ) → Matched IsConstantOp cs os → ((i : ℕ) (o : DialectOp) → slice_get os i ≡ Some o → ¬ (o.number ≡ n)) → (straight Value same_value s (rows_of os)).env (V.Result (record { 0 = n })) ≡ s.env (V.Result (record { 0 = n }))
  unaffected s [] [] n h apart = refl
  unaffected s [] (o ∷ os) n h apart = elim h [ ]
  unaffected s (c ∷ cs) [] n h apart = elim h [ ]
  unaffected s (c ∷ cs) (o ∷ os) n h apart =
      ap (λ (t : State Value). t.env (V.Result (record { 0 = n }))) (one made s c o os h.0)
      ∙ unaffected (set_in Value same_value s (value_of o) (const_term made c)) cs os n h.1 (λ i x at. apart (ℕ.suc i) x at)
      ∙ ap (λ (b : Bool). if b then const_term made c else s.env (V.Result (record { 0 = n }))) (apart_number o n (apart 0 o refl))

  term_from : (source : Setting) (s : State Value) (cs : List ConstTree) (os : List DialectOp) (i : ℕ) (c : ConstTree) (o : DialectOp) → Matched IsConstantOp cs os → ((i j : ℕ) (x y : DialectOp) → slice_get os i ≡ Some x → slice_get os j ≡ Some y → x.number ≡ y.number → i ≡ j)
      → slice_get cs i ≡ Some c → slice_get os i ≡ Some o → (straight Value same_value s (rows_of os)).env (value_of o) ≡ const_term source c
  term_from source s [] [] i c o h apart at_c at_o = cc
  term_from source s [] (x ∷ os) i c o h apart at_c at_o = elim h [ ]
  term_from source s (k ∷ cs) [] i c o h apart at_c at_o = elim h [ ]
  term_from source s (k ∷ cs) (x ∷ os) ℕ.zero c o h apart at_c at_o =
      let same_o : x ≡ o = same_Some x o at_o in
      let same_c : k ≡ c = same_Some k c at_c in
      ap (λ (t : State Value). t.env (value_of o)) (one source s k x os h.0)
      ∙ unaffected (set_in Value same_value s (value_of x) (const_term source k)) cs os o.number h.1 (λ i y at e. let no = apart 0 (ℕ.suc i) x y refl at (ap (λ (z : DialectOp). z.number) same_o ∙ sym e) in absurd (omega (arith, no)))
      ∙ ap (λ (b : Bool). if b then const_term source k else s.env (value_of o)) (eq-eqb x.number o.number (ap (λ (y : DialectOp). y.number) same_o))
      ∙ ap (const_term source) same_c
  term_from source s (k ∷ cs) (x ∷ os) (ℕ.suc i) c o h apart at_c at_o =
      ap (λ (t : State Value). t.env (value_of o)) (one source s k x os h.0)
      ∙ term_from source (set_in Value same_value s (value_of x) (const_term source k)) cs os i c o h.1 (λ a e y z at_y at_z same. let s = apart (ℕ.suc a) (ℕ.suc e) y z at_y at_z same in omega (arith, s)) at_c at_o

  pub term_of : (source : Setting) (cs : List ConstTree) (os : List DialectOp) (i : ℕ) (c : ConstTree) (o : DialectOp) → Matched IsConstantOp cs os → ((i j : ℕ) (x y : DialectOp) → slice_get os i ≡ Some x → slice_get os j ≡ Some y → x.number ≡ y.number → i ≡ j)
      → slice_get cs i ≡ Some c → slice_get os i ≡ Some o → term_among (rows_of os) (value_of o) ≡ const_term source c
  term_of source cs os i c o h apart at_c at_o = term_from source (begin Value same_value (λ (v : Value). Unset)) cs os i c o h apart at_c at_o
