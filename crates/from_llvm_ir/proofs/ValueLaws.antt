-- What stands for what as a function grows, and what was noted of it.
use Rattle.std.proofs.Common.{ℕ, ◌≡◌, ◌<◌, ◌⊎◌, inl, inr, refl, sym, ap, subst, ◌∙◌, Bool, true, false, if◌then◌else◌, nat_eq, List, [], ◌∷◌, ◌++◌, Some, None, length, slice_get, arith, eq-eqb, ne_eqb, eqb-true}
use Rattle.std.specs.Prelude.{IsSome}
use Rattle.std.specs.Bool.{Decides}
use Rattle.std.proofs.lemmas.Bool.{both_ways}
use Rattle.std.proofs.lemmas.Option.{slice_get_within, same_Some}
use Rattle.dialect_types.proofs.TreeLemmas.{push_cases}
use Rattle.support.proofs.ListLaws.{slice_get-before, slice_get-kept}
use Rattle.llvm_core.specs.declared.numbers.LLVMConst.{LLVMConst}
use Rattle.llvm_core.specs.declared.numbers.LLVMInstRef.{LLVMInstRef}
use Rattle.llvm_core.specs.declared.code.LLVMValue.{LLVMValue}
use Rattle.llvm_core.specs.declared.code.LLVMValue.TheVariants as K
use Rattle.llvm_core.specs.contracts.code.LLVMValuePartialEq.TheImpl as keys
use Rattle.llvm_core.specs.contracts.code.LLVMValueEq.TheImpl.Laws as key_laws
use Rattle.llvm_core.specs.Module.{Module}
use Rattle.llvm_core.specs.Parts.{IsValue}
use Rattle.llvm_core.specs.Data as L
use Rattle.llvm_core.specs.Data.{ConstTree, Placed, trees_of, operand_of, const_at, AreApart}
use Rattle.dialect_core.specs.declared.ops.Value.{Value}
use Rattle.dialect_core.specs.Data.{DialectOp}
use Rattle.dialect_core.proofs.ListLemmas.{slice_get-last}
use Rattle.from_llvm_ir.specs.declared.values.Values.{Values}
use Rattle.from_llvm_ir.specs.Values.{value_at, IsNoted}
use Rattle.from_llvm_ir.specs.Known.{Frame, Known, StandsAt, Stands, Notes, beside, knows, result_in, value_of}
use Rattle.from_llvm_ir.proofs.Whole.{beside_more}

-- ---- keys

same_key : (a b : LLVMValue) → keys.eq-value.it a b ≡ true → a ≡ b
same_key a b h = grind arith

pub key_decides : (a b : LLVMValue) → Decides (keys.eq-value.it a b) (a ≡ b)
key_decides a b = (same_key a b, λ e. subst (λ (y : LLVMValue). keys.eq-value.it a y ≡ true) e (key_laws.laws-law.refl a))

-- ---- one more note

-- what was known is still known, and besides it what the key stands for
noted : (m : Module) (old new : Values) (k k' : Known) (key : LLVMValue) (to : Value) → Notes m old k → IsNoted old new key to
    → ((v : LLVMValue) (w : Value) → Stands k (operand_of (trees_of m) v) w → Stands k' (operand_of (trees_of m) v) w)
    → Stands k' (operand_of (trees_of m) key) to
    → ((v : LLVMValue) (w : Value) → IsValue m v → Stands k' (operand_of (trees_of m) v) w → Stands k (operand_of (trees_of m) v) w ⊎ (key ≡ v))
    → Notes m new k'
noted m old new k k' key to h is more here only = record {
  sound = λ v w at. sound v w (keys.eq-value.it key v) refl (sym (is v) ∙ at);
  complete = λ v w valid st. subst IsSome (sym (is v)) (complete v w (keys.eq-value.it key v) refl (only v w valid st) valid);
}
  where
    sound : (v : LLVMValue) (w : Value) (t : Bool) → keys.eq-value.it key v ≡ t → (if keys.eq-value.it key v then Some to else value_at old v) ≡ Some w → Stands k' (operand_of (trees_of m) v) w
    sound v w true same at =
        let e : key ≡ v = (key_decides key v).0 same in
        let is_to : to ≡ w = same_Some to w (sym (ap (λ (t : Bool). if t then Some to else value_at old v) same) ∙ at) in
        subst (λ (x : LLVMValue). Stands k' (operand_of (trees_of m) x) w) e (subst (Stands k' (operand_of (trees_of m) key)) is_to here)
    sound v w false apart at = more v w (h.sound v w (sym (ap (λ (t : Bool). if t then Some to else value_at old v) apart) ∙ at))

    complete : (v : LLVMValue) (w : Value) (t : Bool) → keys.eq-value.it key v ≡ t → Stands k (operand_of (trees_of m) v) w ⊎ (key ≡ v) → IsValue m v → IsSome (if keys.eq-value.it key v then Some to else value_at old v)
    complete v w true same st valid = rw same refl
    complete v w false apart (inl st) valid = rw apart (h.complete v w valid st)
    complete v w false apart (inr e) valid = absurd (both_ways (keys.eq-value.it key v) apart ((key_decides key v).1 e))

-- ---- a constant more

constant_more : (c : ConstTree) (o : DialectOp) (cs : List ConstTree) (os : List DialectOp) (d : ConstTree) (w : Value) → StandsAt cs os d w → StandsAt (cs ++ c ∷ []) (os ++ o ∷ []) d w
constant_more c o cs os d w h = record { place = h.place; op = h.op; here = slice_get-kept cs (c ∷ []) h.place d h.here; there = slice_get-kept os (o ∷ []) h.place h.op h.there; is = h.is }

constant_old : (c : ConstTree) (o : DialectOp) (cs : List ConstTree) (os : List DialectOp) (d : ConstTree) (w : Value) → length os ≡ length cs → StandsAt (cs ++ c ∷ []) (os ++ o ∷ []) d w → StandsAt cs os d w ⊎ (d ≡ c)
constant_old c o cs os d w n h = elim (push_cases cs c d h.place h.here) [
  | inl old ↦ inl (record { place = h.place; op = h.op; here = old; there = sym (slice_get-before os (o ∷ []) h.place (omega (arith, n, slice_get_within cs h.place d old))) ∙ h.there; is = h.is })
  | inr new ↦ inr new.0
]

pub constant_noted : (m : Module) (fr : Frame) (old new : Values) (cs : List ConstTree) (os : List DialectOp) (ps : List Placed) (ws : List Value) (k : LLVMConst) (o : DialectOp) (to : Value) → AreApart m → k.0 < length m.consts → length os ≡ length cs → to ≡ value_of o
    → Notes m old (knows fr cs os ps ws) → IsNoted old new (K.Const k) to → Notes m new (knows fr (cs ++ const_at (trees_of m).consts k ∷ []) (os ++ o ∷ []) ps ws)
constant_noted m fr old new cs os ps ws k o to apart within n is h note =
    noted m old new (knows fr cs os ps ws) (knows fr (cs ++ const_at (trees_of m).consts k ∷ []) (os ++ o ∷ []) ps ws) (K.Const k) to h note more here only
  where
    more : (v : LLVMValue) (w : Value) → Stands (knows fr cs os ps ws) (operand_of (trees_of m) v) w → Stands (knows fr (cs ++ const_at (trees_of m).consts k ∷ []) (os ++ o ∷ []) ps ws) (operand_of (trees_of m) v) w
    more (K.Const d) w st = constant_more (const_at (trees_of m).consts k) o cs os (const_at (trees_of m).consts d) w st
    more (K.Param f i) w st = st
    more (K.Inst i) w st = st

    here : Stands (knows fr (cs ++ const_at (trees_of m).consts k ∷ []) (os ++ o ∷ []) ps ws) (L.Constant (const_at (trees_of m).consts k)) to
    here = record { place = length cs; op = o; here = slice_get-last cs (const_at (trees_of m).consts k); there = ap (slice_get (os ++ o ∷ [])) (sym n) ∙ slice_get-last os o; is = is }

    only : (v : LLVMValue) (w : Value) → IsValue m v → Stands (knows fr (cs ++ const_at (trees_of m).consts k ∷ []) (os ++ o ∷ []) ps ws) (operand_of (trees_of m) v) w → Stands (knows fr cs os ps ws) (operand_of (trees_of m) v) w ⊎ (K.Const k ≡ v)
    only (K.Const d) w valid st = elim (constant_old (const_at (trees_of m).consts k) o cs os (const_at (trees_of m).consts d) w n st) [
      | inl a ↦ inl a
      | inr e ↦ inr (ap K.Const (apart.consts k d within valid (sym e)))
    ]
    only (K.Param f i) w valid st = inl st
    only (K.Inst i) w valid st = inl st

-- ---- a result more

result_old : (n : ℕ) (ps : List Placed) (ws : List Value) (p : Placed) (to w : Value) → length ws ≡ length ps → beside (λ (q : Placed). nat_eq q.number n) (ps ++ p ∷ []) (ws ++ to ∷ []) ≡ Some w → (beside (λ (q : Placed). nat_eq q.number n) ps ws ≡ Some w) ⊎ (p.number ≡ n)
result_old n [] [] p to w e h = by (nat_eq p.number n) refl h
  where
    by : (t : Bool) → nat_eq p.number n ≡ t → (if t then Some to else None) ≡ Some w → (None ≡ Some w) ⊎ (p.number ≡ n)
    by true same k = inr (eqb-true p.number n same)
    by false differs k = inl k
result_old n [] (v ∷ ws) p to w e h = absurd (omega (arith, e))
result_old n (q ∷ ps) [] p to w e h = absurd (omega (arith, e))
result_old n (q ∷ ps) (v ∷ ws) p to w e h = by (nat_eq q.number n) h (result_old n ps ws p to w (omega (arith, e)))
  where
    by : (t : Bool) → (if t then Some v else beside (λ (q : Placed). nat_eq q.number n) (ps ++ p ∷ []) (ws ++ to ∷ [])) ≡ Some w
        → (beside (λ (q : Placed). nat_eq q.number n) (ps ++ p ∷ []) (ws ++ to ∷ []) ≡ Some w → (beside (λ (q : Placed). nat_eq q.number n) ps ws ≡ Some w) ⊎ (p.number ≡ n))
        → ((if t then Some v else beside (λ (q : Placed). nat_eq q.number n) ps ws) ≡ Some w) ⊎ (p.number ≡ n)
    by true k rest = inl k
    by false k rest = rest k

-- a number that no earlier instruction has
pub result_here : (ps : List Placed) (ws : List Value) (p : Placed) (to : Value) → length ws ≡ length ps → ((j : ℕ) (q : Placed) → slice_get ps j ≡ Some q → ¬ (q.number ≡ p.number)) → beside (λ (q : Placed). nat_eq q.number p.number) (ps ++ p ∷ []) (ws ++ to ∷ []) ≡ Some to
result_here [] [] p to e fresh = ap (λ (t : Bool). if t then Some to else None) (eq-eqb p.number p.number refl)
result_here [] (v ∷ ws) p to e fresh = absurd (omega (arith, e))
result_here (q ∷ ps) [] p to e fresh = absurd (omega (arith, e))
result_here (q ∷ ps) (v ∷ ws) p to e fresh =
    ap (λ (t : Bool). if t then Some v else beside (λ (x : Placed). nat_eq x.number p.number) (ps ++ p ∷ []) (ws ++ to ∷ [])) (ne_eqb q.number p.number (fresh 0 q refl))
    ∙ result_here ps ws p to (omega (arith, e)) (λ j x at. fresh (ℕ.suc j) x at)

pub stands_more : (fr : Frame) (cs : List ConstTree) (os : List DialectOp) (ps ps' : List Placed) (ws ws' : List Value) (o : L.Operand) (w : Value) → Stands (knows fr cs os ps ws) o w → Stands (knows fr cs os (ps ++ ps') (ws ++ ws')) o w
stands_more fr cs os ps ps' ws ws' (L.Constant c) w st = st
stands_more fr cs os ps ps' ws ws' (L.Parameter f i) w st = st
stands_more fr cs os ps ps' ws ws' (L.Result n) w st = beside_more (λ (p : Placed). nat_eq p.number n) ps ps' ws ws' w st

pub result_noted : (m : Module) (fr : Frame) (old new : Values) (cs : List ConstTree) (os : List DialectOp) (ps : List Placed) (ws : List Value) (i : LLVMInstRef) (p : Placed) (to : Value) → p.number ≡ i.0 → length ws ≡ length ps → ((j : ℕ) (q : Placed) → slice_get ps j ≡ Some q → ¬ (q.number ≡ p.number))
    → Notes m old (knows fr cs os ps ws) → IsNoted old new (K.Inst i) to → Notes m new (knows fr cs os (ps ++ p ∷ []) (ws ++ to ∷ []))
result_noted m fr old new cs os ps ws i p to number n fresh h note =
    noted m old new (knows fr cs os ps ws) (knows fr cs os (ps ++ p ∷ []) (ws ++ to ∷ [])) (K.Inst i) to h note (λ v w st. stands_more fr cs os ps (p ∷ []) ws (to ∷ []) (operand_of (trees_of m) v) w st)
    (subst (λ (x : ℕ). result_in (knows fr cs os (ps ++ p ∷ []) (ws ++ to ∷ [])) x ≡ Some to) number (result_here ps ws p to n fresh)) only
  where
    only : (v : LLVMValue) (w : Value) → IsValue m v → Stands (knows fr cs os (ps ++ p ∷ []) (ws ++ to ∷ [])) (operand_of (trees_of m) v) w → Stands (knows fr cs os ps ws) (operand_of (trees_of m) v) w ⊎ (K.Inst i ≡ v)
    only (K.Const d) w valid st = inl st
    only (K.Param f j) w valid st = inl st
    only (K.Inst j) w valid st = elim (result_old j.0 ps ws p to w n st) [
      | inl a ↦ inl a
      | inr e ↦ inr (ap (λ (x : ℕ). K.Inst (record { 0 = x })) (sym number ∙ e))
    ]
