-- The tests of keys and of values decide whether both are one.
use Rattle.std.proofs.Common.{ℕ, ◌≡◌, true, subst, ap, ap₂, refl, nat_eq, Decides, eqb-true, eq-eqb}
use Rattle.std.proofs.lemmas.Bool.{and_parts, and_from}
use Rattle.dialect_core.specs.declared.ops.Value.{Value}
use Rattle.dialect_core.specs.declared.ops.Value.TheVariants.{Result, Argument}
use Rattle.meaning.specs.Llvm.{Key, ParamKey, ResultKey, same_key}
use Rattle.meaning.specs.Dialect.{same_value}

same_key_refl : (k : Key) → same_key k k ≡ true
same_key_refl (ParamKey f i) = and_from _ _ (eq-eqb f f refl) (eq-eqb i i refl)
same_key_refl (ResultKey n) = eq-eqb n n refl

same_key_true : (j k : Key) → same_key j k ≡ true → j ≡ k
same_key_true (ParamKey f i) (ParamKey g j) h = let p = and_parts (nat_eq f g) (nat_eq i j) h in ap₂ ParamKey (eqb-true f g p.0) (eqb-true i j p.1)
same_key_true (ResultKey m) (ResultKey n) h = ap ResultKey (eqb-true m n h)
same_key_true (ParamKey f i) (ResultKey n) h = cc h
same_key_true (ResultKey m) (ParamKey g j) h = cc h

pub same_key-Decides : (j k : Key) → Decides (same_key j k) (j ≡ k)
same_key-Decides j k = (same_key_true j k, λ e. subst (λ (k : Key). same_key j k ≡ true) e (same_key_refl j))

same_value_refl : (v : Value) → same_value v v ≡ true
same_value_refl (Result m) = eq-eqb m.0 m.0 refl
same_value_refl (Argument b i) = and_from _ _ (eq-eqb b.0 b.0 refl) (eq-eqb i i refl)

same_value_true : (v w : Value) → same_value v w ≡ true → v ≡ w
same_value_true (Result m) (Result n) h = ap (λ (k : ℕ). Result (record { 0 = k })) (eqb-true m.0 n.0 h)
same_value_true (Argument b i) (Argument c j) h =
    let p = and_parts (nat_eq b.0 c.0) (nat_eq i j) h in ap₂ (λ (k l : ℕ). Argument (record { 0 = k }) l) (eqb-true b.0 c.0 p.0) (eqb-true i j p.1)
same_value_true (Result m) (Argument c j) h = cc h
same_value_true (Argument b i) (Result n) h = cc h

pub same_value-Decides : (v w : Value) → Decides (same_value v w) (v ≡ w)
same_value-Decides v w = (same_value_true v w, λ e. subst (λ (w : Value). same_value v w ≡ true) e (same_value_refl v))
