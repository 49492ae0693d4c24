-- `==` of the table's rows is equality. It is proved for any enum whose variants' fields are one where they compare so, and
-- a tactic goes through the variants: a further row costs no line, and a further sort of immediates one lemma.
use Rattle.std.proofs.Common.{◌≡◌, inl, inr, Bool, true, false, List, [], ◌∷◌, Option, Some, None, refl, ap, ◌∙◌, arith}
use Rattle.std.specs.Option.{option_eq}
use Rattle.std.proofs.lemmas.Bool.{false≢true, and_parts}
use mathlib.Core.Bool.{beq}
use denote.Struct.Field.{Field}
use denote.Struct.Values.{Values}
use denote.Enum.Declared.{Choice, values_one}
use denote.Enum.Compared.{Each, by}
use denote.Enum.Bare.{same_true}
use Rattle.kinds.specs.declared.access.Align.{Align}
use Rattle.kinds.specs.declared.access.Access.{Access}
use Rattle.kinds.specs.declared.op.Op.{Op}
use Rattle.kinds.specs.declared.op.OverflowFlags.{OverflowFlags}
use Rattle.kinds.specs.declared.op.LLVMIntPredicate.{LLVMIntPredicate}
use Rattle.kinds.specs.contracts.access.Align.{the_type}
use Rattle.kinds.specs.contracts.access.AlignPartialEq.TheImpl as aligns
use Rattle.kinds.specs.contracts.access.AccessPartialEq.TheImpl as access_eq
use Rattle.kinds.specs.contracts.op.Op as op
use Rattle.kinds.specs.contracts.op.OpPartialEq.TheImpl as ops
use Rattle.kinds.specs.contracts.op.OverflowFlagsPartialEq.TheImpl as flags_eq
use Rattle.kinds.specs.contracts.op.LLVMIntPredicatePartialEq.TheImpl as predicate_eq

-- ---- any enum

-- the fields of each variant that has some are one where they compare so
abbrev Told : (parts : List (List Field)) → Each Bool parts → Type 0
Told [] each = Unit {0}
Told ([] ∷ parts) each = Told parts each.1
Told ((field ∷ fields) ∷ parts) each = ((x y : Values (field ∷ fields)) → each.0 x y ≡ true → x ≡ y) × Told parts each.1

same_choice : (parts : List (List Field)) (each : Each Bool parts) (c d : Choice parts) → by false false parts each c d ≡ true → Told parts each → c ≡ d
same_choice [] each c d h told = absurd c
same_choice ([] ∷ parts) each (inl x) (inl y) h told = refl
same_choice ([] ∷ parts) each (inl x) (inr d) h told = absurd (false≢true h)
same_choice ([] ∷ parts) each (inr c) (inl y) h told = absurd (false≢true h)
same_choice ([] ∷ parts) each (inr c) (inr d) h told = ap inr (same_choice parts each.1 c d h told)
same_choice ((field ∷ fields) ∷ parts) each (inl x) (inl y) h told = ap inl (told.0 x y h)
same_choice ((field ∷ fields) ∷ parts) each (inl x) (inr d) h told = absurd (false≢true h)
same_choice ((field ∷ fields) ∷ parts) each (inr c) (inl y) h told = absurd (false≢true h)
same_choice ((field ∷ fields) ∷ parts) each (inr c) (inr d) h told = ap inr (same_choice parts each.1 c d h told.1)

-- ---- what a row holds, a lemma for each sort of immediates

flags_told : (x y : OverflowFlags × Unit {0}) → flags_eq.eq-value.it x.0 y.0 ≡ true → x ≡ y
flags_told x y h = let same : x.0 ≡ y.0 = grind arith in ap (λ (f : OverflowFlags). (f, tt)) same

same_truth : (a b : Bool) → beq a b ≡ true → a ≡ b
same_truth true true h = refl
same_truth true false h = absurd cc
same_truth false true h = absurd cc
same_truth false false h = refl

truth_told : (x y : Bool × Unit {0}) → beq x.0 y.0 ≡ true → x ≡ y
truth_told x y h = ap (λ (b : Bool). (b, tt)) (same_truth x.0 y.0 h)

predicate_told : (x y : LLVMIntPredicate × Unit {0}) → predicate_eq.eq-value.it x.0 y.0 ≡ true → x ≡ y
predicate_told x y h = let same : x.0 ≡ y.0 = grind arith in ap (λ (p : LLVMIntPredicate). (p, tt)) same

same_align : (a b : Align) → aligns.eq-value.it a b ≡ true → a ≡ b
same_align a b h = same_true the_type tt a b h

same_maybe : (a b : Option Align) → option_eq aligns.eq-value.it a b ≡ true → a ≡ b
same_maybe None None h = refl
same_maybe None (Some b) h = absurd cc
same_maybe (Some a) None h = absurd cc
same_maybe (Some a) (Some b) h = ap Some (same_align a b h)

abbrev access : Option Align → Bool → Access
access align volatile = record { align = align; volatile = volatile }

access_told : (x y : Access × Unit {0}) → access_eq.eq-value.it x.0 y.0 ≡ true → x ≡ y
access_told x y h =
    let both = and_parts (option_eq aligns.eq-value.it x.0.align y.0.align) (beq x.0.volatile y.0.volatile) h in
    let align = ap (λ (o : Option Align). access o x.0.volatile) (same_maybe x.0.align y.0.align both.0) in
    let volatile = ap (access y.0.align) (same_truth x.0.volatile y.0.volatile both.1) in
    ap (λ (a : Access). (a, tt)) (align ∙ volatile)

-- ---- rows

pub same_op : (a b : Op) → ops.eq-value.it a b ≡ true → a ≡ b
same_op a b h = values_one op.enum a b (same_choice op.enum.parts _ (op.as_values a) (op.as_values b) h (search (flags_told, predicate_told, truth_told, access_told) depth 200))
