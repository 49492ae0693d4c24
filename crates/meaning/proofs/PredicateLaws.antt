-- Each predicate of LLVM stands for one of the dialect, and no two of the dialect become one.
use Rattle.std.proofs.Common.{◌≡◌, refl, sym, ap, ◌∙◌}
use Rattle.kinds.specs.declared.op.LLVMIntPredicate.{LLVMIntPredicate}
use Rattle.kinds.specs.declared.op.LLVMIntPredicate.TheVariants as I
use Rattle.dialect_core.specs.declared.predicates.ICmpPredicateAttr.{ICmpPredicateAttr}
use Rattle.dialect_core.specs.declared.predicates.ICmpPredicateAttr.TheVariants as P
use Rattle.meaning.specs.Dialect.{predicate_of}

-- the predicate of the dialect for one of LLVM
abbrev pub predicate_for : LLVMIntPredicate → ICmpPredicateAttr
predicate_for I.LLVMIntEQ = P.EQ
predicate_for I.LLVMIntNE = P.NE
predicate_for I.LLVMIntUGT = P.UGT
predicate_for I.LLVMIntUGE = P.UGE
predicate_for I.LLVMIntULT = P.ULT
predicate_for I.LLVMIntULE = P.ULE
predicate_for I.LLVMIntSGT = P.SGT
predicate_for I.LLVMIntSGE = P.SGE
predicate_for I.LLVMIntSLT = P.SLT
predicate_for I.LLVMIntSLE = P.SLE

pub for_of : (p : ICmpPredicateAttr) → predicate_for (predicate_of p) ≡ p
for_of P.EQ = refl
for_of P.NE = refl
for_of P.UGT = refl
for_of P.UGE = refl
for_of P.ULT = refl
for_of P.ULE = refl
for_of P.SGT = refl
for_of P.SGE = refl
for_of P.SLT = refl
for_of P.SLE = refl

pub of_for : (q : LLVMIntPredicate) → predicate_of (predicate_for q) ≡ q
of_for I.LLVMIntEQ = refl
of_for I.LLVMIntNE = refl
of_for I.LLVMIntUGT = refl
of_for I.LLVMIntUGE = refl
of_for I.LLVMIntULT = refl
of_for I.LLVMIntULE = refl
of_for I.LLVMIntSGT = refl
of_for I.LLVMIntSGE = refl
of_for I.LLVMIntSLT = refl
of_for I.LLVMIntSLE = refl

pub one_to_one : (p q : ICmpPredicateAttr) → predicate_of p ≡ predicate_of q → p ≡ q
one_to_one p q e = sym (for_of p) ∙ ap predicate_for e ∙ for_of q

pub onto : (q : LLVMIntPredicate) → (p : ICmpPredicateAttr) × (predicate_of p ≡ q)
onto q = (predicate_for q, of_for q)
