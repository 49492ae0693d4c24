-- `==` of types and constants is equality, and what that makes of an interner's clauses.
use Rattle.std.proofs.Common.{◌≡◌, ℕ, true, List, subst, arith}
use Rattle.std.specs.Bool.{Decides}
use Rattle.std.specs.List.{IsDistinct}
use Rattle.support.proofs.InternedLaws.{interned_by, distinct_list}
use Rattle.llvm_core.specs.declared.types.LLVMTypeKind.{LLVMTypeKind}
use Rattle.llvm_core.specs.declared.types.LLVMTypeKind.TheVariants as T
use Rattle.llvm_core.specs.declared.consts.LLVMConstKind.{LLVMConstKind}
use Rattle.llvm_core.specs.declared.consts.LLVMConstKind.TheVariants as C
use Rattle.llvm_core.specs.contracts.types.LLVMTypeKindPartialEq.TheImpl as types
use Rattle.llvm_core.specs.contracts.types.LLVMTypeKindEq.TheImpl.Laws as type_eq
use Rattle.llvm_core.specs.contracts.consts.LLVMConstKindPartialEq.TheImpl as consts
use Rattle.llvm_core.specs.contracts.consts.LLVMConstKindEq.TheImpl.Laws as const_eq
use Rattle.llvm_core.specs.Keys.{same_types, same_consts, same_text}
use Rattle.support.specs.Interned.{InternedBy, Interned, IsDistinctList}

-- ---- types

pub same_kind : (a b : LLVMTypeKind) → types.eq-value.it a b ≡ true → a ≡ b
same_kind (T.Function r xs p) (T.Function s ys q) h = grind (arith, same_types xs ys)
same_kind (T.Literal xs p) (T.Literal ys q) h = grind (arith, same_types xs ys)
same_kind (T.Named x) (T.Named y) h = grind (arith, same_text x y)
same_kind a b h = grind arith

kind_decides : (a b : LLVMTypeKind) → Decides (types.eq-value.it a b) (a ≡ b)
kind_decides a b = (same_kind a b, λ e. subst (λ (y : LLVMTypeKind). types.eq-value.it a y ≡ true) e (type_eq.laws-law.refl a))

pub interned_type : (old new : List LLVMTypeKind) (k : LLVMTypeKind) (n : ℕ) → InternedBy types.eq-value.it old new k n → Interned old new k n
interned_type = interned_by types.eq-value.it same_kind

pub distinct_types : (xs : List LLVMTypeKind) → IsDistinct types.eq-value.it xs → IsDistinctList xs
distinct_types = distinct_list types.eq-value.it kind_decides

-- ---- constants

pub same_const : (a b : LLVMConstKind) → consts.eq-value.it a b ≡ true → a ≡ b
same_const (C.List t xs) (C.List u ys) h = grind (arith, same_consts xs ys)
same_const (C.Bytes t xs) (C.Bytes u ys) h = grind (arith, same_text xs ys)
same_const a b h = grind arith

const_decides : (a b : LLVMConstKind) → Decides (consts.eq-value.it a b) (a ≡ b)
const_decides a b = (same_const a b, λ e. subst (λ (y : LLVMConstKind). consts.eq-value.it a y ≡ true) e (const_eq.laws-law.refl a))

pub interned_const : (old new : List LLVMConstKind) (k : LLVMConstKind) (n : ℕ) → InternedBy consts.eq-value.it old new k n → Interned old new k n
interned_const = interned_by consts.eq-value.it same_const

pub distinct_consts : (xs : List LLVMConstKind) → IsDistinct consts.eq-value.it xs → IsDistinctList xs
distinct_consts = distinct_list consts.eq-value.it const_decides
