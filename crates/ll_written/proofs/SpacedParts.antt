-- The tokens of what a text says are well spaced.
use Rattle.std.proofs.Common.{◌≡◌, ℕ, Bool, true, false, List, [], ◌∷◌, Option, Some, None, codes, refl}
use Rattle.std.specs.Prelude.{IfSome, decimal}
use Rattle.std.specs.List.{flat_map, AllByRecursion}
use Rattle.kinds.specs.declared.access.Align.{Align}
use Rattle.kinds.specs.Access.{bytes_of}
use Rattle.kinds.proofs.AccessLaws.{few_bytes}
use Rattle.kinds.specs.declared.op.LLVMIntPredicate.{LLVMIntPredicate}
use Rattle.kinds.specs.declared.op.LLVMIntPredicate.TheVariants as I
use Rattle.kinds.specs.declared.op.OverflowFlags.{OverflowFlags}
use Rattle.kinds.specs.declared.op.Op.{Op}
use Rattle.kinds.specs.declared.op.Op.TheVariants as O
use Rattle.kinds.specs.Types.{TypeTree}
use Rattle.ll_lines.specs.Lines as L
use Rattle.ll_lines.specs.Lines.{Text, Said, Typed}
use Rattle.ll_spacing.specs.Forms.{is_word}
use Rattle.ll_spacing.specs.Spacing.{Spaced, AreBlanks}
use Rattle.ll_tokens.specs.declared.kinds.Kind.TheVariants as T
use Rattle.ll_written.specs.Printing.{predicate_text}
use Rattle.ll_written.specs.Written as W
use Rattle.ll_written.specs.Written.{token, word, comma}
use Rattle.ll_written.specs.Writable.{IsSayableType, IsLocal, IsSaidOf, IsTyped}
use Rattle.ll_written.proofs.FreeLaws.{AreFree, IsFree, none_free, then_free, one_free, both_free, each_free, gap_free, apart_free, word_whole, word_free, comma_free}
use Rattle.ll_written.proofs.ConstTokens.{const_free}
use Rattle.ll_written.proofs.NumberForms.{decimal_text}
use Rattle.ll_written.proofs.TypeTokens.{type_free}

-- ---- values

pub said_free : (τ : TypeTree) (s : Said) → IsSaidOf τ s → AreFree (W.written_said s)
said_free τ (L.Local t) h = one_free (apart_free T.Local t h)
said_free τ (L.Const c) h = const_free τ c h

pub typed_free : (x : Typed) → IsTyped x → AreFree (W.written_typed x)
typed_free x h = both_free (W.written_type (codes " ") x.type) (W.written_said x.said) (type_free x.type h.type) (said_free x.type x.said h.said)

-- ---- rows

pub operands_free : (xs : List Typed) → AllByRecursion IsTyped xs → AreFree (W.written_operands xs)
operands_free [] all = none_free
operands_free (x ∷ xs) all =
    both_free (W.written_typed x) (flat_map W.next_said xs) (typed_free x all.0) (each_free IsTyped W.next_said (λ y h. then_free comma_free (said_free y.type y.said h.said)) xs all.1)

pub values_free : (xs : List Typed) → AllByRecursion IsTyped xs → AreFree (W.written_values xs)
values_free [] all = none_free
values_free (x ∷ xs) all =
    both_free (W.written_typed x) (flat_map W.next_typed xs) (typed_free x all.0) (each_free IsTyped W.next_typed (λ y h. then_free comma_free (typed_free y h)) xs all.1)

pub returned_free : (xs : List Typed) → AllByRecursion IsTyped xs → AreFree (W.written_returned xs)
returned_free [] all = one_free (word_free (codes "void") refl)
returned_free (x ∷ xs) all = operands_free (x ∷ xs) all

target_free : (t : Text) → IsLocal t → AreFree (W.written_target t)
target_free t h = then_free (word_free (codes "label") refl) (one_free (apart_free T.Local t h))

pub targets_free : (ts : List Text) → AllByRecursion IsLocal ts → AreFree (W.written_targets ts)
targets_free [] all = none_free
targets_free (t ∷ ts) all = both_free (W.written_target t) (flat_map W.next_target ts) (target_free t all.0) (each_free IsLocal W.next_target (λ u h. then_free comma_free (target_free u h)) ts all.1)

pub to_free : (w : Option TypeTree) → IfSome w IsSayableType → AreFree (W.written_to w)
to_free None h = none_free
to_free (Some τ) h = then_free (word_free (codes "to") refl) (type_free τ h)

pub before_free : (w : Option TypeTree) (xs : List Spaced) → IfSome w IsSayableType → AreFree xs → AreFree (W.written_before w xs)
before_free None xs h free = free
before_free (Some τ) xs h free = both_free (W.written_type (codes " ") τ) (comma ∷ xs) (type_free τ h) (then_free comma_free free)

pub after_free : (w : Option TypeTree) → IfSome w IsSayableType → AreFree (W.written_after w)
after_free None h = none_free
after_free (Some τ) h = then_free comma_free (type_free τ h)

pub align_free : (a : Option Align) → AreFree (W.written_align a)
align_free None = none_free
align_free (Some a) = then_free comma_free (then_free (word_free (codes "align") refl) (one_free (apart_free T.Int (decimal (bytes_of a)) (decimal_text (bytes_of a) (few_bytes a)))))

flag_free : (t : Text) (b : Bool) → is_word t ≡ true → AreFree (W.written_flag t b)
flag_free t false e = none_free
flag_free t true e = one_free (word_free t e)

wraps_free : (flags : OverflowFlags) → AreFree (W.written_wraps flags)
wraps_free flags = both_free (W.written_flag (codes "nuw") flags.nuw) (W.written_flag (codes "nsw") flags.nsw) (flag_free (codes "nuw") flags.nuw refl) (flag_free (codes "nsw") flags.nsw refl)

predicate_free : (p : LLVMIntPredicate) → IsFree (word (predicate_text p))
predicate_free I.LLVMIntEQ = word_free (codes "eq") refl
predicate_free I.LLVMIntNE = word_free (codes "ne") refl
predicate_free I.LLVMIntUGT = word_free (codes "ugt") refl
predicate_free I.LLVMIntUGE = word_free (codes "uge") refl
predicate_free I.LLVMIntULT = word_free (codes "ult") refl
predicate_free I.LLVMIntULE = word_free (codes "ule") refl
predicate_free I.LLVMIntSGT = word_free (codes "sgt") refl
predicate_free I.LLVMIntSGE = word_free (codes "sge") refl
predicate_free I.LLVMIntSLT = word_free (codes "slt") refl
predicate_free I.LLVMIntSLE = word_free (codes "sle") refl

-- behind a gap
module _ (b : ℕ) (bs : Text) (blanks : AreBlanks (b ∷ bs)) where
  pub first_free : (t : Text) → is_word t ≡ true → IsFree (token (b ∷ bs) T.Word t)
  first_free t e = gap_free b bs T.Word t blanks (word_whole t e)

  pub head_free : (op : Op) → AreFree (W.written_head (b ∷ bs) op)
  head_free (O.Add flags) = then_free (first_free (codes "add") refl) (wraps_free flags)
  head_free (O.Sub flags) = then_free (first_free (codes "sub") refl) (wraps_free flags)
  head_free (O.Mul flags) = then_free (first_free (codes "mul") refl) (wraps_free flags)
  head_free (O.Shl flags) = then_free (first_free (codes "shl") refl) (wraps_free flags)
  head_free O.UDiv = one_free (first_free (codes "udiv") refl)
  head_free O.SDiv = one_free (first_free (codes "sdiv") refl)
  head_free O.URem = one_free (first_free (codes "urem") refl)
  head_free O.SRem = one_free (first_free (codes "srem") refl)
  head_free O.LShr = one_free (first_free (codes "lshr") refl)
  head_free O.AShr = one_free (first_free (codes "ashr") refl)
  head_free O.And = one_free (first_free (codes "and") refl)
  head_free O.Or = one_free (first_free (codes "or") refl)
  head_free O.Xor = one_free (first_free (codes "xor") refl)
  head_free (O.ICmp p) = then_free (first_free (codes "icmp") refl) (one_free (predicate_free p))
  head_free O.Trunc = one_free (first_free (codes "trunc") refl)
  head_free O.SExt = one_free (first_free (codes "sext") refl)
  head_free (O.ZExt nneg) = then_free (first_free (codes "zext") refl) (flag_free (codes "nneg") nneg refl)
  head_free O.PtrToInt = one_free (first_free (codes "ptrtoint") refl)
  head_free O.IntToPtr = one_free (first_free (codes "inttoptr") refl)
  head_free O.AddrSpaceCast = one_free (first_free (codes "addrspacecast") refl)
  head_free O.Select = one_free (first_free (codes "select") refl)
  head_free O.Freeze = one_free (first_free (codes "freeze") refl)
  head_free (O.Load access) = then_free (first_free (codes "load") refl) (flag_free (codes "volatile") access.volatile refl)
  head_free (O.Store access) = then_free (first_free (codes "store") refl) (flag_free (codes "volatile") access.volatile refl)
  head_free O.VAArg = one_free (first_free (codes "va_arg") refl)
  head_free O.Br = one_free (first_free (codes "br") refl)
  head_free O.CondBr = one_free (first_free (codes "br") refl)
  head_free O.Ret = one_free (first_free (codes "ret") refl)
  head_free O.Unreachable = one_free (first_free (codes "unreachable") refl)
