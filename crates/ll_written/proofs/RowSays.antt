-- What the tokens of rows say.
use Rattle.std.proofs.Common.{◌≡◌, Bool, true, false, List, [], ◌∷◌, ◌++◌, Option, Some, None, codes, append_assoc, refl, sym, ap, subst}
use Rattle.std.specs.Prelude.{decimal}
use Rattle.std.specs.Option.{option_map}
use Rattle.std.proofs.lemmas.List.{append-nil}
use Rattle.kinds.specs.declared.access.Align.{Align}
use Rattle.kinds.specs.declared.access.Access.{Access}
use Rattle.kinds.specs.Access.{bytes_of}
use Rattle.kinds.proofs.AccessLaws.{few_bytes, most_bytes, align_back}
use Rattle.kinds.specs.declared.op.LLVMIntPredicate.{LLVMIntPredicate}
use Rattle.kinds.specs.declared.op.LLVMIntPredicate.TheVariants as I
use Rattle.kinds.specs.declared.op.OverflowFlags.{OverflowFlags}
use Rattle.kinds.specs.declared.op.Op.{Op}
use Rattle.kinds.specs.declared.op.Op.TheVariants as O
use Rattle.kinds.specs.declared.rules.Fit.TheVariants as F
use Rattle.kinds.specs.declared.rules.Cast.TheVariants as Cs
use Rattle.kinds.specs.Types.{TypeTree}
use Rattle.ll_lines.specs.Lines as L
use Rattle.ll_lines.specs.Lines.{Text, Typed, RowLine}
use Rattle.ll_tokens.specs.declared.kinds.Kind.TheVariants as T
use Rattle.ll_literals.specs.Chain.{◌>>=◌}
use Rattle.ll_spacing.specs.Spacing.{Spaced}
use Rattle.ll_values.specs.declared.form.Kind.TheVariants as K
use Rattle.ll_values.specs.declared.form.RowKind.TheVariants as R
use Rattle.ll_said.proofs.DecimalLaws.{IsDecimal-decimal}
use Rattle.ll_values.specs.Values.{Value, NoneV, TextV, FlagV, WrapsV, AlignV, InstV, row, cast as cast_of, value_by}
use Rattle.ll_values.specs.Words.{binary_op, cast_op, predicate_of, align_said, no_wraps}
use Rattle.ll_written.specs.Printing.{predicate_text}
use Rattle.ll_written.specs.Rules as N
use Rattle.ll_written.specs.Written.{token, word, written_typed, written_operands, written_values, written_returned, written_targets, written_to, written_before, written_after, written_align, written_flag, written_wraps, written_row, comma}
use Rattle.ll_written.specs.Writable.{IsRow}
use Rattle.ll_written.proofs.Productions as P
use Rattle.ll_written.proofs.Productions.{Reads}
use Rattle.ll_written.proofs.TypeTokens.{type_says}
use Rattle.ll_written.proofs.ValueSays.{alone, typed_says, operand_says, returned_says, pair_says}
use Rattle.ll_written.proofs.RowForms.{IsPair, pair, pair_form, IsCast, cast, cast_form, IsTwo, two, two_form, IsThree, three, three_form, IsOne, one, one_form, IsJump, jump, jump_form, IsBranch, branch, branch_form, IsReturn, no_value, value, return_form, IsBare, bare, bare_form}

abbrev row_line : Op → Option TypeTree → List Typed → List Text → RowLine
row_line op wr os ts = record { op = op; written = wr; operands = os; targets = ts }

-- what is said of such a row
abbrev says : Op → Option TypeTree → List Typed → List Text → Value
says op wr os ts = InstV (L.Row (row_line op wr os ts))

predicate_again : (p : LLVMIntPredicate) → predicate_of (predicate_text p) ≡ Some p
predicate_again I.LLVMIntEQ = refl
predicate_again I.LLVMIntNE = refl
predicate_again I.LLVMIntUGT = refl
predicate_again I.LLVMIntUGE = refl
predicate_again I.LLVMIntULT = refl
predicate_again I.LLVMIntULE = refl
predicate_again I.LLVMIntSGT = refl
predicate_again I.LLVMIntSGE = refl
predicate_again I.LLVMIntSLT = refl
predicate_again I.LLVMIntSLE = refl

-- ---- immediates

nsw_says : (b : Bool) → Reads N.nsw (FlagV b) (written_flag (codes "nsw") b)
nsw_says true = P.nsw_yes (codes " ")
nsw_says false = P.nsw_no

wraps_by : (nuw nsw : Bool) → Reads N.wraps (WrapsV (record { nuw = nuw; nsw = nsw })) (written_wraps (record { nuw = nuw; nsw = nsw }))
wraps_by true nsw = P.wraps_nuw (codes " ") (nsw_says nsw) refl
wraps_by false true = P.wraps_nsw (codes " ") refl
wraps_by false false = P.wraps_nowraps refl

wraps_says : (flags : OverflowFlags) → Reads N.wraps (WrapsV flags) (written_wraps flags)
wraps_says flags = wraps_by flags.nuw flags.nsw

nneg_says : (b : Bool) → Reads N.nneg (FlagV b) (written_flag (codes "nneg") b)
nneg_says true = P.nneg_yes (codes " ")
nneg_says false = P.nneg_no

volatile_says : (b : Bool) → Reads N.volatile (FlagV b) (written_flag (codes "volatile") b)
volatile_says true = P.volatile_yes (codes " ")
volatile_says false = P.volatile_no

align_again : (a : Align) → align_said (decimal (bytes_of a)) ≡ Some a
align_again a = rw ((IsDecimal-decimal (bytes_of a) (few_bytes a)).number, most_bytes a) (align_back a)

align_says : (a : Option Align) → Reads N.align_attached (AlignV a) (written_align a)
align_says None = P.align_attached_noalign refl
align_says (Some a) = P.align_attached_align_or_attached [] (P.align_or_attached_align (codes " ") (codes " ") (decimal (bytes_of a)) P.attached_none (ap (option_map (λ (b : Align). AlignV (Some b))) (align_again a)))

-- ---- rows by their form

-- Each takes the law of the alternative that its word begins.

sum_row : (b t : Text) (op : Op) (flags : OverflowFlags) (wr : Option TypeTree) (os : List Typed) (ts : List Text)
    → ((v v2 : Value) (xs : List Spaced) → Reads N.wraps (WrapsV flags) (written_wraps flags) → Reads N.pair v2 xs → value_by (K.Row R.Sum) (TextV t ∷ WrapsV flags ∷ v2 ∷ []) ≡ Some v → Reads N.simple v (token b T.Word t ∷ (written_wraps flags ++ xs)))
    → binary_op t flags ≡ Some op → IsPair wr os ts → Reads N.simple (says op wr os ts) (token b T.Word t ∷ (written_wraps flags ++ (written_operands os ++ written_to wr)))
sum_row b t op flags _ _ _ law made (pair x y h k same) = law _ _ _ (wraps_says flags) (pair_says x y h k same) (ap (λ (o : Option Op). o >>= λ op. Some (InstV (row op (x ∷ y ∷ []) []))) made)

quotient_row : (b t : Text) (op : Op) (wr : Option TypeTree) (os : List Typed) (ts : List Text)
    → ((v v2 : Value) (xs : List Spaced) → Reads N.lost_exact NoneV [] → Reads N.pair v2 xs → value_by (K.Row R.Quotient) (TextV t ∷ NoneV ∷ v2 ∷ []) ≡ Some v → Reads N.simple v (token b T.Word t ∷ xs))
    → binary_op t no_wraps ≡ Some op → IsPair wr os ts → Reads N.simple (says op wr os ts) (token b T.Word t ∷ (written_operands os ++ written_to wr))
quotient_row b t op _ _ _ law made (pair x y h k same) = law _ _ _ (P.lost_exact_none) (pair_says x y h k same) (ap (λ (o : Option Op). o >>= λ op. Some (InstV (row op (x ∷ y ∷ []) []))) made)

bits_row : (b t : Text) (op : Op) (wr : Option TypeTree) (os : List Typed) (ts : List Text)
    → ((v v1 : Value) (xs : List Spaced) → Reads N.pair v1 xs → value_by (K.Row R.Bits) (TextV t ∷ v1 ∷ []) ≡ Some v → Reads N.simple v (token b T.Word t ∷ xs))
    → binary_op t no_wraps ≡ Some op → IsPair wr os ts → Reads N.simple (says op wr os ts) (token b T.Word t ∷ (written_operands os ++ written_to wr))
bits_row b t op _ _ _ law made (pair x y h k same) = law _ _ _ (pair_says x y h k same) (ap (λ (o : Option Op). o >>= λ op. Some (InstV (row op (x ∷ y ∷ []) []))) made)

or_row : (b : Text) (wr : Option TypeTree) (os : List Typed) (ts : List Text) → IsPair wr os ts → Reads N.simple (says O.Or wr os ts) (token b T.Word (codes "or") ∷ (written_operands os ++ written_to wr))
or_row b _ _ _ (pair x y h k same) = P.simple_or b (P.lost_disjoint_none) (pair_says x y h k same) refl

icmp_by : (b : Text) (p : LLVMIntPredicate) (v w : Value) (xs : List Spaced) → Reads N.pair w xs → value_by (K.Row R.ICmp) (NoneV ∷ TextV (predicate_text p) ∷ w ∷ []) ≡ Some v
    → Reads N.simple v (token b T.Word (codes "icmp") ∷ word (predicate_text p) ∷ xs)
icmp_by b I.LLVMIntEQ v w xs h made = P.simple_icmp_eq b (codes " ") (P.lost_samesign_none) h made
icmp_by b I.LLVMIntNE v w xs h made = P.simple_icmp_ne b (codes " ") (P.lost_samesign_none) h made
icmp_by b I.LLVMIntUGT v w xs h made = P.simple_icmp_ugt b (codes " ") (P.lost_samesign_none) h made
icmp_by b I.LLVMIntUGE v w xs h made = P.simple_icmp_uge b (codes " ") (P.lost_samesign_none) h made
icmp_by b I.LLVMIntULT v w xs h made = P.simple_icmp_ult b (codes " ") (P.lost_samesign_none) h made
icmp_by b I.LLVMIntULE v w xs h made = P.simple_icmp_ule b (codes " ") (P.lost_samesign_none) h made
icmp_by b I.LLVMIntSGT v w xs h made = P.simple_icmp_sgt b (codes " ") (P.lost_samesign_none) h made
icmp_by b I.LLVMIntSGE v w xs h made = P.simple_icmp_sge b (codes " ") (P.lost_samesign_none) h made
icmp_by b I.LLVMIntSLT v w xs h made = P.simple_icmp_slt b (codes " ") (P.lost_samesign_none) h made
icmp_by b I.LLVMIntSLE v w xs h made = P.simple_icmp_sle b (codes " ") (P.lost_samesign_none) h made

icmp_row : (b : Text) (p : LLVMIntPredicate) (wr : Option TypeTree) (os : List Typed) (ts : List Text) → IsPair wr os ts
    → Reads N.simple (says (O.ICmp p) wr os ts) (token b T.Word (codes "icmp") ∷ word (predicate_text p) ∷ (written_operands os ++ written_to wr))
icmp_row b p _ _ _ (pair x y h k same) = icmp_by b p _ _ _ (pair_says x y h k same) (ap (λ (o : Option LLVMIntPredicate). o >>= λ q. Some (InstV (row (O.ICmp q) (x ∷ y ∷ []) []))) (predicate_again p))

cast_row : (b t : Text) (op : Op) (wr : Option TypeTree) (os : List Typed) (ts : List Text)
    → ((v v1 v3 : Value) (x1 x3 : List Spaced) (b2 : Text) → Reads N.typed v1 x1 → Reads N.type v3 x3 → value_by (K.Row R.Cast) (TextV t ∷ v1 ∷ v3 ∷ []) ≡ Some v → Reads N.simple v (token b T.Word t ∷ (x1 ++ (token b2 T.Word (codes "to") ∷ x3))))
    → cast_op t ≡ Some op → IsCast wr os ts → Reads N.simple (says op wr os ts) (token b T.Word t ∷ (written_operands os ++ written_to wr))
cast_row b t op _ _ _ law made (cast x τ h type) = law _ _ _ _ _ (codes " ") (operand_says x h) (type_says (codes " ") τ type) (ap (λ (o : Option Op). o >>= λ op. Some (InstV (cast_of op x τ))) made)

trunc_row : (b : Text) (wr : Option TypeTree) (os : List Typed) (ts : List Text) → IsCast wr os ts → Reads N.simple (says O.Trunc wr os ts) (token b T.Word (codes "trunc") ∷ (written_operands os ++ written_to wr))
trunc_row b _ _ _ (cast x τ h type) = P.simple_trunc b (codes " ") (P.lost_wraps_none) (operand_says x h) (type_says (codes " ") τ type) refl

zext_row : (b : Text) (nneg : Bool) (wr : Option TypeTree) (os : List Typed) (ts : List Text) → IsCast wr os ts
    → Reads N.simple (says (O.ZExt nneg) wr os ts) (token b T.Word (codes "zext") ∷ (written_flag (codes "nneg") nneg ++ (written_operands os ++ written_to wr)))
zext_row b nneg _ _ _ (cast x τ h type) = P.simple_zext b (codes " ") (nneg_says nneg) (operand_says x h) (type_says (codes " ") τ type) refl

select_row : (b : Text) (wr : Option TypeTree) (os : List Typed) (ts : List Text) → IsThree wr os ts → Reads N.simple (says O.Select wr os ts) (token b T.Word (codes "select") ∷ written_values os)
select_row b _ _ _ (three x y z h k l) = P.simple_three_select b [] [] (typed_says x h) (typed_says y k) (operand_says z l) refl

freeze_row : (b : Text) (wr : Option TypeTree) (os : List Typed) (ts : List Text) → IsOne wr os ts → Reads N.simple (says O.Freeze wr os ts) (token b T.Word (codes "freeze") ∷ (written_operands os ++ written_to wr))
freeze_row b _ _ _ (one x h) = P.simple_freeze b (alone (operand_says x h)) refl

jump_row : (b : Text) (wr : Option TypeTree) (os : List Typed) (ts : List Text) → IsJump wr os ts → Reads N.simple (says O.Br wr os ts) (token b T.Word (codes "br") ∷ written_targets ts)
jump_row b _ _ _ (jump t) = P.simple_br b (P.br_jump (codes " ") (codes " ") t refl)

branch_row : (b : Text) (wr : Option TypeTree) (os : List Typed) (ts : List Text) → IsBranch wr os ts → Reads N.simple (says O.CondBr wr os ts) (token b T.Word (codes "br") ∷ (written_operands os ++ (comma ∷ written_targets ts)))
branch_row b _ _ _ (branch x t u h) = P.simple_br b (P.br_branch [] (codes " ") (codes " ") t [] (codes " ") (codes " ") u (operand_says x h) refl)

return_row : (b : Text) (wr : Option TypeTree) (os : List Typed) (ts : List Text) → IsReturn wr os ts → Reads N.simple (says O.Ret wr os ts) (token b T.Word (codes "ret") ∷ written_returned os)
return_row b _ _ _ no_value = P.simple_return b (P.ret_none (codes " ")) refl
return_row b _ _ _ (value x h) = P.simple_return b (returned_says x h) refl

bare_row : (b : Text) (wr : Option TypeTree) (os : List Typed) (ts : List Text) → IsBare wr os ts → Reads N.simple (says O.Unreachable wr os ts) (token b T.Word (codes "unreachable") ∷ [])
bare_row b _ _ _ bare = P.simple_unreachable b refl

two_values : (x y : Typed) (zs : List Spaced) → written_typed x ++ (comma ∷ (written_operands (y ∷ []) ++ zs)) ≡ written_values (x ∷ y ∷ []) ++ zs
two_values x y zs = sym (append_assoc (written_typed x) (comma ∷ written_operands (y ∷ [])) zs)

load_row : (b : Text) (access : Access) (wr : Option TypeTree) (os : List Typed) (ts : List Text) → IsCast wr os ts
    → Reads N.inst (says (O.Load access) wr os ts) (token b T.Word (codes "load") ∷ (written_flag (codes "volatile") access.volatile ++ written_before wr (written_values os ++ written_align access.align)))
load_row b access _ _ _ (cast x τ h type) = P.inst_load b (P.load [] (volatile_says access.volatile) (type_says (codes " ") τ type) (operand_says x h) (align_says access.align) refl)

store_row : (b : Text) (access : Access) (wr : Option TypeTree) (os : List Typed) (ts : List Text) → IsTwo wr os ts
    → Reads N.inst (says (O.Store access) wr os ts) (token b T.Word (codes "store") ∷ (written_flag (codes "volatile") access.volatile ++ (written_values os ++ written_align access.align)))
store_row b access _ _ _ (two x y h k) =
    let tokens = ap (λ (xs : List Spaced). token b T.Word (codes "store") ∷ (written_flag (codes "volatile") access.volatile ++ xs)) (two_values x y (written_align access.align)) in
    subst (λ (xs : List Spaced). Reads N.inst (says (O.Store access) None (x ∷ y ∷ []) []) xs) tokens
    (P.inst_store b (P.store [] (volatile_says access.volatile) (typed_says x h) (operand_says y k) (align_says access.align) refl))

va_arg_row : (b : Text) (wr : Option TypeTree) (os : List Typed) (ts : List Text) → IsCast wr os ts → Reads N.simple (says O.VAArg wr os ts) (token b T.Word (codes "va_arg") ∷ (written_operands os ++ written_after wr))
va_arg_row b _ _ _ (cast x τ h type) = P.simple_vaarg b [] (operand_says x h) (type_says (codes " ") τ type) refl

-- ---- a line for each row of the table

-- what most rows are read by, with nothing attached
simply : {i : L.Inst} {xs : List Spaced} → Reads N.simple (InstV i) xs → Reads N.inst (InstV i) xs
simply {i} {xs} h = subst (λ (ys : List Spaced). Reads N.inst (InstV i) ys) (append-nil xs) (P.inst h P.attached_none refl)

row_by : (b : Text) (op : Op) (wr : Option TypeTree) (os : List Typed) (ts : List Text) → IsRow (row_line op wr os ts) → Reads N.inst (says op wr os ts) (written_row b (row_line op wr os ts))
row_by b (O.Add flags) wr os ts h = simply (sum_row b (codes "add") (O.Add flags) flags wr os ts (λ v w xs. P.simple_sum_add b) refl (pair_form F.Number wr os ts h.fits h.count h.leads h.operands))
row_by b (O.Sub flags) wr os ts h = simply (sum_row b (codes "sub") (O.Sub flags) flags wr os ts (λ v w xs. P.simple_sum_sub b) refl (pair_form F.Number wr os ts h.fits h.count h.leads h.operands))
row_by b (O.Mul flags) wr os ts h = simply (sum_row b (codes "mul") (O.Mul flags) flags wr os ts (λ v w xs. P.simple_sum_mul b) refl (pair_form F.Number wr os ts h.fits h.count h.leads h.operands))
row_by b (O.Shl flags) wr os ts h = simply (sum_row b (codes "shl") (O.Shl flags) flags wr os ts (λ v w xs. P.simple_sum_shl b) refl (pair_form F.Number wr os ts h.fits h.count h.leads h.operands))
row_by b O.UDiv wr os ts h = simply (quotient_row b (codes "udiv") O.UDiv wr os ts (λ v w xs. P.simple_quotient_udiv b) refl (pair_form F.Number wr os ts h.fits h.count h.leads h.operands))
row_by b O.SDiv wr os ts h = simply (quotient_row b (codes "sdiv") O.SDiv wr os ts (λ v w xs. P.simple_quotient_sdiv b) refl (pair_form F.Number wr os ts h.fits h.count h.leads h.operands))
row_by b O.URem wr os ts h = simply (bits_row b (codes "urem") O.URem wr os ts (λ v w xs. P.simple_bits_urem b) refl (pair_form F.Number wr os ts h.fits h.count h.leads h.operands))
row_by b O.SRem wr os ts h = simply (bits_row b (codes "srem") O.SRem wr os ts (λ v w xs. P.simple_bits_srem b) refl (pair_form F.Number wr os ts h.fits h.count h.leads h.operands))
row_by b O.LShr wr os ts h = simply (quotient_row b (codes "lshr") O.LShr wr os ts (λ v w xs. P.simple_quotient_lshr b) refl (pair_form F.Number wr os ts h.fits h.count h.leads h.operands))
row_by b O.AShr wr os ts h = simply (quotient_row b (codes "ashr") O.AShr wr os ts (λ v w xs. P.simple_quotient_ashr b) refl (pair_form F.Number wr os ts h.fits h.count h.leads h.operands))
row_by b O.And wr os ts h = simply (bits_row b (codes "and") O.And wr os ts (λ v w xs. P.simple_bits_and b) refl (pair_form F.Number wr os ts h.fits h.count h.leads h.operands))
row_by b O.Or wr os ts h = simply (or_row b wr os ts (pair_form F.Number wr os ts h.fits h.count h.leads h.operands))
row_by b O.Xor wr os ts h = simply (bits_row b (codes "xor") O.Xor wr os ts (λ v w xs. P.simple_bits_xor b) refl (pair_form F.Number wr os ts h.fits h.count h.leads h.operands))
row_by b (O.ICmp p) wr os ts h = simply (icmp_row b p wr os ts (pair_form F.Comparable wr os ts h.fits h.count h.leads h.operands))
row_by b O.Trunc wr os ts h = simply (trunc_row b wr os ts (cast_form (F.Cast Cs.ToNarrower) wr os ts h.fits h.count h.leads h.written h.operands))
row_by b O.SExt wr os ts h = simply (cast_row b (codes "sext") O.SExt wr os ts (λ v v1 v3 x1 x3 b2. P.simple_cast_sext b b2) refl (cast_form (F.Cast Cs.ToWider) wr os ts h.fits h.count h.leads h.written h.operands))
row_by b (O.ZExt nneg) wr os ts h = simply (zext_row b nneg wr os ts (cast_form (F.Cast Cs.ToWider) wr os ts h.fits h.count h.leads h.written h.operands))
row_by b O.PtrToInt wr os ts h = simply (cast_row b (codes "ptrtoint") O.PtrToInt wr os ts (λ v v1 v3 x1 x3 b2. P.simple_cast_ptrtoint b b2) refl (cast_form (F.Cast Cs.ToNumber) wr os ts h.fits h.count h.leads h.written h.operands))
row_by b O.IntToPtr wr os ts h = simply (cast_row b (codes "inttoptr") O.IntToPtr wr os ts (λ v v1 v3 x1 x3 b2. P.simple_cast_inttoptr b b2) refl (cast_form (F.Cast Cs.ToPointer) wr os ts h.fits h.count h.leads h.written h.operands))
row_by b O.AddrSpaceCast wr os ts h = simply (cast_row b (codes "addrspacecast") O.AddrSpaceCast wr os ts (λ v v1 v3 x1 x3 b2. P.simple_cast_addrspacecast b b2) refl (cast_form (F.Cast Cs.ToSpace) wr os ts h.fits h.count h.leads h.written h.operands))
row_by b O.Select wr os ts h = simply (select_row b wr os ts (three_form wr os ts _ h.fits h.count h.leads h.operands))
row_by b O.Freeze wr os ts h = simply (freeze_row b wr os ts (one_form wr os ts _ h.fits h.count h.leads h.operands))
row_by b (O.Load access) wr os ts h = load_row b access wr os ts (cast_form F.Place wr os ts h.fits h.count h.leads h.written h.operands)
row_by b (O.Store access) wr os ts h = store_row b access wr os ts (two_form wr os ts _ h.fits h.count h.leads h.operands)
row_by b O.VAArg wr os ts h = simply (va_arg_row b wr os ts (cast_form F.Address wr os ts h.fits h.count h.leads h.written h.operands))
row_by b O.Br wr os ts h = simply (jump_row b wr os ts (jump_form wr os ts _ h.fits h.count h.leads))
row_by b O.CondBr wr os ts h = simply (branch_row b wr os ts (branch_form wr os ts _ h.fits h.count h.leads h.operands))
row_by b O.Ret wr os ts h = simply (return_row b wr os ts (return_form wr os ts _ h.void h.fits h.count h.leads h.operands))
row_by b O.Unreachable wr os ts h = simply (bare_row b wr os ts (bare_form wr os ts _ h.fits h.count h.leads))

pub row_says : (b : Text) (r : RowLine) → IsRow r → Reads N.inst (InstV (L.Row r)) (written_row b r)
row_says b r h = row_by b r.op r.written r.operands r.targets h
