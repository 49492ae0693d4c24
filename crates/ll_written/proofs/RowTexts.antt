-- The text of the tokens of a row is what is printed of the row.
use Rattle.std.proofs.Common.{◌≡◌, ◌≤◌, ℕ, Bool, true, false, List, [], ◌∷◌, ◌++◌, length, map, Option, Some, None, codes, append_assoc, refl, sym, ap, ◌∙◌, arith}
use Rattle.std.specs.Prelude.{decimal}
use Rattle.std.specs.List.{flat_map}
use Rattle.std.proofs.lemmas.List.{append-nil}
use Rattle.kinds.specs.declared.access.Align.{Align}
use Rattle.kinds.specs.Access.{bytes_of}
use Rattle.kinds.specs.declared.op.OverflowFlags.{OverflowFlags}
use Rattle.kinds.specs.declared.op.Op.{Op}
use Rattle.kinds.specs.declared.op.Op.TheVariants as O
use Rattle.kinds.specs.Rules.{operand_count, target_count}
use Rattle.kinds.specs.Table.{rule_of}
use Rattle.kinds.specs.Types.{TypeTree}
use Rattle.llvm_core.specs.Data.{Struct, Operand, Constant, Parameter, Result, Function, operand_type}
use Rattle.ll_lines.specs.Lines.{Text}
use Rattle.ll_said.specs.Naming.{block_ref}
use Rattle.ll_said.specs.Said.{said_const, said_of, typed_of, row_of}
use Rattle.ll_spacing.specs.Spacing.{Spaced, text_of}
use Rattle.ll_tokens.specs.declared.kinds.Kind.TheVariants.{Word}
use Rattle.ll_written.specs.Printing as P
use Rattle.ll_written.specs.Written.{token, comma, written_said, written_typed, next_said, written_operands, next_typed, written_values, written_returned, written_target, next_target, written_targets, written_to, written_before, written_after, written_align, written_flag, written_wraps, written_names}
use Rattle.ll_written.proofs.ConstTokens.{type_then, const_written}
use Rattle.ll_written.proofs.TypeTokens.{text_both, type_written}

-- a row that names operands or blocks, or may
abbrev pub has_names : Op → Bool
has_names O.Unreachable = false
has_names op = true

-- ---- lists

pub joined : (xs ys : List Spaced) (t u : Text) → text_of xs ≡ t → text_of ys ≡ u → text_of (xs ++ ys) ≡ t ++ u
joined xs ys t u e f = text_both xs ys ∙ ap (λ (s : Text). s ++ text_of ys) e ∙ ap (λ (s : Text). t ++ s) f

-- one thing behind another
pub texts_each : {A B : Type 0} (f : A → List Spaced) (of : B → A) (g : B → Text) → ((x : B) → text_of (f (of x)) ≡ g x) → (xs : List B) → text_of (flat_map f (map of xs)) ≡ flat_map g xs
texts_each f of g same [] = refl
texts_each f of g same (x ∷ xs) = text_both (f (of x)) (flat_map f (map of xs)) ∙ rw (same x, texts_each f of g same xs) refl

module _ (structs : List Struct) (f : Function) where
  -- ---- values

  pub said_text : (o : Operand) → text_of (written_said (said_of structs f o)) ≡ codes " " ++ P.operand_text structs f o
  said_text (Constant c) = const_written (said_const structs c)
  said_text (Parameter g i) = append-nil (codes " " ++ P.operand_text structs f (Parameter g i))
  said_text (Result n) = append-nil (codes " " ++ P.operand_text structs f (Result n))

  typed_text : (o : Operand) → text_of (written_typed (typed_of structs f o)) ≡ codes " " ++ P.value_text structs f o
  typed_text o = type_then (codes " ") (operand_type f o) (written_said (said_of structs f o)) ∙ rw (said_text o) (simp append_assoc)

  next_said_text : (o : Operand) → text_of (next_said (typed_of structs f o)) ≡ codes ", " ++ P.operand_text structs f o
  next_said_text o = ap (λ (t : Text). codes "," ++ t) (said_text o)

  next_typed_text : (o : Operand) → text_of (next_typed (typed_of structs f o)) ≡ codes ", " ++ P.value_text structs f o
  next_typed_text o = rw (typed_text o) refl

  -- ---- what rows name

  abbrev after_said : Operand → Text
  after_said x = codes ", " ++ P.operand_text structs f x

  abbrev after_typed : Operand → Text
  after_typed x = codes ", " ++ P.value_text structs f x

  abbrev after_target : ℕ → Text
  after_target n = codes ", " ++ P.target_text f n

  operands_text : (os : List Operand) → 1 ≤ length os → text_of (written_operands (map (typed_of structs f) os)) ≡ codes " " ++ P.operands_text structs f os
  operands_text [] some = absurd (omega arith)
  operands_text (o ∷ os) some =
      joined (written_typed (typed_of structs f o)) (flat_map next_said (map (typed_of structs f) os)) (codes " " ++ P.value_text structs f o) (flat_map after_said os) (typed_text o) (texts_each next_said (typed_of structs f) after_said next_said_text os)

  values_text : (os : List Operand) → 1 ≤ length os → text_of (written_values (map (typed_of structs f) os)) ≡ codes " " ++ P.values_text structs f os
  values_text [] some = absurd (omega arith)
  values_text (o ∷ os) some =
      joined (written_typed (typed_of structs f o)) (flat_map next_typed (map (typed_of structs f) os)) (codes " " ++ P.value_text structs f o) (flat_map after_typed os) (typed_text o) (texts_each next_typed (typed_of structs f) after_typed next_typed_text os)

  returned_text : (os : List Operand) → text_of (written_returned (map (typed_of structs f) os)) ≡ codes " " ++ P.returned_text structs f os
  returned_text [] = refl
  returned_text (o ∷ os) = operands_text (o ∷ os) (omega arith)

  target_text : (n : ℕ) → text_of (written_target (block_ref f n)) ≡ codes " " ++ P.target_text f n
  target_text n = simp append-nil

  next_target_text : (n : ℕ) → text_of (next_target (block_ref f n)) ≡ codes ", " ++ P.target_text f n
  next_target_text n = simp append-nil

  targets_text : (ts : List ℕ) → 1 ≤ length ts → text_of (written_targets (map (block_ref f) ts)) ≡ codes " " ++ P.targets_text f ts
  targets_text [] some = absurd (omega arith)
  targets_text (t ∷ ts) some =
      joined (written_target (block_ref f t)) (flat_map next_target (map (block_ref f) ts)) (codes " " ++ P.target_text f t) (flat_map after_target ts) (target_text t) (texts_each next_target (block_ref f) after_target next_target_text ts)

  to_text : (w : Option TypeTree) → text_of (written_to w) ≡ P.to_text w
  to_text None = refl
  to_text (Some τ) = ap (λ (t : Text). codes " to" ++ t) (type_written (codes " ") τ)

  most_text : (w : Option TypeTree) (os : List Operand) → 1 ≤ length os → text_of (written_operands (map (typed_of structs f) os) ++ written_to w) ≡ codes " " ++ (P.operands_text structs f os ++ P.to_text w)
  most_text w os some = joined (written_operands (map (typed_of structs f) os)) (written_to w) (codes " " ++ P.operands_text structs f os) (P.to_text w) (operands_text os some) (to_text w)

  -- behind a type, where one is written
  before_text : (w : Option TypeTree) (xs : List Spaced) (t : Text) → text_of xs ≡ codes " " ++ t → text_of (written_before w xs) ≡ codes " " ++ (P.before_text w ++ t)
  before_text None xs t e = e
  before_text (Some τ) xs t e = type_then (codes " ") τ (comma ∷ xs) ∙ ap (λ (u : Text). codes " " ++ P.type_text τ ++ (codes "," ++ u)) e ∙ simp append_assoc

  after_text : (w : Option TypeTree) → text_of (written_after w) ≡ P.after_text w
  after_text None = refl
  after_text (Some τ) = ap (λ (t : Text). codes "," ++ t) (type_written (codes " ") τ)

  align_text : (a : Option Align) → text_of (written_align a) ≡ P.align_text a
  align_text None = refl
  align_text (Some a) = ap (λ (t : Text). codes ", align " ++ t) (append-nil (decimal (bytes_of a)))

  aligned_text : (os : List Operand) (a : Option Align) → 1 ≤ length os → text_of (written_values (map (typed_of structs f) os) ++ written_align a) ≡ codes " " ++ (P.values_text structs f os ++ P.align_text a)
  aligned_text os a some = joined (written_values (map (typed_of structs f) os)) (written_align a) (codes " " ++ P.values_text structs f os) (P.align_text a) (values_text os some) (align_text a)

  loaded_text : (w : Option TypeTree) (os : List Operand) (a : Option Align) → 1 ≤ length os
      → text_of (written_before w (written_values (map (typed_of structs f) os) ++ written_align a)) ≡ codes " " ++ (P.before_text w ++ (P.values_text structs f os ++ P.align_text a))
  loaded_text w os a some = before_text w (written_values (map (typed_of structs f) os) ++ written_align a) (P.values_text structs f os ++ P.align_text a) (aligned_text os a some)

  behind_text : (w : Option TypeTree) (os : List Operand) → 1 ≤ length os → text_of (written_operands (map (typed_of structs f) os) ++ written_after w) ≡ codes " " ++ (P.operands_text structs f os ++ P.after_text w)
  behind_text w os some = joined (written_operands (map (typed_of structs f) os)) (written_after w) (codes " " ++ P.operands_text structs f os) (P.after_text w) (operands_text os some) (after_text w)

  branch_text : (os : List Operand) (ts : List ℕ) → 1 ≤ length os → 1 ≤ length ts
      → text_of (written_operands (map (typed_of structs f) os) ++ (comma ∷ written_targets (map (block_ref f) ts))) ≡ codes " " ++ (P.operands_text structs f os ++ codes ", " ++ P.targets_text f ts)
  branch_text os ts some leads =
      joined (written_operands (map (typed_of structs f) os)) (comma ∷ written_targets (map (block_ref f) ts)) (codes " " ++ P.operands_text structs f os) (codes ", " ++ P.targets_text f ts) (operands_text os some) (ap (λ (t : Text). codes "," ++ t) (targets_text ts leads)) ∙ simp append_assoc

  abbrev Names : Op → Option TypeTree → List Operand → List ℕ → Type 0
  Names op w os ts = text_of (written_names op (row_of structs f (record { op = op; written = w; operands = os; targets = ts }))) ≡ codes " " ++ P.row_names structs f op w os ts

  pub names_text : (op : Op) (v : Bool) (w : Option TypeTree) (os : List Operand) (ts : List ℕ) → length os ≡ operand_count (rule_of op).takes v → length ts ≡ target_count (rule_of op).leads → has_names op ≡ true → Names op w os ts
  names_text (O.Add flags) v w os ts count leads named = most_text w os (omega (arith, count))
  names_text (O.Sub flags) v w os ts count leads named = most_text w os (omega (arith, count))
  names_text (O.Mul flags) v w os ts count leads named = most_text w os (omega (arith, count))
  names_text (O.Shl flags) v w os ts count leads named = most_text w os (omega (arith, count))
  names_text O.UDiv v w os ts count leads named = most_text w os (omega (arith, count))
  names_text O.SDiv v w os ts count leads named = most_text w os (omega (arith, count))
  names_text O.URem v w os ts count leads named = most_text w os (omega (arith, count))
  names_text O.SRem v w os ts count leads named = most_text w os (omega (arith, count))
  names_text O.LShr v w os ts count leads named = most_text w os (omega (arith, count))
  names_text O.AShr v w os ts count leads named = most_text w os (omega (arith, count))
  names_text O.And v w os ts count leads named = most_text w os (omega (arith, count))
  names_text O.Or v w os ts count leads named = most_text w os (omega (arith, count))
  names_text O.Xor v w os ts count leads named = most_text w os (omega (arith, count))
  names_text (O.ICmp p) v w os ts count leads named = most_text w os (omega (arith, count))
  names_text O.Trunc v w os ts count leads named = most_text w os (omega (arith, count))
  names_text O.SExt v w os ts count leads named = most_text w os (omega (arith, count))
  names_text (O.ZExt nneg) v w os ts count leads named = most_text w os (omega (arith, count))
  names_text O.PtrToInt v w os ts count leads named = most_text w os (omega (arith, count))
  names_text O.IntToPtr v w os ts count leads named = most_text w os (omega (arith, count))
  names_text O.AddrSpaceCast v w os ts count leads named = most_text w os (omega (arith, count))
  names_text O.Select v w os ts count leads named = values_text os (omega (arith, count))
  names_text O.Freeze v w os ts count leads named = most_text w os (omega (arith, count))
  names_text (O.Load access) v w os ts count leads named = loaded_text w os access.align (omega (arith, count))
  names_text (O.Store access) v w os ts count leads named = aligned_text os access.align (omega (arith, count))
  names_text O.VAArg v w os ts count leads named = behind_text w os (omega (arith, count))
  names_text O.Br v w os ts count leads named = targets_text ts (omega (arith, leads))
  names_text O.CondBr v w os ts count leads named = branch_text os ts (omega (arith, count)) (omega (arith, leads))
  names_text O.Ret v w os ts count leads named = returned_text os
  names_text O.Unreachable v w os ts count leads named = absurd cc

-- ---- the word of a row

pub flag_text : (t : Text) (b : Bool) → text_of (written_flag t b) ++ codes " " ≡ codes " " ++ P.flag_text t b
flag_text t false = refl
flag_text t true = ap (λ (u : Text). codes " " ++ (u ++ codes " ")) (append-nil t)

pub flagged_text : (b t : Text) (flags : OverflowFlags) → text_of (token b Word t ∷ written_wraps flags) ++ codes " " ≡ b ++ P.flagged_text t flags
flagged_text b t flags =
    let nuw = text_of (written_flag (codes "nuw") flags.nuw) in
    let nsw = text_of (written_flag (codes "nsw") flags.nsw) in
    let one : nuw ++ codes " " ≡ codes " " ++ P.flag_text (codes "nuw") flags.nuw = flag_text (codes "nuw") flags.nuw in
    let two : nsw ++ codes " " ≡ codes " " ++ P.flag_text (codes "nsw") flags.nsw = flag_text (codes "nsw") flags.nsw in
    let both : text_of (written_wraps flags) ≡ nuw ++ nsw = text_both (written_flag (codes "nuw") flags.nuw) (written_flag (codes "nsw") flags.nsw) in
    let whole : nuw ++ nsw ++ codes " " ≡ codes " " ++ P.flag_text (codes "nuw") flags.nuw ++ P.flag_text (codes "nsw") flags.nsw =
    append_assoc nuw nsw (codes " ") ∙ ap (λ (t : Text). nuw ++ t) two ∙ sym (append_assoc nuw (codes " ") (P.flag_text (codes "nsw") flags.nsw)) ∙ ap (λ (u : Text). u ++ P.flag_text (codes "nsw") flags.nsw) one in
    append_assoc (b ++ t) (text_of (written_wraps flags)) (codes " ") ∙ ap (λ (u : Text). b ++ t ++ (u ++ codes " ")) both ∙ ap (λ (u : Text). b ++ t ++ u) whole ∙ simp append_assoc
