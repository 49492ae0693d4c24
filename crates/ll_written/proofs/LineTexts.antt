-- The text of the tokens of an instruction is what is printed of it.
use Rattle.std.proofs.Common.{◌≡◌, ℕ, Bool, true, false, cond, List, [], ◌∷◌, ◌++◌, length, map, Option, Some, None, codes, append_assoc, refl, sym, ap, ◌∙◌}
use Rattle.std.specs.List.{flat_map}
use Rattle.std.proofs.lemmas.List.{append-nil}
use Rattle.kinds.specs.declared.op.Op.{Op}
use Rattle.kinds.specs.declared.op.Op.TheVariants as O
use Rattle.kinds.specs.Rules.{operand_count, target_count}
use Rattle.kinds.specs.Table.{rule_of}
use Rattle.kinds.specs.Held.{is_void}
use Rattle.llvm_core.specs.Data.{TypeTree, Struct, Operand, RowData, Instruction, Phi, Applied, Placed, Function}
use Rattle.llvm_core.specs.Form.{returns_void, IsFormRow, IsFormInstruction}
use Rattle.ll_lines.specs.Lines.{Text}
use Rattle.ll_said.specs.Naming.{ResultOf, local_text, block_ref}
use Rattle.ll_said.specs.Said.{said_of, row_of, entry_of, inst_of, line_of}
use Rattle.ll_spacing.specs.Spacing.{Spaced, text_of}
use Rattle.ll_tokens.specs.declared.kinds.Kind.TheVariants.{Word, Local, CloseBracket}
use Rattle.ll_written.specs.Printing as P
use Rattle.ll_written.specs.Written.{token, apart, comma, indent, written_flag, written_head, written_names, written_row, written_said, written_entry, next_entry, written_entries, written_inst, written_behind, written_line}
use Rattle.ll_written.proofs.RowTexts.{joined, texts_each, said_text, names_text, has_names, flag_text, flagged_text}
use Rattle.ll_written.proofs.ConstTokens.{type_then}
use Rattle.ll_written.proofs.TypeTokens.{text_both}

-- ---- rows

word_text : (b t : Text) → text_of (token b Word t ∷ []) ++ codes " " ≡ b ++ (t ++ codes " ")
word_text b t = ap (λ (u : Text). u ++ codes " ") (append-nil (b ++ t)) ∙ append_assoc b t (codes " ")

icmp_text : (b t : Text) → text_of (token b Word (codes "icmp") ∷ apart Word t ∷ []) ++ codes " " ≡ b ++ (codes "icmp " ++ t ++ codes " ")
icmp_text b t = ap (λ (u : Text). b ++ codes "icmp" ++ u ++ codes " ") (append-nil (codes " " ++ t)) ∙ simp append_assoc

-- a word and a flag
flag_head : (b t flag : Text) (set : Bool) → text_of (token b Word t ∷ written_flag flag set) ++ codes " " ≡ b ++ (t ++ codes " " ++ P.flag_text flag set)
flag_head b t flag set = append_assoc (b ++ t) (text_of (written_flag flag set)) (codes " ") ∙ ap (λ (u : Text). b ++ t ++ u) (flag_text flag set) ∙ simp append_assoc

head_text : (b : Text) (op : Op) → has_names op ≡ true → text_of (written_head b op) ++ codes " " ≡ b ++ P.row_head op
head_text b (O.Add flags) named = flagged_text b (codes "add") flags
head_text b (O.Sub flags) named = flagged_text b (codes "sub") flags
head_text b (O.Mul flags) named = flagged_text b (codes "mul") flags
head_text b (O.Shl flags) named = flagged_text b (codes "shl") flags
head_text b O.UDiv named = word_text b (codes "udiv")
head_text b O.SDiv named = word_text b (codes "sdiv")
head_text b O.URem named = word_text b (codes "urem")
head_text b O.SRem named = word_text b (codes "srem")
head_text b O.LShr named = word_text b (codes "lshr")
head_text b O.AShr named = word_text b (codes "ashr")
head_text b O.And named = word_text b (codes "and")
head_text b O.Or named = word_text b (codes "or")
head_text b O.Xor named = word_text b (codes "xor")
head_text b (O.ICmp p) named = icmp_text b (P.predicate_text p)
head_text b O.Trunc named = word_text b (codes "trunc")
head_text b O.SExt named = word_text b (codes "sext")
head_text b (O.ZExt nneg) named = flag_head b (codes "zext") (codes "nneg") nneg
head_text b O.PtrToInt named = word_text b (codes "ptrtoint")
head_text b O.IntToPtr named = word_text b (codes "inttoptr")
head_text b O.AddrSpaceCast named = word_text b (codes "addrspacecast")
head_text b O.Select named = word_text b (codes "select")
head_text b O.Freeze named = word_text b (codes "freeze")
head_text b (O.Load access) named = flag_head b (codes "load") (codes "volatile") access.volatile
head_text b (O.Store access) named = flag_head b (codes "store") (codes "volatile") access.volatile
head_text b O.VAArg named = word_text b (codes "va_arg")
head_text b O.Br named = word_text b (codes "br")
head_text b O.CondBr named = word_text b (codes "br")
head_text b O.Ret named = word_text b (codes "ret")
head_text b O.Unreachable named = absurd cc

-- what stands before a blank, and behind it
at_blank : (xs ys : List Spaced) (b t u : Text) → text_of xs ++ codes " " ≡ b ++ t → text_of ys ≡ codes " " ++ u → text_of (xs ++ ys) ≡ b ++ (t ++ u)
at_blank xs ys b t u e f =
    text_both xs ys ∙ ap (λ (s : Text). text_of xs ++ s) f ∙ sym (append_assoc (text_of xs) (codes " ") u) ∙ ap (λ (s : Text). s ++ u) e ∙ append_assoc b t u

unreachable_text : (b : Text) → text_of (token b Word (codes "unreachable") ∷ []) ≡ b ++ codes "unreachable"
unreachable_text b = append-nil (b ++ codes "unreachable")

module _ (structs : List Struct) (f : Function) where
  row_by : (b : Text) (op : Op) (v : Bool) (w : Option TypeTree) (os : List Operand) (ts : List ℕ) (named : Bool) → length os ≡ operand_count (rule_of op).takes v → length ts ≡ target_count (rule_of op).leads → has_names op ≡ named
      → text_of (written_row b (row_of structs f (record { op = op; written = w; operands = os; targets = ts }))) ≡ b ++ P.row_text structs f (record { op = op; written = w; operands = os; targets = ts })
  row_by b op v w os ts true count leads named =
      at_blank (written_head b op) (written_names op (row_of structs f (record { op = op; written = w; operands = os; targets = ts }))) b (P.row_head op) (P.row_names structs f op w os ts) (head_text b op named) (names_text structs f op v w os ts count leads named)
  row_by b O.Unreachable v w os ts false count leads named = unreachable_text b
  row_by b op v w os ts false count leads named = absurd cc

  row_text : (b : Text) (type : TypeTree) (r : RowData) → IsFormRow f type r → text_of (written_row b (row_of structs f r)) ≡ b ++ P.row_text structs f r
  row_text b type r h = row_by b r.op (returns_void f) r.written r.operands r.targets (has_names r.op) h.count h.leads refl

  -- ---- phis

  said_then : (o : Operand) (xs : List Spaced) → text_of (written_said (said_of structs f o) ++ xs) ≡ codes " " ++ P.operand_text structs f o ++ text_of xs
  said_then o xs = text_both (written_said (said_of structs f o)) xs ∙ ap (λ (t : Text). t ++ text_of xs) (said_text structs f o)

  entry_text : (e : Operand × ℕ) → text_of (written_entry (entry_of structs f e)) ≡ codes " " ++ P.entry_text structs f e
  entry_text e =
      ap (λ (t : Text). codes " [" ++ t) (said_then e.0 (comma ∷ apart Local (block_ref f e.1) ∷ apart CloseBracket (codes "]") ∷ [])) ∙ simp append_assoc

  next_entry_text : (e : Operand × ℕ) → text_of (next_entry (entry_of structs f e)) ≡ P.next_entry_text structs f e
  next_entry_text e = ap (λ (t : Text). codes "," ++ t) (entry_text e)

  entries_text : (es : List (Operand × ℕ)) → ¬ (es ≡ []) → text_of (written_entries (map (entry_of structs f) es)) ≡ codes " " ++ P.entries_text structs f es
  entries_text [] some = absurd (some refl)
  entries_text (e ∷ es) some =
      joined (written_entry (entry_of structs f e)) (flat_map next_entry (map (entry_of structs f) es)) (codes " " ++ P.entry_text structs f e) (flat_map (P.next_entry_text structs f) es) (entry_text e) (texts_each next_entry (entry_of structs f) (P.next_entry_text structs f) next_entry_text es)

  pub inst_text : (n : ℕ) (b : Text) (type : TypeTree) (i : Instruction) → IsFormInstruction f n type i → text_of (written_inst b (inst_of structs f type i)) ≡ b ++ P.instruction_text structs f type i
  inst_text n b type (Phi es) h =
      ap (λ (t : Text). b ++ codes "phi" ++ t) (type_then (codes " ") type (written_entries (map (entry_of structs f) es)) ∙ ap (λ (t : Text). codes " " ++ P.type_text type ++ t) (entries_text es h.1.some)) ∙ simp append_assoc
  inst_text n b type (Applied r) h = row_text b type r h

  -- ---- lines, whose end stands before the next

  line_by : (n : ℕ) (v : Bool) (p : Placed) → IsFormInstruction f n p.type p.instruction
      → text_of (written_behind (cond v None (Some (local_text f p.name (ResultOf p.number)))) (inst_of structs f p.type p.instruction)) ++ codes "\n"
      ≡ codes "\n" ++ (codes "  " ++ cond v [] (local_text f p.name (ResultOf p.number) ++ codes " = ") ++ P.instruction_text structs f p.type p.instruction ++ codes "\n")
  line_by n true p h = ap (λ (t : Text). t ++ codes "\n") (inst_text n indent p.type p.instruction h) ∙ simp append_assoc
  line_by n false p h = ap (λ (t : Text). indent ++ local_text f p.name (ResultOf p.number) ++ (codes " =" ++ t) ++ codes "\n") (inst_text n (codes " ") p.type p.instruction h) ∙ simp append_assoc

  pub line_text : (n : ℕ) (p : Placed) → IsFormInstruction f n p.type p.instruction → text_of (written_line (line_of structs f p)) ++ codes "\n" ≡ codes "\n" ++ P.placed_text structs f p
  line_text n p h = line_by n (is_void p.type) p h
