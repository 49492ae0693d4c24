-- What instructions mean, part by part.
use Rattle.std.proofs.Common.{◌≡◌, ℕ, Bool, true, false, if◌then◌else◌, List, Option, Some, None, map, ap, ◌∙◌}
use Rattle.std.specs.Option.{option_map}
use Rattle.kinds.specs.Typing.{fits_trees}
use Rattle.llvm_core.specs.Data as D
use Rattle.llvm_core.specs.Data.{TypeTree, Operand, type_at, operand_of, entry_of, instruction_of}
use Rattle.llvm_core.specs.declared.numbers.LLVMType.{LLVMType}
use Rattle.llvm_core.specs.declared.numbers.LLVMBasicBlock.{LLVMBasicBlock}
use Rattle.llvm_core.specs.declared.code.LLVMValue.{LLVMValue}
use Rattle.llvm_core.specs.declared.code.PhiEntry.{PhiEntry}
use Rattle.llvm_core.specs.declared.code.LLVMInst.TheVariants as I
use Rattle.ll_lines.specs.declared.lines.RowLine.{RowLine}
use Rattle.ll_lines.specs.declared.lines.Typed as code_typed
use Rattle.ll_lines.specs.declared.lines.Incoming as code_incoming
use Rattle.ll_lines.specs.Lines as L
use Rattle.ll_lines.specs.Views.{text_of}
use Rattle.ll_literals.specs.Chain.{◌>>=◌}
use Rattle.ll_bodies.specs.declared.results.Source.{Source}
use Rattle.ll_bodies.specs.Scopes.{Scope, block_of}
use Rattle.ll_bodies.specs.Meaning.{all_of, operand, entry, instruction}
use Rattle.ll_bodies.specs.SourceViews.{structs_in, table_in, source_trees, types_in, typed_in, entry_in, row_in}
use Rattle.ll_bodies.proofs.TypeLaws.{types_said}

module _ (source : Source) (s : Scope) where
  abbrev pub said_operands : RowLine → Option (List Operand)
  said_operands r = all_of (λ (x : L.Typed). operand (structs_in source) s x.type x.said) (map (typed_in source) r.operands)

  abbrev pub said_targets : RowLine → Option (List ℕ)
  said_targets r = all_of (block_of s) (map (text_of source.bytes.now) r.targets)

  abbrev pub said_fits : RowLine → Bool
  said_fits r = fits_trees r.op (option_map (type_at (types_in source)) r.written) (map (λ (x : code_typed.Typed). type_at (types_in source) x.ty) r.operands)

  abbrev rest : RowLine → List Operand → List ℕ → Bool → Option D.Instruction
  rest r os bs fit = if fit then Some (D.Applied (record { op = r.op; written = option_map (type_at (types_in source)) r.written; operands = os; targets = bs })) else None

  row_is : (r : RowLine) → instruction (structs_in source) s (row_in source r) ≡ (said_operands r >>= λ os. said_targets r >>= λ bs. rest r os bs (said_fits r))
  row_is r = ap (λ (ts : List TypeTree). said_operands r >>= λ os. said_targets r >>= λ bs. rest r os bs (fits_trees r.op (option_map (type_at (types_in source)) r.written) ts)) (types_said source.bytes.now (source_trees source) (table_in source) r.operands)

  pub row_made : (r : RowLine) (vs : List LLVMValue) (bs : List LLVMBasicBlock) → said_operands r ≡ Some (map (operand_of (source_trees source)) vs) → said_targets r ≡ Some (map (λ (b : LLVMBasicBlock). b.0) bs) → said_fits r ≡ true
      → instruction (structs_in source) s (row_in source r) ≡ Some (instruction_of (source_trees source) (I.Row (record { op = r.op; written = r.written; operands = vs; targets = bs })))
  row_made r vs bs a b c =
      row_is r
      ∙ ap (λ o. o >>= λ os. said_targets r >>= λ bs. rest r os bs (said_fits r)) a
      ∙ ap (λ o. o >>= λ bs. rest r (map (operand_of (source_trees source)) vs) bs (said_fits r)) b
      ∙ ap (rest r (map (operand_of (source_trees source)) vs) (map (λ (b : LLVMBasicBlock). b.0) bs)) c

  pub row_unnamed : (r : RowLine) → said_operands r ≡ None → instruction (structs_in source) s (row_in source r) ≡ None
  row_unnamed r a = row_is r ∙ ap (λ o. o >>= λ os. said_targets r >>= λ bs. rest r os bs (said_fits r)) a

  pub row_unfit : (r : RowLine) (os : List Operand) (bs : List ℕ) → said_operands r ≡ Some os → said_targets r ≡ Some bs → said_fits r ≡ false → instruction (structs_in source) s (row_in source r) ≡ None
  row_unfit r os bs a b c =
      row_is r
      ∙ ap (λ o. o >>= λ os. said_targets r >>= λ bs. rest r os bs (said_fits r)) a
      ∙ ap (λ o. o >>= λ bs. rest r os bs (said_fits r)) b
      ∙ ap (rest r os bs) c

  -- ---- a phi

  abbrev pub said_entries : LLVMType → List code_incoming.Incoming → Option (List (Operand × ℕ))
  said_entries ty es = all_of (entry (structs_in source) s (type_at (types_in source) ty)) (map (entry_in source) es)

  pub phi_made : (ty : LLVMType) (es : List code_incoming.Incoming) (made : List PhiEntry) → said_entries ty es ≡ Some (map (entry_of (source_trees source)) made)
      → instruction (structs_in source) s (L.Phi (type_at (types_in source) ty) (map (entry_in source) es)) ≡ Some (instruction_of (source_trees source) (I.Phi ty made))
  phi_made ty es made a = ap (λ o. o >>= λ (es : List (Operand × ℕ)). Some (D.Phi es)) a

  pub phi_unmade : (ty : LLVMType) (es : List code_incoming.Incoming) → said_entries ty es ≡ None → instruction (structs_in source) s (L.Phi (type_at (types_in source) ty) (map (entry_in source) es)) ≡ None
  phi_unmade ty es a = ap (λ o. o >>= λ (es : List (Operand × ℕ)). Some (D.Phi es)) a

  -- ---- an entry of a phi

  abbrev pub said_value : LLVMType → code_incoming.Incoming → Option Operand
  said_value ty e = operand (structs_in source) s (type_at (types_in source) ty) (entry_in source e).said

  abbrev pub said_block : code_incoming.Incoming → Option ℕ
  said_block e = block_of s (entry_in source e).block

  pub entry_made : (ty : LLVMType) (e : code_incoming.Incoming) (v : LLVMValue) (b : LLVMBasicBlock) → said_value ty e ≡ Some (operand_of (source_trees source) v) → said_block e ≡ Some b.0
      → entry (structs_in source) s (type_at (types_in source) ty) (entry_in source e) ≡ Some (entry_of (source_trees source) (record { value = v; block = b }))
  entry_made ty e v b value found =
      ap (λ o. o >>= λ x. said_block e >>= λ y. Some (x, y)) value ∙ ap (λ o. o >>= λ y. Some (operand_of (source_trees source) v, y)) found

  pub entry_unmade : (ty : LLVMType) (e : code_incoming.Incoming) → said_value ty e ≡ None → entry (structs_in source) s (type_at (types_in source) ty) (entry_in source e) ≡ None
  entry_unmade ty e none = ap (λ o. o >>= λ x. said_block e >>= λ y. Some (x, y)) none
