-- What `round` has done where it ends with status 0.
use Rattle.std.specs.Prelude.{ℕ, ◌≡◌, List, [], ◌++◌, codes}
use Rattle.llvm_core.specs.Module.{Module}
use Rattle.llvm_core.specs.Sound.{IsModule}
use Rattle.llvm_core.specs.Checked.{IsChecked}
use Rattle.llvm_core.specs.Form.{IsForm}
use Rattle.held_types.specs.Held.{AreHeld}
use Rattle.dialect_types.specs.Trees.{structs_of}
use Rattle.llvm_core.specs.Data as L
use Rattle.llvm_core.specs.Data.{ModuleData}
use Rattle.dialect_core.specs.Text.{module_text}
use Rattle.ll_text.specs.Spelling.{Spells, IsNumbered}
use Rattle.ll_print.specs.Printing.{EndsLine}
use Rattle.ll_print.specs.Printing.{module_text as printed_text}
use Rattle.to_llvm_ir.specs.Held.{IsReadable}
use Rattle.transfer.specs.declared.transferred.Transferred.{Transferred}
use Rattle.transfer.specs.Same.{SameThroughout, dialect_of, back_of}
use Rattle.round_ll.specs.Report.{report_text}

-- the whole output: dialect text, `;; llvm`, a text that spells the module back, `;; report`, the report
pub record IsOutput (m : ModuleData) (t : Transferred) (text : List ℕ) : Type 0 where
  pub llvm : List ℕ
  pub printed : llvm ≡ printed_text (back_of t)
  pub spells : Spells llvm (back_of t)
  -- its last line has an end, so the line behind it stands by itself
  pub lines : EndsLine llvm
  pub whole : text ≡ module_text (structs_of t.ctx.types) (dialect_of t) ++ codes ";; llvm\n" ++ llvm ++ codes ";; report\n" ++ report_text m t.structs.items t.blocks

-- The input spells one sound and checked module of the form; the dialect module and the module back have its code, under the
-- match of blocks and of names of structs that the report shows; and text is the output.
pub record Rounds (input : List ℕ) (t : Transferred) (text : List ℕ) : Type 0 where
  pub source : Module
  pub sound : IsModule source
  pub checked : IsChecked source
  pub numbered : IsNumbered (L.data_of source)
  pub form : IsForm (L.data_of source)
  -- no value is of a type that the dialect lacks, nor of one that holds such a type, and no constant is, or is made of, an integer of
  -- more than 64 bits or a splat of a scalable vector
  pub held : AreHeld (L.data_of source)
  pub spelled : Spells input (L.data_of source)
  pub same : SameThroughout (L.data_of source) t
  pub back_checked : IsChecked t.back
  -- the dialect module stands in its context as a caller needs it, to print, check or export it once more
  pub readable : IsReadable t.ctx t.dialect.0.0
  pub output : IsOutput (L.data_of source) t text
