-- What the modules of a translation need to be printed, and why a text is refused.
use Rattle.std.specs.Prelude.{◌≡◌, ◌≢◌, ℕ, List, [], ◌++◌, codes}
use Rattle.llvm_core.specs.Module.{Module}
use Rattle.llvm_core.specs.Form.{IsForm, HasDistinctNames, HasFew}
use Rattle.llvm_core.specs.Data.{ModuleData, data_of}
use Rattle.dialect_types.specs.Trees.{structs_of}
use Rattle.dialect_core.specs.Data as D
use Rattle.dialect_core.specs.Text.{module_text as dialect_text}
use Rattle.ll_print.specs.Printing.{EndsLine, module_text as llvm_text}
use Rattle.transfer.specs.declared.transferring.Begun.{Begun}
use Rattle.transfer.specs.Begun.{IsBegun}
use Rattle.transfer.specs.declared.transfer_err.TransferErr.{TransferErr}
use Rattle.transfer.specs.declared.transfer_err.TransferErr.TheVariants as T
use Rattle.transfer.specs.Same.{IsCause}
use Rattle.ll_text.specs.Spelling.{Spells, IsSpelled, IsReadable, IsNumbered}
use Rattle.ll_text.specs.declared.read_err.ReadErr.TheVariants as read
use Rattle.round_ll.specs.declared.ended.Fault.TheVariants.{Text, Transfer}
use Rattle.round_ll.specs.declared.stopped.Stopped.{Stopped}
use Rattle.round_ll.specs.declared.stopped.Stopped.TheVariants as stop
use Rattle.round_ll.specs.Report.{report_text}

-- the module back is of the form with a name
pub record IsPrintable (back : Module) : Type 0 where
  pub form : IsForm (data_of back)
  pub named : (data_of back).name ≢ []
  pub names : HasDistinctNames (data_of back)
  pub few : HasFew (data_of back)

-- a module is imported, and the text of that and the report are written
pub record IsStarted (m : Module) (b : Begun) (text report : List ℕ) : Type 0 where
  pub begun : IsBegun m b
  pub shown : text ≡ dialect_text (structs_of b.ctx.types) (D.data_of b.ctx b.imported.«module».0.0) ++ codes ";; llvm\n"
  pub reported : report ≡ report_text (data_of m) b.imported.structs.items b.imported.blocks

-- the text of the module back and the report are appended
pub record IsEnded (back : ModuleData) (report before after : List ℕ) : Type 0 where
  pub llvm : List ℕ
  pub printed : llvm ≡ llvm_text back
  pub spells : Spells llvm back
  pub lines : EndsLine llvm
  pub whole : after ≡ before ++ llvm ++ codes ";; report\n" ++ report

-- a refusal of the translation that is no want of memory
abbrev pub IsRefusal : TransferErr → Type 0
IsRefusal T.NoMemory = ⊥
IsRefusal _ = Unit {0}

-- the bytes spell a checked module of the form that has that cause to be refused
pub record IsRefused (input : List ℕ) (e : TransferErr) : Type 0 where
  pub source : Module
  pub readable : IsReadable source
  pub numbered : IsNumbered (data_of source)
  pub spelled : Spells input (data_of source)
  pub refusal : IsRefusal e
  pub cause : IsCause (data_of source) e

-- why a text is refused; want of memory needs no reason
abbrev pub TextCause : List ℕ → Stopped → Type 0
TextCause input (stop.Refused (Text read.NotYet)) = ¬ IsSpelled input
TextCause input (stop.Refused (Transfer e)) = IsRefused input e
TextCause input (stop.Refused _) = ⊥
TextCause input stop.NoMemory = Unit {0}
