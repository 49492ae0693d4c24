-- The printed text of module data is read as what they say.
use Rattle.std.proofs.Common.{List, ℕ, subst}
use Rattle.llvm_core.specs.Data.{ModuleData}
use Rattle.ll_said.specs.Said.{file_of}
use Rattle.ll_said.specs.Sayable.{IsSayableModule}
use Rattle.ll_written.specs.Printing.{module_text}
use Rattle.ll_written.specs.Reading.{IsReadAs}
use Rattle.ll_written.proofs.FileForms.{file_form}
use Rattle.ll_written.proofs.FileTexts.{file_text}
use Rattle.ll_written.proofs.ReadLaws.{written_is_read}

pub printed_is_read : (d : ModuleData) → IsSayableModule d → IsReadAs (module_text d) (file_of d)
printed_is_read d h = subst (λ (text : List ℕ). IsReadAs text (file_of d)) (file_text d h) (written_is_read (file_of d) (file_form d h))
