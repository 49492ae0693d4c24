-- What bytes spell: module data.
use Rattle.std.specs.Prelude.{◌≡◌, ℕ, List, Some}
use Rattle.llvm_core.specs.Module.{Module}
use Rattle.llvm_core.specs.Sound.{IsModule}
use Rattle.llvm_core.specs.Checked.{IsChecked}
use Rattle.llvm_core.specs.Form.{IsForm}
use Rattle.llvm_core.specs.Data.{ModuleData, data_of}
use Rattle.ll_lines.specs.Lines.{File}
use Rattle.ll_bodies.specs.Meaning.{file_data}
use Rattle.ll_said.specs.Numbered.{numbered}
pub use Rattle.ll_said.specs.Sayable.{IsNumbered}
use Rattle.ll_written.specs.Reading.{IsReadAs}

-- the lines that the bytes are read as mean the data
abbrev pub Means : List ℕ → ModuleData → Type 0
Means bytes d = (f : File) × IsReadAs bytes f × (file_data f ≡ Some d)

-- The bytes mean the data, once their functions, blocks and instructions are numbered from 0 in order: numbers
-- are not written.
abbrev pub Spells : List ℕ → ModuleData → Type 0
Spells bytes d = Means bytes (numbered d)

-- a checked module of the form
pub record IsReadable (m : Module) : Type 0 where
  pub sound : IsModule m
  pub checked : IsChecked m
  pub form : IsForm (data_of m)

-- the bytes spell a checked module of the form, however its parts are numbered
abbrev pub IsSpelled : List ℕ → Type 0
IsSpelled bytes = (m : Module) × IsReadable m × Spells bytes (data_of m)
