-- What a run of the program has done, for each of its answers.
use Rattle.std.specs.Prelude.{ℕ, ◌≡◌, ◌≤◌, ◌^◌, ◌⊎◌, List, length, Option, Some, None}
use Rattle.std.specs.Io.KnownBytes.{append_known}
use Rattle.round_ll.specs.Outside.Causes.{Rose}
use Rattle.round_ll.specs.Outside.AllBytes.{GaveAll, GaveTooMany, TookFront}
use Rattle.round_ll.specs.declared.command.Command.{Command}
use Rattle.round_ll.specs.declared.command.Command.TheVariants.{Round}
use Rattle.round_ll.specs.declared.ended.Ended.{Ended}
use Rattle.round_ll.specs.declared.ended.Ended.TheVariants.{Done, Refused, NoMemory}
use Rattle.round_ll.specs.declared.ended.Fault.{Fault}
use Rattle.round_ll.specs.declared.ended.Fault.TheVariants.{Usage, ReadFault, WriteFault, TooLong, Text, Transfer}
use Rattle.ll_text.specs.declared.read_err.ReadErr.TheVariants as read
use Rattle.round_ll.specs.declared.stopped.Stopped.{Stopped}
use Rattle.round_ll.specs.declared.stopped.Stopped.TheVariants as stop
use Rattle.llvm_core.specs.Module.{Module}
use Rattle.llvm_core.specs.Data.{data_of}
use Rattle.held_types.specs.Held.{AreHeld}
use Rattle.from_llvm_ir.specs.Refusals.{IsValid}
use Rattle.transfer.specs.declared.transferred.Transferred.{Transferred}
use Rattle.transfer.specs.declared.transfer_err.TransferErr.{TransferErr}
use Rattle.ll_text.specs.Spelling.{IsSpelled, IsReadable, IsNumbered, Spells}
use Rattle.round_ll.specs.Headline.{Rounds}
use Rattle.round_ll.specs.Rounding.{IsRefused}

-- an object of the outside before and after: the bytes left or taken where they are told, and the faults
pub record Told : Type 0 where
  pub bytes : Option (List ℕ)
  pub faults : ℕ

-- the source was read to its end, and gave these bytes, at most 2^24 of them
pub record WasRead (before after : Told) (input : List ℕ) : Type 0 where
  pub all : GaveAll before.bytes after.bytes input
  pub short : length input ≤ 2 ^ 24

-- the source was read to its end, and its bytes make these modules and this text
pub record Made (before after : Told) (t : Transferred) (text : List ℕ) : Type 0 where
  pub input : List ℕ
  pub read : WasRead before after input
  pub rounds : Rounds input t text

-- the source was read to its end, and no checked module of the form is spelled by its bytes
pub record WasUnspelled (before after : Told) : Type 0 where
  pub input : List ℕ
  pub read : WasRead before after input
  pub unspelled : ¬ IsSpelled input

-- the source was read to its end, and its bytes spell a checked module of the form that has that cause to be refused
pub record WasRefused (before after : Told) (e : TransferErr) : Type 0 where
  pub input : List ℕ
  pub read : WasRead before after input
  pub refused : IsRefused input e

-- the modules were made, and the whole text was written
pub record Finished (source source' out out' : Told) (t : Transferred) : Type 0 where
  pub text : List ℕ
  pub made : Made source source' t text
  pub written : out'.bytes ≡ append_known out.bytes text

-- the modules were made, and a fault of the sink left a front of the text there
pub record CutShort (source source' out out' : Told) : Type 0 where
  pub modules : Transferred
  pub text : List ℕ
  pub made : Made source source' modules text
  pub front : TookFront out.bytes out'.bytes text
  pub fault : Rose out.faults out'.faults

-- what writing the text to the sink came to
abbrev pub Wrote : Told → Told → Transferred → List ℕ → Ended → Type 0
Wrote out out' t text (Done done) = (done.value ≡ t) × (out'.bytes ≡ append_known out.bytes text)
Wrote out out' t text (Refused WriteFault) = TookFront out.bytes out'.bytes text × Rose out.faults out'.faults
Wrote out out' t text _ = ⊥

-- what stands behind an answer that was given before anything was written
abbrev pub StopCause : Told → Told → Stopped → Type 0
StopCause before after (stop.Refused ReadFault) = Rose before.faults after.faults
StopCause before after (stop.Refused TooLong) = GaveTooMany (2 ^ 24) before.bytes after.bytes
StopCause before after (stop.Refused (Text read.NotYet)) = WasUnspelled before after
StopCause before after (stop.Refused (Transfer e)) = WasRefused before after e
StopCause before after (stop.Refused _) = ⊥
StopCause before after stop.NoMemory = Unit {0}

abbrev pub RoundFault : Told → Told → Told → Told → Fault → Type 0
RoundFault s s' o o' WriteFault = CutShort s s' o o'
RoundFault s s' o o' f = StopCause s s' (stop.Refused f)

-- what the answer of `round` says
abbrev pub RoundEnded : Told → Told → Told → Told → Ended → Type 0
RoundEnded s s' o o' (Done t) = Finished s s' o o' t.value
RoundEnded s s' o o' (Refused f) = RoundFault s s' o o' f
RoundEnded s s' o o' NoMemory = Unit {0}

-- what the answer of the program says: `Usage` exactly where the words are no command
abbrev pub RunEnded : Option Command → Told → Told → Told → Told → Ended → Type 0
RunEnded None s s' o o' ended = ended ≡ Refused Usage
RunEnded (Some Round) s s' o o' ended = RoundEnded s s' o o' ended

-- what holds of an answer beside which nothing is written to the output
abbrev pub UnlessWriting : Ended → Type 0 → Type 0
UnlessWriting (Done t) P = Unit {0}
UnlessWriting (Refused WriteFault) P = Unit {0}
UnlessWriting _ P = P

abbrev pub IsDoneOrNoMemory : Ended → Type 0
IsDoneOrNoMemory (Done t) = Unit {0}
IsDoneOrNoMemory NoMemory = Unit {0}
IsDoneOrNoMemory (Refused f) = ⊥

-- Bytes that spell a checked module of the form whose uses are valid and which is held are taken: where the source held them, at most
-- 2^24, and neither count of faults rose or stands at its last value, all was done, or memory was wanting. This follows from the causes above, since each of them rules one of these premises out.
abbrev pub TakesSpelled : Option Command → Told → Told → Told → Told → Ended → Type 0
TakesSpelled None s s' o o' ended = Unit {0}
TakesSpelled (Some Round) s s' o o' ended =
    (input : List ℕ) (m : Module) → s.bytes ≡ Some input → length input ≤ 2 ^ 24 → IsReadable m → IsNumbered (data_of m) → Spells input (data_of m) → IsValid (data_of m) → AreHeld (data_of m)
    → ¬ Rose s.faults s'.faults → ¬ Rose o.faults o'.faults → IsDoneOrNoMemory ended

-- the line was written to the standard error, or a front of it where its count of faults rose
abbrev pub Says : Told → Told → List ℕ → Type 0
Says e e' line = (e'.bytes ≡ append_known e.bytes line) ⊎ (TookFront e.bytes e'.bytes line × Rose e.faults e'.faults)
