-- How the answer of the program follows from what its two halves did, and what it means for bytes that spell a module.
use Rattle.std.proofs.Common.{List, ℕ, ◌≡◌, ◌≤◌, ◌^◌, length, [], Option, Some, None, sym, ◌∙◌, ap, subst, arith}
use Rattle.ll_text.specs.declared.read_err.ReadErr.TheVariants as read
use Rattle.ll_said.specs.Numbered.{numbered}
use Rattle.ll_said.proofs.OwnLaws.{own_twin}
use Rattle.ll_text.specs.Spelling.{IsSpelled, IsNumbered, Spells}
use Rattle.ll_text.proofs.ReadLaws.{one_meant}
use Rattle.llvm_core.specs.Data.{ModuleData, data_of}
use Rattle.llvm_core.specs.Form.{IsForm}
use Rattle.held_types.specs.Held.{AreHeld}
use Rattle.from_consts.specs.declared.conversion_err.ConversionErr.TheVariants as C
use Rattle.from_llvm_ir.specs.Refusals.{IsValid}
use Rattle.from_llvm_ir.proofs.UndefinedLaws.{no_undefined_use}
use Rattle.from_llvm_ir.proofs.RefusedLaws.{held_unsupported}
use Rattle.transfer.specs.Same as Same
use Rattle.round_ll.specs.Rounding.{IsRefusal}
use Rattle.transfer.specs.declared.transfer_err.TransferErr.{TransferErr}
use Rattle.transfer.specs.declared.transfer_err.TransferErr.TheVariants as T
use Rattle.round_ll.specs.Outside.AllBytes.{GaveAll, GaveTooMany}
use Rattle.round_ll.specs.declared.command.Command.{Command}
use Rattle.round_ll.specs.declared.command.Command.TheVariants.{Round}
use Rattle.round_ll.specs.declared.ended.Ended.{Ended}
use Rattle.round_ll.specs.declared.ended.Ended.TheVariants.{Done, Refused, NoMemory}
use Rattle.round_ll.specs.declared.ended.Fault.TheVariants.{Usage, ReadFault, WriteFault, TooLong, Text, Transfer}
use Rattle.transfer.specs.declared.transferred.Transferred.{Transferred}
use Rattle.round_ll.specs.Running.{Told, Made, Wrote, Finished, RoundEnded, RunEnded, UnlessWriting, TakesSpelled}

-- ---- from the halves to the answer

pub ended_of : (s s' o o' : Told) (t : Transferred) (text : List ℕ) (ended : Ended) → Made s s' t text → Wrote o o' t text ended → RoundEnded s s' o o' ended
ended_of s s' o o' t text (Done done) made wrote =
    subst (λ (u : Transferred). Finished s s' o o' u) (sym wrote.0) (record { text = text; made = made; written = wrote.1 })
ended_of s s' o o' t text (Refused WriteFault) made wrote = record { modules = t; text = text; made = made; front = wrote.0; fault = wrote.1 }
ended_of s s' o o' t text (Refused Usage) made wrote = elim wrote [ ]
ended_of s s' o o' t text (Refused ReadFault) made wrote = elim wrote [ ]
ended_of s s' o o' t text (Refused TooLong) made wrote = elim wrote [ ]
ended_of s s' o o' t text (Refused (Text e)) made wrote = elim wrote [ ]
ended_of s s' o o' t text (Refused (Transfer e)) made wrote = elim wrote [ ]
ended_of s s' o o' t text NoMemory made wrote = elim wrote [ ]

-- a half that writes answers nothing beside which nothing is written
pub silent_of : (P : Type 0) (o o' : Told) (t : Transferred) (text : List ℕ) (ended : Ended) → Wrote o o' t text ended → UnlessWriting ended P
silent_of P o o' t text (Done done) wrote = tt
silent_of P o o' t text (Refused WriteFault) wrote = tt
silent_of P o o' t text (Refused Usage) wrote = elim wrote [ ]
silent_of P o o' t text (Refused ReadFault) wrote = elim wrote [ ]
silent_of P o o' t text (Refused TooLong) wrote = elim wrote [ ]
silent_of P o o' t text (Refused (Text e)) wrote = elim wrote [ ]
silent_of P o o' t text (Refused (Transfer e)) wrote = elim wrote [ ]
silent_of P o o' t text NoMemory wrote = elim wrote [ ]

-- ---- bytes that spell a module are taken

-- a source that told these bytes gave these
gave : (o o' : Option (List ℕ)) (input bytes : List ℕ) → o ≡ Some input → GaveAll o o' bytes → bytes ≡ input
gave None o' input bytes told all = absurd (cc)
gave (Some xs) o' input bytes told all = let same : xs ≡ input = cc in cc (all.0, same)

-- so few bytes are not too many
not_too_many : (most : ℕ) (o o' : Option (List ℕ)) (input : List ℕ) → o ≡ Some input → length input ≤ most → GaveTooMany most o o' → ⊥
not_too_many most None o' input told short many = absurd (cc)
not_too_many most (Some xs) o' input told short many = let same : xs ≡ input = cc in omega (arith, many.0, ap length same)

-- a translation has no cause to refuse where each use is valid and each type held
no_cause : (d : ModuleData) (e : TransferErr) → IsValid d → AreHeld d → IsRefusal e → ¬ Same.IsCause d e
no_cause d (T.Import (C.UndefinedValue name v)) valid held refusal h = no_undefined_use d valid name v h
no_cause d (T.Import (C.IntConstTooWide width)) valid held refusal h = held.constants width h
no_cause d (T.Import (C.Unsupported u)) valid held refusal h = held_unsupported d held u h
no_cause d (T.Import (C.Struct s)) valid held refusal h = h
no_cause d (T.Import C.NoMemory) valid held refusal h = h
no_cause d (T.Export e) valid held refusal h = h
no_cause d T.NoMemory valid held refusal h = refusal

-- what bytes spell is one module, once its parts are numbered
one_spelled : (bytes : List ℕ) (d e : ModuleData) → IsForm d → IsForm e → Spells bytes d → Spells bytes e → IsNumbered d → IsNumbered e → d ≡ e
one_spelled bytes d e form other h k n o = sym (own_twin d form n) ∙ one_meant bytes (numbered d) (numbered e) h k ∙ own_twin e other o

pub takes_spelled : (command : Option Command) (s s' o o' : Told) (ended : Ended) → RunEnded command s s' o o' ended → TakesSpelled command s s' o o' ended
takes_spelled None s s' o o' ended h = tt
takes_spelled (Some Round) s s' o o' (Done t) h = λ input m told short readable numbered spelled valid held reads writes. tt
takes_spelled (Some Round) s s' o o' NoMemory h = λ input m told short readable numbered spelled valid held reads writes. tt
takes_spelled (Some Round) s s' o o' (Refused Usage) h = elim h [ ]
takes_spelled (Some Round) s s' o o' (Refused ReadFault) h = λ input m told short readable numbered spelled valid held reads writes. reads h
takes_spelled (Some Round) s s' o o' (Refused WriteFault) h = λ input m told short readable numbered spelled valid held reads writes. writes h.fault
takes_spelled (Some Round) s s' o o' (Refused TooLong) h = λ input m told short readable numbered spelled valid held reads writes. not_too_many (2 ^ 24) s.bytes s'.bytes input told short h
takes_spelled (Some Round) s s' o o' (Refused (Text read.NotYet)) h =
    λ input m told short readable numbered spelled valid held reads writes. h.unspelled (subst IsSpelled (sym (gave s.bytes s'.bytes input h.input told h.read.all)) (m, readable, spelled))
takes_spelled (Some Round) s s' o o' (Refused (Text read.NoMemory)) h = elim h [ ]
takes_spelled (Some Round) s s' o o' (Refused (Transfer e)) h = λ input m told short readable numbered spelled valid held reads writes.
    let same = gave s.bytes s'.bytes input h.input told h.read.all in
    let r = h.refused in
    let one = one_spelled input (data_of m) (data_of r.source) readable.form r.readable.form spelled (subst (λ (bs : List ℕ). Spells bs (data_of r.source)) same r.spelled) numbered r.numbered in
    no_cause (data_of r.source) e (subst IsValid one valid) (subst AreHeld one held) r.refusal r.cause
