-- What the loop of `asking::asked_text` keeps.
use Rattle.std.proofs.Common.{◌≡◌, ◌++◌, map, take, string_bytes}
use Rattle.dialect_types.specs.Legalised.{as_name_byte}
use Rattle.dialect_types.proofs.asking.asked_text.Given as goal

abbrev pub invariant-loop-byte : goal.invariant-loop-byte
invariant-loop-byte l = string_bytes l.all ≡ string_bytes l.initial.all ++ map as_name_byte (take l.byte-index l.bytes)
