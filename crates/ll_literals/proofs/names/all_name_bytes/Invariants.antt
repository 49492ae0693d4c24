-- The union so far tells whether all bytes so far are of names.
use Rattle.std.proofs.Common.{◌≡◌, take}
use Rattle.std.specs.List.{list_all}
use Rattle.ll_literals.specs.Names.{is_name_byte}
use Rattle.ll_literals.proofs.NameBytes.{code_of}
use Rattle.ll_literals.proofs.names.all_name_bytes.Given as goal

abbrev pub invariant-loop-b : goal.invariant-loop-b
invariant-loop-b l = l.kinds ≡ code_of (list_all is_name_byte (take l.b-index l.bytes))
