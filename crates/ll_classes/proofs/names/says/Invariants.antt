-- What is left says what is left of the name, or nothing does.
use Rattle.std.proofs.Common.{◌≡◌, drop}
use Rattle.std.specs.Str.{bytes_eq}
use Rattle.ll_classes.specs.Names.{unescaped}
use Rattle.ll_classes.proofs.names.says.Given as goal

abbrev pub invariant-loop-byte : goal.invariant-loop-byte
invariant-loop-byte l = bytes_eq (unescaped l.left) (drop l.byte-index l.name) ≡ bytes_eq (unescaped l.written) l.name
