-- The bytes that were compared are the same, so the others tell.
use Rattle.std.proofs.Common.{◌≡◌, drop}
use Rattle.std.specs.Str.{bytes_eq}
use Rattle.ll_classes.proofs.words.are_same.Given as goal

abbrev pub invariant-loop-place : goal.invariant-loop-place
invariant-loop-place l = bytes_eq (drop l.place l.text) (drop l.place l.word) ≡ bytes_eq l.text l.word
