-- The type made so far is one of the module's.
use Rattle.std.proofs.Common.{◌<◌, length}
use Rattle.layer_tests.proofs.modules.nested.Given as goal

abbrev pub invariant-loop : goal.invariant-loop
invariant-loop l = l.ty.0 < length l.m.types
