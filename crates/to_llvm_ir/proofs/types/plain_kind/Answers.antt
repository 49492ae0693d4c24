-- What is returned is no function, and an integer has a width that there is.
use Rattle.std.proofs.Common.{ap, subst}
use Rattle.kinds.specs.Held.{IsHeldResult}
use Rattle.dialect_types.specs.Trees.{type_tree}
use Rattle.to_llvm_ir.proofs.TypeLaws.{no_function, int_over}
use Rattle.to_llvm_ir.proofs.types.plain_kind.Goals as goal

pub returns-in-Integer-clause-over : goal.returns-in-Integer-clause-over
returns-in-Integer-clause-over c = λ n. int_over c.in-Integer.width (subst IsHeldResult (ap (type_tree c.requires.0) c.in-Integer.is) c.requires.1)

pub unreachable-requires-in-Func : goal.unreachable-requires-in-Func
unreachable-requires-in-Func c = no_function _ _ _ (subst IsHeldResult (ap (type_tree c.requires.0) c.in-Func.is) c.requires.1)
