-- What the loop of `importing::function_names` keeps.
use Rattle.std.proofs.Common.{ℕ, List, ◌≤◌, map, take, length}
use Rattle.llvm_core.specs.Data.{Function, data_of}
use Rattle.dialect_types.specs.Legalised.{Gave, GoesOn}
use Rattle.meaning.specs.Pairs.{Matched}
use Rattle.from_llvm_ir.specs.Naming.{HasMet}
use Rattle.from_llvm_ir.proofs.importing.function_names.Given as goal

abbrev pub invariant-loop-f : goal.invariant-loop-f
invariant-loop-f l = record {
  within : l.f ≤ length l.source.functions;
  given : Matched (λ (g : Function) (n : List ℕ). Gave l.names g.name n) (take l.f (data_of l.source).functions) l.all.items;
  met : HasMet l.fn.names l.names (map (λ (g : Function). g.name) (take l.f (data_of l.source).functions));
  grown : GoesOn l.fn.names l.names;
}
