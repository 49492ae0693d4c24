-- What the loop of `structs::make_structs` keeps.
use Rattle.llvm_core.specs.Data.{data_of}
use Rattle.dialect_types.specs.Trees.{structs_of}
use Rattle.renamed_source.specs.Names.{struct_name}
use Rattle.renamed_source.specs.Source.{pairs_of}
use Rattle.from_llvm_ir.specs.Structs.{AddsOnly, identifiers}
use Rattle.from_llvm_ir.specs.Types.{AddsTypes}
use Rattle.from_llvm_ir.proofs.StructLaws.{Making}
use Rattle.from_llvm_ir.proofs.structs.make_structs.Given as goal

abbrev pub invariant-loop-s : goal.invariant-loop-s
invariant-loop-s l = record {
  added : AddsTypes l.fn.ctx l.ctx;
  only : AddsOnly (structs_of l.fn.ctx.types) (structs_of l.ctx.types) (identifiers (pairs_of l.pairs));
  making : Making (data_of l.module) (struct_name (pairs_of l.pairs)) l.held l.s-index (structs_of l.fn.ctx.types) (structs_of l.ctx.types);
}
