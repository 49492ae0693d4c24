-- What `module::LLVMModule::bits_number` owes besides what the check finds.
use Rattle.std.proofs.Common.{ap, Some}
use Rattle.llvm_core.specs.Module.{Module}
use Rattle.support.proofs.ResultLaws.{on_err}
use Rattle.std.proofs.lemmas.Option.{slice_get_within}
use Rattle.llvm_core.specs.declared.types.LLVMTypeKind.TheVariants as T
use Rattle.llvm_core.specs.declared.types.ResultType.TheVariants.{Bits}
use Rattle.llvm_core.proofs.GrowLemmas.{makes_none, ok_within}
use Rattle.llvm_core.proofs.module.LLVMModule.bits_number.Goals as goal

pub returns-in_err-bit-clause-err : goal.returns-in_err-bit-clause-err
returns-in_err-bit-clause-err c =
    on_err c.from_residual.result (makes_none (Some (Bits c.args.lanes)) c.args.self.now.types c.type_get.new.self.types (ap (λ (m : Module). m.types) c.in_err-bit.ensures.err))

pub type_get-requires-in-Many-clause-parts : goal.type_get-requires-in-Many-clause-parts
type_get-requires-in-Many-clause-parts c = slice_get_within c.type_get.new.self.types c.in_ok-bit.bit.0 (T.Int 1) c.in_ok-bit.ensures.interned.here

pub returns-in-One-clause-within : goal.returns-in-One-clause-within
returns-in-One-clause-within c = slice_get_within c.type_get.new.self.types c.in_ok-bit.bit.0 (T.Int 1) c.in_ok-bit.ensures.interned.here

pub returns-in-Many-clause-within : goal.returns-in-Many-clause-within
returns-in-Many-clause-within c = ok_within c.type_get-in-Many.result c.type_get.new.self.types c.type_get-in-Many.new.self.types (T.Vector c.in-Many.kind c.in-Many.count c.in_ok-bit.bit) c.type_get-in-Many.ensures.interned
