-- What `laws::prefix_law` owes besides what the check finds.
use Rattle.dialect_core.specs.declared.ops.Value.{Value}
use Rattle.meaning.specs.Llvm.{Key, same_key}
use Rattle.meaning.specs.Dialect.{same_value}
use Rattle.meaning.proofs.Prefix.{trace_front}
use Rattle.meaning.proofs.laws.prefix_law.Goals as goal

pub returns-clause-llvm : goal.returns-clause-llvm
returns-clause-llvm c = trace_front Key same_key

pub returns-clause-dialect : goal.returns-clause-dialect
returns-clause-dialect c = trace_front Value same_value
