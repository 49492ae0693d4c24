-- What stands for values when one more is set.
use Rattle.std.proofs.Common.{◌≡◌, true, false, Option, Some, if◌then◌else◌, ◌∙◌}
use Rattle.std.proofs.lemmas.Bool.{cond-true, cond-false}
use Rattle.llvm_core.specs.declared.code.LLVMValue.{LLVMValue}
use Rattle.dialect_core.specs.declared.ops.Value.{Value}
use Rattle.meaning.specs.Dialect.{same_value}

-- the map with one value more
abbrev pub IsSet : (old new : Value → Option LLVMValue) → Value → LLVMValue → Type 0
IsSet old new v x = (q : Value) → new q ≡ (if same_value v q then Some x else old q)

pub set_same : (old new : Value → Option LLVMValue) (v q : Value) (x : LLVMValue) → IsSet old new v x → same_value v q ≡ true → new q ≡ Some x
set_same old new v q x h e = h q ∙ cond-true (same_value v q) (Some x) (old q) e

pub set_other : (old new : Value → Option LLVMValue) (v q : Value) (x : LLVMValue) → IsSet old new v x → same_value v q ≡ false → new q ≡ old q
set_other old new v q x h e = h q ∙ cond-false (same_value v q) (Some x) (old q) e
