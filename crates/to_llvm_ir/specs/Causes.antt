-- Why an export refuses a function, as it is found at an operation.
use Rattle.std.specs.Prelude.{◌≡◌, ℕ, Some, slice_get}
use Rattle.dialect_core.specs.ContextData.{ContextData}
use Rattle.dialect_core.specs.Data.{DialectModule, Func}
use Rattle.to_llvm_ir.specs.declared.to_llvm_err.ToLLVMErr.{ToLLVMErr}
use Rattle.to_llvm_ir.specs.Exported.{IsCause}

-- the cause of the module, whichever has the function
abbrev pub IsFuncCause : ContextData → Func → ToLLVMErr → Type 0
IsFuncCause c g e = (d : DialectModule) (at : ℕ) → slice_get d.functions at ≡ Some g → IsCause c d e
