-- A checked module has few parameters a function.
use Rattle.std.proofs.Common.{◌≡◌, ◌<◌, ◌^◌, inl, ℕ, List, [], length, ap, subst, sym}
use Rattle.std.specs.Option.{option_map_or}
use Rattle.std.proofs.Math.Nat.{lt_of_not-le}
use Rattle.support.proofs.ListLaws.{item_there}
use Rattle.llvm_core.specs.declared.numbers.LLVMFunction.{LLVMFunction}
use Rattle.llvm_core.specs.declared.code.FunctionData.{FunctionData}
use Rattle.llvm_core.specs.declared.check_err.Place.TheVariants as P
use Rattle.llvm_core.specs.declared.check_err.CheckErr.TheVariants.{ListTooLong}
use Rattle.llvm_core.specs.Module.{Module}
use Rattle.llvm_core.specs.Code.{param_names}
use Rattle.llvm_core.specs.Checked.{IsChecked}

pub few_params : (m : Module) (f : LLVMFunction) → IsChecked m → f.0 < length m.functions → length (param_names m.functions f) < 2 ^ 31
few_params m f checked within =
    let x = item_there m.functions f.0 within in
    let names : param_names m.functions f ≡ x.0.params = ap (λ o. option_map_or (λ (y : FunctionData). y.params) o []) x.1 in
    subst (λ (ns : List (List ℕ)). length ns < 2 ^ 31) (sym names) (lt_of_not-le (λ long. checked (ListTooLong (P.Function f.0)) (x.0, x.1, inl long)))
