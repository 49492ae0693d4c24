-- What the loop of `constants::consts_for` keeps: the constants of the elements so far.
use Rattle.std.proofs.Common.{◌≡◌, List, take}
use Rattle.llvm_core.specs.declared.numbers.LLVMType.{LLVMType}
use Rattle.llvm_core.specs.Sound.{IsModule}
use Rattle.llvm_core.specs.Data as L
use Rattle.dialect_types.specs.Trees.{TypeTree}
use Rattle.to_llvm_ir.specs.Constants.{ArePartsOf, AreSources, AreConstsOf}
use Rattle.to_llvm_ir.specs.Growth.{Grows}
use Rattle.to_llvm_ir.proofs.constants.+kind_for.Given as goal

abbrev pub invariant-consts_for-loop-place : goal.invariant-consts_for-loop-place
invariant-consts_for-loop-place l = record {
  grows : Grows l.fn.back l.back;
  rest : l.back ≡ record l.fn.back { consts = l.back.consts };
  same : L.data_of l.back ≡ L.data_of l.fn.back;
  sound : IsModule l.back;
  are : (ts : List TypeTree) (parts : List LLVMType) → ArePartsOf l.fn.back l.ty parts → AreSources ts l.fn.back l.values parts → AreConstsOf ts l.back (take l.place l.values) l.elements;
}
