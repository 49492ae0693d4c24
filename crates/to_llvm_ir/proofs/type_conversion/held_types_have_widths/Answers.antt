-- What `type_conversion::held_types_have_widths` owes.
use Rattle.to_llvm_ir.proofs.WidthLaws.{result_widths}
use Rattle.to_llvm_ir.proofs.type_conversion.held_types_have_widths.Goals as goal

pub returns : goal.returns
returns c ks t stored within held = result_widths ks stored t held
