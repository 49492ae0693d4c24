-- A value is noted where the table has it.
use Rattle.std.proofs.Common.{◌∙◌, ap}
use Rattle.std.specs.Prelude.{is_some}
use Rattle.std.proofs.lemmas.Result.{on_ok_weaker}
use Rattle.dialect_core.specs.Text.{same_value}
use Rattle.to_llvm_ir.specs.RunMaps.{looked_up}
use Rattle.to_llvm_ir.proofs.OrderingLaws.{noted_if}
use Rattle.to_llvm_ir.proofs.order.Seen.note.Goals as goal

pub returns : goal.returns
returns c = on_ok_weaker c.set.result (λ set q. ap is_some (set q) ∙ noted_if (same_value c.args.value q) tt (looked_up c.args.self.now.values q)) c.set.ensures
