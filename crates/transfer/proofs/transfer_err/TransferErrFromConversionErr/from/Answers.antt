-- The import's want of memory does not stand inside.
use Rattle.std.proofs.Common.{sym, ap}
use Rattle.transfer.specs.Same.{of_import}
use Rattle.transfer.proofs.transfer_err.TransferErrFromConversionErr.from.Goals as goal

pub returns-in-NoMemory : goal.returns-in-NoMemory
returns-in-NoMemory c = ap of_import (sym c.in-NoMemory.is)
