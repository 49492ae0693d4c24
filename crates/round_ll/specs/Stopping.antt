-- Which answer a call below stands for.
use Rattle.round_ll.specs.declared.outside.all_bytes.ReadAllError.{ReadAllError}
use Rattle.round_ll.specs.declared.outside.all_bytes.ReadAllError.TheVariants as all
use Rattle.ll_text.specs.declared.read_err.ReadErr.{ReadErr}
use Rattle.ll_text.specs.declared.read_err.ReadErr.TheVariants as read
use Rattle.round_ll.specs.declared.ended.Fault.TheVariants.{ReadFault, TooLong, Text, Transfer}
use Rattle.transfer.specs.declared.transfer_err.TransferErr.{TransferErr}
use Rattle.transfer.specs.declared.transfer_err.TransferErr.TheVariants as T
use Rattle.round_ll.specs.declared.stopped.Stopped.{Stopped}
use Rattle.round_ll.specs.declared.stopped.Stopped.TheVariants.{Refused, NoMemory}

abbrev pub stop_of_read : ReadAllError → Stopped
stop_of_read all.ReadFault = Refused ReadFault
stop_of_read all.TooLong = Refused TooLong
stop_of_read all.NoMemory = NoMemory

abbrev pub stop_of_text : ReadErr → Stopped
stop_of_text read.NotYet = Refused (Text read.NotYet)
stop_of_text read.NoMemory = NoMemory

abbrev pub stop_of_transfer : TransferErr → Stopped
stop_of_transfer (T.Import e) = Refused (Transfer (T.Import e))
stop_of_transfer (T.Export e) = Refused (Transfer (T.Export e))
stop_of_transfer T.NoMemory = NoMemory
