-- The status and the line of each answer of the program.
use Rattle.std.specs.Prelude.{ℕ, List, [], ◌++◌, codes, decimal}
use Rattle.kinds.specs.declared.types.OtherType.{OtherType}
use Rattle.kinds.specs.declared.types.OtherType.TheVariants as O
use Rattle.from_consts.specs.declared.conversion_err.ConversionErr.TheVariants as C
use Rattle.from_consts.specs.declared.conversion_err.Unsupported.TheVariants as U
use Rattle.to_llvm_ir.specs.declared.to_llvm_err.ToLLVMErr.TheVariants as X
use Rattle.transfer.specs.declared.transfer_err.TransferErr.{TransferErr}
use Rattle.transfer.specs.declared.transfer_err.TransferErr.TheVariants as T
use Rattle.round_ll.specs.declared.ended.Ended.{Ended}
use Rattle.round_ll.specs.declared.ended.Ended.TheVariants.{Done, Refused, NoMemory}
use Rattle.round_ll.specs.declared.ended.Fault.{Fault}
use Rattle.round_ll.specs.declared.ended.Fault.TheVariants.{Usage, ReadFault, WriteFault, TooLong, Text, Transfer}

abbrev pub fault_status : Fault → ℕ
fault_status Usage = 2
fault_status ReadFault = 3
fault_status WriteFault = 4
fault_status TooLong = 5
fault_status (Text e) = 6
fault_status (Transfer e) = 7

abbrev pub status_of : Ended → ℕ
status_of (Done t) = 0
status_of (Refused f) = fault_status f
status_of NoMemory = 8

-- ---- lines

-- of an import that meets a type for which the dialect has none
abbrev pub other_head : OtherType → List ℕ
other_head O.X86Fp80 = codes "import X86Fp80"
other_head O.Fp128 = codes "import Fp128"
other_head O.PpcFp128 = codes "import PpcFp128"
other_head O.X86Amx = codes "import X86Amx"
other_head O.Token = codes "import Token"

-- of a refusal of the translation: the half, the kind, and the name or the number where it carries one
abbrev pub refusal_head : TransferErr → List ℕ
refusal_head (T.Import (C.UndefinedValue name v)) = codes "import UndefinedValue: "
refusal_head (T.Import (C.IntConstTooWide width)) = codes "import IntConstTooWide: "
refusal_head (T.Import (C.Unsupported (U.Ty of))) = other_head of
refusal_head (T.Import (C.Unsupported U.ScalableSplat)) = codes "import ScalableSplat"
refusal_head (T.Import (C.Struct s)) = codes "import Struct"
refusal_head (T.Import C.NoMemory) = codes "import NoMemory"
refusal_head (T.Export (X.UndefinedValue name)) = codes "export UndefinedValue: "
refusal_head (T.Export (X.UndefinedBlock label)) = codes "export UndefinedBlock: "
refusal_head (T.Export X.NumBlockArgsNumPhisMismatch) = codes "export NumBlockArgsNumPhisMismatch"
refusal_head (T.Export (X.EdgeArgsDiffer from to)) = codes "export EdgeArgsDiffer"
refusal_head (T.Export X.NoMemory) = codes "export NoMemory"
refusal_head T.NoMemory = codes "NoMemory"

abbrev pub refusal_name : TransferErr → List ℕ
refusal_name (T.Import (C.UndefinedValue name v)) = name
refusal_name (T.Import (C.IntConstTooWide width)) = decimal width
refusal_name (T.Export (X.UndefinedValue name)) = name
refusal_name (T.Export (X.UndefinedBlock label)) = label
refusal_name _ = []

abbrev pub fault_head : Fault → List ℕ
fault_head Usage = codes "usage: round_ll round"
fault_head ReadFault = codes "read fault"
fault_head WriteFault = codes "write fault"
fault_head TooLong = codes "input longer than 16777216 bytes"
fault_head (Text e) = codes "NotYet"
fault_head (Transfer e) = refusal_head e

abbrev pub fault_name : Fault → List ℕ
fault_name (Transfer e) = refusal_name e
fault_name _ = []

abbrev pub head_of : Ended → List ℕ
head_of (Done t) = []
head_of (Refused f) = fault_head f
head_of NoMemory = codes "out of memory"

abbrev pub name_of : Ended → List ℕ
name_of (Refused f) = fault_name f
name_of _ = []

-- the line for the standard error; none where all was done
abbrev pub line_of : Ended → List ℕ
line_of (Done t) = []
line_of (Refused f) = fault_head f ++ fault_name f ++ codes "\n"
line_of NoMemory = head_of NoMemory ++ name_of NoMemory ++ codes "\n"
