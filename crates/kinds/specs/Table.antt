-- The table of instructions.
use Rattle.std.specs.Prelude.{ℕ, List, codes}
use Rattle.kinds.specs.declared.op.Op.{Op}
use Rattle.kinds.specs.declared.op.Op.TheVariants as O
use Rattle.kinds.specs.declared.op.Immediates.{Immediates}
use Rattle.kinds.specs.declared.op.Immediates.TheVariants as M
use Rattle.kinds.specs.declared.rules.Fit.TheVariants as F
use Rattle.kinds.specs.declared.rules.Cast.TheVariants as C
use Rattle.kinds.specs.declared.rules.Takes.{Takes}
use Rattle.kinds.specs.declared.rules.Takes.TheVariants as T
use Rattle.kinds.specs.declared.rules.Gives.{Gives}
use Rattle.kinds.specs.declared.rules.Gives.TheVariants as G
use Rattle.kinds.specs.declared.rules.Leads.{Leads}
use Rattle.kinds.specs.declared.rules.Leads.TheVariants as L
use Rattle.kinds.specs.declared.rules.Family.{Family}
use Rattle.kinds.specs.declared.rules.Family.TheVariants.{Shows, Builds}
use Rattle.kinds.specs.declared.rules.Rule.{Rule}

abbrev pub rule : Takes → Gives → Leads → Family → Rule
rule takes gives leads family = record { takes = takes; gives = gives; leads = leads; family = family }

-- the line of the table for an instruction
abbrev pub rule_of : Op → Rule
rule_of (O.Add flags) = rule (T.Two F.Number F.First) G.First L.On Builds
rule_of (O.Sub flags) = rule (T.Two F.Number F.First) G.First L.On Builds
rule_of (O.Mul flags) = rule (T.Two F.Number F.First) G.First L.On Shows
rule_of (O.Shl flags) = rule (T.Two F.Number F.First) G.First L.On Shows
rule_of O.UDiv = rule (T.Two F.Number F.First) G.First L.On Shows
rule_of O.SDiv = rule (T.Two F.Number F.First) G.First L.On Shows
rule_of O.URem = rule (T.Two F.Number F.First) G.First L.On Shows
rule_of O.SRem = rule (T.Two F.Number F.First) G.First L.On Shows
rule_of O.LShr = rule (T.Two F.Number F.First) G.First L.On Shows
rule_of O.AShr = rule (T.Two F.Number F.First) G.First L.On Shows
rule_of O.And = rule (T.Two F.Number F.First) G.First L.On Shows
rule_of O.Or = rule (T.Two F.Number F.First) G.First L.On Shows
rule_of O.Xor = rule (T.Two F.Number F.First) G.First L.On Shows
rule_of (O.ICmp predicate) = rule (T.Two F.Comparable F.First) G.Bits L.On Shows
rule_of O.Trunc = rule (T.One (F.Cast C.ToNarrower)) G.Written L.On Builds
rule_of O.SExt = rule (T.One (F.Cast C.ToWider)) G.Written L.On Shows
rule_of (O.ZExt nneg) = rule (T.One (F.Cast C.ToWider)) G.Written L.On Shows
rule_of O.PtrToInt = rule (T.One (F.Cast C.ToNumber)) G.Written L.On Builds
rule_of O.IntToPtr = rule (T.One (F.Cast C.ToPointer)) G.Written L.On Builds
rule_of O.AddrSpaceCast = rule (T.One (F.Cast C.ToSpace)) G.Written L.On Shows
rule_of O.Select = rule (T.Three F.Bits F.Chosen F.Second) G.Second L.On Shows
rule_of O.Freeze = rule (T.One F.Any) G.First L.On Shows
rule_of (O.Load access) = rule (T.One F.Place) G.Written L.On Shows
rule_of (O.Store access) = rule (T.Two F.Sized F.Address) G.Nothing L.On Shows
rule_of O.VAArg = rule (T.One F.Address) G.Written L.On Shows
rule_of O.Br = rule T.Nothing G.Nothing (L.To 1) Shows
rule_of O.CondBr = rule (T.One F.Bit) G.Nothing (L.To 2) Shows
rule_of O.Ret = rule T.Return G.Nothing (L.To 0) Shows
rule_of O.Unreachable = rule T.Nothing G.Nothing (L.To 0) Shows

-- its immediates
abbrev pub immediates_of : Op → Immediates
immediates_of (O.Add flags) = M.Overflow flags
immediates_of (O.Sub flags) = M.Overflow flags
immediates_of (O.Mul flags) = M.Overflow flags
immediates_of (O.Shl flags) = M.Overflow flags
immediates_of O.UDiv = M.Nothing
immediates_of O.SDiv = M.Nothing
immediates_of O.URem = M.Nothing
immediates_of O.SRem = M.Nothing
immediates_of O.LShr = M.Nothing
immediates_of O.AShr = M.Nothing
immediates_of O.And = M.Nothing
immediates_of O.Or = M.Nothing
immediates_of O.Xor = M.Nothing
immediates_of (O.ICmp predicate) = M.Predicate predicate
immediates_of O.Trunc = M.Nothing
immediates_of O.SExt = M.Nothing
immediates_of (O.ZExt nneg) = M.NonNegative nneg
immediates_of O.PtrToInt = M.Nothing
immediates_of O.IntToPtr = M.Nothing
immediates_of O.AddrSpaceCast = M.Nothing
immediates_of O.Select = M.Nothing
immediates_of O.Freeze = M.Nothing
immediates_of (O.Load access) = M.Access access
immediates_of (O.Store access) = M.Access access
immediates_of O.VAArg = M.Nothing
immediates_of O.Br = M.Nothing
immediates_of O.CondBr = M.Nothing
immediates_of O.Ret = M.Nothing
immediates_of O.Unreachable = M.Nothing

-- the word of its operation in the dialect
abbrev pub op_word : Op → List ℕ
op_word (O.Add flags) = codes "llvm.add"
op_word (O.Sub flags) = codes "llvm.sub"
op_word (O.Mul flags) = codes "llvm.mul"
op_word (O.Shl flags) = codes "llvm.shl"
op_word O.UDiv = codes "llvm.udiv"
op_word O.SDiv = codes "llvm.sdiv"
op_word O.URem = codes "llvm.urem"
op_word O.SRem = codes "llvm.srem"
op_word O.LShr = codes "llvm.lshr"
op_word O.AShr = codes "llvm.ashr"
op_word O.And = codes "llvm.and"
op_word O.Or = codes "llvm.or"
op_word O.Xor = codes "llvm.xor"
op_word (O.ICmp predicate) = codes "llvm.icmp"
op_word O.Trunc = codes "llvm.trunc"
op_word O.SExt = codes "llvm.sext"
op_word (O.ZExt nneg) = codes "llvm.zext"
op_word O.PtrToInt = codes "llvm.ptrtoint"
op_word O.IntToPtr = codes "llvm.inttoptr"
op_word O.AddrSpaceCast = codes "llvm.addrspacecast"
op_word O.Select = codes "llvm.select"
op_word O.Freeze = codes "llvm.freeze"
op_word (O.Load access) = codes "llvm.load"
op_word (O.Store access) = codes "llvm.store"
op_word O.VAArg = codes "llvm.va_arg"
op_word O.Br = codes "llvm.br"
op_word O.CondBr = codes "llvm.cond_br"
op_word O.Ret = codes "llvm.return"
op_word O.Unreachable = codes "llvm.unreachable"
