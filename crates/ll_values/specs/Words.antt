-- Words of instructions, each with its row of the table, words of types, and words of constants of any type.
use Rattle.std.specs.Prelude.{◌^◌, false, List, [], ◌∷◌, Option, codes}
use Rattle.std.specs.Option.{option_map}
use Rattle.std.specs.Map.{lookup}
use Rattle.std.specs.Str.{bytes_eq}
use Rattle.kinds.specs.declared.access.Align.{Align}
use Rattle.kinds.specs.Access.{align_of}
use Rattle.kinds.specs.declared.fill.Fill.{Fill}
use Rattle.kinds.specs.declared.fill.Fill.TheVariants as Z
use Rattle.kinds.specs.declared.op.LLVMIntPredicate.{LLVMIntPredicate}
use Rattle.kinds.specs.declared.op.LLVMIntPredicate.TheVariants as P
use Rattle.kinds.specs.declared.op.OverflowFlags.{OverflowFlags}
use Rattle.kinds.specs.declared.op.Op.{Op}
use Rattle.kinds.specs.declared.op.Op.TheVariants as O
use Rattle.kinds.specs.declared.types.Floating.TheVariants as F
use Rattle.kinds.specs.declared.types.OtherType.TheVariants as X
use Rattle.kinds.specs.Types.{TypeTree, FloatingType, RefusedType}
use Rattle.ll_values.specs.declared.words.Flat.{Flat as FlatWord}
use Rattle.ll_values.specs.declared.words.Flat.TheVariants as W
use Rattle.ll_literals.specs.Chain.{◌>>=◌}
use Rattle.ll_literals.specs.Numbers.{number_of, up_to}
use Rattle.ll_lines.specs.Lines.{Text}

abbrev pub no_wraps : OverflowFlags
no_wraps = record { nuw = false; nsw = false }

-- of two operands of one type
abbrev pub binary_rows : List (Text × (OverflowFlags → Op))
binary_rows =
    (codes "add", O.Add) ∷ (codes "sub", O.Sub) ∷ (codes "mul", O.Mul) ∷ (codes "shl", O.Shl)
    ∷ (codes "udiv", λ flags. O.UDiv) ∷ (codes "sdiv", λ flags. O.SDiv) ∷ (codes "urem", λ flags. O.URem) ∷ (codes "srem", λ flags. O.SRem)
    ∷ (codes "lshr", λ flags. O.LShr) ∷ (codes "ashr", λ flags. O.AShr) ∷ (codes "and", λ flags. O.And) ∷ (codes "xor", λ flags. O.Xor) ∷ []

abbrev pub binary_op : Text → OverflowFlags → Option Op
binary_op word flags = option_map (λ (of : OverflowFlags → Op). of flags) (lookup (bytes_eq word) binary_rows)

-- of one operand and the type that it is taken to
abbrev pub cast_rows : List (Text × Op)
cast_rows = (codes "sext", O.SExt) ∷ (codes "ptrtoint", O.PtrToInt) ∷ (codes "inttoptr", O.IntToPtr) ∷ (codes "addrspacecast", O.AddrSpaceCast) ∷ []

abbrev pub cast_op : Text → Option Op
cast_op word = lookup (bytes_eq word) cast_rows

-- of three operands
abbrev pub three_rows : List (Text × Op)
three_rows = (codes "select", O.Select) ∷ []

abbrev pub three_op : Text → Option Op
three_op word = lookup (bytes_eq word) three_rows

-- the words of icmp
abbrev pub predicate_rows : List (Text × LLVMIntPredicate)
predicate_rows =
    (codes "eq", P.LLVMIntEQ) ∷ (codes "ne", P.LLVMIntNE) ∷ (codes "ugt", P.LLVMIntUGT) ∷ (codes "uge", P.LLVMIntUGE) ∷ (codes "ult", P.LLVMIntULT)
    ∷ (codes "ule", P.LLVMIntULE) ∷ (codes "sgt", P.LLVMIntSGT) ∷ (codes "sge", P.LLVMIntSGE) ∷ (codes "slt", P.LLVMIntSLT) ∷ (codes "sle", P.LLVMIntSLE) ∷ []

abbrev pub predicate_of : Text → Option LLVMIntPredicate
predicate_of word = lookup (bytes_eq word) predicate_rows

-- the alignment that digits say in bytes
abbrev pub align_said : Text → Option Align
align_said t = up_to (2 ^ 31) (number_of t) >>= align_of

-- types that are a word alone
abbrev pub flat_rows : List (Text × TypeTree)
flat_rows =
    (codes "half", FloatingType F.Half) ∷ (codes "bfloat", FloatingType F.BFloat) ∷ (codes "float", FloatingType F.Float) ∷ (codes "double", FloatingType F.Double)
    ∷ (codes "x86_fp80", RefusedType X.X86Fp80) ∷ (codes "fp128", RefusedType X.Fp128) ∷ (codes "ppc_fp128", RefusedType X.PpcFp128)
    ∷ (codes "x86_amx", RefusedType X.X86Amx) ∷ (codes "token", RefusedType X.Token) ∷ []

-- zero, undef and poison
abbrev pub fill_rows : List (Text × Fill)
fill_rows = (codes "zeroinitializer", Z.Zero) ∷ (codes "undef", Z.Undef) ∷ (codes "poison", Z.Poison) ∷ []

abbrev pub fill_of : Text → Option Fill
fill_of word = lookup (bytes_eq word) fill_rows

abbrev pub flat_tree : FlatWord → TypeTree
flat_tree (W.Floating of) = FloatingType of
flat_tree (W.Other of) = RefusedType of

abbrev pub flat_type : Text → Option TypeTree
flat_type word = lookup (bytes_eq word) flat_rows
