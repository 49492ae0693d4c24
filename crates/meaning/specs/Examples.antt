-- Small modules of both sides, on which the definitions are computed.
use Rattle.std.specs.Prelude.{ℕ, true, false, List, [], ◌∷◌, Some, None, codes}
use Rattle.llvm_core.specs.Data as L
use Rattle.llvm_core.specs.Data.{VoidType, IntType, FunctionType, NoTypes, ThenType, IntConst, Phi, Constant, Parameter, Result}
use Rattle.kinds.specs.declared.op.Op.{Op}
use Rattle.kinds.specs.declared.op.Op.TheVariants as O
use Rattle.kinds.specs.declared.op.OverflowFlags.{OverflowFlags}
use Rattle.kinds.specs.declared.types.StructLayout.TheVariants.{Unpacked}
use Rattle.kinds.specs.Structs.{Struct}
use Rattle.kinds.specs.Types.{TypeTree, TypeTrees, StructType, NamedType}
use Rattle.dialect_types.specs.Trees as T
use Rattle.const_attrs.specs.Trees as A
use Rattle.dialect_core.specs.declared.ops.Value.TheVariants as V
use Rattle.dialect_core.specs.declared.linkage.LinkageAttr.TheVariants.{ExternalLinkage}
use Rattle.dialect_core.specs.Data as D
use Rattle.meaning.specs.Terms.{Match, Term, ListOf, Expr, NoTerms, ThenTerm}
use Rattle.meaning.specs.Machine.{Item, Event}

-- ---- rows of the table

abbrev pub row : Op → List L.Operand → (targets : List ℕ) → L.Instruction
row op operands targets = L.Applied (record { op = op; written = None; operands = operands; targets = targets })

-- any overflow wraps, or a signed one gives poison
abbrev pub wraps : OverflowFlags
wraps = record { nuw = false; nsw = false }

abbrev pub no_signed : OverflowFlags
no_signed = record { nuw = false; nsw = true }

abbrev pub add : OverflowFlags → (lhs rhs : L.Operand) → L.Instruction
add flags lhs rhs = row (O.Add flags) (lhs ∷ rhs ∷ []) []

abbrev pub br : (target : ℕ) → L.Instruction
br target = row O.Br [] (target ∷ [])

abbrev pub cond_br : (condition : L.Operand) → (first second : ℕ) → L.Instruction
cond_br condition first second = row O.CondBr (condition ∷ []) (first ∷ second ∷ [])

abbrev pub ret : (value : L.Operand) → L.Instruction
ret value = row O.Ret (value ∷ []) []

abbrev pub add_op : OverflowFlags → D.Kind
add_op flags = D.RowOp (O.Add flags)

abbrev pub br_op : D.Kind
br_op = D.RowOp O.Br

abbrev pub cond_br_op : D.Kind
cond_br_op = D.RowOp O.CondBr

abbrev pub ret_op : D.Kind
ret_op = D.RowOp O.Ret

-- ---- one block

-- define i32 @f() { ret i32 7 }
abbrev pub answer_function : L.Function
answer_function = record {
  number = 0;
  name = codes "f";
  type = FunctionType (IntType 32) NoTypes false;
  space = 0;
  params = [];
  blocks = (record {
    number = 0;
    name = [];
    instructions = (record { number = 0; name = []; type = VoidType; instruction = ret (Constant (IntConst 32 7)) }) ∷ [];
  }) ∷ [];
}

abbrev pub answer : L.ModuleData
answer = record { name = []; structs = []; functions = answer_function ∷ [] }

-- the same in the dialect
abbrev pub answer_func : D.Func
answer_func = record {
  number = 1;
  name = codes "f";
  llvm_name = None;
  type = T.FunctionType (T.IntType 32) T.NoTypes false;
  linkage = ExternalLinkage;
  blocks = (record {
    number = 1;
    label = Some (codes "entry");
    args = [];
    ops =
        (record { number = 2; name = None; kind = D.ConstantOp (A.IntegerAttr (T.IntType 32) 7); operands = []; successors = []; result = Some (T.IntType 32) })
        ∷ (record { number = 3; name = None; kind = ret_op; operands = V.Result (record { 0 = 2 }) ∷ []; successors = []; result = None })
        ∷ [];
  }) ∷ [];
}

abbrev pub answer_dialect : D.DialectModule
answer_dialect = record { name = codes "_"; functions = answer_func ∷ [] }

-- define i8 @g(i8 %0) { ret i8 %0 }
abbrev pub echo : L.Function
echo = record {
  number = 0;
  name = codes "g";
  type = FunctionType (IntType 8) (ThenType (IntType 8) NoTypes) false;
  space = 0;
  params = [] ∷ [];
  blocks = (record {
    number = 0;
    name = [];
    instructions = (record { number = 0; name = []; type = VoidType; instruction = ret (Parameter 0 0) }) ∷ [];
  }) ∷ [];
}

abbrev pub echo_module : L.ModuleData
echo_module = record { name = []; structs = []; functions = echo ∷ [] }

-- the match that leaves all where it is
abbrev pub same_places : Match
same_places = record { block = λ n b. b; struct = λ s. s }

-- a list of two bytes, of types that nothing reads
abbrev pub pair_of : Term → Term → Term
pair_of a b = ListOf VoidType (ThenTerm a (ThenTerm b NoTerms))

-- { i8, i16 }
abbrev pub two_ints : TypeTrees
two_ints = ThenType (IntType 8) (ThenType (IntType 16) NoTypes)

abbrev pub both_ints : TypeTree
both_ints = StructType Unpacked two_ints

-- the elements of both_ints
abbrev pub ints_of : Term → Term → Term
ints_of a b = ListOf both_ints (ThenTerm a (ThenTerm b NoTerms))

-- %s = type { i8, i16 }, and %t, of which nothing is told
abbrev pub two_structs : List Struct
two_structs = record { name = codes "s"; body = Some (record { fields = two_ints; layout = Unpacked }) } ∷ record { name = codes "t"; body = None } ∷ []

abbrev pub told_type : TypeTree
told_type = NamedType (codes "s")

abbrev pub untold_type : TypeTree
untold_type = NamedType (codes "t")

-- define i32 @g(i32 %a, i32 %b) { %s = add nsw i32 %a, %b ; %t = add i32 %s, 5 ; ret i32 %t }
abbrev pub sums : L.Function
sums = record {
  number = 0;
  name = codes "g";
  type = FunctionType (IntType 32) (ThenType (IntType 32) (ThenType (IntType 32) NoTypes)) false;
  space = 0;
  params = codes "a" ∷ codes "b" ∷ [];
  blocks = (record {
    number = 0;
    name = [];
    instructions =
        (record { number = 0; name = codes "s"; type = IntType 32; instruction = add no_signed (Parameter 0 0) (Parameter 0 1) })
        ∷ (record { number = 1; name = codes "t"; type = IntType 32; instruction = add wraps (Result 0) (Constant (IntConst 32 5)) })
        ∷ (record { number = 2; name = []; type = VoidType; instruction = ret (Result 1) })
        ∷ [];
  }) ∷ [];
}

abbrev pub sums_module : L.ModuleData
sums_module = record { name = []; structs = []; functions = sums ∷ [] }

-- the same in the dialect, with the constant first
abbrev pub sums_func : D.Func
sums_func = record {
  number = 1;
  name = codes "g";
  llvm_name = None;
  type = T.FunctionType (T.IntType 32) (T.ThenType (T.IntType 32) (T.ThenType (T.IntType 32) T.NoTypes)) false;
  linkage = ExternalLinkage;
  blocks = (record {
    number = 1;
    label = Some (codes "entry");
    args = T.IntType 32 ∷ T.IntType 32 ∷ [];
    ops =
        (record { number = 2; name = None; kind = D.ConstantOp (A.IntegerAttr (T.IntType 32) 5); operands = []; successors = []; result = Some (T.IntType 32) })
        ∷ (record { number = 3; name = Some (codes "s"); kind = add_op no_signed; operands = V.Argument (record { 0 = 1 }) 0 ∷ V.Argument (record { 0 = 1 }) 1 ∷ []; successors = []; result = Some (T.IntType 32) })
        ∷ (record { number = 4; name = Some (codes "t"); kind = add_op wraps; operands = V.Result (record { 0 = 3 }) ∷ V.Result (record { 0 = 2 }) ∷ []; successors = []; result = Some (T.IntType 32) })
        ∷ (record { number = 5; name = None; kind = ret_op; operands = V.Result (record { 0 = 4 }) ∷ []; successors = []; result = None })
        ∷ [];
  }) ∷ [];
}

abbrev pub sums_dialect : D.DialectModule
sums_dialect = record { name = codes "_"; functions = sums_func ∷ [] }

-- the term of an addition of two integers of 32 bits
abbrev pub sum_of : OverflowFlags → Term → Term → Term
sum_of flags a b = Expr (O.Add flags) (IntType 32) (ThenTerm a (ThenTerm b NoTerms))

-- ---- more than one block

-- define i32 @swap(i32 %a, i32 %b, i1 %c) { entry: br label %loop
-- loop: %x = phi i32 [ %a, %entry ], [ %y, %loop ] ; %y = phi i32 [ %b, %entry ], [ %x, %loop ] ; br i1 %c, label %loop, label %exit
-- exit: ret i32 %x }
abbrev pub swap : L.Function
swap = record {
  number = 0;
  name = codes "swap";
  type = FunctionType (IntType 32) (ThenType (IntType 32) (ThenType (IntType 32) (ThenType (IntType 1) NoTypes))) false;
  space = 0;
  params = codes "a" ∷ codes "b" ∷ codes "c" ∷ [];
  blocks =
      (record { number = 0; name = codes "entry"; instructions = (record { number = 0; name = []; type = VoidType; instruction = br 1 }) ∷ [] })
      ∷ (record {
        number = 1;
        name = codes "loop";
        instructions =
            (record { number = 1; name = codes "x"; type = IntType 32; instruction = Phi ((Parameter 0 0, 0) ∷ (Result 2, 1) ∷ []) })
            ∷ (record { number = 2; name = codes "y"; type = IntType 32; instruction = Phi ((Parameter 0 1, 0) ∷ (Result 1, 1) ∷ []) })
            ∷ (record { number = 3; name = []; type = VoidType; instruction = cond_br (Parameter 0 2) 1 2 })
            ∷ [];
      })
      ∷ (record { number = 2; name = codes "exit"; instructions = (record { number = 4; name = []; type = VoidType; instruction = ret (Result 1) }) ∷ [] })
      ∷ [];
}

abbrev pub swap_module : L.ModuleData
swap_module = record { name = []; structs = []; functions = swap ∷ [] }

-- the same in the dialect: the loop's edge to itself passes its two arguments the other way round
abbrev pub swap_func : D.Func
swap_func = record {
  number = 1;
  name = codes "swap";
  llvm_name = None;
  type = T.FunctionType (T.IntType 32) (T.ThenType (T.IntType 32) (T.ThenType (T.IntType 32) (T.ThenType (T.IntType 1) T.NoTypes))) false;
  linkage = ExternalLinkage;
  blocks =
      (record {
        number = 1;
        label = Some (codes "entry");
        args = T.IntType 32 ∷ T.IntType 32 ∷ T.IntType 1 ∷ [];
        ops = (record { number = 2; name = None; kind = br_op; operands = []; successors = (record { block = record { 0 = 2 }; args = V.Argument (record { 0 = 1 }) 0 ∷ V.Argument (record { 0 = 1 }) 1 ∷ [] }) ∷ []; result = None }) ∷ [];
      })
      ∷ (record {
        number = 2;
        label = Some (codes "loop");
        args = T.IntType 32 ∷ T.IntType 32 ∷ [];
        ops = (record {
          number = 3;
          name = None;
          kind = cond_br_op;
          operands = V.Argument (record { 0 = 1 }) 2 ∷ [];
          successors = (record { block = record { 0 = 2 }; args = V.Argument (record { 0 = 2 }) 1 ∷ V.Argument (record { 0 = 2 }) 0 ∷ [] }) ∷ (record { block = record { 0 = 3 }; args = [] }) ∷ [];
          result = None;
        }) ∷ [];
      })
      ∷ (record {
        number = 3;
        label = Some (codes "exit");
        args = [];
        ops = (record { number = 4; name = None; kind = ret_op; operands = V.Argument (record { 0 = 2 }) 0 ∷ []; successors = []; result = None }) ∷ [];
      })
      ∷ [];
}

abbrev pub swap_dialect : D.DialectModule
swap_dialect = record { name = codes "_"; functions = swap_func ∷ [] }

-- a branch, a branch on a bit, and the return of an integer of that width
abbrev pub branched : Item
branched = Event O.Br VoidType [] []

abbrev pub tested : Term → Item
tested t = Event O.CondBr VoidType (IntType 1 ∷ []) (t ∷ [])

abbrev pub gave : (width : ℕ) → Term → Item
gave w t = Event O.Ret VoidType (IntType w ∷ []) (t ∷ [])

-- a phi without an entry for the block that the edge comes from, which is not of the form:
-- define i8 @h() { br label %next ; next: %x = phi i8 ; ret i8 %x }
abbrev pub lacking : L.Function
lacking = record {
  number = 0;
  name = codes "h";
  type = FunctionType (IntType 8) NoTypes false;
  space = 0;
  params = [];
  blocks =
      (record { number = 0; name = []; instructions = (record { number = 0; name = []; type = VoidType; instruction = br 1 }) ∷ [] })
      ∷ (record {
        number = 1;
        name = codes "next";
        instructions =
            (record { number = 1; name = codes "x"; type = IntType 8; instruction = Phi [] })
            ∷ (record { number = 2; name = []; type = VoidType; instruction = ret (Result 1) })
            ∷ [];
      })
      ∷ [];
}

abbrev pub lacking_module : L.ModuleData
lacking_module = record { name = []; structs = []; functions = lacking ∷ [] }

-- an edge that passes nothing to a block of one argument
abbrev pub lacking_func : D.Func
lacking_func = record {
  number = 1;
  name = codes "h";
  llvm_name = None;
  type = T.FunctionType (T.IntType 8) T.NoTypes false;
  linkage = ExternalLinkage;
  blocks =
      (record { number = 1; label = None; args = []; ops = (record { number = 2; name = None; kind = br_op; operands = []; successors = (record { block = record { 0 = 2 }; args = [] }) ∷ []; result = None }) ∷ [] })
      ∷ (record {
        number = 2;
        label = Some (codes "next");
        args = T.IntType 8 ∷ [];
        ops = (record { number = 3; name = None; kind = ret_op; operands = V.Argument (record { 0 = 2 }) 0 ∷ []; successors = []; result = None }) ∷ [];
      })
      ∷ [];
}

abbrev pub lacking_dialect : D.DialectModule
lacking_dialect = record { name = codes "_"; functions = lacking_func ∷ [] }
