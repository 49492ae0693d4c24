-- Small functions whose constants do not stand first, on which the definitions are computed: one whose constant is set
-- in a loop and read behind it too, where a run may come that never sets it, and one whose constant stands further down.
use Rattle.std.specs.Prelude.{false, [], ◌∷◌, Some, None, codes}
use Rattle.llvm_core.specs.Data as L
use Rattle.llvm_core.specs.Data.{VoidType, IntType, FunctionType, NoTypes, ThenType, IntConst, Phi, Constant, Parameter, Result}
use Rattle.dialect_types.specs.Trees as T
use Rattle.const_attrs.specs.Trees as A
use Rattle.dialect_core.specs.declared.ops.Value.TheVariants as V
use Rattle.dialect_core.specs.declared.linkage.LinkageAttr.TheVariants.{ExternalLinkage}
use Rattle.dialect_core.specs.Data as D
use Rattle.meaning.specs.Terms.{Term, Int}
use Rattle.meaning.specs.Examples.{wraps, no_signed, add, cond_br, ret, add_op, cond_br_op, ret_op, sum_of}

-- ---- a constant in a loop

-- define i32 @late(i32 %a, i1 %c) { entry: br i1 %c, label %loop, label %exit
-- loop: %x = phi i32 [ %a, %entry ], [ %y, %loop ] ; %y = add i32 %x, 1 ; br i1 %c, label %loop, label %exit
-- exit: %z = phi i32 [ %a, %entry ], [ %y, %loop ] ; %s = add i32 %z, 1 ; ret i32 %s }
abbrev pub late : L.Function
late = record {
  number = 0;
  name = codes "late";
  type = FunctionType (IntType 32) (ThenType (IntType 32) (ThenType (IntType 1) NoTypes)) false;
  space = 0;
  params = codes "a" ∷ codes "c" ∷ [];
  blocks =
      (record { number = 0; name = codes "entry"; instructions = (record { number = 0; name = []; type = VoidType; instruction = cond_br (Parameter 0 1) 1 2 }) ∷ [] })
      ∷ (record {
        number = 1;
        name = codes "loop";
        instructions =
            (record { number = 1; name = codes "x"; type = IntType 32; instruction = Phi ((Parameter 0 0, 0) ∷ (Result 2, 1) ∷ []) })
            ∷ (record { number = 2; name = codes "y"; type = IntType 32; instruction = add wraps (Result 1) (Constant (IntConst 32 1)) })
            ∷ (record { number = 3; name = []; type = VoidType; instruction = cond_br (Parameter 0 1) 1 2 })
            ∷ [];
      })
      ∷ (record {
        number = 2;
        name = codes "exit";
        instructions =
            (record { number = 4; name = codes "z"; type = IntType 32; instruction = Phi ((Parameter 0 0, 0) ∷ (Result 2, 1) ∷ []) })
            ∷ (record { number = 5; name = codes "s"; type = IntType 32; instruction = add wraps (Result 4) (Constant (IntConst 32 1)) })
            ∷ (record { number = 6; name = []; type = VoidType; instruction = ret (Result 5) })
            ∷ [];
      })
      ∷ [];
}

abbrev pub late_module : L.ModuleData
late_module = record { name = []; structs = []; functions = late ∷ [] }

-- the same in the dialect: the loop sets the constant
abbrev pub late_func : D.Func
late_func = record {
  number = 1;
  name = codes "late";
  llvm_name = None;
  type = T.FunctionType (T.IntType 32) (T.ThenType (T.IntType 32) (T.ThenType (T.IntType 1) T.NoTypes)) false;
  linkage = ExternalLinkage;
  blocks =
      (record {
        number = 1;
        label = Some (codes "entry");
        args = T.IntType 32 ∷ T.IntType 1 ∷ [];
        ops = (record {
          number = 2;
          name = None;
          kind = cond_br_op;
          operands = V.Argument (record { 0 = 1 }) 1 ∷ [];
          successors = (record { block = record { 0 = 2 }; args = V.Argument (record { 0 = 1 }) 0 ∷ [] }) ∷ (record { block = record { 0 = 3 }; args = V.Argument (record { 0 = 1 }) 0 ∷ [] }) ∷ [];
          result = None;
        }) ∷ [];
      })
      ∷ (record {
        number = 2;
        label = Some (codes "loop");
        args = T.IntType 32 ∷ [];
        ops =
            (record { number = 3; name = None; kind = D.ConstantOp (A.IntegerAttr (T.IntType 32) 1); operands = []; successors = []; result = Some (T.IntType 32) })
            ∷ (record { number = 4; name = Some (codes "y"); kind = add_op wraps; operands = V.Argument (record { 0 = 2 }) 0 ∷ V.Result (record { 0 = 3 }) ∷ []; successors = []; result = Some (T.IntType 32) })
            ∷ (record {
              number = 5;
              name = None;
              kind = cond_br_op;
              operands = V.Argument (record { 0 = 1 }) 1 ∷ [];
              successors = (record { block = record { 0 = 2 }; args = V.Result (record { 0 = 4 }) ∷ [] }) ∷ (record { block = record { 0 = 3 }; args = V.Result (record { 0 = 4 }) ∷ [] }) ∷ [];
              result = None;
            })
            ∷ [];
      })
      ∷ (record {
        number = 3;
        label = Some (codes "exit");
        args = T.IntType 32 ∷ [];
        ops =
            (record { number = 6; name = Some (codes "s"); kind = add_op wraps; operands = V.Argument (record { 0 = 3 }) 0 ∷ V.Result (record { 0 = 3 }) ∷ []; successors = []; result = Some (T.IntType 32) })
            ∷ (record { number = 7; name = None; kind = ret_op; operands = V.Result (record { 0 = 6 }) ∷ []; successors = []; result = None })
            ∷ [];
      })
      ∷ [];
}

abbrev pub late_dialect : D.DialectModule
late_dialect = record { name = codes "_"; functions = late_func ∷ [] }

-- one more, and the sum with another term
abbrev pub plus : Term → Term → Term
plus u t = sum_of wraps t u

abbrev pub plus_one : Term → Term
plus_one t = plus (Int 32 1) t

-- ---- a constant in the first block, behind what does not read it

-- the sums of the examples, with the constant between them
abbrev pub mixed_func : D.Func
mixed_func = record {
  number = 1;
  name = codes "g";
  llvm_name = None;
  type = T.FunctionType (T.IntType 32) (T.ThenType (T.IntType 32) (T.ThenType (T.IntType 32) T.NoTypes)) false;
  linkage = ExternalLinkage;
  blocks = (record {
    number = 1;
    label = Some (codes "entry");
    args = T.IntType 32 ∷ T.IntType 32 ∷ [];
    ops =
        (record { number = 3; name = Some (codes "s"); kind = add_op no_signed; operands = V.Argument (record { 0 = 1 }) 0 ∷ V.Argument (record { 0 = 1 }) 1 ∷ []; successors = []; result = Some (T.IntType 32) })
        ∷ (record { number = 2; name = None; kind = D.ConstantOp (A.IntegerAttr (T.IntType 32) 5); operands = []; successors = []; result = Some (T.IntType 32) })
        ∷ (record { number = 4; name = Some (codes "t"); kind = add_op wraps; operands = V.Result (record { 0 = 3 }) ∷ V.Result (record { 0 = 2 }) ∷ []; successors = []; result = Some (T.IntType 32) })
        ∷ (record { number = 5; name = None; kind = ret_op; operands = V.Result (record { 0 = 4 }) ∷ []; successors = []; result = None })
        ∷ [];
  }) ∷ [];
}

abbrev pub mixed_dialect : D.DialectModule
mixed_dialect = record { name = codes "_"; functions = mixed_func ∷ [] }
