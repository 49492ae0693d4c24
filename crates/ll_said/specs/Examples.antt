-- Two structs and two small functions, the lines that are said of them, and the data that these mean.
use Rattle.std.specs.Prelude.{ℕ, false, List, [], ◌∷◌, Option, Some, None, codes}
use Rattle.kinds.specs.declared.op.Op.{Op}
use Rattle.kinds.specs.declared.op.Op.TheVariants as O
use Rattle.kinds.specs.declared.op.OverflowFlags.{OverflowFlags}
use Rattle.kinds.specs.declared.types.StructLayout.TheVariants as S
use Rattle.kinds.specs.Types.{TypeTree, VoidType, IntType, NamedType, FunctionType, NoTypes, ThenType}
use Rattle.llvm_core.specs.Data as D
use Rattle.ll_literals.specs.Text.{Text}
use Rattle.ll_lines.specs.Lines as L

-- ---- data

-- a struct that has a field of the next, which is opaque
abbrev structs : List D.Struct
structs = record {
  name = codes "pair";
  body = Some (record { fields = ThenType (IntType 32) (ThenType (NamedType (codes "hidden")) NoTypes); layout = S.Packed });
} ∷ record { name = codes "hidden"; body = None } ∷ []

abbrev row : Op → List D.Operand → List ℕ → D.Instruction
row op operands targets = D.Applied (record { op = op; written = None; operands = operands; targets = targets })

abbrev placed : ℕ → Text → TypeTree → D.Instruction → D.Placed
placed number name type instruction = record { number = number; name = name; type = type; instruction = instruction }

abbrev wraps : OverflowFlags
wraps = record { nuw = false; nsw = false }

-- A function that adds its parameters, one named and one not, and goes on to a second block; and one whose second block, without a
-- name, goes back to itself. Their numbers are f and g, those of their blocks a to d, those of their instructions i to n.
abbrev functions : (f g a b c d i j k l m n : ℕ) → List D.Function
functions f g a b c d i j k l m n = record {
  number = f;
  name = codes "sum";
  type = FunctionType (IntType 32) (ThenType (IntType 32) (ThenType (IntType 32) NoTypes)) false;
  space = 0;
  params = codes "x" ∷ [] ∷ [];
  blocks =
      record {
        number = a;
        name = [];
        instructions = placed i [] (IntType 32) (row (O.Add wraps) (D.Parameter f 0 ∷ D.Parameter f 1 ∷ []) []) ∷ placed j [] VoidType (row O.Br [] (b ∷ [])) ∷ [];
      } ∷ record {
        number = b;
        name = codes "done";
        instructions = placed k [] VoidType (row O.Ret (D.Result i ∷ []) []) ∷ [];
      } ∷ [];
} ∷ record {
  number = g;
  name = codes "loop";
  type = FunctionType VoidType NoTypes false;
  space = 0;
  params = [];
  blocks =
      record { number = c; name = codes "start"; instructions = placed l [] VoidType (row O.Br [] (d ∷ [])) ∷ [] } ∷ record {
        number = d;
        name = [];
        instructions =
            placed m [] (IntType 8) (D.Phi ((D.Constant (D.IntConst 8 255), c) ∷ (D.Result m, d) ∷ [])) ∷ placed n [] VoidType (row O.Br [] (d ∷ [])) ∷ [];
      } ∷ [];
} ∷ []

-- the same under numbers in no order, and in order
abbrev pub loose : D.ModuleData
loose = record { name = codes "m"; structs = structs; functions = functions 7 3 9 2 4 8 5 1 6 30 20 10 }

abbrev pub tidy : D.ModuleData
tidy = record { name = codes "m"; structs = structs; functions = functions 0 1 0 1 2 3 0 1 2 3 4 5 }

-- ---- lines

abbrev line : Option Text → L.Inst → L.Part
line result inst = L.Does (record { result = result; inst = inst })

abbrev row_line : Op → List L.Typed → List Text → L.Inst
row_line op operands targets = L.Row (record { op = op; written = None; operands = operands; targets = targets })

abbrev local : TypeTree → Text → L.Typed
local type name = record { type = type; said = L.Local name }

-- %x has a name, so that the other parameter is %0, the first block %1 and the sum %2
abbrev pub lines : L.File
lines = record {
  source = Some (codes "\"m\"");
  structs =
      record {
        name = codes "%pair";
        body = Some (record { fields = ThenType (IntType 32) (ThenType (NamedType (codes "hidden")) NoTypes); layout = S.Packed });
      } ∷ record { name = codes "%hidden"; body = None } ∷ [];
  functions =
      record {
        result = IntType 32;
        name = codes "@sum";
        params = record { type = IntType 32; name = Some (codes "%x") } ∷ record { type = IntType 32; name = Some (codes "%0") } ∷ [];
        body =
            line (Some (codes "%2")) (row_line (O.Add wraps) (local (IntType 32) (codes "%x") ∷ local (IntType 32) (codes "%0") ∷ []) [])
            ∷ line None (row_line O.Br [] (codes "%done" ∷ []))
            ∷ L.Label (codes "done:")
            ∷ line None (row_line O.Ret (local (IntType 32) (codes "%2") ∷ []) [])
            ∷ [];
      } ∷ record {
        result = VoidType;
        name = codes "@loop";
        params = [];
        body =
            L.Label (codes "start:")
            ∷ line None (row_line O.Br [] (codes "%0" ∷ []))
            ∷ L.Label (codes "0:")
            ∷ line (Some (codes "%1")) (L.Phi (IntType 8) (record { said = L.Const (L.Plain (D.IntConst 8 255)); block = codes "%start" } ∷ record { said = L.Local (codes "%1"); block = codes "%0" } ∷ []))
            ∷ line None (row_line O.Br [] (codes "%0" ∷ []))
            ∷ [];
      } ∷ [];
}
