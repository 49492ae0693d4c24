-- What the form asks beside the rules of a checked module, as a test over the lists of a module.
use Rattle.std.specs.Prelude.{ℕ, Bool, true, false, not, ◌&&◌, ◌||◌, nat_lt, List, [], ◌∷◌, slice_get, length}
use Rattle.std.specs.List.{list_all}
use Rattle.std.specs.Option.{option_map_or}
use Rattle.llvm_core.specs.declared.types.LLVMTypeKind.{LLVMTypeKind}
use Rattle.llvm_core.specs.declared.types.LLVMTypeKind.TheVariants as T
use Rattle.llvm_core.specs.declared.numbers.LLVMType.{LLVMType}
use Rattle.llvm_core.specs.declared.numbers.LLVMFunction.{LLVMFunction}
use Rattle.llvm_core.specs.declared.numbers.LLVMBasicBlock.{LLVMBasicBlock}
use Rattle.llvm_core.specs.declared.numbers.LLVMInstRef.{LLVMInstRef}
use Rattle.llvm_core.specs.declared.code.LLVMValue.{LLVMValue}
use Rattle.llvm_core.specs.declared.code.FunctionData.{FunctionData}
use Rattle.llvm_core.specs.declared.code.BlockData.{BlockData}
use Rattle.llvm_core.specs.declared.code.InstData.{InstData}
use Rattle.llvm_core.specs.Module.{Module}
use Rattle.llvm_core.specs.Names.{is_good_name}
use Rattle.llvm_core.specs.Parts.{is_kind, shape_of, value_type, operands}
use Rattle.kinds.specs.Fitting.{is_first_class}
use Rattle.llvm_core.specs.Checked.{is_void, struct_names}

-- ---- names and types

abbrev pub is_none : List ℕ → Bool
is_none [] = true
is_none (b ∷ bs) = false

abbrev pub is_good_or_none : List ℕ → Bool
is_good_or_none n = is_none n || is_good_name n

-- a type of a value
abbrev pub is_first_class_kind : LLVMTypeKind → Bool
is_first_class_kind k = is_first_class (shape_of k)

abbrev pub is_returned_kind : LLVMTypeKind → Bool
is_returned_kind k = is_void k || is_first_class_kind k

module _ (m : Module) where
  abbrev pub is_first_class_type : LLVMType → Bool
  is_first_class_type t = is_kind is_first_class_kind m.types t

  abbrev pub is_first_class_value : LLVMValue → Bool
  is_first_class_value v = option_map_or is_first_class_type (value_type m v) false

  abbrev pub is_narrow_value : LLVMValue → Bool
  is_narrow_value v = is_first_class_value v

  -- ---- code

  -- a result of no type has no name
  abbrev pub is_named_right : InstData → Bool
  is_named_right x = is_none x.name || (is_good_name x.name && not (is_kind is_void m.types x.ty))

  abbrev pub is_narrow_inst_data : InstData → Bool
  is_narrow_inst_data x = is_named_right x && is_kind is_returned_kind m.types x.ty && list_all is_narrow_value (operands x.inst)

  abbrev pub is_narrow_inst : LLVMInstRef → Bool
  is_narrow_inst i = option_map_or is_narrow_inst_data (slice_get m.insts i.0) false

  abbrev pub is_narrow_block_data : BlockData → Bool
  is_narrow_block_data x = is_good_or_none x.name && list_all is_narrow_inst x.insts

  abbrev pub is_narrow_block : LLVMBasicBlock → Bool
  is_narrow_block b = option_map_or is_narrow_block_data (slice_get m.blocks b.0) false

  abbrev pub is_narrow_signature : LLVMTypeKind → Bool
  is_narrow_signature (T.Function result params variadic) = not variadic && is_kind is_returned_kind m.types result && list_all is_first_class_type params
  is_narrow_signature T.Void = false
  is_narrow_signature (T.Int width) = false
  is_narrow_signature (T.Ptr space) = false
  is_narrow_signature (T.Floating of) = false
  is_narrow_signature (T.Other of) = false
  is_narrow_signature (T.Array count t) = false
  is_narrow_signature (T.Vector kind count t) = false
  is_narrow_signature (T.Literal fields layout) = false
  is_narrow_signature (T.Named name) = false

  -- a function has a body
  abbrev pub has_body : FunctionData → Bool
  has_body x = nat_lt 0 (length x.blocks)

  abbrev pub is_narrow_function_data : FunctionData → Bool
  is_narrow_function_data x = is_good_name x.name && is_kind is_narrow_signature m.types x.ty && list_all is_good_or_none x.params && has_body x && list_all is_narrow_block x.blocks

  abbrev pub is_narrow_function : LLVMFunction → Bool
  is_narrow_function f = option_map_or is_narrow_function_data (slice_get m.functions f.0) false

  -- ---- structs

  -- of a struct its name is asked: its fields are of types of values, as those of each struct of a module
  abbrev pub is_narrow : Bool
  is_narrow = list_all is_narrow_function_data m.functions && list_all is_good_name (struct_names m)
