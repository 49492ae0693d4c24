-- A module with one struct more, whose fields are there, is as sound, and its data have that struct last.
use Rattle.std.proofs.Common.{◌≡◌, ℕ, List, [], ◌∷◌, ◌++◌, Option, Some, ap, arith, slice_get}
use Rattle.std.specs.Prelude.{IfSome}
use Rattle.std.specs.Option.{option_map}
use Rattle.std.proofs.lemmas.List.{map-append}
use Rattle.support.proofs.ListLaws.{slice_get-kept}
use Rattle.std.proofs.lemmas.List.Elements.{All-push}
use Rattle.llvm_core.specs.declared.structs.StructFields.{StructFields}
use Rattle.llvm_core.specs.declared.structs.StructData.{StructData}
use Rattle.llvm_core.specs.Module.{Module}
use Rattle.llvm_core.specs.Sound.{AreFieldsIn, IsStructIn, IsModule}
use Rattle.llvm_core.specs.Data as d
use Rattle.llvm_core.specs.Data.{trees_of, fields_of, struct_of, data_of}
use Rattle.llvm_core.proofs.DataLemmas.{within_at}
use Rattle.llvm_core.proofs.ListedLemmas.{same_keeps}
use Rattle.llvm_core.proofs.SoundLemmas.{same_types}
use Rattle.llvm_core.proofs.GrowLemmas.{blocks_of, insts_of, function_type, inst_type, Grows, const_kept, function_kept, block_kept, inst_kept, listed_block_kept, listed_inst_kept}

same_but_structs : (m : Module) (x : StructData) → Grows m (record m { structs = m.structs ++ x ∷ [] })
same_but_structs m x = record {
  types = λ i k e. e;
  consts = λ i k e. e;
  structs = λ i s e. slice_get-kept m.structs (x ∷ []) i s e;
  function_types = same_types function_type m.functions;
  inst_types = same_types inst_type m.insts;
  type_count = omega arith;
  const_count = omega arith;
  function_count = omega arith;
  block_count = omega arith;
  inst_count = omega arith;
  params = λ f. omega arith;
  block_lists = same_keeps blocks_of m.functions;
  inst_lists = same_keeps insts_of m.blocks;
}

pub struct_added : (m : Module) (x : StructData) → IsModule m → IsStructIn m.types x → IsModule (record m { structs = m.structs ++ x ∷ [] })
struct_added m x s ok =
    let g = same_but_structs m x in
    record {
      types = s.types;
      types_fit = s.types_fit;
      types_once = s.types_once;
      consts = λ i k e. const_kept m _ g s k (s.consts i k e);
      consts_below = s.consts_below;
      consts_once = s.consts_once;
      structs = All-push (IsStructIn m.types) m.structs x s.structs ok;
      functions = λ f x e. function_kept m _ g x (s.functions f x e);
      blocks = λ b x e. block_kept m _ g x (s.blocks b x e);
      insts = λ i x e. inst_kept m _ g s x (s.insts i x e);
      listed_blocks = λ b y e. listed_block_kept m _ g b y (s.listed_blocks b y e);
      listed_insts = λ i z e. listed_inst_kept m _ g i z (s.listed_insts i z e);
      owned_blocks = s.owned_blocks;
      owned_insts = s.owned_insts;
    }

pub struct_data : (m : Module) (name : List ℕ) (body : Option StructFields)
    → data_of (record m { structs = m.structs ++ (record { name = name; body = body }) ∷ [] }) ≡ d.with_struct (data_of m) (record { name = name; body = option_map (fields_of (trees_of m).types) body })
struct_data m name body =
    ap (λ ss. let d : d.ModuleData = record (data_of m) { structs = ss } in d) (map-append (struct_of (trees_of m).types) m.structs (record { name = name; body = body } ∷ []))

-- the fields of a struct of the module are there
pub fields_there : (m : Module) (s : ℕ) (x : StructData) → IsModule m → slice_get m.structs s ≡ Some x → IfSome x.body (AreFieldsIn m.types)
fields_there m s x sound at = within_at m.structs (IsStructIn m.types) sound.structs s x at
