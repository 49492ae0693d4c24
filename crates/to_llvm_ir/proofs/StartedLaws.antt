-- A function that was started, without blocks.
use Rattle.std.proofs.Common.{◌≡◌, ◌<◌, ℕ, false, List, [], Option, Some, All, length, map, slice_get, refl, sym, ap, subst, ◌∙◌, arith}
use Rattle.std.specs.Option.{option_map_or}
use Rattle.std.proofs.lemmas.List.{length_push}
use Rattle.llvm_core.specs.declared.numbers.LLVMType.{LLVMType}
use Rattle.llvm_core.specs.declared.numbers.LLVMFunction.{LLVMFunction}
use Rattle.llvm_core.specs.declared.types.LLVMTypeKind.{LLVMTypeKind}
use Rattle.llvm_core.specs.declared.code.FunctionData.{FunctionData}
use Rattle.llvm_core.specs.Module.{Module}
use Rattle.llvm_core.specs.Sound.{IsModule}
use Rattle.llvm_core.specs.Code as code
use Rattle.llvm_core.specs.Code.{code_of, with_code}
use Rattle.llvm_core.specs.Parts.{type_params}
use Rattle.llvm_core.specs.Data as L
use Rattle.llvm_core.specs.Data.{Function, Block, Placed, ModuleData, trees_of, data_of, with_function, AllBlocks, AllPlaced}
use Rattle.support.proofs.ListLaws.{slice_get-push}
use Rattle.llvm_core.proofs.FreshLemmas.{blocks_below, insts_below}
use Rattle.kinds.specs.Types.{types_list}
use Rattle.dialect_types.specs.Trees.{TypeTree, structs_of, type_trees}
use Rattle.dialect_core.specs.declared.numbers.OpRef.{OpRef}
use Rattle.dialect_core.specs.ContextData.{ContextData}
use Rattle.dialect_core.specs.Data.{DialectBlock, Func, llvm_name_of, func_in}
use Rattle.dialect_core.specs.Form.{IsFormFunc}
use Rattle.to_llvm_ir.specs.Order.{IsTaken}
use Rattle.to_llvm_ir.specs.Growth.{IsTypeOf}
use Rattle.to_llvm_ir.specs.Made.{Numbers, function_with}
use Rattle.to_llvm_ir.specs.States.{Task}
use Rattle.to_llvm_ir.specs.Functions.{IsRuledForm, IsStarted}
use Rattle.to_llvm_ir.proofs.LookupLaws.{entry_at}
use Rattle.to_llvm_ir.proofs.OpeningLaws.{numbers_below, params_are, names_are}

abbrev pub unnamed : Module → LLVMType → List (List ℕ)
unnamed m ty = map (λ _. []) (type_params m.types ty)

-- what the two calls say: the type is there, and then the function
pub record IsAdded (m0 m1 m2 : Module) (ty : LLVMType) (f : LLVMFunction) (name : List ℕ) (tree : L.TypeTree) : Type 0 where
  pub rest : m1 ≡ record m0 { types = m1.types }
  pub same : data_of m1 ≡ data_of m0
  pub sound : IsModule m1
  pub typed : IsTypeOf m1 ty tree
  pub number : f.0 ≡ length m1.functions
  pub added : m2 ≡ with_code m1 (code.with_function (code_of m1) (record { name = name; ty = ty; space = 0; params = unnamed m1 ty; blocks = [] }))
  pub made : data_of m2 ≡ with_function (data_of m1) (record { number = f.0; name = name; type = L.type_at (trees_of m1).types ty; space = 0; params = unnamed m1 ty; blocks = [] })
  pub sound_end : IsModule m2

-- the function, the next block and the next instruction
abbrev pub numbers_of : Module → LLVMFunction → List ℕ → Numbers
numbers_of m f order = record { function = f.0; block = length m.blocks; inst = length m.insts; order = order }

declared_is : (g : Func) (form : IsFormFunc g) (order : List ℕ) (m0 m1 m2 : Module) (ty : LLVMType) (f : LLVMFunction) (name : List ℕ) → IsAdded m0 m1 m2 ty f name g.type → name ≡ llvm_name_of g → data_of m2 ≡ with_function (data_of m0) (function_with g (numbers_of m1 f order) [])
declared_is g form order m0 m1 m2 ty f name h named =
    let tree : L.type_at (trees_of m1).types ty ≡ L.FunctionType form.result form.types false = h.typed.1 ∙ form.type in
    let params = params_are m1 ty form.result form.types false h.sound h.typed.0 tree in
    let args : option_map_or (λ (c : DialectBlock). c.args) (slice_get g.blocks 0) [] ≡ types_list form.types = ap (λ (o : Option DialectBlock). option_map_or (λ (c : DialectBlock). c.args) o []) (entry_at g form) ∙ form.params in
    let names : unnamed m1 ty ≡ map (λ (t : TypeTree). let none : List ℕ = [] in none) (option_map_or (λ (c : DialectBlock). c.args) (slice_get g.blocks 0) []) =
    names_are (trees_of m1).types (type_params m1.types ty) form.types params ∙ ap (λ (ts : List TypeTree). map (λ (x : TypeTree). let none : List ℕ = [] in none) ts) (sym args) in
    h.made
    ∙ ap (λ (d : ModuleData). with_function d (record { number = f.0; name = name; type = L.type_at (trees_of m1).types ty; space = 0; params = unnamed m1 ty; blocks = [] })) h.same
    ∙ ap (λ (s : List ℕ). with_function (data_of m0) (record { number = f.0; name = s; type = L.type_at (trees_of m1).types ty; space = 0; params = unnamed m1 ty; blocks = [] })) named
    ∙ ap (λ (t : L.TypeTree). with_function (data_of m0) (record { number = f.0; name = llvm_name_of g; type = t; space = 0; params = unnamed m1 ty; blocks = [] })) h.typed.1
    ∙ ap (λ (ns : List (List ℕ)). with_function (data_of m0) (record { number = f.0; name = llvm_name_of g; type = g.type; space = 0; params = ns; blocks = [] })) names

pub started : (c : ContextData) (op : OpRef) (g : Func) (form : IsRuledForm c g) (order : List ℕ) (taken : IsTaken g order) (m0 m1 m2 : Module) (ty : LLVMType) (f : LLVMFunction) (name : List ℕ) → (data_of m0).structs ≡ structs_of c.types → func_in (type_trees c.types) c op ≡ Some g → IsAdded m0 m1 m2 ty f name g.type → name ≡ llvm_name_of g → IsStarted c g order f m0 m2
started c op g form order taken m0 m1 m2 ty f name structs is h named =
    let kept : FunctionData = record { name = name; ty = ty; space = 0; params = unnamed m1 ty; blocks = [] } in
    let t : Task = record { source = g; numbers = numbers_of m1 f order; before = data_of m0 } in (
      t,
      ty,
      refl,
      refl,
      record {
        op = op;
        held = is;
        form = form.0;
        ruled = form.1;
        structs = structs;
        order = taken;
        functions = subst (λ (d : ModuleData). All (λ (x : Function). x.number < f.0) d.functions) h.same (subst (λ (n : ℕ). All (λ (x : Function). x.number < n) (data_of m1).functions) (sym h.number) (numbers_below m1));
        blocks = subst (AllBlocks (λ (b : Block). b.number < length m1.blocks)) h.same (blocks_below m1 h.sound);
        insts = subst (AllPlaced (λ (p : Placed). p.number < length m1.insts)) h.same (insts_below m1 h.sound);
      },
      record {
        is = declared_is g form.0 order m0 m1 m2 ty f name h named;
        sound = h.sound_end;
        number = refl;
        function = record {
          function = kept;
          there = ap (λ (m : Module). slice_get m.functions f.0) h.added ∙ slice_get-push m1.functions kept f.0 h.number;
          type = refl;
          typed = subst (λ (ks : List LLVMTypeKind). (ty.0 < length ks) × (L.type_at (L.type_trees ks) ty ≡ g.type)) (sym (ap (λ (m : Module). m.types) h.added)) h.typed;
        };
        block_count = ap (λ (m : Module). length m.blocks) h.added;
        inst_count = ap (λ (m : Module). length m.insts) h.added;
      },
      ap (λ (m : Module). length m.functions) h.added ∙ (let e = length_push m1.functions kept in let k = ap (λ (m : Module). length m.functions) h.rest in omega (arith, e, k)),
      refl,
    )
