-- What the text of numbered data says means the data.
use Rattle.std.proofs.Common.{◌≡◌, ℕ, suc, ◌+◌, List, [], ◌∷◌, length, map, true, Some, All, refl, ap}
use Rattle.std.specs.List.{AllByRecursion}
use Rattle.std.specs.Str.{is_utf8}
use Rattle.support.specs.Interned.{IsDistinctList}
use Rattle.support.proofs.ListLaws.{all_from}
use Rattle.kinds.specs.Structs.{IsFormStruct}
use Rattle.llvm_core.specs.Data.{Function, Struct, ModuleData}
use Rattle.llvm_core.specs.Form.{IsFormFunction, HasMadeOperands, IsForm, local_names, HasDistinctNames}
use Rattle.llvm_core.proofs.DataLemmas.{within_at}
use Rattle.ll_literals.specs.Chain.{◌>>=◌}
use Rattle.ll_literals.proofs.SymbolLaws.{symbol_says}
use Rattle.ll_bodies.specs.Meaning.{all_of, count_insts, struct_data, functions_data, file_data}
use Rattle.ll_said.specs.Said.{function_of, struct_of, file_of}
use Rattle.ll_said.specs.Sayable.{HasFewUnnamed, IsSayable, IsSayableModule, IsNumbered, blocks_in, placed_in}
use Rattle.ll_said.proofs.AllLaws.{all_at, all_of-map}
use Rattle.ll_said.proofs.CountingLaws.{AreCounted, counted, counted_functions, function_number, block_number, placed_number}
use Rattle.ll_said.proofs.FunctionLaws.{function_says}
use Rattle.ll_said.proofs.NameLaws.{source_says}

struct_says : (s : Struct) → IsFormStruct s → struct_data (struct_of s) ≡ Some s
struct_says s h = ap (λ o. o >>= λ name. let t : Struct = record { name = name; body = s.body } in Some t) (symbol_says 37 s.name h.name)

structs_say : (ss : List Struct) → All IsFormStruct ss → all_of struct_data (map struct_of ss) ≡ Some ss
structs_say ss h = all_of-map struct_data struct_of ss (λ i s at. struct_says s (within_at ss IsFormStruct h i s at))

functions_say : (structs : List Struct) (f b n : ℕ) (xs : List Function) → AllByRecursion IsSayable xs → AllByRecursion (HasMadeOperands structs) xs → AreCounted f b n xs → functions_data structs f b n (map (function_of structs) xs) ≡ Some xs
functions_say structs f b n [] h made g = refl
functions_say structs f b n (x ∷ xs) h made g = rw (function_says structs f b n x h.0 made.0 g.0 g.1, functions_say structs (suc f) (b + length x.blocks) (n + count_insts x.blocks) xs h.1 made.1 g.2) refl

-- numbered data are numbered function by function
pub counts_of : (d : ModuleData) → IsNumbered d → AreCounted 0 0 0 d.functions
counts_of d g = counted_functions 0 0 0 d.functions (counted function_number 0 d.functions g.functions) (counted block_number 0 (blocks_in d) g.blocks) (counted placed_number 0 (placed_in d) g.instructions)

pub file_says : (d : ModuleData) → IsSayableModule d → IsNumbered d → file_data (file_of d) ≡ Some d
file_says d h g = rw (source_says d.name h.name, structs_say d.structs h.structs, functions_say d.structs 0 0 0 d.functions each made (counts_of d g)) refl
  where
    each : AllByRecursion IsSayable d.functions
    each = all_at IsSayable d.functions (λ i x at. within_at d.functions IsSayable h.functions i x at)

    made : AllByRecursion (HasMadeOperands d.structs) d.functions
    made = all_at (HasMadeOperands d.structs) d.functions (λ i x at. within_at d.functions (HasMadeOperands d.structs) h.elements i x at)

pub sayable_from : (d : ModuleData) → IsForm d → HasDistinctNames d → All HasFewUnnamed d.functions → is_utf8 d.name ≡ true → IsSayableModule d
sayable_from d form names few name = record {
  functions = all_from IsSayable d.functions (λ i x at. record {
    form = within_at d.functions IsFormFunction form.functions i x at;
    names = within_at d.functions (λ (f : Function). IsDistinctList (local_names f)) names.locals i x at;
    few = within_at d.functions HasFewUnnamed few i x at;
  });
  structs = form.structs;
  struct_names = names.structs;
  nested = form.nested;
  elements = form.elements;
  name = name;
}
