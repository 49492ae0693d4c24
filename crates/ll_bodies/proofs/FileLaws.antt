-- A file goes into a module without structs and functions.
use Rattle.std.proofs.Common.{◌≡◌, ◌≤◌, ◌++◌, ℕ, List, [], ◌∷◌, Option, Some, None, length, slice_get, map, All, refl, ap, sym, ◌∙◌, arith}
use Rattle.std.proofs.lemmas.List.Elements.{All-weaker}
use Rattle.std.specs.Option.{option_map}
use Rattle.llvm_core.specs.Module.{Module}
use Rattle.llvm_core.specs.Sound.{IsModule}
use Rattle.llvm_core.specs.Data as D
use Rattle.llvm_core.specs.Data.{Struct, data_of, trees_of}
use Rattle.ll_lines.specs.declared.lines.StructLine.{StructLine}
use Rattle.ll_lines.specs.declared.lines.Function.{Function}
use Rattle.ll_lines.specs.declared.lines.File.{File}
use Rattle.ll_lines.specs.declared.lines.ConstLine.{ConstLine}
use Rattle.ll_lines.specs.Lines as L
use Rattle.ll_lines.specs.Views.{struct_view, file_view, text_of, IsTableIn, IsFunctionIn, IsFileIn}
use Rattle.ll_literals.specs.Chain.{◌>>=◌}
use Rattle.ll_bodies.specs.Meaning.{all_of, struct_data, functions_data, source_name, file_data}
use Rattle.ll_bodies.specs.TableViews.{AddsConsts}
use Rattle.ll_bodies.specs.AddingViews.{AddsFunctions, function_over, all_over}
use Rattle.ll_bodies.specs.StructViews.{AddsStructs}
use Rattle.ll_bodies.proofs.JoinLaws.{function_total}
use Rattle.ll_bodies.proofs.AddedLaws.{keeps_consts}
use Rattle.ll_bodies.proofs.ViewLaws.{map_same, function_same, table_in, function_in, table_kept, function_kept}

none_there : {X : Type 0} (xs : List X) → ((i : ℕ) (x : X) → slice_get xs i ≡ Some x → ⊥) → length xs ≡ 0
none_there [] h = refl
none_there (x ∷ xs) h = absurd (h 0 x refl)

-- a module without functions has no blocks and no instructions
module _ (m : Module) (s : IsModule m) (empty : (data_of m).functions ≡ []) where
  no_functions : length m.functions ≡ 0
  no_functions = sym (function_total m) ∙ ap (λ (fs : List D.Function). length fs) empty

  no_blocks : length m.blocks ≡ 0
  no_blocks = none_there m.blocks (λ i x h. let lt = (s.blocks i x h).function in absurd (omega (arith, lt, no_functions)))

  no_insts : length m.insts ≡ 0
  no_insts = none_there m.insts (λ i x h. let lt = (s.insts i x h).block in absurd (omega (arith, lt, no_blocks)))

  -- its functions have the numbers from 0 on
  pub from_none : (structs : List Struct) (ys : List L.Function) → functions_data structs 0 0 0 ys ≡ functions_data structs (length m.functions) (length m.blocks) (length m.insts) ys
  from_none structs ys =
      ap (λ (k : ℕ). functions_data structs k 0 0 ys) (sym no_functions)
      ∙ ap (λ (k : ℕ). functions_data structs (length m.functions) k 0 ys) (sym no_blocks)
      ∙ ap (λ (k : ℕ). functions_data structs (length m.functions) (length m.blocks) k ys) (sym no_insts)

-- the functions and the table of a file are in the module that has its structs, and in the one that has its constants too
module _ (said : File) (m n k : Module) (name : List ℕ) (is : n ≡ record m { name = name }) (rest : k ≡ record n { structs = k.structs }) (inside : IsFileIn m said) where
  has : k ≡ record m { name = name; structs = k.structs }
  has = rest ∙ ap (λ (z : Module). record z { structs = k.structs }) is

  same_types : length m.types ≤ length k.types
  same_types = let e : length k.types ≡ length m.types = ap (λ (z : Module). length z.types) has in omega (arith, e)

  same_consts : length m.consts ≤ length k.consts
  same_consts = let e : length k.consts ≡ length m.consts = ap (λ (z : Module). length z.consts) has in omega (arith, e)

  pub table_before : IsTableIn k said.consts.items
  table_before = table_in m k same_types same_consts said.consts.items inside.table

  pub functions_before : All (IsFunctionIn k (length said.consts.items)) said.functions.items
  functions_before = All-weaker (IsFunctionIn m (length said.consts.items)) (IsFunctionIn k (length said.consts.items)) (function_in m k same_types same_consts (length said.consts.items)) said.functions.items inside.functions

  pub table_behind : (j : Module) → AddsConsts k j → IsTableIn j said.consts.items
  table_behind j c = table_kept k j (keeps_consts k j c) said.consts.items table_before

  pub functions_behind : (j : Module) → AddsConsts k j → All (IsFunctionIn j (length said.consts.items)) said.functions.items
  functions_behind j c = All-weaker (IsFunctionIn k (length said.consts.items)) (IsFunctionIn j (length said.consts.items)) (function_kept k j (keeps_consts k j c) (length said.consts.items)) said.functions.items functions_before

-- ---- a module that got the name, the structs and the constants of the file

-- m before, n with the name, k with the structs, j with the constants
module _ (bytes : List ℕ) (said : File) (m n k : Module) (name : List ℕ) (ss : List StructLine) (is : n ≡ record m { name = name }) (same_structs : ss ≡ said.structs.items) where
  abbrev lines : List ConstLine
  lines = said.consts.items

  abbrev meant_structs : Option (List Struct)
  meant_structs = all_of struct_data (map (struct_view bytes (trees_of n)) ss)

  abbrev functions_of : List Struct → Option (List D.Function)
  functions_of us = functions_data us 0 0 0 (map (function_over bytes lines m) said.functions.items)

  abbrev file_of : List Struct → List D.Function → D.ModuleData
  file_of us fs = record { name = name; structs = us; functions = fs }

  structs_are : all_of struct_data (map (struct_view bytes (trees_of m)) said.structs.items) ≡ meant_structs
  structs_are =
      ap (λ (z : Module). all_of struct_data (map (struct_view bytes (trees_of z)) said.structs.items)) (sym is)
      ∙ ap (λ (ys : List StructLine). all_of struct_data (map (struct_view bytes (trees_of n)) ys)) (sym same_structs)

  module _ (called : source_name (option_map (text_of bytes) said.source) ≡ Some name) where
    file_is : file_data (file_view bytes (trees_of m) said) ≡ (meant_structs >>= λ us. functions_of us >>= λ fs. Some (file_of us fs))
    file_is =
        ap (λ o. o >>= λ nm. all_of struct_data (map (struct_view bytes (trees_of m)) said.structs.items) >>= λ us. functions_of us >>= λ fs. Some (record { name = nm; structs = us; functions = fs })) called
        ∙ ap (λ o. o >>= λ us. functions_of us >>= λ fs. Some (file_of us fs)) structs_are

    -- no structs, no file
    pub structs_unmade : meant_structs ≡ None → file_data (file_view bytes (trees_of m) said) ≡ None
    structs_unmade h = file_is ∙ ap (λ o. o >>= λ us. functions_of us >>= λ fs. Some (file_of us fs)) h

    module _ (given : data_of n ≡ record (data_of m) { name = name }) (empty : ((data_of m).structs ≡ []) × ((data_of m).functions ≡ [])) (a : AddsStructs bytes ss n k)
        (inside : IsFileIn m said) (j : Module) (c : AddsConsts k j) (sound : IsModule j) (xs : List Function) (same_functions : xs ≡ said.functions.items) where
      abbrev meant : Option (List D.Function)
      meant = all_over bytes lines j xs

      still : data_of j ≡ file_of a.made []
      still =
          c.same ∙ a.given ∙ ap (λ (z : D.ModuleData). record z { structs = z.structs ++ a.made }) given
          ∙ ap (λ (us : List Struct). record (data_of m) { name = name; structs = us ++ a.made }) empty.0
          ∙ ap (λ (fs : List D.Function). file_of a.made fs) empty.1

      -- what is in the module before is in the one with the structs
      renamed : k ≡ record m { name = name; structs = k.structs }
      renamed = a.rest ∙ ap (λ (z : Module). record z { structs = k.structs }) is

      over_k : (f : Function) → function_over bytes lines k f ≡ function_over bytes lines m f
      over_k f = ap (λ (z : Module). function_over bytes lines z f) renamed

      table_k : IsTableIn k lines
      table_k = table_before said m n k name is a.rest inside

      functions_k : All (IsFunctionIn k (length lines)) said.functions.items
      functions_k = functions_before said m n k name is a.rest inside

      over_j : map (function_over bytes lines j) said.functions.items ≡ map (function_over bytes lines m) said.functions.items
      over_j = map_same (IsFunctionIn k (length lines)) (function_over bytes lines j) (function_over bytes lines m)
          (λ f h. function_same bytes k j (keeps_consts k j c) a.sound lines table_k (length lines) f h ∙ over_k f) said.functions.items functions_k

      made_by : functions_of a.made ≡ meant
      made_by =
          ap (λ (ys : List L.Function). functions_data a.made 0 0 0 ys) (sym over_j)
          ∙ ap (λ (fs : List Function). functions_data a.made 0 0 0 (map (function_over bytes lines j) fs)) (sym same_functions)
          ∙ from_none j sound (ap (λ (z : D.ModuleData). z.functions) still) a.made (map (function_over bytes lines j) xs)
          ∙ ap (λ (us : List Struct). functions_data us (length j.functions) (length j.blocks) (length j.insts) (map (function_over bytes lines j) xs)) (sym (ap (λ (z : D.ModuleData). z.structs) still))

      with_structs : file_data (file_view bytes (trees_of m) said) ≡ (meant >>= λ fs. Some (file_of a.made fs))
      with_structs =
          file_is
          ∙ ap (λ o. o >>= λ us. functions_of us >>= λ fs. Some (file_of us fs)) a.is
          ∙ ap (λ o. o >>= λ fs. Some (file_of a.made fs)) made_by

      -- the structs and the functions of the file are all that it has
      pub file_made : (new : Module) → AddsFunctions bytes lines xs j new → file_data (file_view bytes (trees_of m) said) ≡ Some (data_of new)
      file_made new b =
          let d : data_of new ≡ file_of a.made b.made = b.given ∙ ap (λ (z : D.ModuleData). record z { functions = z.functions ++ b.made }) still in
          with_structs ∙ ap (λ o. o >>= λ fs. Some (file_of a.made fs)) b.is ∙ ap (λ (z : D.ModuleData). Some z) (sym d)

      pub file_unmade : meant ≡ None → file_data (file_view bytes (trees_of m) said) ≡ None
      file_unmade h = with_structs ∙ ap (λ o. o >>= λ fs. Some (file_of a.made fs)) h
