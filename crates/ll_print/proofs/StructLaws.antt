-- Structs with a name, printed one after another.
use Rattle.std.proofs.Common.{◌≡◌, ℕ, ◌≤◌, codes, List, [], ◌∷◌, ◌++◌, length, map, take, slice_get, Option, Some, append_assoc, refl, ap, sym, ◌∙◌}
use Rattle.std.specs.List.{flat_map}
use Rattle.std.specs.Option.{option_map}
use Rattle.llvm_core.specs.declared.numbers.LLVMStruct.{LLVMStruct}
use Rattle.llvm_core.specs.declared.structs.StructFields.{StructFields}
use Rattle.llvm_core.specs.declared.structs.StructData.{StructData}
use Rattle.llvm_core.specs.Module.{Module}
use Rattle.llvm_core.specs.Data.{struct_of, fields_of, trees_of, data_of}
use Rattle.ll_literals.specs.Names.{local, printed_name}
use Rattle.ll_print.specs.Printing.{body_text, struct_text, structs_text}
use Rattle.ll_print.specs.Parts.{no_struct, struct_in, blank_text}
use Rattle.ll_print.proofs.PartLaws.{read}
use Rattle.ll_print.proofs.TextLaws.{items_all}

-- the line of a struct
abbrev pub line_of : Module → StructData → List ℕ
line_of m x = struct_text (struct_of (trees_of m).types x)

-- the pieces of a line, one after another
pieces : (o0 o1 o2 o3 o4 name body : List ℕ) → o1 ≡ o0 ++ name → o2 ≡ o1 ++ codes " = type " → o3 ≡ o2 ++ body → o4 ≡ o3 ++ codes "\n" → o4 ≡ o0 ++ (name ++ codes " = type " ++ body ++ codes "\n")
pieces o0 o1 o2 o3 o4 name body e1 e2 e3 e4 = rw (e4, e3, e2, e1) (simp append_assoc)

pub line_put : (m : Module) (s : LLVMStruct) (name o0 o1 o2 o3 o4 : List ℕ) → option_map (λ (x : StructData). x.name) (slice_get m.structs s.0) ≡ Some name
    → o1 ≡ o0 ++ local (printed_name name) → o2 ≡ o1 ++ codes " = type " → o3 ≡ o2 ++ body_text (struct_in m s).body → o4 ≡ o3 ++ codes "\n" → o4 ≡ o0 ++ struct_text (struct_in m s)
line_put m s name o0 o1 o2 o3 o4 named e1 e2 e3 e4 =
    let x = struct_in m s in
    let name_is : name ≡ x.name = sym (read (λ (x : StructData). x.name) m.structs s.0 no_struct name named) in
    pieces o0 o1 o2 o3 o4 (local (printed_name x.name)) (body_text x.body) (e1 ∙ ap (λ (t : List ℕ). o0 ++ local (printed_name t)) name_is) e2 e3 e4

-- what is in a struct, by what is read of it
pub body_read : (m : Module) (s : LLVMStruct) (b : Option StructFields) → option_map (λ (x : StructData). x.body) (slice_get m.structs s.0) ≡ Some b → body_text (struct_in m s).body ≡ body_text (option_map (fields_of (trees_of m).types) b)
body_read m s b has = ap (λ (b : Option StructFields). body_text (option_map (fields_of (trees_of m).types) b)) (read (λ (x : StructData). x.body) m.structs s.0 no_struct b has)

each_line : (m : Module) (xs : List StructData) → flat_map (line_of m) xs ≡ flat_map struct_text (map (struct_of (trees_of m).types) xs)
each_line m [] = refl
each_line m (x ∷ xs) = ap (λ (t : List ℕ). line_of m x ++ t) (each_line m xs)

lines_are : (m : Module) (xs : List StructData) → blank_text (length xs) ++ flat_map (line_of m) xs ≡ structs_text (map (struct_of (trees_of m).types) xs)
lines_are m [] = refl
lines_are m (x ∷ xs) = ap (λ (t : List ℕ). codes "\n" ++ (line_of m x ++ t)) (each_line m xs)

-- all of them
pub lines_all : (m : Module) (i : ℕ) (old new : List ℕ) → length m.structs ≤ i → new ≡ (old ++ blank_text (length m.structs)) ++ flat_map (line_of m) (take i m.structs) → new ≡ old ++ structs_text (data_of m).structs
lines_all m i old new all e =
    items_all (line_of m) m.structs i (old ++ blank_text (length m.structs)) new all e ∙ append_assoc old (blank_text (length m.structs)) (flat_map (line_of m) m.structs) ∙ ap (λ (t : List ℕ). old ++ t) (lines_are m m.structs)
