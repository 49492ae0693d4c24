-- The numbered twin of data: it is numbered, of the form where the data are, and has their text.
use Rattle.std.proofs.Common.{◌≡◌, ℕ, zero, suc, ◌+◌, ◌≤◌, ◌<◌, ◌^◌, nat_eq, List, [], ◌∷◌, ◌++◌, length, map, slice_get, Some, All, refl, ap, sym, ◌∙◌, subst, eq-eqb, ne_eqb, arith}
use Rattle.std.specs.List.{position_or_len, flat_map, AllByRecursion}
use Rattle.std.proofs.lemmas.List.{length-map, map-append}
use Rattle.std.proofs.lemmas.List.Elements.{All-from_recursion}
use Rattle.std.proofs.lemmas.Option.{same_Some}
use Rattle.support.specs.Interned.{IsDistinctList}
use Rattle.support.proofs.ListLaws.{distinct_rest}
use Rattle.kinds.specs.Structs.{IsNested}
use Rattle.llvm_core.specs.Data.{TypeTree, NamedType, Placed, Block, Function, Struct, ModuleData, placed_in}
use Rattle.llvm_core.specs.Form.{IsFormFunction, IsForm, constant_types, types_in, local_names, HasMadeOperands, HasDistinctNames, IsFewIn, HasFew}
use Rattle.llvm_core.proofs.DataLemmas.{within_at}
use Rattle.ll_literals.specs.Text.{Text}
use Rattle.ll_literals.specs.Numbers.{number_limit}
use Rattle.ll_lines.specs.Lines as L
use Rattle.ll_bodies.specs.Meaning.{count_insts, file_data}
use Rattle.ll_said.specs.Naming.{unnamed_in}
use Rattle.ll_said.specs.Numbered.{Numbers, placed_to, block_to, function_to, numbers_from, functions_from, numbered}
use Rattle.ll_said.specs.Said.{function_of, struct_of, source_of, file_of}
use Rattle.ll_said.specs.Sayable.{IsSayable, IsSayableModule, IsNumbered}
use Rattle.ll_said.proofs.AlikeEdges.{mapped_at}
use Rattle.ll_said.proofs.AlikeForm.{function_alike}
use Rattle.ll_said.proofs.AlikeLists.{locals_alike, few_alike}
use Rattle.ll_said.proofs.AlikeSaid.{function_same, unnamed_count}
use Rattle.ll_said.proofs.AllLaws.{all_at}
use Rattle.ll_said.proofs.ConstantLaws.{twins_constants, twin_made}
use Rattle.ll_said.proofs.CountingLaws.{IsCounted, AreCounted, placed_number, block_number, count_placed, counted_map, counted_distinct, counted_blocks, counted_through, uncounted}
use Rattle.ll_said.proofs.FileLaws.{file_says}
use Rattle.ll_said.proofs.PairLaws.{FunctionsAlike, block_numbers, result_numbers}
use Rattle.ll_said.proofs.RenumberLaws.{alike_to, placed_mapped}

-- ---- one function

-- a number of a list stands at its place
pub position_at : (ns : List ℕ) → IsDistinctList ns → (i n : ℕ) → slice_get ns i ≡ Some n → position_or_len (nat_eq n) ns ≡ i
position_at [] d i n at = absurd cc
position_at (m ∷ ns) d zero n at = rw (eq-eqb n m (sym (same_Some m n at))) refl
position_at (m ∷ ns) d (suc i) n at =
    let apart = ne_eqb n m (λ e. let k : suc i ≡ 0 = d (suc i) 0 n at (ap (λ (j : ℕ). Some j) (sym e)) in absurd (omega (arith, k))) in
    let o = position_at ns (distinct_rest m ns d) i n at in
    rw apart (omega (arith, o))

module _ (f b n : ℕ) (x : Function) (form : IsFormFunction x) where
  abbrev to : Numbers
  to = numbers_from f b n x

  abbrev twin : Function
  twin = function_to to x

  blocks_counted : IsCounted block_number b twin.blocks
  blocks_counted = counted_map block_number (block_to to) b x.blocks (λ i c at. ap (λ (k : ℕ). b + k) (position_at (block_numbers x) form.block_numbers i c.number (mapped_at (λ (d : Block). d.number) x.blocks i c at)))

  placed_counted : IsCounted placed_number n (placed_in twin)
  placed_counted = subst (λ (ps : List Placed). IsCounted placed_number n ps) (sym (placed_mapped to x.blocks))
      (counted_map placed_number (placed_to to) n (placed_in x) (λ i p at. ap (λ (k : ℕ). n + k) (position_at (result_numbers x) form.numbers i p.number (mapped_at (λ (q : Placed). q.number) (placed_in x) i p at))))

  blocks_distinct : IsDistinctList (block_numbers twin)
  blocks_distinct = counted_distinct block_number b twin.blocks blocks_counted

  placed_distinct : IsDistinctList (result_numbers twin)
  placed_distinct = counted_distinct placed_number n (placed_in twin) placed_counted

  twin_alike : FunctionsAlike x twin
  twin_alike = alike_to to x form

  twin_said : (structs : List Struct) → function_of structs twin ≡ function_of structs x
  twin_said structs = sym (function_same x twin twin_alike form.block_numbers blocks_distinct form.numbers placed_distinct structs)

  twin_form : IsFormFunction twin
  twin_form = function_alike x twin twin_alike form.block_numbers blocks_distinct form.numbers placed_distinct form

  twin_names : local_names x ≡ local_names twin
  twin_names = locals_alike x twin twin_alike

  twin_few : length (unnamed_in x) ≡ length (unnamed_in twin)
  twin_few = unnamed_count x twin twin_alike form.block_numbers blocks_distinct form.numbers placed_distinct

  -- as many instructions
  twin_count : count_insts twin.blocks ≡ length (placed_in x)
  twin_count = sym (count_placed twin.blocks) ∙ ap (λ (ps : List Placed). length ps) (placed_mapped to x.blocks) ∙ length-map (placed_in x) (placed_to to)

twin_sayable : (f b n : ℕ) (x : Function) → IsSayable x → IsSayable (function_to (numbers_from f b n x) x)
twin_sayable f b n x h = record {
  form = twin_form f b n x h.form;
  names = subst (λ (ns : List Text). IsDistinctList ns) (twin_names f b n x h.form) h.names;
  few = subst (λ (k : ℕ). k ≤ number_limit) (twin_few f b n x h.form) h.few;
}

-- ---- functions one after another

twins_counted : (f b n : ℕ) (xs : List Function) → AllByRecursion IsFormFunction xs → AreCounted f b n (functions_from f b n xs)
twins_counted f b n [] h = tt
twins_counted f b n (x ∷ xs) h =
    let rest = functions_from (suc f) (b + length x.blocks) (n + length (placed_in x)) xs in
    let twin_blocks = map (block_to (numbers_from f b n x)) x.blocks in
    let later = twins_counted (suc f) (b + length x.blocks) (n + length (placed_in x)) xs h.1 in
    let blocks : AreCounted (suc f) (b + length twin_blocks) (n + length (placed_in x)) rest = subst (λ (k : ℕ). AreCounted (suc f) (b + k) (n + length (placed_in x)) rest) (sym (length-map x.blocks (block_to (numbers_from f b n x)))) later in (
      refl,
      counted_blocks b n twin_blocks (blocks_counted f b n x h.0) (placed_counted f b n x h.0),
      subst (λ (k : ℕ). AreCounted (suc f) (b + length twin_blocks) (n + k) rest) (sym (twin_count f b n x h.0)) blocks,
    )

twins_said : (structs : List Struct) (f b n : ℕ) (xs : List Function) → AllByRecursion IsFormFunction xs → map (function_of structs) (functions_from f b n xs) ≡ map (function_of structs) xs
twins_said structs f b n [] h = refl
twins_said structs f b n (x ∷ xs) h =
    let one = twin_said f b n x h.0 structs in
    let more = twins_said structs (suc f) (b + length x.blocks) (n + length (placed_in x)) xs h.1 in
    λ i. one i ∷ more i

twins_named : (f b n : ℕ) (xs : List Function) → map (λ (x : Function). x.name) (functions_from f b n xs) ≡ map (λ (x : Function). x.name) xs
twins_named f b n [] = refl
twins_named f b n (x ∷ xs) = ap (λ (ns : List Text). x.name ∷ ns) (twins_named (suc f) (b + length x.blocks) (n + length (placed_in x)) xs)

twins_typed : (f b n : ℕ) (xs : List Function) → map (λ (x : Function). x.type) (functions_from f b n xs) ≡ map (λ (x : Function). x.type) xs
twins_typed f b n [] = refl
twins_typed f b n (x ∷ xs) = ap (λ (ts : List TypeTree). x.type ∷ ts) (twins_typed (suc f) (b + length x.blocks) (n + length (placed_in x)) xs)

placed_typed : (by : Numbers) (ps : List Placed) → map (λ (p : Placed). p.type) (map (placed_to by) ps) ≡ map (λ (p : Placed). p.type) ps
placed_typed by [] = refl
placed_typed by (p ∷ ps) = ap (λ (ts : List TypeTree). p.type ∷ ts) (placed_typed by ps)

abbrev types_of : List Placed → List TypeTree
types_of ps = map (λ (p : Placed). p.type) ps

twins_placed : (f b n : ℕ) (xs : List Function) → types_of (flat_map placed_in (functions_from f b n xs)) ≡ types_of (flat_map placed_in xs)
twins_placed f b n [] = refl
twins_placed f b n (x ∷ xs) =
    let to = numbers_from f b n x in
    let rest = functions_from (suc f) (b + length x.blocks) (n + length (placed_in x)) xs in
    map-append (λ (p : Placed). p.type) (placed_in (function_to to x)) (flat_map placed_in rest)
    ∙ ap (λ (ps : List Placed). types_of ps ++ types_of (flat_map placed_in rest)) (placed_mapped to x.blocks)
    ∙ ap (λ (ts : List TypeTree). ts ++ types_of (flat_map placed_in rest)) (placed_typed to (placed_in x))
    ∙ ap (λ (ts : List TypeTree). types_of (placed_in x) ++ ts) (twins_placed (suc f) (b + length x.blocks) (n + length (placed_in x)) xs)
    ∙ sym (map-append (λ (p : Placed). p.type) (placed_in x) (flat_map placed_in xs))

twins_many : (f b n : ℕ) (xs : List Function) → length (functions_from f b n xs) ≡ length xs
twins_many f b n [] = refl
twins_many f b n (x ∷ xs) = ap suc (twins_many (suc f) (b + length x.blocks) (n + length (placed_in x)) xs)

-- what passes from each function to its twin
twins_all : (P Q : Function → Type 0) → ((f b n : ℕ) (x : Function) → P x → Q (function_to (numbers_from f b n x) x)) → (f b n : ℕ) (xs : List Function) → AllByRecursion P xs → AllByRecursion Q (functions_from f b n xs)
twins_all P Q step f b n [] h = tt
twins_all P Q step f b n (x ∷ xs) h = (step f b n x h.0, twins_all P Q step (suc f) (b + length x.blocks) (n + length (placed_in x)) xs h.1)

each_twin : (P Q : Function → Type 0) → ((f b n : ℕ) (x : Function) → P x → Q (function_to (numbers_from f b n x) x)) → (d : ModuleData) → All P d.functions → All Q (numbered d).functions
each_twin P Q step d h = All-from_recursion Q (numbered d).functions (twins_all P Q step 0 0 0 d.functions (all_at P d.functions (λ i x at. within_at d.functions P h i x at)))

-- ---- modules

pub forms : (d : ModuleData) → IsForm d → AllByRecursion IsFormFunction d.functions
forms d h = all_at IsFormFunction d.functions (λ i x at. within_at d.functions IsFormFunction h.functions i x at)

pub is_numbered : (d : ModuleData) → IsForm d → IsNumbered (numbered d)
is_numbered d h =
    let through = counted_through 0 0 0 (numbered d).functions (twins_counted 0 0 0 d.functions (forms d h)) in
    record { functions = uncounted _ 0 _ through.functions; blocks = uncounted _ 0 _ through.blocks; instructions = uncounted _ 0 _ through.instructions }

pub same_text : (d : ModuleData) → IsForm d → file_of (numbered d) ≡ file_of d
same_text d h = ap (λ (fs : List L.Function). let m : L.File = record { source = source_of d.name; structs = map struct_of d.structs; functions = fs } in m) (twins_said d.structs 0 0 0 d.functions (forms d h))

-- the types in use are of both
same_types : (d : ModuleData) → types_in (numbered d) ≡ types_in d
same_types d =
    let names = map (λ (s : Struct). NamedType s.name) d.structs in
    let signatures = map (λ (x : Function). x.type) d.functions in
    let twins = flat_map placed_in (numbered d).functions in
    ap (λ (ts : List TypeTree). names ++ ts ++ types_of twins ++ flat_map constant_types twins) (twins_typed 0 0 0 d.functions)
    ∙ ap (λ (ts : List TypeTree). names ++ signatures ++ ts ++ flat_map constant_types twins) (twins_placed 0 0 0 d.functions)
    ∙ ap (λ (ts : List TypeTree). names ++ signatures ++ types_of (flat_map placed_in d.functions) ++ ts) (twins_constants 0 0 0 d.functions)

keeps_nested : (d : ModuleData) → All (IsNested d.structs) (types_in d) → All (IsNested d.structs) (types_in (numbered d))
keeps_nested d h = subst (λ (ts : List TypeTree). All (IsNested d.structs) ts) (sym (same_types d)) h

-- and so are the constants
keeps_made : (d : ModuleData) → All (HasMadeOperands d.structs) d.functions → All (HasMadeOperands d.structs) (numbered d).functions
keeps_made d h = each_twin (HasMadeOperands d.structs) (HasMadeOperands d.structs) (λ f b n x made. twin_made d.structs (numbers_from f b n x) x made) d h

pub keeps_form : (d : ModuleData) → IsForm d → IsForm (numbered d)
keeps_form d h = record { functions = each_twin IsFormFunction IsFormFunction twin_form d h.functions; structs = h.structs; nested = keeps_nested d h.nested; elements = keeps_made d h.elements }

-- names are of both, and so are the lengths of lists
abbrev WithForm : (Function → Type 0) → Function → Type 0
WithForm P x = IsFormFunction x × P x

with_form : (P : Function → Type 0) (d : ModuleData) → IsForm d → All P d.functions → All (WithForm P) d.functions
with_form P d h g = All-from_recursion (WithForm P) d.functions (all_at (WithForm P) d.functions (λ i x at. (within_at d.functions IsFormFunction h.functions i x at, within_at d.functions P g i x at)))

pub keeps_names : (d : ModuleData) → IsForm d → HasDistinctNames d → HasDistinctNames (numbered d)
keeps_names d h names =
    let distinct = λ (x : Function). IsDistinctList (local_names x) in
    record {
      structs = names.structs;
      functions = subst (λ (ns : List Text). IsDistinctList ns) (sym (twins_named 0 0 0 d.functions)) names.functions;
      locals = each_twin (WithForm distinct) distinct (λ f b n x g. subst (λ (ns : List Text). IsDistinctList ns) (twin_names f b n x g.0) g.1) d (with_form distinct d h names.locals);
    }

pub keeps_few : (d : ModuleData) → IsForm d → HasFew d → HasFew (numbered d)
keeps_few d h few = record {
  structs = few.structs;
  fields = few.fields;
  functions = subst (λ (k : ℕ). k < 2 ^ 31) (sym (twins_many 0 0 0 d.functions)) few.functions;
  each = each_twin (WithForm IsFewIn) IsFewIn (λ f b n x g. few_alike x (function_to (numbers_from f b n x) x) (twin_alike f b n x g.0) g.1) d (with_form IsFewIn d h few.each);
}

pub keeps_sayable : (d : ModuleData) → IsSayableModule d → IsSayableModule (numbered d)
keeps_sayable d h = record {
  functions = each_twin IsSayable IsSayable twin_sayable d h.functions;
  structs = h.structs;
  struct_names = h.struct_names;
  nested = keeps_nested d h.nested;
  elements = keeps_made d h.elements;
  name = h.name;
}

form_of : (d : ModuleData) → IsSayableModule d → IsForm d
form_of d h = record {
  functions = All-from_recursion IsFormFunction d.functions (all_at IsFormFunction d.functions (λ i x at. (within_at d.functions IsSayable h.functions i x at).form));
  structs = h.structs;
  nested = h.nested;
  elements = h.elements;
}

-- the text of any data of the form says their twin
pub text_says : (d : ModuleData) → IsSayableModule d → file_data (file_of d) ≡ Some (numbered d)
text_says d h =
    let form = form_of d h in
    ap file_data (sym (same_text d form)) ∙ file_says (numbered d) (keeps_sayable d h) (is_numbered d form)

-- data of one text have one twin
pub one_twin : (d e : ModuleData) → IsSayableModule d → IsSayableModule e → file_of d ≡ file_of e → numbered d ≡ numbered e
one_twin d e h g same = same_Some (numbered d) (numbered e) (sym (text_says d h) ∙ ap file_data same ∙ text_says e g)
