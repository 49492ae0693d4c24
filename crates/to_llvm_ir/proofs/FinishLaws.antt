-- A function whose edges are all done is the one that is made of the dialect's, and so are the functions so far. When the
-- module stands, each stands for the dialect's.
use Rattle.std.proofs.Common.{◌≡◌, ◌<◌, ◌≤◌, ◌^◌, ◌+◌, ℕ, List, [], ◌∷◌, ◌++◌, Option, Some, None, All, length, take, slice_get, get_or, refl, sym, ap, subst, ◌∙◌, arith, append_assoc}
use Rattle.std.specs.List.{filter_map, cons_option, enumerate_from}
use Rattle.std.specs.Option.{option_map}
use Rattle.std.proofs.lemmas.List.{append-nil, take_all, length-map, length_push}
use Rattle.std.proofs.lemmas.List.FromFn.{length-enumerate_from}
use Rattle.meaning.proofs.MatchedLaws.{matched_append}
use Rattle.support.proofs.ListLaws.{item_there}
use Rattle.llvm_core.specs.Module.{Module}
use Rattle.kinds.specs.Names.{IsGoodOrNone}
use Rattle.llvm_core.specs.Data as L
use Rattle.llvm_core.specs.Data.{ModuleData, Function, trees_of, function_of, with_function}
use Rattle.llvm_core.proofs.DataLemmas.{length-filter_map_all, slice_get-filter_map_all}
use Rattle.dialect_types.specs.Trees.{NamedStruct, type_trees}
use Rattle.dialect_core.specs.declared.numbers.OpRef.{OpRef}
use Rattle.dialect_core.specs.declared.numbers.BlockRef.{BlockRef}
use Rattle.dialect_core.specs.declared.ops.OpData.{OpData}
use Rattle.dialect_core.specs.ContextData.{ContextData}
use Rattle.dialect_core.specs.Data as D
use Rattle.dialect_core.specs.Data.{DialectBlock, Func, held, block_of, block_in, func_in}
use Rattle.dialect_core.specs.Form.{IsFormFunc}
use Rattle.dialect_core.specs.WellFormed.{IsOpenForm}
use Rattle.meaning.specs.Pairs.{Matched}
use Rattle.to_llvm_ir.specs.declared.values.Values.{Values}
use Rattle.to_llvm_ir.specs.Order.{IsTaken}
use Rattle.to_llvm_ir.specs.Exported.{IsExported, block_name}
use Rattle.to_llvm_ir.specs.Accepted.{IsAccepted, AreAcceptedEdges}
use Rattle.to_llvm_ir.specs.Bodies.{IsBodyAccepted}
use Rattle.to_llvm_ir.specs.Made.{function_made, entries}
use Rattle.to_llvm_ir.specs.Opening.{AreBlocks}
use Rattle.to_llvm_ir.specs.States.{Task, IsTask, IsLinking}
use Rattle.to_llvm_ir.specs.Ordering.{AreBlocksOf}
use Rattle.to_llvm_ir.specs.Functions.{HasRules, IsMadeOf, AddsFunction, AddsFunctions, functions_in}
use Rattle.to_llvm_ir.specs.Structs.{AddsStructs}
use Rattle.to_llvm_ir.proofs.ContextLaws.{known, func_parts}
use Rattle.to_llvm_ir.proofs.ListLaws.{all_at, at_middle, filter_map_more, filter_map_at}
use Rattle.to_llvm_ir.proofs.MadeLaws.{all_stand}

-- ---- the blocks of a function

-- each number is that of a block
each_block : (c : ContextData) (bs : List BlockRef) → All (λ (b : BlockRef). b.0 < length c.blocks) bs → (i : ℕ) (b : BlockRef) → slice_get bs i ≡ Some b → (d : DialectBlock) × (block_in (type_trees c.types) c b ≡ Some d)
each_block c bs small i b at =
    let x = item_there c.blocks b.0 (all_at (λ (b : BlockRef). b.0 < length c.blocks) bs i b small at) in
    (block_of (type_trees c.types) c b x.0, ap (option_map (block_of (type_trees c.types) c b)) x.1)

list_is : (c : ContextData) (op : OpRef) (g : Func) (bs : List BlockRef) → func_in (type_trees c.types) c op ≡ Some g → option_map (λ (x : OpData). x.blocks) (slice_get c.ops op.0) ≡ Some bs → g.blocks ≡ filter_map (block_in (type_trees c.types) c) bs
list_is c op g bs is has = (func_parts c op g is).blocks ∙ ap (filter_map (block_in (type_trees c.types) c)) (known (λ (x : OpData). x.blocks) (slice_get c.ops op.0) bs has)

pub count_is : (c : ContextData) (op : OpRef) (g : Func) (bs : List BlockRef) → func_in (type_trees c.types) c op ≡ Some g → option_map (λ (x : OpData). x.blocks) (slice_get c.ops op.0) ≡ Some bs → All (λ (b : BlockRef). b.0 < length c.blocks) bs → length bs ≡ length g.blocks
count_is c op g bs is has small =
    sym (ap (λ (ds : List DialectBlock). length ds) (list_is c op g bs is has) ∙ length-filter_map_all (block_in (type_trees c.types) c) bs (each_block c bs small))

pub are_blocks : (c : ContextData) (op : OpRef) (t : Task) (bs : List BlockRef) → IsTask c t → func_in (type_trees c.types) c op ≡ Some t.source → option_map (λ (x : OpData). x.blocks) (slice_get c.ops op.0) ≡ Some bs → All (λ (b : BlockRef). b.0 < length c.blocks) bs → AreBlocks c t bs
are_blocks c op t bs task is has small = record {
  task = task;
  count = count_is c op t.source bs is has small;
  each = λ i b at.
      let d = each_block c bs small i b at in (
        d.0,
        record {
          task = task;
          here = ap (λ (ds : List DialectBlock). slice_get ds i) (list_is c op t.source bs is has) ∙ slice_get-filter_map_all (block_in (type_trees c.types) c) bs (each_block c bs small) i b d.0 at d.1;
          is = d.1;
        },
      );
}

pub blocks_apart : (c : ContextData) (op : OpRef) (g : Func) (bs : List BlockRef) → 0 < length g.blocks → ((i j : ℕ) (a b : DialectBlock) → slice_get g.blocks i ≡ Some a → slice_get g.blocks j ≡ Some b → a.number ≡ b.number → i ≡ j) → func_in (type_trees c.types) c op ≡ Some g → option_map (λ (x : OpData). x.blocks) (slice_get c.ops op.0) ≡ Some bs → All (λ (b : BlockRef). b.0 < length c.blocks) bs → AreBlocksOf c g bs
blocks_apart c op g bs some apart is has small = record {
  some = some;
  apart = apart;
  count = count_is c op g bs is has small;
  each = λ i b at.
      let d = each_block c bs small i b at in (
        d.0,
        record {
          here = ap (λ (ds : List DialectBlock). slice_get ds i) (list_is c op g bs is has) ∙ slice_get-filter_map_all (block_in (type_trees c.types) c) bs (each_block c bs small) i b d.0 at d.1;
          is = d.1;
        },
      );
}

pub blocks_of_func : (c : ContextData) (op : OpRef) (g : Func) (bs : List BlockRef) → IsFormFunc g → func_in (type_trees c.types) c op ≡ Some g → option_map (λ (x : OpData). x.blocks) (slice_get c.ops op.0) ≡ Some bs → All (λ (b : BlockRef). b.0 < length c.blocks) bs → AreBlocksOf c g bs
blocks_of_func c op g bs form = blocks_apart c op g bs (let e = ap (λ (ds : List DialectBlock). length ds) form.body in omega (arith, e)) form.block_numbers

-- ---- one function

pub accepted : (order : List ℕ) (g : Func) → length g.blocks < 2 ^ 30
    → ((j : ℕ) (c : DialectBlock) → slice_get g.blocks j ≡ Some c → IsGoodOrNone (block_name c.label j))
    → ((j : ℕ) (c : DialectBlock) → slice_get g.blocks j ≡ Some c → IsBodyAccepted order g j c)
    → ((j : ℕ) (c : DialectBlock) → slice_get g.blocks j ≡ Some c → AreAcceptedEdges g c) → IsAccepted order g
accepted order g few labelled bodies edges = record {
  few = few;
  blocks = λ j c at. record { label = labelled j c at; args = (bodies j c at).args; few = (bodies j c at).few; ops = (bodies j c at).ops };
  edges = edges;
}

-- ---- the function is there

-- as many functions as in the store
functions_count : (m : Module) → length (L.data_of m).functions ≡ length m.functions
functions_count m = length-map (enumerate_from 0 m.functions) (function_of (trees_of m) m.blocks m.insts) ∙ length-enumerate_from 0 m.functions

pub finished : (t : Task) (form : IsFormFunc t.source) (ruled : HasRules t.source) (taken : IsTaken t.source t.numbers.order) (old : Module) (known : Values) (m : Module) → t.before ≡ L.data_of old → length old.functions < 2 ^ 30 → IsAccepted t.numbers.order t.source → IsLinking t (entries t.source t.numbers) known m → AddsFunction t.source (L.data_of old) (L.data_of m)
finished t form ruled taken old known m before few h s =
    let f : Function = function_made t.source t.numbers (entries t.source t.numbers) in
    let is : L.data_of m ≡ with_function (L.data_of old) f = s.is ∙ ap (λ (d : ModuleData). with_function d f) before in
    record {
      function = f;
      is = is;
      made = record { numbers = t.numbers; form = form; ruled = ruled; taken = taken; accepted = h; is = refl };
      few = let e = ap (λ (d : ModuleData). length d.functions) is in let k = length_push (L.data_of old).functions f in let n = functions_count old in omega (arith, e, k, n, few);
    }

-- ---- the functions so far

-- the module with these functions behind
abbrev with_more : List Function → ModuleData → ModuleData
with_more fs d = record d { functions = d.functions ++ fs }

-- a function more
pub adds_one : (g : Func) (old new : ModuleData) → AddsFunction g old new → AddsFunctions (g ∷ []) old new
adds_one g old new h = record { functions = h.function ∷ []; is = h.is; made = (h.made, tt); few = λ _. h.few }

pub adds_nothing : (d : ModuleData) → AddsFunctions [] d d
adds_nothing d = record { functions = []; is = ap (λ (fs : List Function). record d { functions = fs }) (sym (append-nil d.functions)); made = tt; few = λ few. few }

adds_both : (gs hs : List Func) (old middle new : ModuleData) → AddsFunctions gs old middle → AddsFunctions hs middle new → AddsFunctions (gs ++ hs) old new
adds_both gs hs old middle new a b = record {
  functions = a.functions ++ b.functions;
  is = b.is ∙ ap (with_more b.functions) a.is ∙ ap (λ (fs : List Function). record old { functions = fs }) (append_assoc old.functions a.functions b.functions);
  made = matched_append IsMadeOf gs hs a.functions b.functions a.made b.made;
  few = λ few. b.few (a.few few);
}

pub adds_some : (c : ContextData) (op : OpRef) (g : Func) (old new : ModuleData) → func_in (type_trees c.types) c op ≡ Some g → AddsFunctions (g ∷ []) old new → AddsFunctions (functions_in c (op ∷ [])) old new
adds_some c op g old new is h = subst (λ (o : Option Func). AddsFunctions (cons_option o []) old new) (sym is) h

pub adds_none : (c : ContextData) (op : OpRef) (d : ModuleData) → func_in (type_trees c.types) c op ≡ None → AddsFunctions (functions_in c (op ∷ [])) d d
adds_none c op d none = subst (λ (o : Option Func). AddsFunctions (cons_option o []) d d) (sym none) (adds_nothing d)

-- ---- the functions among operations

-- where one of them is a function, that stands among the functions
pub held_at : (c : ContextData) (ops : List OpRef) (i : ℕ) (d : OpRef) (g : Func) → i < length ops → func_in (type_trees c.types) c (get_or ops i d) ≡ Some g → (at : ℕ) × (slice_get (functions_in c ops) at ≡ Some g)
held_at c ops i d g lt is =
    let h = func_in (type_trees c.types) c in
    let r = filter_map_at h ops i d g lt is in
    let front = filter_map h (take i ops) in
    (length front, ap (λ (xs : List Func). slice_get xs (length front)) r.1 ∙ at_middle front g r.0)

-- it is of the form
pub form_held : (c : ContextData) (ops : List OpRef) (i : ℕ) (d : OpRef) (g : Func) → All (IsOpenForm c) (functions_in c ops) → i < length ops → func_in (type_trees c.types) c (get_or ops i d) ≡ Some g → IsOpenForm c g
form_held c ops i d g all lt is = let r = held_at c ops i d g lt is in all_at (IsOpenForm c) (functions_in c ops) r.0 g all r.1

-- the functions of one operation more
pub adds_more : (c : ContextData) (ops : List OpRef) (i : ℕ) (d : OpRef) (old middle new : ModuleData) → i < length ops → AddsFunctions (functions_in c (take i ops)) old middle → AddsFunctions (functions_in c (get_or ops i d ∷ [])) middle new → AddsFunctions (functions_in c (take (i + 1) ops)) old new
adds_more c ops i d old middle new lt before one =
    subst (λ (more : List Func). AddsFunctions more old new) (sym (filter_map_more (func_in (type_trees c.types) c) ops i d lt))
    (adds_both (functions_in c (take i ops)) (functions_in c (get_or ops i d ∷ [])) old middle new before one)

pub adds_all : (c : ContextData) (ops : List OpRef) (i : ℕ) (old new : ModuleData) → length ops ≤ i → AddsFunctions (functions_in c (take i ops)) old new → AddsFunctions (functions_in c ops) old new
adds_all c ops i old new whole h = subst (λ (os : List OpRef). AddsFunctions (functions_in c os) old new) (take_all i ops whole) h

-- ---- the module

pub forms_held : (c : ContextData) (m : ℕ) (ops : List OpRef) → All (IsOpenForm c) (D.data_of c m).functions → ops ≡ held c m → All (IsOpenForm c) (functions_in c ops)
forms_held c m ops all are = subst (λ (os : List OpRef). All (IsOpenForm c) (functions_in c os)) (sym are) all

-- the structs stand in a module that had none, and no functions yet
pub with_structs : (given : List ℕ) (structs : List NamedStruct) (empty begun : ModuleData) → empty ≡ record { name = given; structs = []; functions = [] } → AddsStructs structs empty begun → begun ≡ record { name = given; structs = structs; functions = [] }
with_structs given structs empty begun is adds = adds.is ∙ ap (λ (d : ModuleData). record d { structs = d.structs ++ structs }) is

module _ (c : ContextData) (m : ℕ) (ops : List OpRef) (given : List ℕ) (structs : List NamedStruct) (begun : ModuleData) (back : Module) (are : ops ≡ held c m) (is : begun ≡ record { name = given; structs = structs; functions = [] }) (adds : AddsFunctions (functions_in c ops) begun (L.data_of back)) where
  whole : L.data_of back ≡ record { name = given; structs = structs; functions = adds.functions }
  whole = adds.is ∙ ap (with_more adds.functions) is

  -- what each function of the module was made of
  pub all_made : Matched IsMadeOf (D.data_of c m).functions (L.data_of back).functions
  all_made =
      subst (λ (os : List OpRef). Matched IsMadeOf (functions_in c os) (L.data_of back).functions) are
      (subst (Matched IsMadeOf (functions_in c ops)) (sym (ap (λ (d : ModuleData). d.functions) whole)) adds.made)

  -- it stands for, in the module that was made
  pub all_exported : given ≡ (D.data_of c m).name → IsExported structs (D.data_of c m) back
  all_exported same =
      let none : length begun.functions < 2 ^ 31 = rw is (omega arith) in
      record {
        name = ap (λ (d : ModuleData). d.name) whole ∙ same;
        structs_are = ap (λ (d : ModuleData). d.structs) whole;
        functions = all_stand (D.data_of c m).functions (L.data_of back).functions all_made;
        few = adds.few none;
      }
