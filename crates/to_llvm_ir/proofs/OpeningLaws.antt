-- A function without instructions: its blocks, one after another, and its parameters.
use Rattle.std.proofs.Common.{◌≡◌, ◌<◌, ◌≤◌, ◌+◌, ℕ, zero, suc, Bool, false, nat_eq, if◌then◌else◌, List, [], ◌∷◌, ◌++◌, Option, Some, None, All, length, map, take, slice_get, get_or, refl, sym, ap, subst, ◌∙◌, arith, eq-eqb, ne_eqb, eqb-true, ⊎_elim}
use Rattle.std.specs.List.{enumerate_from}
use Rattle.std.specs.Option.{option_map, option_map_or}
use Rattle.std.proofs.lemmas.Bool.{cond-true, cond-false, cases_Bool, cases_eq}
use Rattle.std.proofs.lemmas.Option.{same_Some, none-some, slice_get_within, slice_get-get_or}
use Rattle.std.proofs.lemmas.List.{map_push, length_push}
use Rattle.std.proofs.lemmas.List.Elements.{All-nil, All-cons, All-head, All-tail}
use Rattle.support.proofs.ListLaws.{item_there}
use Rattle.llvm_core.specs.declared.numbers.LLVMType.{LLVMType}
use Rattle.llvm_core.specs.declared.numbers.LLVMFunction.{LLVMFunction}
use Rattle.llvm_core.specs.declared.numbers.LLVMBasicBlock.{LLVMBasicBlock}
use Rattle.llvm_core.specs.declared.types.LLVMTypeKind.{LLVMTypeKind}
use Rattle.llvm_core.specs.declared.types.LLVMTypeKind.TheVariants as T
use Rattle.llvm_core.specs.declared.code.FunctionData.{FunctionData}
use Rattle.llvm_core.specs.Module.{Module}
use Rattle.llvm_core.specs.Sound.{IsModule}
use Rattle.llvm_core.specs.Code as code
use Rattle.llvm_core.specs.Code.{code_of, with_code}
use Rattle.llvm_core.specs.Parts.{type_params, param_types, kind_params}
use Rattle.llvm_core.specs.Data as L
use Rattle.llvm_core.specs.Data.{Function, Block, ModuleData, trees_of, function_of, data_of, with_function, with_block}
use Rattle.llvm_core.proofs.ChangeLemmas.{slice_get-changed}
use Rattle.llvm_core.proofs.DataLemmas.{type_tree_of}
use Rattle.kinds.specs.Types.{types_list, takes_of}
use Rattle.dialect_types.specs.Trees.{TypeTree, TypeTrees, NoTypes, ThenType}
use Rattle.dialect_core.specs.declared.numbers.BlockRef.{BlockRef}
use Rattle.dialect_core.specs.ContextData.{ContextData}
use Rattle.dialect_core.specs.Data.{DialectBlock, Func}
use Rattle.dialect_core.specs.Form.{IsFormFunc}
use Rattle.to_llvm_ir.specs.declared.blocks.Blocks.{Blocks}
use Rattle.to_llvm_ir.specs.declared.blocks.Target.{Target}
use Rattle.to_llvm_ir.specs.Exported.{block_name}
use Rattle.to_llvm_ir.specs.Made.{Numbers, empty_block, empty_blocks, function_with}
use Rattle.to_llvm_ir.specs.States.{Task, IsBlockAt, AreMapped, IsTargetOf, found_block, same_block}
use Rattle.to_llvm_ir.specs.Opening.{HasParams, HasFunction, IsOpening, IsDeclared, AreBlocks}
use Rattle.to_llvm_ir.proofs.ListLaws.{take_suc, split_at}
use Rattle.to_llvm_ir.proofs.TurnLaws.{named_within}
use Rattle.to_llvm_ir.proofs.ArgumentLaws.{block_number}
use Rattle.to_llvm_ir.proofs.LookupLaws.{entry_at}

-- ---- the data

numbers_from : (F : ℕ × FunctionData → Function) → ((k : ℕ) (x : FunctionData) → (F (k, x)).number ≡ k) → (n k : ℕ) (xs : List FunctionData) → n + length xs ≤ k → All (λ (f : Function). f.number < k) (map F (enumerate_from n xs))
numbers_from F is n k [] h = All-nil (λ (f : Function). f.number < k)
numbers_from F is n k (x ∷ xs) h =
    All-cons (λ (f : Function). f.number < k) (F (n, x)) (map F (enumerate_from (n + 1) xs)) (let e = is n x in omega (arith, e, h)) (numbers_from F is (n + 1) k xs (omega (arith, h)))

-- functions are numbered in order
pub numbers_below : (m : Module) → All (λ (f : Function). f.number < length m.functions) (data_of m).functions
numbers_below m = numbers_from (function_of (trees_of m) m.blocks m.insts) (λ k x. refl) 0 (length m.functions) m.functions (omega arith)

others_same : (n : ℕ) (h : Function → Function) (fs : List Function) → All (λ (f : Function). f.number < n) fs → map (λ (f : Function). if nat_eq f.number n then h f else f) fs ≡ fs
others_same n h [] all = refl
others_same n h (f ∷ fs) all =
    let lt = All-head (λ (f : Function). f.number < n) f fs all in
    let ne : f.number ≡ n → ⊥ = λ e. omega (arith, lt, e) in
    let e = cond-false (nat_eq f.number n) (h f) f (ne_eqb f.number n ne) in
    let r = others_same n h fs (All-tail (λ (f : Function). f.number < n) f fs all) in
    cc

-- the last function has a block more, and the others are as before
data_started : (d : ModuleData) (f : Function) (b : Block) → All (λ (g : Function). g.number < f.number) d.functions → with_block (with_function d f) f.number b ≡ with_function d (record f { blocks = f.blocks ++ b ∷ [] })
data_started d f b below =
    let h : Function → Function = λ x. record x { blocks = x.blocks ++ b ∷ [] } in
    let g : Function → Function = λ x. if nat_eq x.number f.number then h x else x in
    ap (λ (fs : List Function). record d { functions = fs })
    (map_push g d.functions f ∙ ap (λ (fs : List Function). fs ++ g f ∷ []) (others_same f.number h d.functions below)
    ∙ ap (λ (x : Function). d.functions ++ x ∷ []) (cond-true (nat_eq f.number f.number) (h f) f (eq-eqb f.number f.number refl)))

empties_append : (g : Func) (n : Numbers) (p : ℕ) (cs : List DialectBlock) (c : DialectBlock) → empty_blocks g n p (cs ++ c ∷ []) ≡ empty_blocks g n p cs ++ empty_block g n (p + length cs) c ∷ []
empties_append g n p [] c = ap (λ (q : ℕ). empty_block g n q c ∷ []) (let e : p ≡ p + 0 = omega arith in e)
empties_append g n p (d ∷ cs) c =
    ap (λ (bs : List Block). empty_block g n p d ∷ bs) (empties_append g n (suc p) cs c ∙ ap (λ (q : ℕ). empty_blocks g n (suc p) cs ++ empty_block g n q c ∷ []) (let e : suc p + length cs ≡ p + suc (length cs) = omega arith in e))

-- ---- the start

pub opening_none : (t : Task) (f : LLVMFunction) (ty : LLVMType) (blocks : Blocks) (m : Module) → IsDeclared t f ty m → ((b : BlockRef) → found_block blocks b ≡ None) → IsOpening t 0 f ty blocks m
opening_none t f ty blocks m h none = record {
  is = h.is;
  sound = h.sound;
  number = h.number;
  function = h.function;
  block_count = let e = h.block_count in omega (arith, e);
  inst_count = h.inst_count;
  mapped = record { there = λ j c lt at. absurd (omega (arith, lt)); only = λ b x at. absurd (none-some x (sym (none b) ∙ at)) };
}

-- ---- a block more

abbrev pub IsBlockSet : (old new : Blocks) → BlockRef → Target → Type 0
IsBlockSet old new b x = (q : BlockRef) → found_block new q ≡ (if same_block b q then Some x else found_block old q)

mapped_more : (x : ContextData) (t : Task) (i : ℕ) (c : DialectBlock) (b : BlockRef) (old new : Blocks) (target : Target) → IsBlockAt x t i c b → AreMapped t.source t.numbers i old → IsBlockSet old new b target → target.place ≡ i → target.block.0 ≡ t.numbers.block + i → AreMapped t.source t.numbers (suc i) new
mapped_more x t i c b old new target h mapped set place block = record {
  there = λ j d lt at. ⊎_elim
      (λ same. (target, set_here (record { 0 = d.number }) (sym number ∙ ap (λ (y : DialectBlock). y.number) (same_Some c d (sym h.here ∙ ap (slice_get t.source.blocks) (sym same) ∙ at)))))
      (λ differs.
      let early : j < i = omega (arith, lt, differs) in
      let r = mapped.there j d early at in
      (r.0, set_other (record { 0 = d.number }) (λ e. differs (h.task.form.block_numbers j i d c at h.here (sym e ∙ sym number))) ∙ r.1))
      (cases_eq j i);
  only = λ q y at. ⊎_elim
      (λ same.
      let e : b.0 ≡ q.0 = eqb-true b.0 q.0 same in
      let is : target ≡ y = same_Some target y (sym (set q ∙ cond-true (same_block b q) (Some target) (found_block old q) same) ∙ at) in
      subst (IsTargetOf t.source t.numbers (suc i) q) is (record { place = i; early = omega arith; block = c; here = h.here; number = number ∙ e; place_is = place; block_is = block }))
      (λ differs.
      let r = mapped.only q y (sym (set q ∙ cond-false (same_block b q) (Some target) (found_block old q) differs) ∙ at) in
      record { place = r.place; early = (let lt = r.early in omega (arith, lt)); block = r.block; here = r.here; number = r.number; place_is = r.place_is; block_is = r.block_is })
      (cases_Bool (same_block b q));
}
  where
    number : c.number ≡ b.0
    number = block_number x t i c b h

    set_here : (q : BlockRef) → b.0 ≡ q.0 → found_block new q ≡ Some target
    set_here q e = set q ∙ cond-true (same_block b q) (Some target) (found_block old q) (eq-eqb b.0 q.0 e)

    set_other : (q : BlockRef) → (b.0 ≡ q.0 → ⊥) → found_block new q ≡ found_block old q
    set_other q ne = set q ∙ cond-false (same_block b q) (Some target) (found_block old q) (ne_eqb b.0 q.0 ne)

function_kept : (m m' : Module) (f : LLVMFunction) (b : LLVMBasicBlock) (name : List ℕ) (ty : LLVMType) (tree : L.TypeTree) → m' ≡ with_code m (code.with_block (code_of m) f b name) → HasFunction f ty tree m → HasFunction f ty tree m'
function_kept m m' f b name ty tree is h =
    let change : FunctionData → FunctionData = λ y. record y { blocks = y.blocks ++ b ∷ [] } in
    record {
      function = change h.function;
      there = ap (λ (x : Module). slice_get x.functions f.0) is ∙ slice_get-changed change f.0 m.functions ∙ ap (option_map change) h.there;
      type = h.type;
      typed = subst (λ (ks : List LLVMTypeKind). (ty.0 < length ks) × (L.type_at (L.type_trees ks) ty ≡ tree)) (sym (ap (λ (x : Module). x.types) is)) h.typed;
    }

pub opening_more : (x : ContextData) (t : Task) (i : ℕ) (c : DialectBlock) (b : BlockRef) (f : LLVMFunction) (ty : LLVMType) (old new : Blocks) (m m' : Module) (target : LLVMBasicBlock) (place : ℕ) (name : List ℕ) → IsBlockAt x t i c b → IsOpening t i f ty old m
    → place ≡ i → name ≡ block_name c.label place → target.0 ≡ length m.blocks → m' ≡ with_code m (code.with_block (code_of m) f target name) → data_of m' ≡ with_block (data_of m) f.0 (record { number = target.0; name = name; instructions = [] }) → IsModule m'
    → IsBlockSet old new b (record { block = target; place = place }) → IsOpening t (suc i) f ty new m'
opening_more x t i c b f ty old new m m' target place name h s place_is name_is last is made sound set =
    let number : target.0 ≡ t.numbers.block + i = last ∙ s.block_count in
    let len = (split_at t.source.blocks i c h.here).1 in
    let front = empty_blocks t.source t.numbers 0 (take i t.source.blocks) in
    let named : name ≡ block_name c.label i = name_is ∙ ap (block_name c.label) place_is in
    let block : Block = record { number = target.0; name = name; instructions = [] } in
    let block_is : block ≡ empty_block t.source t.numbers i c = (ap (λ (k : ℕ). let y : Block = record { number = k; name = name; instructions = [] } in y) number) ∙ ap (λ (s : List ℕ). let y : Block = record { number = t.numbers.block + i; name = s; instructions = [] } in y) named in
    record {
      is = made ∙ ap (λ (d : ModuleData). with_block d f.0 block) s.is ∙ ap (λ (k : ℕ). with_block (with_function t.before (function_with t.source t.numbers front)) k block) s.number
          ∙ data_started t.before (function_with t.source t.numbers front) block h.task.functions
          ∙ ap (λ (y : Block). with_function t.before (function_with t.source t.numbers (front ++ y ∷ []))) block_is
          ∙ ap (λ (bs : List Block). with_function t.before (function_with t.source t.numbers bs)) (sym (ap (empty_blocks t.source t.numbers 0) (take_suc t.source.blocks i c h.here) ∙ empties_append t.source t.numbers 0 (take i t.source.blocks) c
          ∙ ap (λ (q : ℕ). front ++ empty_block t.source t.numbers q c ∷ []) (let e : 0 + length (take i t.source.blocks) ≡ i = omega (arith, len) in e)));
      sound = sound;
      number = s.number;
      function = function_kept m m' f target name ty t.source.type is s.function;
      block_count = let e = ap (λ (y : Module). length y.blocks) is in let k = length_push m.blocks (record { name = name; function = f; insts = [] }) in let l = s.block_count in omega (arith, e, k, l);
      inst_count = ap (λ (y : Module). length y.insts) is ∙ s.inst_count;
      mapped = mapped_more x t i c b old new (record { block = target; place = place }) h s.mapped set place_is number;
    }

-- ---- the parameters of the function

kind_takes : (us : List L.TypeTree) (k : LLVMTypeKind) → L.types_at us (kind_params k) ≡ takes_of (L.type_tree us k)
kind_takes us (T.Function result params variadic) = refl
kind_takes us k = refl

pub params_are : (m : Module) (t : LLVMType) (r : L.TypeTree) (ps : L.TypeTrees) (v : Bool) → IsModule m → t.0 < length m.types → L.type_at (trees_of m).types t ≡ L.FunctionType r ps v → L.types_at (trees_of m).types (type_params m.types t) ≡ ps
params_are m t r ps v s within h =
    let k = item_there m.types t.0 within in
    ap (λ (o : Option LLVMTypeKind). L.types_at (trees_of m).types (option_map_or kind_params o [])) k.1 ∙ kind_takes (trees_of m).types k.0 ∙ ap takes_of (sym (type_tree_of m t k.0 s k.1) ∙ h)

-- the parameter at the place of an argument
param_at : (us : List L.TypeTree) (ps : List LLVMType) (ts : TypeTrees) (i : ℕ) (type : TypeTree) → L.types_at us ps ≡ ts → slice_get (types_list ts) i ≡ Some type → (t : LLVMType) × (slice_get ps i ≡ Some t) × (L.type_at us t ≡ type)
param_at us [] NoTypes i type e at = absurd (none-some type at)
param_at us [] (ThenType t ts) i type e at = cc
param_at us (p ∷ ps) NoTypes i type e at = cc
param_at us (p ∷ ps) (ThenType t ts) zero type e at =
    let same : t ≡ type = same_Some t type at in
    let here : L.type_at us p ≡ t = cc in
    (p, refl, here ∙ same)
param_at us (p ∷ ps) (ThenType t ts) (suc i) type e at =
    let rest : L.types_at us ps ≡ ts = cc in
    param_at us ps ts i type rest at

-- as many empty names as arguments
pub names_are : (us : List L.TypeTree) (ps : List LLVMType) (ts : TypeTrees) → L.types_at us ps ≡ ts → map (λ (t : LLVMType). let none : List ℕ = [] in none) ps ≡ map (λ (t : TypeTree). let none : List ℕ = [] in none) (types_list ts)
names_are us [] NoTypes e = refl
names_are us [] (ThenType t ts) e = cc
names_are us (p ∷ ps) NoTypes e = cc
names_are us (p ∷ ps) (ThenType t ts) e = let rest : L.types_at us ps ≡ ts = cc in ap (λ (ns : List (List ℕ)). [] ∷ ns) (names_are us ps ts rest)

-- the parameters have the types of the entry's arguments
pub has_params : (t : Task) (form : IsFormFunc t.source) (c : DialectBlock) (f : LLVMFunction) (ty : LLVMType) (m : Module) → slice_get t.source.blocks 0 ≡ Some c → IsModule m → f.0 ≡ t.numbers.function → HasFunction f ty t.source.type m → HasParams t c f m
has_params t form c f ty m at s number h = record {
  number = number;
  typed = λ i type has.
      let entry : c ≡ form.entry = same_Some c form.entry (sym at ∙ entry_at t.source form) in
      let tree : L.type_at (trees_of m).types ty ≡ L.FunctionType form.result form.types false = h.typed.1 ∙ form.type in
      let params = params_are m ty form.result form.types false s h.typed.0 tree in
      let there : slice_get (types_list form.types) i ≡ Some type = ap (λ (ts : List TypeTree). slice_get ts i) (sym form.params) ∙ ap (λ (d : DialectBlock). slice_get d.args i) (sym entry) ∙ has in
      let p = param_at (trees_of m).types (type_params m.types ty) form.types i type params there in (
        p.0,
        ap (λ (o : Option FunctionData). slice_get (option_map_or (param_types m) o []) i) h.there ∙ ap (λ (u : LLVMType). slice_get (type_params m.types u) i) h.type ∙ p.1,
        p.2,
      );
}

-- ---- the blocks by their numbers

pub block_there : (c : ContextData) (t : Task) (bs : List BlockRef) (i : ℕ) (d : BlockRef) → AreBlocks c t bs → i < length bs → (block : DialectBlock) × IsBlockAt c t i block (get_or bs i d)
block_there c t bs i d h lt = h.each i (get_or bs i d) (slice_get-get_or bs i d lt)

-- the block that an order names at a place
pub taken_there : (c : ContextData) (t : Task) (bs : List BlockRef) (order : List ℕ) (k p : ℕ) (d : BlockRef) → AreBlocks c t bs → order ≡ t.numbers.order → slice_get order k ≡ Some p → (block : DialectBlock) × IsBlockAt c t p block (get_or bs p d)
taken_there c t bs order k p d are is named =
    let lt = named_within (length t.source.blocks) t.numbers.order are.task.order.once k p (ap (λ (ps : List ℕ). slice_get ps k) (sym is) ∙ named) in
    block_there c t bs p d are (let e = are.count in omega (arith, lt, e))

pub function_there : (t : Task) (i : ℕ) (f : LLVMFunction) (ty : LLVMType) (blocks : Blocks) (m : Module) → IsOpening t i f ty blocks m → f.0 < length m.functions
function_there t i f ty blocks m h = slice_get_within m.functions f.0 h.function.function h.function.there
