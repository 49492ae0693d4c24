-- What the context tells of functions and blocks.
use Rattle.std.proofs.Common.{ℕ, ◌≡◌, ◌<◌, true, false, refl, sym, ap, subst, ◌∙◌, List, [], ◌∷◌, Option, Some, None, All, length, map, slice_get, arith}
use Rattle.std.specs.Prelude.{unwrap_or, is_some, IfSome}
use Rattle.std.specs.List.{filter_map, cons_option}
use Rattle.std.specs.Option.{option_map, option_map_or, option_and_then}
use Rattle.std.proofs.lemmas.List.{length-map}
use Rattle.std.proofs.lemmas.Option.{same_Some, none-some, slice_get_within, get_or_from_slice_get}
use Rattle.support.proofs.ListLaws.{item_there}
use Rattle.llvm_core.proofs.DataLemmas.{length-filter_map_all}
use Rattle.dialect_types.specs.declared.types.TypeHandle.{TypeHandle}
use Rattle.dialect_types.specs.Trees.{TypeTree, type_at, type_trees}
use Rattle.dialect_core.specs.declared.numbers.OpRef.{OpRef}
use Rattle.dialect_core.specs.declared.numbers.BlockRef.{BlockRef}
use Rattle.dialect_core.specs.declared.ops.Symbol.{Symbol}
use Rattle.dialect_core.specs.declared.ops.OpData.{OpData}
use Rattle.dialect_core.specs.declared.ops.BlockData.{BlockData}
use Rattle.dialect_core.specs.Lists.{list_at}
use Rattle.dialect_core.specs.ContextData.{ContextData, symbol_at}
use Rattle.dialect_core.specs.Data.{IsTyped, Func, DialectBlock, llvm_name_of, op_at, block_of, block_in, func_with, func_of, func_in, name_at, symbol_name_at}
use Rattle.to_llvm_ir.specs.Functions.{blocks_of}

-- ---- lists

-- what a list of an item is, where it is known
pub known : {X Y : Type 0} (f : X → List Y) (o : Option X) (ys : List Y) → option_map f o ≡ Some ys → option_map_or f o [] ≡ ys
known f None ys e = absurd (none-some ys e)
known f (Some x) ys e = same_Some (f x) ys e

alone : {Y : Type 0} (o : Option Y) (y : Y) → cons_option o [] ≡ y ∷ [] → o ≡ Some y
alone None y e = cc
alone (Some z) y e = cc

-- where each of a list gives an item and they give one, the list has one
single : {X Y : Type 0} (h : X → Option Y) (xs : List X) (y : Y) → length (filter_map h xs) ≡ length xs → filter_map h xs ≡ y ∷ [] → (x : X) × (xs ≡ x ∷ []) × (h x ≡ Some y)
single h [] y len e = cc
single h (x ∷ []) y len e = (x, refl, alone (h x) y e)
single h (x ∷ (z ∷ xs)) y len e = absurd (let k = ap (λ ys. length ys) e in omega (arith, k, len))

-- ---- blocks

-- what a block of the context is
pub record BlockParts (c : ContextData) (b : BlockRef) (d : DialectBlock) : Type 0 where
  pub kept : BlockData
  pub there : slice_get c.blocks b.0 ≡ Some kept
  pub number : d.number ≡ b.0
  pub label : d.label ≡ kept.label
  pub args : d.args ≡ map (type_at (type_trees c.types)) kept.args
  pub ops : d.ops ≡ filter_map (op_at (type_trees c.types) c.ops) (list_at c.lists b)

pub block_parts : (c : ContextData) (b : BlockRef) (d : DialectBlock) → block_in (type_trees c.types) c b ≡ Some d → BlockParts c b d
block_parts c b d is = by (slice_get c.blocks b.0) refl is
  where
    by : (x : Option BlockData) → slice_get c.blocks b.0 ≡ x → option_map (block_of (type_trees c.types) c b) x ≡ Some d → BlockParts c b d
    by None at e = absurd (none-some d e)
    by (Some x) at e =
        let same = sym (same_Some _ d e) in
        record {
          kept = x;
          there = at;
          number = ap (λ (y : DialectBlock). y.number) same;
          label = ap (λ (y : DialectBlock). y.label) same;
          args = ap (λ (y : DialectBlock). y.args) same;
          ops = ap (λ (y : DialectBlock). y.ops) same;
        }

-- the only block of an operation, by its numbers
pub only_entry : (c : ContextData) (o : OpRef) (bs : List BlockRef) (d : DialectBlock) → option_map (λ (x : OpData). x.blocks) (slice_get c.ops o.0) ≡ Some bs → All (λ (b : BlockRef). b.0 < length c.blocks) bs → blocks_of c o ≡ d ∷ []
    → (b : BlockRef) × (bs ≡ b ∷ []) × (block_in (type_trees c.types) c b ≡ Some d)
only_entry c o bs d has small one =
    let are = known (λ (x : OpData). x.blocks) (slice_get c.ops o.0) bs has in
    let count = length-filter_map_all (block_in (type_trees c.types) c) bs (λ i b at.
    let x = item_there c.blocks b.0 (subst (λ (x : BlockRef). x.0 < length c.blocks) (get_or_from_slice_get bs i b b at) (small i b (slice_get_within bs i b at))) in
    (block_of (type_trees c.types) c b x.0, ap (option_map (block_of (type_trees c.types) c b)) x.1)) in
    single (block_in (type_trees c.types) c) bs d count (ap (filter_map (block_in (type_trees c.types) c)) (sym are) ∙ one)

pub label_is : (c : ContextData) (b : BlockRef) (d : DialectBlock) (l : Option (List ℕ)) → BlockParts c b d → option_map (λ (x : BlockData). x.label) (slice_get c.blocks b.0) ≡ Some l → d.label ≡ l
label_is c b d l h at = h.label ∙ same_Some h.kept.label l (ap (option_map (λ (x : BlockData). x.label)) (sym h.there) ∙ at)

pub args_count : (c : ContextData) (b : BlockRef) (d : DialectBlock) (ts : List TypeHandle) → BlockParts c b d → option_map (λ (x : BlockData). x.args) (slice_get c.blocks b.0) ≡ Some ts → length ts ≡ length d.args
args_count c b d ts h at =
    let same : h.kept.args ≡ ts = same_Some h.kept.args ts (ap (option_map (λ (x : BlockData). x.args)) (sym h.there) ∙ at) in
    sym (ap (λ (xs : List TypeTree). length xs) h.args ∙ length-map h.kept.args (type_at (type_trees c.types)) ∙ ap (λ (xs : List TypeHandle). length xs) same)

-- ---- functions

pub record FuncParts (c : ContextData) (o : OpRef) (g : Func) : Type 0 where
  pub symbol : Symbol
  pub symbol_is : symbol_at c.ops o ≡ Some symbol
  pub name : llvm_name_of g ≡ symbol_name_at c.ops o
  pub type : g.type ≡ type_at (type_trees c.types) symbol.ty
  pub blocks : g.blocks ≡ blocks_of c o
  pub type_there : IsTyped c → symbol.ty.0 < length c.types

pub func_parts : (c : ContextData) (o : OpRef) (g : Func) → func_in (type_trees c.types) c o ≡ Some g → FuncParts c o g
func_parts c o g is = by (slice_get c.ops o.0) refl is
  where
    made : (x : OpData) (s : Option Symbol) → slice_get c.ops o.0 ≡ Some x → x.symbol ≡ s → func_with (type_trees c.types) o (record x { symbol = s }) (filter_map (block_in (type_trees c.types) c) x.blocks) ≡ Some g → FuncParts c o g
    made x None at symbol e = absurd (none-some g e)
    made x (Some s) at symbol e =
        let same = sym (same_Some _ g e) in
        let is_symbol : symbol_at c.ops o ≡ Some s = ap (option_and_then (λ (y : OpData). y.symbol)) at ∙ symbol in
        record {
          symbol = s;
          symbol_is = is_symbol;
          name =
              ap llvm_name_of same ∙ ap (λ (v : Option OpData). unwrap_or s.llvm_name (option_map_or (λ (y : OpData). unwrap_or y.name []) v [])) (sym at)
              ∙ ap (λ (t : Option Symbol). unwrap_or (option_and_then (λ (s : Symbol). s.llvm_name) t) (name_at c.ops o.0)) (sym is_symbol);
          type = ap (λ (y : Func). y.type) same;
          blocks = ap (λ (y : Func). y.blocks) same ∙ ap (λ (v : Option OpData). filter_map (block_in (type_trees c.types) c) (option_map_or (λ (y : OpData). y.blocks) v [])) (sym at);
          type_there = λ typed. subst (λ (v : Option Symbol). IfSome v (λ (s : Symbol). s.ty.0 < length c.types)) symbol (typed.ops o.0 x at).symbol;
        }

    by : (x : Option OpData) → slice_get c.ops o.0 ≡ x → option_and_then (func_of (type_trees c.types) c o) x ≡ Some g → FuncParts c o g
    by None at e = absurd (none-some g e)
    by (Some x) at e = made x x.symbol at refl e

-- an operation without a symbol is no function, and one with a symbol is one
pub no_func : (c : ContextData) (o : OpRef) → option_map (λ (x : OpData). is_some x.symbol) (slice_get c.ops o.0) ≡ Some false → func_in (type_trees c.types) c o ≡ None
no_func c o e = by (slice_get c.ops o.0) e
  where
    symbol : (x : OpData) (s : Option Symbol) (bs : List DialectBlock) → is_some s ≡ false → func_with (type_trees c.types) o (record x { symbol = s }) bs ≡ None
    symbol x None bs e = refl
    symbol x (Some s) bs e = cc

    by : (x : Option OpData) → option_map (λ (y : OpData). is_some y.symbol) x ≡ Some false → option_and_then (func_of (type_trees c.types) c o) x ≡ None
    by None e = refl
    by (Some x) e = symbol x x.symbol _ (same_Some _ _ e)

pub some_func : (c : ContextData) (o : OpRef) → option_map (λ (x : OpData). is_some x.symbol) (slice_get c.ops o.0) ≡ Some true → (g : Func) × (func_in (type_trees c.types) c o ≡ Some g)
some_func c o e = by (slice_get c.ops o.0) e
  where
    symbol : (x : OpData) (s : Option Symbol) (bs : List DialectBlock) → is_some s ≡ true → (g : Func) × (func_with (type_trees c.types) o (record x { symbol = s }) bs ≡ Some g)
    symbol x None bs e = cc
    symbol x (Some s) bs e = (_, refl)

    by : (x : Option OpData) → option_map (λ (y : OpData). is_some y.symbol) x ≡ Some true → (g : Func) × (option_and_then (func_of (type_trees c.types) c o) x ≡ Some g)
    by None e = absurd (none-some _ e)
    by (Some x) e = symbol x x.symbol _ (same_Some _ _ e)
