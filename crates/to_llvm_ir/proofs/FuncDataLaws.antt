-- What narrow blocks and functions of a context tell of their data, and what a module's do.
use Rattle.std.proofs.Common.{◌≡◌, ◌<◌, ℕ, suc, Bool, List, [], ◌∷◌, Option, Some, All, length, map, slice_get, ap, sym, subst, ◌∙◌, refl, arith}
use Rattle.std.specs.Prelude.{IsTrue, ◌↔◌}
use Rattle.std.specs.List.{filter_map, flat_map, cons_option}
use Rattle.std.specs.Option.{option_map_or}
use Rattle.std.proofs.lemmas.List.{append-nil}
use Rattle.support.proofs.ListLaws.{all_from}
use Rattle.kinds.specs.Held.{IsHeld}
use Rattle.dialect_types.specs.Trees.{type_trees}
use Rattle.dialect_core.specs.declared.numbers.OpRef.{OpRef}
use Rattle.dialect_core.specs.declared.numbers.BlockRef.{BlockRef}
use Rattle.dialect_core.specs.declared.ops.OpKind.TheVariants as K
use Rattle.dialect_core.specs.declared.ops.BlockData.{BlockData}
use Rattle.dialect_core.specs.Lists.{list_at}
use Rattle.dialect_core.specs.ContextData.{ContextData, IsSymbol, kind_at, region_at}
use Rattle.dialect_core.specs.Data.{DialectBlock, Func, block_in, func_in, held}
use Rattle.dialect_core.specs.WellFormed.{IsPlainAt, IsNarrowBlock, IsNarrowFunc, IsNarrow}
use Rattle.dialect_core.specs.Checking.{block_at, func_at, tree_at}
use Rattle.dialect_core.proofs.HoldLemmas.{stands_flat}
use Rattle.dialect_core.proofs.LineLemmas.{all_at}
use Rattle.dialect_core.proofs.TypeTestLemmas.{all_map, map_all}
use Rattle.dialect_core.proofs.FuncLemmas.{blocks_are}
use Rattle.dialect_core.proofs.FuncTestLemmas.{block_data, func_data}
use Rattle.to_llvm_ir.specs.Narrow.{IsNarrowBlockAt, AreNarrowBlocks, IsNarrowHead}
use Rattle.to_llvm_ir.proofs.OpDataLaws.{ArePlain, ops_narrow, narrow_ops}

-- where each item makes something
filter_some : {X Y : Type 0} (f : X → Option Y) (g : X → Y) (xs : List X) → ((k : ℕ) (x : X) → slice_get xs k ≡ Some x → f x ≡ Some (g x)) → filter_map f xs ≡ map g xs
filter_some f g [] h = refl
filter_some f g (x ∷ xs) h = ap (λ (o : Option _). cons_option o (filter_map f xs)) (h 0 x refl) ∙ ap (λ (ys : List _). g x ∷ ys) (filter_some f g xs (λ k y at. h (suc k) y at))

-- ---- blocks

module _ (c : ContextData) where
  narrow_block : (b : BlockRef) → ArePlain c (list_at c.lists b) → IsNarrowBlockAt c b → IsNarrowBlock (block_at c b)
  unfolding block_at
  narrow_block b plain h = record {
    args = all_map IsHeld (tree_at c) (option_map_or (λ (x : BlockData). x.args) (slice_get c.blocks b.0) []) h.args;
    ops = ops_narrow c (list_at c.lists b) plain h.ops;
  }

  block_narrow : (b : BlockRef) → ArePlain c (list_at c.lists b) → IsNarrowBlock (block_at c b) → IsNarrowBlockAt c b
  unfolding block_at
  block_narrow b plain h = record {
    args = map_all IsHeld (tree_at c) (option_map_or (λ (x : BlockData). x.args) (slice_get c.blocks b.0) []) h.args;
    ops = narrow_ops c (list_at c.lists b) plain h.ops;
  }

  abbrev AllPlain : List BlockRef → Type 0
  AllPlain bs = (k : ℕ) (b : BlockRef) → slice_get bs k ≡ Some b → ArePlain c (list_at c.lists b)

  narrow_blocks : (bs : List BlockRef) → AllPlain bs → AreNarrowBlocks c bs → All IsNarrowBlock (map (block_at c) bs) × ¬ (map (block_at c) bs ≡ [])
  narrow_blocks [] plain h = absurd h
  narrow_blocks (entry ∷ more) plain h = (
    all_map IsNarrowBlock (block_at c) (entry ∷ more) (all_from (λ (b : BlockRef). IsNarrowBlock (block_at c b)) (entry ∷ more) (λ k b at. narrow_block b (plain k b at) (all_at (IsNarrowBlockAt c) (entry ∷ more) h k b at))),
    λ none. let few = ap length none in omega (arith, few),
  )

  blocks_narrow : (bs : List BlockRef) → AllPlain bs → All IsNarrowBlock (map (block_at c) bs) → ¬ (map (block_at c) bs ≡ []) → AreNarrowBlocks c bs
  blocks_narrow [] plain all some = some refl
  blocks_narrow (entry ∷ more) plain all some =
      let narrow = map_all IsNarrowBlock (block_at c) (entry ∷ more) all in
      all_from (IsNarrowBlockAt c) (entry ∷ more) (λ k b at. block_narrow b (plain k b at) (all_at (λ (b : BlockRef). IsNarrowBlock (block_at c b)) (entry ∷ more) narrow k b at))

-- ---- functions

pub func_head : (c : ContextData) (f : OpRef) → IsNarrowFunc (func_at c f) → IsNarrowHead c f
func_head c f h = record { good = h.good; linkage = h.linkage; signature = h.signature }

module _ (c : ContextData) (f : OpRef) (there : (k : ℕ) (b : BlockRef) → slice_get (region_at c.ops f.0) k ≡ Some b → b.0 < length c.blocks) (plain : All (IsPlainAt c) (held c f.0)) where
  func_blocks : (func_at c f).blocks ≡ map (block_at c) (region_at c.ops f.0)
  func_blocks = blocks_are c f there ∙ filter_some (block_in (type_trees c.types) c) (block_at c) (region_at c.ops f.0) (λ k b at. block_data c (func_at c f) b (there k b at))

  region_plain : (k : ℕ) (b : BlockRef) → slice_get (region_at c.ops f.0) k ≡ Some b → ArePlain c (list_at c.lists b)
  region_plain k b at j o there_o =
      let w = stands_flat (list_at c.lists) (region_at c.ops f.0) b o k at (j, there_o) in
      all_at (IsPlainAt c) (held c f.0) plain w.0 o w.1

  pub func_is : (region : List BlockRef) (t : Bool) → region ≡ region_at c.ops f.0 → IsNarrowHead c f → (IsTrue t ↔ AreNarrowBlocks c region) → IsTrue t ↔ IsNarrowFunc (func_at c f)
  func_is region t is head h =
      let P : List BlockRef → Type 0 = λ bs. IsTrue t ↔ AreNarrowBlocks c bs in
      let Q : List DialectBlock → Type 0 = λ ds. All IsNarrowBlock ds × ¬ (ds ≡ []) in
      let blocks = subst P is h in (
        λ w. let d : Q (func_at c f).blocks = subst Q (sym func_blocks) (narrow_blocks c (region_at c.ops f.0) region_plain (blocks.0 w)) in record {
          good = head.good;
          linkage = head.linkage;
          signature = head.signature;
          blocks = d.0;
          body = d.1;
        },
        λ w. let d : Q (map (block_at c) (region_at c.ops f.0)) = subst Q func_blocks (w.blocks, w.body) in blocks.1 (blocks_narrow c (region_at c.ops f.0) region_plain d.0 d.1),
      )

-- ---- modules

-- the function there is narrow
abbrev pub IsNarrowHere : ContextData → OpRef → Type 0
IsNarrowHere c o = IsNarrowFunc (func_at c o)

module _ (c : ContextData) where
  each_narrow : (xs : List OpRef) → All (IsNarrowHere c) xs ↔ All IsNarrowFunc (map (func_at c) xs)
  each_narrow xs = (λ h. all_map IsNarrowFunc (func_at c) xs h, λ h. map_all IsNarrowFunc (func_at c) xs h)

  pub held_alone : (m : ℕ) (body : BlockRef) → region_at c.ops m ≡ body ∷ [] → held c m ≡ list_at c.lists body
  held_alone m body region = ap (flat_map (list_at c.lists)) region ∙ append-nil (list_at c.lists body)

  pub module_narrow : (symbols : (o : OpRef) → kind_at c.ops o ≡ Some K.Func → IsSymbol c.ops o) (m : ℕ) (body : BlockRef) → region_at c.ops m ≡ body ∷ [] → All (λ (o : OpRef). kind_at c.ops o ≡ Some K.Func) (held c m) → All (IsNarrowHere c) (list_at c.lists body) ↔ IsNarrow c m
  module_narrow symbols m body region kinds =
      let P : List OpRef → Type 0 = λ xs. All (IsNarrowHere c) xs ↔ All IsNarrowFunc (map (func_at c) (held c m)) in
      let Q : List Func → Type 0 = λ gs. All (IsNarrowHere c) (list_at c.lists body) ↔ All IsNarrowFunc gs in
      let funcs = filter_some (func_in (type_trees c.types) c) (func_at c) (held c m) (λ k o at. func_data c o (symbols o (all_at (λ (o : OpRef). kind_at c.ops o ≡ Some K.Func) (held c m) kinds k o at))) in
      subst Q (sym funcs) (subst P (held_alone m body region) (each_narrow (held c m)))
