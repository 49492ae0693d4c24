-- New operations and the names of operations in no block leave the data of a module as it is.
use Rattle.std.proofs.Common.{◌≡◌, ◌<◌, ℕ, List, [], ◌∷◌, ◌++◌, Option, Some, None, length, slice_get, ap, sym, refl, ◌∙◌, arith}
use Rattle.std.specs.Prelude.{unwrap_or}
use Rattle.std.specs.List.{filter_map, flat_map}
use Rattle.std.specs.Option.{option_map, option_map_or, option_and_then}
use Rattle.std.proofs.lemmas.Option.{slice_get_within, get_or_from_slice_get, unwrap_or-slice_get, none-some, same_Some}
use Rattle.support.proofs.ListLaws.{slice_get-before}
use Rattle.support.specs.Changes.{with_change}
use Rattle.dialect_core.specs.declared.numbers.OpRef.{OpRef}
use Rattle.dialect_core.specs.declared.numbers.BlockRef.{BlockRef}
use Rattle.dialect_core.specs.declared.ops.OpData.{OpData}
use Rattle.dialect_core.specs.declared.ops.BlockData.{BlockData}
use Rattle.dialect_core.specs.Lists.{list_at}
use Rattle.dialect_core.specs.ContextData.{ContextData, with_op, with_name, IsContext, region_at}
use Rattle.dialect_core.specs.Data.{DialectModule, DialectOp, Func, op_of, op_at, block_with, block_in, func_with, func_of, func_in, held, data_of}
use Rattle.dialect_types.specs.Trees.{TypeTree, type_trees}
use Rattle.dialect_core.proofs.FilterLemmas.{filter_map_same, flat_member, change_get_other}
use Rattle.dialect_core.proofs.ListLemmas.{slice_get-last}

abbrev pub module_data : List ℕ → List Func → DialectModule
module_data name functions = record { name = name; functions = functions }

pub same_module : (name name' : List ℕ) (fs fs' : List Func) → name ≡ name' → fs ≡ fs' → module_data name fs ≡ module_data name' fs'
same_module name name' fs fs' a b = cc

-- an operation of a list stands in the list's block
pub standing_at : (c : ContextData) → IsContext c.ops c.blocks c.parents c.lists → (b : BlockRef) (k : ℕ) (o : OpRef) → slice_get (list_at c.lists b) k ≡ Some o → slice_get c.parents o.0 ≡ Some (Some b)
standing_at c h b k o at = by (slice_get c.lists b.0) refl
  where
    by : (xs : Option (List OpRef)) → slice_get c.lists b.0 ≡ xs → slice_get c.parents o.0 ≡ Some (Some b)
    by None gone =
        let none : list_at c.lists b ≡ [] = sym (unwrap_or-slice_get c.lists b.0 []) ∙ ap (λ (xs : Option (List OpRef)). unwrap_or xs []) gone in
        absurd (none-some o (ap (λ (xs : List OpRef). slice_get xs k) (sym none) ∙ at))
    by (Some xs) there =
        let list = get_or_from_slice_get c.lists b.0 xs [] there in
        let here : slice_get xs k ≡ Some o = ap (λ (xs : List OpRef). slice_get xs k) (sym list) ∙ at in
        let is = get_or_from_slice_get xs k o o here in
        ap (λ (o : OpRef). slice_get c.parents o.0) (sym is) ∙ h.standing b.0 xs there k o (slice_get_within xs k o here)

-- ---- contexts that differ in operations that stand in no block

module _ (ts : List TypeTree) (c : ContextData) (ops : List OpData) (parents : List (Option BlockRef)) (agree : (b : BlockRef) (k : ℕ) (o : OpRef) → slice_get (list_at c.lists b) k ≡ Some o → slice_get ops o.0 ≡ slice_get c.ops o.0) where
  abbrev other : ContextData
  other = record c { ops = ops; parents = parents }

  block_same : (b : BlockRef) → block_in ts other b ≡ block_in ts c b
  block_same b =
      ap (λ (ds : List DialectOp). option_map (λ (x : BlockData). block_with ts b x ds) (slice_get c.blocks b.0))
      (filter_map_same (op_at ts c.ops) (op_at ts ops) (list_at c.lists b) (λ k o at. ap (option_and_then (op_of ts o)) (agree b k o at)))

  func_same : (o : OpRef) → slice_get ops o.0 ≡ slice_get c.ops o.0 → func_in ts other o ≡ func_in ts c o
  func_same o same = ap (option_and_then (func_of ts other o)) same ∙ by (slice_get c.ops o.0)
    where
      by : (x : Option OpData) → option_and_then (func_of ts other o) x ≡ option_and_then (func_of ts c o) x
      by None = refl
      by (Some x) = ap (func_with ts o x) (filter_map_same (block_in ts c) (block_in ts other) x.blocks (λ k b at. block_same b))

  pub same_functions : (m : ℕ) → slice_get ops m ≡ slice_get c.ops m → filter_map (func_in ts other) (held other m) ≡ filter_map (func_in ts c) (held c m)
  same_functions m same =
      ap (λ (x : Option OpData). filter_map (func_in ts other) (flat_map (list_at c.lists) (option_map_or (λ (x : OpData). x.blocks) x []))) same
      ∙ filter_map_same (func_in ts c) (func_in ts other) (held c m) (λ i o at.
      let there = flat_member (list_at c.lists) (region_at c.ops m) i o at in
      func_same o (agree there.0 there.1 o there.2))

pub same_ops : (c : ContextData) (ops : List OpData) (parents : List (Option BlockRef)) (m : ℕ) → ((b : BlockRef) (k : ℕ) (o : OpRef) → slice_get (list_at c.lists b) k ≡ Some o → slice_get ops o.0 ≡ slice_get c.ops o.0) → slice_get ops m ≡ slice_get c.ops m
    → data_of (record c { ops = ops; parents = parents }) m ≡ data_of c m
same_ops c ops parents m agree same =
    same_module _ _ _ _ (ap (λ (x : Option OpData). option_map_or (λ (x : OpData). unwrap_or x.name []) x []) same) (same_functions (type_trees c.types) c ops parents agree m same)

-- an operation of a list is there
listed_within : (c : ContextData) → IsContext c.ops c.blocks c.parents c.lists → (b : BlockRef) (k : ℕ) (o : OpRef) → slice_get (list_at c.lists b) k ≡ Some o → o.0 < length c.ops
listed_within c h b k o at = omega (arith, h.parent_each, slice_get_within c.parents o.0 _ (standing_at c h b k o at))

-- a new operation in no block
pub new_op_data : (c : ContextData) (x : OpData) (m : ℕ) → IsContext c.ops c.blocks c.parents c.lists → m < length c.ops → data_of (with_op c x) m ≡ data_of c m
new_op_data c x m h within =
    same_ops c (c.ops ++ x ∷ []) (c.parents ++ None ∷ []) m (λ b k o at. slice_get-before c.ops (x ∷ []) o.0 (listed_within c h b k o at)) (slice_get-before c.ops (x ∷ []) m within)

-- an operation in no block is named
pub named_data : (c : ContextData) (p : OpRef) (name : List ℕ) (m : ℕ) → IsContext c.ops c.blocks c.parents c.lists → slice_get c.parents p.0 ≡ Some None → ¬ (m ≡ p.0) → data_of (with_name c p name) m ≡ data_of c m
named_data c p name m h free apart =
    same_ops c (with_change (λ (x : OpData). record x { name = Some name }) p.0 c.ops) c.parents m
    (λ b k o at. unchanged o.0 (λ same. let clash = sym free ∙ ap (slice_get c.parents) (sym same) ∙ standing_at c h b k o at in none-some b (same_Some _ _ clash)))
    (unchanged m apart)
  where
    unchanged : (n : ℕ) → ¬ (n ≡ p.0) → slice_get (with_change (λ (x : OpData). record x { name = Some name }) p.0 c.ops) n ≡ slice_get c.ops n
    unchanged n differs = change_get_other (λ (x : OpData). record x { name = Some name }) p.0 c.ops n differs

-- a new module is empty
pub new_module_data : (c : ContextData) (x : OpData) (name : List ℕ) → x.name ≡ Some name → x.blocks ≡ [] → data_of (with_op c x) (length c.ops) ≡ module_data name []
new_module_data c x name is_name no_blocks =
    let here = slice_get-last c.ops x in
    same_module _ _ _ _
    (ap (λ (x : Option OpData). option_map_or (λ (x : OpData). unwrap_or x.name []) x []) here ∙ ap (λ (n : Option (List ℕ)). unwrap_or n []) is_name)
    (ap (λ (y : Option OpData). filter_map (func_in (type_trees c.types) (with_op c x)) (flat_map (list_at c.lists) (option_map_or (λ (z : OpData). z.blocks) y []))) here
    ∙ ap (λ (bs : List BlockRef). filter_map (func_in (type_trees c.types) (with_op c x)) (flat_map (list_at c.lists) bs)) no_blocks)

-- ---- a new module

-- a new operation without blocks holds no functions
pub new_bare : (c : ContextData) (x : OpData) (n : ℕ) → n ≡ length c.ops → x.blocks ≡ [] → data_of (with_op c x) n ≡ module_data (unwrap_or x.name []) []
new_bare c x n is bare =
    let at : slice_get (c.ops ++ x ∷ []) n ≡ Some x = ap (slice_get (c.ops ++ x ∷ [])) is ∙ slice_get-last c.ops x in
    same_module (data_of (with_op c x) n).name (unwrap_or x.name []) (data_of (with_op c x) n).functions [] (ap (λ (o : Option OpData). option_map_or (λ (y : OpData). unwrap_or y.name []) o []) at)
    (ap (λ (o : Option OpData). filter_map (func_in (type_trees c.types) (with_op c x)) (flat_map (list_at c.lists) (option_map_or (λ (y : OpData). y.blocks) o []))) at
    ∙ ap (λ (bs : List BlockRef). filter_map (func_in (type_trees c.types) (with_op c x)) (flat_map (list_at c.lists) bs)) bare)
