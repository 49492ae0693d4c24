-- A new block is the last, empty block of its function in the data of a module.
use Rattle.std.proofs.Common.{◌≡◌, ◌<◌, ℕ, Bool, true, false, nat_eq, if◌then◌else◌, List, [], ◌∷◌, ◌++◌, Option, Some, None, map, length, slice_get, ap, sym, refl, ◌∙◌, arith}
use Rattle.std.specs.Prelude.{unwrap_or}
use Rattle.std.specs.List.{filter_map, flat_map, cons_option}
use Rattle.std.specs.Option.{option_map, option_map_or, option_and_then}
use Rattle.std.proofs.lemmas.Option.{slice_get_within, get_or_from_slice_get, unwrap_or-slice_get}
use Rattle.support.proofs.ListLaws.{slice_get-before}
use Rattle.dialect_types.specs.Trees.{TypeTree, type_at, type_trees}
use Rattle.dialect_core.specs.declared.numbers.OpRef.{OpRef}
use Rattle.dialect_core.specs.declared.numbers.BlockRef.{BlockRef}
use Rattle.dialect_core.specs.declared.ops.Symbol.{Symbol}
use Rattle.dialect_core.specs.declared.ops.OpData.{OpData}
use Rattle.dialect_core.specs.declared.ops.BlockData.{BlockData}
use Rattle.dialect_core.specs.Lists.{list_at}
use Rattle.dialect_core.specs.ContextData.{ContextData, with_block, IsContext}
use Rattle.dialect_core.specs.Data.{DialectBlock, DialectOp, Func, op_of, op_at, block_with, block_of, block_in, func_with, func_of, func_in, held, data_of, more_block, with_func_block}
use Rattle.dialect_core.proofs.FilterLemmas.{filter_map_same, filter_map_then, filter_map-push, flat_map_same, flat_map-push, change_get}
use Rattle.dialect_core.proofs.ListLemmas.{slice_get-last}
use Rattle.dialect_core.proofs.DataLemmas.{same_module}

-- a function by its parts
abbrev pub func : List TypeTree → OpRef → OpData → Symbol → List DialectBlock → Func
func ts o x s blocks = record { number = o.0; name = unwrap_or x.name []; llvm_name = s.llvm_name; type = type_at ts s.ty; linkage = s.linkage; blocks = blocks }

-- the last list, which is new, has nothing
pub last_list : (lists : List (List OpRef)) (b : BlockRef) → b.0 ≡ length lists → list_at (lists ++ [] ∷ []) b ≡ []
last_list lists b at = get_or_from_slice_get (lists ++ [] ∷ []) b.0 [] [] (ap (slice_get (lists ++ [] ∷ [])) at ∙ slice_get-last lists [])

module _ (ts : List TypeTree) (c : ContextData) (b : BlockRef) (new : BlockData) (h : IsContext c.ops c.blocks c.parents c.lists) (number : b.0 ≡ length c.blocks) where
  abbrev after : ContextData
  after = with_block c b new

  abbrev grown : OpData → OpData
  grown x = record x { blocks = x.blocks ++ b ∷ [] }

  abbrev new_block : DialectBlock
  new_block = block_with ts b new []

  -- the list of an old block stays, the new block has none
  old_list : (p : BlockRef) → p.0 < length c.blocks → list_at after.lists p ≡ list_at c.lists p
  old_list p within =
      sym (unwrap_or-slice_get after.lists p.0 []) ∙ ap (λ (xs : Option (List OpRef)). unwrap_or xs []) (slice_get-before c.lists ([] ∷ []) p.0 (omega (arith, h.list_each))) ∙ unwrap_or-slice_get c.lists p.0 []

  new_list : list_at after.lists b ≡ []
  new_list = last_list c.lists b (omega (arith, h.list_each))

  -- operations of blocks are the same
  op_same : (o : OpRef) → op_at ts after.ops o ≡ op_at ts c.ops o
  op_same o = ap (option_and_then (op_of ts o)) (change_get grown new.holder.0 c.ops o.0) ∙ by (nat_eq o.0 new.holder.0) (slice_get c.ops o.0)
    where
      by : (t : Bool) (x : Option OpData) → option_and_then (op_of ts o) (if t then option_map grown x else x) ≡ option_and_then (op_of ts o) x
      by true None = refl
      by true (Some x) = refl
      by false x = refl

  old_block : (p : BlockRef) → p.0 < length c.blocks → block_in ts after p ≡ block_in ts c p
  old_block p within =
      ap (λ (x : Option BlockData). option_map (block_of ts after p) x) (slice_get-before c.blocks (new ∷ []) p.0 within)
      ∙ ap (λ (ds : List DialectOp). option_map (λ (x : BlockData). block_with ts p x ds) (slice_get c.blocks p.0))
      (ap (filter_map (op_at ts after.ops)) (old_list p within) ∙ filter_map_same (op_at ts c.ops) (op_at ts after.ops) (list_at c.lists p) (λ k o at. op_same o))

  its_block : block_in ts after b ≡ Some new_block
  its_block =
      ap (λ (x : Option BlockData). option_map (block_of ts after b) x) (ap (slice_get after.blocks) number ∙ slice_get-last c.blocks new)
      ∙ ap (λ (xs : List OpRef). Some (block_with ts b new (filter_map (op_at ts after.ops) xs))) new_list

  -- the blocks of a region that was there
  region_within : (x : OpData) (o : ℕ) → slice_get c.ops o ≡ Some x → (k : ℕ) (p : BlockRef) → slice_get x.blocks k ≡ Some p → p.0 < length c.blocks
  region_within x o at k p there =
      let is = get_or_from_slice_get x.blocks k p p there in
      let within = (h.within o x at).blocks k p (slice_get_within x.blocks k p there) in
      omega (arith, within, ap (λ (q : BlockRef). q.0) is)

  old_region : (x : OpData) (o : ℕ) → slice_get c.ops o ≡ Some x → filter_map (block_in ts after) x.blocks ≡ filter_map (block_in ts c) x.blocks
  old_region x o at = filter_map_same (block_in ts c) (block_in ts after) x.blocks (λ k p there. old_block p (region_within x o at k p there))

  -- a function that holds the block has it last, any other is as before
  grown_func : (o : OpRef) (x : OpData) → o.0 ≡ new.holder.0 → slice_get c.ops o.0 ≡ Some x → func_of ts after o (grown x) ≡ option_map (more_block new.holder.0 new_block) (func_of ts c o x)
  grown_func o x same at =
      ap (func_with ts o x) (filter_map-push (block_in ts after) x.blocks b ∙ ap (λ (y : Option DialectBlock). filter_map (block_in ts after) x.blocks ++ cons_option y []) its_block ∙ ap (λ (ys : List DialectBlock). ys ++ new_block ∷ []) (old_region x o.0 at))
      ∙ by x.symbol (nat_eq o.0 new.holder.0) refl (grind (arith, same))
    where
      by : (s : Option Symbol) (t : Bool) → nat_eq o.0 new.holder.0 ≡ t → t ≡ true
          → option_map (λ (s : Symbol). func ts o x s (filter_map (block_in ts c) x.blocks ++ new_block ∷ [])) s ≡ option_map (more_block new.holder.0 new_block) (option_map (λ (s : Symbol). func ts o x s (filter_map (block_in ts c) x.blocks)) s)
      by None t is it = refl
      by (Some s) t is it = ap (λ (v : Bool). Some (if v then func ts o x s (filter_map (block_in ts c) x.blocks ++ new_block ∷ []) else func ts o x s (filter_map (block_in ts c) x.blocks))) (sym (is ∙ it))

  other_func : (o : OpRef) (x : OpData) → ¬ (o.0 ≡ new.holder.0) → slice_get c.ops o.0 ≡ Some x → func_of ts after o x ≡ option_map (more_block new.holder.0 new_block) (func_of ts c o x)
  other_func o x apart at = ap (func_with ts o x) (old_region x o.0 at) ∙ by x.symbol (nat_eq o.0 new.holder.0) refl (grind (arith, apart))
    where
      by : (s : Option Symbol) (t : Bool) → nat_eq o.0 new.holder.0 ≡ t → t ≡ false
          → option_map (λ (s : Symbol). func ts o x s (filter_map (block_in ts c) x.blocks)) s ≡ option_map (more_block new.holder.0 new_block) (option_map (λ (s : Symbol). func ts o x s (filter_map (block_in ts c) x.blocks)) s)
      by None t is it = refl
      by (Some s) t is it = ap (λ (v : Bool). Some (if v then func ts o x s (filter_map (block_in ts c) x.blocks ++ new_block ∷ []) else func ts o x s (filter_map (block_in ts c) x.blocks))) (sym (is ∙ it))

  func_after : (o : OpRef) → func_in ts after o ≡ option_map (more_block new.holder.0 new_block) (func_in ts c o)
  func_after o = ap (option_and_then (func_of ts after o)) (change_get grown new.holder.0 c.ops o.0) ∙ by (nat_eq o.0 new.holder.0) refl (slice_get c.ops o.0) refl
    where
      by : (t : Bool) → nat_eq o.0 new.holder.0 ≡ t → (x : Option OpData) → slice_get c.ops o.0 ≡ x
          → option_and_then (func_of ts after o) (if t then option_map grown x else x) ≡ option_map (more_block new.holder.0 new_block) (option_and_then (func_of ts c o) x)
      by true same None at = refl
      by true same (Some x) at = grown_func o x (grind (arith, same)) at
      by false differs None at = refl
      by false differs (Some x) at = other_func o x (λ same. grind (arith, differs, same)) at

  -- the operations that a module holds stay
  held_lists : (x : OpData) (m : ℕ) → slice_get c.ops m ≡ Some x → flat_map (list_at after.lists) x.blocks ≡ flat_map (list_at c.lists) x.blocks
  held_lists x m at = flat_map_same (list_at c.lists) (list_at after.lists) x.blocks (λ k p there. old_list p (region_within x m at k p there))

  held_after : (m : ℕ) → held after m ≡ held c m
  held_after m = ap (λ (x : Option OpData). flat_map (list_at after.lists) (option_map_or (λ (x : OpData). x.blocks) x [])) (change_get grown new.holder.0 c.ops m) ∙ by (nat_eq m new.holder.0) (slice_get c.ops m) refl
    where
      by : (t : Bool) (x : Option OpData) → slice_get c.ops m ≡ x
          → flat_map (list_at after.lists) (option_map_or (λ (x : OpData). x.blocks) (if t then option_map grown x else x) []) ≡ flat_map (list_at c.lists) (option_map_or (λ (x : OpData). x.blocks) x [])
      by true None at = refl
      by true (Some x) at = flat_map-push (list_at after.lists) x.blocks b new_list ∙ held_lists x m at
      by false None at = refl
      by false (Some x) at = held_lists x m at

  name_after : (m : ℕ) → option_map_or (λ (x : OpData). unwrap_or x.name []) (slice_get after.ops m) [] ≡ option_map_or (λ (x : OpData). unwrap_or x.name []) (slice_get c.ops m) []
  name_after m = ap (λ (x : Option OpData). option_map_or (λ (x : OpData). unwrap_or x.name []) x []) (change_get grown new.holder.0 c.ops m) ∙ by (nat_eq m new.holder.0) (slice_get c.ops m)
    where
      by : (t : Bool) (x : Option OpData) → option_map_or (λ (x : OpData). unwrap_or x.name []) (if t then option_map grown x else x) [] ≡ option_map_or (λ (x : OpData). unwrap_or x.name []) x []
      by true None = refl
      by true (Some x) = refl
      by false x = refl

  functions_after : (m : ℕ) → filter_map (func_in ts after) (held after m) ≡ map (more_block new.holder.0 new_block) (filter_map (func_in ts c) (held c m))
  functions_after m = ap (filter_map (func_in ts after)) (held_after m) ∙ filter_map_then (func_in ts c) (func_in ts after) (more_block new.holder.0 new_block) (held c m) (λ i o at. func_after o)

pub new_block_data : (c : ContextData) (b : BlockRef) (new : BlockData) → IsContext c.ops c.blocks c.parents c.lists → b.0 ≡ length c.blocks → (m : ℕ) → data_of (with_block c b new) m ≡ with_func_block (data_of c m) new.holder.0 (block_with (type_trees c.types) b new [])
new_block_data c b new h number m = same_module _ _ _ _ (name_after (type_trees c.types) c b new h number m) (functions_after (type_trees c.types) c b new h number m)
