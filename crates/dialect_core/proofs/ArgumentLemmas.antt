-- A new argument of a block is its last in the data of a module.
use Rattle.std.proofs.Common.{◌≡◌, ℕ, Bool, true, false, nat_eq, if◌then◌else◌, List, [], ◌∷◌, ◌++◌, Option, Some, None, slice_get, ap, sym, refl, ◌∙◌}
use Rattle.std.specs.Option.{option_map, option_and_then}
use Rattle.std.proofs.lemmas.List.{map-append}
use Rattle.dialect_types.specs.declared.types.TypeHandle.{TypeHandle}
use Rattle.dialect_types.specs.Trees.{TypeTree, type_at, type_trees}
use Rattle.dialect_core.specs.declared.numbers.OpRef.{OpRef}
use Rattle.dialect_core.specs.declared.numbers.BlockRef.{BlockRef}
use Rattle.dialect_core.specs.declared.ops.OpData.{OpData}
use Rattle.dialect_core.specs.declared.ops.BlockData.{BlockData}
use Rattle.dialect_core.specs.ContextData.{ContextData, with_argument}
use Rattle.dialect_core.specs.Data.{DialectBlock, block_of, block_in, func_of, func_in, held, data_of, with_block_arg}
use Rattle.dialect_core.proofs.FilterLemmas.{filter_map_then, change_get}
use Rattle.dialect_core.proofs.DataLemmas.{same_module}
use Rattle.dialect_core.proofs.InsertLemmas.{in_func, func_then}

module _ (ts : List TypeTree) (c : ContextData) (b : BlockRef) (ty : TypeHandle) where
  abbrev after : ContextData
  after = with_argument c b ty

  abbrev grown : DialectBlock → DialectBlock
  grown y = record y { args = y.args ++ type_at ts ty ∷ [] }

  block_after : (p : BlockRef) → block_in ts after p ≡ option_map (λ (y : DialectBlock). if nat_eq y.number b.0 then grown y else y) (block_in ts c p)
  block_after p = ap (option_map (block_of ts after p)) (change_get (λ (x : BlockData). record x { args = x.args ++ ty ∷ [] }) b.0 c.blocks p.0) ∙ by (nat_eq p.0 b.0) refl (slice_get c.blocks p.0)
    where
      by : (t : Bool) → nat_eq p.0 b.0 ≡ t → (x : Option BlockData)
          → option_map (block_of ts after p) (if t then option_map (λ (x : BlockData). record x { args = x.args ++ ty ∷ [] }) x else x) ≡ option_map (λ (y : DialectBlock). if nat_eq y.number b.0 then grown y else y) (option_map (block_of ts c p) x)
      by true is None = refl
      by false is None = refl
      by true is (Some x) =
          ap (λ (args : List TypeTree). Some (record (block_of ts c p x) { args = args })) (map-append (type_at ts) x.args (ty ∷ []))
          ∙ ap (λ (v : Bool). Some (if v then grown (block_of ts c p x) else block_of ts c p x)) (sym is)
      by false is (Some x) = ap (λ (v : Bool). Some (if v then grown (block_of ts c p x) else block_of ts c p x)) (sym is)

  func_after : (o : OpRef) → func_in ts after o ≡ option_map (in_func grown b.0) (func_in ts c o)
  func_after o = by (slice_get c.ops o.0)
    where
      by : (x : Option OpData) → option_and_then (func_of ts after o) x ≡ option_map (in_func grown b.0) (option_and_then (func_of ts c o) x)
      by None = refl
      by (Some x) = func_then ts c after grown b.0 o x (filter_map_then (block_in ts c) (block_in ts after) (λ (y : DialectBlock). if nat_eq y.number b.0 then grown y else y) x.blocks (λ k p at. block_after p))

pub argument_data : (c : ContextData) (b : BlockRef) (ty : TypeHandle) (m : ℕ) → data_of (with_argument c b ty) m ≡ with_block_arg (data_of c m) b.0 (type_at (type_trees c.types) ty)
argument_data c b ty m =
    same_module _ _ _ _ refl
    (filter_map_then (func_in (type_trees c.types) c) (func_in (type_trees c.types) (with_argument c b ty)) (in_func (grown (type_trees c.types) c b ty) b.0) (held c m) (λ i o at. func_after (type_trees c.types) c b ty o))
