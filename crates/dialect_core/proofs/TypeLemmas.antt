-- More types leave the data of a context whose numbers of types are there.
use Rattle.std.proofs.Common.{◌≡◌, ◌<◌, ℕ, List, Option, Some, None, map, length, slice_get, ap, refl, ◌∙◌, arith}
use Rattle.std.specs.List.{filter_map}
use Rattle.std.specs.Prelude.{IfSome}
use Rattle.std.specs.Option.{option_map, option_and_then}
use Rattle.std.proofs.lemmas.Option.{slice_get_within, get_or_from_slice_get}
use Rattle.dialect_types.specs.declared.types.TypeHandle.{TypeHandle}
use Rattle.dialect_types.specs.declared.types.TypeKind.{TypeKind}
use Rattle.dialect_types.specs.Trees.{TypeTree, type_at, type_trees}
use Rattle.const_attrs.specs.Trees.{AttrTree, attr_data}
use Rattle.const_attrs.proofs.KeptLaws.{tree_same}
use Rattle.dialect_core.specs.declared.numbers.OpRef.{OpRef}
use Rattle.dialect_core.specs.declared.numbers.BlockRef.{BlockRef}
use Rattle.dialect_core.specs.declared.ops.Symbol.{Symbol}
use Rattle.dialect_core.specs.declared.ops.OpKind.{OpKind}
use Rattle.dialect_core.specs.declared.ops.OpKind.TheVariants as K
use Rattle.dialect_core.specs.declared.ops.OpData.{OpData}
use Rattle.dialect_core.specs.declared.ops.BlockData.{BlockData}
use Rattle.dialect_core.specs.Lists.{list_at}
use Rattle.dialect_core.specs.ContextData.{ContextData}
use Rattle.dialect_core.specs.Lending.{with_types}
use Rattle.dialect_core.specs.Data.{Kind, ConstantOp, DialectBlock, DialectOp, kind_of, op_of, op_at, block_with, block_of, block_in, func_with, func_of, func_in, held, data_of, HasKindTypesBelow, IsTyped}
use Rattle.dialect_core.proofs.FilterLemmas.{filter_map_same}
use Rattle.dialect_core.proofs.ListLemmas.{map_same}
use Rattle.dialect_core.proofs.DataLemmas.{same_module}
use Rattle.dialect_core.proofs.NewBlockLemmas.{func}

module _ (ts us : List TypeTree) (c : ContextData) (types : List TypeKind) (typed : IsTyped c) (same : (t : TypeHandle) → t.0 < length c.types → type_at us t ≡ type_at ts t) where
  abbrev after : ContextData
  after = with_types c types

  kind_same : (k : OpKind) → HasKindTypesBelow (length c.types) k → kind_of us k ≡ kind_of ts k
  kind_same K.Module h = refl
  kind_same K.Func h = refl
  kind_same (K.Filled fill) h = refl
  kind_same (K.Constant value) h = ap (λ (x : AttrTree). Some (ConstantOp x)) (tree_same ts us (length c.types) same (attr_data value) h)
  kind_same (K.Row op) h = refl

  result_same : (t : Option TypeHandle) → IfSome t (λ (t : TypeHandle). t.0 < length c.types) → option_map (type_at us) t ≡ option_map (type_at ts) t
  result_same None h = refl
  result_same (Some t) h = ap Some (same t h)

  op_same : (o : OpRef) → op_at us c.ops o ≡ op_at ts c.ops o
  op_same o = by (slice_get c.ops o.0) refl
    where
      by : (x : Option OpData) → slice_get c.ops o.0 ≡ x → option_and_then (op_of us o) x ≡ option_and_then (op_of ts o) x
      by None at = refl
      by (Some x) at =
          let k = kind_same x.kind (typed.ops o.0 x at).kind in
          let r = result_same x.result (typed.ops o.0 x at).result in
          ap (λ (k : Option Kind). option_map (λ (k : Kind). record { number = o.0; name = x.name; kind = k; operands = x.operands; successors = x.successors; result = option_map (type_at us) x.result }) k) k
          ∙ ap (λ (r : Option TypeTree). option_map (λ (k : Kind). record { number = o.0; name = x.name; kind = k; operands = x.operands; successors = x.successors; result = r }) (kind_of ts x.kind)) r

  block_same : (p : BlockRef) → block_in us after p ≡ block_in ts c p
  block_same p = by (slice_get c.blocks p.0) refl
    where
      args_same : (x : BlockData) → slice_get c.blocks p.0 ≡ Some x → map (type_at us) x.args ≡ map (type_at ts) x.args
      args_same x at = map_same (type_at us) (type_at ts) x.args (λ k t there.
          let is = get_or_from_slice_get x.args k t t there in
          let within = typed.blocks p.0 x at k t (slice_get_within x.args k t there) in
          same t (omega (arith, within, ap (λ (t : TypeHandle). t.0) is)))

      by : (x : Option BlockData) → slice_get c.blocks p.0 ≡ x → option_map (block_of us after p) x ≡ option_map (block_of ts c p) x
      by None at = refl
      by (Some x) at =
          ap (λ (args : List TypeTree). Some (record (block_of us after p x) { args = args })) (args_same x at)
          ∙ ap (λ (ds : List DialectOp). Some (block_with ts p x ds)) (filter_map_same (op_at ts c.ops) (op_at us c.ops) (list_at c.lists p) (λ k o there. op_same o))

  func_same : (o : OpRef) → func_in us after o ≡ func_in ts c o
  func_same o = by (slice_get c.ops o.0) refl
    where
      symbol_same : (x : OpData) (bs : List DialectBlock) (s : Option Symbol) → IfSome s (λ (s : Symbol). s.ty.0 < length c.types) → option_map (λ (s : Symbol). func us o x s bs) s ≡ option_map (λ (s : Symbol). func ts o x s bs) s
      symbol_same x bs None h = refl
      symbol_same x bs (Some s) h = ap (λ (t : TypeTree). Some (record (func us o x s bs) { type = t })) (same s.ty h)

      by : (x : Option OpData) → slice_get c.ops o.0 ≡ x → option_and_then (func_of us after o) x ≡ option_and_then (func_of ts c o) x
      by None at = refl
      by (Some x) at =
          ap (func_with us o x) (filter_map_same (block_in ts c) (block_in us after) x.blocks (λ k p there. block_same p))
          ∙ symbol_same x (filter_map (block_in ts c) x.blocks) x.symbol (typed.ops o.0 x at).symbol

-- the numbers that were there mean what they meant
pub more_types_data : (c : ContextData) (types : List TypeKind) → IsTyped c → ((t : TypeHandle) → t.0 < length c.types → type_at (type_trees types) t ≡ type_at (type_trees c.types) t) → (m : ℕ) → data_of (with_types c types) m ≡ data_of c m
more_types_data c types typed same m =
    same_module _ _ _ _ refl
    (filter_map_same (func_in (type_trees c.types) c) (func_in (type_trees types) (with_types c types)) (held c m) (λ i o at. func_same (type_trees c.types) (type_trees types) c types typed same o))
