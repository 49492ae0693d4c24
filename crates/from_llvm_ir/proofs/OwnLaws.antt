-- What a module that is built has as its own: it stays so while the context grows, and more types leave its data.
use Rattle.std.proofs.Common.{ℕ, ◌≡◌, ◌<◌, ◌≤◌, ◌⊎◌, inl, inr, refl, sym, ap, subst, ◌∙◌, List, [], ◌∷◌, ◌++◌, Option, Some, None, All, length, map, slice_get, arith}
use Rattle.std.specs.List.{filter_map, flat_map}
use Rattle.std.specs.Prelude.{IfSome}
use Rattle.std.specs.Option.{option_map, option_and_then}
use Rattle.std.proofs.lemmas.List.{append-nil}
use Rattle.std.proofs.lemmas.Option.{none-some, slice_get_within}
use Rattle.dialect_types.proofs.TreeLemmas.{push_cases}
use Rattle.support.proofs.ListLaws.{all_from}
use Rattle.dialect_types.specs.declared.types.TypeHandle.{TypeHandle}
use Rattle.dialect_types.specs.declared.types.TypeKind.{TypeKind}
use Rattle.dialect_types.specs.Trees.{TypeTree, type_at, type_trees}
use Rattle.const_attrs.specs.Trees.{AttrTree, attr_data}
use Rattle.const_attrs.proofs.KeptLaws.{tree_same}
use Rattle.dialect_core.specs.declared.numbers.OpRef.{OpRef}
use Rattle.dialect_core.specs.declared.numbers.BlockRef.{BlockRef}
use Rattle.dialect_core.specs.declared.ops.Symbol.{Symbol}
use Rattle.dialect_core.specs.declared.ops.OpKind.{OpKind}
use Rattle.dialect_core.specs.declared.ops.OpKind.TheVariants as K
use Rattle.dialect_core.specs.declared.ops.OpData.{OpData}
use Rattle.dialect_core.specs.declared.ops.BlockData.{BlockData}
use Rattle.dialect_core.specs.Lists.{list_at}
use Rattle.dialect_core.specs.Lending.{with_types}
use Rattle.dialect_core.specs.ContextData.{ContextData, with_op, with_block, with_appended}
use Rattle.dialect_core.specs.Data.{Kind, ConstantOp, DialectBlock, DialectOp, kind_of, op_of, op_at, block_with, block_of, block_in, func_with, func_of, func_in, held, data_of, HasKindTypesBelow, IsTypedOp}
use Rattle.dialect_core.specs.Checking.{HasTypeWithin}
use Rattle.dialect_core.proofs.DataLemmas.{same_module}
use Rattle.dialect_core.proofs.FilterLemmas.{filter_map_same}
use Rattle.dialect_core.proofs.LineLemmas.{all_at}
use Rattle.dialect_core.proofs.ListLemmas.{map_same}
use Rattle.dialect_core.proofs.NewBlockLemmas.{func}
use Rattle.dialect_core.proofs.TypedLemmas.{changed_cases, more_types_typed}
use Rattle.from_llvm_ir.specs.Imported.{IsModuleAt, IsOwn}
use Rattle.from_llvm_ir.proofs.ApartLaws.{block_lists, pushed_all}

-- ---- what the building calls add

-- nothing stands from the ends of the lists on
pub own_start : (c : ContextData) (body : BlockRef) → body.0 ≡ length c.blocks → IsOwn c (length c.ops) body
own_start c body number = record {
  ops = λ o x from at. let small = slice_get_within c.ops o x at in absurd (omega (arith, small, from));
  blocks = λ b x from at. let small = slice_get_within c.blocks b x at in absurd (omega (arith, small, from, number));
  lists = λ b from within. absurd (omega (arith, from, within, number));
}

-- an operation without blocks, in no block
pub own_op : (c : ContextData) (x : OpData) (m : ℕ) (body : BlockRef) → IsOwn c m body → IsTypedOp (length c.types) x → x.blocks ≡ [] → IsOwn (with_op c x) m body
own_op c x m body h typed bare = record {
  ops = λ o y from at. elim (push_cases c.ops x y o at) [
    | inl old ↦ h.ops o y from old
    | inr last ↦ rw last.0 (typed, λ k b there. absurd (none-some b (sym (ap (λ (bs : List BlockRef). slice_get bs k) bare) ∙ there)))
  ];
  blocks = h.blocks;
  lists = h.lists;
}

-- an operation of the module in a block
pub own_appended : (c : ContextData) (o : OpRef) (b : BlockRef) (m : ℕ) (body : BlockRef) → IsOwn c m body → m ≤ o.0 → IsOwn (with_appended c o b) m body
own_appended c o b m body h from = record {
  ops = h.ops;
  blocks = h.blocks;
  lists = λ p behind within. pushed_all (λ (q : OpRef). m ≤ q.0) c.lists o b.0 p from (h.lists p behind within);
}

-- a block behind all others, and nothing in it
pub own_block : (c : ContextData) (b : BlockRef) (x : BlockData) (m : ℕ) (body : BlockRef) → IsOwn c m body → b.0 ≡ length c.blocks → body.0 ≤ b.0 → All (λ (t : TypeHandle). t.0 < length c.types) x.args → list_at (with_block c b x).lists b ≡ []
    → IsOwn (with_block c b x) m body
own_block c b x m body h number behind typed empty = record {
  ops = λ o y from at. elim (changed_cases (λ (z : OpData). record z { blocks = z.blocks ++ b ∷ [] }) x.holder.0 c.ops o y at) [
    | inl old ↦ h.ops o y from old
    | inr is ↦ let was = h.ops o is.0 from is.1 in rw is.2 (record { kind = was.0.kind; result = was.0.result; symbol = was.0.symbol }, λ k p there. own_more is.0.blocks (was.1) k p (push_cases is.0.blocks b p k there))
  ];
  blocks = λ p y from at. elim (push_cases c.blocks x y p at) [ inl old ↦ h.blocks p y from old | inr last ↦ rw last.0 typed ];
  lists = λ p from within. block_lists c b x (λ (q : OpRef). m ≤ q.0) p number empty within (λ small. h.lists p from small);
}
  where
    own_more : (bs : List BlockRef) → ((k : ℕ) (p : BlockRef) → slice_get bs k ≡ Some p → body.0 ≤ p.0) → (k : ℕ) (p : BlockRef) → (slice_get bs k ≡ Some p) ⊎ ((p ≡ b) × (k ≡ length bs)) → body.0 ≤ p.0
    own_more bs old k p (inl at) = old k p at
    own_more bs old k p (inr last) = rw last.0 behind

-- ---- more types

-- the numbers of an operation stay there
op_still : (old new : List TypeKind) (x : OpData) → length old ≤ length new → IsTypedOp (length old) x → IsTypedOp (length new) x
op_still old new x more h = (more_types_typed alone new (record { ops = λ o y at. only o y at; blocks = λ b y at. absurd (none-some y at) }) more).ops 0 x refl
  where
    alone : ContextData
    alone = record { types = old; ops = x ∷ []; blocks = []; parents = []; lists = [] }

    only : (o : ℕ) (y : OpData) → slice_get (x ∷ []) o ≡ Some y → IsTypedOp (length old) y
    only ℕ.zero y at = let same : x ≡ y = cc at in subst (IsTypedOp (length old)) same h
    only (ℕ.suc o) y at = absurd (none-some y at)

pub own_types : (c : ContextData) (types : List TypeKind) (m : ℕ) (body : BlockRef) → IsOwn c m body → length c.types ≤ length types → IsOwn (with_types c types) m body
own_types c types m body h more = record {
  ops = λ o x from at. (op_still c.types types x more (h.ops o x from at).0, (h.ops o x from at).1);
  blocks = λ b x from at k d l. omega (arith, h.blocks b x from at k d l, more);
  lists = h.lists;
}

module _ (ts us : List TypeTree) (c : ContextData) (types : List TypeKind) (m : ℕ) (body : BlockRef) (own : IsOwn c m body) (same : (t : TypeHandle) → t.0 < length c.types → type_at us t ≡ type_at ts t) where
  abbrev after : ContextData
  after = with_types c types

  kind_same : (k : OpKind) → HasKindTypesBelow (length c.types) k → kind_of us k ≡ kind_of ts k
  kind_same K.Module h = refl
  kind_same K.Func h = refl
  kind_same (K.Constant value) h = ap (λ (x : AttrTree). Some (ConstantOp x)) (tree_same ts us (length c.types) same (attr_data value) h)
  kind_same (K.Filled fill) h = refl
  kind_same (K.Row op) h = refl

  result_same : (t : Option TypeHandle) → IfSome t (λ (t : TypeHandle). t.0 < length c.types) → option_map (type_at us) t ≡ option_map (type_at ts) t
  result_same None h = refl
  result_same (Some t) h = ap Some (same t h)

  op_same : (o : OpRef) → m ≤ o.0 → op_at us c.ops o ≡ op_at ts c.ops o
  op_same o from = by (slice_get c.ops o.0) refl
    where
      by : (x : Option OpData) → slice_get c.ops o.0 ≡ x → option_and_then (op_of us o) x ≡ option_and_then (op_of ts o) x
      by None at = refl
      by (Some x) at =
          let typed = (own.ops o.0 x from at).0 in
          ap (λ (k : Option Kind). option_map (λ (k : Kind). record { number = o.0; name = x.name; kind = k; operands = x.operands; successors = x.successors; result = option_map (type_at us) x.result }) k) (kind_same x.kind typed.kind)
          ∙ ap (λ (r : Option TypeTree). option_map (λ (k : Kind). record { number = o.0; name = x.name; kind = k; operands = x.operands; successors = x.successors; result = r }) (kind_of ts x.kind)) (result_same x.result typed.result)

  block_same : (p : BlockRef) → body.0 ≤ p.0 → block_in us after p ≡ block_in ts c p
  block_same p from = by (slice_get c.blocks p.0) refl
    where
      args_same : (x : BlockData) → slice_get c.blocks p.0 ≡ Some x → map (type_at us) x.args ≡ map (type_at ts) x.args
      args_same x at = map_same (type_at us) (type_at ts) x.args (λ k t there. same t (all_at (λ (t : TypeHandle). t.0 < length c.types) x.args (own.blocks p.0 x from at) k t there))

      by : (x : Option BlockData) → slice_get c.blocks p.0 ≡ x → option_map (block_of us after p) x ≡ option_map (block_of ts c p) x
      by None at = refl
      by (Some x) at =
          ap (λ (args : List TypeTree). Some (record (block_of us after p x) { args = args })) (args_same x at)
          ∙ ap (λ (ds : List DialectOp). Some (block_with ts p x ds)) (filter_map_same (op_at ts c.ops) (op_at us c.ops) (list_at c.lists p) (λ k o there.
          op_same o (all_at (λ (q : OpRef). m ≤ q.0) (list_at c.lists p) (own.lists p from (slice_get_within c.blocks p.0 x at)) k o there)))

  func_same : (o : OpRef) → m ≤ o.0 → func_in us after o ≡ func_in ts c o
  func_same o from = by (slice_get c.ops o.0) refl
    where
      symbol_same : (x : OpData) (bs : List DialectBlock) (s : Option Symbol) → IfSome s (λ (s : Symbol). s.ty.0 < length c.types) → option_map (λ (s : Symbol). func us o x s bs) s ≡ option_map (λ (s : Symbol). func ts o x s bs) s
      symbol_same x bs None h = refl
      symbol_same x bs (Some s) h = ap (λ (t : TypeTree). Some (record (func us o x s bs) { type = t })) (same s.ty h)

      by : (x : Option OpData) → slice_get c.ops o.0 ≡ x → option_and_then (func_of us after o) x ≡ option_and_then (func_of ts c o) x
      by None at = refl
      by (Some x) at =
          ap (func_with us o x) (filter_map_same (block_in ts c) (block_in us after) x.blocks (λ k p there. block_same p ((own.ops o.0 x from at).1 k p there)))
          ∙ symbol_same x (filter_map (block_in ts c) x.blocks) x.symbol (own.ops o.0 x from at).0.symbol

-- the operations that the module holds are those of its block for functions
pub held_list : (c : ContextData) (m : ℕ) (body : BlockRef) → IsModuleAt c m body → held c m ≡ list_at c.lists body
held_list c m body h = ap (λ (bs : List BlockRef). flat_map (list_at c.lists) bs) h.region ∙ append-nil (list_at c.lists body)

-- and are its own
pub held_own : (c : ContextData) (m : ℕ) (body : BlockRef) → IsModuleAt c m body → IsOwn c m body → (i : ℕ) (o : OpRef) → slice_get (held c m) i ≡ Some o → m ≤ o.0
held_own c m body h own i o at = all_at (λ (q : OpRef). m ≤ q.0) (list_at c.lists body) (own.lists body (omega arith) h.block) i o (ap (λ (os : List OpRef). slice_get os i) (sym (held_list c m body h)) ∙ at)

-- and the types of its functions are there
pub held_types : (c : ContextData) (m : ℕ) (body : BlockRef) → IsModuleAt c m body → IsOwn c m body → All (HasTypeWithin c) (list_at c.lists body)
held_types c m body h own = all_from (HasTypeWithin c) (list_at c.lists body) (λ i o at. by o (all_at (λ (q : OpRef). m ≤ q.0) (list_at c.lists body) (own.lists body (omega arith) h.block) i o at) (slice_get c.ops o.0) refl)
  where
    by : (o : OpRef) → m ≤ o.0 → (x : Option OpData) → slice_get c.ops o.0 ≡ x → IfSome (option_and_then (λ (x : OpData). x.symbol) x) (λ (s : Symbol). s.ty.0 < length c.types)
    by o from None at = tt
    by o from (Some x) at = (own.ops o.0 x from at).0.symbol

-- the module's numbers of types mean what they meant
pub own_data : (c : ContextData) (types : List TypeKind) (m : ℕ) (body : BlockRef) → IsModuleAt c m body → IsOwn c m body → ((t : TypeHandle) → t.0 < length c.types → type_at (type_trees types) t ≡ type_at (type_trees c.types) t)
    → data_of (with_types c types) m ≡ data_of c m
own_data c types m body h own same =
    same_module _ _ _ _ refl
    (filter_map_same (func_in (type_trees c.types) c) (func_in (type_trees types) (with_types c types)) (held c m) (λ i o at. func_same (type_trees c.types) (type_trees types) c types m body own same o (held_own c m body h own i o at)))
