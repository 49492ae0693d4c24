-- The LLVM name of a function is set: what that changes in the context and in the data of a module.
use Rattle.std.proofs.Common.{◌≡◌, ◌<◌, inl, inr, ℕ, Bool, true, false, nat_eq, if◌then◌else◌, List, [], Option, Some, None, length, slice_get, slice_set, get_or, ap, sym, refl, ◌∙◌}
use Rattle.std.specs.Prelude.{unwrap_or, IfSome}
use Rattle.std.specs.List.{filter_map, flat_map}
use Rattle.std.specs.Option.{option_map, option_map_or, option_and_then}
use Rattle.std.proofs.lemmas.Option.{none-some, same_Some, slice_get_within}
use Rattle.dialect_types.specs.Trees.{TypeTree, type_trees}
use Rattle.dialect_types.specs.declared.types.TypeHandle.{TypeHandle}
use Rattle.dialect_types.specs.declared.types.TypeKind.{TypeKind}
use Rattle.dialect_core.specs.declared.linkage.LinkageAttr.{LinkageAttr}
use Rattle.dialect_core.specs.declared.numbers.OpRef.{OpRef}
use Rattle.dialect_core.specs.declared.numbers.BlockRef.{BlockRef}
use Rattle.dialect_core.specs.declared.ops.Symbol.{Symbol}
use Rattle.dialect_core.specs.declared.ops.OpData.{OpData}
use Rattle.dialect_core.specs.declared.ops.BlockData.{BlockData}
use Rattle.dialect_core.specs.Lists.{list_at}
use Rattle.dialect_core.specs.ContextData.{ContextData, IsSymbol, symbol_at, with_llvm_name}
use Rattle.dialect_core.specs.Data.{DialectOp, Func, op_of, op_at, block_with, block_in, func_with, func_of, func_in, held, data_of, with_func_llvm_name, IsTyped}
use Rattle.dialect_core.proofs.ContextLemmas.{context, with_change_at}
use Rattle.dialect_core.proofs.DataLemmas.{same_module}
use Rattle.dialect_core.proofs.FilterLemmas.{filter_map_same, filter_map_then, change_get}
use Rattle.dialect_core.proofs.NewBlockLemmas.{func}
use Rattle.dialect_core.proofs.TypedLemmas.{changed_cases}

abbrev renamed : List ℕ → Symbol → Symbol
renamed name s = record s { llvm_name = Some name }

abbrev set : List ℕ → OpData → OpData
set name x = record x { symbol = option_map (renamed name) x.symbol }

-- ---- the context

-- what has a symbol is there
pub symbol_within : (ops : List OpData) (o : OpRef) → IsSymbol ops o → o.0 < length ops
symbol_within ops o h = by (slice_get ops o.0) refl h.1
  where
    by : (x : Option OpData) → slice_get ops o.0 ≡ x → option_and_then (λ (x : OpData). x.symbol) x ≡ Some h.0 → o.0 < length ops
    by None at e = absurd (none-some h.0 e)
    by (Some x) at e = slice_get_within ops o.0 x at

pub symbol_of : (ops : List OpData) (o : OpRef) (x : OpData) (h : IsSymbol ops o) → slice_get ops o.0 ≡ Some x → x.symbol ≡ Some h.0
symbol_of ops o x h at = ap (option_and_then (λ (x : OpData). x.symbol)) (sym at) ∙ h.1

-- a symbol of the type and the linkage of the one that was there, under that LLVM name
pub symbol_set : (ops : List OpData) (o : OpRef) (x : OpData) (name : List ℕ) (ty : TypeHandle) (linkage : LinkageAttr) → slice_get ops o.0 ≡ Some x → option_map (λ (s : Symbol). s.ty) (symbol_at ops o) ≡ Some ty → option_map (λ (s : Symbol). s.linkage) (symbol_at ops o) ≡ Some linkage
    → option_map (renamed name) x.symbol ≡ Some (record { ty = ty; linkage = linkage; llvm_name = Some name })
symbol_set ops o x name ty linkage at is_ty is_linkage =
    let here : symbol_at ops o ≡ x.symbol = ap (option_and_then (λ (x : OpData). x.symbol)) at in
    by x.symbol (ap (option_map (λ (s : Symbol). s.ty)) (sym here) ∙ is_ty) (ap (option_map (λ (s : Symbol). s.linkage)) (sym here) ∙ is_linkage)
  where
    by : (s : Option Symbol) → option_map (λ (s : Symbol). s.ty) s ≡ Some ty → option_map (λ (s : Symbol). s.linkage) s ≡ Some linkage → option_map (renamed name) s ≡ Some (record { ty = ty; linkage = linkage; llvm_name = Some name })
    by None t l = absurd (none-some ty t)
    by (Some s) t l = ap (λ (t : TypeHandle). Some (record { ty = t; linkage = s.linkage; llvm_name = Some name })) (same_Some s.ty ty t) ∙ ap (λ (l : LinkageAttr). Some (record { ty = ty; linkage = l; llvm_name = Some name })) (same_Some s.linkage linkage l)

pub llvm_named_view : (types : List TypeKind) (ops : List OpData) (blocks : List BlockData) (parents : List (Option BlockRef)) (lists : List (List OpRef)) (o : OpRef) (name : List ℕ) (x : OpData) (s : Symbol) → o.0 < length ops → x ≡ get_or ops o.0 x → option_map (renamed name) x.symbol ≡ Some s
    → context types (slice_set ops o.0 (record x { symbol = Some s })) blocks parents lists ≡ with_llvm_name (context types ops blocks parents lists) o name
llvm_named_view types ops blocks parents lists o name x s within is new =
    ap (λ (s : Option Symbol). context types (slice_set ops o.0 (record x { symbol = s })) blocks parents lists) (sym new)
    ∙ ap (λ (all : List OpData). context types all blocks parents lists) (sym (with_change_at (set name) o.0 ops x within is))

pub llvm_name_typed : (c : ContextData) (o : OpRef) (name : List ℕ) → IsTyped c → IsTyped (with_llvm_name c o name)
llvm_name_typed c o name h = record {
  ops = λ j y at. elim (changed_cases (set name) o.0 c.ops j y at) [
    | inl old ↦ h.ops j y old
    | inr new ↦ rw new.2 (let was = h.ops j new.0 new.1 in record { kind = was.kind; result = was.result; symbol = below new.0.symbol was.symbol })
  ];
  blocks = h.blocks;
}
  where
    below : (s : Option Symbol) → IfSome s (λ (s : Symbol). s.ty.0 < length c.types) → IfSome (option_map (renamed name) s) (λ (s : Symbol). s.ty.0 < length c.types)
    below None h = h
    below (Some s) h = h

-- ---- the data

module _ (ts : List TypeTree) (c : ContextData) (p : OpRef) (name : List ℕ) where
  abbrev after : ContextData
  after = with_llvm_name c p name

  abbrev of_that_name : Func → Func
  of_that_name x = if nat_eq x.number p.0 then record x { llvm_name = Some name } else x

  -- blocks are the same
  op_same : (o : OpRef) → op_at ts after.ops o ≡ op_at ts c.ops o
  op_same o = ap (option_and_then (op_of ts o)) (change_get (set name) p.0 c.ops o.0) ∙ by (nat_eq o.0 p.0) (slice_get c.ops o.0)
    where
      by : (t : Bool) (x : Option OpData) → option_and_then (op_of ts o) (if t then option_map (set name) x else x) ≡ option_and_then (op_of ts o) x
      by true None = refl
      by true (Some x) = refl
      by false x = refl

  block_same : (b : BlockRef) → block_in ts after b ≡ block_in ts c b
  block_same b = ap (λ (ds : List DialectOp). option_map (λ (x : BlockData). block_with ts b x ds) (slice_get c.blocks b.0)) (filter_map_same (op_at ts c.ops) (op_at ts after.ops) (list_at c.lists b) (λ k o at. op_same o))

  -- the function has the name, any other is as before
  func_after : (o : OpRef) → func_in ts after o ≡ option_map of_that_name (func_in ts c o)
  func_after o = ap (option_and_then (func_of ts after o)) (change_get (set name) p.0 c.ops o.0) ∙ by (nat_eq o.0 p.0) refl (slice_get c.ops o.0)
    where
      by : (t : Bool) → nat_eq o.0 p.0 ≡ t → (x : Option OpData) → option_and_then (func_of ts after o) (if t then option_map (set name) x else x) ≡ option_map of_that_name (option_and_then (func_of ts c o) x)
      by t same None = elim t as (λ t. option_and_then (func_of ts after o) (if t then option_map (set name) None else None) ≡ None) [ true ↦ refl | false ↦ refl ]
      by true same (Some x) = ap (func_with ts o (set name x)) (filter_map_same (block_in ts c) (block_in ts after) x.blocks (λ k b at. block_same b)) ∙ named x.symbol
        where
          named : (s : Option Symbol) → option_map (λ (s : Symbol). func ts o x s (filter_map (block_in ts c) x.blocks)) (option_map (renamed name) s) ≡ option_map of_that_name (option_map (λ (s : Symbol). func ts o x s (filter_map (block_in ts c) x.blocks)) s)
          named None = refl
          named (Some s) = let bs = filter_map (block_in ts c) x.blocks in ap (λ (v : Bool). Some (if v then func ts o x (renamed name s) bs else func ts o x s bs)) (sym same)
      by false differs (Some x) = ap (func_with ts o x) (filter_map_same (block_in ts c) (block_in ts after) x.blocks (λ k b at. block_same b)) ∙ kept x.symbol
        where
          kept : (s : Option Symbol) → option_map (λ (s : Symbol). func ts o x s (filter_map (block_in ts c) x.blocks)) s ≡ option_map of_that_name (option_map (λ (s : Symbol). func ts o x s (filter_map (block_in ts c) x.blocks)) s)
          kept None = refl
          kept (Some s) = let bs = filter_map (block_in ts c) x.blocks in ap (λ (v : Bool). Some (if v then func ts o x (renamed name s) bs else func ts o x s bs)) (sym differs)

  -- names and the operations that a module holds stay
  of_op : {X : Type 0} (g : OpData → X) (d : X) → ((x : OpData) → g (set name x) ≡ g x) → (m : ℕ) → option_map_or g (slice_get after.ops m) d ≡ option_map_or g (slice_get c.ops m) d
  of_op g d same m = ap (λ (x : Option OpData). option_map_or g x d) (change_get (set name) p.0 c.ops m) ∙ by (nat_eq m p.0) (slice_get c.ops m)
    where
      by : (t : Bool) (x : Option OpData) → option_map_or g (if t then option_map (set name) x else x) d ≡ option_map_or g x d
      by true None = refl
      by true (Some x) = same x
      by false x = refl

  held_after : (m : ℕ) → held after m ≡ held c m
  held_after m = ap (flat_map (list_at c.lists)) (of_op (λ (x : OpData). x.blocks) [] (λ x. refl) m)

pub llvm_named_data : (c : ContextData) (p : OpRef) (name : List ℕ) (m : ℕ) → data_of (with_llvm_name c p name) m ≡ with_func_llvm_name (data_of c m) p.0 name
llvm_named_data c p name m =
    let ts = type_trees c.types in
    same_module _ _ _ _ (of_op ts c p name (λ (x : OpData). unwrap_or x.name []) [] (λ x. refl) m)
    (ap (filter_map (func_in ts (with_llvm_name c p name))) (held_after ts c p name m) ∙ filter_map_then (func_in ts c) (func_in ts (with_llvm_name c p name)) (of_that_name ts c p name) (held c m) (λ i o at. func_after ts c p name o))
