-- What a change of one block's list makes of the data of modules: of the operations of a function's block, or of a module's functions.
use Rattle.std.proofs.Common.{◌≡◌, ◌<◌, ℕ, Bool, true, false, nat_eq, if◌then◌else◌, List, [], ◌∷◌, Option, Some, None, All, is_some, map, length, slice_get, get_or, ap, sym, refl, ◌∙◌, arith}
use Rattle.std.specs.Prelude.{unwrap_or}
use Rattle.std.specs.List.{filter_map, flat_map}
use Rattle.support.specs.Changes.{with_change}
use Rattle.std.specs.Option.{option_map, option_and_then}
use Rattle.std.proofs.lemmas.List.{append-nil}
use Rattle.std.proofs.lemmas.Option.{slice_get_within, slice_get-get_or, get_or_from_slice_get, unwrap_or-slice_get, none-some}
use Rattle.dialect_types.specs.Trees.{TypeTree}
use Rattle.dialect_core.specs.declared.numbers.OpRef.{OpRef}
use Rattle.dialect_core.specs.declared.numbers.BlockRef.{BlockRef}
use Rattle.dialect_core.specs.declared.ops.Symbol.{Symbol}
use Rattle.dialect_core.specs.declared.ops.OpKind.{OpKind}
use Rattle.dialect_core.specs.declared.ops.OpKind.TheVariants as K
use Rattle.dialect_core.specs.declared.ops.OpData.{OpData}
use Rattle.dialect_core.specs.declared.ops.BlockData.{BlockData}
use Rattle.dialect_core.specs.Lists.{list_at}
use Rattle.dialect_core.specs.ContextData.{ContextData, is_func, IsContext, region_at}
use Rattle.dialect_core.specs.Data.{DialectBlock, DialectOp, Func, kind_of, op_of, op_at, block_with, block_in, func_with, func_of, func_in, held}
use Rattle.dialect_core.proofs.FilterLemmas.{filter_map_same, filter_map_then, flat_map_same, flat_filter_same, change_get}
use Rattle.dialect_core.proofs.NewBlockLemmas.{func}

-- f of the blocks of a function that have the number b
abbrev pub in_func : (DialectBlock → DialectBlock) → ℕ → Func → Func
in_func f b x = record x { blocks = map (λ (y : DialectBlock). if nat_eq y.number b then f y else y) x.blocks }

-- a function is changed where its blocks are
pub func_then : (ts : List TypeTree) (c d : ContextData) (k : DialectBlock → DialectBlock) (b : ℕ) (o : OpRef) (x : OpData) → filter_map (block_in ts d) x.blocks ≡ map (λ (y : DialectBlock). if nat_eq y.number b then k y else y) (filter_map (block_in ts c) x.blocks) → func_of ts d o x ≡ option_map (in_func k b) (func_of ts c o x)
func_then ts c d k b o x same = ap (func_with ts o x) same ∙ by x.symbol
  where
    by : (s : Option Symbol) → option_map (λ (s : Symbol). func ts o x s (map (λ (y : DialectBlock). if nat_eq y.number b then k y else y) (filter_map (block_in ts c) x.blocks))) s ≡ option_map (in_func k b) (option_map (λ (s : Symbol). func ts o x s (filter_map (block_in ts c) x.blocks)) s)
    by None = refl
    by (Some s) = refl

-- the list of the block b was changed by g
module _ (ts : List TypeTree) (c : ContextData) (parents : List (Option BlockRef)) (b : BlockRef) (g : List OpRef → List OpRef) (within : b.0 < length c.lists) where
  abbrev after : ContextData
  after = record c { parents = parents; lists = with_change g b.0 c.lists }

  -- the lists of the blocks
  list_after : (p : BlockRef) → list_at after.lists p ≡ (if nat_eq p.0 b.0 then g (list_at c.lists p) else list_at c.lists p)
  list_after p = sym (unwrap_or-slice_get after.lists p.0 []) ∙ ap (λ (xs : Option (List OpRef)). unwrap_or xs []) (change_get g b.0 c.lists p.0) ∙ by (nat_eq p.0 b.0) refl (slice_get c.lists p.0) refl
    where
      by : (t : Bool) → nat_eq p.0 b.0 ≡ t → (xs : Option (List OpRef)) → slice_get c.lists p.0 ≡ xs
          → unwrap_or (if t then option_map g xs else xs) [] ≡ (if t then g (list_at c.lists p) else list_at c.lists p)
      by true same None gone =
          let e : p.0 ≡ b.0 = grind (arith, same) in
          let there = slice_get-get_or c.lists b.0 [] within in
          absurd (none-some (get_or c.lists b.0 []) (sym gone ∙ ap (slice_get c.lists) e ∙ there))
      by true same (Some xs) at = ap g (sym (get_or_from_slice_get c.lists p.0 xs [] at))
      by false differs xs at = ap (λ (xs : Option (List OpRef)). unwrap_or xs []) (sym at) ∙ unwrap_or-slice_get c.lists p.0 []

  -- what a function of operations makes of the list of a block
  filtered_after : {Y : Type 0} (f : OpRef → Option Y) (p : BlockRef) → filter_map f (list_at after.lists p) ≡ (if nat_eq p.0 b.0 then filter_map f (g (list_at c.lists p)) else filter_map f (list_at c.lists p))
  filtered_after {Y} f p = ap (filter_map f) (list_after p) ∙ by (nat_eq p.0 b.0)
    where
      by : (t : Bool) → filter_map f (if t then g (list_at c.lists p) else list_at c.lists p) ≡ (if t then filter_map f (g (list_at c.lists p)) else filter_map f (list_at c.lists p))
      by true = refl
      by false = refl

  -- ---- an operation of a function's block: the block's operations change by h

  module _ (h : List DialectOp → List DialectOp) (says : (xs : List OpRef) → filter_map (op_at ts c.ops) (g xs) ≡ h (filter_map (op_at ts c.ops) xs)) where
    abbrev changed : DialectBlock → DialectBlock
    changed y = record y { ops = h y.ops }

    block_after : (p : BlockRef) → block_in ts after p ≡ option_map (λ (y : DialectBlock). if nat_eq y.number b.0 then changed y else y) (block_in ts c p)
    block_after p =
        ap (λ (ds : List DialectOp). option_map (λ (x : BlockData). block_with ts p x ds) (slice_get c.blocks p.0)) (filtered_after (op_at ts c.ops) p) ∙ by (nat_eq p.0 b.0) refl (slice_get c.blocks p.0)
      where
        by : (t : Bool) → nat_eq p.0 b.0 ≡ t → (x : Option BlockData)
            → option_map (λ (x : BlockData). block_with ts p x (if t then filter_map (op_at ts c.ops) (g (list_at c.lists p)) else filter_map (op_at ts c.ops) (list_at c.lists p))) x
            ≡ option_map (λ (y : DialectBlock). if nat_eq y.number b.0 then changed y else y) (option_map (λ (x : BlockData). block_with ts p x (filter_map (op_at ts c.ops) (list_at c.lists p))) x)
        by t is None = refl
        by true is (Some x) =
            ap (λ (ds : List DialectOp). Some (block_with ts p x ds)) (says (list_at c.lists p))
            ∙ ap (λ (v : Bool). Some (if v then changed (block_with ts p x (filter_map (op_at ts c.ops) (list_at c.lists p))) else block_with ts p x (filter_map (op_at ts c.ops) (list_at c.lists p)))) (sym is)
        by false is (Some x) = ap (λ (v : Bool). Some (if v then changed (block_with ts p x (filter_map (op_at ts c.ops) (list_at c.lists p))) else block_with ts p x (filter_map (op_at ts c.ops) (list_at c.lists p)))) (sym is)

    func_after : (o : OpRef) → func_in ts after o ≡ option_map (in_func changed b.0) (func_in ts c o)
    func_after o = by (slice_get c.ops o.0)
      where
        by : (x : Option OpData) → option_and_then (func_of ts after o) x ≡ option_map (in_func changed b.0) (option_and_then (func_of ts c o) x)
        by None = refl
        by (Some x) = func_then ts c after changed b.0 o x (filter_map_then (block_in ts c) (block_in ts after) (λ (y : DialectBlock). if nat_eq y.number b.0 then changed y else y) x.blocks (λ k p at. block_after p))

    pub functions_after : (op : OpRef) → func_in ts c op ≡ None → ((f : OpRef → Option Func) → f op ≡ None → (xs : List OpRef) → filter_map f (g xs) ≡ filter_map f xs) → (m : ℕ) → filter_map (func_in ts after) (held after m) ≡ map (in_func changed b.0) (filter_map (func_in ts c) (held c m))
    functions_after op no_func quiet m =
        flat_filter_same (func_in ts after) (list_at c.lists) (list_at after.lists) (region_at c.ops m) (λ k p at. filtered_after (func_in ts after) p ∙ by p (nat_eq p.0 b.0))
        ∙ filter_map_then (func_in ts c) (func_in ts after) (in_func changed b.0) (held c m) (λ i o at. func_after o)
      where
        none : func_in ts after op ≡ None
        none = func_after op ∙ ap (option_map (in_func changed b.0)) no_func

        by : (p : BlockRef) (t : Bool) → (if t then filter_map (func_in ts after) (g (list_at c.lists p)) else filter_map (func_in ts after) (list_at c.lists p)) ≡ filter_map (func_in ts after) (list_at c.lists p)
        by p true = quiet (func_in ts after) none (list_at c.lists p)
        by p false = refl

  -- ---- a function: no block's operations change

  module _ (quiet : (xs : List OpRef) → filter_map (op_at ts c.ops) (g xs) ≡ filter_map (op_at ts c.ops) xs) where
    block_stays : (p : BlockRef) → block_in ts after p ≡ block_in ts c p
    block_stays p =
        ap (λ (ds : List DialectOp). option_map (λ (x : BlockData). block_with ts p x ds) (slice_get c.blocks p.0)) (filtered_after (op_at ts c.ops) p ∙ by (nat_eq p.0 b.0))
      where
        by : (t : Bool) → (if t then filter_map (op_at ts c.ops) (g (list_at c.lists p)) else filter_map (op_at ts c.ops) (list_at c.lists p)) ≡ filter_map (op_at ts c.ops) (list_at c.lists p)
        by true = quiet (list_at c.lists p)
        by false = refl

    func_stays : (o : OpRef) → func_in ts after o ≡ func_in ts c o
    func_stays o = by (slice_get c.ops o.0)
      where
        by : (x : Option OpData) → option_and_then (func_of ts after o) x ≡ option_and_then (func_of ts c o) x
        by None = refl
        by (Some x) = ap (func_with ts o x) (filter_map_same (block_in ts c) (block_in ts after) x.blocks (λ k p at. block_stays p))

    -- the functions of a module whose region is the block change by h
    pub here : (h : List Func → List Func) → ((xs : List OpRef) → filter_map (func_in ts c) (g xs) ≡ h (filter_map (func_in ts c) xs)) → (m : ℕ) → region_at c.ops m ≡ b ∷ [] → filter_map (func_in ts after) (held after m) ≡ h (filter_map (func_in ts c) (held c m))
    here h says m region =
        ap (λ (bs : List BlockRef). filter_map (func_in ts after) (flat_map (list_at after.lists) bs)) region
        ∙ ap (filter_map (func_in ts after)) (append-nil (list_at after.lists b))
        ∙ filtered_after (func_in ts after) b ∙ by (nat_eq b.0 b.0) refl
        ∙ filter_map_same (func_in ts c) (func_in ts after) (g (list_at c.lists b)) (λ i o at. func_stays o)
        ∙ says (list_at c.lists b)
        ∙ sym (ap (λ (bs : List BlockRef). h (filter_map (func_in ts c) (flat_map (list_at c.lists) bs))) region ∙ ap (λ (xs : List OpRef). h (filter_map (func_in ts c) xs)) (append-nil (list_at c.lists b)))
      where
        by : (t : Bool) → nat_eq b.0 b.0 ≡ t → (if t then filter_map (func_in ts after) (g (list_at c.lists b)) else filter_map (func_in ts after) (list_at c.lists b)) ≡ filter_map (func_in ts after) (g (list_at c.lists b))
        by true is = refl
        by false is = absurd (grind (arith, is))

    pub elsewhere : (m : ℕ) → All (λ (p : BlockRef). ¬ (p.0 ≡ b.0)) (region_at c.ops m) → filter_map (func_in ts after) (held after m) ≡ filter_map (func_in ts c) (held c m)
    elsewhere m apart =
        ap (filter_map (func_in ts after)) (flat_map_same (list_at c.lists) (list_at after.lists) (region_at c.ops m) (λ k p at. list_after p ∙ by p (other k p at) (nat_eq p.0 b.0) refl))
        ∙ filter_map_same (func_in ts c) (func_in ts after) (held c m) (λ i o at. func_stays o)
      where
        other : (k : ℕ) (p : BlockRef) → slice_get (region_at c.ops m) k ≡ Some p → ¬ (p.0 ≡ b.0)
        other k p at same = apart k p (slice_get_within (region_at c.ops m) k p at) (ap (λ (q : BlockRef). q.0) (get_or_from_slice_get (region_at c.ops m) k p p at) ∙ same)

        by : (p : BlockRef) → ¬ (p.0 ≡ b.0) → (t : Bool) → nat_eq p.0 b.0 ≡ t → (if t then g (list_at c.lists p) else list_at c.lists p) ≡ list_at c.lists p
        by p differs true is = absurd (differs (grind (arith, is)))
        by p differs false is = refl

-- ---- an operation is either

kind_apart : (ts : List TypeTree) (k : OpKind) → is_func k ≡ true → kind_of ts k ≡ None
kind_apart ts K.Func h = refl
kind_apart ts K.Module h = refl
kind_apart ts k h = cc

-- a function is no operation of a function's block
pub func_no_op : (ts : List TypeTree) (c : ContextData) (op : OpRef) (f : Func) → IsContext c.ops c.blocks c.parents c.lists → func_in ts c op ≡ Some f → op_at ts c.ops op ≡ None
func_no_op ts c op f h is_func_op = by (slice_get c.ops op.0) refl is_func_op
  where
    with_symbol : (x : OpData) (s : Option Symbol) → is_func x.kind ≡ is_some s → option_map (λ (s : Symbol). func ts op x s (filter_map (block_in ts c) x.blocks)) s ≡ Some f → op_of ts op x ≡ None
    with_symbol x None tied is = absurd (none-some f is)
    with_symbol x (Some s) tied is = ap (option_map _) (kind_apart ts x.kind tied)

    by : (x : Option OpData) → slice_get c.ops op.0 ≡ x → option_and_then (func_of ts c op) (slice_get c.ops op.0) ≡ Some f → op_at ts c.ops op ≡ None
    by None gone is = ap (option_and_then (op_of ts op)) gone
    by (Some x) there is =
        ap (option_and_then (op_of ts op)) there
        ∙ with_symbol x x.symbol (h.within op.0 x there).symbol (sym (ap (option_and_then (func_of ts c op)) there) ∙ is)

pub op_no_func : (ts : List TypeTree) (c : ContextData) (op : OpRef) (d : DialectOp) → IsContext c.ops c.blocks c.parents c.lists → op_at ts c.ops op ≡ Some d → func_in ts c op ≡ None
op_no_func ts c op d h is_op = by (slice_get c.ops op.0) refl is_op
  where
    with_symbol : (x : OpData) (s : Option Symbol) → is_func x.kind ≡ is_some s → op_of ts op x ≡ Some d → option_map (λ (s : Symbol). func ts op x s (filter_map (block_in ts c) x.blocks)) s ≡ None
    with_symbol x None tied is = refl
    with_symbol x (Some s) tied is = absurd (none-some d (sym (ap (option_map _) (kind_apart ts x.kind tied)) ∙ is))

    by : (x : Option OpData) → slice_get c.ops op.0 ≡ x → op_at ts c.ops op ≡ Some d → func_in ts c op ≡ None
    by None gone is = ap (option_and_then (func_of ts c op)) gone
    by (Some x) there is =
        ap (option_and_then (func_of ts c op)) there
        ∙ with_symbol x x.symbol (h.within op.0 x there).symbol (sym (ap (option_and_then (op_of ts op)) there) ∙ is)
