-- The numbers of a function's blocks and of a module's functions.
use Rattle.std.proofs.Common.{◌≡◌, ◌<◌, ◌≤◌, ◌+◌, ℕ, suc, true, List, [], ◌∷◌, ◌++◌, Option, Some, None, All, is_some, length, slice_get, get_or, take, map, ap, sym, refl, ◌∙◌, arith}
use Rattle.std.specs.List.{filter_map, flat_map, cons_option}
use Rattle.std.specs.Map.{lookup}
use Rattle.std.specs.Option.{option_map, option_and_then}
use Rattle.std.proofs.lemmas.List.{take_more, length-take-le, take_all}
use Rattle.std.proofs.lemmas.Option.{none-some, same_Some, slice_get-get_or}
use Rattle.support.proofs.ListLaws.{flat_map-take_more}
use Rattle.support.specs.Options.{or_else}
use Rattle.dialect_types.specs.Trees.{type_trees}
use Rattle.dialect_core.specs.declared.numbers.OpRef.{OpRef}
use Rattle.dialect_core.specs.declared.numbers.BlockRef.{BlockRef}
use Rattle.dialect_core.specs.declared.ops.Value.{Value}
use Rattle.dialect_core.specs.declared.ops.Symbol.{Symbol}
use Rattle.dialect_core.specs.declared.ops.OpData.{OpData}
use Rattle.dialect_core.specs.declared.ops.BlockData.{BlockData}
use Rattle.dialect_core.specs.declared.numbering.Numbering.{Numbering}
use Rattle.dialect_core.specs.ContextData.{ContextData, symbol_at}
use Rattle.dialect_core.specs.Data.{DialectBlock, Func, block_of, block_in, func_of, func_in, held, data_of}
use Rattle.dialect_core.specs.Text.{option_items, block_values, func_values, func_blocks, numbered_from, same_value, same_block, value_number, block_number}
use Rattle.dialect_core.specs.Numbering.{value_at, block_at, Numbered, values_of_block, values_of_func, blocks_of_func}
use Rattle.dialect_core.proofs.NumberLemmas.{Counts, counts_then, numbered_then, numbered_from-append}
use Rattle.dialect_core.proofs.NewBlockLemmas.{func}

-- what f makes of the items that g gives
pub flat_filter : {X Y Z : Type 0} (g : X → Option Y) (f : Y → List Z) (xs : List X) → flat_map f (filter_map g xs) ≡ flat_map (λ (x : X). option_items f (g x)) xs
flat_filter g f [] = refl
flat_filter {Y = Y} {Z = Z} g f (x ∷ xs) = by (g x) (flat_filter g f xs)
  where
    by : (o : Option Y) → flat_map f (filter_map g xs) ≡ flat_map (λ x. option_items f (g x)) xs → flat_map f (cons_option o (filter_map g xs)) ≡ option_items f o ++ flat_map (λ x. option_items f (g x)) xs
    by None same = same
    by (Some y) same = ap (λ (zs : List Z). f y ++ zs) same

numbered_more : {X : Type 0} (xs : List X) (i : ℕ) (d : X) → i < length xs → numbered_from 0 (take (i + 1) xs) ≡ numbered_from 0 (take i xs) ++ (get_or xs i d, i) ∷ []
numbered_more xs i d h =
    ap (numbered_from 0) (take_more xs i d h) ∙ numbered_from-append 0 (take i xs) (get_or xs i d ∷ [])
    ∙ ap (λ (n : ℕ). numbered_from 0 (take i xs) ++ (get_or xs i d, n) ∷ []) (let e : 0 + length (take i xs) ≡ i = omega (arith, length-take-le i xs (omega arith)) in e)

-- one more block
pub counts_block : (f : BlockRef → List Value) (old now mid new : Numbering) (next after : ℕ) (xs : List BlockRef) (i : ℕ) (d : BlockRef) → i < length xs → Counts old now 0 next (flat_map f (take i xs)) (numbered_from 0 (take i xs))
    → Numbered now mid [] ((get_or xs i d, i) ∷ []) → Numbered mid new (numbered_from next (f (get_or xs i d))) [] → after ≡ next + length (f (get_or xs i d))
    → Counts old new 0 after (flat_map f (take (i + 1) xs)) (numbered_from 0 (take (i + 1) xs))
counts_block f old now mid new next after xs i d within so_far named numbered is_after =
    let step : Counts now new next after (f (get_or xs i d)) ((get_or xs i d, i) ∷ []) = record {
      numbered = numbered_then now mid new [] (numbered_from next (f (get_or xs i d))) ((get_or xs i d, i) ∷ []) [] named numbered;
      after = is_after;
    } in
    rw (flat_map-take_more f xs i d within, numbered_more xs i d within)
    (counts_then old now new 0 next after (flat_map f (take i xs)) (f (get_or xs i d)) (numbered_from 0 (take i xs)) ((get_or xs i d, i) ∷ []) so_far step)

-- ---- a function

-- the blocks of a region that is there
blocks_are : (c : ContextData) (bs : List BlockRef) → All (λ (b : BlockRef). b.0 < length c.blocks) bs → map (λ (b : DialectBlock). let r : BlockRef = record { 0 = b.number } in r) (filter_map (block_in (type_trees c.types) c) bs) ≡ bs
blocks_are c [] h = refl
blocks_are c (b ∷ bs) h = by (slice_get c.blocks b.0) refl (blocks_are c bs (λ k d l. h (suc k) d (omega arith)))
  where
    by : (x : Option BlockData) → slice_get c.blocks b.0 ≡ x → map (λ (b : DialectBlock). let r : BlockRef = record { 0 = b.number } in r) (filter_map (block_in (type_trees c.types) c) bs) ≡ bs
        → map (λ (b : DialectBlock). let r : BlockRef = record { 0 = b.number } in r) (cons_option (option_map (block_of (type_trees c.types) c b) x) (filter_map (block_in (type_trees c.types) c) bs)) ≡ b ∷ bs
    by None gone same =
        let d : BlockData = record { holder = record { 0 = 0 }; label = None; args = [] } in
        absurd (none-some (get_or c.blocks b.0 d) (sym gone ∙ slice_get-get_or c.blocks b.0 d (h 0 b (omega arith))))
    by (Some x) there same = ap (λ (xs : List BlockRef). b ∷ xs) same

func_parts : (c : ContextData) (op : OpRef) (bs : List BlockRef) → true ≡ is_some (symbol_at c.ops op) → option_map (λ (x : OpData). x.blocks) (slice_get c.ops op.0) ≡ Some bs → (f : Func) × (func_in (type_trees c.types) c op ≡ Some f) × (f.blocks ≡ filter_map (block_in (type_trees c.types) c) bs)
func_parts c op bs is_func region = by (slice_get c.ops op.0) is_func region
  where
    with_symbol : (x : OpData) (s : Option Symbol) → true ≡ is_some s → x.blocks ≡ bs
        → (f : Func) × (option_map (λ (s : Symbol). func (type_trees c.types) op x s (filter_map (block_in (type_trees c.types) c) x.blocks)) s ≡ Some f) × (f.blocks ≡ filter_map (block_in (type_trees c.types) c) bs)
    with_symbol x None is same = cc
    with_symbol x (Some s) is same = (func (type_trees c.types) op x s (filter_map (block_in (type_trees c.types) c) x.blocks), refl, ap (filter_map (block_in (type_trees c.types) c)) same)

    by : (x : Option OpData) → true ≡ is_some (option_and_then (λ (x : OpData). x.symbol) x) → option_map (λ (x : OpData). x.blocks) x ≡ Some bs → (f : Func) × (option_and_then (func_of (type_trees c.types) c op) x ≡ Some f) × (f.blocks ≡ filter_map (block_in (type_trees c.types) c) bs)
    by None is same = absurd (none-some bs same)
    by (Some x) is same = with_symbol x x.symbol is (same_Some x.blocks bs same)

pub func_values_are : (c : ContextData) (op : OpRef) (bs : List BlockRef) → true ≡ is_some (symbol_at c.ops op) → option_map (λ (x : OpData). x.blocks) (slice_get c.ops op.0) ≡ Some bs → values_of_func c op ≡ numbered_from 0 (flat_map (values_of_block c) bs)
func_values_are c op bs is_func region =
    let p = func_parts c op bs is_func region in
    ap (option_items (λ (f : Func). numbered_from 0 (func_values f))) p.1
    ∙ ap (numbered_from 0) (ap (flat_map block_values) p.2 ∙ flat_filter (block_in (type_trees c.types) c) block_values bs)

pub func_blocks_are : (c : ContextData) (op : OpRef) (bs : List BlockRef) → true ≡ is_some (symbol_at c.ops op) → option_map (λ (x : OpData). x.blocks) (slice_get c.ops op.0) ≡ Some bs → All (λ (b : BlockRef). b.0 < length c.blocks) bs → blocks_of_func c op ≡ numbered_from 0 bs
func_blocks_are c op bs is_func region within =
    let p = func_parts c op bs is_func region in
    ap (option_items (λ (f : Func). numbered_from 0 (func_blocks f))) p.1
    ∙ ap (numbered_from 0) (ap (map (λ (b : DialectBlock). let r : BlockRef = record { 0 = b.number } in r)) p.2 ∙ blocks_are c bs within)

-- ---- a module

pub counts_func : {X : Type 0} (f : X → List (Value × ℕ)) (g : X → List (BlockRef × ℕ)) (old now new : Numbering) (xs : List X) (i : ℕ) (d : X) → i < length xs → Numbered old now (flat_map f (take i xs)) (flat_map g (take i xs)) → Numbered now new (f (get_or xs i d)) (g (get_or xs i d)) → Numbered old new (flat_map f (take (i + 1) xs)) (flat_map g (take (i + 1) xs))
counts_func f g old now new xs i d within so_far step =
    rw (flat_map-take_more f xs i d within, flat_map-take_more g xs i d within)
    (numbered_then old now new (flat_map f (take i xs)) (f (get_or xs i d)) (flat_map g (take i xs)) (g (get_or xs i d)) so_far step)

pub module_values : (c : ContextData) (m : ℕ) (old new : Numbering) (ops : List OpRef) (n : ℕ) → ((q : Value) → value_at old q ≡ None) → ops ≡ held c m → length ops ≤ n → Numbered old new (flat_map (values_of_func c) (take n ops)) (flat_map (blocks_of_func c) (take n ops)) → (q : Value) → value_at new q ≡ value_number (data_of c m) q
module_values c m old new ops n fresh is_ops all numbered q =
    numbered.values q ∙ ap (λ (o : Option ℕ). or_else o (lookup (same_value q) (flat_map (values_of_func c) (take n ops)))) (fresh q)
    ∙ ap (lookup (same_value q)) (ap (flat_map (values_of_func c)) (take_all n ops all ∙ is_ops) ∙ sym (flat_filter (func_in (type_trees c.types) c) (λ (f : Func). numbered_from 0 (func_values f)) (held c m)))

pub module_blocks : (c : ContextData) (m : ℕ) (old new : Numbering) (ops : List OpRef) (n : ℕ) → ((q : BlockRef) → block_at old q ≡ None) → ops ≡ held c m → length ops ≤ n → Numbered old new (flat_map (values_of_func c) (take n ops)) (flat_map (blocks_of_func c) (take n ops)) → (q : BlockRef) → block_at new q ≡ block_number (data_of c m) q
module_blocks c m old new ops n fresh is_ops all numbered q =
    numbered.blocks q ∙ ap (λ (o : Option ℕ). or_else o (lookup (same_block q) (flat_map (blocks_of_func c) (take n ops)))) (fresh q)
    ∙ ap (lookup (same_block q)) (ap (flat_map (blocks_of_func c)) (take_all n ops all ∙ is_ops) ∙ sym (flat_filter (func_in (type_trees c.types) c) (λ (f : Func). numbered_from 0 (func_blocks f)) (held c m)))
