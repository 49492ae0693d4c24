-- The blocks of a function of the dialect, by their numbers in a context.
use Rattle.std.proofs.Common.{◌≡◌, ◌<◌, ◌+◌, ℕ, zero, suc, cond, List, [], ◌∷◌, ◌++◌, Option, Some, None, All, length, map, filter, slice_get, get_or, refl, sym, ap, subst, ◌∙◌, arith}
use Rattle.std.specs.Prelude.{is_some}
use Rattle.std.specs.List.{filter_map, cons_option, flat_map}
use Rattle.std.specs.Option.{option_map, option_map_or}
use Rattle.std.proofs.lemmas.List.{length-map}
use Rattle.std.proofs.lemmas.List.Elements.{All-head, All-tail}
use Rattle.std.proofs.lemmas.Option.{same_Some, none-some, slice_get-map}
use Rattle.support.proofs.ListLaws.{all_from, in_joined, item_there}
use Rattle.support.specs.Interned.{IsDistinctList}
use Rattle.dialect_types.specs.declared.types.TypeHandle.{TypeHandle}
use Rattle.dialect_types.specs.Trees.{type_at, type_trees}
use Rattle.dialect_core.specs.declared.numbers.OpRef.{OpRef}
use Rattle.dialect_core.specs.declared.numbers.BlockRef.{BlockRef}
use Rattle.dialect_core.specs.declared.ops.Value.{Value}
use Rattle.dialect_core.specs.declared.ops.Value.TheVariants as V
use Rattle.dialect_core.specs.declared.ops.Successor.{Successor}
use Rattle.dialect_core.specs.declared.ops.OpData.{OpData}
use Rattle.dialect_core.specs.declared.ops.BlockData.{BlockData}
use Rattle.dialect_core.specs.Lists.{list_at}
use Rattle.dialect_core.specs.ContextData.{ContextData, region_at}
use Rattle.dialect_core.specs.Data.{DialectOp, DialectBlock, op_at, block_of, block_in, type_in}
use Rattle.dialect_core.specs.WellFormed.{IsPlainAt, IsWellFormedOp, IsWellFormedBlock}
use Rattle.dialect_core.proofs.LineLemmas.{all_at}
use Rattle.meaning.specs.Dialect.{start}
use Rattle.meaning.specs.Pairs.{Matched}
use Rattle.tracing.specs.declared.body.Slot.TheVariants.{Input}
use Rattle.tracing.specs.Bodies.{start_of}
use Rattle.tracing.specs.DialectBodies.{slot_of, InContext, IsOpIn, AreOpsIn}
use Rattle.tracing.specs.DialectEdges.{inputs_from, numbers_of, IsBlockIn, AreBlocksIn, is_op, body_ops}
use Rattle.tracing.proofs.ListLaws.{matched_length}
use Rattle.tracing.proofs.DialectLaws.{kept_op, kept_block, kept_func}

-- ---- the blocks of a function

each_flat : {X Y : Type 0} (P : Y → Type 0) (f : X → List Y) (xs : List X) → All P (flat_map f xs) → All (λ (x : X). All P (f x)) xs
each_flat {X} P f xs h = all_from (λ (x : X). All P (f x)) xs (λ i x at. all_from P (f x) (λ j y here. let k = in_joined f xs i j x y at here in all_at P (flat_map f xs) h k.0 y k.1))

module _ (c : ContextData) (h : InContext c) where
  -- the operations of the block are plain
  abbrev HoldsPlain : BlockRef → Type 0
  HoldsPlain b = All (IsPlainAt c) (list_at c.lists b)

  -- the blocks of the numbers, where each number is there
  blocks_each : (bs : List BlockRef) → All (λ (b : BlockRef). b.0 < length c.blocks) bs → All HoldsPlain bs → All (IsWellFormedBlock (type_in c) h.function) (filter_map (block_in (type_trees c.types) c) bs) → Matched (IsBlockIn c h) bs (filter_map (block_in (type_trees c.types) c) bs)
  blocks_each [] within plain form = tt
  blocks_each (b ∷ bs) within plain form =
      let kept = item_there c.blocks b.0 (All-head (λ (b : BlockRef). b.0 < length c.blocks) b bs within) in
      let y = block_of (type_trees c.types) c b kept.0 in
      let here : block_in (type_trees c.types) c b ≡ Some y = ap (option_map (block_of (type_trees c.types) c b)) kept.1 in
      let rest = filter_map (block_in (type_trees c.types) c) bs in
      let all : All (IsWellFormedBlock (type_in c) h.function) (y ∷ rest) = subst (λ (o : Option DialectBlock). All (IsWellFormedBlock (type_in c) h.function) (cons_option o rest)) here form in
      let first = All-head (IsWellFormedBlock (type_in c) h.function) y rest all in
      subst (λ (o : Option DialectBlock). Matched (IsBlockIn c h) (b ∷ bs) (cons_option o rest)) (sym here)
      (record { here = here; form = first; plain = All-head HoldsPlain b bs plain }, blocks_each bs (All-tail (λ (b : BlockRef). b.0 < length c.blocks) b bs within) (All-tail HoldsPlain b bs plain) (All-tail (IsWellFormedBlock (type_in c) h.function) y rest all))

  -- the blocks of a function, as its operation lists them
  pub blocks_are : (o : OpRef) (bs : List BlockRef) → h.op ≡ o → option_map (λ (x : OpData). x.blocks) (slice_get c.ops o.0) ≡ Some bs → All (λ (b : BlockRef). b.0 < length c.blocks) bs → AreBlocksIn c h bs
  blocks_are o bs is listed within =
      let k = kept_func c h.op h.function h.is in
      let same : k.kept.blocks ≡ bs = same_Some k.kept.blocks bs (sym (ap (λ (r : OpRef). option_map (λ (x : OpData). x.blocks) (slice_get c.ops r.0)) (sym is) ∙ ap (option_map (λ (x : OpData). x.blocks)) k.there) ∙ listed) in
      let are : h.function.blocks ≡ filter_map (block_in (type_trees c.types) c) bs = k.blocks ∙ ap (filter_map (block_in (type_trees c.types) c)) same in
      let region : region_at c.ops h.op.0 ≡ bs = ap (λ (x : Option OpData). option_map_or (λ (x : OpData). x.blocks) x []) k.there ∙ same in
      let plain = subst (All HoldsPlain) region (each_flat (IsPlainAt c) (list_at c.lists) (region_at c.ops h.op.0) h.plain) in
      subst (Matched (IsBlockIn c h) bs) (sym are) (blocks_each bs within plain (subst (All (IsWellFormedBlock (type_in c) h.function)) are h.form.blocks))

  -- ---- the numbers of the blocks

  pub block_number : (b : BlockRef) (y : DialectBlock) → IsBlockIn c h b y → b.0 ≡ y.number
  block_number b y at = sym (kept_block c b y at.here).number

  numbers_by : (bs : List BlockRef) (ys : List DialectBlock) → Matched (IsBlockIn c h) bs ys → map (λ (b : BlockRef). b.0) bs ≡ map (λ (y : DialectBlock). y.number) ys
  numbers_by [] [] all = refl
  numbers_by (b ∷ bs) (y ∷ ys) all = let first = block_number b y all.0 in let rest = numbers_by bs ys all.1 in cc
  numbers_by [] (y ∷ ys) all = elim all [ ]
  numbers_by (b ∷ bs) [] all = elim all [ ]

  pub numbers_are : (bs : List BlockRef) → AreBlocksIn c h bs → map (λ (b : BlockRef). b.0) bs ≡ numbers_of h.function
  numbers_are bs all = numbers_by bs h.function.blocks all

  behind : (ys : List DialectBlock) (i n : ℕ) → slice_get (map (λ (y : DialectBlock). y.number) ys) i ≡ Some n → (y : DialectBlock) × (slice_get ys i ≡ Some y) × (y.number ≡ n)
  behind ys i n at = by (slice_get ys i) refl (sym (slice_get-map (λ (y : DialectBlock). y.number) ys i) ∙ at)
    where
      by : (o : Option DialectBlock) → slice_get ys i ≡ o → option_map (λ (y : DialectBlock). y.number) o ≡ Some n → (y : DialectBlock) × (slice_get ys i ≡ Some y) × (y.number ≡ n)
      by None e k = absurd (none-some n k)
      by (Some y) e k = (y, e, same_Some y.number n k)

  -- no number stands twice
  pub numbers_apart : IsDistinctList (numbers_of h.function)
  numbers_apart = λ i j n at_i at_j.
      let a = behind h.function.blocks i n at_i in
      let b = behind h.function.blocks j n at_j in
      h.form.block_numbers i j a.0 b.0 a.1 b.1 (a.2 ∙ sym b.2)

  -- ---- arguments

  pub count_is : (b : BlockRef) (y : DialectBlock) (ts : List TypeHandle) → IsBlockIn c h b y → option_map (λ (x : BlockData). x.args) (slice_get c.blocks b.0) ≡ Some ts → length ts ≡ length y.args
  count_is b y ts at listed =
      let k = kept_block c b y at.here in
      let same : k.kept.args ≡ ts = same_Some k.kept.args ts (sym (ap (option_map (λ (x : BlockData). x.args)) k.there) ∙ listed) in
      sym (ap length k.args ∙ length-map k.kept.args (type_at (type_trees c.types)) ∙ ap length same)

  -- ---- the first block

  -- a function with a body has a first block
  first_block : (ys : List DialectBlock) → ¬ (ys ≡ []) → (first : DialectBlock) × (more : List DialectBlock) × (ys ≡ first ∷ more)
  first_block [] some = absurd (some refl)
  first_block (y ∷ ys) some = (y, ys, refl)

  pub first_there : (bs : List BlockRef) → AreBlocksIn c h bs → 0 < length bs
  first_there bs all =
      let count = matched_length (IsBlockIn c h) bs h.function.blocks all in
      let some = ap length (first_block h.function.blocks h.body).2 in
      omega (arith, count, some)

  start_by : (bs : List BlockRef) (ys : List DialectBlock) (first : DialectBlock) (more : List DialectBlock) (d : BlockRef) (n : ℕ) → ys ≡ first ∷ more → Matched (IsBlockIn c h) bs ys → ((y : DialectBlock) → IsBlockIn c h (get_or bs 0 d) y → n ≡ length y.args)
      → (v : Value) → start_of (get_or bs 0 d).0 n (slot_of v) ≡ start ys v
  start_by (b ∷ bs) (y ∷ ys) first more d n e all count (V.Result r) = refl
  start_by (b ∷ bs) (y ∷ ys) first more d n e all count (V.Argument x i) = let number = block_number b y all.0 in let length_is = count y all.0 in rw (number, length_is) refl
  start_by [] (y ∷ ys) first more d n e all count v = elim all [ ]
  start_by (b ∷ bs) [] first more d n e all count v = elim all [ ]
  start_by [] [] first more d n e all count v = cc

  -- the first block's arguments are what is set at the start
  pub start_is : (bs : List BlockRef) (d : BlockRef) (n : ℕ) → AreBlocksIn c h bs → ((y : DialectBlock) → IsBlockIn c h (get_or bs 0 d) y → n ≡ length y.args) → (v : Value) → start_of (get_or bs 0 d).0 n (slot_of v) ≡ start h.function.blocks v
  start_is bs d n all count v = let body = first_block h.function.blocks h.body in start_by bs h.function.blocks body.0 body.1 d n body.2 all count v

-- one argument more
inputs_more : (b i n : ℕ) → inputs_from b i (suc n) ≡ inputs_from b i n ++ Input b (i + n) ∷ []
inputs_more b i zero = let e : i + 0 ≡ i = omega arith in ap (λ (j : ℕ). Input b j ∷ []) (sym e)
inputs_more b i (suc n) = let e : suc i + n ≡ i + suc n = omega arith in ap (λ l. Input b i ∷ l) (inputs_more b (suc i) n ∙ ap (λ (j : ℕ). inputs_from b (suc i) n ++ Input b j ∷ []) e)

pub inputs_next : (b n : ℕ) → inputs_from b 0 (n + 1) ≡ inputs_from b 0 n ++ Input b n ∷ []
inputs_next b n =
    let more : n + 1 ≡ suc n = omega arith in
    let same : 0 + n ≡ n = omega arith in
    ap (inputs_from b 0) more ∙ inputs_more b 0 n ∙ ap (λ (j : ℕ). inputs_from b 0 n ++ Input b j ∷ []) same

-- ---- operations

-- the operations of a block, by their numbers
pub ops_are : (c : ContextData) (h : InContext c) (b : BlockRef) (y : DialectBlock) → IsBlockIn c h b y → AreOpsIn c h (body_ops c b) y.ops
ops_are c h b y at =
    let k = kept_block c b y at.here in
    subst (Matched (IsOpIn c h) (body_ops c b)) (sym k.ops) (each (list_at c.lists b) at.plain (subst (All (IsWellFormedOp (type_in c) h.function)) k.ops at.form.ops))
  where
    each : (rs : List OpRef) → All (IsPlainAt c) rs → All (IsWellFormedOp (type_in c) h.function) (filter_map (op_at (type_trees c.types) c.ops) rs) → Matched (IsOpIn c h) (filter (is_op c) rs) (filter_map (op_at (type_trees c.types) c.ops) rs)
    each [] plain form = tt
    each (r ∷ rs) plain form = by (op_at (type_trees c.types) c.ops r) refl form (each rs (All-tail (IsPlainAt c) r rs plain))
      where
        by : (o : Option DialectOp) → op_at (type_trees c.types) c.ops r ≡ o → All (IsWellFormedOp (type_in c) h.function) (cons_option o (filter_map (op_at (type_trees c.types) c.ops) rs))
            → (All (IsWellFormedOp (type_in c) h.function) (filter_map (op_at (type_trees c.types) c.ops) rs) → Matched (IsOpIn c h) (filter (is_op c) rs) (filter_map (op_at (type_trees c.types) c.ops) rs))
            → Matched (IsOpIn c h) (cond (is_some o) (r ∷ filter (is_op c) rs) (filter (is_op c) rs)) (cons_option o (filter_map (op_at (type_trees c.types) c.ops) rs))
        by None e form rest = rest form
        by (Some o) e form rest =
            let os = filter_map (op_at (type_trees c.types) c.ops) rs in
            (record { here = e; form = All-head (IsWellFormedOp (type_in c) h.function) o os form; plain = All-head (IsPlainAt c) r rs plain }, rest (All-tail (IsWellFormedOp (type_in c) h.function) o os form))

-- where an operation leads, as the context lists it
pub successors_are : (c : ContextData) (r : OpRef) (o : DialectOp) (ss : List Successor) → op_at (type_trees c.types) c.ops r ≡ Some o → option_map (λ (x : OpData). x.successors) (slice_get c.ops r.0) ≡ Some ss → ss ≡ o.successors
successors_are c r o ss at listed =
    let k = kept_op c r o at in
    let same : k.kept.successors ≡ ss = same_Some k.kept.successors ss (sym (ap (option_map (λ (x : OpData). x.successors)) k.there) ∙ listed) in
    sym (k.successors ∙ same)

abbrev pub some_ref : BlockRef
some_ref = record { 0 = 0 }
