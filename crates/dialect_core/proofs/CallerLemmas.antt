-- What a caller knows of an operation or a block that it has just made, and of older ones.
use Rattle.std.proofs.Common.{◌≡◌, ◌<◌, ℕ, Bool, true, false, nat_eq, if◌then◌else◌, List, [], ◌∷◌, ◌++◌, Option, Some, None, length, slice_get, ap, refl, ◌∙◌}
use Rattle.std.specs.List.{filter_map}
use Rattle.std.specs.Option.{option_map, option_and_then}
use Rattle.support.proofs.ListLaws.{slice_get-before, slice_get-push}
use Rattle.support.specs.Changes.{with_change}
use Rattle.dialect_types.specs.Trees.{TypeTree}
use Rattle.dialect_core.specs.declared.numbers.OpRef.{OpRef}
use Rattle.dialect_core.specs.declared.numbers.BlockRef.{BlockRef}
use Rattle.dialect_core.specs.declared.ops.OpData.{OpData}
use Rattle.dialect_core.specs.ContextData.{ContextData, with_op, kind_at}
use Rattle.dialect_core.specs.Data.{op_of, op_at, block_in, func_with, func_of, func_in}
use Rattle.dialect_core.proofs.FilterLemmas.{change_get}

-- an item that was there before
pub old_item : {X : Type 0} (xs : List X) (x : X) (n : ℕ) → n < length xs → slice_get (xs ++ x ∷ []) n ≡ slice_get xs n
old_item xs x n within = slice_get-before xs (x ∷ []) n within

-- the kind of a new operation, and of one that was there before
pub new_kind : (ops : List OpData) (x : OpData) (o : OpRef) → o.0 ≡ length ops → kind_at (ops ++ x ∷ []) o ≡ Some x.kind
new_kind ops x o is = ap (option_map (λ (x : OpData). x.kind)) (slice_get-push ops x o.0 is)

pub old_kind : (ops : List OpData) (x : OpData) (o : OpRef) → o.0 < length ops → kind_at (ops ++ x ∷ []) o ≡ kind_at ops o
old_kind ops x o within = ap (option_map (λ (x : OpData). x.kind)) (old_item ops x o.0 within)

-- a change that keeps kinds keeps those of all operations
pub changed_kind : (g : OpData → OpData) (i : ℕ) (ops : List OpData) (o : OpRef) → ((x : OpData) → (g x).kind ≡ x.kind) → kind_at (with_change g i ops) o ≡ kind_at ops o
changed_kind g i ops o keeps = ap (option_map (λ (x : OpData). x.kind)) (change_get g i ops o.0) ∙ by (nat_eq o.0 i) (slice_get ops o.0)
  where
    by : (t : Bool) (x : Option OpData) → option_map (λ (x : OpData). x.kind) (if t then option_map g x else x) ≡ option_map (λ (x : OpData). x.kind) x
    by true None = refl
    by true (Some x) = ap Some (keeps x)
    by false x = refl

-- what a new operation is as one of a function's block
pub new_op_at : (ts : List TypeTree) (ops : List OpData) (x : OpData) (o : OpRef) → o.0 ≡ length ops → op_at ts (ops ++ x ∷ []) o ≡ op_of ts o x
new_op_at ts ops x o is = ap (option_and_then (op_of ts o)) (slice_get-push ops x o.0 is)

-- what a new operation without blocks is as a function
pub new_func_in : (ts : List TypeTree) (c : ContextData) (x : OpData) (o : OpRef) → o.0 ≡ length c.ops → x.blocks ≡ [] → func_in ts (with_op c x) o ≡ func_with ts o x []
new_func_in ts c x o is no_blocks =
    ap (option_and_then (func_of ts (with_op c x) o)) (slice_get-push c.ops x o.0 is) ∙ ap (λ (bs : List BlockRef). func_with ts o x (filter_map (block_in ts (with_op c x)) bs)) no_blocks
