-- What holds of each type of a context holds of each type that the data of its modules name.
use Rattle.std.proofs.Common.{◌≡◌, ◌<◌, ℕ, List, [], ◌∷◌, Option, Some, None, All, length, slice_get, refl, subst}
use Rattle.std.specs.Prelude.{IfSome}
use Rattle.std.specs.List.{filter_map, cons_option}
use Rattle.std.specs.Option.{option_map, option_and_then}
use Rattle.std.proofs.lemmas.Option.{none-some, same_Some}
use Rattle.std.proofs.lemmas.List.Elements.{All-nil, All-cons, All-map}
use Rattle.kinds.specs.Structs.{IsNested}
use Rattle.dialect_types.specs.declared.types.TypeHandle.{TypeHandle}
use Rattle.dialect_types.specs.Trees.{TypeTree, type_at, type_trees, structs_of, IsStored}
use Rattle.dialect_types.proofs.StoredLaws.{stored_nested}
use Rattle.dialect_core.specs.declared.numbers.OpRef.{OpRef}
use Rattle.dialect_core.specs.declared.numbers.BlockRef.{BlockRef}
use Rattle.dialect_core.specs.declared.ops.Symbol.{Symbol}
use Rattle.dialect_core.specs.declared.ops.OpData.{OpData}
use Rattle.dialect_core.specs.declared.ops.BlockData.{BlockData}
use Rattle.dialect_core.specs.Lists.{list_at}
use Rattle.dialect_core.specs.ContextData.{ContextData}
use Rattle.dialect_core.specs.Data.{Kind, DialectOp, DialectBlock, Func, kind_of, op_of, op_at, block_of, block_in, func_of, func_in, held, data_of, IsTyped}
use Rattle.dialect_core.specs.Nested.{BlockNames, FuncNames, AreNested}
use Rattle.dialect_core.proofs.NewBlockLemmas.{func}

-- what holds of all that f may give holds of what it gives
all_made : {X Y : Type 0} (P : Y → Type 0) (f : X → Option Y) → ((x : X) (y : Y) → f x ≡ Some y → P y) → (xs : List X) → All P (filter_map f xs)
all_made P f h [] = All-nil P
all_made {X} {Y} P f h (x ∷ xs) = by (f x) refl (all_made P f h xs)
  where
    by : (o : Option Y) → f x ≡ o → All P (filter_map f xs) → All P (cons_option o (filter_map f xs))
    by None e rest = rest
    by (Some y) e rest = All-cons P y (filter_map f xs) (h x y e) rest

module _ (P : TypeTree → Type 0) (c : ContextData) (typed : IsTyped c) (known : (t : TypeHandle) → t.0 < length c.types → P (type_at (type_trees c.types) t)) where
  result_holds : (t : Option TypeHandle) → IfSome t (λ (t : TypeHandle). t.0 < length c.types) → IfSome (option_map (type_at (type_trees c.types)) t) P
  result_holds None h = tt
  result_holds (Some t) h = known t h

  op_holds : (o : OpRef) (d : DialectOp) → op_at (type_trees c.types) c.ops o ≡ Some d → IfSome d.result P
  op_holds o d is = by (slice_get c.ops o.0) refl is
    where
      with_kind : (x : OpData) (k : Option Kind) → IfSome (option_map (type_at (type_trees c.types)) x.result) P
          → option_map (λ (k : Kind). record { number = o.0; name = x.name; kind = k; operands = x.operands; successors = x.successors; result = option_map (type_at (type_trees c.types)) x.result }) k ≡ Some d → IfSome d.result P
      with_kind x None h e = absurd (none-some d e)
      with_kind x (Some k) h e = subst (λ (y : DialectOp). IfSome y.result P) (same_Some (record { number = o.0; name = x.name; kind = k; operands = x.operands; successors = x.successors; result = option_map (type_at (type_trees c.types)) x.result }) d e) h

      by : (x : Option OpData) → slice_get c.ops o.0 ≡ x → option_and_then (op_of (type_trees c.types) o) x ≡ Some d → IfSome d.result P
      by None at e = absurd (none-some d e)
      by (Some x) at e = with_kind x (kind_of (type_trees c.types) x.kind) (result_holds x.result (typed.ops o.0 x at).result) e

  block_holds : (b : BlockRef) (d : DialectBlock) → block_in (type_trees c.types) c b ≡ Some d → BlockNames P d
  block_holds b d is = by (slice_get c.blocks b.0) refl is
    where
      by : (x : Option BlockData) → slice_get c.blocks b.0 ≡ x → option_map (block_of (type_trees c.types) c b) x ≡ Some d → BlockNames P d
      by None at e = absurd (none-some d e)
      by (Some x) at e = subst (BlockNames P) (same_Some (block_of (type_trees c.types) c b x) d e) (record {
        args = All-map P (type_at (type_trees c.types)) x.args (λ k t within. known _ (typed.blocks b.0 x at k t within));
        results = all_made (λ (o : DialectOp). IfSome o.result P) (op_at (type_trees c.types) c.ops) op_holds (list_at c.lists b);
      })

  func_holds : (o : OpRef) (g : Func) → func_in (type_trees c.types) c o ≡ Some g → FuncNames P g
  func_holds o g is = by (slice_get c.ops o.0) refl is
    where
      with_symbol : (x : OpData) (s : Option Symbol) → IfSome s (λ (s : Symbol). s.ty.0 < length c.types)
          → option_map (λ (s : Symbol). func (type_trees c.types) o x s (filter_map (block_in (type_trees c.types) c) x.blocks)) s ≡ Some g → FuncNames P g
      with_symbol x None h e = absurd (none-some g e)
      with_symbol x (Some s) h e = subst (FuncNames P) (same_Some (func (type_trees c.types) o x s (filter_map (block_in (type_trees c.types) c) x.blocks)) g e) (record {
        type = known s.ty h;
        blocks = all_made (BlockNames P) (block_in (type_trees c.types) c) block_holds x.blocks;
      })

      by : (x : Option OpData) → slice_get c.ops o.0 ≡ x → option_and_then (func_of (type_trees c.types) c o) x ≡ Some g → FuncNames P g
      by None at e = absurd (none-some g e)
      by (Some x) at e = with_symbol x x.symbol (typed.ops o.0 x at).symbol e

-- of each type that the data of a module name
pub names_hold : (P : TypeTree → Type 0) (c : ContextData) (m : ℕ) → IsTyped c → ((t : TypeHandle) → t.0 < length c.types → P (type_at (type_trees c.types) t)) → All (FuncNames P) (data_of c m).functions
names_hold P c m typed known = all_made (FuncNames P) (func_in (type_trees c.types) c) (func_holds P c typed known) (held c m)

-- each type of a store nests, and so each that the data name
pub data_nested : (c : ContextData) (m : ℕ) → IsStored c.types → IsTyped c → AreNested (structs_of c.types) (data_of c m)
data_nested c m stored typed = names_hold (IsNested (structs_of c.types)) c m typed (stored_nested c.types stored)
