-- A function of a module's data is one of its context.
use Rattle.std.proofs.Common.{◌≡◌, ℕ, zero, suc, List, [], ◌∷◌, Option, Some, None, slice_get, unwrap_or, All, sym, ap, subst, ◌∙◌}
use Rattle.std.specs.List.{filter_map, cons_option}
use Rattle.std.specs.Option.{option_map, option_and_then}
use Rattle.std.proofs.lemmas.Option.{none-some, same_Some}
use Rattle.dialect_types.specs.Trees.{TypeTree, type_at, type_trees}
use Rattle.dialect_core.specs.declared.numbers.OpRef.{OpRef}
use Rattle.dialect_core.specs.declared.ops.OpData.{OpData}
use Rattle.dialect_core.specs.declared.ops.Symbol.{Symbol}
use Rattle.dialect_core.specs.ContextData.{ContextData}
use Rattle.dialect_core.specs.WellFormed.{IsPlainAt, IsWellFormed, IsWellFormedFunc}
use Rattle.dialect_core.specs.Data.{DialectBlock, Func, IsTyped, block_in, func_of, func_in, held, data_of, type_in}
use Rattle.dialect_core.proofs.FuncLemmas.{made_of}
use Rattle.dialect_core.proofs.LineLemmas.{all_at}
use Rattle.tracing.specs.DialectBodies.{InContext, HasBody}

-- a function has the number of its operation
func_number : (ts : List TypeTree) (c : ContextData) (op : OpRef) (g : Func) → func_in ts c op ≡ Some g → g.number ≡ op.0
func_number ts c op g is = by (slice_get c.ops op.0) is
  where
    with_symbol : (x : OpData) (bs : List DialectBlock) (s : Option Symbol)
        → option_map (λ (s : Symbol). let f : Func = record { number = op.0; name = unwrap_or x.name []; llvm_name = s.llvm_name; type = type_at ts s.ty; linkage = s.linkage; blocks = bs } in f) s ≡ Some g → g.number ≡ op.0
    with_symbol x bs None is = absurd (none-some g is)
    with_symbol x bs (Some s) is = ap (λ (f : Func). f.number) (sym (same_Some _ g is))

    by : (x : Option OpData) → option_and_then (func_of ts c op) x ≡ Some g → g.number ≡ op.0
    by None is = absurd (none-some g is)
    by (Some x) is = with_symbol x (filter_map (block_in ts c) x.blocks) x.symbol is

-- and stands in the context under it
pub function_in : (c : ContextData) (m : ℕ) (op : OpRef) (place : ℕ) (g : Func) → slice_get (data_of c m).functions place ≡ Some g → g.number ≡ op.0 → func_in (type_trees c.types) c op ≡ Some g
function_in c m op place g here number =
    let from = made_of (func_in (type_trees c.types) c) (held c m) place g here in
    let at : from.0.0 ≡ op.0 = sym (func_number (type_trees c.types) c from.0 g from.2) ∙ number in
    ap (λ (n : ℕ). func_in (type_trees c.types) c (record { 0 = n })) (sym at) ∙ from.2

-- what it holds is plain
pub plain_in : (c : ContextData) (m : ℕ) (op : OpRef) → IsWellFormed c m → HasBody c m op → All (IsPlainAt c) (held c op.0)
plain_in c m op well h =
    let from = made_of (func_in (type_trees c.types) c) (held c m) h.place h.function h.here in
    let at : from.0.0 ≡ op.0 = sym (func_number (type_trees c.types) c from.0 h.function from.2) ∙ h.number in
    subst (λ (n : ℕ). All (IsPlainAt c) (held c n)) at (all_at (λ (o : OpRef). All (IsPlainAt c) (held c o.0)) (held c m) well.plain from.1.0 from.0 from.1.1)

-- a function with a body of a well-formed module is well-formed in the context
abbrev pub in_context : (c : ContextData) (m : ℕ) (op : OpRef) → IsTyped c → IsWellFormed c m → HasBody c m op → InContext c
in_context c m op typed well h = record {
  op = op;
  function = h.function;
  typed = typed;
  is = function_in c m op h.place h.function h.here h.number;
  form = all_at (IsWellFormedFunc (type_in c)) (data_of c m).functions well.functions h.place h.function h.here;
  plain = plain_in c m op well h;
  body = h.body;
}

-- each function of that number is the one that is known to have a body
pub same_function : (c : ContextData) (m : ℕ) (op : OpRef) (place : ℕ) (g : Func) → (h : HasBody c m op) → slice_get (data_of c m).functions place ≡ Some g → g.number ≡ op.0 → h.function ≡ g
same_function c m op place g h here number =
    same_Some h.function g (sym (function_in c m op h.place h.function h.here h.number) ∙ function_in c m op place g here number)

-- what an item gives stands in the list of all that the items give
made_at : {X Y : Type 0} (f : X → Option Y) (xs : List X) (i : ℕ) (x : X) (y : Y) → slice_get xs i ≡ Some x → f x ≡ Some y → (k : ℕ) × (slice_get (filter_map f xs) k ≡ Some y)
made_at f [] i x y at is = absurd (none-some x at)
made_at f (z ∷ xs) zero x y at is = (0, ap (λ (o : Option _). slice_get (cons_option o (filter_map f xs)) 0) (ap f (same_Some z x at) ∙ is))
made_at {X} {Y} f (z ∷ xs) (suc i) x y at is = by (f z) (made_at f xs i x y at is)
  where
    by : (o : Option Y) → (k : ℕ) × (slice_get (filter_map f xs) k ≡ Some y) → (k : ℕ) × (slice_get (cons_option o (filter_map f xs)) k ≡ Some y)
    by None rest = rest
    by (Some w) rest = (suc rest.0, rest.1)

-- an operation of a module that is a function with a body is one of the module's data
pub has_body : (c : ContextData) (m i : ℕ) (op : OpRef) (g : Func) → slice_get (held c m) i ≡ Some op → func_in (type_trees c.types) c op ≡ Some g → ¬ (g.blocks ≡ []) → HasBody c m op
has_body c m i op g at is body =
    let there = made_at (func_in (type_trees c.types) c) (held c m) i op g at is in
    record { place = there.0; function = g; here = there.1; number = func_number (type_trees c.types) c op g is; body = body }
