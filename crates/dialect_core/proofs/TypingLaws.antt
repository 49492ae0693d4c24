-- The types that a function gives its values are those that the context gives them: so what is well-formed with the ones
-- is so with the others, where its values and the targets of its edges are the function's own.
use Rattle.std.proofs.Common.{◌≡◌, ℕ, nat_eq, true, List, [], Option, Some, None, All, slice_get, ap, sym, ◌∙◌, refl, arith}
use Rattle.std.specs.Prelude.{unwrap_or}
use Rattle.std.specs.List.{filter_map, flat_map, find}
use Rattle.std.specs.Option.{option_map, option_and_then}
use Rattle.std.proofs.lemmas.Option.{none-some, same_Some}
use Rattle.support.proofs.ListLaws.{all_from}
use Rattle.kinds.specs.declared.op.Op.{Op}
use Rattle.kinds.specs.declared.rules.Takes.{Takes}
use Rattle.kinds.specs.declared.rules.Takes.TheVariants as O
use Rattle.kinds.specs.Types.{result_of}
use Rattle.kinds.specs.Rules.{target_count}
use Rattle.kinds.specs.Table.{rule_of}
use Rattle.dialect_types.specs.Trees.{TypeTree, structs_of, type_at, type_trees}
use Rattle.dialect_core.specs.declared.numbers.OpRef.{OpRef}
use Rattle.dialect_core.specs.declared.numbers.BlockRef.{BlockRef}
use Rattle.dialect_core.specs.declared.ops.Value.{Value}
use Rattle.dialect_core.specs.declared.ops.Value.TheVariants.{Result, Argument}
use Rattle.dialect_core.specs.declared.ops.Successor.{Successor}
use Rattle.dialect_core.specs.declared.ops.Symbol.{Symbol}
use Rattle.dialect_core.specs.declared.ops.OpData.{OpData}
use Rattle.dialect_core.specs.declared.ops.BlockData.{BlockData}
use Rattle.dialect_core.specs.Lists.{Stands, list_at}
use Rattle.dialect_core.specs.ContextData.{ContextData}
use Rattle.dialect_core.specs.Data.{Kind, ConstantOp, FilledOp, RowOp, DialectOp, DialectBlock, Func, op_at, block_of, block_in, func_of, func_in, data_of, held, ops_in, value_type, type_in}
use Rattle.dialect_core.specs.Form.{FitsTarget, HasOwnValues, IsFormFunc, IsRuled, IsValueOf, LeadsToOwn, edges_of, uses_of}
use Rattle.dialect_core.specs.WellFormed.{IsOpenForm, IsWellFormedBlock, IsWellFormedFunc, IsWellFormedOp}
use Rattle.dialect_core.specs.Rules.{AreEdges, IsEdge, IsFirstClassBy, IsOfKind, IsReturning, IsRow, IsTypedBy, Typing, type_nth}
use Rattle.dialect_core.proofs.ChainLemmas.{same_op}
use Rattle.dialect_core.proofs.HoldLemmas.{flat_stands, stands_flat, stands_left, stands_right}
use Rattle.dialect_core.proofs.TestLemmas.{same_block}
use Rattle.dialect_core.proofs.FuncLemmas.{block_number, find_none, find_there, made_of, op_number}
use Rattle.dialect_core.proofs.LineLemmas.{all_at}
use Rattle.dialect_core.proofs.FormLaws.{form_of}
use Rattle.dialect_core.proofs.WellLaws.{form_is_well_formed, form_is_narrow}

-- ---- the two typings of a function of the context

-- the blocks of a function are those of numbers of the context
func_blocks : (c : ContextData) (f : OpRef) (g : Func) → func_in (type_trees c.types) c f ≡ Some g → (bs : List BlockRef) × (g.blocks ≡ filter_map (block_in (type_trees c.types) c) bs)
func_blocks c f g h = by (slice_get c.ops f.0) h
  where
    with_symbol : (x : OpData) (s : Option Symbol) → option_map {U = Func} (λ (s : Symbol). record { number = f.0; name = unwrap_or x.name []; llvm_name = s.llvm_name; type = type_at (type_trees c.types) s.ty; linkage = s.linkage; blocks = filter_map (block_in (type_trees c.types) c) x.blocks }) s ≡ Some g → g.blocks ≡ filter_map (block_in (type_trees c.types) c) x.blocks
    with_symbol x None e = absurd (none-some g e)
    with_symbol x (Some s) e = ap (λ (g : Func). g.blocks) (sym (same_Some _ g e))

    by : (x : Option OpData) → option_and_then (func_of (type_trees c.types) c f) x ≡ Some g → (bs : List BlockRef) × (g.blocks ≡ filter_map (block_in (type_trees c.types) c) bs)
    by None e = absurd (none-some g e)
    by (Some x) e = (x.blocks, with_symbol x x.symbol e)

-- the operations of a block are those of numbers of the context
pub block_ops : (c : ContextData) (b : BlockRef) (d : DialectBlock) → block_in (type_trees c.types) c b ≡ Some d → d.ops ≡ filter_map (op_at (type_trees c.types) c.ops) (list_at c.lists b)
block_ops c b d h = by (slice_get c.blocks b.0) h
  where
    by : (x : Option BlockData) → option_map (block_of (type_trees c.types) c b) x ≡ Some d → d.ops ≡ filter_map (op_at (type_trees c.types) c.ops) (list_at c.lists b)
    by None e = absurd (none-some d e)
    by (Some x) e = ap (λ (d : DialectBlock). d.ops) (sym (same_Some _ d e))

module _ (c : ContextData) (f : OpRef) (g : Func) (is : func_in (type_trees c.types) c f ≡ Some g) where
  -- a block of the function is the one of its number
  pub own_block : (k : ℕ) (d : DialectBlock) (b : BlockRef) → slice_get g.blocks k ≡ Some d → d.number ≡ b.0 → block_in (type_trees c.types) c b ≡ Some d
  own_block k d b at same =
      let bs = func_blocks c f g is in
      let m = made_of (block_in (type_trees c.types) c) bs.0 k d (ap (λ (xs : List DialectBlock). slice_get xs k) (sym bs.1) ∙ at) in
      let e : b ≡ m.0 = same_block b m.0 (sym same ∙ block_number (type_trees c.types) c m.0 d m.2) in
      ap (block_in (type_trees c.types) c) e ∙ m.2

  -- and so is an operation
  pub own_op : (k j : ℕ) (d : DialectBlock) (o : DialectOp) (r : OpRef) → slice_get g.blocks k ≡ Some d → slice_get d.ops j ≡ Some o → o.number ≡ r.0 → op_at (type_trees c.types) c.ops r ≡ Some o
  own_op k j d o r at here same =
      let b = own_block k d (record { 0 = d.number }) at refl in
      let m = made_of (op_at (type_trees c.types) c.ops) (list_at c.lists (record { 0 = d.number })) j o (ap (λ (os : List DialectOp). slice_get os j) (sym (block_ops c (record { 0 = d.number }) d b)) ∙ here) in
      let e : r ≡ m.0 = same_op r m.0 (sym same ∙ op_number (type_trees c.types) c.ops m.0 o m.2) in
      ap (op_at (type_trees c.types) c.ops) e ∙ m.2

  -- a value of the function has in the context the type that it has in the function
  pub own_type : (v : Value) (t : TypeTree) → value_type g v ≡ Some t → type_in c v ≡ Some t
  own_type (Result r) t h = by (find (λ (o : DialectOp). nat_eq o.number r.0) (ops_in g)) refl h
    where
      by : (o : Option DialectOp) → find (λ (o : DialectOp). nat_eq o.number r.0) (ops_in g) ≡ o → option_and_then (λ (o : DialectOp). o.result) o ≡ Some t → type_in c (Result r) ≡ Some t
      by None found e = absurd (none-some t e)
      by (Some o) found e =
          let w = find_there (λ (o : DialectOp). nat_eq o.number r.0) (ops_in g) o found in
          let b = flat_stands (λ (b : DialectBlock). b.ops) g.blocks o w.0 w.1 in
          let same : o.number ≡ r.0 = let n : nat_eq o.number r.0 ≡ true = w.2 in grind (arith, n) in
          ap (option_and_then (λ (o : DialectOp). o.result)) (own_op b.1.0 b.2.0 b.0 o r b.1.1 b.2.1 same) ∙ e
  own_type (Argument b i) t h = by (find (λ (x : DialectBlock). nat_eq x.number b.0) g.blocks) refl h
    where
      by : (x : Option DialectBlock) → find (λ (x : DialectBlock). nat_eq x.number b.0) g.blocks ≡ x → option_and_then (λ (x : DialectBlock). slice_get x.args i) x ≡ Some t → type_in c (Argument b i) ≡ Some t
      by None found e = absurd (none-some t e)
      by (Some x) found e =
          let w = find_there (λ (x : DialectBlock). nat_eq x.number b.0) g.blocks x found in
          let same : x.number ≡ b.0 = let n : nat_eq x.number b.0 ≡ true = w.2 in grind (arith, n) in
          ap (option_and_then (λ (x : DialectBlock). slice_get x.args i)) (own_block w.0 x b w.1 same) ∙ e

  -- and so has an argument of a block of the function
  own_argument : (s : Successor) (place : ℕ) (t : TypeTree) → FitsTarget g s → type_in c (Argument s.block place) ≡ Some t → value_type g (Argument s.block place) ≡ Some t
  own_argument s place t fits h = by (find (λ (x : DialectBlock). nat_eq x.number s.block.0) g.blocks) refl
    where
      by : (x : Option DialectBlock) → find (λ (x : DialectBlock). nat_eq x.number s.block.0) g.blocks ≡ x → option_and_then (λ (x : DialectBlock). slice_get x.args place) x ≡ Some t
      by None gone = absurd (find_none (λ (x : DialectBlock). nat_eq x.number s.block.0) g.blocks fits.0 fits.1 gone fits.2 (grind (arith, fits.3)))
      by (Some x) found =
          let w = find_there (λ (x : DialectBlock). nat_eq x.number s.block.0) g.blocks x found in
          let same : x.number ≡ s.block.0 = let n : nat_eq x.number s.block.0 ≡ true = w.2 in grind (arith, n) in
          sym (ap (option_and_then (λ (x : DialectBlock). slice_get x.args place)) (own_block w.0 x s.block w.1 same)) ∙ h

-- ---- from one typing to another

-- an operation, whose operands and values on edges have the types that they had, and no target has others
module _ (T U : Typing) (g : Func) (operands : List Value) (edges : List Successor) (operand : (v : Value) (t : TypeTree) → Stands v operands → T v ≡ Some t → U v ≡ Some t)
    (passed : (i : ℕ) (s : Successor) (v : Value) (t : TypeTree) → slice_get edges i ≡ Some s → Stands v s.args → T v ≡ Some t → U v ≡ Some t)
    (target : (i : ℕ) (s : Successor) (place : ℕ) (t : TypeTree) → slice_get edges i ≡ Some s → U (Argument s.block place) ≡ Some t → T (Argument s.block place) ≡ Some t) where
  values : All (IsFirstClassBy T) operands → All (IsFirstClassBy U) operands
  values h = all_from (IsFirstClassBy U) operands (λ k v at. let w = all_at (IsFirstClassBy T) operands h k v at in (w.0, operand v w.0 (k, at) w.1, w.2))

  -- the operand at a place has the type that it had
  nth : All (IsFirstClassBy T) operands → (i : ℕ) → type_nth U operands i ≡ type_nth T operands i
  nth h i = by (slice_get operands i) refl
    where
      by : (v : Option Value) → slice_get operands i ≡ v → option_and_then U v ≡ option_and_then T v
      by None at = refl
      by (Some v) at = let w = all_at (IsFirstClassBy T) operands h i v at in operand v w.0 (i, at) w.1 ∙ sym w.1

  -- a line for each word
  returning : (takes : Takes) (t : TypeTree) → IsReturning takes T t operands → IsReturning takes U t operands
  returning O.Nothing t h = tt
  returning (O.One x) t h = tt
  returning (O.Two x y) t h = tt
  returning (O.Three x y z) t h = tt
  returning O.Return t h = all_from (λ (v : Value). U v ≡ Some t) operands (λ k v at. operand v t (k, at) (all_at (λ (v : Value). T v ≡ Some t) operands h k v at))

  edge : (i : ℕ) (s : Successor) → slice_get edges i ≡ Some s → IsEdge T g s → IsEdge U g s
  edge i s at e = record {
    no_entry = e.no_entry;
    args = all_from (IsTypedBy U) s.args (λ k v here. let w = all_at (IsTypedBy T) s.args e.args k v here in (w.0, passed i s v w.0 at (k, here) w.1));
    typed = λ place v t here wanted. passed i s v t at (place, here) (e.typed place v t here (target i s place t at wanted));
  }

  edges_are : (n : ℕ) → AreEdges T g n edges → AreEdges U g n edges
  edges_are n h = (h.0, all_from (IsEdge U g) edges (λ i s at. edge i s at (all_at (IsEdge T g) edges h.1 i s at)))

  row : (op : Op) (own : Option TypeTree) → IsRow T g op operands own edges → IsRow U g op operands own edges
  row op own h =
      let a = nth h.values 0 in
      let b = nth h.values 1 in
      let d = nth h.values 2 in
      record {
        values = values h.values;
        count = h.count;
        fits = rw (a, b, d) h.fits;
        returns = returning (rule_of op).takes (result_of g.type) h.returns;
        result = rw (a, b) h.result;
        value = h.value;
        leads = edges_are (target_count (rule_of op).leads) h.leads;
      }

  kinds : (own : Option TypeTree) (k : Kind) → IsOfKind T g operands own edges k → IsOfKind U g operands own edges k
  kinds own (ConstantOp constant) h = h
  kinds own (FilledOp fill) h = h
  kinds own (RowOp op) h = row op own h

-- a function, whose uses have the types that they had, and no target has others
module _ (T U : Typing) (g : Func) (used : (j k : ℕ) (b : DialectBlock) (o : DialectOp) (v : Value) (t : TypeTree) → slice_get g.blocks j ≡ Some b → slice_get b.ops k ≡ Some o → Stands v (uses_of o) → T v ≡ Some t → U v ≡ Some t)
    (target : (j : ℕ) (b : DialectBlock) (s : Successor) (place : ℕ) (t : TypeTree) → slice_get g.blocks j ≡ Some b → Stands s (edges_of b) → U (Argument s.block place) ≡ Some t → T (Argument s.block place) ≡ Some t) where
  op_typed : (j k : ℕ) (b : DialectBlock) (o : DialectOp) → slice_get g.blocks j ≡ Some b → slice_get b.ops k ≡ Some o → IsWellFormedOp T g o → IsWellFormedOp U g o
  op_typed j k b o at here h = kinds T U g o.operands o.successors
      (λ v t s e. used j k b o v t at here (stands_left v o.operands (flat_map (λ (s : Successor). s.args) o.successors) s.0 s.1) e)
      (λ i s v t there stands e. used j k b o v t at here (stands_right v o.operands (flat_map (λ (s : Successor). s.args) o.successors) (stands_flat (λ (s : Successor). s.args) o.successors s v i there stands)) e)
      (λ i s place t there e. target j b s place t at (stands_flat (λ (o : DialectOp). o.successors) b.ops o s k here (i, there)) e)
      o.result o.kind h

  block_typed : (j : ℕ) (b : DialectBlock) → slice_get g.blocks j ≡ Some b → IsWellFormedBlock T g b → IsWellFormedBlock U g b
  block_typed j b at h = record {
    args = h.args;
    ops = all_from (IsWellFormedOp U g) b.ops (λ k o here. op_typed j k b o at here (all_at (IsWellFormedOp T g) b.ops h.ops k o here));
    ends = h.ends;
  }

  func_typed : IsWellFormedFunc T g → IsWellFormedFunc U g
  func_typed w = record {
    named = w.named;
    llvm_named = w.llvm_named;
    linkage = w.linkage;
    signature = w.signature;
    params = w.params;
    blocks = all_from (IsWellFormedBlock U g) g.blocks (λ j b at. block_typed j b at (all_at (IsWellFormedBlock T g) g.blocks w.blocks j b at));
    block_numbers = w.block_numbers;
    numbers = w.numbers;
  }

-- ---- laws

module _ (c : ContextData) (f : OpRef) (g : Func) (is : func_in (type_trees c.types) c f ≡ Some g) where
  -- what is well-formed by the function's own types is so by those of the context, where its edges lead to its own blocks
  pub open_well : LeadsToOwn g → IsWellFormedFunc (value_type g) g → IsWellFormedFunc (type_in c) g
  open_well own = func_typed (value_type g) (type_in c) g (λ j k b o v t at here s e. own_type c f g is v t e)
      (λ j b s place t at stands e. own_argument c f g is s place t (all_at (FitsTarget g) (edges_of b) (all_at (λ (b : DialectBlock). All (FitsTarget g) (edges_of b)) g.blocks own j b at) stands.0 s stands.1) e)

  -- and the other way round, where the values are its own
  pub own_well : HasOwnValues g → IsWellFormedFunc (type_in c) g → IsWellFormedFunc (value_type g) g
  own_well own = func_typed (type_in c) (value_type g) g (λ j k b o v t at here s e.
      let mine = all_at (IsValueOf g) (uses_of o) (own j k b o at here) s.0 v s.1 in
      mine.1 ∙ sym (own_type c f g is v mine.0 mine.1) ∙ e)
      (λ j b s place t at stands e. own_type c f g is (Argument s.block place) t e)

  -- a function of the form whose edges lead to its own blocks, and whose constants keep the rules, is of the open one
  pub open_of : LeadsToOwn g → IsFormFunc g → IsRuled (structs_of c.types) g → IsOpenForm c g
  open_of own h ruled = (open_well own (form_is_well_formed g h), form_is_narrow g h, ruled)

  -- and one of the open form whose values are its own is of the form
  pub own_form : HasOwnValues g → IsOpenForm c g → IsFormFunc g
  own_form own h = form_of g (own_well own h.0) h.1

-- the functions of a module
pub module_open : (c : ContextData) (m : ℕ) → All LeadsToOwn (data_of c m).functions → All IsFormFunc (data_of c m).functions → All (IsRuled (structs_of c.types)) (data_of c m).functions → All (IsOpenForm c) (data_of c m).functions
module_open c m own forms ruled = all_from (IsOpenForm c) (data_of c m).functions (λ k g at.
    let w = made_of (func_in (type_trees c.types) c) (held c m) k g at in
    open_of c w.0 g w.2 (all_at LeadsToOwn (data_of c m).functions own k g at) (all_at IsFormFunc (data_of c m).functions forms k g at) (all_at (IsRuled (structs_of c.types)) (data_of c m).functions ruled k g at))
