-- The entries of phis, one edge, one operation and one block after another.
use Rattle.std.proofs.Common.{◌≡◌, ◌<◌, ◌≤◌, ◌+◌, ℕ, zero, suc, List, [], ◌∷◌, ◌++◌, Option, Some, None, All, length, take, slice_get, get_or, refl, sym, ap, subst, ◌∙◌, arith, append_assoc, ⊎_elim}
use Rattle.std.proofs.lemmas.Bool.{cases_eq}
use Rattle.std.proofs.lemmas.Option.{same_Some, none-some, slice_get_within, slice_get-get_or}
use Rattle.std.proofs.lemmas.List.{append-nil, take_all}
use Rattle.std.proofs.lemmas.List.Concat.{flat_map-append}
use Rattle.llvm_core.specs.Module.{Module}
use Rattle.llvm_core.specs.Data.{Operand}
use Rattle.dialect_types.specs.Trees.{type_trees}
use Rattle.dialect_core.specs.declared.numbers.OpRef.{OpRef}
use Rattle.dialect_core.specs.declared.numbers.BlockRef.{BlockRef}
use Rattle.dialect_core.specs.declared.ops.Value.{Value}
use Rattle.dialect_core.specs.declared.ops.Successor.{Successor}
use Rattle.dialect_core.specs.declared.ops.OpData.{OpData}
use Rattle.std.specs.Option.{option_map, option_map_or}
use Rattle.support.proofs.ListLaws.{all_from, slice_get-behind_cases}
use Rattle.dialect_core.specs.ContextData.{ContextData}
use Rattle.dialect_core.specs.Data.{DialectOp, DialectBlock, Func, op_at}
use Rattle.dialect_core.specs.Form.{IsFormFunc, FitsTarget, edges_of}
use Rattle.to_llvm_ir.specs.declared.values.Values.{Values}
use Rattle.to_llvm_ir.specs.declared.blocks.Blocks.{Blocks}
use Rattle.to_llvm_ir.specs.declared.blocks.Target.{Target}
use Rattle.to_llvm_ir.specs.Accepted.{AreAcceptedEdges}
use Rattle.to_llvm_ir.specs.Made.{Numbers, passed_to, passed, block_passes, entries_from, entries}
use Rattle.to_llvm_ir.specs.Links.{Given, AreEqualEdges, IsLinkedTo, IsOpLinked, IsBlockLinked}
use Rattle.to_llvm_ir.specs.States.{Task, Spot, IsSpot, IsListed, IsLinking, found_block}
use Rattle.to_llvm_ir.proofs.ListLaws.{all_at, take_suc}
use Rattle.dialect_core.specs.Lists.{list_at}
use Rattle.to_llvm_ir.proofs.BodyLaws.{listed, target_here}
use Rattle.to_llvm_ir.proofs.OpLaws.{spot_parts, successors_are}
use Rattle.to_llvm_ir.proofs.OpsLaws.{ops_in, count_to, spot_of, next_spot, count_some, count_none}
use Rattle.to_llvm_ir.proofs.SuccessorLaws.{all_edges, last_edges}
use Rattle.to_llvm_ir.proofs.GivenLaws.{linking_same}

-- ---- the edges of an operation

abbrev pub more : Task → Given → ℕ → List Successor → Given
more t given from ss v = given v ++ passed t.source t.numbers from ss v

pub more_none : (t : Task) (given : Given) (from : ℕ) (ss : List Successor) (values : Values) (m : Module) → ss ≡ [] → IsLinking t given values m → IsLinking t (more t given from ss) values m
more_none t given from ss values m none s =
    linking_same t given (more t given from ss) (λ v. sym (ap (λ (es : List Successor). more t given from es v) none ∙ append-nil (given v))) values m s

pub passed_append : (g : Func) (n : Numbers) (from : ℕ) (ss ts : List Successor) (v : Value) → passed g n from (ss ++ ts) v ≡ passed g n from ss v ++ passed g n from ts v
passed_append g n from ss ts v = flat_map-append (λ (s : Successor). passed_to g n s.block s.args from v) ss ts

-- entries that are added after others
pub more_append : (t : Task) (given : Given) (from : ℕ) (ss ts us : List Successor) (values : Values) (m : Module) → us ≡ ss ++ ts → IsLinking t (more t (more t given from ss) from ts) values m → IsLinking t (more t given from us) values m
more_append t given from ss ts us values m are s =
    linking_same t (more t (more t given from ss) from ts) (more t given from us)
    (λ v. append_assoc (given v) (passed t.source t.numbers from ss v) (passed t.source t.numbers from ts v)
    ∙ ap (λ (es : List (Operand × ℕ)). given v ++ es) (sym (passed_append t.source t.numbers from ss ts v)) ∙ ap (λ (es : List Successor). more t given from es v) (sym are)) values m s

-- one edge more
pub more_edge : (t : Task) (given : Given) (from : ℕ) (ss us : List Successor) (e : Successor) (values : Values) (m : Module) → us ≡ ss ++ e ∷ [] → IsLinking t (λ (v : Value). more t given from ss v ++ passed_to t.source t.numbers e.block e.args from v) values m → IsLinking t (more t given from us) values m
more_edge t given from ss us e values m are s =
    more_append t given from ss (e ∷ []) us values m are
    (linking_same t (λ (v : Value). more t given from ss v ++ passed_to t.source t.numbers e.block e.args from v) (more t (more t given from ss) from (e ∷ []))
    (λ v. ap (λ (es : List (Operand × ℕ)). more t given from ss v ++ es) (sym (append-nil (passed_to t.source t.numbers e.block e.args from v)))) values m s)

-- the edges that the context gives are those of the operation
pub edges_are : (c : ContextData) (op : OpRef) (s : Spot) (edges : List Successor) → IsSpot c op s → option_map (λ (x : OpData). x.successors) (slice_get c.ops op.0) ≡ Some edges → s.op.successors ≡ edges
edges_are c op s edges h at = successors_are (type_trees c.types) c.ops op s.op edges (spot_parts c op s h) at

pub edge_more : (ss : List Successor) (i : ℕ) (e : Successor) → slice_get ss i ≡ Some e → take (i + 1) ss ≡ take i ss ++ e ∷ []
edge_more ss i e at = ap (λ (k : ℕ). take k ss) (let k : i + 1 ≡ suc i = omega arith in k) ∙ take_suc ss i e at

pub all_push : {X : Type 0} (P : X → Type 0) (xs ys : List X) (x : X) → ys ≡ xs ++ x ∷ [] → All P xs → P x → All P ys
all_push P xs ys x e all h = subst (All P) (sym e) (all_from P (xs ++ x ∷ []) (λ i y at. ⊎_elim
    (λ old. all_at P xs i y all old)
    (λ new. subst P (only_item new.0 x y new.2) h)
    (slice_get-behind_cases xs (x ∷ []) i y at)))
  where
    only_item : {X : Type 0} (i : ℕ) (x y : X) → slice_get (x ∷ []) i ≡ Some y → x ≡ y
    only_item zero x y at = same_Some x y at
    only_item (suc i) x y at = absurd (none-some y at)

-- the edge that is next
pub linked_next : (c : ContextData) (op : OpRef) (s : Spot) (from : Target) (blocks : Blocks) (given : Given) (values : Values) (start m : Module) (edges : List Successor) (i : ℕ) (e : Successor) → e ≡ get_or edges i e → IsOpLinked c op s from blocks given values start
    → option_map (λ (x : OpData). x.successors) (slice_get c.ops op.0) ≡ Some edges → i < length edges → IsLinking s.task (more s.task given from.block.0 (take i s.op.successors)) values m
    → IsLinkedTo c op s i e from.block blocks (more s.task given from.block.0 (take i s.op.successors)) values m
linked_next c op s from blocks given values start m edges i e item h is lt state = record {
  spot = h.spot;
  mapped = h.mapped;
  at = ap (λ (ss : List Successor). slice_get ss i) (edges_are c op s edges h.spot is) ∙ slice_get-get_or edges i e lt ∙ ap Some (sym item);
  here = h.here;
  state = state;
}

pub edges_done : (c : ContextData) (op : OpRef) (s : Spot) (edges : List Successor) (i : ℕ) → IsSpot c op s → option_map (λ (x : OpData). x.successors) (slice_get c.ops op.0) ≡ Some edges → length edges ≤ i → take i s.op.successors ≡ s.op.successors
edges_done c op s edges i h is le = take_all i s.op.successors (let e = ap (λ (ss : List Successor). length ss) (edges_are c op s edges h is) in omega (arith, e, le))

-- ---- the edges of the operations of a block

-- the first i operations have their entries, and their edges are not refused
pub record AreLinked (t : Task) (j : ℕ) (c : DialectBlock) (i : ℕ) (given : Given) (values : Values) (m : Module) : Type 0 where
  pub state : IsLinking t (more t given (t.numbers.block + j) (all_edges (take i c.ops))) values m
  pub fits : (k : ℕ) (o : DialectOp) → k < i → slice_get c.ops k ≡ Some o → All (FitsTarget t.source) o.successors
  pub equal : (k : ℕ) (o : DialectOp) → k < i → slice_get c.ops k ≡ Some o → AreEqualEdges o.successors

pub linked_start : (t : Task) (j : ℕ) (c : DialectBlock) (given : Given) (values : Values) (m : Module) → IsLinking t given values m → AreLinked t j c 0 given values m
linked_start t j c given values m s = record {
  state = more_none t given (t.numbers.block + j) [] values m refl s;
  fits = λ k o lt at. absurd (omega (arith, lt));
  equal = λ k o lt at. absurd (omega (arith, lt));
}

-- one more
pub linked_more : (t : Task) (j : ℕ) (c : DialectBlock) (i : ℕ) (o : DialectOp) (from : ℕ) (given : Given) (values : Values) (m m' : Module) → slice_get c.ops i ≡ Some o → from ≡ t.numbers.block + j → AreLinked t j c i given values m
    → IsLinking t (more t (more t given (t.numbers.block + j) (all_edges (take i c.ops))) from o.successors) values m' → All (FitsTarget t.source) o.successors → AreEqualEdges o.successors → AreLinked t j c (suc i) given values m'
linked_more t j c i o from given values m m' at here before after fits equal = record {
  state = more_append t given (t.numbers.block + j) (all_edges (take i c.ops)) o.successors (all_edges (take (suc i) c.ops)) values m'
      (ap all_edges (take_suc c.ops i o at) ∙ flat_map-append (λ (x : DialectOp). x.successors) (take i c.ops) (o ∷ []) ∙ ap (λ (ss : List Successor). all_edges (take i c.ops) ++ ss) (append-nil o.successors))
      (subst (λ (p : ℕ). IsLinking t (more t (more t given (t.numbers.block + j) (all_edges (take i c.ops))) p o.successors) values m') here after);
  fits = λ k x lt at'. ⊎_elim
      (λ same. subst (λ (y : DialectOp). All (FitsTarget t.source) y.successors) (same_Some o x (sym at ∙ ap (slice_get c.ops) (sym same) ∙ at')) fits)
      (λ differs. before.fits k x (omega (arith, lt, differs)) at') (cases_eq k i);
  equal = λ k x lt at'. ⊎_elim
      (λ same. subst (λ (y : DialectOp). AreEqualEdges y.successors) (same_Some o x (sym at ∙ ap (slice_get c.ops) (sym same) ∙ at')) equal)
      (λ differs. before.equal k x (omega (arith, lt, differs)) at') (cases_eq k i);
}

-- what a number of the list leads to, where it is an operation and where it is none
pub linked_some : (x : ContextData) (t : Task) (j : ℕ) (c : DialectBlock) (ops : List OpRef) (i : ℕ) (d : OpRef) (o : DialectOp) (from : ℕ) (given : Given) (values : Values) (m m' : Module) → IsListed x t j c ops → i < length ops → op_at (type_trees x.types) x.ops (get_or ops i d) ≡ Some o → from ≡ t.numbers.block + j
    → AreLinked t j c (count_to x ops i) given values m → IsLinking t (more t (more t given (t.numbers.block + j) (all_edges (take (count_to x ops i) c.ops))) from o.successors) values m' → All (FitsTarget t.source) o.successors → AreEqualEdges o.successors
    → AreLinked t j c (count_to x ops (i + 1)) given values m'
linked_some x t j c ops i d o from given values m m' listed lt is here before after fits equal =
    subst (λ (k : ℕ). AreLinked t j c k given values m') (sym (count_some x ops i d o lt is))
    (linked_more t j c (count_to x ops i) o from given values m m' (next_spot x t j c ops i d o listed lt is).there here before after fits equal)

pub linked_none : (x : ContextData) (t : Task) (j : ℕ) (c : DialectBlock) (ops : List OpRef) (i : ℕ) (d : OpRef) (given : Given) (values : Values) (m m' : Module) → i < length ops → op_at (type_trees x.types) x.ops (get_or ops i d) ≡ None → m' ≡ m
    → AreLinked t j c (count_to x ops i) given values m → AreLinked t j c (count_to x ops (i + 1)) given values m'
linked_none x t j c ops i d given values m m' lt is same before =
    subst (λ (k : ℕ). AreLinked t j c k given values m') (sym (count_none x ops i d lt is)) (subst (λ (y : Module). AreLinked t j c (count_to x ops i) given values y) (sym same) before)

pub linked_all : (x : ContextData) (t : Task) (j : ℕ) (c : DialectBlock) (ops : List OpRef) (i : ℕ) (given : Given) (values : Values) (m : Module) → IsListed x t j c ops → length ops ≤ i → AreLinked t j c (count_to x ops i) given values m → AreLinked t j c (length c.ops) given values m
linked_all x t j c ops i given values m h whole done =
    subst (λ (os : List DialectOp). AreLinked t j c (length os) given values m) (ap (ops_in x) (take_all i ops whole) ∙ h.are) done

pub linked_block : (t : Task) (j : ℕ) (c : DialectBlock) (given : Given) (values : Values) (m : Module) → AreLinked t j c (length c.ops) given values m → IsLinking t (more t given (t.numbers.block + j) (edges_of c)) values m
linked_block t j c given values m h = subst (λ (os : List DialectOp). IsLinking t (more t given (t.numbers.block + j) (all_edges os)) values m) (take_all (length c.ops) c.ops (omega arith)) h.state

-- the edges of the last operation are those of the block
pub linked_accepted : (t : Task) (form : IsFormFunc t.source) (j : ℕ) (c : DialectBlock) (given : Given) (values : Values) (m : Module) → slice_get t.source.blocks j ≡ Some c → AreLinked t j c (length c.ops) given values m → AreAcceptedEdges t.source c
linked_accepted t form j c given values m at h =
    let last = last_edges t.source form j c at in
    let lt = slice_get_within c.ops last.0 last.1 last.2 in
    record {
      targets = subst (λ (ss : List Successor). All (FitsTarget t.source) ss) (sym last.3) (h.fits last.0 last.1 lt last.2);
      equal = subst (λ (ss : List Successor). AreEqualEdges ss) (sym last.3) (h.equal last.0 last.1 lt last.2);
    }

-- ---- the edges of the blocks

abbrev pub entries_to : Task → ℕ → Given
entries_to t j = entries_from t.source t.numbers (take j t.numbers.order)

pub entries_more : (t : Task) (j p : ℕ) (c : DialectBlock) (values : Values) (m : Module) → slice_get t.numbers.order j ≡ Some p → slice_get t.source.blocks p ≡ Some c → IsLinking t (more t (entries_to t j) (t.numbers.block + p) (edges_of c)) values m → IsLinking t (entries_to t (j + 1)) values m
entries_more t j p c values m named at s =
    linking_same t (more t (entries_to t j) (t.numbers.block + p) (edges_of c)) (entries_to t (j + 1))
    (λ v. sym (ap (λ (k : ℕ). entries_to t k v) (let k : j + 1 ≡ suc j = omega arith in k) ∙ ap (λ (ps : List ℕ). entries_from t.source t.numbers ps v) (take_suc t.numbers.order j p named)
    ∙ flat_map-append (block_passes t.source t.numbers v) (take j t.numbers.order) (p ∷ [])
    ∙ ap (λ (es : List (Operand × ℕ)). entries_to t j v ++ es) (append-nil (block_passes t.source t.numbers v p) ∙ ap (λ (o : Option DialectBlock). option_map_or (λ (x : DialectBlock). passed t.source t.numbers (t.numbers.block + p) (edges_of x) v) o []) at))) values m s

pub entries_all : (t : Task) (j : ℕ) (values : Values) (m : Module) → length t.numbers.order ≤ j → IsLinking t (entries_to t j) values m → IsLinking t (entries t.source t.numbers) values m
entries_all t j values m le s =
    linking_same t (entries_to t j) (entries t.source t.numbers) (λ v. ap (λ (ps : List ℕ). entries_from t.source t.numbers ps v) (take_all j t.numbers.order le)) values m s

-- ---- the next operation of a block

-- the entries once the first i operations of the block have theirs
abbrev pub linked_given : Task → ℕ → DialectBlock → ℕ → Given → Given
linked_given t j c i given = more t given (t.numbers.block + j) (all_edges (take i c.ops))

pub op_next : (x : ContextData) (t : Task) (j : ℕ) (c : DialectBlock) (b : BlockRef) (ops : List OpRef) (i : ℕ) (d : OpRef) (o : DialectOp) (blocks : Blocks) (from : Target) (given : Given) (values : Values) (start m : Module) → IsBlockLinked x t j c b blocks given values start
    → ops ≡ list_at x.lists b → found_block blocks b ≡ Some from → i < length ops → op_at (type_trees x.types) x.ops (get_or ops i d) ≡ Some o → AreLinked t j c (count_to x ops i) given values m
    → IsOpLinked x (get_or ops i d) (spot_of x ops i t j c o) from blocks (linked_given t j c (count_to x ops i) given) values m
op_next x t j c b ops i d o blocks from given values start m h are found lt is done =
    let here = target_here x t j c b blocks from h.at h.mapped found in
    record {
      spot = next_spot x t j c ops i d o (listed x t j c b ops h.at are) lt is;
      mapped = h.mapped;
      place_is = here.0;
      here = here.1;
      state = done.state;
    }
