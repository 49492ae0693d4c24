-- The operations of a block, one after another.
use Rattle.std.proofs.Common.{◌≡◌, ◌<◌, ◌≤◌, ◌+◌, ℕ, suc, List, [], ◌∷◌, ◌++◌, Option, Some, None, length, take, slice_get, get_or, sym, ap, subst, ◌∙◌, arith, ⊎_elim, length-append}
use Rattle.std.specs.List.{filter_map, cons_option}
use Rattle.std.proofs.lemmas.Bool.{cases_eq}
use Rattle.std.proofs.lemmas.Option.{same_Some}
use Rattle.std.proofs.lemmas.List.{append-nil, take_all}
use Rattle.llvm_core.specs.declared.numbers.LLVMBasicBlock.{LLVMBasicBlock}
use Rattle.llvm_core.specs.Module.{Module}
use Rattle.dialect_types.specs.Trees.{type_trees}
use Rattle.dialect_core.specs.declared.numbers.OpRef.{OpRef}
use Rattle.dialect_core.specs.ContextData.{ContextData}
use Rattle.dialect_core.specs.Data.{DialectOp, DialectBlock, op_at}
use Rattle.to_llvm_ir.specs.declared.values.Values.{Values}
use Rattle.to_llvm_ir.specs.declared.blocks.Blocks.{Blocks}
use Rattle.to_llvm_ir.specs.Accepted.{IsAcceptedOp}
use Rattle.to_llvm_ir.specs.States.{Task, Spot, IsSpot, IsListed, IsBegun, IsAtOp, AreDone}
use Rattle.to_llvm_ir.proofs.ListLaws.{filter_map_more, filter_map_at, at_middle}

abbrev pub ops_in : ContextData → List OpRef → List DialectOp
ops_in c ops = filter_map (op_at (type_trees c.types) c.ops) ops

-- how many operations there are among the first
abbrev pub count_to : ContextData → List OpRef → ℕ → ℕ
count_to c ops i = length (ops_in c (take i ops))

abbrev pub spot_of : ContextData → List OpRef → ℕ → Task → ℕ → DialectBlock → DialectOp → Spot
spot_of c ops i t j b o = record { task = t; place = j; block = b; at = count_to c ops i; op = o }

pub next_spot : (c : ContextData) (t : Task) (j : ℕ) (b : DialectBlock) (ops : List OpRef) (i : ℕ) (d : OpRef) (o : DialectOp) → IsListed c t j b ops → i < length ops → op_at (type_trees c.types) c.ops (get_or ops i d) ≡ Some o → IsSpot c (get_or ops i d) (spot_of c ops i t j b o)
next_spot c t j b ops i d o h lt is =
    let r = filter_map_at (op_at (type_trees c.types) c.ops) ops i d o lt is in
    record {
      task = h.task;
      is = is;
      here = h.here;
      there = ap (λ (os : List DialectOp). slice_get os (count_to c ops i)) (sym h.are ∙ r.1) ∙ at_middle (ops_in c (take i ops)) o r.0;
    }

one_item : (x : Option DialectOp) (o : DialectOp) → x ≡ Some o → cons_option x [] ≡ o ∷ []
one_item x o e = ap (λ (y : Option DialectOp). cons_option y []) e

pub count_some : (c : ContextData) (ops : List OpRef) (i : ℕ) (d : OpRef) (o : DialectOp) → i < length ops → op_at (type_trees c.types) c.ops (get_or ops i d) ≡ Some o → count_to c ops (i + 1) ≡ suc (count_to c ops i)
count_some c ops i d o lt is =
    let h = op_at (type_trees c.types) c.ops in
    let e : ops_in c (take (i + 1) ops) ≡ ops_in c (take i ops) ++ o ∷ [] = filter_map_more h ops i d lt ∙ ap (λ (os : List DialectOp). ops_in c (take i ops) ++ os) (one_item (h (get_or ops i d)) o is) in
    let k = ap (λ (os : List DialectOp). length os) e in
    let l = length-append (ops_in c (take i ops)) (o ∷ []) in
    omega (arith, k, l)

pub count_none : (c : ContextData) (ops : List OpRef) (i : ℕ) (d : OpRef) → i < length ops → op_at (type_trees c.types) c.ops (get_or ops i d) ≡ None → count_to c ops (i + 1) ≡ count_to c ops i
count_none c ops i d lt is =
    let h = op_at (type_trees c.types) c.ops in
    ap (λ (os : List DialectOp). length os) (filter_map_more h ops i d lt ∙ ap (λ (x : Option DialectOp). ops_in c (take i ops) ++ cons_option x []) is ∙ append-nil (ops_in c (take i ops)))

-- one more is done
pub done_some : (c : ContextData) (t : Task) (j : ℕ) (b : DialectBlock) (ops : List OpRef) (i : ℕ) (d : OpRef) (o : DialectOp) (old new : Values) (m m' : Module) → IsListed c t j b ops → i < length ops → op_at (type_trees c.types) c.ops (get_or ops i d) ≡ Some o
    → AreDone t j b (count_to c ops i) old m → IsAtOp t j b (suc (count_to c ops i)) new m' → IsAcceptedOp t.numbers.order t.source j (count_to c ops i) o → AreDone t j b (count_to c ops (i + 1)) new m'
done_some c t j b ops i d o old new m m' h lt is before after accepted =
    let count = count_some c ops i d o lt is in
    let there = (next_spot c t j b ops i d o h lt is).there in
    subst (λ (k : ℕ). AreDone t j b k new m') (sym count) (record {
      state = after;
      accepted = λ k x less at. ⊎_elim
          (λ same.
          let e : o ≡ x = same_Some o x (sym there ∙ ap (slice_get b.ops) (sym same) ∙ at) in
          subst (λ (y : DialectOp). IsAcceptedOp t.numbers.order t.source j k y) e (subst (λ (q : ℕ). IsAcceptedOp t.numbers.order t.source j q o) (sym same) accepted))
          (λ differs. before.accepted k x (omega (arith, less, differs)) at)
          (cases_eq k (count_to c ops i));
    })

pub done_none : (c : ContextData) (t : Task) (j : ℕ) (b : DialectBlock) (ops : List OpRef) (i : ℕ) (d : OpRef) (old new : Values) (m m' : Module) → i < length ops → op_at (type_trees c.types) c.ops (get_or ops i d) ≡ None → new ≡ old → m' ≡ m
    → AreDone t j b (count_to c ops i) old m → AreDone t j b (count_to c ops (i + 1)) new m'
done_none c t j b ops i d old new m m' lt is same same' before =
    subst (λ (k : ℕ). AreDone t j b k new m') (sym (count_none c ops i d lt is)) (subst (λ (v : Values). AreDone t j b (count_to c ops i) v m') (sym same) (subst (λ (x : Module). AreDone t j b (count_to c ops i) old x) (sym same') before))

-- all are done
pub done_all : (c : ContextData) (t : Task) (j : ℕ) (b : DialectBlock) (ops : List OpRef) (i : ℕ) (values : Values) (m : Module) → IsListed c t j b ops → length ops ≤ i → AreDone t j b (count_to c ops i) values m → AreDone t j b (length b.ops) values m
done_all c t j b ops i values m h whole done =
    subst (λ (os : List DialectOp). AreDone t j b (length os) values m) (ap (ops_in c) (take_all i ops whole) ∙ h.are) done

pub done_at_start : (c : ContextData) (t : Task) (j : ℕ) (b : DialectBlock) (ops : List OpRef) (blocks : Blocks) (target : LLVMBasicBlock) (values : Values) (m : Module) → IsBegun c t j b ops blocks target values m → AreDone t j b (count_to c ops 0) values m
done_at_start c t j b ops blocks target values m h = record { state = h.state; accepted = λ k o lt at. absurd (omega (arith, lt)) }
