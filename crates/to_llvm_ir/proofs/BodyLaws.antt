-- From one block of a function to the next.
use Rattle.std.proofs.Common.{◌≡◌, ◌<◌, ◌≤◌, ◌+◌, ℕ, zero, suc, Bool, nat_eq, nat_lt, if◌then◌else◌, List, [], ◌∷◌, ◌++◌, Option, Some, None, length, map, take, slice_get, get_or, refl, sym, ap, subst, ◌∙◌, arith, eq-eqb, ne_eqb, lt-ltb, le-ltb, ⊎_elim}
use Rattle.std.proofs.lemmas.Bool.{cond-true, cond-false, cases_eq, cases_lt}
use Rattle.std.specs.List.{flat_map, filter_map, cons_option}
use Rattle.std.proofs.lemmas.Option.{none-some, same_Some, slice_get_within}
use Rattle.std.proofs.lemmas.List.{append-nil, take_all}
use Rattle.std.proofs.lemmas.List.Concat.{flat_map-append}
use Rattle.support.proofs.ListLaws.{item_there}
use Rattle.llvm_core.specs.declared.numbers.LLVMFunction.{LLVMFunction}
use Rattle.llvm_core.specs.declared.numbers.LLVMType.{LLVMType}
use Rattle.llvm_core.specs.Module.{Module}
use Rattle.llvm_core.specs.Data.{Block, with_function}
use Rattle.dialect_types.specs.Trees.{type_trees}
use Rattle.dialect_core.specs.declared.numbers.BlockRef.{BlockRef}
use Rattle.dialect_core.specs.declared.numbers.OpRef.{OpRef}
use Rattle.dialect_core.specs.declared.ops.Value.{Value}
use Rattle.dialect_core.specs.Lists.{list_at}
use Rattle.dialect_core.specs.ContextData.{ContextData}
use Rattle.dialect_core.specs.Data.{DialectOp, DialectBlock, Func, op_at}
use Rattle.to_llvm_ir.specs.declared.values.Values.{Values}
use Rattle.to_llvm_ir.specs.declared.blocks.Blocks.{Blocks}
use Rattle.to_llvm_ir.specs.declared.blocks.Target.{Target}
use Rattle.to_llvm_ir.specs.Order.{IsTaken, arranged}
use Rattle.to_llvm_ir.specs.Exported.{result, arguments_of, phi_values}
use Rattle.to_llvm_ir.specs.Made.{Numbers, result_values, block_values, values_by, block_made, empty_blocks, block_phis, insts, function_with, no_entries, number_past}
use Rattle.to_llvm_ir.specs.States.{found, Has, AreKnown, Task, IsTask, IsBlockAt, IsListed, IsBetween, IsAtArgument, IsAtOp, IsLinking, AreAllMapped, found_block, turn, seen_to, values_to, filled, filled_to, blocks_before, blocks_within, first_at, all_values, upto}
use Rattle.to_llvm_ir.specs.Opening.{HasParams, IsOpening}
use Rattle.to_llvm_ir.specs.Bodies.{IsBlockBegun, IsBlocksBegun}
use Rattle.to_llvm_ir.proofs.ListLaws.{take_suc}
use Rattle.to_llvm_ir.proofs.TurnLaws.{named_within, named_once, turn_is, turn_at, turns_apart, turn_within, taken_here, taken_length, taken_from, block_values_at}
use Rattle.to_llvm_ir.proofs.FilledLaws.{with_same, with_none, with_made}
use Rattle.to_llvm_ir.proofs.KnownLaws.{known_other, known_count, has_flat, flat_has}
use Rattle.to_llvm_ir.proofs.ContextLaws.{block_parts}
use Rattle.to_llvm_ir.proofs.OpeningLaws.{block_there}
use Rattle.to_llvm_ir.proofs.ArgumentLaws.{block_number, arguments_done}

-- below a number and below the next
below_next : (a b : ℕ) → (a ≡ b → ⊥) → nat_lt a b ≡ nat_lt a (suc b)
below_next a b ne = ⊎_elim
    (λ less. lt-ltb a b less ∙ sym (lt-ltb a (suc b) (omega (arith, less))))
    (λ le. le-ltb a b le ∙ sym (le-ltb a (suc b) (⊎_elim (λ same. absurd (ne same)) (λ differs. omega (arith, le, differs)) (cases_eq a b))))
    (cases_lt a b)

module _ (x : ContextData) (t : Task) (task : IsTask x t) (j : ℕ) (c : DialectBlock) (here : slice_get t.source.blocks j ≡ Some c) where
  abbrev g : Func
  g = t.source

  abbrev n : Numbers
  n = t.numbers

  abbrev order : List ℕ
  order = t.numbers.order

  within : j < length g.blocks
  within = slice_get_within g.blocks j c here

  named : slice_get order (turn t j) ≡ Some j
  named = turn_at (length g.blocks) order task.order.once j within

  -- where another block stands
  apart : (q : ℕ) (d : DialectBlock) → slice_get g.blocks q ≡ Some d → (q ≡ j → ⊥) → turn t q ≡ turn t j → ⊥
  apart q d at ne e = ne (turns_apart (length g.blocks) order task.order.once q j (slice_get_within g.blocks q d at) within e)

  more : take (suc (turn t j)) order ≡ take (turn t j) order ++ j ∷ []
  more = take_suc order (turn t j) j named

  -- ---- the start of a block

  start_blocks : blocks_before t (turn t j) ≡ blocks_within t j []
  start_blocks = with_same g n (filled_to t (turn t j)) (λ p c. if nat_eq p j then [] else filled_to t (turn t j) p c) 0 g.blocks (λ k d at. one (0 + k) d)
    where
      one : (q : ℕ) (d : DialectBlock) → filled_to t (turn t j) q d ≡ (if nat_eq q j then [] else filled_to t (turn t j) q d)
      one q d = ⊎_elim
          (λ same.
          let le : turn t q ≡ turn t j = ap (turn t) same in
          cond-false (nat_lt (turn t q) (turn t j)) (filled t q d) [] (le-ltb (turn t q) (turn t j) (omega (arith, le)))
          ∙ sym (cond-true (nat_eq q j) [] (filled_to t (turn t j) q d) (eq-eqb q j same)))
          (λ differs. sym (cond-false (nat_eq q j) [] (filled_to t (turn t j) q d) (ne_eqb q j differs)))
          (cases_eq q j)

  no_phis : (j : ℕ) → block_phis g n no_entries j (first_at g j) (upto 0 c) ≡ []
  no_phis zero = refl
  no_phis (suc p) = refl

  no_values : (j : ℕ) → phi_values j (upto 0 c) ≡ []
  no_values zero = refl
  no_values (suc p) = refl

  pub begin_block : (known start : Values) (first : ℕ) (m : Module) → IsBetween t (turn t j) known m → start ≡ record known { next = first } → first ≡ first_at g j → IsAtArgument t j c 0 start m
  begin_block known start first m s is number = record {
    is = s.is ∙ ap (λ (bs : List Block). with_function t.before (function_with g n bs)) (start_blocks ∙ ap (blocks_within t j) (sym (no_phis j)));
    sound = s.sound;
    block_count = s.block_count;
    inst_count = s.inst_count ∙ ap (λ (vs : List Value). n.inst + length vs) (sym (append-nil (values_to t (turn t j))) ∙ ap (λ (vs : List Value). values_to t (turn t j) ++ vs) (sym (no_values j)));
    next = ap (λ (v : Values). v.next) is ∙ number ∙ (let e : first_at g j ≡ first_at g j + 0 = omega arith in e);
    known = subst (λ (vs : List Value). AreKnown g n vs start m) (sym (append-nil (seen_to t (turn t j)))) (known_count g n (seen_to t (turn t j)) known start m (λ v. ap (λ (w : Values). found w v) is) s.known);
  }

  -- ---- the end of a block

  end_blocks : blocks_within t j (filled t j c) ≡ blocks_before t (suc (turn t j))
  end_blocks = with_same g n (λ p d. if nat_eq p j then filled t j c else filled_to t (turn t j) p d) (filled_to t (suc (turn t j))) 0 g.blocks (λ k d at. one (0 + k) d (ap (slice_get g.blocks) (let e : 0 + k ≡ k = omega arith in e) ∙ at))
    where
      one : (q : ℕ) (d : DialectBlock) → slice_get g.blocks q ≡ Some d → (if nat_eq q j then filled t j c else filled_to t (turn t j) q d) ≡ filled_to t (suc (turn t j)) q d
      one q d at = ⊎_elim
          (λ same.
          let is : c ≡ d = same_Some c d (sym here ∙ ap (slice_get g.blocks) (sym same) ∙ at) in
          let le : turn t q ≡ turn t j = ap (turn t) same in
          cond-true (nat_eq q j) (filled t j c) (filled_to t (turn t j) q d) (eq-eqb q j same)
          ∙ ap (λ (p : ℕ). filled t p c) (sym same) ∙ ap (filled t q) is
          ∙ sym (cond-true (nat_lt (turn t q) (suc (turn t j))) (filled t q d) [] (lt-ltb (turn t q) (suc (turn t j)) (omega (arith, le)))))
          (λ differs.
          cond-false (nat_eq q j) (filled t j c) (filled_to t (turn t j) q d) (ne_eqb q j differs)
          ∙ ap (λ (b : Bool). if b then filled t q d else []) (below_next (turn t q) (turn t j) (apart q d at differs)))
          (cases_eq q j)

  end_values : values_to t (turn t j) ++ (phi_values j c ++ result_values c.ops) ≡ values_to t (suc (turn t j))
  end_values =
      sym (ap (λ (ps : List ℕ). values_by ps g) more ∙ flat_map-append (block_values g) (take (turn t j) order) (j ∷ [])
      ∙ ap (λ (vs : List Value). values_to t (turn t j) ++ vs) (append-nil (block_values g j) ∙ block_values_at g j c here))

  end_seen : seen_to t (turn t j) ++ (arguments_of c ++ map result c.ops) ≡ seen_to t (suc (turn t j))
  end_seen =
      let bs = (arranged order g).blocks in
      sym (ap (flat_map all_values) (take_suc bs (turn t j) c (taken_here g.blocks order task.order.once j c here)) ∙ flat_map-append all_values (take (turn t j) bs) (c ∷ []) ∙ ap (λ (vs : List Value). seen_to t (turn t j) ++ vs) (append-nil (all_values c)))

  whole : take (length c.ops) c.ops ≡ c.ops
  whole = take_all (length c.ops) c.ops (omega arith)

  pub end_block : (known : Values) (m : Module) → IsAtOp t j c (length c.ops) known m → IsBetween t (suc (turn t j)) known m
  end_block known m s = record {
    is = s.is ∙ ap (λ (os : List DialectOp). with_function t.before (function_with g n (blocks_within t j (block_phis g n no_entries j (first_at g j) c ++ insts g n (first_at g j + length c.args) os)))) whole ∙ ap (λ (bs : List Block). with_function t.before (function_with g n bs)) end_blocks;
    sound = s.sound;
    block_count = s.block_count;
    inst_count = s.inst_count ∙ ap (λ (os : List DialectOp). n.inst + length (values_to t (turn t j) ++ (phi_values j c ++ result_values os))) whole ∙ ap (λ (vs : List Value). n.inst + length vs) end_values;
    next = refl;
    known = subst (λ (vs : List Value). AreKnown g n vs known m) (ap (λ (os : List DialectOp). seen_to t (turn t j) ++ (arguments_of c ++ map result os)) whole ∙ end_seen) s.known;
  }

-- ---- the first and the last block

pub all_between : (t : Task) (taken : IsTaken t.source t.numbers.order) (known : Values) (m : Module) → IsBetween t (length t.numbers.order) known m → IsLinking t no_entries known m
all_between t taken known m s =
    let order = t.numbers.order in
    let whole : take (length order) order ≡ order = take_all (length order) order (omega arith) in
    record {
      is = s.is ∙ ap (λ (bs : List Block). with_function t.before (function_with t.source t.numbers bs)) (with_made t.source t.numbers no_entries (filled_to t (length order)) 0 0 t.source.blocks (λ j c at. full j c at));
      sound = s.sound;
      block_count = s.block_count;
      inst_count = s.inst_count ∙ ap (λ (ps : List ℕ). t.numbers.inst + length (values_by ps t.source)) whole;
      next = refl;
      known = known_other t.source t.numbers (seen_to t (length order)) (flat_map all_values t.source.blocks) known m back on s.known;
    }
  where
    full : (j : ℕ) (c : DialectBlock) → slice_get t.source.blocks j ≡ Some c → filled_to t (length t.numbers.order) (0 + j) c ≡ (block_made t.source t.numbers no_entries (0 + j) (number_past 0 (take j t.source.blocks)) c).instructions
    full j c at =
        let z : 0 + j ≡ j = omega arith in
        let lt = turn_within (length t.source.blocks) t.numbers.order taken.once j (slice_get_within t.source.blocks j c at) in
        ap (λ (q : ℕ). filled_to t (length t.numbers.order) q c) z
        ∙ cond-true (nat_lt (turn t j) (length t.numbers.order)) (filled t j c) [] (lt-ltb (turn t j) (length t.numbers.order) lt)
        ∙ ap (λ (q : ℕ). (block_made t.source t.numbers no_entries q (number_past 0 (take j t.source.blocks)) c).instructions) (sym z)

    all : take (length t.numbers.order) (arranged t.numbers.order t.source).blocks ≡ (arranged t.numbers.order t.source).blocks
    all = take_all (length t.numbers.order) (arranged t.numbers.order t.source).blocks (let e = taken_length t.source.blocks t.numbers.order taken.once in let k = taken.once.count in omega (arith, e, k))

    back : (v : Value) → Has (flat_map all_values t.source.blocks) v → Has (seen_to t (length t.numbers.order)) v
    back v has =
        let r = flat_has t.source.blocks v has in
        subst (λ (cs : List DialectBlock). Has (flat_map all_values cs) v) (sym all) (has_flat (arranged t.numbers.order t.source).blocks (turn t r.0) r.1 v (taken_here t.source.blocks t.numbers.order taken.once r.0 r.1 r.2) r.3)

    on : (v : Value) → Has (seen_to t (length t.numbers.order)) v → Has (flat_map all_values t.source.blocks) v
    on v has =
        let r = flat_has (arranged t.numbers.order t.source).blocks v (subst (λ (cs : List DialectBlock). Has (flat_map all_values cs) v) all has) in
        let p = taken_from t.source.blocks t.numbers.order taken.once r.0 r.1 r.2 in
        has_flat t.source.blocks p.0 r.1 v p.2 r.3

pub none_between : (t : Task) (f : LLVMFunction) (ty : LLVMType) (blocks : Blocks) (known : Values) (m : Module) → IsOpening t (length t.source.blocks) f ty blocks m → ((v : Value) → found known v ≡ None) → IsBetween t 0 known m
none_between t f ty blocks known m h none = record {
  is = h.is ∙ ap (λ (cs : List DialectBlock). with_function t.before (function_with t.source t.numbers (empty_blocks t.source t.numbers 0 cs))) (take_all (length t.source.blocks) t.source.blocks (omega arith))
      ∙ ap (λ (bs : List Block). with_function t.before (function_with t.source t.numbers bs)) (with_none t.source t.numbers 0 t.source.blocks
      ∙ with_same t.source t.numbers (λ q c. []) (filled_to t 0) 0 t.source.blocks (λ j c at. sym (cond-false (nat_lt (turn t (0 + j)) 0) (filled t (0 + j) c) [] (le-ltb (turn t (0 + j)) 0 (omega arith)))));
  sound = h.sound;
  block_count = h.block_count;
  inst_count = h.inst_count ∙ (let e : t.numbers.inst ≡ t.numbers.inst + 0 = omega arith in e);
  next = refl;
  known = record { known = λ v type has typed. absurd (none-some v has.1); only = λ v x at. absurd (none-some x (sym (none v) ∙ at)) };
}

-- ---- what the context tells of a block

pub listed : (c : ContextData) (t : Task) (j : ℕ) (block : DialectBlock) (b : BlockRef) (ops : List OpRef) → IsBlockAt c t j block b → ops ≡ list_at c.lists b → IsListed c t j block ops
listed c t j block b ops h are = record { task = h.task; here = h.here; are = ap (filter_map (op_at (type_trees c.types) c.ops)) are ∙ sym (block_parts c b block h.is).ops }

pub target_there : (c : ContextData) (t : Task) (j : ℕ) (block : DialectBlock) (b : BlockRef) (blocks : Blocks) → IsBlockAt c t j block b → AreAllMapped t blocks → (x : Target) × (found_block blocks b ≡ Some x)
target_there c t j block b blocks h mapped =
    let r = mapped.there j block (slice_get_within t.source.blocks j block h.here) h.here in
    (r.0, ap (λ (k : ℕ). found_block blocks (record { 0 = k })) (sym (block_number c t j block b h)) ∙ r.1)

pub target_here : (c : ContextData) (t : Task) (j : ℕ) (block : DialectBlock) (b : BlockRef) (blocks : Blocks) (x : Target) → IsBlockAt c t j block b → AreAllMapped t blocks → found_block blocks b ≡ Some x → (x.place ≡ j) × (x.block.0 ≡ t.numbers.block + j)
target_here c t j block b blocks x h mapped at =
    let r = mapped.only b x at in
    let same : r.place ≡ j = h.task.form.block_numbers r.place j r.block block r.here h.here (r.number ∙ sym (block_number c t j block b h)) in
    (r.place_is ∙ same, r.block_is ∙ ap (λ (k : ℕ). t.numbers.block + k) same)

-- ---- the arguments of a block are done

pub after_params : (x : ContextData) (t : Task) (j : ℕ) (c : DialectBlock) (b : BlockRef) (first : ℕ) (f : LLVMFunction) (blocks : Blocks) (old start new : Values) (m : Module) → IsBlockBegun x t j c b first f blocks old m → start ≡ record old { next = first } → j ≡ 0
    → (IsBlockAt x t 0 c b → HasParams t c f m → IsAtArgument t 0 c 0 start m → IsAtArgument t 0 c (length c.args) new m) → IsAtOp t j c 0 new m
after_params x t zero c b first f blocks old start new m h is zero_is step = arguments_done t 0 c new m (step h.at (h.params refl) (begin_block x t h.at.task 0 c h.at.here old start first m h.state is h.number))
after_params x t (suc p) c b first f blocks old start new m h is zero_is step = cc

-- the block is not the entry
pub phis_begun : (x : ContextData) (t : Task) (j : ℕ) (c : DialectBlock) (b : BlockRef) (first : ℕ) (f : LLVMFunction) (blocks : Blocks) (target : Target) (old start : Values) (m : Module) → IsBlockBegun x t j c b first f blocks old m → start ≡ record old { next = first } → (j ≡ 0 → ⊥) → found_block blocks b ≡ Some target
    → (p : ℕ) × (j ≡ suc p) × IsBlockAt x t (suc p) c b × (target.block.0 ≡ t.numbers.block + suc p) × IsAtArgument t (suc p) c 0 start m
phis_begun x t zero c b first f blocks target old start m h is ne found = absurd (ne refl)
phis_begun x t (suc p) c b first f blocks target old start m h is ne found = (p, refl, h.at, (target_here x t (suc p) c b blocks target h.at h.mapped found).1, begin_block x t h.at.task (suc p) c h.at.here old start first m h.state is h.number)

pub after_phis : (t : Task) (j p : ℕ) (c : DialectBlock) (new : Values) (m : Module) → j ≡ suc p → IsAtArgument t (suc p) c (length c.args) new m → IsAtOp t j c 0 new m
after_phis t j p c new m e s = subst (λ (q : ℕ). IsAtOp t q c 0 new m) (sym e) (arguments_done t (suc p) c new m s)

-- a block has no more operations than its list
one_more : {Y : Type 0} (o : Option Y) (ys : List Y) (k : ℕ) → length ys ≤ k → length (cons_option o ys) ≤ suc k
one_more None ys k h = omega (arith, h)
one_more (Some y) ys k h = omega (arith, h)

fewer : {X Y : Type 0} (h : X → Option Y) (xs : List X) → length (filter_map h xs) ≤ length xs
fewer h [] = omega arith
fewer h (x ∷ xs) = one_more (h x) (filter_map h xs) (length xs) (fewer h xs)

pub fewer_ops : (c : ContextData) (t : Task) (j : ℕ) (block : DialectBlock) (ops : List OpRef) → IsListed c t j block ops → length block.ops ≤ length ops
fewer_ops c t j block ops h = subst (λ (os : List DialectOp). length os ≤ length ops) h.are (fewer (op_at (type_trees c.types) c.ops) ops)

-- the first number of a block that the order names
pub first_there : (x : ContextData) (t : Task) (bs : List BlockRef) (order : List ℕ) (k p : ℕ) (firsts : List ℕ) (f : LLVMFunction) (blocks : Blocks) (start : Module) → IsBlocksBegun x t bs order f blocks start
    → ((j : ℕ) (c : DialectBlock) → slice_get t.source.blocks j ≡ Some c → slice_get firsts j ≡ Some (first_at t.source j)) → slice_get order k ≡ Some p → p < length firsts
first_there x t bs _ k p firsts f blocks start h numbers named =
    let lt = named_within (length t.source.blocks) t.numbers.order h.are.task.order.once k p (ap (λ (ps : List ℕ). slice_get ps k) (sym h.order_is) ∙ named) in
    let c = item_there t.source.blocks p lt in
    slice_get_within firsts p (first_at t.source p) (numbers p c.0 c.1)

-- the next block of the order
pub block_begun : (x : ContextData) (t : Task) (bs : List BlockRef) (order : List ℕ) (k : ℕ) (d : BlockRef) (p first : ℕ) (f : LLVMFunction) (blocks : Blocks) (start : Module) (known : Values) (m : Module) → IsBlocksBegun x t bs order f blocks start → slice_get order k ≡ Some p
    → ((c : DialectBlock) → slice_get t.source.blocks p ≡ Some c → first ≡ first_at t.source p) → IsBetween t k known m
    → ((c : DialectBlock) → k ≡ 0 → slice_get t.source.blocks 0 ≡ Some c → HasParams t c f m) → (c : DialectBlock) × IsBlockBegun x t p c (get_or bs p d) first f blocks known m
block_begun x t bs order k d p first f blocks start known m h named number state params =
    let once = h.are.task.order.once in
    let named' : slice_get t.numbers.order k ≡ Some p = ap (λ (ps : List ℕ). slice_get ps k) (sym h.order_is) ∙ named in
    let lt = named_within (length t.source.blocks) t.numbers.order once k p named' in
    let b = block_there x t bs p d h.are (let c = h.are.count in omega (arith, lt, c)) in (
      b.0,
      record {
        at = b.1;
        mapped = h.opening.mapped;
        params = λ zero.
            let first_turn : k ≡ 0 = named_once (length t.source.blocks) t.numbers.order once k 0 p named' (h.are.task.order.entry_first ∙ ap Some (sym zero)) in
            params b.0 first_turn (subst (λ (i : ℕ). slice_get t.source.blocks i ≡ Some b.0) zero b.1.here);
        number = number b.0 b.1.here;
        state = subst (λ (i : ℕ). IsBetween t i known m) (sym (turn_is (length t.source.blocks) t.numbers.order once k p named')) state;
      },
    )
