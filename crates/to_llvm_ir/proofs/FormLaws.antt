-- The function that is made is of the form.
use Rattle.std.proofs.Common.{◌≡◌, ◌<◌, ◌≤◌, ◌+◌, ◌-◌, ◌^◌, ◌&&◌, ◌||◌, ℕ, zero, suc, Bool, true, false, true≢false, not, if◌then◌else◌, List, [], ◌∷◌, ◌++◌, Option, Some, None, All, length, map, take, slice_get, refl, sym, ap, subst, ◌∙◌, arith}
use Rattle.std.specs.Prelude.{IfSome, unwrap_or}
use Rattle.std.specs.List.{find, flat_map, list_any}
use Rattle.std.specs.Option.{option_map, option_map_or}
use Rattle.std.proofs.lemmas.Option.{same_Some, none-some, slice_get_within, slice_get-map}
use Rattle.std.proofs.lemmas.Bool.{cond-false, and_from, or_from}
use Rattle.std.proofs.lemmas.List.{append_assoc, length-map, length_push, take_at}
use Rattle.std.proofs.lemmas.List.Elements.{All-nil, All-cons, All-head, All-tail, All-append}
use Rattle.kinds.specs.declared.op.Op.{Op}
use Rattle.kinds.specs.declared.rules.Takes.{Takes}
use Rattle.kinds.specs.declared.rules.Takes.TheVariants as T
use Rattle.kinds.specs.Table.{rule_of}
use Rattle.kinds.specs.Types.{types_list, result_of}
use Rattle.kinds.specs.Held.{IsFirstClass, IsReturned, IsHeld}
use Rattle.kinds.proofs.HeldLaws.{void_if, held_own, held_first_class, held_result_returned, returned_if, returned_void}
use Rattle.llvm_core.specs.Checked.{ends_in_only}
use Rattle.llvm_core.specs.Edges.{count_of}
use Rattle.support.specs.Interned.{IsDistinctList}
use Rattle.kinds.specs.Names.{IsGoodOrNone}
use Rattle.llvm_core.specs.Data.{Operand, Placed, Block, Function, placed_in, operand_type}
use Rattle.llvm_core.specs.Form as F
use Rattle.llvm_core.specs.Form.{IsFormFunction, IsFormInstruction, IsFormRow, IsFormPlaced, IsFormBlock, IsTarget, is_last}
use Rattle.support.proofs.ListLaws.{slice_get-push, all_from, item_there}
use Rattle.dialect_types.specs.Trees.{TypeTree, VoidType}
use Rattle.block_order.specs.Order.{IsOrder}
use Rattle.dialect_core.specs.declared.numbers.BlockRef.{BlockRef}
use Rattle.dialect_core.specs.declared.ops.Value.{Value}
use Rattle.dialect_core.specs.declared.ops.Value.TheVariants.{Argument}
use Rattle.dialect_core.specs.declared.ops.Successor.{Successor}
use Rattle.dialect_core.specs.Data.{DialectOp, DialectBlock, Func, llvm_name_of, Kind, ConstantOp, FilledOp, RowOp, value_type}
use Rattle.dialect_core.specs.Rules.{IsOfKind, IsReturning, IsRow, type_nth}
use Rattle.dialect_core.specs.Form.{IsFormFunc, IsFormOp, IsHeldValue, HasTargets, is_constant, is_constant_kind, is_terminator, is_terminator_kind}
use Rattle.meaning.specs.Dialect.{option_type}
use Rattle.to_llvm_ir.specs.Order.{turn_of}
use Rattle.to_llvm_ir.specs.Exported.{blocks_by, block_name, value_name, result_name}
use Rattle.to_llvm_ir.specs.Made.{Numbers, operand_for, row_for, instruction_for, inst, insts, phis, block_phis, block_made, function_made, entries, number_past, entry_args, number_after, number_behind}
use Rattle.to_llvm_ir.specs.Accepted.{IsAccepted}
use Rattle.to_llvm_ir.specs.Links.{HasTarget}
use Rattle.to_llvm_ir.specs.Functions.{HasRules}
use Rattle.to_llvm_ir.proofs.ListLaws.{AreNumbered, all_at}
use Rattle.to_llvm_ir.proofs.NameLaws.{no_intrinsic, bare_good}
use Rattle.to_llvm_ir.proofs.TurnLaws.{turn_at, filter_taken}
use Rattle.to_llvm_ir.proofs.LookupLaws.{argument_type, block_form, op_form, entry_at, place_is}
use Rattle.to_llvm_ir.proofs.PlacedLaws.{placed_numbered, params_count, operand_form, operand_typed, types_count}
use Rattle.to_llvm_ir.proofs.EdgeLaws.{made_at, made_from, made_numbered, target_for, edge_among, edge_form, is_from, first_entry}
use Rattle.to_llvm_ir.proofs.CountLaws.{sources_count, comes_by}
use Rattle.to_llvm_ir.proofs.PhiLaws.{insts_no_phi, block_phis_phi, phis_first, has_target, phi_sources, phi_alike}
use Rattle.to_llvm_ir.proofs.RowLaws.{fits_row, typed_row}
use Rattle.to_llvm_ir.proofs.EdgeLaws.{blocks_count}

-- ---- numbers of values

after_le : (r : Option TypeTree) (k : ℕ) → k ≤ number_after r k
after_le None k = omega arith
after_le (Some t) k = omega arith

pub behind_le : (k : ℕ) (os : List DialectOp) → k ≤ number_behind k os
behind_le k [] = omega arith
behind_le k (o ∷ os) = let h = behind_le (number_after o.result k) os in let e = after_le o.result k in omega (arith, h, e)

pub past_le : (k : ℕ) (cs : List DialectBlock) → k ≤ number_past k cs
past_le k [] = omega arith
past_le k (c ∷ cs) = let h = past_le (number_behind (k + length c.args) c.ops) cs in let e = behind_le (k + length c.args) c.ops in omega (arith, h, e)

pub past_append : (k : ℕ) (cs ds : List DialectBlock) → number_past k (cs ++ ds) ≡ number_past (number_past k cs) ds
past_append k [] ds = refl
past_append k (c ∷ cs) ds = past_append (number_behind (k + length c.args) c.ops) cs ds

-- the numbers of a block are below those past all blocks
pub block_past : (cs : List DialectBlock) (j k : ℕ) (c : DialectBlock) → slice_get cs j ≡ Some c → number_behind (number_past k (take j cs) + length c.args) c.ops ≤ number_past k cs
block_past [] j k c at = absurd (none-some c at)
block_past (d ∷ cs) zero k c at = subst (λ (x : DialectBlock). number_behind (k + length x.args) x.ops ≤ number_past (number_behind (k + length d.args) d.ops) cs) (same_Some d c at) (past_le (number_behind (k + length d.args) d.ops) cs)
block_past (d ∷ cs) (suc j) k c at = block_past cs j (number_behind (k + length d.args) d.ops) c at

-- ---- types

unnamed_good : (ts : List TypeTree) → All IsGoodOrNone (map (λ (t : TypeTree). let none : List ℕ = [] in none) ts)
unnamed_good [] = All-nil IsGoodOrNone
unnamed_good (t ∷ ts) = All-cons IsGoodOrNone [] (map (λ (t : TypeTree). let none : List ℕ = [] in none) ts) tt (unnamed_good ts)

numbers_distinct : {X : Type 0} (number : X → ℕ) (xs : List X) → AreNumbered number xs → IsDistinctList (map number xs)
numbers_distinct number xs h i j m at at' = by (slice_get xs i) refl (slice_get xs j) refl (sym (slice_get-map number xs i) ∙ at) (sym (slice_get-map number xs j) ∙ at')
  where
    by : (o : Option _) → slice_get xs i ≡ o → (q : Option _) → slice_get xs j ≡ q → option_map number o ≡ Some m → option_map number q ≡ Some m → i ≡ j
    by None e q f k l = absurd (none-some m k)
    by (Some a) e None f k l = absurd (none-some m l)
    by (Some a) e (Some b) f k l = h i j a b e f (same_Some (number a) m k ∙ sym (same_Some (number b) m l))

-- ---- results

type_or_void : (own : Option TypeTree) → option_type own ≡ unwrap_or own VoidType
type_or_void None = refl
type_or_void (Some t) = refl

own_returned : (own : Option TypeTree) → IfSome own IsHeld → IsReturned (option_type own)
own_returned None h = returned_void VoidType refl
own_returned (Some t) h = returned_if t (held_first_class t h)

no_void : (t : TypeTree) → IsHeld t → t ≡ VoidType → ⊥
no_void t h e = true≢false (sym (void_if t e) ∙ held_own t h)

own_unnamed : (name : Option (List ℕ)) (own : Option TypeTree) (k : ℕ) → IfSome own IsHeld → option_type own ≡ VoidType → result_name name own k ≡ []
own_unnamed name None k h e = refl
own_unnamed name (Some t) k h e = absurd (no_void t h e)

-- ---- the last of a list

pub ends_last : {X : Type 0} (p : X → Bool) (xs : List X) (x : X) → list_any p xs ≡ false → p x ≡ true → ends_in_only p (xs ++ x ∷ []) ≡ true
ends_last p xs x none ends =
    let n : length (xs ++ x ∷ []) - 1 ≡ length xs = let e = length_push xs x in omega (arith, e) in
    ap (λ (k : ℕ). option_map_or p (slice_get (xs ++ x ∷ []) k) false && not (list_any p (take k (xs ++ x ∷ [])))) n
    ∙ and_from (option_map_or p (slice_get (xs ++ x ∷ []) (length xs)) false) (not (list_any p (take (length xs) (xs ++ x ∷ []))))
    (ap (λ o. option_map_or p o false) (slice_get-push xs x (length xs) refl) ∙ ends) (ap (λ ys. not (list_any p ys)) (take_at xs (x ∷ []) (length xs) refl) ∙ ap not none)

any_append : {X : Type 0} (p : X → Bool) (xs ys : List X) → list_any p xs ≡ false → list_any p ys ≡ false → list_any p (xs ++ ys) ≡ false
any_append p [] ys h k = k
any_append {X} p (x ∷ xs) ys h k = by (p x) h (λ e. any_append p xs ys e k)
  where
    by : (t : Bool) → (t || list_any p xs) ≡ false → (list_any p xs ≡ false → list_any p (xs ++ ys) ≡ false) → (t || list_any p (xs ++ ys)) ≡ false
    by true e f = cc
    by false e f = f e

module _ (g : Func) (form : IsFormFunc g) (ruled : HasRules g) (n : Numbers) (order : IsOrder (length g.blocks) n.order) where
  abbrev made : Function
  made = function_made g n (entries g n)

  -- ---- terminators

  ends_alike : (k : Kind) (own : Option TypeTree) (vs : List Value) (ss : List Successor) → F.is_terminator (instruction_for g n k own vs ss) ≡ is_terminator_kind k
  ends_alike (ConstantOp value) own vs ss = refl
  ends_alike (FilledOp fill) own vs ss = refl
  ends_alike (RowOp op) own vs ss = refl

  terminator_other : (k : Kind) → is_terminator_kind k ≡ true → is_constant_kind k ≡ false
  terminator_other (ConstantOp value) e = cc
  terminator_other (FilledOp fill) e = cc
  terminator_other (RowOp op) e = refl

  insts_open : (k : ℕ) (os : List DialectOp) → All (λ (o : DialectOp). is_terminator o ≡ false) os → list_any is_last (insts g n k os) ≡ false
  insts_open k [] h = refl
  insts_open k (o ∷ os) h = by (is_constant o) refl (insts_open (number_after o.result k) os (All-tail (λ (o : DialectOp). is_terminator o ≡ false) o os h))
    where
      by : (t : Bool) → is_constant o ≡ t → list_any is_last (insts g n (number_after o.result k) os) ≡ false → list_any is_last (if t then insts g n (number_after o.result k) os else inst g n k o ∷ insts g n (number_after o.result k) os) ≡ false
      by true e r = r
      by false e r = or_from (is_last (inst g n k o)) (list_any is_last (insts g n (number_after o.result k) os)) (ends_alike o.kind o.result o.operands o.successors ∙ All-head (λ (o : DialectOp). is_terminator o ≡ false) o os h) r

  phis_open : (given : Value → List (Operand × ℕ)) (b i k : ℕ) (ts : List TypeTree) → list_any is_last (phis g n given b i k ts) ≡ false
  phis_open given b i k [] = refl
  phis_open given b i k (t ∷ ts) = phis_open given b (suc i) (k + 1) ts

  block_phis_open : (given : Value → List (Operand × ℕ)) (p k : ℕ) (c : DialectBlock) → list_any is_last (block_phis g n given p k c) ≡ false
  block_phis_open given zero k c = refl
  block_phis_open given (suc p) k c = phis_open given c.number 0 k c.args

  pub insts_push : (k : ℕ) (os : List DialectOp) (o : DialectOp) → is_constant o ≡ false → insts g n k (os ++ o ∷ []) ≡ insts g n k os ++ inst g n (number_behind k os) o ∷ []
  insts_push k [] o e = cond-false (is_constant o) [] (inst g n k o ∷ []) e
  insts_push k (x ∷ os) o e = by (is_constant x) (insts_push (number_after x.result k) os o e)
    where
      by : (t : Bool) → insts g n (number_after x.result k) (os ++ o ∷ []) ≡ insts g n (number_after x.result k) os ++ inst g n (number_behind (number_after x.result k) os) o ∷ []
          → (if t then insts g n (number_after x.result k) (os ++ o ∷ []) else inst g n k x ∷ insts g n (number_after x.result k) (os ++ o ∷ []))
          ≡ (if t then insts g n (number_after x.result k) os else inst g n k x ∷ insts g n (number_after x.result k) os) ++ inst g n (number_behind (number_after x.result k) os) o ∷ []
      by true r = r
      by false r = ap (λ (ps : List Placed). inst g n k x ∷ ps) r

  block_ends : (p k j : ℕ) (c : DialectBlock) → slice_get g.blocks j ≡ Some c → ends_in_only is_last (block_made g n (entries g n) p k c).instructions ≡ true
  block_ends p k j c at =
      let e = (block_form g form j c at).ends in
      let other = terminator_other e.last.kind e.ends in
      let m = k + length c.args in
      let are : (block_made g n (entries g n) p k c).instructions ≡ (block_phis g n (entries g n) p k c ++ insts g n m e.front) ++ inst g n (number_behind m e.front) e.last ∷ [] =
      ap (λ (os : List DialectOp). block_phis g n (entries g n) p k c ++ insts g n m os) e.are
      ∙ ap (λ (ps : List Placed). block_phis g n (entries g n) p k c ++ ps) (insts_push m e.front e.last other)
      ∙ sym (append_assoc (block_phis g n (entries g n) p k c) (insts g n m e.front) (inst g n (number_behind m e.front) e.last ∷ [])) in
      ap (ends_in_only is_last) are
      ∙ ends_last is_last (block_phis g n (entries g n) p k c ++ insts g n m e.front) (inst g n (number_behind m e.front) e.last)
      (any_append is_last (block_phis g n (entries g n) p k c) (insts g n m e.front) (block_phis_open (entries g n) p k c) (insts_open m e.front e.before))
      (ends_alike e.last.kind e.last.result e.last.operands e.last.successors ∙ e.ends)

  -- ---- targets

  target_form : (s : Successor) → HasTarget g s → IsTarget made (target_for g n s)
  target_form s h =
      let there = made_at g n (entries g n) 0 0 g.blocks (suc h.place) h.block h.here in (
        h.place,
        block_made g n (entries g n) (0 + suc h.place) (number_past 0 (take (suc h.place) g.blocks)) h.block,
        there,
        sym (ap (λ (m : ℕ). n.block + m) (place_is g form (suc h.place) s.block.0 h.block h.here h.number) ∙ (let e : n.block + suc h.place ≡ n.block + (0 + suc h.place) = omega arith in e)),
      )

  -- ---- instructions

  operands_own : (vs : List Value) → All (IsHeldValue g) vs → All (F.IsOperandOf made) (map (operand_for g n) vs)
  operands_own [] h = All-nil (F.IsOperandOf made)
  operands_own (v ∷ vs) h =
      let one = All-head (IsHeldValue g) v vs h in
      All-cons (F.IsOperandOf made) (operand_for g n v) (map (operand_for g n) vs) (operand_form g form n order (entries g n) ruled v one.0 one.1).stands (operands_own vs (All-tail (IsHeldValue g) v vs h))

  operands_first_class : (vs : List Value) → All (IsHeldValue g) vs → All IsFirstClass (F.types_of made (map (operand_for g n) vs))
  operands_first_class [] h = All-nil IsFirstClass
  operands_first_class (v ∷ vs) h =
      let one = All-head (IsHeldValue g) v vs h in
      let is = operand_form g form n order (entries g n) ruled v one.0 one.1 in
      All-cons IsFirstClass (operand_type made (operand_for g n v)) (F.types_of made (map (operand_for g n) vs)) (subst IsFirstClass (sym is.typed) is.first_class) (operands_first_class vs (All-tail (IsHeldValue g) v vs h))

  operands_typed : (vs : List Value) → All (IsHeldValue g) vs → (i : ℕ) → slice_get (F.types_of made (map (operand_for g n) vs)) i ≡ type_nth (value_type g) vs i
  operands_typed [] h i = refl
  operands_typed (v ∷ vs) h zero = let one = All-head (IsHeldValue g) v vs h in ap Some (operand_typed g form n order (entries g n) ruled v one.0 one.1.typed) ∙ sym one.1.typed
  operands_typed (v ∷ vs) h (suc i) = operands_typed vs (All-tail (IsHeldValue g) v vs h) i

  operands_counted : (vs : List Value) → length (F.types_of made (map (operand_for g n) vs)) ≡ length vs
  operands_counted vs = length-map (map (operand_for g n) vs) (operand_type made) ∙ length-map vs (operand_for g n)

  targets_form : (ss : List Successor) → All (λ (s : Successor). IsTarget made (target_for g n s)) ss → All (IsTarget made) (map (target_for g n) ss)
  targets_form [] h = All-nil (IsTarget made)
  targets_form (s ∷ ss) h =
      All-cons (IsTarget made) (target_for g n s) (map (target_for g n) ss) (All-head (λ (s : Successor). IsTarget made (target_for g n s)) s ss h) (targets_form ss (All-tail (λ (s : Successor). IsTarget made (target_for g n s)) s ss h))

  returning : (t : Takes) (vs : List Value) → IsReturning t (value_type g) (result_of g.type) vs → F.IsReturning t made (map (operand_for g n) vs)
  returning T.Nothing vs h = tt
  returning (T.One x) vs h = tt
  returning (T.Two x y) vs h = tt
  returning (T.Three x y z) vs h = tt
  returning T.Return vs h = all vs h
    where
      all : (us : List Value) → All (λ (v : Value). value_type g v ≡ Some (result_of g.type)) us → All (λ (o : Operand). operand_type made o ≡ result_of g.type) (map (operand_for g n) us)
      all [] k = All-nil (λ (o : Operand). operand_type made o ≡ result_of g.type)
      all (v ∷ us) k =
          All-cons (λ (o : Operand). operand_type made o ≡ result_of g.type) (operand_for g n v) (map (operand_for g n) us)
          (operand_typed g form n order (entries g n) ruled v (result_of g.type) (All-head (λ (v : Value). value_type g v ≡ Some (result_of g.type)) v us k))
          (all us (All-tail (λ (v : Value). value_type g v ≡ Some (result_of g.type)) v us k))

  row_form : (op : Op) (vs : List Value) (own : Option TypeTree) (ss : List Successor) → IsRow (value_type g) g op vs own ss → All (IsHeldValue g) vs → All (λ (s : Successor). IsTarget made (target_for g n s)) ss
      → IsFormRow made (option_type own) (row_for g n op own vs ss)
  row_form op vs own ss row held targets =
      let ts = F.types_of made (map (operand_for g n) vs) in
      record {
        operands = operands_own vs held;
        first_class = operands_first_class vs held;
        count = length-map vs (operand_for g n) ∙ row.count;
        fits = fits_row (value_type g) g op vs own ss row ts (operands_counted vs) (operands_typed vs held);
        returns = returning (rule_of op).takes vs row.returns;
        result = type_or_void own ∙ ap (λ (o : Option TypeTree). unwrap_or o VoidType) (sym (typed_row (value_type g) g op vs own ss row ts (operands_counted vs) (operands_typed vs held)));
        targets = targets_form ss targets;
        leads = length-map ss (target_for g n) ∙ row.leads.0;
      }

  instruction_form : (b : ℕ) (kind : Kind) (vs : List Value) (own : Option TypeTree) (ss : List Successor) → IsOfKind (value_type g) g vs own ss kind → is_constant_kind kind ≡ false → All (IsHeldValue g) vs → All (λ (s : Successor). IsTarget made (target_for g n s)) ss
      → IsFormInstruction made b (option_type own) (instruction_for g n kind own vs ss)
  instruction_form b (ConstantOp value) vs own ss h other held targets = absurd (let e : true ≡ false = other in cc)
  instruction_form b (FilledOp fill) vs own ss h other held targets = absurd (let e : true ≡ false = other in cc)
  instruction_form b (RowOp op) vs own ss h other held targets = row_form op vs own ss h held targets

  placed_form : (b k : ℕ) (o : DialectOp) → IsFormOp g o → is_constant o ≡ false → IsGoodOrNone (result_name o.name o.result k) → All (λ (s : Successor). IsTarget made (target_for g n s)) o.successors → IsFormPlaced made b (inst g n k o)
  placed_form b k o h other name targets = record {
    instruction = instruction_form b o.kind o.operands o.result o.successors h.kind other h.operands targets;
    returned = own_returned o.result h.result;
    name = name;
    unnamed = own_unnamed o.name o.result k h.result;
  }

  insts_form : (b k : ℕ) (os : List DialectOp) → number_behind k os < 2 ^ 64
      → ((i m : ℕ) (o : DialectOp) → slice_get os i ≡ Some o → is_constant o ≡ false → m < 2 ^ 64 → IsFormPlaced made b (inst g n m o)) → All (IsFormPlaced made b) (insts g n k os)
  insts_form b k [] small h = All-nil (IsFormPlaced made b)
  insts_form b k (o ∷ os) small h = by (is_constant o) refl (insts_form b (number_after o.result k) os small (λ i m x at. h (suc i) m x at))
    where
      by : (t : Bool) → is_constant o ≡ t → All (IsFormPlaced made b) (insts g n (number_after o.result k) os)
          → All (IsFormPlaced made b) (if t then insts g n (number_after o.result k) os else inst g n k o ∷ insts g n (number_after o.result k) os)
      by true e r = r
      by false e r = All-cons (IsFormPlaced made b) (inst g n k o) (insts g n (number_after o.result k) os) (h 0 k o refl e (let l = behind_le k (o ∷ os) in omega (arith, small, l))) r

  module _ (accepted : IsAccepted n.order g) (targets : HasTargets g) (small : number_past 0 g.blocks < 2 ^ 64) where
    op_leads : (j i : ℕ) (c : DialectBlock) (o : DialectOp) → slice_get g.blocks j ≡ Some c → slice_get c.ops i ≡ Some o → All (λ (s : Successor). IsTarget made (target_for g n s)) o.successors
    op_leads j i c o at at' = all_from (λ (s : Successor). IsTarget made (target_for g n s)) o.successors (λ l s at''. let m = edge_among c.ops i l o s at' at'' in target_form s (has_target g form n order accepted j m.0 c s at m.1))

    -- ---- phis

    phi_counts : (t : ℕ) (c : DialectBlock) (i : ℕ) (ty : TypeTree) → slice_get g.blocks (suc t) ≡ Some c → slice_get c.args i ≡ Some ty → (p : ℕ)
        → count_of p (map (λ (e : Operand × ℕ). e.1) (entries g n (Argument (record { 0 = c.number }) i))) ≡ F.edges_between made p (n.block + (0 + suc t))
    phi_counts t c i ty at type p =
        ap (count_of p) (phi_sources g form n order accepted t c (n.block + (0 + suc t)) i ty at type (omega arith)) ∙ sources_count p (n.block + (0 + suc t)) (blocks_by n.order made)
        ∙ ap (λ (bs : List Block). count_of (n.block + (0 + suc t)) (flat_map F.targets_of bs))
        (filter_taken (λ (b : Block). b.number) p made.blocks n.order (subst (λ (k : ℕ). IsOrder k n.order) (sym (blocks_count g n (entries g n) 0 0 g.blocks)) order) (made_numbered g n (entries g n) 0 0 g.blocks))

    -- an entry is an operand of the argument's type
    phi_operand : (t : ℕ) (c : DialectBlock) (i : ℕ) (ty : TypeTree) → slice_get g.blocks (suc t) ≡ Some c → slice_get c.args i ≡ Some ty → (l : ℕ) (x : Operand × ℕ) → slice_get (entries g n (Argument (record { 0 = c.number }) i)) l ≡ Some x → F.IsOperand made ty x.0
    phi_operand t c i ty at type l x at' =
        let p = comes_by g n n.order (record { 0 = c.number }) i l x at' in
        let good = edge_form g form n p.at p.edge_at p.block p.edge p.here p.there in
        let typed : value_type g p.value ≡ Some ty = good.typed i p.value ty p.passes (argument_type g form (suc t) i p.edge.block c at (sym p.to) ∙ type) in
        let held = all_at IsHeld c.args i ty (block_form g form (suc t) c at).args type in
        subst (F.IsOperand made ty) (sym p.is) (operand_form g form n order (entries g n) ruled p.value ty (record { typed = typed; held = held }))

    phi_some : (t : ℕ) (c : DialectBlock) (i : ℕ) (ty : TypeTree) → slice_get g.blocks (suc t) ≡ Some c → slice_get c.args i ≡ Some ty → entries g n (Argument (record { 0 = c.number }) i) ≡ [] → ⊥
    phi_some t c i ty at type none =
        let some : c.args ≡ [] → ⊥ = λ e. none-some ty (sym (ap (λ (ts : List TypeTree). slice_get ts i) e) ∙ type) in
        let r = targets t c at some in
        let h = has_target g form n order accepted r.0 r.1 r.2 r.3 r.4 r.5 in
        let place : suc h.place ≡ suc t = form.block_numbers (suc h.place) (suc t) h.block c h.here at (h.number ∙ r.6) in
        let is : h.block ≡ c = same_Some h.block c (sym h.here ∙ ap (slice_get g.blocks) place ∙ at) in
        let count : length r.3.args ≡ length c.args = h.count ∙ ap (λ (x : DialectBlock). length x.args) is in
        let v = item_there r.3.args i (let l = slice_get_within c.args i ty type in omega (arith, count, l)) in
        let equal = (accepted.edges r.0 r.2 r.4).equal in
        let found = first_entry g n n.order (turn_of n.order r.0) r.0 r.2 (n.block + r.0) i (record { 0 = c.number }) v.0 r.3.args r.1 r.3 (turn_at (length g.blocks) n.order order r.0 (slice_get_within g.blocks r.0 r.2 r.4)) r.4 refl r.5 r.6 (λ k u there to. equal k r.1 u r.3 there r.5 (ap (λ (m : ℕ). let b : BlockRef = record { 0 = m } in b) (to ∙ sym r.6))) v.1 in
        none-some (operand_for g n v.0, n.block + r.0) (sym (ap (find (is_from g n (n.block + r.0))) none) ∙ found)

    value_good : (k : ℕ) → k < 2 ^ 64 → IsGoodOrNone (value_name None k)
    value_good k lt = bare_good 118 [] k lt refl

    phis_form : (t : ℕ) (c : DialectBlock) → slice_get g.blocks (suc t) ≡ Some c → (i k : ℕ) (ts : List TypeTree) → k + length ts < 2 ^ 64 → ((m : ℕ) (ty : TypeTree) → slice_get ts m ≡ Some ty → slice_get c.args (i + m) ≡ Some ty)
        → All (IsFormPlaced made (n.block + (0 + suc t))) (phis g n (entries g n) c.number i k ts)
    phis_form t c at i k [] lt are = All-nil (IsFormPlaced made (n.block + (0 + suc t)))
    phis_form t c at i k (ty ∷ ts) lt are =
        let v = Argument (record { 0 = c.number }) i in
        let type : slice_get c.args i ≡ Some ty = ap (slice_get c.args) (let e : i ≡ i + 0 = omega arith in e) ∙ are 0 ty refl in
        let held = all_at IsHeld c.args i ty (block_form g form (suc t) c at).args type in
        All-cons (IsFormPlaced made (n.block + (0 + suc t))) _ (phis g n (entries g n) c.number (suc i) (k + 1) ts) (record {
          instruction = (
            all_from (λ (e : Operand × ℕ). F.IsOperand made ty e.0) (entries g n v) (λ l x at'. phi_operand t c i ty at type l x at'),
            record { counts = phi_counts t c i ty at type; alike = phi_alike g form n order accepted (record { 0 = c.number }) i; some = phi_some t c i ty at type },
            held_first_class ty held,
          );
          returned = own_returned (Some ty) held;
          name = value_good k (omega (arith, lt));
          unnamed = λ e. absurd (no_void ty held e);
        }) (phis_form t c at (suc i) (k + 1) ts (omega (arith, lt)) (λ m u at'. ap (slice_get c.args) (let e : suc i + m ≡ i + suc m = omega arith in e) ∙ are (suc m) u at'))

    -- ---- blocks

    instructions_form : (j k : ℕ) (c : DialectBlock) → slice_get g.blocks j ≡ Some c → number_behind (k + length c.args) c.ops < 2 ^ 64
        → All (IsFormPlaced made (n.block + (0 + j))) (block_made g n (entries g n) (0 + j) k c).instructions
    instructions_form j k c at lt =
        let P : Placed → Type 0 = IsFormPlaced made (n.block + (0 + j)) in
        All-append P (block_phis g n (entries g n) (0 + j) k c) (insts g n (k + length c.args) c.ops)
        (subst (λ (q : ℕ). All P (block_phis g n (entries g n) q k c)) (let e : j ≡ 0 + j = omega arith in e) (front j at))
        (insts_form (n.block + (0 + j)) (k + length c.args) c.ops lt (λ i m o at' other small. placed_form (n.block + (0 + j)) m o (op_form g form j i c o at at') other (((accepted.blocks j c at).ops i o at').named other m small) (op_leads j i c o at at')))
      where
        front : (j : ℕ) → slice_get g.blocks j ≡ Some c → All (IsFormPlaced made (n.block + (0 + j))) (block_phis g n (entries g n) j k c)
        front zero at = All-nil (IsFormPlaced made (n.block + (0 + zero)))
        front (suc t) at = phis_form t c at 0 k c.args (let l = behind_le (k + length c.args) c.ops in omega (arith, l, lt)) (λ m ty at'. ap (slice_get c.args) (let e : 0 + m ≡ m = omega arith in e) ∙ at')

    made_block_form : (j : ℕ) (c : DialectBlock) → slice_get g.blocks j ≡ Some c → IsFormBlock made (block_made g n (entries g n) (0 + j) (number_past 0 (take j g.blocks)) c)
    made_block_form j c at =
        let k = number_past 0 (take j g.blocks) in
        let past = block_past g.blocks j 0 c at in
        record {
          label = subst (λ (q : ℕ). IsGoodOrNone (block_name c.label q)) (let e : j ≡ 0 + j = omega arith in e) (accepted.blocks j c at).label;
          instructions = instructions_form j k c at (omega (arith, past, small));
          phis = phis_first (block_phis g n (entries g n) (0 + j) k c) (insts g n (k + length c.args) c.ops) (block_phis_phi g n (entries g n) (0 + j) k c) (insts_no_phi g n (k + length c.args) c.ops);
          ends = block_ends (0 + j) k j c at;
        }

    pub made_form : IsFormFunction made
    made_form = record {
      name = form.good;
      own = no_intrinsic (llvm_name_of g) form.llvm_named;
      result = form.result;
      types = form.types;
      type = form.type;
      returns = held_result_returned form.result form.returns;
      takes = all_from IsFirstClass (types_list form.types) (λ k t at. held_first_class t (all_at IsHeld (types_list form.types) k t form.takes at));
      shallow = form.shallow;
      space = refl;
      params = params_count g form n order (entries g n) ∙ ap (λ (ts : List TypeTree). length ts) form.params ∙ sym (types_count form.types);
      param_names = unnamed_good (entry_args g n);
      body = λ e. none-some form.entry (sym (ap (λ (bs : List Block). option_map (λ (b : Block). form.entry) (slice_get bs 0)) e) ∙ ap (option_map (λ (b : Block). form.entry)) (made_at g n (entries g n) 0 0 g.blocks 0 form.entry (entry_at g form)));
      blocks = all_from (IsFormBlock made) made.blocks (λ j b at. let r = made_from g n (entries g n) 0 0 g.blocks j b at in subst (IsFormBlock made) (sym r.2) (made_block_form j r.0 r.1));
      block_numbers = numbers_distinct (λ (b : Block). b.number) made.blocks (made_numbered g n (entries g n) 0 0 g.blocks);
      numbers = numbers_distinct (λ (p : Placed). p.number) (placed_in made) (placed_numbered g form n order (entries g n));
    }
