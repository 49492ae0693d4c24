-- One operation more in a block that is being filled.
use Rattle.std.proofs.Common.{ℕ, zero, suc, ◌≡◌, ◌<◌, ◌≤◌, ◌+◌, ◌⊎◌, inl, inr, refl, sym, ap, subst, ◌∙◌, false, not, nat_eq, List, [], ◌∷◌, ◌++◌, Some, All, filter, length, take, slice_get, arith}
use Rattle.std.specs.Prelude.{IsTrue}
use Rattle.std.specs.List.{flat_map}
use Rattle.std.proofs.lemmas.Bool.{cases_lt}
use Rattle.std.proofs.lemmas.List.{append_assoc}
use Rattle.std.proofs.lemmas.List.Elements.{All-append, All-weaker}
use Rattle.std.proofs.lemmas.Option.{same_Some, slice_get_within}
use Rattle.dialect_types.proofs.TreeLemmas.{push_cases}
use Rattle.meaning.proofs.MatchedLaws.{matched_push}
use Rattle.support.proofs.ListLaws.{all_from, item_there, slice_get-behind, slice_get-kept, slice_get-behind_cases, take_next}
use Rattle.llvm_core.specs.declared.numbers.LLVMFunction.{LLVMFunction}
use Rattle.llvm_core.specs.declared.numbers.LLVMInstRef.{LLVMInstRef}
use Rattle.llvm_core.specs.declared.code.LLVMValue.TheVariants as K
use Rattle.llvm_core.specs.declared.code.LLVMInst.{LLVMInst}
use Rattle.llvm_core.specs.declared.code.LLVMInst.TheVariants as I
use Rattle.llvm_core.specs.Module.{Module}
use Rattle.llvm_core.specs.Form as LF
use Rattle.llvm_core.specs.Data as L
use Rattle.llvm_core.specs.Data.{ConstTree, Placed, Trees, placed_in, instruction_of}
use Rattle.llvm_core.proofs.DataLemmas.{within_at}
use Rattle.dialect_types.specs.Trees.{TypeTree}
use Rattle.dialect_core.specs.declared.numbers.BlockRef.{BlockRef}
use Rattle.dialect_core.specs.declared.ops.Value.{Value}
use Rattle.dialect_core.specs.declared.ops.Value.TheVariants as V
use Rattle.dialect_core.specs.declared.ops.Successor.{Successor}
use Rattle.dialect_core.specs.ContextData.{ContextData, is_plain}
use Rattle.dialect_core.specs.declared.ops.OpKind.{OpKind}
use Rattle.dialect_core.specs.Data.{DialectBlock, DialectOp, Kind, RowOp, HasKindTypesBelow, kind_of}
use Rattle.dialect_core.specs.Form.{uses_of}
use Rattle.dialect_core.proofs.ListLemmas.{slice_get-last}
use Rattle.meaning.specs.Pairs.{Matched}
use Rattle.from_llvm_ir.specs.declared.values.Values.{Values}
use Rattle.kinds.specs.Types.{params_of}
use Rattle.kinds.specs.Held.{own_type}
use Rattle.from_llvm_ir.specs.Imported.{front_for, passed, phis_of, rest_of}
use Rattle.from_llvm_ir.specs.Parts.{IsOpKind}
use Rattle.from_llvm_ir.specs.Values.{IsNoted}
use Rattle.from_llvm_ir.specs.Building.{IsOpen, IsUnder, ops_of, with_ops}
use Rattle.from_llvm_ir.specs.Known.{Frame, Known, IsKnown, IsOlder, Stands, blocks_of, knows, result_in, value_of}
use Rattle.from_llvm_ir.specs.Converted.{AreConverted, AreFrom, Converted, FromArgument, FromResult, HasOrder, HasPhis, IsEdge, IsFrom, IsKind, IsRow, StandsIn}
use Rattle.from_llvm_ir.specs.Body.{IsBody, IsFramed, all_uses, insts_before}
use Rattle.from_llvm_ir.proofs.ListLaws.{matched_weaker}
use Rattle.from_llvm_ir.proofs.PlaceLaws.{filter_next, filter_skip, flat_at, flat_from, flat_same, number_apart, untake}
use Rattle.from_llvm_ir.proofs.OrderLaws.{ordered_at}
use Rattle.from_llvm_ir.proofs.BuildLaws.{length-push}
use Rattle.from_llvm_ir.proofs.UnderLaws.{ops_behind}
use Rattle.from_llvm_ir.proofs.ValueLaws.{result_here, result_noted, stands_more}
use Rattle.from_llvm_ir.proofs.Whole.{beside_from, beside_more, listed_length}
use Rattle.from_llvm_ir.proofs.ReadyLaws.{all_beside, body_known, body_ops, body_hoisted, hoisted_below}

-- the kind of an operation is that of its instruction
pub kind_found : (t : Trees) (ts : List TypeTree) (inst : LLVMInst) (kind : OpKind) → IsOpKind inst kind → (k : Kind) × (kind_of ts kind ≡ Some k) × IsKind (instruction_of t inst) k
kind_found t ts (I.Phi type es) kind h = elim h [ ]
kind_found t ts (I.Row r) kind h = (RowOp r.op, ap (kind_of ts) h, refl)

-- it is no module and no function, and names no type
pub plain_kind : (inst : LLVMInst) (kind : OpKind) → IsOpKind inst kind → IsTrue (is_plain kind)
plain_kind (I.Phi type es) kind h = elim h [ ]
plain_kind (I.Row r) kind h = rw h refl

pub kind_types : (n : ℕ) (inst : LLVMInst) (kind : OpKind) → IsOpKind inst kind → HasKindTypesBelow n kind
kind_types n (I.Phi type es) kind h = elim h [ ]
kind_types n (I.Row r) kind h = rw h tt

-- ---- what stood stands, as more is known

module _ (fr : Frame) (cs : List ConstTree) (os : List DialectOp) (ps ps' : List Placed) (ws ws' : List Value) where
  abbrev k : Known
  k = knows fr cs os ps ws

  abbrev k' : Known
  k' = knows fr cs os (ps ++ ps') (ws ++ ws')

  edge_more : (from to : ℕ) (s : Successor) → IsEdge k from to s → IsEdge k' from to s
  edge_more from to s e = record {
    place = e.place;
    target = e.target;
    here = e.here;
    number = e.number;
    leads = e.leads;
    args = matched_weaker (Stands k) (Stands k') (λ o w st. stands_more fr cs os ps ps' ws ws' o w st) (passed fr.source from to) s.args e.args;
  }

  pub converted_more : (b : L.Block) (p : Placed) (o : DialectOp) → Converted k b p o → Converted k' b p o
  converted_more b p o h = record {
    kind = h.kind;
    name = h.name;
    operands = matched_weaker (Stands k) (Stands k') (λ x w st. stands_more fr cs os ps ps' ws ws' x w st) (LF.operands_of p.instruction) o.operands h.operands;
    successors = matched_weaker (IsEdge k b.number) (IsEdge k' b.number) (λ t s e. edge_more b.number t s e) (L.targets p.instruction) o.successors h.successors;
    result = h.result;
  }

  result_more : (n : ℕ) (w : Value) → result_in k n ≡ Some w → result_in k' n ≡ Some w
  result_more n w h = beside_more (λ (p : Placed). nat_eq p.number n) ps ps' ws ws' w h

  pub rows_more : (b : L.Block) (qs : List Placed) (xs : List DialectOp) → Matched (IsRow k b) qs xs → Matched (IsRow k' b) qs xs
  rows_more b qs xs h = matched_weaker (IsRow k b) (IsRow k' b) (λ p o r. record { converted = converted_more b p o r.converted; stands = result_more p.number (value_of o) r.stands }) qs xs h

  pub phis_more : (n : ℕ) (qs : List Placed) → HasPhis k n qs → HasPhis k' n qs
  phis_more n qs h x p at = result_more p.number (V.Argument (record { 0 = n }) x) (h x p at)

  pub blocks_more : (left : List DialectBlock) → AreConverted k left → AreConverted k' left
  blocks_more left h place b c at here = let v = h place b c at here in record {
    head = v.head;
    rest = v.rest;
    ops = v.ops;
    rows = rows_more b (rest_of b) v.rest v.rows;
    phis = phis_more c.number (phis_of b) v.phis;
    in_order = v.in_order;
  }

-- ---- a value of the next number

lower : (split s n n' at args : ℕ) (w : Value) → s ≤ split → n ≤ n' → IsOlder split n at args w → IsOlder s n' at args w
lower split s n n' at args (V.Result r) le ln h = (omega (arith, le, h.0), omega (arith, ln, h.1))
lower split s n n' at args (V.Argument b i) le ln h = h

-- what is hoisted stands below a number that is not above n
record IsSplit (os : List DialectOp) (done : List Value) (n at args : ℕ) : Type 0 where
  split : ℕ
  small : split ≤ n
  hoisted : All (λ (o : DialectOp). o.number < split) os
  older : (i : ℕ) (w : Value) → slice_get done i ≡ Some w → IsOlder split n at args w

split_below : (m : Module) (values : Values) (uses : List ConstTree) (k : Known) (n at args : ℕ) → IsKnown m values uses k n at args → All (λ (o : DialectOp). o.number < n) k.hoisted → IsSplit k.hoisted k.done n at args
split_below m values uses k n at args h below = elim (cases_lt n h.split) [
  | inl lt ↦ record { split = n; small = omega arith; hoisted = below; older = λ i w here. lower h.split n n n at args w (omega (arith, lt)) (omega arith) (h.older i w here) }
  | inr le ↦ record { split = h.split; small = le; hoisted = h.hoisted; older = h.older }
]

-- the result of a new operation is known
known_more : (m : Module) (old new : Values) (uses : List ConstTree) (fr : Frame) (cs : List ConstTree) (os : List DialectOp) (ps : List Placed) (ws : List Value) (n n' at args : ℕ) (i : LLVMInstRef) (p : Placed) (o : DialectOp) → IsKnown m old uses (knows fr cs os ps ws) n at args
    → All (λ (x : DialectOp). x.number < n) os → ((q : ℕ) (a : Placed) → slice_get ps q ≡ Some a → ¬ (a.number ≡ p.number)) → p.number ≡ i.0 → o.number ≡ n → n' ≡ n + 1 → IsNoted old new (K.Inst i) (value_of o)
    → IsKnown m new uses (knows fr cs os (ps ++ p ∷ []) (ws ++ value_of o ∷ [])) n' at args
known_more m old new uses fr cs os ps ws n n' at args i p o h below fresh number is more noted =
    let s = split_below m old uses (knows fr cs os ps ws) n at args h below in
    record {
      made = h.made;
      consts = h.consts;
      first_uses = h.first_uses;
      long = (let a = length-push ps p in let b = length-push ws (value_of o) in let e = h.long in omega (arith, a, b, e));
      notes = result_noted m fr old new cs os ps ws i p (value_of o) number h.long fresh h.notes noted;
      split = s.split;
      hoisted = s.hoisted;
      older = λ q w here. elim (push_cases ws (value_of o) w q here) [
        | inl was ↦ lower s.split s.split n n' at args w (omega arith) (omega (arith, more)) (s.older q w was)
        | inr last ↦ subst (IsOlder s.split n' at args) (sym last.0) (omega (arith, s.small, is), omega (arith, is, more))
      ];
      apart = λ q r w at_q at_r. once q r w (push_cases ws (value_of o) w q at_q) (push_cases ws (value_of o) w r at_r);
    }
  where
    new_value : (q : ℕ) (w : Value) → slice_get ws q ≡ Some w → ¬ (w ≡ value_of o)
    new_value q w here same = let e = subst (IsOlder h.split n at args) same (h.older q w here) in absurd (let lt = e.1 in omega (arith, lt, is))

    once : (q r : ℕ) (w : Value) → (slice_get ws q ≡ Some w) ⊎ ((w ≡ value_of o) × (q ≡ length ws)) → (slice_get ws r ≡ Some w) ⊎ ((w ≡ value_of o) × (r ≡ length ws)) → q ≡ r
    once q r w (inl a) (inl b) = h.apart q r w a b
    once q r w (inr a) (inr b) = a.1 ∙ sym b.1
    once q r w (inl a) (inr b) = absurd (new_value q w a b.0)
    once q r w (inr a) (inl b) = absurd (new_value r w b a.0)

-- ---- a number that no earlier instruction has

-- an instruction of a block in the order, by its places
one_place : (fr : Frame) (m : Module) (f : LLVMFunction) (h : IsFramed m f fr) (i j x y : ℕ) (b d : L.Block) (p q : Placed) → slice_get (blocks_of fr) i ≡ Some b → slice_get (blocks_of fr) j ≡ Some d → slice_get b.instructions x ≡ Some p → slice_get d.instructions y ≡ Some q → p.number ≡ q.number → (i ≡ j) × (x ≡ y)
one_place fr m f h i j x y b d p q at_b at_d at_p at_q same =
    let g = fr.source in
    let u = ordered_at fr.order g.blocks h.order i b at_b in
    let v = ordered_at fr.order g.blocks h.order j d at_d in
    let e = flat_same (λ (z : L.Block). z.instructions) g.blocks u.place v.place b d x y p q u.at v.at at_p at_q (λ s t at_s at_t. number_apart (λ (z : Placed). z.number) (placed_in g) h.source.form.numbers s t p q at_s at_t same) in
    (h.order.apart i j u.place u.here (v.here ∙ ap Some (sym e.0)), e.1)

fresh_number : (fr : Frame) (m : Module) (f : LLVMFunction) → IsFramed m f fr → (j x : ℕ) (b : L.Block) (p : Placed) → slice_get (blocks_of fr) j ≡ Some b → slice_get b.instructions x ≡ Some p → (q : ℕ) (a : Placed) → slice_get (insts_before fr j ++ take x b.instructions) q ≡ Some a → ¬ (a.number ≡ p.number)
fresh_number fr m f framed j x b p at here q a is same = elim (slice_get-behind_cases (insts_before fr j) (take x b.instructions) q a is) [
  | inl was ↦
      let r = flat_from (λ (y : L.Block). y.instructions) (take j (blocks_of fr)) q a was in
      let u = untake (blocks_of fr) j r.place r.item r.here in
      let e = one_place fr m f framed r.place j r.inner x r.item b a p u.1 at r.at here same in
      omega (arith, e.0, u.0)
  | inr z ↦
      let u = untake b.instructions x z.0 a z.2 in
      let e = one_place fr m f framed j j z.0 x b b a p at at u.1 here same in
      omega (arith, e.1, u.0)
]

-- ---- the block with an operation more

module _ (left : List DialectBlock) (now : DialectBlock) (os : List DialectOp) (o : DialectOp) where
  abbrev old_block : DialectBlock
  old_block = with_ops now os

  abbrev new_block : DialectBlock
  new_block = with_ops now (os ++ o ∷ [])

  last_here : slice_get (left ++ new_block ∷ []) (length left + 0) ≡ Some new_block
  last_here = slice_get-behind left (new_block ∷ []) 0

  -- values come from where they came
  from_more : (p : Placed) (w : Value) → IsFrom (left ++ old_block ∷ []) p w → IsFrom (left ++ new_block ∷ []) p w
  from_more p w (FromArgument j i c at is type) = elim (slice_get-behind_cases left (old_block ∷ []) j c at) [
    | inl a ↦ FromArgument j i c (slice_get-kept left (new_block ∷ []) j c a) is type
    | inr z ↦ by z.0 z.2
  ]
    where
      by : (q : ℕ) → slice_get (old_block ∷ []) q ≡ Some c → IsFrom (left ++ new_block ∷ []) p w
      by zero e =
          let same = same_Some old_block c e in
          FromArgument (length left + 0) i new_block last_here (is ∙ ap (λ (d : DialectBlock). V.Argument (record { 0 = d.number }) i) (sym same)) (ap (λ (d : DialectBlock). slice_get d.args i) same ∙ type)
      by (suc q) e = absurd (let no : ⊥ = cc in no)
  from_more p w (FromResult j y c a at here is type) = elim (slice_get-behind_cases left (old_block ∷ []) j c at) [
    | inl b ↦ FromResult j y c a (slice_get-kept left (new_block ∷ []) j c b) here is type
    | inr z ↦ by z.0 z.2
  ]
    where
      by : (q : ℕ) → slice_get (old_block ∷ []) q ≡ Some c → IsFrom (left ++ new_block ∷ []) p w
      by zero e =
          let same = same_Some old_block c e in
          FromResult (length left + 0) y new_block a last_here (slice_get-kept os (o ∷ []) y a (ap (λ (d : DialectBlock). slice_get d.ops y) same ∙ here)) is type
      by (suc q) e = absurd (let no : ⊥ = cc in no)

  pub all_from_more : (fr : Frame) (cs : List ConstTree) (hs : List DialectOp) (ps : List Placed) (ws : List Value) (p : Placed) → length ws ≡ length ps → o.result ≡ own_type p.type → AreFrom (knows fr cs hs ps ws) (left ++ old_block ∷ []) → AreFrom (knows fr cs hs (ps ++ p ∷ []) (ws ++ value_of o ∷ [])) (left ++ new_block ∷ [])
  all_from_more fr cs hs ps ws p long result h q a w at_a at_w = by (push_cases ps p a q at_a) (push_cases ws (value_of o) w q at_w)
    where
      by : (slice_get ps q ≡ Some a) ⊎ ((a ≡ p) × (q ≡ length ps)) → (slice_get ws q ≡ Some w) ⊎ ((w ≡ value_of o) × (q ≡ length ws)) → IsFrom (left ++ new_block ∷ []) a w
      by (inl s) (inl d) = from_more a w (h q a w s d)
      by (inl s) (inr d) = absurd (let lt = slice_get_within ps q a s in omega (arith, lt, d.1, long))
      by (inr s) (inl d) = absurd (let lt = slice_get_within ws q w d in omega (arith, lt, s.1, long))
      by (inr s) (inr d) = FromResult (length left + 0) (length os) new_block o last_here (slice_get-last os o) d.0 (result ∙ ap (λ (z : Placed). own_type z.type) (sym s.0))

  -- values stand before their uses as they stood
  take_front : (n : ℕ) (xs : List DialectOp) → n ≤ length xs → take n (xs ++ o ∷ []) ≡ take n xs
  take_front zero [] le = refl
  take_front (suc n) [] le = absurd (omega (arith, le))
  take_front zero (x ∷ xs) le = refl
  take_front (suc n) (x ∷ xs) le = ap (λ (ys : List DialectOp). x ∷ ys) (take_front n xs (omega (arith, le)))

  take_whole : (xs : List DialectOp) → take (length xs) (xs ++ o ∷ []) ≡ xs
  take_whole [] = refl
  take_whole (x ∷ xs) = ap (λ (ys : List DialectOp). x ∷ ys) (take_whole xs)

  argument_still : (b : BlockRef) (i q : ℕ) (d : DialectBlock) → slice_get (left ++ old_block ∷ []) q ≡ Some d → d.number ≡ b.0 → i < length d.args → StandsIn left new_block (length os) (V.Argument b i)
  argument_still b i q d at number lt = elim (slice_get-behind_cases left (old_block ∷ []) q d at) [
    | inl a ↦ (q, d, slice_get-kept left (new_block ∷ []) q d a, number, lt)
    | inr z ↦ by z.0 z.2
  ]
    where
      by : (r : ℕ) → slice_get (old_block ∷ []) r ≡ Some d → StandsIn left new_block (length os) (V.Argument b i)
      by zero e = let same = same_Some old_block d e in (length left + 0, new_block, last_here, ap (λ (y : DialectBlock). y.number) same ∙ number, subst (λ (y : DialectBlock). i < length y.args) (sym same) lt)
      by (suc r) e = absurd (let no : ⊥ = cc in no)

  stands_still : (place : ℕ) (w : Value) → place ≤ length os → StandsIn left old_block place w → StandsIn left new_block place w
  stands_still place (V.Result r) le st = (st.0, st.1, ap (λ (ys : List DialectOp). slice_get (ops_of left ++ ys) st.0) (take_front place os le) ∙ st.2, st.3)
  stands_still place (V.Argument b i) le st = argument_still b i st.0 st.1 st.2 st.3 st.4

  order_more : HasOrder left old_block → All (StandsIn left new_block (length os)) (uses_of o) → HasOrder left new_block
  order_more h new place a at = elim (push_cases os o a place at) [
    | inl was ↦ All-weaker (StandsIn left old_block place) (StandsIn left new_block place) (λ w st. stands_still place w (let lt = slice_get_within os place a was in omega (arith, lt)) st) (uses_of a) (h place a was)
    | inr last ↦ subst (λ (n : ℕ). All (StandsIn left new_block n) (uses_of a)) (sym last.1) (subst (λ (y : DialectOp). All (StandsIn left new_block (length os)) (uses_of y)) (sym last.0) new)
  ]

  -- an operation before
  op_before : (q : ℕ) (a : DialectOp) (r : Value) → slice_get (ops_of left ++ os) q ≡ Some a → r ≡ value_of a → StandsIn left new_block (length os) r
  op_before q a r at is = subst (StandsIn left new_block (length os)) (sym is) (q, a, ap (λ (ys : List DialectOp). slice_get (ops_of left ++ ys) q) (take_whole os) ∙ at, refl)

  from_stands : (p : Placed) (w : Value) → IsFrom (left ++ old_block ∷ []) p w → StandsIn left new_block (length os) w
  from_stands p w (FromArgument j i c at is type) = subst (StandsIn left new_block (length os)) (sym is) (argument_still (record { 0 = c.number }) i j c at refl (slice_get_within c.args i p.type type))
  from_stands p w (FromResult j y c a at here is type) =
      let q = flat_at (λ (d : DialectBlock). d.ops) (left ++ old_block ∷ []) j c y a at here in
      op_before q.0 a w (ap (λ (ys : List DialectOp). slice_get ys q.0) (sym (ops_behind left old_block [] (λ r d e. absurd (let no : ⊥ = cc in no)))) ∙ q.1) is

-- the first block, before and after
record FirstBlock (bs cs : List DialectBlock) : Type 0 where
  old : DialectBlock
  new : DialectBlock
  at_old : slice_get bs 0 ≡ Some old
  at_new : slice_get cs 0 ≡ Some new
  number : new.number ≡ old.number
  args : new.args ≡ old.args

first_block : (left : List DialectBlock) (now : DialectBlock) (os : List DialectOp) (right : List DialectBlock) → FirstBlock (left ++ now ∷ right) (left ++ with_ops now os ∷ [])
first_block [] now os right = record { old = now; new = with_ops now os; at_old = refl; at_new = refl; number = refl; args = refl }
first_block (y ∷ left) now os right = record { old = y; new = y; at_old = refl; at_new = refl; number = refl; args = refl }

module _ (fr : Frame) (m : Module) (f : LLVMFunction) (c : ContextData) (old : Values) (j x : ℕ) (b : L.Block) (h : IsBody fr m c old j x b) (framed : IsFramed m f fr) where
  abbrev known : Known
  known = body_known fr m c old j x b h

  abbrev os : List DialectOp
  os = body_ops fr m c old j x b h

  -- the arguments of the first block are the parameters
  param_stands : (o : DialectOp) (i : ℕ) → i < length fr.source.params → StandsIn h.left (with_ops h.now (os ++ o ∷ [])) (length os) (V.Argument (record { 0 = fr.base }) i)
  param_stands o i lt =
      let d = first_block h.left h.now os h.right in
      let s = item_there (blocks_of fr) 0 (let small = slice_get_within (blocks_of fr) j b h.source in omega (arith, small)) in
      let head = h.heads 0 s.0 d.old s.1 d.at_old in
      let form = framed.source.form in
      let args = ap (λ (ts : List TypeTree). length ts) (d.args ∙ head.args ∙ ap (λ (t : L.TypeTree). params_of t) form.type) ∙ listed_length form.types ∙ sym form.params in
      argument_still h.left h.now os o (record { 0 = fr.base }) i 0 d.new d.at_new (let a = d.number in let e = head.number in omega (arith, a, e)) (omega (arith, lt, args))

  -- each operand stands before
  use_stands : (o : DialectOp) (u : L.Operand) (w : Value) → Stands known u w → StandsIn h.left (with_ops h.now (os ++ o ∷ [])) (length os) w
  use_stands o (L.Constant d) w st = let q = body_hoisted fr m c old j x b h st.place st.op st.there in op_before h.left h.now os o q.0 st.op w q.1 st.is
  use_stands o (L.Parameter e i) w st = subst (StandsIn h.left (with_ops h.now (os ++ o ∷ [])) (length os)) (sym st.2) (param_stands o i st.1)
  use_stands o (L.Result n) w st =
      let r = beside_from (λ (p : Placed). nat_eq p.number n) known.sources known.done w st in
      from_stands h.left h.now os o r.item w (h.from r.place r.item w r.here r.there)

  uses_stand : (p : Placed) (o : DialectOp) → Converted known b p o → All (StandsIn h.left (with_ops h.now (os ++ o ∷ [])) (length os)) (uses_of o)
  uses_stand p o v =
      let Q = StandsIn h.left (with_ops h.now (os ++ o ∷ [])) (length os) in
      All-append Q o.operands (flat_map (λ (s : Successor). s.args) o.successors)
      (all_beside (Stands known) Q (LF.operands_of p.instruction) o.operands (λ u w st. use_stands o u w st) v.operands)
      (all_from Q (flat_map (λ (s : Successor). s.args) o.successors) (λ q w at.
      let r = flat_from (λ (s : Successor). s.args) o.successors q w at in
      within_at r.item.args Q (within_at o.successors (λ (s : Successor). All Q s.args) edges r.place r.item r.here) r.inner w r.at))
    where
      edges : All (λ (s : Successor). All (StandsIn h.left (with_ops h.now (os ++ o ∷ [])) (length os)) s.args) o.successors
      edges = all_beside (IsEdge known b.number) (λ (s : Successor). All (StandsIn h.left (with_ops h.now (os ++ o ∷ [])) (length os)) s.args) (L.targets p.instruction) o.successors
          (λ t s e. all_beside (Stands known) (StandsIn h.left (with_ops h.now (os ++ o ∷ [])) (length os)) (passed fr.source b.number t) s.args (λ u w st. use_stands o u w st) e.args) v.successors

  -- the operation that stands for the next instruction, as the last of the block
  pub operation_more : (c' : ContextData) (new : Values) (i : LLVMInstRef) (p : Placed) (o : DialectOp) (block : BlockRef) → slice_get b.instructions x ≡ Some p → LF.is_phi p ≡ false → p.number ≡ i.0 → Converted known b p o → o.number ≡ length c.ops → length c'.ops ≡ length c.ops + 1
      → IsOpen fr.home fr.base c' block h.left (with_ops h.now (os ++ o ∷ [])) h.right → IsNoted old new (K.Inst i) (value_of o) → IsBody fr m c' new j (x + 1) b
  operation_more c' new i p o block at other number v is longer u noted =
      let ps = insts_before fr j ++ take x b.instructions in
      let more : ps ++ p ∷ [] ≡ insts_before fr j ++ take (x + 1) b.instructions = append_assoc (insts_before fr j) (take x b.instructions) (p ∷ []) ∙ ap (λ (qs : List Placed). insts_before fr j ++ qs) (sym (take_next b.instructions x p at)) in
      let ws = h.done ++ value_of o ∷ [] in
      let knows_more = λ (qs : List Placed). knows fr h.constants h.hoisted qs ws in
      let ops : os ++ o ∷ [] ≡ front_for j h.hoisted ++ (h.rest ++ o ∷ []) = append_assoc (front_for j h.hoisted) h.rest (o ∷ []) in
      let fresh = fresh_number fr m f framed j x b p h.source at in
      let phis : filter LF.is_phi (take x b.instructions) ≡ filter LF.is_phi (take (x + 1) b.instructions) = sym (filter_skip LF.is_phi b.instructions x p at other) in
      let here : result_in (knows_more (ps ++ p ∷ [])) p.number ≡ Some (value_of o) = result_here ps h.done p (value_of o) h.known.long fresh in
      record {
        constants = h.constants;
        hoisted = h.hoisted;
        done = ws;
        left = h.left;
        now = h.now;
        rest = h.rest ++ o ∷ [];
        right = h.right;
        source = h.source;
        under = subst (λ (xs : List DialectOp). IsUnder fr.home fr.base c' (h.left ++ with_ops h.now xs ∷ h.right)) ops u.under;
        at = h.at;
        count = h.count;
        converted = subst (λ (qs : List Placed). AreConverted (knows_more qs) h.left) more (blocks_more fr h.constants h.hoisted ps (p ∷ []) h.done (value_of o ∷ []) h.left h.converted);
        heads = h.heads;
        bare = h.bare;
        known =
            subst (λ (qs : List Placed). IsKnown m new (all_uses m fr) (knows_more qs) (length c'.ops) (fr.base + j) (length (filter LF.is_phi (take (x + 1) b.instructions)))) more
            (subst (λ (qs : List Placed). IsKnown m new (all_uses m fr) (knows_more (ps ++ p ∷ [])) (length c'.ops) (fr.base + j) (length qs)) phis
            (known_more m old new (all_uses m fr) fr h.constants h.hoisted ps h.done (length c.ops) (length c'.ops) (fr.base + j) (length (filter LF.is_phi (take x b.instructions))) i p o h.known (hoisted_below fr m c old j x b h) fresh number is longer noted));
        from =
            subst (λ (qs : List Placed). AreFrom (knows_more qs) (h.left ++ with_ops h.now (front_for j h.hoisted ++ (h.rest ++ o ∷ [])) ∷ [])) more
            (subst (λ (xs : List DialectOp). AreFrom (knows_more (ps ++ p ∷ [])) (h.left ++ with_ops h.now xs ∷ [])) ops
            (all_from_more h.left h.now os o fr h.constants h.hoisted ps h.done p h.known.long v.result h.from));
        rows =
            subst (λ (qs : List Placed). Matched (IsRow (knows_more qs) b) (filter (λ (q : Placed). not (LF.is_phi q)) (take (x + 1) b.instructions)) (h.rest ++ o ∷ [])) more
            (subst (λ (qs : List Placed). Matched (IsRow (knows_more (ps ++ p ∷ [])) b) qs (h.rest ++ o ∷ [])) (sym (filter_next (λ (q : Placed). not (LF.is_phi q)) b.instructions x p at (ap not other)))
            (matched_push (IsRow (knows_more (ps ++ p ∷ [])) b) (filter (λ (q : Placed). not (LF.is_phi q)) (take x b.instructions)) h.rest p o
            (rows_more fr h.constants h.hoisted ps (p ∷ []) h.done (value_of o ∷ []) b (filter (λ (q : Placed). not (LF.is_phi q)) (take x b.instructions)) h.rest h.rows)
            (record { converted = converted_more fr h.constants h.hoisted ps (p ∷ []) h.done (value_of o ∷ []) b p o v; stands = here })));
        phis =
            subst (λ (qs : List Placed). HasPhis (knows_more qs) (fr.base + j) (filter LF.is_phi (take (x + 1) b.instructions))) more
            (subst (λ (qs : List Placed). HasPhis (knows_more (ps ++ p ∷ [])) (fr.base + j) qs) phis
            (phis_more fr h.constants h.hoisted ps (p ∷ []) h.done (value_of o ∷ []) (fr.base + j) (filter LF.is_phi (take x b.instructions)) h.phis));
        in_order = subst (λ (xs : List DialectOp). HasOrder h.left (with_ops h.now xs)) ops (order_more h.left h.now os o h.in_order (uses_stand p o v));
      }
