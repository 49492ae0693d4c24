-- A block that is filled, instruction by instruction: it is begun, takes its phis, and then is done.
use Rattle.std.proofs.Common.{ℕ, ◌≡◌, ◌<◌, ◌≤◌, ◌+◌, ◌⊎◌, inl, inr, refl, sym, ap, subst, ◌∙◌, Bool, true, false, not, nat_eq, List, [], ◌∷◌, ◌++◌, Some, All, filter, map, length, take, slice_get, get_or, arith, rules}
use Rattle.std.specs.Option.{option_map}
use Rattle.std.proofs.lemmas.List.{append-nil, append_assoc, length-append, take_all, take_at, take-append-le, length-take-le}
use Rattle.std.proofs.lemmas.List.Elements.{All-nil}
use Rattle.std.proofs.lemmas.Option.{slice_get_within, same_Some, none-some, slice_get-map}
use Rattle.dialect_types.proofs.TreeLemmas.{push_cases}
use Rattle.meaning.proofs.MatchedLaws.{matched_length, matched_at}
use Rattle.llvm_core.specs.declared.numbers.LLVMBasicBlock.{LLVMBasicBlock}
use Rattle.llvm_core.specs.declared.numbers.LLVMFunction.{LLVMFunction}
use Rattle.llvm_core.specs.declared.numbers.LLVMInstRef.{LLVMInstRef}
use Rattle.llvm_core.specs.declared.code.LLVMValue.TheVariants as K
use Rattle.llvm_core.specs.Module.{Module}
use Rattle.support.proofs.ListLaws.{distinct_push, slice_get-behind, slice_get-kept, slice_get-behind_cases, take_next}
use Rattle.llvm_core.specs.Form as LF
use Rattle.llvm_core.specs.Form.{is_phi, operands_of}
use Rattle.llvm_core.specs.Data as L
use Rattle.llvm_core.specs.Data.{ConstTree, Placed, placed_in}
use Rattle.dialect_core.specs.declared.numbers.BlockRef.{BlockRef}
use Rattle.dialect_core.specs.declared.ops.Value.{Value}
use Rattle.dialect_core.specs.declared.ops.Value.TheVariants as V
use Rattle.dialect_core.specs.declared.ops.Successor.{Successor}
use Rattle.dialect_core.specs.ContextData.{ContextData}
use Rattle.dialect_core.specs.Data.{DialectBlock, DialectOp}
use Rattle.dialect_core.specs.Form.{uses_of}
use Rattle.meaning.specs.Pairs.{Matched}
use Rattle.from_llvm_ir.specs.declared.values.Values.{Values}
use Rattle.from_llvm_ir.specs.declared.entries.Entries.{Entries}
use Rattle.from_llvm_ir.specs.Match.{IsPlaces}
use Rattle.from_llvm_ir.specs.Values.{Targets, IsNoted, target_at}
use Rattle.from_llvm_ir.specs.Source.{IsInstOf, AreEntries}
use Rattle.from_llvm_ir.specs.Imported.{passed, rest_of, phis_of, front_for}
use Rattle.from_llvm_ir.specs.Building.{IsUnder, with_ops}
use Rattle.from_llvm_ir.specs.Known.{Frame, Known, blocks_of, knows, value_of, result_in, Stands, IsConstantOp, IsOlder, IsKnown}
use Rattle.from_llvm_ir.specs.Converted.{Converted, IsEdge, IsRow, IsHead, AreHeads, args_for, StandsIn, HasOrder, HasPhis, IsConverted, AreConverted, IsFrom, FromArgument, FromResult, AreFrom}
use Rattle.from_llvm_ir.specs.Body.{all_uses, insts_before, AreTargets, IsFramed, IsFilled, IsBody, IsAt, IsBegun}
use Rattle.from_llvm_ir.proofs.BuildLaws.{length-push}
use Rattle.from_llvm_ir.proofs.ListLaws.{matched_weaker, other_there}
use Rattle.from_llvm_ir.proofs.OrderLaws.{ordered_at, ordered_first}
use Rattle.from_llvm_ir.proofs.PlaceLaws.{untake, flat_from, flat_same, flat_next, filter_all, filter_next, filter_skip, number_apart}
use Rattle.from_llvm_ir.proofs.PassLaws.{count_there, phi_is, phi_form, block_form, there_edge, target_there}
use Rattle.from_llvm_ir.proofs.SourceLaws.{block_number, inst_number}
use Rattle.from_llvm_ir.proofs.FrameLaws.{NamedAt}
use Rattle.from_llvm_ir.proofs.FormLaws.{constant_tests}
use Rattle.from_llvm_ir.proofs.ValueLaws.{result_here, result_noted, stands_more}
use Rattle.from_llvm_ir.proofs.Whole.{beside_more}

-- ---- more is known

module _ (fr : Frame) (cs : List ConstTree) (os : List DialectOp) (ps ps' : List Placed) (ws ws' : List Value) where
  abbrev less : Known
  less = knows fr cs os ps ws

  abbrev more : Known
  more = knows fr cs os (ps ++ ps') (ws ++ ws')

  stands : (o : L.Operand) (w : Value) → Stands less o w → Stands more o w
  stands o w st = stands_more fr cs os ps ps' ws ws' o w st

  edge_more : (from to : ℕ) (s : Successor) → IsEdge less from to s → IsEdge more from to s
  edge_more from to s h = record { place = h.place; target = h.target; here = h.here; number = h.number; leads = h.leads; args = matched_weaker (Stands less) (Stands more) stands (passed fr.source from to) s.args h.args }

  converted_more : (b : L.Block) (p : Placed) (o : DialectOp) → Converted less b p o → Converted more b p o
  converted_more b p o h = record {
    kind = h.kind;
    name = h.name;
    operands = matched_weaker (Stands less) (Stands more) stands (operands_of p.instruction) o.operands h.operands;
    successors = matched_weaker (IsEdge less b.number) (IsEdge more b.number) (edge_more b.number) (L.targets p.instruction) o.successors h.successors;
    result = h.result;
  }

  pub row_more : (b : L.Block) (p : Placed) (o : DialectOp) → IsRow less b p o → IsRow more b p o
  row_more b p o h = record { converted = converted_more b p o h.converted; stands = beside_more (λ (q : Placed). nat_eq q.number p.number) ps ps' ws ws' (value_of o) h.stands }

  pub rows_more : (b : L.Block) (qs : List Placed) (rs : List DialectOp) → Matched (IsRow less b) qs rs → Matched (IsRow more b) qs rs
  rows_more b qs rs h = matched_weaker (IsRow less b) (IsRow more b) (row_more b) qs rs h

  pub phis_more : (n : ℕ) (phis : List Placed) → HasPhis less n phis → HasPhis more n phis
  phis_more n phis h x p at = beside_more (λ (q : Placed). nat_eq q.number p.number) ps ps' ws ws' (V.Argument (record { 0 = n }) x) (h x p at)

  block_more : (left : List DialectBlock) (place : ℕ) (b : L.Block) (c : DialectBlock) → IsConverted less left place b c → IsConverted more left place b c
  block_more left place b c h = record { head = h.head; rest = h.rest; ops = h.ops; rows = rows_more b (rest_of b) h.rest h.rows; phis = phis_more c.number (phis_of b) h.phis; in_order = h.in_order }

  pub blocks_more : (bs : List DialectBlock) → AreConverted less bs → AreConverted more bs
  blocks_more bs h place b c at_b at_c = block_more (take place bs) place b c (h place b c at_b at_c)

-- ---- a result more

pub older_more : (split n n' at args args' : ℕ) (w : Value) → n ≤ n' → args ≤ args' → IsOlder split n at args w → IsOlder split n' at args' w
older_more split n n' at args args' (V.Result r) a b h = (h.0, omega (arith, a, h.1))
older_more split n n' at args args' (V.Argument x i) a b (inl h) = inl h
older_more split n n' at args args' (V.Argument x i) a b (inr h) = inr (h.0, omega (arith, b, h.1))

older_next : (split n base j args : ℕ) (w : Value) → IsOlder split n (base + j) args w → IsOlder split n (base + (j + 1)) 0 w
older_next split n base j args (V.Result r) h = h
older_next split n base j args (V.Argument x i) (inl h) = inl (omega (arith, h))
older_next split n base j args (V.Argument x i) (inr h) = inl (omega (arith, h.0))

-- the value of an instruction whose number no earlier one has, apart from all earlier values
pub known_pushed : (m : Module) (old new : Values) (uses : List ConstTree) (fr : Frame) (cs : List ConstTree) (os : List DialectOp) (ps : List Placed) (ws : List Value) (n n' at args args' : ℕ) (i : LLVMInstRef) (p : Placed) (to : Value)
    → p.number ≡ i.0 → ((j : ℕ) (q : Placed) → slice_get ps j ≡ Some q → ¬ (q.number ≡ p.number)) → n ≤ n' → args ≤ args'
    → (h : IsKnown m old uses (knows fr cs os ps ws) n at args) → IsNoted old new (K.Inst i) to → IsOlder h.split n' at args' to → ¬ IsOlder h.split n at args to
    → IsKnown m new uses (knows fr cs os (ps ++ p ∷ []) (ws ++ to ∷ [])) n' at args'
known_pushed m old new uses fr cs os ps ws n n' at args args' i p to number fresh le le' h noted younger not_old = record {
  made = h.made;
  consts = h.consts;
  first_uses = h.first_uses;
  long = (let a = length-push ws to in let b = length-push ps p in let c = h.long in omega (arith, a, b, c));
  notes = result_noted m fr old new cs os ps ws i p to number h.long fresh h.notes noted;
  split = h.split;
  hoisted = h.hoisted;
  older = λ x w at_w. elim (push_cases ws to w x at_w) [
    | inl was ↦ older_more h.split n n' at args args' w le le' (h.older x w was)
    | inr new ↦ subst (IsOlder h.split n' at args') (sym new.0) younger
  ];
  apart = distinct_push ws to h.apart (λ x is. not_old (h.older x to is));
}

pub from_pushed : (fr : Frame) (cs : List ConstTree) (os : List DialectOp) (ps : List Placed) (ws : List Value) (p : Placed) (to : Value) (bs : List DialectBlock) → length ws ≡ length ps → AreFrom (knows fr cs os ps ws) bs → IsFrom bs p to → AreFrom (knows fr cs os (ps ++ p ∷ []) (ws ++ to ∷ [])) bs
from_pushed fr cs os ps ws p to bs n h here i q w at_q at_w = by (push_cases ps p q i at_q) (push_cases ws to w i at_w)
  where
    by : (slice_get ps i ≡ Some q) ⊎ ((q ≡ p) × (i ≡ length ps)) → (slice_get ws i ≡ Some w) ⊎ ((w ≡ to) × (i ≡ length ws)) → IsFrom bs q w
    by (inl a) (inl b) = h i q w a b
    by (inr a) (inr b) = subst (λ (x : Placed). IsFrom bs x w) (sym a.0) (subst (IsFrom bs p) (sym b.0) here)
    by (inl a) (inr b) = absurd (let lt = slice_get_within ps i q a in omega (arith, lt, b.1, n))
    by (inr a) (inl b) = absurd (let lt = slice_get_within ws i w b in omega (arith, lt, a.1, n))

-- ---- blocks

-- more blocks leave where a value comes from
from_kept : (bs more : List DialectBlock) (p : Placed) (w : Value) → IsFrom bs p w → IsFrom (bs ++ more) p w
from_kept bs more p w (FromArgument j i c at is type) = FromArgument j i c (slice_get-kept bs more j c at) is type
from_kept bs more p w (FromResult j y c o at here is type) = FromResult j y c o (slice_get-kept bs more j c at) here is type

-- other operations leave the heads
heads_with : (fr : Frame) (left : List DialectBlock) (now : DialectBlock) (os : List DialectOp) (right : List DialectBlock) → AreHeads fr (left ++ now ∷ right) → AreHeads fr (left ++ with_ops now os ∷ right)
heads_with fr left now os right h place b c at_b at_c = elim (slice_get-behind_cases left (with_ops now os ∷ right) place c at_c) [
  | inl a ↦ h place b c at_b (slice_get-kept left (now ∷ right) place c a)
  | inr z ↦ by z.0 z.1 z.2
]
  where
    by : (q : ℕ) → place ≡ length left + q → slice_get (with_ops now os ∷ right) q ≡ Some c → IsHead fr place b c
    by ℕ.zero is e =
        let x = h place b now at_b (ap (slice_get (left ++ now ∷ right)) is ∙ slice_get-behind left (now ∷ right) 0) in
        subst (IsHead fr place b) (same_Some (with_ops now os) c e) (record { number = x.number; label = x.label; args = x.args })
    by (ℕ.suc q) is e = h place b c at_b (ap (slice_get (left ++ now ∷ right)) is ∙ slice_get-behind left (now ∷ right) (ℕ.suc q) ∙ e)

-- one converted block more
converted_then : (k : Known) (left : List DialectBlock) (b : L.Block) (c : DialectBlock) → AreConverted k left → slice_get (blocks_of k.frame) (length left) ≡ Some b → IsConverted k left (length left) b c → AreConverted k (left ++ c ∷ [])
converted_then k left b c h here new place b' c' at_b at_c = elim (push_cases left c c' place at_c) [
  | inl a ↦ subst (λ (xs : List DialectBlock). IsConverted k xs place b' c') (sym (take-append-le place left (c ∷ []) (let lt = slice_get_within left place c' a in omega (arith, lt)))) (h place b' c' at_b a)
  | inr z ↦
      let same : b ≡ b' = same_Some b b' (sym here ∙ ap (slice_get (blocks_of k.frame)) (sym z.1) ∙ at_b) in
      let front : left ≡ take place (left ++ c ∷ []) = sym (take_at left (c ∷ []) place (sym z.1)) in
      subst (λ (x : DialectBlock). IsConverted k (take place (left ++ c ∷ [])) place b' x) (sym z.0)
      (subst (λ (xs : List DialectBlock). IsConverted k xs place b' c) front
      (subst (λ (x : L.Block). IsConverted k left place x c) same (subst (λ (i : ℕ). IsConverted k left i b c) (sym z.1) new)))
]

-- ---- a block is begun

some_of : {X : Type 0} (xs : List X) → 0 < length xs → (x : X) × (ys : List X) × (xs ≡ x ∷ ys)
some_of [] lt = absurd (omega arith)
some_of (x ∷ xs) lt = (x, xs, refl)

no_uses : (c : ConstTree) (o : DialectOp) → IsConstantOp c o → uses_of o ≡ []
no_uses c o h = let t = constant_tests c o h in rw (t.3, t.2) refl

-- constants use nothing
front_order : (left : List DialectBlock) (now : DialectBlock) (cs : List ConstTree) (os : List DialectOp) (j : ℕ) → Matched IsConstantOp cs os → HasOrder left (with_ops now (front_for j os ++ []))
front_order left now cs os j made place o at = by j (ap (λ (xs : List DialectOp). slice_get xs place) (sym (append-nil (front_for j os))) ∙ at)
  where
    by : (i : ℕ) → slice_get (front_for i os) place ≡ Some o → All (StandsIn left (with_ops now (front_for j os ++ [])) place) (uses_of o)
    by ℕ.zero here =
        let c = other_there os cs place o (sym (matched_length IsConstantOp cs os made)) here in
        subst (All (StandsIn left (with_ops now (front_for j os ++ [])) place)) (sym (no_uses c.0 o (matched_at IsConstantOp cs os made place c.0 o c.1 here))) (All-nil (StandsIn left (with_ops now (front_for j os ++ [])) place))
    by (ℕ.suc i) here = absurd (none-some o here)

begun_with : (fr : Frame) (m : Module) (c : ContextData) (values : Values) (j : ℕ) (b : L.Block) (now : DialectBlock) (right : List DialectBlock) → slice_get (blocks_of fr) j ≡ Some b → (h : IsFilled fr m c values j) → h.right ≡ now ∷ right → IsBody fr m c values j 0 b
begun_with fr m c values j b now right at h is =
    let none : [] ≡ take 0 b.instructions = search rules in
    let sources : insts_before fr j ≡ insts_before fr j ++ take 0 b.instructions = sym (append-nil (insts_before fr j)) ∙ ap (λ (ps : List Placed). insts_before fr j ++ ps) none in
    let filled : now.ops ≡ front_for j h.hoisted ++ [] = h.bare 0 now (ap (λ (xs : List DialectBlock). slice_get xs 0) is) ∙ ap (λ (x : ℕ). front_for x h.hoisted) (let e : j + 0 ≡ j = omega arith in e) ∙ sym (append-nil (front_for j h.hoisted)) in
    let here : now ≡ with_ops now (front_for j h.hoisted ++ []) = ap (with_ops now) filled in
    record {
      constants = h.constants;
      hoisted = h.hoisted;
      done = h.done;
      left = h.left;
      now = now;
      rest = [];
      right = right;
      source = at;
      under = subst (λ (x : DialectBlock). IsUnder fr.home fr.base c (h.left ++ x ∷ right)) here (subst (λ (xs : List DialectBlock). IsUnder fr.home fr.base c (h.left ++ xs)) is h.under);
      at = h.at;
      count = ap (λ (xs : List DialectBlock). length (h.left ++ xs)) (sym is) ∙ h.count;
      converted = subst (λ (ps : List Placed). AreConverted (knows fr h.constants h.hoisted ps h.done) h.left) sources h.converted;
      heads = subst (λ (xs : List DialectBlock). AreHeads fr (h.left ++ xs)) is h.heads;
      bare = λ i x at_x. h.bare (ℕ.suc i) x (ap (λ (xs : List DialectBlock). slice_get xs (ℕ.suc i)) is ∙ at_x) ∙ ap (λ (y : ℕ). front_for y h.hoisted) (let e : j + ℕ.suc i ≡ ℕ.suc (j + i) = omega arith in e);
      known = subst (λ (n : ℕ). IsKnown m values (all_uses m fr) (knows fr h.constants h.hoisted (insts_before fr j ++ take 0 b.instructions) h.done) (length c.ops) (fr.base + j) n) (ap (λ (ps : List Placed). length (filter is_phi ps)) none)
          (subst (λ (ps : List Placed). IsKnown m values (all_uses m fr) (knows fr h.constants h.hoisted ps h.done) (length c.ops) (fr.base + j) 0) sources h.known);
      from = subst (λ (ps : List Placed). AreFrom (knows fr h.constants h.hoisted ps h.done) (h.left ++ with_ops now (front_for j h.hoisted ++ []) ∷ [])) sources (λ i p w at_p at_w. from_kept h.left (with_ops now (front_for j h.hoisted ++ []) ∷ []) p w (h.from i p w at_p at_w));
      rows = subst (λ (ps : List Placed). Matched (IsRow (knows fr h.constants h.hoisted (insts_before fr j ++ take 0 b.instructions) h.done) b) (filter (λ (p : Placed). not (is_phi p)) ps) []) none tt;
      phis = subst (λ (ps : List Placed). HasPhis (knows fr h.constants h.hoisted (insts_before fr j ++ take 0 b.instructions) h.done) (fr.base + j) (filter is_phi ps)) none (λ x p at_p. absurd (none-some p at_p));
      in_order = front_order h.left now h.constants h.hoisted j h.known.made;
    }

-- the next block is begun
pub begun : (fr : Frame) (m : Module) (c : ContextData) (values : Values) (j : ℕ) (b : L.Block) → slice_get (blocks_of fr) j ≡ Some b → IsFilled fr m c values j → IsBody fr m c values j 0 b
begun fr m c values j b at h =
    let lt = slice_get_within (blocks_of fr) j b at in
    let x = some_of h.right (let n = length-append h.left h.right in omega (arith, lt, n, h.count, h.at)) in
    begun_with fr m c values j b x.0 x.1 at h x.2

-- ---- a block is done

pub filled : (fr : Frame) (m : Module) (c : ContextData) (values : Values) (j x : ℕ) (b : L.Block) → length b.instructions ≤ x → IsBody fr m c values j x b → IsFilled fr m c values (j + 1)
filled fr m c values j x b le h =
    let all : take x b.instructions ≡ b.instructions = take_all x b.instructions le in
    let sources : insts_before fr j ++ take x b.instructions ≡ insts_before fr (j + 1) = ap (λ (ps : List Placed). insts_before fr j ++ ps) all ∙ sym (flat_next (λ (y : L.Block). y.instructions) (blocks_of fr) j b h.source) in
    let c' : DialectBlock = with_ops h.now (front_for j h.hoisted ++ h.rest) in
    let k : Known = knows fr h.constants h.hoisted (insts_before fr j ++ take x b.instructions) h.done in
    let joined : h.left ++ c' ∷ h.right ≡ (h.left ++ c' ∷ []) ++ h.right = sym (append_assoc h.left (c' ∷ []) h.right) in
    let heads : AreHeads fr (h.left ++ c' ∷ h.right) = heads_with fr h.left h.now (front_for j h.hoisted ++ h.rest) h.right h.heads in
    let head : IsHead fr j b c' = heads j b c' h.source (ap (slice_get (h.left ++ c' ∷ h.right)) (let e : j ≡ length h.left + 0 = omega (arith, h.at) in e) ∙ slice_get-behind h.left (c' ∷ h.right) 0) in
    let new : IsConverted k h.left j b c' = record {
      head = head;
      rest = h.rest;
      ops = refl;
      rows = subst (λ (ps : List Placed). Matched (IsRow k b) (filter (λ (p : Placed). not (is_phi p)) ps) h.rest) all h.rows;
      phis = subst (λ (n : ℕ). HasPhis k n (phis_of b)) (sym head.number) (subst (λ (ps : List Placed). HasPhis k (fr.base + j) (filter is_phi ps)) all h.phis);
      in_order = h.in_order;
    } in
    record {
      constants = h.constants;
      hoisted = h.hoisted;
      done = h.done;
      left = h.left ++ c' ∷ [];
      right = h.right;
      under = subst (IsUnder fr.home fr.base c) joined h.under;
      at = length-push h.left c' ∙ ap (λ (n : ℕ). n + 1) h.at;
      count = ap (λ (xs : List DialectBlock). length xs) (sym joined) ∙ length-append h.left (c' ∷ h.right) ∙ sym (length-append h.left (h.now ∷ h.right)) ∙ h.count;
      converted = subst (λ (ps : List Placed). AreConverted (knows fr h.constants h.hoisted ps h.done) (h.left ++ c' ∷ [])) sources
          (converted_then k h.left b c' h.converted (ap (slice_get (blocks_of fr)) h.at ∙ h.source) (subst (λ (i : ℕ). IsConverted k h.left i b c') (sym h.at) new));
      heads = subst (AreHeads fr) joined heads;
      bare = λ i y at_y. h.bare i y at_y ∙ ap (λ (n : ℕ). front_for n h.hoisted) (let e : ℕ.suc (j + i) ≡ (j + 1) + i = omega arith in e);
      known = subst (λ (ps : List Placed). IsKnown m values (all_uses m fr) (knows fr h.constants h.hoisted ps h.done) (length c.ops) (fr.base + (j + 1)) 0) sources (record {
        made = h.known.made;
        consts = h.known.consts;
        first_uses = h.known.first_uses;
        long = h.known.long;
        notes = h.known.notes;
        split = h.known.split;
        hoisted = h.known.hoisted;
        older = λ i w at_w. older_next h.known.split (length c.ops) fr.base j (length (filter is_phi (take x b.instructions))) w (h.known.older i w at_w);
        apart = h.known.apart;
      });
      from = subst (λ (ps : List Placed). AreFrom (knows fr h.constants h.hoisted ps h.done) (h.left ++ c' ∷ [])) sources h.from;
    }

-- ---- the next instruction

-- the sources with the next instruction
pub sources_next : (fr : Frame) (j x : ℕ) (b : L.Block) (p : Placed) → slice_get b.instructions x ≡ Some p → (insts_before fr j ++ take x b.instructions) ++ p ∷ [] ≡ insts_before fr j ++ take (x + 1) b.instructions
sources_next fr j x b p at = append_assoc (insts_before fr j) (take x b.instructions) (p ∷ []) ∙ ap (λ (ps : List Placed). insts_before fr j ++ ps) (sym (take_next b.instructions x p at))

module _ (fr : Frame) (form : LF.IsFormFunction fr.source) (order : IsPlaces (length fr.source.blocks) fr.order) where
  abbrev g : L.Function
  g = fr.source

  -- instructions of one number stand at one place
  inst_apart : (i j : ℕ) (a b : L.Block) (x y : ℕ) (p q : Placed) → slice_get (blocks_of fr) i ≡ Some a → slice_get (blocks_of fr) j ≡ Some b → slice_get a.instructions x ≡ Some p → slice_get b.instructions y ≡ Some q → p.number ≡ q.number → (i ≡ j) × (x ≡ y)
  inst_apart i j a b x y p q at_a at_b at_p at_q same =
      let u = ordered_at fr.order g.blocks order i a at_a in
      let v = ordered_at fr.order g.blocks order j b at_b in
      let e = flat_same (λ (z : L.Block). z.instructions) g.blocks u.place v.place a b x y p q u.at v.at at_p at_q (λ s t at_s at_t. number_apart (λ (z : Placed). z.number) (placed_in g) form.numbers s t p q at_s at_t same) in
      (order.apart i j u.place u.here (v.here ∙ ap Some (sym e.0)), e.1)

  -- no earlier instruction has its number
  pub number_fresh : (j x : ℕ) (b : L.Block) (p : Placed) → slice_get (blocks_of fr) j ≡ Some b → slice_get b.instructions x ≡ Some p → (y : ℕ) (q : Placed) → slice_get (insts_before fr j ++ take x b.instructions) y ≡ Some q → ¬ (q.number ≡ p.number)
  number_fresh j x b p at here y q at_q same = elim (slice_get-behind_cases (insts_before fr j) (take x b.instructions) y q at_q) [
    | inl before ↦
        let f = flat_from (λ (z : L.Block). z.instructions) (take j (blocks_of fr)) y q before in
        let u = untake (blocks_of fr) j f.place f.item f.here in
        let e = inst_apart f.place j f.item b f.inner x q p u.1 at f.at here same in
        omega (arith, u.0, e.0)
    | inr z ↦
        let u = untake b.instructions x z.0 q z.2 in
        let e = inst_apart j j b b z.0 x q p at at u.1 here same in
        omega (arith, u.0, e.1)
  ]

  -- a phi stands behind phis alone
  phis_before : (j x : ℕ) (b : L.Block) (p : Placed) → slice_get (blocks_of fr) j ≡ Some b → slice_get b.instructions x ≡ Some p → is_phi p ≡ true → (i : ℕ) (q : Placed) → i < x → slice_get b.instructions i ≡ Some q → is_phi q ≡ true
  phis_before j x b p at here phi i q lt at_q = by (is_phi q) refl
    where
      by : (t : Bool) → is_phi q ≡ t → t ≡ true
      by true e = refl
      by false e =
          let o = ordered_at fr.order g.blocks order j b at in
          let no = (block_form g form o.place b o.at).phis i x q p lt at_q here e in
          let f : true ≡ false = sym phi ∙ no in cc

  pub phi_count : (j x : ℕ) (b : L.Block) (p : Placed) → slice_get (blocks_of fr) j ≡ Some b → slice_get b.instructions x ≡ Some p → is_phi p ≡ true → length (filter is_phi (take x b.instructions)) ≡ x
  phi_count j x b p at here phi =
      ap (λ (ps : List Placed). length ps) (filter_all is_phi (take x b.instructions) (λ i q at_q. let u = untake b.instructions x i q at_q in phis_before j x b p at here phi i q u.0 u.1))
      ∙ length-take-le x b.instructions (let lt = slice_get_within b.instructions x p here in omega (arith, lt))

  -- the phis of a block by their places
  front_kept : (xs : List Placed) (x : ℕ) (p : Placed) → slice_get xs x ≡ Some p → is_phi p ≡ true → ((i : ℕ) (q : Placed) → i < x → slice_get xs i ≡ Some q → is_phi q ≡ true) → slice_get (filter is_phi xs) x ≡ Some p
  front_kept [] x p at phi h = cc
  front_kept (y ∷ xs) ℕ.zero p at phi h = rw (ap is_phi (same_Some y p at) ∙ phi) at
  front_kept (y ∷ xs) (ℕ.suc x) p at phi h = rw (h 0 y (omega arith) refl) (front_kept xs x p at phi (λ i q lt at_q. h (ℕ.suc i) q (omega (arith, lt)) at_q))

  pub phi_place : (j x : ℕ) (b : L.Block) (p : Placed) → slice_get (blocks_of fr) j ≡ Some b → slice_get b.instructions x ≡ Some p → is_phi p ≡ true → slice_get (phis_of b) x ≡ Some p
  phi_place j x b p at here phi = front_kept b.instructions x p here phi (phis_before j x b p at here phi)

  -- no phi stands in the entry, where no edge leads
  no_entry_phi : (x : ℕ) (b : L.Block) (p : Placed) → slice_get g.blocks 0 ≡ Some b → slice_get b.instructions x ≡ Some p → ¬ (is_phi p ≡ true)
  no_entry_phi x b p at here phi =
      let es = phi_is p phi in
      let fits = (phi_form g form 0 x b p es.0 at here es.1).1 in
      by es.0 fits
    where
      by : (es : List (L.Operand × ℕ)) → LF.FitsEdges g b.number es → ⊥
      by [] fits = fits.some refl
      by (e ∷ es) fits =
          let lt = count_there e.1 (map (λ (y : L.Operand × ℕ). y.1) (e ∷ es)) 0 refl in
          let counts = fits.counts e.1 in
          let edge = there_edge g form e.1 b.number (omega (arith, lt, counts)) in
          let t = target_there g form edge.place edge.inner edge.which edge.block edge.inst b.number edge.at edge.here edge.leads in
          let one = number_apart (λ (y : L.Block). y.number) g.blocks form.block_numbers (ℕ.suc t.0) 0 t.1 b t.2 at t.3 in
          omega (arith, one)

  -- so the argument at its place has its type
  pub phi_typed : (j x : ℕ) (b : L.Block) (p : Placed) → slice_get (blocks_of fr) j ≡ Some b → slice_get b.instructions x ≡ Some p → is_phi p ≡ true → slice_get (args_for g j b) x ≡ Some p.type
  phi_typed ℕ.zero x b p at here phi = absurd (no_entry_phi x b p (ordered_first fr.order g.blocks order b at) here phi)
  phi_typed (ℕ.suc j) x b p at here phi = slice_get-map (λ (q : Placed). q.type) (phis_of b) x ∙ ap (option_map (λ (q : Placed). q.type)) (phi_place (ℕ.suc j) x b p at here phi)

-- ---- a phi

-- the argument is none of the values before
not_older : (split n at x : ℕ) (block : BlockRef) → block.0 ≡ at → ¬ IsOlder split n at x (V.Argument block x)
not_older split n at x block is (inl lt) = omega (arith, lt, is)
not_older split n at x block is (inr h) = omega (arith, h.1)

pub phi_taken : (fr : Frame) (m : Module) (f : LLVMFunction) (targets : Targets) (entries : Entries) (c : ContextData) (old new : Values) (from : LLVMBasicBlock) (block : BlockRef) (i : LLVMInstRef) (j x : ℕ) (b : L.Block) (p : Placed)
    → IsAt fr m f targets entries c old from block i j x b p → is_phi p ≡ true → IsNoted old new (K.Inst i) (V.Argument block x) → IsBody fr m c new j (x + 1) b
phi_taken fr m f targets entries c old new from block i j x b p h phi noted =
    let body = h.body in
    let form = h.framed.source.form in
    let order = h.framed.order in
    let here : slice_get b.instructions x ≡ Some p = h.inst.at in
    let w : Value = V.Argument block x in
    let os : List DialectOp = body.hoisted in
    let cs : List ConstTree = body.constants in
    let ps : List Placed = insts_before fr j ++ take x b.instructions in
    let c' : DialectBlock = with_ops body.now (front_for j os ++ body.rest) in
    let k : Known = knows fr cs os (ps ++ p ∷ []) (body.done ++ w ∷ []) in
    let fresh = number_fresh fr form order j x b p body.source here in
    let next : ps ++ p ∷ [] ≡ insts_before fr j ++ take (x + 1) b.instructions = sources_next fr j x b p here in
    let count : length (filter is_phi (take x b.instructions)) ≡ x = phi_count fr form order j x b p body.source here phi in
    let phis : filter is_phi (take (x + 1) b.instructions) ≡ filter is_phi (take x b.instructions) ++ p ∷ [] = filter_next is_phi b.instructions x p here phi in
    let longer : length (filter is_phi (take (x + 1) b.instructions)) ≡ x + 1 = ap (λ (qs : List Placed). length qs) phis ∙ length-push (filter is_phi (take x b.instructions)) p ∙ ap (λ (n : ℕ). n + 1) count in
    let rest : filter (λ (q : Placed). not (is_phi q)) (take (x + 1) b.instructions) ≡ filter (λ (q : Placed). not (is_phi q)) (take x b.instructions) = filter_skip (λ (q : Placed). not (is_phi q)) b.instructions x p here (ap not phi) in
    let heads : AreHeads fr (body.left ++ c' ∷ body.right) = heads_with fr body.left body.now (front_for j os ++ body.rest) body.right body.heads in
    let head : IsHead fr j b c' = heads j b c' body.source (ap (slice_get (body.left ++ c' ∷ body.right)) (let e : j ≡ length body.left + 0 = omega (arith, body.at) in e) ∙ slice_get-behind body.left (c' ∷ body.right) 0) in
    let number : block.0 ≡ c'.number = h.number ∙ sym head.number in
    let made : IsFrom (body.left ++ c' ∷ []) p w = FromArgument j x c' (ap (slice_get (body.left ++ c' ∷ [])) (let e : j ≡ length body.left + 0 = omega (arith, body.at) in e) ∙ slice_get-behind body.left (c' ∷ []) 0)
    (ap (λ (n : ℕ). V.Argument (record { 0 = n }) x) number) (ap (λ (ts : List _). slice_get ts x) head.args ∙ phi_typed fr form order j x b p body.source here phi) in
    record {
      constants = cs;
      hoisted = os;
      done = body.done ++ w ∷ [];
      left = body.left;
      now = body.now;
      rest = body.rest;
      right = body.right;
      source = body.source;
      under = body.under;
      at = body.at;
      count = body.count;
      converted = subst (λ (qs : List Placed). AreConverted (knows fr cs os qs (body.done ++ w ∷ [])) body.left) next (blocks_more fr cs os ps (p ∷ []) body.done (w ∷ []) body.left body.converted);
      heads = body.heads;
      bare = body.bare;
      known = subst (λ (qs : List Placed). IsKnown m new (all_uses m fr) (knows fr cs os qs (body.done ++ w ∷ [])) (length c.ops) (fr.base + j) (length (filter is_phi (take (x + 1) b.instructions)))) next
          (known_pushed m old new (all_uses m fr) fr cs os ps body.done (length c.ops) (length c.ops) (fr.base + j) (length (filter is_phi (take x b.instructions))) (length (filter is_phi (take (x + 1) b.instructions))) i p w
          (inst_number m b i x p h.inst) fresh (omega arith) (omega (arith, longer, count)) body.known noted
          (inr (h.number, omega (arith, longer)))
          (λ was. not_older body.known.split (length c.ops) (fr.base + j) x block h.number (subst (λ (n : ℕ). IsOlder body.known.split (length c.ops) (fr.base + j) n w) count was)));
      from = subst (λ (qs : List Placed). AreFrom (knows fr cs os qs (body.done ++ w ∷ [])) (body.left ++ c' ∷ [])) next (from_pushed fr cs os ps body.done p w (body.left ++ c' ∷ []) body.known.long body.from made);
      rows = subst (λ (qs : List Placed). Matched (IsRow (knows fr cs os qs (body.done ++ w ∷ [])) b) (filter (λ (q : Placed). not (is_phi q)) (take (x + 1) b.instructions)) body.rest) next
          (subst (λ (qs : List Placed). Matched (IsRow k b) qs body.rest) (sym rest) (rows_more fr cs os ps (p ∷ []) body.done (w ∷ []) b (filter (λ (q : Placed). not (is_phi q)) (take x b.instructions)) body.rest body.rows));
      phis = subst (λ (qs : List Placed). HasPhis (knows fr cs os qs (body.done ++ w ∷ [])) (fr.base + j) (filter is_phi (take (x + 1) b.instructions))) next
          (subst (HasPhis k (fr.base + j)) (sym phis)
          (phi_pushed fr cs os ps body.done (fr.base + j) x block p (filter is_phi (take x b.instructions)) count h.number body.known.long fresh body.phis));
      in_order = body.in_order;
    }
  where
    phi_pushed : (fr : Frame) (cs : List ConstTree) (os : List DialectOp) (ps : List Placed) (ws : List Value) (n x : ℕ) (block : BlockRef) (p : Placed) (phis : List Placed) → length phis ≡ x → block.0 ≡ n → length ws ≡ length ps → ((y : ℕ) (q : Placed) → slice_get ps y ≡ Some q → ¬ (q.number ≡ p.number))
        → HasPhis (knows fr cs os ps ws) n phis → HasPhis (knows fr cs os (ps ++ p ∷ []) (ws ++ V.Argument block x ∷ [])) n (phis ++ p ∷ [])
    phi_pushed fr cs os ps ws n x block p phis count is long fresh old y q at = elim (push_cases phis p q y at) [
      | inl was ↦ phis_more fr cs os ps (p ∷ []) ws (V.Argument block x ∷ []) n phis old y q was
      | inr new ↦
          let to : Value = V.Argument block x in
          let same : to ≡ V.Argument (record { 0 = n }) y = ap (λ (z : ℕ). V.Argument (record { 0 = z }) x) is ∙ ap (V.Argument (record { 0 = n })) (sym count ∙ sym new.1) in
          subst (λ (z : Placed). result_in (knows fr cs os (ps ++ p ∷ []) (ws ++ to ∷ [])) z.number ≡ Some (V.Argument (record { 0 = n }) y)) (sym new.0) (result_here ps ws p to long fresh ∙ ap Some same)
    ]

-- ---- blocks and instructions that come next

-- the block that the order names leads to that at its place
pub target_named : (m : Module) (fr : Frame) (t : Targets) (order : List ℕ) (ns : List LLVMBasicBlock) (i : ℕ) → AreTargets fr t → NamedAt m fr order ns i → target_at t (get_or ns (get_or order i 0) (record { 0 = 0 })) ≡ Some (record { 0 = fr.base + i })
target_named m fr t order ns i leads x =
    subst (λ (n : ℕ). target_at t (record { 0 = n }) ≡ Some (record { 0 = fr.base + i })) (block_number m fr.source (get_or ns (get_or order i 0) (record { 0 = 0 })) (get_or order i 0) x.block x.is) (leads i x.block x.here)

pub begins_at : (m : Module) (f : LLVMFunction) (fr : Frame) (t : Targets) (entries : Entries) (c : ContextData) (values : Values) (order : List ℕ) (ns : List LLVMBasicBlock) (i : ℕ) (block : BlockRef) → IsFramed m f fr → AreTargets fr t → AreEntries m fr.source entries
    → (x : NamedAt m fr order ns i) → target_at t (get_or ns (get_or order i 0) (record { 0 = 0 })) ≡ Some block → IsFilled fr m c values i → IsBegun fr m f t entries c values (get_or ns (get_or order i 0) (record { 0 = 0 })) block i x.block
begins_at m f fr t entries c values order ns i block framed leads noted x to filled = record {
  framed = framed;
  leads = leads;
  noted = noted;
  place = get_or order i 0;
  of_block = x.is;
  number = ap (λ (b : BlockRef). b.0) (same_Some block (record { 0 = fr.base + i }) (sym to ∙ target_named m fr t order ns i leads x));
  here = x.here;
  filled = filled;
}

pub next_at : (fr : Frame) (m : Module) (f : LLVMFunction) (t : Targets) (entries : Entries) (c c' : ContextData) (values values' : Values) (from : LLVMBasicBlock) (block : BlockRef) (i : LLVMInstRef) (j x : ℕ) (b : L.Block) (p : Placed)
    → IsBegun fr m f t entries c values from block j b → IsInstOf m b i x p → IsBody fr m c' values' j x b → IsAt fr m f t entries c' values' from block i j x b p
next_at fr m f t entries c c' values values' from block i j x b p h inst body = record {
  framed = h.framed;
  leads = h.leads;
  noted = h.noted;
  place = h.place;
  of_block = h.of_block;
  number = h.number;
  inst = inst;
  body = body;
}
