-- Whether each value of a function stands before its uses, the blocks taken in order.
use Rattle.std.proofs.Common.{◌≡◌, ◌<◌, ◌≤◌, ◌+◌, ℕ, suc, Bool, true, false, if◌then◌else◌, Result, Ok, Err, List, [], ◌∷◌, ◌++◌, Option, Some, None, All, length, map, take, drop, slice_get, get_or, refl, sym, ap, subst, ◌∙◌, arith, append_assoc, ⊎_elim}
use Rattle.std.specs.Prelude.{IfOk, MatchBool, is_some}
use Rattle.std.specs.List.{flat_map, cons_option}
use Rattle.std.proofs.lemmas.Bool.{cond-true, cond-false, cases_Bool, false≢true}
use Rattle.std.proofs.lemmas.Option.{none-some, same_Some, slice_get_within}
use Rattle.std.proofs.lemmas.List.{append-nil, map-append, take-append-drop}
use Rattle.std.proofs.lemmas.List.Concat.{flat_map-append}
use Rattle.std.proofs.lemmas.List.Elements.{All-weaker, All-append, filter_map-append}
use Rattle.support.proofs.ListLaws.{slice_get-kept, all_from, slice_get-behind, slice_get-behind_cases, in_joined}
use Rattle.dialect_types.specs.Trees.{type_trees}
use Rattle.dialect_core.specs.declared.numbers.BlockRef.{BlockRef}
use Rattle.dialect_core.specs.declared.numbers.OpRef.{OpRef}
use Rattle.dialect_core.specs.declared.ops.Value.{Value}
use Rattle.dialect_core.specs.declared.ops.Successor.{Successor}
use Rattle.dialect_core.specs.ContextData.{ContextData}
use Rattle.dialect_core.specs.Data.{DialectOp, DialectBlock, Func, op_at}
use Rattle.dialect_core.specs.Form.{IsInOrder, StandsBefore, uses_of}
use Rattle.meaning.specs.Dialect.{same_value}
use Rattle.meaning.proofs.SameValues.{same_value-Decides}
use Rattle.to_llvm_ir.specs.declared.order.Seen.{Seen}
use Rattle.to_llvm_ir.specs.Exported.{result, arguments_of}
use Rattle.to_llvm_ir.specs.States.{Task, Has, all_values, seen_before}
use Rattle.to_llvm_ir.specs.Opening.{AreBlocks}
use Rattle.to_llvm_ir.specs.Ordering.{AreBlocksOf, AreSeen, IsAmong, HasUsesAmong, is_seen, ops_of}
use Rattle.to_llvm_ir.proofs.ListLaws.{all_at, take_suc, at_middle, filter_map_more}
use Rattle.to_llvm_ir.proofs.KnownLaws.{has_left, has_cases, stands_seen, seen_stands}

pub of_blocks : (c : ContextData) (t : Task) (bs : List BlockRef) → AreBlocks c t bs → AreBlocksOf c t.source bs
of_blocks c t bs h = record { some = (let e = ap (λ (bs : List DialectBlock). length bs) h.task.form.body in omega (arith, e)); apart = h.task.form.block_numbers; count = h.count; each = λ i b at. let d = h.each i b at in (d.0, record { here = d.1.here; is = d.1.is }) }

-- ---- values that are noted

pub seen_none : (seen : Seen) → ((v : Value) → is_seen seen v ≡ false) → AreSeen seen []
seen_none seen h v = (λ e. absurd (false≢true (sym (h v) ∙ e)), λ has. absurd (none-some v has.1))

pub noted_if : {X : Type 0} (t : Bool) (x : X) (o : Option X) → is_some (if t then Some x else o) ≡ (if t then true else is_some o)
noted_if true x o = refl
noted_if false x o = refl

pub seen_more : (old new : Seen) (v : Value) (vs : List Value) → ((q : Value) → is_seen new q ≡ (if same_value v q then true else is_seen old q)) → AreSeen old vs → AreSeen new (vs ++ v ∷ [])
seen_more old new v vs set h q = (
  λ e. ⊎_elim
      (λ same. (length vs, at_middle vs v [] ∙ ap Some ((same_value-Decides v q).0 same)))
      (λ differs. has_left vs (v ∷ []) q ((h q).0 (sym (set q ∙ cond-false (same_value v q) true (is_seen old q) differs) ∙ e)))
      (cases_Bool (same_value v q)),
  λ has. ⊎_elim
      (λ same. set q ∙ cond-true (same_value v q) true (is_seen old q) same)
      (λ differs. set q ∙ cond-false (same_value v q) true (is_seen old q) differs ∙ ⊎_elim (λ old. (h q).1 old) (λ last. absurd (false≢true (sym differs ∙ (same_value-Decides v q).1 (only last.0 last.1)))) (has_cases vs (v ∷ []) q has))
      (cases_Bool (same_value v q)),
)
  where
    only : (i : ℕ) → slice_get (v ∷ []) i ≡ Some q → v ≡ q
    only ℕ.zero at = same_Some v q at
    only (suc i) at = absurd (none-some q at)

-- ---- the uses of operations

take_front : {X : Type 0} (xs ys : List X) (k : ℕ) → k ≤ length xs → take k (xs ++ ys) ≡ take k xs
take_front xs ys ℕ.zero le = refl
take_front [] ys (suc k) le = absurd (omega (arith, le))
take_front (x ∷ xs) ys (suc k) le = ap (λ zs. x ∷ zs) (take_front xs ys k (omega (arith, le)))

take_past : {X : Type 0} (xs ys : List X) (k : ℕ) → take (length xs + k) (xs ++ ys) ≡ xs ++ take k ys
take_past [] ys k = ap (λ (i : ℕ). take i ys) (let e : 0 + k ≡ k = omega arith in e)
take_past (x ∷ xs) ys k = ap (λ (i : ℕ). take i (x ∷ (xs ++ ys))) (let e : suc (length xs) + k ≡ suc (length xs + k) = omega arith in e) ∙ ap (λ zs. x ∷ zs) (take_past xs ys k)

module _ (vs : List Value) where
  among_past : (xs ys : List DialectOp) (k : ℕ) (v : Value) → (vs ++ map result (take (length xs + k) (xs ++ ys))) ≡ ((vs ++ map result xs) ++ map result (take k ys))
  among_past xs ys k v = ap (λ (os : List DialectOp). vs ++ map result os) (take_past xs ys k) ∙ ap (λ (ws : List Value). vs ++ ws) (map-append result xs (take k ys)) ∙ sym (append_assoc vs (map result xs) (map result (take k ys)))

  pub uses_nil : HasUsesAmong vs []
  uses_nil k o at = absurd (none-some o at)

  pub uses_append : (xs ys : List DialectOp) → HasUsesAmong vs xs → HasUsesAmong (vs ++ map result xs) ys → HasUsesAmong vs (xs ++ ys)
  uses_append xs ys h k i o at = ⊎_elim
      (λ front. All-weaker (IsAmong vs xs i) (IsAmong vs (xs ++ ys) i) (λ v has. subst (λ (os : List DialectOp). Has (vs ++ map result os) v) (sym (take_front xs ys i (let lt = slice_get_within xs i o front in omega (arith, lt)))) has) (uses_of o) (h i o front))
      (λ back.
      subst (λ (j : ℕ). All (IsAmong vs (xs ++ ys) j) (uses_of o)) (sym back.1)
      (All-weaker (IsAmong (vs ++ map result xs) ys back.0) (IsAmong vs (xs ++ ys) (length xs + back.0)) (λ v has. subst (λ (ws : List Value). Has ws v) (sym (among_past xs ys back.0 v)) has) (uses_of o) (k back.0 o back.2)))
      (slice_get-behind_cases xs ys i o at)

  pub uses_front : (xs ys : List DialectOp) → HasUsesAmong vs (xs ++ ys) → HasUsesAmong vs xs
  uses_front xs ys h i o at =
      All-weaker (IsAmong vs (xs ++ ys) i) (IsAmong vs xs i) (λ v has. subst (λ (os : List DialectOp). Has (vs ++ map result os) v) (take_front xs ys i (let lt = slice_get_within xs i o at in omega (arith, lt))) has) (uses_of o) (h i o (slice_get-kept xs ys i o at))

  pub uses_back : (xs ys : List DialectOp) → HasUsesAmong vs (xs ++ ys) → HasUsesAmong (vs ++ map result xs) ys
  uses_back xs ys h i o at =
      All-weaker (IsAmong vs (xs ++ ys) (length xs + i)) (IsAmong (vs ++ map result xs) ys i) (λ v has. subst (λ (ws : List Value). Has ws v) (among_past xs ys i v) has) (uses_of o) (h (length xs + i) o (slice_get-behind xs ys i ∙ at))

  -- one operation
  pub uses_one : (o : DialectOp) → All (Has vs) (uses_of o) → HasUsesAmong vs (o ∷ [])
  uses_one o h ℕ.zero p at = subst (λ (x : DialectOp). All (IsAmong vs (o ∷ []) 0) (uses_of x)) (same_Some o p at) (subst (λ (ws : List Value). All (Has ws) (uses_of o)) (sym (append-nil vs)) h)
  uses_one o h (suc k) p at = absurd (none-some p at)

  pub one_uses : (o : DialectOp) → HasUsesAmong vs (o ∷ []) → All (Has vs) (uses_of o)
  one_uses o h = subst (λ (ws : List Value). All (Has ws) (uses_of o)) (append-nil vs) (h 0 o refl)

-- all that an operation uses is noted
pub noted_among : (seen : Seen) (vs xs : List Value) → AreSeen seen vs → All (λ (v : Value). is_seen seen v ≡ true) xs → All (Has vs) xs
noted_among seen vs xs h all = All-weaker (λ (v : Value). is_seen seen v ≡ true) (Has vs) (λ v e. (h v).0 e) xs all

pub among_noted : (seen : Seen) (vs xs : List Value) → AreSeen seen vs → All (Has vs) xs → All (λ (v : Value). is_seen seen v ≡ true) xs
among_noted seen vs xs h all = All-weaker (Has vs) (λ (v : Value). is_seen seen v ≡ true) (λ v has. (h v).1 has) xs all

-- ---- what edges pass

abbrev pub passes : Successor → List Value
passes s = s.args

pub passes_more : (P : Value → Type 0) (xs : List Value) (ss : List Successor) (i : ℕ) (s : Successor) → slice_get ss i ≡ Some s → All P (xs ++ flat_map passes (take i ss)) → All P s.args → All P (xs ++ flat_map passes (take (i + 1) ss))
passes_more P xs ss i s at h k =
    let front = flat_map passes (take i ss) in
    let whole : (xs ++ front) ++ s.args ≡ xs ++ flat_map passes (take (i + 1) ss) =
    append_assoc xs front s.args
    ∙ ap (λ (vs : List Value). xs ++ vs) (sym (ap (λ (j : ℕ). flat_map passes (take j ss)) (let e : i + 1 ≡ suc i = omega arith in e) ∙ ap (flat_map passes) (take_suc ss i s at) ∙ flat_map-append passes (take i ss) (s ∷ []) ∙ ap (λ (vs : List Value). front ++ vs) (append-nil s.args))) in
    subst (All P) whole (All-append P (xs ++ front) s.args h k)

pub passes_one : (P : Value → Type 0) (xs : List Value) (ss : List Successor) (i : ℕ) (s : Successor) → slice_get ss i ≡ Some s → All P (xs ++ flat_map passes ss) → All P s.args
passes_one P xs ss i s at h = all_from P s.args (λ k v at'. let m = in_joined passes ss i k s v at at' in all_at P (xs ++ flat_map passes ss) (length xs + m.0) v h (slice_get-behind xs (flat_map passes ss) m.0 ∙ m.1))

pub passes_none : (P : Value → Type 0) (xs ys : List Value) → All P (xs ++ ys) → All P xs
passes_none P xs ys h = all_from P xs (λ k v at. all_at P (xs ++ ys) k v h (slice_get-kept xs ys k v at))

-- ---- operations by their numbers

pub ops_none : (c : ContextData) (op : OpRef) → op_at (type_trees c.types) c.ops op ≡ None → ops_of c (op ∷ []) ≡ []
ops_none c op e = ap (λ (o : Option DialectOp). cons_option o []) e

pub ops_some : (c : ContextData) (op : OpRef) (o : DialectOp) → op_at (type_trees c.types) c.ops op ≡ Some o → ops_of c (op ∷ []) ≡ o ∷ []
ops_some c op o e = ap (λ (o : Option DialectOp). cons_option o []) e

pub ops_more : (c : ContextData) (ops : List OpRef) (i : ℕ) (d : OpRef) → i < length ops → ops_of c (take (i + 1) ops) ≡ ops_of c (take i ops) ++ ops_of c (get_or ops i d ∷ [])
ops_more c ops i d lt = filter_map_more (op_at (type_trees c.types) c.ops) ops i d lt

pub ops_whole : (c : ContextData) (ops : List OpRef) (i : ℕ) → ops_of c ops ≡ ops_of c (take i ops) ++ ops_of c (drop i ops)
ops_whole c ops i = ap (ops_of c) (sym (take-append-drop i ops)) ∙ filter_map-append (op_at (type_trees c.types) c.ops) (take i ops) (drop i ops)

-- what the first operations say, and one more
pub in_order_more : (c : ContextData) (ops : List OpRef) (i : ℕ) (d : OpRef) (vs : List Value) → i < length ops → HasUsesAmong vs (ops_of c (take i ops)) → HasUsesAmong (vs ++ map result (ops_of c (take i ops))) (ops_of c (get_or ops i d ∷ [])) → HasUsesAmong vs (ops_of c (take (i + 1) ops))
in_order_more c ops i d vs lt h one = subst (HasUsesAmong vs) (sym (ops_more c ops i d lt)) (uses_append vs (ops_of c (take i ops)) (ops_of c (get_or ops i d ∷ [])) h one)

pub seen_with : (c : ContextData) (ops : List OpRef) (i : ℕ) (d : OpRef) (vs : List Value) → i < length ops → (vs ++ map result (ops_of c (take i ops))) ++ map result (ops_of c (get_or ops i d ∷ [])) ≡ vs ++ map result (ops_of c (take (i + 1) ops))
seen_with c ops i d vs lt =
    append_assoc vs (map result (ops_of c (take i ops))) (map result (ops_of c (get_or ops i d ∷ [])))
    ∙ ap (λ (ws : List Value). vs ++ ws) (sym (map-append result (ops_of c (take i ops)) (ops_of c (get_or ops i d ∷ [])))) ∙ ap (λ (os : List DialectOp). vs ++ map result os) (sym (ops_more c ops i d lt))

pub out_of_order : (c : ContextData) (ops : List OpRef) (i : ℕ) (d : OpRef) (vs : List Value) → i < length ops → (HasUsesAmong (vs ++ map result (ops_of c (take i ops))) (ops_of c (get_or ops i d ∷ [])) → ⊥) → HasUsesAmong vs (ops_of c ops) → ⊥
out_of_order c ops i d vs lt late h =
    late (uses_back vs (ops_of c (take i ops)) (ops_of c (get_or ops i d ∷ []))
    (subst (HasUsesAmong vs) (ops_more c ops i d lt) (uses_front vs (ops_of c (take (i + 1) ops)) (ops_of c (drop (i + 1) ops)) (subst (HasUsesAmong vs) (ops_whole c ops (i + 1)) h))))

-- ---- a function

-- what the blocks say, one by one
pub block_before : (g : Func) (j : ℕ) (c : DialectBlock) → slice_get g.blocks j ≡ Some c → HasUsesAmong (seen_before g j ++ arguments_of c) c.ops → (k : ℕ) (o : DialectOp) → slice_get c.ops k ≡ Some o → All (StandsBefore g j k) (uses_of o)
block_before g j c at h k o at' =
    All-weaker (IsAmong (seen_before g j ++ arguments_of c) c.ops k) (StandsBefore g j k)
    (λ v has. seen_stands g j k c v at (subst (λ (ws : List Value). Has ws v) (append_assoc (seen_before g j) (arguments_of c) (map result (take k c.ops))) has)) (uses_of o) (h k o at')

pub before_block : (g : Func) (j : ℕ) (c : DialectBlock) → slice_get g.blocks j ≡ Some c → IsInOrder g → HasUsesAmong (seen_before g j ++ arguments_of c) c.ops
before_block g j c at h k o at' =
    All-weaker (StandsBefore g j k) (IsAmong (seen_before g j ++ arguments_of c) c.ops k)
    (λ v stands. subst (λ (ws : List Value). Has ws v) (sym (append_assoc (seen_before g j) (arguments_of c) (map result (take k c.ops)))) (stands_seen g j k c v at stands)) (uses_of o) (h j k c o at at')

-- the values of one block more
pub seen_block : (g : Func) (i : ℕ) (c : DialectBlock) → slice_get g.blocks i ≡ Some c → seen_before g i ++ all_values c ≡ seen_before g (i + 1)
seen_block g i c at =
    sym (ap (seen_before g) (let e : i + 1 ≡ suc i = omega arith in e) ∙ ap (flat_map all_values) (take_suc g.blocks i c at) ∙ flat_map-append all_values (take i g.blocks) (c ∷ []) ∙ ap (λ (vs : List Value). seen_before g i ++ vs) (append-nil (all_values c)))

-- what the operations of a block say of the block
pub block_answer : {E : Type 0} (c : DialectBlock) (vs : List Value) (os : List DialectOp) (seen : Seen) (r : Result Bool E) → os ≡ c.ops
    → IfOk r (λ (yes : Bool). MatchBool yes (HasUsesAmong (vs ++ arguments_of c) os × AreSeen seen ((vs ++ arguments_of c) ++ map result os)) (HasUsesAmong (vs ++ arguments_of c) os → ⊥))
    → IfOk r (λ (yes : Bool). MatchBool yes (HasUsesAmong (vs ++ arguments_of c) c.ops × AreSeen seen (vs ++ all_values c)) (HasUsesAmong (vs ++ arguments_of c) c.ops → ⊥))
block_answer c vs os seen (Ok true) are h = (subst (HasUsesAmong (vs ++ arguments_of c)) are h.0, subst (AreSeen seen) (append_assoc vs (arguments_of c) (map result os) ∙ ap (λ (xs : List DialectOp). vs ++ (arguments_of c ++ map result xs)) are) h.1)
block_answer c vs os seen (Ok false) are h = λ k. h (subst (HasUsesAmong (vs ++ arguments_of c)) (sym are) k)
block_answer c vs os seen (Err e) are h = tt
