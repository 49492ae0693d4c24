-- The plan of a whole function: what its values stand for.
use Rattle.std.proofs.Common.{ℕ, zero, suc, ◌≡◌, ◌≢◌, ◌<◌, ◌+◌, refl, sym, ap, subst, ◌∙◌, Bool, true, false, not, ◌&&◌, if◌then◌else◌, nat_eq, nat_lt, List, [], ◌∷◌, Option, Some, None, map, length, slice_get, arith, eq-eqb, ne_eqb, eqb-true}
use Rattle.std.proofs.lemmas.Bool.{and_parts, and_from, lt-ltb, ltb-true}
use Rattle.std.proofs.lemmas.Option.{same_Some, none-some}
use Rattle.meaning.proofs.MatchedLaws.{matched_length, matched_at}
use Rattle.support.proofs.ListLaws.{filter_at}
use Rattle.llvm_core.specs.Form as LF
use Rattle.llvm_core.specs.Data as L
use Rattle.llvm_core.specs.Data.{Placed}
use Rattle.dialect_core.specs.declared.numbers.BlockRef.{BlockRef}
use Rattle.dialect_core.specs.declared.ops.Value.{Value}
use Rattle.dialect_core.specs.declared.ops.Value.TheVariants as V
use Rattle.dialect_core.specs.Data.{DialectOp, DialectBlock, Func}
use Rattle.meaning.specs.Terms.{Match, Param, Unset, rename}
use Rattle.meaning.specs.Setting.{Setting}
use Rattle.meaning.specs.Llvm as Llvm
use Rattle.meaning.specs.Llvm.{Key, ParamKey, ResultKey}
use Rattle.meaning.specs.Dialect as Dialect
use Rattle.meaning.specs.Dialect.{same_value}
use Rattle.meaning.specs.Shape.{Plan, IsPlan}
use Rattle.kinds.specs.Types.{params_of}
use Rattle.from_llvm_ir.specs.Imported.{rest_of}
use Rattle.from_llvm_ir.specs.Known.{Known, Stands, blocks_of, result_in, value_of}
use Rattle.from_llvm_ir.specs.Converted.{IsRow}
use Rattle.from_llvm_ir.proofs.ListLaws.{other_there}
use Rattle.from_llvm_ir.proofs.PlaceLaws.{flat_from}
use Rattle.from_llvm_ir.proofs.OrderLaws.{ordered_first}
use Rattle.from_llvm_ir.proofs.PassLaws.{count_there, there_edge, target_there, phi_is, phi_form}
use Rattle.from_llvm_ir.proofs.Whole.{IsWhole, Head, the_func, beside_from, target_at, source_block_apart, entry, listed_length}
use Rattle.from_llvm_ir.proofs.ExportLaws.{first_item}
use Rattle.from_llvm_ir.proofs.HoistedLaws.{rows_of, closed, not_among}

-- the operand that a key is
abbrev pub operand_of_key : Key → L.Operand
operand_of_key (ParamKey f i) = L.Parameter f i
operand_of_key (ResultKey n) = L.Result n

module _ (n : Head) (k : Known) (cs : List DialectBlock) (h : IsWhole k cs) where
  abbrev g : L.Function
  g = k.frame.source

  abbrev bs : List L.Block
  bs = blocks_of k.frame

  abbrev G : Func
  G = the_func n k cs

  abbrev entry_ref : BlockRef
  entry_ref = record { 0 = k.frame.base }

  abbrev pub value : Key → Option Value
  value (ParamKey f i) = if nat_eq f g.number && nat_lt i (length g.params) then Some (V.Argument entry_ref i) else None
  value (ResultKey m) = result_in k m

  -- with the rows of the constants as the dialect's module tells them
  abbrev pub plan : Setting → Plan
  plan made = record { value = value; hoisted = rows_of made G k.hoisted }

  -- what has a value stands for it, and what stands for it has it
  pub value_stands : (q : Key) (w : Value) → value q ≡ Some w → Stands k (operand_of_key q) w
  value_stands (ParamKey f i) w e = by (nat_eq f g.number && nat_lt i (length g.params)) refl e
    where
      by : (t : Bool) → (nat_eq f g.number && nat_lt i (length g.params)) ≡ t → (if t then Some (V.Argument entry_ref i) else None) ≡ Some w → (f ≡ g.number) × (i < length g.params) × (w ≡ V.Argument entry_ref i)
      by true both e = let p = and_parts _ _ both in (eqb-true f g.number p.0, ltb-true i (length g.params) p.1, sym (same_Some (V.Argument entry_ref i) w e))
      by false apart e = absurd (none-some w e)
  value_stands (ResultKey m) w e = e

  pub stands_value : (q : Key) (w : Value) → Stands k (operand_of_key q) w → value q ≡ Some w
  stands_value (ParamKey f i) w st = rw (and_from (nat_eq f g.number) (nat_lt i (length g.params)) (eq-eqb f g.number st.0) (lt-ltb i (length g.params) st.1)) (ap Some (sym st.2))
  stands_value (ResultKey m) w st = st

  -- ---- what stands for a result

  -- no phi stands in the first block, where no edge leads
  no_first_phi : (b : L.Block) (y : ℕ) (p : Placed) → slice_get bs 0 ≡ Some b → (x : ℕ) → slice_get b.instructions x ≡ Some p → LF.is_phi p ≡ true → ⊥
  no_first_phi b y p at x here phi =
      let at' = ordered_first k.frame.order g.blocks h.order b at in
      let es = phi_is p phi in
      let form = phi_form g h.form 0 x b p es.0 at' here es.1 in
      let e = first_item es.0 form.1.some in
      let lt = count_there e.0.1 (map (λ (z : L.Operand × ℕ). z.1) es.0) 0 (first_mapped es.0 e.0 e.1) in
      let f = there_edge g h.form e.0.1 b.number (subst (λ (z : ℕ). 0 < z) (form.1.counts e.0.1) lt) in
      let t = target_there g h.form f.place f.inner f.which f.block f.inst b.number f.at f.here f.leads in
      let no : 0 ≡ suc t.0 = source_block_apart n k cs h 0 (suc t.0) b t.1 at' t.2 (sym t.3) in
      absurd (omega (arith, no))
    where
      first_mapped : (xs : List (L.Operand × ℕ)) (x : L.Operand × ℕ) → slice_get xs 0 ≡ Some x → slice_get (map (λ (z : L.Operand × ℕ). z.1) xs) 0 ≡ Some x.1
      first_mapped [] x e = absurd (none-some x e)
      first_mapped (z ∷ xs) x e = ap (λ (u : L.Operand × ℕ). Some u.1) (same_Some z x e)

  -- the result of an operation, or an argument of a block that is not the first
  abbrev IsLater : Value → Type 0
  IsLater (V.Result r) = Unit {0}
  IsLater (V.Argument b i) = ¬ (b.0 ≡ k.frame.base)

  later_at : (t : Bool) (p : Placed) (w : Value) (j x : ℕ) (b : L.Block) → LF.is_phi p ≡ t → slice_get bs j ≡ Some b → slice_get b.instructions x ≡ Some p → result_in k p.number ≡ Some w → IsLater w
  later_at true p w zero x b phi at here is = absurd (no_first_phi b 0 p at x here phi)
  later_at true p w (suc j) x b phi at here is =
      let c = target_at n k cs h (suc j) b at in
      let y = filter_at LF.is_phi b.instructions x p here phi in
      let same : V.Argument (record { 0 = c.0.number }) y.0 ≡ w = same_Some _ w (sym (c.2.phis y.0 p y.1) ∙ is) in
      let number = c.2.head.number in
      subst IsLater same (λ e. omega (arith, e, number))
  later_at false p w j x b phi at here is =
      let c = target_at n k cs h j b at in
      let z = filter_at (λ (q : Placed). not (LF.is_phi q)) b.instructions x p here (ap not phi) in
      let o = other_there (rest_of b) c.2.rest z.0 p (matched_length (IsRow k b) (rest_of b) c.2.rest c.2.rows) z.1 in
      let row = matched_at (IsRow k b) (rest_of b) c.2.rest c.2.rows z.0 p o.0 z.1 o.1 in
      subst IsLater (same_Some (value_of o.0) w (sym row.stands ∙ is)) tt

  later : (m : ℕ) (w : Value) → result_in k m ≡ Some w → IsLater w
  later m w st =
      let b = beside_from (λ (p : Placed). nat_eq p.number m) k.sources k.done w st in
      let f = flat_from (λ (x : L.Block). x.instructions) bs b.place b.item (ap (λ (ps : List Placed). slice_get ps b.place) (sym h.sources) ∙ b.here) in
      let number : b.item.number ≡ m = eqb-true b.item.number m b.passes in
      later_at (LF.is_phi b.item) b.item w f.place f.inner f.item refl f.here f.at (ap (result_in k) number ∙ st)

  -- ---- it is a plan

  one_result : (j m : ℕ) (w : Value) → result_in k j ≡ Some w → result_in k m ≡ Some w → j ≡ m
  one_result j m w p q =
      let a = beside_from (λ (x : Placed). nat_eq x.number j) k.sources k.done w p in
      let b = beside_from (λ (x : Placed). nat_eq x.number m) k.sources k.done w q in
      let place = h.apart a.place b.place w a.there b.there in
      let item : a.item ≡ b.item = same_Some a.item b.item (sym a.here ∙ ap (slice_get k.sources) place ∙ b.here) in
      sym (eqb-true a.item.number j a.passes) ∙ ap (λ (x : Placed). x.number) item ∙ eqb-true b.item.number m b.passes

  param_apart : (w : Value) (i : ℕ) → w ≡ V.Argument entry_ref i → IsLater w → ⊥
  param_apart w i e l = (subst IsLater e l) refl

  one_key : (j q : Key) (w : Value) → Stands k (operand_of_key j) w → Stands k (operand_of_key q) w → j ≡ q
  one_key (ParamKey f i) (ParamKey e j) w p q = cc (p.0, q.0, p.2, q.2)
  one_key (ParamKey f i) (ResultKey m) w p q = absurd (param_apart w i p.2 (later m w q))
  one_key (ResultKey m) (ParamKey f i) w p q = absurd (param_apart w i q.2 (later m w p))
  one_key (ResultKey j) (ResultKey m) w p q = ap ResultKey (one_result j m w p q)

  none_hoisted : (q : Key) (w : Value) → Stands k (operand_of_key q) w → (i : ℕ) (o : DialectOp) → slice_get k.hoisted i ≡ Some o → same_value (value_of o) w ≡ false
  none_hoisted (ParamKey f j) w st i o at = rw st.2 refl
  none_hoisted (ResultKey m) w st i o at =
      let b = beside_from (λ (p : Placed). nat_eq p.number m) k.sources k.done w st in
      by w (h.behind i b.place o w at b.there)
    where
      by : (v : Value) → ¬ (v ≡ value_of o) → same_value (value_of o) v ≡ false
      by (V.Result r) differs = ne_eqb o.number r.0 (λ e. differs (ap (λ (x : ℕ). V.Result (record { 0 = x })) (sym e)))
      by (V.Argument b i) differs = refl

  pub is_plan : (made : Setting) → IsPlan (plan made)
  is_plan made = record {
    closed = closed made G [] k.constants k.hoisted h.made;
    one_to_one = λ j q w a b. one_key j q w (value_stands j w a) (value_stands q w b);
    apart = λ q w a. not_among made G k.hoisted w (none_hoisted q w (value_stands q w a));
  }

  -- ---- the start

  arity_is : Llvm.arity g.type ≡ length g.params
  arity_is = ap Llvm.arity h.form.type ∙ sym h.form.params

  args_count : length (entry n k cs h).0.args ≡ length g.params
  args_count = ap (λ (ts : List _). length ts) ((entry n k cs h).2.head.args ∙ ap params_of h.form.type) ∙ listed_length h.form.types ∙ sym h.form.params

  started_at : (xs : List DialectBlock) (c : DialectBlock) (v : Value) → slice_get xs 0 ≡ Some c → Dialect.start xs v ≡ Dialect.start (c ∷ []) v
  started_at [] c v e = absurd (none-some c e)
  started_at (x ∷ xs) c (V.Result r) e = refl
  started_at (x ∷ xs) c (V.Argument b i) e = ap (λ (y : DialectBlock). if nat_eq b.0 y.number && nat_lt i (length y.args) then Param i else Unset) (same_Some x c e)

  unset : (v : Value) → IsLater v → Dialect.start ((entry n k cs h).0 ∷ []) v ≡ Unset
  unset (V.Result r) l = refl
  unset (V.Argument b i) l =
      let e = entry n k cs h in
      let ne : b.0 ≢ e.0.number = λ same. l (same ∙ e.2.head.number ∙ (let z : k.frame.base + 0 ≡ k.frame.base = omega arith in z)) in
      rw (ne_eqb b.0 e.0.number ne) refl

  pub starts : (match : Match) (q : Key) (w : Value) → value q ≡ Some w → rename match (Llvm.start g q) ≡ Dialect.start cs w
  starts match (ParamKey f i) w a =
      let st = value_stands (ParamKey f i) w a in
      let e = entry n k cs h in
      let number : k.frame.base ≡ e.0.number = (let z = e.2.head.number in omega (arith, z)) in
      let left : Llvm.start g (ParamKey f i) ≡ Param i = rw (and_from (nat_eq f g.number) (nat_lt i (Llvm.arity g.type)) (eq-eqb f g.number st.0) (lt-ltb i (Llvm.arity g.type) (omega (arith, st.1, arity_is)))) refl in
      let right : Dialect.start (e.0 ∷ []) (V.Argument entry_ref i) ≡ Param i = rw (and_from (nat_eq k.frame.base e.0.number) (nat_lt i (length e.0.args)) (eq-eqb k.frame.base e.0.number number) (lt-ltb i (length e.0.args) (omega (arith, st.1, args_count)))) refl in
      ap (rename match) left ∙ sym right ∙ sym (started_at cs e.0 (V.Argument entry_ref i) e.1) ∙ sym (ap (Dialect.start cs) st.2)
  starts match (ResultKey m) w a = sym (started_at cs (entry n k cs h).0 w (entry n k cs h).1 ∙ unset w (later m w a))
