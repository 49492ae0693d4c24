-- The operations of a block, and a function's blocks, as the tests of well-formedness find them.
use Rattle.std.proofs.Common.{◌≡◌, ℕ, zero, suc, Bool, true, false, List, [], ◌∷◌, ◌++◌, Option, Some, None, All, length, slice_get, ap, sym, subst, ◌∙◌, refl, arith}
use Rattle.std.specs.Prelude.{IsTrue, ◌↔◌, is_none}
use Rattle.std.specs.List.{filter_map, cons_option}
use Rattle.std.specs.Option.{option_map, option_map_or, option_and_then}
use Rattle.std.proofs.lemmas.Option.{slice_get_within, get_or_from_slice_get, none-some, same_Some}
use Rattle.dialect_types.specs.Trees.{TypeTree, type_at, type_trees}
use Rattle.dialect_core.specs.declared.numbers.OpRef.{OpRef}
use Rattle.dialect_core.specs.declared.ops.OpKind.{OpKind}
use Rattle.dialect_core.specs.declared.ops.OpKind.TheVariants as K
use Rattle.dialect_core.specs.declared.ops.OpData.{OpData}
use Rattle.dialect_core.specs.Lists.{Once}
use Rattle.dialect_core.specs.ContextData.{ContextData, IsPlainKindAt, kind_at, is_plain}
use Rattle.dialect_core.specs.Data.{Kind, DialectOp, Func, kind_of, op_of, op_at, type_in}
use Rattle.dialect_core.specs.Form.{EndsInOnly, is_terminator, is_terminator_kind}
use Rattle.dialect_core.specs.WellFormed.{KeepsRules, IsPlainAt, IsPastFirsts, IsWellFormedOp}
use Rattle.dialect_core.specs.Checking.{AreLines, IsLine, IsOpAt, ends_kind, ends_at}

-- ---- all items, by their places

pub all_at : {X : Type 0} (P : X → Type 0) (xs : List X) → All P xs → (k : ℕ) (x : X) → slice_get xs k ≡ Some x → P x
all_at P xs h k x at = subst P (get_or_from_slice_get xs k x x at) (h k x (slice_get_within xs k x at))

all_cons : {X : Type 0} (P : X → Type 0) (x : X) (xs : List X) → P x → All P xs → All P (x ∷ xs)
all_cons P x xs p h zero d l = p
all_cons P x xs p h (suc k) d l = h k d (omega arith)

all_tail : {X : Type 0} (P : X → Type 0) (x : X) (xs : List X) → All P (x ∷ xs) → All P xs
all_tail P x xs h k d l = h (suc k) d (omega arith)

all_none : {X : Type 0} (P : X → Type 0) → All P []
all_none P k d l = absurd (omega arith)

-- ---- an operation that is plain

kind_plain : (ts : List TypeTree) (k : OpKind) → is_plain k ≡ true → (d : Kind) × (kind_of ts k ≡ Some d) × (is_terminator_kind d ≡ ends_kind k)
kind_plain ts K.Module h = absurd (let e : false ≡ true = h in cc)
kind_plain ts K.Func h = absurd (let e : false ≡ true = h in cc)
kind_plain ts (K.Constant v) h = (_, refl, refl)
kind_plain ts (K.Filled fill) h = (_, refl, refl)
kind_plain ts (K.Row op) h = (_, refl, refl)

module _ (c : ContextData) where
  abbrev op : OpRef → Option DialectOp
  op o = op_at (type_trees c.types) c.ops o

  pub kind_op : (o : OpRef) → IsPlainKindAt c.ops o → (d : DialectOp) × (op o ≡ Some d) × (is_terminator d ≡ ends_at c o)
  kind_op o p = by (slice_get c.ops o.0) refl p.1
    where
      by : (x : Option OpData) → slice_get c.ops o.0 ≡ x → option_map (λ (x : OpData). x.kind) x ≡ Some p.0
          → (d : DialectOp) × (option_and_then (op_of (type_trees c.types) o) x ≡ Some d) × (is_terminator d ≡ option_map_or (λ (x : OpData). ends_kind x.kind) x false)
      by None at e = absurd (none-some p.0 e)
      by (Some x) at e =
          let k = kind_plain (type_trees c.types) x.kind (ap is_plain (same_Some x.kind p.0 e) ∙ p.2) in
          (_, ap (option_map _) k.1, k.2)

  pub plain_op : (o : OpRef) → IsPlainAt c o → (d : DialectOp) × (op o ≡ Some d) × (is_terminator d ≡ ends_at c o)
  plain_op o p = kind_op o (p.0, p.1, p.2)

  -- an operation of a kind that is plain
  pub plain_is : (o : OpRef) (kind : OpKind) (t : Bool) → kind_at c.ops o ≡ Some kind → (IsTrue t ↔ ((is_plain kind ≡ true) × KeepsRules c kind)) → IsTrue t ↔ IsPlainAt c o
  plain_is o kind t is h =
      let P : OpKind → Type 0 = λ k. (is_plain k ≡ true) × KeepsRules c k in
      (λ yes. let k = h.0 yes in (kind, is, k.0, k.1), λ w. h.1 (subst P (same_Some w.0 kind (sym w.1 ∙ is)) (w.2, w.3)))

  ends_is : (o : OpRef) (d : DialectOp) → IsPlainAt c o → op o ≡ Some d → is_terminator d ≡ ends_at c o
  ends_is o d plain h = let p = plain_op o plain in ap is_terminator (same_Some d p.0 (sym h ∙ p.1)) ∙ p.2

  -- ---- lines

  module _ (g : Func) where
    -- an operation by its kind
    pub line_is : (o : OpRef) (next : Option OpRef) (kind : OpKind) (t : Bool) → option_map (λ (x : OpData). x.kind) (slice_get c.ops o.0) ≡ Some kind → ends_kind kind ≡ is_none next → IsPlainAt c o → IsPastFirsts c o → (IsTrue t ↔ IsOpAt c g o) → IsTrue t ↔ IsLine c g o next
    line_is o next kind t is ends plain past h = (λ yes. record { plain = plain; fits = h.0 yes; ends = kind_ends (slice_get c.ops o.0) is ∙ ends; past_firsts = past }, λ w. h.1 w.fits)
      where
        kind_ends : (x : Option OpData) → option_map (λ (x : OpData). x.kind) x ≡ Some kind → option_map_or (λ (x : OpData). ends_kind x.kind) x false ≡ ends_kind kind
        kind_ends None e = absurd (none-some kind e)
        kind_ends (Some x) e = ap ends_kind (same_Some x.kind kind e)

    pub lines_plain : (xs : List OpRef) → AreLines c g xs → All (IsPlainAt c) xs
    lines_plain [] h = all_none (IsPlainAt c)
    lines_plain (x ∷ xs) h = λ k d l. all_cons (IsPlainAt c) x xs h.0.plain (lines_plain xs h.1) k d l

    pub lines_past : (xs : List OpRef) → AreLines c g xs → All (IsPastFirsts c) xs
    lines_past [] h = all_none (IsPastFirsts c)
    lines_past (x ∷ xs) h = λ k d l. all_cons (IsPastFirsts c) x xs h.0.past_firsts (lines_past xs h.1) k d l

    with_head : (x : OpRef) (xs : List OpRef) (d : DialectOp) → op x ≡ Some d → filter_map op (x ∷ xs) ≡ d ∷ filter_map op xs
    with_head x xs d is = ap (λ (o : Option DialectOp). cons_option o (filter_map op xs)) is

    pub lines_ops : (xs : List OpRef) → AreLines c g xs → All (IsWellFormedOp (type_in c) g) (filter_map op xs)
    lines_ops [] h = all_none (IsWellFormedOp (type_in c) g)
    lines_ops (x ∷ xs) h =
        let P : List DialectOp → Type 0 = All (IsWellFormedOp (type_in c) g) in
        subst P (sym (with_head x xs h.0.fits.0 h.0.fits.1)) (λ k d l. all_cons (IsWellFormedOp (type_in c) g) h.0.fits.0 (filter_map op xs) h.0.fits.2 (lines_ops xs h.1) k d l)

    pub lines_end : (x : OpRef) (xs : List OpRef) → AreLines c g (x ∷ xs) → EndsInOnly (filter_map op (x ∷ xs))
    lines_end x [] h = record {
      front = [];
      last = h.0.fits.0;
      are = with_head x [] h.0.fits.0 h.0.fits.1;
      ends = ends_is x h.0.fits.0 h.0.plain h.0.fits.1 ∙ h.0.ends;
      before = all_none _;
    }
    lines_end x (y ∷ ys) h =
        let rest = lines_end y ys h.1 in
        record {
          front = h.0.fits.0 ∷ rest.front;
          last = rest.last;
          are = with_head x (y ∷ ys) h.0.fits.0 h.0.fits.1 ∙ ap (λ (os : List DialectOp). h.0.fits.0 ∷ os) rest.are;
          ends = rest.ends;
          before = λ k d l. all_cons (λ (o : DialectOp). is_terminator o ≡ false) h.0.fits.0 rest.front (ends_is x h.0.fits.0 h.0.plain h.0.fits.1 ∙ h.0.ends) rest.before k d l;
        }

    ends_one : (d : DialectOp) → EndsInOnly (d ∷ []) → is_terminator d ≡ true
    ends_one d e = by e.front e.are
      where
        by : (front : List DialectOp) → d ∷ [] ≡ front ++ e.last ∷ [] → is_terminator d ≡ true
        by [] is = let same : d ≡ e.last = cc in ap is_terminator same ∙ e.ends
        by (f ∷ []) is = absurd (let few = ap length is in omega arith)
        by (f ∷ (h ∷ front)) is = absurd (let few = ap length is in omega arith)

    ends_more : (d f : DialectOp) (os : List DialectOp) → EndsInOnly (d ∷ (f ∷ os)) → (is_terminator d ≡ false) × EndsInOnly (f ∷ os)
    ends_more d f os e = by e.front e.are e.before
      where
        by : (front : List DialectOp) → d ∷ (f ∷ os) ≡ front ++ e.last ∷ [] → All (λ (o : DialectOp). is_terminator o ≡ false) front → (is_terminator d ≡ false) × EndsInOnly (f ∷ os)
        by [] is before = absurd (let few = ap length is in omega arith)
        by (h ∷ front) is before =
            let same : d ≡ h = cc in
            let rest : f ∷ os ≡ front ++ e.last ∷ [] = cc in
            (ap is_terminator same ∙ before 0 h (omega arith), record { front = front; last = e.last; are = rest; ends = e.ends; before = λ k d l. all_tail (λ (o : DialectOp). is_terminator o ≡ false) h front before k d l })

    pub lines_from : (x : OpRef) (xs : List OpRef) → All (IsPlainAt c) (x ∷ xs) → All (IsPastFirsts c) (x ∷ xs) → All (IsWellFormedOp (type_in c) g) (filter_map op (x ∷ xs)) → EndsInOnly (filter_map op (x ∷ xs)) → AreLines c g (x ∷ xs)
    lines_from x [] plain past ops ends =
        let p = plain_op x (plain 0 x (omega arith)) in
        let P : List DialectOp → Type 0 = All (IsWellFormedOp (type_in c) g) in
        let mine = subst P (with_head x [] p.0 p.1) ops in
        (record { plain = plain 0 x (omega arith); fits = (p.0, p.1, mine 0 p.0 (omega arith)); ends = sym p.2 ∙ ends_one p.0 (subst EndsInOnly (with_head x [] p.0 p.1) ends); past_firsts = past 0 x (omega arith) }, tt)
    lines_from x (y ∷ ys) plain past ops ends =
        let p = plain_op x (plain 0 x (omega arith)) in
        let q = plain_op y (plain 1 x (omega arith)) in
        let P : List DialectOp → Type 0 = All (IsWellFormedOp (type_in c) g) in
        let mine = subst P (with_head x (y ∷ ys) p.0 p.1) ops in
        let both = with_head x (y ∷ ys) p.0 p.1 ∙ ap (λ (os : List DialectOp). p.0 ∷ os) (with_head y ys q.0 q.1) in
        let split = ends_more p.0 q.0 (filter_map op ys) (subst EndsInOnly both ends) in (
          record { plain = plain 0 x (omega arith); fits = (p.0, p.1, mine 0 p.0 (omega arith)); ends = sym p.2 ∙ split.0; past_firsts = past 0 x (omega arith) },
          lines_from y ys (λ k d l. all_tail (IsPlainAt c) x (y ∷ ys) plain k d l) (λ k d l. all_tail (IsPastFirsts c) x (y ∷ ys) past k d l) (λ k d l. all_tail (IsWellFormedOp (type_in c) g) p.0 (filter_map op (y ∷ ys)) mine k d l) (subst EndsInOnly (sym (with_head y ys q.0 q.1)) split.1),
        )

    no_end : EndsInOnly [] → ⊥
    no_end e = by e.front e.are
      where
        by : (front : List DialectOp) → [] ≡ front ++ e.last ∷ [] → ⊥
        by [] is = let few = ap length is in omega arith
        by (f ∷ front) is = let few = ap length is in omega arith

    -- no operations end in nothing
    pub none_end : (xs : List OpRef) → slice_get xs 0 ≡ None → EndsInOnly (filter_map op xs) → ⊥
    none_end [] is e = no_end e
    none_end (x ∷ xs) is e = none-some x (sym is)

    -- the operations of a block that has some
    pub lines_are : (xs : List OpRef) → ¬ (slice_get xs 0 ≡ None) → AreLines c g xs ↔ (All (IsPlainAt c) xs × All (IsPastFirsts c) xs × All (IsWellFormedOp (type_in c) g) (filter_map op xs) × EndsInOnly (filter_map op xs))
    lines_are [] some = absurd (some refl)
    lines_are (x ∷ xs) some = (λ h. (lines_plain (x ∷ xs) h, lines_past (x ∷ xs) h, lines_ops (x ∷ xs) h, lines_end x xs h), λ h. lines_from x xs h.0 h.1 h.2 h.3)

-- ---- places

-- where each item makes something, that stands at the item's place
pub same_place : {X Y : Type 0} (f : X → Option Y) (xs : List X) → ((k : ℕ) (x : X) → slice_get xs k ≡ Some x → (y : Y) × (f x ≡ Some y)) → (i : ℕ) → slice_get (filter_map f xs) i ≡ option_and_then f (slice_get xs i)
same_place f [] h i = refl
same_place f (x ∷ xs) h zero = let y = h 0 x refl in ap (λ (o : Option _). slice_get (cons_option o (filter_map f xs)) 0) y.1 ∙ sym y.1
same_place f (x ∷ xs) h (suc i) = let y = h 0 x refl in ap (λ (o : Option _). slice_get (cons_option o (filter_map f xs)) (suc i)) y.1 ∙ same_place f xs (λ k z at. h (suc k) z at) i

pub then_some : {X Y : Type 0} (f : X → Option Y) (o : Option X) (y : Y) → option_and_then f o ≡ Some y → (x : X) × (o ≡ Some x) × (f x ≡ Some y)
then_some f None y h = absurd (none-some y h)
then_some f (Some x) y h = (x, refl, h)

-- so numbers stand once where items do
pub numbers_once : {X Y : Type 0} (f : X → Option Y) (number : Y → ℕ) (key : X → ℕ) → ((x : X) (y : Y) → f x ≡ Some y → number y ≡ key x) → ((a b : X) → key a ≡ key b → a ≡ b) → (xs : List X) → ((k : ℕ) (x : X) → slice_get xs k ≡ Some x → (y : Y) × (f x ≡ Some y)) → Once xs
    → (i j : ℕ) (a b : Y) → slice_get (filter_map f xs) i ≡ Some a → slice_get (filter_map f xs) j ≡ Some b → number a ≡ number b → i ≡ j
numbers_once f number key numbered one xs some once i j a b p q same =
    let x = then_some f (slice_get xs i) a (sym (same_place f xs some i) ∙ p) in
    let y = then_some f (slice_get xs j) b (sym (same_place f xs some j) ∙ q) in
    let e : x.0 ≡ y.0 = one x.0 y.0 (sym (numbered x.0 a x.2) ∙ same ∙ numbered y.0 b y.2) in
    once i j x.0 x.1 (y.1 ∙ ap Some (sym e))
