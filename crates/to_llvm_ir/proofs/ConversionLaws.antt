-- Conversions of single types: what is within a type, what stays given, and conversions one after another.
use Rattle.std.proofs.Common.{◌≡◌, ◌≢◌, ◌<◌, ◌≤◌, ◌⊎◌, inl, inr, ◌∙◌, ℕ, zero, suc, Bool, true, false, nat_eq, eqb-true, eq-eqb, List, [], ◌∷◌, ◌++◌, Option, Some, None, All, length, map, slice_get, slice_set, refl, sym, ap, subst, arith, append_assoc}
use Rattle.std.specs.Prelude.{IfOk, Result, Ok, Err}
use Rattle.std.specs.List.{cons_option}
use Rattle.std.specs.Option.{option_and_then}
use Rattle.std.proofs.lemmas.List.{append-nil}
use Rattle.std.proofs.lemmas.List.Elements.{All-nil, All-cons, All-append}
use Rattle.std.proofs.lemmas.Option.{none-some, same_Some, slice_get_within}
use Rattle.support.specs.Interned.{IsDistinctList}
use Rattle.support.proofs.ListLaws.{slice_get-kept, slice_get-set_same, slice_get-set_other, item_there, distinct_nil, distinct_push}
use Rattle.kinds.specs.Structs.{Struct}
use Rattle.llvm_core.specs.declared.numbers.LLVMType.{LLVMType}
use Rattle.llvm_core.specs.Module.{Module}
use Rattle.llvm_core.specs.declared.structs.StructData.{StructData}
use Rattle.llvm_core.specs.Data.{ModuleData, data_of}
use Rattle.dialect_types.specs.declared.types.TypeHandle.{TypeHandle}
use Rattle.dialect_types.specs.declared.types.StructFields.{StructFields}
use Rattle.dialect_types.specs.declared.types.TypeKind.{TypeKind}
use Rattle.dialect_types.specs.declared.types.TypeKind.TheVariants as K
use Rattle.dialect_types.specs.Trees.{TypeTree, type_at, type_trees, struct_of, AllBelow, HasPartsBelow, IsGrounded, IsOnceNamed, IsStored}
use Rattle.dialect_types.proofs.KeyLemmas.{same_handle}
use Rattle.dialect_types.proofs.TreeLemmas.{tree_of_kind}
use Rattle.to_llvm_ir.specs.Conversion.{Gives, Inside, IsAmong, IsContextFor, IsGiven, IsStruct, IsWithin, Itself, StandsFor, given_at, numbers_in}
use Rattle.to_llvm_ir.specs.Giving.{IsWithinSome, Makes}
use Rattle.to_llvm_ir.specs.Growth.{Grows}
use Rattle.to_llvm_ir.specs.declared.type_conversion.TypeConversionContext.{TypeConversionContext}
use Rattle.to_llvm_ir.proofs.GrowthLaws.{grows_by, grows_then, type_kept}
use Rattle.to_llvm_ir.proofs.KindLaws.{all_there}
use Rattle.to_llvm_ir.proofs.ListLaws.{all_at, all_weaker_at, by_option, distinct_append}

-- ---- parts, and what is within a type

-- what a kind is made of are earlier numbers: a line for each kind that has parts
pub numbers_below : (n : ℕ) (k : TypeKind) → HasPartsBelow n k → AllBelow n (numbers_in k)
numbers_below n (K.Array t count) h = (h, tt)
numbers_below n (K.Vector t count v) h = (h, tt)
numbers_below n (K.Struct fields layout) h = h
numbers_below n (K.Named name None) h = tt
numbers_below n (K.Named name (Some b)) h = h
numbers_below n (K.Func result params variadic) h = h
numbers_below n k h = tt

pub number_below : (n : ℕ) (us : List TypeHandle) (i : ℕ) (u : TypeHandle) → AllBelow n us → slice_get us i ≡ Some u → u.0 < n
number_below n us i u h at = all_at (λ (t : TypeHandle). t.0 < n) us i u (all_there n us h) at

module _ (ks : List TypeKind) (grounded : IsGrounded ks) where
  within_below : (u t : TypeHandle) → IsWithin ks u t → u.0 ≤ t.0
  within_below u t Itself = omega arith
  within_below u t (Inside w v part h) =
      let below = number_below w.0 (numbers_in part.0) part.1 v (numbers_below w.0 part.0 (grounded w.0 part.0 part.2)) part.3 in
      omega (arith, within_below u v h, below)

  -- what is within one of some numbers is no further than these
  pub some_below : (n : ℕ) (us : List TypeHandle) (u : TypeHandle) → AllBelow n us → IsWithinSome ks us u → u.0 < n
  some_below n us u all h = omega (arith, within_below u h.1 h.3, number_below n us h.0 h.1 all h.2)

  -- what is within the parts of a type is another
  pub inside_other : (t : TypeHandle) (k : TypeKind) (u : TypeHandle) → slice_get ks t.0 ≡ Some k → IsWithinSome ks (numbers_in k) u → u.0 < t.0
  inside_other t k u at h = some_below t.0 (numbers_in k) u (numbers_below t.0 k (grounded t.0 k at)) h

  pub within_there : (t u : TypeHandle) → t.0 < length ks → IsWithin ks u t → u.0 < length ks
  within_there t u lt h = omega (arith, within_below u t h)

pub inside_within : (ks : List TypeKind) (t : TypeHandle) (k : TypeKind) (u : TypeHandle) → slice_get ks t.0 ≡ Some k → IsWithinSome ks (numbers_in k) u → IsWithin ks u t
inside_within ks t k u at h = Inside t h.1 (k, h.0, at, h.2) h.3

-- ---- structs

named_kind : (ts : List TypeTree) (k : TypeKind) (s : Struct) → struct_of ts k ≡ Some s → (b : Option StructFields) × (k ≡ K.Named s.name b)
named_kind ts (K.Named name b) s h = (b, ap (λ (r : Struct). K.Named r.name b) (same_Some _ s h))
named_kind ts k s h = cc

-- a store has one struct of a name
pub one_struct : (ks : List TypeKind) → IsOnceNamed ks → (u v : TypeHandle) (s r : Struct) → IsStruct ks u s → IsStruct ks v r → s.name ≡ r.name → u ≡ v
one_struct ks once u v s r a b same =
    let k = named_kind (type_trees ks) a.0 s a.2 in
    let l = named_kind (type_trees ks) b.0 r b.2 in
    same_handle u v (once u.0 v.0 r.name k.0 l.0 (a.1 ∙ ap Some (k.1 ∙ ap (λ (n : List ℕ). K.Named n k.0) same)) (b.1 ∙ ap Some l.1))

-- ---- what stays given

abbrev pub StaysGiven : TypeConversionContext → TypeConversionContext → Type 0
StaysGiven x y = (t : TypeHandle) (l : LLVMType) → given_at x t ≡ Some l → given_at y t ≡ Some l

pub given_there : (c : TypeConversionContext) (t : TypeHandle) → ¬ (given_at c t ≡ None) → (l : LLVMType) × (given_at c t ≡ Some l)
given_there c t h = by_option ((l : LLVMType) × (given_at c t ≡ Some l)) (given_at c t) (λ none. absurd (h none)) (λ l is. (l, is))

pub is_given : (c : TypeConversionContext) (t : TypeHandle) (l : LLVMType) → given_at c t ≡ Some l → ¬ (given_at c t ≡ None)
is_given c t l is none = none-some l (sym none ∙ is)

pub still_given : (x y : TypeConversionContext) → StaysGiven x y → (t : TypeHandle) → ¬ (given_at x t ≡ None) → ¬ (given_at y t ≡ None)
still_given x y stays t h = let l = given_there x t h in is_given y t l.0 (stays t l.0 l.1)

not_before : (x y : TypeConversionContext) → StaysGiven x y → (t : TypeHandle) → given_at y t ≡ None → given_at x t ≡ None
not_before x y stays t none = by_option (given_at x t ≡ None) (given_at x t) (λ e. e) (λ l is. absurd (is_given y t l (stays t l is) none))

-- what was given goes on to stand for its type
given_kept : (ks : List TypeKind) (old new : Module) (x y : TypeConversionContext) (t : TypeHandle) (l : LLVMType) → Grows old new → ((s : Struct) → IsAmong old s → IsAmong new s) → StaysGiven x y → IsGiven ks old x t l → IsGiven ks new y t l
given_kept ks old new x y t l g among stays h =
    let kept = type_kept old new l (type_at (type_trees ks) t) g (h.within, h.is) in
    record {
      there = h.there;
      within = kept.0;
      is = kept.1;
      parts = λ u part. still_given x y stays u (h.parts u part);
      struct = λ s is. among s (h.struct s is);
    }

abbrev with_more : List Struct → ModuleData → ModuleData
with_more ss d = record d { structs = d.structs ++ ss }

among_more : (old new : Module) (more : List Struct) → data_of new ≡ with_more more (data_of old) → (s : Struct) → IsAmong old s → IsAmong new s
among_more old new more is s h = (h.0, ap (λ (d : ModuleData). slice_get d.structs h.0) is ∙ slice_get-kept (data_of old).structs more h.0 s h.1)

-- what is within a type that was given was given too
within_given : (ks : List TypeKind) (m : Module) (c : TypeConversionContext) → IsContextFor ks m c → (u t : TypeHandle) → IsWithin ks u t → ¬ (given_at c t ≡ None) → ¬ (given_at c u ≡ None)
within_given ks m c context u t Itself h = h
within_given ks m c context u t (Inside w v part inner) h =
    let l = given_there c w h in
    within_given ks m c context u v inner ((context w l.0 l.1).parts v part)

pub given_stands : (ks : List TypeKind) (m : Module) (c : TypeConversionContext) (t : TypeHandle) (l : LLVMType) → IsContextFor ks m c → given_at c t ≡ Some l → StandsFor ks m t l
given_stands ks m c t l context at =
    let own = context t l at in
    record {
      within = own.within;
      is = own.is;
      structs = λ u s inner is. let k = given_there c u (within_given ks m c context u t inner (is_given c t l at)) in (context u k.0 k.1).struct s is;
    }

-- ---- conversions that give nothing

-- what is said of each struct that was added
abbrev GivesOne : List TypeKind → (TypeHandle → Type 0) → TypeConversionContext → TypeConversionContext → Struct → Type 0
GivesOne ks W x y s = (u : TypeHandle) × W u × IsStruct ks u s × (given_at x u ≡ None) × ¬ (given_at y u ≡ None)

-- types more at most
pub gives_types : (ks : List TypeKind) (W : TypeHandle → Type 0) (old new : Module) (x y : TypeConversionContext) → IsContextFor ks old x → ((t : TypeHandle) → given_at y t ≡ given_at x t) → Grows old new → new ≡ record old { types = new.types } → data_of new ≡ data_of old
    → Gives ks W old x new y
gives_types ks W old new x y context same grows rest is =
    let data_is : data_of new ≡ with_more [] (data_of old) = is ∙ ap (λ (ss : List Struct). let d : ModuleData = record (data_of old) { structs = ss } in d) (sym (append-nil (data_of old).structs)) in
    let stays : StaysGiven x y = λ t l at. same t ∙ at in
    record {
      more = [];
      «data» = data_is;
      each = All-nil (GivesOne ks W x y);
      once = distinct_nil;
      rest = rest ∙ ap (λ (ss : List StructData). let m : Module = record old { types = new.types; structs = ss } in m) (sym (ap (λ (m : Module). m.structs) rest));
      grows = grows;
      kept = stays;
      only = λ t l at. inl (sym (same t) ∙ at);
      context = λ t l at. given_kept ks old new x y t l grows (among_more old new [] data_is) stays (context t l (sym (same t) ∙ at));
    }

-- ---- one conversion after another

abbrev names_of : List Struct → List (List ℕ)
names_of ss = map (λ (s : Struct). s.name) ss

named_at : (ss : List Struct) (i : ℕ) (n : List ℕ) → slice_get (names_of ss) i ≡ Some n → (s : Struct) × (slice_get ss i ≡ Some s) × (s.name ≡ n)
named_at [] i n h = cc
named_at (s ∷ ss) zero n h = (s, refl, same_Some s.name n h)
named_at (s ∷ ss) (suc i) n h = named_at ss i n h

module _ (ks : List TypeKind) (once : IsOnceNamed ks) (V U W : TypeHandle → Type 0) (first : (u : TypeHandle) → V u → W u) (second : (u : TypeHandle) → U u → W u) (a b c : Module) (x y z : TypeConversionContext) (g : Gives ks V a x b y) (h : Gives ks U b y c z) where
  then_once : IsDistinctList (names_of (g.more ++ h.more))
  then_once = subst IsDistinctList (sym (names g.more)) (distinct_append (names_of g.more) (names_of h.more) g.once h.once apart)
    where
      names : (ss : List Struct) → names_of (ss ++ h.more) ≡ names_of ss ++ names_of h.more
      names [] = refl
      names (s ∷ ss) = ap (λ (ns : List (List ℕ)). s.name ∷ ns) (names ss)

      apart : (i j : ℕ) (n : List ℕ) → slice_get (names_of g.more) i ≡ Some n → slice_get (names_of h.more) j ≡ Some n → ⊥
      apart i j n at also =
          let s = named_at g.more i n at in
          let r = named_at h.more j n also in
          let u = all_at (GivesOne ks V x y) g.more i s.0 g.each s.1 in
          let v = all_at (GivesOne ks U y z) h.more j r.0 h.each r.1 in
          let same = one_struct ks once u.0 v.0 s.0 r.0 u.2 v.2 (s.2 ∙ sym r.2) in
          u.4 (ap (given_at y) same ∙ v.3)

  pub gives_then : Gives ks W a x c z
  gives_then = record {
    more = g.more ++ h.more;
    «data» = h.data ∙ ap (with_more h.more) g.data ∙ ap (λ (ss : List Struct). let d : ModuleData = record (data_of a) { structs = ss } in d) (append_assoc (data_of a).structs g.more h.more);
    each = All-append (GivesOne ks W x z) g.more h.more
        (all_weaker_at (GivesOne ks V x y) (GivesOne ks W x z) g.more g.each (λ i s at p. (p.0, first p.0 p.1, p.2, p.3, still_given y z h.kept p.0 p.4)))
        (all_weaker_at (GivesOne ks U y z) (GivesOne ks W x z) h.more h.each (λ i s at p. (p.0, second p.0 p.1, p.2, not_before x y g.kept p.0 p.3, p.4)));
    once = then_once;
    rest = h.rest ∙ ap (λ (m : Module). let n : Module = record m { types = c.types; structs = c.structs } in n) g.rest;
    grows = grows_then a b c g.grows h.grows;
    kept = λ t l at. h.kept t l (g.kept t l at);
    only = λ t l at. elim (h.only t l at) [
      | inl before ↦ elim (g.only t l before) [ inl old ↦ inl old | inr new ↦ inr (first t new) ]
      | inr new ↦ inr (second t new)
    ];
    context = h.context;
  }

-- what more may be given
pub gives_wider : (ks : List TypeKind) (V W : TypeHandle → Type 0) (a b : Module) (x y : TypeConversionContext) → ((u : TypeHandle) → V u → W u) → Gives ks V a x b y → Gives ks W a x b y
gives_wider ks V W a b x y wider g = record {
  more = g.more;
  «data» = g.data;
  each = all_weaker_at (GivesOne ks V x y) (GivesOne ks W x y) g.more g.each (λ i s at p. (p.0, wider p.0 p.1, p.2, p.3, p.4));
  once = g.once;
  rest = g.rest;
  grows = g.grows;
  kept = g.kept;
  only = λ t l at. elim (g.only t l at) [ inl old ↦ inl old | inr new ↦ inr (wider t new) ];
  context = g.context;
}

-- ---- a number is marked

-- what was given for a number, by what stands at the places
abbrev pub given_in : TypeHandle → List (Option LLVMType) → Option LLVMType
given_in t items = option_and_then (λ (o : Option LLVMType). o) (slice_get items t.0)

-- at a place more nothing was given
pub place_more : (items : List (Option LLVMType)) (t : TypeHandle) → given_in t (items ++ None ∷ []) ≡ given_in t items
place_more items t = by items t.0
  where
    by : (items : List (Option LLVMType)) (n : ℕ) → option_and_then (λ (o : Option LLVMType). o) (slice_get (items ++ None ∷ []) n) ≡ option_and_then (λ (o : Option LLVMType). o) (slice_get items n)
    by [] zero = refl
    by [] (suc n) = refl
    by (o ∷ items) zero = refl
    by (o ∷ items) (suc n) = by items n

-- the type stands at the place of the number
abbrev pub IsMarked : TypeConversionContext → TypeHandle → LLVMType → TypeConversionContext → Type 0
IsMarked y t l z = (t.0 < length y.given.items) × (z.given.items ≡ slice_set y.given.items t.0 (Some l))

module _ (y z : TypeConversionContext) (t : TypeHandle) (l : LLVMType) (mark : IsMarked y t l z) where
  pub marked_here : given_at z t ≡ Some l
  marked_here =
      let o = item_there y.given.items t.0 mark.0 in
      ap (given_in t) mark.1 ∙ ap (option_and_then (λ (o : Option LLVMType). o)) (slice_get-set_same y.given.items t.0 o.0 (Some l) o.1)

  marked_other : (u : TypeHandle) → u.0 ≢ t.0 → given_at z u ≡ given_at y u
  marked_other u other = ap (given_in u) mark.1 ∙ ap (option_and_then (λ (o : Option LLVMType). o)) (slice_get-set_other y.given.items t.0 u.0 (Some l) other)

by_number : (P : Type 0) (u t : TypeHandle) → (u ≡ t → P) → (u.0 ≢ t.0 → P) → P
by_number P u t same other = by (nat_eq u.0 t.0) refl
  where
    by : (b : Bool) → nat_eq u.0 t.0 ≡ b → P
    by true is = same (same_handle u t (eqb-true u.0 t.0 is))
    by false is = other (λ e. let k : true ≡ false = sym (eq-eqb u.0 t.0 e) ∙ is in cc)

own_struct : (o : Option Struct) → IsDistinctList (names_of (cons_option o []))
own_struct None = distinct_nil
own_struct (Some s) = distinct_push [] s.name distinct_nil (λ i at. none-some s.name at)

own_each : (P : Struct → Type 0) (o : Option Struct) → ((s : Struct) → o ≡ Some s → P s) → All P (cons_option o [])
own_each P None h = All-nil P
own_each P (Some s) h = All-cons P s [] (h s refl) (All-nil P)

own_among : (old new : Module) (o : Option Struct) (s : Struct) → data_of new ≡ with_more (cons_option o []) (data_of old) → o ≡ Some s → IsAmong new s
own_among old new o s is here = (
  length (data_of old).structs,
  ap (λ (d : ModuleData). slice_get d.structs (length (data_of old).structs)) is ∙ ap (λ (q : Option Struct). slice_get ((data_of old).structs ++ cons_option q []) (length (data_of old).structs)) here
      ∙ slice_get-last (data_of old).structs s,
)
  where
    slice_get-last : (ss : List Struct) (s : Struct) → slice_get (ss ++ s ∷ []) (length ss) ≡ Some s
    slice_get-last [] s = refl
    slice_get-last (r ∷ ss) s = slice_get-last ss s

module _ (ks : List TypeKind) (stored : IsStored ks) (t : TypeHandle) (k : TypeKind) (at : slice_get ks t.0 ≡ Some k) (l : LLVMType) (old new : Module) (x y z : TypeConversionContext) (none : given_at x t ≡ None) (made : Makes ks k old x new y l) (mark : IsMarked y t l z) where
  not_yet : given_at y t ≡ None
  not_yet = by_option (given_at y t ≡ None) (given_at y t) (λ e. e) (λ m is. elim (made.gives.only t m is) [
    | inl before ↦ absurd (is_given x t m before none)
    | inr inside ↦ absurd (omega (arith, inside_other ks stored.grounded t k t at inside))
  ])

  mark_stays : StaysGiven y z
  mark_stays u m is = by_number (given_at z u ≡ Some m) u t (λ same. absurd (is_given y t m (ap (given_at y) (sym same) ∙ is) not_yet)) (λ other. marked_other y z t l mark u other ∙ is)

  mark_grows : Grows made.middle new
  mark_grows =
      grows_by made.middle new [] [] (ap (λ (m : Module). m.types) made.rest ∙ sym (append-nil made.middle.types)) (ap (λ (m : Module). m.consts) made.rest ∙ sym (append-nil made.middle.consts)) (ap (λ (m : Module). m.functions) made.rest) (ap (λ (m : Module). m.insts) made.rest)

  -- the kind that stands at the number is the one
  same_kind : (j : TypeKind) → slice_get ks t.0 ≡ Some j → j ≡ k
  same_kind j here = same_Some j k (sym here ∙ at)

  mark_given : IsGiven ks new z t l
  mark_given = record {
    there = slice_get_within ks t.0 k at;
    within = made.within;
    is = made.is ∙ sym (tree_of_kind ks stored.grounded t k at);
    parts = λ u part. still_given y z mark_stays u (made.parts part.1 u (ap (λ (j : TypeKind). slice_get (numbers_in j) part.1) (sym (same_kind part.0 part.2)) ∙ part.3));
    struct = λ s is. own_among made.middle new (struct_of (type_trees ks) k) s made.data (ap (struct_of (type_trees ks)) (sym (same_kind is.0 is.1)) ∙ is.2);
  }

  mark_context : IsContextFor ks new z
  mark_context u m is = by_number (IsGiven ks new z u m) u t
      (λ same.
      let type : l ≡ m = same_Some l m (sym (marked_here y z t l mark) ∙ ap (given_at z) (sym same) ∙ is) in
      subst (λ (v : TypeHandle). IsGiven ks new z v m) (sym same) (subst (IsGiven ks new z t) type mark_given))
      (λ other. given_kept ks made.middle new y z u m mark_grows (among_more made.middle new (cons_option (struct_of (type_trees ks) k) []) made.data) mark_stays (made.gives.context u m (sym (marked_other y z t l mark u other) ∙ is)))

  -- the mark alone
  gives_mark : Gives ks (λ u. u ≡ t) made.middle y new z
  gives_mark = record {
    more = cons_option (struct_of (type_trees ks) k) [];
    «data» = made.data;
    each = own_each (GivesOne ks (λ u. u ≡ t) y z) (struct_of (type_trees ks) k) (λ s is. (t, refl, (k, at, is), not_yet, is_given z t l (marked_here y z t l mark)));
    once = own_struct (struct_of (type_trees ks) k);
    rest = made.rest ∙ ap (λ (ts : List _). let m : Module = record made.middle { types = ts; structs = new.structs } in m) (sym (ap (λ (m : Module). m.types) made.rest));
    grows = mark_grows;
    kept = mark_stays;
    only = λ u m is. by_number ((given_at y u ≡ Some m) ⊎ (u ≡ t)) u t (λ same. inr same) (λ other. inl (sym (marked_other y z t l mark u other) ∙ is));
    context = mark_context;
  }

  pub gives_marked : Gives ks (λ u. IsWithin ks u t) old x new z
  gives_marked = gives_then ks stored.once (IsWithinSome ks (numbers_in k)) (λ u. u ≡ t) (λ u. IsWithin ks u t) (λ u inside. inside_within ks t k u at inside) (λ u same. subst (λ (v : TypeHandle). IsWithin ks v t) (sym same) Itself)
      old made.middle new x y z made.gives gives_mark

-- ---- the conversion of one

pub stands_if : {E : Type 0} (r : Result LLVMType E) (ks : List TypeKind) (m : Module) (c : TypeConversionContext) (t : TypeHandle) → IsContextFor ks m c → IfOk r (λ l. given_at c t ≡ Some l) → IfOk r (StandsFor ks m t)
stands_if (Ok l) ks m c t context at = given_stands ks m c t l context at
stands_if (Err e) ks m c t context at = tt
