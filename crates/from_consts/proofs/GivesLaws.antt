-- How what conversions give is put together, by what holds of the types that were asked for.
use Rattle.std.proofs.Common.{ℕ, ◌≡◌, ◌<◌, ◌≤◌, ◌⊎◌, inl, inr, ◌∙◌, refl, sym, ap, subst, List, [], ◌∷◌, ◌++◌, Some, None, length, slice_set, arith, append_assoc, length-append}
use Rattle.std.specs.Prelude as R
use Rattle.std.proofs.lemmas.List.{append-nil}
use Rattle.std.proofs.lemmas.List.Elements.{All-append, All-nil, All-weaker}
use Rattle.support.specs.Interned.{Interned}
use Rattle.support.proofs.InternedLaws.{interned_kept}
use Rattle.kinds.specs.Structs.{Struct, renamed}
use Rattle.llvm_core.specs.declared.numbers.LLVMType.{LLVMType}
use Rattle.llvm_core.specs.Module.{Module}
use Rattle.llvm_core.specs.Data as L
use Rattle.dialect_types.specs.declared.types.TypeHandle.{TypeHandle}
use Rattle.dialect_types.specs.declared.types.TypeKind.{TypeKind}
use Rattle.dialect_types.specs.Legalised.{Named, Gave, GoesOn, IsLegalised}
use Rattle.dialect_types.specs.Trees.{structs_of, type_at, type_trees}
use Rattle.dialect_core.specs.ContextData.{ContextData}
use Rattle.from_consts.specs.declared.const_context.ConstContext.{ConstContext}
use Rattle.from_consts.specs.Types.{MoreTypes, AddsTypes}
use Rattle.from_consts.specs.Parts.{HasNamed}
use Rattle.from_consts.specs.Names.{called, IsCalled, IsConverted}
use Rattle.from_consts.specs.Given.{given_at, AddsStructs, Gives, IsContextFor, IsGiven, IsMade, IsReady}
use Rattle.from_consts.proofs.NameLaws.{converted_kept}
use Rattle.from_consts.proofs.GrowthLaws.{context_kept, given_kept, not_none, set_cases, set_other, set_still}

-- ---- types of a context

pub more_none : (ks : List TypeKind) → MoreTypes ks ks
more_none ks = record { still = λ i k at. at; longer = omega arith; kept = λ t small. refl }

pub more_then : (a b c : List TypeKind) → MoreTypes a b → MoreTypes b c → MoreTypes a c
more_then a b c x y = record {
  still = λ i k at. y.still i k (x.still i k at);
  longer = omega (arith, x.longer, y.longer);
  kept = λ t small. y.kept t (omega (arith, small, x.longer)) ∙ x.kept t small;
}

pub adds_none : (c : ContextData) → AddsTypes c c
adds_none c = record { rest = refl; more = more_none c.types }

pub adds_then : (a b c : ContextData) → AddsTypes a b → AddsTypes b c → AddsTypes a c
adds_then a b c x y = record {
  rest = y.rest ∙ ap (λ (d : ContextData). record d { types = c.types }) x.rest;
  more = more_then a.types b.types c.types x.more y.more;
}

interned_longer : (old new : List TypeKind) (k : TypeKind) (n : ℕ) → Interned old new k n → length old ≤ length new
interned_longer old new k n h = elim h.only [
  | inl same ↦ omega (arith, ap length same)
  | inr more ↦ omega (arith, ap length more, length-append old (k ∷ []))
]

-- a type was asked for, of the types that were lent
pub adds_interned : (a b : ContextData) (lent : List TypeKind) (k : TypeKind) (n : ℕ) → b ≡ record a { types = b.types } → lent ≡ a.types → Interned lent b.types k n → ((t : TypeHandle) → t.0 < length lent → type_at (type_trees b.types) t ≡ type_at (type_trees lent) t) → AddsTypes a b
adds_interned a b lent k n rest same h kept = subst (λ (ts : List TypeKind). AddsTypes (record a { types = ts }) b) same (record {
  rest = rest;
  more = record { still = λ i x at. interned_kept lent b.types k n h i x at; longer = interned_longer lent b.types k n h; kept = kept };
})

-- ---- names that go on

pub goes_none : (x : List Named) → GoesOn x x
goes_none x = ([], sym (append-nil x))

pub goes_same : (x y : List Named) → y ≡ x → GoesOn x y
goes_same x y same = ([], same ∙ sym (append-nil x))

pub goes_then : (x y z : List Named) → GoesOn x y → GoesOn y z → GoesOn x z
goes_then x y z (more, is) (later, also) = (more ++ later, also ∙ ap (λ (ns : List Named). ns ++ later) is ∙ append_assoc x more later)

-- ---- conversions

-- what the one holds of, the other holds of
abbrev pub Implies : (V W : LLVMType → Type 0) → Type 0
Implies V W = (t : LLVMType) → V t → W t

pub named_as : (m : Module) (V W : LLVMType → Type 0) (n : List ℕ) → Implies V W → HasNamed m V n → HasNamed m W n
named_as m V W n to (t, held, named) = (t, to t held, named)

module _ (m : Module) where
  -- a struct that is added
  abbrev IsAdded : (LLVMType → Type 0) → List Named → Struct → Type 0
  IsAdded W given s = (n : List ℕ) × HasNamed m W n × IsConverted (L.structs_of m) given n s

  pub added_none : (W : LLVMType → Type 0) (given : List Named) (old new : List Struct) → new ≡ old → AddsStructs m W given old new
  added_none W given old new same = ([], same ∙ sym (append-nil old), All-nil (IsAdded W given))

  pub added_as : (V W : LLVMType → Type 0) (x y : List Named) (old new : List Struct) → Implies V W → GoesOn x y → AddsStructs m V x old new → AddsStructs m W y old new
  added_as V W x y old new to goes (more, is, each) =
      (more, is, All-weaker (IsAdded V x) (IsAdded W y) (λ s (n, held, made). (n, named_as m V W n to held, converted_kept x y (L.structs_of m) n s goes made)) more each)

  pub added_then : (W : LLVMType → Type 0) (given : List Named) (a b c : List Struct) → AddsStructs m W given a b → AddsStructs m W given b c → AddsStructs m W given a c
  added_then W given a b c (more, is, each) (later, also, rest) = (more ++ later, also ∙ ap (λ (ss : List Struct). ss ++ later) is ∙ append_assoc a more later, All-append (IsAdded W given) more later each rest)

  pub gives_none : (W : LLVMType → Type 0) (a : ContextData) (x : ConstContext) → IsContextFor m a.types x → Gives m W a x a x
  gives_none W a x context = record {
    types = adds_none a;
    structs = added_none W x.names (structs_of a.types) (structs_of a.types) refl;
    names = goes_none x.names;
    met = λ n i gave. inl gave;
    kept = λ t h at. at;
    only = λ t h at. inl at;
    context = context;
  }

  pub gives_as : (V W : LLVMType → Type 0) (a b : ContextData) (x y : ConstContext) → Implies V W → Gives m V a x b y → Gives m W a x b y
  gives_as V W a b x y to g = record {
    types = g.types;
    structs = added_as V W y.names y.names (structs_of a.types) (structs_of b.types) to (goes_none y.names) g.structs;
    names = g.names;
    met = λ n i gave. elim (g.met n i gave) [ inl was ↦ inl was | inr new ↦ inr (named_as m V W n to new) ];
    kept = g.kept;
    only = λ t h at. elim (g.only t h at) [ inl was ↦ inl was | inr new ↦ inr (to t new) ];
    context = g.context;
  }

  pub gives_then : (W : LLVMType → Type 0) (a b c : ContextData) (x y z : ConstContext) → Gives m W a x b y → Gives m W b y c z → Gives m W a x c z
  gives_then W a b c x y z g h = record {
    types = adds_then a b c g.types h.types;
    structs = added_then W z.names (structs_of a.types) (structs_of b.types) (structs_of c.types) (added_as W W y.names z.names (structs_of a.types) (structs_of b.types) (λ t held. held) h.names g.structs) h.structs;
    names = goes_then x.names y.names z.names g.names h.names;
    met = λ n i gave. elim (h.met n i gave) [ inl was ↦ g.met n i was | inr new ↦ inr new ];
    kept = λ t k at. h.kept t k (g.kept t k at);
    only = λ t k at. elim (h.only t k at) [ inl was ↦ g.only t k was | inr new ↦ inr new ];
    context = h.context;
  }

  -- one after the other, each within what is asked for
  pub gives_both : (V U W : LLVMType → Type 0) (a b c : ContextData) (x y z : ConstContext) → Implies V W → Implies U W → Gives m V a x b y → Gives m U b y c z → Gives m W a x c z
  gives_both V U W a b c x y z first second g h = gives_then W a b c x y z (gives_as V W a b x y first g) (gives_as U W b c y z second h)

  -- the context has one type more, that is no struct, or one struct more
  pub gives_type : (W : LLVMType → Type 0) (a b : ContextData) (x : ConstContext) → AddsTypes a b → AddsStructs m W x.names (structs_of a.types) (structs_of b.types) → IsContextFor m a.types x → Gives m W a x b x
  gives_type W a b x types structs context = record {
    types = types;
    structs = structs;
    names = goes_none x.names;
    met = λ n i gave. inl gave;
    kept = λ t h at. at;
    only = λ t h at. inl at;
    context = record {
      legal = context.legal;
      ready = context.ready;
      each = λ t h at. given_kept m a.types b.types structs.0 x x types.more structs.1 (record { names = goes_none x.names; kept = λ u k here. here }) t h (context.each t h at);
    };
  }

  -- places are made and nothing is given
  pub context_same : (ks : List TypeKind) (x y : ConstContext) → y.names ≡ x.names → ((t : LLVMType) → given_at y t ≡ given_at x t) → ((y.given.items ≡ []) ⊎ IsReady m y) → IsContextFor m ks x → IsContextFor m ks y
  context_same ks x y names same ready context = context_kept m ks ks [] x y (more_none ks) (sym (append-nil (structs_of ks))) (goes_same x.names y.names names) (subst IsLegalised (sym names) context.legal) same ready context

  -- more names were met
  pub context_named : (ks : List TypeKind) (x : ConstContext) (ns : List Named) → GoesOn x.names ns → IsLegalised ns → IsContextFor m ks x → IsContextFor m ks (record x { names = ns })
  context_named ks x ns goes legal context = context_kept m ks ks [] x (record x { names = ns }) (more_none ks) (sym (append-nil (structs_of ks))) goes legal (λ t. refl) (elim context.ready [
    | inl none ↦ inl none
    | inr ready ↦ inr (record { count = ready.count; table = ready.table })
  ]) context

  pub gives_same : (W : LLVMType → Type 0) (a : ContextData) (x y : ConstContext) → y.names ≡ x.names → ((t : LLVMType) → given_at y t ≡ given_at x t) → ((y.given.items ≡ []) ⊎ IsReady m y) → IsContextFor m a.types x → Gives m W a x a y
  gives_same W a x y names same ready context = record {
    types = adds_none a;
    structs = added_none W y.names (structs_of a.types) (structs_of a.types) refl;
    names = goes_same x.names y.names names;
    met = λ n i gave. inl (subst (λ (ns : List Named). Gave ns n i) names gave);
    kept = λ t h at. same t ∙ at;
    only = λ t h at. inl (sym (same t) ∙ at);
    context = context_same a.types x y names same ready context;
  }

  -- a number is marked that had no type, with the type that stands for it
  module _ (W : LLVMType → Type 0) (a b : ContextData) (x y z : ConstContext) (t : LLVMType) (h : TypeHandle) where
    pub gives_marked : given_at x t ≡ None → z.names ≡ y.names → z.table ≡ y.table → z.given.items ≡ slice_set y.given.items t.0 (Some h) → t.0 < length y.given.items → IsReady m z → W t
        → IsGiven m b.types y t h → Gives m W a x b y → Gives m W a x b z
    gives_marked unknown names table set within ready held is g = record {
      types = g.types;
      structs = subst (λ (ns : List Named). AddsStructs m W ns (structs_of a.types) (structs_of b.types)) (sym names) g.structs;
      names = subst (GoesOn x.names) (sym names) g.names;
      met = λ n i gave. g.met n i (subst (λ (ns : List Named). Gave ns n i) names gave);
      kept = λ u k at. marked_kept u k at (g.kept u k at);
      only = λ u k at. elim (set_cases y z t h set within u k at) [
        | inl new ↦ inr (subst W (sym new.0) held)
        | inr old ↦ g.only u k old
      ];
      context = record {
        legal = subst IsLegalised (sym names) g.context.legal;
        ready = inr ready;
        each = λ u k at. elim (set_cases y z t h set within u k at) [
          | inl new ↦ subst (λ (v : LLVMType). IsGiven m b.types z v k) (sym new.0) (subst (IsGiven m b.types z t) (sym new.1) (marked t h is))
          | inr old ↦ marked u k (g.context.each u k old)
        ];
      };
    }
      where
        marked_kept : (u : LLVMType) (k : TypeHandle) → given_at x u ≡ Some k → given_at y u ≡ Some k → given_at z u ≡ Some k
        marked_kept u k was at = set_other y z t h set within u (λ same. let e : given_at x t ≡ Some k = ap (λ (n : ℕ). let v : LLVMType = record { 0 = n } in given_at x v) (sym same) ∙ was in not_none (given_at x t) k e unknown) ∙ at

        marked : (u : LLVMType) (k : TypeHandle) → IsGiven m b.types y u k → IsGiven m b.types z u k
        marked u k was = record {
          within = was.within;
          is = subst (λ (ns : List Named). type_at (type_trees b.types) k ≡ renamed (called ns) (L.type_at (L.trees_of m).types u)) (sym names) was.is;
          known = subst (λ (ns : List Named). IsCalled ns (L.type_at (L.trees_of m).types u)) (sym names) was.known;
          parts = λ v part. set_still y z t h set within v (was.parts v part);
          struct = λ n named. subst (λ (ns : List Named). IsMade m ns (structs_of b.types) n) (sym names) (was.struct n named);
          own = was.own;
        }

-- ---- results

-- what holds of the answer, by what does
pub if_ok_as : {T E : Type 0} (r : R.Result T E) (P Q : T → Type 0) → ((x : T) → P x → Q x) → R.IfOk r P → R.IfOk r Q
if_ok_as (R.Ok x) P Q h p = h x p
if_ok_as (R.Err e) P Q h p = tt

-- what holds where there is one
pub if_ok_on : {T E : Type 0} (r : R.Result T E) (P : T → Type 0) (Q : Type 0) → ((x : T) → P x → Q) → R.IfOk r P → R.OnOk r Q
if_ok_on (R.Ok x) P Q h p = h x p
if_ok_on (R.Err e) P Q h p = tt
