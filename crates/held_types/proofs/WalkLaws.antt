-- How walks are put together: by what holds of the types that are asked about, whichever way that is said.
use Rattle.std.proofs.Common.{ℕ, ◌≡◌, ◌⊎◌, inl, inr, ◌∙◌, refl, sym, ap, subst, Bool, true, List, [], ◌∷◌, ◌++◌, Some, length, slice_get, slice_set, arith}
use Rattle.std.specs.Prelude as R
use Rattle.std.specs.Result.{IfErr, IsErrAnd}
use Rattle.std.proofs.lemmas.Result.{err_from_is_err_and}
use Rattle.std.proofs.lemmas.Option.{slice_get_within}
use Rattle.support.proofs.ListLaws.{slice_get-kept, slice_get-push, slice_get-push_cases, slice_get-set_cases, length-slice_set}
use Rattle.kinds.specs.Types.{TypeTree, RefusedType, NamedType}
use Rattle.llvm_core.specs.declared.numbers.LLVMType.{LLVMType}
use Rattle.llvm_core.specs.declared.numbers.LLVMStruct.{LLVMStruct}
use Rattle.llvm_core.specs.Module.{Module}
use Rattle.llvm_core.specs.Data.{data_of}
use Rattle.held_types.specs.declared.held_structs.HeldErr.{HeldErr}
use Rattle.held_types.specs.declared.held_structs.HeldErr.TheVariants as E
use Rattle.held_types.specs.declared.walk.Walk.{Walk}
use Rattle.held_types.specs.Held.{IsStructOf}
use Rattle.held_types.specs.Walk.{IsIn, IsInFields, IsListed, AreBehind, AreMet, Walked, IsCause}

-- what is asked about: types that the dialect lacks, and structs with a name
abbrev pub IsAsked : TypeTree → Type 0
IsAsked (RefusedType of) = Unit {0}
IsAsked (NamedType name) = Unit {0}
IsAsked _ = ⊥

-- what the one holds of of these, the other holds of
abbrev pub IsWithin : (W V : TypeTree → Type 0) → Type 0
IsWithin W V = (u : TypeTree) → IsAsked u → W u → V u

-- what it holds of of these, one of two holds of
abbrev pub IsSplit : (W V U : TypeTree → Type 0) → Type 0
IsSplit W V U = (u : TypeTree) → IsAsked u → W u → V u ⊎ U u

abbrev type_of_number : ℕ → LLVMType
type_of_number n = record { 0 = n }

-- ---- results

pub on_ok_as : {T E P Q : Type 0} (r : R.Result T E) → (P → Q) → R.OnOk r P → R.OnOk r Q
on_ok_as (R.Ok x) h p = h p
on_ok_as (R.Err e) h p = tt

pub if_err_as : {T E : Type 0} (r : R.Result T E) (P Q : E → Type 0) → ((e : E) → P e → Q e) → IfErr r P → IfErr r Q
if_err_as (R.Ok x) P Q h p = tt
if_err_as (R.Err e) P Q h p = h e p

-- the error that a `?` passes on
pub passed_on : {T E : Type 0} (r : R.Result T E) (e : E) (Q : E → Type 0) → IsErrAnd r (λ x. x ≡ e) → Q e → IfErr r Q
passed_on r e Q h q = let p = err_from_is_err_and r h in let at : R.Err e ≡ r = ap (λ x. R.Err x) (sym p.2) ∙ sym p.1 in subst (λ x. IfErr x Q) at q

pub cause_as : (W V : TypeTree → Type 0) → IsWithin W V → (e : HeldErr) → IsCause W e → IsCause V e
cause_as W V to (E.Lacks of) c = to (RefusedType of) tt c
cause_as W V to (E.TooWide width) c = c
cause_as W V to E.ScalableSplat c = c
cause_as W V to E.NoMemory c = tt

pub err_as : {T : Type 0} (W V : TypeTree → Type 0) (r : R.Result T HeldErr) → IsWithin W V → IfErr r (IsCause W) → IfErr r (IsCause V)
err_as W V r to = if_err_as r (IsCause W) (IsCause V) (cause_as W V to)

module _ (m : Module) where
  -- ---- what is met

  pub listed_more : (ns more : List LLVMStruct) → ((i : ℕ) (n : LLVMStruct) → slice_get ns i ≡ Some n → slice_get more i ≡ Some n) → (name : List ℕ) → IsListed m ns name → IsListed m more name
  listed_more ns more kept name (i, n, at, is) = (i, n, kept i n at, is)

  pub met_more : (W : TypeTree → Type 0) (ns more : List LLVMStruct) → ((i : ℕ) (n : LLVMStruct) → slice_get ns i ≡ Some n → slice_get more i ≡ Some n) → AreMet m W ns → AreMet m W more
  met_more W ns more kept h = record { none = h.none; named = λ name w. listed_more ns more kept name (h.named name w) }

  pub met_as : (W V : TypeTree → Type 0) (ns : List LLVMStruct) → IsWithin V W → AreMet m W ns → AreMet m V ns
  met_as W V ns from h = record { none = λ of v. h.none of (from (RefusedType of) tt v); named = λ name v. h.named name (from (NamedType name) tt v) }

  -- ---- what stands behind what

  -- a struct that is listed behind what its fields hold
  pub behind_pushed : (ns : List LLVMStruct) (s : LLVMStruct) → AreBehind m ns → ((name : List ℕ) → IsInFields m s (NamedType name) → IsListed m ns name) → AreBehind m (ns ++ s ∷ [])
  behind_pushed ns s behind fields i n at name w = elim (slice_get-push_cases ns s i n at) [
    | inl old ↦ (let x = behind i n old name w in (x.0, x.1, x.2, slice_get-kept ns (s ∷ []) x.0 x.1 x.3, x.4))
    | inr new ↦ (
        let x = fields name (subst (λ (k : LLVMStruct). IsInFields m k (NamedType name)) new.1 w) in
        let lt = slice_get_within ns x.0 x.1 x.2 in
        (x.0, x.1, omega (arith, lt, new.0), slice_get-kept ns (s ∷ []) x.0 x.1 x.2, x.3)
        )
  ]

  -- ---- walks

  pub walked_as : (W V : TypeTree → Type 0) (a b : Walk) → IsWithin W V → IsWithin V W → Walked m W a b → Walked m V a b
  walked_as W V a b to from h = record {
    walk = h.walk;
    kept = h.kept;
    met = met_as W V b.order.items from h.met;
    each = λ i n at. elim (h.each i n at) [ inl old ↦ inl old | inr new ↦ inr (new.0, new.1, to (NamedType new.0) tt new.2) ];
  }

  -- and so of what a call answers
  pub ok_as : {E : Type 0} (W V : TypeTree → Type 0) (r : R.Result (Unit {0}) E) (a b : Walk) → IsWithin W V → IsWithin V W → R.OnOk r (Walked m W a b) → R.OnOk r (Walked m V a b)
  ok_as W V r a b to from = on_ok_as r (walked_as W V a b to from)

  -- one after the other
  pub walked_both : (V U W : TypeTree → Type 0) (a b c : Walk) → Walked m V a b → Walked m U b c → IsSplit W V U → IsWithin V W → IsWithin U W → Walked m W a c
  walked_both V U W a b c h g split left right = record {
    walk = g.walk;
    kept = λ i n at. g.kept i n (h.kept i n at);
    met = record {
      none = λ of w. elim (split (RefusedType of) tt w) [ inl v ↦ h.met.none of v | inr u ↦ g.met.none of u ];
      named = λ name w. elim (split (NamedType name) tt w) [ inl v ↦ listed_more b.order.items c.order.items g.kept name (h.met.named name v) | inr u ↦ g.met.named name u ];
    };
    each = λ i n at. elim (g.each i n at) [
      | inl old ↦ elim (h.each i n old) [ inl older ↦ inl older | inr new ↦ inr (new.0, new.1, left (NamedType new.0) tt new.2) ]
      | inr new ↦ inr (new.0, new.1, right (NamedType new.0) tt new.2)
    ];
  }

  -- a struct is listed behind what its fields hold
  pub walked_listed : (W : TypeTree → Type 0) (name : List ℕ) (s : LLVMStruct) (a b c : Walk) → Walked m (IsInFields m s) a b → IsStructOf (data_of m) name s → c.seen.items ≡ b.seen.items → c.order.items ≡ b.order.items ++ s ∷ []
      → IsSplit W (λ u. u ≡ NamedType name) (IsInFields m s) → W (NamedType name) → IsWithin (IsInFields m s) W → Walked m W a c
  walked_listed W name s a b c h is seen order split itself inside =
      let kept : (i : ℕ) (n : LLVMStruct) → slice_get b.order.items i ≡ Some n → slice_get c.order.items i ≡ Some n = λ i n at. ap (λ (ns : List LLVMStruct). slice_get ns i) order ∙ slice_get-kept b.order.items (s ∷ []) i n at in
      let last : slice_get c.order.items (length b.order.items) ≡ Some s = ap (λ (ns : List LLVMStruct). slice_get ns (length b.order.items)) order ∙ slice_get-push b.order.items s (length b.order.items) refl in
      record {
        walk = record {
          count = ap length seen ∙ h.walk.count;
          marked = λ t at. met_more (IsIn m t) b.order.items c.order.items kept (h.walk.marked t (ap (λ (bs : List Bool). slice_get bs t.0) (sym seen) ∙ at));
          behind = subst (AreBehind m) (sym order) (behind_pushed b.order.items s h.walk.behind h.met.named);
        };
        kept = λ i n at. kept i n (h.kept i n at);
        met = record {
          none = λ of w. elim (split (RefusedType of) tt w) [ inl e ↦ absurd (cc) | inr v ↦ h.met.none of v ];
          named = λ other w. elim (split (NamedType other) tt w) [
            | inl e ↦ (let same : name ≡ other = cc in (length b.order.items, s, last, subst (λ (x : List ℕ). IsStructOf (data_of m) x s) same is))
            | inr v ↦ listed_more b.order.items c.order.items kept other (h.met.named other v)
          ];
        };
        each = λ i n at. elim (slice_get-push_cases b.order.items s i n (ap (λ (ns : List LLVMStruct). slice_get ns i) (sym order) ∙ at)) [
          | inl old ↦ elim (h.each i n old) [ inl older ↦ inl older | inr new ↦ inr (new.0, new.1, inside (NamedType new.0) tt new.2) ]
          | inr new ↦ inr (name, subst (IsStructOf (data_of m) name) (sym new.1) is, itself)
        ];
      }

  -- a type is marked that was gone through
  pub walked_marked : (t : LLVMType) (a b c : Walk) → Walked m (IsIn m t) a b → c.seen.items ≡ slice_set b.seen.items t.0 true → c.order.items ≡ b.order.items → Walked m (IsIn m t) a c
  walked_marked t a b c h seen order =
      let kept : (i : ℕ) (n : LLVMStruct) → slice_get b.order.items i ≡ Some n → slice_get c.order.items i ≡ Some n = λ i n at. ap (λ (ns : List LLVMStruct). slice_get ns i) order ∙ at in
      let met : AreMet m (IsIn m t) c.order.items = met_more (IsIn m t) b.order.items c.order.items kept h.met in
      record {
        walk = record {
          count = ap length seen ∙ length-slice_set b.seen.items t.0 true ∙ h.walk.count;
          marked = λ u at. elim (slice_get-set_cases b.seen.items t.0 u.0 true true (ap (λ (bs : List Bool). slice_get bs u.0) (sym seen) ∙ at)) [
            | inl here ↦ (let same : t ≡ u = ap type_of_number (sym here.0) in subst (λ (v : LLVMType). AreMet m (IsIn m v) c.order.items) same met)
            | inr there ↦ met_more (IsIn m u) b.order.items c.order.items kept (h.walk.marked u there)
          ];
          behind = subst (AreBehind m) (sym order) h.walk.behind;
        };
        kept = λ i n at. kept i n (h.kept i n at);
        met = met;
        each = λ i n at. h.each i n (ap (λ (ns : List LLVMStruct). slice_get ns i) (sym order) ∙ at);
      }
