-- Structs of a context are the ones that their names mean in a module; and what was given stays right where both get more.
use Rattle.std.proofs.Common.{◌≡◌, ◌<◌, ◌⊎◌, inl, inr, ◌∙◌, ℕ, zero, suc, Bool, true, false, List, [], ◌∷◌, ◌++◌, Option, Some, None, length, slice_get, get_or, refl, sym, ap, subst, arith, if◌then◌else◌}
use Rattle.std.specs.Option.{option_or}
use Rattle.std.specs.Str.{bytes_eq}
use Rattle.std.proofs.lemmas.List.Folds.{find-append}
use Rattle.std.proofs.lemmas.Option.{none-some, same_Some, slice_get_within, slice_get-get_or}
use Rattle.std.proofs.lemmas.Slice.Eq.{bytes_eq-Decides}
use Rattle.support.proofs.ListLaws.{slice_get-kept}
use Rattle.kinds.specs.Structs.{Struct, struct_in}
use Rattle.llvm_core.specs.Module.{Module}
use Rattle.llvm_core.specs.Data.{ModuleData, data_of}
use Rattle.dialect_types.specs.declared.types.TypeHandle.{TypeHandle}
use Rattle.dialect_types.specs.declared.types.TypeKind.{TypeKind}
use Rattle.dialect_types.specs.declared.types.TypeKind.TheVariants as K
use Rattle.dialect_types.specs.Trees.{TypeTree, TypeTrees, HasPartsBelow, IsOnceNamed, IsStored, struct_of, type_at, type_trees}
use Rattle.dialect_types.proofs.TreeLemmas.{AgreeBelow, same_parts}
use Rattle.to_llvm_ir.specs.Conversion.{AreMeant, Gives, HasTypesOf, IsContextFor, IsStruct, given_at}
use Rattle.to_llvm_ir.specs.Growth.{Grows}
use Rattle.to_llvm_ir.specs.declared.type_conversion.TypeConversionContext.{TypeConversionContext}
use Rattle.to_llvm_ir.proofs.ConversionLaws.{one_struct}
use Rattle.to_llvm_ir.proofs.GrowthLaws.{type_kept}
use Rattle.to_llvm_ir.proofs.ListLaws.{all_at, by_option}

-- ---- structs by their names

-- what the front has not is found behind it
behind : (ss more : List Struct) (n : List ℕ) → struct_in ss n ≡ None → struct_in (ss ++ more) n ≡ struct_in more n
behind ss more n none = find-append (λ (s : Struct). bytes_eq s.name n) ss more ∙ ap (λ (o : Option Struct). option_or o (struct_in more n)) none

in_front : (ss more : List Struct) (n : List ℕ) (s : Struct) → struct_in ss n ≡ Some s → struct_in (ss ++ more) n ≡ Some s
in_front ss more n s is = find-append (λ (s : Struct). bytes_eq s.name n) ss more ∙ ap (λ (o : Option Struct). option_or o (struct_in more n)) is

-- what is found by a name stands there, and has it
found_at : (ss : List Struct) (n : List ℕ) (s : Struct) → struct_in ss n ≡ Some s → (i : ℕ) × (slice_get ss i ≡ Some s) × (s.name ≡ n)
found_at [] n s e = cc
found_at (x ∷ ss) n s e = by (bytes_eq x.name n) refl e (found_at ss n s)
  where
    by : (b : Bool) → bytes_eq x.name n ≡ b → (if b then Some x else struct_in ss n) ≡ Some s → (struct_in ss n ≡ Some s → (i : ℕ) × (slice_get ss i ≡ Some s) × (s.name ≡ n)) → (i : ℕ) × (slice_get (x ∷ ss) i ≡ Some s) × (s.name ≡ n)
    by true is e next = (zero, e, ap (λ (y : Struct). y.name) (sym (same_Some x s e)) ∙ (bytes_eq-Decides x.name n).0 is)
    by false is e next = let later = next e in (suc later.0, later.1, later.2)

-- the name of one that stands there is found
not_absent : (ss : List Struct) (i : ℕ) (s : Struct) → slice_get ss i ≡ Some s → ¬ (struct_in ss s.name ≡ None)
not_absent [] i s at none = cc
not_absent (x ∷ ss) zero s at none =
    let is : bytes_eq x.name s.name ≡ true = (bytes_eq-Decides x.name s.name).1 (ap (λ (y : Struct). y.name) (same_Some x s at)) in
    none-some x (sym none ∙ ap (λ (b : Bool). if b then Some x else struct_in ss s.name) is)
not_absent (x ∷ ss) (suc i) s at none = by (bytes_eq x.name s.name) none (not_absent ss i s at)
  where
    by : (b : Bool) → (if b then Some x else struct_in ss s.name) ≡ None → ¬ (struct_in ss s.name ≡ None) → ⊥
    by true none next = none-some x (sym none)
    by false none next = next none

-- ---- after a conversion

-- a number is one struct
same_structs : (ks : List TypeKind) (u : TypeHandle) (s r : Struct) → IsStruct ks u s → IsStruct ks u r → r ≡ s
same_structs ks u s r a b =
    let kind = same_Some b.0 a.0 (sym b.1 ∙ a.1) in
    same_Some r s (sym b.2 ∙ ap (struct_of (type_trees ks)) kind ∙ a.2)

module _ (ks : List TypeKind) (once : IsOnceNamed ks) (W : TypeHandle → Type 0) (old new : Module) (x y : TypeConversionContext) (g : Gives ks W old x new y) where
  now_has : (n : List ℕ) → struct_in (data_of new).structs n ≡ struct_in ((data_of old).structs ++ g.more) n
  now_has n = ap (λ (d : ModuleData). struct_in d.structs n) g.data

  -- one of a name that the module did not have is new, or still not given
  meant_now : (u : TypeHandle) (s : Struct) → IsStruct ks u s → struct_in (data_of old).structs s.name ≡ None → (struct_in (data_of new).structs s.name ≡ Some s) ⊎ ((given_at y u ≡ None) × (struct_in (data_of new).structs s.name ≡ None))
  meant_now u s is none = by_option ((struct_in (data_of new).structs s.name ≡ Some s) ⊎ ((given_at y u ≡ None) × (struct_in (data_of new).structs s.name ≡ None))) (struct_in (data_of new).structs s.name)
      (λ absent. inr (by_option (given_at y u ≡ None) (given_at y u) (λ e. e) (λ l at. let there = (g.context u l at).struct s is in absurd (not_absent (data_of new).structs there.0 s there.1 absent)), absent))
      (λ r found.
      let at = found_at g.more s.name r (sym (now_has s.name ∙ behind (data_of old).structs g.more s.name none) ∙ found) in
      let one = all_at (λ (s : Struct). (u : TypeHandle) × W u × IsStruct ks u s × (given_at x u ≡ None) × ¬ (given_at y u ≡ None)) g.more at.0 r g.each at.1 in
      let same : one.0 ≡ u = one_struct ks once one.0 u r s one.2 is at.2 in
      inl (found ∙ ap Some (same_structs ks u s r is (subst (λ (v : TypeHandle). IsStruct ks v r) same one.2))))

  pub meant_kept : AreMeant ks old x → AreMeant ks new y
  meant_kept meant u s is = elim (meant u s is) [
    | inl was ↦ inl (now_has s.name ∙ in_front (data_of old).structs g.more s.name s was)
    | inr absent ↦ meant_now u s is absent.1
  ]

pub given_meant : (ks : List TypeKind) (m : Module) (c : TypeConversionContext) (u : TypeHandle) (s : Struct) → AreMeant ks m c → ¬ (given_at c u ≡ None) → IsStruct ks u s → struct_in (data_of m).structs s.name ≡ Some s
given_meant ks m c u s meant given is = elim (meant u s is) [ inl found ↦ found | inr absent ↦ absurd (given absent.0) ]

-- ---- between conversions

-- a kind is the same struct where the trees of earlier numbers are the same
same_struct : (ts us : List TypeTree) (n : ℕ) → AgreeBelow ts us n → (k : TypeKind) → HasPartsBelow n k → struct_of ts k ≡ struct_of us k
same_struct ts us n same (K.Named name None) h = refl
same_struct ts us n same (K.Named name (Some b)) h =
    ap (λ (fs : TypeTrees). let s : Struct = record { name = name; body = Some (record { fields = fs; layout = b.layout }) } in Some s) (same_parts ts us n same b.types h)
same_struct ts us n same k h = refl

module _ (ks ls : List TypeKind) (old new : Module) (more : List Struct) (c : TypeConversionContext) (stored : IsStored ls) (types : HasTypesOf ks ls) (grows : Grows old new) (structs : (data_of new).structs ≡ (data_of old).structs ++ more) where
  -- the kind of an earlier number is as before
  kind_before : (t : TypeHandle) (k : TypeKind) → t.0 < length ks → slice_get ls t.0 ≡ Some k → slice_get ks t.0 ≡ Some k
  kind_before t k there at =
      let j = get_or ks t.0 k in
      let before = slice_get-get_or ks t.0 k there in
      before ∙ sym (types.0 t.0 j before) ∙ at

  struct_before : (t : TypeHandle) (s : Struct) → t.0 < length ks → IsStruct ls t s → IsStruct ks t s
  struct_before t s there is =
      let agree : AgreeBelow (type_trees ks) (type_trees ls) t.0 = λ j below. sym (types.1 (record { 0 = j }) (omega arith)) in
      (is.0, kind_before t is.0 there is.1, same_struct (type_trees ks) (type_trees ls) t.0 agree is.0 (stored.grounded t.0 is.0 is.1) ∙ is.2)

  pub context_stays : IsContextFor ks old c → IsContextFor ls new c
  context_stays context t l at =
      let h = context t l at in
      let kept = type_kept old new l (type_at (type_trees ks) t) grows (h.within, h.is) in
      let d = K.Void in
      record {
        there = slice_get_within ls t.0 (get_or ks t.0 d) (types.0 t.0 (get_or ks t.0 d) (slice_get-get_or ks t.0 d h.there));
        within = kept.0;
        is = kept.1 ∙ sym (types.1 t h.there);
        parts = λ u part. h.parts u (part.0, part.1, kind_before t part.0 h.there part.2, part.3);
        struct = λ s is.
            let was = h.struct s (struct_before t s h.there is) in
            (was.0, ap (λ (ss : List Struct). slice_get ss was.0) structs ∙ slice_get-kept (data_of old).structs more was.0 s was.1);
      }
