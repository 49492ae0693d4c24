-- The types that stand for parts, and the type that is made of them.
use Rattle.std.proofs.Common.{◌≡◌, ◌<◌, ◌≤◌, ◌+◌, ◌∙◌, ℕ, zero, suc, true, false, List, [], ◌∷◌, ◌++◌, Option, Some, None, All, length, map, take, get_or, refl, sym, ap, subst, arith}
use Rattle.std.specs.Prelude.{Err, IfSome, Ok, OnErr, Result}
use Rattle.std.specs.List.{cons_option}
use Rattle.std.specs.Option.{option_map}
use Rattle.std.proofs.lemmas.List.{append-nil, map_more, map_push}
use Rattle.std.proofs.lemmas.List.Elements.{All-nil, All-cons, All-head, All-tail}
use Rattle.std.proofs.lemmas.Option.{none-some, same_Some, slice_get-get_or, slice_get_within}
use Rattle.support.specs.Interned.{Interned}
use Rattle.kinds.specs.Types.{TypeTree, TypeTrees, NamedType, shape}
use Rattle.kinds.specs.Structs.{Struct, StructBody}
use Rattle.kinds.specs.Fitting.{is_field, is_array_of, is_vector_of}
use Rattle.llvm_core.specs.declared.numbers.LLVMType.{LLVMType}
use Rattle.llvm_core.specs.declared.structs.StructFields.{StructFields as Fields}
use Rattle.llvm_core.specs.declared.structs.StructData.{StructData}
use Rattle.llvm_core.specs.declared.types.LLVMTypeKind.{LLVMTypeKind}
use Rattle.llvm_core.specs.declared.types.LLVMTypeKind.TheVariants as T
use Rattle.llvm_core.specs.Module.{Module}
use Rattle.llvm_core.specs.Parts.{HasFitParts, IsTypeOver, shape_at}
use Rattle.llvm_core.specs.Sound.{AreFieldsIn, IsModule}
use Rattle.llvm_core.specs.Data as L
use Rattle.llvm_core.specs.Data.{data_of, trees_of}
use Rattle.llvm_core.proofs.DataLemmas.{type_tree_of}
use Rattle.llvm_core.proofs.WholeTypes.{shape_there}
use Rattle.dialect_types.specs.declared.types.TypeHandle.{TypeHandle}
use Rattle.dialect_types.specs.declared.types.StructFields.{StructFields}
use Rattle.dialect_types.specs.declared.types.TypeKind.{TypeKind}
use Rattle.dialect_types.specs.declared.types.TypeKind.TheVariants as K
use Rattle.dialect_types.specs.Trees as D
use Rattle.dialect_types.specs.Trees.{type_at, types_at, type_tree, type_trees, fields_of, struct_of, is_named, IsStored}
use Rattle.dialect_types.proofs.PrintedTypes.{reach}
use Rattle.dialect_types.proofs.TextLemmas.{reach-below}
use Rattle.to_llvm_ir.specs.Conversion.{Gives, IsContextFor, IsWithin, given_at, numbers_in, types_in}
use Rattle.to_llvm_ir.specs.Giving.{AreGiven, IsWithinSome, Makes, MayGive}
use Rattle.to_llvm_ir.specs.Growth.{AreTypesOf, Grows}
use Rattle.to_llvm_ir.specs.declared.type_conversion.TypeConversionContext.{TypeConversionContext}
use Rattle.to_llvm_ir.proofs.ConversionLaws.{StaysGiven, gives_then, gives_types, numbers_below}
use Rattle.to_llvm_ir.proofs.GrowthLaws.{grows_type, types_kept}
use Rattle.to_llvm_ir.proofs.KindLaws.{kind_kept}

-- ---- what may be given

pub may_part : (ks : List TypeKind) (V W : TypeHandle → Type 0) (m : Module) (c : TypeConversionContext) → ((u : TypeHandle) → V u → W u) → MayGive ks W m c → MayGive ks V m c
may_part ks V W m c part may = record {
  stored = may.stored;
  there = λ u v. may.there u (part u v);
  widths = λ u w v at. may.widths u w (part u v) at;
  context = may.context;
  room = may.room;
}

-- after others were given
pub may_then : (ks : List TypeKind) (W V : TypeHandle → Type 0) (a b : Module) (x y : TypeConversionContext) → MayGive ks W a x → Gives ks V a x b y → length ks ≤ length y.given.items → MayGive ks W b y
may_then ks W V a b x y may gives room = record {
  stored = may.stored;
  there = may.there;
  widths = may.widths;
  context = gives.context;
  room = room;
}

-- ---- types of a list

-- each was given, where these were answered
pub are_given : (c : TypeConversionContext) (us : List TypeHandle) (ls : List LLVMType) → map (given_at c) us ≡ map Some ls → AreGiven c us
are_given c [] ls h i u at none = none-some u at
are_given c (v ∷ us) [] h i u at none = cc
are_given c (v ∷ us) (l ∷ ls) h zero u at none =
    let here : given_at c v ≡ Some l = cc in
    none-some l (sym none ∙ ap (given_at c) (sym (same_Some v u at)) ∙ here)
are_given c (v ∷ us) (l ∷ ls) h (suc i) u at none = let rest : map (given_at c) us ≡ map Some ls = cc in are_given c us ls rest i u at none

pub given_first : (c : TypeConversionContext) (u : TypeHandle) (us : List TypeHandle) → ¬ (given_at c u ≡ None) → AreGiven c us → AreGiven c (u ∷ us)
given_first c u us first rest zero v at none = first (ap (given_at c) (same_Some u v at) ∙ none)
given_first c u us first rest (suc i) v at none = rest i v at none

pub given_none : (c : TypeConversionContext) → AreGiven c []
given_none c i u at none = none-some u at

-- they have the trees
pub all_stand : (ks : List TypeKind) (m : Module) (c : TypeConversionContext) → IsContextFor ks m c → (us : List TypeHandle) (ls : List LLVMType) → map (given_at c) us ≡ map Some ls → AreTypesOf m ls (map (type_at (type_trees ks)) us)
all_stand ks m c context [] [] h = (All-nil (λ (l : LLVMType). l.0 < length m.types), refl)
all_stand ks m c context [] (l ∷ ls) h = cc
all_stand ks m c context (u ∷ us) [] h = cc
all_stand ks m c context (u ∷ us) (l ∷ ls) h =
    let here : given_at c u ≡ Some l = cc in
    let rest : map (given_at c) us ≡ map Some ls = cc in
    let own = context u l here in
    let others = all_stand ks m c context us ls rest in (
      All-cons (λ (l : LLVMType). l.0 < length m.types) l ls own.within others.0,
      ap (λ (t : TypeTree). t ∷ map (L.type_at (trees_of m).types) ls) own.is ∙ ap (λ (ts : List TypeTree). type_at (type_trees ks) u ∷ ts) others.1,
    )

all_kept : (x y : TypeConversionContext) → StaysGiven x y → (us : List TypeHandle) (ls : List LLVMType) → map (given_at x) us ≡ map Some ls → map (given_at y) us ≡ map Some ls
all_kept x y stays [] ls h = h
all_kept x y stays (u ∷ us) [] h = cc
all_kept x y stays (u ∷ us) (l ∷ ls) h =
    let here : given_at x u ≡ Some l = cc in
    let rest : map (given_at x) us ≡ map Some ls = cc in
    ap (λ (o : Option LLVMType). o ∷ map (given_at y) us) (stays u l here) ∙ ap (λ (os : List (Option LLVMType)). Some l ∷ os) (all_kept x y stays us ls rest)

-- one more is answered
pub given_more : (x y : TypeConversionContext) → StaysGiven x y → (us : List TypeHandle) (i : ℕ) (u : TypeHandle) (ls more : List LLVMType) (l : LLVMType) → i < length us → map (given_at x) (take i us) ≡ map Some ls → given_at y (get_or us i u) ≡ Some l → more ≡ ls ++ l ∷ []
    → map (given_at y) (take (i + 1) us) ≡ map Some more
given_more x y stays us i u ls more l lt before one is =
    map_more (given_at y) us i u lt ∙ ap (λ (os : List (Option LLVMType)). os ++ given_at y (get_or us i u) ∷ []) (all_kept x y stays (take i us) ls before) ∙ ap (λ (o : Option LLVMType). map Some ls ++ o ∷ []) one
    ∙ sym (map_push Some ls l) ∙ ap (map Some) (sym is)

-- ---- what is within some of a list

pub some_at : (ks : List TypeKind) (us : List TypeHandle) (i : ℕ) (d u : TypeHandle) → i < length us → IsWithin ks u (get_or us i d) → IsWithinSome ks us u
some_at ks us i d u lt h = (i, get_or us i d, slice_get-get_or us i d lt, h)

pub some_in : (ks : List TypeKind) (us vs : List TypeHandle) → us ≡ vs → (u : TypeHandle) → IsWithinSome ks us u → IsWithinSome ks vs u
some_in ks us vs same u h = subst (λ (ws : List TypeHandle). IsWithinSome ks ws u) same h

pub some_first : (ks : List TypeKind) (r : TypeHandle) (us vs : List TypeHandle) → r ∷ us ≡ vs → (u : TypeHandle) → IsWithin ks u r → IsWithinSome ks vs u
some_first ks r us vs same u h = some_in ks (r ∷ us) vs same u (0, r, refl, h)

pub some_later : (ks : List TypeKind) (r : TypeHandle) (us vs : List TypeHandle) → r ∷ us ≡ vs → (u : TypeHandle) → IsWithinSome ks us u → IsWithinSome ks vs u
some_later ks r us vs same u h = some_in ks (r ∷ us) vs same u (suc h.0, h.1, h.2, h.3)

-- the parts reach no further than the kind
pub reach_parts : (n : ℕ) (k : TypeKind) → D.HasPartsBelow n k → reach (numbers_in k) ≤ n
reach_parts n k h = reach-below n (numbers_in k) (numbers_below n k h)

-- the first and the later numbers of a list reach no further than the list
pub reach_first : (r : TypeHandle) (us vs : List TypeHandle) → r ∷ us ≡ vs → (r.0 < reach vs) × (reach us ≤ reach vs)
reach_first r us vs same = subst (λ (ws : List TypeHandle). (r.0 < reach ws) × (reach us ≤ reach ws)) same (omega arith, omega arith)

-- ---- a result that passes an error on

pub on_error : {T E : Type 0} (r : Result T E) (P : Type 0) → P → OnErr r P
on_error (Ok x) P p = tt
on_error (Err e) P p = p

-- ---- kinds with equal trees

module _ (m : Module) (sound : IsModule m) (ts : List TypeTree) where
  abbrev trees : List TypeTree
  trees = (trees_of m).types

  fits_same : (u : LLVMType) (t : TypeHandle) → u.0 < length m.types → L.type_at trees u ≡ type_at ts t → shape_at m.types u ≡ shape (type_at ts t)
  fits_same u t there same = shape_there m sound u there ∙ ap shape same

  parts_fit : (us : List LLVMType) (xs : List TypeHandle) → All (λ (u : LLVMType). u.0 < length m.types) us → L.types_at trees us ≡ types_at ts xs → All (λ (t : TypeHandle). is_field (shape (type_at ts t)) ≡ true) xs → All (λ (u : LLVMType). is_field (shape_at m.types u) ≡ true) us
  parts_fit [] xs there same fit = All-nil (λ (u : LLVMType). is_field (shape_at m.types u) ≡ true)
  parts_fit (u ∷ us) [] there same fit = cc
  parts_fit (u ∷ us) (x ∷ xs) there same fit =
      let here : L.type_at trees u ≡ type_at ts x = cc in
      let rest : L.types_at trees us ≡ types_at ts xs = cc in
      All-cons (λ (u : LLVMType). is_field (shape_at m.types u) ≡ true) u us
      (ap is_field (fits_same u x (All-head (λ (u : LLVMType). u.0 < length m.types) u us there) here) ∙ All-head (λ (t : TypeHandle). is_field (shape (type_at ts t)) ≡ true) x xs fit)
      (parts_fit us xs (All-tail (λ (u : LLVMType). u.0 < length m.types) u us there) rest (All-tail (λ (t : TypeHandle). is_field (shape (type_at ts t)) ≡ true) x xs fit))

  -- what a kind is made of may stand in it: a line for each kind that has parts
  pub kind_fit : (l : LLVMTypeKind) (k : TypeKind) → IsTypeOver (length m.types) l → L.type_tree trees l ≡ type_tree ts k → D.HasFitParts ts k → HasFitParts m.types l
  kind_fit (T.Array n u) (K.Array t c) over same fit =
      let count : n ≡ c = cc in
      let part : L.type_at trees u ≡ type_at ts t = cc in
      ap (is_array_of n) (fits_same u t over part) ∙ ap (λ (i : ℕ). is_array_of i (shape (type_at ts t))) count ∙ fit
  kind_fit (T.Array n u) k over same fit = cc
  kind_fit (T.Vector v n u) (K.Vector t c w) over same fit =
      let count : n ≡ c = cc in
      let part : L.type_at trees u ≡ type_at ts t = cc in
      ap (is_vector_of n) (fits_same u t over part) ∙ ap (λ (i : ℕ). is_vector_of i (shape (type_at ts t))) count ∙ fit
  kind_fit (T.Vector v n u) k over same fit = cc
  kind_fit (T.Literal us l) (K.Struct xs w) over same fit = let parts : L.types_at trees us ≡ types_at ts xs = cc in parts_fit us xs over parts fit
  kind_fit (T.Literal us l) k over same fit = cc
  kind_fit l k over same fit = tt

  -- and the fields of a struct
  pub body_fit : (b : Option Fields) (c : Option StructFields) → IfSome b (λ (b : Fields). All (λ (t : LLVMType). t.0 < length m.types) b.types) → option_map (L.fields_of trees) b ≡ option_map (fields_of ts) c
      → IfSome c (λ (b : StructFields). All (λ (t : TypeHandle). is_field (shape (type_at ts t)) ≡ true) b.types) → IfSome b (AreFieldsIn m.types)
  body_fit None c over same fit = tt
  body_fit (Some b) None over same fit = cc
  body_fit (Some b) (Some c) over same fit =
      let bodies : L.fields_of trees b ≡ fields_of ts c = same_Some (L.fields_of trees b) (fields_of ts c) same in
      record { within = over; fit = parts_fit b.types c.types over (ap (λ (s : StructBody). s.fields) bodies) fit }

-- ---- the type that is made

pub no_struct : (ts : List TypeTree) (k : TypeKind) → is_named k ≡ false → struct_of ts k ≡ None
no_struct ts (K.Named name b) plain = cc
no_struct ts k plain = refl

pub no_name : (k : TypeKind) → ((name : List ℕ) (body : Option StructFields) → k ≡ K.Named name body → ⊥) → is_named k ≡ false
no_name (K.Named name body) other = absurd (other name body refl)
no_name k other = refl

-- a type more, whether there was memory for it or not
pub gives_type : (ks : List TypeKind) (stored : IsStored ks) (W : TypeHandle → Type 0) (a b c : Module) (x y : TypeConversionContext) → Gives ks W a x b y → Grows b c → c ≡ record b { types = c.types } → data_of c ≡ data_of b → Gives ks W a x c y
gives_type ks stored W a b c x y gives grows rest same = gives_then ks stored.once W W W (λ u h. h) (λ u h. h) a b c x y y gives (gives_types ks W b c y y gives.context (λ t. refl) grows rest same)

pub makes_plain : (ks : List TypeKind) → IsStored ks → (k : TypeKind) (l : LLVMTypeKind) (t : LLVMType) (old middle new : Module) (x y : TypeConversionContext) → is_named k ≡ false → Gives ks (IsWithinSome ks (numbers_in k)) old x middle y → AreGiven y (numbers_in k)
    → IsTypeOver (length middle.types) l → L.type_tree (trees_of middle).types l ≡ type_tree (type_trees ks) k → IsModule new → Interned middle.types new.types l t.0 → new ≡ record middle { types = new.types } → data_of new ≡ data_of middle → Makes ks k old x new y t
makes_plain ks stored k l t old middle new x y plain gives parts over tree sound at rest same =
    let grows = grows_type middle new l t.0 at rest in
    let none = no_struct (type_trees ks) k plain in
    record {
      middle = new;
      gives = gives_type ks stored (IsWithinSome ks (numbers_in k)) old middle new x y gives grows rest same;
      «data» = ap (λ (ss : List Struct). let d : L.ModuleData = record (data_of new) { structs = ss } in d) (sym (append-nil (data_of new).structs) ∙ ap (λ (o : Option Struct). (data_of new).structs ++ cons_option o []) (sym none));
      rest = refl;
      within = slice_get_within new.types t.0 l at.here;
      is = type_tree_of new t l sound at.here ∙ kind_kept middle new l grows over ∙ tree;
      parts = parts;
    }

pub fields_kept : (old new : Module) → Grows old new → (b : Option Fields) → IfSome b (λ (b : Fields). All (λ (t : LLVMType). t.0 < length old.types) b.types)
    → IfSome b (λ (b : Fields). All (λ (t : LLVMType). t.0 < length new.types) b.types) × (option_map (L.fields_of (trees_of new).types) b ≡ option_map (L.fields_of (trees_of old).types) b)
fields_kept old new grows None over = (tt, refl)
fields_kept old new grows (Some b) over =
    let kept = types_kept old new b.types (map (L.type_at (trees_of old).types) b.types) grows (over, refl) in
    (kept.0, ap (λ (fs : TypeTrees). Some (let s : StructBody = record { fields = fs; layout = b.layout } in s)) (same_llvm (trees_of new).types (trees_of old).types b.types kept.1))
  where
    same_llvm : (us vs : List TypeTree) (ts : List LLVMType) → map (L.type_at us) ts ≡ map (L.type_at vs) ts → L.types_at us ts ≡ L.types_at vs ts
    same_llvm us vs [] h = refl
    same_llvm us vs (t ∷ ts) h =
        let here : L.type_at us t ≡ L.type_at vs t = cc in
        let rest : map (L.type_at us) ts ≡ map (L.type_at vs) ts = cc in
        let e = same_llvm us vs ts rest in
        cc

-- the struct is the last of the module, behind the type that names it
pub makes_named : (ks : List TypeKind) → IsStored ks → (name text spelled : List ℕ) (body : Option StructFields) (b : Option Fields) (t : LLVMType) (old middle typed new : Module) (x y : TypeConversionContext) → text ≡ name → spelled ≡ name
    → Gives ks (IsWithinSome ks (types_in body)) old x middle y → AreGiven y (types_in body) → IfSome b (λ (b : Fields). All (λ (t : LLVMType). t.0 < length middle.types) b.types) → option_map (L.fields_of (trees_of middle).types) b ≡ option_map (fields_of (type_trees ks)) body
    → IsModule typed → Interned middle.types typed.types (T.Named text) t.0 → typed ≡ record middle { types = typed.types } → data_of typed ≡ data_of middle
    → new ≡ record typed { structs = typed.structs ++ (let s : StructData = record { name = spelled; body = b } in s) ∷ [] }
    → data_of new ≡ L.with_struct (data_of typed) (record { name = spelled; body = option_map (L.fields_of (trees_of typed).types) b })
    → Makes ks (K.Named name body) old x new y t
makes_named ks stored name text spelled body b t old middle typed new x y text_is spelled_is gives parts over fields sound at rest same new_is data_is =
    let grows = grows_type middle typed (T.Named text) t.0 at rest in
    let kept = fields_kept middle typed grows b over in
    let types : new.types ≡ typed.types = ap (λ (m : Module). m.types) new_is in
    let within = slice_get_within typed.types t.0 (T.Named text) at.here in
    record {
      middle = typed;
      gives = gives_type ks stored (IsWithinSome ks (types_in body)) old middle typed x y gives grows rest same;
      «data» = data_is ∙ ap (λ (n : List ℕ). L.with_struct (data_of typed) (record { name = n; body = option_map (L.fields_of (trees_of typed).types) b })) spelled_is
          ∙ ap (λ (f : Option StructBody). L.with_struct (data_of typed) (record { name = name; body = f })) (kept.1 ∙ fields);
      rest = new_is ∙ ap (λ (ss : List StructData). let m : Module = record typed { structs = ss } in m) (sym (ap (λ (m : Module). m.structs) new_is));
      within = rw types within;
      is = ap (λ (us : List LLVMTypeKind). L.type_at (L.type_trees us) t) types ∙ type_tree_of typed t (T.Named text) sound at.here ∙ ap NamedType text_is;
      parts = parts;
    }
