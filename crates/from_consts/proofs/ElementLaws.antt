-- The elements of a list: their types are within that of the list, and their attributes are what the dialect asks of an aggregate.
use Rattle.std.proofs.Common.{ℕ, zero, suc, ◌≡◌, ◌∙◌, ◌++◌, refl, sym, ap, Bool, true, false, if◌then◌else◌, List, [], ◌∷◌, All, Option, Some, None, length, map, slice_get, arith}
use Rattle.std.specs.List.{find}
use Rattle.std.specs.Option.{option_map, option_or}
use Rattle.std.specs.Str.{bytes_eq}
use Rattle.std.proofs.lemmas.Bool.{and_from, eq-eqb}
use Rattle.std.proofs.lemmas.List.Elements.{All-head, All-tail}
use Rattle.std.proofs.lemmas.Option.{same_Some, slice_get-map}
use Rattle.kinds.specs.declared.types.VectorTypeKind.TheVariants as N
use Rattle.kinds.specs.Types.{TypeTree, count_types, same_tree}
use Rattle.kinds.specs.Structs.{Struct, struct_in, renamed, renamed_all, renamed_struct}
use Rattle.kinds.proofs.TypeLaws.{tree_self}
use Rattle.llvm_core.specs.declared.numbers.LLVMConst.{LLVMConst}
use Rattle.llvm_core.specs.declared.numbers.LLVMStruct.{LLVMStruct}
use Rattle.llvm_core.specs.declared.numbers.LLVMType.{LLVMType}
use Rattle.llvm_core.specs.declared.structs.StructData.{StructData}
use Rattle.llvm_core.specs.declared.structs.StructFields.{StructFields}
use Rattle.llvm_core.specs.declared.types.LLVMTypeKind.{LLVMTypeKind}
use Rattle.llvm_core.specs.declared.types.LLVMTypeKind.TheVariants as T
use Rattle.llvm_core.specs.Module.{Module}
use Rattle.llvm_core.specs.Consts.{AreElements, HasFields, IsElement, struct_named}
use Rattle.llvm_core.specs.Sound.{IsModule}
use Rattle.llvm_core.specs.Data as L
use Rattle.llvm_core.specs.Data.{trees_of}
use Rattle.llvm_core.proofs.DataLemmas.{const_type_of, type_tree_of, within_at}
use Rattle.dialect_types.specs.declared.types.TypeKind.{TypeKind}
use Rattle.dialect_types.specs.Legalised.{Named}
use Rattle.dialect_types.specs.Trees.{structs_of, type_trees}
use Rattle.const_attrs.specs.declared.const_attr.ConstAttr.{ConstAttr}
use Rattle.const_attrs.specs.Trees.{AttrTrees, attr_data, attrs_data, attr_tree, attr_trees, type_of, HaveTypesBelow}
use Rattle.const_attrs.specs.Verified.{OfOne, OneOfEach, all_have, broken_in, count_attrs, each_has, elements_of, fields_in, has_type, misfit}
use Rattle.const_attrs.proofs.ListLaws.{count_is, none_wrong}
use Rattle.meaning.specs.Pairs.{Matched}
use Rattle.from_consts.specs.Constants.{attrs_of, tree_at}
use Rattle.from_consts.specs.Given.{IsMade}
use Rattle.from_consts.specs.Names.{called}
use Rattle.from_consts.specs.Parts.{IsFieldOf, IsNamed, IsPart, InKind, InStruct}
use Rattle.from_consts.specs.Steps.{AreAttrsMade, IsAttrMade}
use Rattle.from_consts.proofs.AttrLaws.{attr_type}
use Rattle.from_consts.proofs.NameLaws.{found_in}

-- ---- structs by their names

-- what is found stands at a place
found_at : {X : Type 0} (p : X → Bool) (xs : List X) (x : X) → find p xs ≡ Some x → (i : ℕ) × (slice_get xs i ≡ Some x)
found_at p [] x e = cc
found_at {X = X} p (y ∷ ys) x e = by (p y) e (found_at p ys x)
  where
    by : (b : Bool) → (if b then Some y else find p ys) ≡ Some x → (find p ys ≡ Some x → (i : ℕ) × (slice_get ys i ≡ Some x)) → (i : ℕ) × (slice_get (y ∷ ys) i ≡ Some x)
    by true e next = (zero, e)
    by false e next = let later = next e in (suc later.0, later.1)

-- the struct that is found by numbers is found by trees
found_tree : (ts : List TypeTree) (name : List ℕ) (xs : List StructData) (x : StructData) → struct_named xs name ≡ Some x → struct_in (map (L.struct_of ts) xs) name ≡ Some (L.struct_of ts x)
found_tree ts name [] x e = cc
found_tree ts name (y ∷ ys) x e = by (bytes_eq y.name name) e (found_tree ts name ys x)
  where
    by : (b : Bool) → (if b then Some y else struct_named ys name) ≡ Some x → (struct_named ys name ≡ Some x → struct_in (map (L.struct_of ts) ys) name ≡ Some (L.struct_of ts x))
        → (if b then Some (L.struct_of ts y) else struct_in (map (L.struct_of ts) ys) name) ≡ Some (L.struct_of ts x)
    by true e next = ap (option_map (L.struct_of ts)) e
    by false e next = next e

module _ (m : Module) where
  -- the fields of the struct are its parts, by numbers
  field_of : (name : List ℕ) (parts : List LLVMType) → HasFields m.structs name parts → (i : ℕ) (u : LLVMType) → slice_get parts i ≡ Some u → IsFieldOf m name u
  field_of name parts (s, b, found, body, are) i u here =
      let at = found_at (λ (x : StructData). bytes_eq x.name name) m.structs s found in
      let tree = found_tree (trees_of m).types name m.structs s found in
      let number : LLVMStruct = record { 0 = at.0 } in
      record {
        number = number;
        is = record {
          struct = L.struct_of (trees_of m).types s;
          at = slice_get-map (L.struct_of (trees_of m).types) m.structs at.0 ∙ ap (option_map (L.struct_of (trees_of m).types)) at.1;
          named = found_in (L.structs_of m) name (L.struct_of (trees_of m).types s) tree;
          first = tree;
        };
        row = s;
        at = at.1;
        body = b;
        told = body;
        place = i;
        here = ap (λ (ts : List LLVMType). slice_get ts i) are ∙ here;
      }

  one_of : (t u : LLVMType) (parts : List LLVMType) (i : ℕ) → All (λ (v : LLVMType). v ≡ t) parts → slice_get parts i ≡ Some u → slice_get (t ∷ []) 0 ≡ Some u
  one_of t u parts i all here = ap Some (sym (within_at parts (λ (v : LLVMType). v ≡ t) all i u here))

  -- the type of an element is a part of that of the list: a line for each kind that has elements
  pub element_part : (t : LLVMType) (k : LLVMTypeKind) (parts : List LLVMType) → slice_get m.types t.0 ≡ Some k → AreElements m.structs k parts → (i : ℕ) (u : LLVMType) → slice_get parts i ≡ Some u → IsPart m u t
  element_part t T.Void parts at are i u here = absurd are
  element_part t (T.Int w) parts at are i u here = absurd are
  element_part t (T.Ptr space) parts at are i u here = absurd are
  element_part t (T.Floating of) parts at are i u here = absurd are
  element_part t (T.Other of) parts at are i u here = absurd are
  element_part t (T.Array count e) parts at are i u here = InKind (T.Array count e) 0 at (one_of e u parts i are.1 here)
  element_part t (T.Vector N.Fixed count e) parts at are i u here = InKind (T.Vector N.Fixed count e) 0 at (one_of e u parts i are.1 here)
  element_part t (T.Vector N.Scalable count e) parts at are i u here = absurd are
  element_part t (T.Literal fields layout) parts at are i u here = InKind (T.Literal fields layout) i at (ap (λ (ts : List LLVMType). slice_get ts i) (sym are) ∙ here)
  element_part t (T.Named name) parts at are i u here = InStruct name at (field_of name parts are i u here)
  element_part t (T.Function result params variadic) parts at are i u here = absurd are

-- ---- lists that match

pub matched_length : {A B : Type 0} (P : A → B → Type 0) (xs : List A) (ys : List B) → Matched P xs ys → length xs ≡ length ys
matched_length P [] [] h = refl
matched_length P [] (y ∷ ys) h = absurd h
matched_length P (x ∷ xs) [] h = absurd h
matched_length P (x ∷ xs) (y ∷ ys) h = ap suc (matched_length P xs ys h.1)

pub matched_push : {A B : Type 0} (P : A → B → Type 0) (xs : List A) (ys : List B) (x : A) (y : B) → Matched P xs ys → P x y → Matched P (xs ++ x ∷ []) (ys ++ y ∷ [])
matched_push P [] [] x y h one = (one, tt)
matched_push P [] (z ∷ ys) x y h one = absurd h
matched_push P (w ∷ xs) [] x y h one = absurd h
matched_push P (w ∷ xs) (z ∷ ys) x y h one = (h.0, matched_push P xs ys x y h.1 one)

-- ---- the attributes of elements

module _ (m : Module) (given : List Named) (ks : List TypeKind) where
  abbrev to : List ℕ → List ℕ
  to = called given

  abbrev ts : List TypeTree
  ts = type_trees ks

  -- the tree of a type of the module, as structs are called
  abbrev its : LLVMType → TypeTree
  its u = renamed to (L.type_at (trees_of m).types u)

  abbrev trees : List ConstAttr → AttrTrees
  trees ds = attr_trees ts (attrs_data ds)

  pub all_below : (cs : List LLVMConst) (ds : List ConstAttr) → AreAttrsMade m given ks cs ds → HaveTypesBelow (length ks) (attrs_data ds)
  all_below [] [] h = tt
  all_below [] (d ∷ ds) h = absurd h
  all_below (c ∷ cs) [] h = absurd h
  all_below (c ∷ cs) (d ∷ ds) h = (h.0.within, all_below cs ds h.1)

  pub all_are : (cs : List LLVMConst) (ds : List ConstAttr) → AreAttrsMade m given ks cs ds → attrs_of to (L.consts_at (trees_of m).consts cs) ≡ Some (trees ds)
  all_are [] [] h = refl
  all_are [] (d ∷ ds) h = absurd h
  all_are (c ∷ cs) [] h = absurd h
  all_are (c ∷ cs) (d ∷ ds) h = let one = h.0.is in let rest = all_are cs ds h.1 in rw (one, rest) refl

  pub all_keep : (cs : List LLVMConst) (ds : List ConstAttr) → AreAttrsMade m given ks cs ds → broken_in (structs_of ks) (trees ds) ≡ None
  all_keep [] [] h = refl
  all_keep [] (d ∷ ds) h = absurd h
  all_keep (c ∷ cs) [] h = absurd h
  all_keep (c ∷ cs) (d ∷ ds) h = ap (λ (o : Option _). option_or o (broken_in (structs_of ks) (trees ds))) h.0.keeps ∙ all_keep cs ds h.1

  -- the attributes have these types
  abbrev AreTyped : List ConstAttr → List LLVMType → Type 0
  AreTyped ds us = Matched (λ (d : ConstAttr) (u : LLVMType). type_of (attr_tree ts (attr_data d)) ≡ its u) ds us

  element_type : IsModule m → (c : LLVMConst) (d : ConstAttr) (u : LLVMType) → IsAttrMade m given ks c d → IsElement m.consts u c → type_of (attr_tree ts (attr_data d)) ≡ its u
  element_type sound c d u made (k, at, typed) =
      attr_type to (tree_at m c) (attr_tree ts (attr_data d)) made.is ∙ ap (renamed to) (const_type_of m c k sound at) ∙ ap its typed.0

  pub all_typed : IsModule m → (cs : List LLVMConst) (ds : List ConstAttr) (us : List LLVMType) → AreAttrsMade m given ks cs ds → length cs ≡ length us
      → ((i : ℕ) (c : LLVMConst) (u : LLVMType) → slice_get cs i ≡ Some c → slice_get us i ≡ Some u → IsElement m.consts u c) → AreTyped ds us
  all_typed sound [] [] [] h count each = tt
  all_typed sound [] [] (u ∷ us) h count each = absurd (omega arith)
  all_typed sound [] (d ∷ ds) us h count each = absurd h
  all_typed sound (c ∷ cs) [] us h count each = absurd h
  all_typed sound (c ∷ cs) (d ∷ ds) [] h count each = absurd (omega arith)
  all_typed sound (c ∷ cs) (d ∷ ds) (u ∷ us) h count each =
      (element_type sound c d u h.0 (each 0 c u refl refl), all_typed sound cs ds us h.1 (omega arith) (λ i x v at here. each (suc i) x v at here))

  -- so they are what an aggregate of such elements has
  has : (d : ConstAttr) (u : LLVMType) → type_of (attr_tree ts (attr_data d)) ≡ its u → has_type (attr_tree ts (attr_data d)) (its u) ≡ true
  has d u is = ap (λ (t : TypeTree). same_tree t (its u)) is ∙ tree_self (its u)

  have_one : (ds : List ConstAttr) (us : List LLVMType) (e : LLVMType) → AreTyped ds us → All (λ (u : LLVMType). u ≡ e) us → all_have (trees ds) (its e) ≡ true
  have_one [] us e h all = refl
  have_one (d ∷ ds) [] e h all = absurd h
  have_one (d ∷ ds) (u ∷ us) e h all =
      and_from (has_type (attr_tree ts (attr_data d)) (its e)) (all_have (trees ds) (its e))
      (has d e (h.0 ∙ ap its (All-head (λ (v : LLVMType). v ≡ e) u us all))) (have_one ds us e h.1 (All-tail (λ (v : LLVMType). v ≡ e) u us all))

  have_each : (ds : List ConstAttr) (us : List LLVMType) → AreTyped ds us → each_has (trees ds) (renamed_all to (L.types_at (trees_of m).types us)) ≡ true
  have_each [] [] h = refl
  have_each [] (u ∷ us) h = absurd h
  have_each (d ∷ ds) [] h = absurd h
  have_each (d ∷ ds) (u ∷ us) h = and_from (has_type (attr_tree ts (attr_data d)) (its u)) (each_has (trees ds) (renamed_all to (L.types_at (trees_of m).types us))) (has d u h.0) (have_each ds us h.1)

  types_many : (us : List LLVMType) → count_types (renamed_all to (L.types_at (trees_of m).types us)) ≡ length us
  types_many [] = refl
  types_many (u ∷ us) = let rest = types_many us in omega (arith, rest)

  many : (ds : List ConstAttr) (us : List LLVMType) → AreTyped ds us → count_attrs (trees ds) ≡ length us
  many ds us h = count_is ts ds ∙ matched_length (λ (d : ConstAttr) (u : LLVMType). type_of (attr_tree ts (attr_data d)) ≡ its u) ds us h

  fits_one : (ds : List ConstAttr) (us : List LLVMType) (count : ℕ) (e : LLVMType) → AreTyped ds us → length us ≡ count → All (λ (u : LLVMType). u ≡ e) us → misfit (trees ds) (Some (OfOne count (its e))) ≡ None
  fits_one ds us count e h are all = sym (none_wrong (trees ds) (OfOne count (its e)) (eq-eqb (count_attrs (trees ds)) count (many ds us h ∙ are)) (sym (have_one ds us e h all)))

  fits_each : (ds : List ConstAttr) (us : List LLVMType) → AreTyped ds us → misfit (trees ds) (Some (OneOfEach (renamed_all to (L.types_at (trees_of m).types us)))) ≡ None
  fits_each ds us h =
      let fields = renamed_all to (L.types_at (trees_of m).types us) in
      sym (none_wrong (trees ds) (OneOfEach fields) (eq-eqb (count_attrs (trees ds)) (count_types fields) (many ds us h ∙ sym (types_many us))) (sym (have_each ds us h)))

  -- the elements of a struct that was made are the fields of the module's, as structs are called
  fields_here : (name : List ℕ) (us : List LLVMType) → HasFields m.structs name us → IsMade m given (structs_of ks) name
      → fields_in (struct_in (structs_of ks) (to name)) ≡ Some (OneOfEach (renamed_all to (L.types_at (trees_of m).types us)))
  fields_here name us (s, b, found, body, are) (made, is, there) =
      let tree = found_tree (trees_of m).types name m.structs s found in
      let same : is.struct ≡ L.struct_of (trees_of m).types s = same_Some _ _ (sym is.at ∙ tree) in
      let whole : made ≡ renamed_struct to (L.struct_of (trees_of m).types s) = is.is ∙ ap (renamed_struct to) same in
      let named : made.name ≡ to name = ap (λ (x : Struct). x.name) whole ∙ ap to (found_in (L.structs_of m) name (L.struct_of (trees_of m).types s) tree) in
      ap (λ (n : List ℕ). fields_in (struct_in (structs_of ks) n)) (sym named) ∙ ap fields_in (there ∙ ap Some whole)
      ∙ ap (λ (o : Option StructFields). fields_in (Some (renamed_struct to (record { name = s.name; body = option_map (L.fields_of (trees_of m).types) o })))) body
      ∙ ap (λ (vs : List LLVMType). Some (OneOfEach (renamed_all to (L.types_at (trees_of m).types vs)))) are

  -- the attributes of the elements of a list fit its type: a line for each kind that has elements
  pub list_fits : IsModule m → (t : LLVMType) (k : LLVMTypeKind) (us : List LLVMType) (ds : List ConstAttr) → slice_get m.types t.0 ≡ Some k → AreElements m.structs k us
      → ((name : List ℕ) → IsNamed m t name → IsMade m given (structs_of ks) name) → AreTyped ds us → misfit (trees ds) (elements_of (structs_of ks) (its t)) ≡ None
  list_fits sound t k us ds at are made h = ap (λ (w : TypeTree). misfit (trees ds) (elements_of (structs_of ks) (renamed to w))) (type_tree_of m t k sound at) ∙ by k at are
    where
      by : (k : LLVMTypeKind) → slice_get m.types t.0 ≡ Some k → AreElements m.structs k us → misfit (trees ds) (elements_of (structs_of ks) (renamed to (L.type_tree (trees_of m).types k))) ≡ None
      by T.Void at are = absurd are
      by (T.Int w) at are = absurd are
      by (T.Ptr space) at are = absurd are
      by (T.Floating of) at are = absurd are
      by (T.Other of) at are = absurd are
      by (T.Array count e) at are = fits_one ds us count e h are.0 are.1
      by (T.Vector N.Fixed count e) at are = fits_one ds us count e h are.0 are.1
      by (T.Vector N.Scalable count e) at are = absurd are
      by (T.Literal fields layout) at are = ap (λ (vs : List LLVMType). misfit (trees ds) (Some (OneOfEach (renamed_all to (L.types_at (trees_of m).types vs))))) (sym are) ∙ fits_each ds us h
      by (T.Named name) at are = ap (misfit (trees ds)) (fields_here name us are (made name at)) ∙ fits_each ds us h
      by (T.Function result params variadic) at are = absurd are
