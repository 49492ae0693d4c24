-- Constants of a list, one by one.
use Rattle.std.proofs.Common.{Some, None, Bool, true, false, ◌&&◌, ◌≡◌, ◌<◌, ◌+◌, drop, sym, subst, ◌∙◌, ℕ, zero, suc, List, [], ◌∷◌, length, get_or, map, refl, ap, arith}
use Rattle.std.proofs.lemmas.List.{drop_more}
use Rattle.dialect_types.specs.Trees.{TypeTree, type_at, types_at}
use Rattle.dialect_types.specs.declared.types.TypeHandle.{TypeHandle}
use Rattle.kinds.specs.Types.{count_types}
use Rattle.std.specs.Option.{option_or}
use Rattle.std.proofs.lemmas.Bool.{eq-eqb, ne_eqb}
use Rattle.const_attrs.specs.declared.attr_err.AttrErr.TheVariants as E
use Rattle.const_attrs.specs.Verified.{Elements, OfOne, OneOfEach, all_have, each_has, has_type, count_attrs, are_as_many, have_types, misfit, unless}
use Rattle.const_attrs.specs.declared.const_attr.ConstAttr.{ConstAttr}
use Rattle.const_attrs.specs.Text.{attr_text, attr_texts}
use Rattle.const_attrs.specs.Trees.{AttrTrees, attr_tree, attr_trees, attr_data, attrs_data, HasTypesBelow, HaveTypesBelow}

types_at_place : (n : ℕ) (cs : List ConstAttr) (i : ℕ) (d : ConstAttr) → HaveTypesBelow n (attrs_data cs) → i < length cs → HasTypesBelow n (attr_data (get_or cs i d))
types_at_place n [] i d h l = absurd (omega arith)
types_at_place n (c ∷ cs) zero d h l = h.0
types_at_place n (c ∷ cs) (suc i) d h l = types_at_place n cs i d h.1 (omega arith)

-- the types of each are below what those of all are
pub types_at_index : (n : ℕ) (cs : List ConstAttr) (i : ℕ) (c : ConstAttr) → HaveTypesBelow n (attrs_data cs) → i < length cs → c ≡ get_or cs i c → HasTypesBelow n (attr_data c)
types_at_index n cs i c h l is = subst (λ (x : ConstAttr). HasTypesBelow n (attr_data x)) (sym is) (types_at_place n cs i c h l)

-- the first of the rest is the one at the place where it begins
pub rest_at : {X : Type 0} (xs : List X) (i : ℕ) (x : X) → i < length xs → x ≡ get_or xs i x → drop i xs ≡ x ∷ drop (i + 1) xs
rest_at {X} xs i x l is = drop_more xs i x l ∙ ap (λ (y : X). y ∷ drop (i + 1) xs) (sym is)

-- the texts of constants are those of their trees
pub texts_map : (ts : List TypeTree) (cs : List ConstAttr) → attr_texts (attr_trees ts (attrs_data cs)) ≡ map (λ (c : ConstAttr). attr_text (attr_tree ts (attr_data c))) cs
texts_map ts [] = refl
texts_map ts (c ∷ cs) = ap (λ (xs : List (List ℕ)). attr_text (attr_tree ts (attr_data c)) ∷ xs) (texts_map ts cs)

-- ---- the tests of a list by those of its first and of the rest

-- all have the type where the first and the rest have it
pub all_have_more : (ts : List TypeTree) (cs : List ConstAttr) (i : ℕ) (c : ConstAttr) (t : TypeTree) (whole x : Bool) → i < length cs → c ≡ get_or cs i c
    → whole ≡ all_have (attr_trees ts (attrs_data (drop i cs))) t → x ≡ has_type (attr_tree ts (attr_data c)) t → whole ≡ (x && all_have (attr_trees ts (attrs_data (drop (i + 1) cs))) t)
all_have_more ts cs i c t whole x l is so own =
    so ∙ ap (λ (ys : List ConstAttr). all_have (attr_trees ts (attrs_data ys)) t) (rest_at cs i c l is) ∙ ap (λ (y : Bool). y && all_have (attr_trees ts (attrs_data (drop (i + 1) cs))) t) (sym own)

-- each has the type at its place where the first and each of the rest have
pub each_has_more : (ts : List TypeTree) (cs : List ConstAttr) (tys : List TypeHandle) (i : ℕ) (c : ConstAttr) (whole x : Bool) → i < length cs → i < length tys → c ≡ get_or cs i c
    → whole ≡ each_has (attr_trees ts (attrs_data (drop i cs))) (types_at ts (drop i tys)) → x ≡ has_type (attr_tree ts (attr_data c)) (type_at ts (get_or tys i (record { 0 = 0 })))
    → whole ≡ (x && each_has (attr_trees ts (attrs_data (drop (i + 1) cs))) (types_at ts (drop (i + 1) tys)))
each_has_more ts cs tys i c whole x l m is so own =
    so ∙ ap (λ (ys : List ConstAttr). each_has (attr_trees ts (attrs_data ys)) (types_at ts (drop i tys))) (rest_at cs i c l is)
    ∙ ap (λ (us : List TypeHandle). each_has (attr_trees ts (attrs_data (c ∷ drop (i + 1) cs))) (types_at ts us)) (drop_more tys i (record { 0 = 0 }) m)
    ∙ ap (λ (y : Bool). y && each_has (attr_trees ts (attrs_data (drop (i + 1) cs))) (types_at ts (drop (i + 1) tys))) (sym own)

-- ---- how many there are

pub count_is : (ts : List TypeTree) (cs : List ConstAttr) → count_attrs (attr_trees ts (attrs_data cs)) ≡ length cs
count_is ts [] = refl
count_is ts (c ∷ cs) = omega (arith, count_is ts cs)

pub types_are : (ts : List TypeTree) (tys : List TypeHandle) → count_types (types_at ts tys) ≡ length tys
types_are ts [] = refl
types_are ts (t ∷ tys) = omega (arith, types_are ts tys)

-- ---- what aggregates break

pub wrong_count : (cs : AttrTrees) (es : Elements) → are_as_many cs es ≡ false → Some E.ElementCount ≡ misfit cs (Some es)
wrong_count cs es many = ap (λ (x : Bool). option_or (unless x E.ElementCount) (unless (have_types cs es) E.ElementType)) (sym many)

pub wrong_type : (cs : AttrTrees) (es : Elements) → are_as_many cs es ≡ true → false ≡ have_types cs es → Some E.ElementType ≡ misfit cs (Some es)
wrong_type cs es many types = ap (λ (x : Bool). unless x E.ElementType) types ∙ ap (λ (x : Bool). option_or (unless x E.ElementCount) (unless (have_types cs es) E.ElementType)) (sym many)

pub none_wrong : (cs : AttrTrees) (es : Elements) → are_as_many cs es ≡ true → true ≡ have_types cs es → None ≡ misfit cs (Some es)
none_wrong cs es many types = ap (λ (x : Bool). unless x E.ElementType) types ∙ ap (λ (x : Bool). option_or (unless x E.ElementCount) (unless (have_types cs es) E.ElementType)) (sym many)

-- so many of one type, and one of each of some
pub one_many : (ts : List TypeTree) (cs : List ConstAttr) (n : ℕ) (t : TypeTree) → length cs ≡ n → are_as_many (attr_trees ts (attrs_data cs)) (OfOne n t) ≡ true
one_many ts cs n t e = eq-eqb _ _ (count_is ts cs ∙ e)

pub one_not_many : (ts : List TypeTree) (cs : List ConstAttr) (n : ℕ) (t : TypeTree) → (length cs ≡ n → ⊥) → are_as_many (attr_trees ts (attrs_data cs)) (OfOne n t) ≡ false
one_not_many ts cs n t e = ne_eqb _ _ (λ h. e (sym (count_is ts cs) ∙ h))

pub each_many : (ts : List TypeTree) (cs : List ConstAttr) (tys : List TypeHandle) → length cs ≡ length tys → are_as_many (attr_trees ts (attrs_data cs)) (OneOfEach (types_at ts tys)) ≡ true
each_many ts cs tys e = eq-eqb _ _ (count_is ts cs ∙ e ∙ sym (types_are ts tys))

pub each_not_many : (ts : List TypeTree) (cs : List ConstAttr) (tys : List TypeHandle) → (length cs ≡ length tys → ⊥) → are_as_many (attr_trees ts (attrs_data cs)) (OneOfEach (types_at ts tys)) ≡ false
each_not_many ts cs tys e = ne_eqb _ _ (λ h. e (sym (count_is ts cs) ∙ h ∙ types_are ts tys))
