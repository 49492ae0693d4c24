-- A constant in its one form has the term of the constant.
use Rattle.std.proofs.Common.{◌≡◌, ℕ, suc, Bool, true, false, ◌&&◌, ◌+◌, refl, ap, sym, ◌∙◌, List, [], ◌∷◌, map, length, Option, Some, None, if◌then◌else◌, arith}
use Rattle.std.specs.List.{list_all}
use Rattle.std.proofs.lemmas.Bool.{and_parts}
use Rattle.std.specs.Option.{option_map, option_map_or}
use Rattle.kinds.specs.declared.fill.Fill.{Fill}
use Rattle.kinds.specs.declared.fill.Fill.TheVariants as F
use Rattle.kinds.specs.Fill.{is_own_fill}
use Rattle.kinds.specs.Held.{width_in}
use Rattle.kinds.specs.Types.{TypeTree, IntType, ArrayType, shape}
use Rattle.llvm_core.specs.Consts.{common_fill, is_fill, all_ints, is_zero}
use Rattle.llvm_core.specs.Data.{ConstTree, IntConst, FilledConst, BytesConst, ListConst, SplatConst, PlaceholderConst, ConstTrees, NoConsts, ThenConst, fill_in, int_in, told_of, is_byte_array, listed, filled_const, formed}
use Rattle.meaning.specs.Terms.{Int, Filled, ListOf, SplatOf, ThenTerm, terms_of, filled_term}
use Rattle.meaning.specs.Constants.{fill_of, fills_of, list_term, bytes_term, splat_term}
use Rattle.meaning.specs.Setting.{Setting}
use Rattle.meaning.specs.Llvm.{const_term, const_terms}

-- ---- what a constant's type asks for

abbrev pub count_consts : ConstTrees → ℕ
count_consts NoConsts = 0
count_consts (ThenConst c cs) = 1 + count_consts cs

-- each of them that is an integer has 8 bits
abbrev pub HasByteWidth : ConstTree → Type 0
HasByteWidth (IntConst width value) = width ≡ 8
HasByteWidth _ = Unit {0}

abbrev pub HaveByteWidth : ConstTrees → Type 0
HaveByteWidth NoConsts = Unit {0}
HaveByteWidth (ThenConst c cs) = HasByteWidth c × HaveByteWidth cs

-- zero of the type is no integer; and of an array of integers of 8 bits these are the elements
pub record AsksFor (type : TypeTree) (cs : ConstTrees) : Type 0 where
  pub made : is_own_fill F.Zero (shape type) ≡ true
  pub bytes : is_byte_array type ≡ true → (type ≡ ArrayType (count_consts cs) (IntType 8)) × HaveByteWidth cs

-- what a constant is made of is what its type asks for
abbrev pub AsksForParts : ConstTree → Type 0
AsksForParts (IntConst width value) = Unit {0}
AsksForParts (FilledConst fill type) = Unit {0}
AsksForParts (BytesConst bytes) = Unit {0}
AsksForParts (ListConst type cs) = AsksFor type cs
AsksForParts (SplatConst type c) = is_own_fill F.Zero (shape type) ≡ true
AsksForParts (PlaceholderConst number type) = Unit {0}

-- ---- zero, undef and poison

own_filled : (fill : Fill) (type : TypeTree) → is_own_fill F.Zero (shape type) ≡ true → filled_term fill type ≡ Filled fill type
own_filled F.Zero type h = ap (λ (b : Bool). if b then Filled F.Zero type else Int (width_in type) 0) h
own_filled F.Undef type h = refl
own_filled F.Poison type h = refl

-- what is zero, undef or poison in its one form has the term of that
pub filled_fill : (fill : Fill) (type : TypeTree) → fill_of (filled_term fill type) ≡ Some fill
filled_fill F.Zero type = by (is_own_fill F.Zero (shape type))
  where
    by : (b : Bool) → fill_of (if b then Filled F.Zero type else Int (width_in type) 0) ≡ Some F.Zero
    by true = refl
    by false = refl
filled_fill F.Undef type = refl
filled_fill F.Poison type = refl

-- the one says what the other says, where it says anything
abbrev Tells : Option Fill → Option Fill → Type 0
Tells None o = Unit {0}
Tells (Some fill) o = o ≡ Some fill

abbrev TellAll : List (Option Fill) → List (Option Fill) → Type 0
TellAll [] [] = Unit {0}
TellAll (o ∷ os) (u ∷ us) = Tells o u × TellAll os us
TellAll _ _ = ⊥

tells : (setting : Setting) (c : ConstTree) → Tells (fill_in c) (fill_of (const_term setting c))
tells setting (IntConst w v) = by (is_zero v)
  where
    by : (b : Bool) → Tells (if b then Some F.Zero else None) (if b then Some F.Zero else None)
    by true = refl
    by false = tt
tells setting (FilledConst fill type) = filled_fill fill type
tells setting (BytesConst bytes) = tt
tells setting (ListConst type cs) = tt
tells setting (SplatConst type c) = tt
tells setting (PlaceholderConst number type) = tt

tell_all : (setting : Setting) (cs : ConstTrees) → TellAll (told_of fill_in cs) (fills_of (const_terms setting cs))
tell_all setting NoConsts = tt
tell_all setting (ThenConst c cs) = (tells setting c, tell_all setting cs)

-- where each says that one, the others say the same
all_told : (fill : Fill) (os us : List (Option Fill)) → TellAll os us → list_all (is_fill fill) os ≡ true → us ≡ os
all_told fill [] [] t h = refl
all_told fill [] (u ∷ us) t h = absurd t
all_told fill (o ∷ os) [] t h = absurd t
all_told fill (None ∷ os) (u ∷ us) t h = cc
all_told fill (Some f ∷ os) (u ∷ us) t h = cc (t.0, all_told fill os us t.1 (and_parts (is_fill fill (Some f)) (list_all (is_fill fill) os) h).1)

common_told : (os us : List (Option Fill)) (fill : Fill) → TellAll os us → common_fill os ≡ Some fill → us ≡ os
common_told os us fill t = by (list_all (is_fill F.Zero) os) (list_all (is_fill F.Undef) os) (list_all (is_fill F.Poison) os) (all_told F.Zero os us t) (all_told F.Undef os us t) (all_told F.Poison os us t)
  where
    by : (a b c : Bool) → (a ≡ true → us ≡ os) → (b ≡ true → us ≡ os) → (c ≡ true → us ≡ os)
        → (if a then Some F.Zero else if b then Some F.Undef else if c then Some F.Poison else None) ≡ Some fill → us ≡ os
    by true b c x y z h = x refl
    by false true c x y z h = y refl
    by false false true x y z h = z refl
    by false false false x y z h = cc

-- ---- bytes

-- the terms of integers of 8 bits
byte_terms : (setting : Setting) (cs : ConstTrees) (bytes : List ℕ) → HaveByteWidth cs → all_ints (told_of int_in cs) ≡ Some bytes
    → (const_terms setting cs ≡ terms_of (map (Int 8) bytes)) × (count_consts cs ≡ length bytes)
byte_terms setting NoConsts [] h e = (refl, refl)
byte_terms setting NoConsts (b ∷ bytes) h e = cc
byte_terms setting (ThenConst (IntConst w v) cs) bytes h e = by (all_ints (told_of int_in cs)) refl e (λ ns is. byte_terms setting cs ns h.1 is)
  where
    by : (o : Option (List ℕ)) → all_ints (told_of int_in cs) ≡ o → option_map (λ (ns : List ℕ). v ∷ ns) o ≡ Some bytes
        → ((ns : List ℕ) → all_ints (told_of int_in cs) ≡ Some ns → (const_terms setting cs ≡ terms_of (map (Int 8) ns)) × (count_consts cs ≡ length ns))
        → (ThenTerm (Int w v) (const_terms setting cs) ≡ terms_of (map (Int 8) bytes)) × (1 + count_consts cs ≡ length bytes)
    by None is e next = cc
    by (Some ns) is e next =
        let rest = next ns is in
        let same : bytes ≡ v ∷ ns = cc in
        let long : length bytes ≡ suc (length ns) = ap length same in
        let count = rest.1 in
        (cc (rest.0, same, h.0), omega (arith, long, count))
byte_terms setting (ThenConst (FilledConst fill t) cs) bytes h e = cc
byte_terms setting (ThenConst (BytesConst bs) cs) bytes h e = cc
byte_terms setting (ThenConst (ListConst t ds) cs) bytes h e = cc
byte_terms setting (ThenConst (SplatConst t d) cs) bytes h e = cc
byte_terms setting (ThenConst (PlaceholderConst n t) cs) bytes h e = cc

-- bytes that are all 0
pub zero_bytes : (bytes : List ℕ) → list_all (is_fill F.Zero) (fills_of (terms_of (map (Int 8) bytes))) ≡ list_all is_zero bytes
zero_bytes [] = refl
zero_bytes (b ∷ bs) = by (is_zero b) (zero_bytes bs)
  where
    by : (z : Bool) → list_all (is_fill F.Zero) (fills_of (terms_of (map (Int 8) bs))) ≡ list_all is_zero bs
        → (is_fill F.Zero (if z then Some F.Zero else None) && list_all (is_fill F.Zero) (fills_of (terms_of (map (Int 8) bs)))) ≡ (z && list_all is_zero bs)
    by true rest = rest
    by false rest = refl

-- ---- the one form

bytes_formed : (setting : Setting) (bytes : List ℕ) → const_term setting (formed (BytesConst bytes)) ≡ bytes_term bytes
bytes_formed setting bytes = by (list_all is_zero bytes) (zero_bytes bytes)
  where
    by : (z : Bool) → list_all (is_fill F.Zero) (fills_of (terms_of (map (Int 8) bytes))) ≡ z → const_term setting (if z then FilledConst F.Zero (ArrayType (length bytes) (IntType 8)) else BytesConst bytes) ≡ bytes_term bytes
    by true all = ap (λ (b : Bool). option_map_or (λ (fill : Fill). Filled fill (ArrayType (length bytes) (IntType 8)))
        (if b then Some F.Zero else if list_all (is_fill F.Undef) (fills_of (terms_of (map (Int 8) bytes))) then Some F.Undef else if list_all (is_fill F.Poison) (fills_of (terms_of (map (Int 8) bytes))) then Some F.Poison else None)
        (ListOf (ArrayType (length bytes) (IntType 8)) (terms_of (map (Int 8) bytes)))) (sym all)
    by false all = refl

-- a list of constants in its one form
pub listed_term : (setting : Setting) (type : TypeTree) (cs : ConstTrees) → AsksFor type cs → const_term setting (listed type cs) ≡ list_term type (const_terms setting cs)
listed_term setting type cs h = by (common_fill (told_of fill_in cs)) refl
  where
    as_bytes : (b : Bool) → is_byte_array type ≡ b → (o : Option (List ℕ)) → all_ints (told_of int_in cs) ≡ o
        → const_term setting (option_map_or BytesConst (if b then o else None) (ListConst type cs)) ≡ list_term type (const_terms setting cs)
    as_bytes false is o ints = refl
    as_bytes true is None ints = refl
    as_bytes true is (Some bytes) ints =
        let asks = h.bytes is in
        let terms = byte_terms setting cs bytes asks.1 ints in
        let typed : type ≡ ArrayType (length bytes) (IntType 8) = asks.0 ∙ ap (λ (n : ℕ). ArrayType n (IntType 8)) terms.1 in
        ap (list_term (ArrayType (length bytes) (IntType 8))) (sym terms.0) ∙ ap (λ (t : TypeTree). list_term t (const_terms setting cs)) (sym typed)

    by : (o : Option Fill) → common_fill (told_of fill_in cs) ≡ o
        → const_term setting (option_map_or (λ (fill : Fill). FilledConst fill type) o (option_map_or BytesConst (if is_byte_array type then all_ints (told_of int_in cs) else None) (ListConst type cs)))
        ≡ list_term type (const_terms setting cs)
    by None is = as_bytes (is_byte_array type) refl (all_ints (told_of int_in cs)) refl
    by (Some fill) is =
        own_filled fill type h.made
        ∙ ap (λ (o : Option Fill). option_map_or (λ (f : Fill). Filled f type) o (ListOf type (const_terms setting cs)))
        (sym (ap common_fill (common_told (told_of fill_in cs) (fills_of (const_terms setting cs)) fill (tell_all setting cs) is) ∙ is))

splat_formed : (setting : Setting) (type : TypeTree) (c : ConstTree) (o : Option Fill) → Tells o (fill_of (const_term setting c)) → is_own_fill F.Zero (shape type) ≡ true
    → const_term setting (option_map_or (λ (fill : Fill). FilledConst fill type) o (SplatConst type c)) ≡ splat_term type (const_term setting c)
splat_formed setting type c None t h = refl
splat_formed setting type c (Some fill) t h =
    own_filled fill type h ∙ ap (λ (o : Option Fill). option_map_or (λ (f : Fill). Filled f type) o (SplatOf type (const_term setting c))) (sym t)

-- zero, undef or poison in one form has the term of that
pub filled_formed : (setting : Setting) (fill : Fill) (type : TypeTree) → const_term setting (filled_const fill type) ≡ filled_term fill type
filled_formed setting fill type = by (is_own_fill fill (shape type)) refl
  where
    by : (b : Bool) → is_own_fill fill (shape type) ≡ b → const_term setting (if b then FilledConst fill type else IntConst (width_in type) 0) ≡ (if b then Filled fill type else Int (width_in type) 0)
    by true is = ap (λ (b : Bool). if b then Filled fill type else Int (width_in type) 0) is
    by false is = refl

-- a constant in its one form has the term of the constant, whose type asks for its parts
pub formed_term : (setting : Setting) (c : ConstTree) → AsksForParts c → const_term setting (formed c) ≡ const_term setting c
formed_term setting (IntConst w v) h = refl
formed_term setting (FilledConst fill type) h = filled_formed setting fill type
formed_term setting (BytesConst bytes) h = bytes_formed setting bytes
formed_term setting (ListConst type cs) h = listed_term setting type cs h
formed_term setting (SplatConst type c) h = splat_formed setting type c (fill_in c) (tells setting c) h
formed_term setting (PlaceholderConst number type) h = refl
