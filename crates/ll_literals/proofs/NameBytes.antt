-- The table of the bytes of bare names says what their definition says.
use Rattle.std.proofs.Common.{◌≡◌, ◌<◌, ◌+◌, ℕ, Bool, true, false, ◌&&◌, cond, nat_eq, List, [], ◌∷◌, map, take, get_or, slice_index_or, bit_or, ◌++◌, codes, refl, sym, ap, ◌∙◌, arith, length}
use Rattle.std.specs.List.{range_with_len, list_all}
use Rattle.std.proofs.lemmas.List.{get_or-map, take_more}
use Rattle.std.proofs.lemmas.List.FromFn.{get_or-map-range_with_len}
use Rattle.ll_literals.specs.Names.{is_name_byte}

-- the table as the code has it
abbrev kinds : List ℕ
kinds = codes "1111111111111111111111111111111111110111111110010000000000111111100000000000000000000000000111101000000000000000000000000001111111111111111111111111111111111111111111111111111111111111111111111111111111111111111111111111111111111111111111111111111111111111"

-- the code of a byte that may stand in a name, or of one that may not
abbrev pub code_of : Bool → ℕ
code_of b = cond b 48 49

pub name_kinds : (b : ℕ) → b < 256 → slice_index_or kinds b 49 ≡ code_of (is_name_byte b)
name_kinds b small =
    sym (get_or-map (λ (k : ℕ). k) kinds b 49 49 small) ∙ ap (λ (l : List ℕ). slice_index_or l b 49) (all) ∙ get_or-map-range_with_len (λ (x : ℕ). code_of (is_name_byte x)) 0 256 b b 49 small (omega arith)
  where
    all : map (λ (k : ℕ). k) kinds ≡ map (λ (x : ℕ). code_of (is_name_byte x)) (range_with_len 0 256)
    all = refl

-- ---- the union of the codes of bytes

union : (a b : Bool) → bit_or (code_of a) (code_of b) ≡ code_of (a && b)
union true true = refl
union true false = refl
union false true = refl
union false false = refl

and_true : (a : Bool) → (a && true) ≡ a
and_true true = refl
and_true false = refl

all_more : (xs : List ℕ) (x : ℕ) → list_all is_name_byte (xs ++ x ∷ []) ≡ (list_all is_name_byte xs && is_name_byte x)
all_more [] x = and_true (is_name_byte x)
all_more (y ∷ xs) x = by (is_name_byte y) (all_more xs x)
  where
    by : (a : Bool) → list_all is_name_byte (xs ++ x ∷ []) ≡ (list_all is_name_byte xs && is_name_byte x)
        → (a && list_all is_name_byte (xs ++ x ∷ [])) ≡ ((a && list_all is_name_byte xs) && is_name_byte x)
    by true e = e
    by false e = refl

-- the union with the code of one byte more
pub union_next : (bytes : List ℕ) (i d so_far next : ℕ) → i < length bytes → so_far ≡ code_of (list_all is_name_byte (take i bytes)) → next ≡ code_of (is_name_byte (get_or bytes i d))
    → bit_or so_far next ≡ code_of (list_all is_name_byte (take (i + 1) bytes))
union_next bytes i d so_far next lt e f =
    rw (e, f) (union (list_all is_name_byte (take i bytes)) (is_name_byte (get_or bytes i d)))
    ∙ ap code_of (sym (all_more (take i bytes) (get_or bytes i d))) ∙ ap (λ (bs : List ℕ). code_of (list_all is_name_byte bs)) (sym (take_more bytes i d lt))

-- no code of another byte is in the union
pub all_by_union : (b : Bool) → nat_eq (code_of b) 48 ≡ b
all_by_union true = refl
all_by_union false = refl
