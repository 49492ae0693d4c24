-- Names that the export gives: the form takes them, and no two of one function are equal.
use Rattle.std.proofs.Common.{◌≡◌, ◌<◌, ◌^◌, ◌+◌, ◌%◌, ℕ, Bool, true, false, not, ◌&&◌, ◌||◌, ◌==◌, nat_le, List, [], ◌∷◌, ◌++◌, Option, Some, None, refl, sym, ap, ◌∙◌, arith, append_assoc}
use Rattle.std.specs.Prelude.{codes, reverse}
use Rattle.std.specs.Fmt.{decimal}
use Rattle.std.specs.List.{list_all}
use Rattle.std.proofs.lemmas.Bool.{and_from, and_parts, not-true, true≢false, le-leb}
use Rattle.std.proofs.lemmas.Fmt.{decimal_by_steps, decimal_injective}
use Rattle.std.proofs.lemmas.List.{reverse-append, reverse-reverse}
use Rattle.std.proofs.lemmas.List.Folds.{list_all-append}
use Rattle.kinds.specs.Names.{is_bad_name, is_intrinsic_name, is_own_name, is_digit, is_letter, is_plain_byte, IsGoodOrNone}
use Rattle.kinds.proofs.NameLaws.{plain_good}
use Rattle.dialect_types.specs.Names.{IsIdentifier}
use Rattle.to_llvm_ir.specs.Exported.{block_name, value_name}

-- ---- plain bytes

digit_at : (b : ℕ) → b < 10 → is_digit (48 + b) ≡ true
digit_at b lt = and_from (nat_le 48 (48 + b)) (nat_le (48 + b) 57) (le-leb 48 (48 + b) (omega arith)) (le-leb (48 + b) 57 (omega arith))

all_push : (p : ℕ → Bool) (xs : List ℕ) (x : ℕ) → list_all p xs ≡ true → p x ≡ true → list_all p (xs ++ x ∷ []) ≡ true
all_push p xs x h k = list_all-append p xs (x ∷ []) ∙ and_from (list_all p xs) (p x && true) h (and_from (p x) true k refl)

pub decimal_digits : (n : ℕ) → n < 2 ^ 64 → list_all is_digit (decimal n) ≡ true
decimal_digits =
    decimal_by_steps (λ n ds. list_all is_digit ds ≡ true) (λ n lt. and_from (is_digit (48 + n)) true (digit_at n lt) refl)
    (λ n ds big h. all_push is_digit ds (48 + n % 10) h (digit_at (n % 10) (omega arith)))

digit_is_plain : (b : ℕ) → is_digit b ≡ true → is_plain_byte b ≡ true
digit_is_plain b h = by (is_letter b) (is_digit b) h
  where
    by : (l d : Bool) → d ≡ true → ((l || d) || b == 95) ≡ true
    by true d h = refl
    by false true h = refl
    by false false h = cc

digits_are_plain : (ds : List ℕ) → list_all is_digit ds ≡ true → list_all is_plain_byte ds ≡ true
digits_are_plain [] h = refl
digits_are_plain (d ∷ ds) h = let p = and_parts (is_digit d) (list_all is_digit ds) h in and_from (is_plain_byte d) (list_all is_plain_byte ds) (digit_is_plain d p.0) (digits_are_plain ds p.1)

-- ---- names that the form takes

first_is_plain : (b : ℕ) → (is_letter b || b == 95) ≡ true → is_plain_byte b ≡ true
first_is_plain b h = by (is_letter b) (is_digit b) h
  where
    by : (l d : Bool) → (l || b == 95) ≡ true → ((l || d) || b == 95) ≡ true
    by true d h = refl
    by false true h = refl
    by false false h = h

-- an identifier with more behind it
longer : (name rest : List ℕ) → IsIdentifier name → list_all is_plain_byte rest ≡ true → IsGoodOrNone (name ++ rest)
longer [] rest legal h = absurd legal
longer (c ∷ cs) rest legal h =
    plain_good c (cs ++ rest) (and_from (is_plain_byte c) (list_all is_plain_byte (cs ++ rest)) (first_is_plain c legal.0)
    (list_all-append is_plain_byte cs rest ∙ and_from (list_all is_plain_byte cs) (list_all is_plain_byte rest) legal.1 h))

-- a word of plain bytes before a number
numbered : (word : List ℕ) (n : ℕ) → n < 2 ^ 64 → list_all is_plain_byte word ≡ true → list_all is_plain_byte (word ++ decimal n) ≡ true
numbered word n lt h = list_all-append is_plain_byte word (decimal n) ∙ and_from (list_all is_plain_byte word) (list_all is_plain_byte (decimal n)) h (digits_are_plain (decimal n) (decimal_digits n lt))

pub given_good : (name word : List ℕ) (n : ℕ) → n < 2 ^ 64 → IsIdentifier name → list_all is_plain_byte word ≡ true → IsGoodOrNone (name ++ (word ++ decimal n))
given_good name word n lt legal h = longer name (word ++ decimal n) legal (numbered word n lt h)

pub bare_good : (c : ℕ) (cs : List ℕ) (n : ℕ) → n < 2 ^ 64 → list_all is_plain_byte (c ∷ cs) ≡ true → IsGoodOrNone ((c ∷ cs) ++ decimal n)
bare_good c cs n lt h = plain_good c (cs ++ decimal n) (numbered (c ∷ cs) n lt h)

-- the name of a symbol that is no intrinsic
pub no_intrinsic : (name : List ℕ) → is_own_name name ≡ true → is_intrinsic_name name ≡ false
no_intrinsic name h = not-true (is_intrinsic_name name) (and_parts (not (is_bad_name name)) (not (is_intrinsic_name name)) h).1

-- ---- names are told apart by what stands behind their last byte that is no digit

-- digits up to the first byte that is none
same_front : (ds es us vs : List ℕ) (x y : ℕ) → list_all is_digit ds ≡ true → list_all is_digit es ≡ true → is_digit x ≡ false → is_digit y ≡ false → ds ++ x ∷ us ≡ es ++ y ∷ vs → (ds ≡ es) × (x ≡ y)
same_front [] [] us vs x y p q other other' h = (refl, cc)
same_front [] (e ∷ es) us vs x y p q other other' h =
    let r = and_parts (is_digit e) (list_all is_digit es) q in
    let same : x ≡ e = cc in
    absurd (true≢false (sym r.0 ∙ ap is_digit (sym same) ∙ other))
same_front (d ∷ ds) [] us vs x y p q other other' h =
    let r = and_parts (is_digit d) (list_all is_digit ds) p in
    let same : d ≡ y = cc in
    absurd (true≢false (sym r.0 ∙ ap is_digit same ∙ other'))
same_front (d ∷ ds) (e ∷ es) us vs x y p q other other' h =
    let r = and_parts (is_digit d) (list_all is_digit ds) p in
    let s = and_parts (is_digit e) (list_all is_digit es) q in
    let one : d ≡ e = cc in
    let rest : ds ++ x ∷ us ≡ es ++ y ∷ vs = cc in
    let t = same_front ds es us vs x y r.1 s.1 other other' rest in
    (let k = t.0 in cc, t.1)

all_reverse : (p : ℕ → Bool) (xs : List ℕ) → list_all p xs ≡ true → list_all p (reverse xs) ≡ true
all_reverse p [] h = refl
all_reverse p (x ∷ xs) h = let r = and_parts (p x) (list_all p xs) h in ap (list_all p) (reverse-append (x ∷ []) xs) ∙ all_push p (reverse xs) x (all_reverse p xs r.1) r.0

reversed : (us ds : List ℕ) (x : ℕ) → reverse (us ++ x ∷ ds) ≡ reverse ds ++ x ∷ reverse us
reversed us ds x = reverse-append us (x ∷ ds) ∙ ap (λ (r : List ℕ). r ++ reverse us) (reverse-append (x ∷ []) ds) ∙ append_assoc (reverse ds) (x ∷ []) (reverse us)

same_back : (us vs ds es : List ℕ) (x y : ℕ) → list_all is_digit ds ≡ true → list_all is_digit es ≡ true → is_digit x ≡ false → is_digit y ≡ false → us ++ x ∷ ds ≡ vs ++ y ∷ es → (ds ≡ es) × (x ≡ y)
same_back us vs ds es x y p q other other' h =
    let r = same_front (reverse ds) (reverse es) (reverse us) (reverse vs) x y (all_reverse is_digit ds p) (all_reverse is_digit es q) other other' (sym (reversed us ds x) ∙ ap reverse h ∙ reversed vs es y) in
    (sym (reverse-reverse ds) ∙ ap reverse r.0 ∙ reverse-reverse es, r.1)

-- ---- the forms of names

-- a text, a byte that is no digit, and a number
pub record EndsIn (name : List ℕ) (x n : ℕ) : Type 0 where
  pub front : List ℕ
  pub is : name ≡ front ++ x ∷ decimal n

pub value_ends : (name : Option (List ℕ)) (n : ℕ) → EndsIn (value_name name n) 118 n
value_ends None n = record { front = []; is = refl }
value_ends (Some name) n = record { front = name ++ 95 ∷ []; is = append_assoc name (95 ∷ 118 ∷ []) (decimal n) ∙ sym (append_assoc name (95 ∷ []) (118 ∷ decimal n)) }

pub block_ends : (label : Option (List ℕ)) (n : ℕ) → EndsIn (block_name label n) 107 n
block_ends None n = record { front = codes "bloc"; is = refl }
block_ends (Some label) n = record { front = label ++ codes "_bloc"; is = append_assoc label (codes "_block") (decimal n) ∙ sym (append_assoc label (codes "_bloc") (107 ∷ decimal n)) }

pub same_ends : (a b : List ℕ) (x y m n : ℕ) → m < 2 ^ 64 → n < 2 ^ 64 → is_digit x ≡ false → is_digit y ≡ false → EndsIn a x m → EndsIn b y n → a ≡ b → (m ≡ n) × (x ≡ y)
same_ends a b x y m n small small' other other' h k e =
    let r = same_back h.front k.front (decimal m) (decimal n) x y (decimal_digits m small) (decimal_digits n small') other other' (sym h.is ∙ e ∙ k.is) in
    (decimal_injective m n small small' r.0, r.1)
