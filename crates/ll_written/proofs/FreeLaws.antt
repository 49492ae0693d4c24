-- Tokens that may be written behind any token, and lists of tokens that may.
use Rattle.std.proofs.Common.{◌≡◌, ℕ, true, false, List, [], ◌∷◌, ◌++◌, Option, Some, None, refl}
use Rattle.std.specs.List.{flat_map, AllByRecursion}
use Rattle.ll_lines.specs.Lines.{Text}
use Rattle.ll_spacing.specs.Following.{goes_on}
use Rattle.ll_spacing.specs.Forms.{IsText, is_word}
use Rattle.ll_spacing.specs.Spacing.{Spaced, Follows, AreSpacedBehind, AreBlanks, IsWhole}
use Rattle.ll_spacing.proofs.FollowLaws.{blanks_follow, plain_follows}
use Rattle.ll_spacing.proofs.SignLaws.{sign_whole}
use Rattle.ll_spacing.proofs.TextLaws.{text_whole}
use Rattle.ll_tokens.specs.Pieces.{token as piece, sign_at}
use Rattle.ll_tokens.specs.declared.kinds.Kind.{Kind}
use Rattle.ll_tokens.specs.declared.kinds.Kind.TheVariants.{Word, Comma}
use Rattle.ll_written.specs.Written.{token, apart, close, word, comma}

abbrev pub IsFree : Spaced → Type 0
IsFree x = (last : Option Kind) → Follows last x

-- the first may stand behind any token, and each other behind the one before it
pub record AreFree (xs : List Spaced) : Type 0 where
  pub behind : (last : Option Kind) → AreSpacedBehind last xs

-- ---- lists

pub spaced_then : (last : Option Kind) (xs ys : List Spaced) → AreSpacedBehind last xs → AreFree ys → AreSpacedBehind last (xs ++ ys)
spaced_then last [] ys h k = k.behind last
spaced_then last (x ∷ xs) ys h k = (h.0, spaced_then (Some x.kind) xs ys h.1 k)

pub none_free : AreFree []
none_free = record { behind = λ last. tt }

pub then_free : {x : Spaced} {xs : List Spaced} → IsFree x → AreFree xs → AreFree (x ∷ xs)
then_free {x} h k = record { behind = λ last. (h last, k.behind (Some x.kind)) }

pub one_free : {x : Spaced} → IsFree x → AreFree (x ∷ [])
one_free h = then_free h none_free

pub both_free : (xs ys : List Spaced) → AreFree xs → AreFree ys → AreFree (xs ++ ys)
both_free xs ys h k = record { behind = λ last. spaced_then last xs ys (h.behind last) k }

pub each_free : {A : Type 0} (P : A → Type 0) (f : A → List Spaced) → ((x : A) → P x → AreFree (f x)) → (xs : List A) → AllByRecursion P xs → AreFree (flat_map f xs)
each_free P f free [] all = none_free
each_free P f free (x ∷ xs) all = both_free (f x) (flat_map f xs) (free x all.0) (each_free P f free xs all.1)

-- ---- tokens

-- behind a blank
pub gap_free : (b : ℕ) (bs : Text) (k : Kind) (t : Text) → AreBlanks (b ∷ bs) → IsWhole k t → IsFree (token (b ∷ bs) k t)
gap_free b bs k t blanks whole None = record { blanks = blanks; whole = whole; apart = tt }
gap_free b bs k t blanks whole (Some j) = record { blanks = blanks; whole = whole; apart = blanks_follow j (b ∷ bs) blanks }

pub apart_free : (k : Kind) (t : Text) → IsText k t → IsFree (apart k t)
apart_free k t is = gap_free 32 [] k t refl (text_whole k t is)

pub word_whole : (t : Text) → is_word t ≡ true → IsWhole Word t
word_whole t e = text_whole Word t (IsText.word t e)

pub word_free : (t : Text) → is_word t ≡ true → IsFree (word t)
word_free t e = apart_free Word t (IsText.word t e)

pub sign_free : (k : Kind) (b : ℕ) → sign_at b ≡ piece k 1 → IsFree (apart k (b ∷ []))
sign_free k b e = apart_free k (b ∷ []) (IsText.sign k b e)

-- directly behind any token
pub sign_close : (k : Kind) (b : ℕ) → sign_at b ≡ piece k 1 → ((j : Kind) → goes_on j b ≡ false) → IsFree (close k (b ∷ []))
sign_close k b e next None = record { blanks = refl; whole = sign_whole k b e; apart = tt }
sign_close k b e next (Some j) = record { blanks = refl; whole = sign_whole k b e; apart = next j }

pub comma_free : IsFree comma
unfolding sign_at
comma_free = sign_close Comma 44 refl (λ j. plain_follows j 44 refl)
