-- Tokens that are well spaced are cut from their text, one behind another.
use Rattle.std.proofs.Common.{◌≡◌, ◌≤◌, ℕ, suc, ◌+◌, ◌-◌, Bool, true, List, [], ◌∷◌, ◌++◌, length, length-append, take, drop, map, Option, Some, None, append_assoc, refl, sym, ap, subst, ◌∙◌, arith}
use Rattle.std.specs.List.{list_all}
use Rattle.std.proofs.lemmas.Bool.{and_parts}
use Rattle.std.proofs.lemmas.List.{append-nil, take_at, drop_at}
use Rattle.ll_tokens.specs.Bytes.{is_blank}
use Rattle.ll_tokens.specs.Pieces.{Found, blank, piece_at}
use Rattle.ll_tokens.specs.Tokens.{put, tokens_from, tokens_of}
use Rattle.ll_tokens.specs.declared.kinds.Kind.{Kind}
use Rattle.ll_tokens.specs.declared.piece.Piece.{Piece}
use Rattle.ll_tokens.specs.declared.tokens.Token.{Token}
use Rattle.ll_tokens.proofs.FitLaws.{FitsIn}
use Rattle.ll_tokens.proofs.PieceLaws.{piece_fits}
use Rattle.ll_tokens.proofs.TokenLaws.{steps}
use Rattle.ll_spacing.specs.Following.{goes_on, Stops}
use Rattle.ll_spacing.specs.Spacing.{Spaced, AreSpaced, AreSpacedBehind, AreBlanks, IsWhole, text_of, placed, bytes_of}
use Rattle.ll_spacing.proofs.FollowLaws.{blanks_follow}
use Rattle.ll_spacing.proofs.PieceLaws.{piece_same}

blank_piece : (b : ℕ) (bs : List ℕ) → is_blank b ≡ true → piece_at (b ∷ bs) ≡ blank 1
unfolding piece_at
blank_piece b bs e = rw e refl

-- blanks are passed over
blanks_cut : (at : ℕ) (bs rest : List ℕ) → AreBlanks bs → tokens_from 0 at (bs ++ rest) ≡ tokens_from 0 (at + length bs) rest
blanks_cut at [] rest e = let z : at + 0 ≡ at = omega arith in rw z refl
blanks_cut at (b ∷ bs) rest e =
    let k = and_parts (is_blank b) (list_all is_blank bs) e in
    let p : Piece = record { kind = None; len = 1 } in
    let one = steps p at (b ∷ bs ++ rest) (omega arith) (omega arith) (blank_piece b (bs ++ rest) k.0) in
    let place : at + 1 + length bs ≡ at + suc (length bs) = omega arith in
    one ∙ blanks_cut (at + 1) bs rest k.1 ∙ rw place refl

-- one token at least has one byte
some_byte : (k : Kind) (text : List ℕ) → IsWhole k text → 1 ≤ length text
some_byte k text whole = (subst (λ (f : Found). FitsIn (length text) f) whole (piece_fits text)).0

token_cut : (k : Kind) (at : ℕ) (text rest : List ℕ) → IsWhole k text → Stops (goes_on k) rest → tokens_from 0 at (text ++ rest) ≡ put (Some k) at (length text) (tokens_from 0 (at + length text) rest)
token_cut k at text rest whole stops =
    let p : Piece = record { kind = Some k; len = length text } in
    let le : length text ≤ length (text ++ rest) = omega (arith, length-append text rest) in
    let back : drop (length text) (text ++ rest) ≡ rest = drop_at text rest (length text) refl in
    steps p at (text ++ rest) (some_byte k text whole) le (piece_same k text rest whole stops) ∙ rw back refl

stops_more : (p : ℕ → Bool) (bs rest : List ℕ) → 1 ≤ length bs → Stops p bs → Stops p (bs ++ rest)
stops_more p [] rest some stops = absurd (omega arith)
stops_more p (b ∷ bs) rest some stops = stops

-- what is well spaced behind a token does not go on with it
front : (k : Kind) (xs : List Spaced) (end : List ℕ) → AreSpacedBehind (Some k) xs → AreBlanks end → Stops (goes_on k) (text_of xs ++ end)
front k [] end spaced blanks = blanks_follow k end blanks
front k (x ∷ xs) end spaced blanks =
    let u = x.before ++ x.text in
    let some : 1 ≤ length u = omega (arith, length-append x.before x.text, some_byte x.kind x.text spaced.0.whole) in
    rw (append_assoc u (text_of xs) end) (stops_more (goes_on k) u (text_of xs ++ end) some spaced.0.apart)

pub cut_behind : (last : Option Kind) (at : ℕ) (xs : List Spaced) (end : List ℕ) → AreSpacedBehind last xs → AreBlanks end → tokens_from 0 at (text_of xs ++ end) ≡ Some (placed at xs)
unfolding tokens_from
cut_behind last at [] end spaced blanks = let e : end ++ [] ≡ end = append-nil end in rw (← e) (blanks_cut at end [] blanks)
cut_behind last at (x ∷ xs) end spaced blanks =
    let rest = text_of xs ++ end in
    let start = at + length x.before in
    let one = blanks_cut at x.before (x.text ++ rest) spaced.0.blanks in
    let two = token_cut x.kind start x.text rest spaced.0.whole (front x.kind xs end spaced.1 blanks) in
    let others = cut_behind (Some x.kind) (start + length x.text) xs end spaced.1 blanks in
    rw (append_assoc (x.before ++ x.text) (text_of xs) end, append_assoc x.before x.text rest) (one ∙ two ∙ ap (put (Some x.kind) start (length x.text)) others)

-- ---- the bytes of the tokens

pub bytes_there : (before text after : List ℕ) (at : ℕ) → length before ≡ at → take (at + length text - at) (drop at (before ++ (text ++ after))) ≡ text
bytes_there before text after at is =
    let len : at + length text - at ≡ length text = omega arith in
    rw (len, drop_at before (text ++ after) at is) (take_at text after (length text) refl)

-- the first token of a text, and what is behind it
pub split_text : (before : List ℕ) (x : Spaced) (xs : List Spaced) (end : List ℕ) → before ++ (text_of (x ∷ xs) ++ end) ≡ before ++ x.before ++ (x.text ++ (text_of xs ++ end))
split_text before x xs end =
    let rest = text_of xs ++ end in
    rw (append_assoc (x.before ++ x.text) (text_of xs) end, append_assoc x.before x.text rest, append_assoc before x.before (x.text ++ rest)) refl

pub kept_from : (before : List ℕ) (at : ℕ) (xs : List Spaced) (end bytes : List ℕ) → length before ≡ at → bytes ≡ before ++ (text_of xs ++ end)
    → map (bytes_of bytes) (placed at xs) ≡ map (λ (x : Spaced). x.text) xs
kept_from before at [] end bytes is e = refl
kept_from before at (x ∷ xs) end bytes is e =
    let rest = text_of xs ++ end in
    let start = at + length x.before in
    let front = before ++ x.before in
    let len : length front ≡ start = omega (arith, length-append before x.before) in
    let split : bytes ≡ front ++ (x.text ++ rest) = e ∙ split_text before x xs end in
    let one : take (start + length x.text - start) (drop start bytes) ≡ x.text = rw split (bytes_there front x.text rest start len) in
    let more : length (front ++ x.text) ≡ start + length x.text = omega (arith, length-append front x.text) in
    let others = kept_from (front ++ x.text) (start + length x.text) xs end bytes more (split ∙ sym (append_assoc front x.text rest)) in
    rw (one, others) refl

pub kinds_from : (xs : List Spaced) (at : ℕ) → map (λ (t : Token). t.kind) (placed at xs) ≡ map (λ (x : Spaced). x.kind) xs
kinds_from [] at = refl
kinds_from (x ∷ xs) at = ap (λ (ks : List Kind). x.kind ∷ ks) (kinds_from xs (at + length x.before + length x.text))

-- ---- the whole text

pub cut_whole : (bytes : List ℕ) (xs : List Spaced) → bytes ≡ text_of xs → AreSpaced xs → tokens_of bytes ≡ Some (placed 0 xs)
cut_whole bytes xs is spaced = ap tokens_of (is ∙ sym (append-nil (text_of xs))) ∙ cut_behind None 0 xs [] spaced refl
