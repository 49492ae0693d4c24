-- A text gives back the tokens that were written, with what stands before each.
use Rattle.std.proofs.Common.{◌≡◌, ℕ, ◌+◌, ◌-◌, List, [], ◌∷◌, ◌++◌, length, length-append, take, drop, Option, Some, None, append_assoc, refl, sym, ap, subst, ◌∙◌, arith}
use Rattle.std.proofs.lemmas.List.{append-nil}
use Rattle.ll_tokens.specs.Tokens.{tokens_of}
use Rattle.ll_tokens.specs.declared.kinds.Kind.{Kind}
use Rattle.ll_spacing.specs.Spacing.{Spaced, Follows, AreSpacedBehind, AreSpaced, AreBlanks, text_of, placed, with_gaps, gaps_of, spaced_of, last_behind, last_of}
use Rattle.ll_spacing.specs.Writing.{IsWritten}
use Rattle.ll_spacing.proofs.CutLaws.{cut_behind, bytes_there, split_text}

gaps_from : (before : List ℕ) (at : ℕ) (xs : List Spaced) (end bytes : List ℕ) → length before ≡ at → bytes ≡ before ++ (text_of xs ++ end) → with_gaps at bytes (placed at xs) ≡ xs
gaps_from before at [] end bytes is e = refl
gaps_from before at (x ∷ xs) end bytes is e =
    let rest = text_of xs ++ end in
    let start = at + length x.before in
    let front = before ++ x.before in
    let len : length front ≡ start = omega (arith, length-append before x.before) in
    let split : bytes ≡ front ++ (x.text ++ rest) = e ∙ split_text before x xs end in
    let gap : take (start - at) (drop at bytes) ≡ x.before = rw (split, append_assoc before x.before (x.text ++ rest)) (bytes_there before x.before (x.text ++ rest) at is) in
    let text : take (start + length x.text - start) (drop start bytes) ≡ x.text = rw split (bytes_there front x.text rest start len) in
    let more : length (front ++ x.text) ≡ start + length x.text = omega (arith, length-append front x.text) in
    let others = gaps_from (front ++ x.text) (start + length x.text) xs end bytes more (split ∙ sym (append_assoc front x.text rest)) in
    rw (gap, text, others) refl

pub spaced_again : (xs : List Spaced) (end : List ℕ) → AreSpaced xs → AreBlanks end → spaced_of (text_of xs ++ end) ≡ xs
unfolding spaced_of
spaced_again xs end spaced blanks =
    let cut : tokens_of (text_of xs ++ end) ≡ Some (placed 0 xs) = cut_behind None 0 xs end spaced blanks in
    ap (gaps_of (text_of xs ++ end)) cut ∙ gaps_from [] 0 xs end (text_of xs ++ end) refl refl

-- ---- one more token

pub one_more : (last : Option Kind) (xs : List Spaced) (x : Spaced) → AreSpacedBehind last xs → Follows (last_behind last xs) x → AreSpacedBehind last (xs ++ x ∷ [])
one_more last [] x spaced follows = (follows, tt)
one_more last (y ∷ ys) x spaced follows = (spaced.0, one_more (Some y.kind) ys x spaced.1 follows)

last_is : (last : Option Kind) (xs : List Spaced) (x : Spaced) → last_behind last (xs ++ x ∷ []) ≡ Some x.kind
last_is last [] x = refl
last_is last (y ∷ ys) x = last_is (Some y.kind) ys x

text_is : (xs : List Spaced) (x : Spaced) → text_of (xs ++ x ∷ []) ≡ text_of xs ++ (x.before ++ x.text)
text_is [] x = append-nil (x.before ++ x.text)
text_is (y ∷ ys) x = rw (text_is ys x) (sym (append_assoc (y.before ++ y.text) (text_of ys) (x.before ++ x.text)))

pub again : (xs : List Spaced) → AreSpaced xs → spaced_of (text_of xs) ≡ xs
again xs spaced = let e : text_of xs ++ [] ≡ text_of xs = append-nil (text_of xs) in rw e at (spaced_again xs [] spaced refl)

pub is_written : (xs : List Spaced) → AreSpaced xs → IsWritten (text_of xs) (last_of xs)
is_written xs spaced =
    let e = again xs spaced in
    record { spaced = rw e spaced; whole = ap text_of e; ends = ap last_of (sym e) }

-- behind what is written, what stands before one more token, and then its text
pub more_written : (text half new : List ℕ) (last : Option Kind) (xs : List Spaced) (x : Spaced) → IsWritten text last → spaced_of text ≡ xs → Follows (last_of xs) x
    → half ≡ text ++ x.before → new ≡ half ++ x.text → (spaced_of new ≡ xs ++ x ∷ []) × IsWritten new (Some x.kind)
more_written text half new last xs x written view follows one two =
    let spaced : AreSpaced (xs ++ x ∷ []) = one_more None xs x (rw (← view) written.spaced) follows in
    let front : text_of xs ≡ text = ap text_of (sym view) ∙ written.whole in
    let e : text_of (xs ++ x ∷ []) ≡ new = text_is xs x ∙ ap (λ (t : List ℕ). t ++ (x.before ++ x.text)) front ∙ sym (append_assoc text x.before x.text) ∙ ap (λ (t : List ℕ). t ++ x.text) (sym one) ∙ sym two in
    let l : last_of (xs ++ x ∷ []) ≡ Some x.kind = last_is None xs x in (
      subst (λ (t : List ℕ). spaced_of t ≡ xs ++ x ∷ []) e (again (xs ++ x ∷ []) spaced),
      subst (λ (t : List ℕ). IsWritten t (Some x.kind)) e (subst (λ (k : Option Kind). IsWritten (text_of (xs ++ x ∷ [])) k) l (is_written (xs ++ x ∷ []) spaced)),
    )
