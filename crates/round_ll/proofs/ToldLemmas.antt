-- How several reads and several writes add up, where the bytes are told.
use Rattle.std.proofs.Common.{◌≡◌, ◌≤◌, ◌+◌, ◌-◌, ℕ, List, ◌++◌, length, take, drop, None, Some, refl, sym, ap, ◌∙◌, arith, append_assoc, length-drop, length-take-le, take-append-drop, drop_at}
use Rattle.std.proofs.Math.Seq.{take-add}
use Rattle.std.proofs.lemmas.List.{drop-drop, take_all, take_at}
use Rattle.std.specs.Io.KnownBytes.{append_known, prepend_known}
use Rattle.std.specs.declared.option.Option.{Option}
use Rattle.round_ll.specs.Outside.AllBytes.{GaveAtMost}

-- a slice from an index on
pub slice_from : (i : ℕ) (xs : List ℕ) → take (length xs - i) (drop i xs) ≡ drop i xs
slice_from i xs = take_all (length xs - i) (drop i xs) (omega (arith, length-drop i xs))

-- two writes in a row, the second of the bytes behind the first
append_known-take : (o : Option (List ℕ)) (i n : ℕ) (xs : List ℕ) → append_known (append_known o (take i xs)) (take n (drop i xs)) ≡ append_known o (take (i + n) xs)
append_known-take None i n xs = refl
append_known-take (Some zs) i n xs = ap Some (append_assoc zs (take i xs) (take n (drop i xs)) ∙ ap (λ l. zs ++ l) (sym (take-add i n xs)))

pub append_known-more : (old mid new : Option (List ℕ)) (i n : ℕ) (xs rest : List ℕ) → rest ≡ drop i xs → mid ≡ append_known old (take i xs) → new ≡ append_known mid (take n rest)
    → new ≡ append_known old (take (i + n) xs)
append_known-more old mid new i n xs rest behind before now =
    now ∙ ap (λ l. append_known mid (take n l)) behind ∙ ap (λ o. append_known o (take n (drop i xs))) before ∙ append_known-take old i n xs

-- what was copied to the front of a buffer, and what is left behind it
pub front_given : (left copied rest back : List ℕ) (n : ℕ) → copied ≡ take n left → n ≤ length left → drop n left ≡ back → left ≡ take n (copied ++ rest) ++ back
front_given left copied rest back n copies short behind =
    let long : length copied ≡ n = ap length copies ∙ length-take-le n left short in
    sym (take-append-drop n left) ∙ ap (λ l. l ++ drop n left) (sym copies ∙ sym (take_at copied rest n long)) ∙ ap (λ l. take n (copied ++ rest) ++ l) behind

-- what was given stands at the front of what was left
gone : (xs ys bytes : List ℕ) (n : ℕ) → xs ≡ bytes ++ ys → length bytes ≡ n → ys ≡ drop n xs
gone xs ys bytes n whole long = sym (ap (drop n) whole ∙ drop_at bytes ys n long)

-- few bytes are gone after some that were given
pub GaveAtMost-more : (most few : ℕ) (old mid new : Option (List ℕ)) (bytes : List ℕ) → old ≡ prepend_known bytes mid → GaveAtMost few mid new → length bytes + few ≤ most → GaveAtMost most old new
GaveAtMost-more most few None mid new bytes gave more fit = tt
GaveAtMost-more most few (Some xs) None new bytes gave more fit = absurd (cc gave)
GaveAtMost-more most few (Some xs) (Some ys) new bytes gave more fit =
    let whole : xs ≡ bytes ++ ys = cc gave in
    let rest : ys ≡ drop (length bytes) xs = gone xs ys bytes (length bytes) whole refl in
    (length bytes + more.0, omega (arith, fit, more.1), more.2 ∙ ap Some (ap (drop more.0) rest ∙ drop-drop more.0 (length bytes) xs))
