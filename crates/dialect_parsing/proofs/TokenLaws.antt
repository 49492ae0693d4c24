-- What the token that a text begins with says, before what those behind it say.
use Rattle.std.proofs.Common.{◌≡◌, ◌<◌, ◌+◌, ℕ, suc, Bool, true, false, cond, List, [], ◌∷◌, ◌++◌, length, take, drop, Option, Some, None, refl, sym, ap, ◌∙◌, arith, append_assoc, get_or, drop-drop, drop-cons, add-one}
use Rattle.std.specs.List.{prefix_len, list_all}
use Rattle.std.specs.Option.{option_map, option_and_then}
use Rattle.std.proofs.lemmas.Bool.{and_parts, cond-true, cond-false}
use Rattle.std.proofs.lemmas.List.{take-append-drop}
use Rattle.std.proofs.Math.Numerals.{one-add}
use Rattle.dialect_parsing.specs.declared.symbol.Symbol.{Symbol}
use Rattle.dialect_parsing.specs.Symbols.{symbol_of, said, symbols_of, with_first}
use Rattle.dialect_parsing.specs.Tokens.{Text, is_blank, is_sign, is_run_byte, begins_run, before, tokens_of, token_len}

-- a token before others
abbrev pub after : Text → Option (List Text) → Option (List Text)
after t found = option_map (λ (ts : List Text). t ∷ ts) found

none_behind : (s : Option Symbol) → None ≡ with_first s None
none_behind (Some s) = refl
none_behind None = refl

said_after : (t : Text) (found : Option (List Text)) → option_and_then said (after t found) ≡ with_first (symbol_of t) (option_and_then said found)
said_after t (Some ts) = refl
said_after t None = none_behind (symbol_of t)

abbrev pub IsRun : Text → Type 0
IsRun r = list_all is_run_byte r ≡ true

longer : (b c : ℕ) (r : Text) (found : Option (List Text)) → option_map (before b true) (after (c ∷ r) found) ≡ after (b ∷ c ∷ r) found
longer b c r (Some ts) = refl
longer b c r None = refl

alone : (b : ℕ) (found : Option (List Text)) → option_map (before b false) found ≡ after (b ∷ []) found
alone b (Some ts) = refl
alone b None = refl

goes_on : (b c : ℕ) (bs : Text) → is_run_byte b ≡ true → is_run_byte c ≡ true → tokens_of (b ∷ c ∷ bs) ≡ option_map (before b true) (tokens_of (c ∷ bs))
goes_on b c bs hb hc = cond-true (is_run_byte b) _ _ hb ∙ ap (λ (x : Bool). option_map (before b x) (tokens_of (c ∷ bs))) hc

-- a run that ends where it does is one token
run_tokens : (b : ℕ) (r bs : Text) → IsRun (b ∷ r) → begins_run bs ≡ false → tokens_of (b ∷ r ++ bs) ≡ after (b ∷ r) (tokens_of bs)
run_tokens b [] bs h ends = let k = and_parts (is_run_byte b) true h in rw (k.0, ends) (alone b (tokens_of bs))
run_tokens b (c ∷ r) bs h ends =
    let k = and_parts (is_run_byte b) (list_all is_run_byte (c ∷ r)) h in
    let l = and_parts (is_run_byte c) (list_all is_run_byte r) k.1 in
    let whole = run_tokens c r bs k.1 ends in
    goes_on b c (r ++ bs) k.0 l.0 ∙ ap (option_map (before b true)) whole ∙ longer b c r (tokens_of bs)

pub run_said : (b : ℕ) (r bs : Text) → IsRun (b ∷ r) → begins_run bs ≡ false → symbols_of (b ∷ r ++ bs) ≡ with_first (symbol_of (b ∷ r)) (symbols_of bs)
run_said b r bs h ends = ap (option_and_then said) (run_tokens b r bs h ends) ∙ said_after (b ∷ r) (tokens_of bs)

pub sign_said : (b : ℕ) (bs : Text) → is_run_byte b ≡ false → is_sign b ≡ true → symbols_of (b ∷ bs) ≡ with_first (symbol_of (b ∷ [])) (symbols_of bs)
sign_said b bs run sign = ap (option_and_then said) (cond-false (is_run_byte b) _ _ run ∙ cond-true (is_sign b) _ _ sign) ∙ said_after (b ∷ []) (tokens_of bs)

-- ---- a text is cut where its first token ends

run_by : (b : ℕ) (bs : Text) (x : Bool) → is_run_byte b ≡ x → IsRun (take (prefix_len is_run_byte bs) bs) → IsRun (take (cond x (1 + prefix_len is_run_byte bs) 0) (b ∷ bs))
run_by b bs true e h = rw one-add (rw (e, h) refl)
run_by b bs false e h = refl

front_run : (bs : Text) → IsRun (take (prefix_len is_run_byte bs) bs)
front_run [] = refl
front_run (b ∷ bs) = run_by b bs (is_run_byte b) refl (front_run bs)

end_by : (b : ℕ) (bs : Text) (x : Bool) → is_run_byte b ≡ x → begins_run (drop (prefix_len is_run_byte bs) bs) ≡ false → begins_run (drop (cond x (1 + prefix_len is_run_byte bs) 0) (b ∷ bs)) ≡ false
end_by b bs true e h = rw one-add h
end_by b bs false e h = e

front_ends : (bs : Text) → begins_run (drop (prefix_len is_run_byte bs) bs) ≡ false
front_ends [] = refl
front_ends (b ∷ bs) = end_by b bs (is_run_byte b) refl (front_ends bs)

run_len : (b : ℕ) (bs : Text) → is_run_byte b ≡ true → prefix_len is_run_byte (b ∷ bs) ≡ suc (prefix_len is_run_byte bs)
run_len b bs h = cond-true (is_run_byte b) _ _ h ∙ one-add (prefix_len is_run_byte bs)

blank_by : (b : ℕ) (bs : Text) (x y : Bool) → is_run_byte b ≡ x → is_sign b ≡ y → cond x (prefix_len is_run_byte (b ∷ bs)) (cond y 1 0) ≡ 0 → is_blank b ≡ true → symbols_of (b ∷ bs) ≡ symbols_of bs
blank_by b bs true y e f len blank = absurd (omega (arith, len, run_len b bs e))
blank_by b bs false true e f len blank = absurd (omega (arith, len))
blank_by b bs false false e f len blank =
    ap (option_and_then said) (cond-false (is_run_byte b) _ _ e ∙ cond-false (is_sign b) _ _ f ∙ cond-true (is_blank b) _ _ blank)

-- a blank says nothing
pub blank_said : (b : ℕ) (bs : Text) → token_len (b ∷ bs) ≡ 0 → is_blank b ≡ true → symbols_of (b ∷ bs) ≡ symbols_of bs
blank_said b bs len blank = blank_by b bs (is_run_byte b) (is_sign b) refl refl len blank

-- what the first n bytes say, before what those behind them say
abbrev pub cut_at : ℕ → Text → Option (List Symbol)
cut_at n bytes = with_first (symbol_of (take n bytes)) (symbols_of (drop n bytes))

front_by : (b : ℕ) (bs : Text) (x y : Bool) → is_run_byte b ≡ x → is_sign b ≡ y → (cond x (prefix_len is_run_byte (b ∷ bs)) (cond y 1 0) ≡ 0 → is_blank b ≡ false) → symbols_of (b ∷ bs) ≡ cut_at (cond x (prefix_len is_run_byte (b ∷ bs)) (cond y 1 0)) (b ∷ bs)
front_by b bs true y e f blank =
    let k = prefix_len is_run_byte bs in
    let is : IsRun (b ∷ take k bs) = rw (e, front_run bs) refl in
    ap (λ (x : Text). symbols_of (b ∷ x)) (sym (take-append-drop k bs))
    ∙ run_said b (take k bs) (drop k bs) is (front_ends bs)
    ∙ ap (λ (n : ℕ). cut_at n (b ∷ bs)) (sym (run_len b bs e))
front_by b bs false true e f blank = sign_said b bs e f
front_by b bs false false e f blank =
    ap (option_and_then said) (cond-false (is_run_byte b) _ _ e ∙ cond-false (is_sign b) _ _ f ∙ cond-false (is_blank b) _ _ (blank refl))

-- a text that begins with no blank is cut where its first token ends; where it begins with none, nothing is said
pub front_said : (b : ℕ) (bs : Text) → (token_len (b ∷ bs) ≡ 0 → is_blank b ≡ false) → symbols_of (b ∷ bs) ≡ cut_at (token_len (b ∷ bs)) (b ∷ bs)
front_said b bs blank = front_by b bs (is_run_byte b) (is_sign b) refl refl blank

-- ---- what was said so far, before what the rest says

abbrev pub with_front : List Symbol → Option (List Symbol) → Option (List Symbol)
with_front front None = None
with_front front (Some ss) = Some (front ++ ss)

pub none_before : (found : Option (List Symbol)) → with_front [] found ≡ found
none_before (Some ss) = refl
none_before None = refl

one_more : (front : List Symbol) (s : Symbol) (found : Option (List Symbol)) → with_front (front ++ s ∷ []) found ≡ with_front front (with_first (Some s) found)
one_more front s (Some ss) = ap Some (append_assoc front (s ∷ []) ss)
one_more front s None = refl

rest_cut : (bytes : Text) (at n : ℕ) → at < length bytes → n ≡ token_len (drop at bytes) → (n ≡ 0 → is_blank (get_or bytes at 0) ≡ false) → symbols_of (drop at bytes) ≡ cut_at n (drop at bytes)
rest_cut bytes at n within len blank =
    let cut = drop-cons bytes at 0 within in
    let b = get_or bytes at 0 in
    let bs = drop (suc at) bytes in
    let same : n ≡ token_len (b ∷ bs) = len ∙ ap token_len cut in
    ap symbols_of cut ∙ front_said b bs (λ z. blank (same ∙ z)) ∙ ap (λ (k : ℕ). cut_at k (b ∷ bs)) (sym same) ∙ ap (cut_at n) (sym cut)

-- one more token said its symbol
pub said_more : (bytes all : Text) (at n : ℕ) (front : List Symbol) (s : Symbol) → at < length bytes → n ≡ token_len (drop at bytes) → (n ≡ 0 → is_blank (get_or bytes at 0) ≡ false) → symbol_of (take n (drop at bytes)) ≡ Some s
    → with_front front (symbols_of (drop at bytes)) ≡ symbols_of all → with_front (front ++ s ∷ []) (symbols_of (drop (at + n) bytes)) ≡ symbols_of all
said_more bytes all at n front s within len blank is so_far =
    let e = rest_cut bytes at n within len blank in
    one_more front s _
    ∙ ap (with_front front) (ap (λ (x : Option Symbol). with_first x (symbols_of (drop (at + n) bytes))) (sym is) ∙ ap (λ (x : Text). with_first (symbol_of (take n (drop at bytes))) (symbols_of x)) (sym (drop-drop n at bytes)) ∙ sym e)
    ∙ so_far

-- a token that says nothing
pub said_none : (bytes all : Text) (at n : ℕ) (front : List Symbol) → at < length bytes → n ≡ token_len (drop at bytes) → (n ≡ 0 → is_blank (get_or bytes at 0) ≡ false) → symbol_of (take n (drop at bytes)) ≡ None
    → with_front front (symbols_of (drop at bytes)) ≡ symbols_of all → symbols_of all ≡ None
said_none bytes all at n front within len blank is so_far =
    let e = rest_cut bytes at n within len blank in
    sym so_far ∙ ap (with_front front) (e ∙ ap (λ (x : Option Symbol). with_first x (symbols_of (drop n (drop at bytes)))) is)

pub blank_more : (bytes all : Text) (at n : ℕ) (front : List Symbol) → at < length bytes → n ≡ token_len (drop at bytes) → n ≡ 0 → is_blank (get_or bytes at 0) ≡ true
    → with_front front (symbols_of (drop at bytes)) ≡ symbols_of all → with_front front (symbols_of (drop (at + 1) bytes)) ≡ symbols_of all
blank_more bytes all at n front within len none blank so_far =
    let cut = drop-cons bytes at 0 within in
    let zero_len : token_len (get_or bytes at 0 ∷ drop (suc at) bytes) ≡ 0 = ap token_len (sym cut) ∙ sym len ∙ none in
    ap (λ (k : ℕ). with_front front (symbols_of (drop k bytes))) (add-one at)
    ∙ ap (with_front front) (sym (ap symbols_of cut ∙ blank_said (get_or bytes at 0) (drop (suc at) bytes) zero_len blank))
    ∙ so_far
