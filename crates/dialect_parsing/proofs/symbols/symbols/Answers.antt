-- One token further, and a token that says nothing.
use Rattle.std.proofs.Common.{◌≡◌, ◌≤◌, ℕ, false, Some, None, get_or, length, take, drop, List, ap, sym, ◌∙◌, arith, rules}
use Rattle.std.proofs.lemmas.List.Elements.{All-push}
use Rattle.dialect_parsing.specs.Symbols.{symbol_of}
use Rattle.dialect_parsing.specs.Tokens.{is_blank, token_len}
use Rattle.dialect_parsing.proofs.TokenLaws.{said_more, said_none}
use Rattle.dialect_parsing.proofs.symbols.symbols.Goals as goal
use Rattle.dialect_parsing.proofs.symbols.symbols.Goals.{else-len-eq0-via-then-len-eq0+else-is_blank, else-len-eq0-via-else-len-eq0}

pub returns-in_default-clause-err : goal.returns-in_default-clause-err
returns-in_default-clause-err c at e =
    let bytes = c.args.bytes.now in
    let here = c.loop-at.at in
    let n = c.token_len-len.result in
    let len : n ≡ token_len (drop here bytes) = c.token_len-len.ensures.len ∙ ap token_len c.split_at.ensures.back in
    let blank : n ≡ 0 → is_blank (get_or bytes here 0) ≡ false = elim c.else-len-eq0.branch [
      | else-len-eq0-via-then-len-eq0+else-is_blank w ↦ λ z. search rules
      | else-len-eq0-via-else-len-eq0 w ↦ λ z. absurd (omega arith)
    ] in
    let is : symbol_of (take n (drop here bytes)) ≡ None = ap (λ (x : List ℕ). symbol_of (take n x)) (sym c.split_at.ensures.back) ∙ sym c.in_ok-symbol.ensures ∙ c.in_default.is in
    let l = c.loop-at-test.true in
    (let same : here ≡ at = cc in omega arith, said_none bytes bytes here n c.loop-at.symbols.items l len blank is c.loop-at.invariant.so_far)

pub loop-at-preserved : goal.loop-at-preserved
loop-at-preserved c =
    let bytes = c.args.bytes.now in
    let here = c.loop-at.at in
    let n = c.token_len-len.result in
    let len : n ≡ token_len (drop here bytes) = c.token_len-len.ensures.len ∙ ap token_len c.split_at.ensures.back in
    let blank : n ≡ 0 → is_blank (get_or bytes here 0) ≡ false = elim c.else-len-eq0.branch [
      | else-len-eq0-via-then-len-eq0+else-is_blank w ↦ λ z. search rules
      | else-len-eq0-via-else-len-eq0 w ↦ λ z. absurd (omega arith)
    ] in
    let is : symbol_of (take n (drop here bytes)) ≡ Some c.in-Some.symbol = ap (λ (x : List ℕ). symbol_of (take n x)) (sym c.split_at.ensures.back) ∙ sym c.in_ok-symbol.ensures ∙ c.in-Some.is in
    let l = c.loop-at-test.true in
    record {
      so_far = rw c.in_ok-push.ensures.items (said_more bytes bytes here n c.loop-at.symbols.items c.in-Some.symbol l len blank is c.loop-at.invariant.so_far);
      places = rw c.in_ok-push-2.ensures.items (All-push (λ (p : ℕ). p ≤ length bytes) c.loop-at.places.items here c.loop-at.invariant.places (omega arith));
      within = omega (arith, c.token_len-len.ensures.within);
    }
