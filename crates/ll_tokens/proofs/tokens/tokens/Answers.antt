-- One piece further.
use Rattle.std.proofs.Common.{◌≡◌, ℕ, ◌+◌, ◌-◌, ◌≤◌, inl, [], length, drop, drop-drop, length-drop, List, Option, Some, None, refl, sym, subst, ◌∙◌, arith, rules}
use Rattle.ll_tokens.specs.Pieces.{piece_at}
use Rattle.ll_tokens.specs.Tokens.{IsBadAt, IsCut, tokens_of}
use Rattle.ll_tokens.specs.declared.piece.Piece.{Piece}
use Rattle.ll_tokens.specs.declared.tokens.Token.{Token}
use Rattle.ll_tokens.proofs.RunLaws.{ends_later}
use Rattle.ll_tokens.proofs.TokenLaws.{with_front, blank_at, bad, is_done, goes_on, passes}
use Rattle.ll_tokens.proofs.tokens.tokens.Goals as goal
use Rattle.ll_tokens.proofs.tokens.tokens.Goals.{in-Some-kind+in_ok-put-2, in_default-kind}

with_none : (found : Option (List Token)) → with_front [] found ≡ found
with_none None = refl
with_none (Some ts) = refl

pub loop-at-init : goal.loop-at-init
loop-at-init c = record {
  so_far = rw c.new-found.ensures.items (with_none (tokens_of c.args.bytes.now));
  cut = IsCut.at_front;
  within = omega arith;
  run = inl (omega arith);
}

pub loop-at-preserved-then-is_blank : goal.loop-at-preserved-then-is_blank
loop-at-preserved-then-is_blank c =
    let bytes = c.args.bytes.now in
    let at = c.loop-at.at in
    let p : Piece = record { kind = None; len = 1 } in
    let found : piece_at (drop at bytes) ≡ Some p = blank_at bytes at c.loop-at-test.true (sym c.is_blank.ensures ∙ c.if-is_blank.true) in
    let long : length (drop at bytes) ≡ length bytes - at = length-drop at bytes in
    let behind : drop 1 (drop at bytes) ≡ drop (at + 1) bytes = drop-drop 1 at bytes in
    record {
      so_far = rw (← behind) (passes p at c.loop-at.found.items (drop at bytes) (tokens_of bytes) (omega arith) (let l = c.loop-at-test.true in omega arith) found refl c.loop-at.invariant.so_far);
      cut = IsCut.behind at p c.loop-at.invariant.cut found;
      within = let l = c.loop-at-test.true in omega arith;
      run = ends_later bytes at 1 c.loop-at.name_end c.loop-at.invariant.run;
    }

pub loop-at-preserved-in-Some : goal.loop-at-preserved-in-Some
loop-at-preserved-in-Some c =
    let bytes = c.args.bytes.now in
    let at = c.loop-at.at in
    let kind = c.in-Some.kind in
    let len = c.in-Some.len in
    let p : Piece = record { kind = Some kind; len = len } in
    let long : length (drop at bytes) ≡ length bytes - at = length-drop at bytes in
    let behind : drop len (drop at bytes) ≡ drop (at + len) bytes = drop-drop len at bytes in
    let within = c.in-Some.ensures.within.1 in
    record {
      so_far = rw (c.in_ok-put.ensures.found, ← behind) (goes_on p kind at c.loop-at.found.items (drop at bytes) (tokens_of bytes) c.in-Some.ensures.within.0 (omega arith) c.in-Some.ensures.gives refl c.loop-at.invariant.so_far);
      cut = IsCut.behind at p c.loop-at.invariant.cut c.in-Some.ensures.gives;
      within = within;
      run = ends_later bytes at len c.loop-at.name_end c.loop-at.invariant.run;
    }

pub returns-in_default-piece_from-clause-bad : goal.returns-in_default-piece_from-clause-bad
returns-in_default-piece_from-clause-bad c place e =
    let bytes = c.args.bytes.now in
    let at = c.loop-at.at in
    let is : at ≡ place = cc in
    let none : piece_at (drop at bytes) ≡ None = sym c.piece_from.ensures.gives ∙ c.in_default-piece_from.is in
    subst (λ (n : ℕ). (tokens_of bytes ≡ None) × IsBadAt bytes n) is
    (bad bytes at c.loop-at.found.items c.loop-at.invariant.cut c.loop-at-test.true none c.loop-at.invariant.so_far)

pub loop-at-preserved : goal.loop-at-preserved
loop-at-preserved c =
    let bytes = c.args.bytes.now in
    let at = c.loop-at.at in
    let front = c.loop-at.found.items in
    let p = c.in-Some-piece_from.piece in
    let total = tokens_of bytes in
    let known = c.in-Some-piece_from.ensures in
    let found : piece_at (drop at bytes) ≡ Some p = sym c.piece_from.ensures.gives ∙ c.in-Some-piece_from.is in
    let long : length (drop at bytes) ≡ length bytes - at = length-drop at bytes in
    let behind : drop p.len (drop at bytes) ≡ drop (at + p.len) bytes = drop-drop p.len at bytes in
    let some : 1 ≤ p.len = known.within.0 in
    let le = known.within.1 in
    let within : p.len ≤ length (drop at bytes) = omega arith in
    record {
      so_far = rw (← behind) (elim c.match-piece.branch [
        | in-Some-kind+in_ok-put-2 w ↦ rw (w.found-is, w.in_ok-put-2.ensures.found) (goes_on p w.in-Some-kind.kind at front (drop at bytes) total some within found w.in-Some-kind.is c.loop-at.invariant.so_far)
        | in_default-kind w ↦ rw w.found-is (passes p at front (drop at bytes) total some within found w.in_default-kind.is c.loop-at.invariant.so_far)
      ]);
      cut = IsCut.behind at p c.loop-at.invariant.cut found;
      within = le;
      run = ends_later bytes at p.len c.piece_from.new.name_end c.piece_from.ensures.known;
    }

pub returns-clause-found : goal.returns-clause-found
returns-clause-found c =
    let e : length (drop c.loop-at.at c.args.bytes.now) ≡ 0 = length-drop c.loop-at.at c.args.bytes.now ∙ search rules in
    is_done c.loop-at.found.items c.loop-at.at (drop c.loop-at.at c.args.bytes.now) (tokens_of c.args.bytes.now) e c.loop-at.invariant.so_far
