-- A token lies within its text.
use Rattle.std.proofs.Common.{◌≡◌, ◌≤◌, ◌+◌, ◌-◌, ◌<◌, ℕ, List, drop, length, length-drop, Option, Some, None, IfSome, subst, arith}
use Rattle.ll_tokens.specs.Pieces.{Found, piece_at, token}
use Rattle.ll_tokens.specs.declared.kinds.Kind.{Kind}
use Rattle.ll_tokens.proofs.FitLaws.{FitsIn}
use Rattle.ll_tokens.proofs.PieceLaws.{piece_fits}
use Rattle.ll_tokens.proofs.tokens.plain_from.Goals as goal

fits : (found : Option (Kind × ℕ)) (bytes text : List ℕ) (at : ℕ) → at < length bytes → text ≡ drop at bytes → IfSome found (λ f. piece_at text ≡ token f.0 f.1)
    → IfSome found (λ f. (1 ≤ f.1) × (at + f.1 ≤ length bytes))
fits None bytes text at less is one = tt
fits (Some f) bytes text at less is one =
    let within : FitsIn (length text) (token f.0 f.1) = subst (λ (p : Found). FitsIn (length text) p) one (piece_fits text) in
    let long : length text ≡ length bytes - at = rw is (length-drop at bytes) in
    (within.0, let le = within.1 in omega arith)

pub returns-clause-within : goal.returns-clause-within
returns-clause-within c = fits c.plain_at.result c.args.bytes.now _ c.args.at c.requires c.split_at.ensures.back c.plain_at.ensures
