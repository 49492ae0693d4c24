-- Signs of one byte are whole, and free before and behind.
use Rattle.std.proofs.Common.{◌≡◌, ℕ, true, ◌==◌, [], ◌∷◌, refl, sym, subst}
use Rattle.std.proofs.lemmas.Bool.{eqb-true}
use Rattle.ll_tokens.specs.declared.kinds.Kind.{Kind}
use Rattle.ll_tokens.specs.declared.kinds.Kind.TheVariants.{Equals, Comma, OpenParen, CloseParen, OpenBracket, CloseBracket, OpenBrace, CloseBrace, Less, Greater, Bar}
use Rattle.ll_tokens.specs.Pieces.{token, sign_at, piece_at}
use Rattle.ll_spacing.specs.Following.{may_follow}
use Rattle.ll_spacing.specs.Spacing.{IsWhole}
use Rattle.ll_spacing.proofs.FoundLaws.{by_test, same_kind, no_token}
use Rattle.ll_spacing.proofs.FollowLaws.{is_plain, plain_follows}

-- what holds of each sign and its kind
record OfSigns (P : ℕ → Kind → Type 0) : Type 0 where
  pub equals : P 61 Equals
  pub comma : P 44 Comma
  pub open_paren : P 40 OpenParen
  pub close_paren : P 41 CloseParen
  pub open_bracket : P 91 OpenBracket
  pub close_bracket : P 93 CloseBracket
  pub open_brace : P 123 OpenBrace
  pub close_brace : P 125 CloseBrace
  pub less : P 60 Less
  pub greater : P 62 Greater
  pub bar : P 124 Bar

one : (P : ℕ → Kind → Type 0) (b c : ℕ) (j k : Kind) → P c k → (b == c) ≡ true → token k 1 ≡ token j 1 → P b j
one P b c j k holds is e = subst (λ (x : ℕ). P x j) (sym (eqb-true b c is)) (subst (λ (i : Kind). P c i) (sym (same_kind k j 1 1 e)) holds)

each : (P : ℕ → Kind → Type 0) → OfSigns P → (b : ℕ) (j : Kind) → sign_at b ≡ token j 1 → P b j
unfolding sign_at
each P h b j e =
    let t = token j 1 in
    by_test t (b == 61) _ _ e (one P b 61 j Equals h.equals)
    (λ _ e. by_test t (b == 44) _ _ e (one P b 44 j Comma h.comma)
    (λ _ e. by_test t (b == 40) _ _ e (one P b 40 j OpenParen h.open_paren)
    (λ _ e. by_test t (b == 41) _ _ e (one P b 41 j CloseParen h.close_paren)
    (λ _ e. by_test t (b == 91) _ _ e (one P b 91 j OpenBracket h.open_bracket)
    (λ _ e. by_test t (b == 93) _ _ e (one P b 93 j CloseBracket h.close_bracket)
    (λ _ e. by_test t (b == 123) _ _ e (one P b 123 j OpenBrace h.open_brace)
    (λ _ e. by_test t (b == 125) _ _ e (one P b 125 j CloseBrace h.close_brace)
    (λ _ e. by_test t (b == 60) _ _ e (one P b 60 j Less h.less)
    (λ _ e. by_test t (b == 62) _ _ e (one P b 62 j Greater h.greater)
    (λ _ e. by_test t (b == 124) _ _ e (one P b 124 j Bar h.bar)
    (λ _ e. no_token j 1 e)))))))))))

pub sign_whole : (k : Kind) (b : ℕ) → sign_at b ≡ token k 1 → IsWhole k (b ∷ [])
unfolding piece_at sign_at
sign_whole k b e =
    each (λ b k. IsWhole k (b ∷ []))
    (record { equals = refl; comma = refl; open_paren = refl; close_paren = refl; open_bracket = refl; close_bracket = refl; open_brace = refl; close_brace = refl; less = refl; greater = refl; bar = refl })
    b k e

pub behind_sign : (k : Kind) (b c : ℕ) → sign_at b ≡ token k 1 → may_follow k c ≡ true
behind_sign k b c e =
    each (λ b k. may_follow k c ≡ true)
    (record { equals = refl; comma = refl; open_paren = refl; close_paren = refl; open_bracket = refl; close_bracket = refl; open_brace = refl; close_brace = refl; less = refl; greater = refl; bar = refl })
    b k e

pub before_sign : (j k : Kind) (b : ℕ) → sign_at b ≡ token k 1 → may_follow j b ≡ true
before_sign j k b e =
    let plain : is_plain b ≡ true =
    each (λ b k. is_plain b ≡ true)
    (record { equals = refl; comma = refl; open_paren = refl; close_paren = refl; open_bracket = refl; close_bracket = refl; open_brace = refl; close_brace = refl; less = refl; greater = refl; bar = refl })
    b k e in
    rw (plain_follows j b plain) refl
