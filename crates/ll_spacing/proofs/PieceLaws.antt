-- A token that is whole is the same token before what does not go on with it.
use Rattle.std.proofs.Common.{◌≡◌, ℕ, suc, ◌==◌, List, [], ◌∷◌, ◌++◌, length, refl}
use Rattle.ll_tokens.specs.Bytes.{is_blank, is_name_byte}
use Rattle.ll_tokens.specs.declared.kinds.Kind.{Kind}
use Rattle.ll_tokens.specs.declared.kinds.Kind.TheVariants.{Global, Local}
use Rattle.ll_tokens.specs.Pieces.{token, piece_at}
use Rattle.ll_spacing.specs.Following.{goes_on, Stops}
use Rattle.ll_spacing.specs.Spacing.{IsWhole}
use Rattle.ll_spacing.proofs.FoundLaws.{by_test, no_token, no_blank}
use Rattle.ll_spacing.proofs.NameLaws.{string_same, name_same, bang_same, hash_same}
use Rattle.ll_spacing.proofs.WordLaws.{bare_same}

pub piece_same : (k : Kind) (text r : List ℕ) → IsWhole k text → Stops (goes_on k) r → piece_at (text ++ r) ≡ token k (length text)
unfolding piece_at
piece_same k [] r e stops = no_token k 0 e
piece_same k (b ∷ bs) r e stops =
    let t = token k (suc (length bs)) in
    let n = suc (length bs) in
    by_test t (is_blank b) _ _ e (λ c f. no_blank 1 k n f)
    (λ a f. by_test t (b == 59) _ _ f (λ c g. no_blank _ k n g)
    (λ c f. by_test t (b == 64) _ _ f (λ d g. rw (a, c, d) (name_same Global k bs r refl stops g))
    (λ d f. by_test t (b == 37) _ _ f (λ i g. rw (a, c, d, i) (name_same Local k bs r refl stops g))
    (λ i f. by_test t (b == 34) _ _ f (λ j g. rw (a, c, d, i, j) (string_same k bs r stops g))
    (λ j f. by_test t (b == 33) _ _ f (λ l g. rw (a, c, d, i, j, l) (bang_same k bs r stops g))
    (λ l f. by_test t (b == 35) _ _ f (λ m g. rw (a, c, d, i, j, l, m) (hash_same k bs r stops g))
    (λ m f. by_test t (is_name_byte b) _ _ f (λ o g. rw (a, c, d, i, j, l, m, o) (bare_same k b bs r stops g))
    (λ o g. rw (a, c, d, i, j, l, m, o) g))))))))
