-- How far the printing of a block's arguments has come.
use Rattle.std.proofs.Common.{◌≡◌, ◌<◌, ◌≤◌, ◌+◌, ℕ, suc, List, [], ◌∷◌, ◌++◌, Option, length, get_or, take, map, ap, sym, refl, ◌∙◌, arith, append_assoc}
use Rattle.std.proofs.lemmas.List.{take_all, take_more, map-append, length-map, length-take-le}
use Rattle.dialect_types.specs.declared.types.TypeHandle.{TypeHandle}
use Rattle.dialect_types.specs.Trees.{TypeTree, type_at}
use Rattle.dialect_types.specs.Text.{joined, comma_before}
use Rattle.dialect_types.proofs.TextLemmas.{joined-push}
use Rattle.dialect_core.specs.declared.numbers.BlockRef.{BlockRef}
use Rattle.dialect_core.specs.declared.ops.Value.{Value}
use Rattle.dialect_core.specs.Text.{argument_text, argument_texts}

module _ (values : Value → Option ℕ) (blocks : BlockRef → Option ℕ) where
  texts-push : (b : BlockRef) (i : ℕ) (ts : List TypeTree) (t : TypeTree) → argument_texts values blocks b i (ts ++ t ∷ []) ≡ argument_texts values blocks b i ts ++ argument_text values blocks b (i + length ts) t ∷ []
  texts-push b i [] t = ap (λ (n : ℕ). argument_text values blocks b n t ∷ []) (let e : i ≡ i + 0 = omega arith in e)
  texts-push b i (u ∷ ts) t =
      ap (λ (xs : List (List ℕ)). argument_text values blocks b i u ∷ xs)
      (texts-push b (i + 1) ts t ∙ ap (λ (n : ℕ). argument_texts values blocks b (i + 1) ts ++ argument_text values blocks b n t ∷ []) (let e : (i + 1) + length ts ≡ i + suc (length ts) = omega arith in e))

  texts-length : (b : BlockRef) (i : ℕ) (ts : List TypeTree) → length (argument_texts values blocks b i ts) ≡ length ts
  texts-length b i [] = refl
  texts-length b i (t ∷ ts) = ap suc (texts-length b (i + 1) ts)

  -- the first i arguments stand after what was there
  pub record Arguments (ts : List TypeTree) (b : BlockRef) (args : List TypeHandle) (i : ℕ) (before after : List ℕ) : Type 0 where
    pub printed : after ≡ before ++ joined (argument_texts values blocks b 0 (map (type_at ts) (take i args)))

  pub arguments_more : (ts : List TypeTree) (b : BlockRef) (args : List TypeHandle) (i : ℕ) (d : TypeHandle) (start before comma after : List ℕ) → i < length args → Arguments ts b args i start before → comma ≡ before ++ comma_before i → after ≡ comma ++ argument_text values blocks b i (type_at ts (get_or args i d)) → Arguments ts b args (i + 1) start after
  arguments_more ts b args i d start before comma after within so_far with_comma with_text =
      let done = map (type_at ts) (take i args) in
      let few : length (map (type_at ts) (take i args)) ≡ i = length-map (take i args) (type_at ts) ∙ length-take-le i args (omega arith) in
      let texts : argument_texts values blocks b 0 (map (type_at ts) (take (i + 1) args)) ≡ argument_texts values blocks b 0 (map (type_at ts) (take i args)) ++ argument_text values blocks b i (type_at ts (get_or args i d)) ∷ []
      = ap (λ (xs : List TypeHandle). argument_texts values blocks b 0 (map (type_at ts) xs)) (take_more args i d within)
      ∙ ap (argument_texts values blocks b 0) (map-append (type_at ts) (take i args) (get_or args i d ∷ []))
      ∙ texts-push b 0 (map (type_at ts) (take i args)) (type_at ts (get_or args i d))
      ∙ ap (λ (n : ℕ). argument_texts values blocks b 0 (map (type_at ts) (take i args)) ++ argument_text values blocks b n (type_at ts (get_or args i d)) ∷ []) (let e : 0 + length (map (type_at ts) (take i args)) ≡ i = omega (arith, few) in e) in
      let count : length (argument_texts values blocks b 0 (map (type_at ts) (take i args))) ≡ i = texts-length b 0 (map (type_at ts) (take i args)) ∙ few in
      record {
        printed =
            with_text ∙ ap (λ (x : List ℕ). x ++ argument_text values blocks b i (type_at ts (get_or args i d))) (with_comma ∙ ap (λ (x : List ℕ). x ++ comma_before i) so_far.printed)
            ∙ append_assoc (start ++ joined (argument_texts values blocks b 0 (map (type_at ts) (take i args)))) (comma_before i) (argument_text values blocks b i (type_at ts (get_or args i d)))
            ∙ append_assoc start (joined (argument_texts values blocks b 0 (map (type_at ts) (take i args)))) (comma_before i ++ argument_text values blocks b i (type_at ts (get_or args i d)))
            ∙ ap (λ (x : List ℕ). start ++ x)
            (sym (ap joined texts ∙ joined-push (argument_texts values blocks b 0 (map (type_at ts) (take i args))) (argument_text values blocks b i (type_at ts (get_or args i d))) ∙ ap (λ (n : ℕ). joined (argument_texts values blocks b 0 (map (type_at ts) (take i args))) ++ (comma_before n ++ argument_text values blocks b i (type_at ts (get_or args i d)))) count));
      }

  -- all of them do
  pub arguments_all : (ts : List TypeTree) (b : BlockRef) (args : List TypeHandle) (i : ℕ) (before after : List ℕ) → length args ≤ i → Arguments ts b args i before after → after ≡ before ++ joined (argument_texts values blocks b 0 (map (type_at ts) args))
  arguments_all ts b args i before after all h = h.printed ∙ ap (λ (xs : List TypeHandle). before ++ joined (argument_texts values blocks b 0 (map (type_at ts) xs))) (take_all i args all)
