-- What symbols say in tokens, put together one symbol at a time.
use Rattle.std.proofs.Common.{◌≡◌, ℕ, List, [], ◌∷◌, ◌++◌, length, map, Some, refl, sym, ap, subst, ◌∙◌}
use Rattle.std.proofs.lemmas.List.{append-nil}
use Rattle.grammars.specs.declared.symbols.Symbol.{Symbol}
use Rattle.grammars.specs.declared.symbols.Symbol.TheVariants.{Word, Leaf, Rule}
use Rattle.grammars.specs.Grammar.{Grammar}
use Rattle.ll_classes.specs.Llvm.{llvm_class}
use Rattle.ll_spacing.specs.Spacing.{Spaced}
use Rattle.ll_values.specs.declared.form.Kind.{Kind}
use Rattle.ll_values.specs.Parts.{part_count}
use Rattle.ll_values.specs.Values.{Value, TextV, value_by}
use Rattle.ll_values.specs.Folding.{kind_at}
use Rattle.ll_written.specs.Saying.{Written, Says, says_nothing, says_word, says_leaf, says_rule}
use Rattle.ll_written.specs.Classed.{classed, all_classed}

map_both : {A B : Type 0} (f : A → B) (xs ys : List A) → map f (xs ++ ys) ≡ map f xs ++ map f ys
map_both f [] ys = refl
map_both f (x ∷ xs) ys = ap (λ r. f x ∷ r) (map_both f xs ys)

module _ (g : Grammar) (kinds : List Kind) where
  pub record Tells (st : List Symbol) (vs : List Value) (xs : List Spaced) : Type 0 where
    pub says : Says g kinds st vs (all_classed xs)

  -- a rule says a value in tokens, before whatever symbols
  pub record Gives (r : ℕ) (v : Value) (xs : List Spaced) : Type 0 where
    pub before : (st : List Symbol) (vs : List Value) (us : List Written) → Says g kinds st vs us → Says g kinds (Rule r ∷ st) (v ∷ vs) (all_classed xs ++ us)

  pub nothing : Tells [] [] []
  nothing = record { says = says_nothing }

  pub word : {c : ℕ} {st : List Symbol} {vs : List Value} {xs : List Spaced} (x : Spaced) → llvm_class x.kind x.text ≡ c → Tells st vs xs → Tells (Word c ∷ st) vs (x ∷ xs)
  word {c} {st} {vs} {xs} x is t = record { says = subst (λ (n : ℕ). Says g kinds (Word n ∷ st) vs (classed x ∷ all_classed xs)) is (says_word st vs (all_classed xs) (classed x) t.says) }

  pub leaf : {c : ℕ} {st : List Symbol} {vs : List Value} {xs : List Spaced} (x : Spaced) → llvm_class x.kind x.text ≡ c → Tells st vs xs → Tells (Leaf c ∷ st) (TextV x.text ∷ vs) (x ∷ xs)
  leaf {c} {st} {vs} {xs} x is t =
      record { says = subst (λ (n : ℕ). Says g kinds (Leaf n ∷ st) (TextV x.text ∷ vs) (classed x ∷ all_classed xs)) is (says_leaf st vs (all_classed xs) (classed x) t.says) }

  pub rule : {r : ℕ} {v : Value} {st : List Symbol} {vs : List Value} {xs ys : List Spaced} → Gives r v xs → Tells st vs ys → Tells (Rule r ∷ st) (v ∷ vs) (xs ++ ys)
  rule {r} {v} {st} {vs} {xs} {ys} h t =
      record { says = subst (λ (us : List Written). Says g kinds (Rule r ∷ st) (v ∷ vs) us) (sym (map_both classed xs ys)) (h.before st vs (all_classed ys) t.says) }

  pub last : {r : ℕ} {v : Value} {xs : List Spaced} → Gives r v xs → Tells (Rule r ∷ []) (v ∷ []) xs
  last {r} {v} {xs} h =
      record { says = subst (λ (us : List Written). Says g kinds (Rule r ∷ []) (v ∷ []) us) (append-nil (all_classed xs)) (h.before [] [] [] says_nothing) }

  pub made : (r i : ℕ) (k : Kind) {α : List Symbol} {cs : List Value} {v : Value} {xs : List Spaced} → g.symbols r i ≡ Some α → kind_at kinds i ≡ k → length cs ≡ part_count k → value_by k cs ≡ Some v → Tells α cs xs → Gives r v xs
  made r i k {α} {cs} {v} {xs} is kind count by t = record {
    before = λ st vs us after.
        says_rule r i α st v cs vs (all_classed xs) us is (count ∙ ap part_count (sym kind)) (ap (λ j. value_by j cs) kind ∙ by) t.says after;
  }
