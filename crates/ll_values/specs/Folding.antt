-- What events say, from the last event to the first.
use Rattle.std.specs.Prelude.{ℕ, List, [], ◌∷◌, take, drop, slice_get, slice_index_or, Option, Some}
use Rattle.std.specs.Option.{option_map}
use Rattle.grammars.specs.declared.symbols.Event.{Event}
use Rattle.grammars.specs.declared.symbols.Event.TheVariants.{Took, Held}
use Rattle.grammars.specs.declared.symbols.Token as symbols
use Rattle.ll_tokens.specs.declared.tokens.Token.{Token}
use Rattle.ll_literals.specs.Chain.{◌>>=◌}
use Rattle.ll_lines.specs.Views.{text_of}
use Rattle.ll_values.specs.declared.form.Kind.{Kind}
use Rattle.ll_values.specs.declared.form.Kind.TheVariants.{Outside}
use Rattle.ll_values.specs.Parts.{part_count}
use Rattle.ll_values.specs.Values.{Value, TextV, value_by}

-- the kind of the alternative of that number
abbrev pub kind_at : List Kind → ℕ → Kind
kind_at kinds i = slice_index_or kinds i Outside

-- what is made of the values that stand first, before the others
abbrev pub make : Kind → List Value → Option (List Value)
make k vs = value_by k (take (part_count k) vs) >>= λ v. Some (v ∷ drop (part_count k) vs)

module _ (kinds : List Kind) (bytes : List ℕ) (tokens : List Token) where
  -- the bytes of the token at a place
  abbrev pub token_at : (at : ℕ) → Option Value
  token_at at = option_map (λ (x : Token). TextV (text_of bytes (record { start = x.start; end = x.end }))) (slice_get tokens at)

  abbrev pub token_by : symbols.Token → Option Value
  token_by t = token_at t.at

  -- what an event does to the values that stand behind it
  abbrev pub step : Event → List Value → Option (List Value)
  step (Held at) vs = token_at at >>= λ v. Some (v ∷ vs)
  step (Took i) vs = make (kind_at kinds i) vs

  unfoldable pub fold : List Event → Option (List Value)
  fold [] = Some []
  fold (e ∷ es) = fold es >>= step e
