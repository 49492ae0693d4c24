-- What a text that grows by tokens keeps.
use Rattle.std.specs.Prelude.{◌≡◌, ℕ, List, Option}
use Rattle.ll_tokens.specs.declared.kinds.Kind.{Kind}
use Rattle.ll_spacing.specs.Spacing.{AreSpaced, text_of, spaced_of, last_of}

-- the text is that of the tokens that it is cut into, these are well spaced, and the last of them is of that kind
pub record IsWritten (text : List ℕ) (last : Option Kind) : Type 0 where
  pub spaced : AreSpaced (spaced_of text)
  pub whole : text_of (spaced_of text) ≡ text
  pub ends : last ≡ last_of (spaced_of text)
