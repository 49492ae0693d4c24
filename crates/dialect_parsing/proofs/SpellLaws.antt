-- A text whose symbols were read.
use Rattle.std.proofs.Common.{◌≡◌, List, [], Some, None, sym, ap, ◌∙◌}
use Rattle.std.proofs.lemmas.Option.{same_Some}
use Rattle.dialect_types.specs.Trees.{NamedStruct, TypeTree}
use Rattle.dialect_parsing.specs.declared.symbol.Symbol.{Symbol}
use Rattle.dialect_parsing.specs.Spelling.{Spells}
use Rattle.dialect_parsing.specs.Symbols.{symbols_of}
use Rattle.dialect_parsing.specs.Tokens.{Text}
use Rattle.dialect_parsing.specs.Reading.{IsRead}
use Rattle.dialect_parsing.proofs.ReadingLaws.{one}

module _ (structs : List NamedStruct) where
  pub spells : (bytes : Text) (ss : List Symbol) (t : TypeTree) → symbols_of bytes ≡ Some ss → IsRead structs 1000 ss t [] → Spells structs bytes t
  spells bytes ss t said h = (said ∙ ap Some h.is, h.fine, h.fits)

  pub spells_none : (bytes : Text) (ss : List Symbol) → symbols_of bytes ≡ Some ss → ((t : TypeTree) → IsRead structs 1000 ss t [] → ⊥) → (t : TypeTree) → Spells structs bytes t → ⊥
  spells_none bytes ss said h t s = h t (record { is = same_Some _ _ (sym said ∙ s.0); fine = s.1; fits = s.2 })

  pub spells_no_symbols : (bytes : Text) → symbols_of bytes ≡ None → (t : TypeTree) → Spells structs bytes t → ⊥
  spells_no_symbols bytes none t s = let e = sym none ∙ s.0 in cc

  -- symbols behind a type are no part of it
  pub no_end : (ss left : List Symbol) (u : TypeTree) → IsRead structs 1000 ss u left → (left ≡ [] → ⊥) → (t : TypeTree) → IsRead structs 1000 ss t [] → ⊥
  no_end ss left u h more t k = more (one structs u t left [] h.fine k.fine (sym h.is ∙ k.is)).1
