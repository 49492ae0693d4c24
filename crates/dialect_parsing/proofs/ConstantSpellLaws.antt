-- A text whose symbols were read as those of a constant.
use Rattle.std.proofs.Common.{◌≡◌, List, [], Some, sym, ap, ◌∙◌}
use Rattle.std.proofs.lemmas.Option.{same_Some}
use Rattle.dialect_types.specs.Trees.{NamedStruct}
use Rattle.const_attrs.specs.Trees.{AttrTree}
use Rattle.dialect_parsing.specs.declared.symbol.Symbol.{Symbol}
use Rattle.dialect_parsing.specs.Constants.{SpellsAttr}
use Rattle.dialect_parsing.specs.ConstantReading.{IsAttrRead}
use Rattle.dialect_parsing.specs.Symbols.{symbols_of}
use Rattle.dialect_parsing.specs.Tokens.{Text}
use Rattle.dialect_parsing.proofs.ConstantLaws.{attr_read_one}

module _ (structs : List NamedStruct) where
  pub spells_attr : (bytes : Text) (ss : List Symbol) (c : AttrTree) → symbols_of bytes ≡ Some ss → IsAttrRead structs 1000 ss c [] → SpellsAttr structs bytes c
  spells_attr bytes ss c said h = (said ∙ ap Some h.is, h.fine, h.fits)

  pub spells_no_attr : (bytes : Text) (ss : List Symbol) → symbols_of bytes ≡ Some ss → ((c : AttrTree) → IsAttrRead structs 1000 ss c [] → ⊥) → (c : AttrTree) → SpellsAttr structs bytes c → ⊥
  spells_no_attr bytes ss said h c s = h c (record { is = same_Some _ _ (sym said ∙ s.0); fine = s.1; fits = s.2 })

  -- symbols behind a constant are no part of it
  pub no_attr_end : (ss left : List Symbol) (d : AttrTree) → IsAttrRead structs 1000 ss d left → (left ≡ [] → ⊥) → (c : AttrTree) → IsAttrRead structs 1000 ss c [] → ⊥
  no_attr_end ss left d h more c k = more (attr_read_one structs 1000 1000 d c ss left [] h k).1
