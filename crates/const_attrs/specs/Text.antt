-- The dialect text of a constant.
use Rattle.std.specs.Prelude.{ℕ, List, [], ◌∷◌, ◌++◌, codes, map}
use Rattle.std.specs.Fmt.{decimal}
use Rattle.kinds.specs.declared.fill.Fill.{Fill}
use Rattle.kinds.specs.declared.fill.Fill.TheVariants as F
use Rattle.dialect_types.specs.Text.{joined, type_text}
use Rattle.dialect_types.specs.Trees.{TypeTree, IntType}
use Rattle.const_attrs.specs.Trees.{AttrTree, AttrTrees, IntegerAttr, FilledAttr, BytesAttr, AggregateAttr, SplatAttr, NoAttrs, ThenAttr}

-- what zero, undef and poison begin with, a line for each
abbrev pub fill_head : Fill → List ℕ
fill_head F.Zero = codes "llvm.zero <"
fill_head F.Undef = codes "llvm.undef <"
fill_head F.Poison = codes "llvm.poison <"

-- the type of an integer inside the text of the integer: `iW` for an integer type
abbrev pub inner_type_text : TypeTree → List ℕ
inner_type_text (IntType w) = codes "i" ++ decimal w
inner_type_text t = type_text t

abbrev mutual
  -- the text of a constant
  pub attr_text : AttrTree → List ℕ
  attr_text (IntegerAttr t value) = codes "builtin.integer <" ++ decimal value ++ codes ": " ++ inner_type_text t ++ codes ">"
  attr_text (FilledAttr fill t) = fill_head fill ++ type_text t ++ codes ">"
  attr_text (BytesAttr bytes) = codes "llvm.bytes <[" ++ joined (map decimal bytes) ++ codes "]>"
  attr_text (AggregateAttr cs t) = codes "llvm.aggregate <[" ++ joined (attr_texts cs) ++ codes "] : " ++ type_text t ++ codes ">"
  attr_text (SplatAttr c t) = codes "llvm.splat <" ++ attr_text c ++ codes " : " ++ type_text t ++ codes ">"

  -- the text of each
  pub attr_texts : AttrTrees → List (List ℕ)
  attr_texts NoAttrs = []
  attr_texts (ThenAttr c cs) = attr_text c ∷ attr_texts cs
