-- Attributes of constants of the source, whose structs have the identifiers of the dialect already.
use Rattle.std.specs.Prelude.{ℕ, ◌≡◌, List, Option, Some, None, length, slice_get}
use Rattle.std.specs.Option.{option_and_then}
use Rattle.kinds.specs.Types.{TypeTree, types_list}
use Rattle.kinds.specs.Structs.{Struct}
use Rattle.llvm_core.specs.declared.numbers.LLVMConst.{LLVMConst}
use Rattle.llvm_core.specs.Module.{Module}
use Rattle.llvm_core.specs.Data.{ConstTree, ConstTrees, const_at, trees_of}
use Rattle.llvm_core.specs.Elements.{HasElements, HaveElements}
use Rattle.llvm_core.specs.Form.{IsFormConst, AreFormConsts, IsShortConst, AreShort}
use Rattle.dialect_types.specs.declared.types.TypeKind.{TypeKind}
use Rattle.dialect_types.specs.Trees.{structs_of, type_trees}
use Rattle.const_attrs.specs.declared.const_attr.ConstAttr.{ConstAttr}
use Rattle.const_attrs.specs.Trees.{AttrTree, AttrTrees, attr_tree, attr_data, HasTypesBelow}
use Rattle.const_attrs.specs.Verified.{Elements, OfOne, OneOfEach, elements_of, broken}
use Rattle.meaning.specs.Pairs.{Matched}
use Rattle.from_consts.specs.Constants.{attr_of, attrs_of}

abbrev pub own_attr : ConstTree → Option AttrTree
own_attr c = attr_of (λ (name : List ℕ). name) c

abbrev pub own_attrs : ConstTrees → Option AttrTrees
own_attrs cs = attrs_of (λ (name : List ℕ). name) cs

-- a constant of the form that is translated, with the elements that these structs ask for
abbrev pub IsTaken : List Struct → ConstTree → Type 0
IsTaken structs c = IsFormConst c × IsShortConst c × HasElements structs c

abbrev pub AreTaken : List Struct → ConstTrees → Type 0
AreTaken structs cs = AreFormConsts cs × AreShort cs × HaveElements structs cs

-- ---- elements

abbrev pub element_in : Elements → ℕ → Option TypeTree
element_in (OfOne count t) place = Some t
element_in (OneOfEach ts) place = slice_get (types_list ts) place

-- the type of the element at that place of a constant of the type, where the type has elements
abbrev pub element_at : List Struct → TypeTree → ℕ → Option TypeTree
element_at structs t place = option_and_then (λ (es : Elements). element_in es place) (elements_of structs t)

-- ---- attributes that were made

-- it is the constant's, over the types of a context, and keeps the rules of constants
pub record IsAttrOf (ks : List TypeKind) (c : ConstTree) (a : ConstAttr) : Type 0 where
  pub within : HasTypesBelow (length ks) (attr_data a)
  pub is : own_attr c ≡ Some (attr_tree (type_trees ks) (attr_data a))
  pub keeps : broken (structs_of ks) (attr_tree (type_trees ks) (attr_data a)) ≡ None

-- the attributes are those of the constants of these numbers, one by one
abbrev pub AreAttrsOf : List TypeKind → Module → List LLVMConst → List ConstAttr → Type 0
AreAttrsOf ks m cs attrs = Matched (λ (c : LLVMConst) (a : ConstAttr). IsAttrOf ks (const_at (trees_of m).consts c) a) cs attrs
