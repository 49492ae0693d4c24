-- What is said of a constant means the constant: of bytes, of a list and of a splat, and of the constants in these.
use Rattle.std.proofs.Common.{◌≡◌, ◌<◌, ◌^◌, ℕ, true, false, List, length, Option, Some, None, All, refl, ap, ◌∙◌, arith}
use Rattle.std.specs.Option.{option_map}
use Rattle.kinds.specs.declared.types.VectorTypeKind.TheVariants.{Fixed, Scalable}
use Rattle.kinds.specs.declared.types.StructLayout.{StructLayout}
use Rattle.kinds.specs.Types.{TypeTree, VoidType, IntType, PointerType, FloatingType, RefusedType, ArrayType, VectorType, StructType, NamedType, FunctionType, same_layout}
use Rattle.kinds.specs.Structs.{StructBody, Struct}
use Rattle.kinds.proofs.TypeLaws.{tree_self}
use Rattle.llvm_core.specs.Data.{ConstTree, IntConst, FilledConst, BytesConst, ListConst, SplatConst, PlaceholderConst, ConstTrees, NoConsts, ThenConst, formed}
use Rattle.llvm_core.specs.Form.{IsFormConst, AreFormConsts}
use Rattle.ll_literals.specs.Text.{Text}
use Rattle.ll_literals.specs.Escapes.{unescaped, escaped}
use Rattle.ll_literals.specs.Chain.{◌>>=◌}
use Rattle.ll_literals.proofs.EscapeLaws.{escaped_says}
use Rattle.ll_literals.proofs.QuoteLaws.{inside_quoted}
use Rattle.llvm_core.specs.Elements.{body_named, are_elements, splat_const, HasElements, HaveElements}
use Rattle.ll_bodies.specs.Constants.{stand_for, chars_said, chars_const, const_meant, consts_meant}
use Rattle.ll_said.specs.Said.{chars_text, brackets_of, said_const, said_consts}

-- ---- bytes

chars_say : (bytes : List ℕ) → All (λ (b : ℕ). b < 2 ^ 8) bytes → chars_said (chars_text bytes) ≡ Some bytes
chars_say bytes small = ap (option_map unescaped) (inside_quoted (escaped bytes)) ∙ ap (λ (t : Text). Some t) (escaped_says bytes small)

bytes_say : (bytes : List ℕ) → formed (BytesConst bytes) ≡ BytesConst bytes → chars_const (ArrayType (length bytes) (IntType 8)) bytes ≡ Some (BytesConst bytes)
bytes_say bytes one = rw (tree_self (ArrayType (length bytes) (IntType 8)), one) refl

-- ---- brackets

layout_self : (a : StructLayout) → same_layout a a ≡ true
layout_self a = grind arith

module _ (structs : List Struct) where
  named_stand : (name : List ℕ) (cs : ConstTrees) → are_elements structs (NamedType name) cs ≡ true → stand_for structs (brackets_of structs (NamedType name)) (NamedType name) ≡ true
  named_stand name cs fit = by (body_named structs name) refl
    where
      by : (o : Option StructBody) → body_named structs name ≡ o → stand_for structs (brackets_of structs (NamedType name)) (NamedType name) ≡ true
      by (Some b) is = rw (is, layout_self b.layout) refl
      by None is = let no : false ≡ true = rw is at fit in absurd cc

  -- the brackets of a type of elements stand for it
  brackets_stand : (τ : TypeTree) (cs : ConstTrees) → are_elements structs τ cs ≡ true → stand_for structs (brackets_of structs τ) τ ≡ true
  brackets_stand VoidType cs fit = absurd cc
  brackets_stand (IntType w) cs fit = absurd cc
  brackets_stand (PointerType s) cs fit = absurd cc
  brackets_stand (FloatingType a) cs fit = absurd cc
  brackets_stand (RefusedType a) cs fit = absurd cc
  brackets_stand (ArrayType n τ) cs fit = refl
  brackets_stand (VectorType Fixed n τ) cs fit = refl
  brackets_stand (VectorType Scalable n τ) cs fit = absurd cc
  brackets_stand (StructType layout τs) cs fit = layout_self layout
  brackets_stand (NamedType name) cs fit = named_stand name cs fit
  brackets_stand (FunctionType τ τs v) cs fit = absurd cc

  -- ---- constants

  mutual
    -- a constant in its one form, of the elements that its type asks for
    pub const_says : (c : ConstTree) → IsFormConst c → HasElements structs c → const_meant structs (said_const structs c) ≡ Some c
    const_says (IntConst w v) form made = refl
    const_says (FilledConst fill type) form made = refl
    const_says (BytesConst bytes) form made =
        ap (λ (o : Option (List ℕ)). o >>= chars_const (ArrayType (length bytes) (IntType 8))) (chars_say bytes form.0) ∙ bytes_say bytes form.1
    const_says (ListConst type cs) form made = rw (consts_say cs form.1 made.1, brackets_stand type cs made.0, made.0, form.0) refl
    const_says (SplatConst type c) form made = ap (λ (o : Option ConstTree). o >>= splat_const type) (const_says c form.1 made.1) ∙ made.0
    const_says (PlaceholderConst n type) form made = absurd form

    consts_say : (cs : ConstTrees) → AreFormConsts cs → HaveElements structs cs → consts_meant structs (said_consts structs cs) ≡ Some cs
    consts_say NoConsts form made = refl
    consts_say (ThenConst c cs) form made = rw (const_says c form.0 made.0, consts_say cs form.1 made.1) refl
