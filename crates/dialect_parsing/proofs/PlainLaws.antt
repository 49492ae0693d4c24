-- Types without parts, from their symbols.
use Rattle.std.proofs.Common.{◌≡◌, ◌<◌, ◌≤◌, ◌^◌, ℕ, Bool, true, false, List, ◌∷◌, sym, ◌∙◌, arith}
use Rattle.std.proofs.lemmas.Bool.Decides.{nat_tests}
use Rattle.kinds.specs.declared.types.Floating.{Floating}
use Rattle.dialect_types.specs.Trees.{NamedStruct, TypeTree, VoidType, IntType, PointerType, FloatingType, RefusedType, ArrayType, VectorType, StructType, NamedType, FunctionType}
use Rattle.dialect_parsing.specs.declared.symbol.Symbol.{Symbol}
use Rattle.dialect_parsing.specs.declared.symbol.Symbol.TheVariants as S
use Rattle.dialect_parsing.specs.Reading.{is_width, is_space}
use Rattle.dialect_parsing.specs.Spelling.{written, IsOfDialect}

pub width_fine : (w : ℕ) → is_width w ≡ true → (1 ≤ w) × (w ≤ 2 ^ 23)
width_fine w h = (grind (arith, nat_tests), grind (arith, nat_tests))

pub width_is : (w : ℕ) → (1 ≤ w) × (w ≤ 2 ^ 23) → is_width w ≡ true
width_is w h = let a = h.0 in let b = h.1 in grind (arith, nat_tests)

pub space_fine : (n : ℕ) → is_space n ≡ true → n < 2 ^ 24
space_fine n h = grind (arith, nat_tests)

space_is : (n : ℕ) → n < 2 ^ 24 → is_space n ≡ true
space_is n h = grind (arith, nat_tests)

pub not_both : (b : Bool) → b ≡ true → b ≡ false → ⊥
not_both b h k = let both : true ≡ false = sym h ∙ k in cc

pub same_first : (s u : Symbol) (ss us : List Symbol) → s ∷ ss ≡ u ∷ us → s ≡ u
same_first s u ss us e = cc

module _ (structs : List NamedStruct) where
  -- no integer type is written so
  pub no_integer : (s : Symbol) (ss : List Symbol) → s ≡ S.Integer → ((w : ℕ) (us : List Symbol) → ss ≡ S.Bits w ∷ us → is_width w ≡ false) → (t : TypeTree) (us : List Symbol) → IsOfDialect structs t → s ∷ ss ≡ written t us → ⊥
  no_integer s ss is h (IntType w) us fine e = not_both (is_width w) (width_is w fine) (h w us (cc))
  no_integer s ss is h (RefusedType of) us fine e = absurd fine
  no_integer s ss is h t us fine e = cc

  pub no_pointer : (s : Symbol) (ss : List Symbol) → s ≡ S.Pointer → ((n : ℕ) (us : List Symbol) → ss ≡ S.OpenParen ∷ S.Number n ∷ S.CloseParen ∷ us → is_space n ≡ false) → (t : TypeTree) (us : List Symbol) → IsOfDialect structs t → s ∷ ss ≡ written t us → ⊥
  no_pointer s ss is h (PointerType n) us fine e = not_both (is_space n) (space_is n fine) (h n us (cc))
  no_pointer s ss is h (RefusedType of) us fine e = absurd fine
  no_pointer s ss is h t us fine e = cc

  -- no type begins with another symbol
  pub no_head : (s : Symbol) → (s ≡ S.Void → ⊥) → (s ≡ S.Integer → ⊥) → (s ≡ S.Pointer → ⊥) → ((of : Floating) → s ≡ S.Floating of → ⊥) → (s ≡ S.Array → ⊥) → (s ≡ S.Vector → ⊥) → (s ≡ S.Struct → ⊥) → (s ≡ S.Func → ⊥)
      → (ss : List Symbol) (t : TypeTree) (us : List Symbol) → IsOfDialect structs t → s ∷ ss ≡ written t us → ⊥
  no_head s a b c d f g h i ss VoidType us fine e = a (same_first _ _ _ _ e)
  no_head s a b c d f g h i ss (IntType w) us fine e = b (same_first _ _ _ _ e)
  no_head s a b c d f g h i ss (PointerType n) us fine e = c (same_first _ _ _ _ e)
  no_head s a b c d f g h i ss (FloatingType of) us fine e = d of (same_first _ _ _ _ e)
  no_head s a b c d f g h i ss (RefusedType of) us fine e = absurd fine
  no_head s a b c d f g h i ss (ArrayType n t) us fine e = f (same_first _ _ _ _ e)
  no_head s a b c d f g h i ss (VectorType k n t) us fine e = g (same_first _ _ _ _ e)
  no_head s a b c d f g h i ss (StructType l ts) us fine e = h (same_first _ _ _ _ e)
  no_head s a b c d f g h i ss (NamedType name) us fine e = h (same_first _ _ _ _ e)
  no_head s a b c d f g h i ss (FunctionType r ps v) us fine e = i (same_first _ _ _ _ e)
