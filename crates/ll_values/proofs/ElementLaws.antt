-- Elements of which the first is written apart from its type.
use Rattle.std.proofs.Common.{◌≡◌, ◌≤◌, ℕ, List, [], ◌∷◌, Some, None, length, map, take, refl, ap}
use Rattle.std.specs.Option.{option_map}
use Rattle.kinds.specs.declared.types.StructLayout.TheVariants.{Packed}
use Rattle.llvm_core.specs.declared.numbers.LLVMType.{LLVMType}
use Rattle.llvm_core.specs.Module.{Module}
use Rattle.llvm_core.specs.Data.{trees_of, type_at}
use Rattle.ll_lines.specs.declared.lines.Brackets.{Brackets}
use Rattle.ll_lines.specs.declared.lines.Brackets.TheVariants as B
use Rattle.ll_lines.specs.declared.lines.SaidConst.{SaidConst}
use Rattle.ll_lines.specs.declared.lines.Said.{Said}
use Rattle.ll_lines.specs.declared.lines.Said.TheVariants as Told
use Rattle.ll_lines.specs.declared.lines.Typed.{Typed}
use Rattle.ll_lines.specs.declared.names.Name.{Name}
use Rattle.ll_lines.specs.Lines.{SaidConsts, ThenSaid}
use Rattle.ll_lines.specs.Views.{said_view}
use Rattle.ll_values.specs.declared.form.Kind.TheVariants as K
use Rattle.ll_values.specs.declared.form.ListKind.TheVariants as E
use Rattle.ll_values.specs.declared.form.TypedKind.TheVariants as T
use Rattle.ll_values.specs.declared.store.Store.{Store}
use Rattle.ll_values.specs.declared.value.Literal.{Literal}
use Rattle.ll_values.specs.declared.value.Literal.TheVariants as L
use Rattle.ll_values.specs.declared.value.Value as code
use Rattle.ll_values.specs.declared.value.Value.TheVariants as V
use Rattle.ll_values.specs.Values.{ConstsV, LiteralV, value_by, said, const_before, listed_from}
use Rattle.ll_values.specs.Views.{table_of, said_const, consts_at, literal_view, value_view, consts_from, IsStoreIn}
use Rattle.ll_values.specs.Growing.{Kept, Says, SaysList, Makes}
use Rattle.ll_values.specs.Stack.{MakesNothing}
use Rattle.ll_values.proofs.KeepLaws.{kept_twice, consts_at_same}
use Rattle.ll_values.proofs.StackLaws.{puts_none}

same_inside : (a b : SaidConsts) → ConstsV a ≡ ConstsV b → a ≡ b
same_inside a b e = cc

module _ (bytes : List ℕ) (m n : Module) (s : Store) (brackets : Brackets) (ty : LLVMType) (first : Literal) (rest : ℕ) where
  -- a constant before those that are there
  pub says_list : (t u : Store) (st : IsStoreIn m s) (c : SaidConst) (number : ℕ) → rest ≤ length s.consts → Says bytes m n s t (said (type_at (trees_of m).types ty) (literal_view bytes (trees_of m) s first)) (Told.Const c)
      → Kept bytes n t u (consts_from bytes (trees_of n) t c rest) (V.Consts number)
      → SaysList bytes m n s u (listed_from brackets (type_at (trees_of m).types ty) (literal_view bytes (trees_of m) s first) (consts_at bytes (trees_of m) s rest)) (L.Listed brackets number)
  says_list t u st c number le says kept =
      let here : consts_at bytes (trees_of n) u number ≡ ThenSaid (said_const bytes (trees_of n) t c) (consts_at bytes (trees_of n) t rest) = same_inside _ _ kept.value in
      let stays : consts_at bytes (trees_of n) t rest ≡ consts_at bytes (trees_of m) s rest = consts_at_same bytes m n s t says.interns says.keeps st rest le in
      record { interns = says.interns; store = kept.store; keeps = kept_twice s t u says.keeps kept.keeps; there = kept.there; value = rw (says.value, here, stays) refl }

  -- a local is no element
  pub says_local : (t : Store) (name : Name) → Says bytes m n s t (said (type_at (trees_of m).types ty) (literal_view bytes (trees_of m) s first)) (Told.Local name)
      → listed_from brackets (type_at (trees_of m).types ty) (literal_view bytes (trees_of m) s first) (consts_at bytes (trees_of m) s rest) ≡ None
  says_local t name says = rw says.value refl

  pub says_none : said (type_at (trees_of m).types ty) (literal_view bytes (trees_of m) s first) ≡ None
      → listed_from brackets (type_at (trees_of m).types ty) (literal_view bytes (trees_of m) s first) (consts_at bytes (trees_of m) s rest) ≡ None
  says_none none = rw none refl

module _ (bytes : List ℕ) (m n : Module) (s u : Store) (ty : LLVMType) (first : Literal) (rest : ℕ) (l : Literal) where
  pub makes_vector : SaysList bytes m n s u (listed_from B.Vector (type_at (trees_of m).types ty) (literal_view bytes (trees_of m) s first) (consts_at bytes (trees_of m) s rest)) l
      → Makes bytes m n s u (K.Typed T.InVector) (V.Type ty ∷ V.Literal first ∷ V.Consts rest ∷ []) (V.Literal l)
  makes_vector says = record { interns = says.interns; store = says.store; keeps = says.keeps; there = says.there; value = ap (option_map LiteralV) says.value }

  pub makes_packed : SaysList bytes m n s u (listed_from (B.Struct Packed) (type_at (trees_of m).types ty) (literal_view bytes (trees_of m) s first) (consts_at bytes (trees_of m) s rest)) l
      → Makes bytes m n s u (K.Typed T.InPacked) (V.Type ty ∷ V.Braced first rest ∷ []) (V.Literal l)
  makes_packed says = record { interns = says.interns; store = says.store; keeps = says.keeps; there = says.there; value = ap (option_map LiteralV) says.value }

-- nothing is put where nothing is listed
module _ (bytes : List ℕ) (m : Module) (s : Store) (vs : List code.Value) (ty : LLVMType) (first : Literal) (rest : ℕ) where
  pub vector_none : V.Type ty ∷ V.Literal first ∷ V.Consts rest ∷ [] ≡ take 3 vs → listed_from B.Vector (type_at (trees_of m).types ty) (literal_view bytes (trees_of m) s first) (consts_at bytes (trees_of m) s rest) ≡ None
      → MakesNothing bytes m s (K.Typed T.InVector) vs
  vector_none parts none = puts_none bytes (K.Typed T.InVector) m s vs (V.Type ty ∷ V.Literal first ∷ V.Consts rest ∷ []) parts (ap (option_map LiteralV) none)

  pub packed_none : V.Type ty ∷ V.Braced first rest ∷ [] ≡ take 2 vs → listed_from (B.Struct Packed) (type_at (trees_of m).types ty) (literal_view bytes (trees_of m) s first) (consts_at bytes (trees_of m) s rest) ≡ None
      → MakesNothing bytes m s (K.Typed T.InPacked) vs
  packed_none parts none = puts_none bytes (K.Typed T.InPacked) m s vs (V.Type ty ∷ V.Braced first rest ∷ []) parts (ap (option_map LiteralV) none)

-- a constant before others, by what its value says
module _ (bytes : List ℕ) (m : Module) (s : Store) (x : Typed) (rest : ℕ) where
  pub more_says : (c : SaidConst) → x.said ≡ Told.Const c → value_by (K.List E.ConstsMore) (map (value_view bytes (trees_of m) s) (V.Typed x ∷ V.Consts rest ∷ [])) ≡ Some (consts_from bytes (trees_of m) s c rest)
  more_says c e = ap (λ (y : Said). option_map ConstsV (const_before (said_view bytes (trees_of m) (table_of bytes (trees_of m) s) y) (consts_at bytes (trees_of m) s rest))) e

  pub more_none : (name : Name) → x.said ≡ Told.Local name → value_by (K.List E.ConstsMore) (map (value_view bytes (trees_of m) s) (V.Typed x ∷ V.Consts rest ∷ [])) ≡ None
  more_none name e = ap (λ (y : Said). option_map ConstsV (const_before (said_view bytes (trees_of m) (table_of bytes (trees_of m) s) y) (consts_at bytes (trees_of m) s rest))) e
