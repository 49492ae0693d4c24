-- What is made of parts, where the store stays as it is.
use Rattle.std.proofs.Common.{◌≡◌, ℕ, List, [], ◌∷◌, Option, Some, None, Result, Ok, Err, map, refl, ap, sym, ◌∙◌, arith}
use Rattle.std.specs.Prelude.{IfSome, IfOk}
use Rattle.std.specs.Option.{ok_or}
use Rattle.llvm_core.specs.declared.numbers.LLVMType.{LLVMType}
use Rattle.llvm_core.specs.Module.{Module}
use Rattle.llvm_core.specs.Data.{Trees, trees_of, type_at}
use Rattle.ll_lines.specs.declared.names.Name.{Name}
use Rattle.ll_lines.specs.declared.lines.Said.{Said}
use Rattle.ll_lines.specs.Views.{said_view, IsTypeIn}
use Rattle.ll_values.specs.declared.form.Kind.{Kind}
use Rattle.ll_values.specs.declared.form.Kind.TheVariants as K
use Rattle.ll_values.specs.declared.form.TypedKind.{TypedKind}
use Rattle.ll_values.specs.declared.form.TypedKind.TheVariants as T
use Rattle.ll_values.specs.declared.store.Store.{Store}
use Rattle.ll_values.specs.declared.value.Fields.{Fields}
use Rattle.ll_values.specs.declared.value.Literal.{Literal}
use Rattle.ll_values.specs.declared.value.Value as code
use Rattle.ll_values.specs.declared.value.Value.TheVariants as V
use Rattle.ll_values.specs.declared.value_err.ValueErr.{ValueErr}
use Rattle.ll_values.specs.declared.value_err.ValueErr.TheVariants.{NotYet}
use Rattle.ll_values.specs.Values.{FieldsV, value_by, typed_by, said}
use Rattle.ll_values.specs.Views.{table_of, literal_view, fields_view, value_view, AreFieldsOf, IsLiteralIn, IsValueIn, IsStoreIn}
use Rattle.ll_values.specs.Growing.{Interns, Says, Makes}
use Rattle.ll_values.proofs.GrowLaws.{none_interned, interned_twice}
use Rattle.ll_values.proofs.KeepLaws.{store_kept, kept_twice, literal_same, said_kept, said_stays}

module _ (bytes : List ℕ) (m : Module) (s : Store) (st : IsStoreIn m s) where
  -- nothing is added
  pub makes_only : (k : Kind) (ps : List code.Value) (v : code.Value) → IsValueIn m s v → value_by k (map (value_view bytes (trees_of m) s) ps) ≡ Some (value_view bytes (trees_of m) s v) → Makes bytes m m s s k ps v
  makes_only k ps v there made = record { interns = none_interned m st.sound; store = st; keeps = store_kept s; there = there; value = made }

  -- the fields of a struct, where parts make some
  pub makes_fields : (k : TypedKind) (ps : List code.Value) (o : Option Fields) → IfSome o (λ b. typed_by k (map (value_view bytes (trees_of m) s) ps) ≡ Some (FieldsV (Some (fields_view (trees_of m) s b)))) → IfSome o (AreFieldsOf m s.types)
      → IfOk (ok_or o NotYet) (λ b. Makes bytes m m s s (K.Typed k) ps (V.Fields (Some b)))
  makes_fields k ps None made there = tt
  makes_fields k ps (Some b) made there = makes_only (K.Typed k) ps (V.Fields (Some b)) there made

  -- a literal at a type that is there
  module _ (n : Module) (t : Store) (ty : LLVMType) (h : IsTypeIn m ty) (a : Literal) (x : Said) (says : Says bytes m n s t (said (type_at (trees_of m).types ty) (literal_view bytes (trees_of m) s a)) x) where
    pub makes_one : Makes bytes m n s t (K.Typed T.Typed) (V.Type ty ∷ V.Literal a ∷ []) (V.Typed (record { ty = ty; said = x }))
    makes_one = record {
      interns = says.interns;
      store = says.store;
      keeps = says.keeps;
      there = (omega (arith, says.interns.type_count, h), says.there);
      value = rw (says.value, says.interns.types ty h) refl;
    }

    -- and one more
    pub makes_pair : (p : Module) (u : Store) (b : Literal) (y : Said) → IsLiteralIn m s b → Says bytes n p t u (said (type_at (trees_of n).types ty) (literal_view bytes (trees_of n) t b)) y
        → Makes bytes m p s u (K.Typed T.Pair) (V.Type ty ∷ V.Literal a ∷ V.Literal b ∷ []) (V.Pair ty x y)
    makes_pair p u b y hb more = record {
      interns = both;
      store = more.store;
      keeps = kept_twice s t u says.keeps more.keeps;
      there = (omega (arith, both.type_count, h), said_stays bytes n p t u more.interns more.keeps says.store x says.there, more.there);
      value = rw (says.value, second, both.types ty h, said_kept bytes n p t u more.interns more.keeps says.store x says.there) refl;
    }
      where
        both : Interns m p
        both = interned_twice m n p says.interns more.interns

        second : said (type_at (trees_of m).types ty) (literal_view bytes (trees_of m) s b) ≡ Some (said_view bytes (trees_of p) (table_of bytes (trees_of p) u) y)
        second = ap (λ τ. said τ (literal_view bytes (trees_of m) s b)) (sym (says.interns.types ty h)) ∙ ap (said (type_at (trees_of n).types ty)) (sym (literal_same bytes m n s t says.interns says.keeps st b hb)) ∙ more.value

    -- nothing is said of the other
    pub pair_none : (b : Literal) → IsLiteralIn m s b → said (type_at (trees_of n).types ty) (literal_view bytes (trees_of n) t b) ≡ None → said (type_at (trees_of m).types ty) (literal_view bytes (trees_of m) s b) ≡ None
    pair_none b hb none = ap (λ τ. said τ (literal_view bytes (trees_of m) s b)) (sym (says.interns.types ty h)) ∙ ap (said (type_at (trees_of n).types ty)) (sym (literal_same bytes m n s t says.interns says.keeps st b hb)) ∙ none

  -- a literal, where it says something at the type
  pub makes_said : (n : Module) (t : Store) (ty : LLVMType) (a : Literal) (r : Result Said ValueErr) → IsTypeIn m ty → IfOk r (Says bytes m n s t (said (type_at (trees_of m).types ty) (literal_view bytes (trees_of m) s a)))
      → IfOk r (λ x. Makes bytes m n s t (K.Typed T.Typed) (V.Type ty ∷ V.Literal a ∷ []) (V.Typed (record { ty = ty; said = x })))
  makes_said n t ty a (Ok x) h says = makes_one n t ty h a x says
  makes_said n t ty a (Err e) h says = tt

-- where the only part is no token, no struct is named
pub no_name : (bytes : List ℕ) (t : Trees) (s : Store) (ps : List code.Value) → ((n : Name) → ps ≡ V.Text n ∷ [] → ⊥) → typed_by T.Named (map (value_view bytes t s) ps) ≡ None
no_name bytes t s [] h = refl
no_name bytes t s (V.Text n ∷ []) h = absurd (h n refl)
no_name bytes t s (_ ∷ []) h = refl
no_name bytes t s (V.Text n ∷ _ ∷ _) h = refl
no_name bytes t s (_ ∷ _ ∷ _) h = refl
