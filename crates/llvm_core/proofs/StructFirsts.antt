-- The first struct of each name, where one struct more comes.
use Rattle.std.proofs.Common.{◌≡◌, ◌++◌, ℕ, Bool, true, false, List, [], ◌∷◌, Option, Some, None, length, slice_get, if◌then◌else◌, ap, sym, ◌∙◌, refl}
use Rattle.std.specs.Prelude.{nat_eq}
use Rattle.std.specs.List.{find}
use Rattle.std.specs.Option.{option_or}
use Rattle.std.specs.Str.{bytes_eq}
use Rattle.std.specs.Cmp.Lexicographic.{pointwise}
use Rattle.std.proofs.lemmas.List.Folds.{find-append}
use Rattle.support.specs.Options.{or_else}
use Rattle.support.proofs.ListLaws.{slice_get-kept, slice_get-push}
use Rattle.indexmap.specs.IndexMap.{IndexMap}
use Rattle.llvm_core.specs.declared.numbers.LLVMStruct.{LLVMStruct}
use Rattle.llvm_core.specs.declared.structs.StructData.{StructData}
use Rattle.llvm_core.specs.Keys.{same_text}
use Rattle.llvm_core.specs.Consts.{struct_named}
use Rattle.llvm_core.specs.Firsts.{IsFirst, AreFirsts, IsNoted, noted}

module _ (xs : List StructData) (x : StructData) (q : List ℕ) where
  more : (o : Option StructData) → struct_named xs q ≡ o → (b : Bool) → bytes_eq x.name q ≡ b → struct_named (xs ++ x ∷ []) q ≡ option_or o (if b then Some x else None)
  more o e b f = find-append (λ (s : StructData). bytes_eq s.name q) xs (x ∷ []) ∙ ap (λ w. option_or w (find (λ (s : StructData). bytes_eq s.name q) (x ∷ []))) e ∙ ap (λ (c : Bool). option_or o (if c then Some x else None)) f

  -- that of a name is found where there was one, and is the new one where there was none
  pub first_more : (s : LLVMStruct) → s.0 ≡ length xs → (o : Option LLVMStruct) → IsFirst xs q o → IsFirst (xs ++ x ∷ []) q (or_else o (if pointwise nat_eq x.name q then Some s else None))
  first_more s at (Some t) h = let (y, here, is) = h in (y, slice_get-kept xs (x ∷ []) t.0 y here, by (bytes_eq x.name q) refl)
    where
      by : (b : Bool) → bytes_eq x.name q ≡ b → struct_named (xs ++ x ∷ []) q ≡ Some h.0
      by true e = more (Some h.0) h.2 true e
      by false e = more (Some h.0) h.2 false e
  first_more s at None h = by (pointwise nat_eq x.name q) refl
    where
      by : (b : Bool) → pointwise nat_eq x.name q ≡ b → IsFirst (xs ++ x ∷ []) q (if b then Some s else None)
      by true e = (x, slice_get-push xs x s.0 at, more None h true e)
      by false e = more None h false e

pub firsts_more : {S : Type 0} (xs : List StructData) (x : StructData) (s : LLVMStruct) (old new : IndexMap (List ℕ) LLVMStruct S) → s.0 ≡ length xs → AreFirsts xs old → IsNoted old new x.name s → AreFirsts (xs ++ x ∷ []) new
firsts_more xs x s old new at firsts is q = rw (is q) (first_more xs x q s at (noted old q) (firsts q))
