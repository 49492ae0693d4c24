-- A list that is walked from its front.
use Rattle.std.proofs.Common.{◌≡◌, ◌<◌, ◌≤◌, ℕ, List, [], ◌∷◌, ◌++◌, Some, length, map, slice_get, slice_index_or, refl, ap, sym, ◌∙◌, subst, append_assoc, All}
use Rattle.std.proofs.lemmas.List.{append-nil, map-append}
use Rattle.std.proofs.lemmas.List.Elements.{All-head}
use Rattle.std.proofs.lemmas.Option.{slice_get-get_or}
use Rattle.llvm_core.specs.Module.{Module}
use Rattle.llvm_core.specs.Data.{Trees}
use Rattle.ll_lines.specs.declared.lines.Inst.{Inst}
use Rattle.ll_lines.specs.Views.{inst_view, IsInstIn}
use Rattle.ll_values.specs.declared.store.Store.{Store}
use Rattle.ll_values.specs.Lists.{list_at}
use Rattle.ll_values.specs.Views.{table_of, made_in, inst_at, IsStoreIn}
use Rattle.ll_values.proofs.GrowLaws.{all_item}
use Rattle.ll_values.proofs.KeepLaws.{all_at}

-- what was found, and what is left, say what the whole list does
abbrev pub Walks : {X Y Z : Type 0} (f : X → Z) (g : Y → Z) (lists : List (List Y)) (first next : ℕ) (found : List X) → Type 0
Walks f g lists first next found = map f found ++ map g (list_at lists next) ≡ map g (list_at lists first)

module _ {X Y Z : Type 0} (f : X → Z) (g : Y → Z) (lists : List (List Y)) (first next : ℕ) (found : List X) (h : Walks f g lists first next found) where
  pub walks_next : (x : X) (y : Y) (rest : ℕ) → list_at lists next ≡ y ∷ list_at lists rest → f x ≡ g y → (now : List X) → now ≡ found ++ x ∷ [] → Walks f g lists first rest now
  walks_next x y rest is same now put =
      let left : map f (found ++ x ∷ []) ≡ map f found ++ f x ∷ [] = map-append f found (x ∷ []) in
      let here : map f found ++ (f x ∷ map g (list_at lists rest)) ≡ map g (list_at lists first) = rw same (ap (λ (ys : List Y). map f found ++ map g ys) (sym is) ∙ h) in
      rw (put, left, append_assoc (map f found) (f x ∷ []) (map g (list_at lists rest))) here

  pub walks_last : list_at lists next ≡ [] → map f found ≡ map g (list_at lists first)
  walks_last is = sym (append-nil (map f found)) ∙ ap (λ (ys : List Y). map f found ++ map g ys) (sym is) ∙ h

pub first_there : {Y : Type 0} (P : Y → Type 0) (lists : List (List Y)) (next rest : ℕ) (y : Y) → All (All P) lists → next ≤ length lists → list_at lists next ≡ y ∷ list_at lists rest → P y
first_there P lists next rest y all le is = All-head P y (list_at lists rest) (subst (All P) is (all_at P lists next all le))

-- the instruction of a number
pub inst_here : (bytes : List ℕ) (t : Trees) (s : Store) (n : ℕ) (i : Inst) → n < length s.insts.items → i ≡ slice_index_or s.insts.items n i → inst_view bytes t (table_of bytes t s) i ≡ inst_at bytes t s n
inst_here bytes t s n i h is = let at : slice_get s.insts.items n ≡ Some i = slice_get-get_or s.insts.items n i h ∙ ap Some (sym is) in rw at refl

pub inst_in : (m : Module) (s : Store) (n : ℕ) (i : Inst) → IsStoreIn m s → n < length s.insts.items → i ≡ slice_index_or s.insts.items n i → IsInstIn m (made_in s) i
inst_in m s n i st h is = all_item (IsInstIn m (made_in s)) s.insts.items n i st.insts (slice_get-get_or s.insts.items n i h ∙ ap Some (sym is))
