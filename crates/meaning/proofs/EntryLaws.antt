-- Entries of functions with a body: their symbols, their bodies, and that a module without intrinsics leaves none out.
use Rattle.std.proofs.Common.{ℕ, suc, ◌≡◌, refl, sym, ◌∙◌, ap, subst, Bool, true, false, not, if◌then◌else◌, List, [], ◌∷◌, Some, None, map, filter, length, nat_lt, All, arith}
use Rattle.std.proofs.lemmas.Bool.{lt-ltb}
use Rattle.std.proofs.lemmas.List.Elements.{All-head, All-tail}
use Rattle.kinds.specs.Names.{is_intrinsic_name}
use Rattle.kinds.specs.Types.{TypeTree}
use Rattle.llvm_core.specs.Data as L
use Rattle.llvm_core.specs.Data.{ModuleData}
use Rattle.meaning.specs.Terms.{Match, rename_type}
use Rattle.meaning.specs.Code.{Body, Entry, FunctionSymbol, External, SameBody, SameBodies, IsDistinctNames, names_of, rename_symbol}
use Rattle.meaning.specs.Setting.{Setting}
use Rattle.meaning.specs.Llvm as Llvm
use Rattle.meaning.specs.Examples.{same_places}
use Rattle.meaning.proofs.RenamedLaws.{names_stay}

-- ---- types under a match

-- the match that leaves all where it is renames no struct
pub type_stays : (t : TypeTree) → rename_type same_places t ≡ t
type_stays t = names_stay same_places (λ n. refl) t

-- ---- symbols and bodies

-- a function with a block has a body
pub some_blocks : {B : Type 0} (bs : List B) → ¬ (bs ≡ []) → nat_lt 0 (length bs) ≡ true
some_blocks [] h = absurd (h refl)
some_blocks (b ∷ bs) h = lt-ltb 0 (suc (length bs)) (omega arith)

pub not_empty : {A B : Type 0} (xs : List A) (ys : List B) → length ys ≡ length xs → ¬ (xs ≡ []) → ¬ (ys ≡ [])
not_empty [] ys same h e = h refl
not_empty (x ∷ xs) ys same h e = let n = ap length e in absurd (omega (arith, same, n))

-- two symbols of functions of one type, which the match leaves
pub same_symbol : (match : Match) (t u : TypeTree) (s : ℕ) (b c : Bool) → rename_type match t ≡ t → t ≡ u → s ≡ 0 → b ≡ c → rename_symbol match (FunctionSymbol t External s b) ≡ FunctionSymbol u External 0 c
same_symbol match t u s b c stays type space body = cc (stays, type, space, body)

pub both : (match : Match) (n : List ℕ) (b c : Bool) (x y : Body) → b ≡ true → c ≡ true → SameBody match n x y → SameBodies match n (if b then Some x else None) (if c then Some y else None)
both match n b c x y hb hc same = rw (hb, hc) same

-- ---- functions that are no intrinsics

abbrev pub HasOwnName : L.Function → Type 0
HasOwnName f = is_intrinsic_name f.name ≡ false

pub all_kept : (fs : List L.Function) → All HasOwnName fs → filter (λ (f : L.Function). not (Llvm.is_intrinsic f)) fs ≡ fs
all_kept [] h = refl
all_kept (f ∷ fs) h = rw (All-head HasOwnName f fs h, all_kept fs (All-tail HasOwnName f fs h)) refl

entries_names : (setting : Setting) (fs : List L.Function) → map (λ (e : Entry). e.name) (map (Llvm.entry setting) fs) ≡ map (λ (f : L.Function). f.name) fs
entries_names setting [] = refl
entries_names setting (f ∷ fs) = rw (entries_names setting fs) refl

pub distinct_code : (d : ModuleData) → All HasOwnName d.functions → IsDistinctNames (map (λ (f : L.Function). f.name) d.functions) → IsDistinctNames (names_of (Llvm.code_of d))
distinct_code d own h = subst IsDistinctNames (sym (ap (λ (fs : List L.Function). map (λ (e : Entry). e.name) (map (Llvm.entry (Llvm.setting_of d)) fs)) (all_kept d.functions own) ∙ entries_names (Llvm.setting_of d) d.functions)) h
