-- Names that an import has met so far, their identifiers, and what the legaliser was asked.
use Rattle.std.proofs.Common.{ℕ, ◌≡◌, ◌&&◌, inl, inr, refl, sym, ap, subst, ◌∙◌, Bool, true, false, not, if◌then◌else◌, List, [], ◌∷◌, ◌++◌, Option, Some, None, unwrap_or}
use Rattle.std.specs.Str.{bytes_eq}
use Rattle.std.proofs.lemmas.List.{append-nil, append_assoc, map-append, map_push}
use Rattle.std.proofs.lemmas.Slice.Eq.{bytes_eq-Decides}
use Rattle.kinds.specs.Names.{is_intrinsic_name, is_own_name, is_good_name}
use Rattle.kinds.proofs.NameLaws.{good_not_bad}
use Rattle.dialect_types.specs.Names.{IsIdentifier}
use Rattle.dialect_types.specs.Legalised.{Named, Gave, GoesOn, IsGiven}
use Rattle.dialect_types.proofs.LegalLaws.{gave_kept}
use Rattle.from_llvm_ir.specs.Imported.{FirstUses, UsedAgain, UsedFirst, IsGivenName, kept_name}
use Rattle.from_llvm_ir.specs.Naming.{names_in, HasMet, HasMetFirst}

-- ---- more names may be met

pub goes_same : (names : List Named) → GoesOn names names
goes_same names = ([], sym (append-nil names))

pub goes_then : (a b c : List Named) → GoesOn a b → GoesOn b c → GoesOn a c
goes_then a b c h k = (h.0 ++ k.0, k.1 ∙ ap (λ (xs : List Named). xs ++ k.0) h.1 ∙ append_assoc a h.0 k.0)

-- ---- identifiers

pub given_kept : (now later : List Named) (n : List ℕ) (i : Option (List ℕ)) → GoesOn now later → IsGivenName now n i → IsGivenName later n i
given_kept now later [] i on h = h
given_kept now later (b ∷ bs) None on h = h
given_kept now later (b ∷ bs) (Some i) on h = gave_kept now later (b ∷ bs) i on h

-- a name that is empty is none, and another one is given its identifier
pub given_none : (given : List Named) (n : List ℕ) → n ≡ [] → IsGivenName given n None
given_none given n e = rw e refl

pub given_some : (given : List Named) (n i : List ℕ) → ¬ (n ≡ []) → Gave given n i → IsGivenName given n (Some i)
given_some given [] i some h = absurd (some refl)
given_some given (b ∷ bs) i some h = h

pub identifier_some : (i : List ℕ) → IsIdentifier i → ¬ (i ≡ [])
identifier_some [] h e = elim h [ ]
identifier_some (c ∷ cs) h e = cc

-- ---- the LLVM name that is kept

-- a function that keeps its LLVM name where its own is another has that name
pub kept_back : (n i : List ℕ) → unwrap_or (kept_name n i) i ≡ n
kept_back n i = by (bytes_eq n i) refl
  where
    by : (t : Bool) → bytes_eq n i ≡ t → unwrap_or (if t then None else Some n) i ≡ n
    by true e = sym ((bytes_eq-Decides n i).0 e)
    by false e = refl

-- a name that the form takes and that is none of an intrinsic
pub good_own : (n : List ℕ) → is_good_name n ≡ true → is_intrinsic_name n ≡ false → is_own_name n ≡ true
good_own n good own =
    ap (λ (b : Bool). not b && not (is_intrinsic_name n)) (good_not_bad n good) ∙ ap (λ (b : Bool). not false && not b) own

-- ---- names that are met

pub met_none : (names : List Named) → HasMet names names []
met_none names = λ uses h. subst (λ (us : List (List ℕ)). FirstUses us (names_in names)) (sym (append-nil uses)) h

pub met_then : (a b c : List Named) (ns ms : List (List ℕ)) → HasMet a b ns → HasMet b c ms → HasMet a c (ns ++ ms)
met_then a b c ns ms h k = λ uses first. subst (λ (us : List (List ℕ)). FirstUses us (names_in c)) (append_assoc uses ns ms) (k (uses ++ ns) (h uses first))

-- the legaliser was asked one name
pub met_one : (old new : List Named) (n i : List ℕ) → IsGiven old new n i → HasMet old new (n ∷ [])
met_one old new n i h = λ uses first. elim h.either [
  | inl met ↦ subst (λ (names : List Named). FirstUses (uses ++ n ∷ []) (names_in names)) (sym met.1) (UsedAgain uses (names_in old) n first met.0)
  | inr fresh ↦
      subst (λ (names : List Named). FirstUses (uses ++ n ∷ []) (names_in names)) (sym fresh.1)
      (subst (FirstUses (uses ++ n ∷ [])) (sym (map_push (λ (g : Named). g.name) old (record { name = n; identifier = i }))) (UsedFirst uses (names_in old) n first fresh.0))
]

-- what was met first comes first of all names
pub first_names : (old new : List Named) (ns : List (List ℕ)) → HasMetFirst old new ns → (uses : List (List ℕ)) → FirstUses uses (names_in old)
    → (firsts : List (List ℕ)) × FirstUses (uses ++ ns) firsts × (others : List (List ℕ)) × (names_in new ≡ firsts ++ others)
first_names old new ns h uses first = (names_in h.between, h.met uses first, names_in h.more.0, ap names_in h.more.1 ∙ map-append (λ (g : Named). g.name) h.between h.more.0)
