-- The entries of a phi, one after another.
use Rattle.std.proofs.Common.{◌≡◌, ◌<◌, ◌≤◌, ℕ, List, [], ◌∷◌, ◌++◌, Option, Some, None, map, length, refl, ap, sym, ◌∙◌, append_assoc, arith, All}
use Rattle.std.proofs.lemmas.List.{append-nil, map-append}
use Rattle.llvm_core.specs.declared.numbers.LLVMType.{LLVMType}
use Rattle.llvm_core.specs.Module.{Module}
use Rattle.llvm_core.specs.Data.{trees_of, type_at}
use Rattle.ll_literals.specs.Chain.{◌>>=◌}
use Rattle.ll_lines.specs.declared.lines.Said as code_said
use Rattle.ll_lines.specs.declared.lines.Incoming as code
use Rattle.ll_lines.specs.Lines.{Incoming}
use Rattle.ll_lines.specs.Views.{said_view, incoming_view, IsTypeIn, IsSaidIn}
use Rattle.ll_values.specs.declared.store.Store.{Store}
use Rattle.ll_values.specs.declared.value.Entry.{Entry}
use Rattle.ll_values.specs.Lists.{list_at}
use Rattle.ll_values.specs.Values as Entries
use Rattle.ll_values.specs.Values.{said, incoming}
use Rattle.ll_values.specs.Views.{table_of, made_in, literal_view, entry_view, entries_at, IsEntryIn, IsStoreIn}
use Rattle.ll_values.specs.Growing.{Interns, KeepsLists, Keeps, Says}
use Rattle.ll_values.proofs.GrowLaws.{map_same, incoming_same}
use Rattle.ll_values.proofs.KeepLaws.{literal_same, says_same}

-- What the whole list says at the type, where so much was found and the list from a number on is left: it is seen over the module and the
-- store from before, and what was found over those now.
abbrev pub Continues : List ℕ → (m n : Module) (s t : Store) → LLVMType → List Entries.Entry → (next : ℕ) → List code.Incoming → Type 0
Continues bytes m n s t ty all next found =
    incoming (type_at (trees_of m).types ty) all
    ≡ (incoming (type_at (trees_of m).types ty) (entries_at bytes (trees_of m) s next) >>= λ more. Some (map (incoming_view bytes (trees_of n) (table_of bytes (trees_of n) t)) found ++ more))

pub continues_first : (bytes : List ℕ) (m n : Module) (s t : Store) (ty : LLVMType) (e : Entry) (rest : ℕ) (x : code_said.Said) → Says bytes m n s t (said (type_at (trees_of m).types ty) (literal_view bytes (trees_of m) s e.literal)) x
    → Continues bytes m n s t ty (entry_view bytes (trees_of m) s e ∷ entries_at bytes (trees_of m) s rest) rest (record { said = x; block = e.block } ∷ [])
continues_first bytes m n s t ty e rest x says = rw says.value refl

module _ (bytes : List ℕ) (m n : Module) (s t : Store) (ty : LLVMType) (all : List Entries.Entry) (next : ℕ) (found : List code.Incoming) (h : Continues bytes m n s t ty all next found) where
  pub continues_last : list_at s.entries next ≡ [] → incoming (type_at (trees_of m).types ty) all ≡ Some (map (incoming_view bytes (trees_of n) (table_of bytes (trees_of n) t)) found)
  continues_last none = h ∙ rw (none, append-nil (map (incoming_view bytes (trees_of n) (table_of bytes (trees_of n) t)) found)) refl

  module _ (st : IsStoreIn m s) (e : Entry) (rest : ℕ) (is : list_at s.entries next ≡ e ∷ list_at s.entries rest) (g : Interns m n) (k : Keeps s t) (there : IsTypeIn m ty) (in_store : IsEntryIn m s e) where
    at_type : said (type_at (trees_of n).types ty) (literal_view bytes (trees_of n) t e.literal) ≡ said (type_at (trees_of m).types ty) (literal_view bytes (trees_of m) s e.literal)
    at_type =
        ap (λ τ. said τ (literal_view bytes (trees_of n) t e.literal)) (g.types ty there)
        ∙ ap (said (type_at (trees_of m).types ty)) (literal_same bytes m n s t g k st e.literal in_store)

    pub continues_none : said (type_at (trees_of n).types ty) (literal_view bytes (trees_of n) t e.literal) ≡ None → incoming (type_at (trees_of m).types ty) all ≡ None
    continues_none none = let z = sym at_type ∙ none in h ∙ rw (is, z) refl

    pub continues_next : (st_now : IsStoreIn n t) (p : Module) (u : Store) (x : code_said.Said) → All (λ (e : code.Incoming). IsSaidIn n (made_in t) e.said) found → Says bytes n p t u (said (type_at (trees_of n).types ty) (literal_view bytes (trees_of n) t e.literal)) x
        → (now : List code.Incoming) → now ≡ found ++ record { said = x; block = e.block } ∷ [] → Continues bytes m p s u ty all rest now
    continues_next st_now p u x there_all says now put = h ∙ rw (is, z, put) (by (incoming (type_at (trees_of m).types ty) (entries_at bytes (trees_of m) s rest)))
      where
        z : said (type_at (trees_of m).types ty) (literal_view bytes (trees_of m) s e.literal) ≡ Some (said_view bytes (trees_of p) (table_of bytes (trees_of p) u) x)
        z = sym at_type ∙ says.value

        last : code.Incoming
        last = record { said = x; block = e.block }

        same : (e : code.Incoming) → IsSaidIn n (made_in t) e.said → incoming_view bytes (trees_of p) (table_of bytes (trees_of p) u) e ≡ incoming_view bytes (trees_of n) (table_of bytes (trees_of n) t) e
        same = incoming_same bytes n p says.interns (made_in t) (table_of bytes (trees_of n) t) (table_of bytes (trees_of p) u) (says_same bytes n p t u says.interns says.keeps st_now)

        first : map (incoming_view bytes (trees_of p) (table_of bytes (trees_of p) u)) (found ++ last ∷ []) ≡ map (incoming_view bytes (trees_of n) (table_of bytes (trees_of n) t)) found ++ incoming_view bytes (trees_of p) (table_of bytes (trees_of p) u) last ∷ []
        first = map-append (incoming_view bytes (trees_of p) (table_of bytes (trees_of p) u)) found (last ∷ [])
            ∙ ap (λ (es : List Incoming). es ++ incoming_view bytes (trees_of p) (table_of bytes (trees_of p) u) last ∷ []) (map_same (λ (e : code.Incoming). IsSaidIn n (made_in t) e.said) (incoming_view bytes (trees_of p) (table_of bytes (trees_of p) u)) (incoming_view bytes (trees_of n) (table_of bytes (trees_of n) t)) same found there_all)

        by : (r : Option (List Incoming))
            → ((r >>= λ more. Some (incoming_view bytes (trees_of p) (table_of bytes (trees_of p) u) last ∷ more)) >>= λ more. Some (map (incoming_view bytes (trees_of n) (table_of bytes (trees_of n) t)) found ++ more))
            ≡ (r >>= λ more. Some (map (incoming_view bytes (trees_of p) (table_of bytes (trees_of p) u)) (found ++ last ∷ []) ++ more))
        by None = refl
        by (Some more) = rw (first, append_assoc (map (incoming_view bytes (trees_of n) (table_of bytes (trees_of n) t)) found) (incoming_view bytes (trees_of p) (table_of bytes (trees_of p) u) last ∷ []) more) refl

-- an entry that is found now stood there before
pub entry_before : (old new : List (List Entry)) (next rest : ℕ) (e : Entry) → KeepsLists old new → next ≤ length old → rest < next → list_at new next ≡ e ∷ list_at new rest → list_at old next ≡ e ∷ list_at old rest
entry_before old new next rest e k le lt is = sym (k.at next le) ∙ is ∙ ap (λ (es : List Entry). e ∷ es) (k.at rest (omega (arith, le, lt)))

pub none_before : (old new : List (List Entry)) (next : ℕ) → KeepsLists old new → next ≤ length old → list_at new next ≡ [] → list_at old next ≡ []
none_before old new next k le is = sym (k.at next le) ∙ is
