-- Printed names are read back.
use Rattle.std.proofs.Common.{◌≡◌, ℕ, Bool, true, false, List, [], ◌∷◌, Some, None, All, if◌then◌else◌, refl, subst, arith}
use Rattle.std.specs.List.{list_all}
use Rattle.std.specs.Str.{IsUtf8, bytes_eq, is_utf8}
use Rattle.std.specs.Prelude.{not}
use Rattle.std.proofs.lemmas.Bool.{and_parts, cond-true}
use Rattle.std.proofs.lemmas.Bool.Decides.{nat_tests}
use Rattle.std.proofs.lemmas.List.Elements.{All-head, All-tail}
use Rattle.std.proofs.lemmas.Str.{IsUtf8-from_is_utf8, is_utf8-from_IsUtf8}
use Rattle.std.proofs.lemmas.Slice.Eq.{bytes_eq-Decides}
use Rattle.kinds.specs.Names.{is_bad_name, is_plain_byte}
use Rattle.kinds.specs.Structs.{struct_in}
use Rattle.kinds.proofs.NameLaws.{plain_good}
use Rattle.dialect_types.specs.Names.{IsIdentifier}
use Rattle.dialect_types.specs.Trees.{NamedStruct}
use Rattle.dialect_parsing.specs.declared.symbol.Symbol.TheVariants as S
use Rattle.dialect_parsing.specs.Symbols.{symbol_of, if_name}
use Rattle.dialect_parsing.specs.Tokens.{Text, is_run_byte}
use Rattle.dialect_parsing.proofs.TokenLaws.{IsRun}

plain_run : (b : ℕ) → is_plain_byte b ≡ true → is_run_byte b ≡ true
plain_run b h = grind (arith, nat_tests)

plains_run : (bs : Text) → list_all is_plain_byte bs ≡ true → IsRun bs
plains_run [] h = refl
plains_run (b ∷ bs) h =
    let k = and_parts (is_plain_byte b) (list_all is_plain_byte bs) h in
    rw (plain_run b k.0, plains_run bs k.1) refl

-- an identifier is of bytes of runs, and is UTF-8
identifier_plain : (b : ℕ) (bs : Text) → IsIdentifier (b ∷ bs) → list_all is_plain_byte (b ∷ bs) ≡ true
identifier_plain b bs h = grind arith

identifier_utf8 : (name : Text) → IsIdentifier name → is_utf8 name ≡ true
identifier_utf8 [] h = absurd h
identifier_utf8 (b ∷ bs) h = (and_parts (not (is_bad_name (b ∷ bs))) (is_utf8 (b ∷ bs)) (plain_good b bs (identifier_plain b bs h))).1

pub name_run : (name : Text) → IsIdentifier name → IsRun (64 ∷ name)
name_run [] h = absurd h
name_run (b ∷ bs) h = plains_run (b ∷ bs) (identifier_plain b bs h)

pub name_is : (name : Text) → IsIdentifier name → symbol_of (64 ∷ name) ≡ Some (S.Name name)
name_is name h = cond-true (is_utf8 name) _ _ (identifier_utf8 name h)

-- bytes that are UTF-8 are a name, and others are none
pub name_if : (t bs : Text) → t ≡ bs → IsUtf8 bs → Some (S.Name t) ≡ if_name bs
name_if t bs same h = let is = is_utf8-from_IsUtf8 bs h in cc

pub none_if : (bs : Text) → ¬ IsUtf8 bs → None ≡ if_name bs
none_if bs h = by (is_utf8 bs) refl
  where
    by : (v : Bool) → is_utf8 bs ≡ v → None ≡ if_name bs
    by true e = absurd (h (IsUtf8-from_is_utf8 bs e))
    by false e = cc

-- each of some structs is named by an identifier
abbrev pub AreSpelled : List NamedStruct → Type 0
AreSpelled structs = All (λ (s : NamedStruct). IsIdentifier s.name) structs

-- so is one that is found
pub found_identifier : (structs : List NamedStruct) → AreSpelled structs → (name : Text) (s : NamedStruct) → struct_in structs name ≡ Some s → IsIdentifier name
found_identifier [] h name s e = cc
found_identifier (x ∷ xs) h name s e = by (bytes_eq x.name name) refl e (found_identifier xs (All-tail (λ (s : NamedStruct). IsIdentifier s.name) x xs h) name s)
  where
    by : (b : Bool) → bytes_eq x.name name ≡ b → (if b then Some x else struct_in xs name) ≡ Some s → (struct_in xs name ≡ Some s → IsIdentifier name) → IsIdentifier name
    by true is e later = subst IsIdentifier ((bytes_eq-Decides x.name name).0 is) (All-head (λ (s : NamedStruct). IsIdentifier s.name) x xs h)
    by false is e later = later e
