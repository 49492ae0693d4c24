-- Names and numbers as they are written, and the keys that they say.
use Rattle.std.proofs.Common.{◌≡◌, ℕ, ◌-◌, ◌≤◌, true, [], ◌∷◌, length, length-append, take, drop, Some, refl, ap, sym, ◌∙◌, subst, arith}
use Rattle.std.specs.Prelude.{decimal}
use Rattle.std.specs.Str.{is_utf8}
use Rattle.std.proofs.lemmas.List.{take_at}
use Rattle.kinds.specs.Names.{IsGoodOrNone}
use Rattle.llvm_core.specs.Data.{Function}
use Rattle.ll_literals.specs.Text.{Text}
use Rattle.ll_literals.specs.Names.{is_name, label, printed_name}
use Rattle.ll_literals.specs.Numbers.{number_of, number_limit}
use Rattle.ll_literals.proofs.QuoteLaws.{name_says, text_says}
use Rattle.ll_literals.proofs.SymbolLaws.{digits_are, printed_no_digits}
pub use Rattle.ll_literals.proofs.SymbolLaws.{bare_parts}
use Rattle.ll_bodies.specs.Scopes.{Key, Named, Numbered, key_of, local_key, label_key}
use Rattle.ll_bodies.specs.Meaning.{source_name}
use Rattle.ll_said.specs.Naming.{Unnamed, unnamed_number, unnamed_in, local_text}
use Rattle.ll_said.specs.Said.{source_of}
use Rattle.ll_said.proofs.DecimalLaws.{IsDecimal, IsDecimal-decimal}
use Rattle.ll_said.proofs.PositionLaws.{position_le}

-- ---- keys

-- a name that is printed is its key
key_of_name : (n : Text) → is_name n ≡ true → key_of (printed_name n) ≡ Some (Named n)
key_of_name n h = rw (printed_no_digits n, name_says n h) refl

-- digits are the key of their number
key_of_digits : (t : Text) (n : ℕ) → IsDecimal t n → key_of t ≡ Some (Numbered n)
key_of_digits t n d = subst (λ (u : Text). key_of u ≡ Some (Numbered n)) (sym d.text)
    (let number : number_of (d.first ∷ d.others) ≡ Some n = rw d.text at d.number in
    let digits = digits_are d.first d.others d.digit d.digits in
    rw (digits, number) refl)

-- ---- locals

-- the number of what has no name is written whole
number_text : (f : Function) (x : Unnamed) → length (unnamed_in f) ≤ number_limit → IsDecimal (decimal (unnamed_number f x)) (unnamed_number f x)
number_text f x few = IsDecimal-decimal (unnamed_number f x) (omega (arith, few, position_le x (unnamed_in f)))

-- the key that the text of a local says
abbrev pub key_in : Function → Text → Unnamed → Key
key_in f [] x = Numbered (unnamed_number f x)
key_in f (b ∷ bs) x = Named (b ∷ bs)

pub local_says : (f : Function) (n : Text) (x : Unnamed) → length (unnamed_in f) ≤ number_limit → IsGoodOrNone n → local_key (local_text f n x) ≡ Some (key_in f n x)
local_says f [] x few h = key_of_digits (decimal (unnamed_number f x)) (unnamed_number f x) (number_text f x few)
local_says f (b ∷ bs) x few h = key_of_name (b ∷ bs) h

-- ---- labels

label_front : (n : Text) → take (length (label n) - 1) (label n) ≡ n
label_front n = let e : length (label n) - 1 ≡ length n = omega (arith, length-append n (58 ∷ [])) in rw e (take_at n (58 ∷ []) (length n) refl)

pub label_says : (f : Function) (n : Text) (x : Unnamed) → length (unnamed_in f) ≤ number_limit → IsGoodOrNone n → label_key (label (drop 1 (local_text f n x))) ≡ Some (key_in f n x)
label_says f n x few good = ap key_of (label_front (drop 1 (local_text f n x))) ∙ local_says f n x few good

-- ---- the name of a module

pub source_says : (n : Text) → is_utf8 n ≡ true → source_name (source_of n) ≡ Some n
source_says [] h = refl
source_says (b ∷ bs) h = text_says (b ∷ bs) h
