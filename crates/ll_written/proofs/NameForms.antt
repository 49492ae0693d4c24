-- The names of functions and structs, and the names and numbers in a function, have the forms of their tokens.
use Rattle.std.proofs.Common.{◌≡◌, ◌<◌, ◌^◌, ℕ, Bool, true, false, cond, not, nat_eq, List, [], ◌∷◌, ◌++◌, drop, Some, All, refl, arith}
use Rattle.std.specs.Prelude.{decimal}
use Rattle.std.specs.List.{flat_map, find, AllByRecursion}
use Rattle.std.specs.Option.{option_map_or}
use Rattle.std.specs.Str.{is_utf8}
use Rattle.std.proofs.lemmas.Bool.{and_parts}
use Rattle.std.proofs.lemmas.List.Elements.{recursion_from_All}
use Rattle.std.proofs.lemmas.List.Sums.{prefix_len-le-length}
use Rattle.llvm_core.specs.Data.{Placed, Block, Function, placed_in}
use Rattle.llvm_core.specs.Form.{IsFormPlaced, IsFormBlock}
use Rattle.llvm_core.specs.Checked.{is_bad_name}
use Rattle.kinds.specs.Names.{is_good_name, IsGoodOrNone}
use Rattle.ll_lines.specs.Lines.{Text}
use Rattle.ll_said.specs.Naming.{Unnamed, BlockOf, same_unnamed, unnamed_in, unnamed_number, local_text, result_name, block_name, block_ref}
use Rattle.ll_said.specs.Said.{chars_text}
use Rattle.ll_said.specs.Sayable.{IsSayable}
use Rattle.ll_spacing.specs.Forms.{IsText, IsName, IsString, quoted, AreDigits}
use Rattle.ll_tokens.specs.declared.kinds.Kind.TheVariants as K
use Rattle.ll_literals.specs.Escapes.{escaped}
use Rattle.ll_literals.specs.Names.{is_bare, is_name, global, local, label, printed_name, printed_text}
use Rattle.ll_literals.proofs.EscapeLaws.{escaped_open}
use Rattle.ll_literals.proofs.TextBytes.{utf8_bytes}
use Rattle.ll_written.specs.Writable.{IsLocal}
use Rattle.ll_said.proofs.DecimalLaws.{IsDecimal-decimal}
use Rattle.ll_literals.proofs.SymbolLaws.{bare_parts}

-- ---- names

-- bytes between quotes have no quote in them
bytes_form : (bs : Text) → All (λ (b : ℕ). b < 256) bs → IsString (printed_text bs)
bytes_form bs h = quoted (escaped bs) (escaped_open bs h)

pub string_form : (t : Text) → is_utf8 t ≡ true → IsString (printed_text t)
string_form t h = bytes_form t (utf8_bytes t h)

pub chars_form : (bs : List ℕ) → All (λ (b : ℕ). b < 2 ^ 8) bs → IsText K.CStr (chars_text bs)
chars_form bs h = IsText.c_string (printed_text bs) (bytes_form bs h)

bare_form : (n : Text) → is_bare n ≡ true → IsName n
bare_form [] e = absurd cc
bare_form (b ∷ bs) e = let parts = bare_parts b bs e in IsName.bare b bs parts.0 parts.1

-- a name is written bare or between quotes
printed_form : (n : Text) → is_name n ≡ true → IsName (printed_name n)
printed_form n h = by (is_bare n) refl
  where
    by : (v : Bool) → is_bare n ≡ v → IsName (printed_name n)
    by true e = rw e (bare_form n e)
    by false e = rw e (IsName.string (printed_text n) (string_form n (and_parts (not (is_bad_name n)) (is_utf8 n) h).1))

pub global_form : (n : Text) → is_good_name n ≡ true → IsText K.Global (global (printed_name n))
global_form n e = IsText.global (printed_name n) (printed_form n e)

-- of a struct, where it is defined and where a type names it
pub struct_form : (n : Text) → is_good_name n ≡ true → IsLocal (local (printed_name n))
struct_form n e = IsText.local (printed_name n) (printed_form n e)

-- ---- numbers

number_name : (n : ℕ) → n < 2 ^ 64 → IsName (decimal n)
number_name n h =
    let d = IsDecimal-decimal n h in
    let digits : AreDigits (d.first ∷ d.others) = rw (d.digit, d.digits) refl in
    rw d.text (IsName.digits d.first d.others digits)

module _ (f : Function) (sayable : IsSayable f) where
  small : (x : Unnamed) → unnamed_number f x < 2 ^ 64
  small x = omega (arith, prefix_len-le-length (λ (y : Unnamed). not (same_unnamed x y)) (unnamed_in f), sayable.few)

  local_name : (n : Text) (x : Unnamed) → IsGoodOrNone n → IsName (drop 1 (local_text f n x))
  local_name [] x good = number_name (unnamed_number f x) (small x)
  local_name (b ∷ bs) x good = printed_form (b ∷ bs) good

  pub local_form : (n : Text) (x : Unnamed) → IsGoodOrNone n → IsLocal (local_text f n x)
  local_form [] x good = IsText.local (decimal (unnamed_number f x)) (number_name (unnamed_number f x) (small x))
  local_form (b ∷ bs) x good = IsText.local (printed_name (b ∷ bs)) (local_name (b ∷ bs) x good)

  -- ---- of what has that number

  named_found : {A : Type 0} (name : A → Text) (p : A → Bool) (xs : List A) → AllByRecursion (λ x. IsGoodOrNone (name x)) xs → IsGoodOrNone (option_map_or name (find p xs) [])
  named_found name p [] all = tt
  named_found name p (x ∷ xs) all = by (p x) all.0 (named_found name p xs all.1)
    where
      by : (b : Bool) → IsGoodOrNone (name x) → IsGoodOrNone (option_map_or name (find p xs) []) → IsGoodOrNone (option_map_or name (cond b (Some x) (find p xs)) [])
      by true here others = here
      by false here others = others

  abbrev blocks : AllByRecursion (IsFormBlock f) f.blocks
  blocks = recursion_from_All (IsFormBlock f) f.blocks sayable.form.blocks

  block_names : (bs : List Block) → AllByRecursion (IsFormBlock f) bs → AllByRecursion (λ (b : Block). IsGoodOrNone b.name) bs
  block_names [] all = tt
  block_names (b ∷ bs) all = (all.0.label, block_names bs all.1)

  names_then : (xs ys : List Placed) → AllByRecursion (λ (p : Placed). IsGoodOrNone p.name) xs → AllByRecursion (λ (p : Placed). IsGoodOrNone p.name) ys → AllByRecursion (λ (p : Placed). IsGoodOrNone p.name) (xs ++ ys)
  names_then [] ys h k = k
  names_then (x ∷ xs) ys h k = (h.0, names_then xs ys h.1 k)

  placed_names : (n : ℕ) (ps : List Placed) → AllByRecursion (IsFormPlaced f n) ps → AllByRecursion (λ (p : Placed). IsGoodOrNone p.name) ps
  placed_names n [] all = tt
  placed_names n (p ∷ ps) all = (all.0.name, placed_names n ps all.1)

  result_names : (bs : List Block) → AllByRecursion (IsFormBlock f) bs → AllByRecursion (λ (p : Placed). IsGoodOrNone p.name) (flat_map (λ (b : Block). b.instructions) bs)
  result_names [] all = tt
  result_names (b ∷ bs) all =
      names_then b.instructions (flat_map (λ (b : Block). b.instructions) bs) (placed_names b.number b.instructions (recursion_from_All (IsFormPlaced f b.number) b.instructions all.0.instructions)) (result_names bs all.1)

  pub result_name_form : (n : ℕ) → IsGoodOrNone (result_name f n)
  result_name_form n = named_found (λ (p : Placed). p.name) (λ (p : Placed). nat_eq p.number n) (placed_in f) (result_names f.blocks blocks)

  block_name_form : (n : ℕ) → IsGoodOrNone (block_name f n)
  block_name_form n = named_found (λ (b : Block). b.name) (λ (b : Block). nat_eq b.number n) f.blocks (block_names f.blocks blocks)

  pub block_form : (n : ℕ) → IsLocal (block_ref f n)
  block_form n = local_form (block_name f n) (BlockOf n) (block_name_form n)

  pub label_form : (b : Block) → IsText K.Label (label (drop 1 (block_ref f b.number)))
  label_form b = IsText.label (drop 1 (block_ref f b.number)) (local_name (block_name f b.number) (BlockOf b.number) (block_name_form b.number))
