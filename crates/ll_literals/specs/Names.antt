-- Names in LLVM text.
use Rattle.std.specs.Prelude.{ℕ, ◌-◌, Bool, false, ◌||◌, ◌&&◌, not, ◌==◌, if◌then◌else◌, [], ◌∷◌, ◌++◌, length, take, drop, slice_index_or, Option, Some, None}
use Rattle.std.specs.List.{list_all}
use Rattle.std.specs.Option.{option_and_then}
use Rattle.std.specs.Str.{is_utf8}
use Rattle.llvm_core.specs.Names.{is_digit, is_letter}
use Rattle.llvm_core.specs.Checked.{is_bad_name}
use Rattle.ll_literals.specs.Text.{Text}
use Rattle.ll_literals.specs.Escapes.{unescaped, escaped}
use Rattle.ll_literals.specs.Numbers.{is_digits}

-- letters, digits and $ . _ -
abbrev pub is_name_byte : ℕ → Bool
is_name_byte b = is_letter b || is_digit b || b == 36 || b == 46 || b == 95 || b == 45

-- a bare name: name bytes, not beginning with a digit
abbrev pub is_bare : Text → Bool
is_bare [] = false
is_bare (b ∷ bs) = is_name_byte b && not (is_digit b) && list_all is_name_byte bs

-- what a symbol, a local, a block and a struct may be named: not empty, without a zero byte, UTF-8
abbrev pub is_name : Text → Bool
is_name n = not (is_bad_name n) && is_utf8 n

-- what stands between the quotes of a text that begins and ends with one
abbrev pub inside : Text → Option Text
inside [] = None
inside (b ∷ bs) = if b == 34 && slice_index_or bs (length bs - 1) 0 == 34 then Some (take (length bs - 1) bs) else None

-- bytes, where they are a text, and where they are a name
abbrev pub if_text : Text → Option Text
if_text t = if is_utf8 t then Some t else None

abbrev pub if_name : Text → Option Text
if_name t = if is_name t then Some t else None

-- the text that quotes say
abbrev pub text_said : Text → Option Text
text_said t = option_and_then (λ (u : Text). if_text (unescaped u)) (inside t)

-- the name that quotes say
abbrev pub quoted_name : Text → Option Text
quoted_name t = option_and_then if_name (text_said t)

-- the name that a written name says: a bare one says itself
abbrev pub name_said : Text → Option Text
name_said t = if is_bare t then Some t else quoted_name t

-- The name of a symbol or struct, by its token @ or % and a name, or digits, which are then its name.
abbrev pub symbol_name : Text → Option Text
symbol_name t = if is_digits (drop 1 t) then if_text (drop 1 t) else name_said (drop 1 t)

-- @name, %name, name: and "name"
abbrev pub global : Text → Text
global name = 64 ∷ name

abbrev pub local : Text → Text
local name = 37 ∷ name

abbrev pub label : Text → Text
label name = name ++ 58 ∷ []

abbrev pub quoted : Text → Text
quoted name = 34 ∷ name ++ 34 ∷ []

-- how a text is written between quotes
abbrev pub printed_text : Text → Text
printed_text t = quoted (escaped t)

-- how a name is written: as it is where it is bare, else between quotes
abbrev pub printed_name : Text → Text
printed_name n = if is_bare n then n else printed_text n
