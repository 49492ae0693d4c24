-- Which bytes may stand directly behind a token of each kind.
use Rattle.std.specs.Prelude.{ℕ, Bool, false, ◌≡◌, ◌||◌, ◌==◌, not, List, [], ◌∷◌}
use Rattle.ll_tokens.specs.Bytes.{is_digit, is_name_byte, is_word_start}
use Rattle.ll_tokens.specs.declared.kinds.Kind.{Kind}
use Rattle.ll_tokens.specs.declared.kinds.Kind.TheVariants.{Global, Local, Word, Int, Float, Comdat, Dots, Str, Group, Record, MdNum, MdName, Bang}

-- behind a token of that kind the byte may make another token of it: a name, a number or a run of letters goes on, a colon makes a label, and a quote makes a string behind c or !
abbrev pub goes_on : Kind → ℕ → Bool
goes_on Global b = is_name_byte b
goes_on Local b = is_name_byte b
goes_on Word b = is_name_byte b || b == 58 || b == 34
goes_on Int b = is_name_byte b || b == 58
goes_on Float b = is_name_byte b || b == 58
goes_on Comdat b = is_name_byte b || b == 58
goes_on Dots b = is_name_byte b || b == 58
goes_on Str b = b == 58
goes_on Group b = is_digit b
goes_on Record b = is_word_start b
goes_on MdNum b = is_digit b
goes_on MdName b = is_name_byte b || b == 92
goes_on Bang b = is_name_byte b || b == 92 || b == 34
goes_on other b = false

abbrev pub may_follow : Kind → ℕ → Bool
may_follow kind b = not (goes_on kind b)

-- the first byte of a text is not of that sort
abbrev pub Stops : (ℕ → Bool) → List ℕ → Type 0
Stops p [] = Unit {0}
Stops p (b ∷ bs) = p b ≡ false
