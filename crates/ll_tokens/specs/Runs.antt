-- The kinds of runs that the cutting of a text asks for, each a test of a byte.
use Rattle.std.specs.Prelude.{◌≡◌, ◌≤◌, ◌⊎◌, ℕ, ◌+◌, Bool, List, drop, ◌==◌, if◌then◌else◌}
use Rattle.std.specs.List.{prefix_len}
use Rattle.std.specs.Int.{w64, trailing_zeros}
use Rattle.ll_tokens.specs.Bytes.{is_digit, is_letter_or_digit, is_name_byte, is_word_byte, is_word_start, in_line, in_string}
use Rattle.ll_tokens.specs.declared.runs.Run.{Run}
use Rattle.ll_tokens.specs.declared.runs.Run.TheVariants.{Name, Word, Digits, LettersAndDigits, Record, Line, String}

abbrev pub in_run : Run → ℕ → Bool
in_run Name = is_name_byte
in_run Word = is_word_byte
in_run Digits = is_digit
in_run LettersAndDigits = is_letter_or_digit
in_run Record = is_word_start
in_run Line = in_line
in_run String = in_string

-- a place that nothing is known of behind another, or where the bytes of a name that stand there end
abbrev pub EndsRun : List ℕ → (at end : ℕ) → Type 0
EndsRun bytes at end = (end ≤ at) ⊎ (end ≡ at + prefix_len is_name_byte (drop at bytes))

-- the place of the lowest bit that is set, or n where none is
abbrev pub first_set : (mask n : ℕ) → ℕ
first_set mask n = if mask == 0 then n else trailing_zeros w64 mask
