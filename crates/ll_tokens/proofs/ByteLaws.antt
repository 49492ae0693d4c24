-- The table of bytes says what their definitions say.
use Rattle.std.proofs.Common.{◌≡◌, ◌<◌, ℕ, Bool, nat_eq, nat_le, List, map, slice_index_or, codes, refl, sym, ap, ◌∙◌, arith}
use Rattle.std.specs.List.{range_with_len}
use Rattle.std.proofs.lemmas.List.{get_or-map}
use Rattle.std.proofs.lemmas.List.FromFn.{get_or-map-range_with_len}
use Rattle.ll_tokens.specs.Bytes.{is_blank, is_name_byte, is_word_byte, is_word_start, ends_name}

-- the table as the code has it
abbrev kinds : List ℕ
kinds = codes ".........--..-..................-.Q.a........ap.dddddddddd:......wwwwwwwwwwwwwwwwwwwwwwwwww....w.wwwwwwwwwwwwwwwwwwwwwwwwww....................................................................................................................................."

-- what holds of all entries holds of each
by_table : (g f : ℕ → Bool) → map g kinds ≡ map f (range_with_len 0 256) → (b : ℕ) → b < 256 → g (slice_index_or kinds b 46) ≡ f b
by_table g f all b small =
    sym (get_or-map g kinds b 46 (g 46) small) ∙ ap (λ (l : List Bool). slice_index_or l b (g 46)) all ∙ get_or-map-range_with_len f 0 256 b b (g 46) small (omega arith)

pub name_kinds : (b : ℕ) → b < 256 → nat_le 97 (slice_index_or kinds b 46) ≡ is_name_byte b
name_kinds = by_table (λ (k : ℕ). nat_le 97 k) is_name_byte refl

pub word_kinds : (b : ℕ) → b < 256 → nat_le 100 (slice_index_or kinds b 46) ≡ is_word_byte b
word_kinds = by_table (λ (k : ℕ). nat_le 100 k) is_word_byte refl

pub start_kinds : (b : ℕ) → b < 256 → nat_eq (slice_index_or kinds b 46) 119 ≡ is_word_start b
start_kinds = by_table (λ (k : ℕ). nat_eq k 119) is_word_start refl

pub end_kinds : (b : ℕ) → b < 256 → nat_le (slice_index_or kinds b 46) 46 ≡ ends_name b
end_kinds = by_table (λ (k : ℕ). nat_le k 46) ends_name refl

pub blank_kinds : (b : ℕ) → b < 256 → nat_eq (slice_index_or kinds b 46) 45 ≡ is_blank b
blank_kinds = by_table (λ (k : ℕ). nat_eq k 45) is_blank refl
