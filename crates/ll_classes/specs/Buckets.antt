-- In which bucket a text stands.
use Rattle.std.specs.Prelude.{ℕ, ◌+◌, ◌*◌, ◌-◌, ◌/◌, ◌%◌, List, length, slice_index}

abbrev pub Text : Type 0
Text = List ℕ

-- of 256, by its length and its first, middle and last byte
unfoldable pub bucket_of : Text → ℕ
bucket_of t = (length t + 12 * slice_index t 0 + 150 * slice_index t (length t / 2) + 129 * slice_index t (length t - 1)) % 256
