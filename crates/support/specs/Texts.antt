-- Where a text keeps its bytes. No clause of another crate cites this.
use Rattle.std.specs.Prelude.{ℕ, List, string_bytes}
use Rattle.support.specs.declared.text.Place.{Place}
use Rattle.support.specs.declared.text.Place.TheVariants.{Here, Apart}

abbrev pub bytes_of : Place → List ℕ
bytes_of (Here t) = t
bytes_of (Apart t) = string_bytes t.value
