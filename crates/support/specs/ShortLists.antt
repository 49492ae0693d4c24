-- Where a short list keeps its items. No clause of another crate cites this.
use Rattle.std.specs.Prelude.{List, []}
use Rattle.support.specs.declared.short_list.Place.{Place}
use Rattle.support.specs.declared.short_list.Place.TheVariants.{Zero, One, Two, Three, Apart}

abbrev pub items_of : {T : Type 0} → Place T → List T
items_of Zero = []
items_of (One xs) = xs
items_of (Two xs) = xs
items_of (Three xs) = xs
items_of (Apart xs) = xs.value.items
