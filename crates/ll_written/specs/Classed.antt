-- Tokens by their classes.
use Rattle.std.specs.Prelude.{List, map}
use Rattle.ll_classes.specs.Llvm.{llvm_class}
use Rattle.ll_spacing.specs.Spacing.{Spaced}
use Rattle.ll_written.specs.Saying.{Written}

abbrev pub classed : Spaced → Written
classed x = record { class = llvm_class x.kind x.text; text = x.text }

abbrev pub all_classed : List Spaced → List Written
all_classed xs = map classed xs
