-- They are, from the front on.
use Rattle.std.proofs.Common.{[], ◌++◌, refl}
use Rattle.ll_spacing.specs.Spacing.{text_of}
use Rattle.ll_spacing.proofs.CutLaws.{kept_from, kinds_from}
use Rattle.ll_spacing.proofs.laws.texts_are_kept.Goals as goal

pub returns : goal.returns
returns c = record { kinds = kinds_from; texts = λ xs end. kept_from [] 0 xs end (text_of xs ++ end) refl refl }
