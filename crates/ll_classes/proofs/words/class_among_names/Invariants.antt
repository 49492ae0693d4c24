-- The names that were passed have other texts.
use Rattle.std.proofs.Common.{◌≡◌, drop}
use Rattle.ll_classes.specs.Names.{unescaped}
use Rattle.ll_classes.specs.Words.{class_among, words_in}
use Rattle.ll_classes.proofs.words.class_among_names.Given as goal

abbrev pub invariant-loop-name : goal.invariant-loop-name
invariant-loop-name l = class_among (words_in l.texts (drop l.name-index l.names)) (unescaped l.written) ≡ class_among (words_in l.texts l.names) (unescaped l.written)
