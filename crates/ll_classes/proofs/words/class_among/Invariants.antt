-- The words that were passed have other texts.
use Rattle.std.proofs.Common.{◌≡◌, drop}
use Rattle.ll_classes.specs.Words.{class_among, words_in}
use Rattle.ll_classes.proofs.words.class_among.Given as goal

abbrev pub invariant-loop-word : goal.invariant-loop-word
invariant-loop-word l = class_among (words_in l.texts (drop l.word-index l.words)) l.text ≡ class_among (words_in l.texts l.words) l.text
