-- Each round passes a word.
use Rattle.std.proofs.Common.{◌∙◌, sym, ap, add-one}
use Rattle.std.specs.Str.{bytes_eq}
use Rattle.ll_classes.proofs.WordLaws.{found, passed}
use Rattle.ll_classes.proofs.words.class_among.Goals as goal

pub returns-then-are_same : goal.returns-then-are_same
returns-then-are_same c = found c.args.texts.now c.args.words.now c.loop-word.word-index _ c.args.text.now c.loop-word-test.true (ap (bytes_eq c.args.text.now) (sym c.part_within.ensures) ∙ sym c.are_same.ensures ∙ c.if-are_same.true) c.loop-word.invariant

pub loop-word-preserved : goal.loop-word-preserved
loop-word-preserved c = rw add-one (passed c.args.texts.now c.args.words.now c.loop-word.word-index _ c.args.text.now c.loop-word-test.true (ap (bytes_eq c.args.text.now) (sym c.part_within.ensures) ∙ sym c.are_same.ensures ∙ c.if-are_same.false) c.loop-word.invariant)
