-- Each round passes a name.
use Rattle.std.proofs.Common.{◌∙◌, sym, ap, add-one}
use Rattle.std.specs.Str.{bytes_eq}
use Rattle.ll_classes.specs.Names.{unescaped}
use Rattle.ll_classes.proofs.WordLaws.{found, passed}
use Rattle.ll_classes.proofs.words.class_among_names.Goals as goal

pub returns-then-says : goal.returns-then-says
returns-then-says c = found c.args.texts.now c.args.names.now c.loop-name.name-index _ (unescaped c.args.written.now) c.loop-name-test.true (ap (bytes_eq (unescaped c.args.written.now)) (sym c.part_of.ensures.part) ∙ sym c.says.ensures ∙ c.if-says.true) c.loop-name.invariant

pub loop-name-preserved : goal.loop-name-preserved
loop-name-preserved c = rw add-one (passed c.args.texts.now c.args.names.now c.loop-name.name-index _ (unescaped c.args.written.now) c.loop-name-test.true (ap (bytes_eq (unescaped c.args.written.now)) (sym c.part_of.ensures.part) ∙ sym c.says.ensures ∙ c.if-says.false) c.loop-name.invariant)
