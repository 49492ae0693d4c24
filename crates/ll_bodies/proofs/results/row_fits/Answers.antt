-- What `results::row_fits` owes besides what the check finds.
use Rattle.ll_bodies.specs.SourceViews.{made_in}
use Rattle.ll_bodies.proofs.TypeLaws.{nth_there, fits_told}
use Rattle.ll_bodies.proofs.results.row_fits.Goals as goal

pub view-requires-2 : goal.view-requires-2
view-requires-2 c = rw (c.type_nth.ensures, c.as_slice-operands.ensures) (nth_there c.args.source.now.module.now c.requires.source.sound (made_in c.args.source.now) c.args.row.now.operands 0 c.requires.row.1)

pub view-requires-3 : goal.view-requires-3
view-requires-3 c = rw (c.type_nth-2.ensures, c.as_slice-operands.ensures) (nth_there c.args.source.now.module.now c.requires.source.sound (made_in c.args.source.now) c.args.row.now.operands 1 c.requires.row.1)

pub view-requires-4 : goal.view-requires-4
view-requires-4 c = rw (c.type_nth-3.ensures, c.as_slice-operands.ensures) (nth_there c.args.source.now.module.now c.requires.source.sound (made_in c.args.source.now) c.args.row.now.operands 2 c.requires.row.1)

pub returns : goal.returns
returns c =
    let s = c.as_slice-operands.ensures in
    let e = fits_told c.args.source.now.module.now c.requires.source.sound (made_in c.args.source.now) c.args.row.now c.requires.row in
    rw (c.fits.ensures, c.rule.ensures, c.view.ensures, c.view-2.ensures, c.view-3.ensures, c.view-4.ensures, c.type_nth.ensures, c.type_nth-2.ensures, c.type_nth-3.ensures, s) e
