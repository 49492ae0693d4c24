-- What `instructions::row` owes besides what the check finds.
use Rattle.std.proofs.Common.{sym, ◌∙◌}
use Rattle.ll_bodies.proofs.InstructionLaws.{row_made, row_unnamed, row_unfit}
use Rattle.ll_bodies.proofs.ErrLaws.{passed_on}
use Rattle.ll_bodies.proofs.instructions.row.Goals as goal

pub returns-clause-ok : goal.returns-clause-ok
returns-clause-ok c = λ s knows.
    let a = rw c.as_slice.ensures at (c.in_ok-named.ensures.ok s knows) in
    let b = rw c.as_slice-2.ensures at (c.in_ok-blocks.ensures.ok s knows) in
    row_made c.args.source.now s c.args.said.now c.in_ok-named.named c.in_ok-blocks.blocks a b (sym c.fits_row.ensures ∙ c.if-not-fits_row.false)

pub returns-in_err-named-clause-not_yet : goal.returns-in_err-named-clause-not_yet
returns-in_err-named-clause-not_yet c = λ e s knows.
    let x = c.in_err-named in
    let none = rw c.as_slice.ensures at (x.ensures.not_yet (passed_on c.from_residual.result x.field-0.0 c.from_residual.ensures.1 e) s knows) in
    row_unnamed c.args.source.now s c.args.said.now none

pub returns-then-not-fits_row-clause-not_yet : goal.returns-then-not-fits_row-clause-not_yet
returns-then-not-fits_row-clause-not_yet c = λ e s knows.
    let a = rw c.as_slice.ensures at (c.in_ok-named.ensures.ok s knows) in
    let b = rw c.as_slice-2.ensures at (c.in_ok-blocks.ensures.ok s knows) in
    row_unfit c.args.source.now s c.args.said.now _ _ a b (sym c.fits_row.ensures ∙ c.if-not-fits_row.true)

pub returns-clause-fits : goal.returns-clause-fits
returns-clause-fits c = sym c.fits_row.ensures ∙ c.if-not-fits_row.false
