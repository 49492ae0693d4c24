-- What `definitions::define_block` owes besides what the check finds.
use Rattle.std.proofs.Common.{refl}
use Rattle.std.proofs.lemmas.Result.{on_ok_weaker}
use Rattle.ll_bodies.specs.SourceViews.{types_in}
use Rattle.ll_bodies.proofs.DefineLaws.{block_takes, label_refused, block_lines_refused, block_adds}
use Rattle.ll_bodies.proofs.ErrLaws.{passed_on}
use Rattle.ll_bodies.proofs.definitions.define_block.Goals as goal

pub returns-in_err-define_label-clause-not_yet : goal.returns-in_err-define_label-clause-not_yet
returns-in_err-define_label-clause-not_yet c = λ e.
    let x = c.in_err-define_label in
    label_refused c.args.source.now c.args.scope.now c.args.number c.args.first c.args.block.now
    (x.ensures.not_yet (passed_on c.from_residual.result x.field-0.0 c.from_residual.ensures.1 e) (types_in c.args.source.now))

pub returns-clause-ok : goal.returns-clause-ok
returns-clause-ok c = on_ok_weaker c.define_lines.result (λ h.
    block_takes c.args.source.now c.args.scope.now c.define_label.new.scope c.define_lines.new.scope c.args.number c.args.first c.args.block.now (c.in_ok-define_label.ensures.ok (types_in c.args.source.now)) h) c.define_lines.ensures.ok

pub returns-clause-adds : goal.returns-clause-adds
returns-clause-adds c = on_ok_weaker c.define_lines.result (λ h.
    block_adds c.args.source.now c.args.scope.now c.define_label.new.scope c.define_lines.new.scope c.args.number c.args.first c.args.block.now (record { 0 = c.args.number }) refl c.in_ok-define_label.ensures.adds h) c.define_lines.ensures.adds

pub returns-clause-not_yet : goal.returns-clause-not_yet
returns-clause-not_yet c = λ e.
    block_lines_refused c.args.source.now c.args.scope.now c.define_label.new.scope c.args.number c.args.first c.args.block.now (c.in_ok-define_label.ensures.ok (types_in c.args.source.now)) (c.define_lines.ensures.not_yet e)
