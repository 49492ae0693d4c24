-- What `functions::scope_of` owes besides what the check finds.
use Rattle.ll_bodies.specs.Scopes.{empty_scope}
use Rattle.ll_bodies.specs.SourceViews.{types_in}
use Rattle.ll_bodies.proofs.FunctionLaws.{scope_in, named_in, scope_takes, no_params, no_blocks}
use Rattle.ll_bodies.proofs.ErrLaws.{passed_on}
use Rattle.ll_bodies.proofs.functions.scope_of.Goals as goal

pub returns-clause-knows : goal.returns-clause-knows
returns-clause-knows c =
    let a = c.in_ok-define_params.ensures.ok empty_scope (c.new-scope.ensures.knows (types_in c.args.source.now)) in
    let b = c.in_ok-define_blocks.ensures.ok a.0 a.2 in
    (b.0, scope_takes c.args.source.now c.args.f.0 c.args.first_block c.args.first c.args.params.now c.args.blocks.now a.0 b.0 a.1 b.1, b.2)

pub returns-clause-sound : goal.returns-clause-sound
returns-clause-sound c =
    scope_in c.args.source.now c.args.f c.args.first_block c.args.first c.args.params.now c.args.blocks.now c.new-scope.result c.define_params.new.scope c.define_blocks.new.scope c.new-scope.ensures.none c.requires.params c.in_ok-define_params.ensures.adds c.in_ok-define_blocks.ensures.adds

pub returns-in_err-define_params-clause-not_yet : goal.returns-in_err-define_params-clause-not_yet
returns-in_err-define_params-clause-not_yet c = λ e.
    let x = c.in_err-define_params in
    no_params c.args.source.now c.args.f.0 c.args.first_block c.args.first c.args.params.now c.args.blocks.now (x.ensures.not_yet (passed_on c.from_residual.result x.field-0.0 c.from_residual.ensures.1 e) empty_scope (c.new-scope.ensures.knows (types_in c.args.source.now)))

pub returns-in_err-define_blocks-clause-not_yet : goal.returns-in_err-define_blocks-clause-not_yet
returns-in_err-define_blocks-clause-not_yet c = λ e.
    let x = c.in_err-define_blocks in
    let f = c.from_residual-in_err-define_blocks in
    let a = c.in_ok-define_params.ensures.ok empty_scope (c.new-scope.ensures.knows (types_in c.args.source.now)) in
    no_blocks c.args.source.now c.args.f.0 c.args.first_block c.args.first c.args.params.now c.args.blocks.now a.0 a.1 (x.ensures.not_yet (passed_on f.result x.field-0.0 f.ensures.1 e) a.0 a.2)

pub returns-clause-named : goal.returns-clause-named
returns-clause-named c =
    named_in c.args.source.now c.args.f c.args.first_block c.args.first c.args.params.now c.args.blocks.now c.new-scope.result c.define_params.new.scope c.define_blocks.new.scope c.new-scope.ensures.none c.in_ok-define_params.ensures.adds c.in_ok-define_blocks.ensures.adds
