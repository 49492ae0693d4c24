-- What `types::convert_type` owes besides what the check finds.
use Rattle.std.proofs.Common.{◌≡◌, None, Some}
use Rattle.llvm_core.specs.declared.numbers.LLVMType.{LLVMType}
use Rattle.from_consts.specs.Given.{given_at, StandsFor}
use Rattle.from_consts.specs.Parts.{IsWithin}
use Rattle.from_consts.proofs.GrowthLaws.{inside_given, not_none, stands_given}
use Rattle.from_consts.proofs.GivesLaws.{context_same, gives_same, gives_then, if_ok_as, if_ok_on}
use Rattle.from_consts.proofs.types.convert_type.Goals as goal

pub returns-in_err-make_ready-clause-gives : goal.returns-in_err-make_ready-clause-gives
returns-in_err-make_ready-clause-gives c =
    let made = c.make_ready.ensures in
    gives_same c.args.«module».now (λ u. IsWithin c.args.«module».now u c.args.ty) c.args.ctx.now c.args.cctx.now c.make_ready.new.cctx made.names made.given made.still c.requires.context

pub give-requires-clause-context : goal.give-requires-clause-context
give-requires-clause-context c =
    let made = c.make_ready.ensures in
    context_same c.args.«module».now c.args.ctx.now.types c.args.cctx.now c.make_ready.new.cctx made.names made.given made.still c.requires.context

pub returns-clause-stands : goal.returns-clause-stands
returns-clause-stands c =
    let m = c.args.«module».now in
    let y = c.give.new.cctx in
    if_ok_as c.give.result (λ t. given_at y c.args.ty ≡ Some t) (StandsFor m y.names c.give.new.ctx.types c.args.ty) (λ h at. stands_given m c.give.new.ctx.types y c.give.ensures.gives.context c.args.ty h at) c.give.ensures.given

pub returns-clause-gives : goal.returns-clause-gives
returns-clause-gives c =
    let m = c.args.«module».now in
    let W = λ (u : LLVMType). IsWithin m u c.args.ty in
    let made = c.make_ready.ensures in
    gives_then m W c.args.ctx.now c.args.ctx.now c.give.new.ctx c.args.cctx.now c.make_ready.new.cctx c.give.new.cctx (gives_same m W c.args.ctx.now c.args.cctx.now c.make_ready.new.cctx made.names made.given made.still c.requires.context) c.give.ensures.gives

pub returns-clause-all : goal.returns-clause-all
returns-clause-all c =
    let m = c.args.«module».now in
    let y = c.give.new.cctx in
    if_ok_on c.give.result (λ t. given_at y c.args.ty ≡ Some t) ((u : LLVMType) → IsWithin m u c.args.ty → ¬ (given_at y u ≡ None))
    (λ h at u inside. inside_given m c.give.new.ctx.types y c.give.ensures.gives.context u c.args.ty inside (not_none (given_at y c.args.ty) h at)) c.give.ensures.given
