-- Constants and a row have each its function; a module or a function is no operation of a block.
use Rattle.std.proofs.Common.{◌∙◌, Some, refl, sym, ap, ⊎_elim}
use Rattle.std.proofs.lemmas.Option.{none-some}
use Rattle.dialect_types.specs.Trees.{type_trees}
use Rattle.dialect_core.specs.declared.ops.OpKind.TheVariants as K
use Rattle.to_llvm_ir.proofs.OpLaws.{op_there, no_spot}
use Rattle.to_llvm_ir.proofs.ConstOpLaws.{constant_accepted}
use Rattle.to_llvm_ir.proofs.operations.convert_op.Goals as goal

pub convert_constant-requires-clause-spot : goal.convert_constant-requires-clause-spot
convert_constant-requires-clause-spot c =
    let there = op_there (type_trees c.args.ctx.now.types) c.args.ctx.now.ops c.args.op (K.Constant c.in-Constant.value) _ (c.op_kind.ensures.kind ∙ ap Some c.in-Constant.is) refl in
    let s = c.requires.spot there.0 there.1 in
    (s.0, s.1)

pub convert_constant-requires-clause-kind : goal.convert_constant-requires-clause-kind
convert_constant-requires-clause-kind c = rw c.attr.ensures (c.op_kind.ensures.kind ∙ ap Some c.in-Constant.is)

pub convert_row-requires : goal.convert_row-requires
convert_row-requires c =
    let there = op_there (type_trees c.args.ctx.now.types) c.args.ctx.now.ops c.args.op (K.Row c.in-Row.held) _ (c.op_kind.ensures.kind ∙ ap Some c.in-Row.is) refl in
    let s = c.requires.spot there.0 there.1 in
    record { typed = c.requires.typed; within = c.requires.within; kind = c.op_kind.ensures.kind ∙ ap Some c.in-Row.is; spot = (s.0, s.1) }

pub place_inst-requires : goal.place_inst-requires
place_inst-requires c =
    let there = op_there (type_trees c.args.ctx.now.types) c.args.ctx.now.ops c.args.op (K.Row c.in-Row.held) _ (c.op_kind.ensures.kind ∙ ap Some c.in-Row.is) refl in
    let s = c.requires.spot there.0 there.1 in
    record { within = c.requires.within; spot = (s.0, c.in_ok-inst-in-Row.ensures.next s.0 s.1, c.in_ok-inst-in-Row.ensures.ok s.0 s.1 s.2, s.3) }

pub returns-in_ok-convert_constant-in-Constant-clause-accepted : goal.returns-in_ok-convert_constant-in-Constant-clause-accepted
returns-in_ok-convert_constant-in-Constant-clause-accepted c = λ s next mapped.
    constant_accepted c.args.ctx.now c.args.op s (K.Constant c.in-Constant.value) _ next.spot (c.op_kind.ensures.kind ∙ ap Some c.in-Constant.is) refl refl

pub returns-in-Module-clause-ok : goal.returns-in-Module-clause-ok
returns-in-Module-clause-ok c = λ s next mapped here. ⊎_elim
    (λ is. absurd (no_spot c.args.ctx.now c.args.op s K.Module next.spot (c.op_kind.ensures.kind ∙ ap Some is) refl))
    (λ is. absurd (no_spot c.args.ctx.now c.args.op s K.Func next.spot (c.op_kind.ensures.kind ∙ ap Some is) refl))
    c.in-Module.is

pub returns-in_ok-place_inst-in-Row-clause-accepted : goal.returns-in_ok-place_inst-in-Row-clause-accepted
returns-in_ok-place_inst-in-Row-clause-accepted c = λ s next mapped. record {
  uses = (c.in_ok-inst-in-Row.ensures.ok s next mapped).uses;
  named = λ other. c.in_ok-place_inst-in-Row.ensures.named s next.spot;
}

pub returns-in_ok-convert_constant-in-Constant-clause-skipped : goal.returns-in_ok-convert_constant-in-Constant-clause-skipped
returns-in_ok-convert_constant-in-Constant-clause-skipped c = λ none.
    let there = op_there (type_trees c.args.ctx.now.types) c.args.ctx.now.ops c.args.op (K.Constant c.in-Constant.value) _ (c.op_kind.ensures.kind ∙ ap Some c.in-Constant.is) refl in
    absurd (none-some there.0 (sym none ∙ there.1))

pub returns-in_err-convert_constant-in-Constant-clause-skipped : goal.returns-in_err-convert_constant-in-Constant-clause-skipped
returns-in_err-convert_constant-in-Constant-clause-skipped c = λ none.
    let there = op_there (type_trees c.args.ctx.now.types) c.args.ctx.now.ops c.args.op (K.Constant c.in-Constant.value) _ (c.op_kind.ensures.kind ∙ ap Some c.in-Constant.is) refl in
    absurd (none-some there.0 (sym none ∙ there.1))

pub returns-in_err-inst-in-Row-clause-skipped : goal.returns-in_err-inst-in-Row-clause-skipped
returns-in_err-inst-in-Row-clause-skipped c = λ none.
    let there = op_there (type_trees c.args.ctx.now.types) c.args.ctx.now.ops c.args.op (K.Row c.in-Row.held) _ (c.op_kind.ensures.kind ∙ ap Some c.in-Row.is) refl in
    absurd (none-some there.0 (sym none ∙ there.1))

pub returns-in_err-place_inst-in-Row-clause-skipped : goal.returns-in_err-place_inst-in-Row-clause-skipped
returns-in_err-place_inst-in-Row-clause-skipped c = λ none.
    let there = op_there (type_trees c.args.ctx.now.types) c.args.ctx.now.ops c.args.op (K.Row c.in-Row.held) _ (c.op_kind.ensures.kind ∙ ap Some c.in-Row.is) refl in
    absurd (none-some there.0 (sym none ∙ there.1))

pub returns-in_ok-place_inst-in-Row-clause-skipped : goal.returns-in_ok-place_inst-in-Row-clause-skipped
returns-in_ok-place_inst-in-Row-clause-skipped c = λ none.
    let there = op_there (type_trees c.args.ctx.now.types) c.args.ctx.now.ops c.args.op (K.Row c.in-Row.held) _ (c.op_kind.ensures.kind ∙ ap Some c.in-Row.is) refl in
    absurd (none-some there.0 (sym none ∙ there.1))

pub returns-in_ok-convert_constant-in-Constant-clause-ok : goal.returns-in_ok-convert_constant-in-Constant-clause-ok
returns-in_ok-convert_constant-in-Constant-clause-ok c = λ s next mapped here. c.in_ok-convert_constant-in-Constant.ensures s next

pub returns-in_ok-place_inst-in-Row-clause-ok : goal.returns-in_ok-place_inst-in-Row-clause-ok
returns-in_ok-place_inst-in-Row-clause-ok c = λ s next mapped here. c.in_ok-place_inst-in-Row.ensures.ok s (c.in_ok-inst-in-Row.ensures.next s next) (c.in_ok-inst-in-Row.ensures.ok s next mapped) here

pub returns-in-Module-clause-accepted : goal.returns-in-Module-clause-accepted
returns-in-Module-clause-accepted c = λ s next mapped. ⊎_elim
    (λ is. absurd (no_spot c.args.ctx.now c.args.op s K.Module next.spot (c.op_kind.ensures.kind ∙ ap Some is) refl))
    (λ is. absurd (no_spot c.args.ctx.now c.args.op s K.Func next.spot (c.op_kind.ensures.kind ∙ ap Some is) refl))
    c.in-Module.is

pub convert_filled-requires-clause-spot : goal.convert_filled-requires-clause-spot
convert_filled-requires-clause-spot c =
    let there = op_there (type_trees c.args.ctx.now.types) c.args.ctx.now.ops c.args.op (K.Filled c.in-Filled.fill) _ (c.op_kind.ensures.kind ∙ ap Some c.in-Filled.is) refl in
    let s = c.requires.spot there.0 there.1 in
    (s.0, s.1)

pub convert_filled-requires-clause-kind : goal.convert_filled-requires-clause-kind
convert_filled-requires-clause-kind c = c.op_kind.ensures.kind ∙ ap Some c.in-Filled.is

pub returns-in_ok-convert_filled-in-Filled-clause-accepted : goal.returns-in_ok-convert_filled-in-Filled-clause-accepted
returns-in_ok-convert_filled-in-Filled-clause-accepted c = λ s next mapped.
    constant_accepted c.args.ctx.now c.args.op s (K.Filled c.in-Filled.fill) _ next.spot (c.op_kind.ensures.kind ∙ ap Some c.in-Filled.is) refl refl

pub returns-in_ok-convert_filled-in-Filled-clause-skipped : goal.returns-in_ok-convert_filled-in-Filled-clause-skipped
returns-in_ok-convert_filled-in-Filled-clause-skipped c = λ none.
    let there = op_there (type_trees c.args.ctx.now.types) c.args.ctx.now.ops c.args.op (K.Filled c.in-Filled.fill) _ (c.op_kind.ensures.kind ∙ ap Some c.in-Filled.is) refl in
    absurd (none-some there.0 (sym none ∙ there.1))

pub returns-in_err-convert_filled-in-Filled-clause-skipped : goal.returns-in_err-convert_filled-in-Filled-clause-skipped
returns-in_err-convert_filled-in-Filled-clause-skipped c = λ none.
    let there = op_there (type_trees c.args.ctx.now.types) c.args.ctx.now.ops c.args.op (K.Filled c.in-Filled.fill) _ (c.op_kind.ensures.kind ∙ ap Some c.in-Filled.is) refl in
    absurd (none-some there.0 (sym none ∙ there.1))

pub returns-in_ok-convert_filled-in-Filled-clause-ok : goal.returns-in_ok-convert_filled-in-Filled-clause-ok
returns-in_ok-convert_filled-in-Filled-clause-ok c = λ s next mapped here. c.in_ok-convert_filled-in-Filled.ensures s next
