-- What `context::Context::create_module` owes besides what the check finds.
use Rattle.std.proofs.Common.{length, subst, ap, sym, ◌∙◌, refl}
use Rattle.dialect_core.specs.declared.ops.OpData.{OpData}
use Rattle.dialect_core.specs.ContextData.{ContextData, with_op}
use Rattle.dialect_core.specs.Data.{IsTypedOp, data_of}
use Rattle.dialect_core.proofs.DataLemmas.{new_bare}
use Rattle.dialect_core.proofs.context.Context.create_module.Goals as goal

pub returns-clause-ok : goal.returns-clause-ok
returns-clause-ok c = c.in_ok-op.ensures.ok ∙ ap (with_op c.args.self.now) c.bare-data.ensures

pub returns-clause-module : goal.returns-clause-module
returns-clause-module c =
    ap (λ (d : ContextData). data_of d c.in_ok-op.op.0) (c.in_ok-op.ensures.ok ∙ ap (with_op c.args.self.now) c.bare-data.ensures) ∙ new_bare c.args.self.now _ c.in_ok-op.op.0 c.in_ok-op.ensures.number refl

pub returns-clause-data : goal.returns-clause-data
returns-clause-data c = c.in_ok-op.ensures.data

pub returns-clause-typed : goal.returns-clause-typed
returns-clause-typed c = λ typed. c.in_ok-op.ensures.typed typed (let P : OpData → Type 0 = IsTypedOp (length c.args.self.now.types) in subst P (sym c.bare-data.ensures) (record { kind = tt; result = tt; symbol = tt }))
