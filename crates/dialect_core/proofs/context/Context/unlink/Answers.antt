-- What `context::Context::unlink` owes besides what the check finds.
use Rattle.std.proofs.Common.{List, Some, None}
use Rattle.dialect_types.specs.Trees.{type_trees}
use Rattle.dialect_core.specs.Lists.{leave_out, without}
use Rattle.dialect_core.specs.Data.{DialectOp, Func, op_at, func_in}
use Rattle.dialect_core.proofs.ContextLemmas.{context}
use Rattle.dialect_core.proofs.ChangeLemmas.{op_numbered, func_numbered, without_quiet, without_said}
use Rattle.dialect_core.proofs.MoveLemmas.{left_kept, left_free, block_there, call_typed, call_op_data, call_func_data, call_other_data}
use Rattle.dialect_core.proofs.context.Context.unlink.Goals as goal

pub invariant_of-self : goal.invariant_of-self
invariant_of-self g c =
    let stands = rw (← c.self.view_is) at c.requires in
    rw (c.remove.ensures.removed stands.0 stands.1)
    (record {
      numbers = left_kept c.self.inside.ops.items c.self.inside.blocks.items c.self.inside.lists.parents c.self.inside.lists.lists c.args.op stands.0 c.self.invariant.numbers stands.1 (c.remove.ensures.apart stands.0);
      regions = c.self.invariant.regions;
    })

pub returns-clause-free : goal.returns-clause-free
returns-clause-free g c =
    let stands = rw (← c.self.view_is) at c.requires in
    left_free c.self.inside.lists c.remove.new.self c.args.op stands.0 stands.1 (c.remove.ensures.removed stands.0 stands.1)

pub returns-clause-data_op : goal.returns-clause-data_op
returns-clause-data_op g c =
    rw (← c.self.view_is)
    (λ b at d is. call_op_data c.self.inside.types c.self.inside.ops.items c.self.inside.blocks.items c.self.inside.lists c.remove.new.self c.args.op (None) (Some b) b (without c.args.op) at (c.remove.ensures.removed b at) c.self.invariant.numbers (block_there c.self.inside.ops.items c.self.inside.blocks.items c.self.inside.lists.parents c.self.inside.lists.lists b c.self.invariant.numbers (c.remove.ensures.there b at))
    (λ (ds : List DialectOp). leave_out (λ (x : DialectOp). x.number) c.args.op.0 ds) d is
    (without_said (λ (x : DialectOp). x.number) (op_at (type_trees c.self.inside.types) c.self.inside.ops.items) c.args.op d (op_numbered (type_trees c.self.inside.types) c.self.inside.ops.items) is)
    (λ f none. without_quiet f c.args.op none))

pub returns-clause-data_func : goal.returns-clause-data_func
returns-clause-data_func g c =
    rw (← c.self.view_is)
    (λ b at f is. call_func_data c.self.inside.types c.self.inside.ops.items c.self.inside.blocks.items c.self.inside.lists c.remove.new.self c.args.op (None) (Some b) b (without c.args.op) at (c.remove.ensures.removed b at) c.self.invariant.numbers (block_there c.self.inside.ops.items c.self.inside.blocks.items c.self.inside.lists.parents c.self.inside.lists.lists b c.self.invariant.numbers (c.remove.ensures.there b at))
    (λ (fs : List Func). leave_out (λ (x : Func). x.number) c.args.op.0 fs) f is
    (without_said (λ (x : Func). x.number) (func_in (type_trees c.self.inside.types) (context c.self.inside.types c.self.inside.ops.items c.self.inside.blocks.items c.self.inside.lists.parents c.self.inside.lists.lists)) c.args.op f (func_numbered (type_trees c.self.inside.types) (context c.self.inside.types c.self.inside.ops.items c.self.inside.blocks.items c.self.inside.lists.parents c.self.inside.lists.lists)) is)
    (λ f none. without_quiet f c.args.op none))

pub returns-clause-data_other : goal.returns-clause-data_other
returns-clause-data_other g c =
    rw (← c.self.view_is)
    (λ b at f is. call_other_data c.self.inside.types c.self.inside.ops.items c.self.inside.blocks.items c.self.inside.lists c.remove.new.self c.args.op (None) (Some b) b (without c.args.op) at (c.remove.ensures.removed b at) c.self.invariant.numbers (block_there c.self.inside.ops.items c.self.inside.blocks.items c.self.inside.lists.parents c.self.inside.lists.lists b c.self.invariant.numbers (c.remove.ensures.there b at)) f is
    (λ f none. without_quiet f c.args.op none))

pub returns-clause-typed : goal.returns-clause-typed
returns-clause-typed g c =
    let stands = rw (← c.self.view_is) at c.requires in
    rw (← c.self.view_is) (call_typed c.self.inside.types c.self.inside.ops.items c.self.inside.blocks.items c.self.inside.lists c.remove.new.self c.args.op (None) (Some stands.0) stands.0 (without c.args.op) stands.1 (c.remove.ensures.removed stands.0 stands.1))
