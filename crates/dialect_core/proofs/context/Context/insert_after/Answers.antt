-- What `context::Context::insert_after` owes besides what the check finds.
use Rattle.std.proofs.Common.{List, Some, None}
use Rattle.dialect_types.specs.Trees.{type_trees}
use Rattle.dialect_core.specs.Lists.{put_after, with_after}
use Rattle.dialect_core.specs.Data.{DialectOp, Func, op_at, func_in}
use Rattle.dialect_core.proofs.ContextLemmas.{context}
use Rattle.dialect_core.proofs.ChangeLemmas.{op_numbered, func_numbered, after_quiet, after_said}
use Rattle.dialect_core.proofs.MoveLemmas.{came_kept, after_came, block_there, call_typed, call_op_data, call_func_data, call_other_data}
use Rattle.dialect_core.proofs.context.Context.insert_after.Goals as goal

pub invariant_of-self : goal.invariant_of-self
invariant_of-self g c =
    let free = rw (← c.self.view_is) at c.requires.free in
    let other = rw (← c.self.view_is) at c.requires.other in
    rw (c.insert_after.ensures.inserted other.0 other.1)
    (record {
      numbers = came_kept c.self.inside.ops.items c.self.inside.blocks.items c.self.inside.lists.parents c.self.inside.lists.lists c.args.op other.0 (with_after c.args.op c.args.other) c.self.invariant.numbers free (after_came c.args.op c.args.other);
      regions = c.self.invariant.regions;
    })

pub returns-clause-data_op : goal.returns-clause-data_op
returns-clause-data_op g c =
    let free = rw (← c.self.view_is) at c.requires.free in
    rw (← c.self.view_is)
    (λ b at d e is is_other. call_op_data c.self.inside.types c.self.inside.ops.items c.self.inside.blocks.items c.self.inside.lists c.insert_after.new.self c.args.op (Some b) (None) b (with_after c.args.op c.args.other) free (c.insert_after.ensures.inserted b at) c.self.invariant.numbers (block_there c.self.inside.ops.items c.self.inside.blocks.items c.self.inside.lists.parents c.self.inside.lists.lists b c.self.invariant.numbers (c.insert_after.ensures.there b at))
    (λ (ds : List DialectOp). put_after (λ (x : DialectOp). x.number) d c.args.other.0 ds) d is
    (after_said (λ (x : DialectOp). x.number) (op_at (type_trees c.self.inside.types) c.self.inside.ops.items) c.args.op c.args.other d e (op_numbered (type_trees c.self.inside.types) c.self.inside.ops.items) is is_other)
    (λ f none. after_quiet f c.args.op c.args.other none))

pub returns-clause-data_func : goal.returns-clause-data_func
returns-clause-data_func g c =
    let free = rw (← c.self.view_is) at c.requires.free in
    rw (← c.self.view_is)
    (λ b at f h is is_other. call_func_data c.self.inside.types c.self.inside.ops.items c.self.inside.blocks.items c.self.inside.lists c.insert_after.new.self c.args.op (Some b) (None) b (with_after c.args.op c.args.other) free (c.insert_after.ensures.inserted b at) c.self.invariant.numbers (block_there c.self.inside.ops.items c.self.inside.blocks.items c.self.inside.lists.parents c.self.inside.lists.lists b c.self.invariant.numbers (c.insert_after.ensures.there b at))
    (λ (fs : List Func). put_after (λ (x : Func). x.number) f c.args.other.0 fs) f is
    (after_said (λ (x : Func). x.number) (func_in (type_trees c.self.inside.types) (context c.self.inside.types c.self.inside.ops.items c.self.inside.blocks.items c.self.inside.lists.parents c.self.inside.lists.lists)) c.args.op c.args.other f h (func_numbered (type_trees c.self.inside.types) (context c.self.inside.types c.self.inside.ops.items c.self.inside.blocks.items c.self.inside.lists.parents c.self.inside.lists.lists)) is is_other)
    (λ f none. after_quiet f c.args.op c.args.other none))

pub returns-clause-data_other : goal.returns-clause-data_other
returns-clause-data_other g c =
    let free = rw (← c.self.view_is) at c.requires.free in
    rw (← c.self.view_is)
    (λ b at f is. call_other_data c.self.inside.types c.self.inside.ops.items c.self.inside.blocks.items c.self.inside.lists c.insert_after.new.self c.args.op (Some b) (None) b (with_after c.args.op c.args.other) free (c.insert_after.ensures.inserted b at) c.self.invariant.numbers (block_there c.self.inside.ops.items c.self.inside.blocks.items c.self.inside.lists.parents c.self.inside.lists.lists b c.self.invariant.numbers (c.insert_after.ensures.there b at)) f is
    (λ f none. after_quiet f c.args.op c.args.other none))

pub returns-clause-typed : goal.returns-clause-typed
returns-clause-typed g c =
    let free = rw (← c.self.view_is) at c.requires.free in
    let other = rw (← c.self.view_is) at c.requires.other in
    rw (← c.self.view_is) (call_typed c.self.inside.types c.self.inside.ops.items c.self.inside.blocks.items c.self.inside.lists c.insert_after.new.self c.args.op (Some other.0) (None) other.0 (with_after c.args.op c.args.other) free (c.insert_after.ensures.inserted other.0 other.1))
