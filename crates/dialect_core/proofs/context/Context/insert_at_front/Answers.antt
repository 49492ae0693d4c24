-- What `context::Context::insert_at_front` owes besides what the check finds.
use Rattle.std.proofs.Common.{List, ◌∷◌, Some, None}
use Rattle.dialect_types.specs.Trees.{type_trees}
use Rattle.dialect_core.specs.declared.numbers.OpRef.{OpRef}
use Rattle.dialect_core.specs.Data.{DialectOp, Func, op_at, func_in}
use Rattle.dialect_core.proofs.ContextLemmas.{context}
use Rattle.dialect_core.proofs.ChangeLemmas.{first_quiet, first_said}
use Rattle.dialect_core.proofs.MoveLemmas.{came_kept, first_came, call_typed, call_op_data, call_func_data, call_other_data}
use Rattle.dialect_core.proofs.context.Context.insert_at_front.Goals as goal

pub invariant_of-self : goal.invariant_of-self
invariant_of-self g c =
    let free = rw (← c.self.view_is) at c.requires.free in
    rw c.prepend.ensures
    (record {
      numbers = came_kept c.self.inside.ops.items c.self.inside.blocks.items c.self.inside.lists.parents c.self.inside.lists.lists c.args.op c.args.block (λ (xs : List OpRef). c.args.op ∷ xs) c.self.invariant.numbers free (first_came c.args.op);
      regions = c.self.invariant.regions;
    })

pub returns-clause-data_op : goal.returns-clause-data_op
returns-clause-data_op g c =
    let free = rw (← c.self.view_is) at c.requires.free in
    let block = rw (← c.self.view_is) at c.requires.block in
    rw (← c.self.view_is)
    (λ d is. call_op_data c.self.inside.types c.self.inside.ops.items c.self.inside.blocks.items c.self.inside.lists c.prepend.new.self c.args.op (Some c.args.block) None c.args.block (λ (xs : List OpRef). c.args.op ∷ xs) free c.prepend.ensures c.self.invariant.numbers block (λ (ds : List DialectOp). d ∷ ds) d is
    (first_said (op_at (type_trees c.self.inside.types) c.self.inside.ops.items) c.args.op d is) (λ f none. first_quiet f c.args.op none))

pub returns-clause-data_func : goal.returns-clause-data_func
returns-clause-data_func g c =
    let free = rw (← c.self.view_is) at c.requires.free in
    let block = rw (← c.self.view_is) at c.requires.block in
    rw (← c.self.view_is)
    (λ f is. call_func_data c.self.inside.types c.self.inside.ops.items c.self.inside.blocks.items c.self.inside.lists c.prepend.new.self c.args.op (Some c.args.block) None c.args.block (λ (xs : List OpRef). c.args.op ∷ xs) free c.prepend.ensures c.self.invariant.numbers block (λ (fs : List Func). f ∷ fs) f is
    (first_said (func_in (type_trees c.self.inside.types) (context c.self.inside.types c.self.inside.ops.items c.self.inside.blocks.items c.self.inside.lists.parents c.self.inside.lists.lists)) c.args.op f is) (λ f none. first_quiet f c.args.op none))

pub returns-clause-data_other : goal.returns-clause-data_other
returns-clause-data_other g c =
    let free = rw (← c.self.view_is) at c.requires.free in
    let block = rw (← c.self.view_is) at c.requires.block in
    rw (← c.self.view_is)
    (λ f is. call_other_data c.self.inside.types c.self.inside.ops.items c.self.inside.blocks.items c.self.inside.lists c.prepend.new.self c.args.op (Some c.args.block) None c.args.block (λ (xs : List OpRef). c.args.op ∷ xs) free c.prepend.ensures c.self.invariant.numbers block f is (λ f none. first_quiet f c.args.op none))

pub returns-clause-typed : goal.returns-clause-typed
returns-clause-typed g c =
    let free = rw (← c.self.view_is) at c.requires.free in
    rw (← c.self.view_is) (call_typed c.self.inside.types c.self.inside.ops.items c.self.inside.blocks.items c.self.inside.lists c.prepend.new.self c.args.op (Some c.args.block) None c.args.block (λ (xs : List OpRef). c.args.op ∷ xs) free c.prepend.ensures)
