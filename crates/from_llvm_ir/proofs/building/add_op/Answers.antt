-- What `building::add_op` owes besides what the check finds.
use Rattle.std.proofs.Common.{length, ap, ◌∙◌}
use Rattle.dialect_core.specs.ContextData.{ContextData}
use Rattle.from_llvm_ir.specs.Building.{op_data}
use Rattle.from_llvm_ir.proofs.BuildLaws.{length-push}
use Rattle.from_llvm_ir.proofs.OpLaws.{kind_of_new, plain_here, stands_plain}
use Rattle.from_llvm_ir.proofs.UnderLaws.{added_open, open_within}
use Rattle.from_llvm_ir.proofs.KeepLaws.{keeps_op}
use Rattle.from_llvm_ir.proofs.building.add_op.Goals as goal

pub insert_at_back-requires-clause-block : goal.insert_at_back-requires-clause-block
insert_at_back-requires-clause-block g c =
    let o = c.requires.open in
    rw c.in_ok-op.ensures.ok (open_within o.0 o.1 c.args.ctx.now c.args.block o.2 o.3 o.4 o.5)

pub insert_at_back-requires-clause-stands : goal.insert_at_back-requires-clause-stands
insert_at_back-requires-clause-stands g c =
    let stands = kind_of_new c.args.ctx.now c.create_named.new.ctx c.in_ok-op.op (op_data c.args.kind c.args.name c.args.operands c.args.successors c.args.result_ty) c.in_ok-op.ensures.ok c.in_ok-op.ensures.number in
    stands_plain c.create_named.new.ctx.ops c.create_named.new.ctx.blocks c.in_ok-op.op c.args.block c.args.kind c.requires.plain stands

pub returns-clause-added : goal.returns-clause-added
returns-clause-added g c = λ h base left now right k is u.
    added_open h base c.args.ctx.now c.create_named.new.ctx c.insert_at_back.new.self c.args.block left now right c.in_ok-op.op c.args.kind c.args.name c.args.operands c.args.successors c.args.result_ty k u c.requires.plain is
    c.in_ok-op.ensures.ok c.in_ok-op.ensures.number (c.in_ok-op.ensures.data h.m u.under.building.there) (record { kind = c.requires.types; result = c.requires.result_ty; symbol = tt }) c.insert_at_back.ensures.appended c.insert_at_back.ensures.data_op

pub returns-clause-count : goal.returns-clause-count
returns-clause-count g c = ap (λ (x : ContextData). length x.ops) c.insert_at_back.ensures.appended ∙ ap (λ (x : ContextData). length x.ops) c.in_ok-op.ensures.ok ∙ length-push c.args.ctx.now.ops _

pub returns-clause-kept : goal.returns-clause-kept
returns-clause-kept g c = λ n b behind.
    let c1 = c.create_named.new.ctx in
    let o = c.in_ok-op.op in
    let here = plain_here c.args.ctx.now c1 (op_data c.args.kind c.args.name c.args.operands c.args.successors c.args.result_ty) o c.requires.plain c.in_ok-op.ensures.ok c.in_ok-op.ensures.number in
    keeps_op n b c.args.ctx.now c1 c.insert_at_back.new.self o c.args.block here.0 (c.create_named.ensures.kept n b) c.in_ok-op.ensures.number
    c.insert_at_back.ensures.appended (c.insert_at_back.ensures.data_op here.0 here.1) c.insert_at_back.ensures.typed behind
