-- An operation, or what is none of a block.
use Rattle.std.proofs.Common.{◌≡◌, ◌++◌, [], ◌∷◌, ℕ, Bool, true, List, All, map, sym, ap, subst}
use Rattle.std.specs.Prelude.{MatchBool}
use Rattle.std.proofs.lemmas.List.{append-nil}
use Rattle.dialect_types.specs.Trees.{type_trees}
use Rattle.dialect_core.specs.declared.ops.Value.{Value}
use Rattle.dialect_core.specs.declared.ops.Value.TheVariants.{Result}
use Rattle.dialect_core.specs.Data.{DialectOp}
use Rattle.dialect_core.specs.Form.{uses_of}
use Rattle.to_llvm_ir.specs.Exported.{result}
use Rattle.to_llvm_ir.specs.Ordering.{AreSeen, HasUsesAmong, is_seen}
use Rattle.to_llvm_ir.proofs.OpLaws.{op_parts}
use Rattle.to_llvm_ir.proofs.OrderingLaws.{ops_none, ops_some, uses_nil, uses_one, one_uses, noted_among, among_noted, seen_more}
use Rattle.to_llvm_ir.proofs.order.is_op_in_order.Goals as goal

pub returns-then-not-is_block_op : goal.returns-then-not-is_block_op
returns-then-not-is_block_op c = λ vs seen.
    let none = ops_none c.args.ctx.now c.args.op (c.is_block_op.ensures.no c.if-not-is_block_op.true) in (
      subst (HasUsesAmong vs) (sym none) (uses_nil vs),
      subst (λ (os : List DialectOp). AreSeen c.args.seen.now (vs ++ map result os)) (sym none) (subst (AreSeen c.args.seen.now) (sym (append-nil vs)) seen),
    )

pub returns-then-not-uses_seen : goal.returns-then-not-uses_seen
returns-then-not-uses_seen c = λ vs seen h.
    let o = c.is_block_op.ensures.yes c.if-not-is_block_op.false in
    let P : Type 0 = All (λ (v : Value). is_seen c.args.seen.now v ≡ true) (uses_of o.0) in
    let no = subst (λ (b : Bool). MatchBool b P (¬ P)) c.if-not-uses_seen.true (c.uses_seen.ensures o.0 o.1) in
    no (among_noted c.args.seen.now vs (uses_of o.0) seen (one_uses vs o.0 (subst (HasUsesAmong vs) (ops_some c.args.ctx.now c.args.op o.0 o.1) h)))

pub returns : goal.returns
returns c = λ vs seen.
    let o = c.is_block_op.ensures.yes c.if-not-is_block_op.false in
    let P : Type 0 = All (λ (v : Value). is_seen c.args.seen.now v ≡ true) (uses_of o.0) in
    let yes = subst (λ (b : Bool). MatchBool b P (¬ P)) c.if-not-uses_seen.false (c.uses_seen.ensures o.0 o.1) in
    let some = ops_some c.args.ctx.now c.args.op o.0 o.1 in
    let key : Result c.args.op ≡ result o.0 = ap (λ (k : ℕ). Result (record { 0 = k })) (sym (op_parts (type_trees c.args.ctx.now.types) c.args.ctx.now.ops c.args.op o.0 o.1).number) in (
      subst (HasUsesAmong vs) (sym some) (uses_one vs o.0 (noted_among c.args.seen.now vs (uses_of o.0) seen yes)),
      subst (λ (os : List DialectOp). AreSeen c.note.new.self (vs ++ map result os)) (sym some)
          (subst (λ (v : Value). AreSeen c.note.new.self (vs ++ v ∷ [])) key (seen_more c.args.seen.now c.note.new.self (Result c.args.op) vs c.in_ok-note.ensures seen)),
    )
