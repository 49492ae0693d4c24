-- `==` of terms' nodes is equality.
use Rattle.std.proofs.Common.{◌≡◌, true, subst, arith}
use Rattle.std.specs.Bool.{Decides}
use Rattle.std.specs.Cmp.Lexicographic.{pointwise}
use Rattle.std.specs.Prelude.{nat_eq, ◌&&◌}
use Rattle.std.proofs.lemmas.Bool.{and_parts, eqb-true}
use Rattle.llvm_core.specs.Keys.{same_text}
use Rattle.kinds.specs.contracts.op.OpPartialEq.TheImpl as ops
use Rattle.llvm_core.specs.declared.numbers.LLVMType.{LLVMType}
use Rattle.tracing.specs.declared.table.TermNode.{TermNode}
use Rattle.tracing.specs.declared.table.TermNode.TheVariants as N
use Rattle.llvm_core.specs.contracts.numbers.LLVMTypePartialEq.TheImpl as types
use Rattle.tracing.specs.contracts.table.TermNodePartialEq.TheImpl as nodes
use Rattle.tracing.specs.contracts.table.TermNodeEq.TheImpl.Laws as node_eq
use Rattle.kinds.proofs.OpLaws.{same_op}

same_type : (a b : LLVMType) → types.eq-value.it a b ≡ true → a ≡ b
same_type a b h = grind arith

pub same_node : (a b : TermNode) → nodes.eq-value.it a b ≡ true → a ≡ b
same_node (N.Expr o t ks) (N.Expr p u ls) h =
    let a = ops.eq-value.it o p in
    let b = types.eq-value.it t u in
    let c = pointwise nat_eq ks ls in
    let first = and_parts a (b && c) h in
    let second = and_parts b c first.1 in
    let e = same_op o p first.0 in
    let f = same_type t u second.0 in
    let k = (same_text ks ls).0 second.1 in
    cc
same_node (N.ListOf t ks) (N.ListOf u ls) h =
    let b = types.eq-value.it t u in
    let c = pointwise nat_eq ks ls in
    let both = and_parts b c h in
    let f = same_type t u both.0 in
    let k = (same_text ks ls).0 both.1 in
    cc
same_node (N.SplatOf t k) (N.SplatOf u l) h =
    let both = and_parts (types.eq-value.it t u) (nat_eq k l) h in
    let f = same_type t u both.0 in
    let e = eqb-true k l both.1 in
    cc
same_node a b h = grind arith

pub node_decides : (a b : TermNode) → Decides (nodes.eq-value.it a b) (a ≡ b)
node_decides a b = (same_node a b, λ e. subst (λ (y : TermNode). nodes.eq-value.it a y ≡ true) e (node_eq.laws-law.refl a))
