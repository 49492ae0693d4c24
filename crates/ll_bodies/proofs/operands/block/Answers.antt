-- What `operands::block` owes besides what the check finds.
use Rattle.std.proofs.Common.{◌≡◌, ℕ, drop, Option, ap, sym, ◌∙◌}
use Rattle.std.specs.Option.{option_map, option_and_then}
use Rattle.llvm_core.specs.declared.numbers.LLVMBasicBlock.{LLVMBasicBlock}
use Rattle.ll_lines.specs.Lines.{Text}
use Rattle.ll_lines.specs.Views.{text_of}
use Rattle.ll_bodies.specs.Scopes.{Scope, key_of, option_block, block_of}
use Rattle.ll_bodies.specs.ScopeViews.{Knows}
use Rattle.ll_bodies.specs.SourceViews.{types_in}
use Rattle.ll_bodies.proofs.OperandLaws.{found_ok, found_not}
use Rattle.ll_bodies.proofs.operands.block.Goals as goal
use Rattle.ll_bodies.proofs.operands.block.Goals.{After-ok_or}

abbrev meant : After-ok_or → Scope → Option ℕ
meant c s = block_of s (text_of c.args.source.now.bytes.now c.args.name)

is : (c : After-ok_or) (s : Scope) → Knows (types_in c.args.source.now) c.args.scope.now s → meant c s ≡ option_map (λ (b : LLVMBasicBlock). b.0) c.local_block.result
is c s knows =
    let ts = types_in c.args.source.now in
    ap (λ (w : Text). option_block (option_and_then s.known (key_of w))) (sym (c.of_local.ensures ∙ ap (drop 1) c.text.ensures)) ∙ ap option_block (c.in-Ok.ensures.is ts s knows) ∙ c.local_block.ensures ts

pub returns-in-Ok-clause-ok : goal.returns-in-Ok-clause-ok
returns-in-Ok-clause-ok c = found_ok (types_in c.args.source.now) c.args.scope.now (meant c) (λ (b : LLVMBasicBlock). b.0) c.ok_or.result c.local_block.result c.ok_or.ensures.value (is c)

pub returns-in-Ok-clause-not_yet : goal.returns-in-Ok-clause-not_yet
returns-in-Ok-clause-not_yet c = found_not (types_in c.args.source.now) c.args.scope.now (meant c) (λ (b : LLVMBasicBlock). b.0) c.ok_or.result c.local_block.result c.ok_or.ensures.value (is c)
