-- What `operands::named_value` owes besides what the check finds.
use Rattle.std.proofs.Common.{◌≡◌, drop, Option, ap, sym, ◌∙◌}
use Rattle.std.specs.Option.{option_map, option_and_then}
use Rattle.llvm_core.specs.Data.{Operand, type_at, operand_of}
use Rattle.ll_lines.specs.Lines.{Text}
use Rattle.ll_lines.specs.Views.{text_of}
use Rattle.ll_bodies.specs.Scopes.{Scope, key_of, value_of_type, local_of}
use Rattle.ll_bodies.specs.ScopeViews.{Knows}
use Rattle.ll_bodies.specs.SourceViews.{types_in, source_trees}
use Rattle.ll_bodies.proofs.OperandLaws.{known_in, found_ok, found_not}
use Rattle.ll_bodies.proofs.operands.named_value.Goals as goal
use Rattle.ll_bodies.proofs.operands.named_value.Goals.{After-ok_or}

abbrev meant : After-ok_or → Scope → Option Operand
meant c s = value_of_type (type_at (types_in c.args.source.now) c.args.ty) (local_of s (text_of c.args.source.now.bytes.now c.args.name))

is : (c : After-ok_or) (s : Scope) → Knows (types_in c.args.source.now) c.args.scope.now s → meant c s ≡ option_map (operand_of (source_trees c.args.source.now)) c.local_value.result
is c s knows =
    let m = c.args.source.now.module.now in
    let ts = types_in c.args.source.now in
    let τ = type_at ts c.args.ty in
    ap (λ (w : Text). value_of_type τ (option_and_then s.known (key_of w))) (sym (c.of_local.ensures ∙ ap (drop 1) c.text.ensures))
    ∙ ap (value_of_type τ) (c.in-Ok.ensures.is ts s knows)
    ∙ c.local_value.ensures m c.requires.source.sound (known_in m c.args.scope.now c.in-Ok.local c.requires.scope c.in-Ok.ensures.there) c.requires.ty

pub returns-in-Ok-clause-ok : goal.returns-in-Ok-clause-ok
returns-in-Ok-clause-ok c = found_ok (types_in c.args.source.now) c.args.scope.now (meant c) (operand_of (source_trees c.args.source.now)) c.ok_or.result c.local_value.result c.ok_or.ensures.value (is c)

pub returns-in-Ok-clause-not_yet : goal.returns-in-Ok-clause-not_yet
returns-in-Ok-clause-not_yet c = found_not (types_in c.args.source.now) c.args.scope.now (meant c) (operand_of (source_trees c.args.source.now)) c.ok_or.result c.local_value.result c.ok_or.ensures.value (is c)
