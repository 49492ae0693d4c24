-- An instruction with a result prints its name, or its number.
use Rattle.std.proofs.Common.{sym, ◌∙◌, codes}
use Rattle.std.proofs.lemmas.List.{append-nil}
use Rattle.ll_print.specs.Parts.{function_in}
use Rattle.ll_print.proofs.TextLaws.{put_is, ok_is, ok_two, ok_extended}
use Rattle.ll_print.proofs.OwnLaws.{void_gives, result_gives}
use Rattle.ll_print.proofs.instructions.put_result.Goals as goal

pub returns-then-is_void-clause-text : goal.returns-then-is_void-clause-text
returns-then-is_void-clause-text c =
    put_is _ _ _ _ (sym (append-nil c.args.out.now.items)) (void_gives c.args.m.now (function_in c.args.m.now c.args.numbers.now.function) c.args.i c.args.ty c.requires.ty (sym c.is_void.ensures ∙ c.if-is_void.true))

pub returns-clause-text : goal.returns-clause-text
returns-clause-text c =
    ok_is _ _ _ _ _ (ok_two _ _ _ _ _ _ c.in_ok-put_local.ensures.text (ok_extended c.extend_from_slice.result _ _ (codes " = ") c.extend_from_slice.ensures.items))
    (result_gives c.args.m.now c.args.numbers.now c.args.i c.args.ty c.inst_name.result.now c.requires.printing c.requires.ty c.inst_name.ensures (sym c.is_void.ensures ∙ c.if-is_void.false))
