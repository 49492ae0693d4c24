-- A function prints its parts in order.
use Rattle.std.specs.Prelude.{codes}
use Rattle.support.proofs.KeepLaws.{keeps_appended, keeps_extended, keeps_then}
use Rattle.ll_print.proofs.TextLaws.{ok_extended}
use Rattle.ll_print.proofs.FormLaws.{own_blocks, function_put}
use Rattle.ll_print.proofs.functions.put_numbered.Goals as goal

pub put_blocks-requires-clause-own : goal.put_blocks-requires-clause-own
put_blocks-requires-clause-own c =
    own_blocks c.args.m.now c.args.numbers.now.function c.blocks-2.result.now c.requires.printing.sound c.requires.printing.within c.requires.form c.blocks-2.ensures.blocks c.blocks-2.ensures.within

pub returns-clause-text : goal.returns-clause-text
returns-clause-text c =
    function_put c.args.m.now c.args.numbers.now.function c.blocks-2.result.now c.extend_from_slice-2.result c.args.out.now.items _ _ _ _ _ c.blocks-2.ensures.blocks c.blocks-2.ensures.within
    c.in_ok-put_head.ensures.text c.in_ok-put_params.ensures.text c.in_ok-extend_from_slice.ensures.items c.in_ok-put_blocks.ensures.text
    (ok_extended c.extend_from_slice-2.result _ _ (codes "}\n") c.extend_from_slice-2.ensures.items)

pub returns-clause-kept : goal.returns-clause-kept
returns-clause-kept c =
    let opened = keeps_then _ _ _ (keeps_then _ _ _ c.in_ok-put_head.ensures.kept c.in_ok-put_params.ensures.kept) (keeps_appended _ _ _ c.in_ok-extend_from_slice.ensures.items) in
    keeps_then _ _ _ (keeps_then _ _ _ opened c.in_ok-put_blocks.ensures.kept) (keeps_extended c.extend_from_slice-2.result _ _ _ c.extend_from_slice-2.ensures.items)
