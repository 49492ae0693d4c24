-- The type that is returned, and the name.
use Rattle.std.specs.Prelude.{codes}
use Rattle.ll_print.proofs.TextLaws.{ok_extended}
use Rattle.ll_print.proofs.FormLaws.{head_put}
use Rattle.ll_print.proofs.functions.put_head.Goals as goal

pub returns-clause-text : goal.returns-clause-text
returns-clause-text c =
    head_put c.args.m.now c.args.f c.args.returned c.function_name.result.now c.extend_from_slice-3.result c.args.out.now.items _ _ _ _ _ c.requires.returned c.function_name.ensures
    c.in_ok-extend_from_slice.ensures.items c.in_ok-put_type.ensures.text c.in_ok-extend_from_slice-2.ensures.items (rw c.as_bytes.ensures.value at c.in_ok-put_name.ensures.text)
    (ok_extended c.extend_from_slice-3.result _ _ (codes "(") c.extend_from_slice-3.ensures.items)
