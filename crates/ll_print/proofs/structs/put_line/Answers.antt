-- The pieces of a line, one after another.
use Rattle.ll_print.proofs.StructLaws.{line_put}
use Rattle.ll_print.proofs.structs.put_line.Goals as goal

pub returns-clause-text : goal.returns-clause-text
returns-clause-text c =
    line_put c.args.m.now c.args.s c.struct_name.result.now c.args.out.now.items _ _ _ _ c.struct_name.ensures
    c.in_ok-put_named.ensures.text c.in_ok-extend_from_slice.ensures.items c.in_ok-put_body.ensures.text c.in_ok-push.ensures.items
