-- The pieces of a phi stand one after another.
use Rattle.std.proofs.Common.{◌++◌}
use Rattle.std.specs.Prelude.{codes}
use Rattle.support.proofs.ListLaws.{appended_twice}
use Rattle.llvm_core.specs.Data.{trees_of, type_at}
use Rattle.ll_print.specs.Printing.{type_text}
use Rattle.ll_print.proofs.TextLaws.{ok_two}
use Rattle.ll_print.proofs.instructions.put_phi.Goals as goal

pub returns-clause-text : goal.returns-clause-text
returns-clause-text c =
    let old = c.args.out.now.items in
    let type = type_text (type_at (trees_of c.args.m.now).types c.args.ty) in
    let two = appended_twice old c.extend_from_slice.new.self.items c.put_type.new.out.items (codes "phi ") type c.in_ok-extend_from_slice.ensures.items c.in_ok-put_type.ensures.text in
    let three = appended_twice old c.put_type.new.out.items c.push.new.self.items (codes "phi " ++ type) (codes " ") two c.in_ok-push.ensures.items in
    ok_two c.put_entries.result old c.push.new.self.items c.put_entries.new.out.items (codes "phi " ++ type ++ codes " ") _ three c.put_entries.ensures.text
