-- The literal stands before the constants that are there.
use Rattle.std.proofs.Common.{rules, ◌≡◌}
use Rattle.llvm_core.specs.Data.{trees_of, type_at}
use Rattle.ll_lines.specs.declared.lines.Said.TheVariants as Told
use Rattle.ll_values.specs.Values.{said}
use Rattle.ll_values.specs.Views.{literal_view}
use Rattle.ll_values.specs.Growing.{Says}
use Rattle.ll_values.proofs.ElementLaws.{says_list}
use Rattle.ll_values.proofs.elements.make_list.Goals as goal

pub returns-in_ok-number-in-Ok-Const-clause-says : goal.returns-in_ok-number-in-Ok-Const-clause-says
returns-in_ok-number-in-Ok-Const-clause-says c =
    let m = c.args.m.now in
    let s = c.args.store.now in
    let is : c.in-Ok-Const.field-0 ≡ Told.Const c.in-Ok-Const.c = search rules in
    let says : Says c.args.bytes.now m c.said.new.m s c.said.new.store (said (type_at (trees_of m).types c.args.ty) (literal_view c.args.bytes.now (trees_of m) s c.args.first)) (Told.Const c.in-Ok-Const.c) = rw (← is) c.in-Ok-Const.ensures.says in
    says_list c.args.bytes.now m c.said.new.m s c.args.brackets c.args.ty c.args.first c.args.rest c.said.new.store c.keep_consts.new.store c.requires.store c.in-Ok-Const.c c.in_ok-number-in-Ok-Const.number c.requires.rest says c.in_ok-number-in-Ok-Const.ensures.kept
