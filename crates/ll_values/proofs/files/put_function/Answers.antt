-- A function stands first in the file.
use Rattle.std.proofs.Common.{arith, refl, sym}
use Rattle.llvm_core.specs.Data.{trees_of}
use Rattle.ll_values.specs.declared.form.Kind.TheVariants as K
use Rattle.ll_values.specs.declared.form.ListKind.TheVariants as L
use Rattle.ll_values.specs.declared.value.Value.TheVariants as V
use Rattle.ll_values.specs.Views.{file_from, IsValueIn}
use Rattle.ll_values.proofs.StackLaws.{parts_there, puts_kept}
use Rattle.ll_values.proofs.files.put_function.Goals as goal

pub keep_functions-requires-clause-there : goal.keep_functions-requires-clause-there
keep_functions-requires-clause-there c =
    let all = parts_there (IsValueIn c.args.m.now c.args.store.now) 2 c.args.stack.now _ c.requires.standing.values (sym c.requires.parts) in
    all 0 V.Nothing (omega arith)

pub keep_functions-requires-clause-rest : goal.keep_functions-requires-clause-rest
keep_functions-requires-clause-rest c =
    let all = parts_there (IsValueIn c.args.m.now c.args.store.now) 2 c.args.stack.now _ c.requires.standing.values (sym c.requires.parts) in
    (all 1 V.Nothing (omega arith)).1

pub keep_functions-requires-clause-structs : goal.keep_functions-requires-clause-structs
keep_functions-requires-clause-structs c =
    let all = parts_there (IsValueIn c.args.m.now c.args.store.now) 2 c.args.stack.now _ c.requires.standing.values (sym c.requires.parts) in
    (all 1 V.Nothing (omega arith)).0

pub returns-clause-puts : goal.returns-clause-puts
returns-clause-puts c =
    puts_kept c.args.bytes.now (K.List L.FileMore) c.args.m.now c.args.store.now c.args.stack.now _ _ _ (file_from c.args.bytes.now (trees_of c.args.m.now) c.args.store.now c.args.first c.args.structs c.args.rest) _ c.requires.standing (sym c.requires.parts) refl c.in_ok-number.ensures.kept c.in_ok-replace.ensures
