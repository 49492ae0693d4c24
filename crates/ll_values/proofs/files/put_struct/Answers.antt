-- A struct stands first in the file.
use Rattle.std.proofs.Common.{arith, refl, sym}
use Rattle.llvm_core.specs.Data.{trees_of}
use Rattle.ll_values.specs.declared.form.Kind.TheVariants as K
use Rattle.ll_values.specs.declared.form.ListKind.TheVariants as L
use Rattle.ll_values.specs.declared.value.Value.TheVariants as V
use Rattle.ll_values.specs.Views.{struct_from, IsValueIn}
use Rattle.ll_values.proofs.StackLaws.{parts_there, puts_kept}
use Rattle.ll_values.proofs.files.put_struct.Goals as goal

pub keep_structs-requires-clause-there : goal.keep_structs-requires-clause-there
keep_structs-requires-clause-there c =
    let all = parts_there (IsValueIn c.args.m.now c.args.store.now) 2 c.args.stack.now _ c.requires.standing.values (sym c.requires.parts) in
    all 0 V.Nothing (omega arith)

pub keep_structs-requires-clause-rest : goal.keep_structs-requires-clause-rest
keep_structs-requires-clause-rest c =
    let all = parts_there (IsValueIn c.args.m.now c.args.store.now) 2 c.args.stack.now _ c.requires.standing.values (sym c.requires.parts) in
    (all 1 V.Nothing (omega arith)).0

pub keep_structs-requires-clause-functions : goal.keep_structs-requires-clause-functions
keep_structs-requires-clause-functions c =
    let all = parts_there (IsValueIn c.args.m.now c.args.store.now) 2 c.args.stack.now _ c.requires.standing.values (sym c.requires.parts) in
    (all 1 V.Nothing (omega arith)).1

pub returns-clause-puts : goal.returns-clause-puts
returns-clause-puts c =
    puts_kept c.args.bytes.now (K.List L.FileMore) c.args.m.now c.args.store.now c.args.stack.now _ _ _ (struct_from c.args.bytes.now (trees_of c.args.m.now) c.args.store.now c.args.first c.args.rest c.args.functions) _ c.requires.standing (sym c.requires.parts) refl c.in_ok-number.ensures.kept c.in_ok-replace.ensures
