-- What `module_printing::print_numbered` owes besides what the check finds.
use Rattle.std.proofs.Common.{◌∙◌}
use Rattle.std.proofs.lemmas.Result.{on_ok_weaker}
use Rattle.std.specs.Prelude.{codes}
use Rattle.dialect_core.specs.Numbering.{value_at, block_at}
use Rattle.dialect_types.proofs.TextLemmas.{keeps_then, keeps_appended, keeps_equal}
use Rattle.dialect_core.proofs.KeepLemmas.{kept_equal, then_appended, then_extended, on_extended}
use Rattle.dialect_core.proofs.ModulePrintLemmas.{module_printed}
use Rattle.dialect_core.proofs.module_printing.print_numbered.Goals as goal

pub returns-in_err-extend_from_slice-2-clause-kept : goal.returns-in_err-extend_from_slice-2-clause-kept
returns-in_err-extend_from_slice-2-clause-kept c = keeps_equal _ _ _ (keeps_appended _ _ _ c.in_ok-extend_from_slice.ensures.items) c.in_err-extend_from_slice-2.ensures.items

pub returns-in_err-extend_from_slice-3-clause-kept : goal.returns-in_err-extend_from_slice-3-clause-kept
returns-in_err-extend_from_slice-3-clause-kept c =
    let name = then_appended _ _ _ _ (keeps_appended _ _ _ c.in_ok-extend_from_slice.ensures.items) c.in_ok-extend_from_slice-2.ensures.items in
    keeps_equal _ _ _ name c.in_err-extend_from_slice-3.ensures.items

pub returns-in_err-append_structs-clause-kept : goal.returns-in_err-append_structs-clause-kept
returns-in_err-append_structs-clause-kept c =
    let name = then_appended _ _ _ _ (keeps_appended _ _ _ c.in_ok-extend_from_slice.ensures.items) c.in_ok-extend_from_slice-2.ensures.items in
    keeps_then _ _ _ (then_appended _ _ _ _ name c.in_ok-extend_from_slice-3.ensures.items) c.append_structs.ensures.kept

pub returns-in_err-ops-clause-kept : goal.returns-in_err-ops-clause-kept
returns-in_err-ops-clause-kept c =
    let name = then_appended _ _ _ _ (keeps_appended _ _ _ c.in_ok-extend_from_slice.ensures.items) c.in_ok-extend_from_slice-2.ensures.items in
    keeps_then _ _ _ (then_appended _ _ _ _ name c.in_ok-extend_from_slice-3.ensures.items) c.in_ok-append_structs.ensures.kept

pub returns-in_err-print_funcs-clause-kept : goal.returns-in_err-print_funcs-clause-kept
returns-in_err-print_funcs-clause-kept c =
    let name = then_appended _ _ _ _ (keeps_appended _ _ _ c.in_ok-extend_from_slice.ensures.items) c.in_ok-extend_from_slice-2.ensures.items in
    let structs = keeps_then _ _ _ (then_appended _ _ _ _ name c.in_ok-extend_from_slice-3.ensures.items) c.in_ok-append_structs.ensures.kept in
    keeps_then _ _ _ structs c.print_funcs.ensures.kept

pub returns-clause-kept : goal.returns-clause-kept
returns-clause-kept c =
    let name = then_appended _ _ _ _ (keeps_appended _ _ _ c.in_ok-extend_from_slice.ensures.items) c.in_ok-extend_from_slice-2.ensures.items in
    let structs = keeps_then _ _ _ (then_appended _ _ _ _ name c.in_ok-extend_from_slice-3.ensures.items) c.in_ok-append_structs.ensures.kept in
    let funcs = keeps_then _ _ _ structs c.in_ok-print_funcs.ensures.kept in
    then_extended c.extend_from_slice-4.result _ _ (codes "}\n") _ funcs c.extend_from_slice-4.ensures.items

pub returns-clause-ok : goal.returns-clause-ok
returns-clause-ok c =
    on_ok_weaker c.extend_from_slice-4.result (λ e. module_printed (value_at c.args.numbers.now) (block_at c.args.numbers.now) c.args.ctx.now c.args.root.0.0 c.as_bytes.result.now c.as_slice.result.now c.types.result.now c.args.out.now.items _ _ _ _ _ _ (c.as_bytes.ensures.value ∙ c.name_of.ensures) (c.as_slice.ensures.value ∙ c.in_ok-ops.ensures.ops) c.types.ensures
    c.in_ok-extend_from_slice.ensures.items c.in_ok-extend_from_slice-2.ensures.items c.in_ok-extend_from_slice-3.ensures.items c.in_ok-append_structs.ensures.ok c.in_ok-print_funcs.ensures.ok e) (on_extended _ c.print_funcs.new.out.items (codes "}\n") _ c.extend_from_slice-4.ensures.items)

pub returns-in_err-extend_from_slice-clause-kept : goal.returns-in_err-extend_from_slice-clause-kept
returns-in_err-extend_from_slice-clause-kept c = kept_equal _ _ c.in_err-extend_from_slice.ensures.items

pub name_of-requires : goal.name_of-requires
name_of-requires c = c.requires.root

pub held_ops-requires : goal.held_ops-requires
held_ops-requires c = c.requires.root

pub print_funcs-requires-clause-within : goal.print_funcs-requires-clause-within
print_funcs-requires-clause-within c = rw c.as_slice.ensures.value c.in_ok-ops.ensures.within

pub print_funcs-requires-clause-typed : goal.print_funcs-requires-clause-typed
print_funcs-requires-clause-typed c = c.requires.typed
