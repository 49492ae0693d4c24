-- What `lacks::entry_lack` owes besides what the check finds.
use Rattle.std.proofs.Common.{All, ◌∙◌, ap, refl, subst, get_or}
use Rattle.std.specs.Option.{option_map}
use Rattle.std.proofs.lemmas.List.{take_all}
use Rattle.std.proofs.lemmas.List.Elements.{All-map}
use Rattle.std.proofs.lemmas.Option.{slice_get-map}
use Rattle.llvm_core.specs.declared.code.LLVMValue.{LLVMValue}
use Rattle.llvm_core.specs.declared.code.LLVMValue.TheVariants as V
use Rattle.llvm_core.specs.declared.code.PhiEntry.{PhiEntry}
use Rattle.held_types.specs.Lacks.{LacksNone}
use Rattle.held_types.proofs.LackLaws.{all_more, item_at}
use Rattle.held_types.proofs.lacks.entry_lack.Goals as goal

abbrev value : PhiEntry → LLVMValue
value e = e.value

abbrev none : PhiEntry
none = record { value = V.Const (record { 0 = 0 }); block = record { 0 = 0 } }

pub returns-in-Some-clause-some : goal.returns-in-Some-clause-some
returns-in-Some-clause-some c =
    let es = c.args.entries.now in
    let i = c.loop-entry.entry-index in
    let lack = rw c.in-Some.is at c.value_lack.ensures.some in
    (i, value (get_or es i none), slice_get-map value es i ∙ ap (option_map value) (item_at es i none c.loop-entry-test.true), lack)

pub loop-entry-preserved : goal.loop-entry-preserved
loop-entry-preserved c =
    all_more (λ (e : PhiEntry). LacksNone c.args.m.now e.value) c.args.entries.now c.loop-entry.entry-index none c.loop-entry-test.true c.loop-entry.invariant (c.in_default.ensures.none refl)

pub returns-clause-none : goal.returns-clause-none
returns-clause-none c = λ e.
    let m = c.args.m.now in
    let es = c.args.entries.now in
    let whole = take_all c.loop-entry.entry-index es c.loop-entry-test.false in
    All-map (LacksNone m) value es (subst (All (λ (e : PhiEntry). LacksNone m e.value)) whole c.loop-entry.invariant)
