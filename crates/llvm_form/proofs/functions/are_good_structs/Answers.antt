-- The goals of `functions::are_good_structs` that the tactics leave.
use Rattle.std.proofs.Common.{sym, ◌∙◌}
use Rattle.std.proofs.lemmas.Option.{slice_get-map}
use Rattle.llvm_core.specs.declared.structs.StructData.{StructData}
use Rattle.llvm_core.specs.Names.{is_good_name}
use Rattle.llvm_core.specs.Checked.{struct_names}
use Rattle.llvm_form.proofs.AllLaws.{one_fails, one_more}
use Rattle.llvm_form.proofs.functions.are_good_structs.Goals as goal

pub returns-then-not-is_good_name : goal.returns-then-not-is_good_name
returns-then-not-is_good_name c =
    let m = c.args.m.now in
    let here = slice_get-map (λ (x : StructData). x.name) m.structs c.loop-s.s ∙ c.struct_name.ensures in
    sym (one_fails is_good_name (struct_names m) c.loop-s.s c.struct_name.result.now here (sym c.is_good_name.ensures ∙ c.if-not-is_good_name.true))

pub loop-s-preserved : goal.loop-s-preserved
loop-s-preserved c =
    let m = c.args.m.now in
    let here = slice_get-map (λ (x : StructData). x.name) m.structs c.loop-s.s ∙ c.struct_name.ensures in
    one_more is_good_name (struct_names m) c.loop-s.s c.struct_name.result.now here c.loop-s.invariant (sym c.is_good_name.ensures ∙ c.if-not-is_good_name.false)
