-- What `constants::walk_constants_of` owes besides what the check finds.
use Rattle.std.proofs.Common.{List, All, ap, sym, subst}
use Rattle.std.specs.Prelude.{OnOk}
use Rattle.std.specs.Result.{IfErr}
use Rattle.llvm_core.specs.declared.code.LLVMValue.{LLVMValue}
use Rattle.llvm_core.specs.declared.code.PhiEntry.{PhiEntry}
use Rattle.llvm_core.specs.Parts.{IsEntry, IsValue, HasValues, operands}
use Rattle.held_types.specs.Values.{IsInConstant, IsInConstantsOf, IsInEntry, NestsIfConstant}
use Rattle.held_types.specs.Walk.{IsCause, IsOfOne, Walked}
use Rattle.held_types.proofs.WalkLaws.{ok_as, err_as}
use Rattle.held_types.proofs.PlacedLaws.{constants_nest, entries_nest, entry_used, used_entry, used_in, in_used, used_nest}
use Rattle.held_types.proofs.constants.walk_constants_of.Goals as goal

-- ---- phis

pub walk_entries-requires-clause-there : goal.walk_entries-requires-clause-there
walk_entries-requires-clause-there c =
    let m = c.args.m.now in
    let values = subst (HasValues m) c.in-Phi.is c.inst.ensures.values in
    subst (All (IsEntry m)) (sym c.as_slice.ensures) values.1

pub walk_entries-requires-clause-nested : goal.walk_entries-requires-clause-nested
walk_entries-requires-clause-nested c =
    let m = c.args.m.now in
    let nested = used_nest m c.args.i.0 c.inst.result.now _ c.inst.ensures.inst (ap operands c.in-Phi.is) (constants_nest m c.requires.sound c.requires.form c.args.i.0) in
    subst (All (λ (e : PhiEntry). NestsIfConstant m e.value)) (sym c.as_slice.ensures) (entries_nest m c.in-Phi.entries nested)

pub returns-in-Phi-clause-walk : goal.returns-in-Phi-clause-walk
returns-in-Phi-clause-walk c =
    let m = c.args.m.now in
    let i = c.args.i.0 in
    let x = c.inst.result.now in
    let es = c.in-Phi.entries in
    let r = c.walk_entries.result in
    let a = c.args.walk.now in
    let b = c.walk_entries.new.walk in
    let listed = ap operands c.in-Phi.is in
    ok_as m (IsOfOne (IsInEntry m) es) (IsInConstantsOf m i) r a b (λ u asked h. used_in m i x _ c.inst.ensures.inst listed u asked (entry_used m es u asked h))
    (λ u asked h. used_entry m es u asked (in_used m i x _ c.inst.ensures.inst listed u asked h))
    (subst (λ (xs : List PhiEntry). OnOk r (Walked m (IsOfOne (IsInEntry m) xs) a b)) c.as_slice.ensures c.walk_entries.ensures.walk)

pub returns-in-Phi-clause-cause : goal.returns-in-Phi-clause-cause
returns-in-Phi-clause-cause c =
    let m = c.args.m.now in
    let i = c.args.i.0 in
    let es = c.in-Phi.entries in
    let r = c.walk_entries.result in
    err_as (IsOfOne (IsInEntry m) es) (IsInConstantsOf m i) r (λ u asked h. used_in m i c.inst.result.now _ c.inst.ensures.inst (ap operands c.in-Phi.is) u asked (entry_used m es u asked h))
    (subst (λ (xs : List PhiEntry). IfErr r (IsCause (IsOfOne (IsInEntry m) xs))) c.as_slice.ensures c.walk_entries.ensures.cause)

-- ---- rows

pub walk_operands-requires-clause-there : goal.walk_operands-requires-clause-there
walk_operands-requires-clause-there c =
    let m = c.args.m.now in
    let values = subst (HasValues m) c.in-Row.is c.inst.ensures.values in
    subst (All (IsValue m)) (sym c.as_slice-in-Row.ensures) values.0

pub walk_operands-requires-clause-nested : goal.walk_operands-requires-clause-nested
walk_operands-requires-clause-nested c =
    let m = c.args.m.now in
    let nested = used_nest m c.args.i.0 c.inst.result.now c.in-Row.row.operands c.inst.ensures.inst (ap operands c.in-Row.is) (constants_nest m c.requires.sound c.requires.form c.args.i.0) in
    subst (All (NestsIfConstant m)) (sym c.as_slice-in-Row.ensures) nested

pub returns-in-Row-clause-walk : goal.returns-in-Row-clause-walk
returns-in-Row-clause-walk c =
    let m = c.args.m.now in
    let i = c.args.i.0 in
    let x = c.inst.result.now in
    let vs = c.in-Row.row.operands in
    let r = c.walk_operands.result in
    let a = c.args.walk.now in
    let b = c.walk_operands.new.walk in
    let listed = ap operands c.in-Row.is in
    ok_as m (IsOfOne (IsInConstant m) vs) (IsInConstantsOf m i) r a b (used_in m i x vs c.inst.ensures.inst listed) (in_used m i x vs c.inst.ensures.inst listed)
    (subst (λ (xs : List LLVMValue). OnOk r (Walked m (IsOfOne (IsInConstant m) xs) a b)) c.as_slice-in-Row.ensures c.walk_operands.ensures.walk)

pub returns-in-Row-clause-cause : goal.returns-in-Row-clause-cause
returns-in-Row-clause-cause c =
    let m = c.args.m.now in
    let i = c.args.i.0 in
    let vs = c.in-Row.row.operands in
    let r = c.walk_operands.result in
    err_as (IsOfOne (IsInConstant m) vs) (IsInConstantsOf m i) r (used_in m i c.inst.result.now vs c.inst.ensures.inst (ap operands c.in-Row.is))
    (subst (λ (xs : List LLVMValue). IfErr r (IsCause (IsOfOne (IsInConstant m) xs))) c.as_slice-in-Row.ensures c.walk_operands.ensures.cause)
