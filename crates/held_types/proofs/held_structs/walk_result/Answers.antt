-- What `held_structs::walk_result` owes besides what the check finds.
use Rattle.std.proofs.Common.{◌≡◌, ℕ, true, ap, sym, ◌∙◌, subst}
use Rattle.llvm_core.specs.declared.numbers.LLVMType.{LLVMType}
use Rattle.llvm_core.specs.Depths.{nests_at}
use Rattle.llvm_core.specs.declared.code.InstData.{InstData}
use Rattle.std.proofs.lemmas.Option.{same_Some}
use Rattle.held_types.specs.Values.{IsInResult}
use Rattle.held_types.specs.Walk.{IsIn}
use Rattle.held_types.proofs.WalkLaws.{ok_as}
use Rattle.held_types.proofs.ValueLaws.{inst_at, inst_nests}
use Rattle.held_types.proofs.held_structs.walk_result.Goals as goal

pub visit-requires-clause-nested : goal.visit-requires-clause-nested
visit-requires-clause-nested c =
    let m = c.args.m.now in
    let z = inst_at m c.args.i.0 c.type_of.result c.requires.within c.type_of.ensures.ty in
    let nested = subst (λ (t : LLVMType). nests_at m t _ ≡ true) z.2 (inst_nests m c.requires.sound c.requires.form c.args.i.0 z.0 z.1) in
    subst (λ (n : ℕ). nests_at m c.type_of.result n ≡ true) (sym c.deepest.ensures) nested

pub returns-clause-walk : goal.returns-clause-walk
returns-clause-walk c =
    let m = c.args.m.now in
    let i = c.args.i.0 in
    let t = c.type_of.result in
    let z = inst_at m i t c.requires.within c.type_of.ensures.ty in
    ok_as m (IsIn m t) (IsInResult m i) c.visit.result c.args.walk.now c.visit.new.walk
    (λ u told inside. (z.0, z.1, subst (λ (x : LLVMType). IsIn m x u) (sym z.2) inside))
    (λ u told found. subst (λ (x : LLVMType). IsIn m x u) (ap (λ (y : InstData). y.ty) (same_Some found.0 z.0 (sym found.1 ∙ z.1)) ∙ z.2) found.2)
    c.visit.ensures.walk
