-- What `constants::walk_constant` owes besides what the check finds.
use Rattle.std.proofs.Common.{◌≡◌, ℕ, true, sym, subst}
use Rattle.llvm_core.specs.Depths.{nests_at}
use Rattle.held_types.specs.Values.{IsInConstant}
use Rattle.held_types.specs.Walk.{IsIn}
use Rattle.held_types.proofs.WalkLaws.{ok_as, err_as}
use Rattle.held_types.proofs.PlacedLaws.{told_nests, told_in, in_told}
use Rattle.held_types.proofs.constants.walk_constant.Goals as goal

pub visit-requires-clause-nested : goal.visit-requires-clause-nested
visit-requires-clause-nested c =
    let m = c.args.m.now in
    let t = c.type_of.result in
    let nested = told_nests m c.in-Const.field-0 c.args.value t c.in-Const.is c.type_of.ensures.ty c.requires.nested in
    subst (λ (n : ℕ). nests_at m t n ≡ true) (sym c.deepest.ensures) nested

pub returns-in-Const-clause-walk : goal.returns-in-Const-clause-walk
returns-in-Const-clause-walk c =
    let m = c.args.m.now in
    let v = c.args.value in
    let t = c.type_of.result in
    let n = c.in-Const.field-0 in
    ok_as m (IsIn m t) (IsInConstant m v) c.visit.result c.args.walk.now c.visit.new.walk (told_in m n v t c.in-Const.is c.type_of.ensures.ty) (in_told m n v t c.in-Const.is c.type_of.ensures.ty) c.visit.ensures.walk

pub returns-in-Const-clause-cause : goal.returns-in-Const-clause-cause
returns-in-Const-clause-cause c =
    let m = c.args.m.now in
    let v = c.args.value in
    let t = c.type_of.result in
    err_as (IsIn m t) (IsInConstant m v) c.visit.result (told_in m c.in-Const.field-0 v t c.in-Const.is c.type_of.ensures.ty) c.visit.ensures.cause
