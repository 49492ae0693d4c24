-- What `converted::constant` owes besides what the check finds.
use Rattle.std.proofs.Common.{sym, subst}
use Rattle.llvm_core.specs.Consts.{HasConstParts}
use Rattle.constant_tests.proofs.ConvertedLaws.{zero_parts, fill_parts}
use Rattle.constant_tests.proofs.converted.constant.Goals.{in-Some, in-None}
use Rattle.constant_tests.proofs.converted.constant.Goals as goal

pub const_get-requires : goal.const_get-requires
const_get-requires c =
    let here = c.in_ok-ty.ensures.interned.here in
    let m = c.type_get.new.self in
    elim c.match-fill.branch [
      | in-Some w ↦ subst (HasConstParts m) (sym w.kind-is) (fill_parts m c.in_ok-ty.ty c.args.width w.in-Some.fill here)
      | in-None w ↦ subst (HasConstParts m) (sym w.kind-is) (zero_parts m c.in_ok-ty.ty c.args.width here)
    ]
