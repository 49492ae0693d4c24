-- What `held_structs::held_structs` owes besides what the check finds.
use Rattle.std.proofs.Common.{length, refl}
use Rattle.held_types.specs.Values.{IsInSignatures, IsInResults, IsInConstants}
use Rattle.held_types.proofs.WalkLaws.{passed_on}
use Rattle.held_types.proofs.ValueLaws.{whole_walk, held_by_walk, unheld_by, signatures_in, results_in, constants_in}
use Rattle.held_types.specs.declared.lacks.Lack.TheVariants as K
use Rattle.held_types.proofs.held_structs.held_structs.Goals as goal

pub returns-in_err-walk_signatures-clause-cause : goal.returns-in_err-walk_signatures-clause-cause
returns-in_err-walk_signatures-clause-cause c =
    let m = c.args.source.now in
    let e = c.in_err-walk_signatures.field-0.0 in
    let r = c.from_residual-in_err-walk_signatures in
    passed_on r.result e _ r.ensures.1 (unheld_by m (IsInSignatures m (length m.functions)) (signatures_in m c.in_ok-walk.ensures.sound) e c.in_err-walk_signatures.ensures.cause)

pub returns-in_err-walk_results-clause-cause : goal.returns-in_err-walk_results-clause-cause
returns-in_err-walk_results-clause-cause c =
    let m = c.args.source.now in
    let e = c.in_err-walk_results.field-0.0 in
    let r = c.from_residual-in_err-walk_results in
    passed_on r.result e _ r.ensures.1 (unheld_by m (IsInResults m (length m.insts)) (results_in m c.in_ok-walk.ensures.sound) e c.in_err-walk_results.ensures.cause)

pub returns-in_err-walk_constants-clause-cause : goal.returns-in_err-walk_constants-clause-cause
returns-in_err-walk_constants-clause-cause c =
    let m = c.args.source.now in
    let e = c.in_err-walk_constants.field-0.0 in
    let r = c.from_residual-in_err-walk_constants in
    passed_on r.result e _ r.ensures.1 (unheld_by m (IsInConstants m (length m.insts)) (constants_in m c.in_ok-walk.ensures.sound) e c.in_err-walk_constants.ensures.cause)

pub returns-clause-held : goal.returns-clause-held
returns-clause-held c =
    let m = c.args.source.now in
    let whole = whole_walk m c.in_ok-walk.ensures.sound c.in_ok-walk.walk c.walk_signatures.new.walk c.walk_results.new.walk c.walk_constants.new.walk c.in_ok-walk_signatures.ensures.walk c.in_ok-walk_results.ensures.walk c.in_ok-walk_constants.ensures.walk in
    let none = c.in_ok-refuse_lacks.ensures.held in
    record { types = whole.met.none; constants = λ width. none (K.TooWide width); splats = none K.ScalableSplat }

pub returns-clause-structs : goal.returns-clause-structs
returns-clause-structs c =
    let m = c.args.source.now in
    let whole = whole_walk m c.in_ok-walk.ensures.sound c.in_ok-walk.walk c.walk_signatures.new.walk c.walk_results.new.walk c.walk_constants.new.walk c.in_ok-walk_signatures.ensures.walk c.in_ok-walk_results.ensures.walk c.in_ok-walk_constants.ensures.walk in
    held_by_walk m c.in_ok-walk.walk c.walk_constants.new.walk c.in_ok-walk.ensures.none whole
