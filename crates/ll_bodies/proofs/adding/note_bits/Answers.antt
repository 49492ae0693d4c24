-- What `adding::note_bits` owes besides what the check finds.
use Rattle.std.proofs.Common.{nat_eq, if◌then◌else◌, Option, Some, sym, ap, ◌∙◌}
use Rattle.std.proofs.lemmas.Result.{on_ok_weaker}
use Rattle.kinds.specs.declared.fitting.Laned.{Laned}
use Rattle.llvm_core.specs.declared.numbers.LLVMType.{LLVMType}
use Rattle.ll_bodies.proofs.BitsLaws.{vector_fits, notes_vector}
use Rattle.ll_bodies.proofs.adding.note_bits.Goals as goal

pub type_number-requires-clause-fit : goal.type_number-requires-clause-fit
type_number-requires-clause-fit c =
    let lanes = ap (λ (l : Laned). l.lanes) (sym c.laned.ensures) ∙ c.in-Many.is in
    vector_fits c.args.module.now c.args.ty c.args.bit c.in-Many.kind c.in-Many.count c.requires.sound lanes c.requires.bit

pub returns-clause-noted : goal.returns-clause-noted
returns-clause-noted c =
    let lanes = ap (λ (l : Laned). l.lanes) (sym c.laned.ensures) ∙ c.in-Many.is in
    let vector = c.in_ok-vector.vector in
    on_ok_weaker c.set-2.result (λ set.
    notes_vector c.args.module.now c.type_number.new.module c.args.bits.now c.set-2.new.self c.args.bit c.args.ty vector c.in-Many.kind c.in-Many.count
    c.in_ok-vector.ensures.sound c.requires.ty c.requires.bit lanes c.in_ok-vector.ensures.got
    (λ q. set q ∙ ap (λ (o : Option LLVMType). if nat_eq vector.0 q then Some vector else o) (c.in_ok-set.ensures q))) c.set-2.ensures
