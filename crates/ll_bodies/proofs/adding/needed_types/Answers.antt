-- What `adding::needed_types` owes besides what the check finds.
use Rattle.llvm_core.specs.declared.types.LLVMTypeKind.TheVariants as kinds
use Rattle.ll_bodies.proofs.AddingLaws.{adds_kept}
use Rattle.ll_bodies.proofs.adding.needed_types.Goals as goal

pub returns-clause-needed : goal.returns-clause-needed
returns-clause-needed c =
    let one = c.type_number.new.module in
    let two = c.type_number-2.new.module in
    let all = c.vector_bits.new.module in
    record {
      is_bit = adds_kept two all c.in_ok-bits.ensures.grows c.in_ok-bit.bit.0 (kinds.Int 1) (adds_kept one two c.in_ok-void.ensures.grows c.in_ok-bit.bit.0 (kinds.Int 1) c.in_ok-bit.ensures.here);
      is_void = adds_kept two all c.in_ok-bits.ensures.grows c.in_ok-void.void.0 kinds.Void c.in_ok-void.ensures.here;
      vectors = c.in_ok-bits.ensures.bits;
    }

pub vector_bits-requires : goal.vector_bits-requires
vector_bits-requires c = record { bit = adds_kept c.type_number.new.module c.type_number-2.new.module c.in_ok-void.ensures.grows c.in_ok-bit.bit.0 (kinds.Int 1) c.in_ok-bit.ensures.here }
