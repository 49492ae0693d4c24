-- One type more.
use Rattle.std.proofs.Common.{◌<◌, length, get_or, arith}
use Rattle.std.proofs.lemmas.Option.{slice_get-get_or}
use Rattle.llvm_core.specs.Data as L
use Rattle.dialect_types.specs.declared.types.TypeKind.TheVariants.{Void}
use Rattle.to_llvm_ir.proofs.StructLaws.{adds_more}
use Rattle.to_llvm_ir.proofs.structs.convert_structs.Goals as goal

pub loop-i-preserved : goal.loop-i-preserved
loop-i-preserved c =
    let ks = c.args.ctx.now.types in
    let types = c.types.ensures in
    let i = c.loop-i.i in
    let lt : i < length ks = let len = rw types at c.len-i-end.ensures.len in let test = c.loop-i-test.true in omega (arith, len, test) in
    adds_more ks i Void (L.data_of c.args.back.now) (L.data_of c.loop-i.back) (L.data_of c.convert_struct.new.back) lt c.loop-i.invariant (c.in_ok-convert_struct.ensures (get_or ks i Void) (slice_get-get_or ks i Void lt))
