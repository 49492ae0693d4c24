-- A type of the store is a struct with a name, whose fields are the store's, or none.
use Rattle.std.proofs.Common.{Some, ap, ◌∙◌}
use Rattle.to_llvm_ir.proofs.StructLaws.{named_fields}
use Rattle.to_llvm_ir.proofs.structs.convert_struct.Goals as goal

pub add_struct-requires : goal.add_struct-requires
add_struct-requires c =
    let types = c.types.ensures in
    named_fields c.args.ctx.now.types c.requires.stored c.args.ty.0 c.in-Named.name c.in-Named.body ((rw types at c.kind.ensures.kind) ∙ ap Some c.in-Named.is)
