-- What `type_store::TypeStore::append_line` owes besides what the check finds.
use Rattle.std.proofs.Common.{length}
use Rattle.dialect_types.proofs.TextLemmas.{body_below}
use Rattle.dialect_types.proofs.type_store.TypeStore.append_line.Goals as goal

pub append_struct_line-requires : goal.append_struct_line-requires
append_struct_line-requires c = body_below c.args.ty.0 (length c.args.self.now) c.kind.result.now c.in-Named.name c.in-Named.body c.in-Named.is c.requires c.kind.ensures.parts
