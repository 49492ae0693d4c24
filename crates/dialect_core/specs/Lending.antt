-- What a context is once its types are no longer lent.
use Rattle.std.specs.Prelude.{List}
use Rattle.std.specs.Borrow.{Lends, MutBor, Fml}
use Rattle.dialect_types.specs.declared.types.TypeKind.{TypeKind}
use Rattle.dialect_types.specs.contracts.type_store.TypeStore.{the_row as store}
use Rattle.dialect_core.specs.ContextData.{ContextData}
use Rattle.dialect_core.specs.contracts.context.Context.{the_row}

-- the context with other types
abbrev pub with_types : ContextData → List TypeKind → ContextData
with_types c types = record c { types = types }

-- the context ends with the types that were left behind r, and is else as it was
abbrev pub LendsTypes : MutBor ContextData → MutBor (List TypeKind) → Fml
LendsTypes c r = Lends the_row store c r (with_types c.now)
