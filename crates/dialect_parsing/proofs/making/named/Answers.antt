-- The type names the struct, so it is there.
use Rattle.std.proofs.Common.{subst}
use Rattle.dialect_types.specs.Trees.{TypeTree, structs_of}
use Rattle.kinds.specs.Structs.{IsNested}
use Rattle.dialect_parsing.proofs.StoreLaws.{nested_there}
use Rattle.dialect_parsing.proofs.making.named.Goals as goal

pub returns-clause-found : goal.returns-clause-found
returns-clause-found c =
    let f = c.in_ok-ty.ensures.found in
    let structs = structs_of c.args.types.now in
    (f.0, f.1, nested_there structs c.args.name.now (subst (λ (t : TypeTree). IsNested structs t) f.1 c.kind-kind.ensures.nested))
