-- Each round finds one more struct.
use Rattle.std.proofs.Common.{arith, ◌≡◌, ◌∷◌}
use Rattle.std.proofs.lemmas.List.Elements.{All-push}
use Rattle.llvm_core.specs.Data.{trees_of}
use Rattle.ll_lines.specs.Views.{struct_view, IsStructIn}
use Rattle.ll_values.specs.Lists.{list_at}
use Rattle.ll_values.specs.Views.{structure_view, IsStructureIn}
use Rattle.ll_values.proofs.WalkLaws.{walks_next, first_there}
use Rattle.ll_values.proofs.assemble.structs.Goals as goal

pub struct_line-requires-clause-there : goal.struct_line-requires-clause-there
struct_line-requires-clause-there c =
    let first : list_at c.args.store.now.structs c.loop-structure.next ≡ c.in-Some.structure ∷ list_at c.args.store.now.structs c.in-Some.rest = c.in-Some.ensures.first in
    first_there (IsStructureIn c.args.m.now c.args.store.now) c.args.store.now.structs c.loop-structure.next c.in-Some.rest c.in-Some.structure c.requires.store.structs c.loop-structure.invariant.0 first

pub loop-structure-preserved : goal.loop-structure-preserved
loop-structure-preserved c =
    let inv = c.loop-structure.invariant in
    let first : list_at c.args.store.now.structs c.loop-structure.next ≡ c.in-Some.structure ∷ list_at c.args.store.now.structs c.in-Some.rest = c.in-Some.ensures.first in (
      omega (arith, inv.0, c.in-Some.ensures.rest),
      rw c.in_ok-push.ensures.items (All-push (IsStructIn c.args.m.now) c.loop-structure.found.items c.in_ok-one.one inv.1 c.in_ok-one.ensures.there),
      walks_next (struct_view c.args.bytes.now (trees_of c.args.m.now)) (structure_view c.args.bytes.now (trees_of c.args.m.now) c.args.store.now) c.args.store.now.structs c.args.list c.loop-structure.next c.loop-structure.found.items inv.2 c.in_ok-one.one c.in-Some.structure c.in-Some.rest first c.in_ok-one.ensures.line c.push.new.self.items c.in_ok-push.ensures.items,
    )
