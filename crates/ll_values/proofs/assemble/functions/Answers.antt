-- Each round finds one more function.
use Rattle.std.proofs.Common.{arith, ◌≡◌, ◌∷◌}
use Rattle.std.proofs.lemmas.List.Elements.{All-push}
use Rattle.llvm_core.specs.Data.{trees_of}
use Rattle.ll_lines.specs.Views.{function_view, IsFunctionIn}
use Rattle.ll_values.specs.Lists.{list_at}
use Rattle.ll_values.specs.Views.{table_of, made_in, definition_view, IsDefinitionIn}
use Rattle.ll_values.proofs.WalkLaws.{walks_next, first_there}
use Rattle.ll_values.proofs.assemble.functions.Goals as goal

pub function-requires-clause-there : goal.function-requires-clause-there
function-requires-clause-there c =
    let first : list_at c.args.store.now.functions c.loop-definition.next ≡ c.in-Some.definition ∷ list_at c.args.store.now.functions c.in-Some.rest = c.in-Some.ensures.first in
    first_there (IsDefinitionIn c.args.m.now c.args.store.now) c.args.store.now.functions c.loop-definition.next c.in-Some.rest c.in-Some.definition c.requires.store.functions c.loop-definition.invariant.0 first

pub loop-definition-preserved : goal.loop-definition-preserved
loop-definition-preserved c =
    let inv = c.loop-definition.invariant in
    let first : list_at c.args.store.now.functions c.loop-definition.next ≡ c.in-Some.definition ∷ list_at c.args.store.now.functions c.in-Some.rest = c.in-Some.ensures.first in (
      omega (arith, inv.0, c.in-Some.ensures.rest),
      rw c.in_ok-push.ensures.items (All-push (IsFunctionIn c.args.m.now (made_in c.args.store.now)) c.loop-definition.found.items c.in_ok-one.one inv.1 c.in_ok-one.ensures.there),
      walks_next (function_view c.args.bytes.now (trees_of c.args.m.now) (table_of c.args.bytes.now (trees_of c.args.m.now) c.args.store.now)) (definition_view c.args.bytes.now (trees_of c.args.m.now) c.args.store.now) c.args.store.now.functions c.args.list c.loop-definition.next c.loop-definition.found.items inv.2 c.in_ok-one.one c.in-Some.definition c.in-Some.rest first c.in_ok-one.ensures.function c.push.new.self.items c.in_ok-push.ensures.items,
    )
