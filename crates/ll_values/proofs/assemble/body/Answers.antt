-- Each round finds one more part.
use Rattle.std.proofs.Common.{arith, ◌≡◌, ◌∷◌}
use Rattle.std.proofs.lemmas.List.Elements.{All-push}
use Rattle.llvm_core.specs.Data.{trees_of}
use Rattle.ll_lines.specs.Views as lines
use Rattle.ll_values.specs.Lists.{list_at}
use Rattle.ll_values.specs.Views.{table_of, made_in, part_view, IsPieceIn}
use Rattle.ll_values.proofs.WalkLaws.{walks_next, first_there}
use Rattle.ll_values.proofs.assemble.body.Goals as goal

pub part-requires-clause-there : goal.part-requires-clause-there
part-requires-clause-there c =
    let first : list_at c.args.store.now.bodies c.loop-piece.next ≡ c.in-Some.piece ∷ list_at c.args.store.now.bodies c.in-Some.rest = c.in-Some.ensures.first in
    first_there (IsPieceIn c.args.m.now c.args.store.now) c.args.store.now.bodies c.loop-piece.next c.in-Some.rest c.in-Some.piece c.requires.store.bodies c.loop-piece.invariant.0 first

pub loop-piece-preserved : goal.loop-piece-preserved
loop-piece-preserved c =
    let inv = c.loop-piece.invariant in
    let first : list_at c.args.store.now.bodies c.loop-piece.next ≡ c.in-Some.piece ∷ list_at c.args.store.now.bodies c.in-Some.rest = c.in-Some.ensures.first in (
      omega (arith, inv.0, c.in-Some.ensures.rest),
      rw c.in_ok-push.ensures.items (All-push (lines.IsPartIn c.args.m.now (made_in c.args.store.now)) c.loop-piece.found.items c.in_ok-one.one inv.1 c.in_ok-one.ensures.there),
      walks_next (lines.part_view c.args.bytes.now (trees_of c.args.m.now) (table_of c.args.bytes.now (trees_of c.args.m.now) c.args.store.now)) (part_view c.args.bytes.now (trees_of c.args.m.now) c.args.store.now) c.args.store.now.bodies c.args.list c.loop-piece.next c.loop-piece.found.items inv.2 c.in_ok-one.one c.in-Some.piece c.in-Some.rest first c.in_ok-one.ensures.part c.push.new.self.items c.in_ok-push.ensures.items,
    )
