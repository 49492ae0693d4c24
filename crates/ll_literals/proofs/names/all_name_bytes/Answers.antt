-- The union goes on, and tells at the end.
use Rattle.ll_literals.proofs.NameBytes.{union_next}
use Rattle.ll_literals.proofs.names.all_name_bytes.Goals as goal

pub loop-b-preserved : goal.loop-b-preserved
loop-b-preserved c = union_next c.args.bytes.now c.loop-b.b-index _ c.loop-b.kinds c.name_kind-kinds.result c.loop-b-test.true c.loop-b.invariant c.name_kind-kinds.ensures
