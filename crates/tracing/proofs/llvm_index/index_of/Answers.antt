-- What `llvm_index::index_of` owes besides what the check finds.
use Rattle.std.proofs.Common.{subst, sym, ◌∙◌}
use Rattle.support.specs.Interned.{IsDistinctList}
use Rattle.llvm_core.proofs.DistinctLaws.{blocks_once}
use Rattle.tracing.proofs.IndexLaws.{numbers_are}
use Rattle.tracing.proofs.llvm_index.index_of.Goals as goal

pub block_places-requires : goal.block_places-requires
block_places-requires c =
    let h = c.requires.here.0 in
    subst IsDistinctList (sym (numbers_are c.args.m.now h c.args.f.0 c.blocks-2.result.now c.requires.here.1 c.blocks-2.ensures.blocks)) (blocks_once c.args.m.now h.number h.function h.sound h.at)

pub returns-clause-is : goal.returns-clause-is
returns-clause-is c = λ h is later more. record {
  places = c.in_ok-block_places.ensures ∙ numbers_are c.args.m.now h c.args.f.0 c.blocks-2.result.now is c.blocks-2.ensures.blocks;
  phis = c.in_ok-all_phis.ensures.phis h is later more;
}
