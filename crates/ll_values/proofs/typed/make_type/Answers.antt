-- The type that is planned is one of the module now.
use Rattle.std.proofs.Common.{Some, ap, sym, ◌∙◌}
use Rattle.kinds.specs.Types.{TypeTree}
use Rattle.ll_values.specs.Values.{TypeV}
use Rattle.ll_values.proofs.KeepLaws.{store_there, store_kept}
use Rattle.ll_values.proofs.typed.make_type.Goals as goal

pub returns-in-Ok-clause-made : goal.returns-in-Ok-clause-made
returns-in-Ok-clause-made c = record {
  interns = c.in-Ok.ensures.interns;
  store = store_there c.args.m.now c.type_of.new.m c.args.store.now c.in-Ok.ensures.interns c.requires.store;
  keeps = store_kept c.args.store.now;
  there = c.in-Ok.ensures.there;
  value = c.in_ok-planned.ensures.made ∙ ap (λ (τ : TypeTree). Some (TypeV τ)) (sym c.in-Ok.ensures.tree);
}
