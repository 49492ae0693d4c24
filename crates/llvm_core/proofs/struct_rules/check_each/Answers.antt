-- The goals of `struct_rules::check_each` that the tactics leave.
use Rattle.std.proofs.Common.{below_more, arith, ap, map, ◌∙◌}
use Rattle.std.proofs.lemmas.List.{take_all}
use Rattle.llvm_core.specs.declared.structs.StructData.{StructData}
use Rattle.llvm_core.proofs.struct_rules.check_each.Goals as goal

pub loop-s-preserved : goal.loop-s-preserved
loop-s-preserved c = record {
  seen = c.in_ok-check_name.ensures.seen;
  checked = below_more _ _ c.loop-s.invariant.checked (record { names = c.in_ok-check_name.ensures.ok; lists = c.in_ok-check_fields.ensures.ok });
}

pub returns-clause-seen : goal.returns-clause-seen
returns-clause-seen c =
    c.loop-s.invariant.seen ∙ ap (map (λ (x : StructData). x.name)) (take_all c.loop-s.s c.args.m.now.structs (omega (arith, c.structs-s-end.ensures.len)))

pub returns-clause-ok : goal.returns-clause-ok
returns-clause-ok c = λ k lt. c.loop-s.invariant.checked k (omega (arith, c.structs-s-end.ensures.len))
