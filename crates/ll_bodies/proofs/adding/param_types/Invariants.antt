-- The types so far are those of the parameters so far.
use Rattle.std.proofs.Common.{◌≡◌, map, take}
use Rattle.ll_lines.specs.declared.lines.Param.{Param}
use Rattle.ll_bodies.proofs.adding.param_types.Given as goal

abbrev pub invariant-loop-param : goal.invariant-loop-param
invariant-loop-param l = l.types ≡ map (λ (p : Param). p.ty) (take l.param-index l.params)
