-- The parameters so far are defined.
use Rattle.std.proofs.Common.{◌≡◌, map, drop}
use Rattle.ll_bodies.specs.Meaning.{params_scope}
use Rattle.ll_bodies.specs.ScopeViews.{Adds}
use Rattle.ll_bodies.specs.SourceViews.{types_in, param_in, IsParamAmong}
use Rattle.ll_bodies.proofs.ScopeLaws.{Steps}
use Rattle.ll_bodies.proofs.definitions.define_params.Given as goal

abbrev pub invariant-loop-param : goal.invariant-loop-param
invariant-loop-param l = record {
  place : l.place ≡ l.param-index;
  steps : Steps (types_in l.source) l.fn.scope l.scope (λ s. params_scope s l.f.0 0 (map (param_in l.source) l.params)) (λ s. params_scope s l.f.0 l.param-index (map (param_in l.source) (drop l.param-index l.params)));
  adds : Adds (IsParamAmong l.f l.params) l.fn.scope l.scope;
}
