-- What is left to name names all, from the module as it is now.
use Rattle.std.proofs.Common.{◌≡◌, drop}
use Rattle.llvm_core.specs.Data.{data_of}
use Rattle.llvm_core.specs.Sound.{IsModule}
use Rattle.ll_bodies.specs.AddingViews.{Renames, names_in, with_params}
use Rattle.ll_bodies.proofs.adding.name_params.Given as goal

abbrev pub invariant-loop-param : goal.invariant-loop-param
invariant-loop-param l = record {
  place : l.place ≡ l.param-index;
  renames : Renames l.f l.fn.module l.module;
  left : with_params (data_of l.module) l.f.0 l.param-index (names_in l.bytes (drop l.param-index l.params)) ≡ with_params (data_of l.fn.module) l.f.0 0 (names_in l.bytes l.params);
  sound : IsModule l.fn.module → IsModule l.module;
}
