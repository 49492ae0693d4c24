-- What `importing::function_names` owes besides what the check finds.
use Rattle.std.proofs.Common.{ℕ, List, [], sym, subst, map, arith}
use Rattle.std.proofs.lemmas.List.{take_all}
use Rattle.llvm_core.specs.Data.{Function, data_of}
use Rattle.llvm_core.proofs.DataLemmas.{function_count}
use Rattle.dialect_types.specs.Legalised.{Gave, IsGiven}
use Rattle.meaning.specs.Pairs.{Matched}
use Rattle.from_llvm_ir.specs.Naming.{HasMet}
use Rattle.from_llvm_ir.proofs.NameLaws.{goes_same, goes_then, met_none}
use Rattle.from_llvm_ir.proofs.SourceLaws.{function_named}
use Rattle.from_llvm_ir.proofs.ModuleLaws.{given_more, met_more}
use Rattle.from_llvm_ir.proofs.importing.function_names.Goals as goal

pub loop-f-init : goal.loop-f-init
loop-f-init c = record {
  within = omega arith;
  given = subst (λ (ns : List (List ℕ)). Matched (λ (g : Function) (n : List ℕ). Gave c.args.names.now g.name n) [] ns) (sym c.new-all.ensures.items) tt;
  met = met_none c.args.names.now;
  grown = goes_same c.args.names.now;
}

pub loop-f-preserved : goal.loop-f-preserved
loop-f-preserved c =
    let m = c.args.source.now in
    let (g, at, name) = function_named m c.loop-f.f c.function_name.result.now (omega (arith, c.functions-f-end.ensures.len, c.loop-f-test.true)) c.function_name.ensures in
    let old = c.loop-f.names in
    let new = c.legalise.new.self in
    let i = c.in_ok-legalise.field-0 in
    let given : IsGiven old new g.name i = subst (λ (n : List ℕ). IsGiven old new n i) name c.in_ok-legalise.ensures.given in
    record {
      within = omega (arith, c.functions-f-end.ensures.len, c.loop-f-test.true);
      given = given_more old new (data_of m).functions c.loop-f.f g c.loop-f.all.items c.push.new.self.items i c.legalise.ensures.grows c.loop-f.invariant.given at given.here c.in_ok-push.ensures.items;
      met = met_more c.args.names.now old new (data_of m).functions c.loop-f.f g i c.loop-f.invariant.met given at;
      grown = goes_then c.args.names.now old new c.loop-f.invariant.grown c.legalise.ensures.grows;
    }

pub returns-clause-given : goal.returns-clause-given
returns-clause-given c =
    let fs = (data_of c.args.source.now).functions in
    subst (λ (gs : List Function). Matched (λ (g : Function) (n : List ℕ). Gave c.loop-f.names g.name n) gs c.loop-f.all.items) (take_all c.loop-f.f fs (omega (arith, function_count c.args.source.now, c.functions-f-end.ensures.len, c.loop-f-test.false))) c.loop-f.invariant.given

pub returns-clause-met : goal.returns-clause-met
returns-clause-met c =
    let fs = (data_of c.args.source.now).functions in
    subst (λ (gs : List Function). HasMet c.args.names.now c.loop-f.names (map (λ (g : Function). g.name) gs)) (take_all c.loop-f.f fs (omega (arith, function_count c.args.source.now, c.functions-f-end.ensures.len, c.loop-f-test.false))) c.loop-f.invariant.met

pub returns-clause-grows : goal.returns-clause-grows
returns-clause-grows c = c.loop-f.invariant.grown

pub returns-in_err-legalise-clause-grows : goal.returns-in_err-legalise-clause-grows
returns-in_err-legalise-clause-grows c = goes_then c.args.names.now c.loop-f.names c.legalise.new.self c.loop-f.invariant.grown c.legalise.ensures.grows

pub returns-in_err-push-clause-grows : goal.returns-in_err-push-clause-grows
returns-in_err-push-clause-grows c = goes_then c.args.names.now c.loop-f.names c.legalise.new.self c.loop-f.invariant.grown c.legalise.ensures.grows
