-- What `structs::name_structs` owes besides what the check finds.
use Rattle.std.proofs.Common.{arith, ◌≡◌, ℕ, List, [], ◌∷◌, ◌++◌, ap, sym, subst, ◌∙◌}
use Rattle.std.proofs.lemmas.List.{length-map}
use Rattle.llvm_core.specs.Data as L
use Rattle.llvm_core.specs.Data.{data_of, trees_of}
use Rattle.dialect_types.specs.Legalised.{Gave}
use Rattle.renamed_source.specs.Source.{pairs_of}
use Rattle.from_llvm_ir.specs.Imported.{IsIn}
use Rattle.from_llvm_ir.specs.Naming.{HasMet}
use Rattle.from_llvm_ir.specs.Structs.{source_names}
use Rattle.from_llvm_ir.proofs.NameLaws.{goes_same, goes_then, met_none}
use Rattle.from_llvm_ir.proofs.NamingLaws.{number, unmarked, is_marked, is_found, not_found, inserted_new, pair_pushed, struct_there, struct_named, struct_used, asked_more, naming_none, naming_skip, naming_met, naming_more, naming_all}
use Rattle.from_llvm_ir.proofs.structs.name_structs.Goals as goal

pub loop-n-init : goal.loop-n-init
loop-n-init c = record {
  within = omega arith;
  named = naming_none _ c.args.held.now c.args.names.now _ _ c.new-met.ensures (ap pairs_of c.new-pairs.ensures.items);
  asked = subst (λ ps. HasMet c.args.names.now c.args.names.now (source_names (pairs_of ps))) (sym c.new-pairs.ensures.items) (met_none c.args.names.now);
  grown = goes_same c.args.names.now;
}

pub loop-n-preserved-then-not-index : goal.loop-n-preserved-then-not-index
loop-n-preserved-then-not-index c =
    let n = c.loop-n.n in
    let marks = c.in_ok-marks.marks.items in
    let s = struct_there c.args.module.now n (omega (arith, c.structs-count.ensures.len, c.loop-n-test.true)) in
    record {
      within = omega (arith, c.loop-n-test.true);
      named = naming_skip _ c.args.held.now n c.loop-n.names c.loop-n.met _ c.loop-n.invariant.named s.0 s.1 (λ there. unmarked marks n c.index.result.now c.index.ensures c.if-not-index.true (c.in_ok-marks.ensures.all (number n) there));
      asked = c.loop-n.invariant.asked;
      grown = c.loop-n.invariant.grown;
    }

pub loop-n-preserved-then-is_some : goal.loop-n-preserved-then-is_some
loop-n-preserved-then-is_some c =
    let n = c.loop-n.n in
    let name = c.struct_name-name.result.now in
    let s = struct_named c.args.module.now n name c.struct_name-name.ensures in
    let met = is_found c.loop-n.met name c.find.result c.find.ensures (sym c.is_some.ensures ∙ c.if-is_some.true) in
    record {
      within = omega (arith, c.loop-n-test.true);
      named = naming_met _ c.args.held.now n c.loop-n.names c.loop-n.met _ c.loop-n.invariant.named s.0 s.1 (subst (IsIn c.loop-n.met) (sym s.2) met);
      asked = c.loop-n.invariant.asked;
      grown = c.loop-n.invariant.grown;
    }

pub loop-n-preserved : goal.loop-n-preserved
loop-n-preserved c =
    let m = c.args.module.now in
    let n = c.loop-n.n in
    let held = c.args.held.now in
    let marks = c.in_ok-marks.marks.items in
    let name = c.struct_name-name.result.now in
    let i = c.in_ok-identifier.identifier in
    let s = struct_named m n name c.struct_name-name.ensures in
    let fresh = not_found c.loop-n.met name c.find.result c.find.ensures (sym c.is_some.ensures ∙ c.if-is_some.false) in
    let there = c.in_ok-marks.ensures.only (number n) (is_marked marks n c.index.result.now (omega (arith, c.in_ok-marks.ensures.len, c.loop-n-test.true)) c.index.ensures c.if-not-index.false) in
    let user = struct_used (data_of m) held (number n) s.0 c.requires.held there s.1 in
    let grown = inserted_new c.loop-n.met c.insert.new.self name c.in_ok-insert.field-0 fresh c.in_ok-insert.ensures in
    let pushed = pair_pushed c.loop-n.pairs.items c.push.new.self.items c.in_ok-from_str.field-0 i name c.in_ok-push.ensures.items c.in_ok-from_str.ensures.ok in
    record {
      within = omega (arith, c.loop-n-test.true);
      named = naming_more (data_of m) held n c.loop-n.names c.loop-n.met (pairs_of c.loop-n.pairs.items) c.loop-n.invariant.named s.0 i c.legalise.new.self c.insert.new.self (pairs_of c.push.new.self.items)
          s.1 user.0
          (subst (λ (x : List ℕ). ¬ IsIn c.loop-n.met x) (sym s.2) fresh)
          (subst (λ (x : List ℕ). c.insert.new.self ≡ c.loop-n.met ++ x ∷ []) (sym s.2) grown)
          (subst (λ (x : List ℕ). pairs_of c.push.new.self.items ≡ pairs_of c.loop-n.pairs.items ++ (x, i) ∷ []) (sym s.2) pushed)
          c.legalise.ensures.grows
          (subst (λ (x : List ℕ). Gave c.legalise.new.self x i) (sym s.2) c.in_ok-identifier.ensures.given.here);
      asked = asked_more c.args.names.now c.loop-n.names c.legalise.new.self (pairs_of c.loop-n.pairs.items) (pairs_of c.push.new.self.items) name i c.loop-n.invariant.asked c.in_ok-identifier.ensures.given pushed;
      grown = goes_then c.args.names.now c.loop-n.names c.legalise.new.self c.loop-n.invariant.grown c.legalise.ensures.grows;
    }

pub returns-clause-named : goal.returns-clause-named
returns-clause-named c =
    let m = c.args.module.now in
    let long = length-map m.structs (L.struct_of (trees_of m).types) in
    naming_all (data_of m) c.args.held.now c.loop-n.n c.loop-n.names c.loop-n.met (pairs_of c.loop-n.pairs.items) c.loop-n.invariant.named (omega (arith, long, c.structs-count.ensures.len, c.loop-n-test.false)) c.requires.held
