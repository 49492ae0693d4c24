-- What `constants::add_consts` owes besides what the check finds.
use Rattle.std.proofs.Common.{◌≡◌, ◌+◌, ◌≤◌, ℕ, suc, List, Option, Some, length, slice_get, refl, ap, sym, ◌∙◌, subst, arith}
use Rattle.std.proofs.lemmas.Option.{slice_get_read, slice_get_within}
use Rattle.llvm_core.specs.declared.numbers.LLVMConst.{LLVMConst}
use Rattle.ll_lines.specs.Views.{IsConstLineIn}
use Rattle.ll_bodies.specs.TableViews.{AreMeant, line_meant}
use Rattle.ll_bodies.proofs.TableLaws.{none_meant}
use Rattle.ll_bodies.proofs.ViewLaws.{table_kept}
use Rattle.ll_bodies.proofs.AddedLaws.{keeps_consts, adds_none, adds_twice, number_more}
use Rattle.ll_bodies.proofs.constants.add_consts.Goals as goal

pub loop-line-init : goal.loop-line-init
loop-line-init c = record { adds = adds_none c.args.module.now; sound = c.requires.sound; meant = rw c.in_ok-numbers.ensures.items (none_meant c.args.bytes.now c.args.module.now c.args.table.now) }

pub said_kind-requires-clause-line : goal.said_kind-requires-clause-line
said_kind-requires-clause-line c =
    let i = c.loop-line.invariant in
    let now = c.loop-line.module in
    let at = c.loop-line.line-index in
    let here = slice_get_read c.args.table.now _ at _ refl c.loop-line-test.true c.line-item.is in
    let there = table_kept c.args.module.now now (keeps_consts c.args.module.now now i.adds) c.args.table.now c.requires.table at c.line-item.result here in
    let size = ap (λ (ns : List (Option LLVMConst)). length ns) c.as_slice.ensures.value ∙ i.meant.count in
    subst (λ (n : ℕ). IsConstLineIn now n c.line-item.result) (sym size) there

pub loop-line-preserved : goal.loop-line-preserved
loop-line-preserved c =
    let i = c.loop-line.invariant in
    let bytes = c.args.bytes.now in
    let lines = c.args.table.now in
    let now = c.loop-line.module in
    let at = c.loop-line.line-index in
    let o = c.in_ok-found.ensures in
    let l = c.line-item.result in
    let here = slice_get_read lines _ at _ refl c.loop-line-test.true c.line-item.is in
    let inside = table_kept c.args.module.now now (keeps_consts c.args.module.now now i.adds) lines c.requires.table in
    let size = ap (λ (ns : List (Option LLVMConst)). length ns) c.as_slice.ensures.value ∙ i.meant.count in
    let meant = subst (λ (n : ℕ). AreMeant bytes now lines n c.as_slice.result.now) (sym size) (subst (λ (ns : List (Option LLVMConst)). AreMeant bytes now lines at ns) (sym c.as_slice.ensures.value) i.meant) in
    let is = o.is (line_meant bytes now lines l) (c.in_ok-kind.ensures lines meant) in
    record {
      adds = adds_twice c.args.module.now now c.add_kind.new.module i.adds o.adds;
      sound = o.sound;
      meant = rw c.in_ok-push.ensures.items (number_more bytes lines now c.add_kind.new.module o.adds i.sound inside at c.loop-line.numbers.items i.meant l here c.in_ok-found.found (at + 1) (omega arith) is o.there);
    }

pub returns-clause-meant : goal.returns-clause-meant
returns-clause-meant c =
    let i = c.loop-line.invariant in
    let end : c.loop-line.line-index ≡ length c.args.table.now = omega (arith, c.loop-line-test.false, c.loop-line.auto.line-index-end) in
    subst (λ (n : ℕ). AreMeant c.args.bytes.now c.loop-line.module c.args.table.now n c.loop-line.numbers.items) end i.meant
