-- Each round finds one more entry.
use Rattle.std.proofs.Common.{arith, ◌≡◌, ◌≤◌, ◌∷◌, length}
use Rattle.std.proofs.lemmas.List.Elements.{All-push, All-weaker}
use Rattle.ll_lines.specs.declared.lines.Incoming as code
use Rattle.ll_lines.specs.Views.{IsSaidIn}
use Rattle.llvm_core.specs.Data.{trees_of}
use Rattle.ll_values.specs.Lists.{list_at}
use Rattle.ll_values.specs.Views.{made_in, entry_view, entries_at, IsEntryIn}
use Rattle.ll_values.proofs.GrowLaws.{interned_twice}
use Rattle.ll_values.proofs.KeepLaws.{kept_twice, said_stays}
use Rattle.ll_values.proofs.WalkLaws.{first_there}
use Rattle.ll_values.proofs.PhiLaws.{continues_next, entry_before}
use Rattle.ll_values.proofs.typed.entries.Goals as goal

pub said-requires-in-Some-clause-literal : goal.said-requires-in-Some-clause-literal
said-requires-in-Some-clause-literal c =
    let inv = c.loop-entry.invariant in
    let t = c.loop-entry.store in
    let first : list_at t.entries c.loop-entry.next ≡ c.in-Some.entry ∷ list_at t.entries c.in-Some.behind = c.in-Some.ensures.first in
    let le : c.loop-entry.next ≤ length t.entries = omega (arith, inv.0, inv.3.entries.count) in
    first_there (IsEntryIn c.loop-entry.m t) t.entries c.loop-entry.next c.in-Some.behind c.in-Some.entry inv.2.entries le first

pub loop-entry-preserved : goal.loop-entry-preserved
loop-entry-preserved c =
    let inv = c.loop-entry.invariant in
    let m = c.args.m.now in
    let s = c.args.store.now in
    let n = c.loop-entry.m in
    let t = c.loop-entry.store in
    let p = c.said-in-Some.new.m in
    let u = c.said-in-Some.new.store in
    let says = c.in-Ok-said.ensures.says in
    let first : list_at t.entries c.loop-entry.next ≡ c.in-Some.entry ∷ list_at t.entries c.in-Some.behind = c.in-Some.ensures.first in
    let before = entry_before s.entries t.entries c.loop-entry.next c.in-Some.behind c.in-Some.entry inv.3.entries inv.0 c.in-Some.ensures.rest first in
    let stood : IsEntryIn m s c.in-Some.entry = first_there (IsEntryIn m s) s.entries c.loop-entry.next c.in-Some.behind c.in-Some.entry c.requires.store.entries inv.0 before in
    let there = All-weaker (λ (e : code.Incoming). IsSaidIn n (made_in t) e.said) (λ (e : code.Incoming). IsSaidIn p (made_in u) e.said) (λ e h. said_stays c.args.bytes.now n p t u says.interns says.keeps inv.2 e.said h) c.loop-entry.found inv.4 in (
      omega (arith, inv.0, c.in-Some.ensures.rest),
      interned_twice m n p inv.1 says.interns,
      says.store,
      kept_twice s t u inv.3 says.keeps,
      rw c.in_ok-push.ensures.ok (All-push (λ (e : code.Incoming). IsSaidIn p (made_in u) e.said) c.loop-entry.found _ there says.there),
      continues_next c.args.bytes.now m n s t c.args.ty (entry_view c.args.bytes.now (trees_of m) s c.args.first ∷ entries_at c.args.bytes.now (trees_of m) s c.args.rest) c.loop-entry.next c.loop-entry.found inv.5
          c.requires.store c.in-Some.entry c.in-Some.behind before inv.1 inv.3 c.requires.there stood inv.2 p u c.in-Ok-said.said inv.4 says _ c.in_ok-push.ensures.ok,
    )
