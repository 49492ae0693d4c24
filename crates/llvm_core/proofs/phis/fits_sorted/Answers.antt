-- The goals of `phis::fits_sorted` that the tactics leave.
use Rattle.llvm_core.specs.Keys.{same_text}
use Rattle.llvm_core.specs.Checked.{sources}
use Rattle.llvm_core.proofs.SortLemmas.{same_sorted, same_counts}
use Rattle.llvm_core.proofs.phis.fits_sorted.Goals as goal

pub returns-clause-yes : goal.returns-clause-yes
returns-clause-yes c = λ fits.
    let same = (same_text c.in_ok-sorted_sources.field-0.items c.sort.new.self.items).0 (rw (← c.eq.ensures) fits) in
    same_counts (sources c.args.entries.now) c.args.from.now _ _ c.in_ok-sorted_sources.ensures.same (rw c.in_ok-from.ensures.items at c.in_ok-sort.ensures.permutation) same

pub returns-clause-no : goal.returns-clause-no
returns-clause-no c = λ unlike counts.
    let equal = same_sorted (sources c.args.entries.now) c.args.from.now _ _ c.in_ok-sorted_sources.ensures.same (rw c.in_ok-from.ensures.items at c.in_ok-sort.ensures.permutation) c.in_ok-sorted_sources.ensures.sorted c.in_ok-sort.ensures.sorted counts in
    let equal_then = (same_text c.in_ok-sorted_sources.field-0.items c.sort.new.self.items).1 equal in
    absurd (let e = c.eq.ensures in cc)
