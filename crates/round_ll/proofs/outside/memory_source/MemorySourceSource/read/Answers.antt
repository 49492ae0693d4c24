-- What was given is the front of what was left.
use Rattle.std.proofs.Common.{◌+◌, ◌-◌, ◌≡◌, ◌≤◌, ap, sym, ◌∙◌, Some, arith, length, take, drop}
use Rattle.std.proofs.lemmas.List.{drop-drop}
use Rattle.round_ll.proofs.ToldLemmas.{front_given, slice_from}
use Rattle.round_ll.proofs.outside.memory_source.MemorySourceSource.read.Goals as goal

pub returns-clause-bytes : goal.returns-clause-bytes
returns-clause-bytes c =
    let n = c.min-count.result in
    let given = c.self.inside.given in
    let all = c.deref.result.now in
    let left = c.args.self.now.left in
    let seen : drop given all ≡ left = ap (drop given) c.deref.ensures.value ∙ ap (λ s. s.left) c.self.view_is in
    let slice : take (length all - given) (drop given all) ≡ left = slice_from given all ∙ seen in
    let copies = c.copy_from_slice.ensures.after ∙ ap (take n) slice in
    let short : n ≤ length left = omega (arith, c.min-count.ensures, c.min.ensures, ap length slice) in
    let behind : drop n left ≡ drop (given + n) c.self.inside.bytes.items =
    ap (drop n) (sym (ap (λ s. s.left) c.self.view_is)) ∙ drop-drop n given c.self.inside.bytes.items in
    ap Some (front_given left _ _ _ n copies short behind)
