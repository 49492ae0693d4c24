-- Each round passes a byte of the name, and what is left goes on with it.
use Rattle.std.proofs.Common.{◌≡◌, ◌∙◌, sym, ap, add-one, rules, drop, length, ◌<◌, ℕ, suc, subst}
use Rattle.std.proofs.lemmas.Bool.{eqb-true, eq-eqb}
use Rattle.std.specs.Str.{bytes_eq}
use Rattle.ll_classes.specs.Buckets.{Text}
use Rattle.ll_classes.specs.Names.{said, said_len, unescaped}
use Rattle.ll_classes.proofs.NameLaws.{over, differs, goes_on, all_read, some_len, unequal}
use Rattle.ll_classes.proofs.names.says.Goals as goal

pub returns-then-is_empty : goal.returns-then-is_empty
returns-then-is_empty c = over c.loop-byte.left.now c.args.name.now c.loop-byte.byte-index 0 _ c.loop-byte-test.true c.loop-byte.invariant (eqb-true (length c.loop-byte.left.now) 0 (sym c.is_empty.ensures ∙ c.if-is_empty.true))

pub returns-then-said-byte : goal.returns-then-said-byte
returns-then-said-byte c =
    let some : 0 < length c.loop-byte.left.now = search rules in
    let said_is = c.said.ensures in
    differs c.loop-byte.left.now c.args.name.now c.loop-byte.byte-index 0 _ c.loop-byte-test.true c.loop-byte.invariant some (some_len c.loop-byte.left.now)
    (unequal (said c.loop-byte.left.now) _ (λ e. c.if-said-byte.true (said_is ∙ e)))

pub loop-byte-preserved : goal.loop-byte-preserved
loop-byte-preserved c =
    let some : 0 < length c.loop-byte.left.now = search rules in
    let left : drop (said_len c.loop-byte.left.now) c.loop-byte.left.now ≡ c.split_at.result.1.now = ap (λ (n : ℕ). drop n c.loop-byte.left.now) (sym c.said_len.ensures.gives) ∙ sym c.split_at.ensures.back in
    rw add-one (subst (λ (t : Text). bytes_eq (unescaped t) (drop (suc c.loop-byte.byte-index) c.args.name.now) ≡ bytes_eq (unescaped c.args.written.now) c.args.name.now) left
    (goes_on c.loop-byte.left.now c.args.name.now c.loop-byte.byte-index 0 _ c.loop-byte-test.true c.loop-byte.invariant some (some_len c.loop-byte.left.now) (eq-eqb (said c.loop-byte.left.now) _ (sym c.said.ensures ∙ c.if-said-byte.false))))

pub returns : goal.returns
returns c = c.is_empty-2.ensures ∙ all_read c.loop-byte.left.now c.args.name.now c.loop-byte.byte-index _ c.loop-byte-test.false c.loop-byte.invariant
