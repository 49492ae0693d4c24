use Rattle.std.proofs.Common.{arith, ◌≡◌, false, ◌&&◌, sym, ◌∙◌, ne_eqb, slice_index_or}
use Rattle.ll_literals.specs.Escapes.{is_hex}
use Rattle.ll_literals.proofs.EscapeLaws.{behind, behind_shorter, says_plain, says_last, says_slash, says_short, says_byte, says_lone, and_left_false, and_right_false}
use Rattle.ll_literals.proofs.escapes.first_said.Goals as goal
use Rattle.ll_literals.proofs.escapes.first_said.Goals.{else-is_hex-via-then-is_hex+else-is_hex-2, else-is_hex-via-else-is_hex}

pub returns-then-b-ne92-clause-some : goal.returns-then-b-ne92-clause-some
returns-then-b-ne92-clause-some c = (says_plain c.args.bytes.now c.in-len1-up.len_at_least (ne_eqb _ 92 c.if-b-ne92.true), behind_shorter c.args.bytes.now c.in-len1-up.len_at_least)

pub returns-in_default-rest-clause-some : goal.returns-in_default-rest-clause-some
returns-in_default-rest-clause-some c =
    (says_last c.args.bytes.now c.in-len1-up.len_at_least c.if-b-ne92.false c.in_default-rest.len_below, behind_shorter c.args.bytes.now c.in-len1-up.len_at_least)

pub returns-then-c-eq92-clause-some : goal.returns-then-c-eq92-clause-some
returns-then-c-eq92-clause-some c = (
  says_slash c.args.bytes.now c.in-len1-up.len_at_least c.if-b-ne92.false c.in-len1-up-rest.len_at_least c.if-c-eq92.true,
  omega (arith, behind_shorter c.args.bytes.now c.in-len1-up.len_at_least, behind_shorter (behind c.args.bytes.now) c.in-len1-up-rest.len_at_least),
)

pub returns-in_default-behind-clause-some : goal.returns-in_default-behind-clause-some
returns-in_default-behind-clause-some c =
    (says_short c.args.bytes.now c.in-len1-up.len_at_least c.if-b-ne92.false c.in-len1-up-rest.len_at_least (ne_eqb _ 92 c.if-c-eq92.false) c.in_default-behind.len_below, behind_shorter c.args.bytes.now c.in-len1-up.len_at_least)

pub returns-then-is_hex-2-clause-some : goal.returns-then-is_hex-2-clause-some
returns-then-is_hex-2-clause-some c =
    let bs = c.args.bytes.now in
    let says = says_byte bs c.in-len1-up.len_at_least c.if-b-ne92.false c.in-len1-up-rest.len_at_least (ne_eqb _ 92 c.if-c-eq92.false) c.in-len1-up-behind.len_at_least (sym c.is_hex.ensures ∙ c.if-is_hex.true) (sym c.is_hex-then-is_hex.ensures ∙ c.if-is_hex-2.true) in
    let a = c.hex_value.ensures.value in
    let b = c.hex_value-then-is_hex-2.ensures.value in (
      cc,
      omega (arith, behind_shorter bs c.in-len1-up.len_at_least, behind_shorter (behind bs) c.in-len1-up-rest.len_at_least, behind_shorter (behind (behind bs)) c.in-len1-up-behind.len_at_least),
    )

pub returns-else-is_hex-clause-some : goal.returns-else-is_hex-clause-some
returns-else-is_hex-clause-some c = (
  says_lone c.args.bytes.now c.in-len1-up.len_at_least c.if-b-ne92.false c.in-len1-up-rest.len_at_least (ne_eqb _ 92 c.if-c-eq92.false) c.in-len1-up-behind.len_at_least none,
  behind_shorter c.args.bytes.now c.in-len1-up.len_at_least,
)
  where
    none : (is_hex (slice_index_or (behind c.args.bytes.now) 0 0) && is_hex (slice_index_or (behind (behind c.args.bytes.now)) 0 0)) ≡ false
    none = elim c.else-is_hex.branch [
      | else-is_hex-via-then-is_hex+else-is_hex-2 w ↦ and_right_false _ _ (sym w.is_hex-then-is_hex.ensures ∙ w.if-is_hex-2.false)
      | else-is_hex-via-else-is_hex w ↦ and_left_false _ _ (sym c.is_hex.ensures ∙ w.if-is_hex.false)
    ]
