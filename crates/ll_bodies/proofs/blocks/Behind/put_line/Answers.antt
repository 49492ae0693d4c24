-- What `blocks::Behind::put_line` owes besides what the check finds.
use Rattle.std.proofs.Common.{◌≡◌, ◌+◌, ◌-◌, ◌≢◌, nat_eq, false, suc, length, sym, ◌∙◌, arith}
use Rattle.std.proofs.lemmas.Bool.Decides.{nat_tests}
use Rattle.ll_bodies.proofs.BlockLaws.{with_part, one_part, behind_one, behind_more, put_ended, put_more}
use Rattle.ll_bodies.proofs.blocks.Behind.put_line.Goals as goal

pub returns-then-ends_block-clause-ok : goal.returns-then-ends_block-clause-ok
returns-then-ends_block-clause-ok c = λ bytes t table.
    let size : (c.args.at + 1) - c.args.at ≡ 1 = omega arith in
    put_ended bytes t table c.args.line.now _ _ _ _ c.requires.behind.begins (sym (c.ends_block.ensures bytes t table) ∙ c.if-ends_block.true) (c.in_ok-put_unlabelled.ensures.ok bytes t table)
    (one_part c.args.parts.now c.args.at _ _ c.requires.line size)

pub returns-then-ends_block-clause-behind : goal.returns-then-ends_block-clause-behind
returns-then-ends_block-clause-behind c =
    let size : (c.args.at + 1) - c.args.at ≡ 1 = omega arith in
    behind_one c.args.parts.now c.args.at c.args.line.now _ c.requires.line (one_part c.args.parts.now c.args.at _ _ c.requires.line size)

pub returns-clause-ok : goal.returns-clause-ok
returns-clause-ok c = λ bytes t table.
    let old = c.args.self.now.lines.now in
    let size : (c.args.at + 1 + length old) - c.args.at ≡ suc (length old) = omega arith in
    let next : c.args.at + 1 ≡ suc c.args.at = omega arith in
    let e : nat_eq (length old) 0 ≡ false = sym c.is_empty.ensures ∙ c.if-is_empty.false in
    let some : length old ≢ 0 = grind (arith, nat_tests) in
    put_more bytes t table c.args.line.now old _ _ c.requires.behind.begins (sym (c.ends_block.ensures bytes t table) ∙ c.if-ends_block.false) some
    (with_part c.args.parts.now c.args.at (c.args.at + 1) _ _ old c.requires.line next size c.requires.behind)

pub returns-clause-behind : goal.returns-clause-behind
returns-clause-behind c =
    let old = c.args.self.now.lines.now in
    let size : (c.args.at + 1 + length old) - c.args.at ≡ suc (length old) = omega arith in
    let next : c.args.at + 1 ≡ suc c.args.at = omega arith in
    behind_more c.args.parts.now c.args.at (c.args.at + 1) c.args.line.now old _ c.requires.line next c.requires.behind
    (with_part c.args.parts.now c.args.at (c.args.at + 1) _ _ old c.requires.line next size c.requires.behind)
