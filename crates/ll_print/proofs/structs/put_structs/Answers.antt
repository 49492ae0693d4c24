-- Each struct prints behind the others.
use Rattle.std.proofs.Common.{◌<◌, ◌≤◌, ◌++◌, ℕ, length, ap, sym, ◌∙◌, arith}
use Rattle.std.proofs.lemmas.List.{append-nil}
use Rattle.ll_print.specs.Parts.{no_struct, blank_text}
use Rattle.ll_print.proofs.TextLaws.{items_put}
use Rattle.ll_print.proofs.StructLaws.{line_of, lines_all}
use Rattle.ll_print.proofs.structs.put_structs.Goals as goal

pub loop-s-init : goal.loop-s-init
loop-s-init c = c.in_ok-put_blank.ensures.text ∙ ap (λ (n : ℕ). c.args.out.now.items ++ blank_text n) c.structs-structs.ensures.len ∙ sym (append-nil (c.args.out.now.items ++ blank_text (length c.args.m.now.structs)))

pub loop-s-preserved : goal.loop-s-preserved
loop-s-preserved c =
    let within : c.loop-s.s < length c.args.m.now.structs = omega (arith, c.structs-structs.ensures.len, c.loop-s-test.true) in
    items_put (line_of c.args.m.now) c.args.m.now.structs c.loop-s.s no_struct (c.args.out.now.items ++ blank_text (length c.args.m.now.structs)) _ _ within c.loop-s.invariant c.in_ok-put_line.ensures.text

pub returns-clause-text : goal.returns-clause-text
returns-clause-text c =
    let all : length c.args.m.now.structs ≤ c.loop-s.s = omega (arith, c.structs-structs.ensures.len, c.loop-s-test.false) in
    lines_all c.args.m.now c.loop-s.s c.args.out.now.items _ all c.loop-s.invariant
