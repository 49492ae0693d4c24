-- What `adding::add_function` owes besides what the check finds.
use Rattle.std.proofs.Common.{length, Some, sym, ap, ◌∙◌}
use Rattle.llvm_core.specs.Module.{Module}
use Rattle.std.specs.Option.{option_map}
use Rattle.std.specs.Cow.{cow_str_bytes}
use Rattle.ll_lines.specs.Lines.{Text}
use Rattle.ll_literals.specs.Names.{symbol_name}
use Rattle.ll_bodies.proofs.BitsLaws.{needed_kept, vectors_same, vectors_twice}
use Rattle.ll_bodies.proofs.ErrLaws.{on_ok_both}
use Rattle.ll_bodies.proofs.JoinLaws.{joined, unjoined, keeps_declared}
use Rattle.ll_bodies.proofs.ViewLaws.{function_kept, meant_kept}
use Rattle.ll_bodies.proofs.adding.add_function.Goals as goal

pub returns-clause-ok : goal.returns-clause-ok
returns-clause-ok c =
    let said = sym c.in_ok-written.ensures ∙ ap (option_map cow_str_bytes) c.in-Some.is ∙ ap (λ (n : Text). Some n) (sym c.as_str.ensures.value) in
    let called = ap (λ t. symbol_name t) (sym c.text.ensures) ∙ said in
    let o = c.in_ok-f.ensures in
    on_ok_both c.give_body.result (λ b sound.
    joined c.args.shared.now.bytes.now c.args.shared.now.table.now c.in_ok-f.f.0 c.as_str.result.now c.args.said.now c.args.module.now c.function_type.new.module c.declare.new.module c.give_body.new.module
    c.requires.sound c.requires.table c.requires.said c.in_ok-ty.ensures.grows c.in_ok-ty.ensures.vectors o.number o.rest called o.data b sound) c.give_body.ensures.ok c.give_body.ensures.sound

pub returns-clause-not_yet : goal.returns-clause-not_yet
returns-clause-not_yet c = λ e.
    let o = c.in_ok-f.ensures in
    unjoined c.args.shared.now.bytes.now c.args.shared.now.table.now c.in_ok-f.f.0 c.args.said.now c.args.module.now c.function_type.new.module c.declare.new.module
    c.requires.sound c.requires.table c.requires.said c.in_ok-ty.ensures.grows o.number o.rest (c.give_body.ensures.not_yet e)

pub give_body-requires-clause-needed : goal.give_body-requires-clause-needed
give_body-requires-clause-needed c =
    let m = c.args.module.now in
    let a = c.function_type.new.module in
    let d = c.declare.new.module in
    let same = ap (λ (k : Module). k.types) c.in_ok-f.ensures.rest in
    let grows = c.in_ok-ty.ensures.grows in
    needed_kept m d _ _ _ grows.more (same ∙ grows.types) (vectors_twice m a d c.in_ok-ty.ensures.vectors (vectors_same a d same)) c.requires.needed

pub give_body-requires-clause-made : goal.give_body-requires-clause-made
give_body-requires-clause-made c =
    let s = c.args.shared.now in
    let keeps = keeps_declared c.args.module.now c.function_type.new.module c.in_ok-ty.ensures.grows c.declare.new.module c.in_ok-f.ensures.rest in
    meant_kept s.bytes.now c.args.module.now c.declare.new.module keeps c.requires.sound s.table.now c.requires.table (length s.table.now) s.consts.now c.requires.made

pub give_body-requires-clause-said : goal.give_body-requires-clause-said
give_body-requires-clause-said c =
    let keeps = keeps_declared c.args.module.now c.function_type.new.module c.in_ok-ty.ensures.grows c.declare.new.module c.in_ok-f.ensures.rest in
    function_kept c.args.module.now c.declare.new.module keeps (length c.args.shared.now.table.now) c.args.said.now c.requires.said
