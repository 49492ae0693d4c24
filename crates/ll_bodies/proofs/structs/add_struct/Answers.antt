-- What `structs::add_struct` owes besides what the check finds.
use Rattle.std.proofs.Common.{Some, sym, ap, ◌∙◌}
use Rattle.std.specs.Cow.{cow_str_bytes}
use Rattle.std.specs.Option.{option_map}
use Rattle.ll_lines.specs.Lines.{Text}
use Rattle.ll_literals.specs.Names.{symbol_name}
use Rattle.ll_bodies.proofs.StructLaws.{struct_added}
use Rattle.ll_bodies.proofs.structs.add_struct.Goals as goal

pub returns-clause-ok : goal.returns-clause-ok
returns-clause-ok c =
    let said = sym c.in_ok-written.ensures ∙ ap (option_map cow_str_bytes) c.in-Some.is ∙ ap (λ (n : Text). Some n) (sym c.as_str.ensures.value) in
    let called = ap (λ t. symbol_name t) (sym c.text.ensures) ∙ said in
    let o = c.in_ok-add_struct.ensures in
    struct_added c.args.bytes.now c.args.module.now c.args.said.now c.add_struct.new.self c.as_str.result.now c.in_ok-body.body called c.in_ok-body.ensures o.ok o.data c.add_struct.ensures.sound
