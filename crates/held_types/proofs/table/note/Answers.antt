-- What `table::note` owes besides what the check finds.
use Rattle.std.proofs.Common.{ℕ, List, ap, sym, subst, ◌∙◌}
use Rattle.std.specs.Prelude.{position}
use Rattle.std.specs.Str.{bytes_eq}
use Rattle.llvm_core.specs.Names.{IsInserted}
use Rattle.held_types.proofs.TableLaws.{named_here, table_more, table_same}
use Rattle.held_types.proofs.table.note.Goals as goal

pub returns-in-Some : goal.returns-in-Some
returns-in-Some c =
    let m = c.args.m.now in
    let t = c.args.table.now in
    let x = named_here m c.args.s.0 c.struct_name-name.result.now c.struct_name-name.ensures in
    table_same m c.args.s.0 t t x.0 x.1 c.requires.table c.in-Some.field-0 (ap (λ (n : List ℕ). position (bytes_eq n) t.names) x.2 ∙ sym c.find.ensures ∙ c.in-Some.is)

pub returns-in_ok-push-in-None : goal.returns-in_ok-push-in-None
returns-in_ok-push-in-None c =
    let m = c.args.m.now in
    let t = c.args.table.now in
    let x = named_here m c.args.s.0 c.struct_name-name.result.now c.struct_name-name.ensures in
    table_more m c.args.s.0 t _ x.0 x.1 c.requires.table c.in_ok-insert-in-None.field-0 (ap (λ (n : List ℕ). position (bytes_eq n) t.names) x.2 ∙ sym c.find.ensures ∙ c.in-None.is)
    (subst (λ (n : List ℕ). IsInserted t.names c.insert.new.self n c.in_ok-insert-in-None.field-0) (sym x.2) c.in_ok-insert-in-None.ensures) c.in_ok-push-in-None.ensures.items
