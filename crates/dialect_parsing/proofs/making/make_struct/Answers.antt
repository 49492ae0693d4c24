-- Its fields may be fields.
use Rattle.std.proofs.Common.{◌≡◌, subst, sym, true, All}
use Rattle.kinds.specs.Types.{shape}
use Rattle.kinds.specs.Fitting.{is_field}
use Rattle.dialect_types.specs.Trees.{type_at, types_at, type_trees}
use Rattle.dialect_types.specs.declared.types.TypeHandle.{TypeHandle}
use Rattle.dialect_parsing.specs.Spelling.{AreFields}
use Rattle.dialect_parsing.proofs.ListLaws.{fields_are, are_fields, when_ok}
use Rattle.dialect_parsing.proofs.making.make_struct.Goals as goal

pub returns-then-not-are_fields-clause-err : goal.returns-then-not-are_fields-clause-err
returns-then-not-are_fields-clause-err c = λ _ h.
    let ts = type_trees c.args.types.now in
    let all = subst (All (λ (t : TypeHandle). is_field (shape (type_at ts t)) ≡ true)) (sym c.as_slice.ensures) (are_fields ts c.args.fields h) in
    let yes = c.are_fields.ensures.1 all in
    let no = c.if-not-are_fields.true in
    cc

pub returns-clause-fit : goal.returns-clause-fit
returns-clause-fit c =
    let ts = type_trees c.args.types.now in
    let all = c.are_fields.ensures.0 c.if-not-are_fields.false in
    when_ok (AreFields (types_at ts c.args.fields)) c.made.result (fields_are ts c.args.fields (subst (All (λ (t : TypeHandle). is_field (shape (type_at ts t)) ≡ true)) c.as_slice.ensures all))
