-- Each round looks at one more type.
use Rattle.std.proofs.Common.{◌≡◌, ◌∷◌, sym, ap, ◌∙◌, arith}
use Rattle.kinds.specs.Fitting.{is_field}
use Rattle.llvm_core.specs.Data.{trees_of}
use Rattle.ll_lines.specs.Views.{IsTypeIn}
use Rattle.ll_values.specs.Lists.{list_at}
use Rattle.ll_values.proofs.FieldLaws.{first_field, first_no_field}
use Rattle.ll_values.proofs.WalkLaws.{first_there}
use Rattle.ll_values.proofs.types.list_fits.Goals as goal

pub shape_in-requires-clause-there : goal.shape_in-requires-clause-there
shape_in-requires-clause-there c =
    let first : list_at c.args.store.now.types c.loop-ty.next ≡ c.in-Some.ty ∷ list_at c.args.store.now.types c.in-Some.rest = c.in-Some.ensures.first in
    first_there (IsTypeIn c.args.m.now) c.args.store.now.types c.loop-ty.next c.in-Some.rest c.in-Some.ty c.requires.store.types c.loop-ty.invariant.0 first

pub returns-then-not-is_field : goal.returns-then-not-is_field
returns-then-not-is_field c =
    let first : list_at c.args.store.now.types c.loop-ty.next ≡ c.in-Some.ty ∷ list_at c.args.store.now.types c.in-Some.rest = c.in-Some.ensures.first in
    let none = first_no_field (trees_of c.args.m.now).types (list_at c.args.store.now.types c.loop-ty.next) (list_at c.args.store.now.types c.in-Some.rest) c.in-Some.ty first (ap is_field (sym c.shape_in.ensures.tree) ∙ sym c.is_field.ensures ∙ c.if-not-is_field.true) in
    sym none ∙ c.loop-ty.invariant.1

pub loop-ty-preserved : goal.loop-ty-preserved
loop-ty-preserved c =
    let inv = c.loop-ty.invariant in
    let first : list_at c.args.store.now.types c.loop-ty.next ≡ c.in-Some.ty ∷ list_at c.args.store.now.types c.in-Some.rest = c.in-Some.ensures.first in
    let fits = first_field (trees_of c.args.m.now).types (list_at c.args.store.now.types c.loop-ty.next) (list_at c.args.store.now.types c.in-Some.rest) c.in-Some.ty first (ap is_field (sym c.shape_in.ensures.tree) ∙ sym c.is_field.ensures ∙ c.if-not-is_field.false) in
    (omega (arith, inv.0, c.in-Some.ensures.rest), fits ∙ inv.1)
