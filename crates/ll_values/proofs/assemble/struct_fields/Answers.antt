-- The types of the list are in the module, and may be fields.
use Rattle.std.proofs.Common.{◌≡◌, ◌∙◌}
use Rattle.ll_lines.specs.Views.{IsTypeIn}
use Rattle.ll_values.specs.Lists.{list_at}
use Rattle.ll_values.proofs.FieldLaws.{fields_fit}
use Rattle.ll_values.proofs.KeepLaws.{all_at}
use Rattle.ll_values.proofs.assemble.struct_fields.Goals as goal

pub returns-clause-there : goal.returns-clause-there
returns-clause-there c =
    let is : c.from_vec.result ≡ list_at c.args.store.now.types c.args.fields.types = c.from_vec.ensures ∙ c.in_ok-types.ensures.types in
    let there = all_at (IsTypeIn c.args.m.now) c.args.store.now.types c.args.fields.types c.requires.store.types c.requires.there.types in
    rw is (record { within = there; fit = fields_fit c.args.m.now c.requires.store.sound (list_at c.args.store.now.types c.args.fields.types) there c.requires.there.fit })
