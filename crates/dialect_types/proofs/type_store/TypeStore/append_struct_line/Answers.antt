-- What `type_store::TypeStore::append_struct_line` owes besides what the check finds.
use Rattle.std.proofs.Common.{◌∙◌}
use Rattle.std.specs.Option.{option_map}
use Rattle.dialect_types.specs.Trees.{type_trees, fields_of}
use Rattle.dialect_types.proofs.TextLemmas.{line_printed}
use Rattle.dialect_types.proofs.type_store.TypeStore.append_struct_line.Goals as goal

pub returns-clause-ok : goal.returns-clause-ok
returns-clause-ok c =
    line_printed c.extend_from_slice-4.result (record { name = c.args.name.now; body = option_map (fields_of (type_trees c.args.self.now)) c.args.body.now }) c.as_bytes.result.now c.args.out.now.items _ _ _ _ _
    (c.as_bytes.ensures.value ∙ c.as_str.ensures.text)
    c.in_ok-extend_from_slice.ensures.items c.in_ok-extend_from_slice-2.ensures.items c.in_ok-extend_from_slice-3.ensures.items c.in_ok-append_body.ensures.ok c.extend_from_slice-4.ensures.items
