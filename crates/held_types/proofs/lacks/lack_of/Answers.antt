-- What `lacks::lack_of` owes besides what the check finds.
use Rattle.std.proofs.Common.{◌∙◌, ap, Some}
use Rattle.held_types.proofs.LackLaws.{int_tells, list_told, splat_told, filled_told, bytes_told, placeholder_told}
use Rattle.held_types.proofs.lacks.lack_of.Goals as goal

pub int_lack-requires : goal.int_lack-requires
int_lack-requires c = let parts = rw c.in-Int.is at c.const_kind.ensures.parts in (parts.0, parts.1)

pub returns-in-Int : goal.returns-in-Int
returns-in-Int c =
    let parts = rw c.in-Int.is at c.const_kind.ensures.parts in
    int_tells c.args.m.now c.requires.sound c.args.c c.in-Int.ty c.in-Int.field-1 parts.0 c.int_lack.result (c.const_kind.ensures.kind ∙ ap Some c.in-Int.is) parts.1 (λ e. c.int_lack.ensures.none e parts.0 parts.1) c.int_lack.ensures.some

pub returns-in-List : goal.returns-in-List
returns-in-List c = list_told c.args.m.now c.requires.sound c.args.c c.const_kind.result.now c.const_kind.ensures.kind c.const_kind.ensures.below c.in-List.field-0 c.in-List.parts c.first_lack.result c.in-List.is (rw c.as_slice.ensures at c.first_lack.ensures)

pub returns-in-Splat : goal.returns-in-Splat
returns-in-Splat c = splat_told c.args.m.now c.requires.sound c.args.c c.const_kind.result.now c.const_kind.ensures.kind c.const_kind.ensures.below c.in-Splat.field-0 c.in-Splat.field-1 c.in-Splat.is

pub returns-in-Filled : goal.returns-in-Filled
returns-in-Filled c = filled_told c.args.m.now c.requires.sound c.args.c c.const_kind.result.now c.const_kind.ensures.kind c.const_kind.ensures.below c.in-Filled.field-0 c.in-Filled.field-1 c.in-Filled.is

pub returns-in-Bytes : goal.returns-in-Bytes
returns-in-Bytes c = bytes_told c.args.m.now c.requires.sound c.args.c c.const_kind.result.now c.const_kind.ensures.kind c.const_kind.ensures.below c.in-Bytes.field-0 c.in-Bytes.field-1 c.in-Bytes.is

pub returns-in-Placeholder : goal.returns-in-Placeholder
returns-in-Placeholder c = placeholder_told c.args.m.now c.requires.sound c.args.c c.const_kind.result.now c.const_kind.ensures.kind c.const_kind.ensures.below c.in-Placeholder.field-0 c.in-Placeholder.field-1 c.in-Placeholder.is
