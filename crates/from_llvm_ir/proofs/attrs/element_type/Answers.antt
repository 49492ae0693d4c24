-- What `attrs::element_type` owes besides what the check finds.
use Rattle.std.proofs.Common.{◌<◌, ◌∙◌, List, Option, IfSome, ap, length, slice_get, subst, sym}
use Rattle.dialect_types.specs.declared.types.TypeHandle.{TypeHandle}
use Rattle.dialect_types.specs.declared.types.StructFields.{StructFields}
use Rattle.dialect_types.specs.Trees.{AllBelow, HasPartsBelow}
use Rattle.dialect_types.proofs.TextLemmas.{body_below, earlier_parts}
use Rattle.from_llvm_ir.proofs.MadeLaws.{array_element, below_at, named_element, named_within, no_body, struct_element, struct_within, vector_element}
use Rattle.from_llvm_ir.proofs.attrs.element_type.Goals as goal

pub returns-in-Array-clause-ty : goal.returns-in-Array-clause-ty
returns-in-Array-clause-ty c = array_element c.args.types.now c.args.ty c.kind.result.now c.kind.ensures.tree c.args.place c.in-Array.element c.in-Array.field-1 c.in-Array.is

pub returns-in-Vector-clause-ty : goal.returns-in-Vector-clause-ty
returns-in-Vector-clause-ty c = vector_element c.args.types.now c.args.ty c.kind.result.now c.kind.ensures.tree c.args.place c.in-Vector.lane c.in-Vector.field-1 c.in-Vector.field-2 c.in-Vector.is c.requires.there

-- ---- a field

pub field_type-requires : goal.field_type-requires
field_type-requires c =
    subst (λ (xs : List TypeHandle). c.args.place < length xs) (sym c.as_slice.ensures) (struct_within c.args.types.now c.args.ty c.kind.result.now c.kind.ensures.tree c.args.place c.in-Struct.fields c.in-Struct.layout c.in-Struct.is c.requires.there)

pub returns-in-Struct-clause-ty : goal.returns-in-Struct-clause-ty
returns-in-Struct-clause-ty c =
    struct_element c.args.types.now c.args.ty c.kind.result.now c.kind.ensures.tree c.args.place c.in-Struct.fields c.in-Struct.layout c.field_type.result c.in-Struct.is
    (ap (λ (xs : List TypeHandle). slice_get xs c.args.place) (sym c.as_slice.ensures) ∙ c.field_type.ensures)

pub returns-in-Struct-clause-below : goal.returns-in-Struct-clause-below
returns-in-Struct-clause-below c =
    let parts = subst (HasPartsBelow c.args.ty.0) c.in-Struct.is c.kind.ensures.parts in
    let all = (earlier_parts c.args.ty.0 (length c.args.types.now) c.in-Struct.fields c.as_slice.result.now c.as_slice.ensures c.requires.below parts).0 in
    below_at (length c.args.types.now) c.as_slice.result.now c.args.place c.field_type.result all c.field_type.ensures

pub field_type-requires-in-Some : goal.field_type-requires-in-Some
field_type-requires-in-Some c =
    subst (λ (xs : List TypeHandle). c.args.place < length xs) (sym c.as_slice-in-Some.ensures)
    (named_within c.args.types.now c.args.ty c.kind.result.now c.kind.ensures.tree c.args.place c.len-count.ensures.stored.once c.kind.ensures.kind c.in-Named.name c.in-Named.body c.in-Named.is c.in-Some.fields c.in-Some.is c.requires.there)

pub returns-in-Some-clause-ty : goal.returns-in-Some-clause-ty
returns-in-Some-clause-ty c =
    named_element c.args.types.now c.args.ty c.kind.result.now c.kind.ensures.tree c.args.place c.len-count.ensures.stored.once c.kind.ensures.kind c.in-Named.name c.in-Named.body c.in-Named.is c.in-Some.fields c.field_type-in-Some.result c.in-Some.is
    (ap (λ (xs : List TypeHandle). slice_get xs c.args.place) (sym c.as_slice-in-Some.ensures) ∙ c.field_type-in-Some.ensures)

pub returns-in-Some-clause-below : goal.returns-in-Some-clause-below
returns-in-Some-clause-below c =
    let n = length c.args.types.now in
    let body = body_below c.args.ty.0 n c.kind.result.now c.in-Named.name c.in-Named.body c.in-Named.is c.requires.below c.kind.ensures.parts in
    let all = subst (λ (o : Option StructFields). IfSome o (λ (b : StructFields). AllBelow n b.types)) c.in-Some.is body in
    below_at n c.in-Some.fields.types c.args.place c.field_type-in-Some.result all (ap (λ (xs : List TypeHandle). slice_get xs c.args.place) (sym c.as_slice-in-Some.ensures) ∙ c.field_type-in-Some.ensures)

-- ---- types without elements

pub unreachable-requires : goal.unreachable-requires
unreachable-requires c = no_body c.args.types.now c.args.ty c.kind.result.now c.kind.ensures.tree c.args.place c.len-count.ensures.stored.once c.kind.ensures.kind c.in-Named.name c.in-Named.body c.in-Named.is c.in-None.is c.requires.there
