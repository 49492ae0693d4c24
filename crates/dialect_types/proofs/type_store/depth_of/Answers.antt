-- What `type_store::depth_of` owes besides what the check finds.
use Rattle.std.proofs.Common.{◌+◌, List, Option, length, subst, sym, ap, ◌∙◌, refl}
use Rattle.dialect_types.specs.declared.types.TypeHandle.{TypeHandle}
use Rattle.dialect_types.specs.declared.types.StructFields.{StructFields}
use Rattle.dialect_types.specs.declared.types.TypeKind.{TypeKind}
use Rattle.dialect_types.specs.declared.types.TypeKind.TheVariants.{Named}
use Rattle.dialect_types.specs.Trees.{HasPartsBelow}
use Rattle.dialect_types.specs.Stored.{IsDepthOf}
use Rattle.dialect_types.proofs.DepthLaws.{CoversAll, struct_depth, named_depth, func_depth}
use Rattle.dialect_types.proofs.type_store.depth_of.Goals as goal

pub returns-in-Struct-clause-enough : goal.returns-in-Struct-clause-enough
returns-in-Struct-clause-enough c =
    let ds = c.args.depths.now in
    let n = c.deepest_of.result in
    let parts = subst (HasPartsBelow (length ds)) c.in-Struct.is c.requires.parts in
    let covered = subst (λ (ts : List TypeHandle). CoversAll ts ds n) c.as_slice.ensures c.deepest_of.ensures.each in
    subst (λ (k : TypeKind). IsDepthOf k ds (1 + n)) (sym c.in-Struct.is) (struct_depth ds c.in-Struct.fields c.in-Struct.layout n (1 + n) parts covered refl)

pub returns-in-Some-clause-enough : goal.returns-in-Some-clause-enough
returns-in-Some-clause-enough c =
    let ds = c.args.depths.now in
    let n = c.deepest_of-in-Some.result in
    let is = c.in-Named.is ∙ ap (λ (b : Option StructFields). Named c.in-Named.name b) c.in-Some.is in
    let parts = subst (HasPartsBelow (length ds)) is c.requires.parts in
    let covered = subst (λ (ts : List TypeHandle). CoversAll ts ds n) c.as_slice-in-Some.ensures c.deepest_of-in-Some.ensures.each in
    subst (λ (k : TypeKind). IsDepthOf k ds (1 + n)) (sym is) (named_depth ds c.in-Named.name c.in-Some.fields n (1 + n) parts covered refl)

pub returns-in-Func-clause-enough : goal.returns-in-Func-clause-enough
returns-in-Func-clause-enough c =
    let ds = c.args.depths.now in
    let n = c.deepest_of-in-Func.result in
    let parts = subst (HasPartsBelow (length ds)) c.in-Func.is c.requires.parts in
    let covered = subst (λ (ts : List TypeHandle). CoversAll ts ds n) c.as_slice-in-Func.ensures c.deepest_of-in-Func.ensures.each in
    subst (λ (k : TypeKind). IsDepthOf k ds (1 + c.greater.result)) (sym c.in-Func.is)
    (func_depth ds c.in-Func.result c.in-Func.params c.in-Func.variadic n (1 + c.greater.result) parts.0 parts.1 covered (ap (λ x. 1 + x) c.greater.ensures))
