-- What `one_type_back::struct_back` owes: a struct with a name is a type of values, so each width within it is one that LLVM has.
use Rattle.std.proofs.Common.{ℕ, List, ◌≡◌, ◌<◌, ap, length, subst, sym}
use Rattle.kinds.specs.Types.{TypeTree, NamedType, shape}
use Rattle.kinds.specs.Fitting.{is_held}
use Rattle.kinds.specs.Held.{IsHeld}
use Rattle.kinds.proofs.HeldLaws.{held_result_if}
use Rattle.dialect_types.specs.declared.types.TypeKind.{TypeKind}
use Rattle.dialect_types.specs.Trees.{IsStored, type_at, type_trees}
use Rattle.layer_tests.proofs.one_type_back.struct_back.Goals as goal

pub convert_type-requires-clause-widths : goal.convert_type-requires-clause-widths
convert_type-requires-clause-widths c =
    let ks = c.args.ctx.now.types in
    let ty = c.in_ok-ty.ty in
    let name = c.args.name.now in
    let stored = subst IsStored c.types-3.ensures c.len-count.ensures.stored in
    let found = subst (λ (xs : List TypeKind). (ty.0 < length xs) × (type_at (type_trees xs) ty ≡ NamedType name)) c.types.ensures c.in_ok-ty.ensures.found in
    let tree = subst (λ (xs : List TypeKind). type_at (type_trees xs) ty ≡ NamedType name) (sym c.types-2.ensures) found.1 in
    let held = subst (λ (xs : List TypeKind). IsHeld (type_at (type_trees xs) ty)) c.types-2.ensures (c.kind-kind.ensures.held (ap (λ (u : TypeTree). is_held (shape u)) tree)) in
    c.held_types_have_widths.ensures ks ty stored found.0 (held_result_if (type_at (type_trees ks) ty) held)
