-- What `types::among_first` owes besides what the check finds.
use Rattle.std.proofs.Common.{◌≡◌, ◌∙◌, List, sym, ap, subst}
use Rattle.dialect_types.specs.declared.types.TypeKind.{TypeKind}
use Rattle.dialect_types.specs.Trees.{type_at, type_tree, type_trees}
use Rattle.dialect_types.proofs.KeyLemmas.{same_kind}
use Rattle.from_llvm_ir.proofs.types.among_first.Goals as goal

pub returns-then-eq-clause-ty : goal.returns-then-eq-clause-ty
returns-then-eq-clause-ty c =
    let same = same_kind c.kind.result.now c.args.kind.now (sym c.eq.ensures ∙ c.if-eq.true) in
    subst (λ (ks : List TypeKind). type_at (type_trees ks) (record { 0 = c.loop-t.t }) ≡ type_tree (type_trees ks) c.args.kind.now) c.types-types.ensures
    (c.kind.ensures.tree ∙ ap (type_tree (type_trees c.types-types.result.now)) same)
