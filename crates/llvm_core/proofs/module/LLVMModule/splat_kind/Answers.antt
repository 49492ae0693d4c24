-- What `module::LLVMModule::splat_kind` owes besides what the check finds.
use Rattle.std.proofs.Common.{◌≡◌, Some, ap, sym, subst, ◌∙◌}
use Rattle.llvm_core.specs.declared.numbers.LLVMType.{LLVMType}
use Rattle.llvm_core.specs.declared.consts.LLVMConstKind.{LLVMConstKind}
use Rattle.llvm_core.specs.Parts.{const_type}
use Rattle.llvm_core.specs.Sound.{IsModule}
use Rattle.llvm_core.specs.Consts.{HasConstParts}
use Rattle.llvm_core.specs.Data.{trees_of, type_at, const_at, const_tree, formed}
use Rattle.llvm_core.specs.Elements.{splat_const}
use Rattle.llvm_core.proofs.SplatLemmas.{splat_within, filled_splat, lanes_splat, lanes_parts, lanes_typed}
use Rattle.llvm_core.proofs.module.LLVMModule.splat_kind.Goals as goal

pub returns-in-Some-clause-parts : goal.returns-in-Some-clause-parts
returns-in-Some-clause-parts c = splat_within c.args.self.now (subst IsModule c.self.view_is c.self.invariant) c.args.ty c.args.element c.requires

pub returns-in-Some-clause-form : goal.returns-in-Some-clause-form
returns-in-Some-clause-form c = filled_splat c.args.self.now (subst IsModule c.self.view_is c.self.invariant) c.args.ty c.args.element c.in-Some.fill c.requires (sym c.fill_at.ensures ∙ c.in-Some.is)

pub type_kind-requires : goal.type_kind-requires
type_kind-requires c = splat_within c.args.self.now (subst IsModule c.self.view_is c.self.invariant) c.args.ty c.args.element c.requires

pub returns-clause-typed : goal.returns-clause-typed
returns-clause-typed c = ap const_type c.in_ok-kind.ensures ∙ lanes_typed c.type_kind.result.now c.args.ty c.args.element

pub returns-clause-parts : goal.returns-clause-parts
returns-clause-parts c =
    let m = c.args.self.now in
    subst (HasConstParts m) (sym c.in_ok-kind.ensures) (lanes_parts m (subst IsModule c.self.view_is c.self.invariant) c.args.ty c.args.element c.type_kind.result.now c.type_kind.ensures.kind c.requires)

pub returns-clause-form : goal.returns-clause-form
returns-clause-form c =
    let m = c.args.self.now in
    lanes_splat m (subst IsModule c.self.view_is c.self.invariant) c.args.ty c.args.element c.type_kind.result.now c.type_kind.ensures.kind c.requires
    ∙ ap (λ (k : LLVMConstKind). Some (formed (const_tree (trees_of m).types (trees_of m).consts k))) (sym c.in_ok-kind.ensures)
