-- What `constants::constant_kind` owes besides what the check finds.
use Rattle.std.proofs.Common.{◌≡◌, ◌<◌, List, length, subst, sym}
use Rattle.std.proofs.lemmas.Result.{IfOk-weaker}
use Rattle.llvm_core.specs.Data.{const_at, const_type, trees_of}
use Rattle.dialect_types.specs.declared.types.TypeKind.{TypeKind}
use Rattle.dialect_types.specs.Trees.{structs_of, type_at, type_trees}
use Rattle.from_llvm_ir.specs.Attrs.{IsAttrOf, IsTaken}
use Rattle.from_llvm_ir.specs.Known.{IsMaking}
use Rattle.from_llvm_ir.proofs.MadeLaws.{attr_making, filled_making, no_fill}
use Rattle.from_llvm_ir.proofs.constants.constant_kind.Goals as goal

pub returns-in-Filled : goal.returns-in-Filled
returns-in-Filled c = filled_making c.args.source.now c.args.c c.const_kind.result.now c.const_kind.ensures.kind c.const_kind.ensures.below c.args.ctx.now.types c.requires.taken c.in-Filled.fill c.in-Filled.field-1 c.in-Filled.is

pub attr-requires-clause-taken : goal.attr-requires-clause-taken
attr-requires-clause-taken c = subst (λ (ks : List TypeKind). IsTaken (structs_of ks) (const_at (trees_of c.args.source.now).consts c.args.c)) (sym c.types.ensures) c.requires.taken

pub attr-requires-clause-below : goal.attr-requires-clause-below
attr-requires-clause-below c = subst (λ (ks : List TypeKind). c.args.ty.0 < length ks) (sym c.types.ensures) c.requires.below

pub attr-requires-clause-ty : goal.attr-requires-clause-ty
attr-requires-clause-ty c = subst (λ (ks : List TypeKind). type_at (type_trees ks) c.args.ty ≡ const_type (const_at (trees_of c.args.source.now).consts c.args.c)) (sym c.types.ensures) c.requires.ty

pub returns : goal.returns
returns c =
    let m = c.args.source.now in
    let ks = c.args.ctx.now.types in
    let made = subst (λ (xs : List TypeKind). IsAttrOf xs (const_at (trees_of m).consts c.args.c) c.in_ok-attr.field-0) c.types.ensures c.in_ok-attr.ensures in
    let other = no_fill m c.args.c c.const_kind.result.now c.const_kind.ensures.kind c.const_kind.ensures.below (λ fill t is. c.in_default.not-Filled fill t is) in
    let making = attr_making m c.args.c c.const_kind.result.now c.const_kind.ensures.kind c.const_kind.ensures.below ks c.in_ok-attr.field-0 other made in
    IfOk-weaker c.constant.result _ _ (λ k is. subst (IsMaking ks (const_at (trees_of m).consts c.args.c)) (sym is) making) c.constant.ensures
