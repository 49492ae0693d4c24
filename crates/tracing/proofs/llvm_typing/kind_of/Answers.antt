-- What `llvm_typing::kind_of` owes besides what the check finds.
use Rattle.std.proofs.Common.{subst, sym, arith}
use Rattle.llvm_core.proofs.DataLemmas.{type_tree_of}
use Rattle.tracing.specs.Types.{IsFitTree}
use Rattle.tracing.proofs.TypeLaws.{fit_to_tree}
use Rattle.tracing.proofs.llvm_typing.kind_of.Goals as goal

pub returns-clause-over : goal.returns-clause-over
returns-clause-over c = c.requires.sound.types c.args.ty.0 c.type_kind.result.now c.type_kind.ensures.kind

pub returns-clause-tree : goal.returns-clause-tree
returns-clause-tree c = type_tree_of c.args.m.now c.args.ty c.type_kind.result.now c.requires.sound c.type_kind.ensures.kind

pub returns-clause-fit : goal.returns-clause-fit
returns-clause-fit c =
    let m = c.args.m.now in
    let k = c.type_kind.result.now in
    subst IsFitTree (sym (type_tree_of m c.args.ty k c.requires.sound c.type_kind.ensures.kind))
    (fit_to_tree m c.requires.sound c.args.ty.0 (omega (arith, c.requires.within)) k (c.requires.sound.types c.args.ty.0 k c.type_kind.ensures.kind) c.type_kind.ensures.fit)
