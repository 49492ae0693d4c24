-- The type is one of the module now.
use Rattle.std.proofs.Common.{◌∙◌}
use Rattle.std.proofs.lemmas.Option.{slice_get_within}
use Rattle.llvm_core.proofs.DataLemmas.{type_tree_of}
use Rattle.ll_values.proofs.GrowLaws.{type_interned, kind_same}
use Rattle.ll_values.proofs.said.type_number.Goals as goal

pub returns-clause-interns : goal.returns-clause-interns
returns-clause-interns c = type_interned _ _ _ _ c.requires.sound c.in_ok-ty.ensures.interned c.in_ok-ty.ensures.rest c.in_ok-ty.ensures.data c.in_ok-ty.ensures.sound

pub returns-clause-there : goal.returns-clause-there
returns-clause-there c = slice_get_within _ _ _ c.in_ok-ty.ensures.interned.here

pub returns-clause-tree : goal.returns-clause-tree
returns-clause-tree c =
    let interns = type_interned _ _ _ _ c.requires.sound c.in_ok-ty.ensures.interned c.in_ok-ty.ensures.rest c.in_ok-ty.ensures.data c.in_ok-ty.ensures.sound in
    type_tree_of c.type_get.new.self c.in_ok-ty.ty c.args.kind c.in_ok-ty.ensures.sound c.in_ok-ty.ensures.interned.here ∙ kind_same c.args.m.now c.type_get.new.self interns c.args.kind c.requires.parts
