-- What `one_type_back::has_text` owes: a module without functions has no instruction twice.
use Rattle.std.proofs.Common.{All, sym, subst}
use Rattle.std.proofs.lemmas.List.Elements.{All-nil}
use Rattle.llvm_form.specs.Once.{HasInstsOnce}
use Rattle.layer_tests.proofs.one_type_back.has_text.Goals as goal

pub is_form-requires-clause-once : goal.is_form-requires-clause-once
is_form-requires-clause-once c = subst (All HasInstsOnce) (sym c.requires) (All-nil HasInstsOnce)
