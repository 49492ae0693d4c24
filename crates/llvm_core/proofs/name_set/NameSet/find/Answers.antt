-- What `name_set::NameSet::find` owes besides what the check finds.
use Rattle.std.proofs.Common.{◌∙◌, ap, List, ℕ, refl}
use Rattle.std.specs.Prelude.{position}
use Rattle.std.specs.Borrow.{Bor}
use Rattle.std.specs.Str.{bytes_eq}
use Rattle.llvm_core.proofs.NameLemmas.{position_alike}
use Rattle.llvm_core.proofs.name_set.NameSet.find.Goals as goal

pub returns : goal.returns
returns c =
    let name = c.args.name.now in
    c.get_index_of.ensures.index ∙ position_alike (λ (k : Bor (List ℕ)). bytes_eq name k.now) (bytes_eq name) (λ (k : Bor (List ℕ)). k.now) (λ k. refl) c.self.inside.names.keys ∙ ap (position (bytes_eq name)) c.self.view_is
