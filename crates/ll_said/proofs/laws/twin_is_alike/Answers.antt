-- What the twin of data has of them, by the laws.
use Rattle.ll_said.proofs.TwinLaws.{is_numbered, same_text, keeps_form, keeps_names, keeps_few, keeps_sayable}
use Rattle.ll_said.proofs.laws.twin_is_alike.Goals as goal

pub returns : goal.returns
returns c = record { numbers = is_numbered; text = same_text; form = keeps_form; names = keeps_names; few = keeps_few; whole = keeps_sayable }
