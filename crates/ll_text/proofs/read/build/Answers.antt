-- What was filled is handed on.
use Rattle.support.proofs.ResultLaws.{handed_on}
use Rattle.llvm_core.specs.Data.{data_of}
use Rattle.ll_text.specs.Spelling.{Means}
use Rattle.ll_text.specs.declared.read_err.ReadErr.TheVariants as errors
use Rattle.ll_text.proofs.ResultLaws.{refused}
use Rattle.ll_text.proofs.read.build.Goals as goal

pub returns-clause-means : goal.returns-clause-means
returns-clause-means c = rw c.and.ensures (handed_on c.fill-filled.result _ (λ m. Means c.args.bytes.now (data_of m)) _ (λ h. h) c.fill-filled.ensures.means)

pub returns-clause-not_yet : goal.returns-clause-not_yet
returns-clause-not_yet c = λ e. c.fill-filled.ensures.not_yet (refused c.fill-filled.result _ errors.NotYet (rw c.and.ensures at e))
