-- What is read is spelled and of the form, and what is refused spells no checked module of the form.
use Rattle.std.proofs.Common.{◌≡◌, Err, rules}
use Rattle.support.proofs.ResultLaws.{handed_on}
use Rattle.llvm_core.specs.Data.{data_of}
use Rattle.llvm_core.specs.Form.{IsForm}
use Rattle.llvm_core.specs.Sound.{IsModule}
use Rattle.ll_text.specs.Spelling.{IsNumbered, Spells}
use Rattle.ll_text.specs.declared.read_err.ReadErr.TheVariants as errors
use Rattle.ll_text.proofs.ReadLaws.{meant_once, meant_numbered, meant_spelled, unspelled}
use Rattle.ll_text.proofs.ResultLaws.{refused}
use Rattle.ll_text.proofs.read.read_ll.Goals as goal

pub check_form-requires : goal.check_form-requires
check_form-requires c = record { once = meant_once c.args.bytes.now (data_of c.in_ok-built.built) c.in_ok-built.ensures.means }

pub returns-clause-spelled : goal.returns-clause-spelled
returns-clause-spelled c =
    let m = c.in_ok-built.built in
    rw c.and.ensures (handed_on c.check_form.result m (λ x. Spells c.args.bytes.now (data_of x)) _ (meant_spelled c.args.bytes.now (data_of m) c.in_ok-built.ensures.means) c.check_form.ensures.form)

pub returns-clause-numbered : goal.returns-clause-numbered
returns-clause-numbered c =
    let m = c.in_ok-built.built in
    rw c.and.ensures (handed_on c.check_form.result m (λ x. IsNumbered (data_of x)) _ (λ (form : IsForm (data_of m)). meant_numbered c.args.bytes.now (data_of m) c.in_ok-built.ensures.means) c.check_form.ensures.form)

pub returns-clause-form : goal.returns-clause-form
returns-clause-form c = rw c.and.ensures (handed_on c.check_form.result c.in_ok-built.built (λ x. IsForm (data_of x)) _ (λ form. form) c.check_form.ensures.form)

pub returns-clause-not_yet : goal.returns-clause-not_yet
returns-clause-not_yet c = λ e.
    let m = c.in_ok-built.built in
    let sound : IsModule m = search rules in
    unspelled c.args.bytes.now m sound c.in_ok-built.ensures.means (c.check_form.ensures.not_yet (refused c.check_form.result m errors.NotYet (rw c.and.ensures at e)))

pub returns-in_err-built-clause-not_yet : goal.returns-in_err-built-clause-not_yet
returns-in_err-built-clause-not_yet c = λ e spelled.
    let failed : c.build.result ≡ Err errors.NotYet = search rules in
    c.build.ensures.not_yet failed _ spelled.2
