-- What the import promises is what the export needs, and the two together make the code the same.
use Rattle.std.proofs.Common.{rules}
use Rattle.transfer.proofs.BegunLaws.{begun_readable, begun_same, begun_checked, begun_form, begun_memory}
use Rattle.transfer.proofs.transferring.finish.Goals as goal

pub convert_module-requires : goal.convert_module-requires
convert_module-requires c = begun_readable c.requires.begun.0 c.args.begun c.requires.begun.1

pub returns-clause-same : goal.returns-clause-same
returns-clause-same c = λ m h. begun_same m c.args.begun c.in_ok-exported.exported.«module» h c.in_ok-exported.ensures.exported

pub returns-clause-back : goal.returns-clause-back
returns-clause-back c = begun_checked c.requires.begun.0 c.args.begun c.in_ok-exported.exported.«module» c.requires.begun.1 c.in_ok-exported.ensures.checked

pub returns-clause-form : goal.returns-clause-form
returns-clause-form c = begun_form c.requires.begun.0 c.args.begun c.in_ok-exported.exported.«module» c.requires.begun.1 c.in_ok-exported.ensures.form

pub returns-clause-readable : goal.returns-clause-readable
returns-clause-readable c = begun_readable c.requires.begun.0 c.args.begun c.requires.begun.1

pub returns-in_err-exported-clause-memory : goal.returns-in_err-exported-clause-memory
returns-in_err-exported-clause-memory c =
    let memory = begun_memory c.requires.begun.0 c.args.begun c.in_err-exported.field-0.0 c.requires.begun.1 c.in_err-exported.ensures.cause in
    search rules
