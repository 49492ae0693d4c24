-- What `attrs::field_type` owes besides what the check finds.
use Rattle.std.proofs.lemmas.Option.{slice_get-get_or}
use Rattle.from_llvm_ir.proofs.attrs.field_type.Goals as goal

pub returns : goal.returns
returns c = slice_get-get_or c.args.fields.now c.args.place _ c.requires
