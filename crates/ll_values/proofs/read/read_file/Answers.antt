-- The only value is the file.
use Rattle.std.proofs.Common.{refl, ap}
use Rattle.llvm_core.specs.Data.{trees_of}
use Rattle.ll_values.specs.Values.{FileV}
use Rattle.ll_values.proofs.FileLaws.{no_file, is_file, lists_there}
use Rattle.ll_values.proofs.read.read_file.Goals as goal

pub file-requires-clause-struct_list : goal.file-requires-clause-struct_list
file-requires-clause-struct_list c = (lists_there c.values_of.new.m c.values_of.new.store c.in-Ok.values.items c.as_slice.result.now c.in-Some.source c.in-Some.structs c.in-Some.functions c.as_slice.ensures.value c.in-Some.ensures.file c.in-Ok.ensures.standing.values).0

pub file-requires-clause-function_list : goal.file-requires-clause-function_list
file-requires-clause-function_list c = (lists_there c.values_of.new.m c.values_of.new.store c.in-Ok.values.items c.as_slice.result.now c.in-Some.source c.in-Some.structs c.in-Some.functions c.as_slice.ensures.value c.in-Some.ensures.file c.in-Ok.ensures.standing.values).1

pub returns-in-Ok-file-clause-file : goal.returns-in-Ok-file-clause-file
returns-in-Ok-file-clause-file c =
    is_file c.args.bytes.now (trees_of c.values_of.new.m) c.values_of.new.store c.in-Ok.values.items c.as_slice.result.now _ c.in-Some.source c.in-Some.structs c.in-Some.functions _ c.as_slice.ensures.value c.in-Ok.ensures.folded c.in-Some.ensures.file (ap FileV c.in-Ok-file.ensures.file)

pub returns-in_default-clause-not_yet : goal.returns-in_default-clause-not_yet
returns-in_default-clause-not_yet c = λ e f says. no_file c.args.bytes.now (trees_of c.values_of.new.m) c.values_of.new.store c.in-Ok.values.items c.as_slice.result.now _ c.as_slice.ensures.value c.in-Ok.ensures.folded (c.in_default.ensures.none refl) f says
