-- The struct is the last of the module, and its fields are those that stand for its own.
use Rattle.std.specs.Option.{option_map}
use Rattle.llvm_core.specs.Data as L
use Rattle.llvm_core.specs.Data.{trees_of, fields_of}
use Rattle.dialect_types.specs.Trees.{type_trees}
use Rattle.to_llvm_ir.proofs.StructLaws.{adds_one}
use Rattle.to_llvm_ir.proofs.structs.add_struct.Goals as goal

pub returns : goal.returns
returns c =
    let body = c.in_ok-body.ensures in
    adds_one (type_trees c.args.ctx.now.types) c.args.name.now c.args.body.now (L.data_of c.args.back.now) (L.data_of c.convert_body.new.back) (L.data_of c.add_struct.new.self)
    (option_map (fields_of (trees_of c.convert_body.new.back).types) c.in_ok-body.body) c.as_str.result.now c.as_str.ensures.text body.few body.data body.fields c.in_ok-add_struct.ensures.data
