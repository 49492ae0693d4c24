-- What stands for the fields are types with their trees, which may stand in a struct as those may.
use Rattle.std.proofs.Common.{List, map, subst}
use Rattle.llvm_core.specs.Data.{trees_of}
use Rattle.dialect_types.specs.declared.types.TypeHandle.{TypeHandle}
use Rattle.dialect_types.specs.Trees.{type_at, type_trees}
use Rattle.to_llvm_ir.specs.Growth.{AreTypesOf}
use Rattle.to_llvm_ir.proofs.StructLaws.{fields_stand, fields_fit}
use Rattle.to_llvm_ir.proofs.structs.convert_fields.Goals as goal

pub returns-clause-fields : goal.returns-clause-fields
returns-clause-fields c =
    let are = subst (λ (xs : List TypeHandle). AreTypesOf c.value_types.new.back c.in_ok-types.types (map (type_at (type_trees c.args.ctx.now.types)) xs)) c.as_slice-list.ensures c.in_ok-types.ensures.types in
    fields_stand (trees_of c.value_types.new.back).types (type_trees c.args.ctx.now.types) c.in_ok-types.types c.args.fields.now are.1

pub returns-clause-fit : goal.returns-clause-fit
returns-clause-fit c =
    let are = subst (λ (xs : List TypeHandle). AreTypesOf c.value_types.new.back c.in_ok-types.types (map (type_at (type_trees c.args.ctx.now.types)) xs)) c.as_slice-list.ensures c.in_ok-types.ensures.types in
    record {
      within = are.0;
      fit = fields_fit c.value_types.new.back c.in_ok-types.ensures.sound c.in_ok-types.types (type_trees c.args.ctx.now.types) c.args.fields.now.types are c.requires.fit;
    }
