-- What `structs::import_fields` owes besides what the check finds.
use Rattle.std.proofs.Common.{Option, Some, All, IfSome, length, map, sym, subst, ap, ◌∙◌, Bor}
use Rattle.std.specs.Option.{option_map}
use Rattle.kinds.specs.Held.{IsHeld}
use Rattle.llvm_core.specs.declared.numbers.LLVMType.{LLVMType}
use Rattle.llvm_core.specs.declared.structs.StructFields.{StructFields}
use Rattle.llvm_core.specs.Data as L
use Rattle.llvm_core.specs.Data.{trees_of}
use Rattle.dialect_types.specs.Trees.{AllBelow, type_trees}
use Rattle.from_llvm_ir.proofs.TypeLaws.{all_below}
use Rattle.from_llvm_ir.proofs.FieldLaws.{fields_fit, fields_stand, IsFieldOf}
use Rattle.from_llvm_ir.proofs.structs.import_fields.Goals as goal

pub returns-in_ok-types-in-Some-clause-below : goal.returns-in_ok-types-in-Some-clause-below
returns-in_ok-types-in-Some-clause-below c =
    let n = length c.import_all.new.ctx.types in
    subst (AllBelow n) (sym c.from_vec.ensures) (all_below n c.in_ok-types-in-Some.types.items c.in_ok-types-in-Some.ensures.within)

pub returns-in_ok-types-in-Some-clause-fit : goal.returns-in_ok-types-in-Some-clause-fit
returns-in_ok-types-in-Some-clause-fit c =
    let made = type_trees c.import_all.new.ctx.types in
    let source = (trees_of c.args.source.now).types in
    let b = c.in-Some.fields.now in
    let held = subst (λ (o : Option (Bor StructFields)). IfSome o (λ (x : Bor StructFields). All (λ (t : LLVMType). IsHeld (L.type_at source t)) x.now.types)) c.in-Some.is c.requires.held in
    let are = c.in_ok-types-in-Some.ensures.types ∙ ap (map (λ (t : LLVMType). L.type_at source t)) c.as_slice.ensures in
    subst (All (IsFieldOf made source)) (sym c.from_vec.ensures) (fields_fit made source c.in_ok-types-in-Some.types.items b.types are held)

pub returns-in_ok-types-in-Some-clause-fields : goal.returns-in_ok-types-in-Some-clause-fields
returns-in_ok-types-in-Some-clause-fields c =
    let made = type_trees c.import_all.new.ctx.types in
    let source = (trees_of c.args.source.now).types in
    let b = c.in-Some.fields.now in
    let are = c.in_ok-types-in-Some.ensures.types ∙ ap (map (λ (t : LLVMType). L.type_at source t)) c.as_slice.ensures in
    ap Some (fields_stand made source c.in_ok-types-in-Some.types.items c.from_vec.result b c.from_vec.ensures are)
    ∙ ap (option_map (λ (x : Bor StructFields). L.fields_of source x.now)) (sym c.in-Some.is)
