-- What `constants::hoist` owes besides what the check finds.
use Rattle.std.proofs.Common.{◌∷◌, ◌++◌, [], sym, subst}
use Rattle.std.specs.List.{filter_map}
use Rattle.std.proofs.lemmas.Result.{on_ok_weaker}
use Rattle.llvm_core.specs.declared.code.LLVMValue.{LLVMValue}
use Rattle.llvm_core.specs.Data.{trees_of, operand_of}
use Rattle.from_llvm_ir.specs.Imported.{constant_in}
use Rattle.from_llvm_ir.specs.Body.{IsHoisting}
use Rattle.from_llvm_ir.specs.Source.{IsUsed}
use Rattle.dialect_types.specs.Trees.{structs_of}
use Rattle.from_llvm_ir.proofs.ConstLaws.{constant_held, constant_made, constant_ready}
use Rattle.from_llvm_ir.proofs.constants.hoist.Goals as goal

pub hoist_constant-requires-clause-sound : goal.hoist_constant-requires-clause-sound
hoist_constant-requires-clause-sound g c = c.requires.used.2.sound

pub hoist_constant-requires-clause-apart : goal.hoist_constant-requires-clause-apart
hoist_constant-requires-clause-apart g c = c.requires.used.2.apart

pub hoist_constant-requires-clause-hoisting : goal.hoist_constant-requires-clause-hoisting
hoist_constant-requires-clause-hoisting g c = c.requires.hoisting

pub returns-in-Const-clause-kept : goal.returns-in-Const-clause-kept
returns-in-Const-clause-kept g c = c.hoist_constant.ensures.kept

pub returns-in-Const-clause-hoisting : goal.returns-in-Const-clause-hoisting
returns-in-Const-clause-hoisting g c =
    let m = c.args.source.now in
    on_ok_weaker c.hoist_constant.result
    (λ hoisted fr uses h number. subst (λ (v : LLVMValue). IsHoisting fr m c.hoist_constant.new.ctx c.hoist_constant.new.values (uses ++ filter_map constant_in (operand_of (trees_of m) v ∷ []))) (sym c.in-Const.is) (hoisted fr uses h number))
    c.hoist_constant.ensures.hoisting

pub hoist_constant-requires-clause-within : goal.hoist_constant-requires-clause-within
hoist_constant-requires-clause-within g c = let u = c.requires.used in (subst (IsUsed c.args.source.now u.1) c.in-Const.is u.4).valid

pub hoist_constant-requires-clause-held : goal.hoist_constant-requires-clause-held
hoist_constant-requires-clause-held g c =
    let u = c.requires.used in
    let v = subst (IsUsed c.args.source.now u.1) c.in-Const.is u.4 in
    constant_held u.1 _ u.2.held v.usable v.listed

pub hoist_constant-requires-clause-ready : goal.hoist_constant-requires-clause-ready
hoist_constant-requires-clause-ready g c =
    let u = c.requires.used in
    constant_ready u.1 _ (structs_of c.args.ctx.now.types) u.3 (subst (IsUsed c.args.source.now u.1) c.in-Const.is u.4).listed

pub hoist_constant-requires-clause-elements : goal.hoist_constant-requires-clause-elements
hoist_constant-requires-clause-elements g c =
    let u = c.requires.used in
    constant_made u.1 _ (structs_of c.args.ctx.now.types) u.3 (subst (IsUsed c.args.source.now u.1) c.in-Const.is u.4).listed
