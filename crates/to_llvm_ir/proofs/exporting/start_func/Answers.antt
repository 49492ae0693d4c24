-- The function has the type and the LLVM name of the dialect's.
use Rattle.std.proofs.Common.{◌≡◌, ◌∙◌, ◌<◌, length, sym, ap, subst}
use Rattle.std.specs.Option.{option_map}
use Rattle.std.proofs.lemmas.Option.{same_Some}
use Rattle.support.proofs.ResultLaws.{all_three}
use Rattle.kinds.specs.Held.{IsHeldSignature, IsShallow}
use Rattle.dialect_types.specs.declared.types.TypeHandle.{TypeHandle}
use Rattle.dialect_types.specs.Trees.{type_at, type_trees}
use Rattle.dialect_core.specs.declared.ops.Symbol.{Symbol}
use Rattle.to_llvm_ir.specs.Growth.{IsTypeOf}
use Rattle.to_llvm_ir.proofs.ContextLaws.{func_parts}
use Rattle.to_llvm_ir.proofs.StartedLaws.{started}
use Rattle.to_llvm_ir.proofs.exporting.start_func.Goals as goal

pub symbol_type-requires : goal.symbol_type-requires
symbol_type-requires c = let p = func_parts c.args.ctx.now c.args.op c.requires.form.0 c.requires.form.1 in (p.symbol, p.symbol_is)

pub function_type-requires-clause-within : goal.function_type-requires-clause-within
function_type-requires-clause-within c =
    let p = func_parts c.args.ctx.now c.args.op c.requires.form.0 c.requires.form.1 in
    let same : p.symbol.ty ≡ c.symbol_type.result = same_Some p.symbol.ty c.symbol_type.result (ap (option_map (λ (s : Symbol). s.ty)) (sym p.symbol_is) ∙ c.symbol_type.ensures) in
    subst (λ (t : TypeHandle). t.0 < length c.args.ctx.now.types) same (p.type_there c.requires.typed)

pub function_type-requires-clause-form : goal.function_type-requires-clause-form
function_type-requires-clause-form c =
    let p = func_parts c.args.ctx.now c.args.op c.requires.form.0 c.requires.form.1 in
    let form = c.requires.form.2.0 in
    let same : p.symbol.ty ≡ c.symbol_type.result = same_Some p.symbol.ty c.symbol_type.result (ap (option_map (λ (s : Symbol). s.ty)) (sym p.symbol_is) ∙ c.symbol_type.ensures) in
    subst (λ (t : TypeHandle). IsHeldSignature (type_at (type_trees c.args.ctx.now.types) t)) same (record { result = form.result; params = form.types; is = sym p.type ∙ form.type; returns = form.returns; takes = form.takes; shallow = subst IsShallow p.type form.shallow })

pub returns : goal.returns
returns c = λ g func_is form order taken.
    let p = func_parts c.args.ctx.now c.args.op g func_is in
    let same : p.symbol.ty ≡ c.symbol_type.result = same_Some p.symbol.ty c.symbol_type.result (ap (option_map (λ (s : Symbol). s.ty)) (sym p.symbol_is) ∙ c.symbol_type.ensures) in
    let type = c.in_ok-ty.ensures in
    let function = c.add_function.ensures in
    let typed = subst (IsTypeOf c.function_type.new.back c.in_ok-ty.ty) (ap (type_at (type_trees c.args.ctx.now.types)) (sym same) ∙ sym p.type) type.tree in
    all_three c.add_function.result function.number function.ok function.data
    (λ f number added made.
    started c.args.ctx.now c.args.op g form order taken c.args.back.now c.function_type.new.back c.add_function.new.self c.in_ok-ty.ty f c.llvm_name_of.result.now c.requires.structs func_is
    (record {
      rest = type.rest;
      same = type.data;
      sound = type.sound;
      typed = typed;
      number = number;
      added = added;
      made = made;
      sound_end = function.sound;
    })
    (c.llvm_name_of.ensures ∙ sym p.name))
