-- What `adding::declare` owes besides what the check finds.
use Rattle.std.proofs.Common.{ℕ, ap, sym, ◌∙◌, length}
use Rattle.std.specs.Option.{option_map_or}
use Rattle.std.proofs.Common.{List, Option, []}
use Rattle.ll_lines.specs.declared.lines.Param.{Param}
use Rattle.llvm_core.specs.declared.code.FunctionData.{FunctionData}
use Rattle.llvm_core.specs.Module.{Module}
use Rattle.llvm_core.specs.Data.{data_of, trees_of, with_function}
use Rattle.ll_bodies.specs.AddingViews.{names_in, with_params, function_with}
use Rattle.ll_bodies.proofs.AddingLaws.{declared_data, there_blank, next_of}
use Rattle.ll_bodies.proofs.adding.declare.Goals as goal

pub name_params-requires : goal.name_params-requires
name_params-requires c =
    let y = there_blank c.args.module.now c.add_function.new.self c.in_ok-f.f c.args.name.now c.args.ty c.args.said.now.result c.args.said.now.params.items c.in_ok-f.ensures.number c.requires.ty c.in_ok-f.ensures.ok in
    ap (λ (ps : List Param). length ps) c.as_slice.ensures.value ∙ sym (ap (λ (o : Option FunctionData). length (option_map_or (λ (x : FunctionData). x.params) o [])) y.1 ∙ y.3)

pub returns-clause-next : goal.returns-clause-next
returns-clause-next c =
    let m = c.args.module.now in
    let y = there_blank m c.add_function.new.self c.in_ok-f.f c.args.name.now c.args.ty c.args.said.now.result c.args.said.now.params.items c.in_ok-f.ensures.number c.requires.ty c.in_ok-f.ensures.ok in
    next_of m c.add_function.new.self c.name_params.new.module c.in_ok-f.f c.args.ty c.args.said.now c.in_ok-name_params.ensures.renames
    (ap (λ (k : Module). k.types) c.in_ok-f.ensures.ok) (ap (λ (k : Module). k.blocks) c.in_ok-f.ensures.ok) (ap (λ (k : Module). k.insts) c.in_ok-f.ensures.ok) c.requires.ty y

pub returns-clause-data : goal.returns-clause-data
returns-clause-data c =
    let m = c.args.module.now in
    let e = declared_data m (data_of c.add_function.new.self) (data_of c.name_params.new.module) c.args.bytes.now c.in_ok-f.f.0 c.args.name.now c.args.ty c.args.said.now c.requires.sound c.in_ok-f.ensures.number c.requires.ty c.in_ok-f.ensures.data
    (c.in_ok-name_params.ensures.data ∙ ap (λ (ps : List Param). with_params (data_of c.add_function.new.self) c.in_ok-f.f.0 0 (names_in c.args.bytes.now ps)) c.as_slice.ensures.value) in
    e ∙ ap (λ (k : ℕ). with_function (data_of m) (function_with c.args.bytes.now (trees_of m) k c.args.name.now c.args.said.now [])) c.in_ok-f.ensures.number
