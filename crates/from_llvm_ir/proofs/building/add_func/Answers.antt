-- What `building::add_func` owes besides what the check finds.
use Rattle.std.proofs.Common.{refl, ap, ◌∙◌}
use Rattle.dialect_core.specs.ContextData.{ContextData}
use Rattle.from_llvm_ir.specs.Imported.{kept_name}
use Rattle.from_llvm_ir.proofs.BuildLaws.{stands_func, added_func, func_here, is_func}
use Rattle.from_llvm_ir.proofs.KeepLaws.{keeps_func}
use Rattle.from_llvm_ir.proofs.building.add_func.Goals as goal

pub insert_at_back-requires-clause-stands : goal.insert_at_back-requires-clause-stands
insert_at_back-requires-clause-stands g c =
    let stands = stands_func c.args.ctx.now c.new_func.new.ctx c.args.body c.in_ok-func.func.0 c.args.name (kept_name c.args.llvm_name.now c.args.name) c.args.ty c.requires.module.0 c.requires.module.1 c.requires.module.2 c.in_ok-func.ensures.ok c.in_ok-func.ensures.number in
    record { no_module = λ e. let no : ⊥ = cc (stands.0, e) in no; func_in_module = λ e. stands.1 }

pub returns-clause-building : goal.returns-clause-building
returns-clause-building g c = λ m d h.
    added_func c.args.ctx.now c.new_func.new.ctx c.insert_at_back.new.self m c.args.body d c.in_ok-func.func.0 c.args.name (kept_name c.args.llvm_name.now c.args.name) c.args.ty h
    c.in_ok-func.ensures.ok c.in_ok-func.ensures.number (c.in_ok-func.ensures.data m h.there) c.requires.ty c.insert_at_back.ensures.appended c.insert_at_back.ensures.data_func

pub returns-clause-func : goal.returns-clause-func
returns-clause-func g c =
    is_func c.args.ctx.now c.new_func.new.ctx c.insert_at_back.new.self c.args.body c.in_ok-func.func.0 c.args.name (kept_name c.args.llvm_name.now c.args.name) c.args.ty c.in_ok-func.ensures.ok c.in_ok-func.ensures.number c.insert_at_back.ensures.appended

pub returns-in_err-func-clause-kept : goal.returns-in_err-func-clause-kept
returns-in_err-func-clause-kept g c = λ m d h n b before behind. c.new_func.ensures.kept n b

pub returns-clause-kept : goal.returns-clause-kept
returns-clause-kept g c = λ m d h n b before behind.
    let c0 = c.args.ctx.now in
    let c1 = c.new_func.new.ctx in
    let f = func_here c0 c1 c.in_ok-func.func.0 c.args.name (kept_name c.args.llvm_name.now c.args.name) c.args.ty c.in_ok-func.ensures.ok c.in_ok-func.ensures.number in
    keeps_func n b c0 c1 c.insert_at_back.new.self m c.args.body d _ c.in_ok-func.func.0 h c.keeps_regions.ensures before behind c.in_ok-func.ensures.ok c.in_ok-func.ensures.number c.in_ok-func.ensures.data c.insert_at_back.ensures.appended
    (c.insert_at_back.ensures.data_other _ f) (λ typed. c.insert_at_back.ensures.typed (c.in_ok-func.ensures.typed typed))

pub insert_at_back-requires-clause-free : goal.insert_at_back-requires-clause-free
insert_at_back-requires-clause-free g c = c.in_ok-func.ensures.free

pub insert_at_back-requires-clause-block : goal.insert_at_back-requires-clause-block
insert_at_back-requires-clause-block g c = rw c.in_ok-func.ensures.ok c.requires.«module».2.held.block

pub returns-clause-blocks : goal.returns-clause-blocks
returns-clause-blocks g c = rw (c.insert_at_back.ensures.appended, c.in_ok-func.ensures.ok) refl

pub returns-clause-types : goal.returns-clause-types
returns-clause-types g c = ap (λ (x : ContextData). x.types) c.insert_at_back.ensures.appended ∙ c.new_func.ensures.types

pub returns-in_err-func-clause-types : goal.returns-in_err-func-clause-types
returns-in_err-func-clause-types g c = c.new_func.ensures.types

pub returns-clause-number : goal.returns-clause-number
returns-clause-number g c = c.in_ok-func.ensures.number
