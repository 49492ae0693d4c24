-- What `importing::start_module` owes besides what the check finds.
use Rattle.std.proofs.Common.{ℕ, List, [], ◌∷◌, None, ap, subst, ◌∙◌, arith}
use Rattle.dialect_types.specs.Legalised.{Gave}
use Rattle.dialect_core.specs.Data.{DialectModule, with_func_block}
use Rattle.from_llvm_ir.specs.Naming.{HasMet}
use Rattle.from_llvm_ir.proofs.NameLaws.{met_one}
use Rattle.from_llvm_ir.proofs.ModuleLaws.{module_holds, module_op, started}
use Rattle.from_llvm_ir.proofs.KeepLaws.{keeps_new, keeps_same, keeps_then}
use Rattle.from_llvm_ir.proofs.importing.start_module.Goals as goal

pub add_bare_block-requires-clause-holder : goal.add_bare_block-requires-clause-holder
add_bare_block-requires-clause-holder c = module_holds c.args.ctx.now c.create_module.new.self c.in_ok-module.«module».0 c.in_ok-name.name c.in_ok-module.ensures.ok c.in_ok-module.ensures.number

pub returns-clause-building : goal.returns-clause-building
returns-clause-building c =
    let o = c.in_ok-module.«module».0 in
    let is = c.in_ok-body.ensures.data o.0 ∙ ap (λ (d : DialectModule). with_func_block d o.0 (record { number = c.in_ok-body.body.0; label = None; args = []; ops = [] })) c.in_ok-module.ensures.«module» in
    (c.in_ok-name.name, subst (λ (n : List ℕ). Gave c.legalise.new.self n c.in_ok-name.name) c.name.ensures c.in_ok-name.ensures.given.here, started c.args.ctx.now c.create_module.new.self c.add_bare_block.new.ctx o c.in_ok-body.body c.in_ok-name.name c.in_ok-module.ensures.ok c.in_ok-module.ensures.number c.in_ok-body.ensures.ok c.in_ok-body.ensures.number is c.in_ok-body.ensures.bare)

pub returns-clause-block : goal.returns-clause-block
returns-clause-block c = rw c.in_ok-module.ensures.ok at c.in_ok-body.ensures.number

pub returns-in_err-module-clause-kept : goal.returns-in_err-module-clause-kept
returns-in_err-module-clause-kept c = λ n b long. keeps_same n b c.args.ctx.now c.create_module.new.self c.in_err-module.ensures.err

pub returns-in_err-body-clause-kept : goal.returns-in_err-body-clause-kept
returns-in_err-body-clause-kept c = λ n b long.
    keeps_then n b c.args.ctx.now c.create_module.new.self c.add_bare_block.new.ctx (keeps_new n b c.args.ctx.now c.create_module.new.self (module_op c.in_ok-name.name) c.in_ok-module.ensures.ok c.in_ok-module.ensures.data c.in_ok-module.ensures.typed)
    (c.add_bare_block.ensures.kept n b (omega (arith, long, c.in_ok-module.ensures.number)))

pub returns-clause-kept : goal.returns-clause-kept
returns-clause-kept c = λ n b long.
    keeps_then n b c.args.ctx.now c.create_module.new.self c.add_bare_block.new.ctx (keeps_new n b c.args.ctx.now c.create_module.new.self (module_op c.in_ok-name.name) c.in_ok-module.ensures.ok c.in_ok-module.ensures.data c.in_ok-module.ensures.typed)
    (c.add_bare_block.ensures.kept n b (omega (arith, long, c.in_ok-module.ensures.number)))

pub returns-clause-number : goal.returns-clause-number
returns-clause-number c = c.in_ok-module.ensures.number

pub returns-clause-met : goal.returns-clause-met
returns-clause-met c = subst (λ (n : List ℕ). HasMet c.args.names.now c.legalise.new.self (n ∷ [])) c.name.ensures (met_one c.args.names.now c.legalise.new.self c.name.result.now c.in_ok-name.name c.in_ok-name.ensures.given)
