-- What `building::new_func` owes besides what the check finds.
use Rattle.std.proofs.Common.{◌≡◌, false, rules}
use Rattle.std.specs.Str.{bytes_eq}
use Rattle.from_llvm_ir.proofs.FuncLaws.{data_named, func_named, kept_some, symbol_new}
use Rattle.from_llvm_ir.proofs.KeepLaws.{keeps_new}
use Rattle.from_llvm_ir.proofs.building.new_func.Goals as goal

pub set_llvm_symbol_name-requires : goal.set_llvm_symbol_name-requires
set_llvm_symbol_name-requires c = symbol_new c.args.ctx.now c.create_func.new.self c.in_ok-func.func.0 c.args.name c.args.ty c.in_ok-func.ensures.ok c.in_ok-func.ensures.number

pub returns-in_err-set_llvm_symbol_name-clause-kept : goal.returns-in_err-set_llvm_symbol_name-clause-kept
returns-in_err-set_llvm_symbol_name-clause-kept c = λ n b.
    rw c.in_err-set_llvm_symbol_name.ensures.err (keeps_new n b c.args.ctx.now c.create_func.new.self _ c.in_ok-func.ensures.ok c.in_ok-func.ensures.data c.in_ok-func.ensures.typed)

pub returns-in_ok-set_llvm_symbol_name-clause-ok : goal.returns-in_ok-set_llvm_symbol_name-clause-ok
returns-in_ok-set_llvm_symbol_name-clause-ok c =
    let other : bytes_eq c.args.llvm_name.now c.args.name ≡ false = search rules in
    rw (kept_some c.args.llvm_name.now c.args.name other)
    (func_named c.args.ctx.now c.create_func.new.self c.set_llvm_symbol_name.new.self c.in_ok-func.func.0 c.args.name c.args.llvm_name.now c.args.ty c.in_ok-func.ensures.ok c.in_ok-func.ensures.number c.in_ok-set_llvm_symbol_name.ensures.ok)

pub returns-in_ok-set_llvm_symbol_name-clause-data : goal.returns-in_ok-set_llvm_symbol_name-clause-data
returns-in_ok-set_llvm_symbol_name-clause-data c = λ m small.
    data_named c.args.ctx.now _ _ m c.in_ok-func.func.0 c.args.llvm_name.now (c.in_ok-func.ensures.data m small) c.in_ok-func.ensures.number (c.in_ok-set_llvm_symbol_name.ensures.data m)

pub returns-in_ok-set_llvm_symbol_name-clause-kept : goal.returns-in_ok-set_llvm_symbol_name-clause-kept
returns-in_ok-set_llvm_symbol_name-clause-kept c = λ n b.
    keeps_new n b c.args.ctx.now c.set_llvm_symbol_name.new.self _
    (func_named c.args.ctx.now c.create_func.new.self c.set_llvm_symbol_name.new.self c.in_ok-func.func.0 c.args.name c.args.llvm_name.now c.args.ty c.in_ok-func.ensures.ok c.in_ok-func.ensures.number c.in_ok-set_llvm_symbol_name.ensures.ok)
    (λ m small. data_named c.args.ctx.now _ _ m c.in_ok-func.func.0 c.args.llvm_name.now (c.in_ok-func.ensures.data m small) c.in_ok-func.ensures.number (c.in_ok-set_llvm_symbol_name.ensures.data m))
    (λ typed. c.in_ok-set_llvm_symbol_name.ensures.typed (c.in_ok-func.ensures.typed typed))

pub returns-else-not-same-clause-kept : goal.returns-else-not-same-clause-kept
returns-else-not-same-clause-kept c = λ n b. keeps_new n b c.args.ctx.now c.create_func.new.self _ c.in_ok-func.ensures.ok c.in_ok-func.ensures.data c.in_ok-func.ensures.typed
