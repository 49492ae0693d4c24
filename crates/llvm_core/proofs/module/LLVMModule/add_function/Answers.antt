-- The goals of `module::LLVMModule::add_function` that the tactics leave.
use Rattle.llvm_core.proofs.SoundLemmas.{function_added, declared_in}
use Rattle.std.proofs.Common.{◌≡◌, IsTrue, map, [], ap, sym, subst, ◌∙◌, refl}
use Rattle.std.proofs.lemmas.Option.{slice_get_within, same_Some}
use Rattle.std.specs.Option.{option_map_or}
use Rattle.llvm_core.specs.Code.{code_of, with_code, with_function}
use Rattle.llvm_core.specs.Parts.{is_function, kind_params, type_params}
use Rattle.llvm_core.specs.contracts.module.LLVMModule.{the_view}
use Rattle.llvm_core.proofs.CallLemmas.{function_data}
use Rattle.llvm_core.proofs.module.LLVMModule.add_function.Goals as goal
use Rattle.llvm_core.proofs.module.LLVMModule.add_function.Goals.{In_ok-f}

pub invariant_of-self : goal.invariant_of-self
invariant_of-self c = rw c.in_err-f.ensures.err c.self.invariant

pub returns-in_err-f-clause-sound : goal.returns-in_err-f-clause-sound
returns-in_err-f-clause-sound c = invariant_of-self c

pub invariant_of-self-2 : goal.invariant_of-self-2
invariant_of-self-2 c =
    let typed = rw (← c.self.view_is) at c.requires in
    let names = rw c.params_of.ensures at c.in_ok-params.ensures in
    rw c.in_ok-f.ensures.ok
    (function_added _ _ c.self.invariant (declared_in _ c.args.name.now c.args.ty c.args.space c.in_ok-params.params c.value.result.now typed c.value.ensures names) refl)

pub returns-clause-sound : goal.returns-clause-sound
returns-clause-sound c = invariant_of-self-2 c

-- there is an empty name for each parameter of the type
names_are : (c : In_ok-f) → c.in_ok-params.params ≡ map (λ _. []) (type_params c.self.inside.types c.args.ty)
names_are c =
    let names = rw c.params_of.ensures at c.in_ok-params.ensures in
    names ∙ ap (λ o. map (λ _. []) (option_map_or kind_params o [])) (sym c.value.ensures)

pub returns-clause-ok : goal.returns-clause-ok
returns-clause-ok c =
    let m = the_view c.self.inside in
    rw (← c.self.view_is, c.in_ok-f.ensures.ok)
    (ap (λ names. with_code m (with_function (code_of m) (record { name = c.args.name.now; ty = c.args.ty; space = c.args.space; params = names; blocks = [] }))) (names_are c))

pub returns-clause-data : goal.returns-clause-data
returns-clause-data c =
    rw (← c.self.view_is, c.in_ok-f.ensures.ok)
    (function_data (the_view c.self.inside) c.in_ok-f.f.0 c.args.name.now c.args.ty c.args.space c.in_ok-params.params _ c.in_ok-f.ensures.number (names_are c))

pub value-requires : goal.value-requires
value-requires c =
    let typed = rw (← c.self.view_is) at c.requires in
    slice_get_within c.self.inside.types c.args.ty.0 typed.0 typed.1

pub params_of-requires : goal.params_of-requires
params_of-requires c =
    let typed = rw (← c.self.view_is) at c.requires in
    subst (λ k. IsTrue (is_function k)) (same_Some typed.0 c.value.result.now (sym typed.1 ∙ c.value.ensures)) typed.2
