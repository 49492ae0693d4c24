-- The goals of `module::unnamed` that the tactics leave.
use Rattle.std.proofs.Common.{◌≡◌, ◌<◌, ◌+◌, ℕ, List, [], ◌∷◌, ◌++◌, length, map, take, ap, sym, ◌∙◌}
use Rattle.std.proofs.lemmas.List.{map-append, take_more}
use Rattle.llvm_core.specs.declared.numbers.LLVMType.{LLVMType}
use Rattle.llvm_core.proofs.module.unnamed.Goals as goal

-- one more item for one more type
one_more : (names new : List (List ℕ)) (name : List ℕ) (types : List LLVMType) (i : ℕ) → i < length types → names ≡ map (λ _. []) (take i types) → new ≡ names ++ name ∷ [] → name ≡ [] → new ≡ map (λ _. []) (take (i + 1) types)
one_more names new name types i lt before pushed none =
    let nothing : LLVMType → List ℕ = λ _. [] in
    let d : LLVMType = record { 0 = 0 } in
    pushed ∙ ap (λ xs. xs ++ name ∷ []) before ∙ ap (λ n. map nothing (take i types) ++ n ∷ []) none
    ∙ sym (ap (map nothing) (take_more types i d lt) ∙ map-append nothing (take i types) _)

pub loop-ty-preserved : goal.loop-ty-preserved
loop-ty-preserved c =
    one_more c.loop-ty.names _ _ c.args.types.now c.loop-ty._ty-index c.loop-ty-test.true c.loop-ty.invariant c.in_ok-push.ensures.ok c.empty.ensures
