-- The numbers of values: of each block its first.
use Rattle.std.proofs.Common.{◌≡◌, ◌<◌, ◌+◌, ℕ, suc, List, [], ◌∷◌, ◌++◌, Some, length, take, slice_get, get_or, refl, sym, ap, ◌∙◌, arith, ⊎_elim}
use Rattle.std.specs.Option.{option_map}
use Rattle.std.proofs.lemmas.Bool.{cases_eq}
use Rattle.std.proofs.lemmas.Option.{slice_get_within, slice_get-get_or}
use Rattle.std.proofs.lemmas.List.{length_push}
use Rattle.support.proofs.ListLaws.{slice_get-push, slice_get-kept}
use Rattle.dialect_types.specs.declared.types.TypeHandle.{TypeHandle}
use Rattle.dialect_core.specs.declared.numbers.BlockRef.{BlockRef}
use Rattle.dialect_core.specs.declared.numbers.OpRef.{OpRef}
use Rattle.dialect_core.specs.declared.ops.BlockData.{BlockData}
use Rattle.dialect_core.specs.Lists.{list_at}
use Rattle.dialect_core.specs.ContextData.{ContextData}
use Rattle.dialect_core.specs.Data.{DialectOp, DialectBlock, Func}
use Rattle.to_llvm_ir.specs.Made.{number_past, number_after, number_behind}
use Rattle.to_llvm_ir.specs.States.{first_at}
use Rattle.to_llvm_ir.specs.Ordering.{AreBlocksOf, ops_of}
use Rattle.to_llvm_ir.proofs.ListLaws.{take_suc}
use Rattle.to_llvm_ir.proofs.ContextLaws.{block_parts, args_count}
use Rattle.to_llvm_ir.proofs.FormLaws.{past_append}
use Rattle.to_llvm_ir.proofs.OrderingLaws.{ops_more}

pub behind_append : (k : ℕ) (xs ys : List DialectOp) → number_behind k (xs ++ ys) ≡ number_behind (number_behind k xs) ys
behind_append k [] ys = refl
behind_append k (x ∷ xs) ys = behind_append (number_after x.result k) xs ys

pub behind_more : (c : ContextData) (ops : List OpRef) (i : ℕ) (d : OpRef) (k old new : ℕ) → i < length ops → old ≡ number_behind k (ops_of c (take i ops)) → new ≡ number_behind old (ops_of c (get_or ops i d ∷ [])) → new ≡ number_behind k (ops_of c (take (i + 1) ops))
behind_more c ops i d k old new lt before after =
    after ∙ ap (λ (j : ℕ). number_behind j (ops_of c (get_or ops i d ∷ []))) before ∙ sym (behind_append k (ops_of c (take i ops)) (ops_of c (get_or ops i d ∷ []))) ∙ ap (number_behind k) (sym (ops_more c ops i d lt))

-- the first blocks have their first numbers, and the next block has that number
abbrev pub AreNumberedTo : Func → ℕ → ℕ → List ℕ → Type 0
AreNumberedTo g i next numbers = (next ≡ first_at g i) × (length numbers ≡ i) × ((j : ℕ) → j < i → slice_get numbers j ≡ Some (first_at g j))

pub numbered_more : (c : ContextData) (g : Func) (bs : List BlockRef) (i : ℕ) (d : BlockRef) (next start after : ℕ) (ts : List TypeHandle) (ops : List OpRef) (old new : List ℕ) → AreBlocksOf c g bs → i < length bs → option_map (λ (x : BlockData). x.args) (slice_get c.blocks (get_or bs i d).0) ≡ Some ts
    → start ≡ next + length ts → ops ≡ list_at c.lists (get_or bs i d) → after ≡ number_behind start (ops_of c ops) → new ≡ old ++ next ∷ [] → AreNumberedTo g i next old → AreNumberedTo g (i + 1) after new
numbered_more c g bs i d next start after ts ops old new h lt args start_is are after_is pushed before =
    let b = get_or bs i d in
    let block = h.each i b (slice_get-get_or bs i d lt) in
    let parts = block_parts c b block.0 block.1.is in
    let count = args_count c b block.0 ts parts args in
    let begins : start ≡ first_at g i + length block.0.args = let e = before.0 in omega (arith, start_is, count, e) in
    let one : i + 1 ≡ suc i = omega arith in
    let next_is : first_at g (i + 1) ≡ number_behind (first_at g i + length block.0.args) block.0.ops =
    ap (first_at g) one ∙ ap (number_past 0) (take_suc g.blocks i block.0 block.1.here) ∙ past_append 0 (take i g.blocks) (block.0 ∷ []) in (
      after_is ∙ ap (λ (k : ℕ). number_behind k (ops_of c ops)) begins ∙ ap (number_behind (first_at g i + length block.0.args)) (ap (ops_of c) are ∙ sym parts.ops) ∙ sym next_is,
      ap (λ (xs : List ℕ). length xs) pushed ∙ (let e = length_push old next in let k = before.1 in omega (arith, e, k)),
      λ j less. ap (λ (xs : List ℕ). slice_get xs j) pushed ∙ ⊎_elim
          (λ same. slice_get-push old next j (let k = before.1 in omega (arith, same, k)) ∙ ap Some (before.0 ∙ ap (first_at g) (sym same)))
          (λ differs. slice_get-kept old (next ∷ []) j (first_at g j) (before.2 j (omega (arith, less, differs))))
          (cases_eq j i),
    )

pub numbered_all : (c : ContextData) (g : Func) (bs : List BlockRef) (i next : ℕ) (numbers : List ℕ) → AreBlocksOf c g bs → AreNumberedTo g i next numbers → length bs ≡ i → (j : ℕ) (b : DialectBlock) → slice_get g.blocks j ≡ Some b → slice_get numbers j ≡ Some (first_at g j)
numbered_all c g bs i next numbers h to end j b at = to.2 j (let lt = slice_get_within g.blocks j b at in let k = h.count in omega (arith, lt, k, end))
