-- The constants that instructions use are the same under other numbers, and so they are made as they were.
use Rattle.std.proofs.Common.{◌≡◌, ℕ, suc, ◌+◌, List, [], ◌∷◌, ◌++◌, length, map, All, refl, ap, sym, ◌∙◌, subst}
use Rattle.std.specs.List.{flat_map}
use Rattle.std.proofs.lemmas.List.Concat.{flat_map-append}
use Rattle.std.proofs.lemmas.List.Elements.{All-map, All-weaker}
use Rattle.kinds.specs.Structs.{Struct}
use Rattle.llvm_core.specs.Data.{TypeTree, Operand, Constant, Parameter, Result, Instruction, Phi, Applied, Placed, Function, placed_in}
use Rattle.llvm_core.specs.Form.{operands_of, constant_type, constant_types, IsMadeOperand, HasMadeOperands}
use Rattle.ll_said.specs.Numbered.{Numbers, operand_to, entry_to, instruction_to, placed_to, function_to, numbers_from, functions_from}
use Rattle.ll_said.proofs.RenumberLaws.{placed_mapped}

module _ (to : Numbers) where
  constant_same : (o : Operand) → constant_type (operand_to to o) ≡ constant_type o
  constant_same (Constant c) = refl
  constant_same (Parameter g i) = refl
  constant_same (Result n) = refl

  operands_same : (os : List Operand) → flat_map constant_type (map (operand_to to) os) ≡ flat_map constant_type os
  operands_same [] = refl
  operands_same (o ∷ os) = let one = constant_same o in let more = operands_same os in λ i. one i ++ more i

  entries_same : (es : List (Operand × ℕ)) → flat_map constant_type (operands_of (Phi (map (entry_to to) es))) ≡ flat_map constant_type (operands_of (Phi es))
  entries_same [] = refl
  entries_same (e ∷ es) = let one = constant_same e.0 in let more = entries_same es in λ i. one i ++ more i

  instruction_same : (x : Instruction) → flat_map constant_type (operands_of (instruction_to to x)) ≡ flat_map constant_type (operands_of x)
  instruction_same (Phi es) = entries_same es
  instruction_same (Applied r) = operands_same r.operands

  placed_same : (ps : List Placed) → flat_map constant_types (map (placed_to to) ps) ≡ flat_map constant_types ps
  placed_same [] = refl
  placed_same (p ∷ ps) = let one = instruction_same p.instruction in let more = placed_same ps in λ i. one i ++ more i

-- those of functions one after another
pub twins_constants : (f b n : ℕ) (xs : List Function) → flat_map constant_types (flat_map placed_in (functions_from f b n xs)) ≡ flat_map constant_types (flat_map placed_in xs)
twins_constants f b n [] = refl
twins_constants f b n (x ∷ xs) =
    let to = numbers_from f b n x in
    let rest = flat_map placed_in (functions_from (suc f) (b + length x.blocks) (n + length (placed_in x)) xs) in
    let first = ap (flat_map constant_types) (placed_mapped to x.blocks) ∙ placed_same to (placed_in x) in
    flat_map-append constant_types (placed_in (function_to to x)) rest
    ∙ ap (λ (ts : List TypeTree). ts ++ flat_map constant_types rest) first
    ∙ ap (λ (ts : List TypeTree). flat_map constant_types (placed_in x) ++ ts) (twins_constants (suc f) (b + length x.blocks) (n + length (placed_in x)) xs)
    ∙ sym (flat_map-append constant_types (placed_in x) (flat_map placed_in xs))

-- ---- of which elements they are made

-- what each item keeps under a change
all_mapped : {X : Type 0} (P : X → Type 0) (f : X → X) → ((x : X) → P x → P (f x)) → (xs : List X) → All P xs → All P (map f xs)
all_mapped P f keeps xs h = All-map P f xs (All-weaker P (λ x. P (f x)) keeps xs h)

module _ (structs : List Struct) (to : Numbers) where
  operand_made : (o : Operand) → IsMadeOperand structs o → IsMadeOperand structs (operand_to to o)
  operand_made (Constant c) h = h
  operand_made (Parameter g i) h = tt
  operand_made (Result n) h = tt

  operands_made : (os : List Operand) → All (IsMadeOperand structs) os → All (IsMadeOperand structs) (map (operand_to to) os)
  operands_made os h = all_mapped (IsMadeOperand structs) (operand_to to) operand_made os h

  entries_made : (es : List (Operand × ℕ)) → All (IsMadeOperand structs) (operands_of (Phi es)) → All (IsMadeOperand structs) (operands_of (Phi (map (entry_to to) es)))
  entries_made es h = subst (All (IsMadeOperand structs)) (sym (entry_operands es)) (operands_made (operands_of (Phi es)) h)
    where
      entry_operands : (es : List (Operand × ℕ)) → operands_of (Phi (map (entry_to to) es)) ≡ map (operand_to to) (operands_of (Phi es))
      entry_operands [] = refl
      entry_operands (e ∷ es) = ap (λ (os : List Operand). operand_to to e.0 ∷ os) (entry_operands es)

  instruction_made : (x : Instruction) → All (IsMadeOperand structs) (operands_of x) → All (IsMadeOperand structs) (operands_of (instruction_to to x))
  instruction_made (Phi es) h = entries_made es h
  instruction_made (Applied r) h = operands_made r.operands h

  pub twin_made : (x : Function) → HasMadeOperands structs x → HasMadeOperands structs (function_to to x)
  twin_made x h =
      let Made : Placed → Type 0 = λ p. All (IsMadeOperand structs) (operands_of p.instruction) in
      subst (All Made) (sym (placed_mapped to x.blocks)) (all_mapped Made (placed_to to) (λ p g. instruction_made p.instruction g) (placed_in x) h)
