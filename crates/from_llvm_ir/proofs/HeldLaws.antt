-- Where the types of a function's values are held, so is each type of it.
use Rattle.std.proofs.Common.{ℕ, zero, suc, ◌≡◌, ◌∙◌, ap, subst, Bool, true, false, cond, if◌then◌else◌, nat_eq, List, [], ◌∷◌, ◌++◌, Some, All, map, slice_get, refl, arith}
use Rattle.std.specs.List.{find, flat_map}
use Rattle.std.specs.Option.{option_map, option_map_or}
use Rattle.std.proofs.lemmas.Option.{slice_get-map}
use Rattle.std.proofs.lemmas.List.Elements.{All-head, All-tail, All-nil, All-cons}
use Rattle.kinds.specs.Types.{types_list, takes_of, result_of, params_of}
use Rattle.kinds.specs.Held.{IsFirstClass, IsHeld, IsHeldResult}
use Rattle.kinds.proofs.HeldLaws.{first_class_own, held_result_own, held_result_void}
use Rattle.llvm_core.specs.Data as L
use Rattle.llvm_core.specs.Data.{TypeTree, TypeTrees, NoTypes, ThenType, VoidType, ConstTree, Placed, Function, Block, const_type, nth_type, operand_type, placed_in}
use Rattle.llvm_core.specs.Form.{IsFormFunction, IsHeldFunction, IsOperand, constant_types}
use Rattle.llvm_core.proofs.DataLemmas.{within_at}
use Rattle.from_llvm_ir.proofs.PlaceLaws.{flat_at}

-- a type of a value
pub held_value_type : (t : TypeTree) → IsHeldResult t → IsFirstClass t → IsHeld t
held_value_type t h first_class = held_result_own t h (first_class_own t first_class)

-- ---- parts of a list

front_all : {X : Type 0} (P : X → Type 0) (xs ys : List X) → All P (xs ++ ys) → All P xs
front_all P [] ys all = All-nil P
front_all P (x ∷ xs) ys all = All-cons P x xs (All-head P x (xs ++ ys) all) (front_all P xs ys (All-tail P x (xs ++ ys) all))

behind_all : {X : Type 0} (P : X → Type 0) (xs ys : List X) → All P (xs ++ ys) → All P ys
behind_all P [] ys all = all
behind_all P (x ∷ xs) ys all = behind_all P xs ys (All-tail P x (xs ++ ys) all)

both_held : (ts : List TypeTree) → All IsHeldResult ts → All IsFirstClass ts → All IsHeld ts
both_held [] h k = All-nil IsHeld
both_held (t ∷ ts) h k = All-cons IsHeld t ts (held_value_type t (All-head IsHeldResult t ts h) (All-head IsFirstClass t ts k)) (both_held ts (All-tail IsHeldResult t ts h) (All-tail IsFirstClass t ts k))

nth_held : (ts : TypeTrees) (i : ℕ) → All IsHeldResult (types_list ts) → IsHeldResult (nth_type ts i)
nth_held NoTypes i h = held_result_void VoidType refl
nth_held (ThenType t ts) zero h = All-head IsHeldResult t (types_list ts) h
nth_held (ThenType t ts) (suc i) h = nth_held ts i (All-tail IsHeldResult t (types_list ts) h)

found_held : (n : ℕ) (ps : List Placed) → All IsHeldResult (map (λ (p : Placed). p.type) ps) → IsHeldResult (option_map_or (λ (p : Placed). p.type) (find (λ (p : Placed). nat_eq p.number n) ps) VoidType)
found_held n [] h = held_result_void VoidType refl
found_held n (p ∷ ps) h = by (nat_eq p.number n) (found_held n ps (All-tail IsHeldResult p.type (map (λ (q : Placed). q.type) ps) h))
  where
    by : (b : Bool) → IsHeldResult (option_map_or (λ (p : Placed). p.type) (find (λ (p : Placed). nat_eq p.number n) ps) VoidType)
        → IsHeldResult (option_map_or (λ (p : Placed). p.type) (cond b (Some p) (find (λ (p : Placed). nat_eq p.number n) ps)) VoidType)
    by true rest = All-head IsHeldResult p.type (map (λ (q : Placed). q.type) ps) h
    by false rest = rest

-- ---- the types of a function

module _ (f : Function) (held : IsHeldFunction f) where
  abbrev results : List TypeTree
  results = map (λ (p : Placed). p.type) (placed_in f)

  abbrev constants : List TypeTree
  constants = flat_map constant_types (placed_in f)

  behind_result : All IsHeldResult (params_of f.type ++ results ++ constants)
  behind_result = All-tail IsHeldResult (result_of f.type) (params_of f.type ++ results ++ constants) held.types

  params_all : All IsHeldResult (params_of f.type)
  params_all = front_all IsHeldResult (params_of f.type) results (front_all IsHeldResult (params_of f.type ++ results) constants behind_result)

  results_all : All IsHeldResult results
  results_all = behind_all IsHeldResult (params_of f.type) results (front_all IsHeldResult (params_of f.type ++ results) constants behind_result)

  pub placed_held : (i : ℕ) (p : Placed) → slice_get (placed_in f) i ≡ Some p → IsHeldResult p.type
  placed_held i p at = within_at results IsHeldResult results_all i p.type (slice_get-map (λ (q : Placed). q.type) (placed_in f) i ∙ ap (option_map (λ (q : Placed). q.type)) at)

module _ (f : Function) (form : IsFormFunction f) (held : IsHeldFunction f) where
  pub returns_held : IsHeldResult form.result
  returns_held = subst (λ (t : TypeTree). IsHeldResult (result_of t)) form.type (All-head IsHeldResult (result_of f.type) (params_of f.type ++ results f held ++ constants f held) held.types)

  pub takes_held : All IsHeld (types_list form.types)
  takes_held = both_held (types_list form.types) (subst (λ (t : TypeTree). All IsHeldResult (params_of t)) form.type (params_all f held)) form.takes

  -- an operand is a parameter, a result or a constant, of which this is known
  operand_by : (o : L.Operand) → ((c : ConstTree) → o ≡ L.Constant c → IsHeldResult (const_type c)) → IsHeldResult (operand_type f o)
  operand_by (L.Constant c) h = h c refl
  operand_by (L.Parameter g i) h = by (nat_eq g f.number)
    where
      by : (b : Bool) → IsHeldResult (if b then L.param_type f.type i else VoidType)
      by true = nth_held (takes_of f.type) i (params_all f held)
      by false = held_result_void VoidType refl
  operand_by (L.Result n) h = found_held n (placed_in f) (results_all f held)

  pub operand_held : (t : TypeTree) (o : L.Operand) → ((c : ConstTree) → o ≡ L.Constant c → IsHeldResult (const_type c)) → IsOperand f t o → IsHeld t
  operand_held t o known h = held_value_type t (subst IsHeldResult h.typed (operand_by o known)) h.first_class

-- the result of an instruction of a block
pub result_held_at : (f : Function) (held : IsHeldFunction f) (place : ℕ) (b : Block) (at : ℕ) (p : Placed) → slice_get f.blocks place ≡ Some b → slice_get b.instructions at ≡ Some p → IsHeldResult p.type
result_held_at f held place b at p here there =
    let k = flat_at (λ (x : Block). x.instructions) f.blocks place b at p here there in
    placed_held f held k.0 p k.1
