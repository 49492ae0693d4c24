-- In the scope of the whole function, each parameter, block and result is known under what the text says of it.
use Rattle.std.proofs.Common.{◌≡◌, ℕ, zero, suc, nat_eq, List, [], ◌∷◌, map, slice_get, Option, Some, refl, ap, sym, ◌∙◌, subst, eq-eqb, ne_eqb, arith}
use Rattle.std.specs.List.{find}
use Rattle.std.specs.Option.{option_map, option_map_or}
use Rattle.std.proofs.lemmas.Option.{slice_get-map, same_Some}
use Rattle.support.specs.Interned.{IsDistinctList}
use Rattle.support.proofs.ListLaws.{from_joined}
use Rattle.kinds.specs.Names.{IsGoodOrNone}
use Rattle.llvm_core.specs.Data.{VoidType, Parameter, Result, Placed, Block, Function, operand_type, placed_in, param_type}
use Rattle.llvm_core.specs.Form.{IsFormPlaced, IsFormBlock, IsFormFunction}
use Rattle.llvm_core.proofs.DataLemmas.{within_at}
use Rattle.ll_literals.specs.Text.{Text}
use Rattle.ll_bodies.specs.Scopes.{Numbered, Local, ValueLocal, BlockLocal, Scope, empty_scope}
use Rattle.ll_said.specs.Naming.{Unnamed, ParamAt, BlockOf, ResultOf, local_text, result_name, block_ref}
use Rattle.ll_said.specs.Sayable.{IsSayable}
use Rattle.ll_said.proofs.NameLaws.{key_in}
use Rattle.ll_said.proofs.PositionLaws.{position}
use Rattle.ll_said.proofs.ScopeLaws.{Thing, Has, names, key_among, after, known_under}
use Rattle.ll_said.proofs.ThingLaws.{things, AllNameResults, unnamed_of_things, names_of_things}

-- what each parameter, block and result of it stands for
abbrev pub local_of : Function → Unnamed → Local
local_of f (ParamAt i) = ValueLocal (Parameter f.number i) (param_type f.type i)
local_of f (BlockOf b) = BlockLocal b
local_of f (ResultOf n) = ValueLocal (Result n) (operand_type f (Result n))

-- the scope after some definitions, and that after all of them
abbrev pub scope_after : Function → List Thing → Scope
scope_after f ts = after (local_of f) empty_scope ts

abbrev pub scope_of : Function → Scope
scope_of f = scope_after f (things f)

-- ---- the instructions of the function

-- each is one of the form, in some block
pub form_at : (f : Function) → IsFormFunction f → (i : ℕ) (p : Placed) → slice_get (placed_in f) i ≡ Some p → (n : ℕ) × IsFormPlaced f n p
form_at f h i p at =
    let s = from_joined (λ (b : Block). b.instructions) f.blocks i p at in
    let block = within_at f.blocks (IsFormBlock f) h.blocks s.0 s.2 s.3 in
    (s.2.number, within_at s.2.instructions (IsFormPlaced f s.2.number) block.instructions s.1 p s.4)

pub placed_name : (f : Function) → IsFormFunction f → (i : ℕ) (p : Placed) → slice_get (placed_in f) i ≡ Some p → IsGoodOrNone p.name
placed_name f h i p at = (form_at f h i p at).1.name

names_results : (f : Function) → IsFormFunction f → AllNameResults f.blocks
names_results f h i b listed j p at =
    let block = within_at f.blocks (IsFormBlock f) h.blocks i b listed in
    (within_at b.instructions (IsFormPlaced f b.number) block.instructions j p at).unnamed

-- ---- things by their numbers

-- the item of a number is the one that has it
pub found : {X : Type 0} (number : X → ℕ) (xs : List X) → IsDistinctList (map number xs) → (i : ℕ) (x : X) → slice_get xs i ≡ Some x → find (λ y. nat_eq (number y) (number x)) xs ≡ Some x
found number [] d i x at = absurd cc
found number (y ∷ xs) d zero x at = let same : y ≡ x = same_Some y x at in rw (eq-eqb (number y) (number x) (ap number same)) at
found number (y ∷ xs) d (suc i) x at =
    let there : slice_get (map number xs) i ≡ Some (number x) = slice_get-map number xs i ∙ ap (option_map number) at in
    let others = λ (k j n : ℕ) (a : slice_get (map number xs) k ≡ Some n) (b : slice_get (map number xs) j ≡ Some n). let e : suc k ≡ suc j = d (suc k) (suc j) n a b in let g : k ≡ j = omega arith in g in
    rw (ne_eqb (number y) (number x) (λ same. let e : suc i ≡ 0 = d (suc i) 0 (number x) there (ap (λ (n : ℕ). Some n) same) in absurd (omega (arith, e)))) (found number xs others i x at)

placed_found : (f : Function) → IsFormFunction f → (i : ℕ) (p : Placed) → slice_get (placed_in f) i ≡ Some p → find (λ (x : Placed). nat_eq x.number p.number) (placed_in f) ≡ Some p
placed_found f h i p at = found (λ (x : Placed). x.number) (placed_in f) h.numbers i p at

-- the type and the name of a result
pub type_of_result : (f : Function) → IsFormFunction f → (i : ℕ) (p : Placed) → slice_get (placed_in f) i ≡ Some p → operand_type f (Result p.number) ≡ p.type
type_of_result f h i p at = ap (λ (o : Option Placed). option_map_or (λ (x : Placed). x.type) o VoidType) (placed_found f h i p at)

pub name_of_result : (f : Function) → IsFormFunction f → (i : ℕ) (p : Placed) → slice_get (placed_in f) i ≡ Some p → result_name f p.number ≡ p.name
name_of_result f h i p at = ap (λ (o : Option Placed). option_map_or (λ (x : Placed). x.name) o []) (placed_found f h i p at)

-- a block is spoken of by its name or its number
pub block_ref_is : (f : Function) → IsFormFunction f → (i : ℕ) (b : Block) → slice_get f.blocks i ≡ Some b → block_ref f b.number ≡ local_text f b.name (BlockOf b.number)
block_ref_is f h i b at = ap (λ (o : Option Block). local_text f (option_map_or (λ (x : Block). x.name) o []) (BlockOf b.number)) (found (λ (x : Block). x.number) f.blocks h.block_numbers i b at)

-- ---- what is known

pub key_is : (f : Function) (n : Text) (x : Unnamed) → key_among (things f) n x ≡ key_in f n x
key_is f [] x = ap (λ (xs : List Unnamed). Numbered (position x xs)) (unnamed_of_things f)
key_is f (c ∷ cs) x = refl

-- the final scope knows each thing under the key that its text says
pub known_key : (f : Function) → IsSayable f → (t : Thing) → Has t (things f) → (scope_of f).known (key_in f t.name t.place) ≡ Some (local_of f t.place)
known_key f h t has =
    let distinct : IsDistinctList (names (things f)) = subst (λ (ns : List Text). IsDistinctList ns) (sym (names_of_things f (names_results f h.form))) h.names in
    ap (scope_of f).known (sym (key_is f t.name t.place)) ∙ known_under (local_of f) (things f) t has distinct
