-- Functions that differ in numbers alone are both of the form, or neither is.
use Rattle.std.proofs.Common.{◌≡◌, ◌-◌, ℕ, zero, suc, Bool, false, not, ◌&&◌, ◌||◌, is_some, List, [], ◌∷◌, length, take, slice_get, Option, Some, refl, ap, sym, ◌∙◌, subst, eq-eqb, All, unwrap_or, arith}
use Rattle.std.specs.List.{AllZip, AllByRecursion, list_any}
use Rattle.std.specs.Option.{option_map_or}
use Rattle.std.proofs.lemmas.List.Elements.{All-from_recursion, recursion_from_All}
use Rattle.kinds.specs.declared.op.Op.{Op}
use Rattle.kinds.specs.declared.rules.Takes.{Takes}
use Rattle.kinds.specs.declared.rules.Takes.TheVariants as O
use Rattle.kinds.specs.Types.{result_of}
use Rattle.kinds.specs.Held.{is_void, IsFirstClass, IsReturned, IsShallow}
use Rattle.kinds.specs.Rules.{ends, target_count, operand_count}
use Rattle.kinds.specs.Table.{rule_of}
use Rattle.kinds.specs.Typing.{fits_trees, typed}
use Rattle.kinds.specs.Names.{is_good_name, is_intrinsic_name, IsGoodOrNone}
use Rattle.llvm_core.specs.Data as L
use Rattle.llvm_core.specs.Data.{TypeTree, VoidType, Operand, Constant, Parameter, Result, RowData, Instruction, Phi, Applied, Placed, Block, operand_type, param_type, placed_in}
use Rattle.llvm_core.specs.Checked.{ends_in_only}
use Rattle.support.specs.Interned.{IsDistinctList}
use Rattle.llvm_core.specs.Form.{IsOperandOf, IsOperand, IsTarget, returns_void, types_of, IsReturning, IsFormRow, IsFormInstruction, IsFormPlaced, is_last, is_terminator, HasPhisFirst, IsFormBlock, IsFormFunction}
use Rattle.ll_said.proofs.KnownLaws.{found}
use Rattle.ll_said.proofs.PairLaws.{block_numbers, result_numbers}
use Rattle.ll_said.proofs.PairLaws.{SameBlock, SameResult, OperandsAlike, EntriesAlike, RowAlike, CodeAlike, PlacedAlike, BlocksAlike, FunctionsAlike, placed_alike}
use Rattle.ll_said.proofs.ZipLaws.{zip_length, zip_right, zip_left}
use Rattle.ll_said.proofs.AlikeEdges.{unmapped_at, mapped_at, target_alike, fits_alike}

-- ---- lists side by side

all_zip : {X Y : Type 0} (R : X → Y → Type 0) (P : X → Type 0) (Q : Y → Type 0) → ((x : X) (y : Y) → R x y → P x → Q y) → (xs : List X) (ys : List Y) → AllZip R xs ys → AllByRecursion P xs → AllByRecursion Q ys
all_zip R P Q step [] [] h all = tt
all_zip R P Q step [] (y ∷ ys) h all = elim h [ ]
all_zip R P Q step (x ∷ xs) [] h all = elim h [ ]
all_zip R P Q step (x ∷ xs) (y ∷ ys) h all = (step x y h.0 all.0, all_zip R P Q step xs ys h.1 all.1)

-- what holds of all items of a list, and passes from each to that at its place
pub each_alike : {X Y : Type 0} (R : X → Y → Type 0) (P : X → Type 0) (Q : Y → Type 0) → ((x : X) (y : Y) → R x y → P x → Q y) → (xs : List X) (ys : List Y) → AllZip R xs ys → All P xs → All Q ys
each_alike R P Q step xs ys h all = All-from_recursion Q ys (all_zip R P Q step xs ys h (recursion_from_All P xs all))

module _ {X : Type 0} (R : X → X → Type 0) (p : X → Bool) (same : (x y : X) → R x y → p x ≡ p y) where
  test_at : (i : ℕ) (xs ys : List X) → AllZip R xs ys → option_map_or p (slice_get xs i) false ≡ option_map_or p (slice_get ys i) false
  test_at i [] [] h = refl
  test_at i [] (y ∷ ys) h = elim h [ ]
  test_at i (x ∷ xs) [] h = elim h [ ]
  test_at zero (x ∷ xs) (y ∷ ys) h = same x y h.0
  test_at (suc i) (x ∷ xs) (y ∷ ys) h = test_at i xs ys h.1

  any_front : (i : ℕ) (xs ys : List X) → AllZip R xs ys → list_any p (take i xs) ≡ list_any p (take i ys)
  any_front zero xs ys h = refl
  any_front (suc i) [] [] h = refl
  any_front (suc i) [] (y ∷ ys) h = elim h [ ]
  any_front (suc i) (x ∷ xs) [] h = elim h [ ]
  any_front (suc i) (x ∷ xs) (y ∷ ys) h = ap (λ (b : Bool). b || list_any p (take i xs)) (same x y h.0) ∙ ap (λ (b : Bool). p y || b) (any_front i xs ys h.1)

  ends_same : (xs ys : List X) → AllZip R xs ys → ends_in_only p xs ≡ ends_in_only p ys
  ends_same xs ys h =
      let counts = zip_length R xs ys h in
      ap (λ (b : Bool). b && not (list_any p (take (length xs - 1) xs))) (test_at (length xs - 1) xs ys h)
      ∙ ap (λ (b : Bool). option_map_or p (slice_get ys (length xs - 1)) false && not b) (any_front (length xs - 1) xs ys h)
      ∙ ap (λ (n : ℕ). option_map_or p (slice_get ys (n - 1)) false && not (list_any p (take (n - 1) ys))) counts

-- ---- functions

module _ (g h : L.Function) (alike : FunctionsAlike g h) (here : IsDistinctList (block_numbers g)) (there : IsDistinctList (block_numbers h)) (left : IsDistinctList (result_numbers g)) (right : IsDistinctList (result_numbers h)) where
  -- ---- operands

  -- instructions under paired numbers
  pub record ResultsAt (a b : ℕ) : Type 0 where
    pub one : Placed
    pub other : Placed
    pub place : ℕ
    pub one_there : slice_get (placed_in g) place ≡ Some one
    pub other_there : slice_get (placed_in h) place ≡ Some other
    pub one_number : one.number ≡ a
    pub other_number : other.number ≡ b
    pub pair : PlacedAlike g h one other

  pub results_at : (a b : ℕ) → SameResult g h a b → ResultsAt a b
  results_at a b r =
      let p = unmapped_at (λ (p : Placed). p.number) (placed_in g) r.place a r.left in
      let q = zip_left (PlacedAlike g h) (placed_in g) (placed_in h) (placed_alike g h alike) r.place p.0 p.1 in
      let number : Some q.0.number ≡ Some b = sym (mapped_at (λ (p : Placed). p.number) (placed_in h) r.place q.0 q.1) ∙ r.right in
      record { one = p.0; other = q.0; place = r.place; one_there = p.1; other_there = q.1; one_number = p.2; other_number = let same : q.0.number ≡ b = cc in same; pair = q.2 }

  stands_alike : (o p : Operand) → OperandsAlike g h o p → IsOperandOf g o → IsOperandOf h p
  stands_alike (Constant c) p x s = subst (IsOperandOf h) (sym x) s
  stands_alike (Parameter f i) p x s =
      let count = ap (λ (ns : List (List ℕ)). length ns) alike.params in
      let less = s.1 in
      subst (IsOperandOf h) (sym x.1) (refl, omega (arith, count, less))
  stands_alike (Result a) p x s = let r = results_at a x.0 x.2 in subst (IsOperandOf h) (sym x.1) (r.place, r.other, r.other_there, r.other_number)

  -- the type of the result of an instruction, by its number
  result_typed : (f : L.Function) → IsDistinctList (result_numbers f) → (k : ℕ) (p : Placed) (n : ℕ) → slice_get (placed_in f) k ≡ Some p → p.number ≡ n → operand_type f (Result n) ≡ p.type
  result_typed f distinct k p n at number =
      subst (λ (n : ℕ). operand_type f (Result n) ≡ p.type) number (ap (λ (o : Option Placed). option_map_or (λ (x : Placed). x.type) o VoidType) (found (λ (p : Placed). p.number) (placed_in f) distinct k p at))

  pub types_alike : (o p : Operand) → OperandsAlike g h o p → operand_type g o ≡ operand_type h p
  types_alike (Constant c) p x = sym (ap (operand_type h) x)
  types_alike (Parameter f i) p x =
      let one : operand_type g (Parameter f i) ≡ param_type g.type i = rw (eq-eqb f g.number x.0) refl in
      let other : operand_type h (Parameter h.number i) ≡ param_type h.type i = rw (eq-eqb h.number h.number refl) refl in
      one ∙ ap (λ (t : TypeTree). param_type t i) alike.type ∙ sym other ∙ sym (ap (operand_type h) x.1)
  types_alike (Result a) p x =
      let r = results_at a x.0 x.2 in
      result_typed g left r.place r.one a r.one_there r.one_number ∙ r.pair.type ∙ sym (result_typed h right r.place r.other x.0 r.other_there r.other_number) ∙ sym (ap (operand_type h) x.1)

  operand_alike : (t : TypeTree) (o p : Operand) → OperandsAlike g h o p → IsOperand g t o → IsOperand h t p
  operand_alike t o p x s = record { stands = stands_alike o p x s.stands; typed = sym (types_alike o p x) ∙ s.typed; first_class = s.first_class }

  -- ---- instructions

  returned : result_of g.type ≡ result_of h.type
  returned = ap result_of alike.type

  types_same : (os ps : List Operand) → AllZip (OperandsAlike g h) os ps → types_of g os ≡ types_of h ps
  types_same [] [] pairs = refl
  types_same [] (p ∷ ps) pairs = elim pairs [ ]
  types_same (o ∷ os) [] pairs = elim pairs [ ]
  types_same (o ∷ os) (p ∷ ps) pairs = let one = types_alike o p pairs.0 in let more = types_same os ps pairs.1 in cc (one, more)

  -- a line for each word
  returning_alike : (takes : Takes) (os ps : List Operand) → AllZip (OperandsAlike g h) os ps → IsReturning takes g os → IsReturning takes h ps
  returning_alike O.Nothing os ps pairs s = tt
  returning_alike (O.One x) os ps pairs s = tt
  returning_alike (O.Two x y) os ps pairs s = tt
  returning_alike (O.Three x y z) os ps pairs s = tt
  returning_alike O.Return os ps pairs s =
      each_alike (OperandsAlike g h) (λ (o : Operand). operand_type g o ≡ result_of g.type) (λ (p : Operand). operand_type h p ≡ result_of h.type) (λ o p x e. sym (types_alike o p x) ∙ e ∙ returned) os ps pairs s

  row_alike : (t : TypeTree) (r s : RowData) → RowAlike g h r s → IsFormRow g t r → IsFormRow h t s
  row_alike t r s pair form =
      let op = pair.op in
      let written = pair.written in
      let types = types_same r.operands s.operands pair.operands in
      let fits : fits_trees r.op r.written (types_of g r.operands) ≡ fits_trees s.op s.written (types_of h s.operands) = λ i. fits_trees (op i) (written i) (types i) in
      let result : unwrap_or (typed r.op r.written (types_of g r.operands)) VoidType ≡ unwrap_or (typed s.op s.written (types_of h s.operands)) VoidType = λ i. unwrap_or (typed (op i) (written i) (types i)) VoidType in
      let count : operand_count (rule_of r.op).takes (returns_void g) ≡ operand_count (rule_of s.op).takes (returns_void h) = λ i. operand_count (rule_of (op i)).takes (is_void (returned i)) in
      record {
        operands = each_alike (OperandsAlike g h) (IsOperandOf g) (IsOperandOf h) stands_alike r.operands s.operands pair.operands form.operands;
        first_class = subst (All IsFirstClass) types form.first_class;
        count = sym (zip_length (OperandsAlike g h) r.operands s.operands pair.operands) ∙ form.count ∙ count;
        fits = sym fits ∙ form.fits;
        returns = subst (λ (x : Op). IsReturning (rule_of x).takes h s.operands) op (returning_alike (rule_of r.op).takes r.operands s.operands pair.operands form.returns);
        result = form.result ∙ result;
        targets = each_alike (SameBlock g h) (IsTarget g) (IsTarget h) (target_alike g h alike here there) r.targets s.targets pair.targets form.targets;
        leads = sym (zip_length (SameBlock g h) r.targets s.targets pair.targets) ∙ form.leads ∙ ap (λ (x : Op). target_count (rule_of x).leads) op;
      }

  form_alike : (a b : ℕ) (t : TypeTree) (x y : Instruction) → SameBlock g h a b → CodeAlike g h x y → IsFormInstruction g a t x → IsFormInstruction h b t y
  form_alike a b t (Phi es) (Phi ds) at code s =
      let operands = each_alike (EntriesAlike g h) (λ (e : Operand × ℕ). IsOperand g t e.0) (λ (e : Operand × ℕ). IsOperand h t e.0) (λ v w e o. operand_alike t v.0 w.0 e.0 o) es ds code s.0 in
      (operands, fits_alike g h alike here there left a b es ds at code s.1, s.2)
  form_alike a b t (Applied r) (Applied q) at code s = row_alike t r q code s
  form_alike a b t (Phi es) (Applied q) at code s = elim code [ ]
  form_alike a b t (Applied r) (Phi ds) at code s = elim code [ ]

  placed_form : (a b : ℕ) (p q : Placed) → SameBlock g h a b → PlacedAlike g h p q → IsFormPlaced g a p → IsFormPlaced h b q
  placed_form a b p q at pair form = record {
    instruction = subst (λ (t : TypeTree). IsFormInstruction h b t q.instruction) pair.type (form_alike a b p.type p.instruction q.instruction at pair.code form.instruction);
    returned = subst IsReturned pair.type form.returned;
    name = subst IsGoodOrNone pair.name form.name;
    unnamed = λ void. sym pair.name ∙ form.unnamed (pair.type ∙ void);
  }

  -- ---- blocks

  last_same : (x y : Instruction) → CodeAlike g h x y → is_terminator x ≡ is_terminator y
  last_same (Phi es) (Phi ds) p = refl
  last_same (Applied r) (Applied q) p = ap (λ (x : Op). ends (rule_of x).leads) p.op
  last_same (Phi es) (Applied q) p = elim p [ ]
  last_same (Applied r) (Phi ds) p = elim p [ ]

  -- what tells a phi
  abbrev tells_phi : Instruction → Bool
  tells_phi x = is_some (L.phi_entries x)

  phi_same : (x y : Instruction) → CodeAlike g h x y → tells_phi x ≡ tells_phi y
  phi_same (Phi es) (Phi ds) p = refl
  phi_same (Applied r) (Applied q) p = refl
  phi_same (Phi es) (Applied q) p = elim p [ ]
  phi_same (Applied r) (Phi ds) p = elim p [ ]

  phis_alike : (ps qs : List Placed) → AllZip (PlacedAlike g h) ps qs → HasPhisFirst ps → HasPhisFirst qs
  phis_alike ps qs each first i j x y less at also none =
      let v = zip_right (PlacedAlike g h) ps qs each i x at in
      let w = zip_right (PlacedAlike g h) ps qs each j y also in
      sym (phi_same w.0.instruction y.instruction w.2.code) ∙ first i j v.0 w.0 less v.1 w.1 (phi_same v.0.instruction x.instruction v.2.code ∙ none)

  block_alike : (c d : Block) → BlocksAlike g h c d → IsFormBlock g c → IsFormBlock h d
  block_alike c d pair form = record {
    label = subst IsGoodOrNone pair.name form.label;
    instructions = each_alike (PlacedAlike g h) (IsFormPlaced g c.number) (IsFormPlaced h d.number) (λ p q x s. placed_form c.number d.number p q pair.number x s) c.instructions d.instructions pair.instructions form.instructions;
    phis = phis_alike c.instructions d.instructions pair.instructions form.phis;
    ends = sym (ends_same (PlacedAlike g h) is_last (λ p q x. last_same p.instruction q.instruction x.code) c.instructions d.instructions pair.instructions) ∙ form.ends;
  }

  no_blocks : (cs ds : List Block) → AllZip (BlocksAlike g h) cs ds → ds ≡ [] → cs ≡ []
  no_blocks [] ds x e = refl
  no_blocks (c ∷ cs) [] x e = elim x [ ]
  no_blocks (c ∷ cs) (d ∷ ds) x e = absurd cc

  -- ---- functions

  pub function_alike : IsFormFunction g → IsFormFunction h
  function_alike form =
      let count = ap (λ (ns : List (List ℕ)). length ns) alike.params in
      record {
        name = ap is_good_name (sym alike.name) ∙ form.name;
        own = ap is_intrinsic_name (sym alike.name) ∙ form.own;
        result = form.result;
        types = form.types;
        type = sym alike.type ∙ form.type;
        returns = form.returns;
        takes = form.takes;
        shallow = subst IsShallow alike.type form.shallow;
        space = sym alike.space ∙ form.space;
        params = sym count ∙ form.params;
        param_names = subst (λ (ns : List (List ℕ)). All IsGoodOrNone ns) alike.params form.param_names;
        body = λ none. form.body (no_blocks g.blocks h.blocks alike.blocks none);
        blocks = each_alike (BlocksAlike g h) (IsFormBlock g) (IsFormBlock h) block_alike g.blocks h.blocks alike.blocks form.blocks;
        block_numbers = there;
        numbers = right;
      }
