-- Where all constants of a function stand in its first block, it sets each before what reads it.
use Rattle.std.proofs.Common.{◌≡◌, ℕ, zero, suc, true, false, List, [], ◌∷◌, ◌++◌, Option, Some, length, map, take, slice_get, refl, sym, ap, subst, ◌∙◌, ⊎_elim}
use Rattle.std.specs.List.{flat_map}
use Rattle.std.specs.Option.{option_map, option_map_or}
use Rattle.std.proofs.lemmas.Bool.{false≢true, or_cases, or_right}
use Rattle.std.proofs.lemmas.Option.{slice_get-map}
use Rattle.support.proofs.ListLaws.{slice_get-kept, all_from, filter_from}
use Rattle.dialect_core.specs.declared.ops.Value.{Value}
use Rattle.dialect_core.specs.declared.ops.Value.TheVariants.{Result, Argument}
use Rattle.dialect_core.specs.declared.ops.Successor.{Successor}
use Rattle.dialect_core.specs.Data.{DialectOp, DialectBlock, Func, ops_in}
use Rattle.dialect_core.specs.Form.{IsFormFunc, HasOnlyEntryConstants, is_constant, ops_before, uses_of}
use Rattle.meaning.specs.Setting.{Setting}
use Rattle.meaning.specs.Dialect as dialect
use Rattle.meaning.specs.Dialect.{same_value}
use Rattle.meaning.specs.Shape.{among}
use Rattle.meaning.specs.Woven.{SetsConstantsFirst}
use Rattle.meaning.proofs.SameValues.{same_value-Decides}
use Rattle.meaning.proofs.ConstantRows.{rows, IsSetBy, reads_set}
use Rattle.to_llvm_ir.specs.Order.{IsTaken, StandsBeforeIn, arranged, turn_of}
use Rattle.to_llvm_ir.specs.Accepted.{IsAccepted}
use Rattle.to_llvm_ir.specs.Exported.{result}
use Rattle.to_llvm_ir.specs.Made.{Numbers}
use Rattle.to_llvm_ir.proofs.ListLaws.{all_at}
use Rattle.to_llvm_ir.proofs.TurnLaws.{turn_is, taken_at}
use Rattle.to_llvm_ir.proofs.LookupLaws.{op_of_block, entry_at, first_is_entry}
use Rattle.to_llvm_ir.proofs.PlanLaws.{constants_of, plan, among_at, no_argument}

-- what rows set is the result of one of their operations
among_from : (setting : Setting) (g : Func) (os : List DialectOp) (w : Value) → among (rows setting g os) w ≡ true → (i : ℕ) × (o : DialectOp) × (slice_get os i ≡ Some o) × (result o ≡ w)
among_from setting g [] w m = absurd (false≢true m)
among_from setting g (o ∷ os) w m = ⊎_elim
    (λ here. (0, o, refl, (same_value-Decides (result o) w).0 here))
    (λ later. let r = among_from setting g os w later in (suc r.0, r.1, r.2, r.3))
    (or_cases (same_value (result o) w) (among (rows setting g os) w) m)

-- an operation sets its result
sets_result : (setting : Setting) (g : Func) (os : List DialectOp) (i : ℕ) (o : DialectOp) (w : Value) → slice_get os i ≡ Some o → result o ≡ w → among (rows setting g os) w ≡ true
sets_result setting g os i o w at is = subst (λ (v : Value). among (rows setting g os) v ≡ true) is (among_at setting g os i o.number o at refl)

-- no operations stand before a first block
none_before : (bs : List DialectBlock) → flat_map (λ (b : DialectBlock). b.ops) (take 0 bs) ≡ []
none_before [] = refl
none_before (b ∷ bs) = refl

module _ (setting : Setting) (g : Func) (form : IsFormFunc g) (n : Numbers) (taken : IsTaken g n.order) where
  -- a constant is an operation of the entry
  in_entry : HasOnlyEntryConstants g → (i : ℕ) (o : DialectOp) → slice_get (constants_of g) i ≡ Some o → (k : ℕ) × (slice_get form.entry.ops k ≡ Some o)
  in_entry only i o at =
      let f = filter_from is_constant (ops_in g) i o at in
      let b = op_of_block g.blocks f.0 o f.1 in
      by b.0 b.1 b.2 b.3 b.4 f.2
    where
      by : (j k : ℕ) (c : DialectBlock) → slice_get g.blocks j ≡ Some c → slice_get c.ops k ≡ Some o → is_constant o ≡ true → (k : ℕ) × (slice_get form.entry.ops k ≡ Some o)
      by zero k c here there con = (k, ap (λ (x : DialectBlock). slice_get x.ops k) (sym (first_is_entry g form c here)) ∙ there)
      by (suc j) k c here there con = absurd (false≢true (sym (all_at (λ (o : DialectOp). is_constant o ≡ false) c.ops k o (only j c here) there) ∙ con))

  entry_sets : HasOnlyEntryConstants g → (w : Value) → among (rows setting g (constants_of g)) w ≡ true → among (rows setting g form.entry.ops) w ≡ true
  entry_sets only w m =
      let r = among_from setting g (constants_of g) w m in
      let k = in_entry only r.0 r.1 r.2 in
      sets_result setting g form.entry.ops k.0 r.1 w k.1 r.3

  -- the entry is the first in the order of the export, so what stands before an operation of it stands in it
  before_entry : (k : ℕ) → ops_before (arranged n.order g) (turn_of n.order 0) k ≡ take k form.entry.ops
  before_entry k =
      let first = arranged n.order g in
      ap (λ (j : ℕ). ops_before first j k) (turn_is (length g.blocks) n.order taken.once 0 0 taken.entry_first)
      ∙ ap (λ (o : Option DialectBlock). flat_map (λ (b : DialectBlock). b.ops) (take 0 first.blocks) ++ option_map_or (λ (b : DialectBlock). take k b.ops) o []) (taken_at g.blocks n.order taken.once 0 0 form.entry taken.entry_first (entry_at g form))
      ∙ ap (λ (os : List DialectOp). os ++ take k form.entry.ops) (none_before first.blocks)

  -- where a use of the entry is of a constant, an operation before it sets that
  is_set : (k : ℕ) (v : Value) → StandsBeforeIn n.order g 0 k v → IsSetBy setting g (plan setting g form n taken.once) [] (take k form.entry.ops) v
  is_set k (Argument b i) stands m = absurd (no_argument setting g (constants_of g) b i m)
  is_set k (Result r) stands m =
      let there : slice_get (take k form.entry.ops) stands.0 ≡ Some stands.1 = ap (λ (os : List DialectOp). slice_get os stands.0) (sym (before_entry k)) ∙ stands.2 in
      or_right (among [] (Result r)) (among (rows setting g (take k form.entry.ops)) (Result r)) (sets_result setting g (take k form.entry.ops) stands.0 stands.1 (Result r) there (ap (λ (m : ℕ). Result (record { 0 = m })) stands.3))

  pub sets_first : IsAccepted n.order g → HasOnlyEntryConstants g → SetsConstantsFirst (plan setting g form n taken.once) (map (dialect.block setting g) g.blocks)
  sets_first accepted only = record {
    entry = dialect.block setting g form.entry;
    first = slice_get-map (dialect.block setting g) g.blocks 0 ∙ ap (option_map (dialect.block setting g)) (entry_at g form);
    sets = entry_sets only;
    reads = reads_set setting g (plan setting g form n taken.once) form.entry.ops [] (λ k o at. all_from (IsSetBy setting g (plan setting g form n taken.once) [] (take k form.entry.ops)) o.operands (λ i v there.
        let uses = ((accepted.blocks 0 form.entry (entry_at g form)).ops k o at).uses in
        is_set k v (all_at (StandsBeforeIn n.order g 0 k) (uses_of o) i v uses (slice_get-kept o.operands (flat_map (λ (s : Successor). s.args) o.successors) i v there))));
  }
