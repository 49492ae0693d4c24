-- Blocks, operations and values of a function of the form, looked up by their numbers.
use Rattle.std.proofs.Common.{◌≡◌, ◌+◌, ℕ, zero, suc, true, false, not, nat_eq, List, [], ◌∷◌, Option, Some, length, slice_get, refl, sym, ap, ◌∙◌, arith, ⊎_elim, eq-eqb, ne_eqb}
use Rattle.std.specs.List.{flat_map, find}
use Rattle.std.specs.Option.{option_map_or, option_and_then}
use Rattle.std.proofs.lemmas.Option.{same_Some, none-some, option_and_then_some}
use Rattle.support.proofs.ListLaws.{slice_get-kept, slice_get-behind, slice_get-behind_cases, filter_at}
use Rattle.dialect_types.specs.Trees.{NamedStruct, TypeTree}
use Rattle.dialect_core.specs.declared.numbers.BlockRef.{BlockRef}
use Rattle.dialect_core.specs.declared.numbers.OpRef.{OpRef}
use Rattle.dialect_core.specs.declared.ops.Value.TheVariants.{Result, Argument}
use Rattle.dialect_core.specs.Data.{DialectOp, DialectBlock, Func, ops_in, value_type}
use Rattle.dialect_core.specs.Form.{IsFormFunc, IsFormBlock, IsFormOp, is_constant, others_of, IsRuled, IsRuledKind}
use Rattle.meaning.specs.Dialect.{place_of}
use Rattle.to_llvm_ir.specs.Functions.{HasRules}
use Rattle.to_llvm_ir.proofs.ConstLaws.{HasRuledKind}
use Rattle.to_llvm_ir.specs.Made.{is_entry}
use Rattle.to_llvm_ir.proofs.ListLaws.{all_at, find_numbered, found_numbered, position_numbered}

-- ---- the operations of blocks

-- an operation of a block is one of all
pub op_among : (cs : List DialectBlock) (j k : ℕ) (c : DialectBlock) (o : DialectOp) → slice_get cs j ≡ Some c → slice_get c.ops k ≡ Some o → (i : ℕ) × (slice_get (flat_map (λ (c : DialectBlock). c.ops) cs) i ≡ Some o)
op_among [] j k c o at at' = absurd (none-some c at)
op_among (d ∷ cs) zero k c o at at' = (k, slice_get-kept d.ops (flat_map (λ (c : DialectBlock). c.ops) cs) k o (ap (λ (x : DialectBlock). slice_get x.ops k) (same_Some d c at) ∙ at'))
op_among (d ∷ cs) (suc j) k c o at at' = let r = op_among cs j k c o at at' in (length d.ops + r.0, slice_get-behind d.ops (flat_map (λ (c : DialectBlock). c.ops) cs) r.0 ∙ r.1)

-- one of all is an operation of a block
pub op_of_block : (cs : List DialectBlock) (i : ℕ) (o : DialectOp) → slice_get (flat_map (λ (c : DialectBlock). c.ops) cs) i ≡ Some o → (j : ℕ) × (k : ℕ) × (c : DialectBlock) × (slice_get cs j ≡ Some c) × (slice_get c.ops k ≡ Some o)
op_of_block [] i o at = absurd (none-some o at)
op_of_block (d ∷ cs) i o at = ⊎_elim
    (λ here. (0, i, d, refl, here))
    (λ later. let r = op_of_block cs later.0 o later.2 in (suc r.0, r.1, r.2, r.3, r.4))
    (slice_get-behind_cases d.ops (flat_map (λ (c : DialectBlock). c.ops) cs) i o at)

-- ---- values by their places

pub other_at : (os : List DialectOp) (k : ℕ) (o : DialectOp) → slice_get os k ≡ Some o → is_constant o ≡ false → (i : ℕ) × (slice_get (others_of os) i ≡ Some o)
other_at os k o at other = filter_at (λ (o : DialectOp). not (is_constant o)) os k o at (ap not other)

-- the constant of an operation keeps the rules where those of its function do
pub op_kept : (structs : List NamedStruct) (g : Func) → IsRuled structs g → (j k : ℕ) (c : DialectBlock) (o : DialectOp) → slice_get g.blocks j ≡ Some c → slice_get c.ops k ≡ Some o → IsRuledKind structs o.kind
op_kept structs g ruled j k c o at at' = let i = op_among g.blocks j k c o at at' in all_at (λ (o : DialectOp). IsRuledKind structs o.kind) (ops_in g) i.0 o ruled i.1

pub op_ruled : (g : Func) → HasRules g → (j k : ℕ) (c : DialectBlock) (o : DialectOp) → slice_get g.blocks j ≡ Some c → slice_get c.ops k ≡ Some o → HasRuledKind o.kind
op_ruled g ruled j k c o at at' = (ruled.0, op_kept ruled.0 g ruled.1 j k c o at at')

-- ---- what the form says

module _ (g : Func) (form : IsFormFunc g) where
  pub block_form : (j : ℕ) (c : DialectBlock) → slice_get g.blocks j ≡ Some c → IsFormBlock g c
  block_form j c at = all_at (IsFormBlock g) g.blocks j c form.blocks at

  pub op_form : (j k : ℕ) (c : DialectBlock) (o : DialectOp) → slice_get g.blocks j ≡ Some c → slice_get c.ops k ≡ Some o → IsFormOp g o
  op_form j k c o at at' = all_at (IsFormOp g) c.ops k o (block_form j c at).ops at'

  pub block_found : (j b : ℕ) (c : DialectBlock) → slice_get g.blocks j ≡ Some c → c.number ≡ b → find (λ (x : DialectBlock). nat_eq x.number b) g.blocks ≡ Some c
  block_found j b c at is = find_numbered (λ (x : DialectBlock). x.number) g.blocks j b c form.block_numbers at is

  pub argument_type : (j i : ℕ) (b : BlockRef) (c : DialectBlock) → slice_get g.blocks j ≡ Some c → c.number ≡ b.0 → value_type g (Argument b i) ≡ slice_get c.args i
  argument_type j i b c at is = ap (option_and_then (λ (x : DialectBlock). slice_get x.args i)) (block_found j b.0 c at is)

  pub op_found : (j k r : ℕ) (c : DialectBlock) (o : DialectOp) → slice_get g.blocks j ≡ Some c → slice_get c.ops k ≡ Some o → o.number ≡ r → find (λ (x : DialectOp). nat_eq x.number r) (ops_in g) ≡ Some o
  op_found j k r c o at at' is = let i = op_among g.blocks j k c o at at' in find_numbered (λ (x : DialectOp). x.number) (ops_in g) i.0 r o form.numbers i.1 is

  pub result_type : (j k : ℕ) (r : OpRef) (c : DialectBlock) (o : DialectOp) → slice_get g.blocks j ≡ Some c → slice_get c.ops k ≡ Some o → o.number ≡ r.0 → value_type g (Result r) ≡ o.result
  result_type j k r c o at at' is = ap (option_and_then (λ (x : DialectOp). x.result)) (op_found j k r.0 c o at at' is)

  pub place_is : (j b : ℕ) (c : DialectBlock) → slice_get g.blocks j ≡ Some c → c.number ≡ b → place_of g.blocks b ≡ j
  place_is j b c at is =
      ap (λ (o : Option ℕ). option_map_or (λ i. i) o (length g.blocks)) (position_numbered (λ (x : DialectBlock). x.number) g.blocks j b 0 c form.block_numbers at is) ∙ (let e : 0 + j ≡ j = omega arith in e)

  pub entry_at : slice_get g.blocks 0 ≡ Some form.entry
  entry_at = ap (λ (bs : List DialectBlock). slice_get bs 0) form.body

  pub first_is_entry : (c : DialectBlock) → slice_get g.blocks 0 ≡ Some c → c ≡ form.entry
  first_is_entry c at = same_Some c form.entry (sym at ∙ entry_at)

  pub entry_is : (b : ℕ) (c : DialectBlock) → slice_get g.blocks 0 ≡ Some c → c.number ≡ b → is_entry g b ≡ true
  entry_is b c at is = ap (λ (o : Option DialectBlock). option_map_or (λ (x : DialectBlock). nat_eq x.number b) o false) at ∙ eq-eqb c.number b is

  pub entry_is_not : (j b : ℕ) (c : DialectBlock) → slice_get g.blocks (suc j) ≡ Some c → c.number ≡ b → is_entry g b ≡ false
  entry_is_not j b c at is =
      ap (λ (o : Option DialectBlock). option_map_or (λ (x : DialectBlock). nat_eq x.number b) o false) entry_at
      ∙ ne_eqb form.entry.number b (λ e. let k : 0 ≡ suc j = form.block_numbers 0 (suc j) form.entry c entry_at at (e ∙ sym is) in omega (arith, k))

  -- ---- where a typed value stands

  pub record IsArgumentOf (b : BlockRef) (i : ℕ) (t : TypeTree) : Type 0 where
    pub place : ℕ
    pub block : DialectBlock
    pub here : slice_get g.blocks place ≡ Some block
    pub number : block.number ≡ b.0
    pub type : slice_get block.args i ≡ Some t

  pub argument_of : (b : BlockRef) (i : ℕ) (t : TypeTree) → value_type g (Argument b i) ≡ Some t → IsArgumentOf b i t
  argument_of b i t e = option_and_then_some (λ (x : DialectBlock). slice_get x.args i) (find (λ (x : DialectBlock). nat_eq x.number b.0) g.blocks) t e (λ c at type.
      let f = found_numbered (λ (x : DialectBlock). x.number) g.blocks b.0 c at in
      let r : IsArgumentOf b i t = record { place = f.0; block = c; here = f.1; number = f.2; type = type } in
      r)

  pub record IsResultOf (r : OpRef) (t : TypeTree) : Type 0 where
    pub place : ℕ
    pub block : DialectBlock
    pub here : slice_get g.blocks place ≡ Some block
    pub at : ℕ
    pub op : DialectOp
    pub there : slice_get block.ops at ≡ Some op
    pub number : op.number ≡ r.0
    pub type : op.result ≡ Some t

  pub result_of : (r : OpRef) (t : TypeTree) → value_type g (Result r) ≡ Some t → IsResultOf r t
  result_of r t e = option_and_then_some (λ (x : DialectOp). x.result) (find (λ (x : DialectOp). nat_eq x.number r.0) (ops_in g)) t e (λ o at type.
      let f = found_numbered (λ (x : DialectOp). x.number) (ops_in g) r.0 o at in
      let b = op_of_block g.blocks f.0 o f.1 in
      let h : IsResultOf r t = record { place = b.0; block = b.2; here = b.3; at = b.1; op = o; there = b.4; number = f.2; type = type } in
      h)
