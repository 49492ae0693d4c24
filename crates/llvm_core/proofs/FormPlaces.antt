-- Where blocks and instructions stand in the data of a module.
use Rattle.std.proofs.Common.{◌≡◌, ◌-◌, ℕ, zero, suc, Bool, false, ◌&&◌, ◌||◌, not, List, [], ◌∷◌, Option, None, Some, length, take, slice_get, refl, sym, ap, ◌∙◌}
use Rattle.std.specs.List.{list_any, filter_map}
use Rattle.std.specs.Option.{is_some, option_map, option_map_or}
use Rattle.std.proofs.lemmas.Option.{same_Some}
use Rattle.support.proofs.ListLaws.{item_there, in_joined, from_joined}
use Rattle.llvm_core.specs.declared.numbers.LLVMFunction.{LLVMFunction}
use Rattle.llvm_core.specs.declared.numbers.LLVMBasicBlock.{LLVMBasicBlock}
use Rattle.llvm_core.specs.declared.numbers.LLVMInstRef.{LLVMInstRef}
use Rattle.llvm_core.specs.declared.code.LLVMInst.{LLVMInst}
use Rattle.llvm_core.specs.declared.code.LLVMInst.TheVariants as I
use Rattle.llvm_core.specs.declared.code.FunctionData.{FunctionData}
use Rattle.llvm_core.specs.declared.code.BlockData.{BlockData}
use Rattle.llvm_core.specs.declared.code.InstData.{InstData}
use Rattle.llvm_core.specs.Module.{Module}
use Rattle.llvm_core.specs.Sound.{IsModule}
use Rattle.llvm_core.specs.Data.{Placed, Block, Function, trees_of, instruction_of, placed_of, placed_at, block_of, block_at, function_of, placed_in, phi_entries}
use Rattle.llvm_core.specs.Parts.{is_phi as phi_of}
use Rattle.llvm_core.specs.Checked.{ends_in_only, is_terminator_at, is_phi_at, home}
use Rattle.llvm_core.specs.Checked.{is_terminator as ends_block}
use Rattle.llvm_core.specs.Form.{is_terminator, is_last, is_phi}
use Rattle.llvm_core.proofs.DataLemmas.{length-filter_map_all, blocks_there, insts_there, block_of_number, inst_of_number}
use Rattle.llvm_core.proofs.GivenLemmas.{given_at}

-- ---- lists of which each item gives one

module _ {X Y : Type 0} (h : X → Option Y) (p : X → Bool) (q : Y → Bool) where
  -- each item gives one on which the tests agree
  abbrev AllGive : List X → Type 0
  AllGive xs = (i : ℕ) (x : X) → slice_get xs i ≡ Some x → (y : Y) × (h x ≡ Some y) × (p x ≡ q y)

  same_test_at : (xs : List X) → AllGive xs → (n : ℕ) → option_map_or p (slice_get xs n) false ≡ option_map_or q (slice_get (filter_map h xs) n) false
  same_test_at [] all n = refl
  same_test_at (x ∷ xs) all zero = let here = all 0 x refl in rw here.1 here.2
  same_test_at (x ∷ xs) all (suc n) = let here = all 0 x refl in rw here.1 (same_test_at xs (λ i y at. all (suc i) y at) n)

  same_test_before : (xs : List X) → AllGive xs → (n : ℕ) → list_any p (take n xs) ≡ list_any q (take n (filter_map h xs))
  same_test_before xs all zero = refl
  same_test_before [] all (suc n) = refl
  same_test_before (x ∷ xs) all (suc n) =
      let here = all 0 x refl in
      let rest = same_test_before xs (λ i y at. all (suc i) y at) n in
      rw here.1 (ap (λ b. b || list_any p (take n xs)) here.2 ∙ ap (λ b. q here.0 || b) rest)

  same_ends : (xs : List X) → AllGive xs → ends_in_only p xs ≡ ends_in_only q (filter_map h xs)
  same_ends xs all =
      let count = length-filter_map_all h xs (λ i x at. let g = all i x at in (g.0, g.1)) in
      let n = length xs - 1 in
      ap (λ b. b && not (list_any p (take n xs))) (same_test_at xs all n)
      ∙ ap (λ b. option_map_or q (slice_get (filter_map h xs) n) false && not b) (same_test_before xs all n)
      ∙ ap (λ k. option_map_or q (slice_get (filter_map h xs) (k - 1)) false && not (list_any q (take (k - 1) (filter_map h xs)))) (sym count)

-- ---- terminators

same_kind_ends : (m : Module) (i : LLVMInst) → ends_block i ≡ is_terminator (instruction_of (trees_of m) i)
same_kind_ends m (I.Phi type entries) = refl
same_kind_ends m (I.Row r) = refl

-- a block ends in its only terminator where its data do
pub same_block_ends : (m : Module) (b : LLVMBasicBlock) (y : BlockData) → IsModule m → slice_get m.blocks b.0 ≡ Some y
    → ends_in_only (is_terminator_at m) y.insts ≡ ends_in_only is_last (block_of (trees_of m) m.insts b y).instructions
same_block_ends m b y sound at = same_ends (placed_at (trees_of m) m.insts) (is_terminator_at m) is_last y.insts each
  where
    of_inst : (i : LLVMInstRef) (o : Option InstData) → slice_get m.insts i.0 ≡ o → (p : Placed) → option_map (placed_of (trees_of m) i) o ≡ Some p
        → (p : Placed) × (placed_at (trees_of m) m.insts i ≡ Some p) × (is_terminator_at m i ≡ is_last p)
    of_inst i None e p h = absurd cc
    of_inst i (Some z) e p h = (placed_of (trees_of m) i z, rw e refl, rw e (same_kind_ends m z.inst))

    each : (j : ℕ) (i : LLVMInstRef) → slice_get y.insts j ≡ Some i → (p : Placed) × (placed_at (trees_of m) m.insts i ≡ Some p) × (is_terminator_at m i ≡ is_last p)
    each j i here = let t = insts_there m y.insts (sound.blocks b.0 y at).insts j i here in of_inst i (slice_get m.insts i.0) refl t.0 t.1

-- ---- phis

pub same_kind_phi : (m : Module) (i : LLVMInst) → phi_of i ≡ is_some (phi_entries (instruction_of (trees_of m) i))
same_kind_phi m (I.Phi type entries) = refl
same_kind_phi m (I.Row r) = refl

-- an instruction that is there is a phi where its data are
pub same_phi_at : (m : Module) (i : LLVMInstRef) (z : InstData) → slice_get m.insts i.0 ≡ Some z → is_phi_at m i ≡ is_phi (placed_of (trees_of m) i z)
same_phi_at m i z at = rw at (same_kind_phi m z.inst)

-- ---- from the lists to the data

-- the function at a number, as data
abbrev pub shown : Module → ℕ → FunctionData → Function
shown m f x = function_of (trees_of m) m.blocks m.insts (f, x)

-- the block at a number, as data
abbrev pub shown_block : Module → ℕ → BlockData → Block
shown_block m b y = block_of (trees_of m) m.insts (record { 0 = b }) y

-- the instruction at a number, as data
abbrev pub shown_inst : Module → ℕ → InstData → Placed
shown_inst m i z = placed_of (trees_of m) (record { 0 = i }) z

-- the block of the number b stands in the function x, and so do its data
pub record HasBlockPlace (m : Module) (f : ℕ) (x : FunctionData) (b : ℕ) (y : BlockData) : Type 0 where
  pub place : ℕ
  pub listed : slice_get x.blocks place ≡ Some (record { 0 = b })
  pub here : slice_get (shown m f x).blocks place ≡ Some (shown_block m b y)

pub block_place : (m : Module) (f : ℕ) (x : FunctionData) (b : ℕ) (y : BlockData) → IsModule m → slice_get m.functions f ≡ Some x → slice_get m.blocks b ≡ Some y → y.function.0 ≡ f → HasBlockPlace m f x b y
block_place m f x b y sound at is home =
    let l = sound.listed_blocks b y is in
    let same : l.0 ≡ x = same_Some l.0 x (sym l.2 ∙ ap (slice_get m.functions) home ∙ at) in
    let listed : slice_get x.blocks l.1 ≡ Some (record { 0 = b }) = ap (λ (g : FunctionData). slice_get g.blocks l.1) (sym same) ∙ l.3 in
    record { place = l.1; listed = listed; here = block_of_number m f x l.1 (record { 0 = b }) y sound at listed is }

-- the instruction of the number i stands in a block, and so do its data
pub record HasInstPlace (m : Module) (i : ℕ) (z : InstData) : Type 0 where
  pub block : BlockData
  pub block_is : slice_get m.blocks z.block.0 ≡ Some block
  pub place : ℕ
  pub listed : slice_get block.insts place ≡ Some (record { 0 = i })
  pub here : slice_get (shown_block m z.block.0 block).instructions place ≡ Some (shown_inst m i z)
  pub home_is : home m z ≡ block.function

pub inst_place : (m : Module) (i : ℕ) (z : InstData) → IsModule m → slice_get m.insts i ≡ Some z → HasInstPlace m i z
inst_place m i z sound at =
    let l = sound.listed_insts i z at in
    record {
      block = l.0;
      block_is = l.2;
      place = l.1;
      listed = l.3;
      here = inst_of_number m z.block l.0 l.1 (record { 0 = i }) z sound l.2 l.3 at;
      home_is = rw l.2 refl;
    }

-- the function that holds a block that is there
pub function_there : (m : Module) (b : ℕ) (y : BlockData) → IsModule m → slice_get m.blocks b ≡ Some y → (x : FunctionData) × (slice_get m.functions y.function.0 ≡ Some x)
function_there m b y sound is = item_there m.functions y.function.0 (sound.blocks b y is).function

-- ---- from the data to the lists

-- a block of a function's data is that of the number listed there
pub record IsFromBlock (m : Module) (f : ℕ) (x : FunctionData) (place : ℕ) (c : Block) : Type 0 where
  pub number : ℕ
  pub listed : slice_get x.blocks place ≡ Some (record { 0 = number })
  pub block : BlockData
  pub here : slice_get m.blocks number ≡ Some block
  pub shown_as : c ≡ shown_block m number block
  pub owned : block.function.0 ≡ f

pub block_from : (m : Module) (f : ℕ) (x : FunctionData) (place : ℕ) (c : Block) → IsModule m → slice_get m.functions f ≡ Some x → slice_get (shown m f x).blocks place ≡ Some c → IsFromBlock m f x place c
block_from m f x place c sound at is =
    let b = given_at (block_at (trees_of m) m.blocks m.insts) x.blocks (blocks_there m x.blocks (sound.functions f x at).blocks) place c is in
    by b.0 b.1 (slice_get m.blocks b.0.0) refl b.2
  where
    by : (b : LLVMBasicBlock) → slice_get x.blocks place ≡ Some b → (o : Option BlockData) → slice_get m.blocks b.0 ≡ o → option_map (block_of (trees_of m) m.insts b) o ≡ Some c → IsFromBlock m f x place c
    by b listed None e h = absurd cc
    by b listed (Some y) e h = record {
      number = b.0;
      listed = listed;
      block = y;
      here = e;
      shown_as = sym (same_Some (block_of (trees_of m) m.insts b y) c h);
      owned = sound.owned_blocks f x at place b y listed e;
    }

-- an instruction of a block's data is that of the number listed there
pub record IsFromInst (m : Module) (b : ℕ) (y : BlockData) (place : ℕ) (p : Placed) : Type 0 where
  pub number : ℕ
  pub listed : slice_get y.insts place ≡ Some (record { 0 = number })
  pub inst : InstData
  pub here : slice_get m.insts number ≡ Some inst
  pub shown_as : p ≡ shown_inst m number inst
  pub owned : inst.block.0 ≡ b

pub inst_from : (m : Module) (b : ℕ) (y : BlockData) (place : ℕ) (p : Placed) → IsModule m → slice_get m.blocks b ≡ Some y → slice_get (shown_block m b y).instructions place ≡ Some p → IsFromInst m b y place p
inst_from m b y place p sound at is =
    let i = given_at (placed_at (trees_of m) m.insts) y.insts (insts_there m y.insts (sound.blocks b y at).insts) place p is in
    by i.0 i.1 (slice_get m.insts i.0.0) refl i.2
  where
    by : (i : LLVMInstRef) → slice_get y.insts place ≡ Some i → (o : Option InstData) → slice_get m.insts i.0 ≡ o → option_map (placed_of (trees_of m) i) o ≡ Some p → IsFromInst m b y place p
    by i listed None e h = absurd cc
    by i listed (Some z) e h = record {
      number = i.0;
      listed = listed;
      inst = z;
      here = e;
      shown_as = sym (same_Some (placed_of (trees_of m) i z) p h);
      owned = sound.owned_insts b y at place i z listed e;
    }

-- an instruction of a function's data is one of the module, which lies in that function
pub record IsOwnInst (m : Module) (f : ℕ) (p : Placed) : Type 0 where
  pub number : ℕ
  pub inst : InstData
  pub here : slice_get m.insts number ≡ Some inst
  pub shown_as : p ≡ shown_inst m number inst
  pub home_is : (home m inst).0 ≡ f

pub own_inst : (m : Module) (f : ℕ) (x : FunctionData) (k : ℕ) (p : Placed) → IsModule m → slice_get m.functions f ≡ Some x → slice_get (placed_in (shown m f x)) k ≡ Some p → IsOwnInst m f p
own_inst m f x k p sound at is =
    let part = from_joined (λ (b : Block). b.instructions) (shown m f x).blocks k p is in
    let c = block_from m f x part.0 part.2 sound at part.3 in
    let within : slice_get (shown_block m c.number c.block).instructions part.1 ≡ Some p = ap (λ (b : Block). slice_get b.instructions part.1) (sym c.shown_as) ∙ part.4 in
    let i = inst_from m c.number c.block part.1 p sound c.here within in
    let block : slice_get m.blocks i.inst.block.0 ≡ Some c.block = ap (slice_get m.blocks) i.owned ∙ c.here in
    record {
      number = i.number;
      inst = i.inst;
      here = i.here;
      shown_as = i.shown_as;
      home_is = ap (λ o. (option_map_or (λ (b : BlockData). b.function) o (record { 0 = 0 })).0) block ∙ c.owned;
    }

-- an instruction of the module stands in the data of the function that it lies in
pub in_home : (m : Module) (f : ℕ) (x : FunctionData) (i : ℕ) (z : InstData) → IsModule m → slice_get m.functions f ≡ Some x → slice_get m.insts i ≡ Some z → (home m z).0 ≡ f → (k : ℕ) × (slice_get (placed_in (shown m f x)) k ≡ Some (shown_inst m i z))
in_home m f x i z sound at is home_f =
    let p = inst_place m i z sound is in
    let b = block_place m f x z.block.0 p.block sound at p.block_is (ap (λ (g : LLVMFunction). g.0) (sym p.home_is) ∙ home_f) in
    in_joined (λ (b : Block). b.instructions) (shown m f x).blocks b.place p.place (shown_block m z.block.0 p.block) (shown_inst m i z) b.here p.here
