-- All of `IsModule` but what it says of each instruction: it stays as a function gets a body, block after block.
use Rattle.std.proofs.Common.{◌≡◌, ◌<◌, ◌+◌, inl, inr, ℕ, List, [], ◌∷◌, ◌++◌, Some, length, length-append, map, slice_get, sym, ap, ◌∙◌, refl, arith, subst, All}
use Rattle.std.proofs.lemmas.List.{append_assoc, append-nil, length-map}
use Rattle.std.proofs.lemmas.List.Elements.{All-push}
use Rattle.std.proofs.lemmas.Option.{slice_get_within, same_Some}
use Rattle.support.specs.Changes.{with_change}
use Rattle.support.specs.Interned.{IsDistinctList}
use Rattle.support.proofs.ListLaws.{slice_get-kept, slice_get-push, slice_get-push_cases, slice_get-before, slice_get-behind_cases, change_cases, distinct_push, length-with_change}
use Rattle.llvm_core.specs.declared.numbers.LLVMType.{LLVMType}
use Rattle.llvm_core.specs.declared.numbers.LLVMFunction.{LLVMFunction}
use Rattle.llvm_core.specs.declared.numbers.LLVMBasicBlock.{LLVMBasicBlock}
use Rattle.llvm_core.specs.declared.numbers.LLVMInstRef.{LLVMInstRef}
use Rattle.llvm_core.specs.declared.types.LLVMTypeKind.{LLVMTypeKind}
use Rattle.llvm_core.specs.declared.consts.LLVMConstKind.{LLVMConstKind}
use Rattle.llvm_core.specs.declared.bodies.BodyBlock.{BodyBlock}
use Rattle.llvm_core.specs.declared.code.FunctionData.{FunctionData}
use Rattle.llvm_core.specs.declared.code.BlockData.{BlockData}
use Rattle.llvm_core.specs.declared.code.InstData.{InstData}
use Rattle.llvm_core.specs.Module.{Module}
use Rattle.llvm_core.specs.Code.{code_of, with_code}
use Rattle.llvm_core.specs.Consts.{IsConstIn, IsMadeBelow}
use Rattle.llvm_core.specs.Parts.{IsTypeOver, HasFitParts}
use Rattle.llvm_core.specs.Sound.{IsStructIn, IsFunctionIn, IsBlockIn, IsInstIn, IsListedBlock, IsListedInst, OwnsBlocks, OwnsInsts, IsModule}
use Rattle.llvm_core.specs.Bodies.{with_lists, added, block_numbers, inst_numbers, body_blocks, body_insts, inst_in}
use Rattle.llvm_core.proofs.DataLemmas.{within_at}
use Rattle.llvm_core.proofs.GrowLemmas.{blocks_of, insts_of, KeepsTypes, function_type, inst_type, Grows, function_kept, block_kept, listed_block_kept, listed_inst_kept}
use Rattle.llvm_core.proofs.ListedLemmas.{KeepsLists, change_keeps, changed_there}
use Rattle.llvm_core.proofs.SoundLemmas.{change_types, params_changed}
use Rattle.llvm_core.proofs.BodyLists.{mapped_from, listed_twice, listed_none, numbers_within, number_at, number_from}

pub record IsFrame (m : Module) : Type 0 where
  pub types : (i : ℕ) (k : LLVMTypeKind) → slice_get m.types i ≡ Some k → IsTypeOver i k
  pub types_fit : (i : ℕ) (k : LLVMTypeKind) → slice_get m.types i ≡ Some k → HasFitParts m.types k
  pub types_once : IsDistinctList m.types
  pub consts : (i : ℕ) (k : LLVMConstKind) → slice_get m.consts i ≡ Some k → IsConstIn m k
  pub consts_below : (i : ℕ) (k : LLVMConstKind) → slice_get m.consts i ≡ Some k → IsMadeBelow i k
  pub consts_once : IsDistinctList m.consts
  pub structs : All (IsStructIn m.types) m.structs
  pub functions : (f : ℕ) (x : FunctionData) → slice_get m.functions f ≡ Some x → IsFunctionIn m x
  pub blocks : (b : ℕ) (x : BlockData) → slice_get m.blocks b ≡ Some x → IsBlockIn m x
  pub listed_blocks : (b : ℕ) (y : BlockData) → slice_get m.blocks b ≡ Some y → IsListedBlock m b y
  pub listed_insts : (i : ℕ) (z : InstData) → slice_get m.insts i ≡ Some z → IsListedInst m i z
  pub owned_blocks : (f : ℕ) (x : FunctionData) → slice_get m.functions f ≡ Some x → OwnsBlocks m f x
  pub owned_insts : (b : ℕ) (y : BlockData) → slice_get m.blocks b ≡ Some y → OwnsInsts m b y

pub frame_of : (m : Module) → IsModule m → IsFrame m
frame_of m s = record {
  types = s.types;
  types_fit = s.types_fit;
  types_once = s.types_once;
  consts = s.consts;
  consts_below = s.consts_below;
  consts_once = s.consts_once;
  structs = s.structs;
  functions = s.functions;
  blocks = s.blocks;
  listed_blocks = s.listed_blocks;
  listed_insts = s.listed_insts;
  owned_blocks = s.owned_blocks;
  owned_insts = s.owned_insts;
}

pub module_of : (m : Module) → IsFrame m → ((i : ℕ) (x : InstData) → slice_get m.insts i ≡ Some x → IsInstIn m x) → IsModule m
module_of m s insts = record {
  types = s.types;
  types_fit = s.types_fit;
  types_once = s.types_once;
  consts = s.consts;
  consts_below = s.consts_below;
  consts_once = s.consts_once;
  structs = s.structs;
  functions = s.functions;
  blocks = s.blocks;
  insts = insts;
  listed_blocks = s.listed_blocks;
  listed_insts = s.listed_insts;
  owned_blocks = s.owned_blocks;
  owned_insts = s.owned_insts;
}

-- ---- a module has more

append_types : {X : Type 0} (type : X → LLVMType) (xs ys : List X) → KeepsTypes type xs (xs ++ ys)
append_types type xs ys i x e = (x, slice_get-kept xs ys i x e, refl)

append_keeps : {X Y : Type 0} (list : X → List Y) (xs ys : List X) → KeepsLists list xs (xs ++ ys)
append_keeps list xs ys i x e = (x, slice_get-kept xs ys i x e, λ place y h. h)

pub lists_grow : (m : Module) (f : LLVMFunction) (ns : List LLVMBasicBlock) (bs : List BlockData) (is : List InstData) → Grows m (with_code m (with_lists (code_of m) f ns bs is))
lists_grow m f ns bs is =
    let change : FunctionData → FunctionData = λ (x : FunctionData). record x { blocks = x.blocks ++ ns } in
    record {
      types = λ i x e. e;
      consts = λ i x e. e;
      structs = λ i x e. e;
      function_types = change_types function_type change (λ x. refl) f.0 m.functions;
      inst_types = append_types inst_type m.insts is;
      type_count = omega arith;
      const_count = omega arith;
      function_count = omega (arith, length-with_change change f.0 m.functions);
      block_count = omega (arith, length-append m.blocks bs);
      inst_count = omega (arith, length-append m.insts is);
      params = params_changed change (λ x. refl) f.0 m.functions;
      block_lists = change_keeps blocks_of change (λ x. slice_get-kept x.blocks ns) f.0 m.functions;
      inst_lists = append_keeps insts_of m.blocks bs;
    }

pub added_grows : (m : Module) (f : LLVMFunction) (body : List BodyBlock) → Grows m (added m f body)
added_grows m f body = lists_grow m f (block_numbers (length m.blocks) body) (body_blocks f (length m.insts) body) (body_insts (length m.blocks) body)

-- ---- a body is its blocks one after the other

-- the first block of a body, as the module gets it
abbrev pub first_block : Module → LLVMFunction → BodyBlock → BlockData
first_block m f b = record { name = b.name; function = f; insts = inst_numbers (length m.insts) b.insts }

abbrev pub first_number : Module → LLVMBasicBlock
first_number m = record { 0 = length m.blocks }

-- the module with one block more
abbrev pub put : Module → LLVMFunction → BodyBlock → Module
put m f b = with_code m (with_lists (code_of m) f (first_number m ∷ []) (first_block m f b ∷ []) (map (inst_in (length m.blocks)) b.insts))

same_lists : (m : Module) (fs gs : List FunctionData) (bs cs : List BlockData) (is js : List InstData) → fs ≡ gs → bs ≡ cs → is ≡ js
    → (let n : Module = record m { functions = fs; blocks = bs; insts = is } in n) ≡ record m { functions = gs; blocks = cs; insts = js }
same_lists m fs gs bs cs is js e f g = cc

pub added_none : (m : Module) (f : LLVMFunction) → added m f [] ≡ m
added_none m f = same_lists m _ m.functions _ m.blocks _ m.insts (listed_none f.0 m.functions) (append-nil m.blocks) (append-nil m.insts)

pub added_step : (m : Module) (f : LLVMFunction) (b : BodyBlock) (bs : List BodyBlock) → added m f (b ∷ bs) ≡ added (put m f b) f bs
added_step m f b bs =
    let n = length m.blocks in
    let row = first_block m f b in
    let rows = map (inst_in n) b.insts in
    let next : n + 1 ≡ length (m.blocks ++ row ∷ []) = omega (arith, length-append m.blocks (row ∷ [])) in
    let next_inst : length m.insts + length b.insts ≡ length (m.insts ++ rows) = omega (arith, length-append m.insts rows, length-map b.insts (inst_in n)) in
    same_lists m _ _ _ _ _ _
    (listed_twice (first_number m ∷ []) (block_numbers (n + 1) bs) f.0 m.functions
    ∙ ap (λ (k : ℕ). with_change (λ (x : FunctionData). record x { blocks = x.blocks ++ block_numbers k bs }) f.0 (put m f b).functions) next)
    (sym (append_assoc m.blocks (row ∷ []) (body_blocks f (length m.insts + length b.insts) bs)) ∙ ap (λ (k : ℕ). (m.blocks ++ row ∷ []) ++ body_blocks f k bs) next_inst)
    (sym (append_assoc m.insts rows (body_insts (n + 1) bs)) ∙ ap (λ (k : ℕ). (m.insts ++ rows) ++ body_insts k bs) next)

-- ---- one block more

module _ (m : Module) (f : LLVMFunction) (b : BodyBlock) (s : IsFrame m) (there : f.0 < length m.functions) where
  abbrev more : Module
  more = put m f b

  abbrev row : BlockData
  row = first_block m f b

  abbrev rows : List InstData
  rows = map (inst_in (length m.blocks)) b.insts

  abbrev change : FunctionData → FunctionData
  change x = record x { blocks = x.blocks ++ first_number m ∷ [] }

  grows : Grows m more
  grows = lists_grow m f (first_number m ∷ []) (row ∷ []) rows

  more_blocks : length more.blocks ≡ length m.blocks + 1
  more_blocks = length-append m.blocks (row ∷ [])

  more_insts : length more.insts ≡ length m.insts + length b.insts
  more_insts = length-append m.insts rows ∙ ap (λ (k : ℕ). length m.insts + k) (length-map b.insts (inst_in (length m.blocks)))

  -- no function of before lists the new block
  not_listed : (g : ℕ) (x : FunctionData) → slice_get m.functions g ≡ Some x → (place : ℕ) → ¬ (slice_get x.blocks place ≡ Some (first_number m))
  not_listed g x here place at =
      let within = within_at x.blocks (λ (b : LLVMBasicBlock). b.0 < length m.blocks) (s.functions g x here).blocks place (first_number m) at in
      omega (arith, within)

  function_right : (g : ℕ) (x : FunctionData) → slice_get more.functions g ≡ Some x → IsFunctionIn more x
  function_right g x e = elim (change_cases change f.0 m.functions g x e) [
    | inl at ↦ (let old = function_kept m more grows at.0 (s.functions g at.0 at.1) in
        rw at.3 (record {
          typed = old.typed;
          params = old.params;
          blocks = All-push (λ (b : LLVMBasicBlock). b.0 < length more.blocks) at.0.blocks (first_number m) old.blocks (omega (arith, more_blocks));
          once = distinct_push at.0.blocks (first_number m) old.once (not_listed g at.0 at.1);
        }))
    | inr old ↦ function_kept m more grows x (s.functions g x old)
  ]

  block_right : (j : ℕ) (x : BlockData) → slice_get more.blocks j ≡ Some x → IsBlockIn more x
  block_right j x e = elim (slice_get-push_cases m.blocks row j x e) [
    | inl old ↦ block_kept m more grows x (s.blocks j x old)
    | inr at ↦ rw at.1 (record { function = omega (arith, there, length-with_change change f.0 m.functions); insts = numbers_within (length m.insts) (length more.insts) b.insts (omega (arith, more_insts)) })
  ]

  block_listed : (j : ℕ) (y : BlockData) → slice_get more.blocks j ≡ Some y → IsListedBlock more j y
  block_listed j y e = elim (slice_get-push_cases m.blocks row j y e) [
    | inl old ↦ listed_block_kept m more grows j y (s.listed_blocks j y old)
    | inr at ↦ (let owner = changed_there change f.0 m.functions there in
        rw at.1 (change owner.0, length owner.0.blocks, owner.1, slice_get-push owner.0.blocks (first_number m) (length owner.0.blocks) refl ∙ ap (λ (k : ℕ). Some (record { 0 = k })) (sym at.0)))
  ]

  inst_listed : (i : ℕ) (z : InstData) → slice_get more.insts i ≡ Some z → IsListedInst more i z
  inst_listed i z e = elim (slice_get-behind_cases m.insts rows i z e) [
    | inl old ↦ listed_inst_kept m more grows i z (s.listed_insts i z old)
    | inr new ↦ (let x = mapped_from (inst_in (length m.blocks)) b.insts new.0 z new.2 in
        rw x.2 (row, new.0, slice_get-push m.blocks row (length m.blocks) refl, number_at (length m.insts) b.insts new.0 x.0 x.1 ∙ ap (λ (k : ℕ). Some (record { 0 = k })) (sym new.1)))
  ]

  -- a list of blocks that are old
  owns_old : (g : ℕ) (x : FunctionData) → slice_get m.functions g ≡ Some x → OwnsBlocks more g x
  owns_old g x here place c y at is =
      let within = within_at x.blocks (λ (b : LLVMBasicBlock). b.0 < length m.blocks) (s.functions g x here).blocks place c at in
      s.owned_blocks g x here place c y at (sym (slice_get-before m.blocks (row ∷ []) c.0 within) ∙ is)

  -- the list that has the new one last
  owns_new : (x : FunctionData) → slice_get m.functions f.0 ≡ Some x → OwnsBlocks more f.0 (change x)
  owns_new x here place c y at is = elim (slice_get-push_cases x.blocks (first_number m) place c at) [
    | inl old ↦ owns_old f.0 x here place c y old is
    | inr now ↦ (let e : Some y ≡ Some row = sym is ∙ ap (λ (k : LLVMBasicBlock). slice_get more.blocks k.0) now.1 ∙ slice_get-push m.blocks row (length m.blocks) refl in
        ap (λ (w : BlockData). w.function.0) (same_Some y row e))
  ]

  blocks_owned : (g : ℕ) (x : FunctionData) → slice_get more.functions g ≡ Some x → OwnsBlocks more g x
  blocks_owned g x e = elim (change_cases change f.0 m.functions g x e) [
    | inl at ↦ rw (at.3, at.2) (owns_new at.0 (ap (slice_get m.functions) (sym at.2) ∙ at.1))
    | inr old ↦ owns_old g x old
  ]

  -- the new block lists the new instructions
  row_owns : OwnsInsts more (length m.blocks) row
  row_owns place i z at is =
      let number = number_from (length m.insts) b.insts place i at in
      elim (slice_get-behind_cases m.insts rows i.0 z is) [
        | inl old ↦ (let within = slice_get_within m.insts i.0 z old in absurd (omega (arith, within, number)))
        | inr new ↦ ap (λ (w : InstData). w.block.0) (mapped_from (inst_in (length m.blocks)) b.insts new.0 z new.2).2
      ]

  insts_owned : (j : ℕ) (y : BlockData) → slice_get more.blocks j ≡ Some y → OwnsInsts more j y
  insts_owned j y e = elim (slice_get-push_cases m.blocks row j y e) [
    | inl old ↦ (λ place i z at is.
        let within = within_at y.insts (λ (i : LLVMInstRef). i.0 < length m.insts) (s.blocks j y old).insts place i at in
        s.owned_insts j y old place i z at (sym (slice_get-before m.insts rows i.0 within) ∙ is))
    | inr at ↦ rw (at.1, at.0) row_owns
  ]

  pub put_frame : IsFrame more
  put_frame = record {
    types = s.types;
    types_fit = s.types_fit;
    types_once = s.types_once;
    consts = s.consts;
    consts_below = s.consts_below;
    consts_once = s.consts_once;
    structs = s.structs;
    functions = function_right;
    blocks = block_right;
    listed_blocks = block_listed;
    listed_insts = inst_listed;
    owned_blocks = blocks_owned;
    owned_insts = insts_owned;
  }

pub added_frame : (m : Module) (f : LLVMFunction) (body : List BodyBlock) → IsFrame m → f.0 < length m.functions → IsFrame (added m f body)
added_frame m f [] s there = subst IsFrame (sym (added_none m f)) s
added_frame m f (b ∷ bs) s there =
    let longer = length-with_change (λ (x : FunctionData). record x { blocks = x.blocks ++ first_number m ∷ [] }) f.0 m.functions in
    subst IsFrame (sym (added_step m f b bs)) (added_frame (put m f b) f bs (put_frame m f b s there) (omega (arith, there, longer)))
