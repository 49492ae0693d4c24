-- What the next instruction uses: its operands are settled, its edges are ready, and what was noted for them stands
-- for them.
use Rattle.std.proofs.Common.{ℕ, zero, suc, ◌≡◌, ◌<◌, ◌+◌, inl, inr, refl, sym, ap, subst, ◌∙◌, Bool, false, cond, not, List, [], ◌∷◌, ◌++◌, Option, Some, None, All, filter, length, map, take, slice_get, nat_eq, arith}
use Rattle.std.specs.Prelude.{IsSome}
use Rattle.std.specs.List.{filter_map, flat_map, cons_option}
use Rattle.std.specs.Option.{option_map}
use Rattle.std.proofs.lemmas.List.{append-nil}
use Rattle.std.proofs.lemmas.Option.{same_Some, slice_get_within, slice_get-map}
use Rattle.meaning.proofs.MatchedLaws.{matched_length, matched_at}
use Rattle.support.proofs.ListLaws.{all_from, item_there, slice_get-behind, slice_get-kept, filter_at}
use Rattle.llvm_core.specs.declared.numbers.LLVMFunction.{LLVMFunction}
use Rattle.llvm_core.specs.declared.numbers.LLVMBasicBlock.{LLVMBasicBlock}
use Rattle.llvm_core.specs.declared.numbers.LLVMInstRef.{LLVMInstRef}
use Rattle.llvm_core.specs.declared.code.LLVMValue.{LLVMValue}
use Rattle.llvm_core.specs.declared.code.LLVMValue.TheVariants as K
use Rattle.llvm_core.specs.declared.code.LLVMInst.{LLVMInst}
use Rattle.llvm_core.specs.declared.code.InstData.{InstData}
use Rattle.llvm_core.specs.Module.{Module}
use Rattle.llvm_core.specs.Parts.{HasValues, operands}
use Rattle.llvm_core.specs.Form as LF
use Rattle.llvm_core.specs.Data as L
use Rattle.llvm_core.specs.Data.{ConstTree, Placed, trees_of, operand_of, const_at, data_of}
use Rattle.llvm_core.proofs.DataLemmas.{within_at}
use Rattle.dialect_core.specs.declared.numbers.BlockRef.{BlockRef}
use Rattle.dialect_core.specs.declared.ops.Value.{Value}
use Rattle.dialect_core.specs.declared.ops.Value.TheVariants as V
use Rattle.dialect_core.specs.declared.ops.Successor.{Successor}
use Rattle.dialect_core.specs.ContextData.{ContextData, IsValueWithin, IsSuccessorWithin}
use Rattle.dialect_core.specs.Data.{DialectBlock, DialectOp}
use Rattle.meaning.specs.Pairs.{Matched}
use Rattle.from_llvm_ir.specs.declared.entries.Entries.{Entries}
use Rattle.from_llvm_ir.specs.declared.values.Values.{Values}
use Rattle.from_llvm_ir.specs.Imported.{IsIn, IsBelow, constant_in, constants_in, passed, rest_of, front_for}
use Rattle.from_llvm_ir.specs.Parts.{target_blocks}
use Rattle.from_llvm_ir.specs.Values.{Targets, AreNoted, IsSettled, target_at, value_at}
use Rattle.from_llvm_ir.specs.Edges.{IsKnownEdge, IsReady}
use Rattle.from_llvm_ir.specs.Building.{Home, IsOpen, IsUnder, ops_of, with_blocks, with_ops}
use Rattle.from_llvm_ir.specs.Source.{IsBlockOf, IsSite, IsUsed, used_by}
use Rattle.from_llvm_ir.specs.Known.{Frame, Known, IsKnown, IsOlder, Stands, blocks_of, knows, value_of, IsConstantOp}
use Rattle.from_llvm_ir.specs.Converted.{AreConverted, IsEdge}
use Rattle.from_llvm_ir.specs.Body.{AreTargets, IsAt, IsBody, IsFramed, all_uses, insts_before}
use Rattle.from_llvm_ir.proofs.ListLaws.{first_in, other_there}
use Rattle.from_llvm_ir.proofs.PlaceLaws.{flat_at}
use Rattle.from_llvm_ir.proofs.OrderLaws.{placed}
use Rattle.from_llvm_ir.proofs.SourceLaws.{block_number}
use Rattle.from_llvm_ir.proofs.HoistLaws.{inst_uses}
use Rattle.from_llvm_ir.proofs.UnderLaws.{below_at, ops_behind}
use Rattle.from_llvm_ir.proofs.UsedLaws as used
use Rattle.from_llvm_ir.proofs.Whole.{beside_from}

-- ---- lists

-- an item to which something is given stands among what is given
in_mapped : {X Y : Type 0} (f : X → Option Y) (xs : List X) (i : ℕ) (x : X) (y : Y) → slice_get xs i ≡ Some x → f x ≡ Some y → IsIn (filter_map f xs) y
in_mapped f [] i x y at is = cc
in_mapped {X = X} {Y = Y} f (z ∷ xs) zero x y at is = (0, ap (λ (o : Option Y). slice_get (cons_option o (filter_map f xs)) 0) (ap f (same_Some z x at) ∙ is))
in_mapped {X = X} {Y = Y} f (z ∷ xs) (suc i) x y at is = by (f z) (in_mapped f xs i x y at is)
  where
    by : (v : Option Y) → IsIn (filter_map f xs) y → IsIn (cons_option v (filter_map f xs)) y
    by None r = r
    by (Some w) r = (suc r.0, r.1)

-- matched with the images of items
matched_under : {X Z Y : Type 0} (P : X → Y → Type 0) (Q : Z → Y → Type 0) (f : X → Z) (xs : List X) (ys : List Y) → ((i : ℕ) (x : X) (y : Y) → slice_get xs i ≡ Some x → P x y → Q (f x) y) → Matched P xs ys → Matched Q (map f xs) ys
matched_under P Q f [] [] k h = tt
matched_under P Q f [] (y ∷ ys) k h = elim h [ ]
matched_under P Q f (x ∷ xs) [] k h = elim h [ ]
matched_under P Q f (x ∷ xs) (y ∷ ys) k h = (k 0 x y refl h.0, matched_under P Q f xs ys (λ i a b at p. k (suc i) a b at p) h.1)

-- what holds of each item that is matched
pub all_beside : {X Y : Type 0} (P : X → Y → Type 0) (Q : Y → Type 0) (xs : List X) (ys : List Y) → ((x : X) (y : Y) → P x y → Q y) → Matched P xs ys → All Q ys
all_beside P Q xs ys k h = all_from Q ys (λ i y at. let x = other_there ys xs i y (sym (matched_length P xs ys h)) at in k x.0 y (matched_at P xs ys h i x.0 y x.1 at))

-- ---- constants

constants_are : (d : L.ModuleData) (g : L.Function) (b : L.Block) (p : Placed) → LF.is_phi p ≡ false → filter_map constant_in (used_by g b p) ≡ constants_in d g b p
constants_are d g b p other = inst_uses d g b p other ∙ ap (λ (t : Bool). flat_map (constants_in d g b) (cond (not t) (p ∷ []) [])) other ∙ append-nil (constants_in d g b p)

-- a constant that an instruction uses is one of the function's uses
used_constant : (m : Module) (fr : Frame) (j x : ℕ) (b : L.Block) (p : Placed) (c : ConstTree) → slice_get (blocks_of fr) j ≡ Some b → slice_get b.instructions x ≡ Some p → LF.is_phi p ≡ false → IsIn (used_by fr.source b p) (L.Constant c) → IsIn (all_uses m fr) c
used_constant m fr j x b p c at here other is_in =
    let inner = subst (λ (cs : List ConstTree). IsIn cs c) (constants_are (data_of m) fr.source b p other) (in_mapped constant_in (used_by fr.source b p) is_in.0 (L.Constant c) c is_in.1 refl) in
    let r = filter_at (λ (q : Placed). not (LF.is_phi q)) b.instructions x p here (ap not other) in
    let row = flat_at (constants_in (data_of m) fr.source b) (rest_of b) r.0 p inner.0 c r.1 inner.1 in
    flat_at (λ (y : L.Block). flat_map (constants_in (data_of m) fr.source y) (rest_of y)) (blocks_of fr) j b row.0 c at row.1

-- so it was noted, as parameters were
settled : (m : Module) (values : Values) (uses : List ConstTree) (k : Known) (n at args : ℕ) (v : LLVMValue) → IsKnown m values uses k n at args → IsUsed m k.frame.source v → ((c : ConstTree) → operand_of (trees_of m) v ≡ L.Constant c → IsIn uses c) → IsSettled m values v
settled m values uses k n at args (K.Const d) h u uses_it =
    let c = const_at (trees_of m).consts d in
    let i = first_in uses k.constants h.first_uses c (uses_it c refl) in
    let op = other_there k.constants k.hoisted i.0 c (matched_length IsConstantOp k.constants k.hoisted h.made) i.1 in
    h.notes.complete (K.Const d) (value_of op.0) u.valid (record { place = i.0; op = op.0; here = i.1; there = op.1; is = refl })
settled m values uses k n at args (K.Param f i) h u uses_it = h.notes.complete (K.Param f i) (V.Argument (record { 0 = k.frame.base }) i) u.valid (u.usable.1.stands.0, u.usable.1.stands.1, refl)
settled m values uses k n at args (K.Inst i) h u uses_it = u.valid

-- ---- targets

-- the block of the dialect for one of the function
target_is : (m : Module) (f : LLVMFunction) (fr : Frame) (targets : Targets) (to : LLVMBasicBlock) (place : ℕ) (t : L.Block) → IsFramed m f fr → AreTargets fr targets → IsBlockOf m fr.source to place t
    → (j : ℕ) × (slice_get (blocks_of fr) j ≡ Some t) × (target_at targets to ≡ Some (record { 0 = fr.base + j }))
target_is m f fr targets to place t framed leads is =
    let o = placed fr.order fr.source.blocks framed.order place t is.at in
    (o.0, o.2, subst (λ (n : ℕ). target_at targets (record { 0 = n }) ≡ Some (record { 0 = fr.base + o.0 })) (block_number m fr.source to place t is) (leads o.0 t o.2))

some_from : {X : Type 0} (o : Option X) (x : X) → o ≡ Some x → IsSome o
some_from o x e = subst IsSome (sym e) refl

-- ---- blocks that are there

block_below : (h : Home) (base : ℕ) (c : ContextData) (bs : List DialectBlock) (i : ℕ) → IsUnder h base c bs → i < length bs → base + i < length c.blocks
block_below h base c bs i u lt =
    let last = within_at (h.before.functions ++ with_blocks h bs ∷ []) (IsBelow (length c.ops) (length c.blocks)) u.building.below (length h.before.functions + 0) (with_blocks h bs) (slice_get-behind h.before.functions (with_blocks h bs ∷ []) 0) in
    let y = item_there bs i lt in
    let small = within_at bs (λ (x : DialectBlock). x.number < length c.blocks) last.1 i y.0 y.1 in
    let number = u.numbered i y.0 y.1 in
    omega (arith, small, number)

same_length : (left : List DialectBlock) (a b : DialectBlock) (right : List DialectBlock) → length (left ++ a ∷ right) ≡ length (left ++ b ∷ right)
same_length [] a b right = refl
same_length (x ∷ left) a b right = ap suc (same_length left a b right)

-- ---- a block that is being filled

-- the constants stand at the start of the first block
hoisted_in : (k : Known) (left : List DialectBlock) (j : ℕ) (b : L.Block) (rest : List DialectOp) → length left ≡ j → AreConverted k left → slice_get (blocks_of k.frame) j ≡ Some b → (i : ℕ) (o : DialectOp) → slice_get k.hoisted i ≡ Some o → IsIn (ops_of left ++ (front_for j k.hoisted ++ rest)) o
hoisted_in k left zero b rest at converted here i o is = (length (ops_of left) + i, slice_get-behind (ops_of left) (k.hoisted ++ rest) i ∙ slice_get-kept k.hoisted rest i o is)
hoisted_in k left (suc j) b rest at converted here i o is =
    let d = item_there left 0 (omega (arith, at)) in
    let s = item_there (blocks_of k.frame) 0 (let lt = slice_get_within (blocks_of k.frame) (suc j) b here in omega (arith, lt)) in
    let v = converted 0 s.0 d.0 s.1 d.1 in
    let q = flat_at (λ (y : DialectBlock). y.ops) left 0 d.0 i o d.1 (ap (λ (os : List DialectOp). slice_get os i) v.ops ∙ slice_get-kept k.hoisted v.rest i o is) in
    (q.0, slice_get-kept (ops_of left) rest q.0 o q.1)

module _ (fr : Frame) (m : Module) (c : ContextData) (values : Values) (j x : ℕ) (b : L.Block) (h : IsBody fr m c values j x b) where
  -- what is known
  abbrev pub body_known : Known
  body_known = knows fr h.constants h.hoisted (insts_before fr j ++ take x b.instructions) h.done

  abbrev pub body_ops : List DialectOp
  body_ops = front_for j h.hoisted ++ h.rest

  pub body_open : (block : BlockRef) → block.0 ≡ fr.base + j → IsOpen fr.home fr.base c block h.left (with_ops h.now body_ops) h.right
  body_open block number = record {
    under = h.under;
    number = (let e = h.under.numbered (length h.left + 0) (with_ops h.now body_ops) (slice_get-behind h.left (with_ops h.now body_ops ∷ h.right) 0) in omega (arith, e, number, h.at));
    bare = h.bare;
  }

  pub body_hoisted : (i : ℕ) (o : DialectOp) → slice_get h.hoisted i ≡ Some o → IsIn (ops_of h.left ++ body_ops) o
  body_hoisted i o is = hoisted_in body_known h.left j b h.rest h.at h.converted h.source i o is

  pub hoisted_below : All (λ (o : DialectOp). o.number < length c.ops) h.hoisted
  hoisted_below = all_from (λ (o : DialectOp). o.number < length c.ops) h.hoisted (λ i o is.
      let q = body_hoisted i o is in
      below_at (length c.ops) (ops_of (h.left ++ with_ops h.now body_ops ∷ h.right)) h.under.fresh.below q.0 o (ap (λ (os : List DialectOp). slice_get os q.0) (ops_behind h.left (with_ops h.now body_ops) h.right h.bare) ∙ q.1))

  -- the block at a place is there
  block_there : (i : ℕ) → i < length (blocks_of fr) → fr.base + i < length c.blocks
  block_there i lt = block_below fr.home fr.base c (h.left ++ with_ops h.now body_ops ∷ h.right) i h.under (omega (arith, lt, h.count, same_length h.left h.now (with_ops h.now body_ops) h.right))

  here_there : fr.base + j < length c.blocks
  here_there = block_there j (slice_get_within (blocks_of fr) j b h.source)

  older_within : (split args : ℕ) (w : Value) → IsOlder split (length c.ops) (fr.base + j) args w → IsValueWithin (length c.ops) (length c.blocks) w
  older_within split args (V.Result r) o = o.1
  older_within split args (V.Argument a i) (inl lt) = omega (arith, lt, here_there)
  older_within split args (V.Argument a i) (inr same) = omega (arith, same.0, here_there)

  pub value_within : (o : L.Operand) (w : Value) → Stands body_known o w → IsValueWithin (length c.ops) (length c.blocks) w
  value_within (L.Constant d) w st = subst (IsValueWithin (length c.ops) (length c.blocks)) (sym st.is) (within_at h.hoisted (λ (o : DialectOp). o.number < length c.ops) hoisted_below st.place st.op st.there)
  value_within (L.Parameter f i) w st = subst (IsValueWithin (length c.ops) (length c.blocks)) (sym st.2) (let lt = here_there in omega (arith, lt))
  value_within (L.Result n) w st =
      let r = beside_from (λ (p : Placed). nat_eq p.number n) (insts_before fr j ++ take x b.instructions) h.done w st in
      older_within h.known.split (length (filter LF.is_phi (take x b.instructions))) w (h.known.older r.place w r.there)

  edge_within : (from to : ℕ) (s : Successor) → IsEdge body_known from to s → IsSuccessorWithin (length c.ops) (length c.blocks) s
  edge_within from to s e = (
    (let lt = block_there e.place (slice_get_within (blocks_of fr) e.place e.target e.here) in omega (arith, lt, e.leads)),
    all_beside (Stands body_known) (IsValueWithin (length c.ops) (length c.blocks)) (passed fr.source from to) s.args (λ o w st. value_within o w st) e.args,
  )

  pub values_within : (os : List L.Operand) (ws : List Value) → Matched (Stands body_known) os ws → All (IsValueWithin (length c.ops) (length c.blocks)) ws
  values_within os ws stand = all_beside (Stands body_known) (IsValueWithin (length c.ops) (length c.blocks)) os ws (λ o w st. value_within o w st) stand

  pub edges_within : (from : ℕ) (ts : List ℕ) (ss : List Successor) → Matched (IsEdge body_known from) ts ss → All (IsSuccessorWithin (length c.ops) (length c.blocks)) ss
  edges_within from ts ss edges = all_beside (IsEdge body_known from) (IsSuccessorWithin (length c.ops) (length c.blocks)) ts ss (λ t s e. edge_within from t s e) edges

-- ---- the next instruction

module _ (fr : Frame) (m : Module) (f : LLVMFunction) (targets : Targets) (entries : Entries) (c : ContextData) (values : Values) (from : LLVMBasicBlock) (block : BlockRef) (i : LLVMInstRef) (j x : ℕ) (b : L.Block) (p : Placed) (h : IsAt fr m f targets entries c values from block i j x b p) where
  pub site : IsSite m f fr.source entries from i b p
  site = record { source = h.framed.source; noted = h.noted; place = h.place; of_block = h.of_block; at = x; inst = h.inst }

  pub from_number : b.number ≡ from.0
  from_number = block_number m fr.source from h.place b h.of_block

  module _ (inst : LLVMInst) (has : option_map (λ (y : InstData). y.inst) (slice_get m.insts i.0) ≡ Some inst) where
    targets_are : map (λ (t : LLVMBasicBlock). t.0) (target_blocks inst) ≡ L.targets p.instruction
    targets_are = used.targets_are m f fr.source entries from i b p site inst has

    -- each edge that was made stands for one of the instruction
    pub edges_stand : (ss : List Successor) → Matched (IsKnownEdge m fr.source values targets from) (target_blocks inst) ss → Matched (IsEdge (body_known fr m c values j x b h.body) b.number) (L.targets p.instruction) ss
    edges_stand ss edges =
        subst (λ (ts : List ℕ). Matched (IsEdge (body_known fr m c values j x b h.body) b.number) ts ss) targets_are
        (matched_under (IsKnownEdge m fr.source values targets from) (IsEdge (body_known fr m c values j x b h.body) b.number) (λ (t : LLVMBasicBlock). t.0) (target_blocks inst) ss (λ y to s at e. edge y to s at e) edges)
      where
        edge : (y : ℕ) (to : LLVMBasicBlock) (s : Successor) → slice_get (target_blocks inst) y ≡ Some to → IsKnownEdge m fr.source values targets from to s → IsEdge (body_known fr m c values j x b h.body) b.number to.0 s
        edge y to s at e =
            let l = used.leads m f fr.source entries from i b p site inst has y to at in
            let t = target_is m f fr targets to l.place l.block h.framed h.leads l.is in
            record {
              place = t.0;
              target = l.block;
              here = t.1;
              number = block_number m fr.source to l.place l.block l.is;
              leads = ap (λ (r : BlockRef). r.0) (same_Some s.block (record { 0 = fr.base + t.0 }) (sym e.leads ∙ t.2));
              args =
                  subst (λ (os : List L.Operand). Matched (Stands (body_known fr m c values j x b h.body)) os s.args) (e.passes ∙ ap (λ (n : ℕ). passed fr.source n to.0) (sym from_number))
                  (matched_under (λ (v : LLVMValue) (w : Value). value_at values v ≡ Some w) (Stands (body_known fr m c values j x b h.body)) (operand_of (trees_of m)) e.taken s.args (λ z v w at_v is. h.body.known.notes.sound v w is) e.args);
            }

    -- what an edge passes is used
    in_passed : (y : ℕ) (to : LLVMBasicBlock) (o : L.Operand) → slice_get (target_blocks inst) y ≡ Some to → IsIn (passed fr.source from.0 to.0) o → IsIn (used_by fr.source b p) o
    in_passed y to o at is_in =
        let t : slice_get (L.targets p.instruction) y ≡ Some to.0 = ap (λ (ts : List ℕ). slice_get ts y) (sym targets_are) ∙ slice_get-map (λ (t : LLVMBasicBlock). t.0) (target_blocks inst) y ∙ ap (option_map (λ (t : LLVMBasicBlock). t.0)) at in
        let q = flat_at (passed fr.source b.number) (L.targets p.instruction) y to.0 is_in.0 o t (ap (λ (n : ℕ). slice_get (passed fr.source n to.0) is_in.0) from_number ∙ is_in.1) in
        (length (LF.operands_of p.instruction) + q.0, slice_get-behind (LF.operands_of p.instruction) (flat_map (passed fr.source b.number) (L.targets p.instruction)) q.0 ∙ q.1)

    pub in_targets : (ts : List LLVMBasicBlock) (o : L.Operand) → ts ≡ target_blocks inst → IsIn (flat_map (passed fr.source from.0) (map (λ (t : LLVMBasicBlock). t.0) ts)) o → IsIn (used_by fr.source b p) o
    in_targets ts o same is_in =
        let are = ap (λ (n : ℕ). flat_map (passed fr.source n) (L.targets p.instruction)) from_number ∙ ap (flat_map (passed fr.source from.0)) (sym targets_are ∙ ap (map (λ (t : LLVMBasicBlock). t.0)) (sym same)) in
        (length (LF.operands_of p.instruction) + is_in.0, slice_get-behind (LF.operands_of p.instruction) (flat_map (passed fr.source b.number) (L.targets p.instruction)) is_in.0 ∙ ap (λ (os : List L.Operand). slice_get os is_in.0) are ∙ is_in.1)

    module _ (other : LF.is_phi p ≡ false) where
      operands_are : map (operand_of (trees_of m)) (operands inst) ≡ LF.operands_of p.instruction
      operands_are = used.operands_are m f fr.source entries from i b p site inst has other

      pub in_operands : (vs : List LLVMValue) (o : L.Operand) → vs ≡ operands inst → IsIn (map (operand_of (trees_of m)) vs) o → IsIn (used_by fr.source b p) o
      in_operands vs o same is_in =
          let at = ap (λ (os : List L.Operand). slice_get os is_in.0) (sym operands_are ∙ ap (map (operand_of (trees_of m))) (sym same)) ∙ is_in.1 in
          (is_in.0, slice_get-kept (LF.operands_of p.instruction) (flat_map (passed fr.source b.number) (L.targets p.instruction)) is_in.0 o at)

      is_settled : (v : LLVMValue) → IsUsed m fr.source v → IsIn (used_by fr.source b p) (operand_of (trees_of m) v) → IsSettled m values v
      is_settled v u is_in =
          settled m values (all_uses m fr) (body_known fr m c values j x b h.body) (length c.ops) (fr.base + j) (length (filter LF.is_phi (take x b.instructions))) v h.body.known u
          (λ d e. used_constant m fr j x b p d h.body.source h.inst.at other (subst (IsIn (used_by fr.source b p)) e is_in))

      pub operands_settled : HasValues m inst → All (IsSettled m values) (operands inst)
      operands_settled valid = all_from (IsSettled m values) (operands inst) (λ y v at.
          let o : slice_get (LF.operands_of p.instruction) y ≡ Some (operand_of (trees_of m) v) = ap (λ (os : List L.Operand). slice_get os y) (sym operands_are) ∙ slice_get-map (operand_of (trees_of m)) (operands inst) y ∙ ap (option_map (operand_of (trees_of m))) at in
          is_settled v (within_at (operands inst) (IsUsed m fr.source) (used.operands_used m f fr.source entries from i b p site inst has other valid) y v at)
          (y, slice_get-kept (LF.operands_of p.instruction) (flat_map (passed fr.source b.number) (L.targets p.instruction)) y (operand_of (trees_of m) v) o))

      pub targets_ready : (y : ℕ) (to : LLVMBasicBlock) → slice_get (target_blocks inst) y ≡ Some to → IsReady m f fr.source values targets entries from to
      targets_ready y to at =
          let l = used.leads m f fr.source entries from i b p site inst has y to at in
          let t = target_is m f fr targets to l.place l.block h.framed h.leads l.is in
          record { leads = l; there = some_from (target_at targets to) (record { 0 = fr.base + t.0 }) t.2; settled = λ v u is_in. is_settled v u (in_passed y to (operand_of (trees_of m) v) at is_in) }

      pub operands_stand : (ws : List Value) → AreNoted values (operands inst) ws → Matched (Stands (body_known fr m c values j x b h.body)) (LF.operands_of p.instruction) ws
      operands_stand ws noted =
          subst (λ (os : List L.Operand). Matched (Stands (body_known fr m c values j x b h.body)) os ws) operands_are
          (matched_under (λ (v : LLVMValue) (w : Value). value_at values v ≡ Some w) (Stands (body_known fr m c values j x b h.body)) (operand_of (trees_of m)) (operands inst) ws (λ z v w at is. h.body.known.notes.sound v w is) noted)
