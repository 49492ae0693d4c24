-- The start of a body, and its end: blocks that are added, what parameters stand for, and a function that is whole.
use Rattle.std.proofs.Common.{ℕ, ◌≡◌, ◌<◌, ◌≤◌, ◌+◌, ◌&&◌, nat_lt, eqb-true, if◌then◌else◌, inl, inr, refl, sym, ap, subst, ◌∙◌, Bool, true, false, nat_eq, List, [], ◌∷◌, ◌++◌, Some, None, All, length, map, slice_get, get_or, arith, eq-eqb, ne_eqb, length-append, ◌≢◌}
use Rattle.std.specs.Prelude.{IsSome}
use Rattle.std.specs.Option.{option_map}
use Rattle.std.specs.List.{flat_map}
use Rattle.std.proofs.lemmas.Bool.{cases_lt, ltb-true, lt-ltb}
use Rattle.std.proofs.lemmas.List.{take_all, append-nil}
use Rattle.std.proofs.lemmas.List.Elements.{All-nil, All-weaker}
use Rattle.std.proofs.lemmas.Option.{slice_get_within, same_Some, none-some}
use Rattle.dialect_types.proofs.TreeLemmas.{push_cases}
use Rattle.support.specs.Interned.{IsDistinctList}
use Rattle.llvm_core.specs.declared.numbers.LLVMFunction.{LLVMFunction}
use Rattle.llvm_core.specs.declared.numbers.LLVMBasicBlock.{LLVMBasicBlock}
use Rattle.llvm_core.specs.declared.numbers.LLVMConst.{LLVMConst}
use Rattle.llvm_core.specs.declared.numbers.LLVMInstRef.{LLVMInstRef}
use Rattle.llvm_core.specs.declared.code.LLVMValue.{LLVMValue}
use Rattle.llvm_core.specs.declared.code.LLVMValue.TheVariants as K
use Rattle.llvm_core.specs.declared.code.FunctionData.{FunctionData}
use Rattle.llvm_core.specs.Module.{Module}
use Rattle.llvm_core.specs.Parts.{IsValue}
use Rattle.llvm_core.specs.Data as L
use Rattle.llvm_core.specs.Data.{trees_of, operand_of, data_of}
use Rattle.llvm_core.proofs.DataLemmas.{within_at}
use Rattle.support.proofs.ListLaws.{distinct_nil, distinct_push, item_there}
use Rattle.dialect_types.specs.Names.{IsIdentifier}
use Rattle.dialect_types.specs.Legalised.{Named, Gave}
use Rattle.dialect_core.specs.declared.numbers.BlockRef.{BlockRef}
use Rattle.dialect_core.specs.declared.numbers.FuncOp.{FuncOp}
use Rattle.dialect_core.specs.declared.ops.Value.{Value}
use Rattle.dialect_core.specs.declared.ops.Value.TheVariants as V
use Rattle.dialect_core.specs.declared.ops.OpKind.TheVariants as O
use Rattle.dialect_core.specs.ContextData.{ContextData, kind_at}
use Rattle.dialect_core.specs.Data.{DialectModule, Func, DialectBlock, DialectOp, with_func, with_func_block}
use Rattle.block_order.specs.DepthFirst.{IsDepthFirst}
use Rattle.from_llvm_ir.specs.declared.matching.FunctionBlocks.{FunctionBlocks}
use Rattle.from_llvm_ir.specs.declared.values.Params.{Params}
use Rattle.from_llvm_ir.specs.declared.values.Values.{Values}
use Rattle.from_llvm_ir.specs.Match.{IsPlaces}
use Rattle.from_llvm_ir.specs.Order.{IsInverse}
use Rattle.from_llvm_ir.specs.Walks.{graph_of, HasDominatedUses}
use Rattle.kinds.specs.Structs.{Struct}
use Rattle.dialect_types.specs.Trees.{structs_of}
use Rattle.from_llvm_ir.specs.Types.{GrowsTypes, IsReadyFor}
use Rattle.from_llvm_ir.specs.Values.{Targets, target_at, param_at, value_at}
use Rattle.from_llvm_ir.specs.Imported.{FirstUses, NoUses, UsedAgain, UsedFirst, ImportedFunction, IsBuilding, IsBelow, IsGivenName, IsLabel, front_for, kept_name, phis_of}
use Rattle.from_llvm_ir.specs.Building.{AreBare, AreFresh, AreNumbered, IsUnder, bare_func, with_blocks, with_ops, ops_of}
use Rattle.from_llvm_ir.specs.Source.{IsSource, IsBlockOf}
use Rattle.from_llvm_ir.specs.Known.{Frame, Known, Stands, Notes, IsOlder, IsKnown, blocks_of, knows, value_of}
use Rattle.from_llvm_ir.specs.Converted.{IsHead, AreHeads, args_for}
use Rattle.from_llvm_ir.specs.Body.{AreTargets, HasHeads, IsFilled, IsFramed, IsHoisting, all_uses, insts_before}
use Rattle.from_llvm_ir.specs.Importing.{IsDeclared}
use Rattle.from_llvm_ir.proofs.BuildLaws.{length-push}
use Rattle.from_llvm_ir.proofs.UnderLaws.{block_taken, typed_building}
use Rattle.from_llvm_ir.proofs.PlaceLaws.{flat_none, number_apart}
use Rattle.from_llvm_ir.proofs.OrderLaws.{ordered_length, ordered_here, ordered_apart}
use Rattle.from_llvm_ir.proofs.SourceLaws.{block_listed_at, block_number, blocks_listed, number_is}
use Rattle.from_llvm_ir.proofs.FrameLaws.{frame_length}
use Rattle.from_llvm_ir.proofs.Whole.{IsWhole, Head, the_func}
use Rattle.from_llvm_ir.proofs.WholeLaws.{imported}

-- ---- a block more

pub more_heads : (fr : Frame) (func : FuncOp) (c c' c1 : ContextData) (j : ℕ) (b : L.Block) (x : DialectBlock) → HasHeads fr func c j → GrowsTypes c c'
    → slice_get (blocks_of fr) j ≡ Some b → x.number ≡ length c'.blocks → IsLabel fr.given j b x.label → x.args ≡ args_for fr.source j b → x.ops ≡ []
    → ((m : ℕ) (body : BlockRef) (d : DialectModule) → IsBuilding c' m body d → IsBuilding c1 m body (with_func_block d func.0.0 x))
    → kind_at c1.ops func.0 ≡ Some O.Func → length c1.blocks ≡ length c'.blocks + 1 → structs_of c1.types ≡ structs_of c'.types
    → HasHeads fr func c1 (j + 1)
more_heads fr func c c' c1 j b x h grown here number label args ops added kind longer still =
    let same : length c'.blocks ≡ length c.blocks = ap (λ (k : ContextData). length k.blocks) grown.rest in
    record {
      heads = h.heads ++ x ∷ [];
      above = h.above;
      building = subst (IsBuilding c1 fr.home.m fr.home.body) (block_taken fr.home.before (with_blocks fr.home h.heads) func.0.0 fr.base x h.number h.before)
          (added fr.home.m fr.home.body _ (typed_building c c' fr.home.m fr.home.body _ h.building grown));
      kind = kind;
      number = h.number;
      before = h.before;
      structs = still ∙ grown.structs ∙ h.structs;
      count = (let e = length-push h.heads x in omega (arith, e, h.count));
      blocks = omega (arith, longer, same, h.blocks);
      are = λ place a y at_a at_y. elim (push_cases h.heads x y place at_y) [
        | inl old ↦ h.are place a y at_a old
        | inr new ↦
            let last : place ≡ j = omega (arith, new.1, h.count) in
            let is : a ≡ b = same_Some a b (sym at_a ∙ ap (slice_get (blocks_of fr)) last ∙ here) in
            subst (IsHead fr place a) (sym new.0) (subst (λ (z : L.Block). IsHead fr place z x) (sym is) (subst (λ (n : ℕ). IsHead fr n b x) (sym last) (record { number = omega (arith, number, same, h.blocks); label = label; args = args })))
      ];
      bare = λ i y at. elim (push_cases h.heads x y i at) [
        | inl old ↦ h.bare i y old
        | inr new ↦ ap (λ (z : DialectBlock). z.ops) new.0 ∙ ops
      ];
    }

-- a block behind the first
pub later_heads : (fr : Frame) (func : FuncOp) (c c' c1 : ContextData) (j : ℕ) (b : L.Block) (x : DialectBlock) → HasHeads fr func c (j + 1) → GrowsTypes c c'
    → slice_get (blocks_of fr) (j + 1) ≡ Some b → x.number ≡ length c'.blocks → IsGivenName fr.given b.name x.label → x.args ≡ map (λ (p : L.Placed). p.type) (phis_of b) → x.ops ≡ []
    → ((m : ℕ) (body : BlockRef) (d : DialectModule) → IsBuilding c' m body d → IsBuilding c1 m body (with_func_block d func.0.0 x))
    → kind_at c1.ops func.0 ≡ Some O.Func → length c1.blocks ≡ length c'.blocks + 1 → structs_of c1.types ≡ structs_of c'.types
    → HasHeads fr func c1 (j + 2)
later_heads fr func c c' c1 j b x h grown here number label args ops added kind longer still =
    let next : ℕ.suc j ≡ j + 1 = omega arith in
    subst (HasHeads fr func c1) (let e : j + 1 + 1 ≡ j + 2 = omega arith in e)
    (more_heads fr func c c' c1 (j + 1) b x h grown here number (subst (λ (n : ℕ). IsLabel fr.given n b x.label) next label) (args ∙ ap (λ (n : ℕ). args_for fr.source n b) next) ops added kind longer still)

-- the number of the next block
pub next_head : (fr : Frame) (func : FuncOp) (c c' : ContextData) (j n : ℕ) → HasHeads fr func c j → GrowsTypes c c' → n ≡ length c'.blocks → n ≡ fr.base + j
next_head fr func c c' j n h grown is = let same = ap (λ (k : ContextData). length k.blocks) grown.rest in omega (arith, is, same, h.blocks)

-- ---- blocks by their numbers

-- the first block of the source is the first of the order
pub record FirstAt (m : Module) (fr : Frame) (n : LLVMBasicBlock) : Type 0 where
  pub block : L.Block
  pub is : IsBlockOf m fr.source n 0 block
  pub here : slice_get (blocks_of fr) 0 ≡ Some block

some_block : (xs : List L.Block) → ¬ (xs ≡ []) → 0 < length xs
some_block [] not_none = absurd (not_none refl)
some_block (x ∷ xs) not_none = omega arith

pub blocks_there : (m : Module) (f : LLVMFunction) (g : L.Function) (ns : List LLVMBasicBlock) → IsSource m f g → option_map (λ (x : FunctionData). x.blocks) (slice_get m.functions f.0) ≡ Some ns → 0 < length ns
blocks_there m f g ns h has = let listed = blocks_listed m f g h ns has in let some = some_block g.blocks h.form.body in omega (arith, some, listed.long)

pub order_there : (m : Module) (f : LLVMFunction) (fr : Frame) (order : List ℕ) → IsFramed m f fr → fr.order ≡ order → 0 < length order
order_there m f fr order h same = let some = some_block fr.source.blocks h.source.form.body in let e = ap (λ (os : List ℕ). length os) same in omega (arith, some, h.order.count, e)

pub first_at : (m : Module) (f : LLVMFunction) (fr : Frame) (ns : List LLVMBasicBlock) (d : LLVMBasicBlock) → IsFramed m f fr → option_map (λ (x : FunctionData). x.blocks) (slice_get m.functions f.0) ≡ Some ns → FirstAt m fr (get_or ns 0 d)
first_at m f fr ns d h has =
    let b = block_listed_at m f fr.source h.source ns 0 d has (blocks_there m f fr.source ns h.source has) in
    record { block = b.0; is = b.1; here = ordered_here fr.order fr.source.blocks h.order 0 0 b.0 (h.order.first (some_block fr.source.blocks h.source.form.body)) b.1.at }

pub first_source : (m : Module) (f : LLVMFunction) (fr : Frame) → IsFramed m f fr → (b : L.Block) × (slice_get (blocks_of fr) 0 ≡ Some b)
first_source m f fr h = item_there (blocks_of fr) 0 (let some = some_block fr.source.blocks h.source.form.body in omega (arith, some, ordered_length fr.order fr.source.blocks h.order))

pub frame_apart : (m : Module) (f : LLVMFunction) (fr : Frame) → IsFramed m f fr → (i j : ℕ) (x y : L.Block) → slice_get (blocks_of fr) i ≡ Some x → slice_get (blocks_of fr) j ≡ Some y → x.number ≡ y.number → i ≡ j
frame_apart m f fr h = ordered_apart fr.order fr.source.blocks h.order h.source.form.block_numbers (λ i j x y at_x at_y same. number_apart (λ (b : L.Block). b.number) fr.source.blocks h.source.form.block_numbers i j x y at_x at_y same)

-- a place behind the first
pub behind : (j : ℕ) → 1 ≤ j → (i : ℕ) × (j ≡ i + 1)
behind ℕ.zero le = absurd (omega (arith, le))
behind (ℕ.suc i) le = (i, omega arith)

-- ---- where blocks lead

-- as AreTargets, of the first blocks only
abbrev pub AreTargetsTo : Frame → Targets → ℕ → Type 0
AreTargetsTo fr t j = (place : ℕ) (b : L.Block) → place < j → slice_get (blocks_of fr) place ≡ Some b → target_at t (record { 0 = b.number }) ≡ Some (record { 0 = fr.base + place })

abbrev pub IsSet : Targets → Targets → LLVMBasicBlock → BlockRef → Type 0
IsSet old new n to = (q : LLVMBasicBlock) → target_at new q ≡ (if nat_eq n.0 q.0 then Some to else target_at old q)

pub more_targets : (m : Module) (f : LLVMFunction) (fr : Frame) (old new : Targets) (j : ℕ) (b : L.Block) (n : LLVMBasicBlock) (to : BlockRef) → IsFramed m f fr → IsSet old new n to → slice_get (blocks_of fr) j ≡ Some b → b.number ≡ n.0 → to.0 ≡ fr.base + j → AreTargetsTo fr old j → AreTargetsTo fr new (j + 1)
more_targets m f fr old new j b n to h set here number leads before place x lt at = elim (cases_lt place j) [
  | inl small ↦
      let other : n.0 ≢ x.number = λ same. let e = frame_apart m f fr h place j x b at here (sym same ∙ sym number) in omega (arith, e, small) in
      set (record { 0 = x.number }) ∙ ap (λ (t : Bool). if t then Some to else target_at old (record { 0 = x.number })) (ne_eqb n.0 x.number other) ∙ before place x small at
  | inr past ↦
      let last : place ≡ j = omega (arith, lt, past) in
      let is : b ≡ x = same_Some b x (sym here ∙ ap (slice_get (blocks_of fr)) (sym last) ∙ at) in
      let same : n.0 ≡ x.number = sym number ∙ ap (λ (y : L.Block). y.number) is in
      set (record { 0 = x.number }) ∙ ap (λ (t : Bool). if t then Some to else target_at old (record { 0 = x.number })) (eq-eqb n.0 x.number same) ∙ ap (λ (k : ℕ). Some (record { 0 = k })) (leads ∙ ap (λ (k : ℕ). fr.base + k) (sym last))
]

pub all_targets : (fr : Frame) (t : Targets) (j : ℕ) → length (blocks_of fr) ≤ j → AreTargetsTo fr t j → AreTargets fr t
all_targets fr t j le h place b at = h place b (let lt = slice_get_within (blocks_of fr) place b at in omega (arith, lt, le)) at

-- the first block leads to the first
pub first_target : (m : Module) (f : LLVMFunction) (fr : Frame) (ns : List LLVMBasicBlock) (d : LLVMBasicBlock) (t : Targets) → IsFramed m f fr → option_map (λ (x : FunctionData). x.blocks) (slice_get m.functions f.0) ≡ Some ns → AreTargets fr t → target_at t (get_or ns 0 d) ≡ Some (record { 0 = fr.base })
first_target m f fr ns d t h has leads =
    let x = first_at m f fr ns d h has in
    ap (λ (k : ℕ). target_at t (record { 0 = k })) (sym (block_number m fr.source (get_or ns 0 d) 0 x.block x.is)) ∙ leads 0 x.block x.here ∙ ap (λ (k : ℕ). Some (record { 0 = k })) (let e : fr.base + 0 ≡ fr.base = omega arith in e)

-- ---- parameters

-- the first parameters are noted by the arguments of the block, and nothing else is
pub record AreParams (f : LLVMFunction) (block : BlockRef) (n : ℕ) (values : Values) : Type 0 where
  pub only : (v : LLVMValue) (w : Value) → value_at values v ≡ Some w → (i : ℕ) × (i < n) × (v ≡ K.Param f i) × (w ≡ V.Argument block i)
  pub each : (i : ℕ) → i < n → value_at values (K.Param f i) ≡ Some (V.Argument block i)

abbrev pub params_of : LLVMFunction → BlockRef → ℕ → Params
params_of f block n = record { function = f; block = block; count = n }

-- so it is of maps that hold nothing yet
pub params_known : (f : LLVMFunction) (block : BlockRef) (n : ℕ) (values : Values) → values.params ≡ params_of f block n → ((i : LLVMInstRef) → value_at values (K.Inst i) ≡ None) → ((c : LLVMConst) → value_at values (K.Const c) ≡ None) → AreParams f block n values
params_known f block n values params insts consts = record { only = only; each = each }
  where
    read : (e : LLVMFunction) (i : ℕ) → value_at values (K.Param e i) ≡ (if nat_eq e.0 f.0 && nat_lt i n then Some (V.Argument block i) else None)
    read e i = ap (λ (p : Params). param_at p e i) params

    only : (v : LLVMValue) (w : Value) → value_at values v ≡ Some w → (i : ℕ) × (i < n) × (v ≡ K.Param f i) × (w ≡ V.Argument block i)
    only (K.Inst i) w at = absurd (none-some w (sym (insts i) ∙ at))
    only (K.Const c) w at = absurd (none-some w (sym (consts c) ∙ at))
    only (K.Param e i) w at = by (nat_eq e.0 f.0) (nat_lt i n) refl refl (sym (read e i) ∙ at)
      where
        by : (s t : Bool) → nat_eq e.0 f.0 ≡ s → nat_lt i n ≡ t → (if s && t then Some (V.Argument block i) else None) ≡ Some w → (k : ℕ) × (k < n) × (K.Param e i ≡ K.Param f k) × (w ≡ V.Argument block k)
        by true true same lt is = (i, ltb-true i n lt, ap (λ (k : ℕ). K.Param (record { 0 = k }) i) (eqb-true e.0 f.0 same), sym (same_Some (V.Argument block i) w is))
        by true false same lt is = absurd (none-some w is)
        by false true same lt is = absurd (none-some w is)
        by false false same lt is = absurd (none-some w is)

    each : (i : ℕ) → i < n → value_at values (K.Param f i) ≡ Some (V.Argument block i)
    each i lt =
        read f i ∙ ap (λ (t : Bool). if t && nat_lt i n then Some (V.Argument block i) else None) (eq-eqb f.0 f.0 refl)
        ∙ ap (λ (t : Bool). if true && t then Some (V.Argument block i) else None) (lt-ltb i n lt)

pub params_noted : (m : Module) (fr : Frame) (f : LLVMFunction) (block : BlockRef) (n : ℕ) (values : Values) → fr.source.number ≡ f.0 → length fr.source.params ≡ n → block.0 ≡ fr.base → AreParams f block n values → Notes m values (knows fr [] [] [] [])
params_noted m fr f block n values number count first h = record {
  sound = λ v w at. sound v w (h.only v w at);
  complete = complete;
}
  where
    sound : (v : LLVMValue) (w : Value) → (i : ℕ) × (i < n) × (v ≡ K.Param f i) × (w ≡ V.Argument block i) → Stands (knows fr [] [] [] []) (operand_of (trees_of m) v) w
    sound v w x =
        subst (λ (y : LLVMValue). Stands (knows fr [] [] [] []) (operand_of (trees_of m) y) w) (sym x.2)
        (sym number, omega (arith, x.1, count), x.3 ∙ ap (λ (k : ℕ). V.Argument (record { 0 = k }) x.0) first)

    complete : (v : LLVMValue) (w : Value) → IsValue m v → Stands (knows fr [] [] [] []) (operand_of (trees_of m) v) w → IsSome (value_at values v)
    complete (K.Const d) w valid st = absurd (none-some _ st.here)
    complete (K.Inst i) w valid st = absurd (none-some w st)
    complete (K.Param e i) w valid st =
        let same : K.Param f i ≡ K.Param e i = ap (λ (k : ℕ). K.Param (record { 0 = k }) i) (sym number ∙ sym st.0) in
        subst (λ (y : LLVMValue). IsSome (value_at values y)) same (rw (h.each i (omega (arith, st.1, count))) refl)

-- ---- the start

-- a function that was declared has no blocks yet
abbrev pub framed : List Named → ℕ → BlockRef → DialectModule → ℕ → List ℕ → L.Function → List ℕ → ℕ → List Struct → Frame
framed given m body d n name g order base structs = record {
  given = given;
  home = record { m = m; body = body; before = d; func = bare_func n name (kept_name g.name name) g.type; structs = structs };
  source = g;
  order = order;
  base = base;
}

pub no_heads : (given : List Named) (name : List ℕ) (g : L.Function) (c : ContextData) (m : ℕ) (body : BlockRef) (d : DialectModule) (func : FuncOp) (order : List ℕ) → IsDeclared g name c m body d func.0.0 → kind_at c.ops func.0 ≡ Some O.Func → HasHeads (framed given m body d func.0.0 name g order (length c.blocks) (structs_of c.types)) func c 0
no_heads given name g c m body d func order h kind = record {
  heads = [];
  above = h.building.held.block;
  building = h.building;
  kind = kind;
  number = refl;
  before = h.before;
  structs = refl;
  count = refl;
  blocks = omega arith;
  are = λ place b x at_b at. absurd (none-some x at);
  bare = λ i x at. absurd (none-some x at);
}

pub is_framed : (s : Module) (f : LLVMFunction) (given : List Named) (g : L.Function) (m : ℕ) (body : BlockRef) (d : DialectModule) (n : ℕ) (name : List ℕ) (order : List ℕ) (base : ℕ) (structs : List Struct) → IsSource s f g → IsPlaces (length g.blocks) order → IsIdentifier name → Gave given g.name name → IsReadyFor g structs → IsFramed s f (framed given m body d n name g order base structs)
is_framed s f given g m body d n name order base structs h places legal gave ready = record { source = h; number = number_is s f g h; order = places; ready = ready; func = (n, name, refl, legal, gave) }

-- ---- nothing is hoisted yet

numbered : (fr : Frame) (bs : List DialectBlock) → length bs ≡ length (blocks_of fr) → AreHeads fr bs → AreNumbered fr.base bs
numbered fr bs count are i x at = let b = item_there (blocks_of fr) i (let lt = slice_get_within bs i x at in omega (arith, lt, count)) in (are i b.0 x b.1 at).number

below_base : (n base : ℕ) (fs : List Func) → All (IsBelow n base) fs → All (λ (f : Func). All (λ (x : DialectBlock). x.number < base) f.blocks) fs
below_base n base fs h = All-weaker (IsBelow n base) (λ (f : Func). All (λ (x : DialectBlock). x.number < base) f.blocks) (λ f b. b.1) fs h

no_ops : (x : DialectBlock) → x.ops ≡ [] → x ≡ with_ops x []
no_ops x e = ap (with_ops x) e

pub not_hoisting : (m : Module) (f : LLVMFunction) (fr : Frame) (func : FuncOp) (c : ContextData) (values : Values) (n : ℕ) → IsFramed m f fr → n ≡ length (blocks_of fr) → HasHeads fr func c n → Notes m values (knows fr [] [] [] []) → IsHoisting fr m c values []
not_hoisting m f fr func c values n framed is h notes = by h.heads h.building (h.count ∙ is) h.are h.bare
  where
    by : (bs : List DialectBlock) → IsBuilding c fr.home.m fr.home.body (with_func fr.home.before (with_blocks fr.home bs)) → length bs ≡ length (blocks_of fr) → AreHeads fr bs → AreBare bs → IsHoisting fr m c values []
    by [] building count are bare =
        let some = some_block fr.source.blocks framed.source.form.body in
        let long = ordered_length fr.order fr.source.blocks framed.order in
        absurd (omega (arith, some, long, count))
    by (x ∷ xs) building count are bare =
        let same : x ∷ xs ≡ with_ops x [] ∷ xs = ap (λ (y : DialectBlock). y ∷ xs) (no_ops x (bare 0 x refl)) in
        let none : ops_of (x ∷ xs) ≡ [] = flat_none (λ (b : DialectBlock). b.ops) (x ∷ xs) bare in
        record {
          constants = [];
          hoisted = [];
          entry = x;
          more = xs;
          under = subst (IsUnder fr.home fr.base c) same (record {
            above = h.above;
            building = building;
            numbered = numbered fr (x ∷ xs) count are;
            before = below_base func.0.0 fr.base fr.home.before.functions h.before;
            structs = h.structs;
            fresh = subst (AreFresh (length c.ops)) (sym none) (record { below = All-nil _; apart = λ i j a b at_a at_b same. absurd (none-some a at_a) });
          });
          heads = are;
          bare = λ i y at. bare (ℕ.suc i) y at;
          count = count;
          known = record {
            made = tt;
            consts = λ i d at. absurd (none-some d at);
            first_uses = NoUses;
            long = refl;
            notes = notes;
            split = 0;
            hoisted = All-nil _;
            older = λ i w at. absurd (none-some w at);
            apart = λ i j w at_i at_j. absurd (none-some w at_i);
          };
        }

-- the first block is where constants go
pub record IsStarted (m : Module) (fr : Frame) (c : ContextData) (values : Values) (block : BlockRef) : Type 0 where
  pub hoisting : IsHoisting fr m c values []
  pub first : block.0 ≡ fr.base

pub started : (m : Module) (f : LLVMFunction) (fr : Frame) (func : FuncOp) (c : ContextData) (values : Values) (order : List ℕ) (ns : List LLVMBasicBlock) (d : LLVMBasicBlock) (t : Targets) (block : BlockRef) (count : ℕ) → IsFramed m f fr → fr.order ≡ order
    → option_map (λ (x : FunctionData). x.blocks) (slice_get m.functions f.0) ≡ Some ns → AreTargets fr t → target_at t (get_or ns 0 d) ≡ Some block → HasHeads fr func c (length order) → count ≡ length fr.source.params
    → ((s : Module) (x : Frame) → x.source.number ≡ f.0 → length x.source.params ≡ count → block.0 ≡ x.base → Notes s values (knows x [] [] [] [])) → IsStarted m fr c values block
started m f fr func c values order ns d t block count h same has leads at heads counted notes =
    let first : block.0 ≡ fr.base = ap (λ (b : BlockRef). b.0) (same_Some block (record { 0 = fr.base }) (sym at ∙ first_target m f fr ns d t h has leads)) in
    record {
      hoisting = not_hoisting m f fr func c values (length order) h (sym (frame_length m f fr order h same)) heads (notes m fr h.number (sym counted) first);
      first = first;
    }

-- ---- nothing is filled yet

pub not_filled : (fr : Frame) (m : Module) (c : ContextData) (values : Values) → IsHoisting fr m c values (all_uses m fr) → IsFilled fr m c values 0
not_filled fr m c values h = record {
  constants = h.constants;
  hoisted = h.hoisted;
  done = [];
  left = [];
  right = with_ops h.entry h.hoisted ∷ h.more;
  under = h.under;
  at = refl;
  count = h.count;
  converted = λ place b x at_b at. absurd (none-some x at);
  heads = heads;
  bare = bare;
  known = subst (λ (n : ℕ). IsKnown m values (all_uses m fr) (knows fr h.constants h.hoisted [] []) (length c.ops) n 0) (let e : fr.base ≡ fr.base + 0 = omega arith in e) h.known;
  from = λ i p w at_p at. absurd (none-some p at_p);
}
  where
    heads : AreHeads fr (with_ops h.entry h.hoisted ∷ h.more)
    heads ℕ.zero b x at_b at =
        let is = h.heads 0 b h.entry at_b refl in
        subst (IsHead fr 0 b) (same_Some (with_ops h.entry h.hoisted) x at) (record { number = is.number; label = is.label; args = is.args })
    heads (ℕ.suc place) b x at_b at = h.heads (ℕ.suc place) b x at_b at

    bare : (i : ℕ) (x : DialectBlock) → slice_get (with_ops h.entry h.hoisted ∷ h.more) i ≡ Some x → x.ops ≡ front_for (0 + i) h.hoisted
    bare ℕ.zero x at = ap (λ (y : DialectBlock). y.ops) (sym (same_Some (with_ops h.entry h.hoisted) x at))
    bare (ℕ.suc i) x at = h.bare i x at ∙ ap (λ (n : ℕ). front_for n h.hoisted) (let e : ℕ.suc i ≡ 0 + ℕ.suc i = omega arith in e)

-- ---- a function that is whole

pub first_once : {A : Type 0} (uses firsts : List A) → FirstUses uses firsts → IsDistinctList firsts
first_once uses firsts NoUses = distinct_nil
first_once uses firsts (UsedAgain us fs y h is_in) = first_once us fs h
first_once uses firsts (UsedFirst us fs y h fresh) = distinct_push fs y (first_once us fs h) (λ i at. fresh (i, at))

result_apart : (split n at args : ℕ) (o : DialectOp) (w : Value) → o.number < split → IsOlder split n at args w → ¬ (w ≡ value_of o)
result_apart split n at args o w small older same = let later = subst (IsOlder split n at args) same older in omega (arith, small, later.0)

nothing : {X : Type 0} (xs ys : List X) (n : ℕ) → length xs ≡ n → length (xs ++ ys) ≡ n → ys ≡ []
nothing xs [] n a b = refl
nothing xs (y ∷ ys) n a b = let e = length-append xs (y ∷ ys) in absurd (omega (arith, a, b, e))

module _ (m : Module) (f : LLVMFunction) (fr : Frame) (c : ContextData) (values : Values) (n : ℕ) (framed : IsFramed m f fr) (all : n ≡ length (blocks_of fr)) (h : IsFilled fr m c values n) where
  abbrev k : Known
  k = knows fr h.constants h.hoisted (insts_before fr n) h.done

  rest_is : h.right ≡ []
  rest_is = nothing h.left h.right n h.at (h.count ∙ sym all)

  under_left : IsUnder fr.home fr.base c h.left
  under_left = subst (IsUnder fr.home fr.base c) (ap (λ (bs : List DialectBlock). h.left ++ bs) rest_is ∙ append-nil h.left) h.under

  pub whole : IsWhole k h.left
  whole = record {
    form = framed.source.form;
    held = framed.source.held;
    order = framed.order;
    count = h.at ∙ all;
    numbered = under_left.numbered;
    fresh = under_left.fresh.apart;
    made = h.known.made;
    consts = h.known.consts;
    once = first_once (all_uses m fr) h.constants h.known.first_uses;
    sources = ap (flat_map (λ (b : L.Block). b.instructions)) (take_all n (blocks_of fr) (omega (arith, all)));
    long = h.known.long;
    converted = h.converted;
    from = h.from;
    apart = h.known.apart;
    behind = λ i j o w at_o at_w. result_apart h.known.split _ _ _ o w (within_at h.hoisted (λ (x : DialectOp). x.number < h.known.split) h.known.hoisted i o at_o) (h.known.older j w at_w);
  }

  abbrev head : Head
  head = record { number = framed.func.0; name = framed.func.1 }

  func_is : the_func head k h.left ≡ with_blocks fr.home h.left
  func_is = ap (λ (g : Func). record g { blocks = h.left }) (sym framed.func.2)

  pub function_whole : (x : FunctionBlocks) → x.function ≡ f → IsInverse fr.order x.places → IsPlaces (length fr.source.blocks) x.places → IsDepthFirst (graph_of fr.source) fr.order → HasDominatedUses fr.source → (y : Func) × ImportedFunction (data_of m) fr.given fr.source x y × IsBuilding c fr.home.m fr.home.body (with_func fr.home.before y)
  function_whole x is inverse places depth_first dominated = (
    the_func head k h.left,
    imported (data_of m) head k h.left whole x inverse places (ap (λ (g : LLVMFunction). g.0) is ∙ sym framed.number) depth_first dominated h.known.first_uses framed.func.3 framed.func.4,
    subst (λ (y : Func). IsBuilding c fr.home.m fr.home.body (with_func fr.home.before y)) (sym func_is) under_left.building,
  )
