-- The index of a function of LLVM: what its phis take, and where its blocks stand.
use Rattle.std.proofs.Common.{◌≡◌, ◌<◌, ◌≤◌, ◌+◌, ℕ, suc, Bool, true, false, cond, if◌then◌else◌, List, [], ◌∷◌, ◌++◌, Option, Some, None, length, map, filter, take, slice_get, get_or, nat_eq, refl, sym, ap, subst, ◌∙◌, arith}
use Rattle.std.specs.List.{filter_map, find, cons_option}
use Rattle.std.specs.Option.{is_some, option_map, option_map_or}
use Rattle.std.proofs.lemmas.List.{append-nil, take_more, take_all}
use Rattle.std.proofs.lemmas.Option.{none-some, slice_get-get_or, same_Some}
use Rattle.llvm_core.specs.declared.numbers.LLVMBasicBlock.{LLVMBasicBlock}
use Rattle.llvm_core.specs.declared.numbers.LLVMInstRef.{LLVMInstRef}
use Rattle.llvm_core.specs.declared.code.LLVMInst.TheVariants as I
use Rattle.llvm_core.specs.declared.code.PhiEntry.{PhiEntry}
use Rattle.llvm_core.specs.declared.code.LLVMValue.TheVariants as V
use Rattle.llvm_core.specs.declared.numbers.LLVMType.{LLVMType}
use Rattle.indexmap.specs.IndexMap.{get}
use Rattle.tracing.specs.declared.llvm_index.Phi.{Phi}
use Rattle.tracing.specs.declared.body.Slot.TheVariants.{Result}
use Rattle.tracing.specs.declared.body.Source.{Source}
use Rattle.tracing.specs.Contents.{Contents, KeepsContents, Lasts}
use Rattle.tracing.specs.Bodies.{IsSource, HandsOver, IsGiven}
use Rattle.tracing.proofs.GrowLaws.{lasts, same_kept}
use Rattle.tracing.proofs.LlvmLaws.{kept_at}
use Rattle.llvm_core.specs.declared.code.BlockData.{BlockData}
use Rattle.llvm_core.specs.declared.code.FunctionData.{FunctionData}
use Rattle.llvm_core.specs.declared.code.InstData.{InstData}
use Rattle.llvm_core.specs.Module.{Module}
use Rattle.llvm_core.specs.Data as D
use Rattle.llvm_core.specs.Data.{Placed, Block, trees_of, entry_of, instruction_of, phi_entries, placed_at, block_at, block_of}
use Rattle.llvm_core.specs.Checked.{home}
use Rattle.llvm_core.specs.Form.{is_phi}
use Rattle.llvm_core.proofs.DataLemmas.{blocks_there, insts_there, slice_get-filter_map_all, length-filter_map_all}
use Rattle.llvm_core.proofs.FormPlaces.{block_from}
use Rattle.llvm_core.proofs.FormTypes.{count_is, numbered}
use Rattle.meaning.specs.Machine as M
use Rattle.meaning.specs.Pairs.{Matched}
use Rattle.llvm_core.specs.declared.types.LLVMTypeKind.{LLVMTypeKind}
use Rattle.llvm_core.specs.declared.types.LLVMTypeKind.TheVariants as T
use Rattle.llvm_core.specs.Parts.{is_function}
use Rattle.std.specs.Prelude.{IsTrue}
use Rattle.meaning.proofs.MatchedLaws.{matched_push}
use Rattle.llvm_core.proofs.DataLemmas.{function_tree_of}
use Rattle.tracing.specs.Bodies.{start_of}
use Rattle.meaning.specs.Llvm.{entry_for, operand, arity, start, Key, ParamKey, ResultKey}
use Rattle.tracing.specs.Renamed.{renamed}
use Rattle.tracing.specs.declared.body.Slot.{Slot}
use Rattle.tracing.specs.LlvmBodies.{setting_in, slot_of, first_of, operand_in, InChecked, data_in, IsPlacedIn, ArePlacedIn, IsBlockIn, IsPhiOf, ArePhis, ArePhisOf, AreBlockPhis}

module _ (m : Module) (from : ℕ) where
  abbrev pub taken_of : List PhiEntry → Option (M.Operand Slot)
  taken_of es = option_map (renamed slot_of) (entry_for (setting_in m) from (map (entry_of (trees_of m)) es))

  abbrev pub here_of : PhiEntry → Option (M.Operand Slot)
  here_of e = if nat_eq e.block.0 from then Some (operand_in m e.value) else None

  abbrev shown : Option (D.Operand × ℕ) → Option (M.Operand Slot)
  shown o = option_map (renamed slot_of) (option_map (λ (x : D.Operand × ℕ). operand (setting_in m) x.0) o)

  -- one entry more counts where no earlier one is for the block
  taken_push : (es : List PhiEntry) (e : PhiEntry) → taken_of (es ++ e ∷ []) ≡ first_of (taken_of es) (here_of e)
  taken_push [] e = by (nat_eq e.block.0 from)
    where
      by : (b : Bool) → option_map (renamed slot_of) (option_map (λ (x : D.Operand × ℕ). operand (setting_in m) x.0) (cond b (Some (entry_of (trees_of m) e)) None)) ≡ (if b then Some (operand_in m e.value) else None)
      by true = refl
      by false = refl
  taken_push (x ∷ es) e = by (nat_eq x.block.0 from) (taken_push es e)
    where
      by : (b : Bool) → taken_of (es ++ e ∷ []) ≡ first_of (taken_of es) (here_of e)
          → shown (cond b (Some (entry_of (trees_of m) x)) (find (λ (e : D.Operand × ℕ). nat_eq e.1 from) (map (entry_of (trees_of m)) (es ++ e ∷ []))))
          ≡ first_of (shown (cond b (Some (entry_of (trees_of m) x)) (find (λ (e : D.Operand × ℕ). nat_eq e.1 from) (map (entry_of (trees_of m)) es)))) (here_of e)
      by true h = refl
      by false h = h

  pub taken_step : (es : List PhiEntry) (i : ℕ) (d : PhiEntry) → i < length es → taken_of (take (i + 1) es) ≡ first_of (taken_of (take i es)) (here_of (get_or es i d))
  taken_step es i d lt = ap taken_of (take_more es i d lt) ∙ taken_push (take i es) (get_or es i d)

-- ---- what is noted for a block

first_none : {X : Type 0} (x : Option X) → first_of x None ≡ x
first_none None = refl
first_none (Some x) = refl

-- an entry changes nothing where there is an earlier one for its block
pub still_given : (now : Contents) (o : Option Source) (x : Option (M.Operand Slot)) (here : Bool) (y : M.Operand Slot) → IsGiven now o x → (here ≡ true → is_some o ≡ true) → IsGiven now o (first_of x (if here then Some y else None))
still_given now o x false y given there = subst (IsGiven now o) (sym (first_none x)) given
still_given now None x true y given there = absurd (cc (there refl))
still_given now (Some s) x true y given there =
    subst (λ (z : Option (M.Operand Slot)). IsGiven now (Some s) z → IsGiven now (Some s) (first_of z (Some y))) (given now (same_kept now)).0 (λ g. g) given

-- and is what the block gets where there is none
pub newly_given : (old new : Contents) (s : Source) (o : Option Source) (x : Option (M.Operand Slot)) (here : Bool) (y : M.Operand Slot) → KeepsContents old new → IsGiven old o x → (here ≡ true → is_some o ≡ false) → IsSource new s y
    → IsGiven new (cond here (Some s) o) (first_of x (if here then Some y else None))
newly_given old new s o x false y keeps given apart is = subst (IsGiven new o) (sym (first_none x)) (lasts (λ (d : Contents). HandsOver d o x) old new keeps given)
newly_given old new s (Some t) x true y keeps given apart is = absurd (cc (apart refl))
newly_given old new s None x true y keeps given apart is =
    subst (λ (z : Option (M.Operand Slot)). IsGiven new (Some s) (first_of z (Some y))) (given old (same_kept old)).0 (λ later more. let h = is later more in (ap Some h.0, h.1))

-- ---- blocks and their instructions

module _ (m : Module) (h : InChecked m) where
  pub block_there : (bs : List LLVMBasicBlock) → h.function.blocks ≡ bs → (i : ℕ) (b : LLVMBasicBlock) → slice_get bs i ≡ Some b → (y : Block) × IsBlockIn m h b y × (slice_get (data_in m h).blocks i ≡ Some y)
  block_there bs are i b at =
      let listed : slice_get h.function.blocks i ≡ Some b = ap (λ (xs : List LLVMBasicBlock). slice_get xs i) are ∙ at in
      let all = blocks_there m h.function.blocks (h.sound.functions h.number h.function h.at).blocks in
      let y = all i b listed in
      let stands = slice_get-filter_map_all (block_at (trees_of m) m.blocks m.insts) h.function.blocks all i b y.0 listed y.1 in
      (y.0, record { place = i; at = stands; here = y.1 }, stands)

  pub block_count : length (data_in m h).blocks ≡ length h.function.blocks
  block_count = length-filter_map_all (block_at (trees_of m) m.blocks m.insts) h.function.blocks (blocks_there m h.function.blocks (h.sound.functions h.number h.function h.at).blocks)

  -- the instruction is one of the block of the number b, in the function
  abbrev IsOwned : (b : ℕ) → LLVMInstRef → Type 0
  IsOwned b i = (x : InstData) → slice_get m.insts i.0 ≡ Some x → (x.block.0 ≡ b) × (home m x ≡ record { 0 = h.number })

  placed_each : (b : ℕ) (is : List LLVMInstRef) → ((j : ℕ) (i : LLVMInstRef) → slice_get is j ≡ Some i → (p : Placed) × (placed_at (trees_of m) m.insts i ≡ Some p)) → ((j : ℕ) (i : LLVMInstRef) → slice_get is j ≡ Some i → IsOwned b i)
      → ArePlacedIn m h b is (filter_map (placed_at (trees_of m) m.insts) is)
  placed_each b [] all owned = tt
  placed_each b (i ∷ is) all owned =
      let here = all 0 i refl in
      let rest = filter_map (placed_at (trees_of m) m.insts) is in
      subst (λ (o : Option Placed). ArePlacedIn m h b (i ∷ is) (cons_option o rest)) (sym here.1)
      (record { here = here.1; owned = owned 0 i refl }, placed_each b is (λ j k at. all (suc j) k at) (λ j k at. owned (suc j) k at))

  -- the instructions that a block lists are those of the block, and of its function
  insts_owned : (b : LLVMBasicBlock) (y : Block) (x : BlockData) → IsBlockIn m h b y → slice_get m.blocks b.0 ≡ Some x → y.number ≡ b.0 → (j : ℕ) (i : LLVMInstRef) → slice_get x.insts j ≡ Some i → IsOwned b.0 i
  insts_owned b y x at is number j i listed z here =
      let l = block_from m h.number h.function at.place y h.sound h.at at.at in
      let same : l.number ≡ b.0 = ap (λ (z : Block). z.number) (sym l.shown_as) ∙ number in
      let block : l.block ≡ x = same_Some l.block x (sym l.here ∙ ap (slice_get m.blocks) same ∙ is) in
      let own : x.function.0 ≡ h.number = ap (λ (z : BlockData). z.function.0) (sym block) ∙ l.owned in
      let stands : z.block.0 ≡ b.0 = h.sound.owned_insts b.0 x is j i z listed here in
      (stands, ap (λ o. option_map_or (λ (z : BlockData). z.function) o (record { 0 = 0 })) (ap (slice_get m.blocks) stands ∙ is) ∙ ap numbered own)

  -- the instructions of a block, one by one
  pub insts_placed : (b : LLVMBasicBlock) (y : Block) (is : List LLVMInstRef) → IsBlockIn m h b y → option_map (λ (x : BlockData). x.insts) (slice_get m.blocks b.0) ≡ Some is → ArePlacedIn m h b.0 is y.instructions
  insts_placed b y is at listed = by (slice_get m.blocks b.0) refl at.here listed
    where
      by : (o : Option BlockData) → slice_get m.blocks b.0 ≡ o → option_map (block_of (trees_of m) m.insts b) o ≡ Some y → option_map (λ (x : BlockData). x.insts) o ≡ Some is → ArePlacedIn m h b.0 is y.instructions
      by None e k l = absurd (none-some y k)
      by (Some x) e k l =
          let shown : block_of (trees_of m) m.insts b x ≡ y = same_Some _ y k in
          let same : x.insts ≡ is = same_Some x.insts is l in
          let number : y.number ≡ b.0 = sym (ap (λ (z : Block). z.number) shown) in
          let placed = placed_each b.0 x.insts (insts_there m x.insts (h.sound.blocks b.0 x e).insts) (insts_owned b y x at e number) in
          subst (λ (js : List LLVMInstRef). ArePlacedIn m h b.0 js y.instructions) same (subst (λ (z : Block). ArePlacedIn m h b.0 x.insts z.instructions) shown placed)

-- a function's blocks as its module lists them
pub blocks_are : (m : Module) (h : InChecked m) (f : ℕ) (bs : List LLVMBasicBlock) → h.number ≡ f → option_map (λ (x : FunctionData). x.blocks) (slice_get m.functions f) ≡ Some bs → h.function.blocks ≡ bs
blocks_are m h f bs is at = same_Some h.function.blocks bs (sym (ap (λ (n : ℕ). option_map (λ (x : FunctionData). x.blocks) (slice_get m.functions n)) (sym is) ∙ ap (option_map (λ (x : FunctionData). x.blocks)) h.at) ∙ at)

abbrev pub some_entry : PhiEntry
some_entry = record { value = V.Const (record { 0 = 0 }); block = record { 0 = 0 } }

-- ---- phis

module _ (m : Module) where
  pub no_more : (now : Contents) (xs : List Phi) (ps : List Placed) (p : Placed) → is_phi p ≡ false → ArePhis m now xs ps → ArePhis m now xs (ps ++ filter is_phi (p ∷ []))
  no_more now xs ps p none h = rw none (subst (ArePhis m now xs) (sym (append-nil ps)) h)

  pub one_more : (old new : Contents) (xs : List Phi) (ps : List Placed) (x : Phi) (p : Placed) → is_phi p ≡ true → KeepsContents old new → Lasts new (λ (d : Contents). IsPhiOf m d x p) → ArePhis m old xs ps → ArePhis m new (xs ++ x ∷ []) (ps ++ filter is_phi (p ∷ []))
  one_more old new xs ps x p some keeps is h =
      rw some (λ later more. matched_push (IsPhiOf m later) xs ps x p (lasts (λ (d : Contents). Matched (IsPhiOf m d) xs ps) old new keeps h later more) (is later more))

  pub is_phi_of : (now : Contents) (h : InChecked m) (b : ℕ) (i : LLVMInstRef) (p : Placed) (t : LLVMType) (es : List PhiEntry) (x : Phi) → IsPlacedIn m h b i p → p.instruction ≡ instruction_of (trees_of m) (I.Phi t es)
      → x.slot ≡ Result i.0 → ((from : ℕ) → IsGiven now (get nat_eq x.incoming from) (taken_of m from es)) → Lasts now (λ (d : Contents). IsPhiOf m d x p)
  is_phi_of now h b i p t es x at e slot takes = λ later more. record {
    entries = map (entry_of (trees_of m)) es;
    are = ap phi_entries e;
    slot = slot ∙ ap Result (sym (ap (λ (q : Placed). q.number) (kept_at m h b i p at).is));
    incoming = λ from. takes from later more;
  }

  pub no_phis : (now : Contents) → ArePhis m now [] []
  no_phis now = λ later more. tt

  -- the phis of one block more
  pub block_phis_push : (old new : Contents) (all : List (List Phi)) (ys : List Block) (xs : List Phi) (y : Block) → KeepsContents old new → Lasts old (λ (d : Contents). AreBlockPhis m d all ys) → ArePhis m new xs (filter is_phi y.instructions)
      → Lasts new (λ (d : Contents). AreBlockPhis m d (all ++ xs ∷ []) (ys ++ y ∷ []))
  block_phis_push old new all ys xs y keeps before here = λ later more.
      matched_push (λ (xs : List Phi) (y : Block). ArePhisOf m later xs y.instructions) all ys xs y (lasts (λ (d : Contents). AreBlockPhis m d all ys) old new keeps before later more) (here later more)

-- ---- the block at a place of a function's list

abbrev pub some_block : LLVMBasicBlock
some_block = record { 0 = 0 }

-- its data, and its instructions
pub record IsBlockAt (m : Module) (h : InChecked m) (bs : List LLVMBasicBlock) (i : ℕ) : Type 0 where
  pub block : Block
  pub fits : IsBlockIn m h (get_or bs i some_block) block
  pub at : slice_get (data_in m h).blocks i ≡ Some block

pub block_at_place : (m : Module) (h : InChecked m) (f : ℕ) (bs : List LLVMBasicBlock) (i : ℕ) → h.number ≡ f → option_map (λ (x : FunctionData). x.blocks) (slice_get m.functions f) ≡ Some bs → i < length bs → IsBlockAt m h bs i
block_at_place m h f bs i is listed lt =
    let y = block_there m h bs (blocks_are m h f bs is listed) i (get_or bs i some_block) (slice_get-get_or bs i some_block lt) in
    record { block = y.0; fits = y.1; at = y.2 }

pub all_blocks : (m : Module) (h : InChecked m) (f : ℕ) (bs : List LLVMBasicBlock) (i : ℕ) → h.number ≡ f → option_map (λ (x : FunctionData). x.blocks) (slice_get m.functions f) ≡ Some bs → length bs ≤ i → take i (data_in m h).blocks ≡ (data_in m h).blocks
all_blocks m h f bs i is listed le =
    let same = ap length (blocks_are m h f bs is listed) in
    take_all i (data_in m h).blocks (omega (arith, le, same, block_count m h))

-- the numbers of a function's blocks are those of its list
pub numbers_are : (m : Module) (h : InChecked m) (f : ℕ) (bs : List LLVMBasicBlock) → h.number ≡ f → option_map (λ (x : FunctionData). x.blocks) (slice_get m.functions f) ≡ Some bs → map (λ (b : LLVMBasicBlock). b.0) bs ≡ map (λ (y : Block). y.number) (data_in m h).blocks
numbers_are m h f bs is listed =
    ap (map (λ (b : LLVMBasicBlock). b.0)) (sym (blocks_are m h f bs is listed)) ∙ same h.function.blocks (blocks_there m h.function.blocks (h.sound.functions h.number h.function h.at).blocks)
  where
    one : (b : LLVMBasicBlock) (y : Block) (o : Option BlockData) → option_map (block_of (trees_of m) m.insts b) o ≡ Some y → b.0 ≡ y.number
    one b y None e = absurd (none-some y e)
    one b y (Some x) e = ap (λ (z : Block). z.number) (same_Some (block_of (trees_of m) m.insts b x) y e)

    same : (bs : List LLVMBasicBlock) → ((i : ℕ) (b : LLVMBasicBlock) → slice_get bs i ≡ Some b → (y : Block) × (block_at (trees_of m) m.blocks m.insts b ≡ Some y))
        → map (λ (b : LLVMBasicBlock). b.0) bs ≡ map (λ (y : Block). y.number) (filter_map (block_at (trees_of m) m.blocks m.insts) bs)
    same [] all = refl
    same (b ∷ bs) all =
        let here = all 0 b refl in
        let first = one b here.0 (slice_get m.blocks b.0) here.1 in
        let rest = same bs (λ i c at. all (suc i) c at) in
        subst (λ (o : Option Block). b.0 ∷ map (λ (b : LLVMBasicBlock). b.0) bs ≡ map (λ (y : Block). y.number) (cons_option o (filter_map (block_at (trees_of m) m.blocks m.insts) bs))) (sym here.1) (cc)

-- ---- parameters

pub arity_is : (m : Module) (h : InChecked m) (f : ℕ) (t r : LLVMType) (ps : List LLVMType) (v : Bool) → h.number ≡ f → option_map (λ (x : FunctionData). x.ty) (slice_get m.functions f) ≡ Some t → slice_get m.types t.0 ≡ Some (T.Function r ps v) → arity (data_in m h).type ≡ length ps
arity_is m h f t r ps v is at kind =
    let same : h.function.ty ≡ t = same_Some h.function.ty t (sym (ap (λ (n : ℕ). option_map (λ (x : FunctionData). x.ty) (slice_get m.functions n)) (sym is) ∙ ap (option_map (λ (x : FunctionData). x.ty)) h.at) ∙ at) in
    let tree = ap (D.type_at (trees_of m).types) same ∙ function_tree_of m t r ps v h.sound kind in
    ap arity tree ∙ count_is (trees_of m).types ps

-- a function of the module has a function type
pub typed_function : (m : Module) (k : LLVMTypeKind) → IsTrue (is_function k) → ((r : LLVMType) (ps : List LLVMType) (v : Bool) → k ≡ T.Function r ps v → ⊥) → ⊥
typed_function m (T.Function r ps v) t h = h r ps v refl
typed_function m k t h = cc

pub start_is : (g : D.Function) (holder inputs : ℕ) → g.number ≡ holder → inputs ≡ arity g.type → (k : Key) → start_of holder inputs (slot_of k) ≡ start g k
start_is g holder inputs is count (ParamKey f i) = rw (sym is, count) refl
start_is g holder inputs is count (ResultKey n) = refl
