-- What the checks of names and of places say of the rules.
use Rattle.std.proofs.Common.{◌≡◌, ◌<◌, ◌+◌, ◌-◌, inl, inr, ℕ, Bool, false, not, ◌&&◌, List, [], ◌∷◌, ◌++◌, Option, None, Some, length, slice_get, get_or, take, map, ap, sym, ◌∙◌, refl}
use Rattle.std.specs.List.{list_any}
use Rattle.std.specs.Option.{option_map, option_map_or}
use Rattle.std.proofs.lemmas.List.{take_more, map-append}
use Rattle.std.proofs.lemmas.Option.{slice_get_within, slice_get-get_or, slice_get-map, get_or_from_slice_get, same_Some}
use Rattle.support.proofs.ListLaws.{slice_get-take}
use Rattle.llvm_core.specs.declared.numbers.LLVMInstRef.{LLVMInstRef}
use Rattle.llvm_core.specs.declared.code.LLVMInst.{LLVMInst}
use Rattle.llvm_core.specs.declared.structs.StructData.{StructData}
use Rattle.llvm_core.specs.declared.code.FunctionData.{FunctionData}
use Rattle.llvm_core.specs.declared.code.BlockData.{BlockData}
use Rattle.llvm_core.specs.declared.code.InstData.{InstData}
use Rattle.llvm_core.specs.declared.check_err.Place.{Place}
use Rattle.llvm_core.specs.declared.check_err.Place.TheVariants as P
use Rattle.llvm_core.specs.declared.check_err.CheckErr.{CheckErr}
use Rattle.llvm_core.specs.declared.check_err.CheckErr.TheVariants.{NoMemory, NameTwice, NoTerminator, PhiPlace, PhiEntries, EntryHasPreds, OperandType, OperandCount, BlockOutside, IntrinsicBody, FunctionSpace, TooDeep, ListTooLong}
use Rattle.llvm_core.specs.Module.{Module}
use Rattle.llvm_core.specs.Names.{Stands}
use Rattle.llvm_core.specs.Checked.{AtFunction, AtBlock, AtInst, HasLongList, HasOtherTypeAt, HasDeepTypeAt, HasNameTwice, Fails, MayAnswer, IsFreshName, IsCheckedStruct, IsCheckedFunction, IsCheckedBlock, IsCheckedInst, IsCheckedDepths, IsCheckedEdges, IsChecked, is_bad_name, is_terminator, is_terminator_at, ends_in_only, names_before, struct_names_before}
use Rattle.llvm_core.proofs.NameLemmas.{slice_get-taken}

-- ---- names of functions and structs

-- of items that have a name, in order
module _ {X : Type 0} (name : X → List ℕ) (xs : List X) where
  -- what an item's name is the name of
  named_there : (f : ℕ) (n : List ℕ) → option_map name (slice_get xs f) ≡ Some n → (x : X) × (slice_get xs f ≡ Some x) × (name x ≡ n)
  named_there f n h = by (slice_get xs f) refl h
    where
      by : (o : Option X) → slice_get xs f ≡ o → option_map name o ≡ Some n → (x : X) × (slice_get xs f ≡ Some x) × (name x ≡ n)
      by None e h = cc
      by (Some x) e h = (x, e, same_Some (name x) n h)

  -- an earlier item has the name
  abbrev IsTakenBefore : ℕ → List ℕ → Type 0
  IsTakenBefore f n = (g : ℕ) × (y : X) × (g < f) × (slice_get xs g ≡ Some y) × (name y ≡ n)

  pub name_added : (f : ℕ) (n : List ℕ) → option_map name (slice_get xs f) ≡ Some n → map name (take f xs) ++ n ∷ [] ≡ map name (take (f + 1) xs)
  name_added f n h =
      let x = named_there f n h in
      let within = slice_get_within xs f x.0 x.1 in
      let at = get_or_from_slice_get xs f x.0 x.0 x.1 in
      sym (ap (map name) (take_more xs f x.0 within) ∙ map-append name (take f xs) _ ∙ ap (λ y. map name (take f xs) ++ y ∷ []) (ap name at ∙ x.2))

  pub taken : (f : ℕ) (n : List ℕ) → Stands (map name (take f xs)) n → IsTakenBefore f n
  taken f n s = by (slice_get (take f xs) s.0) refl (sym (slice_get-map name (take f xs) s.0) ∙ s.1)
    where
      by : (o : Option X) → slice_get (take f xs) s.0 ≡ o → option_map name o ≡ Some n → IsTakenBefore f n
      by None e h = cc
      by (Some y) e h = let r = slice_get-take f xs s.0 y e in (s.0, y, r.0, r.1, same_Some (name y) n h)

  pub taken_stands : (f : ℕ) (n : List ℕ) → IsTakenBefore f n → Stands (map name (take f xs)) n
  taken_stands f n (g, y, lt, at, same) = (g, slice_get-map name (take f xs) g ∙ ap (option_map name) (slice_get-taken f xs g y lt at) ∙ ap Some same)

pub name_taken : (m : Module) (f : ℕ) (n : List ℕ) → option_map (λ (x : FunctionData). x.name) (slice_get m.functions f) ≡ Some n → Stands (names_before m f) n → Fails m (NameTwice (P.Function f))
name_taken m f n h s =
    let x = named_there (λ (x : FunctionData). x.name) m.functions f n h in
    (x.0, x.1, inr (inl (taken (λ (x : FunctionData). x.name) m.functions f x.0.name (rw x.2 s))))

pub name_fresh : (m : Module) (f : ℕ) (n : List ℕ) → option_map (λ (x : FunctionData). x.name) (slice_get m.functions f) ≡ Some n → is_bad_name n ≡ false → ¬ Stands (names_before m f) n → IsFreshName m f
name_fresh m f n h good new x at =
    let same : x.name ≡ n = same_Some x.name n (ap (option_map (λ (x : FunctionData). x.name)) (sym at) ∙ h) in
    (ap is_bad_name same ∙ good, λ t. new (rw (← same) (taken_stands (λ (x : FunctionData). x.name) m.functions f x.name t)))

pub struct_taken : (m : Module) (s : ℕ) (n : List ℕ) → option_map (λ (x : StructData). x.name) (slice_get m.structs s) ≡ Some n → Stands (struct_names_before m s) n → Fails m (NameTwice (P.Struct s))
struct_taken m s n h there =
    let x = named_there (λ (x : StructData). x.name) m.structs s n h in
    (x.0, x.1, inr (taken (λ (x : StructData). x.name) m.structs s x.0.name (rw x.2 there)))

pub struct_fresh : (m : Module) (s : ℕ) (n : List ℕ) → option_map (λ (x : StructData). x.name) (slice_get m.structs s) ≡ Some n → is_bad_name n ≡ false → ¬ Stands (struct_names_before m s) n → ¬ Fails m (NameTwice (P.Struct s))
struct_fresh m s n h good new (x, at, fails) =
    let same : x.name ≡ n = same_Some x.name n (ap (option_map (λ (x : StructData). x.name)) (sym at) ∙ h) in
    elim fails [
      | inl bad ↦ (let fine = ap is_bad_name same ∙ good in cc)
      | inr t ↦ new (rw (← same) (taken_stands (λ (x : StructData). x.name) m.structs s x.name t))
    ]

-- ---- answers

-- a rule that fails may be answered
pub may_answer : (m : Module) (e : CheckErr) → Fails m e → MayAnswer m e
may_answer m NoMemory h = tt
may_answer m e h = h

module _ (m : Module) (b : ℕ) (insts : List LLVMInstRef) (read : option_map (λ (x : BlockData). x.insts) (slice_get m.blocks b) ≡ Some insts) where
  -- whether the block ends in its only terminator, by its last instruction and the others
  pub ends : (last others : Bool) → option_map_or (is_terminator_at m) (slice_get insts (length insts - 1)) false ≡ last → list_any (is_terminator_at m) (take (length insts - 1) insts) ≡ others
      → option_map (λ (x : BlockData). ends_in_only (is_terminator_at m) x.insts) (slice_get m.blocks b) ≡ Some (last && not others)
  ends last others p q = by (slice_get m.blocks b) read
    where
      by : (o : Option BlockData) → option_map (λ (x : BlockData). x.insts) o ≡ Some insts → option_map (λ (x : BlockData). ends_in_only (is_terminator_at m) x.insts) o ≡ Some (last && not others)
      by None e = cc
      by (Some x) e =
          let same : x.insts ≡ insts = same_Some x.insts insts e in
          ap (λ is. Some (ends_in_only (is_terminator_at m) is)) same ∙ ap (λ l. Some (l && not (list_any (is_terminator_at m) (take (length insts - 1) insts)))) p ∙ ap (λ l. Some (last && not l)) q

-- whether the instruction that was read last ends its block
pub last_ends : (m : Module) (insts : List LLVMInstRef) (d : LLVMInstRef) (inst : LLVMInst) (r : Bool) → length insts - 1 < length insts → option_map (λ (x : InstData). x.inst) (slice_get m.insts (get_or insts (length insts - 1) d).0) ≡ Some inst
    → r ≡ is_terminator inst → option_map_or (is_terminator_at m) (slice_get insts (length insts - 1)) false ≡ r
last_ends m insts d inst r lt at is = ap (λ o. option_map_or (is_terminator_at m) o false) (slice_get-get_or insts (length insts - 1) d lt) ∙ by (slice_get m.insts (get_or insts (length insts - 1) d).0) at ∙ sym is
  where
    by : (o : Option InstData) → option_map (λ (x : InstData). x.inst) o ≡ Some inst → option_map_or (λ (x : InstData). is_terminator x.inst) o false ≡ is_terminator inst
    by None e = cc
    by (Some x) e = ap is_terminator (same_Some x.inst inst e)

-- ---- all rules

-- a rule of functions, of blocks or of instructions fails nowhere where it fails at none of them
no_function : {Q : ℕ → Type 0} (p : Place) → ((f : ℕ) → ¬ Q f) → ¬ AtFunction p Q
no_function P.Module none h = h
no_function (P.Struct s) none h = h
no_function (P.Function f) none h = none f h
no_function (P.Block b) none h = h
no_function (P.Inst i) none h = h

no_block : {Q : ℕ → Type 0} (p : Place) → ((b : ℕ) → ¬ Q b) → ¬ AtBlock p Q
no_block P.Module none h = h
no_block (P.Struct s) none h = h
no_block (P.Function f) none h = h
no_block (P.Block b) none h = none b h
no_block (P.Inst i) none h = h

no_inst : {Q : ℕ → Type 0} (p : Place) → ((i : ℕ) → ¬ Q i) → ¬ AtInst p Q
no_inst P.Module none h = h
no_inst (P.Struct s) none h = h
no_inst (P.Function f) none h = h
no_inst (P.Block b) none h = h
no_inst (P.Inst i) none h = none i h

module _ (m : Module) (few : ¬ Fails m (ListTooLong P.Module)) (structs : (s : ℕ) → s < length m.structs → IsCheckedStruct m s) (fresh : (f : ℕ) → f < length m.functions → IsFreshName m f) (functions : (f : ℕ) → f < length m.functions → IsCheckedFunction m f)
    (blocks : (b : ℕ) → b < length m.blocks → IsCheckedBlock m b) (insts : (i : ℕ) → i < length m.insts → IsCheckedInst m i) (depths : IsCheckedDepths m) (edges : IsCheckedEdges m) where
  none_twice : (p : Place) → ¬ HasNameTwice m p
  none_twice P.Module h = h
  none_twice (P.Struct s) h = (structs s (slice_get_within m.structs s h.0 h.1)).names h
  none_twice (P.Function f) (x, at, h) =
      let within = slice_get_within m.functions f x at in
      let name = fresh f within x at in
      elim h [ inl bad ↦ cc (name.0, bad) | inr more ↦ elim more [ inl t ↦ name.1 t | inr twice ↦ (functions f within).locals x at twice ] ]
  none_twice (P.Block b) h = h
  none_twice (P.Inst i) h = h

  types_fit : (p : Place) → ¬ HasOtherTypeAt m p
  types_fit P.Module h = h
  types_fit (P.Struct s) h = h
  types_fit (P.Function f) h = (functions f (slice_get_within m.functions f h.0 h.1)).types h
  types_fit (P.Block b) h = h
  types_fit (P.Inst i) h = (insts i (slice_get_within m.insts i h.0 h.1)).types h

  none_deep : (p : Place) → ¬ HasDeepTypeAt m p
  none_deep P.Module h = h
  none_deep (P.Struct s) h = depths.structs s (slice_get_within m.structs s h.0 h.1) h
  none_deep (P.Function f) h = depths.functions f (slice_get_within m.functions f h.0 h.1) h
  none_deep (P.Block b) h = h
  none_deep (P.Inst i) h = depths.insts i (slice_get_within m.insts i h.0 h.1) h

  none_long : (p : Place) → ¬ HasLongList m p
  none_long P.Module h = few h
  none_long (P.Struct s) h = (structs s (slice_get_within m.structs s h.0 h.1)).lists h
  none_long (P.Function f) h = (functions f (slice_get_within m.functions f h.0 h.1)).lists h
  none_long (P.Block b) h = (blocks b (slice_get_within m.blocks b h.0 h.1)).lists h
  none_long (P.Inst i) h = (insts i (slice_get_within m.insts i h.0 h.1)).lists h

  pub all_checked : IsChecked m
  all_checked (NameTwice p) = none_twice p
  all_checked (NoTerminator p) = no_block p (λ b h. (blocks b (slice_get_within m.blocks b h.0 h.1)).terminators h)
  all_checked (PhiPlace p) = no_block p (λ b h. (blocks b (slice_get_within m.blocks b h.0 h.1)).phis h)
  all_checked (PhiEntries p) = no_inst p (λ i h. edges.entries i (slice_get_within m.insts i h.0 h.1) h)
  all_checked (EntryHasPreds p) = no_function p (λ f h. edges.firsts f (slice_get_within m.functions f h.0 h.1) h)
  all_checked (OperandType p) = types_fit p
  all_checked (OperandCount p) = no_inst p (λ i h. (insts i (slice_get_within m.insts i h.0 h.1)).counts h)
  all_checked (BlockOutside p) = no_inst p (λ i h. (insts i (slice_get_within m.insts i h.0 h.1)).outside h)
  all_checked (IntrinsicBody p) = no_function p (λ f h. (functions f (slice_get_within m.functions f h.0 h.1)).bodies h)
  all_checked (FunctionSpace p) = no_function p (λ f h. (functions f (slice_get_within m.functions f h.0 h.1)).spaces h)
  all_checked (TooDeep p) = none_deep p
  all_checked (ListTooLong p) = none_long p
  all_checked NoMemory = λ h. h
