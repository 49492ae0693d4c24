-- What building calls keep: `IsModule` before a call gives it after the call.
use Rattle.std.proofs.Common.{true, false, ◌≡◌, ◌<◌, ◌≤◌, ◌⊎◌, inl, inr, ℕ, zero, suc, List, [], ◌∷◌, ◌++◌, Option, Some, None, length, length-append, slice_get, slice_set, sym, ap, ◌∙◌, refl, arith, subst, map}
use Rattle.std.specs.Option.{option_map_or}
use Rattle.std.proofs.lemmas.List.Elements.{All-push, All-nil, All-weaker}
use Rattle.std.proofs.lemmas.Option.{slice_get_within, same_Some}
use Rattle.std.proofs.lemmas.List.{length-map}
use Rattle.support.proofs.InternedLaws.{interned_kept, interned_longer, interned_cases}
use Rattle.support.specs.Changes.{with_change}
use Rattle.llvm_core.specs.declared.numbers.LLVMType.{LLVMType}
use Rattle.llvm_core.specs.declared.numbers.LLVMFunction.{LLVMFunction}
use Rattle.llvm_core.specs.declared.numbers.LLVMBasicBlock.{LLVMBasicBlock}
use Rattle.llvm_core.specs.declared.numbers.LLVMInstRef.{LLVMInstRef}
use Rattle.kinds.specs.declared.fitting.Shape.TheVariants as S
use Rattle.kinds.specs.declared.types.Lanes.{Lanes}
use Rattle.kinds.specs.declared.types.Lanes.TheVariants as B
use Rattle.kinds.specs.Fitting.{is_field, is_array_of, is_vector_of}
use Rattle.llvm_core.specs.declared.types.LLVMTypeKind.{LLVMTypeKind}
use Rattle.llvm_core.specs.declared.types.LLVMTypeKind.TheVariants as T
use Rattle.llvm_core.specs.declared.types.ResultType.{ResultType}
use Rattle.llvm_core.specs.declared.types.ResultType.TheVariants as R
use Rattle.llvm_core.specs.declared.consts.LLVMConstKind.{LLVMConstKind}
use Rattle.llvm_core.specs.declared.code.LLVMInst.{LLVMInst}
use Rattle.llvm_core.specs.declared.code.FunctionData.{FunctionData}
use Rattle.llvm_core.specs.declared.code.BlockData.{BlockData}
use Rattle.llvm_core.specs.declared.code.InstData.{InstData}
use Rattle.support.specs.Interned.{Interned, IsDistinctList}
use Rattle.llvm_core.specs.Module.{Module}
use Rattle.llvm_core.specs.Code.{code_of, with_code, with_param_name, with_block, with_inst, param_names}
use Rattle.llvm_core.specs.Consts.{IsConstIn, IsMadeBelow}
use Rattle.llvm_core.specs.Parts.{IsTypeOver, HasFitParts, shape_at, IsFunctionType, HasValues, IsResultType, AreBits, kind_params, result_type}
use Rattle.llvm_core.specs.Sound.{IsFunctionIn, OwnsBlocks, OwnsInsts, IsOfBits, StandsFor, IsModule}
use Rattle.support.proofs.ListLaws.{slice_get-kept, slice_get-push, slice_get-push_cases, change_cases, distinct_nil, distinct_push, length-with_change, length-slice_set}
use Rattle.llvm_core.proofs.DataLemmas.{within_at}
use Rattle.llvm_core.proofs.StructLemmas.{shape_stays, structs_kept}
use Rattle.llvm_core.proofs.GrowLemmas.{types_more, blocks_of, insts_of, KeepsTypes, function_type, inst_type, Grows, const_kept, made_below, function_kept, block_kept, inst_kept, values_kept, result_kept, listed_block_kept, listed_inst_kept}
use Rattle.llvm_core.proofs.ListedLemmas.{same_keeps, push_keeps, kept_or_changed, change_keeps, changed_there}

-- ---- types of functions and instructions

pub same_types : {X : Type 0} (type : X → LLVMType) (xs : List X) → KeepsTypes type xs xs
same_types type xs i x e = (x, e, refl)

push_types : {X : Type 0} (type : X → LLVMType) (xs : List X) (w : X) → KeepsTypes type xs (xs ++ w ∷ [])
push_types type xs w i x e = (x, slice_get-kept xs (w ∷ []) i x e, refl)

pub change_types : {X : Type 0} (type : X → LLVMType) (c : X → X) → ((x : X) → type (c x) ≡ type x) → (i : ℕ) (xs : List X) → KeepsTypes type xs (with_change c i xs)
change_types type c same i xs j x e = elim (kept_or_changed c i xs j x e) [ inl old ↦ (x, old, refl) | inr new ↦ (c x, new, same x) ]

-- ---- types and constants

types_grow : (m : Module) (types : List LLVMTypeKind) (k : LLVMTypeKind) (n : ℕ) → Interned m.types types k n → Grows m (record m { types = types })
types_grow m types k n h = record {
  types = interned_kept m.types types k n h;
  consts = λ i x e. e;
  structs = λ i x e. e;
  function_types = same_types function_type m.functions;
  inst_types = same_types inst_type m.insts;
  type_count = interned_longer m.types types k n h;
  const_count = omega arith;
  function_count = omega arith;
  block_count = omega arith;
  inst_count = omega arith;
  params = λ f. omega arith;
  block_lists = same_keeps blocks_of m.functions;
  inst_lists = same_keeps insts_of m.blocks;
}

array_void : (n : ℕ) → is_array_of n S.Void ≡ false
array_void n = grind arith

vector_void : (n : ℕ) → is_vector_of n S.Void ≡ false
vector_void n = grind arith

fit_kept : (xs ys : List LLVMTypeKind) → ((i : ℕ) (k : LLVMTypeKind) → slice_get xs i ≡ Some k → slice_get ys i ≡ Some k) → (k : LLVMTypeKind) → HasFitParts xs k → HasFitParts ys k
fit_kept xs ys kept (T.Array count t) h = shape_stays xs ys kept (is_array_of count) (array_void count) t h
fit_kept xs ys kept (T.Vector kind count t) h = shape_stays xs ys kept (is_vector_of count) (vector_void count) t h
fit_kept xs ys kept (T.Literal fields layout) h = All-weaker (λ (t : LLVMType). is_field (shape_at xs t) ≡ true) (λ (t : LLVMType). is_field (shape_at ys t) ≡ true) (λ t. shape_stays xs ys kept is_field refl t) fields h
fit_kept xs ys kept T.Void h = h
fit_kept xs ys kept (T.Int width) h = h
fit_kept xs ys kept (T.Ptr space) h = h
fit_kept xs ys kept (T.Floating of) h = h
fit_kept xs ys kept (T.Other of) h = h
fit_kept xs ys kept (T.Named name) h = h
fit_kept xs ys kept (T.Function r ps v) h = h

pub type_added : (m : Module) (types : List LLVMTypeKind) (k : LLVMTypeKind) (n : ℕ) → IsModule m → IsTypeOver (length m.types) k → HasFitParts m.types k → Interned m.types types k n → IsDistinctList types → IsModule (record m { types = types })
type_added m types k n s ok fit h once =
    let g = types_grow m types k n h in
    record {
      types = λ i x e. elim (interned_cases m.types types k n h i x e) [
        | inl old ↦ s.types i x old
        | inr new ↦ subst (λ j. IsTypeOver j x) (sym new.0) (subst (IsTypeOver (length m.types)) (sym new.1) ok)
      ];
      types_fit = λ i x e. fit_kept m.types types g.types x (elim (interned_cases m.types types k n h i x e) [
        | inl old ↦ s.types_fit i x old
        | inr new ↦ subst (HasFitParts m.types) (sym new.1) fit
      ]);
      types_once = once;
      consts = λ i x e. const_kept m _ g s x (s.consts i x e);
      consts_below = s.consts_below;
      consts_once = s.consts_once;
      structs = structs_kept m.types types g.type_count g.types m.structs s.structs;
      functions = λ f x e. function_kept m _ g x (s.functions f x e);
      blocks = λ b x e. block_kept m _ g x (s.blocks b x e);
      insts = λ i x e. inst_kept m _ g s x (s.insts i x e);
      listed_blocks = λ b y e. listed_block_kept m _ g b y (s.listed_blocks b y e);
      listed_insts = λ i z e. listed_inst_kept m _ g i z (s.listed_insts i z e);
      owned_blocks = s.owned_blocks;
      owned_insts = s.owned_insts;
    }

pub const_added : (m : Module) (consts : List LLVMConstKind) (k : LLVMConstKind) (n : ℕ) → IsModule m → IsConstIn m k → Interned m.consts consts k n → IsDistinctList consts → IsModule (record m { consts = consts })
const_added m consts k n s ok h once =
    let longer = interned_longer m.consts consts k n h in
    let g : Grows m (record m { consts = consts }) = record {
      types = λ i x e. e;
      consts = interned_kept m.consts consts k n h;
      structs = λ i x e. e;
      function_types = same_types function_type m.functions;
      inst_types = same_types inst_type m.insts;
      type_count = omega arith;
      const_count = longer;
      function_count = omega arith;
      block_count = omega arith;
      inst_count = omega arith;
      params = λ f. omega arith;
      block_lists = same_keeps blocks_of m.functions;
      inst_lists = same_keeps insts_of m.blocks;
    } in
    record {
      types = s.types;
      types_fit = s.types_fit;
      types_once = s.types_once;
      consts = λ i x e. const_kept m _ g s x (elim (interned_cases m.consts consts k n h i x e) [
        | inl old ↦ s.consts i x old
        | inr new ↦ subst (IsConstIn m) (sym new.1) ok
      ]);
      consts_below = λ i x e. elim (interned_cases m.consts consts k n h i x e) [
        | inl old ↦ s.consts_below i x old
        | inr new ↦ subst (λ j. IsMadeBelow j x) (sym new.0) (subst (IsMadeBelow (length m.consts)) (sym new.1) (made_below m k ok))
      ];
      consts_once = once;
      structs = s.structs;
      functions = λ f x e. function_kept m _ g x (s.functions f x e);
      blocks = λ b x e. block_kept m _ g x (s.blocks b x e);
      insts = λ i x e. inst_kept m _ g s x (s.insts i x e);
      listed_blocks = λ b y e. listed_block_kept m _ g b y (s.listed_blocks b y e);
      listed_insts = λ i z e. listed_inst_kept m _ g i z (s.listed_insts i z e);
      owned_blocks = s.owned_blocks;
      owned_insts = s.owned_insts;
    }

-- ---- what functions own

-- a function that lists nothing
owns_no_blocks : (m : Module) (f : ℕ) (x : FunctionData) → x.blocks ≡ [] → OwnsBlocks m f x
owns_no_blocks m f x none place b y at is = absurd (let e = ap (λ (bs : List LLVMBasicBlock). slice_get bs place) (sym none) ∙ at in cc)

-- no function of before lists a block behind all that are there
not_listed : (m : Module) (b : LLVMBasicBlock) → IsModule m → b.0 ≡ length m.blocks → (f : ℕ) (x : FunctionData) → slice_get m.functions f ≡ Some x → (place : ℕ) → ¬ (slice_get x.blocks place ≡ Some b)
not_listed m b s last f x here place at =
    let within = within_at x.blocks (λ (b : LLVMBasicBlock). b.0 < length m.blocks) (s.functions f x here).blocks place b at in
    omega (arith, within, last)

-- a function of before, where there is one more block
owns_old_blocks : (m : Module) (new : BlockData) → IsModule m → (f : ℕ) (x : FunctionData) → slice_get m.functions f ≡ Some x → OwnsBlocks (record m { blocks = m.blocks ++ new ∷ [] }) f x
owns_old_blocks m new s f x here place b y at is =
    let within = within_at x.blocks (λ (b : LLVMBasicBlock). b.0 < length m.blocks) (s.functions f x here).blocks place b at in
    elim (slice_get-push_cases m.blocks new b.0 y is) [
      | inl old ↦ s.owned_blocks f x here place b y at old
      | inr last ↦ absurd (omega (arith, within, last))
    ]

-- the function that lists the new block last, and that it names
owns_more_blocks : (m : Module) (new : BlockData) (b : LLVMBasicBlock) → IsModule m → b.0 ≡ length m.blocks → (f : ℕ) (x y : FunctionData) → slice_get m.functions f ≡ Some x → f ≡ new.function.0 → y.blocks ≡ x.blocks ++ b ∷ []
    → OwnsBlocks (record m { blocks = m.blocks ++ new ∷ [] }) f y
owns_more_blocks m new b s last f x y here named more place c z at is =
    elim (slice_get-push_cases x.blocks b place c (ap (λ (bs : List LLVMBasicBlock). slice_get bs place) (sym more) ∙ at)) [
      | inl old ↦ owns_old_blocks m new s f x here place c z old is
      | inr now ↦ (let same : c.0 ≡ length m.blocks = ap (λ (k : LLVMBasicBlock). k.0) now.1 ∙ last in
          elim (slice_get-push_cases m.blocks new c.0 z is) [
            | inl old ↦ (let within = slice_get_within m.blocks c.0 z old in absurd (omega (arith, within, same)))
            | inr at_end ↦ ap (λ (w : BlockData). w.function.0) at_end.1 ∙ sym named
          ])
    ]

-- ---- what blocks own

-- a block that lists nothing
owns_none : (m : Module) (b : ℕ) (y : BlockData) → y.insts ≡ [] → OwnsInsts m b y
owns_none m b y none place i z at is = absurd (let e = ap (λ (is : List LLVMInstRef). slice_get is place) (sym none) ∙ at in cc)

-- a block of before, where there is one more instruction
owns_old : (m : Module) (new : InstData) → IsModule m → (b : ℕ) (y : BlockData) → slice_get m.blocks b ≡ Some y → OwnsInsts (record m { insts = m.insts ++ new ∷ [] }) b y
owns_old m new s b y here place i z at is =
    let within = within_at y.insts (λ (i : LLVMInstRef). i.0 < length m.insts) (s.blocks b y here).insts place i at in
    elim (slice_get-push_cases m.insts new i.0 z is) [
      | inl old ↦ s.owned_insts b y here place i z at old
      | inr last ↦ absurd (omega (arith, within, last))
    ]

-- the block that lists the new instruction last, and that it names
owns_more : (m : Module) (new : InstData) (i : LLVMInstRef) → IsModule m → i.0 ≡ length m.insts → (b : ℕ) (x y : BlockData) → slice_get m.blocks b ≡ Some x → b ≡ new.block.0 → y.insts ≡ x.insts ++ i ∷ []
    → OwnsInsts (record m { insts = m.insts ++ new ∷ [] }) b y
owns_more m new i s last b x y here named more place j z at is =
    elim (slice_get-push_cases x.insts i place j (ap (λ (is : List LLVMInstRef). slice_get is place) (sym more) ∙ at)) [
      | inl old ↦ owns_old m new s b x here place j z old is
      | inr now ↦ (let same : j.0 ≡ length m.insts = ap (λ (k : LLVMInstRef). k.0) now.1 ∙ last in
          elim (slice_get-push_cases m.insts new j.0 z is) [
            | inl old ↦ (let within = slice_get_within m.insts j.0 z old in absurd (omega (arith, within, same)))
            | inr at_end ↦ ap (λ (w : InstData). w.block.0) at_end.1 ∙ sym named
          ])
    ]

-- ---- code

params_pushed : (fs : List FunctionData) (x : FunctionData) (f : LLVMFunction) → length (param_names fs f) ≤ length (param_names (fs ++ x ∷ []) f)
params_pushed fs x f = by (slice_get fs f.0) refl
  where
    by : (o : Option FunctionData) → slice_get fs f.0 ≡ o → length (option_map_or (λ (y : FunctionData). y.params) o []) ≤ length (param_names (fs ++ x ∷ []) f)
    by None e = omega arith
    by (Some y) e = omega (arith, ap (λ o. length (option_map_or (λ (y : FunctionData). y.params) o [])) (slice_get-kept fs (x ∷ []) f.0 y e))

pub function_added : (m : Module) (x : FunctionData) → IsModule m → IsFunctionIn m x → x.blocks ≡ [] → IsModule (record m { functions = m.functions ++ x ∷ [] })
function_added m x s ok none =
    let longer = length-append m.functions (x ∷ []) in
    let g : Grows m (record m { functions = m.functions ++ x ∷ [] }) = record {
      types = λ i x e. e;
      consts = λ i x e. e;
      structs = λ i x e. e;
      function_types = push_types function_type m.functions x;
      inst_types = same_types inst_type m.insts;
      type_count = omega arith;
      const_count = omega arith;
      function_count = omega (arith, longer);
      block_count = omega arith;
      inst_count = omega arith;
      params = params_pushed m.functions x;
      block_lists = push_keeps blocks_of m.functions x;
      inst_lists = same_keeps insts_of m.blocks;
    } in
    record {
      types = s.types;
      types_fit = s.types_fit;
      types_once = s.types_once;
      consts = s.consts;
      consts_below = s.consts_below;
      consts_once = s.consts_once;
      structs = s.structs;
      functions = λ f y e. elim (slice_get-push_cases m.functions x f y e) [
        | inl old ↦ function_kept m _ g y (s.functions f y old)
        | inr new ↦ function_kept m _ g y (subst (IsFunctionIn m) (sym new.1) ok)
      ];
      blocks = λ b x e. block_kept m _ g x (s.blocks b x e);
      insts = λ i x e. inst_kept m _ g s x (s.insts i x e);
      listed_blocks = λ b y e. listed_block_kept m _ g b y (s.listed_blocks b y e);
      listed_insts = λ i z e. listed_inst_kept m _ g i z (s.listed_insts i z e);
      owned_blocks = λ f y e. elim (slice_get-push_cases m.functions x f y e) [ inl old ↦ s.owned_blocks f y old | inr new ↦ owns_no_blocks m f y (ap blocks_of new.1 ∙ none) ];
      owned_insts = s.owned_insts;
    }

-- a declaration
pub declared_in : (m : Module) (name : List ℕ) (ty : LLVMType) (space : ℕ) (params : List (List ℕ)) (k : LLVMTypeKind) → IsFunctionType m.types ty → slice_get m.types ty.0 ≡ Some k
    → params ≡ map (λ _. []) (kind_params k) → IsFunctionIn m (record { name = name; ty = ty; space = space; params = params; blocks = [] })
declared_in m name ty space params k typed at same = record {
  typed = typed;
  params = ap length same ∙ length-map (kind_params k) (λ _. []) ∙ sym (ap (λ o. length (option_map_or kind_params o [])) at);
  blocks = All-nil (λ (b : LLVMBasicBlock). b.0 < length m.blocks);
  once = distinct_nil;
}

-- a change of a function that keeps the count of its parameters keeps that of each function
params_set : (fs : List FunctionData) (i : ℕ) (x y : FunctionData) → slice_get fs i ≡ Some x → length y.params ≡ length x.params → (f : LLVMFunction) → length (param_names fs f) ≤ length (param_names (slice_set fs i y) f)
params_set fs i x y at same f = at_place fs i f.0 at
  where
    at_place : (xs : List FunctionData) (i j : ℕ) → slice_get xs i ≡ Some x → length (option_map_or (λ (y : FunctionData). y.params) (slice_get xs j) []) ≤ length (option_map_or (λ (y : FunctionData). y.params) (slice_get (slice_set xs i y) j) [])
    at_place [] i j e = omega arith
    at_place (w ∷ xs) zero zero e = let d : w ≡ x = same_Some w x e in omega (arith, same, ap (λ (y : FunctionData). length y.params) d)
    at_place (w ∷ xs) zero (suc j) e = omega arith
    at_place (w ∷ xs) (suc i) zero e = omega arith
    at_place (w ∷ xs) (suc i) (suc j) e = at_place xs i j e

pub params_changed : (change : FunctionData → FunctionData) → ((x : FunctionData) → length (change x).params ≡ length x.params) → (i : ℕ) (fs : List FunctionData) (f : LLVMFunction) → length (param_names fs f) ≤ length (param_names (with_change change i fs) f)
params_changed change same i fs f = by (slice_get fs i) refl
  where
    by : (o : Option FunctionData) → slice_get fs i ≡ o → length (param_names fs f) ≤ length (param_names (option_map_or (λ x. slice_set fs i (change x)) o fs) f)
    by None e = omega arith
    by (Some x) e = params_set fs i x (change x) e (same x) f

pub param_named : (m : Module) (f : LLVMFunction) (place : ℕ) (name : List ℕ) → IsModule m → IsModule (with_code m (with_param_name (code_of m) f place name))
param_named m f place name s =
    let change : FunctionData → FunctionData = λ x. record x { params = slice_set x.params place name } in
    let g : Grows m (with_code m (with_param_name (code_of m) f place name)) = record {
      types = λ i x e. e;
      consts = λ i x e. e;
      structs = λ i x e. e;
      function_types = change_types function_type change (λ x. refl) f.0 m.functions;
      inst_types = same_types inst_type m.insts;
      type_count = omega arith;
      const_count = omega arith;
      function_count = omega (arith, length-with_change change f.0 m.functions);
      block_count = omega arith;
      inst_count = omega arith;
      params = params_changed change (λ x. length-slice_set x.params place name) f.0 m.functions;
      block_lists = change_keeps blocks_of change (λ x place y h. h) f.0 m.functions;
      inst_lists = same_keeps insts_of m.blocks;
    } in
    record {
      types = s.types;
      types_fit = s.types_fit;
      types_once = s.types_once;
      consts = s.consts;
      consts_below = s.consts_below;
      consts_once = s.consts_once;
      structs = s.structs;
      functions = λ j y e. elim (change_cases change f.0 m.functions j y e) [
        | inl new ↦ (let old = function_kept m _ g new.0 (s.functions j new.0 new.1) in
            rw new.3 (record { typed = old.typed; params = length-slice_set new.0.params place name ∙ old.params; blocks = old.blocks; once = old.once }))
        | inr old ↦ function_kept m _ g y (s.functions j y old)
      ];
      blocks = λ b x e. block_kept m _ g x (s.blocks b x e);
      insts = λ i x e. inst_kept m _ g s x (s.insts i x e);
      listed_blocks = λ b y e. listed_block_kept m _ g b y (s.listed_blocks b y e);
      listed_insts = λ i z e. listed_inst_kept m _ g i z (s.listed_insts i z e);
      owned_blocks = λ j y e. elim (change_cases change f.0 m.functions j y e) [
        | inl new ↦ rw new.3 (s.owned_blocks j new.0 new.1)
        | inr old ↦ s.owned_blocks j y old
      ];
      owned_insts = s.owned_insts;
    }

pub block_added : (m : Module) (f : LLVMFunction) (b : LLVMBasicBlock) (name : List ℕ) → IsModule m → f.0 < length m.functions → b.0 ≡ length m.blocks → IsModule (with_code m (with_block (code_of m) f b name))
block_added m f b name s there last =
    let change : FunctionData → FunctionData = λ x. record x { blocks = x.blocks ++ b ∷ [] } in
    let new : BlockData = record { name = name; function = f; insts = [] } in
    let longer = length-append m.blocks (new ∷ []) in
    let g : Grows m (with_code m (with_block (code_of m) f b name)) = record {
      types = λ i x e. e;
      consts = λ i x e. e;
      structs = λ i x e. e;
      function_types = change_types function_type change (λ x. refl) f.0 m.functions;
      inst_types = same_types inst_type m.insts;
      type_count = omega arith;
      const_count = omega arith;
      function_count = omega (arith, length-with_change change f.0 m.functions);
      block_count = omega (arith, longer);
      inst_count = omega arith;
      params = params_changed change (λ x. refl) f.0 m.functions;
      block_lists = change_keeps blocks_of change (λ x. slice_get-kept x.blocks (b ∷ [])) f.0 m.functions;
      inst_lists = push_keeps insts_of m.blocks new;
    } in
    record {
      types = s.types;
      types_fit = s.types_fit;
      types_once = s.types_once;
      consts = s.consts;
      consts_below = s.consts_below;
      consts_once = s.consts_once;
      structs = s.structs;
      functions = λ j y e. elim (change_cases change f.0 m.functions j y e) [
        | inl at ↦ (let old = function_kept m _ g at.0 (s.functions j at.0 at.1) in
            rw at.3 (record {
              typed = old.typed;
              params = old.params;
              blocks = All-push (λ (b : LLVMBasicBlock). b.0 < length (m.blocks ++ new ∷ [])) at.0.blocks b old.blocks (omega (arith, longer));
              once = distinct_push at.0.blocks b old.once (not_listed m b s last j at.0 at.1);
            }))
        | inr old ↦ function_kept m _ g y (s.functions j y old)
      ];
      blocks = λ j x e. elim (slice_get-push_cases m.blocks new j x e) [
        | inl old ↦ block_kept m _ g x (s.blocks j x old)
        | inr at ↦ rw at.1 (record { function = omega (arith, length-with_change change f.0 m.functions); insts = All-nil (λ (i : LLVMInstRef). i.0 < length m.insts) })
      ];
      insts = λ i x e. inst_kept m _ g s x (s.insts i x e);
      listed_blocks = λ j y e. elim (slice_get-push_cases m.blocks new j y e) [
        | inl old ↦ listed_block_kept m _ g j y (s.listed_blocks j y old)
        | inr at ↦ (let owner = changed_there change f.0 m.functions there in
            rw at.1 (change owner.0, length owner.0.blocks, owner.1, slice_get-push owner.0.blocks b (length owner.0.blocks) refl ∙ ap (λ (k : ℕ). Some (record { 0 = k })) (last ∙ sym at.0)))
      ];
      listed_insts = λ i z e. listed_inst_kept m _ g i z (s.listed_insts i z e);
      owned_blocks = λ j y e. elim (change_cases change f.0 m.functions j y e) [
        | inl at ↦ owns_more_blocks m new b s last j at.0 y at.1 at.2 (ap blocks_of at.3)
        | inr old ↦ owns_old_blocks m new s j y old
      ];
      owned_insts = λ j y e. elim (slice_get-push_cases m.blocks new j y e) [ inl old ↦ s.owned_insts j y old | inr at ↦ owns_none m j y (ap insts_of at.1) ];
    }

pub inst_added : (m : Module) (b : LLVMBasicBlock) (i : LLVMInstRef) (name : List ℕ) (ty : LLVMType) (inst : LLVMInst) → IsModule m
    → b.0 < length m.blocks → i.0 ≡ length m.insts → ty.0 < length m.types → StandsFor m.types (result_type m inst) ty → HasValues m inst → IsModule (with_code m (with_inst (code_of m) b i name ty inst))
inst_added m b i name ty inst s there last typed result values =
    let change : BlockData → BlockData = λ x. record x { insts = x.insts ++ i ∷ [] } in
    let new : InstData = record { name = name; block = b; ty = ty; inst = inst } in
    let longer = length-append m.insts (new ∷ []) in
    let g : Grows m (with_code m (with_inst (code_of m) b i name ty inst)) = record {
      types = λ i x e. e;
      consts = λ i x e. e;
      structs = λ i x e. e;
      function_types = same_types function_type m.functions;
      inst_types = push_types inst_type m.insts new;
      type_count = omega arith;
      const_count = omega arith;
      function_count = omega arith;
      block_count = omega (arith, length-with_change change b.0 m.blocks);
      inst_count = omega (arith, longer);
      params = λ f. omega arith;
      block_lists = same_keeps blocks_of m.functions;
      inst_lists = change_keeps insts_of change (λ x. slice_get-kept x.insts (i ∷ [])) b.0 m.blocks;
    } in
    record {
      types = s.types;
      types_fit = s.types_fit;
      types_once = s.types_once;
      consts = s.consts;
      consts_below = s.consts_below;
      consts_once = s.consts_once;
      structs = s.structs;
      functions = λ f x e. function_kept m _ g x (s.functions f x e);
      blocks = λ j y e. elim (change_cases change b.0 m.blocks j y e) [
        | inl at ↦ (let old = block_kept m _ g at.0 (s.blocks j at.0 at.1) in
            rw at.3 (record { function = old.function; insts = All-push (λ (i : LLVMInstRef). i.0 < length (m.insts ++ new ∷ [])) at.0.insts i old.insts (omega (arith, longer)) }))
        | inr old ↦ block_kept m _ g y (s.blocks j y old)
      ];
      insts = λ j x e. elim (slice_get-push_cases m.insts new j x e) [
        | inl old ↦ inst_kept m _ g s x (s.insts j x old)
        | inr at ↦ inst_kept m _ g s x (rw at.1 (record { block = there; typed = typed; result = result; values = values }))
      ];
      listed_blocks = λ j y e. elim (change_cases change b.0 m.blocks j y e) [
        | inl at ↦ rw at.3 (s.listed_blocks j at.0 at.1)
        | inr old ↦ s.listed_blocks j y old
      ];
      listed_insts = λ j z e. elim (slice_get-push_cases m.insts new j z e) [
        | inl old ↦ listed_inst_kept m _ g j z (s.listed_insts j z old)
        | inr at ↦ (let owner = changed_there change b.0 m.blocks there in
            rw at.1 (change owner.0, length owner.0.insts, owner.1, slice_get-push owner.0.insts i (length owner.0.insts) refl ∙ ap (λ (k : ℕ). Some (record { 0 = k })) (last ∙ sym at.0)))
      ];
      owned_blocks = λ j x e place c y at is. elim (change_cases change b.0 m.blocks c.0 y is) [
        | inl new ↦ rw new.3 (s.owned_blocks j x e place c new.0 at new.1)
        | inr old ↦ s.owned_blocks j x e place c y at old
      ];
      owned_insts = λ j y e. elim (change_cases change b.0 m.blocks j y e) [
        | inl at ↦ owns_more m new i s last j at.0 y at.1 at.2 (ap insts_of at.3)
        | inr old ↦ owns_old m new s j y old
      ];
    }

bits_stand : (lanes : Lanes) (old new : List LLVMTypeKind) (ty : LLVMType) → AreBits lanes old new ty → IsOfBits new lanes ty
bits_stand B.One old new ty h = h.here
bits_stand (B.Many kind count) old new ty (between, bit, first, last) = (bit, last.here, interned_kept between new (T.Vector kind count bit) ty.0 last bit.0 (T.Int 1) first.here)

pub result_stands : (r : Option ResultType) (old new : List LLVMTypeKind) (ty : LLVMType) → IsResultType r old new ty → StandsFor new r ty
result_stands None old new ty h = h.here
result_stands (Some (R.There t)) old new ty h = h.0
result_stands (Some (R.Bits lanes)) old new ty h = bits_stand lanes old new ty h

retyped_grows : (m : Module) (types more : List LLVMTypeKind) → types ≡ m.types ++ more → Grows m (record m { types = types })
retyped_grows m types more h = record {
  types = λ i x e. rw h (slice_get-kept m.types more i x e);
  consts = λ i x e. e;
  structs = λ i x e. e;
  function_types = same_types function_type m.functions;
  inst_types = same_types inst_type m.insts;
  type_count = omega (arith, ap length h ∙ length-append m.types more);
  const_count = omega arith;
  function_count = omega arith;
  block_count = omega arith;
  inst_count = omega arith;
  params = λ f. omega arith;
  block_lists = same_keeps blocks_of m.functions;
  inst_lists = same_keeps insts_of m.blocks;
}

-- the same where the module got the type of the result before
pub inst_built : (old new : Module) (b : LLVMBasicBlock) (i : LLVMInstRef) (name : List ℕ) (ty : LLVMType) (inst : LLVMInst) → IsModule old → IsModule new → new ≡ record old { types = new.types }
    → b.0 < length old.blocks → i.0 ≡ length new.insts → ty.0 < length new.types → IsResultType (result_type old inst) old.types new.types ty → HasValues old inst → IsModule (with_code new (with_inst (code_of new) b i name ty inst))
inst_built old new b i name ty inst kept s same there last typed result values =
    let more : Module = record old { types = new.types } in
    let added = types_more (result_type old inst) old.types new.types ty result in
    let g = retyped_grows old new.types added.0 added.1 in
    let stands : StandsFor new.types (result_type more inst) ty =
    subst (λ (r : Option ResultType). StandsFor new.types r ty) (sym (result_kept old more g kept inst values)) (result_stands (result_type old inst) old.types new.types ty result) in
    inst_added new b i name ty inst s (omega (arith, ap (λ (m : Module). length m.blocks) same)) last typed
    (subst (λ (m : Module). StandsFor new.types (result_type m inst) ty) (sym same) stands)
    (subst (λ (m : Module). HasValues m inst) (sym same) (values_kept old more g inst values))
