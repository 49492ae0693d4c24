-- What is right in a module stays right in one that has more.
use Rattle.std.proofs.Common.{◌≡◌, ◌<◌, ◌≤◌, ℕ, Bool, true, if◌then◌else◌, bytes_eq, List, [], Option, Some, None, length, slice_get, sym, ap, ◌∙◌, refl, arith, subst, ◌++◌}
use Rattle.std.specs.List.{find}
use Rattle.std.specs.Option.{option_map, option_map_or}
use Rattle.std.proofs.lemmas.List.Elements.{All-weaker}
use Rattle.std.proofs.lemmas.List.{append-nil, append_assoc}
use Rattle.support.proofs.InternedLaws.{interned_more}
use Rattle.support.proofs.ListLaws.{item_there, slice_get-kept}
use Rattle.llvm_core.specs.declared.numbers.LLVMType.{LLVMType}
use Rattle.llvm_core.specs.declared.numbers.LLVMFunction.{LLVMFunction}
use Rattle.llvm_core.specs.declared.numbers.LLVMBasicBlock.{LLVMBasicBlock}
use Rattle.llvm_core.specs.declared.numbers.LLVMInstRef.{LLVMInstRef}
use Rattle.llvm_core.specs.declared.types.LLVMTypeKind.{LLVMTypeKind}
use Rattle.llvm_core.specs.declared.types.LLVMTypeKind.TheVariants as T
use Rattle.llvm_core.specs.declared.types.ResultType.{ResultType}
use Rattle.llvm_core.specs.declared.types.ResultType.TheVariants as R
use Rattle.llvm_core.specs.declared.consts.LLVMConstKind.{LLVMConstKind}
use Rattle.llvm_core.specs.declared.consts.LLVMConstKind.TheVariants as C
use Rattle.llvm_core.specs.declared.structs.StructData.{StructData}
use Rattle.llvm_core.specs.declared.code.LLVMValue.{LLVMValue}
use Rattle.llvm_core.specs.declared.code.LLVMValue.TheVariants as V
use Rattle.llvm_core.specs.declared.code.PhiEntry.{PhiEntry}
use Rattle.llvm_core.specs.declared.code.LLVMInst.{LLVMInst}
use Rattle.llvm_core.specs.declared.code.LLVMInst.TheVariants as I
use Rattle.llvm_core.specs.declared.code.FunctionData.{FunctionData}
use Rattle.llvm_core.specs.declared.code.BlockData.{BlockData}
use Rattle.llvm_core.specs.declared.code.InstData.{InstData}
use Rattle.llvm_core.specs.Module.{Module}
use Rattle.llvm_core.specs.Code.{param_names}
use Rattle.llvm_core.specs.Consts.{IsElement, AreElements, IsListOf, IsLaneOf, IsConstIn, IsMadeBelow, told, fill_of, int_of, is_byte_array, list_form, form_over}
use Rattle.llvm_core.specs.Parts.{IsTypeOver, IsFunctionType, IsValue, HasValues, IsBlock, IsEntry, const_type, type_params, kind_params, param_types, value_type, result_type, IsResultType, AreBits, MayMake, type_nth, view_nth, view, given, shape_of, shape_at, laned_of, laned_at, is_kind}
use Rattle.std.proofs.Common.{All, zero, suc, ◌∷◌, nat_eq, false}
use Rattle.std.proofs.lemmas.Option.{slice_get_within, same_Some}
use Rattle.kinds.specs.Fitting.{width_of}
use Rattle.kinds.specs.declared.types.VectorTypeKind.TheVariants as N
use Rattle.llvm_core.specs.declared.numbers.LLVMConst.{LLVMConst}
use Rattle.std.proofs.Common.{inl}
use Rattle.std.specs.Prelude.{IfSome, IfOk, Result, Ok, Err}
use Rattle.support.specs.Interned.{Interned}
use Rattle.std.proofs.lemmas.List.Elements.{All-head, All-tail, All-nil, All-cons}
use Rattle.kinds.specs.Fill.{is_own_fill}
use Rattle.kinds.specs.declared.fitting.Shape.{Shape}
use Rattle.kinds.specs.declared.fitting.Shape.TheVariants as S
use Rattle.kinds.specs.declared.fitting.Laned.{Laned}
use Rattle.kinds.specs.declared.fitting.TypeView.{TypeView}
use Rattle.kinds.specs.declared.types.Lanes.{Lanes}
use Rattle.kinds.specs.declared.types.Lanes.TheVariants as B
use Rattle.kinds.specs.declared.rules.Gives.{Gives}
use Rattle.kinds.specs.declared.rules.Gives.TheVariants as G
use Rattle.kinds.specs.Types.{one, many}
use Rattle.kinds.specs.Table.{rule_of}
use Rattle.llvm_core.specs.Sound.{IsFunctionIn, IsBlockIn, IsInstIn, IsListedBlock, IsListedInst, IsOfBits, StandsFor, IsModule}
use Rattle.llvm_core.proofs.WithinLemmas.{type_nth_within, param_there}
use Rattle.llvm_core.proofs.ListedLemmas.{KeepsLists}

-- what a function and a block list
abbrev pub blocks_of : FunctionData → List LLVMBasicBlock
blocks_of x = x.blocks

abbrev pub insts_of : BlockData → List LLVMInstRef
insts_of x = x.insts

-- each item of xs has one in ys, with the same type
abbrev pub KeepsTypes : {X : Type 0} → (X → LLVMType) → List X → List X → Type 0
KeepsTypes {X} type xs ys = (i : ℕ) (x : X) → slice_get xs i ≡ Some x → (y : X) × (slice_get ys i ≡ Some y) × (type y ≡ type x)

abbrev pub function_type : FunctionData → LLVMType
function_type x = x.ty

abbrev pub inst_type : InstData → LLVMType
inst_type x = x.ty

-- n has all that m has
pub record Grows (m n : Module) : Type 0 where
  pub types : (i : ℕ) (k : LLVMTypeKind) → slice_get m.types i ≡ Some k → slice_get n.types i ≡ Some k
  pub consts : (i : ℕ) (k : LLVMConstKind) → slice_get m.consts i ≡ Some k → slice_get n.consts i ≡ Some k
  pub structs : (i : ℕ) (x : StructData) → slice_get m.structs i ≡ Some x → slice_get n.structs i ≡ Some x
  pub function_types : KeepsTypes function_type m.functions n.functions
  pub inst_types : KeepsTypes inst_type m.insts n.insts
  pub type_count : length m.types ≤ length n.types
  pub const_count : length m.consts ≤ length n.consts
  pub function_count : length m.functions ≤ length n.functions
  pub block_count : length m.blocks ≤ length n.blocks
  pub inst_count : length m.insts ≤ length n.insts
  pub params : (f : LLVMFunction) → length (param_names m.functions f) ≤ length (param_names n.functions f)
  pub block_lists : KeepsLists blocks_of m.functions n.functions
  pub inst_lists : KeepsLists insts_of m.blocks n.blocks

-- ---- what is right stays right in a module that has more

same_shape : (m n : Module) → Grows m n → (t : LLVMType) → t.0 < length m.types → shape_at n.types t ≡ shape_at m.types t
same_shape m n g t within = let k = item_there m.types t.0 within in ap (λ o. option_map_or shape_of o S.Void) (g.types t.0 k.0 k.1 ∙ sym k.1)

element_kept : (m n : Module) → Grows m n → (t : LLVMType) (c : LLVMConst) → IsElement m.consts t c → IsElement n.consts t c
element_kept m n g t c (k, at, h) = (k, g.consts c.0 k at, h)

-- what is found in a list is found in one that goes on from it
find_kept : {X : Type 0} (p : X → Bool) (xs ys : List X) → ((i : ℕ) (x : X) → slice_get xs i ≡ Some x → slice_get ys i ≡ Some x) → (s : X) → find p xs ≡ Some s → find p ys ≡ Some s
find_kept p [] ys goes s h = cc
find_kept p (x ∷ xs) [] goes s h = let none = goes 0 x refl in absurd cc
find_kept {X = X} p (x ∷ xs) (y ∷ ys) goes s h =
    ap (λ (z : X). if p z then Some z else find p ys) (same_Some y x (goes 0 x refl)) ∙ by (p x) (find_kept p xs ys (λ i z at. goes (suc i) z at) s) h
  where
    by : (b : Bool) → (find p xs ≡ Some s → find p ys ≡ Some s) → (if b then Some x else find p xs) ≡ Some s → (if b then Some x else find p ys) ≡ Some s
    by true rest h = h
    by false rest h = rest h

elements_kept : (m n : Module) → Grows m n → (k : LLVMTypeKind) (ts : List LLVMType) → AreElements m.structs k ts → AreElements n.structs k ts
elements_kept m n g T.Void ts h = h
elements_kept m n g (T.Int width) ts h = h
elements_kept m n g (T.Ptr space) ts h = h
elements_kept m n g (T.Floating of) ts h = h
elements_kept m n g (T.Other of) ts h = h
elements_kept m n g (T.Array count t) ts h = h
elements_kept m n g (T.Vector N.Fixed count t) ts h = h
elements_kept m n g (T.Vector N.Scalable count t) ts h = h
elements_kept m n g (T.Literal fields layout) ts h = h
elements_kept m n g (T.Named name) ts (s, b, found, body, is) = (s, b, find_kept (λ (x : StructData). bytes_eq x.name name) m.structs n.structs g.structs s found, body, is)
elements_kept m n g (T.Function result params variadic) ts h = h

list_kept : (m n : Module) → Grows m n → (t : LLVMType) (cs : List LLVMConst) → IsListOf m.types m.consts m.structs t cs → IsListOf n.types n.consts n.structs t cs
list_kept m n g t cs h = record {
  kind = h.kind;
  parts = h.parts;
  typed = g.types t.0 h.kind h.typed;
  fit = elements_kept m n g h.kind h.parts h.fit;
  count = h.count;
  each = λ i c u at typed. element_kept m n g u c (h.each i c u at typed);
}

-- each element of a list is there
pub element_there : (m : Module) (t : LLVMType) (cs : List LLVMConst) → IsListOf m.types m.consts m.structs t cs → (i : ℕ) (c : LLVMConst) → slice_get cs i ≡ Some c → (k : LLVMConstKind) × (slice_get m.consts c.0 ≡ Some k)
element_there m t cs h i c at =
    let lt = slice_get_within cs i c at in
    let u = item_there h.parts i (omega (arith, h.count, lt)) in
    let e = h.each i c u.0 at u.1 in
    (e.0, e.1)

told_kept : {X : Type 0} (f : LLVMConstKind → Option X) (xs ys : List LLVMConstKind) → ((i : ℕ) (k : LLVMConstKind) → slice_get xs i ≡ Some k → slice_get ys i ≡ Some k)
    → (cs : List LLVMConst) → ((i : ℕ) (c : LLVMConst) → slice_get cs i ≡ Some c → (k : LLVMConstKind) × (slice_get xs c.0 ≡ Some k)) → told f ys cs ≡ told f xs cs
told_kept f xs ys kept [] there = refl
told_kept f xs ys kept (c ∷ cs) there =
    let k = there 0 c refl in
    let first : slice_get ys c.0 ≡ slice_get xs c.0 = kept c.0 k.0 k.1 ∙ sym k.1 in
    let rest = told_kept f xs ys kept cs (λ i d at. there (suc i) d at) in
    cc

-- whether it is an array of integers of 8 bits stays
byte_array_kept : (m n : Module) → Grows m n → IsModule m → (t : LLVMType) (k : LLVMTypeKind) → slice_get m.types t.0 ≡ Some k → is_kind (is_byte_array n.types) n.types t ≡ is_kind (is_byte_array m.types) m.types t
byte_array_kept m n g s t k at = ap (λ o. option_map_or (is_byte_array n.types) o false) (g.types t.0 k at) ∙ by k (s.types t.0 k at) ∙ ap (λ o. option_map_or (is_byte_array m.types) o false) (sym at)
  where
    there : t.0 < length m.types
    there = slice_get_within m.types t.0 k at

    by : (k : LLVMTypeKind) → IsTypeOver t.0 k → is_byte_array n.types k ≡ is_byte_array m.types k
    by (T.Array count e) over = ap (λ (s : Shape). nat_eq (width_of s) 8) (same_shape m n g e (omega (arith, over, there)))
    by T.Void over = refl
    by (T.Int width) over = refl
    by (T.Ptr space) over = refl
    by (T.Floating of) over = refl
    by (T.Other of) over = refl
    by (T.Vector kind count e) over = refl
    by (T.Literal fields layout) over = refl
    by (T.Named name) over = refl
    by (T.Function result params variadic) over = refl

pub list_form_kept : (m n : Module) → Grows m n → IsModule m → (t : LLVMType) (cs : List LLVMConst) → IsListOf m.types m.consts m.structs t cs → list_form n.types n.consts t cs ≡ list_form m.types m.consts t cs
list_form_kept m n g s t cs h =
    let fills = told_kept fill_of m.consts n.consts g.consts cs (element_there m t cs h) in
    let ints = told_kept int_of m.consts n.consts g.consts cs (element_there m t cs h) in
    let bytes = byte_array_kept m n g s t h.kind h.typed in
    cc

splat_form_kept : (m n : Module) → Grows m n → (t : LLVMType) (c : LLVMConst) → IsLaneOf m.types m.consts m.structs t c → form_over n.types n.consts (C.Splat t c) ≡ form_over m.types m.consts (C.Splat t c)
splat_form_kept m n g t c (count, e, at, (k, here, fits)) =
    let same : slice_get n.consts c.0 ≡ slice_get m.consts c.0 = g.consts c.0 k here ∙ sym here in
    cc

pub const_kept : (m n : Module) → Grows m n → IsModule m → (k : LLVMConstKind) → IsConstIn m k → IsConstIn n k
const_kept m n g s (C.Int t v) h = (h.0, g.types t.0 _ h.1, h.2)
const_kept m n g s (C.Filled fill t) h = (omega (arith, g.type_count, h.0), ap (is_own_fill fill) (same_shape m n g t h.0) ∙ h.1)
const_kept m n g s (C.Bytes t bytes) (((e, at, byte), few), form) = (((e, g.types t.0 _ at, g.types e.0 _ byte), few), form)
const_kept m n g s (C.List t elements) h = (list_kept m n g t elements h.0, list_form_kept m n g s t elements h.0 ∙ h.1)
const_kept m n g s (C.Splat t element) ((count, e, at, is), form) =
    ((count, e, g.types t.0 _ at, element_kept m n g e element is), splat_form_kept m n g t element (count, e, at, is) ∙ form)
const_kept m n g s (C.Placeholder number t) h = omega (arith, g.type_count, h)

all_within : (m : Module) (cs : List LLVMConst) → ((i : ℕ) (c : LLVMConst) → slice_get cs i ≡ Some c → (k : LLVMConstKind) × (slice_get m.consts c.0 ≡ Some k)) → All (λ (c : LLVMConst). c.0 < length m.consts) cs
all_within m [] there = All-nil (λ (c : LLVMConst). c.0 < length m.consts)
all_within m (c ∷ cs) there =
    let k = there 0 c refl in
    All-cons (λ (c : LLVMConst). c.0 < length m.consts) c cs (slice_get_within m.consts c.0 k.0 k.1) (all_within m cs (λ i d at. there (suc i) d at))

-- the elements of a list are there
pub elements_within : (m : Module) (t : LLVMType) (cs : List LLVMConst) → IsListOf m.types m.consts m.structs t cs → All (λ (c : LLVMConst). c.0 < length m.consts) cs
elements_within m t cs h = all_within m cs (element_there m t cs h)

-- what a constant of a module is made of is there
pub made_below : (m : Module) (k : LLVMConstKind) → IsConstIn m k → IsMadeBelow (length m.consts) k
made_below m (C.Int t v) h = tt
made_below m (C.Filled fill t) h = tt
made_below m (C.Bytes t bytes) h = tt
made_below m (C.List t elements) h = elements_within m t elements h.0
made_below m (C.Splat t element) ((count, e, at, (k, here, fits)), form) = slice_get_within m.consts element.0 k here
made_below m (C.Placeholder number t) h = tt

pub params_kept : (m n : Module) → Grows m n → (t : LLVMType) → IsFunctionType m.types t → type_params m.types t ≡ type_params n.types t
params_kept m n g t h = ap (λ o. option_map_or kind_params o []) (h.1 ∙ sym (g.types t.0 h.0 h.1))

pub function_kept : (m n : Module) → Grows m n → (x : FunctionData) → IsFunctionIn m x → IsFunctionIn n x
function_kept m n g x h = record {
  typed = (h.typed.0, g.types x.ty.0 _ h.typed.1, h.typed.2);
  params = h.params ∙ ap length (params_kept m n g x.ty h.typed);
  blocks = All-weaker (λ (b : LLVMBasicBlock). b.0 < length m.blocks) (λ (b : LLVMBasicBlock). b.0 < length n.blocks) (λ b lt. omega (arith, g.block_count)) x.blocks h.blocks;
  once = h.once;
}

pub block_kept : (m n : Module) → Grows m n → (x : BlockData) → IsBlockIn m x → IsBlockIn n x
block_kept m n g x h = record {
  function = omega (arith, g.function_count, h.function);
  insts = All-weaker (λ (i : LLVMInstRef). i.0 < length m.insts) (λ (i : LLVMInstRef). i.0 < length n.insts) (λ i lt. omega (arith, g.inst_count)) x.insts h.insts;
}

pub value_kept : (m n : Module) → Grows m n → (v : LLVMValue) → IsValue m v → IsValue n v
value_kept m n g (V.Const c) h = omega (arith, g.const_count)
value_kept m n g (V.Param f place) h = omega (arith, g.params f)
value_kept m n g (V.Inst i) h = omega (arith, g.inst_count)

block_there : (m n : Module) → Grows m n → (b : LLVMBasicBlock) → IsBlock m b → IsBlock n b
block_there m n g b h = omega (arith, g.block_count, h)

entry_kept : (m n : Module) → Grows m n → (e : PhiEntry) → IsEntry m e → IsEntry n e
entry_kept m n g e h = (value_kept m n g e.value h.0, block_there m n g e.block h.1)

written_kept : (m n : Module) → Grows m n → (o : Option LLVMType) → IfSome o (λ (t : LLVMType). t.0 < length m.types) → IfSome o (λ (t : LLVMType). t.0 < length n.types)
written_kept m n g None h = h
written_kept m n g (Some t) h = omega (arith, g.type_count, h)

pub values_kept : (m n : Module) → Grows m n → (i : LLVMInst) → HasValues m i → HasValues n i
values_kept m n g (I.Phi type entries) h = (omega (arith, g.type_count, h.0), All-weaker (IsEntry m) (IsEntry n) (entry_kept m n g) entries h.1)
values_kept m n g (I.Row r) h = (All-weaker (IsValue m) (IsValue n) (value_kept m n g) r.operands h.0, All-weaker (IsBlock m) (IsBlock n) (block_there m n g) r.targets h.1, written_kept m n g r.written h.2)

-- ---- types of values

pub value_type_kept : (m n : Module) → Grows m n → IsModule m → (v : LLVMValue) → IsValue m v → value_type n v ≡ value_type m v
value_type_kept m n g s (V.Const c) h =
    let k = item_there m.consts c.0 h in
    ap (option_map const_type) (g.consts c.0 k.0 k.1 ∙ sym k.1)
value_type_kept m n g s (V.Param f place) h =
    let p = param_there m f place s h in
    let q = g.function_types f.0 p.function p.here in
    let same : param_types n q.0 ≡ param_types m p.function =
    (ap (λ (t : LLVMType). type_params n.types t) q.2 ∙ sym (params_kept m n g p.function.ty (s.functions f.0 p.function p.here).typed)) in
    ap (λ o. slice_get (option_map_or (param_types n) o []) place) q.1 ∙ ap (λ ts. slice_get ts place) same
    ∙ ap (λ o. slice_get (option_map_or (param_types m) o []) place) (sym p.here)
value_type_kept m n g s (V.Inst i) h =
    let x = item_there m.insts i.0 h in
    let y = g.inst_types i.0 x.0 x.1 in
    ap (option_map inst_type) y.1 ∙ ap Some y.2 ∙ ap (option_map inst_type) (sym x.1)

type_nth_kept : (m n : Module) → Grows m n → IsModule m → (vs : List LLVMValue) (i : ℕ) → All (IsValue m) vs → type_nth n vs i ≡ type_nth m vs i
type_nth_kept m n g s [] i h = refl
type_nth_kept m n g s (v ∷ vs) zero h = value_type_kept m n g s v (All-head (IsValue m) v vs h)
type_nth_kept m n g s (v ∷ vs) (suc i) h = type_nth_kept m n g s vs i (All-tail (IsValue m) v vs h)

kind_laned_kept : (m n : Module) → Grows m n → (k : LLVMTypeKind) (i : ℕ) → i < length m.types → IsTypeOver i k → laned_of n.types k ≡ laned_of m.types k
kind_laned_kept m n g (T.Vector kind count t) i lt over = ap (many kind count) (same_shape m n g t (omega (arith, lt, over)))
kind_laned_kept m n g k i lt over = refl

-- the lanes of a type stay
pub laned_kept : (m n : Module) → Grows m n → IsModule m → (t : LLVMType) → t.0 < length m.types → laned_at n.types t ≡ laned_at m.types t
laned_kept m n g s t lt =
    let k = item_there m.types t.0 lt in
    ap (λ o. option_map_or (laned_of n.types) o (one S.Void)) (g.types t.0 k.0 k.1) ∙ kind_laned_kept m n g k.0 t.0 lt (s.types t.0 k.0 k.1) ∙ sym (ap (λ o. option_map_or (laned_of m.types) o (one S.Void)) k.1)

view_kept : (m n : Module) → Grows m n → IsModule m → (t : LLVMType) → t.0 < length m.types → view n.types t ≡ view m.types t
view_kept m n g s t lt =
    let with_lanes : Laned → TypeView = λ l. record { number = t.0; laned = l } in
    ap with_lanes (laned_kept m n g s t lt)

some_view_kept : (m n : Module) → Grows m n → IsModule m → (o : Option LLVMType) → ((t : LLVMType) → o ≡ Some t → t.0 < length m.types) → option_map (view n.types) o ≡ option_map (view m.types) o
some_view_kept m n g s None h = refl
some_view_kept m n g s (Some t) h = ap Some (view_kept m n g s t (h t refl))

view_nth_kept : (m n : Module) → Grows m n → IsModule m → (vs : List LLVMValue) (i : ℕ) → All (IsValue m) vs → view_nth n vs i ≡ view_nth m vs i
view_nth_kept m n g s vs i h = ap (option_map (view n.types)) (type_nth_kept m n g s vs i h) ∙ some_view_kept m n g s (type_nth m vs i) (λ t e. type_nth_within m vs i t s h e)

-- a line for each word
given_kept : (m n : Module) → Grows m n → IsModule m → (k : Gives) (w a b : Option LLVMType) → ((t : LLVMType) → a ≡ Some t → t.0 < length m.types) → given n.types k w a b ≡ given m.types k w a b
given_kept m n g s G.Nothing w a b h = refl
given_kept m n g s G.First w a b h = refl
given_kept m n g s G.Second w a b h = refl
given_kept m n g s G.Written w a b h = refl
given_kept m n g s G.Bits w None b h = refl
given_kept m n g s G.Bits w (Some t) b h = ap (λ (l : Laned). Some (R.Bits l.lanes)) (laned_kept m n g s t (h t refl))

-- the type of a result stays
pub result_kept : (m n : Module) → Grows m n → IsModule m → (i : LLVMInst) → HasValues m i → result_type n i ≡ result_type m i
result_kept m n g s (I.Phi type entries) h = refl
result_kept m n g s (I.Row r) h =
    let e = view_nth_kept m n g s r.operands 0 h.0 in
    let f = view_nth_kept m n g s r.operands 1 h.0 in
    let k = view_nth_kept m n g s r.operands 2 h.0 in
    let a = type_nth_kept m n g s r.operands 0 h.0 in
    let b = type_nth_kept m n g s r.operands 1 h.0 in
    let same = given_kept m n g s (rule_of r.op).gives r.written (type_nth m r.operands 0) (type_nth m r.operands 1) (λ t at. type_nth_within m r.operands 0 t s h.0 at) in
    let w = some_view_kept m n g s r.written (λ t at. subst (λ (o : Option LLVMType). IfSome o (λ (x : LLVMType). x.0 < length m.types)) at h.2) in
    cc

bits_kept : (m n : Module) → Grows m n → (lanes : Lanes) (ty : LLVMType) → IsOfBits m.types lanes ty → IsOfBits n.types lanes ty
bits_kept m n g B.One ty h = g.types ty.0 (T.Int 1) h
bits_kept m n g (B.Many kind count) ty (bit, here, is) = (bit, g.types ty.0 (T.Vector kind count bit) here, g.types bit.0 (T.Int 1) is)

pub stands_kept : (m n : Module) → Grows m n → (r : Option ResultType) (ty : LLVMType) → StandsFor m.types r ty → StandsFor n.types r ty
stands_kept m n g None ty h = g.types ty.0 T.Void h
stands_kept m n g (Some (R.There t)) ty h = h
stands_kept m n g (Some (R.Bits lanes)) ty h = bits_kept m n g lanes ty h

pub inst_kept : (m n : Module) → Grows m n → IsModule m → (x : InstData) → IsInstIn m x → IsInstIn n x
inst_kept m n g s x h = record {
  block = omega (arith, g.block_count, h.block);
  typed = omega (arith, g.type_count, h.typed);
  result = subst (λ (r : Option ResultType). StandsFor n.types r x.ty) (sym (result_kept m n g s x.inst h.values)) (stands_kept m n g (result_type m x.inst) x.ty h.result);
  values = values_kept m n g x.inst h.values;
}

pub listed_block_kept : (m n : Module) → Grows m n → (b : ℕ) (y : BlockData) → IsListedBlock m b y → IsListedBlock n b y
listed_block_kept m n g b y h = let k = g.block_lists y.function.0 h.0 h.2 in (k.0, h.1, k.1, k.2 h.1 _ h.3)

pub listed_inst_kept : (m n : Module) → Grows m n → (i : ℕ) (z : InstData) → IsListedInst m i z → IsListedInst n i z
listed_inst_kept m n g i z h = let k = g.inst_lists z.block.0 h.0 h.2 in (k.0, h.1, k.1, k.2 h.1 _ h.3)

-- a function type has the parameters that it had, where types were added
pub param_at_kept : (types more : List LLVMTypeKind) (t : LLVMType) (place : ℕ) (x : LLVMType) → slice_get (type_params types t) place ≡ Some x → slice_get (type_params (types ++ more) t) place ≡ Some x
param_at_kept types more t place x h = by (slice_get types t.0) refl h
  where
    by : (o : Option LLVMTypeKind) → slice_get types t.0 ≡ o → slice_get (option_map_or kind_params o []) place ≡ Some x → slice_get (type_params (types ++ more) t) place ≡ Some x
    by None e h = absurd cc
    by (Some k) e h = rw (slice_get-kept types more t.0 k e) h

bits_more : (lanes : Lanes) (old new : List LLVMTypeKind) (ty : LLVMType) → AreBits lanes old new ty → (more : List LLVMTypeKind) × (new ≡ old ++ more)
bits_more B.One old new ty h = interned_more old new (T.Int 1) ty.0 h
bits_more (B.Many kind count) old new ty (between, bit, first, last) =
    let a = interned_more old between (T.Int 1) bit.0 first in
    let b = interned_more between new (T.Vector kind count bit) ty.0 last in
    (a.0 ++ b.0, b.1 ∙ ap (λ (ks : List LLVMTypeKind). ks ++ b.0) a.1 ∙ append_assoc old a.0 b.0)

-- the types of a module in which a result got its type are those before it, and more
pub types_more : (r : Option ResultType) (old new : List LLVMTypeKind) (ty : LLVMType) → IsResultType r old new ty → (more : List LLVMTypeKind) × (new ≡ old ++ more)
types_more None old new ty h = interned_more old new T.Void ty.0 h
types_more (Some (R.There t)) old new ty h = ([], h.1 ∙ sym (append-nil old))
types_more (Some (R.Bits lanes)) old new ty h = bits_more lanes old new ty h

-- what is left as it was may be what a result's type makes new
pub makes_none : (r : Option ResultType) (old new : List LLVMTypeKind) → new ≡ old → MayMake r old new
makes_none None old new h = inl h
makes_none (Some (R.There t)) old new h = h
makes_none (Some (R.Bits B.One)) old new h = inl h
makes_none (Some (R.Bits (B.Many kind count))) old new h = (old, record { 0 = 0 }, inl refl, inl h)

-- a type that was given a number is there
pub ok_within : {E : Type 0} (r : Result LLVMType E) (old new : List LLVMTypeKind) (k : LLVMTypeKind) → IfOk r (λ (t : LLVMType). Interned old new k t.0) → IfOk r (λ (t : LLVMType). t.0 < length new)
ok_within (Ok t) old new k h = slice_get_within new t.0 k h.here
ok_within (Err e) old new k h = tt
