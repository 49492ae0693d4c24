-- Values that belong to a function: their names, numbers and types as its data have them.
use Rattle.std.proofs.Common.{◌≡◌, ℕ, zero, suc, ◌<◌, Bool, true, false, cond, List, [], ◌∷◌, ◌++◌, length, drop, get_or, slice_get, Option, Some, None, refl, ap, sym, ◌∙◌, subst, eq-eqb, append_assoc}
use Rattle.std.specs.Prelude.{codes}
use Rattle.std.specs.List.{flat_map}
use Rattle.std.specs.Option.{option_map, option_map_or}
use Rattle.std.proofs.lemmas.Option.{slice_get-get_or, same_Some}
use Rattle.support.proofs.ListLaws.{appended_twice}
use Rattle.llvm_core.specs.declared.numbers.LLVMType.{LLVMType}
use Rattle.llvm_core.specs.declared.numbers.LLVMFunction.{LLVMFunction}
use Rattle.llvm_core.specs.declared.numbers.LLVMBasicBlock.{LLVMBasicBlock}
use Rattle.llvm_core.specs.declared.numbers.LLVMInstRef.{LLVMInstRef}
use Rattle.llvm_core.specs.declared.types.LLVMTypeKind.{LLVMTypeKind}
use Rattle.llvm_core.specs.declared.types.LLVMTypeKind.TheVariants as T
use Rattle.llvm_core.specs.declared.code.LLVMValue.{LLVMValue}
use Rattle.llvm_core.specs.declared.code.LLVMValue.TheVariants as V
use Rattle.llvm_core.specs.declared.code.FunctionData.{FunctionData}
use Rattle.llvm_core.specs.declared.code.BlockData.{BlockData}
use Rattle.llvm_core.specs.declared.code.InstData.{InstData}
use Rattle.llvm_core.specs.Module.{Module}
use Rattle.llvm_core.specs.Code.{param_names}
use Rattle.llvm_core.specs.Sound.{IsModule}
use Rattle.llvm_core.specs.Parts.{value_type, kind_params}
use Rattle.llvm_core.specs.Data.{VoidType, Parameter, Result, Placed, Block, Function, type_at, trees_of, operand_of, operand_type, param_type, placed_in, structs_of}
use Rattle.llvm_core.specs.Form.{HasNumber}
use Rattle.kinds.specs.Held.{is_void}
use Rattle.ll_print.specs.declared.numbers.Numbers.{Numbers}
use Rattle.ll_print.specs.declared.places.Place.{Place}
use Rattle.ll_print.specs.declared.places.Place.TheVariants as P
use Rattle.ll_print.specs.Printing.{Unnamed, ParamAt, BlockOf, ResultOf, unnamed_in, unnamed_number, local_text, operand_text, type_text, value_text, block_ref}
use Rattle.ll_print.specs.Numbering.{thing_of, noted_at, or_number, number_at, place_in}
use Rattle.ll_print.specs.Parts.{no_function, function_in, named_text, label_line, entry_label_line, gives_of, line_of, entry_lines_of, lines_of, HasBlockNumber, IsOwn, IsOwnBlock, IsPrinting}
use Rattle.ll_print.proofs.NumberLaws.{place_number}
use Rattle.ll_print.proofs.PartLaws.{read_item, type_of_function, gives_of-inst, entry_head, lines_of-block, entry_lines_of-block}
use Rattle.ll_print.proofs.CountLaws.{param_read}
use Rattle.ll_print.proofs.KeptLaws.{inst_found, block_found}
use Rattle.ll_print.proofs.TextLaws.{put_is, const_type-at}

-- ---- names and numbers

named_is : (f : Function) (n : List ℕ) (x : Unnamed) (k : ℕ) → k ≡ unnamed_number f x → named_text n k ≡ local_text f n x
named_is f [] x k e = rw e refl
named_is f (b ∷ bs) x k e = refl

item_is : {X : Type 0} (xs : List X) (i : ℕ) (d x : X) → slice_get xs i ≡ Some x → get_or xs i d ≡ x
item_is [] i d x at = absurd cc
item_is (y ∷ xs) zero d x at = same_Some y x at
item_is (y ∷ xs) (suc i) d x at = item_is xs i d x at

-- what is printed of a thing of the function
pub thing_local : (m : Module) (n : Numbers) (p : Place) (name : List ℕ) → IsPrinting m n → local_text (function_in m n.function) name (thing_of p) ≡ named_text name (number_at n p)
thing_local m n p name h =
    let xs = unnamed_in (function_in m n.function) in
    sym (named_is (function_in m n.function) name (thing_of p) _ (number_is xs h.numbered.count (h.numbered.numbers p) ∙ place_number xs (thing_of p)))
  where
    number_is : (xs : List Unnamed) → n.count ≡ length xs → noted_at n p ≡ place_in xs (thing_of p) → or_number (noted_at n p) n.count ≡ or_number (place_in xs (thing_of p)) (length xs)
    number_is xs count noted = rw (count, noted) refl

pub param_operand : (m : Module) (n : Numbers) (f : LLVMFunction) (place : ℕ) (name : List ℕ) → IsPrinting m n → f ≡ n.function → slice_get (param_names m.functions f) place ≡ Some name
    → operand_text (structs_of m) (function_in m n.function) (Parameter f.0 place) ≡ named_text name (number_at n (P.Param place))
param_operand m n f place name h same at =
    let g = function_in m n.function in
    let read = param_read m n.function place name (subst (λ (h : LLVMFunction). slice_get (param_names m.functions h) place ≡ Some name) same at) in
    ap (λ (t : List ℕ). local_text g t (ParamAt place)) (item_is g.params place [] name read) ∙ thing_local m n (P.Param place) name h

-- what is printed of a result
pub result_operand : (m : Module) (n : Numbers) (i : LLVMInstRef) (name : List ℕ) → IsPrinting m n → HasNumber i.0 (placed_in (function_in m n.function)) → option_map (λ (x : InstData). x.name) (slice_get m.insts i.0) ≡ Some name
    → operand_text (structs_of m) (function_in m n.function) (Result i.0) ≡ named_text name (number_at n (P.Result i))
result_operand m n i name h has named =
    let x = read_item (λ (x : InstData). x.name) m.insts i.0 name named in
    let g = function_in m n.function in
    ap (λ (o : Option Placed). local_text g (option_map_or (λ (p : Placed). p.name) o []) (ResultOf i.0)) (inst_found m n.function i x.0 has x.1)
    ∙ ap (λ (t : List ℕ). local_text g t (ResultOf i.0)) x.2 ∙ thing_local m n (P.Result i) name h

-- what is printed of a block
pub block_local : (m : Module) (n : Numbers) (b : LLVMBasicBlock) (name : List ℕ) → IsPrinting m n → HasBlockNumber b.0 (function_in m n.function).blocks → option_map (λ (x : BlockData). x.name) (slice_get m.blocks b.0) ≡ Some name
    → block_ref (function_in m n.function) b.0 ≡ named_text name (number_at n (P.Block b))
block_local m n b name h has named =
    let x = read_item (λ (x : BlockData). x.name) m.blocks b.0 name named in
    let g = function_in m n.function in
    ap (λ (o : Option Block). local_text g (option_map_or (λ (c : Block). c.name) o []) (BlockOf b.0)) (block_found m n.function b x.0 has x.1)
    ∙ ap (λ (t : List ℕ). local_text g t (BlockOf b.0)) x.2 ∙ thing_local m n (P.Block b) name h

-- the label line of a block
label_put : (m : Module) (n : Numbers) (b : LLVMBasicBlock) (name : List ℕ) → IsPrinting m n → HasBlockNumber b.0 (function_in m n.function).blocks → option_map (λ (x : BlockData). x.name) (slice_get m.blocks b.0) ≡ Some name
    → drop 1 (block_ref (function_in m n.function) b.0) ++ codes ":\n" ≡ label_line name (number_at n (P.Block b))
label_put m n b name h has named = ap (λ (t : List ℕ). drop 1 t ++ codes ":\n") (block_local m n b name h has named)

entry_put : (m : Module) (n : Numbers) (b : LLVMBasicBlock) (name : List ℕ) → IsPrinting m n → HasBlockNumber b.0 (function_in m n.function).blocks → option_map (λ (x : BlockData). x.name) (slice_get m.blocks b.0) ≡ Some name
    → entry_head (function_in m n.function) b.0 name ≡ entry_label_line name (number_at n (P.Block b))
entry_put m n b [] h has named = refl
entry_put m n b (c ∷ cs) h has named = label_put m n b (c ∷ cs) h has named

-- the lines of a block behind the first
pub block_put : (m : Module) (n : Numbers) (b : LLVMBasicBlock) (name : List ℕ) (insts : List LLVMInstRef) (old line head new : List ℕ) → IsPrinting m n → IsOwnBlock m n.function b
    → option_map (λ (x : BlockData). x.name) (slice_get m.blocks b.0) ≡ Some name → option_map (λ (x : BlockData). x.insts) (slice_get m.blocks b.0) ≡ Some insts
    → line ≡ old ++ 10 ∷ [] → head ≡ line ++ label_line name (number_at n (P.Block b)) → new ≡ head ++ flat_map (line_of m (function_in m n.function)) insts → new ≡ old ++ lines_of m (function_in m n.function) b
block_put m n b name insts old line head new h own named held e1 e2 e3 =
    put_is old new _ _ (appended_twice old head new ((10 ∷ []) ++ label_line name (number_at n (P.Block b))) _ (appended_twice old line head (10 ∷ []) (label_line name (number_at n (P.Block b))) e1 e2) e3)
    (lines_of-block m (function_in m n.function) b name insts named held ∙ ap (λ (t : List ℕ). ((10 ∷ []) ++ t) ++ flat_map (line_of m (function_in m n.function)) insts) (label_put m n b name h own.1 named))

-- and those of the first
pub entry_block_put : (m : Module) (n : Numbers) (b : LLVMBasicBlock) (name : List ℕ) (insts : List LLVMInstRef) (old head new : List ℕ) → IsPrinting m n → IsOwnBlock m n.function b
    → option_map (λ (x : BlockData). x.name) (slice_get m.blocks b.0) ≡ Some name → option_map (λ (x : BlockData). x.insts) (slice_get m.blocks b.0) ≡ Some insts
    → head ≡ old ++ entry_label_line name (number_at n (P.Block b)) → new ≡ head ++ flat_map (line_of m (function_in m n.function)) insts → new ≡ old ++ entry_lines_of m (function_in m n.function) b
entry_block_put m n b name insts old head new h own named held e1 e2 =
    put_is old new _ _ (appended_twice old head new (entry_label_line name (number_at n (P.Block b))) _ e1 e2)
    (entry_lines_of-block m (function_in m n.function) b name insts named held ∙ ap (λ (t : List ℕ). t ++ flat_map (line_of m (function_in m n.function)) insts) (entry_put m n b name h own.1 named))

-- ---- types

param_by : (m : Module) (f : LLVMFunction) (place : ℕ) (t ty : LLVMType) (k : LLVMTypeKind) → IsModule m → option_map (λ (x : FunctionData). x.ty) (slice_get m.functions f.0) ≡ Some ty → slice_get m.types ty.0 ≡ Some k
    → slice_get (kind_params k) place ≡ Some t → param_type (function_in m f).type place ≡ type_at (trees_of m).types t
param_by m f place t ty (T.Function r ps v) s typed at here = (type_of_function m f ty r ps v s typed at).typed place t here
param_by m f place t ty k s typed at here = absurd cc

param_typed : (m : Module) (f : LLVMFunction) (place : ℕ) (t : LLVMType) → IsModule m → f.0 < length m.functions → value_type m (V.Param f place) ≡ Some t → param_type (function_in m f).type place ≡ type_at (trees_of m).types t
param_typed m f place t s within typed = by (slice_get m.types x.ty.0) refl (ap (λ (o : Option FunctionData). slice_get (option_map_or (λ (y : FunctionData). option_map_or kind_params (slice_get m.types y.ty.0) []) o []) place) (sym there) ∙ typed)
  where
    x : FunctionData
    x = get_or m.functions f.0 no_function

    there : slice_get m.functions f.0 ≡ Some x
    there = slice_get-get_or m.functions f.0 no_function within

    by : (o : Option LLVMTypeKind) → slice_get m.types x.ty.0 ≡ o → slice_get (option_map_or kind_params o []) place ≡ Some t → param_type (function_in m f).type place ≡ type_at (trees_of m).types t
    by None e here = absurd cc
    by (Some k) e here = param_by m f place t x.ty k s (ap (option_map (λ (y : FunctionData). y.ty)) there) e here

-- the type of a value of the function is that of its operand
pub type_is : (m : Module) (n : Numbers) (v : LLVMValue) (t : LLVMType) → IsPrinting m n → IsOwn m n.function v → value_type m v ≡ Some t
    → operand_type (function_in m n.function) (operand_of (trees_of m) v) ≡ type_at (trees_of m).types t
type_is m n (V.Const c) t h own typed = const_type-at m c t h.sound typed
type_is m n (V.Param f place) t h own typed =
    let f' = function_in m n.function in
    let within : f.0 < length m.functions = subst (λ (g : LLVMFunction). g.0 < length m.functions) (sym own.0) h.within in
    ap (λ (b : Bool). cond b (param_type f'.type place) VoidType) (eq-eqb f.0 n.function.0 (ap (λ (g : LLVMFunction). g.0) own.0))
    ∙ ap (λ (g : LLVMFunction). param_type (function_in m g).type place) (sym own.0) ∙ param_typed m f place t h.sound within typed
type_is m n (V.Inst i) t h own typed =
    let x = read_item (λ (x : InstData). x.ty) m.insts i.0 t typed in
    ap (λ (o : Option Placed). option_map_or (λ (p : Placed). p.type) o VoidType) (inst_found m n.function i x.0 own.1 x.1) ∙ ap (type_at (trees_of m).types) x.2

-- a type and an operand of it
pub value_put : (m : Module) (n : Numbers) (v : LLVMValue) (t : LLVMType) (old typed spaced new : List ℕ) → IsPrinting m n → IsOwn m n.function v → value_type m v ≡ Some t
    → typed ≡ old ++ type_text (type_at (trees_of m).types t) → spaced ≡ typed ++ 32 ∷ [] → new ≡ spaced ++ operand_text (structs_of m) (function_in m n.function) (operand_of (trees_of m) v)
    → new ≡ old ++ value_text (structs_of m) (function_in m n.function) (operand_of (trees_of m) v)
value_put m n v t old typed spaced new h own is e1 e2 e3 =
    joined old typed spaced new _ _ (operand_text (structs_of m) (function_in m n.function) (operand_of (trees_of m) v)) (ap type_text (type_is m n v t h own is)) e1 e2 e3
  where
    joined : (old typed spaced new a b d : List ℕ) → a ≡ b → typed ≡ old ++ b → spaced ≡ typed ++ 32 ∷ [] → new ≡ spaced ++ d → new ≡ old ++ ((a ++ 32 ∷ []) ++ d)
    joined old typed spaced new a b d e e1 e2 e3 = rw (e3, e2, e1, e) (simp append_assoc)

-- ---- results

-- an instruction without a result
pub void_gives : (m : Module) (f : Function) (i : LLVMInstRef) (ty : LLVMType) → option_map (λ (x : InstData). x.ty) (slice_get m.insts i.0) ≡ Some ty → is_void (type_at (trees_of m).types ty) ≡ true → gives_of m f i ≡ []
void_gives m f i ty typed is = let g = gives_of-inst m f i ty true typed is in g.2

-- and one with a result
pub result_gives : (m : Module) (n : Numbers) (i : LLVMInstRef) (ty : LLVMType) (name : List ℕ) → IsPrinting m n
    → option_map (λ (x : InstData). x.ty) (slice_get m.insts i.0) ≡ Some ty → option_map (λ (x : InstData). x.name) (slice_get m.insts i.0) ≡ Some name → is_void (type_at (trees_of m).types ty) ≡ false
    → gives_of m (function_in m n.function) i ≡ named_text name (number_at n (P.Result i)) ++ codes " = "
result_gives m n i ty name h typed named is =
    let f = function_in m n.function in
    let g = gives_of-inst m f i ty false typed is in
    let same : g.0 ≡ name = same_Some g.0 name (sym g.1 ∙ named) in
    g.2 ∙ ap (λ (t : List ℕ). local_text f t (ResultOf i.0) ++ codes " = ") same ∙ ap (λ (t : List ℕ). t ++ codes " = ") (thing_local m n (P.Result i) name h)
