-- Blocks and instructions of a function of the form belong to it; its parameters are printed one after another.
use Rattle.std.proofs.Common.{◌≡◌, ℕ, zero, suc, ◌+◌, ◌<◌, ◌≤◌, codes, true, List, [], ◌∷◌, ◌++◌, length, map, take, get_or, slice_get, Some, All, refl, ap, sym, ◌∙◌, subst, append_assoc, arith}
use Rattle.std.specs.Prelude.{OnOk, Result}
use Rattle.std.specs.List.{flat_map, filter_map}
use Rattle.std.specs.Option.{option_map}
use Rattle.std.specs.Str.{IsUtf8, is_utf8}
use Rattle.std.specs.declared.alloc.AllocError.{AllocError}
use Rattle.std.proofs.lemmas.List.{append-nil, take_all}
use Rattle.std.proofs.lemmas.Option.{slice_get-get_or, slice_get-map, same_Some}
use Rattle.std.proofs.lemmas.Result.{on_ok_weaker}
use Rattle.std.proofs.lemmas.Str.{is_utf8-from_IsUtf8}
use Rattle.support.proofs.ListLaws.{item_there, flat_map-take_more, appended_twice}
use Rattle.llvm_core.specs.declared.numbers.LLVMType.{LLVMType}
use Rattle.llvm_core.specs.declared.numbers.LLVMFunction.{LLVMFunction}
use Rattle.llvm_core.specs.declared.numbers.LLVMBasicBlock.{LLVMBasicBlock}
use Rattle.llvm_core.specs.declared.numbers.LLVMInstRef.{LLVMInstRef}
use Rattle.llvm_core.specs.declared.code.LLVMValue.{LLVMValue}
use Rattle.llvm_core.specs.declared.code.LLVMValue.TheVariants as V
use Rattle.llvm_core.specs.declared.code.LLVMInst.{LLVMInst}
use Rattle.llvm_core.specs.declared.code.LLVMInst.TheVariants as I
use Rattle.llvm_core.specs.declared.code.PhiEntry.{PhiEntry}
use Rattle.llvm_core.specs.declared.code.FunctionData.{FunctionData}
use Rattle.llvm_core.specs.declared.code.BlockData.{BlockData}
use Rattle.llvm_core.specs.Module.{Module}
use Rattle.llvm_core.specs.Code.{param_names}
use Rattle.llvm_core.specs.Parts.{IsValue, IsBlock, IsEntry, HasValues}
use Rattle.llvm_core.specs.Sound.{IsModule}
use Rattle.llvm_core.specs.Data.{TypeTree, Operand, Function, type_at, trees_of, operand_of, entry_of, instruction_of, placed_of, block_of, block_at, function_of, param_type, data_of, structs_of}
use Rattle.kinds.specs.Types.{result_of}
use Rattle.llvm_core.specs.Form.{IsOperandOf, IsOperand, IsTarget, FitsEdges, IsFormInstruction, IsFormPlaced, IsFormBlock, IsFormFunction}
use Rattle.llvm_core.proofs.DataLemmas.{within_at, block_of_number, inst_of_number, function_count}
use Rattle.ll_literals.specs.Names.{printed_name}
use Rattle.ll_print.specs.declared.numbers.Numbers.{Numbers}
use Rattle.ll_print.specs.declared.places.Place.TheVariants as P
use Rattle.ll_print.specs.Printing.{ParamAt, comma_text, type_text, local_text, head_text, params_text, blocks_text, function_text}
use Rattle.ll_print.specs.Numbering.{number_at}
use Rattle.ll_print.specs.Parts.{no_function, function_in, named_text, all_lines_of, IsOwn, IsOwnBlock, OwnsEntry, OwnsOperands, OwnsInst, OwnsBlock, IsPrinting}
use Rattle.ll_print.proofs.PartLaws.{read, function_there, all_lines}
use Rattle.ll_print.proofs.CountLaws.{param_read}
use Rattle.ll_print.proofs.TextLaws.{put_is, ok_two}
use Rattle.ll_print.proofs.EdgeLaws.{entry_block, target_block}
use Rattle.ll_print.proofs.OwnLaws.{thing_local}

-- ---- what belongs to a function of the form

own_operand : (m : Module) (f : LLVMFunction) (v : LLVMValue) → IsValue m v → IsOperandOf (function_in m f) (operand_of (trees_of m) v) → IsOwn m f v
own_operand m f (V.Const c) value stands = value
own_operand m f (V.Param g i) value stands = (ap (λ (n : ℕ). let h : LLVMFunction = record { 0 = n } in h) stands.0, stands.1)
own_operand m f (V.Inst i) value stands = (value, stands)

own_target : (m : Module) (f : LLVMFunction) (b : LLVMBasicBlock) → IsBlock m b → IsTarget (function_in m f) b.0 → IsOwnBlock m f b
own_target m f b within target = (within, target_block (function_in m f) b.0 target)

own_entries : (m : Module) (f : LLVMFunction) (b : ℕ) (type : TypeTree) (entries : List PhiEntry) → All (IsEntry m) entries
    → All (λ (e : Operand × ℕ). IsOperand (function_in m f) type e.0) (map (entry_of (trees_of m)) entries) → FitsEdges (function_in m f) b (map (entry_of (trees_of m)) entries) → All (OwnsEntry m f) entries
own_entries m f b type entries there typed fits = λ i d l.
    let e = get_or entries i d in
    let at : slice_get (map (entry_of (trees_of m)) entries) i ≡ Some (entry_of (trees_of m) e) = slice_get-map (entry_of (trees_of m)) entries i ∙ ap (option_map (entry_of (trees_of m))) (slice_get-get_or entries i d l) in
    let operand = within_at (map (entry_of (trees_of m)) entries) (λ (e : Operand × ℕ). IsOperand (function_in m f) type e.0) typed i (entry_of (trees_of m) e) at in
    (own_operand m f e.value (there i d l).0 operand.stands, ((there i d l).1, entry_block (function_in m f) b (map (entry_of (trees_of m)) entries) i (entry_of (trees_of m) e) fits at))

-- the operands of a row, and the blocks that it leads to
own_values : (m : Module) (f : LLVMFunction) (vs : List LLVMValue) → All (IsValue m) vs → All (IsOperandOf (function_in m f)) (map (operand_of (trees_of m)) vs) → All (IsOwn m f) vs
own_values m f vs there stand = λ i d l.
    let v = get_or vs i d in
    let at : slice_get (map (operand_of (trees_of m)) vs) i ≡ Some (operand_of (trees_of m) v) = slice_get-map (operand_of (trees_of m)) vs i ∙ ap (option_map (operand_of (trees_of m))) (slice_get-get_or vs i d l) in
    own_operand m f v (there i d l) (within_at (map (operand_of (trees_of m)) vs) (IsOperandOf (function_in m f)) stand i (operand_of (trees_of m) v) at)

own_targets : (m : Module) (f : LLVMFunction) (bs : List LLVMBasicBlock) → All (IsBlock m) bs → All (IsTarget (function_in m f)) (map (λ (b : LLVMBasicBlock). b.0) bs) → All (IsOwnBlock m f) bs
own_targets m f bs there lead = λ i d l.
    let b = get_or bs i d in
    let at : slice_get (map (λ (b : LLVMBasicBlock). b.0) bs) i ≡ Some b.0 = slice_get-map (λ (b : LLVMBasicBlock). b.0) bs i ∙ ap (option_map (λ (b : LLVMBasicBlock). b.0)) (slice_get-get_or bs i d l) in
    own_target m f b (there i d l) (within_at (map (λ (b : LLVMBasicBlock). b.0) bs) (IsTarget (function_in m f)) lead i b.0 at)

own_operands : (m : Module) (f : LLVMFunction) (b : ℕ) (type : TypeTree) (i : LLVMInst) → HasValues m i → IsFormInstruction (function_in m f) b type (instruction_of (trees_of m) i) → OwnsOperands m f i
own_operands m f b type (I.Phi ty entries) values form = own_entries m f b type entries values.1 form.0 form.1
own_operands m f b type (I.Row r) values form = (own_values m f r.operands values.0 form.operands, own_targets m f r.targets values.1 form.targets, values.2)

own_block : (m : Module) (f : LLVMFunction) (x : FunctionData) → IsModule m → slice_get m.functions f.0 ≡ Some x → x ≡ get_or m.functions f.0 no_function → IsFormFunction (function_in m f)
    → (j : ℕ) (b : LLVMBasicBlock) → slice_get x.blocks j ≡ Some b → b.0 < length m.blocks → OwnsBlock m f b
own_block m f x s at is form j b here within = record {
  own = let y = item_there m.blocks b.0 within in (within, (j, block_of (trees_of m) m.insts b y.0, listed y.0 y.1, refl));
  insts = λ y found k d lt. inst y found k (get_or y.insts k d) (slice_get-get_or y.insts k d lt);
}
  where
    listed : (y : BlockData) → slice_get m.blocks b.0 ≡ Some y → slice_get (function_in m f).blocks j ≡ Some (block_of (trees_of m) m.insts b y)
    listed y found = subst (λ (z : FunctionData). slice_get (function_of (trees_of m) m.blocks m.insts (f.0, z)).blocks j ≡ Some (block_of (trees_of m) m.insts b y)) is (block_of_number m f.0 x j b y s at here found)

    inst : (y : BlockData) → slice_get m.blocks b.0 ≡ Some y → (k : ℕ) (i : LLVMInstRef) → slice_get y.insts k ≡ Some i → OwnsInst m f i
    inst y found k i placed =
        let block = block_of (trees_of m) m.insts b y in
        let blocks = within_at (function_in m f).blocks (IsFormBlock (function_in m f)) form.blocks j block (listed y found) in
        let within_insts : i.0 < length m.insts = within_at y.insts (λ (i : LLVMInstRef). i.0 < length m.insts) (s.blocks b.0 y found).insts k i placed in
        record {
          within = within_insts;
          operands = λ z kept.
              let stands = inst_of_number m b y k i z s found placed kept in
              own_operands m f b.0 (placed_of (trees_of m) i z).type z.inst (s.insts i.0 z kept).values
              (within_at block.instructions (IsFormPlaced (function_in m f) b.0) blocks.instructions k (placed_of (trees_of m) i z) stands).instruction;
        }

-- the blocks of a function of the form
pub own_blocks : (m : Module) (f : LLVMFunction) (blocks : List LLVMBasicBlock) → IsModule m → f.0 < length m.functions → IsFormFunction (function_in m f)
    → option_map (λ (x : FunctionData). x.blocks) (slice_get m.functions f.0) ≡ Some blocks → All (λ (b : LLVMBasicBlock). b.0 < length m.blocks) blocks → All (OwnsBlock m f) blocks
own_blocks m f blocks s lt form held within = λ j d l.
    let x = get_or m.functions f.0 no_function in
    let same : x.blocks ≡ blocks = read (λ (x : FunctionData). x.blocks) m.functions f.0 no_function blocks held in
    let here : slice_get x.blocks j ≡ Some (get_or blocks j d) = ap (λ (bs : List LLVMBasicBlock). slice_get bs j) same ∙ slice_get-get_or blocks j d l in
    own_block m f x s (slice_get-get_or m.functions f.0 no_function lt) refl form j (get_or blocks j d) here (within j d l)

-- ---- parameters

-- the text of a parameter at a place
abbrev pub param_text : Function → ℕ → List ℕ → List ℕ
param_text f i n = comma_text i ++ type_text (param_type f.type i) ++ codes " " ++ local_text f n (ParamAt i)

-- one more of them
pub params_more : (f : Function) (k i : ℕ) (ns : List (List ℕ)) (n : List ℕ) → slice_get ns i ≡ Some n → params_text f k (take (i + 1) ns) ≡ params_text f k (take i ns) ++ param_text f (k + i) n
params_more f k i [] n at = absurd cc
params_more f k zero (m ∷ ns) n at =
    let here : k + 0 ≡ k = omega arith in
    rw (here, ← same_Some m n at) (append-nil (param_text f k m))
params_more f k (suc i) (m ∷ ns) n at =
    let fronts : take (suc i + 1) (m ∷ ns) ≡ m ∷ take (i + 1) ns = let e : suc i + 1 ≡ suc (i + 1) = omega arith in rw e refl in
    let here : suc k + i ≡ k + suc i = omega arith in
    ap (params_text f k) fronts
    ∙ ap (λ (t : List ℕ). param_text f k m ++ t) (params_more f (suc k) i ns n at)
    ∙ sym (append_assoc (param_text f k m) (params_text f (suc k) (take i ns)) (param_text f (suc k + i) n))
    ∙ ap (λ (j : ℕ). (param_text f k m ++ params_text f (suc k) (take i ns)) ++ param_text f j n) here

-- four pieces one after the other
pub put_param : (o0 o1 o2 o3 o4 o5 comma type local : List ℕ) (start : List ℕ) → o1 ≡ o0 ++ start → o2 ≡ o1 ++ comma → o3 ≡ o2 ++ type → o4 ≡ o3 ++ codes " " → o5 ≡ o4 ++ local → o5 ≡ o0 ++ (start ++ (comma ++ type ++ codes " " ++ local))
put_param o0 o1 o2 o3 o4 o5 comma type local start e1 e2 e3 e4 e5 = rw (e5, e4, e3, e2, e1) (simp append_assoc)

-- one parameter further
pub param_put : (m : Module) (n : Numbers) (types : List LLVMType) (place : ℕ) (name : List ℕ) (old now o1 o2 o3 new : List ℕ) → IsPrinting m n
    → ((i : ℕ) (t : LLVMType) → slice_get types i ≡ Some t → param_type (function_in m n.function).type i ≡ type_at (trees_of m).types t) → place < length types
    → slice_get (param_names m.functions n.function) place ≡ Some name
    → now ≡ old ++ params_text (function_in m n.function) 0 (take place (function_in m n.function).params) → o1 ≡ now ++ comma_text place → o2 ≡ o1 ++ type_text (type_at (trees_of m).types (get_or types place (record { 0 = 0 })))
    → o3 ≡ o2 ++ codes " " → new ≡ o3 ++ named_text name (number_at n (P.Param place)) → new ≡ old ++ params_text (function_in m n.function) 0 (take (place + 1) (function_in m n.function).params)
param_put m n types place name old now o1 o2 o3 new h typed within at e1 e2 e3 e4 e5 =
    let f = function_in m n.function in
    let here : 0 + place ≡ place = omega arith in
    let type : param_type f.type place ≡ type_at (trees_of m).types (get_or types place (record { 0 = 0 })) = typed place (get_or types place (record { 0 = 0 })) (slice_get-get_or types place (record { 0 = 0 }) within) in
    let more = params_more f 0 place f.params name (param_read m n.function place name at) ∙ ap (λ (j : ℕ). params_text f 0 (take place f.params) ++ param_text f j name) here in
    let local = sym (thing_local m n (P.Param place) name h) in
    put_is _ _ _ _
    (put_param old now o1 o2 o3 new (comma_text place) (type_text (param_type f.type place)) (local_text f name (ParamAt place)) (params_text f 0 (take place f.params)) e1 e2
    (e3 ∙ ap (λ (t : TypeTree). o1 ++ type_text t) (sym type)) e4 (e5 ∙ ap (λ (t : List ℕ). o3 ++ t) local)) more

-- all of them
pub params_all : (f : Function) (i : ℕ) (old new : List ℕ) → length f.params ≤ i → new ≡ old ++ params_text f 0 (take i f.params) → new ≡ old ++ params_text f 0 f.params
params_all f i old new all e = e ∙ ap (λ (ns : List (List ℕ)). old ++ params_text f 0 ns) (take_all i f.params all)

-- ---- functions

head_pieces : (o0 o1 o2 o3 o4 o5 define result space sigil name start : List ℕ) → o1 ≡ o0 ++ define → o2 ≡ o1 ++ result → o3 ≡ o2 ++ (space ++ sigil) → o4 ≡ o3 ++ name → o5 ≡ o4 ++ start
    → o5 ≡ o0 ++ (define ++ result ++ space ++ (sigil ++ name) ++ start)
head_pieces o0 o1 o2 o3 o4 o5 define result space sigil name start e1 e2 e3 e4 e5 = rw (e5, e4, e3, e2, e1) (simp append_assoc)

-- the pieces of what stands before the parameters one after the other
pub head_put : (m : Module) (f : LLVMFunction) (returned : LLVMType) (name : List ℕ) (r : Result (Unit {0}) AllocError) (o0 o1 o2 o3 o4 o5 : List ℕ) → result_of (function_in m f).type ≡ type_at (trees_of m).types returned
    → option_map (λ (x : FunctionData). x.name) (slice_get m.functions f.0) ≡ Some name
    → o1 ≡ o0 ++ codes "\ndefine " → o2 ≡ o1 ++ type_text (type_at (trees_of m).types returned) → o3 ≡ o2 ++ codes " @" → o4 ≡ o3 ++ printed_name name → OnOk r (o5 ≡ o4 ++ codes "(")
    → OnOk r (o5 ≡ o0 ++ head_text (function_in m f))
head_put m f returned name r o0 o1 o2 o3 o4 o5 result named e1 e2 e3 e4 e5 =
    let d = function_in m f in
    let name_is : name ≡ d.name = sym (read (λ (x : FunctionData). x.name) m.functions f.0 no_function name named) in
    on_ok_weaker r (head_pieces o0 o1 o2 o3 o4 o5 (codes "\ndefine ") (type_text (result_of d.type)) (codes " ") (codes "@") (printed_name d.name) (codes "(")
    e1 (e2 ∙ ap (λ (t : TypeTree). o1 ++ type_text t) (sym result)) e3 (e4 ∙ ap (λ (t : List ℕ). o3 ++ printed_name t) name_is)) e5

-- the pieces of a function one after the other
pub function_put : (m : Module) (f : LLVMFunction) (blocks : List LLVMBasicBlock) (r : Result (Unit {0}) AllocError) (o0 o1 o2 o3 o4 o5 : List ℕ)
    → option_map (λ (x : FunctionData). x.blocks) (slice_get m.functions f.0) ≡ Some blocks → All (λ (b : LLVMBasicBlock). b.0 < length m.blocks) blocks
    → o1 ≡ o0 ++ head_text (function_in m f) → o2 ≡ o1 ++ params_text (function_in m f) 0 (function_in m f).params → o3 ≡ o2 ++ codes ") {\n" → o4 ≡ o3 ++ all_lines_of m (function_in m f) blocks → OnOk r (o5 ≡ o4 ++ codes "}\n")
    → OnOk r (o5 ≡ o0 ++ function_text (structs_of m) (function_in m f))
function_put m f blocks r o0 o1 o2 o3 o4 o5 held within e1 e2 e3 e4 e5 =
    let d = function_in m f in
    let more = params_text d 0 d.params in
    let lines = blocks_text (structs_of m) d d.blocks in
    let blocks_are : blocks ≡ (get_or m.functions f.0 no_function).blocks = sym (read (λ (x : FunctionData). x.blocks) m.functions f.0 no_function blocks held) in
    let lines_are : all_lines_of m d blocks ≡ lines = all_lines m d blocks within ∙ ap (λ (bs : List LLVMBasicBlock). blocks_text (structs_of m) d (filter_map (block_at (trees_of m) m.blocks m.insts) bs)) blocks_are in
    let two = appended_twice o0 o1 o2 (head_text d) more e1 e2 in
    let three = appended_twice o0 o2 o3 (head_text d ++ more) (codes ") {\n") two e3 in
    let four = appended_twice o0 o3 o4 (head_text d ++ more ++ codes ") {\n") lines three (e4 ∙ ap (λ (t : List ℕ). o3 ++ t) lines_are) in
    ok_two r o0 o4 o5 (head_text d ++ more ++ codes ") {\n" ++ lines) (codes "}\n") four e5

-- ---- modules

-- what is UTF-8 passes the test
pub text_utf8 : {name n : List ℕ} → name ≡ n → IsUtf8 name → is_utf8 n ≡ true
text_utf8 {name} same h = subst (λ (t : List ℕ). is_utf8 t ≡ true) same (is_utf8-from_IsUtf8 name h)

-- what holds of each function of the data holds of that of a number
pub function_has : (m : Module) (f : ℕ) (P : Function → Type 0) → All P (data_of m).functions → f < length m.functions → P (function_in m (record { 0 = f }))
function_has m f P all within = within_at (data_of m).functions P all f (function_in m (record { 0 = f })) (function_there m (record { 0 = f }) within)

-- and the other way round
pub functions_have : (m : Module) (P : Function → Type 0) → ((f : ℕ) → f < length m.functions → P (function_in m (record { 0 = f }))) → All P (data_of m).functions
functions_have m P each = λ i d l.
    let within : i < length m.functions = omega (arith, function_count m, l) in
    let is : function_in m (record { 0 = i }) ≡ get_or (data_of m).functions i d = same_Some _ _ (sym (function_there m (record { 0 = i }) within) ∙ slice_get-get_or (data_of m).functions i d l) in
    subst P is (each i within)

-- one function further
pub module_more : (m : Module) (f : ℕ) (old new start : List ℕ) → f < length m.functions → old ≡ start ++ flat_map (function_text (structs_of m)) (take f (data_of m).functions) → new ≡ old ++ function_text (structs_of m) (function_in m (record { 0 = f }))
    → new ≡ start ++ flat_map (function_text (structs_of m)) (take (f + 1) (data_of m).functions)
module_more m f old new start lt e1 e2 =
    let d = function_in m (record { 0 = f }) in
    let count = function_count m in
    let within : f < length (data_of m).functions = omega (arith, count, lt) in
    let here : get_or (data_of m).functions f d ≡ d = same_Some _ d (sym (slice_get-get_or (data_of m).functions f d within) ∙ function_there m (record { 0 = f }) lt) in
    let more = flat_map-take_more (function_text (structs_of m)) (data_of m).functions f d within ∙ ap (λ (g : Function). flat_map (function_text (structs_of m)) (take f (data_of m).functions) ++ function_text (structs_of m) g) here in
    rw (e2, e1, more) (append_assoc start (flat_map (function_text (structs_of m)) (take f (data_of m).functions)) (function_text (structs_of m) d))

-- all functions
pub module_all : (m : Module) (f : ℕ) (new start : List ℕ) → length m.functions ≤ f → new ≡ start ++ flat_map (function_text (structs_of m)) (take f (data_of m).functions) → new ≡ start ++ flat_map (function_text (structs_of m)) (data_of m).functions
module_all m f new start ge e =
    let count = function_count m in
    let all : take f (data_of m).functions ≡ (data_of m).functions = take_all f (data_of m).functions (omega (arith, count, ge)) in
    e ∙ ap (λ (fs : List Function). start ++ flat_map (function_text (structs_of m)) fs) all
