-- What the text of a function says means the function.
use Rattle.std.proofs.Common.{◌≡◌, ℕ, suc, ◌+◌, false, List, [], ◌∷◌, ◌++◌, length, map, slice_get, Some, All, refl, ap, sym, ◌∙◌, subst, arith}
use Rattle.std.specs.List.{flat_map, AllByRecursion}
use Rattle.kinds.specs.Types.{TypeTree, FunctionType, TypeTrees, NoTypes, ThenType, count_types, result_of}
use Rattle.support.proofs.ListLaws.{in_joined}
use Rattle.kinds.specs.Names.{IsGoodOrNone}
use Rattle.kinds.specs.Structs.{Struct}
use Rattle.llvm_core.specs.Data.{Placed, Block, Function, placed_in, nth_type, param_type}
use Rattle.llvm_core.specs.Form.{operands_of, IsMadeOperand, HasMadeOperands, IsFormPlaced, IsFormBlock}
use Rattle.llvm_core.proofs.DataLemmas.{within_at}
use Rattle.ll_literals.specs.Text.{Text}
use Rattle.ll_lines.specs.Lines as L
use Rattle.ll_lines.specs.Lines.{Param}
use Rattle.ll_bodies.specs.Scopes.{Scope, empty_scope, local_key, written_name}
use Rattle.ll_literals.specs.Names.{symbol_name}
use Rattle.ll_literals.proofs.SymbolLaws.{symbol_says}
use Rattle.ll_bodies.specs.Meaning.{SaidBlock, blocks_of, params_scope, blocks_scope, blocks_data, types_of, function_data}
use Rattle.ll_said.specs.Naming.{ParamAt, local_text}
use Rattle.ll_said.specs.Said.{params_of, parts_of, function_of}
use Rattle.ll_said.specs.Sayable.{IsSayable, IsNumberedFrom}
use Rattle.ll_said.proofs.AllLaws.{all_at}
use Rattle.ll_said.proofs.BodyLaws.{IsBody, params_define, body_defines, body_says}
use Rattle.ll_said.proofs.CountingLaws.{AreCountedBlocks, counted, counted_blocks, block_number, placed_number}
use Rattle.ll_said.proofs.CutLaws.{EndsBlock, said_block, said_entry, ends_in, parts_cut}
use Rattle.ll_said.proofs.KnownLaws.{scope_after, scope_of, block_ref_is}
use Rattle.ll_said.proofs.LineLaws.{IsLine, name_said}
use Rattle.ll_said.proofs.NameLaws.{local_says}
use Rattle.ll_said.proofs.ThingLaws.{param_things, block_things, things}

-- ---- the parts of a function

line_at : (structs : List Struct) (f : Function) → IsSayable f → HasMadeOperands structs f → (i : ℕ) (c : Block) → slice_get f.blocks i ≡ Some c → (j : ℕ) (p : Placed) → slice_get c.instructions j ≡ Some p → IsLine structs f p
line_at structs f h fit i c at j p here =
    let block = within_at f.blocks (IsFormBlock f) h.form.blocks i c at in
    let there = in_joined (λ (b : Block). b.instructions) f.blocks i j c p at here in
    record { block = c.number; form = within_at c.instructions (IsFormPlaced f c.number) block.instructions j p here; made = within_at (placed_in f) (λ (q : Placed). All (IsMadeOperand structs) (operands_of q.instruction)) fit there.0 p there.1; place = there.0; at = there.1 }

body_at : (structs : List Struct) (f : Function) → IsSayable f → HasMadeOperands structs f → (i : ℕ) (c : Block) → slice_get f.blocks i ≡ Some c → IsBody structs f c
body_at structs f h fit i c at = record {
  ref = block_ref_is f h.form i c at;
  label = (within_at f.blocks (IsFormBlock f) h.form.blocks i c at).label;
  lines = all_at (IsLine structs f) c.instructions (line_at structs f h fit i c at);
}

bodies : (structs : List Struct) (f : Function) → IsSayable f → HasMadeOperands structs f → AllByRecursion (IsBody structs f) f.blocks
bodies structs f h fit = all_at (IsBody structs f) f.blocks (body_at structs f h fit)

ends_all : (f : Function) → IsSayable f → AllByRecursion EndsBlock f.blocks
ends_all f h = all_at EndsBlock f.blocks (λ i c at. ends_in c.instructions (within_at f.blocks (IsFormBlock f) h.form.blocks i c at).ends)

-- ---- parameters

params_good : (f : Function) → IsSayable f → AllByRecursion IsGoodOrNone f.params
params_good f h = all_at IsGoodOrNone f.params (λ i n at. within_at f.params IsGoodOrNone h.form.param_names i n at)

-- the names that are said of parameters
names_said : (f : Function) → IsSayable f → (i : ℕ) (ns : List Text) → AllByRecursion IsGoodOrNone ns → map (λ (p : Param). written_name local_key p.name) (params_of f i ns) ≡ ns
names_said f h i [] good = refl
names_said f h i (n ∷ ns) good =
    let here = name_said f h n (ParamAt i) local_key (local_text f n (ParamAt i)) (local_says f n (ParamAt i) h.few good.0) in
    let later = names_said f h (suc i) ns good.1 in
    ap (λ (m : Text). m ∷ map (λ (p : Param). written_name local_key p.name) (params_of f (suc i) ns)) here ∙ ap (λ (ms : List Text). n ∷ ms) later

-- and their types
types_said : (f : Function) (i : ℕ) (ts : TypeTrees) (ns : List Text) → ((j : ℕ) → param_type f.type (i + j) ≡ nth_type ts j) → length ns ≡ count_types ts → types_of (params_of f i ns) ≡ ts
types_said f i NoTypes [] types size = refl
types_said f i NoTypes (n ∷ ns) types size = absurd (omega (arith, size))
types_said f i (ThenType t ts) [] types size = absurd (omega (arith, size))
types_said f i (ThenType t ts) (n ∷ ns) types size =
    let here : i + 0 ≡ i = omega arith in
    let first : param_type f.type i ≡ t = ap (param_type f.type) (sym here) ∙ types 0 in
    let later = types_said f (suc i) ts ns (λ j. let e : suc i + j ≡ i + suc j = omega arith in ap (param_type f.type) e ∙ types (suc j)) (omega (arith, size)) in
    ap (λ (u : TypeTree). ThenType u (types_of (params_of f (suc i) ns))) first ∙ ap (ThenType t) later

type_said : (f : Function) → IsSayable f → FunctionType (result_of f.type) (types_of (params_of f 0 f.params)) false ≡ f.type
type_said f h =
    let nth = λ (j : ℕ). let e : 0 + j ≡ j = omega arith in ap (param_type f.type) e ∙ ap (λ (t : TypeTree). param_type t j) h.form.type in
    let types = types_said f 0 h.form.types f.params nth h.form.params in
    ap (FunctionType (result_of f.type) (types_of (params_of f 0 f.params))) refl
    ∙ ap (λ (ts : TypeTrees). FunctionType (result_of f.type) ts false) types
    ∙ ap (λ (t : TypeTree). FunctionType (result_of t) h.form.types false) h.form.type ∙ sym h.form.type

-- ---- functions

-- the function that parts make
abbrev pub made : (f : ℕ) → L.Function → Text → List Block → Function
made f x name blocks = record {
  number = f;
  name = name;
  type = FunctionType x.result (types_of x.params) false;
  space = 0;
  params = map (λ (p : Param). written_name local_key p.name) x.params;
  blocks = blocks;
}

function_by : (structs : List Struct) (f b n : ℕ) (x : L.Function) (name : Text) (said : List SaidBlock) (s t : Scope) (blocks : List Block) → symbol_name x.name ≡ Some name → blocks_of x.body ≡ Some said → params_scope empty_scope f 0 x.params ≡ Some s
    → blocks_scope s b n said ≡ Some t → blocks_data structs t b n said ≡ Some blocks → function_data structs f b n x ≡ Some (made f x name blocks)
function_by structs f b n x name said s t blocks named cut params defined read = rw (named, cut, params, defined, read) refl

same_function : (structs : List Struct) (f : ℕ) (x : Function) → IsSayable x → x.number ≡ f → made f (function_of structs x) x.name x.blocks ≡ x
same_function structs f x h numbered = parts f (FunctionType (result_of x.type) (types_of (params_of x 0 x.params)) false) 0 (map (λ (p : Param). written_name local_key p.name) (params_of x 0 x.params)) numbered (type_said x h) h.form.space (names_said x h 0 x.params (params_good x h))
  where
    parts : (number : ℕ) (type : TypeTree) (space : ℕ) (params : List Text) → x.number ≡ number → type ≡ x.type → x.space ≡ space → params ≡ x.params
        → ◌≡◌ {A = Function} (record { number = number; name = x.name; type = type; space = space; params = params; blocks = x.blocks }) x
    parts number type space params a b c d = rw (← a, b, ← c, d) refl

-- the first block and the others
blocks_said : (structs : List Struct) (f b n : ℕ) (x : Function) → IsSayable x → HasMadeOperands structs x → x.number ≡ f → (c : Block) (cs : List Block) → x.blocks ≡ c ∷ cs → AreCountedBlocks b n x.blocks → function_data structs f b n (function_of structs x) ≡ Some (made f (function_of structs x) x.name x.blocks)
blocks_said structs f b n x h fit numbered c cs only are =
    let params = param_things 0 x.params in
    let whole : things x ≡ params ++ (block_things c ++ flat_map block_things cs) = ap (λ (bs : List Block). params ++ flat_map block_things bs) only in
    let ends : AllByRecursion EndsBlock (c ∷ cs) = subst (AllByRecursion EndsBlock) only (ends_all x h) in
    let body : AllByRecursion (IsBody structs x) (c ∷ cs) = subst (AllByRecursion (IsBody structs x)) only (bodies structs x h fit) in
    let all : AreCountedBlocks b n (c ∷ cs) = subst (AreCountedBlocks b n) only are in
    let said = said_entry structs x c ∷ map (said_block structs x) cs in
    let cut : blocks_of (parts_of structs x x.blocks) ≡ Some said = ap (λ (bs : List Block). blocks_of (parts_of structs x bs)) only ∙ parts_cut structs x c cs ends.0 ends.1 in
    let defined = params_define x h [] (flat_map block_things x.blocks) 0 x.params refl (params_good x h) in
    let from : params_scope empty_scope f 0 (params_of x 0 x.params) ≡ Some (scope_after x params) = subst (λ (k : ℕ). params_scope empty_scope k 0 (params_of x 0 x.params) ≡ Some (scope_after x params)) numbered defined in
    let read : blocks_data structs (scope_of x) b n said ≡ Some x.blocks = body_says structs x h b n c cs body.0 body.1 all ∙ ap (λ (bs : List Block). Some bs) (sym only) in
    function_by structs f b n (function_of structs x) x.name said (scope_after x params) (scope_of x) x.blocks (symbol_says 64 x.name h.form.name) cut from (body_defines structs x h params b n c cs whole body.0 body.1 all) read

-- a function whose blocks and instructions are numbered from there
pub function_says : (structs : List Struct) (f b n : ℕ) (x : Function) → IsSayable x → HasMadeOperands structs x → x.number ≡ f → AreCountedBlocks b n x.blocks → function_data structs f b n (function_of structs x) ≡ Some x
function_says structs f b n x h fit numbered are = by x.blocks refl
  where
    by : (bs : List Block) → x.blocks ≡ bs → function_data structs f b n (function_of structs x) ≡ Some x
    by [] e = absurd (h.form.body e)
    by (c ∷ cs) e = blocks_said structs f b n x h fit numbered c cs e are ∙ ap (λ (y : Function). Some y) (same_function structs f x h numbered)

pub numbered_says : (structs : List Struct) (f b n : ℕ) (x : Function) → IsSayable x → HasMadeOperands structs x → IsNumberedFrom f b n x → function_data structs f b n (function_of structs x) ≡ Some x
numbered_says structs f b n x h fit g =
    function_says structs f b n x h fit g.number (counted_blocks b n x.blocks (counted block_number b x.blocks g.blocks) (counted placed_number n (flat_map (λ (c : Block). c.instructions) x.blocks) g.instructions))
