-- Counting the unnamed things of a function, one part after another.
use Rattle.std.proofs.Common.{◌≡◌, ℕ, zero, suc, ◌+◌, ◌<◌, ◌≤◌, true, false, List, [], ◌∷◌, ◌++◌, length, take, get_or, slice_get, Some, refl, ap, sym, ◌∙◌, subst, append_assoc, arith}
use Rattle.std.specs.List.{flat_map}
use Rattle.std.specs.Option.{option_map}
use Rattle.std.proofs.lemmas.List.{append-nil, take_all}
use Rattle.std.proofs.lemmas.Option.{same_Some}
use Rattle.support.proofs.ListLaws.{flat_map-take_more}
use Rattle.llvm_core.specs.declared.numbers.LLVMType.{LLVMType}
use Rattle.llvm_core.specs.declared.numbers.LLVMFunction.{LLVMFunction}
use Rattle.llvm_core.specs.declared.numbers.LLVMBasicBlock.{LLVMBasicBlock}
use Rattle.llvm_core.specs.declared.numbers.LLVMInstRef.{LLVMInstRef}
use Rattle.llvm_core.specs.declared.code.FunctionData.{FunctionData}
use Rattle.llvm_core.specs.declared.code.InstData.{InstData}
use Rattle.llvm_core.specs.Module.{Module}
use Rattle.llvm_core.specs.Code.{param_names}
use Rattle.kinds.specs.Held.{is_void}
use Rattle.llvm_core.specs.Data.{type_at, trees_of, block_at}
use Rattle.ll_print.specs.declared.numbers.Numbers.{Numbers}
use Rattle.ll_print.specs.Printing.{Unnamed, ParamAt, ResultOf, if_unnamed, unnamed_params, unnamed_block, unnamed_in}
use Rattle.ll_print.specs.Numbering.{IsNumbering, Counts}
use Rattle.ll_print.specs.Parts.{no_function, function_in, unnamed_at, unnamed_of}
use Rattle.ll_print.proofs.NumberLaws.{counts_none, counts_then}
use Rattle.ll_print.proofs.PartLaws.{read, flat_map-filter_map, params_of, gives_of-inst}

-- ---- parameters

unnamed_more : (k i : ℕ) (ns : List (List ℕ)) (n : List ℕ) → slice_get ns i ≡ Some n → unnamed_params k (take (i + 1) ns) ≡ unnamed_params k (take i ns) ++ if_unnamed n (ParamAt (k + i))
unnamed_more k i [] n at = absurd cc
unnamed_more k zero (m ∷ ns) n at =
    let same : m ≡ n = cc in
    let here : k + 0 ≡ k = omega arith in
    rw (here, ← same) (append-nil (if_unnamed m (ParamAt k)))
unnamed_more k (suc i) (m ∷ ns) n at =
    let fronts : take (suc i + 1) (m ∷ ns) ≡ m ∷ take (i + 1) ns = let e : suc i + 1 ≡ suc (i + 1) = omega arith in rw e refl in
    let here : suc k + i ≡ k + suc i = omega arith in
    ap (unnamed_params k) fronts
    ∙ ap (λ (xs : List Unnamed). if_unnamed m (ParamAt k) ++ xs) (unnamed_more (suc k) i ns n at)
    ∙ sym (append_assoc (if_unnamed m (ParamAt k)) (unnamed_params (suc k) (take i ns)) (if_unnamed n (ParamAt (suc k + i))))
    ∙ ap (λ (j : ℕ). if_unnamed m (ParamAt k) ++ unnamed_params (suc k) (take i ns) ++ if_unnamed n (ParamAt j)) here

-- a parameter is there to be read
pub param_within : (m : Module) (f : LLVMFunction) (place : ℕ) → place < length (function_in m f).params → place < length (param_names m.functions f)
param_within m f place h = subst (λ (ns : List (List ℕ)). place < length ns) (sym (params_of m f)) h

pub param_read : (m : Module) (f : LLVMFunction) (place : ℕ) (n : List ℕ) → slice_get (param_names m.functions f) place ≡ Some n → slice_get (function_in m f).params place ≡ Some n
param_read m f place n at = ap (λ (ns : List (List ℕ)). slice_get ns place) (sym (params_of m f)) ∙ at

-- one more parameter
pub counts_param_more : (m : Module) (f : LLVMFunction) (old now new : Numbers) (place : ℕ) (n : List ℕ) → slice_get (param_names m.functions f) place ≡ Some n
    → Counts old now (unnamed_params 0 (take place (function_in m f).params)) → Counts now new (if_unnamed n (ParamAt place)) → Counts old new (unnamed_params 0 (take (place + 1) (function_in m f).params))
counts_param_more m f old now new place n at so_far step =
    let here : 0 + place ≡ place = omega arith in
    let more = unnamed_more 0 place (function_in m f).params n (param_read m f place n at) ∙ ap (λ (j : ℕ). unnamed_params 0 (take place (function_in m f).params) ++ if_unnamed n (ParamAt j)) here in
    subst (Counts old new) (sym more) (counts_then old now new (unnamed_params 0 (take place (function_in m f).params)) (if_unnamed n (ParamAt place)) so_far step)

-- all of them
pub counts_params_all : (ns : List (List ℕ)) (old new : Numbers) (place : ℕ) → length ns ≤ place → Counts old new (unnamed_params 0 (take place ns)) → Counts old new (unnamed_params 0 ns)
counts_params_all ns old new place all h = subst (λ (ms : List (List ℕ)). Counts old new (unnamed_params 0 ms)) (take_all place ns all) h

-- ---- instructions and blocks

-- one more item
pub counts_more : {X : Type 0} (g : X → List Unnamed) (old now new : Numbers) (xs : List X) (i : ℕ) (d : X) → i < length xs → Counts old now (flat_map g (take i xs)) → Counts now new (g (get_or xs i d)) → Counts old new (flat_map g (take (i + 1) xs))
counts_more g old now new xs i d within so_far step = subst (Counts old new) (sym (flat_map-take_more g xs i d within)) (counts_then old now new (flat_map g (take i xs)) (g (get_or xs i d)) so_far step)

pub counts_all : {X : Type 0} (g : X → List Unnamed) (old new : Numbers) (xs : List X) (i : ℕ) → length xs ≤ i → Counts old new (flat_map g (take i xs)) → Counts old new (flat_map g xs)
counts_all {X} g old new xs i all h = subst (λ (ys : List X). Counts old new (flat_map g ys)) (take_all i xs all) h

-- an instruction without a result
pub counts_void : (m : Module) (old : Numbers) (i : LLVMInstRef) (ty : LLVMType) → option_map (λ (x : InstData). x.ty) (slice_get m.insts i.0) ≡ Some ty → is_void (type_at (trees_of m).types ty) ≡ true → Counts old old (unnamed_at m i)
counts_void m old i ty typed is = let g = gives_of-inst m (function_in m (record { 0 = 0 })) i ty true typed is in subst (Counts old old) (sym g.3) (counts_none old)

-- and one with a result
pub counts_inst : (m : Module) (old new : Numbers) (i : LLVMInstRef) (ty : LLVMType) (name : List ℕ)
    → option_map (λ (x : InstData). x.ty) (slice_get m.insts i.0) ≡ Some ty → option_map (λ (x : InstData). x.name) (slice_get m.insts i.0) ≡ Some name → is_void (type_at (trees_of m).types ty) ≡ false
    → Counts old new (if_unnamed name (ResultOf i.0)) → Counts old new (unnamed_at m i)
counts_inst m old new i ty name typed named is h =
    let g = gives_of-inst m (function_in m (record { 0 = 0 })) i ty false typed is in
    let same : g.0 ≡ name = same_Some g.0 name (sym g.1 ∙ named) in
    subst (Counts old new) (sym (g.3 ∙ ap (λ (n : List ℕ). if_unnamed n (ResultOf i.0)) same)) h

-- ---- a function

pub numbered_function : (m : Module) (f : LLVMFunction) (none mid new : Numbers) (blocks : List LLVMBasicBlock) → option_map (λ (x : FunctionData). x.blocks) (slice_get m.functions f.0) ≡ Some blocks
    → IsNumbering none [] → Counts none mid (unnamed_params 0 (function_in m f).params) → Counts mid new (flat_map (unnamed_of m) blocks) → IsNumbering new (unnamed_in (function_in m f))
numbered_function m f none mid new blocks held fresh params rest =
    let same : flat_map unnamed_block (function_in m f).blocks ≡ flat_map (unnamed_of m) blocks =
    flat_map-filter_map (block_at (trees_of m) m.blocks m.insts) unnamed_block (get_or m.functions f.0 no_function).blocks
    ∙ ap (flat_map (unnamed_of m)) (read (λ (x : FunctionData). x.blocks) m.functions f.0 no_function blocks held) in
    subst (λ (xs : List Unnamed). IsNumbering new (unnamed_params 0 (function_in m f).params ++ xs)) (sym same)
    ((counts_then none mid new (unnamed_params 0 (function_in m f).params) (flat_map (unnamed_of m) blocks) params rest).more [] fresh)
