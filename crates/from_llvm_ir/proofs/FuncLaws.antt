-- A new function that keeps its LLVM name where its own is another.
use Rattle.std.proofs.Common.{ℕ, ◌≡◌, ◌≤◌, ◌≢◌, refl, ap, ◌∙◌, false, if◌then◌else◌, nat_eq, List, [], ◌∷◌, ◌++◌, Some, None, All, length, map, arith, ne_eqb}
use Rattle.std.specs.Prelude.{slice_set}
use Rattle.std.specs.Option.{option_and_then}
use Rattle.std.specs.Str.{bytes_eq}
use Rattle.std.proofs.lemmas.List.Elements.{All-head, All-tail}
use Rattle.support.specs.Changes.{with_change}
use Rattle.dialect_types.specs.declared.types.TypeHandle.{TypeHandle}
use Rattle.dialect_core.specs.declared.numbers.OpRef.{OpRef}
use Rattle.dialect_core.specs.declared.ops.OpData.{OpData}
use Rattle.dialect_core.specs.ContextData.{ContextData, IsSymbol, symbol_at, with_op, with_llvm_name}
use Rattle.dialect_core.specs.Data.{DialectModule, Func, data_of, with_func_llvm_name}
use Rattle.dialect_core.proofs.ListLemmas.{slice_get-last}
use Rattle.from_llvm_ir.specs.Imported.{IsBelow, kept_name}
use Rattle.from_llvm_ir.specs.Building.{func_data}
use Rattle.from_llvm_ir.proofs.BuildLaws.{at_end}
use Rattle.from_llvm_ir.proofs.KeepLaws.{all_below}

-- ---- the last item changes

set_last : {X : Type 0} (xs : List X) (x y : X) → slice_set (xs ++ x ∷ []) (length xs) y ≡ xs ++ y ∷ []
set_last [] x y = refl
set_last {X} (z ∷ xs) x y = ap (λ (ys : List X). z ∷ ys) (set_last xs x y)

change_last : {X : Type 0} (f : X → X) (xs : List X) (x : X) (i : ℕ) → i ≡ length xs → with_change f i (xs ++ x ∷ []) ≡ xs ++ f x ∷ []
change_last f xs x i e = rw (e, slice_get-last xs x) (set_last xs x (f x))

-- ---- the name that is kept

pub kept_some : (n i : List ℕ) → bytes_eq n i ≡ false → kept_name n i ≡ Some n
kept_some n i e = rw e refl

-- a new function, to which an LLVM name is set
pub func_named : (c0 c1 c2 : ContextData) (o : OpRef) (name llvm_name : List ℕ) (ty : TypeHandle) → c1 ≡ with_op c0 (func_data name None ty) → o.0 ≡ length c0.ops → c2 ≡ with_llvm_name c1 o llvm_name → c2 ≡ with_op c0 (func_data name (Some llvm_name) ty)
func_named c0 c1 c2 o name llvm_name ty e1 number e2 =
    e2 ∙ ap (λ (c : ContextData). with_llvm_name c o llvm_name) e1 ∙ ap (λ (ops : List OpData). record (with_op c0 (func_data name None ty)) { ops = ops }) (change_last _ c0.ops (func_data name None ty) o.0 number)

-- a new function may be given one
pub symbol_new : (c0 c1 : ContextData) (o : OpRef) (name : List ℕ) (ty : TypeHandle) → c1 ≡ with_op c0 (func_data name None ty) → o.0 ≡ length c0.ops → IsSymbol c1.ops o
symbol_new c0 c1 o name ty e number = (_, ap (λ (c : ContextData). symbol_at c.ops o) e ∙ ap (option_and_then (λ (x : OpData). x.symbol)) (at_end c0.ops (func_data name None ty) o number))

-- functions of lower numbers stay
others_named : (n k f : ℕ) (name : List ℕ) (fs : List Func) → All (IsBelow n k) fs → n ≤ f → map (λ (x : Func). if nat_eq x.number f then record x { llvm_name = Some name } else x) fs ≡ fs
others_named n k f name [] h le = refl
others_named n k f name (x ∷ fs) h le =
    let small = (All-head (IsBelow n k) x fs h).0 in
    let ne : x.number ≢ f = λ same. omega (arith, small, le, same) in
    rw (ne_eqb x.number f ne, others_named n k f name fs (All-tail (IsBelow n k) x fs h) le) refl

-- and so do the data of the modules that were there
pub data_named : (c0 : ContextData) (c1 c2 : DialectModule) (m : ℕ) (o : OpRef) (name : List ℕ) → c1 ≡ data_of c0 m → o.0 ≡ length c0.ops → c2 ≡ with_func_llvm_name c1 o.0 name → c2 ≡ data_of c0 m
data_named c0 c1 c2 m o name e1 number e2 =
    e2 ∙ ap (λ (d : DialectModule). with_func_llvm_name d o.0 name) e1
    ∙ ap (λ (fs : List Func). record (data_of c0 m) { functions = fs }) (others_named (length c0.ops) (length c0.blocks) o.0 name (data_of c0 m).functions (all_below c0 m) (omega (arith, number)))
