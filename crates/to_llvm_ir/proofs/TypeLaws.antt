-- Kinds of the dialect and of LLVM with the same trees.
use Rattle.std.proofs.Common.{◌≡◌, ◌<◌, ◌≤◌, ◌^◌, ℕ, Bool, true, false, ◌+◌, List, [], ◌∷◌, ◌++◌, All, length, map, take, get_or, refl, sym, ap, subst, ◌∙◌, arith}
use Rattle.std.proofs.lemmas.List.{map_push, map_more}
use Rattle.std.proofs.lemmas.Option.{slice_get_within}
use Rattle.std.proofs.lemmas.List.Elements.{All-nil, All-push}
use Rattle.llvm_core.specs.declared.numbers.LLVMType.{LLVMType}
use Rattle.llvm_core.specs.declared.types.LLVMTypeKind.{LLVMTypeKind}
use Rattle.llvm_core.specs.declared.types.LLVMTypeKind.TheVariants as T
use Rattle.support.specs.Interned.{Interned}
use Rattle.llvm_core.specs.Module.{Module}
use Rattle.llvm_core.specs.Sound.{IsModule}
use Rattle.llvm_core.specs.Parts.{IsFunctionType}
use Rattle.llvm_core.specs.Data as L
use Rattle.llvm_core.specs.Data.{trees_of}
use Rattle.llvm_core.proofs.DataLemmas.{function_tree_of}
use Rattle.kinds.specs.Types.{types_list}
use Rattle.kinds.specs.Held.{IsHeld, IsHeldResult, IsHeldSignature}
use Rattle.kinds.proofs.HeldLaws.{held_value, held_first_class, held_result_own, first_class_int}
use Rattle.dialect_types.specs.declared.types.TypeHandle.{TypeHandle}
use Rattle.dialect_types.specs.declared.types.TypeKind.{TypeKind}
use Rattle.dialect_types.specs.declared.types.TypeKind.TheVariants as K
use Rattle.dialect_types.specs.Trees.{TypeTree, TypeTrees, IntType, FunctionType, type_at, types_at, type_tree, HasPartsBelow}
use Rattle.dialect_core.proofs.TypeTestLemmas.{listed_types, map_all, params_below}
use Rattle.to_llvm_ir.specs.Growth.{Grows, IsTypeOf, AreTypesOf}
use Rattle.to_llvm_ir.proofs.GrowthLaws.{types_kept}

-- ---- types of values, and of what a function returns

-- only a function type has the tree of one
pub function_tree_alone : (ts : List TypeTree) (k : TypeKind) (u : TypeTree) (us : L.TypeTrees) (w : Bool) → ((r : TypeHandle) (ps : List TypeHandle) (v : Bool) → k ≡ K.Func r ps v → ⊥) → type_tree ts k ≡ FunctionType u us w → ⊥
function_tree_alone ts (K.Func r ps v) u us w other e = other r ps v refl
function_tree_alone ts k u us w other e = cc

-- what is returned is no function
pub no_function : (r : TypeTree) (ps : TypeTrees) (v : Bool) → IsHeldResult (FunctionType r ps v) → ⊥
no_function r ps v h =
    let none : false ≡ true = held_value _ (held_result_own _ h refl) in
    cc

-- an integer has a width that there is
pub int_over : (w : ℕ) → IsHeldResult (IntType w) → (1 ≤ w) × (w ≤ 2 ^ 23)
int_over w h = first_class_int w (held_first_class (IntType w) (held_result_own (IntType w) h refl))

-- ---- types of parameters

pub no_types : (m : Module) (ts : List LLVMType) → ts ≡ [] → AreTypesOf m ts []
no_types m ts e = rw e (All-nil (λ (t : LLVMType). t.0 < length m.types), refl)

pub one_type_more : (m : Module) (ts : List LLVMType) (t : LLVMType) (trees : List L.TypeTree) (tree : L.TypeTree) → AreTypesOf m ts trees → IsTypeOf m t tree → AreTypesOf m (ts ++ t ∷ []) (trees ++ tree ∷ [])
one_type_more m ts t trees tree h k = (
  All-push (λ (t : LLVMType). t.0 < length m.types) ts t h.0 k.0,
  map_push (L.type_at (trees_of m).types) ts t ∙ (let e = h.1 in let f = k.1 in cc),
)

pub same_trees : (us : List L.TypeTree) (ts : List TypeTree) (xs : List LLVMType) (ys : List TypeHandle) → map (L.type_at us) xs ≡ map (type_at ts) ys → L.types_at us xs ≡ types_at ts ys
same_trees us ts [] [] h = refl
same_trees us ts [] (y ∷ ys) h = cc
same_trees us ts (x ∷ xs) [] h = cc
same_trees us ts (x ∷ xs) (y ∷ ys) h =
    let e : L.type_at us x ≡ type_at ts y = cc in
    let rest : map (L.type_at us) xs ≡ map (type_at ts) ys = cc in
    let f = same_trees us ts xs ys rest in
    cc

-- ---- the type of a function

-- what its parts are
pub record FormParts (ts : List TypeTree) (n : ℕ) (result : TypeHandle) (params : List TypeHandle) (variadic : Bool) : Type 0 where
  pub result_there : result.0 < n
  pub result_held : IsHeldResult (type_at ts result)
  pub params_there : All (λ (t : TypeHandle). t.0 < n) params
  pub params_held : All (λ (t : TypeHandle). IsHeld (type_at ts t)) params

pub form_parts : (ts : List TypeTree) (n i : ℕ) (k : TypeKind) (result : TypeHandle) (params : List TypeHandle) (variadic : Bool) (tree : TypeTree)
    → IsHeldSignature tree → i < n → k ≡ K.Func result params variadic → HasPartsBelow i k → tree ≡ type_tree ts k → FormParts ts n result params variadic
form_parts ts n i k result params variadic tree form lt k_is below tree_is =
    let parts = subst (HasPartsBelow i) k_is below in
    let e : FunctionType form.result form.params false ≡ FunctionType (type_at ts result) (types_at ts params) variadic = sym form.is ∙ tree_is ∙ ap (type_tree ts) k_is in
    let r : form.result ≡ type_at ts result = cc in
    let p : form.params ≡ types_at ts params = cc in
    record {
      result_there = omega (arith, parts.0);
      result_held = subst IsHeldResult r form.returns;
      params_there = params_below i n k result params params variadic k_is below lt refl;
      params_held = map_all IsHeld (type_at ts) params (subst (All IsHeld) (ap types_list p ∙ listed_types ts params) form.takes);
    }

pub function_type : (m : Module) (old : List LLVMTypeKind) (t result : LLVMType) (params : List LLVMType) (variadic : Bool) (ts : List TypeTree) (k : TypeKind) (r : TypeHandle) (ps : List TypeHandle) (tree : TypeTree)
    → IsModule m → Interned old m.types (T.Function result params variadic) t.0 → k ≡ K.Func r ps variadic → tree ≡ type_tree ts k → IsTypeOf m result (type_at ts r) → AreTypesOf m params (map (type_at ts) ps)
    → IsFunctionType m.types t × IsTypeOf m t tree
function_type m old t result params variadic ts k r ps tree s at k_is tree_is result_is params_are =
    let e : tree ≡ FunctionType (type_at ts r) (types_at ts ps) variadic = tree_is ∙ ap (type_tree ts) k_is in
    let parts = same_trees (trees_of m).types ts params ps params_are.1 in
    let one = result_is.1 in (
      (T.Function result params variadic, at.here, refl),
      (
        slice_get_within m.types t.0 (T.Function result params variadic) at.here,
        function_tree_of m t result params variadic s at.here ∙ ap (λ (x : L.TypeTree). L.FunctionType x (L.types_at (trees_of m).types params) variadic) one ∙ ap (λ (xs : L.TypeTrees). L.FunctionType (type_at ts r) xs variadic) parts
            ∙ sym e,
      ),
    )

-- the type of a parameter more, in a module that grew
pub types_more : (old m : Module) (ts us : List LLVMType) (t : LLVMType) (dialect : List TypeTree) (ps : List TypeHandle) (i : ℕ) (p : TypeHandle) → i < length ps → Grows old m → AreTypesOf old ts (map (type_at dialect) (take i ps))
    → IsTypeOf m t (type_at dialect (get_or ps i p)) → us ≡ ts ++ t ∷ [] → AreTypesOf m us (map (type_at dialect) (take (i + 1) ps))
types_more old m ts us t dialect ps i p lt g h k e =
    rw (e, map_more (type_at dialect) ps i p lt) (one_type_more m ts t (map (type_at dialect) (take i ps)) (type_at dialect (get_or ps i p)) (types_kept old m ts (map (type_at dialect) (take i ps)) g h) k)
