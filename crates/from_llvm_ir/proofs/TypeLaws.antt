-- Types of the source and of the dialect.
use Rattle.std.proofs.Common.{ℕ, ◌≡◌, ◌<◌, ◌≤◌, ◌+◌, List, [], ◌∷◌, ◌++◌, All, Some, true, false, filter, slice_get, length, map, take, get_or, refl, sym, ap, subst, ◌∙◌, arith}
use Rattle.std.proofs.lemmas.List.{map_push, take_all, map_more}
use Rattle.std.proofs.lemmas.List.Elements.{All-weaker, All-push, All-nil, All-head, All-tail}
use Rattle.llvm_core.specs.declared.numbers.LLVMType.{LLVMType}
use Rattle.llvm_core.specs.Data as L
use Rattle.llvm_core.specs.Form.{is_phi}
use Rattle.dialect_types.specs.declared.types.TypeHandle.{TypeHandle}
use Rattle.dialect_types.specs.Trees.{TypeTree, FunctionType, TypeTrees, NoTypes, ThenType, type_at, types_at, type_trees, AllBelow}
use Rattle.dialect_core.specs.ContextData.{ContextData}
use Rattle.kinds.specs.Types.{types_list, params_of}
use Rattle.kinds.specs.Held.{IsShallow}
use Rattle.from_llvm_ir.proofs.PlaceLaws.{filter_next, filter_skip}
use Rattle.from_llvm_ir.specs.Types.{AddsTypes, GrowsTypes}

-- ---- types of the context that grow

pub grows_none : (c : ContextData) → GrowsTypes c c
grows_none c = record { rest = refl; more = record { still = λ i k at. at; longer = omega arith; kept = λ t small. refl }; structs = refl }

pub grows_then : (a b c : ContextData) → GrowsTypes a b → GrowsTypes b c → GrowsTypes a c
grows_then a b c x y = record {
  rest = y.rest ∙ ap (λ (d : ContextData). record d { types = c.types }) x.rest;
  more = record {
    still = λ i k at. y.more.still i k (x.more.still i k at);
    longer = omega (arith, x.more.longer, y.more.longer);
    kept = λ t small. y.more.kept t (omega (arith, small, x.more.longer)) ∙ x.more.kept t small;
  };
  structs = y.structs ∙ x.structs;
}

pub adds : (a b : ContextData) → GrowsTypes a b → AddsTypes a b
adds a b g = record { rest = g.rest; more = g.more }

-- handles keep their types
pub trees_kept : (a b : ContextData) → GrowsTypes a b → (ts : List TypeHandle) → All (λ (t : TypeHandle). t.0 < length a.types) ts → map (type_at (type_trees b.types)) ts ≡ map (type_at (type_trees a.types)) ts
trees_kept a b g [] h = refl
trees_kept a b g (t ∷ ts) h =
    let here = g.more.kept t (All-head (λ (x : TypeHandle). x.0 < length a.types) t ts h) in
    let rest = trees_kept a b g ts (All-tail (λ (x : TypeHandle). x.0 < length a.types) t ts h) in
    cc

pub within_kept : (a b : ContextData) → GrowsTypes a b → (ts : List TypeHandle) → All (λ (t : TypeHandle). t.0 < length a.types) ts → All (λ (t : TypeHandle). t.0 < length b.types) ts
within_kept a b g ts h = All-weaker (λ (t : TypeHandle). t.0 < length a.types) (λ (t : TypeHandle). t.0 < length b.types) (λ t small. omega (arith, small, g.more.longer)) ts h

-- ---- one type more

pub record Imports (a b : ContextData) (trees : List L.TypeTree) (types : List LLVMType) (imported : List TypeHandle) : Type 0 where
  pub grown : GrowsTypes a b
  pub are : map (type_at (type_trees b.types)) imported ≡ map (λ (t : LLVMType). L.type_at trees t) types
  pub within : All (λ (t : TypeHandle). t.0 < length b.types) imported

pub imports_none : (a : ContextData) (trees : List L.TypeTree) → Imports a a trees [] []
imports_none a trees = record { grown = grows_none a; are = refl; within = All-nil _ }

pub imports_more : (a b c : ContextData) (trees : List L.TypeTree) (types : List LLVMType) (i : ℕ) (d : LLVMType) (imported : List TypeHandle) (t : TypeHandle)
    → i < length types → Imports a b trees (take i types) imported → GrowsTypes b c → type_at (type_trees c.types) t ≡ L.type_at trees (get_or types i d) → t.0 < length c.types
    → Imports a c trees (take (i + 1) types) (imported ++ t ∷ [])
imports_more a b c trees types i d imported t lt h g is small = record {
  grown = grows_then a b c h.grown g;
  are =
      map_push (type_at (type_trees c.types)) imported t
      ∙ ap (λ (ts : List TypeTree). ts ++ type_at (type_trees c.types) t ∷ []) (trees_kept b c g imported h.within ∙ h.are)
      ∙ ap (λ (x : TypeTree). map (λ (t : LLVMType). L.type_at trees t) (take i types) ++ x ∷ []) is
      ∙ sym (map_more (λ (t : LLVMType). L.type_at trees t) types i d lt);
  within = All-push (λ (t : TypeHandle). t.0 < length c.types) imported t (within_kept b c g imported h.within) small;
}

pub imports_all : (a b : ContextData) (trees : List L.TypeTree) (types : List LLVMType) (i : ℕ) (imported : List TypeHandle) → length types ≤ i → Imports a b trees (take i types) imported → Imports a b trees types imported
imports_all a b trees types i imported le h = subst (λ (ts : List LLVMType). Imports a b trees ts imported) (take_all i types le) h

-- ---- the types of phis

pub record ImportsPhis (a b : ContextData) (ps : List L.Placed) (imported : List TypeHandle) : Type 0 where
  pub grown : GrowsTypes a b
  pub are : map (type_at (type_trees b.types)) imported ≡ map (λ (p : L.Placed). p.type) (filter is_phi ps)
  pub within : All (λ (t : TypeHandle). t.0 < length b.types) imported

pub phis_none : (a : ContextData) → ImportsPhis a a [] []
phis_none a = record { grown = grows_none a; are = refl; within = All-nil _ }

pub phis_skip : (a b : ContextData) (ps : List L.Placed) (i : ℕ) (p : L.Placed) (imported : List TypeHandle) → slice_get ps i ≡ Some p → is_phi p ≡ false → ImportsPhis a b (take i ps) imported → ImportsPhis a b (take (i + 1) ps) imported
phis_skip a b ps i p imported at other h = record {
  grown = h.grown;
  are = h.are ∙ ap (map (λ (q : L.Placed). q.type)) (sym (filter_skip is_phi ps i p at other));
  within = h.within;
}

pub phis_more : (a b c : ContextData) (ps : List L.Placed) (i : ℕ) (p : L.Placed) (imported : List TypeHandle) (t : TypeHandle) → slice_get ps i ≡ Some p → is_phi p ≡ true → ImportsPhis a b (take i ps) imported → GrowsTypes b c → type_at (type_trees c.types) t ≡ p.type → t.0 < length c.types
    → ImportsPhis a c (take (i + 1) ps) (imported ++ t ∷ [])
phis_more a b c ps i p imported t at phi h g is small = record {
  grown = grows_then a b c h.grown g;
  are =
      map_push (type_at (type_trees c.types)) imported t
      ∙ ap (λ (ts : List TypeTree). ts ++ type_at (type_trees c.types) t ∷ []) (trees_kept b c g imported h.within ∙ h.are)
      ∙ ap (λ (x : TypeTree). map (λ (q : L.Placed). q.type) (filter is_phi (take i ps)) ++ x ∷ []) is
      ∙ sym (map_push (λ (q : L.Placed). q.type) (filter is_phi (take i ps)) p)
      ∙ ap (map (λ (q : L.Placed). q.type)) (sym (filter_next is_phi ps i p at phi));
  within = All-push (λ (x : TypeHandle). x.0 < length c.types) imported t (within_kept b c g imported h.within) small;
}

-- ---- lists of types as trees

pub listed : (trees : List L.TypeTree) (ps : List LLVMType) → map (λ (t : LLVMType). L.type_at trees t) ps ≡ types_list (L.types_at trees ps)
listed trees [] = refl
listed trees (p ∷ ps) = ap (λ (ts : List TypeTree). L.type_at trees p ∷ ts) (listed trees ps)

listed_at : (trees : List TypeTree) (ts : List TypeHandle) → map (type_at trees) ts ≡ types_list (types_at trees ts)
listed_at trees [] = refl
listed_at trees (t ∷ ts) = ap (λ (xs : List TypeTree). type_at trees t ∷ xs) (listed_at trees ts)

list_one : (a b : TypeTrees) → types_list a ≡ types_list b → a ≡ b
list_one NoTypes NoTypes h = refl
list_one NoTypes (ThenType t ts) h = cc
list_one (ThenType t ts) NoTypes h = cc
list_one (ThenType t ts) (ThenType u us) h = let rest = list_one ts us (cc) in cc

pub params_are : (trees : List TypeTree) (ts : List TypeHandle) (ps : L.TypeTrees) → map (type_at trees) ts ≡ types_list ps → types_at trees ts ≡ ps
params_are trees ts ps h = list_one (types_at trees ts) ps (sym (listed_at trees ts) ∙ h)

pub all_below : (n : ℕ) (ts : List TypeHandle) → All (λ (t : TypeHandle). t.0 < n) ts → AllBelow n ts
all_below n [] h = tt
all_below n (t ∷ ts) h = (All-head (λ (x : TypeHandle). x.0 < n) t ts h, all_below n ts (All-tail (λ (x : TypeHandle). x.0 < n) t ts h))

-- ---- parts of a signature

-- the types of parameters, once the context has more types
pub params_still : (a b : ContextData) (ts us : List TypeHandle) (t : L.TypeTree) (r : L.TypeTree) (ps : L.TypeTrees) → GrowsTypes a b → All (λ (t : TypeHandle). t.0 < length a.types) ts → map (type_at (type_trees a.types)) ts ≡ params_of t → t ≡ L.FunctionType r ps false → us ≡ ts
    → types_at (type_trees b.types) us ≡ ps
params_still a b ts us t r ps g within are is same =
    ap (types_at (type_trees b.types)) same ∙ params_are (type_trees b.types) ts ps (trees_kept a b g ts within ∙ are ∙ ap params_of is)

pub below_still : (a b : ContextData) (ts us : List TypeHandle) → GrowsTypes a b → All (λ (t : TypeHandle). t.0 < length a.types) ts → us ≡ ts → AllBelow (length b.types) us
below_still a b ts us g within same = subst (AllBelow (length b.types)) (sym same) (all_below (length b.types) ts (within_kept a b g ts within))

pub both_parts : (r : TypeTree) (ps : TypeTrees) (s : L.TypeTree) (qs : L.TypeTrees) → r ≡ s → ps ≡ qs → FunctionType r ps false ≡ L.FunctionType s qs false
both_parts r ps s qs e f = rw (e, f) refl

-- and it nests as deep
pub signature_shallow : (r : TypeTree) (ps : TypeTrees) (s : L.TypeTree) (qs : L.TypeTrees) (t : L.TypeTree) → r ≡ s → ps ≡ qs → t ≡ L.FunctionType s qs false → IsShallow t → IsShallow (FunctionType r ps false)
signature_shallow r ps s qs t e f is h = subst IsShallow (is ∙ sym (both_parts r ps s qs e f)) h
