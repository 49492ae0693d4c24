-- How deep the parts of a type nest. Only these laws meet the number that is allowed.
use Rattle.std.proofs.Common.{arith, ◌≡◌, ◌≤◌, ◌+◌, ℕ, Bool, false, [], All}
use Rattle.std.proofs.lemmas.List.Elements.{All-nil, All-cons}
use Rattle.kinds.specs.Types.{TypeTree, TypeTrees, NoTypes, ThenType, ArrayType, VectorType, StructType, FunctionType, types_list, parts_of, depth, depths}
use Rattle.kinds.specs.Held.{deepest, too_deep, IsShallow}

pub shallow_at : (n : ℕ) → n ≤ 1000 → too_deep n ≡ false
unfolding too_deep deepest
shallow_at n h = grind arith

pub depth_at : (n : ℕ) → too_deep n ≡ false → n ≤ 1000
unfolding too_deep deepest
depth_at n e = grind arith

-- what nests no deeper than a type that is shallow is shallow
pub shallow_below : (m n : ℕ) → m ≤ n → too_deep n ≡ false → too_deep m ≡ false
shallow_below m n h e = let k = depth_at n e in shallow_at m (omega arith)

-- a type without parts
pub flat_shallow : (t : TypeTree) → depth t ≤ 2 → IsShallow t
flat_shallow t h = shallow_at (depth t) (omega arith)

-- of a list
pub each_shallow : (ts : TypeTrees) → too_deep (depths ts) ≡ false → All IsShallow (types_list ts)
each_shallow NoTypes h = All-nil IsShallow
each_shallow (ThenType t ts) h =
    All-cons IsShallow t (types_list ts) (shallow_below (depth t) (depths (ThenType t ts)) (omega arith) h) (each_shallow ts (shallow_below (depths ts) (depths (ThenType t ts)) (omega arith) h))

-- of a function
pub result_shallow : (r : TypeTree) (ps : TypeTrees) (v : Bool) → IsShallow (FunctionType r ps v) → IsShallow r
result_shallow r ps v h = shallow_below (depth r) (depth (FunctionType r ps v)) (omega arith) h

pub params_shallow : (r : TypeTree) (ps : TypeTrees) (v : Bool) → IsShallow (FunctionType r ps v) → All IsShallow (types_list ps)
params_shallow r ps v h = each_shallow ps (shallow_below (depths ps) (depth (FunctionType r ps v)) (omega arith) h)

-- of any type: a line for each kind with parts
pub parts_shallow : (t : TypeTree) → IsShallow t → All IsShallow (parts_of t)
parts_shallow (ArrayType n t) h = All-cons IsShallow t [] (shallow_below (depth t) (1 + depth t) (omega arith) h) (All-nil IsShallow)
parts_shallow (VectorType k n t) h = All-cons IsShallow t [] (shallow_below (depth t) (1 + depth t) (omega arith) h) (All-nil IsShallow)
parts_shallow (StructType l ts) h = each_shallow ts (shallow_below (depths ts) (1 + depths ts) (omega arith) h)
parts_shallow (FunctionType r ps v) h = All-cons IsShallow r (types_list ps) (result_shallow r ps v h) (params_shallow r ps v h)
parts_shallow t h = All-nil IsShallow
