-- Equal types, tested and proved: a line for each kind of type.
use Rattle.std.proofs.Common.{◌≡◌, nat_eq, Bool, true, false, ◌&&◌, refl, ap, eq-eqb, arith}
use Rattle.std.proofs.lemmas.Bool.{eqb-true}
use Rattle.std.proofs.lemmas.Slice.Eq.{bytes_eq-Decides}
use Rattle.kinds.specs.declared.types.Floating.{Floating}
use Rattle.kinds.specs.declared.types.OtherType.{OtherType}
use Rattle.kinds.specs.declared.types.VectorTypeKind.{VectorTypeKind}
use Rattle.kinds.specs.declared.types.StructLayout.{StructLayout}
use Rattle.kinds.specs.Types.{TypeTree, VoidType, IntType, PointerType, FloatingType, RefusedType, ArrayType, VectorType, StructType, NamedType, FunctionType, same_floating, same_other, same_kind, same_layout, TypeTrees, NoTypes, ThenType, same_bool, same_tree, same_trees}

same_self : (b : Bool) → same_bool b b ≡ true
same_self true = refl
same_self false = refl

same_bools : (a b : Bool) → same_bool a b ≡ true → a ≡ b
same_bools true true e = refl
same_bools true false e = cc
same_bools false true e = cc
same_bools false false e = refl

floating_self : (a : Floating) → same_floating a a ≡ true
floating_self a = grind arith

floating_told : (a b : Floating) → same_floating a b ≡ true → a ≡ b
floating_told a b e = grind arith

other_self : (a : OtherType) → same_other a a ≡ true
other_self a = grind arith

other_told : (a b : OtherType) → same_other a b ≡ true → a ≡ b
other_told a b e = grind arith

pub kind_self : (a : VectorTypeKind) → same_kind a a ≡ true
kind_self a = grind arith

pub kind_told : (a b : VectorTypeKind) → same_kind a b ≡ true → a ≡ b
kind_told a b e = grind arith

layout_self : (a : StructLayout) → same_layout a a ≡ true
layout_self a = grind arith

layout_told : (a b : StructLayout) → same_layout a b ≡ true → a ≡ b
layout_told a b e = grind arith

mutual
  -- a type is the same as itself
  pub tree_self : (t : TypeTree) → same_tree t t ≡ true
  tree_self VoidType = refl
  tree_self (IntType w) = eq-eqb w w refl
  tree_self (PointerType s) = eq-eqb s s refl
  tree_self (FloatingType a) = floating_self a
  tree_self (RefusedType a) = other_self a
  tree_self (ArrayType n t) = rw (eq-eqb n n refl, tree_self t) refl
  tree_self (VectorType k n t) = rw (kind_self k, eq-eqb n n refl, tree_self t) refl
  tree_self (StructType l ts) = rw (layout_self l, trees_self ts) refl
  tree_self (NamedType a) = (bytes_eq-Decides a a).1 refl
  tree_self (FunctionType r ps v) = rw (tree_self r, trees_self ps, same_self v) refl

  trees_self : (ts : TypeTrees) → same_trees ts ts ≡ true
  trees_self NoTypes = refl
  trees_self (ThenType t ts) = let a = tree_self t in let b = trees_self ts in cc

pub and_left : (a b : Bool) → (a && b) ≡ true → a ≡ true
and_left true b e = refl
and_left false b e = cc

pub and_right : (a b : Bool) → (a && b) ≡ true → b ≡ true
and_right true b e = e
and_right false b e = cc

mutual
  -- types that are tested to be the same are equal
  pub tree_told : (t u : TypeTree) → same_tree t u ≡ true → t ≡ u
  tree_told VoidType VoidType e = refl
  tree_told (IntType w) (IntType v) e = ap IntType (eqb-true w v e)
  tree_told (PointerType s) (PointerType t) e = ap PointerType (eqb-true s t e)
  tree_told (FloatingType a) (FloatingType b) e = ap FloatingType (floating_told a b e)
  tree_told (RefusedType a) (RefusedType b) e = ap RefusedType (other_told a b e)
  tree_told (ArrayType n t) (ArrayType m u) e =
      let a = eqb-true n m (and_left (nat_eq n m) (same_tree t u) e) in
      let b = tree_told t u (and_right (nat_eq n m) (same_tree t u) e) in
      cc
  tree_told (VectorType k n t) (VectorType l m u) e =
      let front = and_left (same_kind k l && nat_eq n m) (same_tree t u) e in
      let a = kind_told k l (and_left (same_kind k l) (nat_eq n m) front) in
      let b = eqb-true n m (and_right (same_kind k l) (nat_eq n m) front) in
      let c = tree_told t u (and_right (same_kind k l && nat_eq n m) (same_tree t u) e) in
      cc
  tree_told (StructType l ts) (StructType k us) e =
      let a = layout_told l k (and_left (same_layout l k) (same_trees ts us) e) in
      let b = trees_told ts us (and_right (same_layout l k) (same_trees ts us) e) in
      cc
  tree_told (NamedType a) (NamedType b) e = ap NamedType ((bytes_eq-Decides a b).0 e)
  tree_told (FunctionType r ps v) (FunctionType s qs w) e =
      let front = and_left (same_tree r s && same_trees ps qs) (same_bool v w) e in
      let a = tree_told r s (and_left (same_tree r s) (same_trees ps qs) front) in
      let b = trees_told ps qs (and_right (same_tree r s) (same_trees ps qs) front) in
      let c = same_bools v w (and_right (same_tree r s && same_trees ps qs) (same_bool v w) e) in
      cc
  tree_told t u e = grind arith

  trees_told : (ts us : TypeTrees) → same_trees ts us ≡ true → ts ≡ us
  trees_told NoTypes NoTypes e = refl
  trees_told NoTypes (ThenType u us) e = cc
  trees_told (ThenType t ts) NoTypes e = cc
  trees_told (ThenType t ts) (ThenType u us) e =
      let a = tree_told t u (and_left (same_tree t u) (same_trees ts us) e) in
      let b = trees_told ts us (and_right (same_tree t u) (same_trees ts us) e) in
      cc
