-- Types under other names of structs: equal ones stay so, and what fits a row fits it still.
use Rattle.std.proofs.Common.{arith, ◌≡◌, ℕ, Bool, true, false, ◌&&◌, refl, ap, List, map, slice_get, length, Option, Some, None, if◌then◌else◌, nat_eq}
use Rattle.std.specs.Prelude.{IfSome, unwrap_or}
use Rattle.std.specs.Option.{option_map}
use Rattle.std.specs.Str.{bytes_eq}
use Rattle.std.proofs.lemmas.Slice.Eq.{bytes_eq-Decides}
use Rattle.kinds.specs.declared.op.Op.{Op}
use Rattle.kinds.specs.declared.rules.Gives.{Gives}
use Rattle.kinds.specs.declared.rules.Gives.TheVariants as G
use Rattle.kinds.specs.Types.{TypeTree, VoidType, ArrayType, VectorType, StructType, NamedType, FunctionType, TypeTrees, NoTypes, ThenType, laned, same_kind, same_layout, same_tree, same_trees}
use Rattle.kinds.specs.Structs.{renamed, renamed_all}
use Rattle.std.proofs.lemmas.List.{length-map}
use Rattle.std.proofs.lemmas.Option.{slice_get-map}
use Rattle.kinds.specs.Table.{rule_of}
use Rattle.kinds.specs.Typing.{fits_trees, given, typed}
use Rattle.kinds.proofs.FittingLaws.{fits_kept}
use Rattle.kinds.proofs.RenamedLaws.{renamed_laned, renamed_bits}

-- ---- equal types

-- names that are told apart are told apart under other names that are apart
pub names_apart : (to : List ℕ → List ℕ) → ((a b : List ℕ) → to a ≡ to b → a ≡ b) → (a b : List ℕ) → (s t : Bool) → bytes_eq (to a) (to b) ≡ s → bytes_eq a b ≡ t → s ≡ t
names_apart to apart a b true true hs ht = refl
names_apart to apart a b false false hs ht = refl
names_apart to apart a b true false hs ht = let e = (bytes_eq-Decides a b).1 (apart a b ((bytes_eq-Decides (to a) (to b)).0 hs)) in cc
names_apart to apart a b false true hs ht = let e = (bytes_eq-Decides (to a) (to b)).1 (ap to ((bytes_eq-Decides a b).0 ht)) in cc

module _ (to : List ℕ → List ℕ) (apart : (a b : List ℕ) → to a ≡ to b → a ≡ b) where
  mutual
    -- two types are one under other names just where they are one
    pub same_renamed : (t u : TypeTree) → same_tree (renamed to t) (renamed to u) ≡ same_tree t u
    same_renamed (ArrayType n t) (ArrayType m u) = ap (λ (b : Bool). nat_eq n m && b) (same_renamed t u)
    same_renamed (VectorType k n t) (VectorType l m u) = ap (λ (b : Bool). same_kind k l && nat_eq n m && b) (same_renamed t u)
    same_renamed (StructType l ts) (StructType k us) = ap (λ (b : Bool). same_layout l k && b) (same_all_renamed ts us)
    same_renamed (NamedType a) (NamedType b) = names_apart to apart a b (bytes_eq (to a) (to b)) (bytes_eq a b) refl refl
    same_renamed (FunctionType r ps v) (FunctionType s qs w) = rw (same_renamed r s, same_all_renamed ps qs) refl
    same_renamed t u = grind arith

    same_all_renamed : (ts us : TypeTrees) → same_trees (renamed_all to ts) (renamed_all to us) ≡ same_trees ts us
    same_all_renamed NoTypes NoTypes = refl
    same_all_renamed NoTypes (ThenType u us) = refl
    same_all_renamed (ThenType t ts) NoTypes = refl
    same_all_renamed (ThenType t ts) (ThenType u us) = rw (same_renamed t u, same_all_renamed ts us) refl

-- ---- what fits a row

any_some : (o : Option TypeTree) → IfSome o (λ (t : TypeTree). Unit {0})
any_some None = tt
any_some (Some t) = tt

module _ (to : List ℕ → List ℕ) where
  given_renamed : (gives : Gives) (w a b : Option TypeTree) → given gives (option_map (renamed to) w) (option_map (renamed to) a) (option_map (renamed to) b) ≡ option_map (renamed to) (given gives w a b)
  given_renamed G.Nothing w a b = refl
  given_renamed G.First w a b = refl
  given_renamed G.Second w a b = refl
  given_renamed G.Written w a b = refl
  given_renamed G.Bits w None b = refl
  given_renamed G.Bits w (Some a) b = ap Some (renamed_bits to a)

  if_renamed : (v : Bool) (o : Option TypeTree) → (if v then option_map (renamed to) o else None) ≡ option_map (renamed to) (if v then o else None)
  if_renamed true o = refl
  if_renamed false o = refl

  pub unwrapped : (o : Option TypeTree) → unwrap_or (option_map (renamed to) o) VoidType ≡ renamed to (unwrap_or o VoidType)
  unwrapped None = refl
  unwrapped (Some t) = refl

module _ (to : List ℕ → List ℕ) (apart : (a b : List ℕ) → to a ≡ to b → a ≡ b) where
  pub fits_renamed : (op : Op) (w : Option TypeTree) (ts : List TypeTree) → fits_trees op (option_map (renamed to) w) (map (renamed to) ts) ≡ fits_trees op w ts
  fits_renamed op w ts =
      rw (length-map ts (renamed to), slice_get-map (renamed to) ts 0, slice_get-map (renamed to) ts 1, slice_get-map (renamed to) ts 2)
      (fits_kept laned same_tree laned same_tree (renamed to) (λ (t : TypeTree). Unit {0}) (λ t g. renamed_laned to t) (λ t u g h. same_renamed to apart t u) (rule_of op) (length ts) w (slice_get ts 0) (slice_get ts 1) (slice_get ts 2)
      (any_some w) (any_some (slice_get ts 0)) (any_some (slice_get ts 1)) (any_some (slice_get ts 2)))

  pub typed_renamed : (op : Op) (w : Option TypeTree) (ts : List TypeTree) → typed op (option_map (renamed to) w) (map (renamed to) ts) ≡ option_map (renamed to) (typed op w ts)
  typed_renamed op w ts =
      rw (fits_renamed op w ts, slice_get-map (renamed to) ts 0, slice_get-map (renamed to) ts 1, given_renamed to (rule_of op).gives w (slice_get ts 0) (slice_get ts 1))
      (if_renamed to (fits_trees op w ts) (given (rule_of op).gives w (slice_get ts 0) (slice_get ts 1)))
