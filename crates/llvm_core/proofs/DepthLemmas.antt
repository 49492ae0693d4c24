-- What the depths of types and structs say of the rule that none in use nests too deep.
use Rattle.std.proofs.Common.{◌≡◌, ◌<◌, ◌≤◌, ◌-◌, inl, inr, ℕ, suc, Bool, true, false, not, ◌||◌, List, [], ◌∷◌, Option, Some, None, map, length, slice_get, refl, sym, ap, ◌∙◌, arith}
use Rattle.std.specs.List.{list_any}
use Rattle.std.specs.Option.{is_some, option_map, option_map_or}
use Rattle.std.proofs.lemmas.Bool.{cases_lt, or_from}
use Rattle.std.proofs.lemmas.List.{get_or_past}
use Rattle.std.proofs.lemmas.Option.{same_Some}
use Rattle.kinds.specs.Types.{TypeTree, VoidType}
use Rattle.kinds.specs.Held.{deepest}
use Rattle.kinds.specs.Structs.{nests}
use Rattle.kinds.proofs.NestLaws.{nests_from, void_nested}
use Rattle.llvm_core.specs.declared.numbers.LLVMType.{LLVMType}
use Rattle.llvm_core.specs.declared.code.LLVMValue.{LLVMValue}
use Rattle.llvm_core.specs.declared.code.InstData.{InstData}
use Rattle.llvm_core.specs.declared.structs.StructData.{StructData}
use Rattle.llvm_core.specs.declared.check_err.Place.TheVariants as P
use Rattle.llvm_core.specs.declared.check_err.CheckErr.TheVariants.{TooDeep}
use Rattle.llvm_core.specs.Module.{Module}
use Rattle.llvm_core.specs.Parts.{value_type, operands}
use Rattle.llvm_core.specs.Data.{NamedType, structs_of, trees_of, type_at}
use Rattle.llvm_core.specs.Depths.{IsLeastWithin, opened, nests_at, fields_nest_at}
use Rattle.llvm_core.specs.Checked.{is_deep, is_deep_struct, is_deep_value, is_deep_inst, Fails, IsCheckedDepths}
use Rattle.llvm_core.proofs.TreeLemmas.{length-type_trees}
use Rattle.llvm_core.proofs.GivenLemmas.{none_any}

pub any_mapped : {X Y : Type 0} (p : X → Bool) (h : Y → X) (ys : List Y) → list_any p (map h ys) ≡ list_any (λ (y : Y). p (h y)) ys
any_mapped p h [] = refl
any_mapped p h (y ∷ ys) = ap (λ b. p (h y) || b) (any_mapped p h ys)

-- void nests no deeper than is allowed, and so that is some depth
pub some_allowed : ¬ (deepest ≡ 0)
some_allowed e = let h : nests [] 0 VoidType ≡ true = ap (λ (n : ℕ). nests [] n VoidType) (sym e) ∙ void_nested [] in cc

-- no depth that is asked about is what is noted of an open type
pub few_allowed : deepest < opened
unfolding deepest
few_allowed = omega arith

module _ (m : Module) where
  -- ---- what the depth of a type says of the rule

  pub deep_unless : (t : LLVMType) (r : Option ℕ) (b : Bool) → is_some r ≡ not b → IsLeastWithin (nests_at m t) deepest r → b ≡ is_deep m t
  deep_unless t None true e h = ap not (sym h)
  deep_unless t None false e h = cc
  deep_unless t (Some n) true e h = cc
  deep_unless t (Some n) false e h = ap not (sym (nests_from (structs_of m) n deepest (type_at (trees_of m).types t) h.1 h.0.passes))

  -- the fields of a struct nest one less deep than it does
  one_more : suc (deepest - 1) ≡ deepest
  one_more = let some = some_allowed in omega (arith, some)

  pub struct_deep_unless : (name : List ℕ) (r : Option ℕ) (b : Bool) → is_some r ≡ not b → IsLeastWithin (fields_nest_at m name) (deepest - 1) r → b ≡ is_deep_struct m name
  struct_deep_unless name None true e h = ap not (sym h ∙ ap (λ (n : ℕ). nests (structs_of m) n (NamedType name)) one_more)
  struct_deep_unless name None false e h = cc
  struct_deep_unless name (Some n) true e h = cc
  struct_deep_unless name (Some n) false e h =
      let le : suc n ≤ deepest = let one = one_more in let within = h.1 in omega arith in
      ap not (sym (nests_from (structs_of m) (suc n) deepest (NamedType name) le h.0.passes))

  -- ---- where nothing is too deep

  -- of a struct that is read
  pub struct_told : (s : ℕ) (name : List ℕ) (r : Bool) → option_map (λ (x : StructData). x.name) (slice_get m.structs s) ≡ Some name → r ≡ is_deep_struct m name → option_map (λ (x : StructData). is_deep_struct m x.name) (slice_get m.structs s) ≡ Some r
  struct_told s name r read is = by (slice_get m.structs s) read
    where
      by : (o : Option StructData) → option_map (λ (x : StructData). x.name) o ≡ Some name → option_map (λ (x : StructData). is_deep_struct m x.name) o ≡ Some r
      by None e = cc
      by (Some x) e = ap (λ (n : List ℕ). Some (is_deep_struct m n)) (same_Some x.name name e) ∙ ap Some (sym is)

  pub struct_passes : (s : ℕ) (r : Bool) → option_map (λ (x : StructData). is_deep_struct m x.name) (slice_get m.structs s) ≡ Some r → r ≡ false → ¬ Fails m (TooDeep (P.Struct s))
  struct_passes s r is unset (x, at, deep) =
      let same = same_Some (is_deep_struct m x.name) r (sym (ap (option_map (λ (y : StructData). is_deep_struct m y.name)) at) ∙ is) in
      let none : is_deep_struct m x.name ≡ false = same ∙ unset in
      absurd (cc)

  module _ (none : (t : LLVMType) → t.0 < length m.types → is_deep m t ≡ false) where
    type_passes : (t : LLVMType) → is_deep m t ≡ false
    type_passes t = elim (cases_lt t.0 (length m.types)) [
      | inl within ↦ none t within
      | inr past ↦ ap (λ (τ : TypeTree). not (nests (structs_of m) deepest τ)) (get_or_past (trees_of m).types t.0 VoidType (omega (arith, past, length-type_trees m.types))) ∙ ap not (void_nested (structs_of m))
    ]

    value_passes : (v : LLVMValue) → is_deep_value m v ≡ false
    value_passes v = by (value_type m v)
      where
        by : (o : Option LLVMType) → option_map_or (is_deep m) o false ≡ false
        by None = refl
        by (Some t) = type_passes t

    inst_passes : (x : InstData) → is_deep_inst m x ≡ false
    inst_passes x = or_from (is_deep m x.ty) (list_any (is_deep_value m) (operands x.inst)) (type_passes x.ty) (none_any (is_deep_value m) (operands x.inst) (λ i v at. value_passes v))

    pub none_deep : ((s : ℕ) → s < length m.structs → ¬ Fails m (TooDeep (P.Struct s))) → IsCheckedDepths m
    none_deep structs = record {
      structs = structs;
      functions = λ f within (x, at, deep). let h = type_passes x.ty in cc;
      insts = λ i within (x, at, deep). let h = inst_passes x in cc;
    }
