-- A module that is well-formed and narrow can be exported.
use Rattle.std.proofs.Common.{◌≡◌, ◌<◌, ◌≤◌, ℕ, Bool, [], ◌∷◌, List, Some, All, length, ap, sym, subst, arith}
use Rattle.std.specs.Prelude.{IsTrue, ◌↔◌}
use Rattle.std.specs.List.{filter_map, flat_map}
use Rattle.support.proofs.ListLaws.{all_from}
use Rattle.dialect_types.specs.Trees.{structs_of, type_trees}
use Rattle.dialect_core.specs.declared.numbers.OpRef.{OpRef}
use Rattle.dialect_core.specs.declared.numbers.BlockRef.{BlockRef}
use Rattle.dialect_core.specs.declared.ops.OpKind.TheVariants as K
use Rattle.dialect_core.specs.Lists.{list_at}
use Rattle.dialect_core.specs.ContextData.{ContextData, IsSymbol, kind_at, region_at}
use Rattle.dialect_core.specs.Data.{IsTyped, func_in, held, data_of, type_in}
use Rattle.dialect_core.specs.Form.{IsRuled}
use Rattle.dialect_core.specs.WellFormed.{IsPlainAt, IsNarrow, IsNarrowFunc, IsOpenForm, IsWellFormed, IsWellFormedFunc}
use Rattle.dialect_core.proofs.LineLemmas.{all_at}
use Rattle.dialect_core.proofs.PlainLaws.{functions_ruled}
use Rattle.to_llvm_ir.specs.Held.{IsReadable}
use Rattle.to_llvm_ir.proofs.FuncDataLaws.{IsNarrowHere, held_alone, module_narrow}

pub readable : (c : ContextData) (m : ℕ) → m < length c.ops → IsTyped c → IsWellFormed c m → IsNarrow c m → IsReadable c m
readable c m there typed w narrow = record {
  there = there;
  kind = w.kind;
  region = w.region;
  typed = typed;
  functions = all_from (IsOpenForm c) (data_of c m).functions (λ k g at. (all_at (IsWellFormedFunc (type_in c)) (data_of c m).functions w.functions k g at, all_at IsNarrowFunc (data_of c m).functions narrow k g at, all_at (IsRuled (structs_of c.types)) (data_of c m).functions (functions_ruled c m w.plain) k g at));
}

-- a module without a block has no functions
pub bare_narrow : (c : ContextData) (m : ℕ) → region_at c.ops m ≡ [] → IsNarrow c m
bare_narrow c m region =
    let P : List OpRef → Type 0 = λ os. All IsNarrowFunc (filter_map (func_in (type_trees c.types) c) os) in
    subst P (sym (ap (flat_map (list_at c.lists)) region)) (λ k d l. absurd (omega arith))

-- and a well-formed module has no more than one
pub not_crowded : (c : ContextData) (m : ℕ) (region : List BlockRef) → region ≡ region_at c.ops m → 1 < length region → IsWellFormed c m → ⊥
not_crowded c m region is more w = let few : length (region_at c.ops m) ≤ 1 = w.region in omega (arith, ap length is)

module _ (c : ContextData) (m : ℕ) (body : BlockRef) (region : region_at c.ops m ≡ body ∷ []) (w : IsWellFormed c m) where
  pub body_kinds : All (λ (o : OpRef). kind_at c.ops o ≡ Some K.Func) (list_at c.lists body)
  body_kinds = let P : List OpRef → Type 0 = All (λ (o : OpRef). kind_at c.ops o ≡ Some K.Func) in subst P (held_alone c m body region) w.funcs_alone

  pub body_plain : All (λ (o : OpRef). All (IsPlainAt c) (held c o.0)) (list_at c.lists body)
  body_plain = let P : List OpRef → Type 0 = All (λ (o : OpRef). All (IsPlainAt c) (held c o.0)) in subst P (held_alone c m body region) w.plain

  pub well_narrow : ((o : OpRef) → kind_at c.ops o ≡ Some K.Func → IsSymbol c.ops o) → (t : Bool) → (IsTrue t ↔ All (IsNarrowHere c) (list_at c.lists body)) → IsTrue t ↔ (IsWellFormed c m × IsNarrow c m)
  well_narrow symbols t h = let n = module_narrow c symbols m body region w.funcs_alone in (λ yes. (w, n.0 (h.0 yes)), λ both. h.1 (n.1 both.1))
