-- Which phi of the function that is made stands for which argument.
use Rattle.std.proofs.Common.{◌≡◌, ◌+◌, ℕ, zero, suc, List, [], ◌∷◌, Option, Some, None, length, take, slice_get, refl, sym, ap, subst, ◌∙◌, arith}
use Rattle.std.proofs.lemmas.Option.{same_Some, none-some}
use Rattle.llvm_core.specs.Data.{Placed, Block, Function}
use Rattle.dialect_types.specs.Trees.{TypeTree}
use Rattle.block_order.specs.Order.{IsOrder}
use Rattle.dialect_core.specs.declared.ops.Value.TheVariants.{Argument}
use Rattle.dialect_core.specs.Data.{DialectBlock, Func}
use Rattle.dialect_core.specs.Form.{IsFormFunc}
use Rattle.meaning.specs.Pairs.{BothOrNone}
use Rattle.meaning.specs.Setting.{Setting}
use Rattle.meaning.specs.Llvm.{ResultKey}
use Rattle.to_llvm_ir.specs.Exported.{StandForArguments}
use Rattle.to_llvm_ir.specs.Made.{Numbers, number_of, insts, phis, block_phis, block_made, function_made, entries, number_past}
use Rattle.to_llvm_ir.proofs.TurnLaws.{argument_among}
use Rattle.to_llvm_ir.proofs.EdgeLaws.{made_at, made_none}
use Rattle.to_llvm_ir.proofs.PhiLaws.{phis_only, block_phis_phi, insts_no_phi}
use Rattle.to_llvm_ir.proofs.PlanLaws.{plan, value_at}

module _ (setting : Setting) (g : Func) (form : IsFormFunc g) (n : Numbers) (order : IsOrder (length g.blocks) n.order) where
  abbrev made : Function
  made = function_made g n (entries g n)

  -- phis for the arguments from the i-th on are numbered as these
  phi_number : (b i k : ℕ) (ts : List TypeTree) (j : ℕ) (p : Placed) → slice_get (phis g n (entries g n) b i k ts) j ≡ Some p
      → (t : TypeTree) × (slice_get ts j ≡ Some t) × (p.number ≡ number_of g n (Argument (record { 0 = b }) (i + j)))
  phi_number b i k [] j p at = absurd (none-some p at)
  phi_number b i k (t ∷ ts) zero p at =
      (t, refl, ap (λ (x : Placed). x.number) (sym (same_Some _ p at)) ∙ ap (λ (m : ℕ). number_of g n (Argument (record { 0 = b }) m)) (let e : i ≡ i + 0 = omega arith in e))
  phi_number b i k (t ∷ ts) (suc j) p at =
      let r = phi_number b (suc i) (k + 1) ts j p at in
      (r.0, r.1, r.2 ∙ ap (λ (m : ℕ). number_of g n (Argument (record { 0 = b }) m)) (let e : suc i + j ≡ i + suc j = omega arith in e))

  phi_stands : (place k : ℕ) (c : DialectBlock) → slice_get g.blocks place ≡ Some c → (j : ℕ) (p : Placed) → slice_get (block_phis g n (entries g n) place k c) j ≡ Some p
      → (plan setting g form n order).value (ResultKey p.number) ≡ Some (Argument (record { 0 = c.number }) j)
  phi_stands zero k c at j p at' = absurd (none-some p at')
  phi_stands (suc t) k c at j p at' =
      let r = phi_number c.number 0 k c.args j p at' in
      let among = argument_among g form n.order order t j c r.0 at r.1 in
      ap (λ (m : ℕ). (plan setting g form n order).value (ResultKey m)) (r.2 ∙ ap (λ (m : ℕ). number_of g n (Argument (record { 0 = c.number }) m)) (let e : 0 + j ≡ j = omega arith in e))
      ∙ value_at setting g form n order among.0 (Argument (record { 0 = c.number }) j) among.1

  block_arguments : (j k : ℕ) (c : DialectBlock) → slice_get g.blocks j ≡ Some c → StandForArguments (plan setting g form n order) c (block_made g n (entries g n) j k c)
  block_arguments j k c at i p there =
      let only = phis_only (block_phis g n (entries g n) j k c) (insts g n (k + length c.args) c.ops) (block_phis_phi g n (entries g n) j k c) (insts_no_phi g n (k + length c.args) c.ops) in
      phi_stands j k c at i p (ap (λ (ps : List Placed). slice_get ps i) (sym only) ∙ there)

  pub made_arguments : (place : ℕ) → BothOrNone (StandForArguments (plan setting g form n order)) (slice_get g.blocks place) (slice_get made.blocks place)
  made_arguments j = by (slice_get g.blocks j) refl
    where
      by : (o : Option DialectBlock) → slice_get g.blocks j ≡ o → BothOrNone (StandForArguments (plan setting g form n order)) o (slice_get made.blocks j)
      by None e = subst (λ (b : Option Block). BothOrNone (StandForArguments (plan setting g form n order)) None b) (sym (made_none g n (entries g n) 0 0 g.blocks j e)) tt
      by (Some c) e =
          let k = number_past 0 (take j g.blocks) in
          subst (λ (b : Option Block). BothOrNone (StandForArguments (plan setting g form n order)) (Some c) b) (sym (made_at g n (entries g n) 0 0 g.blocks j c e))
          (subst (λ (q : ℕ). StandForArguments (plan setting g form n order) c (block_made g n (entries g n) q k c)) (let z : j ≡ 0 + j = omega arith in z) (block_arguments j k c e))
