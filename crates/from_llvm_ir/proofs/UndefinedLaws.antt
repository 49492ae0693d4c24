-- Where definitions dominate their uses and blocks stand in depth-first order, a use that comes too early is one that no
-- walk reaches, of a definition that no walk reaches.
use Rattle.std.proofs.Common.{ℕ, zero, suc, ◌≡◌, ◌<◌, ◌≤◌, ◌+◌, ◌-◌, ◌⊎◌, inl, inr, refl, sym, ap, subst, ◌∙◌, Bool, true, false, cond, nat_eq, List, [], ◌∷◌, Option, Some, length, take, drop, slice_get, arith, eqb-true, length-append}
use Rattle.std.specs.Prelude.{Contains, slice_index_or}
use Rattle.std.specs.List.{find, flat_map}
use Rattle.std.specs.Option.{option_map, option_and_then}
use Rattle.std.proofs.lemmas.Bool.{cases_lt, both_ways}
use Rattle.std.proofs.lemmas.Option.{same_Some, slice_get_within, get_or_from_slice_get}
use Rattle.support.proofs.ListLaws.{all_from, slice_get-behind_cases, filter_from}
use Rattle.llvm_core.specs.Checked.{ends_in_only}
use Rattle.kinds.specs.declared.rules.Leads.{Leads}
use Rattle.kinds.specs.declared.rules.Leads.TheVariants as W
use Rattle.kinds.specs.Rules.{target_count, ends as ends_by}
use Rattle.kinds.specs.Table.{rule_of}
use Rattle.llvm_core.specs.Form as LF
use Rattle.llvm_core.specs.Data as L
use Rattle.llvm_core.specs.Data.{Placed, phi_entries, placed_in}
use Rattle.llvm_core.specs.declared.code.LLVMValue.{LLVMValue}
use Rattle.llvm_core.proofs.DataLemmas.{within_at}
use Rattle.block_order.specs.Graph.{Reaches}
use Rattle.block_order.specs.Order.{IsOrder, HasReachedFirst, HasPassedBefore}
use Rattle.block_order.proofs.ListLemmas.{contains_at, found_at, same_place}
use Rattle.from_consts.specs.declared.conversion_err.ConversionErr.{ConversionErr}
use Rattle.from_consts.specs.declared.conversion_err.ConversionErr.TheVariants as E
use Rattle.from_llvm_ir.specs.Imported.{IsEarlyUse, first_entry, passed}
use Rattle.from_llvm_ir.specs.Match.{IsPlaces}
use Rattle.from_llvm_ir.specs.Order.{IsInverse}
use Rattle.from_llvm_ir.specs.Walks.{Definition, Use, IsTakenFor, IsUndefined, Missed, Unreached, Late, HasDominatedUses, HasValidUses, graph_of}
use Rattle.from_llvm_ir.specs.Refusals.{HasUndefinedUse, IsRefusalOfFunction, IsValid}
use Rattle.from_llvm_ir.specs.Body.{IsLate}
use Rattle.from_llvm_ir.proofs.PlaceLaws.{flat_at, flat_from}
use Rattle.from_llvm_ir.proofs.EndLaws.{ends_from}
use Rattle.from_llvm_ir.proofs.GraphLaws.{length-graph}
use Rattle.from_llvm_ir.proofs.PassLaws.{phi_is, block_form, inst_form, target_there, edge_there, at_passed}
use Rattle.from_llvm_ir.proofs.RefusalLaws.{used_usable}

-- ---- an order of a graph's nodes gives places

pub order_places : (n m : ℕ) (order : List ℕ) → IsOrder n order → n ≡ m → (0 < n → slice_get order 0 ≡ Some 0) → IsPlaces m order
order_places n m order h same first = record {
  count = h.count ∙ same;
  within = all_from (λ (p : ℕ). p < m) order (λ i p at. let lt = within_at order (λ (p : ℕ). p < n) h.within i p at in omega (arith, lt, same));
  apart = λ i j x at_i at_j. same_place order i j x h.once at_i at_j;
  onto = λ p lt. let c = h.each p (omega (arith, lt, same)) in (c.0, found_at order p c);
  first = λ lt. first (omega (arith, lt, same));
}

-- ---- what phis take for a block is used at its end

pair : (e : L.Operand × ℕ) (o : L.Operand) (p : ℕ) → e.0 ≡ o → e.1 ≡ p → e ≡ (o, p)
pair (x, y) o p a b = cc (a, b)

-- the operand and the block of the first entry for a block
entry_for : (p : ℕ) (entries : List (L.Operand × ℕ)) (o : L.Operand) → first_entry p entries ≡ Some o → Contains entries (o, p)
entry_for p entries o is = let e = at_it entries is in contains_at entries e.0 (o, p) e.1
  where
    at_it : (es : List (L.Operand × ℕ)) → first_entry p es ≡ Some o → (i : ℕ) × (slice_get es i ≡ Some (o, p))
    at_it [] is = cc
    at_it (e ∷ es) is = by (nat_eq e.1 p) refl is (λ h. at_it es h)
      where
        by : (t : Bool) → nat_eq e.1 p ≡ t → option_map (λ (x : L.Operand × ℕ). x.0) (cond t (Some e) (find (λ (x : L.Operand × ℕ). nat_eq x.1 p) es)) ≡ Some o → (first_entry p es ≡ Some o → (i : ℕ) × (slice_get es i ≡ Some (o, p))) → (i : ℕ) × (slice_get (e ∷ es) i ≡ Some (o, p))
        by true same h rest = (0, ap Some (pair e o p (same_Some e.0 o h) (eqb-true e.1 p same)))
        by false apart h rest = let r = rest h in (suc r.0, r.1)

taken_is : (p : ℕ) (v : Option (List (L.Operand × ℕ))) (entries : List (L.Operand × ℕ)) (o : L.Operand) → v ≡ Some entries → option_and_then (first_entry p) v ≡ Some o → first_entry p entries ≡ Some o
taken_is p v entries o is h = sym (ap (option_and_then (first_entry p)) is) ∙ h

passed_in : (g : L.Function) (p m n y : ℕ) (o : L.Operand) → m ≡ n → slice_get (passed g p n) y ≡ Some o → slice_get (passed g p m) y ≡ Some o
passed_in g p m n y o same h = ap (λ (k : ℕ). slice_get (passed g p k) y) same ∙ h

-- what leads to blocks ends its block
leads_end : (l : Leads) → 0 < target_count l → ends_by l ≡ true
leads_end W.On lt = absurd (omega (arith, lt))
leads_end (W.To n) lt = refl

ends : (g : L.Function) (m : ℕ) (type : L.TypeTree) (i : L.Instruction) (j t : ℕ) → LF.IsFormInstruction g m type i → slice_get (L.targets i) j ≡ Some t → LF.is_terminator i ≡ true
ends g m type (L.Phi es) j t h at = cc
ends g m type (L.Applied r) j t h at = leads_end (rule_of r.op).leads (omega (arith, slice_get_within r.targets j t at, h.leads))

-- the only item that passes stands last
last_place : {X : Type 0} (test : X → Bool) (xs : List X) (i : ℕ) (x : X) → ends_in_only test xs ≡ true → slice_get xs i ≡ Some x → test x ≡ true → suc i ≡ length xs
last_place test xs i x only at passes =
    let e = ends_from test xs only in
    elim (slice_get-behind_cases e.front (e.last ∷ []) i x (ap (λ ys. slice_get ys i) (sym e.are) ∙ at)) [
      | inl before ↦ absurd (both_ways (test x) (within_at e.front (λ y. test y ≡ false) e.before i x before) passes)
      | inr end ↦
          let n = slice_get_within (e.last ∷ []) end.0 x end.2 in
          let all : length xs ≡ length e.front + 1 = ap (λ ys. length ys) e.are ∙ length-append e.front (e.last ∷ []) in
          omega (arith, n, all, end.1)
    ]

module _ (g : L.Function) (form : LF.IsFormFunction g) where
  -- what is passed is taken by a phi of the function
  taken : (i : ℕ) (b : L.Block) (x j t y n : ℕ) (p : Placed) → slice_get g.blocks i ≡ Some b → slice_get b.instructions x ≡ Some p → slice_get (L.targets p.instruction) j ≡ Some t → slice_get (passed g b.number t) y ≡ Some (L.Result n) → IsTakenFor g b n
  taken i b x j t y n p at here leads is =
      let to = target_there g form i x j b p t at here leads in
      let edge = edge_there g form i x j b p t at here leads in
      let q = at_passed g form b.number (suc to.0) to.1 to.2 (subst (λ (k : ℕ). 0 < LF.edges_between g b.number k) (sym to.3) edge) y (L.Result n) (passed_in g b.number to.1.number t y (L.Result n) to.3 is) in
      let f = filter_from LF.is_phi to.1.instructions y q.phi q.here in
      let es = phi_is q.phi f.2 in
      let r = flat_at (λ (c : L.Block). c.instructions) g.blocks (suc to.0) to.1 f.0 q.phi to.2 f.1 in
      record {
        phi = q.phi;
        there = contains_at (placed_in g) r.0 q.phi r.1;
        entries = es.0;
        are = es.1;
        entry = entry_for b.number es.0 (L.Result n) (taken_is b.number (phi_entries q.phi.instruction) es.0 (L.Result n) es.1 q.is);
      }

  module _ (places : List ℕ) (n : ℕ) (h : IsEarlyUse g places n) where
    -- the early use is one
    early_use : (u : Use g n) × (u.block ≡ h.block) × (u.place ≡ h.place)
    early_use = elim (slice_get-behind_cases (LF.operands_of h.user.instruction) (flat_map (passed g h.b.number) (L.targets h.user.instruction)) h.uses.1.0 (L.Result n) h.uses.1.1) [
      | inl a ↦ (
        record { block = h.block; b = h.b; at = h.at; place = h.place; how = inl (record { user = h.user; here = h.here; other = h.uses.0; operand = contains_at (LF.operands_of h.user.instruction) h.uses.1.0 (L.Result n) a }) },
        refl,
        refl,
      )
      | inr z ↦
          let r = flat_from (passed g h.b.number) (L.targets h.user.instruction) z.0 (L.Result n) z.2 in (
            record {
              block = h.block;
              b = h.b;
              at = h.at;
              place = h.place;
              how = inr (
                taken h.block h.b h.place r.place r.item r.inner n h.user h.at h.here r.here r.at,
                last_place LF.is_last h.b.instructions h.place h.user (block_form g form h.block h.b h.at).ends h.here (ends g h.b.number h.user.type h.user.instruction r.place r.item (inst_form g form h.block h.place h.b h.user h.at h.here).instruction r.here),
              );
            },
            refl,
            refl,
          )
    ]

    -- its definition is there
    definition : Definition g n
    definition =
        let usable = used_usable g form h.block h.place h.b h.user h.at h.here h.uses.0 (L.Result n) h.uses.1 in
        let s = usable.1.stands in
        let r = flat_from (λ (b : L.Block). b.instructions) g.blocks s.0 s.1 s.2 in
        record { block = r.place; b = r.item; at = r.here; place = r.inner; inst = s.1; here = r.at; number = s.3 }

    module _ (order : List ℕ) (dominated : HasDominatedUses g) (is : IsOrder (length (graph_of g)) order) (reached : HasReachedFirst (graph_of g) order) (before : HasPassedBefore (graph_of g) order) (inverse : IsInverse order places) where
      -- where the order names a block
      place_in : (i : ℕ) (b : L.Block) → slice_get g.blocks i ≡ Some b → (j : ℕ) × (slice_get order j ≡ Some i) × (slice_index_or places i i ≡ j)
      place_in i b at =
          let lt = slice_get_within g.blocks i b at in
          let c = is.each i (omega (arith, lt, length-graph g form)) in
          let here = found_at order i c in
          (c.0, here, get_or_from_slice_get places i c.0 i (inverse c.0 i here))

      not_reached : (j i : ℕ) → slice_get order j ≡ Some i → reached.0 ≤ j → ¬ Reaches (graph_of g) 0 i
      not_reached j i at past = within_at (drop reached.0 order) (λ (x : ℕ). ¬ Reaches (graph_of g) 0 x) reached.2 (j - reached.0) i (dropped order reached.0 j past ∙ at)
        where
          dropped : (xs : List ℕ) (m k : ℕ) → m ≤ k → slice_get (drop m xs) (k - m) ≡ slice_get xs k
          dropped xs zero k le = ap (slice_get xs) (let e : k - 0 ≡ k = omega arith in e)
          dropped [] (suc m) k le = refl
          dropped (x ∷ xs) (suc m) zero le = absurd (omega (arith, le))
          dropped (x ∷ xs) (suc m) (suc k) le = ap (slice_get (drop m xs)) (let e : suc k - suc m ≡ k - m = omega arith in e) ∙ dropped xs m k (omega (arith, le))

      is_reached : (j i : ℕ) → slice_get order j ≡ Some i → j < reached.0 → Reaches (graph_of g) 0 i
      is_reached j i at lt = within_at (take reached.0 order) (λ (x : ℕ). Reaches (graph_of g) 0 x) reached.1 j i (taken_at order reached.0 j lt ∙ at)
        where
          taken_at : (xs : List ℕ) (m k : ℕ) → k < m → slice_get (take m xs) k ≡ slice_get xs k
          taken_at xs zero k lt = absurd (omega (arith, lt))
          taken_at [] (suc m) k lt = refl
          taken_at (x ∷ xs) (suc m) zero lt = refl
          taken_at (x ∷ xs) (suc m) (suc k) lt = taken_at xs m k (omega (arith, lt))

      abbrev d : Definition g n
      d = definition

      abbrev u : Use g n
      u = early_use.0

      not_before : (j k : ℕ) → slice_index_or places d.block d.block ≡ j → slice_index_or places h.block h.block ≡ k → ¬ (j < k)
      not_before j k at_d at_u lt = (h.early d.block d.b d.place d.inst d.at d.here d.number).0 (omega (arith, lt, at_d, at_u))

      -- in one block the definition is ahead, and is not
      in_one : d.block ≡ u.block → ⊥
      in_one same =
          let ahead = (dominated n d u).inside same in
          (h.early d.block d.b d.place d.inst d.at d.here d.number).1 (same ∙ early_use.1, elim ahead [ inl lt ↦ inl (omega (arith, lt, early_use.2)) | inr phi ↦ inr phi ])

      apart : ¬ (d.block ≡ u.block) → IsUndefined g n
      apart other =
          let pd = place_in d.block d.b d.at in
          let pu = place_in h.block h.b h.at in
          let behind = not_before pd.0 pu.0 pd.2 pu.2 in
          elim (cases_lt pu.0 reached.0) [
            | inl front ↦
                let r = subst (Reaches (graph_of g) 0) (sym early_use.1) (is_reached pu.0 h.block pu.1 front) in
                let b = before u.block d.block r ((dominated n d u).across other) other in
                let same_d : b.place ≡ pd.0 = same_place order b.place pd.0 d.block is.once b.is_first pd.1 in
                let same_u : b.later ≡ pu.0 = same_place order b.later pu.0 u.block is.once b.is_second (pu.1 ∙ ap Some (sym early_use.1)) in
                absurd (behind (omega (arith, b.in_order, same_d, same_u)))
            | inr past ↦
                let le : pu.0 ≤ pd.0 = elim (cases_lt pd.0 pu.0) [ inl lt ↦ absurd (behind lt) | inr le ↦ le ] in
                Unreached d u other (subst (λ (i : ℕ). ¬ Reaches (graph_of g) 0 i) (sym early_use.1) (not_reached pu.0 h.block pu.1 past)) (not_reached pd.0 d.block pd.1 (omega (arith, past, le)))
          ]

      pub undefined : IsUndefined g n
      undefined = elim (same_or d.block u.block) [ inl same ↦ absurd (in_one same) | inr other ↦ apart other ]
        where
          same_or : (a b : ℕ) → (a ≡ b) ⊎ ¬ (a ≡ b)
          same_or a b = elim (cases_lt a b) [
            | inl lt ↦ inr (λ e. omega (arith, lt, e))
            | inr le ↦ elim (cases_lt b a) [ inl lt ↦ inr (λ e. omega (arith, lt, e)) | inr ge ↦ inl (omega (arith, le, ge)) ]
          ]

  -- so the function is refused for what stops its import
  pub refused : (order places : List ℕ) → HasDominatedUses g → IsOrder (length (graph_of g)) order → HasReachedFirst (graph_of g) order → HasPassedBefore (graph_of g) order → IsInverse order places
      → (e : ConversionErr) → IsLate g places e → IsRefusalOfFunction g e
  refused order places dominated is reached before inverse (E.UndefinedValue name v) h = record { inst = h.inst; value = h.value; undefined = undefined places h.inst.0 h.early order dominated is reached before inverse; named = h.named }
  refused order places dominated is reached before inverse (E.IntConstTooWide width) h = h
  refused order places dominated is reached before inverse (E.Unsupported u) h = h
  refused order places dominated is reached before inverse (E.Struct s) h = h
  refused order places dominated is reached before inverse E.NoMemory h = tt

-- ---- valid uses

defined : (f : L.Function) (n : ℕ) → HasValidUses f → ¬ IsUndefined f n
defined f n h (Missed d u other w) = w.2 ((h.dominated n d u).across other w.0 w.1)
defined f n h (Unreached d u other far off) = off (h.reached n d u other far)
defined f n h (Late d u same late) = late ((h.dominated n d u).inside same)

-- so a module whose uses are valid has no use that is refused
pub no_undefined_use : (d : L.ModuleData) → IsValid d → (name : List ℕ) (v : LLVMValue) → ¬ HasUndefinedUse d name v
no_undefined_use d h name v r = defined r.f r.refused.inst.0 (within_at d.functions HasValidUses h r.place r.f r.at) r.refused.undefined
