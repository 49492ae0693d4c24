-- The function that is made stands for the dialect's.
use Rattle.std.proofs.Common.{◌≡◌, ◌<◌, ◌≤◌, ◌^◌, ◌+◌, ◌*◌, ℕ, suc, List, [], ◌∷◌, Option, Some, None, All, map, length, slice_get, refl, sym, subst, arith}
use Rattle.std.proofs.lemmas.List.Elements.{All-nil, All-cons}
use Rattle.llvm_core.specs.Data.{Function}
use Rattle.dialect_types.specs.Trees.{TypeTree}
use Rattle.dialect_core.specs.Data.{DialectOp, DialectBlock, Func}
use Rattle.dialect_core.specs.Form.{IsFormFunc}
use Rattle.meaning.specs.Pairs.{Matched}
use Rattle.to_llvm_ir.specs.Order.{IsTaken}
use Rattle.to_llvm_ir.specs.Exported.{ExportedFunction}
use Rattle.to_llvm_ir.specs.Made.{Numbers, function_made, entries, number_past, number_after, number_behind}
use Rattle.to_llvm_ir.specs.Accepted.{IsAccepted}
use Rattle.to_llvm_ir.specs.Functions.{HasRules, IsMadeOf}
use Rattle.to_llvm_ir.proofs.ShapeLaws.{shape}
use Rattle.to_llvm_ir.proofs.SetLaws.{sets_first}
use Rattle.to_llvm_ir.proofs.PhiLaws.{made_phis}
use Rattle.to_llvm_ir.proofs.PhiValueLaws.{made_arguments}
use Rattle.to_llvm_ir.proofs.FormLaws.{made_form}
use Rattle.to_llvm_ir.proofs.HeldLaws.{made_held}
use Rattle.to_llvm_ir.proofs.FewLaws.{made_few}
use Rattle.to_llvm_ir.proofs.DistinctLaws.{distinct_locals}
use Rattle.to_llvm_ir.proofs.NamedLaws.{made_named}

-- ---- the numbers of values

after_few : (r : Option TypeTree) (k : ℕ) → number_after r k ≤ k + 1
after_few None k = omega arith
after_few (Some t) k = omega arith

behind_few : (k : ℕ) (os : List DialectOp) → number_behind k os ≤ k + length os
behind_few k [] = omega arith
behind_few k (o ∷ os) = let e = after_few o.result k in let r = behind_few (number_after o.result k) os in omega (arith, e, r)

abbrev AreShort : List DialectBlock → Type 0
AreShort cs = (j : ℕ) (c : DialectBlock) → slice_get cs j ≡ Some c → (length c.args < 2 ^ 30) × (length c.ops < 2 ^ 30)

past_few : (k : ℕ) (cs : List DialectBlock) → AreShort cs → number_past k cs ≤ k + length cs * 2 ^ 31
past_few k [] h = omega arith
past_few k (c ∷ cs) h =
    let here = h 0 c refl in
    let args = here.0 in
    let ops = here.1 in
    let e = behind_few (k + length c.args) c.ops in
    let r = past_few (number_behind (k + length c.args) c.ops) cs (λ j d at. h (suc j) d at) in
    omega (arith, e, r, args, ops)

-- fewer than 2^30 blocks of fewer than 2^31 values
few_values : (order : List ℕ) (g : Func) → IsAccepted order g → number_past 0 g.blocks < 2 ^ 64
few_values order g h =
    let few = h.few in
    let r = past_few 0 g.blocks (λ j c at. ((h.blocks j c at).args, (h.blocks j c at).few)) in
    omega (arith, few, r)

-- ---- one function

unnamed : (ts : List TypeTree) → All (λ (n : List ℕ). n ≡ []) (map (λ (t : TypeTree). let none : List ℕ = [] in none) ts)
unnamed [] = All-nil (λ (n : List ℕ). n ≡ [])
unnamed (t ∷ ts) = All-cons (λ (n : List ℕ). n ≡ []) [] (map (λ (t : TypeTree). let none : List ℕ = [] in none) ts) refl (unnamed ts)

exported : (g : Func) (form : IsFormFunc g) (ruled : HasRules g) (n : Numbers) → IsTaken g n.order → IsAccepted n.order g → number_past 0 g.blocks < 2 ^ 64 → ExportedFunction g (function_made g n (entries g n))
exported g form ruled n taken h small = record {
  name = refl;
  type = refl;
  space = refl;
  shape = λ a b. shape a b g form ruled n taken.once h;
  sets = λ only a b. sets_first b g form n taken h only;
  params = unnamed _;
  names = made_named g form n (entries g n);
  order = n.order;
  is_order = taken.is;
  taken = record { uses = λ j k c o at at'. ((h.blocks j c at).ops k o at').uses; targets = λ j c at. (h.edges j c at).targets; equal = λ j c at. (h.edges j c at).equal };
  phis = made_phis g form n taken.once h;
  arguments = λ a b. made_arguments b g form n taken.once;
  locals = distinct_locals g n (entries g n) (let few = h.few in omega (arith, few)) (omega (arith, small));
  few = made_few g n form taken.once h;
  form = λ targets. made_form g form ruled n taken.once h targets small;
  held = made_held g n form ruled;
}

-- ---- all functions, when their module stands

stands : (g : Func) (f : Function) → IsMadeOf g f → ExportedFunction g f
stands g f h = subst (ExportedFunction g) (sym h.is) (exported g h.form h.ruled h.numbers h.taken h.accepted (few_values h.numbers.order g h.accepted))

pub all_stand : (gs : List Func) (fs : List Function) → Matched IsMadeOf gs fs → Matched ExportedFunction gs fs
all_stand [] [] h = tt
all_stand [] (f ∷ fs) h = absurd h
all_stand (g ∷ gs) [] h = absurd h
all_stand (g ∷ gs) (f ∷ fs) h = (stands g f h.0, all_stand gs fs h.1)
