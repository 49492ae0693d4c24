-- Constants that are hoisted, one by one.
use Rattle.std.proofs.Common.{ℕ, ◌≡◌, ◌<◌, ◌+◌, inl, inr, refl, sym, ap, subst, ◌∙◌, Bool, true, false, cond, not, List, [], ◌∷◌, ◌++◌, Option, Some, None, filter, length, take, slice_get, arith}
use Rattle.std.specs.Prelude.{IsSome}
use Rattle.std.specs.List.{filter_map, flat_map}
use Rattle.std.proofs.lemmas.List.Concat.{flat_map-append}
use Rattle.std.proofs.lemmas.List.{append-nil, append_assoc}
use Rattle.std.proofs.lemmas.List.Elements.{filter-append, filter_map-append}
use Rattle.std.proofs.lemmas.Option.{none-some}
use Rattle.dialect_types.specs.Trees.{structs_of}
use Rattle.dialect_types.proofs.TreeLemmas.{push_cases}
use Rattle.meaning.proofs.MatchedLaws.{matched_length, matched_push}
use Rattle.support.proofs.ListLaws.{all_from, slice_get-kept, take_next}
use Rattle.llvm_core.specs.declared.numbers.LLVMConst.{LLVMConst}
use Rattle.llvm_core.specs.declared.code.LLVMValue.TheVariants as K
use Rattle.llvm_core.specs.Module.{Module}
use Rattle.llvm_core.specs.Form.{is_phi}
use Rattle.llvm_core.specs.Data as L
use Rattle.llvm_core.specs.Data.{ConstTree, trees_of, const_at, AreApart}
use Rattle.dialect_core.specs.declared.numbers.BlockRef.{BlockRef}
use Rattle.dialect_core.specs.declared.ops.Value.{Value}
use Rattle.dialect_core.specs.ContextData.{ContextData}
use Rattle.dialect_core.specs.Data.{DialectOp}
use Rattle.from_llvm_ir.specs.declared.values.Values.{Values}
use Rattle.from_llvm_ir.specs.Values.{value_at, IsNoted}
use Rattle.from_llvm_ir.specs.Imported.{IsIn, UsedAgain, UsedFirst, constant_in, constants_in}
use Rattle.from_llvm_ir.specs.Building.{IsOpen, with_ops, ops_of}
use Rattle.from_llvm_ir.specs.Source.{used_by}
use Rattle.from_llvm_ir.specs.Known.{Frame, IsConstantOp, IsHeldConst, StandsAt, value_of}
use Rattle.from_llvm_ir.specs.Body.{IsHoisting, uses_of_inst}
use Rattle.from_llvm_ir.specs.Types.{IsReadyFor}
use Rattle.from_llvm_ir.proofs.ListLaws.{other_there}
use Rattle.from_llvm_ir.proofs.UnderLaws.{below_at}
use Rattle.from_llvm_ir.proofs.ValueLaws.{constant_noted}

module _ (fr : Frame) (m : Module) where
  -- the first block is open
  pub hoisting_open : (c : ContextData) (values : Values) (uses : List ConstTree) (block : BlockRef) (h : IsHoisting fr m c values uses) → block.0 ≡ fr.base → IsOpen fr.home fr.base c block [] (with_ops h.entry h.hoisted) h.more
  hoisting_open c values uses block h number = record {
    under = h.under;
    number = (let e = h.under.numbered 0 (with_ops h.entry h.hoisted) refl in omega (arith, e, number));
    bare = h.bare;
  }

  -- no struct comes meanwhile
  pub hoisting_ready : (g : L.Function) (c c' : ContextData) (old new : Values) (uses more : List ConstTree) → IsHoisting fr m c old uses → IsHoisting fr m c' new more → IsReadyFor g (structs_of c.types) → IsReadyFor g (structs_of c'.types)
  hoisting_ready g c c' old new uses more h h' ready = subst (IsReadyFor g) (h.under.structs ∙ sym h'.under.structs) ready

  -- a constant that was noted was used before
  pub used_again : (c : ContextData) (values : Values) (uses : List ConstTree) (k : LLVMConst) → IsHoisting fr m c values uses → IsSome (value_at values (K.Const k)) → IsHoisting fr m c values (uses ++ const_at (trees_of m).consts k ∷ [])
  used_again c values uses k h some = record {
    constants = h.constants;
    hoisted = h.hoisted;
    entry = h.entry;
    more = h.more;
    under = h.under;
    heads = h.heads;
    bare = h.bare;
    count = h.count;
    known = record {
      made = h.known.made;
      consts = h.known.consts;
      first_uses = UsedAgain uses h.constants (const_at (trees_of m).consts k) h.known.first_uses (there (value_at values (K.Const k)) refl some);
      long = h.known.long;
      notes = h.known.notes;
      split = h.known.split;
      hoisted = h.known.hoisted;
      older = h.known.older;
      apart = h.known.apart;
    };
  }
    where
      there : (v : Option Value) → value_at values (K.Const k) ≡ v → IsSome v → IsIn h.constants (const_at (trees_of m).consts k)
      there None e s = cc
      there (Some w) e s = let st = h.known.notes.sound (K.Const k) w e in (st.place, st.here)

  -- and one that was not was not
  fresh : (c : ContextData) (values : Values) (uses : List ConstTree) (k : LLVMConst) (h : IsHoisting fr m c values uses) → k.0 < length m.consts → value_at values (K.Const k) ≡ None → ¬ IsIn h.constants (const_at (trees_of m).consts k)
  fresh c values uses k h within none is_in =
      let op = other_there h.constants h.hoisted is_in.0 (const_at (trees_of m).consts k) (matched_length IsConstantOp h.constants h.hoisted h.known.made) is_in.1 in
      let st : StandsAt h.constants h.hoisted (const_at (trees_of m).consts k) (value_of op.0) = record { place = is_in.0; op = op.0; here = is_in.1; there = op.1; is = refl } in
      let some = h.known.notes.complete (K.Const k) (value_of op.0) within st in
      let no : ⊥ = cc (some, none) in no

  -- so it goes last
  pub hoisted_more : (c c' : ContextData) (old new : Values) (uses : List ConstTree) (k : LLVMConst) (o : DialectOp) (to : Value) (block : BlockRef) (h : IsHoisting fr m c old uses) → AreApart m → k.0 < length m.consts → IsHeldConst (const_at (trees_of m).consts k)
      → value_at old (K.Const k) ≡ None → IsConstantOp (const_at (trees_of m).consts k) o → to ≡ value_of o → IsOpen fr.home fr.base c' block [] (with_ops h.entry (h.hoisted ++ o ∷ [])) h.more → length c'.ops ≡ length c.ops + 1 → o.number ≡ length c.ops → IsNoted old new (K.Const k) to
      → IsHoisting fr m c' new (uses ++ const_at (trees_of m).consts k ∷ [])
  hoisted_more c c' old new uses k o to block h apart within held none makes is u longer number noted =
      let tree = const_at (trees_of m).consts k in
      record {
        constants = h.constants ++ tree ∷ [];
        hoisted = h.hoisted ++ o ∷ [];
        entry = h.entry;
        more = h.more;
        under = u.under;
        heads = h.heads;
        bare = h.bare;
        count = h.count;
        known = record {
          made = matched_push IsConstantOp h.constants h.hoisted tree o h.known.made makes;
          consts = λ i d at. elim (push_cases h.constants tree d i at) [ inl was ↦ h.known.consts i d was | inr new ↦ subst IsHeldConst (sym new.0) held ];
          first_uses = UsedFirst uses h.constants tree h.known.first_uses (fresh c old uses k h within none);
          long = refl;
          notes = constant_noted m fr old new h.constants h.hoisted [] [] k o to apart within (matched_length IsConstantOp h.constants h.hoisted h.known.made) is h.known.notes noted;
          split = length c'.ops;
          hoisted = all_from (λ (x : DialectOp). x.number < length c'.ops) (h.hoisted ++ o ∷ []) below;
          older = λ i w at. absurd (none-some w at);
          apart = λ i j w at_i at_j. absurd (none-some w at_i);
        };
      }
    where
      below : (i : ℕ) (x : DialectOp) → slice_get (h.hoisted ++ o ∷ []) i ≡ Some x → x.number < length c'.ops
      below i x at = below_at (length c'.ops) (ops_of (with_ops h.entry (h.hoisted ++ o ∷ []) ∷ h.more)) u.under.fresh.below i x (slice_get-kept (h.hoisted ++ o ∷ []) (ops_of h.more) i x at)

-- ---- operand by operand

pub no_constant : (fr : Frame) (m : Module) (c : ContextData) (values : Values) (uses : List ConstTree) → IsHoisting fr m c values uses → IsHoisting fr m c values (uses ++ [])
no_constant fr m c values uses h = subst (IsHoisting fr m c values) (sym (append-nil uses)) h

pub uses_more : (fr : Frame) (m : Module) (c : ContextData) (values : Values) (uses : List ConstTree) (os : List L.Operand) (us : List L.Operand) (o : L.Operand) → us ≡ os ++ o ∷ [] → IsHoisting fr m c values ((uses ++ filter_map constant_in os) ++ filter_map constant_in (o ∷ [])) → IsHoisting fr m c values (uses ++ filter_map constant_in us)
uses_more fr m c values uses os us o is h =
    subst (IsHoisting fr m c values) (append_assoc uses (filter_map constant_in os) (filter_map constant_in (o ∷ [])) ∙ ap (λ (cs : List ConstTree). uses ++ cs) (sym (ap (filter_map constant_in) is ∙ filter_map-append constant_in os (o ∷ [])))) h

-- ---- instruction by instruction

pub uses_then : (fr : Frame) (m : Module) (c : ContextData) (values : Values) (uses us vs ws : List ConstTree) → ws ≡ us ++ vs → IsHoisting fr m c values ((uses ++ us) ++ vs) → IsHoisting fr m c values (uses ++ ws)
uses_then fr m c values uses us vs ws is h = subst (IsHoisting fr m c values) (append_assoc uses us vs ∙ ap (λ (cs : List ConstTree). uses ++ cs) (sym is)) h

-- the constants of what is no phi
pub inst_uses : (d : L.ModuleData) (g : L.Function) (b : L.Block) (p : L.Placed) → is_phi p ≡ false → filter_map constant_in (used_by g b p) ≡ uses_of_inst d g b p
inst_uses d g b p other =
    sym (append-nil (constants_in d g b p))
    ∙ sym (ap (λ (t : Bool). flat_map (constants_in d g b) (cond (not t) (p ∷ []) [])) other)

-- and a phi uses none
pub phi_uses : (d : L.ModuleData) (g : L.Function) (b : L.Block) (p : L.Placed) → is_phi p ≡ true → [] ≡ uses_of_inst d g b p
phi_uses d g b p phi = sym (ap (λ (t : Bool). flat_map (constants_in d g b) (cond (not t) (p ∷ []) [])) phi)

-- one instruction more
pub block_uses : (d : L.ModuleData) (g : L.Function) (b : L.Block) (i : ℕ) (p : L.Placed) → slice_get b.instructions i ≡ Some p
    → flat_map (constants_in d g b) (filter (λ (q : L.Placed). not (is_phi q)) (take (i + 1) b.instructions)) ≡ flat_map (constants_in d g b) (filter (λ (q : L.Placed). not (is_phi q)) (take i b.instructions)) ++ uses_of_inst d g b p
block_uses d g b i p at =
    ap (λ (ps : List L.Placed). flat_map (constants_in d g b) (filter (λ (q : L.Placed). not (is_phi q)) ps)) (take_next b.instructions i p at)
    ∙ ap (flat_map (constants_in d g b)) (filter-append (λ (q : L.Placed). not (is_phi q)) (take i b.instructions) (p ∷ []))
    ∙ flat_map-append (constants_in d g b) (filter (λ (q : L.Placed). not (is_phi q)) (take i b.instructions)) (filter (λ (q : L.Placed). not (is_phi q)) (p ∷ []))
