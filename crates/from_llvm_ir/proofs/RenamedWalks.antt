-- A function and a module with their structs under other names have the walks, the uses and the names that they had.
use Rattle.std.proofs.Common.{ℕ, zero, suc, ◌≡◌, ◌⊎◌, inl, inr, refl, sym, ap, subst, ◌∙◌, Bool, true, false, cond, nat_eq, is_some, List, [], ◌∷◌, ◌++◌, Option, Some, None, map, length, slice_get, Contains}
use Rattle.std.specs.List.{find, flat_map, position_or_len}
use Rattle.std.specs.Option.{option_map, option_map_or}
use Rattle.std.specs.Str.{bytes_eq}
use Rattle.std.proofs.lemmas.List.{length-map, map-append}
use Rattle.std.proofs.lemmas.List.Folds.{flat_map-map}
use Rattle.std.proofs.lemmas.Option.{same_Some, slice_get-map}
use mathlib.Core.List.{map-map}
use mathlib.Core.Path.{fun_ext}
use Rattle.llvm_core.specs.Data as L
use Rattle.llvm_core.specs.Data.{Placed, placed_in, phi_entries, targets}
use Rattle.llvm_core.specs.Form.{is_phi, operands_of, targets_of}
use Rattle.llvm_core.specs.declared.code.LLVMValue.{LLVMValue}
use Rattle.dialect_types.specs.Legalised.{Named}
use Rattle.meaning.specs.Renamed.{renamed_operand, renamed_phi_entry, renamed_instruction, renamed_placed, renamed_block, renamed_function, renamed_module}
use Rattle.meaning.specs.Code.{IsDistinctNames}
use Rattle.block_order.specs.Graph.{Reaches, EachWalkPasses, SomeWalkMisses}
use Rattle.block_order.proofs.ListLemmas.{contains_at, found_at}
use Rattle.from_llvm_ir.specs.declared.matching.FunctionBlocks.{FunctionBlocks}
use Rattle.from_llvm_ir.specs.Imported.{BeginsWith, FirstUses, name_in}
use Rattle.from_llvm_ir.specs.Match.{match_of, place_in}
use Rattle.from_llvm_ir.specs.Refusals.{IsRefusedUse, HasUndefinedUse}
use Rattle.from_llvm_ir.specs.Walks.{Definition, Use, IsOperandAt, IsTakenFor, IsAhead, IsUndefined, Missed, Unreached, Late, HasDominatedUses, HasValidUses, place_of_block, graph_of}

-- ---- lists of changed items

-- what stands in a list of changed items is changed from what stood there
mapped : {X Y : Type 0} (h : X → Y) (xs : List X) (i : ℕ) (y : Y) → slice_get (map h xs) i ≡ Some y → (x : X) × (slice_get xs i ≡ Some x) × (h x ≡ y)
mapped h [] i y at = cc
mapped h (x ∷ xs) zero y at = (x, refl, same_Some (h x) y at)
mapped h (x ∷ xs) (suc i) y at = mapped h xs i y at

-- and what stood there stands there changed
at_mapped : {X Y : Type 0} (h : X → Y) (xs : List X) (i : ℕ) (x : X) → slice_get xs i ≡ Some x → slice_get (map h xs) i ≡ Some (h x)
at_mapped h xs i x at = slice_get-map h xs i ∙ ap (option_map h) at

contains_mapped : {X Y : Type 0} (h : X → Y) (xs : List X) (x : X) → Contains xs x → Contains (map h xs) (h x)
contains_mapped h xs x c = contains_at (map h xs) c.0 (h x) (at_mapped h xs c.0 x (found_at xs x c))

-- the first changed item that passes is changed from the first one that passes once changed
found_mapped : {X Y : Type 0} (h : X → Y) (test : Y → Bool) (xs : List X) → find test (map h xs) ≡ option_map h (find (λ (x : X). test (h x)) xs)
found_mapped h test [] = refl
found_mapped {X} {Y} h test (x ∷ xs) = by (test (h x)) (find test (map h xs)) (find (λ (y : X). test (h y)) xs) (found_mapped h test xs)
  where
    by : (t : Bool) (now : Option Y) (was : Option X) → now ≡ option_map h was → cond t (Some (h x)) now ≡ option_map h (cond t (Some x) was)
    by true now was same = refl
    by false now was same = same

read_mapped : {X Y Z : Type 0} (h : X → Y) (read : Y → Z) (x : Option X) (none : Z) → option_map_or read (option_map h x) none ≡ option_map_or (λ (y : X). read (h y)) x none
read_mapped h read None none = refl
read_mapped h read (Some x) none = refl

-- what is read of the first item that passes
read_found : {X Y Z : Type 0} (h : X → Y) (test : Y → Bool) (read : Y → Z) (xs : List X) (none : Z) → option_map_or read (find test (map h xs)) none ≡ option_map_or (λ (x : X). read (h x)) (find (λ (x : X). test (h x)) xs) none
read_found {X} {Y} h test read xs none = ap (λ (y : Option Y). option_map_or read y none) (found_mapped h test xs) ∙ read_mapped h read (find (λ (x : X). test (h x)) xs) none

module _ (to : List ℕ → List ℕ) where
  -- ---- instructions

  -- an instruction leads to the same blocks
  pub renamed_targets : (i : L.Instruction) → targets (renamed_instruction to i) ≡ targets i
  renamed_targets (L.Phi entries) = refl
  renamed_targets (L.Applied r) = refl

  -- and is a phi if it was
  pub renamed_phi : (p : Placed) → is_phi (renamed_placed to p) ≡ is_phi p
  renamed_phi p = by p.instruction
    where
      by : (i : L.Instruction) → is_some (phi_entries (renamed_instruction to i)) ≡ is_some (phi_entries i)
      by (L.Phi entries) = refl
      by (L.Applied r) = refl

  -- an operand that names a result did so before
  result_back : (n : ℕ) (o : L.Operand) → renamed_operand to o ≡ L.Result n → o ≡ L.Result n
  result_back n (L.Constant c) is = cc
  result_back n (L.Parameter f i) is = cc
  result_back n (L.Result m) is = is

  result_in : (n : ℕ) (os : List L.Operand) → Contains (map (renamed_operand to) os) (L.Result n) → Contains os (L.Result n)
  result_in n os h =
      let o = mapped (renamed_operand to) os h.0 (L.Result n) (found_at (map (renamed_operand to) os) (L.Result n) h) in
      contains_at os h.0 (L.Result n) (o.1 ∙ ap Some (result_back n o.0 o.2))

  phi_operands : (entries : List (L.Operand × ℕ)) → map (λ (e : L.Operand × ℕ). e.0) (map (renamed_phi_entry to) entries) ≡ map (renamed_operand to) (map (λ (e : L.Operand × ℕ). e.0) entries)
  phi_operands entries = map-map (λ (e : L.Operand × ℕ). e.0) (renamed_phi_entry to) entries ∙ sym (map-map (renamed_operand to) (λ (e : L.Operand × ℕ). e.0) entries)

  operand_back : (n : ℕ) (i : L.Instruction) → Contains (operands_of (renamed_instruction to i)) (L.Result n) → Contains (operands_of i) (L.Result n)
  operand_back n (L.Phi entries) h = result_in n (map (λ (e : L.Operand × ℕ). e.0) entries) (subst (λ (os : List L.Operand). Contains os (L.Result n)) (phi_operands entries) h)
  operand_back n (L.Applied r) h = result_in n r.operands h

  operand_on : (n : ℕ) (i : L.Instruction) → Contains (operands_of i) (L.Result n) → Contains (operands_of (renamed_instruction to i)) (L.Result n)
  operand_on n (L.Phi entries) h = subst (λ (os : List L.Operand). Contains os (L.Result n)) (sym (phi_operands entries)) (contains_mapped (renamed_operand to) (map (λ (e : L.Operand × ℕ). e.0) entries) (L.Result n) h)
  operand_on n (L.Applied r) h = contains_mapped (renamed_operand to) r.operands (L.Result n) h

  -- the entries of a phi are changed from those that it had
  entries_back : (i : L.Instruction) (entries : List (L.Operand × ℕ)) → phi_entries (renamed_instruction to i) ≡ Some entries → (old : List (L.Operand × ℕ)) × (phi_entries i ≡ Some old) × (map (renamed_phi_entry to) old ≡ entries)
  entries_back (L.Phi old) entries are = (old, refl, same_Some (map (renamed_phi_entry to) old) entries are)
  entries_back (L.Applied r) entries are = cc

  entries_on : (i : L.Instruction) (entries : List (L.Operand × ℕ)) → phi_entries i ≡ Some entries → phi_entries (renamed_instruction to i) ≡ Some (map (renamed_phi_entry to) entries)
  entries_on (L.Phi old) entries are = ap (option_map (map (renamed_phi_entry to))) are
  entries_on (L.Applied r) entries are = cc

  entry_back : (n p : ℕ) (e : L.Operand × ℕ) → renamed_phi_entry to e ≡ (L.Result n, p) → e ≡ (L.Result n, p)
  entry_back n p (o, q) is = cc (result_back n o (ap (λ (x : L.Operand × ℕ). x.0) is), ap (λ (x : L.Operand × ℕ). x.1) is)

  entry_in : (n p : ℕ) (es : List (L.Operand × ℕ)) → Contains (map (renamed_phi_entry to) es) (L.Result n, p) → Contains es (L.Result n, p)
  entry_in n p es h =
      let e = mapped (renamed_phi_entry to) es h.0 (L.Result n, p) (found_at (map (renamed_phi_entry to) es) (L.Result n, p) h) in
      contains_at es h.0 (L.Result n, p) (e.1 ∙ ap Some (entry_back n p e.0 e.2))

  -- ---- blocks

  pub renamed_targets_of : (b : L.Block) → targets_of (renamed_block to b) ≡ targets_of b
  renamed_targets_of b =
      flat_map-map (λ (p : Placed). targets p.instruction) (renamed_placed to) b.instructions
      ∙ ap (λ (of : Placed → List ℕ). flat_map of b.instructions) (fun_ext (λ (p : Placed). renamed_targets p.instruction))

  pub renamed_count : (b : L.Block) → length (renamed_block to b).instructions ≡ length b.instructions
  renamed_count b = length-map b.instructions (renamed_placed to)

  -- instructions have the numbers and the names that they had
  pub renamed_numbers : (b : L.Block) → map (λ (p : Placed). p.number) (renamed_block to b).instructions ≡ map (λ (p : Placed). p.number) b.instructions
  renamed_numbers b = map-map (λ (p : Placed). p.number) (renamed_placed to) b.instructions

  pub renamed_result_names : (b : L.Block) → map (λ (p : Placed). p.name) (renamed_block to b).instructions ≡ map (λ (p : Placed). p.name) b.instructions
  renamed_result_names b = map-map (λ (p : Placed). p.name) (renamed_placed to) b.instructions

  -- ---- functions

  pub renamed_block_numbers : (f : L.Function) → map (λ (b : L.Block). b.number) (renamed_function to f).blocks ≡ map (λ (b : L.Block). b.number) f.blocks
  renamed_block_numbers f = map-map (λ (b : L.Block). b.number) (renamed_block to) f.blocks

  pub renamed_block_names : (f : L.Function) → map (λ (b : L.Block). b.name) (renamed_function to f).blocks ≡ map (λ (b : L.Block). b.name) f.blocks
  renamed_block_names f = map-map (λ (b : L.Block). b.name) (renamed_block to) f.blocks

  pub renamed_place : (f : L.Function) (n : ℕ) → place_of_block (renamed_function to f) n ≡ place_of_block f n
  renamed_place f n = ap (position_or_len (nat_eq n)) (renamed_block_numbers f)

  -- the instructions of a function, block after block
  pub renamed_placed_in : (f : L.Function) → placed_in (renamed_function to f) ≡ map (renamed_placed to) (placed_in f)
  renamed_placed_in f = joined f.blocks
    where
      joined : (bs : List L.Block) → flat_map (λ (b : L.Block). b.instructions) (map (renamed_block to) bs) ≡ map (renamed_placed to) (flat_map (λ (b : L.Block). b.instructions) bs)
      joined [] = refl
      joined (b ∷ bs) =
          ap (λ (ps : List Placed). map (renamed_placed to) b.instructions ++ ps) (joined bs)
          ∙ sym (map-append (renamed_placed to) b.instructions (flat_map (λ (b : L.Block). b.instructions) bs))

  -- the graph is the same
  pub renamed_graph : (f : L.Function) → graph_of (renamed_function to f) ≡ graph_of f
  renamed_graph f =
      map-map (λ (b : L.Block). map (place_of_block (renamed_function to f)) (targets_of b)) (renamed_block to) f.blocks
      ∙ ap (λ (row : L.Block → List ℕ). map row f.blocks) (fun_ext (λ (b : L.Block). ap (map (place_of_block (renamed_function to f))) (renamed_targets_of b) ∙ ap (λ (place : ℕ → ℕ). map place (targets_of b)) (fun_ext (renamed_place f))))

  -- results have the names that they had
  pub renamed_name_in : (f : L.Function) (n : ℕ) → name_in (renamed_function to f) n ≡ name_in f n
  renamed_name_in f n =
      ap (λ (ps : List Placed). option_map_or (λ (p : Placed). p.name) (find (λ (p : Placed). nat_eq p.number n) ps) []) (renamed_placed_in f)
      ∙ read_found (renamed_placed to) (λ (p : Placed). nat_eq p.number n) (λ (p : Placed). p.name) (placed_in f) []

  -- ---- definitions and uses

  module _ (f : L.Function) (n : ℕ) where
    operand_at : (b : L.Block) (place : ℕ) → IsOperandAt (renamed_block to b) place n → IsOperandAt b place n
    operand_at b place h =
        let p = mapped (renamed_placed to) b.instructions place h.user h.here in
        record {
          user = p.0;
          here = p.1;
          other = sym (renamed_phi p.0) ∙ ap is_phi p.2 ∙ h.other;
          operand = operand_back n p.0.instruction (subst (λ (q : Placed). Contains (operands_of q.instruction) (L.Result n)) (sym p.2) h.operand);
        }

    taken_for : (b : L.Block) → IsTakenFor (renamed_function to f) (renamed_block to b) n → IsTakenFor f b n
    taken_for b h =
        let p = mapped (renamed_placed to) (placed_in f) h.there.0 h.phi (ap (λ (ps : List Placed). slice_get ps h.there.0) (sym (renamed_placed_in f)) ∙ found_at (placed_in (renamed_function to f)) h.phi h.there) in
        let es = entries_back p.0.instruction h.entries (ap (λ (q : Placed). phi_entries q.instruction) p.2 ∙ h.are) in
        record {
          phi = p.0;
          there = contains_at (placed_in f) h.there.0 p.0 p.1;
          entries = es.0;
          are = es.1;
          entry = entry_in n b.number es.0 (subst (λ (xs : List (L.Operand × ℕ)). Contains xs (L.Result n, b.number)) (sym es.2) h.entry);
        }

    -- a definition stands where it stood
    abbrev definition_back : Definition (renamed_function to f) n → Definition f n
    definition_back d =
        let b = mapped (renamed_block to) f.blocks d.block d.b d.at in
        let p = mapped (renamed_placed to) b.0.instructions d.place d.inst (ap (λ (c : L.Block). slice_get c.instructions d.place) b.2 ∙ d.here) in
        record { block = d.block; b = b.0; at = b.1; place = d.place; inst = p.0; here = p.1; number = ap (λ (q : Placed). q.number) p.2 ∙ d.number }

    phi_back : (d : Definition (renamed_function to f) n) → is_phi (definition_back d).inst ≡ is_phi d.inst
    phi_back d =
        let b = mapped (renamed_block to) f.blocks d.block d.b d.at in
        let p = mapped (renamed_placed to) b.0.instructions d.place d.inst (ap (λ (c : L.Block). slice_get c.instructions d.place) b.2 ∙ d.here) in
        sym (renamed_phi p.0) ∙ ap is_phi p.2

    how_back : (b c : L.Block) (place : ℕ) → renamed_block to c ≡ b → IsOperandAt b place n ⊎ (IsTakenFor (renamed_function to f) b n × (suc place ≡ length b.instructions)) → IsOperandAt c place n ⊎ (IsTakenFor f c n × (suc place ≡ length c.instructions))
    how_back b c place same (inl h) = inl (operand_at c place (subst (λ (x : L.Block). IsOperandAt x place n) (sym same) h))
    how_back b c place same (inr h) =
        inr (taken_for c (subst (λ (x : L.Block). IsTakenFor (renamed_function to f) x n) (sym same) h.0), h.1 ∙ sym (ap (λ (x : L.Block). length x.instructions) same) ∙ renamed_count c)

    -- and so does a use
    abbrev use_back : Use (renamed_function to f) n → Use f n
    use_back u =
        let b = mapped (renamed_block to) f.blocks u.block u.b u.at in
        record { block = u.block; b = b.0; at = b.1; place = u.place; how = how_back u.b b.0 u.place b.2 u.how }

    ahead_back : (d : Definition (renamed_function to f) n) (u : Use (renamed_function to f) n) → IsAhead f n (definition_back d) (use_back u) → IsAhead (renamed_function to f) n d u
    ahead_back d u (inl lt) = inl lt
    ahead_back d u (inr phi) = inr (sym (phi_back d) ∙ phi)

    -- the other way round
    operand_there : (b : L.Block) (place : ℕ) → IsOperandAt b place n → IsOperandAt (renamed_block to b) place n
    operand_there b place h = record {
      user = renamed_placed to h.user;
      here = at_mapped (renamed_placed to) b.instructions place h.user h.here;
      other = renamed_phi h.user ∙ h.other;
      operand = operand_on n h.user.instruction h.operand;
    }

    taken_there : (b : L.Block) → IsTakenFor f b n → IsTakenFor (renamed_function to f) (renamed_block to b) n
    taken_there b h = record {
      phi = renamed_placed to h.phi;
      there = subst (λ (ps : List Placed). Contains ps (renamed_placed to h.phi)) (sym (renamed_placed_in f)) (contains_mapped (renamed_placed to) (placed_in f) h.phi h.there);
      entries = map (renamed_phi_entry to) h.entries;
      are = entries_on h.phi.instruction h.entries h.are;
      entry = contains_mapped (renamed_phi_entry to) h.entries (L.Result n, b.number) h.entry;
    }

    abbrev definition_on : Definition f n → Definition (renamed_function to f) n
    definition_on d = record {
      block = d.block;
      b = renamed_block to d.b;
      at = at_mapped (renamed_block to) f.blocks d.block d.b d.at;
      place = d.place;
      inst = renamed_placed to d.inst;
      here = at_mapped (renamed_placed to) d.b.instructions d.place d.inst d.here;
      number = d.number;
    }

    how_on : (b : L.Block) (place : ℕ) → IsOperandAt b place n ⊎ (IsTakenFor f b n × (suc place ≡ length b.instructions)) → IsOperandAt (renamed_block to b) place n ⊎ (IsTakenFor (renamed_function to f) (renamed_block to b) n × (suc place ≡ length (renamed_block to b).instructions))
    how_on b place (inl h) = inl (operand_there b place h)
    how_on b place (inr h) = inr (taken_there b h.0, h.1 ∙ sym (renamed_count b))

    abbrev use_on : Use f n → Use (renamed_function to f) n
    use_on u = record { block = u.block; b = renamed_block to u.b; at = at_mapped (renamed_block to) f.blocks u.block u.b u.at; place = u.place; how = how_on u.b u.place u.how }

    ahead_on : (d : Definition f n) (u : Use f n) → IsAhead (renamed_function to f) n (definition_on d) (use_on u) → IsAhead f n d u
    ahead_on d u (inl lt) = inl lt
    ahead_on d u (inr phi) = inr (sym (renamed_phi d.inst) ∙ phi)

    -- what is used where it is not defined was so
    pub renamed_undefined : IsUndefined (renamed_function to f) n → IsUndefined f n
    renamed_undefined (Missed d u apart misses) =
        Missed (definition_back d) (use_back u) apart (subst (λ (g : List (List ℕ)). SomeWalkMisses g 0 u.block d.block) (renamed_graph f) misses)
    renamed_undefined (Unreached d u apart user defined) =
        Unreached (definition_back d) (use_back u) apart
        (λ h. user (subst (λ (g : List (List ℕ)). Reaches g 0 u.block) (sym (renamed_graph f)) h))
        (λ h. defined (subst (λ (g : List (List ℕ)). Reaches g 0 d.block) (sym (renamed_graph f)) h))
    renamed_undefined (Late d u same late) = Late (definition_back d) (use_back u) same (λ h. late (ahead_back d u h))

  -- a definition dominates a use where it did, and the other way round
  pub renamed_dominated : (f : L.Function) → HasDominatedUses f → HasDominatedUses (renamed_function to f)
  renamed_dominated f h n d u =
      let old = h n (definition_back f n d) (use_back f n u) in
      record {
        inside = λ same. ahead_back f n d u (old.inside same);
        across = λ apart. subst (λ (g : List (List ℕ)). EachWalkPasses g 0 u.block d.block) (sym (renamed_graph f)) (old.across apart);
      }

  pub dominated_renamed : (f : L.Function) → HasDominatedUses (renamed_function to f) → HasDominatedUses f
  dominated_renamed f h n d u =
      let new = h n (definition_on f n d) (use_on f n u) in
      record {
        inside = λ same. ahead_on f n d u (new.inside same);
        across = λ apart. subst (λ (g : List (List ℕ)). EachWalkPasses g 0 u.block d.block) (renamed_graph f) (new.across apart);
      }

  -- uses are valid if they were
  pub renamed_valid : (f : L.Function) → HasValidUses f → HasValidUses (renamed_function to f)
  renamed_valid f h = record {
    dominated = renamed_dominated f h.dominated;
    reached = λ n d u apart none.
        subst (λ (g : List (List ℕ)). Reaches g 0 d.block) (sym (renamed_graph f))
        (h.reached n (definition_back f n d) (use_back f n u) apart (λ some. none (subst (λ (g : List (List ℕ)). Reaches g 0 u.block) (sym (renamed_graph f)) some)));
  }

  -- ---- modules

  module _ (d : L.ModuleData) where
    -- functions have the names that they had
    pub renamed_names : map (λ (g : L.Function). g.name) (renamed_module to d).functions ≡ map (λ (g : L.Function). g.name) d.functions
    renamed_names = map-map (λ (g : L.Function). g.name) (renamed_function to) d.functions

    pub renamed_distinct : IsDistinctNames (map (λ (g : L.Function). g.name) d.functions) → IsDistinctNames (map (λ (g : L.Function). g.name) (renamed_module to d).functions)
    renamed_distinct h = subst IsDistinctNames (sym renamed_names) h

    pub distinct_renamed : IsDistinctNames (map (λ (g : L.Function). g.name) (renamed_module to d).functions) → IsDistinctNames (map (λ (g : L.Function). g.name) d.functions)
    distinct_renamed h = subst IsDistinctNames renamed_names h

    -- a use that has its module refused is one of the module under its own names
    pub renamed_use : (name : List ℕ) (v : LLVMValue) → HasUndefinedUse (renamed_module to d) name v → HasUndefinedUse d name v
    renamed_use name v h =
        let f = mapped (renamed_function to) d.functions h.place h.f h.at in
        let r = subst (λ (g : L.Function). IsRefusedUse g name v) (sym f.2) h.refused in
        record {
          place = h.place;
          f = f.0;
          at = f.1;
          refused = record { inst = r.inst; value = r.value; undefined = renamed_undefined f.0 r.inst.0 r.undefined; named = r.named ∙ renamed_name_in f.0 r.inst.0 };
        }

    -- the names that are met begin with those of the module, whichever structs it names
    pub renamed_begins : (given : List Named) → BeginsWith (renamed_module to d) given → BeginsWith d given
    renamed_begins given h = record { firsts = h.firsts; first_uses = subst (λ (ns : List (List ℕ)). FirstUses (d.name ∷ ns) h.firsts) renamed_names h.first_uses; others = h.others; are = h.are }

    pub begins_renamed : (given : List Named) → BeginsWith d given → BeginsWith (renamed_module to d) given
    begins_renamed given h = record { firsts = h.firsts; first_uses = subst (λ (ns : List (List ℕ)). FirstUses (d.name ∷ ns) h.firsts) (sym renamed_names) h.first_uses; others = h.others; are = h.are }

    -- the match says the same of blocks
    pub renamed_match : (xs : List FunctionBlocks) (ss : List (List ℕ × List ℕ)) → (match_of (renamed_module to d) xs ss).block ≡ (match_of d xs ss).block
    renamed_match xs ss = fun_ext (λ (n : List ℕ). fun_ext (λ (b : ℕ). read_found (renamed_function to) (λ (f : L.Function). bytes_eq f.name n) (λ (f : L.Function). place_in xs f.number b) d.functions b))
