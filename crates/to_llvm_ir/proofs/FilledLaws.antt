-- The blocks of a function by the instructions of each.
use Rattle.std.proofs.Common.{◌≡◌, ◌+◌, ℕ, suc, Bool, true, false, nat_eq, if◌then◌else◌, List, [], ◌∷◌, ◌++◌, Some, length, take, map, slice_get, refl, sym, ap, ◌∙◌, arith, eq-eqb, ne_eqb, ⊎_elim}
use Rattle.std.proofs.lemmas.Bool.{cond-true, cond-false, cases_eq}
use Rattle.llvm_core.specs.Data.{Operand, Placed, Block, with_instruction_in}
use Rattle.dialect_core.specs.declared.ops.Value.{Value}
use Rattle.dialect_core.specs.Data.{DialectBlock, Func}
use Rattle.to_llvm_ir.specs.Exported.{block_name}
use Rattle.to_llvm_ir.specs.Made.{Numbers, block_made, blocks_made, blocks_with, empty_block, empty_blocks, number_past, number_behind}

-- the instructions of the block at a place
abbrev pub Contents : Type 0
Contents = ℕ → DialectBlock → List Placed

module _ (g : Func) (n : Numbers) where
  abbrev block_with : ℕ → DialectBlock → List Placed → Block
  block_with p c ps = record { number = n.block + p; name = block_name c.label p; instructions = ps }

  pub with_same : (f h : Contents) (p : ℕ) (cs : List DialectBlock) → ((j : ℕ) (c : DialectBlock) → slice_get cs j ≡ Some c → f (p + j) c ≡ h (p + j) c) → blocks_with g n f p cs ≡ blocks_with g n h p cs
  with_same f h p [] same = refl
  with_same f h p (c ∷ cs) same =
      let z : p + 0 ≡ p = omega arith in
      let one : f p c ≡ h p c = ap (λ (q : ℕ). f q c) (sym z) ∙ same 0 c refl ∙ ap (λ (q : ℕ). h q c) z in
      ap (λ (ps : List Placed). block_with p c ps ∷ blocks_with g n f (suc p) cs) one
      ∙ ap (λ (bs : List Block). block_with p c (h p c) ∷ bs) (with_same f h (suc p) cs (λ j d at. let e : p + suc j ≡ suc p + j = omega arith in ap (λ (q : ℕ). f q d) (sym e) ∙ same (suc j) d at ∙ ap (λ (q : ℕ). h q d) e))

  pub with_none : (p : ℕ) (cs : List DialectBlock) → empty_blocks g n p cs ≡ blocks_with g n (λ q c. []) p cs
  with_none p [] = refl
  with_none p (c ∷ cs) = ap (λ (bs : List Block). empty_block g n p c ∷ bs) (with_none (suc p) cs)

  -- the blocks that are made
  pub with_made : (given : Value → List (Operand × ℕ)) (f : Contents) (p k : ℕ) (cs : List DialectBlock) → ((j : ℕ) (c : DialectBlock) → slice_get cs j ≡ Some c → f (p + j) c ≡ (block_made g n given (p + j) (number_past k (take j cs)) c).instructions)
      → blocks_with g n f p cs ≡ blocks_made g n given p k cs
  with_made given f p k [] h = refl
  with_made given f p k (c ∷ cs) h =
      let next = number_behind (k + length c.args) c.ops in
      let z : p + 0 ≡ p = omega arith in
      let one : f p c ≡ (block_made g n given p k c).instructions = ap (λ (q : ℕ). f q c) (sym z) ∙ h 0 c refl ∙ ap (λ (q : ℕ). (block_made g n given q k c).instructions) z in
      ap (λ (ps : List Placed). block_with p c ps ∷ blocks_with g n f (suc p) cs) one
      ∙ ap (λ (bs : List Block). block_made g n given p k c ∷ bs) (with_made given f (suc p) next cs (λ j d at.
      let e : p + suc j ≡ suc p + j = omega arith in
      ap (λ (q : ℕ). f q d) (sym e) ∙ h (suc j) d at ∙ ap (λ (q : ℕ). (block_made g n given q (number_past next (take j cs)) d).instructions) e))

  -- an instruction more
  pub with_more : (f h : Contents) (m : ℕ) (x : Placed) (p : ℕ) (cs : List DialectBlock) → ((q : ℕ) (c : DialectBlock) → h q c ≡ (if nat_eq (n.block + q) m then f q c ++ x ∷ [] else f q c))
      → map (with_instruction_in m x) (blocks_with g n f p cs) ≡ blocks_with g n h p cs
  with_more f h m x p [] more = refl
  with_more f h m x p (c ∷ cs) more =
      ap (λ (b : Block). b ∷ map (with_instruction_in m x) (blocks_with g n f (suc p) cs)) (by (nat_eq (n.block + p) m) ∙ ap (block_with p c) (sym (more p c)))
      ∙ ap (λ (bs : List Block). block_with p c (h p c) ∷ bs) (with_more f h m x (suc p) cs more)
    where
      by : (t : Bool) → (if t then block_with p c (f p c ++ x ∷ []) else block_with p c (f p c)) ≡ block_with p c (if t then f p c ++ x ∷ [] else f p c)
      by true = refl
      by false = refl

  -- in the block at a place
  pub place_more : (f : Contents) (j m : ℕ) (ps : List Placed) (x : Placed) → m ≡ n.block + j → (q : ℕ) (c : DialectBlock)
      → (if nat_eq q j then ps ++ x ∷ [] else f q c) ≡ (if nat_eq (n.block + q) m then (if nat_eq q j then ps else f q c) ++ x ∷ [] else (if nat_eq q j then ps else f q c))
  place_more f j m ps x is q c = ⊎_elim
      (λ same.
      let here = eq-eqb q j same in
      cond-true (nat_eq q j) (ps ++ x ∷ []) (f q c) here
      ∙ sym (cond-true (nat_eq (n.block + q) m) ((if nat_eq q j then ps else f q c) ++ x ∷ []) (if nat_eq q j then ps else f q c) (eq-eqb (n.block + q) m (omega (arith, same, is)))
      ∙ ap (λ (ys : List Placed). ys ++ x ∷ []) (cond-true (nat_eq q j) ps (f q c) here)))
      (λ differs.
      let there = ne_eqb q j differs in
      cond-false (nat_eq q j) (ps ++ x ∷ []) (f q c) there
      ∙ sym (cond-false (nat_eq (n.block + q) m) ((if nat_eq q j then ps else f q c) ++ x ∷ []) (if nat_eq q j then ps else f q c) (ne_eqb (n.block + q) m (λ e. differs (omega (arith, e, is))))
      ∙ cond-false (nat_eq q j) ps (f q c) there))
      (cases_eq q j)
