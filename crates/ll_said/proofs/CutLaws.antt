-- The parts of a body are cut into its blocks again.
use Rattle.std.proofs.Common.{◌≡◌, suc, ◌-◌, Bool, true, false, not, ◌||◌, List, [], ◌∷◌, ◌++◌, length, map, take, slice_get, Option, Some, None, refl, ap, ◌∙◌, arith}
use Rattle.std.specs.List.{flat_map, list_any, AllByRecursion}
use Rattle.std.specs.Option.{option_map_or}
use Rattle.std.proofs.lemmas.Bool.{and_parts}
use Rattle.kinds.specs.Structs.{Struct}
use Rattle.llvm_core.specs.Data.{TypeTree, Instruction, Phi, Applied, Placed, Block, Function}
use Rattle.llvm_core.specs.Checked.{ends_in_only}
use Rattle.llvm_core.specs.Form.{is_terminator, is_last}
use Rattle.ll_lines.specs.Lines.{Text, Line, Part, Does}
use Rattle.ll_bodies.specs.Meaning.{SaidBlock, ends_inst, ends_block, unlabelled, put_line, put_label, cut, blocks_of}
use Rattle.ll_literals.specs.Chain.{◌>>=◌}
use Rattle.ll_said.specs.Said.{inst_of, line_of, lines_of, label_of, entry_label, block_parts, parts_of}

-- ---- blocks that end in a terminator

-- the last instruction is a terminator, and no earlier one
abbrev pub EndsIn : List Placed → Type 0
EndsIn [] = ⊥
EndsIn (p ∷ []) = is_last p ≡ true
EndsIn (p ∷ q ∷ ps) = (is_last p ≡ false) × EndsIn (q ∷ ps)

not_either : (a b : Bool) → not (a || b) ≡ true → (a ≡ false) × (not b ≡ true)
not_either true b h = absurd cc
not_either false b h = (refl, h)

ends_rest : (p q : Placed) (ps : List Placed) → ends_in_only is_last (p ∷ q ∷ ps) ≡ true → (is_last p ≡ false) × (ends_in_only is_last (q ∷ ps) ≡ true)
ends_rest p q ps h =
    let e : length (p ∷ q ∷ ps) - 1 ≡ suc (length ps) = omega arith in
    let d : length (q ∷ ps) - 1 ≡ length ps = omega arith in
    let k = rw e at h in
    let parts = and_parts (option_map_or is_last (slice_get (q ∷ ps) (length ps)) false) (not (is_last p || list_any is_last (take (length ps) (q ∷ ps)))) k in
    let none = not_either (is_last p) (list_any is_last (take (length ps) (q ∷ ps))) parts.1 in
    (none.0, rw (d, parts.0, none.1) refl)

ends_here : (p : Placed) → ends_in_only is_last (p ∷ []) ≡ true → is_last p ≡ true
ends_here p h = (and_parts (is_last p) true h).0

pub ends_in : (ps : List Placed) → ends_in_only is_last ps ≡ true → EndsIn ps
ends_in [] h = absurd cc
ends_in (p ∷ []) h = ends_here p h
ends_in (p ∷ q ∷ ps) h = let k = ends_rest p q ps h in (k.0, ends_in (q ∷ ps) k.1)

-- ---- cutting

ends_said : (structs : List Struct) (f : Function) (type : TypeTree) (i : Instruction) → ends_inst (inst_of structs f type i) ≡ is_terminator i
ends_said structs f type (Phi entries) = refl
ends_said structs f type (Applied r) = refl

-- the lines of a block, before a label or the end
cut_lines : (structs : List Struct) (f : Function) (ps : List Placed) (rest : List Part) (bs : List SaidBlock) → EndsIn ps → cut rest ≡ Some ([], bs)
    → cut (map (λ (p : Placed). Does (line_of structs f p)) ps ++ rest) ≡ Some (map (line_of structs f) ps, bs)
cut_lines structs f [] rest bs ends h = absurd ends
cut_lines structs f (p ∷ []) rest bs ends h =
    let e : ends_block (line_of structs f p) ≡ true = ends_said structs f p.type p.instruction ∙ ends in
    rw (h, e) refl
cut_lines structs f (p ∷ q ∷ ps) rest bs ends h =
    let e : ends_block (line_of structs f p) ≡ false = ends_said structs f p.type p.instruction ∙ ends.0 in
    ap (λ (o : Option (List Line × List SaidBlock)). o >>= put_line (line_of structs f p)) (cut_lines structs f (q ∷ ps) rest bs ends.1 h) ∙ rw e refl

-- what is cut of a block with a label
abbrev pub said_block : List Struct → Function → Block → SaidBlock
said_block structs f b = record { label = Some (label_of f b); lines = map (line_of structs f) b.instructions }

abbrev pub EndsBlock : Block → Type 0
EndsBlock b = EndsIn b.instructions

labelled : (structs : List Struct) (f : Function) (t : Text) (ps : List Placed) (bs : List SaidBlock) → EndsIn ps → put_label t (map (line_of structs f) ps, bs) ≡ Some ([], record { label = Some t; lines = map (line_of structs f) ps } ∷ bs)
labelled structs f t [] bs ends = absurd ends
labelled structs f t (p ∷ ps) bs ends = refl

cut_block : (structs : List Struct) (f : Function) (b : Block) (rest : List Part) (bs : List SaidBlock) → EndsBlock b → cut rest ≡ Some ([], bs) → cut (block_parts structs f b ++ rest) ≡ Some ([], said_block structs f b ∷ bs)
cut_block structs f b rest bs ends h =
    ap (λ (o : Option (List Line × List SaidBlock)). o >>= put_label (label_of f b)) (cut_lines structs f b.instructions rest bs ends h) ∙ labelled structs f (label_of f b) b.instructions bs ends

cut_blocks : (structs : List Struct) (f : Function) (bs : List Block) → AllByRecursion EndsBlock bs → cut (flat_map (block_parts structs f) bs) ≡ Some ([], map (said_block structs f) bs)
cut_blocks structs f [] ends = refl
cut_blocks structs f (b ∷ bs) ends = cut_block structs f b (flat_map (block_parts structs f) bs) (map (said_block structs f) bs) ends.0 (cut_blocks structs f bs ends.1)

-- ---- the first block

-- what is written of the name of the first block
abbrev pub entry_written : Function → Block → (name : Text) → Option Text
entry_written f b [] = None
entry_written f b (c ∷ cs) = Some (label_of f b)

abbrev pub said_entry : List Struct → Function → Block → SaidBlock
said_entry structs f b = record { label = entry_written f b b.name; lines = map (line_of structs f) b.instructions }

unlabelled_lines : (structs : List Struct) (f : Function) (ps : List Placed) (bs : List SaidBlock) → EndsIn ps → unlabelled (map (line_of structs f) ps) bs ≡ record { label = None; lines = map (line_of structs f) ps } ∷ bs
unlabelled_lines structs f [] bs ends = absurd ends
unlabelled_lines structs f (p ∷ ps) bs ends = refl

-- the parts of a body are the blocks of the body
pub parts_cut : (structs : List Struct) (f : Function) (b : Block) (bs : List Block) → EndsBlock b → AllByRecursion EndsBlock bs → blocks_of (parts_of structs f (b ∷ bs)) ≡ Some (said_entry structs f b ∷ map (said_block structs f) bs)
parts_cut structs f b bs ends more = by b.name
  where
    rest : List Part
    rest = flat_map (block_parts structs f) bs

    by : (name : Text) → blocks_of (entry_label f b name ++ (lines_of structs f b ++ rest)) ≡ Some (record { label = entry_written f b name; lines = map (line_of structs f) b.instructions } ∷ map (said_block structs f) bs)
    by [] =
        ap (λ (o : Option (List Line × List SaidBlock)). o >>= λ (x : List Line × List SaidBlock). Some (unlabelled x.0 x.1)) (cut_lines structs f b.instructions rest (map (said_block structs f) bs) ends (cut_blocks structs f bs more))
        ∙ ap (λ (xs : List SaidBlock). Some xs) (unlabelled_lines structs f b.instructions (map (said_block structs f) bs) ends)
    by (c ∷ cs) = ap (λ (o : Option (List Line × List SaidBlock)). o >>= λ (x : List Line × List SaidBlock). Some (unlabelled x.0 x.1)) (cut_block structs f b rest (map (said_block structs f) bs) ends (cut_blocks structs f bs more))
