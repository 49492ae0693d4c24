-- The definitions and the blocks of a body, in order.
use Rattle.std.proofs.Common.{◌≡◌, ℕ, suc, ◌+◌, Bool, true, false, if◌then◌else◌, List, [], ◌∷◌, ◌++◌, length, map, drop, Option, Some, None, refl, ap, sym, ◌∙◌, subst, append_assoc}
use Rattle.std.specs.List.{flat_map, AllByRecursion}
use Rattle.std.proofs.lemmas.List.{append-nil, length-map}
use Rattle.kinds.specs.Types.{TypeTree}
use Rattle.kinds.specs.Held.{is_void, own_type}
use Rattle.kinds.specs.Names.{IsGoodOrNone}
use Rattle.kinds.specs.Structs.{Struct}
use Rattle.llvm_core.specs.Data.{Result, Placed, Block, Function, operand_type}
use Rattle.ll_literals.specs.Text.{Text}
use Rattle.ll_literals.specs.Names.{label}
use Rattle.ll_literals.specs.Chain.{◌>>=◌}
use Rattle.ll_bodies.specs.Scopes.{ValueLocal, BlockLocal, Scope, define_written, local_key, label_key, written_name}
use Rattle.ll_bodies.specs.Meaning.{SaidBlock, all_from, result_type, result_scope, lines_scope, blocks_scope, params_scope, placed, blocks_data}
use Rattle.ll_said.specs.Naming.{ParamAt, BlockOf, ResultOf, local_text, block_ref}
use Rattle.ll_said.specs.Said.{inst_of, gives_of, line_of, label_of, params_of}
use Rattle.ll_said.specs.Sayable.{IsSayable}
use Rattle.ll_said.proofs.CountingLaws.{IsCounted, AreCountedBlocks, placed_number}
use Rattle.ll_said.proofs.CutLaws.{said_block, said_entry, entry_written}
use Rattle.ll_said.proofs.DefineLaws.{defines, defines_unwritten}
use Rattle.ll_said.proofs.KnownLaws.{scope_after, scope_of, type_of_result}
use Rattle.ll_said.proofs.LineLaws.{IsLine, name_said, line_said}
use Rattle.ll_said.proofs.NameLaws.{key_in, local_says, label_says}
use Rattle.ll_said.proofs.ScopeLaws.{Thing}
use Rattle.ll_said.proofs.ThingLaws.{param_things, thing_of, result_thing, result_things, block_thing, block_things, things}
use Rattle.ll_said.proofs.TypeLaws.{type_said}

-- ---- parameters

pub params_define : (f : Function) → IsSayable f → (done rest : List Thing) (i : ℕ) (ns : List Text) → things f ≡ done ++ (param_things i ns ++ rest) → AllByRecursion IsGoodOrNone ns
    → params_scope (scope_after f done) f.number i (params_of f i ns) ≡ Some (scope_after f (done ++ param_things i ns))
params_define f h done rest i [] whole good = ap (λ (ts : List Thing). Some (scope_after f ts)) (sym (append-nil done))
params_define f h done rest i (n ∷ ns) whole good =
    let t : Thing = record { name = n; place = ParamAt i } in
    let def = defines f h done (param_things (suc i) ns ++ rest) t local_key (local_text f n (ParamAt i)) whole (local_says f n (ParamAt i) h.few good.0) in
    let later : things f ≡ (done ++ t ∷ []) ++ (param_things (suc i) ns ++ rest) = whole ∙ sym (append_assoc done (t ∷ []) (param_things (suc i) ns ++ rest)) in
    ap (λ (o : Option Scope). o >>= λ (u : Scope). params_scope u f.number (suc i) (params_of f (suc i) ns)) def
    ∙ params_define f h (done ++ t ∷ []) rest (suc i) ns later good.1
    ∙ ap (λ (ts : List Thing). Some (scope_after f ts)) (append_assoc done (t ∷ []) (param_things (suc i) ns))

-- ---- results

valued_defines : (f : Function) → IsSayable f → (done rest : List Thing) (type : TypeTree) (p : Placed) → things f ≡ done ++ (thing_of p ∷ rest) → IsGoodOrNone p.name → operand_type f (Result p.number) ≡ type
    → define_written (scope_after f done) (ValueLocal (Result p.number) type) local_key (Some (local_text f p.name (ResultOf p.number))) ≡ Some (scope_after f (done ++ thing_of p ∷ []))
valued_defines f h done rest type p whole good typed =
    let text = local_text f p.name (ResultOf p.number) in
    ap (λ (τ : TypeTree). define_written (scope_after f done) (ValueLocal (Result p.number) τ) local_key (Some text)) (sym typed)
    ∙ defines f h done rest (thing_of p) local_key text whole (local_says f p.name (ResultOf p.number) h.few good)

-- a result, where there is one
result_defines : (f : Function) → IsSayable f → (done rest : List Thing) (p : Placed) → things f ≡ done ++ (result_thing p ++ rest) → IsGoodOrNone p.name → operand_type f (Result p.number) ≡ p.type
    → result_scope (scope_after f done) p.number (own_type p.type) (gives_of f p.type p) ≡ Some (scope_after f (done ++ result_thing p))
result_defines f h done rest p whole good typed = by (is_void p.type) whole
  where
    by : (v : Bool) → things f ≡ done ++ ((if v then [] else thing_of p ∷ []) ++ rest)
        → result_scope (scope_after f done) p.number (if v then None else Some p.type) (if v then None else Some (local_text f p.name (ResultOf p.number))) ≡ Some (scope_after f (done ++ (if v then [] else thing_of p ∷ [])))
    by true whole = ap (λ (ts : List Thing). Some (scope_after f ts)) (sym (append-nil done))
    by false whole = valued_defines f h done rest p.type p whole good typed

line_defines : (structs : List Struct) (f : Function) → IsSayable f → (done rest : List Thing) (n : ℕ) (p : Placed) → things f ≡ done ++ (result_thing p ++ rest) → IsLine structs f p → p.number ≡ n
    → result_scope (scope_after f done) n (result_type (inst_of structs f p.type p.instruction)) (gives_of f p.type p) ≡ Some (scope_after f (done ++ result_thing p))
line_defines structs f h done rest n p whole line numbered =
    ap (λ (k : ℕ). result_scope (scope_after f done) k (result_type (inst_of structs f p.type p.instruction)) (gives_of f p.type p)) (sym numbered)
    ∙ ap (λ (o : Option TypeTree). result_scope (scope_after f done) p.number o (gives_of f p.type p)) (type_said structs f line.block p.type p.instruction line.form.instruction)
    ∙ result_defines f h done rest p whole line.form.name (type_of_result f h.form line.place p line.at)

lines_define : (structs : List Struct) (f : Function) → IsSayable f → (done rest : List Thing) (n : ℕ) (ps : List Placed) → things f ≡ done ++ (result_things ps ++ rest) → AllByRecursion (IsLine structs f) ps → IsCounted placed_number n ps
    → lines_scope (scope_after f done) n (map (line_of structs f) ps) ≡ Some (scope_after f (done ++ result_things ps))
lines_define structs f h done rest n [] whole lines numbered = ap (λ (ts : List Thing). Some (scope_after f ts)) (sym (append-nil done))
lines_define structs f h done rest n (p ∷ ps) whole lines numbered =
    let one = result_thing p in
    let more = result_things ps in
    let split : things f ≡ done ++ (one ++ (more ++ rest)) = whole ∙ ap (λ (ts : List Thing). done ++ ts) (append_assoc one more rest) in
    let later : things f ≡ (done ++ one) ++ (more ++ rest) = split ∙ sym (append_assoc done one (more ++ rest)) in
    ap (λ (o : Option Scope). o >>= λ (u : Scope). lines_scope u (suc n) (map (line_of structs f) ps)) (line_defines structs f h done (more ++ rest) n p split lines.0 numbered.0)
    ∙ lines_define structs f h (done ++ one) rest (suc n) ps later lines.1 numbered.1
    ∙ ap (λ (ts : List Thing). Some (scope_after f ts)) (append_assoc done one more)

-- ---- blocks

-- a block of the function
pub record IsBody (structs : List Struct) (f : Function) (b : Block) : Type 0 where
  pub ref : block_ref f b.number ≡ local_text f b.name (BlockOf b.number)
  pub label : IsGoodOrNone b.name
  pub lines : AllByRecursion (IsLine structs f) b.instructions

-- what is written of the name of a block says its key
label_key_said : (structs : List Struct) (f : Function) → IsSayable f → (b : Block) → IsBody structs f b → label_key (label_of f b) ≡ Some (key_in f b.name (BlockOf b.number))
label_key_said structs f h b body = ap (λ (t : Text). label_key (label (drop 1 t))) body.ref ∙ label_says f b.name (BlockOf b.number) h.few body.label

label_defines : (structs : List Struct) (f : Function) → IsSayable f → (done rest : List Thing) (b : Block) → things f ≡ done ++ block_thing b ∷ rest → IsBody structs f b
    → define_written (scope_after f done) (BlockLocal b.number) label_key (Some (label_of f b)) ≡ Some (scope_after f (done ++ block_thing b ∷ []))
label_defines structs f h done rest b whole body = defines f h done rest (block_thing b) label_key (label_of f b) whole (label_key_said structs f h b body)

entry_defines : (structs : List Struct) (f : Function) → IsSayable f → (done rest : List Thing) (b : Block) → things f ≡ done ++ block_thing b ∷ rest → IsBody structs f b
    → define_written (scope_after f done) (BlockLocal b.number) label_key (entry_written f b b.name) ≡ Some (scope_after f (done ++ block_thing b ∷ []))
entry_defines structs f h done rest b whole body = by b.name refl
  where
    by : (n : Text) → b.name ≡ n → define_written (scope_after f done) (BlockLocal b.number) label_key (entry_written f b n) ≡ Some (scope_after f (done ++ block_thing b ∷ []))
    by [] e =
        let same : block_thing b ≡ record { name = []; place = BlockOf b.number } = ap (λ (n : Text). let t : Thing = record { name = n; place = BlockOf b.number } in t) e in
        let there = subst (λ (t : Thing). things f ≡ done ++ t ∷ rest) same whole in
        defines_unwritten f h done rest (BlockOf b.number) label_key there ∙ ap (λ (t : Thing). Some (scope_after f (done ++ t ∷ []))) (sym same)
    by (c ∷ cs) e = label_defines structs f h done rest b whole body

-- a block and its results, whatever is written of its name
block_defines : (structs : List Struct) (f : Function) → IsSayable f → (done rest : List Thing) (b n : ℕ) (c : Block) (written : Option Text) (xs : List SaidBlock) → things f ≡ done ++ (block_things c ++ rest) → IsBody structs f c → c.number ≡ b → IsCounted placed_number n c.instructions
    → define_written (scope_after f done) (BlockLocal c.number) label_key written ≡ Some (scope_after f (done ++ block_thing c ∷ []))
    → blocks_scope (scope_after f done) b n (record { label = written; lines = map (line_of structs f) c.instructions } ∷ xs) ≡ blocks_scope (scope_after f (done ++ block_things c)) (suc b) (n + length c.instructions) xs
block_defines structs f h done rest b n c written xs whole body numbered counted def =
    let t = block_thing c in
    let results = result_things c.instructions in
    let later : things f ≡ (done ++ t ∷ []) ++ (results ++ rest) = whole ∙ sym (append_assoc done (t ∷ []) (results ++ rest)) in
    let lines = lines_define structs f h (done ++ t ∷ []) rest n c.instructions later body.lines counted in
    let first : define_written (scope_after f done) (BlockLocal b) label_key written ≡ Some (scope_after f (done ++ t ∷ [])) = subst (λ (k : ℕ). define_written (scope_after f done) (BlockLocal k) label_key written ≡ Some (scope_after f (done ++ t ∷ []))) numbered def in
    let size = length-map c.instructions (line_of structs f) in
    ap (λ (o : Option Scope). o >>= λ (u : Scope). lines_scope u n (map (line_of structs f) c.instructions) >>= λ (v : Scope). blocks_scope v (suc b) (n + length (map (line_of structs f) c.instructions)) xs) first
    ∙ ap (λ (o : Option Scope). o >>= λ (v : Scope). blocks_scope v (suc b) (n + length (map (line_of structs f) c.instructions)) xs) lines
    ∙ ap (λ (ts : List Thing). blocks_scope (scope_after f ts) (suc b) (n + length (map (line_of structs f) c.instructions)) xs) (append_assoc done (t ∷ []) results)
    ∙ ap (λ (k : ℕ). blocks_scope (scope_after f (done ++ block_things c)) (suc b) (n + k) xs) size

blocks_define : (structs : List Struct) (f : Function) → IsSayable f → (done : List Thing) (b n : ℕ) (cs : List Block) → things f ≡ done ++ flat_map block_things cs → AllByRecursion (IsBody structs f) cs → AreCountedBlocks b n cs
    → blocks_scope (scope_after f done) b n (map (said_block structs f) cs) ≡ Some (scope_after f (done ++ flat_map block_things cs))
blocks_define structs f h done b n [] whole bodies counted = ap (λ (ts : List Thing). Some (scope_after f ts)) (sym (append-nil done))
blocks_define structs f h done b n (c ∷ cs) whole bodies counted =
    let one = block_things c in
    let more = flat_map block_things cs in
    let later : things f ≡ (done ++ one) ++ more = whole ∙ sym (append_assoc done one more) in
    block_defines structs f h done more b n c (Some (label_of f c)) (map (said_block structs f) cs) whole bodies.0 counted.0 counted.1 (label_defines structs f h done (result_things c.instructions ++ more) c whole bodies.0)
    ∙ blocks_define structs f h (done ++ one) (suc b) (n + length c.instructions) cs later bodies.1 counted.2
    ∙ ap (λ (ts : List Thing). Some (scope_after f ts)) (append_assoc done one more)

-- all blocks of a body
pub body_defines : (structs : List Struct) (f : Function) → IsSayable f → (done : List Thing) (b n : ℕ) (c : Block) (cs : List Block) → things f ≡ done ++ (block_things c ++ flat_map block_things cs) → IsBody structs f c → AllByRecursion (IsBody structs f) cs → AreCountedBlocks b n (c ∷ cs)
    → blocks_scope (scope_after f done) b n (said_entry structs f c ∷ map (said_block structs f) cs) ≡ Some (scope_of f)
body_defines structs f h done b n c cs whole body bodies counted =
    let one = block_things c in
    let more = flat_map block_things cs in
    let later : things f ≡ (done ++ one) ++ more = whole ∙ sym (append_assoc done one more) in
    block_defines structs f h done more b n c (entry_written f c c.name) (map (said_block structs f) cs) whole body counted.0 counted.1 (entry_defines structs f h done (result_things c.instructions ++ more) c whole body)
    ∙ blocks_define structs f h (done ++ one) (suc b) (n + length c.instructions) cs later bodies counted.2
    ∙ ap (λ (ts : List Thing). Some (scope_after f ts)) (sym later)

-- ---- what the blocks say

lines_say : (structs : List Struct) (f : Function) → IsSayable f → (n : ℕ) (ps : List Placed) → AllByRecursion (IsLine structs f) ps → IsCounted placed_number n ps → all_from (placed structs (scope_of f)) n (map (line_of structs f) ps) ≡ Some ps
lines_say structs f h n [] lines counted = refl
lines_say structs f h n (p ∷ ps) lines counted =
    ap (λ (o : Option Placed). o >>= λ (q : Placed). all_from (placed structs (scope_of f)) (suc n) (map (line_of structs f) ps) >>= λ (qs : List Placed). Some (q ∷ qs)) (line_said structs f h n p lines.0 counted.0)
    ∙ ap (λ (o : Option (List Placed)). o >>= λ (qs : List Placed). Some (p ∷ qs)) (lines_say structs f h (suc n) ps lines.1 counted.1)

same_block : (c : Block) (b : ℕ) (name : List ℕ) (cs : List Block) → c.number ≡ b → name ≡ c.name → Some (record { number = b; name = name; instructions = c.instructions } ∷ cs) ≡ Some (c ∷ cs)
same_block c b name cs e g = rw (← e, g) refl

-- a block, whatever is written of its name
block_says : (structs : List Struct) (f : Function) → IsSayable f → (b n : ℕ) (c : Block) (written : Option Text) (xs : List SaidBlock) (cs : List Block) → IsBody structs f c → c.number ≡ b → IsCounted placed_number n c.instructions → written_name label_key written ≡ c.name
    → blocks_data structs (scope_of f) (suc b) (n + length c.instructions) xs ≡ Some cs
    → blocks_data structs (scope_of f) b n (record { label = written; lines = map (line_of structs f) c.instructions } ∷ xs) ≡ Some (c ∷ cs)
block_says structs f h b n c written xs cs body numbered counted named later =
    let size = length-map c.instructions (line_of structs f) in
    let later_of : blocks_data structs (scope_of f) (suc b) (n + length (map (line_of structs f) c.instructions)) xs ≡ Some cs = ap (λ (k : ℕ). blocks_data structs (scope_of f) (suc b) (n + k) xs) size ∙ later in
    let made = λ (is : List Placed) (bs : List Block). Some (let x : Block = record { number = b; name = written_name label_key written; instructions = is } in x ∷ bs) in
    ap (λ (o : Option (List Placed)). o >>= λ (is : List Placed). blocks_data structs (scope_of f) (suc b) (n + length (map (line_of structs f) c.instructions)) xs >>= λ (bs : List Block). made is bs) (lines_say structs f h n c.instructions body.lines counted)
    ∙ ap (λ (o : Option (List Block)). o >>= λ (bs : List Block). made c.instructions bs) later_of
    ∙ same_block c b (written_name label_key written) cs numbered named

blocks_say : (structs : List Struct) (f : Function) → IsSayable f → (b n : ℕ) (cs : List Block) → AllByRecursion (IsBody structs f) cs → AreCountedBlocks b n cs → blocks_data structs (scope_of f) b n (map (said_block structs f) cs) ≡ Some cs
blocks_say structs f h b n [] bodies counted = refl
blocks_say structs f h b n (c ∷ cs) bodies counted =
    block_says structs f h b n c (Some (label_of f c)) (map (said_block structs f) cs) cs bodies.0 counted.0 counted.1
    (name_said f h c.name (BlockOf c.number) label_key (label_of f c) (label_key_said structs f h c bodies.0)) (blocks_say structs f h (suc b) (n + length c.instructions) cs bodies.1 counted.2)

entry_name : (structs : List Struct) (f : Function) → IsSayable f → (c : Block) → IsBody structs f c → written_name label_key (entry_written f c c.name) ≡ c.name
entry_name structs f h c body = by c.name refl
  where
    by : (n : Text) → c.name ≡ n → written_name label_key (entry_written f c n) ≡ c.name
    by [] e = sym e
    by (x ∷ xs) e = name_said f h c.name (BlockOf c.number) label_key (label_of f c) (label_key_said structs f h c body)

-- all blocks of a body
pub body_says : (structs : List Struct) (f : Function) → IsSayable f → (b n : ℕ) (c : Block) (cs : List Block) → IsBody structs f c → AllByRecursion (IsBody structs f) cs → AreCountedBlocks b n (c ∷ cs)
    → blocks_data structs (scope_of f) b n (said_entry structs f c ∷ map (said_block structs f) cs) ≡ Some (c ∷ cs)
body_says structs f h b n c cs body bodies counted =
    block_says structs f h b n c (entry_written f c c.name) (map (said_block structs f) cs) cs body counted.0 counted.1 (entry_name structs f h c body) (blocks_say structs f h (suc b) (n + length c.instructions) cs bodies counted.2)
