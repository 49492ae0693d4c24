-- A body that is made of the lines of a function is one that its module takes.
use Rattle.std.proofs.Common.{◌≡◌, ◌<◌, slice_get, ◌+◌, ℕ, suc, List, [], ◌∷◌, ◌++◌, Option, Some, None, All, map, length, refl, ap, sym, ◌∙◌, subst, arith}
use Rattle.std.specs.Prelude.{IfSome}
use Rattle.std.specs.Option.{option_map, option_map_or}
use Rattle.std.proofs.lemmas.List.{map-append, length-map}
use Rattle.std.proofs.lemmas.List.Elements.{All-nil, All-cons, All-head, All-tail, All-weaker}
use Rattle.std.proofs.lemmas.Option.{same_Some, slice_get_within}
use Rattle.kinds.specs.Types.{TypeTree, VoidType}
use Rattle.kinds.specs.Typing.{fits_trees, typed}
use Rattle.llvm_core.specs.declared.numbers.LLVMFunction.{LLVMFunction}
use Rattle.llvm_core.specs.declared.numbers.LLVMBasicBlock.{LLVMBasicBlock}
use Rattle.llvm_core.specs.declared.numbers.LLVMType.{LLVMType}
use Rattle.llvm_core.specs.declared.code.FunctionData.{FunctionData}
use Rattle.llvm_core.specs.declared.code.LLVMValue.{LLVMValue}
use Rattle.llvm_core.specs.declared.code.LLVMInst.{LLVMInst}
use Rattle.llvm_core.specs.declared.code.LLVMInst.TheVariants as I
use Rattle.llvm_core.specs.declared.code.PhiEntry.{PhiEntry}
use Rattle.llvm_core.specs.declared.code.Row.{Row}
use Rattle.llvm_core.specs.declared.code.InstData.{InstData}
use Rattle.llvm_core.specs.declared.bodies.BodyBlock.{BodyBlock}
use Rattle.llvm_core.specs.Module.{Module}
use Rattle.llvm_core.specs.Sound.{IsModule}
use Rattle.llvm_core.specs.Parts.{IsValue, IsBlock, IsEntry, value_type, type_params}
use Rattle.llvm_core.specs.Data as D
use Rattle.llvm_core.specs.Data.{Operand, Placed, Block, type_at, trees_of, operand_of, entry_of, row_of, instruction_of}
use Rattle.llvm_core.specs.Bodies.{IsBodyInst, added, placed_from, blocks_from}
use Rattle.llvm_core.proofs.ApartLemmas.{apart}
use Rattle.llvm_core.proofs.BodyTypes.{AreTypes, all_insts, row_right, phi_right}
use Rattle.ll_lines.specs.declared.lines.Param as code_param
use Rattle.ll_lines.specs.declared.lines.Line as code_line
use Rattle.ll_lines.specs.declared.lines.Inst as code_inst
use Rattle.ll_lines.specs.declared.lines.Said as code_said
use Rattle.ll_lines.specs.declared.lines.Typed as code_typed
use Rattle.ll_lines.specs.declared.lines.Incoming as code_incoming
use Rattle.ll_lines.specs.declared.lines.RowLine as code_row
use Rattle.ll_lines.specs.declared.lines.Part.{Part}
use Rattle.ll_lines.specs.declared.lines.Part.TheVariants.{Label, Does}
use Rattle.ll_lines.specs.declared.names.Name.{Name}
use Rattle.ll_lines.specs.Lines as L
use Rattle.ll_lines.specs.Views.{IsTypeIn, IsSaidIn, IsTypedIn, IsInstIn, IsPartIn, text_of}
use Rattle.ll_literals.specs.Chain.{◌>>=◌}
use Rattle.ll_bodies.specs.declared.blocks.SaidBlock as code_block
use Rattle.ll_bodies.specs.declared.results.Source.{Source}
use Rattle.ll_bodies.specs.Scopes as spec
use Rattle.ll_bodies.specs.Scopes.{written_name, local_key, label_key, define_written, block_of, BlockLocal}
use Rattle.ll_bodies.specs.Meaning.{all_of, all_from, operand, entry, instruction, placed, result_type, result_scope, lines_scope, blocks_scope, blocks_data}
use Rattle.ll_bodies.specs.BlockViews.{lines_of}
use Rattle.ll_bodies.specs.BodyViews.{placed_one}
use Rattle.ll_bodies.specs.SourceViews.{structs_in, made_in, IsSource, types_in, source_trees, line_in, inst_in, row_in, typed_in, said_in, entry_in, block_in, HasLinesIn}
use Rattle.ll_bodies.specs.TypedViews.{IsTypedInst, IsTypedBody, AreTypedInsts, AreTypedBlocks}
use Rattle.ll_lines.specs.declared.lines.Function as code_function
use Rattle.ll_bodies.specs.declared.scope.Scope as code_scope
use Rattle.ll_bodies.specs.Scopes.{Key}
use Rattle.ll_bodies.specs.declared.scope.Local.{Local}
use Rattle.ll_bodies.specs.ScopeViews.{Knows, local_at}
use Rattle.ll_bodies.specs.BodyViews.{MadeBlocks}
use Rattle.ll_bodies.specs.FunctionViews.{function_scope, IsNamed, IsNext}
use Rattle.ll_bodies.specs.Meaning.{params_scope}
use Rattle.ll_bodies.specs.SourceViews.{param_in}
use Rattle.llvm_core.specs.Bodies.{IsBodyOf}
use Rattle.ll_bodies.proofs.ValueLaws.{only_names, bind_found, cond_found, all_lines, OnlyNames, value_right, block_right}

-- the type of a line's result, void where it has none
abbrev pub type_or_void : Source → code_line.Line → TypeTree
type_or_void source l = option_map_or (λ (τ : TypeTree). τ) (result_type (line_in source l).inst) VoidType

pub cons_found : {A : Type 0} (o : Option A) (r : Option (List A)) (y : A) (ys : List A) → (o >>= λ a. r >>= λ zs. Some (a ∷ zs)) ≡ Some (y ∷ ys) → (o ≡ Some y) × (r ≡ Some ys)
cons_found None r y ys h = absurd cc
cons_found (Some a) None y ys h = absurd cc
cons_found (Some a) (Some zs) y ys h = let e : a ∷ zs ≡ y ∷ ys = same_Some (a ∷ zs) (y ∷ ys) h in let p : a ≡ y = cc (e) in let q : zs ≡ ys = cc (e) in (ap Some p, ap Some q)

pub cons_not_none : {A : Type 0} (o : Option A) (r : Option (List A)) → (o >>= λ a. r >>= λ zs. Some (a ∷ zs)) ≡ Some [] → ⊥
cons_not_none None r h = absurd cc
cons_not_none (Some a) None h = absurd cc
cons_not_none (Some a) (Some zs) h = absurd cc

-- ---- the types of a body

module _ (source : Source) (s : spec.Scope) where
  -- what a line is as an instruction
  pub record IsMadeOf (l : code_line.Line) (x : InstData) : Type 0 where
    pub inst : instruction (structs_in source) s (line_in source l).inst ≡ Some (instruction_of (source_trees source) x.inst)
    pub type : type_at (types_in source) x.ty ≡ type_or_void source l
    pub name : x.name ≡ written_name local_key (line_in source l).result

  pub made_of : (n : ℕ) (l : code_line.Line) (x : InstData) → placed (structs_in source) s n (line_in source l) ≡ Some (placed_one (source_trees source) n x) → IsMadeOf l x
  made_of n l x h =
      let i = bind_found (instruction (structs_in source) s (line_in source l).inst) _ (placed_one (source_trees source) n x) h in
      let e = same_Some _ (placed_one (source_trees source) n x) i.2 in
      record {
        inst = i.1 ∙ ap (λ (p : Placed). Some p.instruction) e;
        type = sym (ap (λ (p : Placed). p.type) e);
        name = sym (ap (λ (p : Placed). p.name) e);
      }

  insts_types : (n : ℕ) (ls : List code_line.Line) (xs : List InstData) → all_from (placed (structs_in source) s) n (map (line_in source) ls) ≡ Some (placed_from (source_trees source) n xs)
      → map (λ (z : InstData). type_at (types_in source) z.ty) xs ≡ map (type_or_void source) ls
  insts_types n [] [] h = refl
  insts_types n [] (x ∷ xs) h = absurd cc
  insts_types n (l ∷ ls) [] h = absurd (cons_not_none (placed (structs_in source) s n (line_in source l)) (all_from (placed (structs_in source) s) (suc n) (map (line_in source) ls)) h)
  insts_types n (l ∷ ls) (x ∷ xs) h =
      let p = cons_found (placed (structs_in source) s n (line_in source l)) (all_from (placed (structs_in source) s) (suc n) (map (line_in source) ls)) (placed_one (source_trees source) n x) (placed_from (source_trees source) (n + 1) xs) h in
      let e : n + 1 ≡ suc n = omega arith in
      let rest = insts_types (suc n) ls xs (p.1 ∙ ap (λ (k : ℕ). Some (placed_from (source_trees source) k xs)) e) in
      ap (λ (t : TypeTree). t ∷ map (λ (z : InstData). type_at (types_in source) z.ty) xs) (made_of n l x p.0).type ∙ ap (λ (ts : List TypeTree). type_or_void source l ∷ ts) rest

  -- what a block of lines is
  pub block_made : (b n : ℕ) (x : code_block.SaidBlock) (xs : List code_block.SaidBlock) (y : BodyBlock) (ys : List BodyBlock) → blocks_data (structs_in source) s b n (map (block_in source) (x ∷ xs)) ≡ Some (blocks_from (source_trees source) b n (y ∷ ys))
      → (all_from (placed (structs_in source) s) n (map (line_in source) (lines_of x.lines.now)) ≡ Some (placed_from (source_trees source) n y.insts)) × (blocks_data (structs_in source) s (suc b) (n + length (map (line_in source) (lines_of x.lines.now))) (map (block_in source) xs) ≡ Some (blocks_from (source_trees source) (b + 1) (n + length y.insts) ys))
  block_made b n x xs y ys h =
      let is = bind_found (all_from (placed (structs_in source) s) n (map (line_in source) (lines_of x.lines.now))) _ (blocks_from (source_trees source) b n (y ∷ ys)) h in
      let bs = bind_found (blocks_data (structs_in source) s (suc b) (n + length (map (line_in source) (lines_of x.lines.now))) (map (block_in source) xs)) _ (blocks_from (source_trees source) b n (y ∷ ys)) is.2 in
      let e = same_Some _ (blocks_from (source_trees source) b n (y ∷ ys)) bs.2 in
      let first : record { number = b; name = written_name label_key (block_in source x).label; instructions = is.0 } ≡ record { number = b; name = y.name; instructions = placed_from (source_trees source) n y.insts } = cc (e) in
      let rest : bs.0 ≡ blocks_from (source_trees source) (b + 1) (n + length y.insts) ys = cc (e) in
      (is.1 ∙ ap (λ (z : Block). Some z.instructions) first, bs.1 ∙ ap Some rest)

  pub blocks_types : (b n : ℕ) (xs : List code_block.SaidBlock) (body : List BodyBlock) → blocks_data (structs_in source) s b n (map (block_in source) xs) ≡ Some (blocks_from (source_trees source) b n body)
      → (length body ≡ length xs) × (map (λ (z : InstData). type_at (types_in source) z.ty) (all_insts body) ≡ map (type_or_void source) (all_lines xs))
  blocks_types b n [] [] h = (refl, refl)
  blocks_types b n [] (y ∷ ys) h = absurd cc
  blocks_types b n (x ∷ xs) [] h =
      let is = bind_found (all_from (placed (structs_in source) s) n (map (line_in source) (lines_of x.lines.now))) _ _ h in
      let bs = bind_found (blocks_data (structs_in source) s (suc b) (n + length (map (line_in source) (lines_of x.lines.now))) (map (block_in source) xs)) _ _ is.2 in
      absurd (cc (bs.2))
  blocks_types b n (x ∷ xs) (y ∷ ys) h =
      let p = block_made b n x xs y ys h in
      let first = insts_types n (lines_of x.lines.now) y.insts p.0 in
      let size = ap (λ (ts : List TypeTree). length ts) first in
      let many = length-map y.insts (λ (z : InstData). type_at (types_in source) z.ty) in
      let more = length-map (lines_of x.lines.now) (type_or_void source) in
      let lines = length-map (lines_of x.lines.now) (line_in source) in
      let e : b + 1 ≡ suc b = omega arith in
      let d : n + length y.insts ≡ n + length (map (line_in source) (lines_of x.lines.now)) = omega (arith, size, many, more, lines) in
      let rest = blocks_types (suc b) (n + length (map (line_in source) (lines_of x.lines.now))) xs ys
      (p.1 ∙ ap (λ (k : ℕ). Some (blocks_from (source_trees source) k (n + length y.insts) ys)) e ∙ ap (λ (k : ℕ). Some (blocks_from (source_trees source) (suc b) k ys)) d) in (
        ap (λ (k : ℕ). suc k) rest.0,
        map-append (λ (z : InstData). type_at (types_in source) z.ty) y.insts (all_insts ys)
            ∙ ap (λ (ts : List TypeTree). ts ++ map (λ (z : InstData). type_at (types_in source) z.ty) (all_insts ys)) first
            ∙ ap (λ (ts : List TypeTree). map (type_or_void source) (lines_of x.lines.now) ++ ts) rest.1
            ∙ sym (map-append (type_or_void source) (lines_of x.lines.now) (all_lines xs)),
      )

are_types : (m : Module) (body : List BodyBlock) → AreTypedBlocks m body → AreTypes m body
are_types m body h = All-weaker (λ (b : BodyBlock). AreTypedInsts m b.insts) (λ (b : BodyBlock). All (λ (x : InstData). x.ty.0 < length m.types) b.insts)
    (λ b all. All-weaker (IsTypedBody m) (λ (x : InstData). x.ty.0 < length m.types) (λ x t. t.0) b.insts all) body h

-- ---- a body is right, line by line

module _ (source : Source) (f : LLVMFunction) (ps : List code_param.Param) (xs : List code_block.SaidBlock) (body : List BodyBlock) (x : FunctionData) (good : IsSource source)
    (at : slice_get source.module.now.functions f.0 ≡ Some x) (types : type_params source.module.now.types x.ty ≡ map (λ (p : code_param.Param). p.ty) ps) (names : length x.params ≡ length ps)
    (blocks : length body ≡ length xs)
    (made : map (λ (z : InstData). type_at (types_in source) z.ty) (all_insts body) ≡ map (λ (l : code_line.Line). option_map_or (λ (τ : TypeTree). τ) (result_type (line_in source l).inst) VoidType) (all_lines xs))
    (s : spec.Scope) (known : OnlyNames source f (length source.module.now.blocks) (length source.module.now.insts) ps xs s) (there : AreTypes source.module.now body) where
  abbrev m : Module
  m = source.module.now

  abbrev real : Module
  real = added m f body

  abbrev tree : LLVMType → TypeTree
  tree t = type_at (trees_of m).types t

  abbrev tree_of : LLVMValue → TypeTree
  tree_of v = option_map_or tree (value_type real v) VoidType

  abbrev by_value : (τ : TypeTree) (said : code_said.Said) (v : LLVMValue) → IsSaidIn m (made_in source) said → operand (structs_in source) s τ (said_in source said) ≡ Some (operand_of (source_trees source) v) → IsValue real v × (tree_of v ≡ τ)
  by_value τ said v = value_right source f ps xs body x good at types names blocks made s known τ said v

  operands_right : (ts : List code_typed.Typed) (vs : List LLVMValue) → All (IsTypedIn m (made_in source)) ts → all_of (λ (x : L.Typed). operand (structs_in source) s x.type x.said) (map (typed_in source) ts) ≡ Some (map (operand_of (source_trees source)) vs)
      → All (IsValue real) vs × (map tree_of vs ≡ map (λ (x : L.Typed). x.type) (map (typed_in source) ts))
  operands_right [] [] g h = (All-nil (IsValue real), refl)
  operands_right [] (v ∷ vs) g h = absurd cc
  operands_right (t ∷ ts) [] g h = absurd (cons_not_none (operand (structs_in source) s (tree t.ty) (said_in source t.said)) (all_of (λ (x : L.Typed). operand (structs_in source) s x.type x.said) (map (typed_in source) ts)) h)
  operands_right (t ∷ ts) (v ∷ vs) g h =
      let p = cons_found (operand (structs_in source) s (tree t.ty) (said_in source t.said)) (all_of (λ (x : L.Typed). operand (structs_in source) s x.type x.said) (map (typed_in source) ts)) (operand_of (source_trees source) v) (map (operand_of (source_trees source)) vs) h in
      let first = by_value (tree t.ty) t.said v (All-head (IsTypedIn m (made_in source)) t ts g).1 p.0 in
      let rest = operands_right ts vs (All-tail (IsTypedIn m (made_in source)) t ts g) p.1 in (
        All-cons (IsValue real) v vs first.0 rest.0,
        ap (λ (z : TypeTree). z ∷ map tree_of vs) first.1 ∙ ap (λ (zs : List TypeTree). tree t.ty ∷ zs) rest.1,
      )

  targets_right : (ns : List Name) (bs : List LLVMBasicBlock) → all_of (block_of s) (map (text_of source.bytes.now) ns) ≡ Some (map (λ (b : LLVMBasicBlock). b.0) bs) → All (IsBlock real) bs
  targets_right [] [] h = All-nil (IsBlock real)
  targets_right [] (b ∷ bs) h = absurd cc
  targets_right (n ∷ ns) [] h = absurd (cons_not_none (block_of s (text_of source.bytes.now n)) (all_of (block_of s) (map (text_of source.bytes.now) ns)) h)
  targets_right (n ∷ ns) (b ∷ bs) h =
      let p = cons_found (block_of s (text_of source.bytes.now n)) (all_of (block_of s) (map (text_of source.bytes.now) ns)) b.0 (map (λ (b : LLVMBasicBlock). b.0) bs) h in
      All-cons (IsBlock real) b bs (block_right source f ps xs body x good at types names blocks made s known n b p.0) (targets_right ns bs p.1)

  entries_right : (τ : TypeTree) (es : List code_incoming.Incoming) (made : List PhiEntry) → All (λ (e : code_incoming.Incoming). IsSaidIn m (made_in source) e.said) es → all_of (entry (structs_in source) s τ) (map (entry_in source) es) ≡ Some (map (entry_of (source_trees source)) made) → All (IsEntry real) made
  entries_right τ [] [] g h = All-nil (IsEntry real)
  entries_right τ [] (v ∷ vs) g h = absurd cc
  entries_right τ (e ∷ es) [] g h = absurd (cons_not_none (entry (structs_in source) s τ (entry_in source e)) (all_of (entry (structs_in source) s τ) (map (entry_in source) es)) h)
  entries_right τ (e ∷ es) (v ∷ vs) g h =
      let p = cons_found (entry (structs_in source) s τ (entry_in source e)) (all_of (entry (structs_in source) s τ) (map (entry_in source) es)) (entry_of (source_trees source) v) (map (entry_of (source_trees source)) vs) h in
      let o = bind_found (operand (structs_in source) s τ (said_in source e.said)) _ (entry_of (source_trees source) v) p.0 in
      let b = bind_found (block_of s (text_of source.bytes.now e.block)) _ (entry_of (source_trees source) v) o.2 in
      let same = same_Some (o.0, b.0) (entry_of (source_trees source) v) b.2 in
      let value = by_value τ e.said v.value (All-head (λ (e : code_incoming.Incoming). IsSaidIn m (made_in source) e.said) e es g) (o.1 ∙ ap (λ (q : Operand × ℕ). Some q.0) same) in
      let block = block_right source f ps xs body x good at types names blocks made s known e.block v.block (b.1 ∙ ap (λ (q : Operand × ℕ). Some q.1) same) in
      All-cons (IsEntry real) v vs (value.0, block) (entries_right τ es vs (All-tail (λ (e : code_incoming.Incoming). IsSaidIn m (made_in source) e.said) e es g) p.1)

  row_body : (name : List ℕ) (block : LLVMBasicBlock) (ty : LLVMType) (said : code_row.RowLine) (r : Row) → IsInstIn m (made_in source) (code_inst.TheVariants.Row said) → IsTypeIn m ty → IfSome r.written (IsTypeIn m)
      → instruction (structs_in source) s (row_in source said) ≡ Some (D.Applied (row_of (source_trees source) r)) → tree ty ≡ option_map_or (λ (τ : TypeTree). τ) (result_type (row_in source said)) VoidType → (result_type (row_in source said) ≡ None → name ≡ [])
      → IsBodyInst real (record { name = name; block = block; ty = ty; inst = I.Row r })
  row_body name block ty said r g lt w h type unnamed =
      let goal_row : D.Instruction = D.Applied (row_of (source_trees source) r) in
      let os = bind_found (all_of (λ (x : L.Typed). operand (structs_in source) s x.type x.said) (map (typed_in source) said.operands)) _ goal_row h in
      let bs = bind_found (all_of (block_of s) (map (text_of source.bytes.now) said.targets)) _ goal_row os.2 in
      let fit = cond_found (fits_trees said.op (option_map tree said.written) (map (λ (x : L.Typed). x.type) (map (typed_in source) said.operands))) _ goal_row bs.2 in
      let row : D.RowData = record { op = said.op; written = option_map tree said.written; operands = os.0; targets = bs.0 } in
      let same : row ≡ row_of (source_trees source) r = cc (fit.1) in
      let values = operands_right said.operands r.operands g.1 (os.1 ∙ ap (λ (z : D.RowData). Some z.operands) same) in
      let leads = targets_right said.targets r.targets (bs.1 ∙ ap (λ (z : D.RowData). Some z.targets) same) in
      let is : typed r.op (option_map tree r.written) (map tree_of r.operands) ≡ result_type (row_in source said) =
      ap (λ (ts : List TypeTree). typed r.op (option_map tree r.written) ts) values.1
      ∙ sym (ap (λ (z : D.RowData). typed z.op z.written (map (λ (x : L.Typed). x.type) (map (typed_in source) said.operands))) same) in
      row_right m f body good.sound (slice_get_within m.functions f.0 x at) there name block ty r (values.0, leads, w) lt
      (ap (λ (o : Option TypeTree). option_map_or (λ (τ : TypeTree). τ) o VoidType) is ∙ sym type) (λ none. unnamed (sym is ∙ none))

  inst_body : (name : List ℕ) (block : LLVMBasicBlock) (ty : LLVMType) (i : code_inst.Inst) (j : LLVMInst) → IsInstIn m (made_in source) i → IsTypeIn m ty → IsTypedInst m ty j → instruction (structs_in source) s (inst_in source i) ≡ Some (instruction_of (source_trees source) j)
      → tree ty ≡ option_map_or (λ (τ : TypeTree). τ) (result_type (inst_in source i)) VoidType → (result_type (inst_in source i) ≡ None → name ≡ []) → IsBodyInst real (record { name = name; block = block; ty = ty; inst = j })
  inst_body name block ty (code_inst.TheVariants.Row said) (I.Row r) g lt t h type unnamed = row_body name block ty said r g lt t h type unnamed
  inst_body name block ty (code_inst.TheVariants.Row said) (I.Phi u made) g lt t h type unnamed =
      let end : D.Instruction = D.Phi (map (entry_of (source_trees source)) made) in
      let os = bind_found (all_of (λ (x : L.Typed). operand (structs_in source) s x.type x.said) (map (typed_in source) said.operands)) _ end h in
      let bs = bind_found (all_of (block_of s) (map (text_of source.bytes.now) said.targets)) _ end os.2 in
      let fit = cond_found (fits_trees said.op (option_map tree said.written) (map (λ (x : L.Typed). x.type) (map (typed_in source) said.operands))) _ end bs.2 in
      absurd (cc (fit.1))
  inst_body name block ty (code_inst.TheVariants.Phi u es) (I.Row r) g lt t h type unnamed =
      let p = bind_found (all_of (entry (structs_in source) s (tree u)) (map (entry_in source) es)) _ (D.Applied (row_of (source_trees source) r)) h in
      absurd (cc (p.2))
  inst_body name block ty (code_inst.TheVariants.Phi u es) (I.Phi v made) g lt t h type unnamed =
      let end : D.Instruction = D.Phi (map (entry_of (source_trees source)) made) in
      let p = bind_found (all_of (entry (structs_in source) s (tree u)) (map (entry_in source) es)) _ end h in
      let same : p.0 ≡ map (entry_of (source_trees source)) made = cc (p.2) in
      let entries = entries_right (tree u) es made g.1 (p.1 ∙ ap Some same) in
      let is : ty ≡ v = (apart m good.sound).types ty v lt t.0 t.1 in
      subst (λ (w : LLVMType). IsBodyInst real (record { name = name; block = block; ty = ty; inst = I.Phi w made })) is (phi_right m f body good.sound (slice_get_within m.functions f.0 x at) there name block ty made lt entries)

  inst_right : (l : code_line.Line) (z : InstData) → IsInstIn m (made_in source) l.inst → IsTypedBody m z → IsMadeOf source s l z → (result_type (line_in source l).inst ≡ None → z.name ≡ []) → IsBodyInst real z
  inst_right l z g t made unnamed = inst_body z.name z.block z.ty l.inst z.inst g t.0 t.1 made.inst made.type unnamed

  -- a line without a result has no name
  unnamed_line : (u : spec.Scope) (k : ℕ) (l : code_line.Line) (w : spec.Scope) (name : List ℕ) → result_scope u k (result_type (line_in source l).inst) (line_in source l).result ≡ Some w → name ≡ written_name local_key (line_in source l).result
      → result_type (line_in source l).inst ≡ None → name ≡ []
  unnamed_line u k l w name h e none = by (line_in source l).result (sym (ap (λ (o : Option TypeTree). result_scope u k o (line_in source l).result) none) ∙ h) e
    where
      by : (o : Option L.Text) → result_scope u k None o ≡ Some w → name ≡ written_name local_key o → name ≡ []
      by None h e = e
      by (Some t) h e = absurd cc

  insts_right : (n k : ℕ) (ls : List code_line.Line) (zs : List InstData) (u w : spec.Scope) → All (λ (l : code_line.Line). IsInstIn m (made_in source) l.inst) ls → AreTypedInsts m zs
      → all_from (placed (structs_in source) s) n (map (line_in source) ls) ≡ Some (placed_from (source_trees source) n zs) → lines_scope u k (map (line_in source) ls) ≡ Some w → All (IsBodyInst real) zs
  insts_right n k ls [] u w g t h c = All-nil (IsBodyInst real)
  insts_right n k [] (z ∷ zs) u w g t h c = absurd cc
  insts_right n k (l ∷ ls) (z ∷ zs) u w g t h c =
      let p = cons_found (placed (structs_in source) s n (line_in source l)) (all_from (placed (structs_in source) s) (suc n) (map (line_in source) ls)) (placed_one (source_trees source) n z) (placed_from (source_trees source) (n + 1) zs) h in
      let d = bind_found (result_scope u k (result_type (line_in source l).inst) (line_in source l).result) _ w c in
      let one = made_of source s n l z p.0 in
      let e : n + 1 ≡ suc n = omega arith in
      All-cons (IsBodyInst real) z zs
      (inst_right l z (All-head (λ (l : code_line.Line). IsInstIn m (made_in source) l.inst) l ls g) (All-head (IsTypedBody m) z zs t) one (unnamed_line u k l d.0 z.name d.1 one.name))
      (insts_right (suc n) (suc k) ls zs d.0 w (All-tail (λ (l : code_line.Line). IsInstIn m (made_in source) l.inst) l ls g) (All-tail (IsTypedBody m) z zs t) (p.1 ∙ ap (λ (i : ℕ). Some (placed_from (source_trees source) i zs)) e) d.2)

  lines_in_parts : (parts : List Part) → All (IsPartIn m (made_in source)) parts → All (λ (l : code_line.Line). IsInstIn m (made_in source) l.inst) (lines_of parts)
  lines_in_parts [] h = All-nil (λ (l : code_line.Line). IsInstIn m (made_in source) l.inst)
  lines_in_parts (Label n ∷ parts) h = lines_in_parts parts (All-tail (IsPartIn m (made_in source)) (Label n) parts h)
  lines_in_parts (Does l ∷ parts) h = All-cons (λ (l : code_line.Line). IsInstIn m (made_in source) l.inst) l (lines_of parts) (All-head (IsPartIn m (made_in source)) (Does l) parts h) (lines_in_parts parts (All-tail (IsPartIn m (made_in source)) (Does l) parts h))

  pub body_right : (b n c k : ℕ) (bs : List code_block.SaidBlock) (ys : List BodyBlock) (u w : spec.Scope) → All (HasLinesIn m (made_in source)) bs → AreTypedBlocks m ys
      → blocks_data (structs_in source) s b n (map (block_in source) bs) ≡ Some (blocks_from (source_trees source) b n ys) → blocks_scope u c k (map (block_in source) bs) ≡ Some w → All (λ (y : BodyBlock). All (IsBodyInst real) y.insts) ys
  body_right b n c k bs [] u w g t h d = All-nil (λ (y : BodyBlock). All (IsBodyInst real) y.insts)
  body_right b n c k [] (y ∷ ys) u w g t h d = absurd cc
  body_right b n c k (a ∷ bs) (y ∷ ys) u w g t h d =
      let p = block_made source s b n a bs y ys h in
      let first = bind_found (define_written u (BlockLocal c) label_key (block_in source a).label) _ w d in
      let lines = bind_found (lines_scope first.0 k (map (line_in source) (lines_of a.lines.now))) _ w first.2 in
      let e : b + 1 ≡ suc b = omega arith in
      let types = insts_types source s n (lines_of a.lines.now) y.insts p.0 in
      let size = ap (λ (ts : List TypeTree). length ts) types in
      let many = length-map y.insts (λ (z : InstData). type_at (types_in source) z.ty) in
      let more = length-map (lines_of a.lines.now) (type_or_void source) in
      let count = length-map (lines_of a.lines.now) (line_in source) in
      let q : n + length y.insts ≡ n + length (map (line_in source) (lines_of a.lines.now)) = omega (arith, size, many, more, count) in
      All-cons (λ (y : BodyBlock). All (IsBodyInst real) y.insts) y ys
      (insts_right n k (lines_of a.lines.now) y.insts first.0 lines.0 (lines_in_parts a.lines.now (All-head (HasLinesIn m (made_in source)) a bs g)) (All-head (λ (b : BodyBlock). AreTypedInsts m b.insts) y ys t) p.0 lines.1)
      (body_right (suc b) (n + length (map (line_in source) (lines_of a.lines.now))) (suc c) (k + length (map (line_in source) (lines_of a.lines.now))) bs ys lines.0 w (All-tail (HasLinesIn m (made_in source)) a bs g) (All-tail (λ (b : BodyBlock). AreTypedInsts m b.insts) y ys t)
      (p.1 ∙ ap (λ (i : ℕ). Some (blocks_from (source_trees source) i (n + length y.insts) ys)) e ∙ ap (λ (i : ℕ). Some (blocks_from (source_trees source) (suc b) i ys)) q) lines.2)

-- a body that is made of a function is one that its module takes, where the function is there
pub made_right : (source : Source) (f : LLVMFunction) (b n : ℕ) (said : code_function.Function) (ps : List code_param.Param) (xs ys : List code_block.SaidBlock) (scope : code_scope.Scope) (body : List BodyBlock)
    → ps ≡ said.params.items → ys ≡ xs → IsSource source → All (HasLinesIn source.module.now (made_in source)) ys → AreTypedBlocks source.module.now body → MadeBlocks source scope ys body
    → (s : spec.Scope) × (function_scope source f.0 b n ps xs ≡ Some s) × Knows (types_in source) scope s → ((k : Key) (y : Local) → local_at scope k ≡ Some y → IsNamed source f b n ps xs y)
    → IsNext source.module.now f b n said → IsBodyOf source.module.now f body
made_right source f b n said ps xs ys scope body params_at blocks_at good lines typed made known named next =
    let s = known.0 in
    let m = source.module.now in
    let t = bind_found (params_scope spec.empty_scope f.0 0 (map (param_in source) ps)) (λ t. blocks_scope t b n (map (block_in source) xs)) s known.1 in
    let told : blocks_data (structs_in source) s b n (map (block_in source) xs) ≡ Some (blocks_from (source_trees source) b n body) = subst (λ (zs : List code_block.SaidBlock). blocks_data (structs_in source) s b n (map (block_in source) zs) ≡ Some (blocks_from (source_trees source) b n body)) blocks_at (made.is s b n known.2) in
    let only = only_names source f b n ps xs scope s known.2 named in
    let here = subst (λ (k : ℕ). OnlyNames source f k (length m.insts) ps xs s) next.blocks (subst (λ (k : ℕ). OnlyNames source f b k ps xs s) next.insts only) in
    let shown = blocks_types source s b n xs body told in
    let types = next.types ∙ ap (λ (qs : List code_param.Param). map (λ (p : code_param.Param). p.ty) qs) (sym params_at) in
    let names = next.names ∙ ap (λ (qs : List code_param.Param). length qs) (sym params_at) in
    body_right source f ps xs body next.function good next.there types names shown.0 shown.1 s here (are_types m body typed) b n b n xs body t.0 s (subst (λ (zs : List code_block.SaidBlock). All (HasLinesIn m (made_in source)) zs) blocks_at lines) typed told t.2
