-- What the lines of a function name is there in the module that has its body, with the type that is asked for.
use Rattle.std.proofs.Common.{◌≡◌, ◌<◌, ◌+◌, ◌⊎◌, inl, inr, ℕ, zero, suc, Bool, true, false, if◌then◌else◌, List, [], ◌∷◌, ◌++◌, Option, Some, None, map, take, length, slice_get, refl, ap, sym, ◌∙◌, subst, arith}
use Rattle.std.specs.List.{flat_map}
use Rattle.std.specs.Option.{option_map, option_and_then, option_map_or}
use Rattle.std.proofs.lemmas.Option.{slice_get_within, slice_get-map, same_Some}
use Rattle.std.proofs.lemmas.List.{get_or_past}
use Rattle.std.proofs.Common.{◌≤◌, get_or}
use Rattle.support.proofs.ListLaws.{slice_get-behind, slice_get-kept, item_there}
use Rattle.kinds.specs.Types.{TypeTree, VoidType, same_tree}
use Rattle.kinds.specs.Held.{width_in}
use Rattle.kinds.proofs.TypeLaws.{tree_told}
use Rattle.llvm_core.specs.declared.numbers.LLVMFunction.{LLVMFunction}
use Rattle.llvm_core.specs.declared.numbers.LLVMBasicBlock.{LLVMBasicBlock}
use Rattle.llvm_core.specs.declared.numbers.LLVMType.{LLVMType}
use Rattle.llvm_core.specs.declared.types.LLVMTypeKind.TheVariants as T
use Rattle.llvm_core.specs.declared.code.FunctionData.{FunctionData}
use Rattle.llvm_core.specs.declared.code.LLVMValue.{LLVMValue}
use Rattle.llvm_core.specs.declared.code.LLVMValue.TheVariants as V
use Rattle.llvm_core.specs.declared.code.InstData.{InstData}
use Rattle.llvm_core.specs.declared.bodies.BodyBlock.{BodyBlock}
use Rattle.llvm_core.specs.Module.{Module}
use Rattle.llvm_core.specs.Sound.{IsModule}
use Rattle.llvm_core.specs.Parts.{IsValue, IsBlock, value_type, type_params, param_types}
use Rattle.llvm_core.specs.Parts as P
use Rattle.llvm_core.specs.Data as D
use Rattle.llvm_core.specs.Data.{Operand, ConstTree, IntConst, type_at, const_at, const_type, trees_of, operand_of}
use Rattle.llvm_core.specs.declared.numbers.LLVMConst.{LLVMConst}
use Rattle.llvm_core.specs.declared.consts.LLVMConstKind.{LLVMConstKind}
use Rattle.llvm_core.specs.declared.consts.LLVMConstKind.TheVariants as C
use Rattle.llvm_core.proofs.DataLemmas.{const_tree_of, int_tree_of}
use Rattle.llvm_core.proofs.TreeLemmas.{length-after}
use Rattle.llvm_core.specs.Data.{const_tree, type_trees}
use Rattle.llvm_core.specs.Bodies.{added}
use Rattle.llvm_core.proofs.BodyTypes.{all_insts, old_type, old_value, new_type, new_value, new_block}
use Rattle.llvm_core.specs.declared.numbers.LLVMInstRef.{LLVMInstRef}
use Rattle.std.specs.Prelude.{IfSome}
use Rattle.ll_bodies.specs.TableViews.{number_in}
use Rattle.ll_bodies.proofs.TableLaws.{number_means, number_there}
use Rattle.ll_bodies.proofs.OperandLaws.{const_told}
use Rattle.ll_lines.specs.declared.lines.Said as code_said
use Rattle.ll_lines.specs.declared.names.Name.{Name}
use Rattle.ll_lines.specs.Views.{IsSaidIn, text_of}
use Rattle.ll_bodies.specs.FunctionViews.{IsNamed}
use Rattle.ll_bodies.specs.Meaning.{operand}
use Rattle.ll_bodies.specs.Scopes.{local_key, local_of, block_of}
use Rattle.ll_bodies.specs.SourceViews.{structs_in, made_in, const_in, IsSource, said_in}
use Rattle.ll_lines.specs.declared.lines.Param as code_param
use Rattle.ll_lines.specs.declared.lines.Line as code_line
use Rattle.ll_literals.specs.Chain.{◌>>=◌}
use Rattle.ll_bodies.specs.declared.blocks.SaidBlock as code_block
use Rattle.ll_bodies.specs.declared.results.Source.{Source}
use Rattle.ll_bodies.specs.declared.scope.Local.{Local}
use Rattle.ll_bodies.specs.declared.scope.Local.TheVariants as K
use Rattle.ll_bodies.specs.Scopes as spec
use Rattle.ll_bodies.specs.Scopes.{Key}
use Rattle.ll_bodies.specs.Scopes.{ValueLocal, BlockLocal, value_of_type, option_block}
use Rattle.ll_bodies.specs.Meaning.{result_type}
use Rattle.ll_bodies.specs.BlockViews.{lines_of}
use Rattle.ll_bodies.specs.declared.scope.Scope as code_scope
use Rattle.ll_bodies.specs.ScopeViews.{local_view, local_at, Knows}
use Rattle.ll_bodies.specs.SourceViews.{types_in, source_trees, line_in, count_lines}

-- ---- what is found

pub bind_found : {A B : Type 0} (o : Option A) (f : A → Option B) (y : B) → (o >>= f) ≡ Some y → (x : A) × (o ≡ Some x) × (f x ≡ Some y)
bind_found None f y h = absurd cc
bind_found (Some x) f y h = (x, refl, h)

pub cond_found : {A : Type 0} (t : Bool) (a b : A) → (if t then Some a else None) ≡ Some b → (t ≡ true) × (a ≡ b)
cond_found true a b h = (refl, same_Some a b h)
cond_found false a b h = absurd cc

-- what is found under a key, if there is one
found_under : {A B : Type 0} (o : Option A) (f : A → Option B) (y : B) → option_and_then f o ≡ Some y → (x : A) × (o ≡ Some x) × (f x ≡ Some y)
found_under None f y e = absurd cc
found_under (Some x) f y e = (x, refl, e)

pub value_found : (τ : TypeTree) (o : Option spec.Local) (w : Operand) → value_of_type τ o ≡ Some w → o ≡ Some (ValueLocal w τ)
value_found τ None w h = absurd cc
value_found τ (Some (BlockLocal b)) w h = absurd cc
value_found τ (Some (ValueLocal o υ)) w h =
    let p = cond_found (same_tree υ τ) o w h in
    let same = tree_told υ τ p.0 in
    ap (λ (z : Operand). Some (ValueLocal z υ)) p.1 ∙ ap (λ (z : TypeTree). Some (ValueLocal w z)) same

pub block_found : (o : Option spec.Local) (b : ℕ) → option_block o ≡ Some b → o ≡ Some (BlockLocal b)
block_found None b h = absurd cc
block_found (Some (ValueLocal o υ)) b h = absurd cc
block_found (Some (BlockLocal c)) b h = ap (λ (z : ℕ). Some (BlockLocal z)) (same_Some c b h)

-- ---- lines, block after block

abbrev block_lines : code_block.SaidBlock → List code_line.Line
block_lines x = lines_of x.lines.now

abbrev pub all_lines : List code_block.SaidBlock → List code_line.Line
all_lines xs = flat_map block_lines xs

pub line_at : (xs : List code_block.SaidBlock) (k j : ℕ) (x : code_block.SaidBlock) (l : code_line.Line) → slice_get xs k ≡ Some x → slice_get (lines_of x.lines.now) j ≡ Some l → slice_get (all_lines xs) (count_lines (take k xs) + j) ≡ Some l
line_at [] k j x l h g = absurd cc
line_at (y ∷ xs) zero j x l h g =
    let same : y ≡ x = cc in
    let none : 0 + j ≡ j = omega arith in
    ap (λ (i : ℕ). slice_get (lines_of y.lines.now ++ all_lines xs) i) none
    ∙ slice_get-kept (lines_of y.lines.now) (all_lines xs) j l (subst (λ (z : code_block.SaidBlock). slice_get (lines_of z.lines.now) j ≡ Some l) (sym same) g)
line_at (y ∷ xs) (suc k) j x l h g =
    let e : length (lines_of y.lines.now) + count_lines (take k xs) + j ≡ length (lines_of y.lines.now) + (count_lines (take k xs) + j) = omega arith in
    ap (λ (i : ℕ). slice_get (lines_of y.lines.now ++ all_lines xs) i) e
    ∙ slice_get-behind (lines_of y.lines.now) (all_lines xs) (count_lines (take k xs) + j) ∙ line_at xs k j x l h g

-- ---- constants that are there

abbrev no_const : ConstTree
no_const = IntConst 0 0

length-const_trees : (m : Module) → length (trees_of m).consts ≡ length m.consts
length-const_trees m = let e = length-after (const_tree (type_trees m.types)) no_const [] m.consts in omega (arith, e)

lt_or_ge : (a b : ℕ) → (a < b) ⊎ (b ≤ a)
lt_or_ge zero zero = inr (omega arith)
lt_or_ge zero (suc b) = inl (omega arith)
lt_or_ge (suc a) zero = inr (omega arith)
lt_or_ge (suc a) (suc b) = elim (lt_or_ge a b) [ inl h ↦ inl (omega (arith, h)) | inr h ↦ inr (omega (arith, h)) ]

-- a constant of a module is not what stands for none
real_const : (m : Module) (s : IsModule m) (c : ℕ) → c < length m.consts → get_or (trees_of m).consts c no_const ≡ no_const → ⊥
real_const m s c lt e = by (item_there m.consts c lt).0 (item_there m.consts c lt).1
  where
    by : (k : LLVMConstKind) → slice_get m.consts c ≡ Some k → ⊥
    by (C.Int t v) at =
        let told = const_tree_of m (record { 0 = c }) (C.Int t v) at tt in
        let w = s.consts c (C.Int t v) at in
        let int = ap (λ (τ : TypeTree). IntConst (width_in τ) v) (int_tree_of m t w.0 s w.1) in
        let none : IntConst w.0 v ≡ no_const = sym int ∙ sym told ∙ e in
        let zero : w.0 ≡ 0 = cc (none) in
        absurd (omega (arith, zero, (s.types t.0 (T.Int w.0) w.1).0))
    by (C.Filled fill t) at = let told = const_tree_of m (record { 0 = c }) (C.Filled fill t) at tt in absurd (cc (told, e))
    by (C.Bytes t bytes) at = let told = const_tree_of m (record { 0 = c }) (C.Bytes t bytes) at tt in absurd (cc (told, e))
    by (C.List t elements) at = let told = const_tree_of m (record { 0 = c }) (C.List t elements) at (s.consts_below c (C.List t elements) at) in absurd (cc (told, e))
    by (C.Splat t element) at = let told = const_tree_of m (record { 0 = c }) (C.Splat t element) at (s.consts_below c (C.Splat t element) at) in absurd (cc (told, e))
    by (C.Placeholder number t) at = let told = const_tree_of m (record { 0 = c }) (C.Placeholder number t) at tt in absurd (cc (told, e))

-- a constant that reads as one that is there is there
pub const_there : (m : Module) (s : IsModule m) (a b : LLVMConst) → a.0 < length m.consts → const_at (trees_of m).consts a ≡ const_at (trees_of m).consts b → b.0 < length m.consts
const_there m s a b lt e = elim (lt_or_ge b.0 (length m.consts)) [
  | inl h ↦ h
  | inr past ↦ (let size = length-const_trees m in
      absurd (real_const m s a.0 lt (e ∙ get_or_past (trees_of m).consts b.0 no_const (omega (arith, past, size)))))
]

-- ---- what the scope of a function knows

-- all that is known is of the function
abbrev pub OnlyNames : Source → LLVMFunction → (b n : ℕ) → List code_param.Param → List code_block.SaidBlock → spec.Scope → Type 0
OnlyNames source f b n ps xs s = (k : Key) (z : spec.Local) → s.known k ≡ Some z → (y : Local) × (local_view (types_in source) y ≡ z) × IsNamed source f b n ps xs y

pub only_names : (source : Source) (f : LLVMFunction) (b n : ℕ) (ps : List code_param.Param) (xs : List code_block.SaidBlock) (scope : code_scope.Scope) (s : spec.Scope) → Knows (types_in source) scope s
    → ((k : Key) (y : Local) → local_at scope k ≡ Some y → IsNamed source f b n ps xs y) → OnlyNames source f b n ps xs s
only_names source f b n ps xs scope s knows at k z e = by (local_at scope k) refl (sym (knows.known k) ∙ e)
  where
    by : (o : Option Local) → local_at scope k ≡ o → option_map (local_view (types_in source)) (local_at scope k) ≡ Some z → (y : Local) × (local_view (types_in source) y ≡ z) × IsNamed source f b n ps xs y
    by None is h = absurd cc
    by (Some y) is h = (y, cc (is, h), at k y is)

module _ (source : Source) (f : LLVMFunction) (ps : List code_param.Param) (xs : List code_block.SaidBlock) (body : List BodyBlock) (x : FunctionData) (good : IsSource source)
    (at : slice_get source.module.now.functions f.0 ≡ Some x) (types : type_params source.module.now.types x.ty ≡ map (λ (p : code_param.Param). p.ty) ps) (names : length x.params ≡ length ps)
    (blocks : length body ≡ length xs)
    (made : map (λ (z : InstData). type_at (types_in source) z.ty) (all_insts body) ≡ map (λ (l : code_line.Line). option_map_or (λ (τ : TypeTree). τ) (result_type (line_in source l).inst) VoidType) (all_lines xs)) where
  abbrev m : Module
  m = source.module.now

  abbrev real : Module
  real = added m f body

  abbrev tree : LLVMType → TypeTree
  tree t = type_at (trees_of m).types t

  -- the value is there, with a type of that tree
  abbrev pub Stands : TypeTree → LLVMValue → Type 0
  Stands τ v = IsValue real v × (option_map_or tree (value_type real v) VoidType ≡ τ)

  const_stands : (c : LLVMConst) (τ : TypeTree) → c.0 < length m.consts → const_type (const_at (source_trees source).consts c) ≡ τ → Stands τ (V.Const c)
  const_stands c τ lt e =
      let k = item_there m.consts c.0 lt in
      (lt, ap (λ (o : Option LLVMType). option_map_or tree o VoidType) (ap (option_map P.const_type) k.1) ∙ sym (const_told m good.sound c (P.const_type k.0) lt (ap (option_map P.const_type) k.1)) ∙ e)

  param_stands : (g : LLVMFunction) (place : ℕ) (p : code_param.Param) (τ : TypeTree) → g.0 ≡ f.0 → slice_get ps place ≡ Some p → tree p.ty ≡ τ → Stands τ (V.Param g place)
  param_stands g place p τ e here is =
      let function : slice_get m.functions g.0 ≡ Some x = ap (λ (k : ℕ). slice_get m.functions k) e ∙ at in
      let within = slice_get_within ps place p here in
      let short : place < length x.params = omega (arith, names, within) in
      let there : IsValue m (V.Param g place) = subst (λ (o : Option FunctionData). place < length (option_map_or (λ (y : FunctionData). y.params) o [])) (sym function) short in
      let type : value_type m (V.Param g place) ≡ Some p.ty =
      ap (λ (o : Option FunctionData). slice_get (option_map_or (param_types m) o []) place) function ∙ ap (λ (ts : List LLVMType). slice_get ts place) types
      ∙ slice_get-map (λ (q : code_param.Param). q.ty) ps place ∙ ap (option_map (λ (q : code_param.Param). q.ty)) here in
      (old_value m f body (V.Param g place) there, ap (λ (o : Option LLVMType). option_map_or tree o VoidType) (old_type m f body (V.Param g place) good.sound there ∙ type) ∙ is)

  -- the instruction of a line
  inst_at : (k : ℕ) (l : code_line.Line) → slice_get (all_lines xs) k ≡ Some l → (z : InstData) × (slice_get (all_insts body) k ≡ Some z) × (tree z.ty ≡ option_map_or (λ (τ : TypeTree). τ) (result_type (line_in source l).inst) VoidType)
  inst_at k l here =
      by (slice_get (all_insts body) k) refl
      (sym (slice_get-map (λ (z : InstData). type_at (types_in source) z.ty) (all_insts body) k) ∙ ap (λ (ts : List TypeTree). slice_get ts k) made
      ∙ slice_get-map (λ (l : code_line.Line). option_map_or (λ (τ : TypeTree). τ) (result_type (line_in source l).inst) VoidType) (all_lines xs) k
      ∙ ap (option_map (λ (l : code_line.Line). option_map_or (λ (τ : TypeTree). τ) (result_type (line_in source l).inst) VoidType)) here)
    where
      by : (o : Option InstData) → slice_get (all_insts body) k ≡ o → option_map (λ (z : InstData). type_at (types_in source) z.ty) (slice_get (all_insts body) k) ≡ Some (option_map_or (λ (τ : TypeTree). τ) (result_type (line_in source l).inst) VoidType)
          → (z : InstData) × (slice_get (all_insts body) k ≡ Some z) × (tree z.ty ≡ option_map_or (λ (τ : TypeTree). τ) (result_type (line_in source l).inst) VoidType)
      by None is h = absurd (cc (is, h))
      by (Some z) is h = (z, is, cc (is, h))

  result_stands : (i : LLVMInstRef) (k : ℕ) (l : code_line.Line) (τ : TypeTree) → i.0 ≡ length m.insts + k → slice_get (all_lines xs) k ≡ Some l → result_type (line_in source l).inst ≡ Some τ → Stands τ (V.Inst i)
  result_stands i k l τ e here is =
      let z = inst_at k l here in
      let within = slice_get_within (all_insts body) k z.0 z.1 in
      let there = new_value m f body k within in
      let type = new_type m f body k z.0 z.1 in
      subst (λ (q : ℕ). Stands τ (V.Inst (record { 0 = q }))) (sym e)
      (there, ap (λ (o : Option LLVMType). option_map_or tree o VoidType) type ∙ z.2 ∙ ap (λ (o : Option TypeTree). option_map_or (λ (τ : TypeTree). τ) o VoidType) is)

  module _ (s : spec.Scope) (known : OnlyNames source f (length m.blocks) (length m.insts) ps xs s) where
    of_local : (v : LLVMValue) (τ : TypeTree) (y : Local) → local_view (types_in source) y ≡ ValueLocal (operand_of (source_trees source) v) τ → IsNamed source f (length m.blocks) (length m.insts) ps xs y → Stands τ v
    of_local (V.Const c) τ (K.Param g place ty) e q = absurd cc
    of_local (V.Const c) τ (K.Result i ty) e q = absurd cc
    of_local (V.Const c) τ (K.Block b) e q = absurd cc
    of_local (V.Param g place) τ (K.Result i ty) e q = absurd cc
    of_local (V.Param g place) τ (K.Block b) e q = absurd cc
    of_local (V.Inst i) τ (K.Param g place ty) e q = absurd cc
    of_local (V.Inst i) τ (K.Block b) e q = absurd cc
    of_local (V.Param g place) τ (K.Param h other ty) e (inr q) = elim q.3 [ inl z ↦ absurd z | inr z ↦ absurd z.3 ]
    of_local (V.Param g place) τ (K.Param h other ty) e (inl q) =
        let a : h.0 ≡ g.0 = cc in
        let b : other ≡ place = cc in
        let t : tree ty ≡ τ = cc in
        let c : h.0 ≡ f.0 = cc (q.3) in
        let d : other ≡ q.0 = cc (q.3) in
        let u : ty ≡ q.1.ty = cc (q.3) in
        param_stands g place q.1 τ (sym a ∙ c) (ap (λ (k : ℕ). slice_get ps k) (sym b ∙ d) ∙ q.2) (ap tree (sym u) ∙ t)
    of_local (V.Inst i) τ (K.Result j ty) e (inl q) = absurd (cc (q.3))
    of_local (V.Inst i) τ (K.Result j ty) e (inr q) = elim q.3 [
      | inl z ↦ absurd z
      | inr z ↦ (let a : j.0 ≡ i.0 = cc in
          let t : tree ty ≡ τ = cc in
          let same = z.3.0 in
          result_stands i (count_lines (take q.0 xs) + z.0) z.1 τ (omega (arith, a, same)) (line_at xs q.0 z.0 q.1 z.1 q.2 z.2) (z.3.1 ∙ ap Some t))
    ]

    const_right : (c : LLVMConst) (τ : TypeTree) (v : LLVMValue) → c.0 < length m.consts
        → (if same_tree (const_type (const_at (source_trees source).consts c)) τ then Some (D.Constant (const_at (source_trees source).consts c)) else None) ≡ Some (operand_of (source_trees source) v) → Stands τ v
    const_right c τ v there h =
        let p = cond_found (same_tree (const_type (const_at (source_trees source).consts c)) τ) (D.Constant (const_at (source_trees source).consts c)) (operand_of (source_trees source) v) h in
        by v p.1 (tree_told (const_type (const_at (source_trees source).consts c)) τ p.0)
      where
        by : (v : LLVMValue) → D.Constant (const_at (source_trees source).consts c) ≡ operand_of (source_trees source) v → const_type (const_at (source_trees source).consts c) ≡ τ → Stands τ v
        by (V.Param g place) e t = absurd cc
        by (V.Inst i) e t = absurd cc
        by (V.Const d) e t =
            let same : const_at (source_trees source).consts c ≡ const_at (source_trees source).consts d = cc in
            const_stands d τ (const_there m good.sound c d there same) (ap const_type (sym same) ∙ t)

    pub value_right : (τ : TypeTree) (said : code_said.Said) (v : LLVMValue) → IsSaidIn m (made_in source) said → operand (structs_in source) s τ (said_in source said) ≡ Some (operand_of (source_trees source) v) → Stands τ v
    value_right τ (code_said.TheVariants.Const c) v there h =
        by (number_in source.consts.now c) (number_there source.bytes.now m source.table.now (made_in source) source.consts.now good.made c there)
        (number_means source.bytes.now m source.table.now (made_in source) source.consts.now good.made c there) h
      where
        by : (o : Option LLVMConst) → IfSome o (λ (d : LLVMConst). d.0 < length m.consts) → option_map (const_at (source_trees source).consts) o ≡ const_in source c
            → (const_in source c >>= λ d. if same_tree (const_type d) τ then Some (D.Constant d) else None) ≡ Some (operand_of (source_trees source) v) → Stands τ v
        by None there e h = absurd (let none : None ≡ Some (operand_of (source_trees source) v) = ap (λ o. o >>= λ d. if same_tree (const_type d) τ then Some (D.Constant d) else None) e ∙ h in cc (none))
        by (Some d) there e h = const_right d τ v there (ap (λ o. o >>= λ d. if same_tree (const_type d) τ then Some (D.Constant d) else None) e ∙ h)
    value_right τ (code_said.TheVariants.Local name) v there h =
        let found = value_found τ (local_of s (text_of source.bytes.now name)) (operand_of (source_trees source) v) h in
        let k = found_under (local_key (text_of source.bytes.now name)) s.known (ValueLocal (operand_of (source_trees source) v) τ) found in
        let z = known k.0 (ValueLocal (operand_of (source_trees source) v) τ) k.2 in
        of_local v τ z.0 z.1 z.2

    of_block : (b : LLVMBasicBlock) (y : Local) → local_view (types_in source) y ≡ BlockLocal b.0 → IsNamed source f (length m.blocks) (length m.insts) ps xs y → IsBlock real b
    of_block b (K.Param g place ty) e q = absurd cc
    of_block b (K.Result i ty) e q = absurd cc
    of_block b (K.Block c) e (inl q) = absurd (cc (q.3))
    of_block b (K.Block c) e (inr q) = elim q.3 [
      | inl z ↦ (let a : c.0 ≡ b.0 = cc in
          let within = slice_get_within xs q.0 q.1 q.2 in
          let is : length m.blocks + q.0 ≡ b.0 = omega (arith, a, z) in
          subst (λ (k : ℕ). IsBlock real (record { 0 = k })) is (new_block m f body q.0 (omega (arith, within, blocks))))
      | inr z ↦ absurd z.3
    ]

    pub block_right : (name : Name) (b : LLVMBasicBlock) → block_of s (text_of source.bytes.now name) ≡ Some b.0 → IsBlock real b
    block_right name b h =
        let found = block_found (local_of s (text_of source.bytes.now name)) b.0 h in
        let k = found_under (local_key (text_of source.bytes.now name)) s.known (BlockLocal b.0) found in
        let z = known k.0 (BlockLocal b.0) k.2 in
        of_block b z.0 z.1 z.2
