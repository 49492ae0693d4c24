-- What lines define, one after another.
use Rattle.std.proofs.Common.{◌≡◌, inl, inr, ℕ, suc, ◌+◌, ◌≤◌, List, [], ◌∷◌, ◌++◌, Option, Some, None, map, take, drop, length, slice_get, refl, ap, sym, ◌∙◌, subst, arith}
use Rattle.std.proofs.lemmas.List.{drop_all, map-append, length-map}
use Rattle.llvm_core.specs.Data as D
use Rattle.llvm_core.specs.Data.{TypeTree, type_at}
use Rattle.llvm_core.specs.declared.numbers.LLVMType.{LLVMType}
use Rattle.llvm_core.specs.declared.numbers.LLVMInstRef.{LLVMInstRef}
use Rattle.llvm_core.specs.declared.numbers.LLVMBasicBlock.{LLVMBasicBlock}
use Rattle.ll_lines.specs.Views.{IsTypeIn}
use Rattle.ll_bodies.specs.declared.blocks.SaidBlock as code_block
use Rattle.ll_lines.specs.declared.lines.Part.{Part}
use Rattle.ll_lines.specs.declared.lines.Line as code_line
use Rattle.ll_lines.specs.Lines as L
use Rattle.ll_literals.specs.Chain.{◌>>=◌}
use Rattle.ll_bodies.specs.declared.results.Source.{Source}
use Rattle.ll_bodies.specs.declared.scope.Scope.{Scope}
use Rattle.ll_bodies.specs.declared.scope.Local.{Local}
use Rattle.ll_bodies.specs.declared.scope.Local.TheVariants.{Param, Result, Block}
use Rattle.ll_bodies.specs.Scopes as spec
use Rattle.ll_bodies.specs.Meaning.{lines_scope, blocks_scope, params_scope, result_scope, result_type}
use Rattle.ll_bodies.specs.BlockViews.{lines_of}
use Rattle.ll_bodies.specs.ScopeViews.{Takes, Refuses, Adds}
use Rattle.ll_bodies.specs.SourceViews.{types_in, line_in, lines_in, block_in, name_in, line_scope, block_scope, IsResultAt, IsResultAmong, IsBlockAt, IsOfBlock, IsOfBlocks, count_lines, param_in, param_scope, IsParamAmong}
use Rattle.ll_lines.specs.declared.lines.Param as code_param
use Rattle.llvm_core.specs.declared.numbers.LLVMFunction.{LLVMFunction}
use Rattle.support.proofs.ListLaws.{take_next}
use Rattle.ll_bodies.proofs.BlockLaws.{Reached, drop_at, lines_at, line_reached}
use Rattle.ll_bodies.proofs.ScopeLaws.{Steps, steps_on, steps_refused, steps_end, takes_then, then_refuses, adds_both, adds_weaker}

pub bind_assoc : {A B C : Type 0} (r : Option A) (f : A → Option B) (g : B → Option C) → ((r >>= f) >>= g) ≡ (r >>= λ x. f x >>= g)
bind_assoc None f g = refl
bind_assoc (Some x) f g = refl

pub bind_end : {A : Type 0} (r : Option A) → (r >>= λ x. Some x) ≡ r
bind_end None = refl
bind_end (Some x) = refl

pub bind_same : {A B : Type 0} (r : Option A) (f g : A → Option B) → ((x : A) → f x ≡ g x) → (r >>= f) ≡ (r >>= g)
bind_same None f g h = refl
bind_same (Some x) f g h = h x

-- lines behind lines
pub lines_then : (s : spec.Scope) (n m : ℕ) (xs ys : List L.Line) → m ≡ n + length xs → lines_scope s n (xs ++ ys) ≡ (lines_scope s n xs >>= λ t. lines_scope t m ys)
lines_then s n m [] ys e = let same : n ≡ m = omega (arith, e) in ap (λ k. lines_scope s k ys) same
lines_then s n m (x ∷ xs) ys e =
    bind_same (result_scope s n (result_type x.inst) x.result) _ _ (λ t. lines_then t (suc n) m xs ys (omega (arith, e)))
    ∙ sym (bind_assoc (result_scope s n (result_type x.inst) x.result) (λ t. lines_scope t (suc n) xs) (λ t. lines_scope t m ys))

module _ (source : Source) where
  lines_cut : (parts : List Part) (at next : ℕ) (p : Part) → slice_get parts at ≡ Some p → next ≡ suc at → lines_in source (drop at parts) ≡ lines_in source (p ∷ []) ++ lines_in source (drop next parts)
  lines_cut parts at next p h e = ap (map (line_in source)) (lines_at parts at next p h e) ∙ map-append (line_in source) (lines_of (p ∷ [])) (lines_of (drop next parts))

  one_size : (p : Part) → length (lines_in source (p ∷ [])) ≡ length (lines_of (p ∷ []))
  one_size p = length-map (lines_of (p ∷ [])) (line_in source)

  part_then : (s : spec.Scope) (parts : List Part) (at next n m : ℕ) (p : Part) → slice_get parts at ≡ Some p → next ≡ suc at → m ≡ n + length (lines_of (p ∷ []))
      → lines_scope s n (lines_in source (drop at parts)) ≡ (lines_scope s n (lines_in source (p ∷ [])) >>= λ t. lines_scope t m (lines_in source (drop next parts)))
  part_then s parts at next n m p h e k =
      let size = one_size p in
      let k' : m ≡ n + length (lines_in source (p ∷ [])) = omega (arith, size, k) in
      ap (lines_scope s n) (lines_cut parts at next p h e) ∙ lines_then s n m (lines_in source (p ∷ [])) (lines_in source (drop next parts)) k'

  pub lines_more : (old now new : Scope) (parts : List Part) (at next first n m : ℕ) (p : Part) → slice_get parts at ≡ Some p → next ≡ suc at → m ≡ n + length (lines_of (p ∷ []))
      → Steps (types_in source) old now (λ s. lines_scope s first (lines_in source parts)) (λ s. lines_scope s n (lines_in source (drop at parts)))
      → Takes (types_in source) now new (λ s. lines_scope s n (lines_in source (p ∷ [])))
      → Steps (types_in source) old new (λ s. lines_scope s first (lines_in source parts)) (λ s. lines_scope s m (lines_in source (drop next parts)))
  lines_more old now new parts at next first n m p h e k st tk =
      steps_on (types_in source) old now new _ _ (λ s. lines_scope s m (lines_in source (drop next parts))) (λ s. lines_scope s n (lines_in source (p ∷ []))) st tk (λ t. part_then t parts at next n m p h e k)

  pub lines_refused : (old now : Scope) (parts : List Part) (at first n : ℕ) (p : Part) → slice_get parts at ≡ Some p
      → Steps (types_in source) old now (λ s. lines_scope s first (lines_in source parts)) (λ s. lines_scope s n (lines_in source (drop at parts)))
      → Refuses (types_in source) now (λ s. lines_scope s n (lines_in source (p ∷ [])))
      → Refuses (types_in source) old (λ s. lines_scope s first (lines_in source parts))
  lines_refused old now parts at first n p h st rf =
      steps_refused (types_in source) old now _ _ (λ s. lines_scope s (n + length (lines_of (p ∷ []))) (lines_in source (drop (suc at) parts))) (λ s. lines_scope s n (lines_in source (p ∷ []))) st rf (λ t. part_then t parts at (suc at) n _ p h refl refl)

  pub lines_end : (old now : Scope) (parts : List Part) (at first n : ℕ) → length parts ≤ at
      → Steps (types_in source) old now (λ s. lines_scope s first (lines_in source parts)) (λ s. lines_scope s n (lines_in source (drop at parts)))
      → Takes (types_in source) old now (λ s. lines_scope s first (lines_in source parts))
  lines_end old now parts at first n past st = steps_end (types_in source) old now _ _ st (λ t. ap (λ ps. lines_scope t n (lines_in source ps)) (drop_all at parts past))

  numbered : (y : Local) (l : code_line.Line) (n m : ℕ) → n ≡ m → IsResultAt source n l y → IsResultAt source m l y
  numbered y l n m e h = subst (λ k. IsResultAt source k l y) e h

  pub lines_add : (old now new : Scope) (parts : List Part) (at next first n : ℕ) (p : Part) → slice_get parts at ≡ Some p → next ≡ suc at → Reached parts at first n
      → Adds (IsResultAmong source first (lines_of parts)) old now → Adds (IsResultAmong source n (lines_of (p ∷ []))) now new → Adds (IsResultAmong source first (lines_of parts)) old new
  lines_add old now new parts at next first n p h e r a b =
      adds_both (IsResultAmong source first (lines_of parts)) old now new a
      (adds_weaker (IsResultAmong source n (lines_of (p ∷ []))) (IsResultAmong source first (lines_of parts)) now new
      (λ y q. let k = line_reached parts at next first n q.0 p q.1 h e r q.2 in (k.0, q.1, k.1, numbered y q.1 (n + q.0) (first + k.0) (sym k.2) q.3)) b)

  -- ---- the result of one line

  pub one_line : (old new : Scope) (n : ℕ) (l : code_line.Line) → Takes (types_in source) old new (line_scope source n l) → Takes (types_in source) old new (λ s. lines_scope s n (line_in source l ∷ []))
  one_line old new n l h = λ s in_old. let a = h s in_old in (a.0, bind_end (line_scope source n l s) ∙ a.1, a.2)

  pub one_refused : (old : Scope) (n : ℕ) (l : code_line.Line) → Refuses (types_in source) old (line_scope source n l) → Refuses (types_in source) old (λ s. lines_scope s n (line_in source l ∷ []))
  one_refused old n l h = λ s in_old. bind_end (line_scope source n l s) ∙ h s in_old

  pub one_added : (old new : Scope) (n : ℕ) (l : code_line.Line) → Adds (IsResultAt source n l) old new → Adds (IsResultAmong source n (l ∷ [])) old new
  one_added old new n l a = adds_weaker (IsResultAt source n l) (IsResultAmong source n (l ∷ [])) old new (λ y h. (0, l, refl, numbered y l n (n + 0) (let e : n ≡ n + 0 = omega arith in e) h)) a

  pub some_result : (n : ℕ) (l : code_line.Line) (τ : TypeTree) → result_type (line_in source l).inst ≡ Some τ
      → (s : spec.Scope) → spec.define_written s (spec.ValueLocal (D.Result n) τ) spec.local_key (name_in source l.result) ≡ line_scope source n l s
  some_result n l τ e s = sym (ap (λ o. result_scope s n o (name_in source l.result)) e)

  pub result_added : (old new : Scope) (n : ℕ) (l : code_line.Line) (i : LLVMInstRef) (ty : LLVMType) → i.0 ≡ n → result_type (line_in source l).inst ≡ Some (type_at (types_in source) ty) → IsTypeIn source.module.now ty
      → Adds (λ (y : Local). y ≡ Result i ty) old new → Adds (IsResultAt source n l) old new
  result_added old new n l i ty e t there a = adds_weaker (λ (y : Local). y ≡ Result i ty) (IsResultAt source n l) old new (λ y same. subst (IsResultAt source n l) (sym same) (e, t, there)) a

  -- ---- a block

  -- the block defines its label
  abbrev pub label_scope : (b : ℕ) → code_block.SaidBlock → spec.Scope → Option spec.Scope
  label_scope b x = λ s. spec.define_written s (spec.BlockLocal b) spec.label_key (block_in source x).label

  pub block_takes : (old now new : Scope) (b n : ℕ) (x : code_block.SaidBlock) → Takes (types_in source) old now (label_scope b x)
      → Takes (types_in source) now new (λ s. lines_scope s n (block_in source x).lines) → Takes (types_in source) old new (block_scope source b n x)
  block_takes old now new b n x h g = takes_then (types_in source) old now new (label_scope b x) (λ s. lines_scope s n (block_in source x).lines) h g

  pub label_refused : (old : Scope) (b n : ℕ) (x : code_block.SaidBlock) → Refuses (types_in source) old (label_scope b x) → Refuses (types_in source) old (block_scope source b n x)
  label_refused old b n x h = λ s in_old. ap (λ o. o >>= λ t. lines_scope t n (block_in source x).lines) (h s in_old)

  pub block_lines_refused : (old now : Scope) (b n : ℕ) (x : code_block.SaidBlock) → Takes (types_in source) old now (label_scope b x)
      → Refuses (types_in source) now (λ s. lines_scope s n (block_in source x).lines) → Refuses (types_in source) old (block_scope source b n x)
  block_lines_refused old now b n x h g = then_refuses (types_in source) old now (label_scope b x) (λ s. lines_scope s n (block_in source x).lines) h g

  pub block_adds : (old now new : Scope) (b n : ℕ) (x : code_block.SaidBlock) (r : LLVMBasicBlock) → r.0 ≡ b → Adds (λ (y : Local). y ≡ Block r) old now → Adds (IsResultAmong source n (lines_of x.lines.now)) now new → Adds (IsOfBlock source b n x) old new
  block_adds old now new b n x r e h g = adds_both (IsOfBlock source b n x) old now new
      (adds_weaker (λ (y : Local). y ≡ Block r) (IsOfBlock source b n x) old now (λ y same. inl (subst (IsBlockAt b) (sym same) e)) h)
      (adds_weaker (IsResultAmong source n (lines_of x.lines.now)) (IsOfBlock source b n x) now new (λ y q. inr q) g)

  -- ---- blocks

  pub block_then : (s : spec.Scope) (xs : List code_block.SaidBlock) (at next b c n m : ℕ) (x : code_block.SaidBlock) → slice_get xs at ≡ Some x → next ≡ suc at → c ≡ b + 1 → m ≡ n + length (lines_of x.lines.now)
      → blocks_scope s b n (map (block_in source) (drop at xs)) ≡ (block_scope source b n x s >>= λ t. blocks_scope t c m (map (block_in source) (drop next xs)))
  block_then s xs at next b c n m x h e d k =
      let size = length-map (lines_of x.lines.now) (line_in source) in
      let d' : suc b ≡ c = omega (arith, d) in
      let k' : n + length (block_in source x).lines ≡ m = omega (arith, size, k) in
      ap (λ ys. blocks_scope s b n (map (block_in source) ys)) (drop_at xs at x h)
      ∙ sym (bind_assoc (spec.define_written s (spec.BlockLocal b) spec.label_key (block_in source x).label) (λ t. lines_scope t n (block_in source x).lines) (λ t. blocks_scope t (suc b) (n + length (block_in source x).lines) (map (block_in source) (drop (suc at) xs))))
      ∙ bind_same (block_scope source b n x s) _ _ (λ t. rw (d', k', e) refl)

  pub blocks_more : (old now new : Scope) (xs : List code_block.SaidBlock) (at next first_block first b c n m : ℕ) (x : code_block.SaidBlock) → slice_get xs at ≡ Some x → next ≡ suc at → c ≡ b + 1 → m ≡ n + length (lines_of x.lines.now)
      → Steps (types_in source) old now (λ s. blocks_scope s first_block first (map (block_in source) xs)) (λ s. blocks_scope s b n (map (block_in source) (drop at xs)))
      → Takes (types_in source) now new (block_scope source b n x)
      → Steps (types_in source) old new (λ s. blocks_scope s first_block first (map (block_in source) xs)) (λ s. blocks_scope s c m (map (block_in source) (drop next xs)))
  blocks_more old now new xs at next first_block first b c n m x h e d k st tk =
      steps_on (types_in source) old now new _ _ (λ s. blocks_scope s c m (map (block_in source) (drop next xs))) (block_scope source b n x) st tk (λ t. block_then t xs at next b c n m x h e d k)

  pub blocks_refused : (old now : Scope) (xs : List code_block.SaidBlock) (at first_block first b n : ℕ) (x : code_block.SaidBlock) → slice_get xs at ≡ Some x
      → Steps (types_in source) old now (λ s. blocks_scope s first_block first (map (block_in source) xs)) (λ s. blocks_scope s b n (map (block_in source) (drop at xs)))
      → Refuses (types_in source) now (block_scope source b n x)
      → Refuses (types_in source) old (λ s. blocks_scope s first_block first (map (block_in source) xs))
  blocks_refused old now xs at first_block first b n x h st rf =
      steps_refused (types_in source) old now _ _ (λ s. blocks_scope s (b + 1) (n + length (lines_of x.lines.now)) (map (block_in source) (drop (suc at) xs))) (block_scope source b n x) st rf (λ t. block_then t xs at (suc at) b (b + 1) n _ x h refl refl refl)

  pub blocks_end : (old now : Scope) (xs : List code_block.SaidBlock) (at first_block first b n : ℕ) → length xs ≤ at
      → Steps (types_in source) old now (λ s. blocks_scope s first_block first (map (block_in source) xs)) (λ s. blocks_scope s b n (map (block_in source) (drop at xs)))
      → Takes (types_in source) old now (λ s. blocks_scope s first_block first (map (block_in source) xs))
  blocks_end old now xs at first_block first b n past st = steps_end (types_in source) old now _ _ st (λ t. ap (λ ys. blocks_scope t b n (map (block_in source) ys)) (drop_all at xs past))

  pub blocks_add : (old now new : Scope) (xs : List code_block.SaidBlock) (at first_block first b n : ℕ) (x : code_block.SaidBlock) → slice_get xs at ≡ Some x → b ≡ first_block + at → n ≡ first + count_lines (take at xs)
      → Adds (IsOfBlocks source first_block first xs) old now → Adds (IsOfBlock source b n x) now new → Adds (IsOfBlocks source first_block first xs) old new
  blocks_add old now new xs at first_block first b n x h is count a g =
      adds_both (IsOfBlocks source first_block first xs) old now new a
      (adds_weaker (IsOfBlock source b n x) (IsOfBlocks source first_block first xs) now new (λ y q. (at, x, h, subst (λ k. IsOfBlock source (first_block + at) k x y) count (subst (λ k. IsOfBlock source k n x y) is q))) g)

  -- ---- parameters

  pub param_then : (s : spec.Scope) (ps : List code_param.Param) (f at next : ℕ) (p : code_param.Param) → slice_get ps at ≡ Some p → next ≡ at + 1
      → params_scope s f at (map (param_in source) (drop at ps)) ≡ (param_scope source f at p s >>= λ t. params_scope t f next (map (param_in source) (drop next ps)))
  param_then s ps f at next p h e =
      let e' : suc at ≡ next = omega (arith, e) in
      ap (λ xs. params_scope s f at (map (param_in source) xs)) (drop_at ps at p h)
      ∙ bind_same (param_scope source f at p s) _ _ (λ t. ap (λ (k : ℕ). params_scope t f k (map (param_in source) (drop k ps))) e')

  pub params_more : (old now new : Scope) (ps : List code_param.Param) (f at next : ℕ) (p : code_param.Param) → slice_get ps at ≡ Some p → next ≡ at + 1
      → Steps (types_in source) old now (λ s. params_scope s f 0 (map (param_in source) ps)) (λ s. params_scope s f at (map (param_in source) (drop at ps)))
      → Takes (types_in source) now new (param_scope source f at p)
      → Steps (types_in source) old new (λ s. params_scope s f 0 (map (param_in source) ps)) (λ s. params_scope s f next (map (param_in source) (drop next ps)))
  params_more old now new ps f at next p h e st tk =
      steps_on (types_in source) old now new _ _ (λ s. params_scope s f next (map (param_in source) (drop next ps))) (param_scope source f at p) st tk (λ t. param_then t ps f at next p h e)

  pub params_refused : (old now : Scope) (ps : List code_param.Param) (f at : ℕ) (p : code_param.Param) → slice_get ps at ≡ Some p
      → Steps (types_in source) old now (λ s. params_scope s f 0 (map (param_in source) ps)) (λ s. params_scope s f at (map (param_in source) (drop at ps)))
      → Refuses (types_in source) now (param_scope source f at p)
      → Refuses (types_in source) old (λ s. params_scope s f 0 (map (param_in source) ps))
  params_refused old now ps f at p h st rf =
      steps_refused (types_in source) old now _ _ (λ s. params_scope s f (at + 1) (map (param_in source) (drop (at + 1) ps))) (param_scope source f at p) st rf (λ t. param_then t ps f at (at + 1) p h refl)

  pub params_end : (old now : Scope) (ps : List code_param.Param) (f at : ℕ) → length ps ≤ at
      → Steps (types_in source) old now (λ s. params_scope s f 0 (map (param_in source) ps)) (λ s. params_scope s f at (map (param_in source) (drop at ps)))
      → Takes (types_in source) old now (λ s. params_scope s f 0 (map (param_in source) ps))
  params_end old now ps f at past st = steps_end (types_in source) old now _ _ st (λ t. ap (λ xs. params_scope t f at (map (param_in source) xs)) (drop_all at ps past))

pub params_add : (f : LLVMFunction) (old now new : Scope) (ps : List code_param.Param) (at : ℕ) (p : code_param.Param) → slice_get ps at ≡ Some p
    → Adds (IsParamAmong f ps) old now → Adds (λ (y : Local). y ≡ Param f at p.ty) now new → Adds (IsParamAmong f ps) old new
params_add f old now new ps at p h a g = adds_both (IsParamAmong f ps) old now new a (adds_weaker (λ (y : Local). y ≡ Param f at p.ty) (IsParamAmong f ps) now new (λ y same. (at, p, h, same)) g)

count_append : (xs ys : List code_block.SaidBlock) → count_lines (xs ++ ys) ≡ count_lines xs + count_lines ys
count_append [] ys = omega arith
count_append (x ∷ xs) ys = let e = count_append xs ys in omega (arith, e)

-- one more block
pub count_more : (xs : List code_block.SaidBlock) (at first n m : ℕ) (x : code_block.SaidBlock) → slice_get xs at ≡ Some x → n ≡ first + count_lines (take at xs) → m ≡ n + length (lines_of x.lines.now) → m ≡ first + count_lines (take (at + 1) xs)
count_more xs at first n m x h e k =
    let a = ap count_lines (take_next xs at x h) ∙ count_append (take at xs) (x ∷ []) in
    omega (arith, a, e, k)
