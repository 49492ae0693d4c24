-- A function's body is made of its scope and its blocks.
use Rattle.std.proofs.Common.{◌≡◌, refl, inl, inr, ℕ, List, Option, Some, None, All, map, ap, sym, ◌∙◌, subst}
use Rattle.llvm_core.specs.declared.numbers.LLVMFunction.{LLVMFunction}
use Rattle.llvm_core.proofs.DataLemmas.{within_at}
use Rattle.ll_lines.specs.declared.lines.Param as code_param
use Rattle.ll_lines.specs.declared.lines.Function as code_function
use Rattle.ll_lines.specs.Views.{IsTypeIn, part_view}
use Rattle.ll_literals.specs.Chain.{◌>>=◌}
use Rattle.ll_literals.specs.Names.{symbol_name}
use Rattle.ll_bodies.specs.declared.blocks.SaidBlock as code_block
use Rattle.ll_bodies.specs.declared.results.Source.{Source}
use Rattle.ll_bodies.specs.declared.scope.Local.{Local}
use Rattle.ll_bodies.specs.declared.scope.Local.TheVariants as K
use Rattle.ll_bodies.specs.declared.scope.Scope.{Scope}
use Rattle.ll_bodies.specs.Scopes as spec
use Rattle.ll_bodies.specs.Scopes.{Key}
use Rattle.ll_bodies.specs.Meaning.{function_data, params_scope, blocks_of, blocks_scope, blocks_data}
use Rattle.llvm_core.specs.declared.bodies.BodyBlock.{BodyBlock}
use Rattle.llvm_core.specs.Bodies.{blocks_from}
use Rattle.ll_lines.specs.declared.lines.Part.{Part}
use Rattle.ll_bodies.specs.BodyViews.{MadeBlocks}
use Rattle.ll_bodies.specs.ScopeViews.{local_at, Adds, Knows, Refuses}
use Rattle.ll_bodies.specs.SourceViews.{structs_in, table_in, IsParamAmong, IsOfBlocks, IsLocalIn, IsScopeIn, types_in, param_in, block_in, source_trees}
use Rattle.ll_bodies.specs.FunctionViews.{IsNamed, function_in, function_scope, function_body, function_made}
use Rattle.std.specs.Option.{option_map}
use Rattle.llvm_core.specs.Data as L
use Rattle.llvm_core.specs.Data.{Block}
use Rattle.ll_bodies.proofs.DefineLaws.{bind_assoc, bind_same}

module _ (source : Source) where
  of_blocks : (b n : ℕ) (xs : List code_block.SaidBlock) (y : Local) → IsOfBlocks source b n xs y → IsLocalIn source.module.now y
  of_blocks b n xs (K.Param f place ty) q = elim q.3 [ inl h ↦ absurd h | inr h ↦ absurd h.3 ]
  of_blocks b n xs (K.Result i ty) q = elim q.3 [ inl h ↦ absurd h | inr h ↦ h.3.2 ]
  of_blocks b n xs (K.Block x) q = tt

  of_params : (f : LLVMFunction) (ps : List code_param.Param) (y : Local) → All (λ (p : code_param.Param). IsTypeIn source.module.now p.ty) ps → IsParamAmong f ps y → IsLocalIn source.module.now y
  of_params f ps y h q = subst (IsLocalIn source.module.now) (sym q.3) (within_at ps (λ (p : code_param.Param). IsTypeIn source.module.now p.ty) h q.0 q.1 q.2)

  -- all that stands in the scope of a function has a type that is there
  pub scope_in : (f : LLVMFunction) (b n : ℕ) (ps : List code_param.Param) (xs : List code_block.SaidBlock) (none now new : Scope) → ((k : Key) → local_at none k ≡ None)
      → All (λ (p : code_param.Param). IsTypeIn source.module.now p.ty) ps → Adds (IsParamAmong f ps) none now → Adds (IsOfBlocks source b n xs) now new → IsScopeIn source.module.now new
  scope_in f b n ps xs none now new empty types a g = record {
    at = λ k y e.
        elim (g.at k y e) [
          | inl q ↦ of_blocks b n xs y q
          | inr o ↦ elim (a.at k y o) [ inl q ↦ of_params f ps y types q | inr z ↦ absurd (let e : None ≡ Some y = sym (empty k) ∙ z in cc) ]
        ];
  }

  -- all that stands in the scope of a function is of it
  pub named_in : (f : LLVMFunction) (b n : ℕ) (ps : List code_param.Param) (xs : List code_block.SaidBlock) (none now new : Scope) → ((k : Key) → local_at none k ≡ None)
      → Adds (IsParamAmong f ps) none now → Adds (IsOfBlocks source b n xs) now new → (k : Key) (y : Local) → local_at new k ≡ Some y → IsNamed source f b n ps xs y
  named_in f b n ps xs none now new empty a g k y e = elim (g.at k y e) [
    | inl q ↦ inr q
    | inr o ↦ elim (a.at k y o) [ inl q ↦ inl q | inr z ↦ absurd (let e : None ≡ Some y = sym (empty k) ∙ z in cc) ]
  ]

  -- where the body is cut into these blocks
  pub body_is : (f b n : ℕ) (x : code_function.Function) (xs : List code_block.SaidBlock) → blocks_of (map (part_view source.bytes.now (source_trees source) (table_in source)) x.body.items) ≡ Some (map (block_in source) xs)
      → function_body source f b n x ≡ (function_scope source f b n x.params.items xs >>= λ u. blocks_data (structs_in source) u b n (map (block_in source) xs))
  body_is f b n x xs h =
      ap (λ o. o >>= λ said. params_scope spec.empty_scope f 0 (map (param_in source) x.params.items) >>= λ t. blocks_scope t b n said >>= λ u. blocks_data (structs_in source) u b n said) h
      ∙ sym (bind_assoc (params_scope spec.empty_scope f 0 (map (param_in source) x.params.items)) (λ t. blocks_scope t b n (map (block_in source) xs)) (λ u. blocks_data (structs_in source) u b n (map (block_in source) xs)))

  -- the scope of a function
  pub scope_takes : (f b n : ℕ) (ps : List code_param.Param) (xs : List code_block.SaidBlock) (t u : spec.Scope) → params_scope spec.empty_scope f 0 (map (param_in source) ps) ≡ Some t
      → blocks_scope t b n (map (block_in source) xs) ≡ Some u → function_scope source f b n ps xs ≡ Some u
  scope_takes f b n ps xs t u h k = ap (λ o. o >>= λ s. blocks_scope s b n (map (block_in source) xs)) h ∙ k

  pub no_params : (f b n : ℕ) (ps : List code_param.Param) (xs : List code_block.SaidBlock) → params_scope spec.empty_scope f 0 (map (param_in source) ps) ≡ None → function_scope source f b n ps xs ≡ None
  no_params f b n ps xs h = ap (λ o. o >>= λ s. blocks_scope s b n (map (block_in source) xs)) h

  pub no_blocks : (f b n : ℕ) (ps : List code_param.Param) (xs : List code_block.SaidBlock) (t : spec.Scope) → params_scope spec.empty_scope f 0 (map (param_in source) ps) ≡ Some t
      → blocks_scope t b n (map (block_in source) xs) ≡ None → function_scope source f b n ps xs ≡ None
  no_blocks f b n ps xs t h k = ap (λ o. o >>= λ s. blocks_scope s b n (map (block_in source) xs)) h ∙ k

  -- ---- the body, from what the program has of it

  pub uncut : (f b n : ℕ) (x : code_function.Function) (parts : List Part) → parts ≡ x.body.items → blocks_of (map (part_view source.bytes.now (source_trees source) (table_in source)) parts) ≡ None → function_body source f b n x ≡ None
  uncut f b n x parts e h =
      ap (λ o. o >>= λ said. params_scope spec.empty_scope f 0 (map (param_in source) x.params.items) >>= λ t. blocks_scope t b n said >>= λ u. blocks_data (structs_in source) u b n said)
      (ap (λ q. blocks_of (map (part_view source.bytes.now (source_trees source) (table_in source)) q)) (sym e) ∙ h)

  module _ (f b n : ℕ) (x : code_function.Function) (parts : List Part) (ps : List code_param.Param) (xs third : List code_block.SaidBlock)
      (body_at : parts ≡ x.body.items) (params_at : ps ≡ x.params.items) (blocks_at : third ≡ xs)
      (is_cut : blocks_of (map (part_view source.bytes.now (source_trees source) (table_in source)) parts) ≡ Some (map (block_in source) xs)) where
    as_scope : function_body source f b n x ≡ (function_scope source f b n ps third >>= λ u. blocks_data (structs_in source) u b n (map (block_in source) xs))
    as_scope =
        body_is f b n x xs (ap (λ q. blocks_of (map (part_view source.bytes.now (source_trees source) (table_in source)) q)) (sym body_at) ∙ is_cut)
        ∙ ap (λ q. function_scope source f b n q xs >>= λ u. blocks_data (structs_in source) u b n (map (block_in source) xs)) (sym params_at)
        ∙ ap (λ q. function_scope source f b n ps q >>= λ u. blocks_data (structs_in source) u b n (map (block_in source) xs)) (sym blocks_at)

    pub unscoped : function_scope source f b n ps third ≡ None → function_body source f b n x ≡ None
    unscoped h = as_scope ∙ ap (λ o. o >>= λ u. blocks_data (structs_in source) u b n (map (block_in source) xs)) h

    module _ (scope : Scope) (fourth : List code_block.SaidBlock) (again_at : fourth ≡ xs)
        (known : (s : spec.Scope) × (function_scope source f b n ps third ≡ Some s) × Knows (types_in source) scope s) where
      in_scope : function_body source f b n x ≡ blocks_data (structs_in source) known.0 b n (map (block_in source) fourth)
      in_scope = as_scope ∙ ap (λ o. o >>= λ u. blocks_data (structs_in source) u b n (map (block_in source) xs)) known.1 ∙ ap (λ q. blocks_data (structs_in source) known.0 b n (map (block_in source) q)) (sym again_at)

      pub body_made : (body : List BodyBlock) → MadeBlocks source scope fourth body → function_body source f b n x ≡ Some (blocks_from (source_trees source) b n body)
      body_made body m = in_scope ∙ m.is known.0 b n known.2

      pub body_unmade : ((b n : ℕ) → Refuses (types_in source) scope (λ s. blocks_data (structs_in source) s b n (map (block_in source) fourth))) → function_body source f b n x ≡ None
      body_unmade r = in_scope ∙ r b n known.0 known.2

-- ---- the function, from its body

chained : {A B C D E : Type 0} (r : Option A) (q : Option B) (f : A → B → Option C) (g : A → C → Option D) (h : D → Option E)
    → (r >>= λ a. q >>= λ b. f a b >>= λ c. g a c >>= h) ≡ ((r >>= λ a. q >>= λ b. f a b >>= λ c. g a c) >>= h)
chained None q f g h = refl
chained (Some a) None f g h = refl
chained (Some a) (Some b) f g h = sym (bind_assoc (f a b) (g a) h)

bind_some : {A B : Type 0} (r : Option A) (f : A → B) → (r >>= λ x. Some (f x)) ≡ option_map f r
bind_some None f = refl
bind_some (Some x) f = refl

bind_none : {A : Type 0} (B : Type 0) (r : Option A) → (r >>= λ x. let z : Option B = None in z) ≡ None
bind_none B None = refl
bind_none B (Some x) = refl

module _ (source : Source) (f b n : ℕ) (x : code_function.Function) where
  function_is : function_data (structs_in source) f b n (function_in source x) ≡ (symbol_name (function_in source x).name >>= λ name. function_body source f b n x >>= λ blocks. Some (function_made source f x name blocks))
  function_is = bind_same (symbol_name (function_in source x).name) _ _ (λ name.
      chained (blocks_of (function_in source x).body) (params_scope spec.empty_scope f 0 (function_in source x).params) (λ said s. blocks_scope s b n said) (λ said t. blocks_data (structs_in source) t b n said) (λ blocks. Some (function_made source f x name blocks)))

  pub data_made : (blocks : List Block) → function_body source f b n x ≡ Some blocks → function_data (structs_in source) f b n (function_in source x) ≡ option_map (λ name. function_made source f x name blocks) (symbol_name (function_in source x).name)
  data_made blocks h =
      function_is
      ∙ bind_same (symbol_name (function_in source x).name) _ _ (λ name. ap (λ o. o >>= λ blocks. Some (function_made source f x name blocks)) h)
      ∙ bind_some (symbol_name (function_in source x).name) (λ name. function_made source f x name blocks)

  pub data_unmade : function_body source f b n x ≡ None → function_data (structs_in source) f b n (function_in source x) ≡ None
  data_unmade h =
      function_is
      ∙ bind_same (symbol_name (function_in source x).name) _ _ (λ name. ap (λ o. o >>= λ blocks. Some (function_made source f x name blocks)) h)
      ∙ bind_none L.Function (symbol_name (function_in source x).name)
