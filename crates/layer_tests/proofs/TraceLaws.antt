-- Which operation of a dialect module is a function that can be run.
use Rattle.std.proofs.Common.{ℕ, zero, suc, nat_eq, ◌≡◌, ◌<◌, true, false, List, [], ◌∷◌, Some, All, length, slice_get, get_or, sym, ap, ◌∙◌, arith}
use Rattle.std.specs.Prelude.{Option, is_some}
use Rattle.std.specs.List.{cons_option, filter_map}
use Rattle.std.specs.Option.{option_map}
use Rattle.std.proofs.lemmas.List.Elements.{All-head}
use Rattle.std.proofs.lemmas.Option.{same_Some, slice_get-get_or}
use Rattle.support.proofs.ListLaws.{item_there}
use Rattle.dialect_types.specs.Trees.{type_trees}
use Rattle.dialect_core.specs.declared.numbers.OpRef.{OpRef}
use Rattle.dialect_core.specs.declared.numbers.BlockRef.{BlockRef}
use Rattle.dialect_core.specs.declared.ops.OpData.{OpData}
use Rattle.dialect_core.specs.ContextData.{ContextData}
use Rattle.dialect_core.specs.Data.{DialectBlock, block_in, block_of, held}
use Rattle.to_llvm_ir.proofs.ContextLaws.{some_func}
use Rattle.tracing.specs.DialectBodies.{HasBody}
use Rattle.tracing.proofs.DialectLaws.{kept_func}
use Rattle.tracing.proofs.ModuleLaws.{has_body}

pub some_length : (n : ℕ) → nat_eq n 0 ≡ false → 0 < n
some_length zero h = absurd (let e : true ≡ false = h in cc)
some_length (suc n) h = omega arith

-- some block is there
some_blocks : (c : ContextData) (bs : List BlockRef) → 0 < length bs → All (λ (b : BlockRef). b.0 < length c.blocks) bs → ¬ (filter_map (block_in (type_trees c.types) c) bs ≡ [])
some_blocks c [] lt within none = absurd (omega arith)
some_blocks c (b ∷ bs) lt within none =
    let kept = item_there c.blocks b.0 (All-head (λ (b : BlockRef). b.0 < length c.blocks) b bs within) in
    let here : block_in (type_trees c.types) c b ≡ Some (block_of (type_trees c.types) c b kept.0) = ap (option_map (block_of (type_trees c.types) c b)) kept.1 in
    let e = ap (λ (o : Option DialectBlock). cons_option o (filter_map (block_in (type_trees c.types) c) bs)) here in
    let no : ⊥ = cc (sym e ∙ none) in
    no

-- an operation of the module that has a symbol and a block is a function with a body
pub body_there : (c : ContextData) (ops : List OpRef) (m i : ℕ) (d : OpRef) (bs : List BlockRef) → ops ≡ held c m → i < length ops → option_map (λ (x : OpData). is_some x.symbol) (slice_get c.ops (get_or ops i d).0) ≡ Some true
    → option_map (λ (x : OpData). x.blocks) (slice_get c.ops (get_or ops i d).0) ≡ Some bs → 0 < length bs → All (λ (b : BlockRef). b.0 < length c.blocks) bs → HasBody c m (get_or ops i d)
body_there c ops m i d bs are lt symbol listed some within =
    let op = get_or ops i d in
    let g = some_func c op symbol in
    let k = kept_func c op g.0 g.1 in
    let same : k.kept.blocks ≡ bs = same_Some k.kept.blocks bs (sym (ap (option_map (λ (x : OpData). x.blocks)) k.there) ∙ listed) in
    let body : ¬ (g.0.blocks ≡ []) = λ none. some_blocks c bs some within (sym (k.blocks ∙ ap (filter_map (block_in (type_trees c.types) c)) same) ∙ none) in
    has_body c m i op g.0 (ap (λ (os : List OpRef). slice_get os i) (sym are) ∙ slice_get-get_or ops i d lt) g.1 body
