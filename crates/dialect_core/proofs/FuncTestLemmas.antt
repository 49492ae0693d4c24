-- What tests of blocks, functions and modules find.
use Rattle.std.proofs.Common.{◌≡◌, ◌<◌, ◌≤◌, ℕ, zero, suc, Bool, true, false, List, [], ◌∷◌, Option, Some, None, All, length, map, slice_get, get_or, ap, sym, subst, ◌∙◌, refl, arith}
use Rattle.std.specs.Prelude.{IsTrue, ◌↔◌, is_some, unwrap_or}
use Rattle.std.specs.List.{filter_map, flat_map}
use Rattle.std.specs.Option.{option_map, option_map_or, option_and_then}
use Rattle.std.proofs.lemmas.Option.{none-some, same_Some}
use Rattle.std.proofs.lemmas.List.{append-nil}
use Rattle.std.proofs.lemmas.List.Elements.{All-cons, All-head, All-nil}
use Rattle.support.proofs.ListLaws.{all_from}
use Rattle.support.proofs.OptionLaws.{none_from}
use Rattle.kinds.specs.Types.{params_of}
use Rattle.kinds.specs.Held.{IsFirstClass, IsSignature}
use Rattle.kinds.specs.Names.{is_own_name}
use Rattle.dialect_types.specs.declared.types.TypeHandle.{TypeHandle}
use Rattle.dialect_types.specs.Trees.{TypeTree, VoidType, type_at, type_trees}
use Rattle.dialect_core.specs.declared.numbers.OpRef.{OpRef}
use Rattle.dialect_core.specs.declared.numbers.BlockRef.{BlockRef}
use Rattle.dialect_core.specs.declared.linkage.LinkageAttr.{LinkageAttr}
use Rattle.dialect_core.specs.declared.linkage.LinkageAttr.TheVariants.{GhostLinkage}
use Rattle.dialect_core.specs.declared.ops.Symbol.{Symbol}
use Rattle.dialect_core.specs.declared.ops.OpKind.TheVariants as K
use Rattle.dialect_core.specs.declared.ops.OpData.{OpData}
use Rattle.dialect_core.specs.declared.ops.BlockData.{BlockData}
use Rattle.dialect_core.specs.Lists.{Once, list_at}
use Rattle.dialect_core.specs.ContextData.{ContextData, IsSymbol, kind_at, symbol_at, region_at}
use Rattle.dialect_core.specs.Data.{DialectOp, DialectBlock, Func, llvm_name_of, op_at, block_in, block_of, func_of, func_in, held, data_of, name_at, symbol_name_at, type_in}
use Rattle.dialect_core.specs.WellFormed.{HasFewEntries, HasFirstClassArgs, IsFew, IsFewFunc, IsPlainAt, IsPastFirsts, IsWellFormedBlock, IsWellFormedFunc, IsWellFormed, suits, suits_body, suits_declaration}
use Rattle.dialect_core.specs.Checking.{AreApartFrom, AreFuncLines, AreLines, IsApartFrom, IsBlockAt, IsFuncAt, IsHead, block_at, func_at, tree_at}
use Rattle.dialect_core.proofs.ChainLemmas.{same_op}
use Rattle.dialect_core.proofs.HoldLemmas.{flat_stands, stands_flat}
use Rattle.dialect_core.proofs.TestLemmas.{always, never, no_true, same_block}
use Rattle.dialect_core.proofs.TypeTestLemmas.{all_map, map_all}
use Rattle.dialect_core.proofs.OpTestLemmas.{func_type}
use Rattle.dialect_core.proofs.FuncLemmas.{blocks_are, ops_are, block_there, block_number, op_number, made_of, entry_data, entry_there, no_entry}
use Rattle.dialect_core.proofs.LineLemmas.{all_at, lines_are, none_end, plain_op, same_place, numbers_once}

-- ---- blocks

is_some_of : {X : Type 0} (o : Option X) → is_some o ≡ true → o ≡ None → ⊥
is_some_of None h e = let k : false ≡ true = h in cc
is_some_of (Some x) h e = none-some x (sym e)

module _ (c : ContextData) (g : Func) (b : BlockRef) where
  block_ops : (block_at c b).ops ≡ filter_map (op_at (type_trees c.types) c.ops) (list_at c.lists b)
  unfolding block_at
  block_ops = refl

  block_args : (args : List TypeHandle) → option_map (λ (x : BlockData). x.args) (slice_get c.blocks b.0) ≡ Some args → (block_at c b).args ≡ map (tree_at c) args
  unfolding block_at
  block_args args h = by (slice_get c.blocks b.0) h
    where
      by : (x : Option BlockData) → option_map (λ (x : BlockData). x.args) x ≡ Some args → map (tree_at c) (option_map_or (λ (x : BlockData). x.args) x []) ≡ map (tree_at c) args
      by None e = absurd (none-some args e)
      by (Some x) e = ap (map (tree_at c)) (same_Some x.args args e)

  pub block_none : (first : Option OpRef) → first ≡ slice_get (list_at c.lists b) 0 → is_some first ≡ false → IsBlockAt c g b → ⊥
  unfolding block_at
  block_none first head gone h = none_end c g (list_at c.lists b) (sym head ∙ none_from first gone) h.block.ends

  module _ (args : List TypeHandle) (are : option_map (λ (x : BlockData). x.args) (slice_get c.blocks b.0) ≡ Some args) where
    pub block_wide : (All (λ (t : TypeHandle). IsFirstClass (tree_at c t)) args → ⊥) → IsBlockAt c g b → ⊥
    block_wide wide h = let P : List TypeTree → Type 0 = All IsFirstClass in wide (λ k d l. map_all IsFirstClass (tree_at c) args (subst P (block_args args are) h.block.args) k d l)

    pub block_is : (first : Option OpRef) (t : Bool) → first ≡ slice_get (list_at c.lists b) 0 → is_some first ≡ true → All (λ (t : TypeHandle). IsFirstClass (tree_at c t)) args → (IsTrue t ↔ AreLines c g (list_at c.lists b)) → IsTrue t ↔ IsBlockAt c g b
    unfolding block_at
    block_is first t head some valued h =
        let lines = lines_are c g (list_at c.lists b) (λ e. is_some_of first some (head ∙ e)) in
        let P : List TypeTree → Type 0 = All IsFirstClass in (
          λ w. let l = lines.0 (h.0 w) in record {
            plain = l.0;
            past_firsts = l.1;
            block = record { args = subst P (sym (block_args args are)) (λ k d e. all_map IsFirstClass (tree_at c) args valued k d e); ops = l.2; ends = l.3 };
          },
          λ w. h.1 (lines.1 (w.plain, w.past_firsts, w.block.ops, w.block.ends)),
        )

  pub block_data : b.0 < length c.blocks → block_in (type_trees c.types) c b ≡ Some (block_at c b)
  unfolding block_at
  block_data within = by (slice_get c.blocks b.0) (block_there (type_trees c.types) c b within)
    where
      by : (x : Option BlockData) → (y : BlockData) × (x ≡ Some y) × (option_map (block_of (type_trees c.types) c b) x ≡ Some (block_of (type_trees c.types) c b y))
          → option_map (block_of (type_trees c.types) c b) x ≡ Some (record { number = b.0; label = option_and_then (λ (x : BlockData). x.label) x; args = map (tree_at c) (option_map_or (λ (x : BlockData). x.args) x []); ops = filter_map (op_at (type_trees c.types) c.ops) (list_at c.lists b) })
      by None w = absurd (none-some w.0 w.1)
      by (Some x) w = refl

-- ---- functions

suits_first : (bs : List DialectBlock) (l : LinkageAttr) (d : DialectBlock) → slice_get bs 0 ≡ Some d → suits bs l ≡ suits_body l
suits_first [] l d at = absurd (none-some d at)
suits_first (b ∷ bs) l d at = refl

suits_empty : (bs : List DialectBlock) (l : LinkageAttr) → ((d : DialectBlock) → slice_get bs 0 ≡ Some d → ⊥) → suits bs l ≡ suits_declaration l
suits_empty [] l none = refl
suits_empty (b ∷ bs) l none = absurd (none b refl)

module _ (c : ContextData) (f : OpRef) where
  pub func_name : (func_at c f).name ≡ name_at c.ops f.0
  unfolding func_at
  func_name = refl

  pub func_llvm_name : llvm_name_of (func_at c f) ≡ symbol_name_at c.ops f
  unfolding func_at
  func_llvm_name = refl

  pub func_linkage : (l : LinkageAttr) → option_map (λ (s : Symbol). s.linkage) (symbol_at c.ops f) ≡ Some l → (func_at c f).linkage ≡ l
  unfolding func_at
  func_linkage l h = by (symbol_at c.ops f) h
    where
      by : (s : Option Symbol) → option_map (λ (s : Symbol). s.linkage) s ≡ Some l → option_map_or (λ (s : Symbol). s.linkage) s GhostLinkage ≡ l
      by None e = absurd (none-some l e)
      by (Some s) e = same_Some s.linkage l e

  pub func_data : IsSymbol c.ops f → func_in (type_trees c.types) c f ≡ Some (func_at c f)
  unfolding func_at
  func_data h = by (slice_get c.ops f.0) h.0 h.1
    where
      with_symbol : (x : OpData) (s : Option Symbol) (t : Symbol) → s ≡ Some t
          → option_map {U = Func} (λ (s : Symbol). record { number = f.0; name = unwrap_or x.name []; llvm_name = s.llvm_name; type = type_at (type_trees c.types) s.ty; linkage = s.linkage; blocks = filter_map (block_in (type_trees c.types) c) x.blocks }) s
          ≡ Some (record { number = f.0; name = unwrap_or x.name []; llvm_name = option_and_then (λ (s : Symbol). s.llvm_name) s; type = option_map_or (λ (s : Symbol). tree_at c s.ty) s VoidType; linkage = option_map_or (λ (s : Symbol). s.linkage) s GhostLinkage; blocks = filter_map (block_in (type_trees c.types) c) x.blocks })
      with_symbol x None t e = absurd (none-some t e)
      with_symbol x (Some s) t e = refl

      by : (x : Option OpData) (s : Symbol) → option_and_then (λ (x : OpData). x.symbol) x ≡ Some s
          → option_and_then (func_of (type_trees c.types) c f) x
          ≡ Some (record { number = f.0; name = option_map_or (λ (x : OpData). unwrap_or x.name []) x []; llvm_name = option_and_then (λ (s : Symbol). s.llvm_name) (option_and_then (λ (x : OpData). x.symbol) x); type = option_map_or (λ (s : Symbol). tree_at c s.ty) (option_and_then (λ (x : OpData). x.symbol) x) VoidType; linkage = option_map_or (λ (s : Symbol). s.linkage) (option_and_then (λ (x : OpData). x.symbol) x) GhostLinkage; blocks = filter_map (block_in (type_trees c.types) c) (option_map_or (λ (x : OpData). x.blocks) x []) })
      by None s e = absurd (none-some s e)
      by (Some x) s e = with_symbol x x.symbol s e

  pub head_is : (ty : TypeHandle) (t : Bool) → option_map (λ (s : Symbol). s.ty) (symbol_at c.ops f) ≡ Some ty → ¬ (name_at c.ops f.0 ≡ []) → is_own_name (llvm_name_of (func_at c f)) ≡ true → suits (func_at c f).blocks (func_at c f).linkage ≡ true → (IsTrue t ↔ IsSignature (tree_at c ty)) → IsTrue t ↔ IsHead (func_at c f)
  head_is ty t type named llvm_named linkage h = (
    λ w. record { named = λ e. named (sym func_name ∙ e); llvm_named = llvm_named; linkage = linkage; signature = subst IsSignature (sym (func_type c f ty type)) (h.0 w) },
    λ w. h.1 (subst IsSignature (func_type c f ty type) w.signature),
  )

  module _ (there : (k : ℕ) (b : BlockRef) → slice_get (region_at c.ops f.0) k ≡ Some b → b.0 < length c.blocks) where
    pub entry_is : (b : BlockRef) (args : List TypeHandle) (ty : TypeHandle) (t : Bool) → slice_get (region_at c.ops f.0) 0 ≡ Some b → option_map (λ (x : BlockData). x.args) (slice_get c.blocks b.0) ≡ Some args → option_map (λ (s : Symbol). s.ty) (symbol_at c.ops f) ≡ Some ty → (IsTrue t ↔ map (tree_at c) args ≡ params_of (tree_at c ty))
        → IsTrue t ↔ ((d : DialectBlock) → slice_get (func_at c f).blocks 0 ≡ Some d → d.args ≡ params_of (func_at c f).type)
    entry_is b args ty t first are type h =
        let data_is = entry_data c f there b first ∙ block_data c (func_at c f) b (there 0 b first) in
        let args_are = block_args c (func_at c f) b args are in
        let type_is = func_type c f ty type in (
          λ w d at. ap (λ (d : DialectBlock). d.args) (same_Some d (block_at c b) (sym at ∙ data_is)) ∙ args_are ∙ h.0 w ∙ ap params_of (sym type_is),
          λ w. h.1 (sym args_are ∙ w (block_at c b) data_is ∙ ap params_of type_is),
        )

    -- the linkage of a function with a first block, and of one without
    pub linkage_body : (l : LinkageAttr) (b : BlockRef) (t : Bool) → option_map (λ (s : Symbol). s.linkage) (symbol_at c.ops f) ≡ Some l → slice_get (region_at c.ops f.0) 0 ≡ Some b → t ≡ suits_body l → t ≡ suits (func_at c f).blocks (func_at c f).linkage
    linkage_body l b t linkage first is =
        let d = entry_there c f there b first in
        is ∙ ap suits_body (sym (func_linkage l linkage)) ∙ sym (suits_first (func_at c f).blocks (func_at c f).linkage d.0 d.1)

    pub linkage_alone : (l : LinkageAttr) (t : Bool) → option_map (λ (s : Symbol). s.linkage) (symbol_at c.ops f) ≡ Some l → slice_get (region_at c.ops f.0) 0 ≡ None → t ≡ suits_declaration l → t ≡ suits (func_at c f).blocks (func_at c f).linkage
    linkage_alone l t linkage none is = is ∙ ap suits_declaration (sym (func_linkage l linkage)) ∙ sym (suits_empty (func_at c f).blocks (func_at c f).linkage (no_entry c f there none))

    -- what holds of the operations of each block holds of those of the function
    of_blocks : (P : OpRef → Type 0) → ((k : ℕ) (b : BlockRef) → slice_get (region_at c.ops f.0) k ≡ Some b → All P (list_at c.lists b)) → All P (held c f.0)
    of_blocks P h = all_from P (held c f.0) (λ k o at.
        let w = flat_stands (list_at c.lists) (region_at c.ops f.0) o k at in
        all_at P (list_at c.lists w.0) (h w.1.0 w.0 w.1.1) w.2.0 o w.2.1)

    to_blocks : (P : OpRef → Type 0) → All P (held c f.0) → (k : ℕ) (b : BlockRef) → slice_get (region_at c.ops f.0) k ≡ Some b → All P (list_at c.lists b)
    to_blocks P h k b at = all_from P (list_at c.lists b) (λ j o there_o.
        let w = stands_flat (list_at c.lists) (region_at c.ops f.0) b o k at (j, there_o) in
        all_at P (held c f.0) h w.0 o w.1)

    each_block : All (IsBlockAt c (func_at c f)) (region_at c.ops f.0) → All (IsPlainAt c) (held c f.0) × All (IsPastFirsts c) (held c f.0) × All (IsWellFormedBlock (type_in c) (func_at c f)) (func_at c f).blocks
    each_block h = (
      λ k d l. of_blocks (IsPlainAt c) (λ k b at. (all_at (IsBlockAt c (func_at c f)) (region_at c.ops f.0) h k b at).plain) k d l,
      λ k d l. of_blocks (IsPastFirsts c) (λ k b at. (all_at (IsBlockAt c (func_at c f)) (region_at c.ops f.0) h k b at).past_firsts) k d l,
      λ k d l. all_from (IsWellFormedBlock (type_in c) (func_at c f)) (func_at c f).blocks (λ i y at.
          let w = made_of (block_in (type_trees c.types) c) (region_at c.ops f.0) i y (ap (λ (xs : List DialectBlock). slice_get xs i) (sym (blocks_are c f there)) ∙ at) in
          let same : block_at c w.0 ≡ y = same_Some (block_at c w.0) y (sym (block_data c (func_at c f) w.0 (there w.1.0 w.0 w.1.1)) ∙ w.2) in
          subst (IsWellFormedBlock (type_in c) (func_at c f)) same (all_at (IsBlockAt c (func_at c f)) (region_at c.ops f.0) h w.1.0 w.0 w.1.1).block) k d l,
    )

    block_some : (k : ℕ) (b : BlockRef) → slice_get (region_at c.ops f.0) k ≡ Some b → (y : DialectBlock) × (block_in (type_trees c.types) c b ≡ Some y)
    block_some k b at = (block_at c b, block_data c (func_at c f) b (there k b at))

    from_blocks : All (IsPlainAt c) (held c f.0) → All (IsPastFirsts c) (held c f.0) → All (IsWellFormedBlock (type_in c) (func_at c f)) (func_at c f).blocks → All (IsBlockAt c (func_at c f)) (region_at c.ops f.0)
    from_blocks plain past blocks = all_from (IsBlockAt c (func_at c f)) (region_at c.ops f.0) (λ k b at. record {
      plain = to_blocks (IsPlainAt c) plain k b at;
      past_firsts = to_blocks (IsPastFirsts c) past k b at;
      block = all_at (IsWellFormedBlock (type_in c) (func_at c f)) (func_at c f).blocks blocks k (block_at c b)
          (ap (λ (xs : List DialectBlock). slice_get xs k) (blocks_are c f there) ∙ same_place (block_in (type_trees c.types) c) (region_at c.ops f.0) block_some k ∙ ap (option_and_then (block_in (type_trees c.types) c)) at ∙ block_data c (func_at c f) b (there k b at));
    })

    pub body_is : (region : List BlockRef) (t : Bool) → region ≡ region_at c.ops f.0 → Once region → Once (held c f.0) → kind_at c.ops f ≡ Some K.Func → IsHead (func_at c f) → ((d : DialectBlock) → slice_get (func_at c f).blocks 0 ≡ Some d → d.args ≡ params_of (func_at c f).type)
        → (IsTrue t ↔ All (IsBlockAt c (func_at c f)) region) → IsTrue t ↔ IsFuncAt c f
    body_is region t is once ops_once kind head entry h =
        let P : List BlockRef → Type 0 = λ bs. IsTrue t ↔ All (IsBlockAt c (func_at c f)) bs in
        let Q : List BlockRef → Type 0 = λ bs. (i j : ℕ) (b : BlockRef) → slice_get bs i ≡ Some b → slice_get bs j ≡ Some b → i ≡ j in
        let blocks = subst P is h in
        let region_once = subst Q is once in (
          λ w. let each = each_block (blocks.0 w) in record {
            kind = kind;
            plain = each.0;
            past_firsts = each.1;
            func = record {
              named = head.named;
              llvm_named = head.llvm_named;
              linkage = head.linkage;
              signature = head.signature;
              params = entry;
              blocks = each.2;
              block_numbers = λ i j a b p q same. numbers_once (block_in (type_trees c.types) c) (λ (x : DialectBlock). x.number) (λ (b : BlockRef). b.0) (block_number (type_trees c.types) c) same_block (region_at c.ops f.0) block_some region_once i j a b
                  (ap (λ (xs : List DialectBlock). slice_get xs i) (sym (blocks_are c f there)) ∙ p) (ap (λ (xs : List DialectBlock). slice_get xs j) (sym (blocks_are c f there)) ∙ q) same;
              numbers = λ i j a b p q same. numbers_once (op_at (type_trees c.types) c.ops) (λ (x : DialectOp). x.number) (λ (o : OpRef). o.0) (op_number (type_trees c.types) c.ops) same_op (held c f.0)
                  (λ k o at. let d = plain_op c o (all_at (IsPlainAt c) (held c f.0) each.0 k o at) in (d.0, d.1)) ops_once i j a b
                  (ap (λ (xs : List DialectOp). slice_get xs i) (sym (ops_are c f there)) ∙ p) (ap (λ (xs : List DialectOp). slice_get xs j) (sym (ops_are c f there)) ∙ q) same;
            };
          },
          λ w. blocks.1 (from_blocks w.plain w.past_firsts w.func.blocks),
        )

-- ---- modules

-- a list of one item
pub one_item : {X : Type 0} (xs : List X) (d : X) → length xs ≡ 1 → xs ≡ get_or xs 0 d ∷ []
one_item [] d h = absurd (omega arith)
one_item (x ∷ []) d h = refl
one_item (x ∷ (y ∷ xs)) d h = absurd (omega arith)

module _ (c : ContextData) where
  apart_at : (name llvm_name : List ℕ) (xs : List OpRef) → AreApartFrom c name llvm_name xs → (k : ℕ) (o : OpRef) → slice_get xs k ≡ Some o → IsApartFrom c name llvm_name o
  apart_at name llvm_name [] h k o at = absurd (none-some o at)
  apart_at name llvm_name (x ∷ xs) h zero o at = subst (IsApartFrom c name llvm_name) (same_Some x o at) h.0
  apart_at name llvm_name (x ∷ xs) h (suc k) o at = apart_at name llvm_name xs h.1 k o at

  at_apart : (name llvm_name : List ℕ) (xs : List OpRef) → ((k : ℕ) (o : OpRef) → slice_get xs k ≡ Some o → IsApartFrom c name llvm_name o) → AreApartFrom c name llvm_name xs
  at_apart name llvm_name [] h = tt
  at_apart name llvm_name (x ∷ xs) h = (h 0 x refl, at_apart name llvm_name xs (λ k o at. h (suc k) o at))

  abbrev llvm_name_in : OpRef → List ℕ
  llvm_name_in o = symbol_name_at c.ops o

  abbrev own_name_in : OpRef → List ℕ
  own_name_in o = name_at c.ops o.0

  abbrev NamesOnce : (OpRef → List ℕ) → List OpRef → Type 0
  NamesOnce name xs = (i j : ℕ) (p q : OpRef) → slice_get xs i ≡ Some p → slice_get xs j ≡ Some q → name p ≡ name q → i ≡ j

  funcs_at : (xs : List OpRef) → AreFuncLines c xs → (k : ℕ) (o : OpRef) → slice_get xs k ≡ Some o → IsFuncAt c o
  funcs_at [] h k o at = absurd (none-some o at)
  funcs_at (x ∷ xs) h zero o at = subst (IsFuncAt c) (same_Some x o at) h.0.0
  funcs_at (x ∷ xs) h (suc k) o at = funcs_at xs h.1 k o at

  -- what differs of functions that stand apart
  module _ (name : OpRef → List ℕ) (differs : (x o : OpRef) → IsApartFrom c (own_name_in x) (llvm_name_in x) o → name o ≡ name x → ⊥) where
    names_at : (xs : List OpRef) → AreFuncLines c xs → NamesOnce name xs
    names_at [] h i j p q a b same = absurd (none-some p a)
    names_at (x ∷ xs) h zero zero p q a b same = refl
    names_at (x ∷ xs) h zero (suc j) p q a b same = absurd (differs x q (apart_at (own_name_in x) (llvm_name_in x) xs h.0.1 j q b) (sym same ∙ ap name (sym (same_Some x p a))))
    names_at (x ∷ xs) h (suc i) zero p q a b same = absurd (differs x p (apart_at (own_name_in x) (llvm_name_in x) xs h.0.1 i p a) (same ∙ ap name (sym (same_Some x q b))))
    names_at (x ∷ xs) h (suc i) (suc j) p q a b same = ap suc (names_at xs h.1 i j p q a b same)

  suc_is : (a b : ℕ) → suc a ≡ suc b → a ≡ b
  suc_is a b e = omega arith

  not_first : (name : OpRef → List ℕ) (x : OpRef) (xs : List OpRef) → NamesOnce name (x ∷ xs) → (k : ℕ) (o : OpRef) → slice_get xs k ≡ Some o → ¬ (name o ≡ name x)
  not_first name x xs once k o at same = let e : suc k ≡ 0 = once (suc k) 0 o x at refl same in omega (arith, e)

  lines_of : (xs : List OpRef) → ((k : ℕ) (o : OpRef) → slice_get xs k ≡ Some o → IsFuncAt c o) → NamesOnce own_name_in xs → NamesOnce llvm_name_in xs → AreFuncLines c xs
  lines_of [] funcs names llvm_names = tt
  lines_of (x ∷ xs) funcs names llvm_names = (
    (
      funcs 0 x refl,
      at_apart (own_name_in x) (llvm_name_in x) xs (λ k o at. record { name = not_first own_name_in x xs names k o at; llvm_name = not_first llvm_name_in x xs llvm_names k o at }),
    ),
    lines_of xs (λ k o at. funcs (suc k) o at) (λ i j p q a b same. suc_is i j (names (suc i) (suc j) p q a b same)) (λ i j p q a b same. suc_is i j (llvm_names (suc i) (suc j) p q a b same)),
  )

  module _ (symbols : (o : OpRef) → kind_at c.ops o ≡ Some K.Func → IsSymbol c.ops o) (m : ℕ) where
    abbrev fs : List Func
    fs = (data_of c m).functions

    module _ (kinds : (k : ℕ) (o : OpRef) → slice_get (held c m) k ≡ Some o → kind_at c.ops o ≡ Some K.Func) where
      some_func : (k : ℕ) (o : OpRef) → slice_get (held c m) k ≡ Some o → (g : Func) × (func_in (type_trees c.types) c o ≡ Some g)
      some_func k o at = (func_at c o, func_data c o (symbols o (kinds k o at)))

      pub func_there : (k : ℕ) (o : OpRef) → slice_get (held c m) k ≡ Some o → slice_get fs k ≡ Some (func_at c o)
      func_there k o at = same_place (func_in (type_trees c.types) c) (held c m) some_func k ∙ ap (option_and_then (func_in (type_trees c.types) c)) at ∙ func_data c o (symbols o (kinds k o at))

      there_func : (k : ℕ) (g : Func) → slice_get fs k ≡ Some g → (o : OpRef) × (slice_get (held c m) k ≡ Some o) × (func_at c o ≡ g)
      there_func k g at = by (slice_get (held c m) k) refl (sym (same_place (func_in (type_trees c.types) c) (held c m) some_func k) ∙ at)
        where
          by : (o : Option OpRef) → slice_get (held c m) k ≡ o → option_and_then (func_in (type_trees c.types) c) o ≡ Some g → (o : OpRef) × (slice_get (held c m) k ≡ Some o) × (func_at c o ≡ g)
          by None is e = absurd (none-some g e)
          by (Some o) is e = (o, is, same_Some (func_at c o) g (sym (func_data c o (symbols o (kinds k o is))) ∙ e))

    to_module : kind_at c.ops (record { 0 = m }) ≡ Some K.Module → length (region_at c.ops m) ≤ 1 → All (HasFirstClassArgs c) (region_at c.ops m) → AreFuncLines c (held c m) → IsFew (held c m) → All (IsFewFunc c) (held c m) → IsWellFormed c m
    to_module kind one args h few few_each =
        let kinds = λ (k : ℕ) (o : OpRef) (at : slice_get (held c m) k ≡ Some o). (funcs_at (held c m) h k o at).kind in
        record {
          kind = kind;
          region = one;
          args = args;
          funcs_alone = all_from (λ (o : OpRef). kind_at c.ops o ≡ Some K.Func) (held c m) kinds;
          plain = all_from (λ (o : OpRef). All (IsPlainAt c) (held c o.0)) (held c m) (λ k o at. (funcs_at (held c m) h k o at).plain);
          past_firsts = all_from (λ (o : OpRef). All (IsPastFirsts c) (held c o.0)) (held c m) (λ k o at. (funcs_at (held c m) h k o at).past_firsts);
          functions = all_from (IsWellFormedFunc (type_in c)) fs (λ k g at. let w = there_func kinds k g at in subst (IsWellFormedFunc (type_in c)) w.2 (funcs_at (held c m) h k w.0 w.1).func);
          names = λ i j f g a b same.
              let p = there_func kinds i f a in
              let q = there_func kinds j g b in
              names_at own_name_in (λ x o apart. apart.name) (held c m) h i j p.0 q.0 p.1 q.1 (sym (func_name c p.0) ∙ ap (λ (g : Func). g.name) p.2 ∙ same ∙ ap (λ (g : Func). g.name) (sym q.2) ∙ func_name c q.0);
          llvm_names = λ i j f g a b same.
              let p = there_func kinds i f a in
              let q = there_func kinds j g b in
              names_at llvm_name_in (λ x o apart. apart.llvm_name) (held c m) h i j p.0 q.0 p.1 q.1 (sym (func_llvm_name c p.0) ∙ ap llvm_name_of p.2 ∙ same ∙ ap llvm_name_of (sym q.2) ∙ func_llvm_name c q.0);
          few = few;
          few_each = few_each;
        }

    from_module : IsWellFormed c m → AreFuncLines c (held c m)
    from_module w =
        let kinds = λ (k : ℕ) (o : OpRef) (at : slice_get (held c m) k ≡ Some o). all_at (λ (o : OpRef). kind_at c.ops o ≡ Some K.Func) (held c m) w.funcs_alone k o at in
        lines_of (held c m)
        (λ k o at. record {
          kind = kinds k o at;
          plain = all_at (λ (o : OpRef). All (IsPlainAt c) (held c o.0)) (held c m) w.plain k o at;
          past_firsts = all_at (λ (o : OpRef). All (IsPastFirsts c) (held c o.0)) (held c m) w.past_firsts k o at;
          func = all_at (IsWellFormedFunc (type_in c)) fs w.functions k (func_at c o) (func_there kinds k o at);
        })
        (λ i j p q a b same. w.names i j (func_at c p) (func_at c q) (func_there kinds i p a) (func_there kinds j q b) (func_name c p ∙ same ∙ sym (func_name c q)))
        (λ i j p q a b same. w.llvm_names i j (func_at c p) (func_at c q) (func_there kinds i p a) (func_there kinds j q b) (func_llvm_name c p ∙ same ∙ sym (func_llvm_name c q)))

    abbrev HasFew : List OpRef → Type 0
    HasFew xs = IsFew xs × All (IsFewFunc c) xs

    module _ (body : BlockRef) (region : region_at c.ops m ≡ body ∷ []) where
      held_is : held c m ≡ list_at c.lists body
      held_is = ap (flat_map (list_at c.lists)) region ∙ append-nil (list_at c.lists body)

      all_args : HasFirstClassArgs c body ↔ All (HasFirstClassArgs c) (region_at c.ops m)
      all_args =
          let P : List BlockRef → Type 0 = λ bs. HasFirstClassArgs c body ↔ All (HasFirstClassArgs c) bs in
          subst P (sym region) (λ h. All-cons (HasFirstClassArgs c) body [] h (All-nil (HasFirstClassArgs c)), λ h. All-head (HasFirstClassArgs c) body [] h)

      -- the arguments are as they should be: the module is where the rest is
      pub module_is : (t : Bool) → kind_at c.ops (record { 0 = m }) ≡ Some K.Module → HasFirstClassArgs c body → (IsTrue t ↔ (AreFuncLines c (list_at c.lists body) × HasFewEntries c body)) → IsTrue t ↔ IsWellFormed c m
      module_is t kind args h =
          let P : List OpRef → Type 0 = λ xs. IsTrue t ↔ (AreFuncLines c xs × HasFew xs) in
          let rest = subst P (sym held_is) h in
          (λ w. let r = rest.0 w in to_module kind (omega (arith, ap length region)) (all_args.0 args) r.0 r.1.0 r.1.1, λ w. rest.1 (from_module w, (w.few, w.few_each)))

      -- and they are not
      pub module_fails : (t : Bool) → t ≡ false → (IsTrue t ↔ HasFirstClassArgs c body) → IsTrue t ↔ IsWellFormed c m
      module_fails t is h = (λ yes. no_true (sym is ∙ yes), λ w. h.1 (all_args.1 w.args))

    -- a module without a block has no functions
    pub module_bare : region_at c.ops m ≡ [] → kind_at c.ops (record { 0 = m }) ≡ Some K.Module → IsTrue true ↔ IsWellFormed c m
    module_bare region kind =
        let P : List OpRef → Type 0 = AreFuncLines c in
        let none : AreFuncLines c (held c m) = subst P (sym (ap (flat_map (list_at c.lists)) region)) tt in
        let P : List OpRef → Type 0 = HasFew in
        let few : HasFew (held c m) = subst P (sym (ap (flat_map (list_at c.lists)) region)) (omega arith, λ k d l. absurd (omega (arith, l))) in
        let args : All (HasFirstClassArgs c) (region_at c.ops m) = let P : List BlockRef → Type 0 = All (HasFirstClassArgs c) in subst P (sym region) (All-nil (HasFirstClassArgs c)) in
        always (to_module kind (omega (arith, ap length region)) args none few.0 few.1)

    pub module_crowded : (region : List BlockRef) → region ≡ region_at c.ops m → 1 < length region → IsTrue false ↔ IsWellFormed c m
    module_crowded region is more = never (λ w. let few : length (region_at c.ops m) ≤ 1 = w.region in omega (arith, ap length is))
