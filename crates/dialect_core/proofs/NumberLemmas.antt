-- Numbers that are given one after another.
use Rattle.std.proofs.Common.{◌≡◌, ◌<◌, ◌+◌, ℕ, suc, List, [], ◌∷◌, ◌++◌, Option, Some, None, cond, Bool, true, false, length, slice_get, get_or, take, map, ap, sym, subst, refl, ◌∙◌, arith, length-append}
use Rattle.std.specs.List.{filter_map, flat_map, cons_option}
use Rattle.std.specs.Map.{lookup}
use Rattle.std.proofs.lemmas.List.{take_more, length-take-le}
use Rattle.std.specs.Option.{option_map}
use Rattle.std.proofs.lemmas.Option.{none-some, same_Some}
use Rattle.support.proofs.ListLaws.{flat_map-take_more}
use Rattle.support.proofs.OptionLaws.{or_else-none, or_else_assoc}
use Rattle.support.specs.Options.{or_else}
use Rattle.dialect_types.specs.declared.types.TypeHandle.{TypeHandle}
use Rattle.dialect_types.specs.Trees.{type_at, type_trees}
use Rattle.dialect_core.specs.declared.numbers.BlockRef.{BlockRef}
use Rattle.dialect_core.specs.declared.ops.Value.{Value}
use Rattle.dialect_core.specs.declared.ops.Value.TheVariants.{Argument}
use Rattle.dialect_core.specs.declared.numbering.Numbering.{Numbering}
use Rattle.dialect_core.specs.declared.ops.BlockData.{BlockData}
use Rattle.dialect_core.specs.ContextData.{ContextData}
use Rattle.dialect_core.specs.Lists.{list_at}
use Rattle.dialect_core.specs.Data.{op_at, block_of}
use Rattle.dialect_core.specs.Text.{option_items, result_of, block_values, arguments_from, numbered_from, same_value, same_block}
use Rattle.dialect_core.specs.Numbering.{value_at, block_at, Numbered, op_values, values_of_block}

lookup-append : {K X : Type 0} (test : K → Bool) (xs ys : List (K × X)) → lookup test (xs ++ ys) ≡ or_else (lookup test xs) (lookup test ys)
lookup-append test [] ys = refl
lookup-append {K = K} {X = X} test (x ∷ xs) ys = ap (cond (test x.0) (Some x.1)) (lookup-append test xs ys) ∙ by (test x.0) (lookup test xs) (lookup test ys)
  where
    by : (t : Bool) (a b : Option X) → cond t (Some x.1) (or_else a b) ≡ or_else (cond t (Some x.1) a) b
    by true a b = refl
    by false a b = refl

-- no numbers were given
pub numbered_none : (a : Numbering) → Numbered a a [] []
numbered_none a = record { values = λ q. sym (or_else-none (value_at a q)); blocks = λ q. sym (or_else-none (block_at a q)) }

-- some numbers were given, and then others
pub numbered_then : (a b c : Numbering) (vs ws : List (Value × ℕ)) (bs cs : List (BlockRef × ℕ)) → Numbered a b vs bs → Numbered b c ws cs → Numbered a c (vs ++ ws) (bs ++ cs)
numbered_then a b c vs ws bs cs h k = record {
  values = λ q.
      k.values q ∙ ap (λ (o : Option ℕ). or_else o (lookup (same_value q) ws)) (h.values q) ∙ or_else_assoc (value_at a q) (lookup (same_value q) vs) (lookup (same_value q) ws)
      ∙ ap (or_else (value_at a q)) (sym (lookup-append (same_value q) vs ws));
  blocks = λ q.
      k.blocks q ∙ ap (λ (o : Option ℕ). or_else o (lookup (same_block q) cs)) (h.blocks q) ∙ or_else_assoc (block_at a q) (lookup (same_block q) bs) (lookup (same_block q) cs)
      ∙ ap (or_else (block_at a q)) (sym (lookup-append (same_block q) bs cs));
}

pub numbered_from-append : {X : Type 0} (n : ℕ) (xs ys : List X) → numbered_from n (xs ++ ys) ≡ numbered_from n xs ++ numbered_from (n + length xs) ys
numbered_from-append n [] ys = ap (λ (k : ℕ). numbered_from k ys) (let e : n ≡ n + 0 = omega arith in e)
numbered_from-append n (x ∷ xs) ys =
    ap (λ (zs : List _). (x, n) ∷ zs) (numbered_from-append (n + 1) xs ys ∙ ap (λ (k : ℕ). numbered_from (n + 1) xs ++ numbered_from k ys) (let e : (n + 1) + length xs ≡ n + suc (length xs) = omega arith in e))

-- the values vs have the numbers from `first` on, and `next` comes after them
pub record Counts (old new : Numbering) (first next : ℕ) (vs : List Value) (bs : List (BlockRef × ℕ)) : Type 0 where
  pub numbered : Numbered old new (numbered_from first vs) bs
  pub after : next ≡ first + length vs

pub counts_none : (a : Numbering) (n : ℕ) → Counts a a n n [] []
counts_none a n = record { numbered = numbered_none a; after = omega arith }

pub counts_then : (a b c : Numbering) (n m k : ℕ) (vs ws : List Value) (bs cs : List (BlockRef × ℕ)) → Counts a b n m vs bs → Counts b c m k ws cs → Counts a c n k (vs ++ ws) (bs ++ cs)
counts_then a b c n m k vs ws bs cs h g = record {
  numbered = rw (numbered_from-append n vs ws, ← h.after) (numbered_then a b c (numbered_from n vs) (numbered_from m ws) bs cs h.numbered g.numbered);
  after = omega (arith, h.after, g.after, length-append vs ws);
}

-- ---- arguments

arguments_from-push : {X : Type 0} (b : BlockRef) (i : ℕ) (xs : List X) (x : X) → arguments_from b i (xs ++ x ∷ []) ≡ arguments_from b i xs ++ Argument b (i + length xs) ∷ []
arguments_from-push b i [] x = ap (λ (n : ℕ). Argument b n ∷ []) (let e : i ≡ i + 0 = omega arith in e)
arguments_from-push b i (y ∷ xs) x =
    ap (λ (vs : List Value). Argument b i ∷ vs) (arguments_from-push b (i + 1) xs x ∙ ap (λ (n : ℕ). arguments_from b (i + 1) xs ++ Argument b n ∷ []) (let e : (i + 1) + length xs ≡ i + suc (length xs) = omega arith in e))

pub arguments_more : {X : Type 0} (b : BlockRef) (xs : List X) (i : ℕ) (d : X) → i < length xs → arguments_from b 0 (take (i + 1) xs) ≡ arguments_from b 0 (take i xs) ++ Argument b i ∷ []
arguments_more b xs i d h =
    ap (arguments_from b 0) (take_more xs i d h) ∙ arguments_from-push b 0 (take i xs) (get_or xs i d)
    ∙ ap (λ (n : ℕ). arguments_from b 0 (take i xs) ++ Argument b n ∷ []) (let e : 0 + length (take i xs) ≡ i = omega (arith, length-take-le i xs (omega arith)) in e)

pub arguments_from-map : {X Y : Type 0} (f : X → Y) (b : BlockRef) (i : ℕ) (xs : List X) → arguments_from b i (map f xs) ≡ arguments_from b i xs
arguments_from-map f b i [] = refl
arguments_from-map f b i (x ∷ xs) = ap (λ (vs : List Value). Argument b i ∷ vs) (arguments_from-map f b (i + 1) xs)

-- ---- the values of a block

filter_flat : {X Y Z : Type 0} (f : X → Option Y) (g : Y → Option Z) (xs : List X) → filter_map g (filter_map f xs) ≡ flat_map (λ (x : X). option_items (λ (y : Y). option_items (λ (z : Z). z ∷ []) (g y)) (f x)) xs
filter_flat f g [] = refl
filter_flat {Y = Y} {Z = Z} f g (x ∷ xs) = by (f x) (filter_flat f g xs)
  where
    one : (o : Option Z) → cons_option o (filter_map g (filter_map f xs)) ≡ option_items (λ (z : Z). z ∷ []) o ++ filter_map g (filter_map f xs)
    one None = refl
    one (Some z) = refl

    by : (o : Option Y) → filter_map g (filter_map f xs) ≡ flat_map (λ x. option_items (λ (y : Y). option_items (λ (z : Z). z ∷ []) (g y)) (f x)) xs
        → filter_map g (cons_option o (filter_map f xs)) ≡ option_items (λ (y : Y). option_items (λ (z : Z). z ∷ []) (g y)) o ++ flat_map (λ x. option_items (λ (y : Y). option_items (λ (z : Z). z ∷ []) (g y)) (f x)) xs
    by None same = same
    by (Some y) same = one (g y) ∙ ap (λ (zs : List Z). option_items (λ (z : Z). z ∷ []) (g y) ++ zs) same

-- the arguments, and then the results of its operations
pub block_values_are : (c : ContextData) (b : BlockRef) (args : List TypeHandle) → option_map (λ (x : BlockData). x.args) (slice_get c.blocks b.0) ≡ Some args → values_of_block c b ≡ arguments_from b 0 args ++ flat_map (op_values c) (list_at c.lists b)
block_values_are c b args h = by (slice_get c.blocks b.0) h
  where
    by : (x : Option BlockData) → option_map (λ (x : BlockData). x.args) x ≡ Some args → option_items block_values (option_map (block_of (type_trees c.types) c b) x) ≡ arguments_from b 0 args ++ flat_map (op_values c) (list_at c.lists b)
    by None is = absurd (none-some args is)
    by (Some x) is =
        ap (λ (vs : List Value). vs ++ filter_map result_of (filter_map (op_at (type_trees c.types) c.ops) (list_at c.lists b))) (arguments_from-map (type_at (type_trees c.types)) b 0 x.args ∙ ap (arguments_from b 0) (same_Some x.args args is))
        ∙ ap (λ (vs : List Value). arguments_from b 0 args ++ vs) (filter_flat (op_at (type_trees c.types) c.ops) result_of (list_at c.lists b))

-- ---- steps of the loops

-- one more argument
pub counts_argument : {X : Type 0} (old now new : Numbering) (first next after : ℕ) (b : BlockRef) (xs : List X) (i place : ℕ) (d : X) → i < length xs → place ≡ i → Counts old now first next (arguments_from b 0 (take i xs)) [] → Numbered now new ((Argument b place, next) ∷ []) [] → after ≡ next + 1 → Counts old new first after (arguments_from b 0 (take (i + 1) xs)) []
counts_argument old now new first next after b xs i place d within is_place so_far numbered is_after =
    let step : Counts now new next after (Argument b place ∷ []) [] = record { numbered = numbered; after = omega (arith, is_after) } in
    rw (arguments_more b xs i d within, ← is_place) (subst (λ (k : ℕ). Counts old new first after (arguments_from b 0 (take k xs) ++ Argument b place ∷ []) []) (sym is_place) (counts_then old now new first next after (arguments_from b 0 (take i xs)) (Argument b place ∷ []) [] [] so_far step))

-- the values of one more item
pub counts_more : {X : Type 0} (f : X → List Value) (old now new : Numbering) (first next after : ℕ) (xs : List X) (i : ℕ) (d : X) → i < length xs → Counts old now first next (flat_map f (take i xs)) [] → Numbered now new (numbered_from next (f (get_or xs i d))) [] → after ≡ next + length (f (get_or xs i d)) → Counts old new first after (flat_map f (take (i + 1) xs)) []
counts_more f old now new first next after xs i d within so_far numbered is_after =
    rw (flat_map-take_more f xs i d within) (counts_then old now new first next after (flat_map f (take i xs)) (f (get_or xs i d)) [] [] so_far (record { numbered = numbered; after = is_after }))

-- two parts in a row
pub counts_both : (old now new : Numbering) (first next after : ℕ) (all vs ws : List Value) → all ≡ vs ++ ws → Numbered old now (numbered_from first vs) [] → next ≡ first + length vs → Numbered now new (numbered_from next ws) [] → after ≡ next + length ws → Counts old new first after all []
counts_both old now new first next after all vs ws is h is_next k is_after =
    rw is (counts_then old now new first next after vs ws [] [] (record { numbered = h; after = is_next }) (record { numbered = k; after = is_after }))
