-- The values, blocks and edges of a function of a context.
use Rattle.std.proofs.Common.{◌≡◌, ◌<◌, ◌≤◌, ◌+◌, ℕ, zero, suc, Bool, true, false, not, nat_eq, if◌then◌else◌, List, [], ◌∷◌, ◌++◌, Option, Some, None, All, length, map, slice_get, get_or, ap, sym, subst, ◌∙◌, refl, arith}
use Rattle.std.specs.Prelude.{IsTrue, ◌↔◌}
use Rattle.std.specs.List.{filter_map, flat_map, find, cons_option}
use Rattle.std.specs.Option.{IfSome, MatchOption, option_map, option_and_then}
use Rattle.std.proofs.lemmas.List.Elements.{filter_map-append}
use Rattle.std.proofs.lemmas.Option.{slice_get_past, slice_get_within, slice_get-get_or, slice_get-map, get_or_from_slice_get, none-some, same_Some}
use Rattle.dialect_types.specs.declared.types.TypeHandle.{TypeHandle}
use Rattle.dialect_types.specs.Trees.{TypeTree, type_at, type_trees}
use Rattle.dialect_core.specs.declared.numbers.OpRef.{OpRef}
use Rattle.dialect_core.specs.declared.numbers.BlockRef.{BlockRef}
use Rattle.dialect_core.specs.declared.ops.Value.{Value}
use Rattle.dialect_core.specs.declared.ops.Value.TheVariants.{Result, Argument}
use Rattle.dialect_core.specs.declared.ops.Successor.{Successor}
use Rattle.dialect_core.specs.declared.ops.OpData.{OpData}
use Rattle.dialect_core.specs.declared.ops.BlockData.{BlockData}
use Rattle.dialect_core.specs.Lists.{Stands, list_at}
use Rattle.dialect_core.specs.ContextData.{ContextData, region_at}
use Rattle.dialect_core.specs.Data.{Kind, DialectOp, DialectBlock, Func, kind_of, op_of, op_at, block_of, block_in, held, ops_in, value_type, type_in}
use Rattle.dialect_core.specs.WellFormed.{IsEdge, IsFirst, IsPastFirsts, IsTypedBy, Typing}
use Rattle.dialect_core.specs.Checking.{Passes, PassesEach, func_at, tree_at}
use Rattle.dialect_core.proofs.ChainLemmas.{same_op}
use Rattle.dialect_core.proofs.TestLemmas.{same_block, no_true}

-- ---- what is found by its number

module _ {X Y : Type 0} (f : X → Option Y) (number : Y → ℕ) (key : X → ℕ) (numbered : (x : X) (y : Y) → f x ≡ Some y → number y ≡ key x) where
  -- nothing of that number is made
  pub absent : (n : ℕ) (xs : List X) → ((k : ℕ) (z : X) → slice_get xs k ≡ Some z → key z ≡ n → f z ≡ None) → find (λ (y : Y). nat_eq (number y) n) (filter_map f xs) ≡ None
  absent n [] h = refl
  absent n (x ∷ xs) h = by (f x) refl (absent n xs (λ k z at. h (suc k) z at))
    where
      by : (o : Option Y) → f x ≡ o → find (λ (y : Y). nat_eq (number y) n) (filter_map f xs) ≡ None → find (λ (y : Y). nat_eq (number y) n) (cons_option o (filter_map f xs)) ≡ None
      by None is rest = rest
      by (Some y) is rest = test (nat_eq (number y) n) refl
        where
          test : (t : Bool) → nat_eq (number y) n ≡ t → (if t then Some y else find (λ (y : Y). nat_eq (number y) n) (filter_map f xs)) ≡ None
          test true same =
              let e : number y ≡ n = grind (arith, same) in
              absurd (none-some y (sym (h 0 x refl (sym (numbered x y is) ∙ e)) ∙ is))
          test false differs = rest

  module _ (one : (a b : X) → key a ≡ key b → a ≡ b) where
    abbrev Rest : X → List X → Type 0
    Rest x zs = (j : ℕ) → slice_get zs j ≡ Some x → find (λ (y : Y). nat_eq (number y) (key x)) (filter_map f zs) ≡ f x

    pub found : (x : X) (xs : List X) (k : ℕ) → slice_get xs k ≡ Some x → find (λ (y : Y). nat_eq (number y) (key x)) (filter_map f xs) ≡ f x
    found x [] k at = absurd (none-some x at)
    found x (z ∷ zs) k at = by (f z) refl (λ j there. found x zs j there)
      where
        later : Rest x zs → (k : ℕ) → slice_get (z ∷ zs) k ≡ Some x → (y : Y) → f z ≡ Some y → nat_eq (number y) (key x) ≡ false → find (λ (y : Y). nat_eq (number y) (key x)) (filter_map f zs) ≡ f x
        later rest zero here y is differs =
            let e : number y ≡ key x = numbered z y is ∙ ap key (same_Some z x here) in
            absurd (grind (arith, differs, e))
        later rest (suc k) there y is differs = rest k there

        none_here : Rest x zs → (k : ℕ) → slice_get (z ∷ zs) k ≡ Some x → f z ≡ None → find (λ (y : Y). nat_eq (number y) (key x)) (filter_map f zs) ≡ f x
        none_here rest zero here is =
            let gone : f x ≡ None = ap f (sym (same_Some z x here)) ∙ is in
            absent (key x) zs (λ j w at same. ap f (one w x same) ∙ gone) ∙ sym gone
        none_here rest (suc k) there is = rest k there

        by : (o : Option Y) → f z ≡ o → Rest x zs → find (λ (y : Y). nat_eq (number y) (key x)) (cons_option o (filter_map f zs)) ≡ f x
        by None is rest = none_here rest k at is
        by (Some y) is rest = test (nat_eq (number y) (key x)) refl
          where
            test : (t : Bool) → nat_eq (number y) (key x) ≡ t → (if t then Some y else find (λ (y : Y). nat_eq (number y) (key x)) (filter_map f zs)) ≡ f x
            test true same =
                let e : key z ≡ key x = sym (numbered z y is) ∙ grind (arith, same) in
                sym is ∙ ap f (one z x e)
            test false differs = later rest k at y is differs

-- what was found is there
pub find_there : {Y : Type 0} (p : Y → Bool) (ys : List Y) (y : Y) → find p ys ≡ Some y → (k : ℕ) × (slice_get ys k ≡ Some y) × (p y ≡ true)
find_there p [] y h = absurd (none-some y h)
find_there {Y} p (z ∷ ys) y h = by (p z) refl (λ e. find_there p ys y e) h
  where
    by : (t : Bool) → p z ≡ t → (find p ys ≡ Some y → (k : ℕ) × (slice_get ys k ≡ Some y) × (p y ≡ true)) → (if t then Some z else find p ys) ≡ Some y → (k : ℕ) × (slice_get (z ∷ ys) k ≡ Some y) × (p y ≡ true)
    by true is later e = (0, e, ap p (sym (same_Some z y e)) ∙ is)
    by false is later e = let rest = later e in (suc rest.0, rest.1, rest.2)

-- and what is there is found
pub find_none : {Y : Type 0} (p : Y → Bool) (ys : List Y) (k : ℕ) (y : Y) → find p ys ≡ None → slice_get ys k ≡ Some y → p y ≡ true → ⊥
find_none p [] k y h at is = none-some y at
find_none {Y} p (z ∷ ys) k y h at is = by (p z) refl (λ j e there. find_none p ys j y e there is) h k at
  where
    by : (t : Bool) → p z ≡ t → ((j : ℕ) → find p ys ≡ None → slice_get ys j ≡ Some y → ⊥) → (if t then Some z else find p ys) ≡ None → (k : ℕ) → slice_get (z ∷ ys) k ≡ Some y → ⊥
    by true first later e k at = none-some z (sym e)
    by false first later e zero at = let no : false ≡ true = sym first ∙ ap p (same_Some z y at) ∙ is in absurd (let n = no in cc)
    by false first later e (suc k) at = later k e at

-- what filter_map makes is made of an item
pub made_of : {X Y : Type 0} (f : X → Option Y) (xs : List X) (i : ℕ) (y : Y) → slice_get (filter_map f xs) i ≡ Some y → (x : X) × Stands x xs × (f x ≡ Some y)
made_of f [] i y h = absurd (none-some y h)
made_of {X} {Y} f (x ∷ xs) i y h = by (f x) refl (λ j e. made_of f xs j y e) i h
  where
    by : (o : Option Y) → f x ≡ o → ((j : ℕ) → slice_get (filter_map f xs) j ≡ Some y → (z : X) × Stands z xs × (f z ≡ Some y)) → (i : ℕ) → slice_get (cons_option o (filter_map f xs)) i ≡ Some y → (z : X) × Stands z (x ∷ xs) × (f z ≡ Some y)
    by None is later i e = let rest = later i e in (rest.0, (suc rest.1.0, rest.1.1), rest.2)
    by (Some w) is later zero e = (x, (0, refl), is ∙ e)
    by (Some w) is later (suc i) e = let rest = later i e in (rest.0, (suc rest.1.0, rest.1.1), rest.2)

-- ---- numbers of operations and blocks

pub op_number : (ts : List TypeTree) (ops : List OpData) (o : OpRef) (d : DialectOp) → op_at ts ops o ≡ Some d → d.number ≡ o.0
op_number ts ops o d h = by (slice_get ops o.0) h
  where
    kind : (x : OpData) (k : Option Kind) → option_map (λ (k : Kind). record { number = o.0; name = x.name; kind = k; operands = x.operands; successors = x.successors; result = option_map (type_at ts) x.result }) k ≡ Some d → d.number ≡ o.0
    kind x None e = absurd (none-some d e)
    kind x (Some k) e = ap (λ (d : DialectOp). d.number) (sym (same_Some _ d e))

    by : (x : Option OpData) → option_and_then (op_of ts o) x ≡ Some d → d.number ≡ o.0
    by None e = absurd (none-some d e)
    by (Some x) e = kind x (kind_of ts x.kind) e

pub block_number : (ts : List TypeTree) (c : ContextData) (b : BlockRef) (d : DialectBlock) → block_in ts c b ≡ Some d → d.number ≡ b.0
block_number ts c b d h = by (slice_get c.blocks b.0) h
  where
    by : (x : Option BlockData) → option_map (block_of ts c b) x ≡ Some d → d.number ≡ b.0
    by None e = absurd (none-some d e)
    by (Some x) e = ap (λ (d : DialectBlock). d.number) (sym (same_Some _ d e))

-- a block that is there
pub block_there : (ts : List TypeTree) (c : ContextData) (b : BlockRef) → b.0 < length c.blocks → (x : BlockData) × (slice_get c.blocks b.0 ≡ Some x) × (block_in ts c b ≡ Some (block_of ts c b x))
block_there ts c b within = by (slice_get c.blocks b.0) refl
  where
    by : (x : Option BlockData) → slice_get c.blocks b.0 ≡ x → (y : BlockData) × (slice_get c.blocks b.0 ≡ Some y) × (block_in ts c b ≡ Some (block_of ts c b y))
    by None gone = absurd (past c.blocks b.0 within gone)
      where
        past : (xs : List BlockData) (n : ℕ) → n < length xs → slice_get xs n ≡ None → ⊥
        past [] n l e = omega arith
        past (x ∷ xs) zero l e = none-some x (sym e)
        past (x ∷ xs) (suc n) l e = past xs n (omega arith) e
    by (Some x) at = (x, at, ap (option_map (block_of ts c b)) at)

module _ (c : ContextData) where
  abbrev trees : List TypeTree
  trees = type_trees c.types

  -- the operations of blocks, one after another
  pub flat_ops : (bs : List BlockRef) → ((k : ℕ) (b : BlockRef) → slice_get bs k ≡ Some b → b.0 < length c.blocks) → flat_map (λ (b : DialectBlock). b.ops) (filter_map (block_in trees c) bs) ≡ filter_map (op_at trees c.ops) (flat_map (list_at c.lists) bs)
  flat_ops [] h = refl
  flat_ops (b ∷ bs) h =
      let there = block_there trees c b (h 0 b refl) in
      ap (λ (o : Option DialectBlock). flat_map (λ (b : DialectBlock). b.ops) (cons_option o (filter_map (block_in trees c) bs))) there.2
      ∙ ap (λ (os : List DialectOp). filter_map (op_at trees c.ops) (list_at c.lists b) ++ os) (flat_ops bs (λ k p at. h (suc k) p at))
      ∙ sym (filter_map-append (op_at trees c.ops) (list_at c.lists b) (flat_map (list_at c.lists) bs))

  -- each block of a region that is there
  pub region_there : (region bs : List BlockRef) → bs ≡ region → All (λ (b : BlockRef). b.0 < length c.blocks) bs → (k : ℕ) (b : BlockRef) → slice_get region k ≡ Some b → b.0 < length c.blocks
  region_there region bs same h k b at =
      let here : slice_get bs k ≡ Some b = ap (λ (xs : List BlockRef). slice_get xs k) same ∙ at in
      subst (λ (p : BlockRef). p.0 < length c.blocks) (get_or_from_slice_get bs k b b here) (h k b (slice_get_within bs k b here))

  module _ (f : OpRef) (there : (k : ℕ) (b : BlockRef) → slice_get (region_at c.ops f.0) k ≡ Some b → b.0 < length c.blocks) where
    abbrev g : Func
    g = func_at c f

    pub blocks_are : g.blocks ≡ filter_map (block_in trees c) (region_at c.ops f.0)
    unfolding func_at
    blocks_are = refl

    pub ops_are : ops_in g ≡ filter_map (op_at trees c.ops) (held c f.0)
    ops_are = ap (flat_map (λ (b : DialectBlock). b.ops)) blocks_are ∙ flat_ops (region_at c.ops f.0) there

    find_op : (r : OpRef) → find (λ (o : DialectOp). nat_eq o.number r.0) (ops_in g) ≡ find (λ (o : DialectOp). nat_eq o.number r.0) (filter_map (op_at trees c.ops) (held c f.0))
    find_op r = ap (find (λ (o : DialectOp). nat_eq o.number r.0)) ops_are

    pub result_value : (r : OpRef) → Stands r (held c f.0) → option_and_then (λ (o : DialectOp). o.result) (op_at trees c.ops r) ≡ value_type g (Result r)
    result_value r t =
        sym (ap (option_and_then (λ (o : DialectOp). o.result))
        (find_op r ∙ found (op_at trees c.ops) (λ (o : DialectOp). o.number) (λ (o : OpRef). o.0) (op_number trees c.ops) same_op r (held c f.0) t.0 t.1))

    pub find_block : (b : BlockRef) → Stands b (region_at c.ops f.0) → find (λ (x : DialectBlock). nat_eq x.number b.0) g.blocks ≡ block_in trees c b
    find_block b t =
        ap (find (λ (x : DialectBlock). nat_eq x.number b.0)) blocks_are ∙ found (block_in trees c) (λ (x : DialectBlock). x.number) (λ (b : BlockRef). b.0) (block_number trees c) same_block b (region_at c.ops f.0) t.0 t.1

    pub argument_value : (b : BlockRef) (i : ℕ) → Stands b (region_at c.ops f.0) → option_and_then (λ (x : DialectBlock). slice_get x.args i) (block_in trees c b) ≡ value_type g (Argument b i)
    argument_value b i t = sym (ap (option_and_then (λ (x : DialectBlock). slice_get x.args i)) (find_block b t))

    -- the first block is the first of the region
    pub entry_is : (b : BlockRef) (d : DialectBlock) → slice_get (region_at c.ops f.0) 0 ≡ Some b → slice_get g.blocks 0 ≡ Some d → b.0 ≡ d.number
    entry_is b d first at = by (region_at c.ops f.0) there first (ap (λ (xs : List DialectBlock). slice_get xs 0) (sym blocks_are) ∙ at)
      where
        by : (bs : List BlockRef) → ((k : ℕ) (b : BlockRef) → slice_get bs k ≡ Some b → b.0 < length c.blocks) → slice_get bs 0 ≡ Some b → slice_get (filter_map (block_in trees c) bs) 0 ≡ Some d → b.0 ≡ d.number
        by [] h first at = absurd (none-some b first)
        by (p ∷ bs) h first at =
            let here = block_there trees c p (h 0 p refl) in
            let is : Some (block_of trees c p here.0) ≡ Some d = sym (ap (λ (o : Option DialectBlock). slice_get (cons_option o (filter_map (block_in trees c) bs)) 0) here.2) ∙ at in
            ap (λ (b : BlockRef). b.0) (sym (same_Some p b first)) ∙ ap (λ (d : DialectBlock). d.number) (same_Some _ d is)

    pub no_entry : slice_get (region_at c.ops f.0) 0 ≡ None → (d : DialectBlock) → slice_get g.blocks 0 ≡ Some d → ⊥
    no_entry none d at =
        let made = made_of (block_in trees c) (region_at c.ops f.0) 0 d (ap (λ (xs : List DialectBlock). slice_get xs 0) (sym blocks_are) ∙ at) in
        by (region_at c.ops f.0) none made.1.0 made.0 made.1.1
      where
        by : (bs : List BlockRef) → slice_get bs 0 ≡ None → (k : ℕ) (b : BlockRef) → slice_get bs k ≡ Some b → ⊥
        by [] none k b at = none-some b at
        by (p ∷ bs) none k b at = none-some p (sym none)

    pub entry_there : (b : BlockRef) → slice_get (region_at c.ops f.0) 0 ≡ Some b → (d : DialectBlock) × (slice_get g.blocks 0 ≡ Some d)
    entry_there b first = by (region_at c.ops f.0) refl there first
      where
        by : (bs : List BlockRef) → region_at c.ops f.0 ≡ bs → ((k : ℕ) (b : BlockRef) → slice_get bs k ≡ Some b → b.0 < length c.blocks) → slice_get bs 0 ≡ Some b → (d : DialectBlock) × (slice_get g.blocks 0 ≡ Some d)
        by [] is h first = absurd (none-some b first)
        by (p ∷ bs) is h first =
            let here = block_there trees c p (h 0 p refl) in
            (block_of trees c p here.0, ap (λ (xs : List DialectBlock). slice_get xs 0) blocks_are ∙ ap (λ (bs : List BlockRef). slice_get (filter_map (block_in trees c) bs) 0) is ∙ ap (λ (o : Option DialectBlock). slice_get (cons_option o (filter_map (block_in trees c) bs)) 0) here.2)

    pub entry_data : (b : BlockRef) → slice_get (region_at c.ops f.0) 0 ≡ Some b → slice_get g.blocks 0 ≡ block_in trees c b
    entry_data b first = ap (λ (xs : List DialectBlock). slice_get xs 0) blocks_are ∙ by (region_at c.ops f.0) there first
      where
        by : (bs : List BlockRef) → ((k : ℕ) (b : BlockRef) → slice_get bs k ≡ Some b → b.0 < length c.blocks) → slice_get bs 0 ≡ Some b → slice_get (filter_map (block_in trees c) bs) 0 ≡ block_in trees c b
        by [] h first = absurd (none-some b first)
        by (p ∷ bs) h first =
            let here = block_there trees c p (h 0 p refl) in
            ap (λ (o : Option DialectBlock). slice_get (cons_option o (filter_map (block_in trees c) bs)) 0) here.2 ∙ sym here.2 ∙ ap (block_in trees c) (same_Some p b first)

    -- a block that is not the first
    pub past_is : (entry b : BlockRef) → slice_get (region_at c.ops f.0) 0 ≡ Some entry → IsTrue (not (nat_eq entry.0 b.0)) ↔ ((d : DialectBlock) → slice_get g.blocks 0 ≡ Some d → ¬ (b.0 ≡ d.number))
    past_is entry b first = by (nat_eq entry.0 b.0) refl
      where
        by : (t : Bool) → nat_eq entry.0 b.0 ≡ t → IsTrue (not t) ↔ ((d : DialectBlock) → slice_get g.blocks 0 ≡ Some d → ¬ (b.0 ≡ d.number))
        by true same =
            let e : entry.0 ≡ b.0 = grind (arith, same) in
            (λ no. no_true no, λ h. let d = entry_there entry first in absurd (h d.0 d.1 (sym e ∙ entry_is entry d.0 first d.1)))
        by false differs = (λ t d at same. let e : entry.0 ≡ b.0 = entry_is entry d first at ∙ sym same in grind (arith, differs, e), λ h. refl)

-- what is read at a place
pub read_at : {R X : Type 0} {Q : R → Type 0} (now : R → X) (xs : List X) (i : ℕ) (r : Option R) → IfSome r (λ (x : R). now x ≡ get_or xs i (now x)) → MatchOption r (length xs ≤ i) Q → ((x : R) → Q x → i < length xs) → option_map now r ≡ slice_get xs i
read_at now xs i None here there within = sym (slice_get_past xs i there)
read_at now xs i (Some x) here there within = ap Some here ∙ sym (slice_get-get_or xs i (now x) (within x there))

-- what holds of each holds of the one at a place, where there is one
pub some_of_all : {X : Type 0} (P : X → Type 0) (xs : List X) (i : ℕ) → All P xs → IfSome (slice_get xs i) P
some_of_all P xs i h = by (slice_get xs i) refl
  where
    by : (o : Option _) → slice_get xs i ≡ o → IfSome o P
    by None at = tt
    by (Some x) at = subst P (get_or_from_slice_get xs i x x at) (h i x (slice_get_within xs i x at))

-- a value that an edge passes, where all it passes is as wanted
pub pass_wanted : {X : Type 0} (types : Typing) (f : X → TypeTree) (ts : List X) (vs : List Value) (i : ℕ) (wanted : Option X) (x : Value) → PassesEach types (map f ts) vs → slice_get vs i ≡ Some x → wanted ≡ slice_get ts i → Passes types (option_map f wanted) x
pass_wanted types f ts vs i wanted x all here is = subst (λ (o : Option TypeTree). Passes types o x) (slice_get-map f ts i ∙ ap (option_map f) (sym is)) (all i x here)

-- what an edge passes so far, and one value more
pub pass_more : {X : Type 0} (types : Typing) (f : X → TypeTree) (ts : List X) (vs : List Value) (i : ℕ) (wanted : Option X) (x : Value) → ((k : ℕ) (v : Value) → k < i → slice_get vs k ≡ Some v → Passes types (slice_get (map f ts) k) v) → slice_get vs i ≡ Some x → wanted ≡ slice_get ts i → Passes types (option_map f wanted) x
    → (k : ℕ) (v : Value) → k < i + 1 → slice_get vs k ≡ Some v → Passes types (slice_get (map f ts) k) v
pass_more types f ts vs i wanted x before here is passes k v lt at = by (nat_eq k i) refl
  where
    by : (t : Bool) → nat_eq k i ≡ t → Passes types (slice_get (map f ts) k) v
    by false differs = before k v (grind (arith, differs, lt)) at
    by true same =
        let e : i ≡ k = grind (arith, same) in
        let value : x ≡ v = same_Some x v (sym here ∙ ap (slice_get vs) e ∙ at) in
        let type : option_map f wanted ≡ slice_get (map f ts) k = ap (option_map f) is ∙ sym (slice_get-map f ts i) ∙ ap (slice_get (map f ts)) e in
        subst (λ (w : Value). Passes types (slice_get (map f ts) k) w) value (subst (λ (o : Option TypeTree). Passes types o x) type passes)

-- the type of an argument of a block whose arguments are these
argument_wanted : (c : ContextData) (b : BlockRef) (args : List TypeHandle) (place : ℕ) → option_map (λ (x : BlockData). x.args) (slice_get c.blocks b.0) ≡ Some args → slice_get (map (tree_at c) args) place ≡ type_in c (Argument b place)
argument_wanted c b args place are = by (slice_get c.blocks b.0) are
  where
    by : (x : Option BlockData) → option_map (λ (x : BlockData). x.args) x ≡ Some args → slice_get (map (tree_at c) args) place ≡ option_and_then (λ (x : DialectBlock). slice_get x.args place) (option_map (block_of (type_trees c.types) c b) x)
    by None e = absurd (none-some args e)
    by (Some x) e = ap (λ (ts : List TypeHandle). slice_get (map (tree_at c) ts) place) (sym (same_Some x.args args e))

-- an edge that does not go to the first block is tested by what it passes
pub edge_is : (c : ContextData) (g : Func) (s : Successor) (wanted : List TypeHandle) (args : List Value) (t : Bool) → ((d : DialectBlock) → slice_get g.blocks 0 ≡ Some d → ¬ (s.block.0 ≡ d.number)) → option_map (λ (x : BlockData). x.args) (slice_get c.blocks s.block.0) ≡ Some wanted → args ≡ s.args
    → (IsTrue t ↔ PassesEach (type_in c) (map (tree_at c) wanted) args) → IsTrue t ↔ IsEdge (type_in c) g s
edge_is c g s wanted args t past is are h =
    let P : List Value → Type 0 = λ vs. IsTrue t ↔ PassesEach (type_in c) (map (tree_at c) wanted) vs in
    let k : IsTrue t ↔ PassesEach (type_in c) (map (tree_at c) wanted) s.args = subst P are h in
    (λ yes. edge_from (k.0 yes), λ e. k.1 (edge_passes e))
  where
    edge_from : PassesEach (type_in c) (map (tree_at c) wanted) s.args → IsEdge (type_in c) g s
    edge_from each = record {
      no_entry = past;
      args = λ k d l. (each k (get_or s.args k d) (slice_get-get_or s.args k d l)).value;
      typed = λ place v type here type_is. (each place v here).typed type (argument_wanted c s.block wanted place is ∙ type_is);
    }

    edge_passes : IsEdge (type_in c) g s → PassesEach (type_in c) (map (tree_at c) wanted) s.args
    edge_passes e place v here = record {
      value = subst (IsTypedBy (type_in c)) (get_or_from_slice_get s.args place v v here) (e.args place v (slice_get_within s.args place v here));
      typed = λ type type_is. e.typed place v type here (sym (argument_wanted c s.block wanted place is) ∙ type_is);
    }

-- the edges of an operation, as they are read
pub past_firsts_is : (c : ContextData) (o : OpRef) (edges : List Successor) (t : Bool) → option_map (λ (x : OpData). x.successors) (slice_get c.ops o.0) ≡ Some edges → (IsTrue t ↔ All (λ (s : Successor). ¬ IsFirst c s.block) edges) → IsTrue t ↔ IsPastFirsts c o
past_firsts_is c o edges t are h = by (slice_get c.ops o.0) refl are
  where
    P : List Successor → Type 0
    P = All (λ (s : Successor). ¬ IsFirst c s.block)

    by : (x : Option OpData) → slice_get c.ops o.0 ≡ x → option_map (λ (x : OpData). x.successors) x ≡ Some edges → IsTrue t ↔ IsPastFirsts c o
    by None at e = absurd (none-some edges e)
    by (Some x) at e = (
      λ yes y there. subst P (sym (same_Some x.successors edges e) ∙ ap (λ (x : OpData). x.successors) (same_Some x y (sym at ∙ there))) (h.0 yes),
      λ w. h.1 (subst P (same_Some x.successors edges e) (w x at)),
    )
