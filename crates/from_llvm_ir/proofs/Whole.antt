-- A whole function: where its instructions and operations stand, and the types of its values.
use Rattle.std.proofs.Common.{ℕ, ◌≡◌, ◌<◌, ◌+◌, refl, sym, ap, subst, ◌∙◌, Bool, true, false, if◌then◌else◌, nat_eq, List, [], ◌∷◌, ◌++◌, Option, Some, length, take, slice_get, arith, eq-eqb, eqb-true}
use Rattle.std.specs.List.{find, flat_map}
use Rattle.std.specs.Option.{option_map_or, option_and_then}
use Rattle.std.proofs.lemmas.Option.{slice_get_within, same_Some, none-some}
use Rattle.meaning.proofs.MatchedLaws.{matched_at}
use Rattle.support.proofs.ListLaws.{item_there, slice_get-kept}
use Rattle.support.specs.Interned.{IsDistinctList}
use Rattle.kinds.specs.Types.{types_list, count_types, params_of}
use Rattle.kinds.specs.Held.{IsFirstClass}
use Rattle.llvm_core.specs.Form as LF
use Rattle.llvm_core.specs.Data as L
use Rattle.llvm_core.specs.Data.{ConstTree, VoidType, Placed, operand_type, placed_in}
use Rattle.dialect_types.specs.Trees.{TypeTree}
use Rattle.dialect_core.specs.declared.numbers.BlockRef.{BlockRef}
use Rattle.dialect_core.specs.declared.ops.Value.{Value}
use Rattle.dialect_core.specs.declared.ops.Value.TheVariants as V
use Rattle.dialect_core.specs.Data.{DialectOp, DialectBlock, Func, value_type}
use Rattle.meaning.specs.Pairs.{Matched}
use Rattle.from_llvm_ir.specs.Match.{IsPlaces}
use Rattle.from_llvm_ir.specs.Imported.{kept_name}
use Rattle.from_llvm_ir.specs.Building.{AreNumbered, bare_func, ops_of}
use Rattle.from_llvm_ir.specs.Known.{Known, Stands, IsConstantOp, IsHeldConst, beside, blocks_of, value_of}
use Rattle.from_llvm_ir.specs.Converted.{IsConverted, AreConverted, IsFrom, FromArgument, FromResult, AreFrom}
use Rattle.from_llvm_ir.proofs.RowLaws.{first_class_is_own}
use Rattle.from_llvm_ir.proofs.PlaceLaws.{flat_at, flat_from, flat_same, found, number_apart}
use Rattle.from_llvm_ir.proofs.OrderLaws.{ordered_length, ordered_at, ordered_apart}

-- a function whose blocks are all filled
pub record IsWhole (k : Known) (cs : List DialectBlock) : Type 0 where
  pub form : LF.IsFormFunction k.frame.source
  pub held : LF.IsHeldFunction k.frame.source
  pub order : IsPlaces (length k.frame.source.blocks) k.frame.order
  pub count : length cs ≡ length (blocks_of k.frame)
  pub numbered : AreNumbered k.frame.base cs
  pub fresh : (i j : ℕ) (a b : DialectOp) → slice_get (ops_of cs) i ≡ Some a → slice_get (ops_of cs) j ≡ Some b → a.number ≡ b.number → i ≡ j
  pub made : Matched IsConstantOp k.constants k.hoisted
  pub consts : (i : ℕ) (c : ConstTree) → slice_get k.constants i ≡ Some c → IsHeldConst c
  pub once : IsDistinctList k.constants
  pub sources : k.sources ≡ flat_map (λ (b : L.Block). b.instructions) (blocks_of k.frame)
  pub long : length k.done ≡ length k.sources
  pub converted : AreConverted k cs
  pub from : AreFrom k cs
  pub apart : IsDistinctList k.done
  pub behind : (i j : ℕ) (o : DialectOp) (w : Value) → slice_get k.hoisted i ≡ Some o → slice_get k.done j ≡ Some w → ¬ (w ≡ value_of o)

-- ---- what stands beside an item

pub record BesideAt {X Y : Type 0} (test : X → Bool) (xs : List X) (ys : List Y) (y : Y) : Type 0 where
  pub place : ℕ
  pub item : X
  pub here : slice_get xs place ≡ Some item
  pub passes : test item ≡ true
  pub there : slice_get ys place ≡ Some y

pub beside_from : {X Y : Type 0} (test : X → Bool) (xs : List X) (ys : List Y) (y : Y) → beside test xs ys ≡ Some y → BesideAt test xs ys y
beside_from test [] ys y h = absurd (none-some y h)
beside_from test (x ∷ xs) [] y h = absurd (none-some y h)
beside_from {X = X} {Y = Y} test (x ∷ xs) (z ∷ ys) y h = by (test x) refl h (beside_from test xs ys y)
  where
    by : (t : Bool) → test x ≡ t → (if t then Some z else beside test xs ys) ≡ Some y → (beside test xs ys ≡ Some y → BesideAt test xs ys y) → BesideAt test (x ∷ xs) (z ∷ ys) y
    by true e k rest = record { place = 0; item = x; here = refl; passes = e; there = k }
    by false e k rest = let r = rest k in record { place = ℕ.suc r.place; item = r.item; here = r.here; passes = r.passes; there = r.there }

pub beside_at : {X Y : Type 0} (test : X → Bool) (xs : List X) (ys : List Y) (i : ℕ) (x : X) (y : Y) → slice_get xs i ≡ Some x → test x ≡ true → slice_get ys i ≡ Some y → ((j : ℕ) (z : X) → slice_get xs j ≡ Some z → test z ≡ true → j ≡ i) → beside test xs ys ≡ Some y
beside_at test [] ys i x y at_x passes at_y one = cc
beside_at test (z ∷ xs) [] i x y at_x passes at_y one = cc
beside_at test (z ∷ xs) (w ∷ ys) ℕ.zero x y at_x passes at_y one =
    let same = same_Some z x at_x in
    ap (λ (t : Bool). if t then Some w else beside test xs ys) (ap test same ∙ passes) ∙ at_y
beside_at {X = X} test (z ∷ xs) (w ∷ ys) (ℕ.suc i) x y at_x passes at_y one =
    ap (λ (t : Bool). if t then Some w else beside test xs ys) (other (test z) refl) ∙ beside_at test xs ys i x y at_x passes at_y (λ j v here is. let s = one (ℕ.suc j) v here is in omega (arith, s))
  where
    other : (b : Bool) → test z ≡ b → test z ≡ false
    other true e = let no : 0 ≡ ℕ.suc i = one 0 z refl e in absurd (omega (arith, no))
    other false e = e

-- and what stands beside stays when both lists grow
pub beside_more : {X Y : Type 0} (test : X → Bool) (xs xs' : List X) (ys ys' : List Y) (y : Y) → beside test xs ys ≡ Some y → beside test (xs ++ xs') (ys ++ ys') ≡ Some y
beside_more test [] xs' ys ys' y h = absurd (none-some y h)
beside_more test (x ∷ xs) xs' [] ys' y h = absurd (none-some y h)
beside_more {X = X} {Y = Y} test (x ∷ xs) xs' (z ∷ ys) ys' y h = by (test x) h (beside_more test xs xs' ys ys' y)
  where
    by : (t : Bool) → (if t then Some z else beside test xs ys) ≡ Some y → (beside test xs ys ≡ Some y → beside test (xs ++ xs') (ys ++ ys') ≡ Some y) → (if t then Some z else beside test (xs ++ xs') (ys ++ ys')) ≡ Some y
    by true k rest = k
    by false k rest = rest k

-- ---- types of parameters

nth_listed : (ts : L.TypeTrees) (i : ℕ) → i < count_types ts → slice_get (types_list ts) i ≡ Some (L.nth_type ts i)
nth_listed L.NoTypes i lt = absurd (omega arith)
nth_listed (L.ThenType t ts) ℕ.zero lt = refl
nth_listed (L.ThenType t ts) (ℕ.suc i) lt = nth_listed ts i (omega arith)

pub listed_length : (ts : L.TypeTrees) → length (types_list ts) ≡ count_types ts
listed_length L.NoTypes = refl
listed_length (L.ThenType t ts) = let e = listed_length ts in omega (arith, e)

constant_result : (c : ConstTree) (o : DialectOp) → IsConstantOp c o → o.result ≡ Some (L.const_type c)
constant_result c o h = ap (λ (x : DialectOp). x.result) h.2

-- the number and the name of a function of the dialect
pub record Head : Type 0 where
  pub number : ℕ
  pub name : List ℕ

abbrev pub the_func : Head → Known → List DialectBlock → Func
the_func n k cs = record (bare_func n.number n.name (kept_name k.frame.source.name n.name) k.frame.source.type) { blocks = cs }

module _ (n : Head) (k : Known) (cs : List DialectBlock) (h : IsWhole k cs) where
  abbrev g : L.Function
  g = k.frame.source

  abbrev bs : List L.Block
  bs = blocks_of k.frame

  abbrev G : Func
  G = the_func n k cs

  -- ---- blocks by their numbers

  pub source_block_apart : (i j : ℕ) (x y : L.Block) → slice_get g.blocks i ≡ Some x → slice_get g.blocks j ≡ Some y → x.number ≡ y.number → i ≡ j
  source_block_apart i j x y at_x at_y same = number_apart (λ (b : L.Block). b.number) g.blocks h.form.block_numbers i j x y at_x at_y same

  pub block_apart : (i j : ℕ) (x y : L.Block) → slice_get bs i ≡ Some x → slice_get bs j ≡ Some y → x.number ≡ y.number → i ≡ j
  block_apart i j x y at_x at_y same = ordered_apart k.frame.order g.blocks h.order h.form.block_numbers source_block_apart i j x y at_x at_y same

  pub bs_length : length bs ≡ length g.blocks
  bs_length = ordered_length k.frame.order g.blocks h.order

  -- what stands for a block of the source, and what a block stands for
  pub target_at : (j : ℕ) (b : L.Block) → slice_get bs j ≡ Some b → (c : DialectBlock) × (slice_get cs j ≡ Some c) × IsConverted k (take j cs) j b c
  target_at j b at = let c = item_there cs j (omega (arith, slice_get_within bs j b at, h.count)) in (c.0, c.1, h.converted j b c.0 at c.1)

  pub source_at : (j : ℕ) (c : DialectBlock) → slice_get cs j ≡ Some c → (b : L.Block) × (slice_get bs j ≡ Some b) × IsConverted k (take j cs) j b c
  source_at j c at = let b = item_there bs j (omega (arith, slice_get_within cs j c at, h.count)) in (b.0, b.1, h.converted j b.0 c b.1 at)

  -- a function of the form has a first block
  some_block : (xs : List L.Block) → ¬ (xs ≡ []) → 0 < length xs
  some_block [] not_none = absurd (not_none refl)
  some_block (x ∷ xs) not_none = omega arith

  pub first_source : (b : L.Block) × (slice_get bs 0 ≡ Some b)
  first_source = item_there bs 0 (omega (arith, some_block g.blocks h.form.body, bs_length))

  pub entry : (c : DialectBlock) × (slice_get cs 0 ≡ Some c) × IsConverted k (take 0 cs) 0 first_source.0 c
  entry = target_at 0 first_source.0 first_source.1

  pub target_apart : (i j : ℕ) (x y : DialectBlock) → slice_get cs i ≡ Some x → slice_get cs j ≡ Some y → x.number ≡ y.number → i ≡ j
  target_apart i j x y at_x at_y same = let a = h.numbered i x at_x in let b = h.numbered j y at_y in omega (arith, a, b, same)

  pub find_target : (j : ℕ) (c : DialectBlock) (m : ℕ) → slice_get cs j ≡ Some c → c.number ≡ m → find (λ (x : DialectBlock). nat_eq x.number m) cs ≡ Some c
  find_target j c m at is = found (λ (x : DialectBlock). x.number) cs j c m is at (λ i y here same. target_apart i j y c here at (same ∙ sym is))

  pub find_source : (i : ℕ) (b : L.Block) (m : ℕ) → slice_get g.blocks i ≡ Some b → b.number ≡ m → find (λ (x : L.Block). nat_eq x.number m) g.blocks ≡ Some b
  find_source i b m at is = found (λ (x : L.Block). x.number) g.blocks i b m is at (λ j y here same. source_block_apart j i y b here at (same ∙ sym is))

  -- ---- types of values

  pub arg_typed : (j i : ℕ) (c : DialectBlock) (b : BlockRef) (t : TypeTree) → slice_get cs j ≡ Some c → b.0 ≡ c.number → slice_get c.args i ≡ Some t → value_type G (V.Argument b i) ≡ Some t
  arg_typed j i c b t at is type = ap (option_and_then (λ (x : DialectBlock). slice_get x.args i)) (find_target j c b.0 at (sym is)) ∙ type

  pub op_at : (j y : ℕ) (c : DialectBlock) (o : DialectOp) → slice_get cs j ≡ Some c → slice_get c.ops y ≡ Some o → (i : ℕ) × (slice_get (ops_of cs) i ≡ Some o)
  op_at j y c o at here = flat_at (λ (x : DialectBlock). x.ops) cs j c y o at here

  pub result_typed : (j y : ℕ) (c : DialectBlock) (o : DialectOp) → slice_get cs j ≡ Some c → slice_get c.ops y ≡ Some o → value_type G (value_of o) ≡ o.result
  result_typed j y c o at here =
      let i = op_at j y c o at here in
      ap (option_and_then (λ (x : DialectOp). x.result)) (found (λ (x : DialectOp). x.number) (ops_of cs) i.0 o o.number refl i.1 (λ a z at_z same. h.fresh a i.0 z o at_z i.1 same))

  from_typed : (p : Placed) (w : Value) → IsFrom cs p w → IsFirstClass p.type → value_type G w ≡ Some p.type
  from_typed p w (FromArgument j i c at is type) h = ap (value_type G) is ∙ arg_typed j i c (record { 0 = c.number }) p.type at refl type
  from_typed p w (FromResult j y c o at here is type) h = ap (value_type G) is ∙ result_typed j y c o at here ∙ type ∙ first_class_is_own p.type h

  -- ---- instructions by their numbers

  pub placed_apart : (i j : ℕ) (x y : Placed) → slice_get (placed_in g) i ≡ Some x → slice_get (placed_in g) j ≡ Some y → x.number ≡ y.number → i ≡ j
  placed_apart i j x y at_x at_y same = number_apart (λ (p : Placed). p.number) (placed_in g) h.form.numbers i j x y at_x at_y same

  -- an instruction of a block in the order is one of the function
  pub placed_at : (j x : ℕ) (b : L.Block) (p : Placed) → slice_get bs j ≡ Some b → slice_get b.instructions x ≡ Some p → (i : ℕ) × (slice_get (placed_in g) i ≡ Some p)
  placed_at j x b p at here = let o = ordered_at k.frame.order g.blocks h.order j b at in flat_at (λ (y : L.Block). y.instructions) g.blocks o.place b x p o.at here

  pub source_typed : (i : ℕ) (p : Placed) → slice_get (placed_in g) i ≡ Some p → operand_type g (L.Result p.number) ≡ p.type
  source_typed i p at = ap (λ (o : Option Placed). option_map_or (λ (x : Placed). x.type) o VoidType) (found (λ (x : Placed). x.number) (placed_in g) i p p.number refl at (λ j y here same. placed_apart j i y p here at same))

  pub source_placed : (i : ℕ) (p : Placed) → slice_get k.sources i ≡ Some p → (j : ℕ) × (slice_get (placed_in g) j ≡ Some p)
  source_placed i p at = let f = flat_from (λ (b : L.Block). b.instructions) bs i p (ap (λ (ps : List Placed). slice_get ps i) (sym h.sources) ∙ at) in placed_at f.place f.inner f.item p f.here f.at

  -- ---- types of operands

  pub operand_typed : (t : L.TypeTree) (o : L.Operand) (w : Value) → Stands k o w → LF.IsOperand g t o → value_type G w ≡ Some t
  operand_typed t (L.Constant c) w st f =
      let makes = matched_at IsConstantOp k.constants k.hoisted h.made st.place c st.op st.here st.there in
      let at = ap (λ (os : List DialectOp). slice_get os st.place) entry.2.ops ∙ slice_get-kept k.hoisted entry.2.rest st.place st.op st.there in
      ap (value_type G) st.is ∙ result_typed 0 st.place entry.0 st.op entry.1 at ∙ constant_result c st.op makes ∙ ap (λ (x : L.TypeTree). Some x) f.typed
  operand_typed t (L.Parameter e i) w st f =
      let is : L.param_type g.type i ≡ t = sym (ap (λ (x : Bool). if x then L.param_type g.type i else VoidType) (eq-eqb e g.number st.0)) ∙ f.typed in
      let small : i < count_types h.form.types = omega (arith, st.1, h.form.params) in
      let type : slice_get entry.0.args i ≡ Some (L.param_type g.type i) =
      ap (λ (ts : List TypeTree). slice_get ts i) (entry.2.head.args ∙ ap params_of h.form.type) ∙ nth_listed h.form.types i small ∙ ap (λ (x : L.TypeTree). Some (L.param_type x i)) (sym h.form.type) in
      let number : k.frame.base ≡ entry.0.number = (let e = entry.2.head.number in omega (arith, e)) in
      ap (value_type G) st.2 ∙ arg_typed 0 i entry.0 (record { 0 = k.frame.base }) _ entry.1 number type ∙ ap (λ (x : L.TypeTree). Some x) is
  operand_typed t (L.Result m) w st f =
      let b = beside_from (λ (p : Placed). nat_eq p.number m) k.sources k.done w st in
      let number : b.item.number ≡ m = eqb-true b.item.number m b.passes in
      let here = source_placed b.place b.item b.here in
      let type : b.item.type ≡ t = sym (source_typed here.0 b.item here.1) ∙ ap (λ (x : ℕ). operand_type g (L.Result x)) number ∙ f.typed in
      from_typed b.item w (h.from b.place b.item w b.here b.there) (subst IsFirstClass (sym type) f.first_class) ∙ ap (λ (x : L.TypeTree). Some x) type

  -- ---- results

  -- the value beside an instruction stands for its result
  pub source_apart : (i j : ℕ) (p q : Placed) → slice_get k.sources i ≡ Some p → slice_get k.sources j ≡ Some q → p.number ≡ q.number → i ≡ j
  source_apart i j p q at_p at_q same =
      let a = flat_from (λ (b : L.Block). b.instructions) bs i p (ap (λ (ps : List Placed). slice_get ps i) (sym h.sources) ∙ at_p) in
      let b = flat_from (λ (b : L.Block). b.instructions) bs j q (ap (λ (ps : List Placed). slice_get ps j) (sym h.sources) ∙ at_q) in
      let x = ordered_at k.frame.order g.blocks h.order a.place a.item a.here in
      let y = ordered_at k.frame.order g.blocks h.order b.place b.item b.here in
      let e = flat_same (λ (b : L.Block). b.instructions) g.blocks x.place y.place a.item b.item a.inner b.inner p q x.at y.at a.at b.at (λ u v at_u at_v. placed_apart u v p q at_u at_v same) in
      let place : a.place ≡ b.place = h.order.apart a.place b.place x.place x.here (y.here ∙ ap Some (sym e.0)) in
      a.index ∙ both place e.1 ∙ sym b.index
    where
      both : {u v c d : ℕ} → u ≡ v → c ≡ d → length (flat_map (λ (b : L.Block). b.instructions) (take u bs)) + c ≡ length (flat_map (λ (b : L.Block). b.instructions) (take v bs)) + d
      both e f = cc (e, f)
