-- What a module keeps where it gets more constants, and what is put into it.
use Rattle.std.proofs.Common.{◌≡◌, ◌⊎◌, inl, inr, ◌<◌, ◌≤◌, ◌^◌, ◌+◌, ◌++◌, ℕ, zero, suc, Bool, true, false, if◌then◌else◌, List, [], ◌∷◌, Option, Some, None, length, slice_get, slice_set, get_or, ap, sym, ◌∙◌, refl, subst, arith, All}
use Rattle.std.specs.Prelude.{nat_lt}
use Rattle.std.specs.Option.{option_map, option_and_then}
use Rattle.std.proofs.lemmas.List.{append-nil, append_assoc, length-append}
use Rattle.std.proofs.lemmas.Bool.{lt-ltb, le-ltb}
use Rattle.std.proofs.lemmas.Option.{same_Some, slice_get_within}
use Rattle.support.specs.Interned.{Interned}
use Rattle.support.proofs.InternedLaws.{interned_more}
use Rattle.support.proofs.ListLaws.{item_there, slice_get-kept, slice_get-push_cases}
use Rattle.kinds.specs.declared.fill.Fill.{Fill}
use Rattle.kinds.specs.Fill.{is_own_fill}
use Rattle.llvm_core.specs.declared.numbers.LLVMType.{LLVMType}
use Rattle.llvm_core.specs.declared.numbers.LLVMConst.{LLVMConst}
use Rattle.llvm_core.specs.declared.types.LLVMTypeKind.{LLVMTypeKind}
use Rattle.llvm_core.specs.declared.consts.LLVMConstKind.{LLVMConstKind}
use Rattle.llvm_core.specs.declared.consts.LLVMConstKind.TheVariants as C
use Rattle.llvm_core.specs.declared.pieces.Piece.{Piece}
use Rattle.llvm_core.specs.declared.pieces.Piece.TheVariants as P
use Rattle.llvm_core.specs.declared.structs.StructData.{StructData}
use Rattle.llvm_core.specs.Module.{Module}
use Rattle.llvm_core.specs.Parts as parts
use Rattle.llvm_core.specs.Parts.{shape_at}
use Rattle.llvm_core.specs.Consts.{IsElement, IsListOf, HasConstParts, AreElements, is_placeholder, one_form}
use Rattle.llvm_core.specs.Sound.{IsModule}
use Rattle.llvm_core.specs.Data.{TypeTree, ConstTree, ConstTrees, IntConst, ThenConst, type_at, type_trees, const_at, consts_at, const_trees, const_type, trees_of, data_of, listed}
use Rattle.llvm_core.specs.Inserted.{count, replaced, opened, inserted}
use Rattle.llvm_core.specs.Pieces.{piece_tree, piece_trees, IsPieceOf, ArePiecesOf, HasMoreConsts, IsPutAs, ArePut, pieces}
use Rattle.llvm_core.proofs.TreeLemmas.{const_at-kept}
use Rattle.llvm_core.proofs.DataLemmas.{const_tree_of, const_type_of}
use Rattle.llvm_core.proofs.PieceTrees.{count_of, trees_replaced, pieces_opened}

-- ---- more constants

pub more_none : (m : Module) → IsModule m → HasMoreConsts m m
more_none m s = record { more = []; rest = refl; longer = sym (append-nil m.consts); same = refl; sound = s }

pub more_same : (m n : Module) → IsModule m → n ≡ m → HasMoreConsts m n
more_same m n s e = subst (HasMoreConsts m) (sym e) (more_none m s)

pub more_then : (m n o : Module) → HasMoreConsts m n → HasMoreConsts n o → HasMoreConsts m o
more_then m n o g h = record {
  more = g.more ++ h.more;
  rest = h.rest ∙ ap (λ (x : Module). let y : Module = record x { consts = o.consts } in y) g.rest;
  longer = h.longer ∙ ap (λ (xs : List LLVMConstKind). xs ++ h.more) g.longer ∙ append_assoc m.consts g.more h.more;
  same = h.same ∙ g.same;
  sound = h.sound;
}

pub more_got : (m n : Module) (k : LLVMConstKind) (i : ℕ) → n ≡ record m { consts = n.consts } → Interned m.consts n.consts k i → data_of n ≡ data_of m → IsModule n → HasMoreConsts m n
more_got m n k i rest h same sound = let (xs, longer) = interned_more m.consts n.consts k i h in record { more = xs; rest = rest; longer = longer; same = same; sound = sound }

module _ (m n : Module) (g : HasMoreConsts m n) where
  const_stays : (i : ℕ) (k : LLVMConstKind) → slice_get m.consts i ≡ Some k → slice_get n.consts i ≡ Some k
  const_stays i k at = ap (λ (xs : List LLVMConstKind). slice_get xs i) g.longer ∙ slice_get-kept m.consts g.more i k at

  types_stay : n.types ≡ m.types
  types_stay = ap (λ (x : Module). x.types) g.rest

  structs_stay : n.structs ≡ m.structs
  structs_stay = ap (λ (x : Module). x.structs) g.rest

  element_stays : (u : LLVMType) (c : LLVMConst) → IsElement m.consts u c → IsElement n.consts u c
  element_stays u c h = (h.0, const_stays c.0 h.0 h.1, h.2)

  within_stays : (c : LLVMConst) → c.0 < length m.consts → c.0 < length n.consts
  within_stays c below = let (k, at) = item_there m.consts c.0 below in slice_get_within n.consts c.0 k (const_stays c.0 k at)

  at_stays : (c : LLVMConst) → c.0 < length m.consts → const_at (trees_of n).consts c ≡ const_at (trees_of m).consts c
  at_stays c below =
      ap (λ (x : Module). get_or (const_trees (type_trees x.types) n.consts) c.0 (IntConst 0 0)) g.rest
      ∙ ap (λ (xs : List LLVMConstKind). get_or (const_trees (type_trees m.types) xs) c.0 (IntConst 0 0)) g.longer ∙ const_at-kept (type_trees m.types) m.consts g.more c.0 below

  pub piece_stays : (u : LLVMType) (p : Piece) → IsPieceOf m u p → IsPieceOf n u p
  piece_stays u (P.There c) h = element_stays u c h
  piece_stays u (P.Filled fill t) h = (h.0, subst (λ (ts : List LLVMTypeKind). t.0 < length ts) (sym types_stay) h.1)
  piece_stays u (P.Int t value) h = (h.0, ap (λ (ts : List LLVMTypeKind). slice_get ts t.0) types_stay ∙ h.1, h.2)

  piece_same : (u : LLVMType) (p : Piece) → IsPieceOf m u p → piece_tree (trees_of n) p ≡ piece_tree (trees_of m) p
  piece_same u (P.There c) h = at_stays c (slice_get_within m.consts c.0 h.0 h.1)
  piece_same u (P.Filled fill t) h = ap (λ (x : Module). piece_tree (record { types = type_trees x.types; consts = (trees_of m).consts }) (P.Filled fill t)) g.rest
  piece_same u (P.Int t value) h = ap (λ (x : Module). piece_tree (record { types = type_trees x.types; consts = (trees_of m).consts }) (P.Int t value)) g.rest

  put_stays : (l : Module) (p : Piece) (c : LLVMConst) → IsPutAs l m p c → IsPutAs l n p c
  put_stays l p c h = record { there = within_stays c h.there; tree = at_stays c h.there ∙ h.tree; element = λ u of. element_stays u c (h.element u of) }

-- ---- what a piece is

pub put_there : (m : Module) (c : LLVMConst) (u : LLVMType) → IsElement m.consts u c → IsPutAs m m (P.There c) c
put_there m c u h = record { there = slice_get_within m.consts c.0 h.0 h.1; tree = refl; element = λ v of. of }

pub put_filled : (m n : Module) (c : LLVMConst) (fill : Fill) (t : LLVMType) → slice_get n.consts c.0 ≡ Some (one_form m (C.Filled fill t)) → const_at (trees_of n).consts c ≡ piece_tree (trees_of m) (P.Filled fill t) → IsPutAs m n (P.Filled fill t) c
put_filled m n c fill t at is = record { there = slice_get_within n.consts c.0 _ at; tree = is; element = λ u of. (one_form m (C.Filled fill t), at, by (is_own_fill fill (shape_at m.types t)) u of.0) }
  where
    by : (b : Bool) (u : LLVMType) → t ≡ u → (parts.const_type (if b then C.Filled fill t else C.Int t 0) ≡ u) × (is_placeholder (if b then C.Filled fill t else C.Int t 0) ≡ false)
    by true u e = (e, refl)
    by false u e = (e, refl)

pub put_int : (m n : Module) (c : LLVMConst) (t : LLVMType) (value : ℕ) → slice_get n.consts c.0 ≡ Some (C.Int t value) → const_at (trees_of n).consts c ≡ piece_tree (trees_of m) (P.Int t value) → IsPutAs m n (P.Int t value) c
put_int m n c t value at is = record { there = slice_get_within n.consts c.0 _ at; tree = is; element = λ u of. (C.Int t value, at, (of.0, refl)) }

-- what a piece asks of the constant that is made for it
pub int_parts : (m : Module) (u t : LLVMType) (value : ℕ) → IsPieceOf m u (P.Int t value) → HasConstParts m (C.Int t value)
int_parts m u t value h = (8, h.1, (h.2, omega (arith, h.2)))

-- ---- pieces one by one

pub put_none : (m : Module) (ps : List Piece) → IsModule m → ArePut m m ps 0 []
put_none m ps s = record { grown = more_none m s; count = refl; few = omega arith; each = λ i p c at is. cc }

pub put_more : (l m n : Module) (ps : List Piece) (done : ℕ) (cs : List LLVMConst) (p : Piece) (c : LLVMConst) (u : LLVMType) → ArePut l m ps done cs → HasMoreConsts m n → slice_get ps done ≡ Some p → IsPieceOf l u p → IsPutAs m n p c
    → ArePut l n ps (done + 1) (cs ++ c ∷ [])
put_more l m n ps done cs p c u old g at of new = record {
  grown = more_then l m n old.grown g;
  count = length-append cs (c ∷ []) ∙ ap (λ (k : ℕ). k + 1) old.count;
  few = (let lt = slice_get_within ps done p at in omega (arith, lt));
  each = λ i q d here is. by i q d here (slice_get-push_cases cs c i d is);
}
  where
    mine : IsPutAs l n p c
    mine = record { there = new.there; tree = new.tree ∙ piece_same l m old.grown u p of; element = λ v is. new.element v (piece_stays l m old.grown v p is) }

    by : (i : ℕ) (q : Piece) (d : LLVMConst) → slice_get ps i ≡ Some q → (slice_get cs i ≡ Some d) ⊎ ((i ≡ length cs) × (d ≡ c)) → IsPutAs l n q d
    by i q d here (inl before) = put_stays m n g l q d (old.each i q d here before)
    by i q d here (inr last) =
        let same = same_Some p q (sym at ∙ ap (slice_get ps) (sym (last.0 ∙ old.count)) ∙ here) in
        subst (λ (x : LLVMConst). IsPutAs l n q x) (sym last.1) (subst (λ (x : Piece). IsPutAs l n x c) same mine)

all_put : (m n : Module) (ps : List Piece) (cs : List LLVMConst) → length cs ≡ length ps → ((i : ℕ) (p : Piece) (c : LLVMConst) → slice_get ps i ≡ Some p → slice_get cs i ≡ Some c → IsPutAs m n p c) → consts_at (trees_of n).consts cs ≡ piece_trees (trees_of m) ps
all_put m n [] [] e h = refl
all_put m n [] (c ∷ cs) e h = absurd (omega (arith, e))
all_put m n (p ∷ ps) [] e h = absurd (omega (arith, e))
all_put m n (p ∷ ps) (c ∷ cs) e h =
    let first = (h 0 p c refl refl).tree in
    let rest = all_put m n ps cs (omega arith) (λ i q d at is. h (suc i) q d at is) in
    ap (λ (x : ConstTree). ThenConst x (consts_at (trees_of n).consts cs)) first ∙ ap (ThenConst (piece_tree (trees_of m) p)) rest

module _ (m n : Module) (ps : List Piece) (done : ℕ) (cs : List LLVMConst) (h : ArePut m n ps done cs) (end : length ps ≤ done) where
  as_many : length cs ≡ length ps
  as_many = omega (arith, h.count, h.few, end)

  pub put_trees : consts_at (trees_of n).consts cs ≡ piece_trees (trees_of m) ps
  put_trees = all_put m n ps cs as_many h.each

  pub put_list : (t : LLVMType) → ArePiecesOf m t ps → IsListOf n.types n.consts n.structs t cs
  put_list t of = record {
    kind = of.kind;
    parts = of.parts;
    typed = ap (λ (ts : List LLVMTypeKind). slice_get ts t.0) (types_stay m n h.grown) ∙ of.typed;
    fit = subst (λ (ss : List StructData). AreElements ss of.kind of.parts) (sym (structs_stay m n h.grown)) of.fit;
    count = as_many ∙ of.count;
    each = λ i c u at is. let (p, here) = item_there ps i (subst (λ (k : ℕ). i < k) as_many (slice_get_within cs i c at)) in (h.each i p c here at).element u (of.each i p u here is);
  }

-- a piece at a place is of the type there
pub piece_at : (m n : Module) (t : LLVMType) (ps : List Piece) (i : ℕ) (p : Piece) → HasMoreConsts m n → ArePiecesOf m t ps → slice_get ps i ≡ Some p → (u : LLVMType) × IsPieceOf m u p × IsPieceOf n u p
piece_at m n t ps i p g of at =
    let (u, is) = item_there of.parts i (subst (λ (k : ℕ). i < k) of.count (slice_get_within ps i p at)) in
    let here = of.each i p u at is in
    (u, here, piece_stays m n g u p here)

-- ---- the constant as a whole

pub list_put : (m n o : Module) (t : LLVMType) (ps : List Piece) (cs : List LLVMConst) (c : LLVMConst) → HasMoreConsts m n → consts_at (trees_of n).consts cs ≡ piece_trees (trees_of m) ps
    → const_at (trees_of o).consts c ≡ listed (type_at (trees_of n).types t) (consts_at (trees_of n).consts cs) → const_at (trees_of o).consts c ≡ listed (type_at (trees_of m).types t) (piece_trees (trees_of m) ps)
list_put m n o t ps cs c g trees is =
    is ∙ ap (λ (x : Module). listed (type_at (type_trees x.types) t) (consts_at (trees_of n).consts cs)) g.rest ∙ ap (listed (type_at (trees_of m).types t)) trees

module _ (m : Module) (s : IsModule m) (a : LLVMConst) (k : LLVMConstKind) (at : slice_get m.consts a.0 ≡ Some k) (place : ℕ) (x : LLVMConst) where
  abbrev X : ConstTree
  X = const_at (trees_of m).consts x

  abbrev A : ConstTree
  A = const_at (trees_of m).consts a

  abbrev by_opened : Option ConstTrees → Option ConstTree
  by_opened o = option_and_then (λ (cs : ConstTrees). if nat_lt place (count cs) then Some (listed (const_type A) (replaced cs place X)) else None) o

  opens : opened (data_of m).structs A ≡ option_map (piece_trees (trees_of m)) (pieces m k)
  opens = ap (opened (data_of m).structs) (const_tree_of m a k at (s.consts_below a.0 k at)) ∙ sym (pieces_opened m s k (s.consts a.0 k at))

  is_inserted : (o : Option (List Piece)) → pieces m k ≡ o → inserted (data_of m).structs A place X ≡ by_opened (option_map (piece_trees (trees_of m)) o)
  is_inserted o e = ap by_opened (opens ∙ ap (option_map (piece_trees (trees_of m))) e)

  pub insert_none : pieces m k ≡ None → None ≡ inserted (data_of m).structs A place X
  insert_none e = sym (is_inserted None e)

  by_place : (ps : List Piece) (b : Bool) → nat_lt place (length ps) ≡ b → by_opened (Some (piece_trees (trees_of m) ps)) ≡ (if b then Some (listed (const_type A) (replaced (piece_trees (trees_of m) ps) place X)) else None)
  by_place ps b e =
      ap (λ (w : ℕ). if nat_lt place w then Some (listed (const_type A) (replaced (piece_trees (trees_of m) ps) place X)) else None) (count_of (trees_of m) ps)
      ∙ ap (λ (t : Bool). if t then Some (listed (const_type A) (replaced (piece_trees (trees_of m) ps) place X)) else None) e

  pub insert_past : (ps : List Piece) → pieces m k ≡ Some ps → length ps ≤ place → None ≡ inserted (data_of m).structs A place X
  insert_past ps e past = sym (is_inserted (Some ps) e ∙ by_place ps false (le-ltb place (length ps) past))

  pub insert_there : (n : Module) (ps : List Piece) (c : LLVMConst) → pieces m k ≡ Some ps → place < length ps
      → const_at (trees_of n).consts c ≡ listed (type_at (trees_of m).types (parts.const_type k)) (piece_trees (trees_of m) (slice_set ps place (P.There x))) → Some (const_at (trees_of n).consts c) ≡ inserted (data_of m).structs A place X
  insert_there n ps c e lt is =
      ap Some (is ∙ ap (λ (t : TypeTree). listed t (piece_trees (trees_of m) (slice_set ps place (P.There x)))) (sym (const_type_of m a k s at)) ∙ ap (listed (const_type A)) (trees_replaced (trees_of m) ps place x))
      ∙ sym (is_inserted (Some ps) e ∙ by_place ps true (lt-ltb place (length ps) lt))
