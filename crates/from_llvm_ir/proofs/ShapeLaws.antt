-- A whole function has the shape of its source.
use Rattle.std.proofs.Common.{ℕ, zero, suc, ◌≡◌, ◌<◌, ◌+◌, refl, sym, ap, subst, ◌∙◌, Bool, true, false, not, cond, if◌then◌else◌, nat_eq, List, [], ◌∷◌, ◌++◌, Option, Some, None, filter, map, length, take, slice_get, arith, eq-eqb, ne_eqb}
use Rattle.std.specs.Prelude.{is_some, slice_index_or}
use Rattle.std.proofs.Common.{◌≤◌, inl, inr}
use Rattle.std.specs.List.{filter_map, flat_map, find, cons_option, position_from}
use Rattle.std.specs.Option.{option_map, option_map_or, option_and_then}
use Rattle.std.proofs.lemmas.Bool.{not-true, cases_lt}
use Rattle.std.proofs.lemmas.List.{map-append, length-map, get_or_past}
use mathlib.Core.Path.{fun_ext}
use Rattle.std.proofs.lemmas.List.Concat.{flat_map-append}
use Rattle.std.proofs.lemmas.Option.{same_Some, none-some, slice_get_within, slice_get-map, slice_get_past, get_or_from_slice_get}
use Rattle.meaning.proofs.MatchedLaws.{matched_length, matched_at, matched_append}
use Rattle.meaning.proofs.RenamedLaws.{names_stay}
use Rattle.meaning.proofs.TermLaws.{term_stays}
use Rattle.support.proofs.ListLaws.{item_there, slice_get-kept, filter_from}
use Rattle.llvm_core.specs.Form as LF
use Rattle.llvm_core.specs.Data as L
use Rattle.llvm_core.specs.Data.{ConstTree, Placed, operand_type, targets, phi_entries}
use Rattle.llvm_core.proofs.DataLemmas.{length-filter_map_all, slice_get-filter_map_all}
use Rattle.dialect_types.specs.Trees.{TypeTree}
use Rattle.dialect_core.specs.declared.numbers.BlockRef.{BlockRef}
use Rattle.dialect_core.specs.declared.ops.Value.{Value}
use Rattle.dialect_core.specs.declared.ops.Value.TheVariants as V
use Rattle.dialect_core.specs.declared.ops.Successor.{Successor}
use Rattle.dialect_core.specs.Data.{DialectOp, DialectBlock, Func, RowOp, value_type}
use Rattle.meaning.specs.Terms.{Match, rename, rename_type}
use Rattle.meaning.specs.Machine.{Row, Block, Operand, At}
use Rattle.meaning.specs.Setting.{Setting}
use Rattle.meaning.specs.Pairs.{Matched, BothOrNone}
use Rattle.meaning.specs.Llvm as Llvm
use Rattle.meaning.specs.Llvm.{Key}
use Rattle.meaning.specs.Dialect as Dialect
use Rattle.meaning.specs.Dialect.{option_type}
use Rattle.meaning.specs.Shape.{Plan, SameRow, SameMove, SameEdge, SameBlock, SameBlocks, SameShape, IsFront}
use Rattle.meaning.specs.Shape as Shape
use Rattle.from_llvm_ir.specs.Order.{IsInverse}
use Rattle.kinds.specs.Held.{is_void, own_type, IsHeldResult}
use Rattle.kinds.proofs.HeldLaws.{void_is}
use Rattle.from_llvm_ir.specs.Imported.{phis_of, rest_of, front_for, first_entry}
use Rattle.from_llvm_ir.specs.Source.{IsUsable}
use Rattle.from_llvm_ir.specs.Known.{Known, Stands, blocks_of, value_of}
use Rattle.from_llvm_ir.specs.Converted.{IsKind, IsEdge, IsRow, IsConverted}
use Rattle.from_llvm_ir.proofs.ListLaws.{matched_from, matched_map}
use Rattle.from_llvm_ir.proofs.PlaceLaws.{flat_same, flat_none}
use Rattle.from_llvm_ir.proofs.HeldLaws.{result_held_at}
use Rattle.from_llvm_ir.proofs.OrderLaws.{ordered_at, ordered_first, placed, not_first}
use Rattle.from_llvm_ir.proofs.PassLaws.{takes, phi_is, inst_form, operands_usable}
use Rattle.from_llvm_ir.proofs.HoistedLaws.{rows_of, is_among, term_of}
use Rattle.from_llvm_ir.proofs.Whole.{IsWhole, Head, the_func, bs_length, first_source, operand_typed, target_at, find_target, find_source, source_block_apart, target_apart, entry}
use Rattle.from_llvm_ir.proofs.EdgeLaws.{EdgeAt, edge_at, args_length, arg_at}
use Rattle.from_llvm_ir.proofs.FormLaws.{constant_here}
use Rattle.from_llvm_ir.proofs.PlanLaws.{plan, is_plan, starts, stands_value}

-- ---- lists

pub matched_flat : {X Y X' Y' : Type 0} (P : X → Y → Type 0) (Q : X' → Y' → Type 0) (f : X → List X') (g : Y → List Y') (xs : List X) (ys : List Y) → ((x : X) (y : Y) → P x y → Matched Q (f x) (g y)) → Matched P xs ys → Matched Q (flat_map f xs) (flat_map g ys)
matched_flat P Q f g [] [] each h = tt
matched_flat P Q f g [] (y ∷ ys) each h = elim h [ ]
matched_flat P Q f g (x ∷ xs) [] each h = elim h [ ]
matched_flat P Q f g (x ∷ xs) (y ∷ ys) each h = matched_append Q (f x) (flat_map f xs) (g y) (flat_map g ys) (each x y h.0) (matched_flat P Q f g xs ys each h.1)

-- what pairs off with the items that are kept pairs off with what is made of them
matched_rows : {X Y Z W : Type 0} (keep : X → Bool) (f : X → Option Z) (g : Y → W) (P : X → Y → Type 0) (Q : Z → W → Type 0) → ((x : X) → keep x ≡ false → f x ≡ None) → ((x : X) (y : Y) → P x y → (z : Z) × (f x ≡ Some z) × Q z (g y))
    → (xs : List X) (ys : List Y) → Matched P (filter keep xs) ys → Matched Q (filter_map f xs) (map g ys)
matched_rows keep f g P Q none each [] [] h = tt
matched_rows keep f g P Q none each [] (y ∷ ys) h = elim h [ ]
matched_rows {X = X} {Y = Y} {Z = Z} keep f g P Q none each (x ∷ xs) ys h = by (keep x) refl (λ zs m. matched_rows keep f g P Q none each xs zs m) ys h
  where
    by : (t : Bool) → keep x ≡ t → ((zs : List Y) → Matched P (filter keep xs) zs → Matched Q (filter_map f xs) (map g zs)) → (ys : List Y) → Matched P (cond t (x ∷ filter keep xs) (filter keep xs)) ys → Matched Q (cons_option (f x) (filter_map f xs)) (map g ys)
    by false e rest ys h = subst (λ (o : Option Z). Matched Q (cons_option o (filter_map f xs)) (map g ys)) (sym (none x e)) (rest ys h)
    by true e rest [] h = elim h [ ]
    by true e rest (y ∷ ys) h =
        let r = each x y h.0 in
        subst (λ (o : Option Z). Matched Q (cons_option o (filter_map f xs)) (map g (y ∷ ys))) (sym r.1) (r.2, rest ys h.1)

-- a phi is no row
no_row : (source : Setting) (g : L.Function) (p : Placed) (i : L.Instruction) → not (is_some (phi_entries i)) ≡ false → Llvm.row source g p i ≡ None
no_row source g p (L.Phi es) e = refl
no_row source g p (L.Applied r) e = let no : ⊥ = cc in absurd no

-- a phi leads nowhere
no_targets : (i : L.Instruction) → not (is_some (phi_entries i)) ≡ false → targets i ≡ []
no_targets (L.Phi es) e = refl
no_targets (L.Applied r) e = let no : ⊥ = cc in absurd no

all_targets : (ps : List Placed) → flat_map (λ (p : Placed). targets p.instruction) ps ≡ flat_map (λ (p : Placed). targets p.instruction) (filter (λ (p : Placed). not (LF.is_phi p)) ps)
all_targets [] = refl
all_targets (p ∷ ps) = by (not (LF.is_phi p)) refl (all_targets ps)
  where
    by : (t : Bool) → not (LF.is_phi p) ≡ t → flat_map (λ (p : Placed). targets p.instruction) ps ≡ flat_map (λ (p : Placed). targets p.instruction) (filter (λ (p : Placed). not (LF.is_phi p)) ps)
        → targets p.instruction ++ flat_map (λ (p : Placed). targets p.instruction) ps ≡ flat_map (λ (p : Placed). targets p.instruction) (cond t (p ∷ filter (λ (p : Placed). not (LF.is_phi p)) ps) (filter (λ (p : Placed). not (LF.is_phi p)) ps))
    by true is e = ap (λ (ts : List ℕ). targets p.instruction ++ ts) e
    by false is e = ap (λ (ts : List ℕ). ts ++ flat_map (λ (p : Placed). targets p.instruction) ps) (no_targets p.instruction is) ∙ e

-- the moves of an edge are those of phis
all_moves : (source : Setting) (m : ℕ) (ps : List Placed) → filter_map (Llvm.phi_move source m) ps ≡ filter_map (Llvm.phi_move source m) (filter LF.is_phi ps)
all_moves source m [] = refl
all_moves source m (p ∷ ps) = by (phi_entries p.instruction) refl (all_moves source m ps)
  where
    by : (v : Option (List (L.Operand × ℕ))) → phi_entries p.instruction ≡ v → filter_map (Llvm.phi_move source m) ps ≡ filter_map (Llvm.phi_move source m) (filter LF.is_phi ps)
        → cons_option (option_map {U = Key × Option (Operand Key)} (λ (es : List (L.Operand × ℕ)). (Llvm.ResultKey p.number, Llvm.entry_for source m es)) v) (filter_map (Llvm.phi_move source m) ps) ≡ filter_map (Llvm.phi_move source m) (cond (is_some v) (p ∷ filter LF.is_phi ps) (filter LF.is_phi ps))
    by None is e = e
    by (Some es) is e = cc (e, ap (option_map {U = Key × Option (Operand Key)} (λ (es : List (L.Operand × ℕ)). (Llvm.ResultKey p.number, Llvm.entry_for source m es))) is)

-- ---- the moves of the dialect

moves_length : (b : BlockRef) (i n : ℕ) (vs : List Value) → length (Dialect.argument_moves b i n vs) ≡ n
moves_length b i zero vs = refl
moves_length b i (suc n) [] = ap suc (moves_length b (suc i) n [])
moves_length b i (suc n) (v ∷ vs) = ap suc (moves_length b (suc i) n vs)

moves_at : (b : BlockRef) (i n : ℕ) (vs : List Value) (y : ℕ) (v : Value) → y < n → slice_get vs y ≡ Some v → slice_get (Dialect.argument_moves b i n vs) y ≡ Some (V.Argument b (i + y), Some (At v))
moves_at b i zero vs y v lt at = absurd (omega arith)
moves_at b i (suc n) [] y v lt at = absurd (none-some v at)
moves_at b i (suc n) (w ∷ vs) zero v lt at = let s = same_Some w v at in let e : i ≡ i + 0 = omega arith in cc (s, e)
moves_at b i (suc n) (w ∷ vs) (suc y) v lt at = moves_at b (suc i) n vs y v (omega arith) at ∙ ap (λ (x : ℕ). Some (V.Argument b x, Some (At v))) (let e : suc i + y ≡ i + suc y = omega arith in e)

-- the place of a block by its number
place_found : {X : Type 0} (number : X → ℕ) (from : ℕ) (xs : List X) (i : ℕ) (x : X) (m : ℕ) → slice_get xs i ≡ Some x → number x ≡ m → ((j : ℕ) (y : X) → slice_get xs j ≡ Some y → number y ≡ m → j ≡ i) → position_from (λ (y : X). nat_eq (number y) m) from xs ≡ Some (from + i)
place_found number from [] i x m at is one = cc
place_found {X = X} number from (y ∷ xs) zero x m at is one =
    ap (λ (b : Bool). cond b (Some from) (position_from (λ (z : X). nat_eq (number z) m) (from + 1) xs)) (eq-eqb (number y) m (ap number (same_Some y x at) ∙ is)) ∙ ap Some (let e : from ≡ from + 0 = omega arith in e)
place_found {X = X} number from (y ∷ xs) (suc i) x m at is one =
    let other : ¬ (number y ≡ m) = λ same. let no : 0 ≡ suc i = one 0 y refl same in absurd (omega (arith, no)) in
    ap (λ (b : Bool). cond b (Some from) (position_from (λ (z : X). nat_eq (number z) m) (from + 1) xs)) (ne_eqb (number y) m other)
    ∙ place_found number (from + 1) xs i x m at is (λ j z here same. let s = one (suc j) z here same in omega (arith, s))
    ∙ ap Some (let e : from + 1 + i ≡ from + suc i = omega arith in e)

module _ (source made : Setting) (n : Head) (k : Known) (cs : List DialectBlock) (h : IsWhole k cs) (match : Match) (named : (s : List ℕ) → match.struct s ≡ s) where
  abbrev g : L.Function
  g = k.frame.source

  abbrev bs : List L.Block
  bs = blocks_of k.frame

  abbrev G : Func
  G = the_func n k cs

  abbrev the_plan : Plan
  the_plan = plan n k cs h made

  -- ---- operands

  constant_stays : (c : ConstTree) → rename match (Llvm.const_term source c) ≡ Llvm.const_term source c
  constant_stays c = term_stays match named (Llvm.const_term source c)

  hoisted_apart : (i j : ℕ) (x y : DialectOp) → slice_get k.hoisted i ≡ Some x → slice_get k.hoisted j ≡ Some y → x.number ≡ y.number → i ≡ j
  hoisted_apart i j x y at_x at_y same =
      let e = entry n k cs h in
      let here : (i : ℕ) (x : DialectOp) → slice_get k.hoisted i ≡ Some x → slice_get e.0.ops i ≡ Some x = λ i x at. ap (λ (os : List DialectOp). slice_get os i) e.2.ops ∙ slice_get-kept k.hoisted e.2.rest i x at in
      (flat_same (λ (b : DialectBlock). b.ops) cs 0 0 e.0 e.0 i j x y e.1 e.1 (here i x at_x) (here j y at_y) (λ a b at_a at_b. h.fresh a b x y at_a at_b same)).1

  stands_for : (o : L.Operand) (w : Value) → Stands k o w → Shape.StandsFor match the_plan (Llvm.operand source o) (At w)
  stands_for (L.Constant c) w st =
      subst (λ (v : Value). Shape.StandsFor match the_plan (Llvm.operand source (L.Constant c)) (At v)) (sym st.is) (
        is_among made G k.hoisted st.place st.op st.there,
        constant_stays c ∙ sym (term_of made G source k.constants k.hoisted st.place c st.op h.made hoisted_apart st.here st.there),
      )
  stands_for (L.Parameter f j) w st = stands_value n k cs h (Llvm.ParamKey f j) w st
  stands_for (L.Result m) w st = stands_value n k cs h (Llvm.ResultKey m) w st

  typed : (t : L.TypeTree) (o : L.Operand) (w : Value) → Stands k o w → LF.IsOperand g t o → rename_type match (operand_type g o) ≡ option_type (value_type G w)
  typed t o w st f = names_stay match named (operand_type g o) ∙ f.typed ∙ sym (ap option_type (operand_typed n k cs h t o w st f))

  -- ---- rows

  result_type : (p : Placed) (o : DialectOp) → IsHeldResult p.type → o.result ≡ own_type p.type → rename_type match p.type ≡ option_type o.result
  result_type p o held e = names_stay match named p.type ∙ by (is_void p.type) refl ∙ sym (ap option_type e)
    where
      by : (v : Bool) → is_void p.type ≡ v → p.type ≡ option_type (if v then None else Some p.type)
      by true is = void_is p.type is
      by false is = refl

  types_same : (os : List L.Operand) (ws : List Value) → ((j : ℕ) (o : L.Operand) → slice_get os j ≡ Some o → IsUsable g o) → Matched (Stands k) os ws → map (rename_type match) (map (operand_type g) os) ≡ map (λ (v : Value). option_type (value_type G v)) ws
  types_same [] [] f m = refl
  types_same [] (w ∷ ws) f m = elim m [ ]
  types_same (o ∷ os) [] f m = elim m [ ]
  types_same (o ∷ os) (w ∷ ws) f m = let u = f 0 o refl in let x = typed u.0 o w m.0 u.1 in let xs = types_same os ws (λ j p at. f (suc j) p at) m.1 in cc (x, xs)

  -- the row of the instruction, and the operation's
  abbrev HasRow : Placed → DialectOp → Type 0
  HasRow p o = (r : Row Key) × (Llvm.row source g p p.instruction ≡ Some r) × SameRow match the_plan r (Dialect.row made G o)

  same_action : (type : L.TypeTree) (r : L.RowData) (o : DialectOp) → ((j : ℕ) (x : L.Operand) → slice_get r.operands j ≡ Some x → IsUsable g x) → Matched (Stands k) r.operands o.operands → rename_type match type ≡ option_type o.result
      → Shape.SameAction match the_plan (Llvm.action source g type r) (Dialect.action made G o (RowOp r.op))
  same_action type r o f m result = (
    refl,
    result,
    types_same r.operands o.operands f m,
    matched_map (Stands k) (Shape.StandsFor match the_plan) (Llvm.operand source) At r.operands o.operands (λ x w st. stands_for x w st) m,
  )

  same_row : (i x : ℕ) (b : L.Block) (p : Placed) (o : DialectOp) → slice_get g.blocks i ≡ Some b → slice_get b.instructions x ≡ Some p → LF.is_phi p ≡ false → IsRow k b p o → HasRow p o
  same_row i x b p o at here other r = by p.instruction r.converted.kind (operands_usable g h.form b.number p (inst_form g h.form i x b p at here) other) r.converted.operands
    where
      by : (a : L.Instruction) → IsKind a o.kind → ((j : ℕ) (y : L.Operand) → slice_get (LF.operands_of a) j ≡ Some y → IsUsable g y) → Matched (Stands k) (LF.operands_of a) o.operands
          → (q : Row Key) × (Llvm.row source g p a ≡ Some q) × SameRow match the_plan q (Dialect.row made G o)
      by (L.Phi es) is f m = elim is [ ]
      by (L.Applied a) is f m = (
        record { action = Llvm.action source g p.type a; result = Llvm.ResultKey p.number },
        refl,
        record {
          action = subst (Shape.SameAction match the_plan (Llvm.action source g p.type a)) (sym (ap (Dialect.action made G o) is)) (same_action p.type a o f m (result_type p o (result_held_at g h.held i b x p at here) r.converted.result));
          result = stands_value n k cs h (Llvm.ResultKey p.number) (value_of o) r.stands;
        },
      )

  -- ---- edges

  moves_is : (m : ℕ) (p : Placed) (es : List (L.Operand × ℕ)) (o : L.Operand) → phi_entries p.instruction ≡ Some es → takes m p ≡ Some o → Llvm.phi_move source m p ≡ Some (Llvm.ResultKey p.number, Some (Llvm.operand source o))
  moves_is m p es o phi is =
      let first : first_entry m es ≡ Some o = sym (ap (option_and_then (first_entry m)) phi) ∙ is in
      ap (option_map {U = Key × Option (Operand Key)} (λ (xs : List (L.Operand × ℕ)). (Llvm.ResultKey p.number, Llvm.entry_for source m xs))) phi
      ∙ ap (λ (x : Option (Operand Key)). Some (Llvm.ResultKey p.number, x)) (composed (find (λ (e : L.Operand × ℕ). nat_eq e.1 m) es) ∙ ap (option_map (Llvm.operand source)) first)
    where
      composed : (x : Option (L.Operand × ℕ)) → option_map (λ (e : L.Operand × ℕ). Llvm.operand source e.0) x ≡ option_map (Llvm.operand source) (option_map (λ (e : L.Operand × ℕ). e.0) x)
      composed None = refl
      composed (Some e) = refl

  module _ (m t : ℕ) (s : Successor) (e : EdgeAt k cs h m t s) where
    -- what the phi at a place takes on the edge
    phi_moves : (y : ℕ) (p : Placed) → slice_get (phis_of e.target) y ≡ Some p → (o : L.Operand) × (v : Value) × (Llvm.phi_move source m p ≡ Some (Llvm.ResultKey p.number, Some (Llvm.operand source o))) × (slice_get s.args y ≡ Some v) × Stands k o v
    phi_moves y p at =
        let args = args_length k cs h m t s e in
        let lt : y < length s.args = (let w = slice_get_within (phis_of e.target) y p at in omega (arith, w, args, phi_count)) in
        let v = item_there s.args y lt in
        let a = arg_at k cs h m t s e y v.0 v.1 in
        let same : a.phi ≡ p = same_Some a.phi p (sym a.here ∙ at) in
        let r = filter_from LF.is_phi e.target.instructions y p at in
        let es = phi_is p r.2 in
        (a.operand, v.0, moves_is m p es.0 a.operand es.1 (ap (takes m) (sym same) ∙ a.is), v.1, a.stands)
      where
        phi_count : length e.block.args ≡ length (phis_of e.target)
        phi_count = ap (λ (ts : List TypeTree). length ts) e.converted.head.args ∙ length-map (phis_of e.target) (λ (q : Placed). q.type)

    pub same_moves : Matched (SameMove match the_plan) (filter_map (Llvm.phi_move source m) e.target.instructions) (Dialect.argument_moves s.block 0 (length e.block.args) s.args)
    same_moves =
        subst (λ (ms : List (Key × Option (Operand Key))). Matched (SameMove match the_plan) ms (Dialect.argument_moves s.block 0 (length e.block.args) s.args)) (sym (all_moves source m e.target.instructions))
        (matched_from (SameMove match the_plan) (filter_map (Llvm.phi_move source m) (phis_of e.target)) (Dialect.argument_moves s.block 0 (length e.block.args) s.args) lengths each)
      where
        move_there : (y : ℕ) (p : Placed) → slice_get (phis_of e.target) y ≡ Some p → (x : Key × Option (Operand Key)) × (Llvm.phi_move source m p ≡ Some x)
        move_there y p at = let q = phi_moves y p at in ((Llvm.ResultKey p.number, Some (Llvm.operand source q.0)), q.2)

        phi_count : length e.block.args ≡ length (phis_of e.target)
        phi_count = ap (λ (ts : List TypeTree). length ts) e.converted.head.args ∙ length-map (phis_of e.target) (λ (q : Placed). q.type)

        lengths : length (Dialect.argument_moves s.block 0 (length e.block.args) s.args) ≡ length (filter_map (Llvm.phi_move source m) (phis_of e.target))
        lengths = moves_length s.block 0 (length e.block.args) s.args ∙ phi_count ∙ sym (length-filter_map_all (Llvm.phi_move source m) (phis_of e.target) move_there)

        each : (y : ℕ) (a : Key × Option (Operand Key)) (b : Value × Option (Operand Value)) → slice_get (filter_map (Llvm.phi_move source m) (phis_of e.target)) y ≡ Some a → slice_get (Dialect.argument_moves s.block 0 (length e.block.args) s.args) y ≡ Some b → SameMove match the_plan a b
        each y a b at_a at_b =
            let lt : y < length (phis_of e.target) = (let w = slice_get_within (filter_map (Llvm.phi_move source m) (phis_of e.target)) y a at_a in omega (arith, w, length-filter_map_all (Llvm.phi_move source m) (phis_of e.target) move_there)) in
            let p = item_there (phis_of e.target) y lt in
            let q = phi_moves y p.0 p.1 in
            let is_a : (Llvm.ResultKey p.0.number, Some (Llvm.operand source q.0)) ≡ a = same_Some _ a (sym (slice_get-filter_map_all (Llvm.phi_move source m) (phis_of e.target) move_there y p.0 _ p.1 q.2) ∙ at_a) in
            let is_b : (V.Argument s.block (0 + y), Some (At q.1)) ≡ b = same_Some _ b (sym (moves_at s.block 0 (length e.block.args) s.args y q.1 (omega (arith, lt, phi_count)) q.3) ∙ at_b) in
            let block : V.Argument (record { 0 = e.block.number }) y ≡ V.Argument s.block (0 + y) = argument (sym e.leads) in
            subst (λ x. SameMove match the_plan x b) is_a (subst (λ x. SameMove match the_plan (Llvm.ResultKey p.0.number, Some (Llvm.operand source q.0)) x) is_b (record {
              target = e.converted.phis y p.0 p.1 ∙ ap Some block;
              source = stands_for q.0 q.1 q.4;
            }))
          where
            argument : {b c : ℕ} → b ≡ c → V.Argument (record { 0 = b }) y ≡ V.Argument (record { 0 = c }) (0 + y)
            argument eq = let z : y ≡ 0 + y = omega arith in cc (eq, z)

  -- ---- places

  module _ (places : List ℕ) (inverse : IsInverse k.frame.order places) (long : length places ≡ length g.blocks) where
    abbrev pub here_of : ℕ → ℕ
    here_of b = slice_index_or places b b

    pub same_edge : (m t : ℕ) (s : Successor) → EdgeAt k cs h m t s → SameEdge match the_plan here_of (Llvm.edge source g m t) (Dialect.edge G s)
    same_edge m t s e =
        let o = ordered_at k.frame.order g.blocks h.order (suc e.place) e.target e.here in
        let there : slice_get g.blocks o.place ≡ Some e.target = o.at in
        let from : Llvm.place_of g.blocks t ≡ o.place =
        ap (λ (x : Option ℕ). option_map_or (λ (i : ℕ). i) x (length g.blocks)) (place_found (λ (b : L.Block). b.number) 0 g.blocks o.place e.target t there e.number (λ j y at same. source_block_apart n k cs h j o.place y e.target at there (same ∙ sym e.number)))
        ∙ (let z : 0 + o.place ≡ o.place = omega arith in z) in
        let to : Dialect.place_of cs s.block.0 ≡ suc e.place =
        ap (λ (x : Option ℕ). option_map_or (λ (i : ℕ). i) x (length cs)) (place_found (λ (b : DialectBlock). b.number) 0 cs (suc e.place) e.block s.block.0 e.there (sym e.leads) (λ j y at same. target_apart n k cs h j (suc e.place) y e.block at e.there (same ∙ e.leads)))
        ∙ (let z : 0 + suc e.place ≡ suc e.place = omega arith in z) in
        let moves : Matched (SameMove match the_plan) (Llvm.edge source g m t).moves (Dialect.edge G s).moves =
        subst (λ (x : Option L.Block). Matched (SameMove match the_plan) (option_map_or (λ (b : L.Block). filter_map (Llvm.phi_move source m) b.instructions) x []) (Dialect.edge G s).moves) (sym (find_source n k cs h o.place e.target t there e.number))
        (subst (λ (x : Option DialectBlock). Matched (SameMove match the_plan) (filter_map (Llvm.phi_move source m) e.target.instructions) (option_map_or (λ (b : DialectBlock). Dialect.argument_moves s.block 0 (length b.args) s.args) x [])) (sym (find_target n k cs h (suc e.place) e.block s.block.0 e.there (sym e.leads)))
        (same_moves m t s e)) in
        record {
          to = ap here_of from ∙ get_or_from_slice_get places o.place (suc e.place) o.place (inverse (suc e.place) o.place o.here) ∙ sym to;
          moves = moves;
        }

    -- ---- blocks

    edges_same : (i x : ℕ) (b : L.Block) (p : Placed) (o : DialectOp) → slice_get g.blocks i ≡ Some b → slice_get b.instructions x ≡ Some p → IsRow k b p o → Matched (λ (t : ℕ) (s : Successor). SameEdge match the_plan here_of (Llvm.edge source g b.number t) (Dialect.edge G s)) (targets p.instruction) o.successors
    edges_same i x b p o at here r =
        let m = r.converted.successors in
        matched_from (λ (t : ℕ) (s : Successor). SameEdge match the_plan here_of (Llvm.edge source g b.number t) (Dialect.edge G s)) (targets p.instruction) o.successors (matched_length (IsEdge k b.number) (targets p.instruction) o.successors m)
        (λ y t s at_t at_s. same_edge b.number t s (edge_at k cs h i x y b p t s at here at_t (matched_at (IsEdge k b.number) (targets p.instruction) o.successors m y t s at_t at_s)))

    abbrev Pairs : L.Block → Placed → DialectOp → Type 0
    Pairs b p o = HasRow p o × Matched (λ (t : ℕ) (s : Successor). SameEdge match the_plan here_of (Llvm.edge source g b.number t) (Dialect.edge G s)) (targets p.instruction) o.successors

    row_pair : (i y : ℕ) (b : L.Block) (rest : List DialectOp) (p : Placed) (o : DialectOp) → slice_get g.blocks i ≡ Some b → Matched (IsRow k b) (rest_of b) rest → slice_get (rest_of b) y ≡ Some p → slice_get rest y ≡ Some o → Pairs b p o
    row_pair i y b rest p o at m at_p at_o =
        let r = filter_from (λ (q : Placed). not (LF.is_phi q)) b.instructions y p at_p in
        let row = matched_at (IsRow k b) (rest_of b) rest m y p o at_p at_o in
        (same_row i r.0 b p o at r.1 (not-true (LF.is_phi p) r.2) row, edges_same i r.0 b p o at r.1 row)

    rows_pair : (i : ℕ) (b : L.Block) (rest : List DialectOp) → slice_get g.blocks i ≡ Some b → Matched (IsRow k b) (rest_of b) rest → Matched (Pairs b) (rest_of b) rest
    rows_pair i b rest at m = matched_from (Pairs b) (rest_of b) rest (matched_length (IsRow k b) (rest_of b) rest m) (λ y p o at_p at_o. row_pair i y b rest p o at m at_p at_o)

    -- what stands first has no edges
    front_edges : (j : ℕ) → flat_map (λ (o : DialectOp). o.successors) (front_for j k.hoisted) ≡ []
    front_edges zero = flat_none (λ (o : DialectOp). o.successors) k.hoisted (λ i o at. (constant_here n k cs h i o at).2)
    front_edges (suc j) = refl

    block_edges : (j : ℕ) (b : L.Block) (c : DialectBlock) (v : IsConverted k (take j cs) j b c) → flat_map (λ (o : DialectOp). o.successors) c.ops ≡ flat_map (λ (o : DialectOp). o.successors) v.rest
    block_edges j b c v =
        ap (flat_map (λ (o : DialectOp). o.successors)) v.ops ∙ flat_map-append (λ (o : DialectOp). o.successors) (front_for j k.hoisted) v.rest
        ∙ ap (λ (ss : List Successor). ss ++ flat_map (λ (o : DialectOp). o.successors) v.rest) (front_edges j)

    same_pairs : (i j : ℕ) (b : L.Block) (c : DialectBlock) (v : IsConverted k (take j cs) j b c) → slice_get g.blocks i ≡ Some b → Matched (SameRow match the_plan) (Llvm.block source g b).rows (rows_of made G v.rest)
    same_pairs i j b c v at =
        matched_rows (λ (p : Placed). not (LF.is_phi p)) (λ (p : Placed). Llvm.row source g p p.instruction) (Dialect.row made G) (Pairs b) (SameRow match the_plan) (λ p phi. no_row source g p p.instruction phi) (λ p o x. x.0) b.instructions v.rest (rows_pair i b v.rest at v.rows)

    same_edges : (i j : ℕ) (b : L.Block) (c : DialectBlock) → IsConverted k (take j cs) j b c → slice_get g.blocks i ≡ Some b → Matched (SameEdge match the_plan here_of) (Llvm.block source g b).edges (Dialect.block made G c).edges
    same_edges i j b c v at =
        let E : ℕ → Successor → Type 0 = λ t s. SameEdge match the_plan here_of (Llvm.edge source g b.number t) (Dialect.edge G s) in
        let flat : Matched E (flat_map (λ (p : Placed). targets p.instruction) (rest_of b)) (flat_map (λ (o : DialectOp). o.successors) v.rest) =
        matched_flat (Pairs b) E (λ (p : Placed). targets p.instruction) (λ (o : DialectOp). o.successors) (rest_of b) v.rest (λ p o x. x.1) (rows_pair i b v.rest at v.rows) in
        matched_map E (SameEdge match the_plan here_of) (Llvm.edge source g b.number) (Dialect.edge G) (flat_map (λ (p : Placed). targets p.instruction) b.instructions) (flat_map (λ (o : DialectOp). o.successors) c.ops) (λ t s e. e)
        (subst (λ (ss : List Successor). Matched E (flat_map (λ (p : Placed). targets p.instruction) b.instructions) ss) (sym (block_edges j b c v))
        (subst (λ (ts : List ℕ). Matched E ts (flat_map (λ (o : DialectOp). o.successors) v.rest)) (sym (all_targets b.instructions)) flat))

    same_block : (i j : ℕ) (b : L.Block) (c : DialectBlock) (v : IsConverted k (take j cs) j b c) → slice_get g.blocks i ≡ Some b → IsFront match the_plan i (rows_of made G (front_for j k.hoisted)) → SameBlock match the_plan here_of i (Llvm.block source g b) (Dialect.block made G c)
    same_block i j b c v at leads = record {
      front = rows_of made G (front_for j k.hoisted);
      rest = rows_of made G v.rest;
      rows = ap (map (Dialect.row made G)) v.ops ∙ map-append (Dialect.row made G) (front_for j k.hoisted) v.rest;
      leads = leads;
      pairs = same_pairs i j b c v at;
      edges = same_edges i j b c v at;
    }

    -- what stands first is hoisted in the first block, and idle in others
    front_is : (i j : ℕ) → slice_get k.frame.order j ≡ Some i → IsFront match the_plan i (rows_of made G (front_for j k.hoisted))
    front_is zero j at =
        let lt : 0 < length g.blocks = (let w = slice_get_within k.frame.order j 0 at in omega (arith, w, h.order.count)) in
        let first : j ≡ 0 = h.order.apart j 0 0 at (h.order.first lt) in
        ap (λ (x : ℕ). rows_of made G (front_for x k.hoisted)) first
    front_is (suc i) j at =
        let q = not_first k.frame.order g.blocks h.order j i at in
        subst (λ (x : ℕ). IsFront match the_plan (suc i) (rows_of made G (front_for x k.hoisted))) (sym q.1) (record { closed = tt; values = λ key w e. refl; hoisted = λ w e. refl })

    blocks_at : (i : ℕ) → BothOrNone (SameBlock match the_plan here_of i) (slice_get (map (Llvm.block source g) g.blocks) i) (slice_get (map (Dialect.block made G) cs) (here_of i))
    blocks_at i = elim (cases_lt i (length g.blocks)) [ inl lt ↦ there_at i lt | inr past ↦ past_at i past ]
      where
        there_at : (i : ℕ) → i < length g.blocks → BothOrNone (SameBlock match the_plan here_of i) (slice_get (map (Llvm.block source g) g.blocks) i) (slice_get (map (Dialect.block made G) cs) (here_of i))
        there_at i lt =
            let b = item_there g.blocks i lt in
            let o = placed k.frame.order g.blocks h.order i b.0 b.1 in
            let c = target_at n k cs h o.0 b.0 o.2 in
            let place : here_of i ≡ o.0 = get_or_from_slice_get places i o.0 i (inverse o.0 i o.1) in
            let left : slice_get (map (Llvm.block source g) g.blocks) i ≡ Some (Llvm.block source g b.0) = slice_get-map (Llvm.block source g) g.blocks i ∙ ap (option_map (Llvm.block source g)) b.1 in
            let right : slice_get (map (Dialect.block made G) cs) (here_of i) ≡ Some (Dialect.block made G c.0) = ap (slice_get (map (Dialect.block made G) cs)) place ∙ slice_get-map (Dialect.block made G) cs o.0 ∙ ap (option_map (Dialect.block made G)) c.1 in
            rw (left, right) (same_block i o.0 b.0 c.0 c.2 b.1 (front_is i o.0 o.1))

        past_at : (i : ℕ) → length g.blocks ≤ i → BothOrNone (SameBlock match the_plan here_of i) (slice_get (map (Llvm.block source g) g.blocks) i) (slice_get (map (Dialect.block made G) cs) (here_of i))
        past_at i past =
            let place : here_of i ≡ i = get_or_past places i i (omega (arith, past, long)) in
            let left : slice_get (map (Llvm.block source g) g.blocks) i ≡ None = slice_get_past (map (Llvm.block source g) g.blocks) i (omega (arith, past, length-map g.blocks (Llvm.block source g))) in
            let right : slice_get (map (Dialect.block made G) cs) (here_of i) ≡ None =
            ap (slice_get (map (Dialect.block made G) cs)) place ∙ slice_get_past (map (Dialect.block made G) cs) i (omega (arith, past, length-map cs (Dialect.block made G), h.count, bs_length n k cs h)) in
            rw (left, right) tt

    first_block : (b : Block Key) × (slice_get (map (Llvm.block source g) g.blocks) 0 ≡ Some b)
    first_block =
        let b = first_source n k cs h in
        (Llvm.block source g b.0, slice_get-map (Llvm.block source g) g.blocks 0 ∙ ap (option_map (Llvm.block source g)) (ordered_first k.frame.order g.blocks h.order b.0 b.1))

    first_place : here_of 0 ≡ 0
    first_place =
        let b = first_source n k cs h in
        let lt : 0 < length g.blocks = (let w = slice_get_within bs 0 b.0 b.1 in omega (arith, w, bs_length n k cs h)) in
        get_or_from_slice_get places 0 0 0 (inverse 0 0 (h.order.first lt))

    pub shape_of : ((b : ℕ) → match.block g.name b ≡ here_of b) → SameShape match source g made G
    shape_of at = record {
      plan = the_plan;
      is_plan = is_plan n k cs h made;
      starts = starts n k cs h match;
      same = subst (λ (f : ℕ → ℕ). SameBlocks match the_plan f (map (Llvm.block source g) g.blocks) (map (Dialect.block made G) cs)) (sym (fun_ext at)) (record { entry = first_block; first = first_place; blocks = blocks_at });
    }
