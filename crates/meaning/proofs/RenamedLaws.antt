-- Functions of LLVM with structs under other names: types of operands, and that the same function of the dialect stands for
-- them, under a match that says the other names.
use Rattle.std.proofs.Common.{◌≡◌, ℕ, zero, suc, Bool, true, false, ◌&&◌, refl, ap, sym, subst, ◌∙◌, ◌+◌, List, [], ◌∷◌, ◌++◌, map, slice_get, Option, Some, None, if◌then◌else◌, nat_eq, nat_lt}
use mathlib.Core.Path.{fun_ext}
use Rattle.std.specs.List.{filter_map, flat_map, find, position_from, cons_option}
use Rattle.std.specs.Option.{option_map, option_map_or}
use Rattle.std.proofs.lemmas.List.{length-map, map-append}
use Rattle.kinds.specs.Types.{TypeTree, VoidType, TypeTrees, NoTypes, ThenType, takes_of, count_types}
use Rattle.kinds.specs.Structs.{renamed, renamed_all}
use Rattle.kinds.proofs.RenamedLaws.{renamed_self, renamed_takes, renamed_count}
use Rattle.llvm_core.specs.Data as L
use Rattle.llvm_core.specs.Data.{ConstTree, IntConst, FilledConst, BytesConst, ListConst, SplatConst, PlaceholderConst, RowData, Instruction, Phi, Applied, Constant, Parameter, Result, Placed, nth_type, param_type, operand_type, placed_in, targets}
use Rattle.dialect_core.specs.Data as D
use Rattle.dialect_core.specs.declared.ops.Value.{Value}
use Rattle.meaning.specs.Terms.{Term, Param, Answer, Unset, Int, Filled, ListOf, SplatOf, Expr, Insert, Terms, NoTerms, ThenTerm, Path, Places, PlaceOf, Match, rename, rename_all, rename_path, rename_type}
use Rattle.meaning.specs.Machine.{Operand, At, Fixed, Action, Holds, Applies, Row, Edge, Block}
use Rattle.meaning.specs.Setting.{Setting}
use Rattle.meaning.specs.Code.{rename_symbol}
use Rattle.meaning.specs.Pairs.{Matched, BothOrNone}
use Rattle.meaning.specs.Llvm as Llvm
use Rattle.meaning.specs.Llvm.{Key, ParamKey, ResultKey}
use Rattle.meaning.specs.Dialect as Dialect
use Rattle.meaning.specs.Shape.{Plan, StandsFor, SameAction, SameRow, SameMove, IsFront, SameEdge, SameBlock, SameBlocks, SameShape}
use Rattle.meaning.specs.Renamed.{renamed_const, renamed_operand, renamed_phi_entry, renamed_row, renamed_instruction, renamed_placed, renamed_block, renamed_function}
use Rattle.meaning.proofs.TermLaws.{const_under}
pub use Rattle.meaning.proofs.TermLaws.{filled_under}

-- ---- types under a match

-- a match that renames no struct leaves each type
pub names_stay : (match : Match) → ((n : List ℕ) → match.struct n ≡ n) → (t : TypeTree) → rename_type match t ≡ t
names_stay match h t = renamed_self match.struct h t

-- names that are alike rename alike
renamed_alike : (f g : List ℕ → List ℕ) → ((n : List ℕ) → f n ≡ g n) → (t : TypeTree) → renamed f t ≡ renamed g t
renamed_alike f g h t = ap (λ (s : List ℕ → List ℕ). renamed s t) (fun_ext h)

-- ---- lists of changed items

-- what stands at a place, of two lists made of one, by another relation
get_kept : {X B B' C : Type 0} (P : B → C → Type 0) (Q : B' → C → Type 0) (k : X → B) (l : X → B') → ((x : X) (c : C) → P (k x) c → Q (l x) c)
    → (xs : List X) (i : ℕ) (o : Option C) → BothOrNone P (slice_get (map k xs) i) o → BothOrNone Q (slice_get (map l xs) i) o
get_kept P Q k l h [] i None p = tt
get_kept P Q k l h [] i (Some c) p = absurd p
get_kept P Q k l h (x ∷ xs) zero None p = absurd p
get_kept P Q k l h (x ∷ xs) zero (Some c) p = h x c p
get_kept P Q k l h (x ∷ xs) (suc i) o p = get_kept P Q k l h xs i o p

-- and all of them
matched_kept : {X B B' C : Type 0} (P : B → C → Type 0) (Q : B' → C → Type 0) (k : X → B) (l : X → B') → ((x : X) (c : C) → P (k x) c → Q (l x) c)
    → (xs : List X) (cs : List C) → Matched P (map k xs) cs → Matched Q (map l xs) cs
matched_kept P Q k l h [] [] p = tt
matched_kept P Q k l h [] (c ∷ cs) p = absurd p
matched_kept P Q k l h (x ∷ xs) [] p = absurd p
matched_kept P Q k l h (x ∷ xs) (c ∷ cs) p = (h x c p.0, matched_kept P Q k l h xs cs p.1)

-- both or none are there, and what matches the one matches the other
abbrev Follows : {B B' C : Type 0} (P : B → C → Type 0) (Q : B' → C → Type 0) → Option B → Option B' → Type 0
Follows {C = C} P Q o u = BothOrNone (λ (b : _) (b' : _). (c : C) → P b c → Q b' c) o u

cons_kept : {B B' C : Type 0} (P : B → C → Type 0) (Q : B' → C → Type 0) (o : Option B) (u : Option B') (bs : List B) (bs' : List B') → Follows P Q o u
    → ((cs : List C) → Matched P bs cs → Matched Q bs' cs) → (cs : List C) → Matched P (cons_option o bs) cs → Matched Q (cons_option u bs') cs
cons_kept P Q None None bs bs' h rest cs p = rest cs p
cons_kept P Q None (Some b') bs bs' h rest cs p = absurd h
cons_kept P Q (Some b) None bs bs' h rest cs p = absurd h
cons_kept P Q (Some b) (Some b') bs bs' h rest [] p = absurd p
cons_kept P Q (Some b) (Some b') bs bs' h rest (c ∷ cs) p = (h c p.0, rest cs p.1)

-- of lists that leave items out
filtered_kept : {X B B' C : Type 0} (P : B → C → Type 0) (Q : B' → C → Type 0) (k : X → Option B) (l : X → Option B') → ((x : X) → Follows P Q (k x) (l x))
    → (xs : List X) (cs : List C) → Matched P (filter_map k xs) cs → Matched Q (filter_map l xs) cs
filtered_kept P Q k l h [] [] p = tt
filtered_kept P Q k l h [] (c ∷ cs) p = absurd p
filtered_kept P Q k l h (x ∷ xs) cs p = cons_kept P Q (k x) (l x) (filter_map k xs) (filter_map l xs) (h x) (filtered_kept P Q k l h xs) cs p

module _ {X Y : Type 0} (g : X → Y) where
  pub find_map : (p : Y → Bool) (xs : List X) → find p (map g xs) ≡ option_map g (find (λ (x : X). p (g x)) xs)
  find_map p [] = refl
  find_map p (x ∷ xs) = by (p (g x)) (find_map p xs)
    where
      by : (b : Bool) → find p (map g xs) ≡ option_map g (find (λ (x : X). p (g x)) xs) → (if b then Some (g x) else find p (map g xs)) ≡ option_map g (if b then Some x else find (λ (x : X). p (g x)) xs)
      by true rest = refl
      by false rest = rest

  position_map : (p : Y → Bool) (i : ℕ) (xs : List X) → position_from p i (map g xs) ≡ position_from (λ (x : X). p (g x)) i xs
  position_map p i [] = refl
  position_map p i (x ∷ xs) = ap (λ (o : Option ℕ). if p (g x) then Some i else o) (position_map p (i + 1) xs)

  pub filter_map_map : {Z : Type 0} (f : Y → Option Z) (xs : List X) → filter_map f (map g xs) ≡ filter_map (λ (x : X). f (g x)) xs
  filter_map_map f [] = refl
  filter_map_map f (x ∷ xs) = ap (cons_option (f (g x))) (filter_map_map f xs)

pub map_twice : {X Y Z : Type 0} (f : Y → Z) (g : X → Y) (xs : List X) → map f (map g xs) ≡ map (λ (x : X). f (g x)) xs
map_twice f g [] = refl
map_twice f g (x ∷ xs) = ap (λ (zs : List _). f (g x) ∷ zs) (map_twice f g xs)

map_agree : {X Y : Type 0} (f g : X → Y) → ((x : X) → f x ≡ g x) → (xs : List X) → map f xs ≡ map g xs
map_agree f g h xs = ap (λ (k : _ → _). map k xs) (fun_ext h)

pub flat_map_agree : {X Y Z : Type 0} (f : Y → List Z) (g : X → Y) (k : X → List Z) → ((x : X) → f (g x) ≡ k x) → (xs : List X) → flat_map f (map g xs) ≡ flat_map k xs
flat_map_agree f g k h [] = refl
flat_map_agree f g k h (x ∷ xs) = rw (h x, flat_map_agree f g k h xs) refl

-- ---- types of operands

module _ (to : List ℕ → List ℕ) where
  renamed_nth : (ts : TypeTrees) (i : ℕ) → nth_type (renamed_all to ts) i ≡ renamed to (nth_type ts i)
  renamed_nth NoTypes i = refl
  renamed_nth (ThenType t ts) zero = refl
  renamed_nth (ThenType t ts) (suc i) = renamed_nth ts i

  renamed_param : (t : TypeTree) (i : ℕ) → param_type (renamed to t) i ≡ renamed to (param_type t i)
  renamed_param t i = ap (λ (ts : TypeTrees). nth_type ts i) (renamed_takes to t) ∙ renamed_nth (takes_of t) i

  placed_under : (bs : List L.Block) → flat_map (λ (b : L.Block). b.instructions) (map (renamed_block to) bs) ≡ map (renamed_placed to) (flat_map (λ (b : L.Block). b.instructions) bs)
  placed_under [] = refl
  placed_under (b ∷ bs) =
      ap (λ (ps : List Placed). map (renamed_placed to) b.instructions ++ ps) (placed_under bs)
      ∙ sym (map-append (renamed_placed to) b.instructions (flat_map (λ (b : L.Block). b.instructions) bs))

  pub renamed_placed_in : (f : L.Function) → placed_in (renamed_function to f) ≡ map (renamed_placed to) (placed_in f)
  renamed_placed_in f = placed_under f.blocks

  param_if : (v : Bool) (t : TypeTree) (i : ℕ) → (if v then param_type (renamed to t) i else VoidType) ≡ renamed to (if v then param_type t i else VoidType)
  param_if true t i = renamed_param t i
  param_if false t i = refl

  found_type : (o : Option Placed) → option_map_or (λ (x : Placed). x.type) (option_map (renamed_placed to) o) VoidType ≡ renamed to (option_map_or (λ (x : Placed). x.type) o VoidType)
  found_type None = refl
  found_type (Some p) = refl

  result_under : (f : L.Function) (n : ℕ) → operand_type (renamed_function to f) (Result n) ≡ renamed to (operand_type f (Result n))
  result_under f n =
      ap (λ (ps : List Placed). option_map_or (λ (x : Placed). x.type) (find (λ (x : Placed). nat_eq x.number n) ps) VoidType) (renamed_placed_in f)
      ∙ ap (λ (o : Option Placed). option_map_or (λ (x : Placed). x.type) o VoidType) (find_map (renamed_placed to) (λ (x : Placed). nat_eq x.number n) (placed_in f))
      ∙ found_type (find (λ (x : Placed). nat_eq x.number n) (placed_in f))

  pub renamed_operand_type : (f : L.Function) (o : L.Operand) → operand_type (renamed_function to f) (renamed_operand to o) ≡ renamed to (operand_type f o)
  renamed_operand_type f (Constant (IntConst w v)) = refl
  renamed_operand_type f (Constant (FilledConst fill t)) = refl
  renamed_operand_type f (Constant (BytesConst bytes)) = refl
  renamed_operand_type f (Constant (ListConst t cs)) = refl
  renamed_operand_type f (Constant (SplatConst t c)) = refl
  renamed_operand_type f (Constant (PlaceholderConst n t)) = refl
  renamed_operand_type f (Parameter g i) = param_if (nat_eq g f.number) f.type i
  renamed_operand_type f (Result n) = result_under f n

  pub renamed_operand_types : (f : L.Function) (os : List L.Operand) → map (operand_type (renamed_function to f)) (map (renamed_operand to) os) ≡ map (renamed to) (map (operand_type f) os)
  renamed_operand_types f [] = refl
  renamed_operand_types f (o ∷ os) = rw (renamed_operand_type f o, renamed_operand_types f os) refl

  pub renamed_targets : (i : Instruction) → targets (renamed_instruction to i) ≡ targets i
  renamed_targets (Phi entries) = refl
  renamed_targets (Applied r) = refl

  -- ---- what a run sees of the function

  pub arity_under : (t : TypeTree) → Llvm.arity (renamed to t) ≡ Llvm.arity t
  arity_under t = ap count_types (renamed_takes to t) ∙ renamed_count to (takes_of t)

  pub place_under : (bs : List L.Block) (n : ℕ) → Llvm.place_of (map (renamed_block to) bs) n ≡ Llvm.place_of bs n
  place_under bs n = rw (position_map (renamed_block to) (λ (b : L.Block). nat_eq b.number n) 0 bs, length-map bs (renamed_block to)) refl

  pub has_blocks_under : (f : L.Function) → Llvm.has_blocks (renamed_function to f) ≡ Llvm.has_blocks f
  has_blocks_under f = ap (nat_lt 0) (length-map f.blocks (renamed_block to))

-- ---- the shape

-- the match that leaves blocks where they are, and says the other names
abbrev pub names_match : (List ℕ → List ℕ) → Match
names_match to = record { block = λ n b. b; struct = to }

-- a match that renames no struct, and one that says the other names, over the same places of blocks
module _ (to : List ℕ → List ℕ) (plain under : Match) (stays : (n : List ℕ) → plain.struct n ≡ n) (named : (n : List ℕ) → under.struct n ≡ to n) where
  pub renamed_type : (t : TypeTree) → rename_type plain (renamed to t) ≡ rename_type under t
  renamed_type t = names_stay plain stays (renamed to t) ∙ sym (renamed_alike under.struct to named t)

  pub renamed_types : (ts : List TypeTree) → map (rename_type plain) (map (renamed to) ts) ≡ map (rename_type under) ts
  renamed_types [] = refl
  renamed_types (t ∷ ts) = rw (renamed_type t, renamed_types ts) refl

  mutual
    pub term_under : (t : Term) → rename plain (rename (names_match to) t) ≡ rename under t
    term_under (Param i) = refl
    term_under (Answer n) = refl
    term_under Unset = refl
    term_under (Int w v) = refl
    term_under (Filled fill ty) = ap (Filled fill) (renamed_type ty)
    term_under (ListOf ty ts) = cc (renamed_type ty, terms_under ts)
    term_under (SplatOf ty t) = cc (renamed_type ty, term_under t)
    term_under (Expr o ty ts) = cc (renamed_type ty, terms_under ts)
    term_under (Insert ty a p e) = cc (renamed_type ty, term_under a, path_under p, term_under e)

    terms_under : (ts : Terms) → rename_all plain (rename_all (names_match to) ts) ≡ rename_all under ts
    terms_under NoTerms = refl
    terms_under (ThenTerm t ts) = cc (term_under t, terms_under ts)

    path_under : (p : Path) → rename_path plain (rename_path (names_match to) p) ≡ rename_path under p
    path_under (Places ns) = refl
    path_under (PlaceOf t) = ap PlaceOf (term_under t)

  -- the term of a constant under other names
  pub renamed_term : (a : Setting) (c : ConstTree) → rename plain (Llvm.const_term a (renamed_const to c)) ≡ rename under (Llvm.const_term a c)
  renamed_term a c = ap (rename plain) (sym (const_under (names_match to) a c)) ∙ term_under (Llvm.const_term a c)

  pub renamed_symbol : (a : Setting) (f : L.Function) → rename_symbol plain (Llvm.entry a (renamed_function to f)).symbol ≡ rename_symbol under (Llvm.entry a f).symbol
  renamed_symbol a f = let t = renamed_type f.type in let b = has_blocks_under to f in cc

  module _ (plan : Plan) where
    -- what stands for an operand of the function under other names stands for it
    stands : (a : Setting) (o : L.Operand) (v : Operand Value) → StandsFor plain plan (Llvm.operand a (renamed_operand to o)) v → StandsFor under plan (Llvm.operand a o) v
    stands a (Constant c) (At v) h = (h.0, sym (renamed_term a c) ∙ h.1)
    stands a (Constant c) (Fixed u) h = sym (renamed_term a c) ∙ h
    stands a (Parameter g i) (At v) h = h
    stands a (Parameter g i) (Fixed u) h = h
    stands a (Result n) (At v) h = h
    stands a (Result n) (Fixed u) h = h

    all_stand : (a : Setting) (os : List L.Operand) (vs : List (Operand Value)) → Matched (StandsFor plain plan) (map (Llvm.operand a) (map (renamed_operand to) os)) vs → Matched (StandsFor under plan) (map (Llvm.operand a) os) vs
    all_stand a [] [] h = tt
    all_stand a [] (v ∷ vs) h = absurd h
    all_stand a (o ∷ os) [] h = absurd h
    all_stand a (o ∷ os) (v ∷ vs) h = (stands a o v h.0, all_stand a os vs h.1)

    types_under : (f : L.Function) (os : List L.Operand) → map (rename_type plain) (map (operand_type (renamed_function to f)) (map (renamed_operand to) os)) ≡ map (rename_type under) (map (operand_type f) os)
    types_under f os = ap (map (rename_type plain)) (renamed_operand_types to f os) ∙ renamed_types (map (operand_type f) os)

    same_action : (a : Setting) (f : L.Function) (t : TypeTree) (r : RowData) (q : Action Value)
        → SameAction plain plan (Llvm.action a (renamed_function to f) (renamed to t) (renamed_row to r)) q → SameAction under plan (Llvm.action a f t r) q
    same_action a f t r (Applies p uy uys ps) h = (h.0, sym (renamed_type t) ∙ h.1, sym (types_under f r.operands) ∙ h.2, all_stand a r.operands ps h.3)
    same_action a f t r (Holds u) h = absurd h

    same_row : (a : Setting) (f : L.Function) (p : Placed) (i : Instruction)
        → Follows (SameRow plain plan) (SameRow under plan) (Llvm.row a (renamed_function to f) (renamed_placed to p) (renamed_instruction to i)) (Llvm.row a f p i)
    same_row a f p (Phi entries) = tt
    same_row a f p (Applied r) = λ q h. record { action = same_action a f p.type r q.action h.action; result = h.result }

    same_rows : (a : Setting) (f : L.Function) (ps : List Placed) (qs : List (Row Value))
        → Matched (SameRow plain plan) (filter_map (λ (p : Placed). Llvm.row a (renamed_function to f) p p.instruction) (map (renamed_placed to) ps)) qs
        → Matched (SameRow under plan) (filter_map (λ (p : Placed). Llvm.row a f p p.instruction) ps) qs
    same_rows a f ps qs h =
        filtered_kept (SameRow plain plan) (SameRow under plan) (λ (p : Placed). Llvm.row a (renamed_function to f) (renamed_placed to p) (renamed_instruction to p.instruction)) (λ (p : Placed). Llvm.row a f p p.instruction)
        (λ p. same_row a f p p.instruction) ps qs
        (subst (λ (rs : List (Row Key)). Matched (SameRow plain plan) rs qs) (filter_map_map (renamed_placed to) (λ (p : Placed). Llvm.row a (renamed_function to f) p p.instruction) ps) h)

    -- ---- edges

    source_of : (a : Setting) (e : Option (L.Operand × ℕ)) (v : Option (Operand Value))
        → BothOrNone (StandsFor plain plan) (option_map (λ (x : L.Operand × ℕ). Llvm.operand a x.0) (option_map (renamed_phi_entry to) e)) v
        → BothOrNone (StandsFor under plan) (option_map (λ (x : L.Operand × ℕ). Llvm.operand a x.0) e) v
    source_of a None v h = h
    source_of a (Some e) None h = absurd h
    source_of a (Some e) (Some v) h = stands a e.0 v h

    same_source : (a : Setting) (from : ℕ) (es : List (L.Operand × ℕ)) (v : Option (Operand Value))
        → BothOrNone (StandsFor plain plan) (Llvm.entry_for a from (map (renamed_phi_entry to) es)) v → BothOrNone (StandsFor under plan) (Llvm.entry_for a from es) v
    same_source a from es v h =
        source_of a (find (λ (e : L.Operand × ℕ). nat_eq e.1 from) es) v
        (subst (λ (o : Option (L.Operand × ℕ)). BothOrNone (StandsFor plain plan) (option_map (λ (x : L.Operand × ℕ). Llvm.operand a x.0) o) v) (find_map (renamed_phi_entry to) (λ (e : L.Operand × ℕ). nat_eq e.1 from) es) h)

    same_move : (a : Setting) (from : ℕ) (p : Placed) (i : Instruction)
        → Follows (SameMove plain plan) (SameMove under plan) (Llvm.phi_move a from (record (renamed_placed to p) { instruction = renamed_instruction to i })) (Llvm.phi_move a from (record p { instruction = i }))
    same_move a from p (Phi entries) = λ m h. record { target = h.target; source = same_source a from entries m.1 h.source }
    same_move a from p (Applied r) = tt

    same_moves : (a : Setting) (from : ℕ) (ps : List Placed) (ms : List (Value × Option (Operand Value)))
        → Matched (SameMove plain plan) (filter_map (Llvm.phi_move a from) (map (renamed_placed to) ps)) ms → Matched (SameMove under plan) (filter_map (Llvm.phi_move a from) ps) ms
    same_moves a from ps ms h =
        filtered_kept (SameMove plain plan) (SameMove under plan) (λ (p : Placed). Llvm.phi_move a from (renamed_placed to p)) (Llvm.phi_move a from)
        (λ p. same_move a from p p.instruction) ps ms
        (subst (λ (ks : List (Key × Option (Operand Key))). Matched (SameMove plain plan) ks ms) (filter_map_map (renamed_placed to) (Llvm.phi_move a from) ps) h)

    moves_of : (a : Setting) (from : ℕ) (b : Option L.Block) (ms : List (Value × Option (Operand Value)))
        → Matched (SameMove plain plan) (option_map_or (λ (b : L.Block). filter_map (Llvm.phi_move a from) b.instructions) (option_map (renamed_block to) b) []) ms
        → Matched (SameMove under plan) (option_map_or (λ (b : L.Block). filter_map (Llvm.phi_move a from) b.instructions) b []) ms
    moves_of a from None [] h = tt
    moves_of a from None (m ∷ ms) h = absurd h
    moves_of a from (Some b) ms h = same_moves a from b.instructions ms h

    same_front : (place : ℕ) (rows : List (Row Value)) → IsFront plain plan place rows → IsFront under plan place rows
    same_front zero rows h = h
    same_front (suc n) rows h = record { closed = h.closed; values = h.values; hoisted = h.hoisted }

    module _ (here : ℕ → ℕ) where
      same_edge : (a : Setting) (f : L.Function) (from n : ℕ) (e : Edge Value) → SameEdge plain plan here (Llvm.edge a (renamed_function to f) from n) e → SameEdge under plan here (Llvm.edge a f from n) e
      same_edge a f from n e h = record {
        to = ap here (sym (place_under to f.blocks n)) ∙ h.to;
        moves = moves_of a from (find (λ (b : L.Block). nat_eq b.number n) f.blocks) e.moves
            (subst (λ (o : Option L.Block). Matched (SameMove plain plan) (option_map_or (λ (b : L.Block). filter_map (Llvm.phi_move a from) b.instructions) o []) e.moves)
            (find_map (renamed_block to) (λ (b : L.Block). nat_eq b.number n) f.blocks) h.moves);
      }

      same_edges : (a : Setting) (f : L.Function) (from : ℕ) (ps : List Placed) (es : List (Edge Value))
          → Matched (SameEdge plain plan here) (map (Llvm.edge a (renamed_function to f) from) (flat_map (λ (p : Placed). targets p.instruction) (map (renamed_placed to) ps))) es
          → Matched (SameEdge under plan here) (map (Llvm.edge a f from) (flat_map (λ (p : Placed). targets p.instruction) ps)) es
      same_edges a f from ps es h =
          matched_kept (SameEdge plain plan here) (SameEdge under plan here) (Llvm.edge a (renamed_function to f) from) (Llvm.edge a f from) (same_edge a f from)
          (flat_map (λ (p : Placed). targets p.instruction) ps) es
          (subst (λ (ns : List ℕ). Matched (SameEdge plain plan here) (map (Llvm.edge a (renamed_function to f) from) ns) es)
          (flat_map_agree (λ (p : Placed). targets p.instruction) (renamed_placed to) (λ (p : Placed). targets p.instruction) (λ p. renamed_targets to p.instruction) ps) h)

      -- ---- blocks

      same_block : (a : Setting) (f : L.Function) (place : ℕ) (b : L.Block) (c : Block Value)
          → SameBlock plain plan here place (Llvm.block a (renamed_function to f) (renamed_block to b)) c → SameBlock under plan here place (Llvm.block a f b) c
      same_block a f place b c h = record {
        front = h.front;
        rest = h.rest;
        rows = h.rows;
        leads = same_front place h.front h.leads;
        pairs = same_rows a f b.instructions h.rest h.pairs;
        edges = same_edges a f b.number b.instructions c.edges h.edges;
      }

      first_block : {X Y : Type 0} (k l : X → Y) (xs : List X) (y : Y) → slice_get (map k xs) 0 ≡ Some y → (z : Y) × (slice_get (map l xs) 0 ≡ Some z)
      first_block k l [] y h = cc
      first_block k l (x ∷ xs) y h = (l x, refl)

      same_blocks : (a : Setting) (f : L.Function) (target : List (Block Value))
          → SameBlocks plain plan here (map (Llvm.block a (renamed_function to f)) (map (renamed_block to) f.blocks)) target → SameBlocks under plan here (map (Llvm.block a f) f.blocks) target
      same_blocks a f target h =
          let twice = map_twice (Llvm.block a (renamed_function to f)) (renamed_block to) f.blocks in
          record {
            entry = first_block (λ (b : L.Block). Llvm.block a (renamed_function to f) (renamed_block to b)) (Llvm.block a f) f.blocks h.entry.0 (ap (λ (bs : List (Block Key)). slice_get bs 0) (sym twice) ∙ h.entry.1);
            first = h.first;
            blocks = λ place.
                get_kept (SameBlock plain plan here place) (SameBlock under plan here place) (λ (b : L.Block). Llvm.block a (renamed_function to f) (renamed_block to b)) (Llvm.block a f) (same_block a f place)
                f.blocks place (slice_get target (here place))
                (subst (λ (bs : List (Block Key)). BothOrNone (SameBlock plain plan here place) (slice_get bs place) (slice_get target (here place))) twice (h.blocks place));
          }

  start_if : (v : Bool) (i : ℕ) → rename plain (if v then Param i else Unset) ≡ rename under (if v then Param i else Unset)
  start_if true i = refl
  start_if false i = refl

  same_start : (f : L.Function) (k : Key) → rename plain (Llvm.start (renamed_function to f) k) ≡ rename under (Llvm.start f k)
  same_start f (ParamKey g i) = ap (λ (n : ℕ). rename plain (if nat_eq g f.number && nat_lt i n then Param i else Unset)) (arity_under to f.type) ∙ start_if (nat_eq g f.number && nat_lt i (Llvm.arity f.type)) i
  same_start f (ResultKey n) = refl

  -- what stands for the function under other names stands for the function itself, under the match that says them
  pub renamed_same_shape : ((n : List ℕ) (b : ℕ) → plain.block n b ≡ under.block n b) → (a : Setting) (f : L.Function) (b : Setting) (g : D.Func) → SameShape plain a (renamed_function to f) b g → SameShape under a f b g
  renamed_same_shape places a f b g h = record {
    plan = h.plan;
    is_plan = h.is_plan;
    starts = λ k w is. sym (same_start f k) ∙ h.starts k w is;
    same = subst (λ (here : ℕ → ℕ). SameBlocks under h.plan here (map (Llvm.block a f) f.blocks) (map (Dialect.block b g) g.blocks)) (fun_ext (places f.name)) (same_blocks h.plan (plain.block f.name) a f (map (Dialect.block b g) g.blocks) h.same);
  }
