-- The code of a module with its structs under other names: what it is the same as under a match that renames none, the module
-- itself is the same as under the match that says those names.
use Rattle.std.proofs.Common.{◌≡◌, ℕ, Bool, true, false, not, ◌&&◌, refl, ap, sym, subst, ◌∙◌, List, [], ◌∷◌, map, filter, length, Option, Some, None, if◌then◌else◌, nat_eq, nat_lt, option_map, bytes_eq}
use mathlib.Core.Path.{fun_ext}
use Rattle.std.specs.List.{filter_map, flat_map, find, cons_option}
use Rattle.std.specs.Option.{option_map_or}
use Rattle.std.proofs.lemmas.List.{length-map}
use Rattle.kinds.specs.Types.{TypeTree}
use Rattle.kinds.specs.Structs.{renamed}
use Rattle.llvm_core.specs.Data as L
use Rattle.llvm_core.specs.Data.{Instruction, Phi, Applied, Constant, Parameter, Result, Placed, ModuleData, operand_type, targets}
use Rattle.meaning.specs.Terms.{Term, Param, Unset, Match, rename}
use Rattle.meaning.specs.Machine.{Operand, Fixed, Applies, Row, Edge, Block, Item, Entered, Event, trace}
use Rattle.meaning.specs.Setting.{Setting}
use Rattle.meaning.specs.Code.{Code, Entry, Body, entry_of, IsOneToOne, SameBody, SameBodies, SameEntry, SameEntries, SameCode, IsDistinctNames, under as shown_under}
use Rattle.meaning.specs.Llvm as Llvm
use Rattle.meaning.specs.Llvm.{Key, ParamKey, ResultKey, same_key}
use Rattle.meaning.specs.Renamed.{renamed_operand, renamed_phi_entry, renamed_instruction, renamed_placed, renamed_block, renamed_function, renamed_module}
use Rattle.meaning.proofs.RenamedLaws.{map_twice, find_map, filter_map_map, flat_map_agree, renamed_operand_types, renamed_targets, arity_under, place_under, has_blocks_under, names_match, renamed_type, renamed_types, renamed_symbol, term_under}
use Rattle.meaning.proofs.TermLaws.{const_under}
use Rattle.meaning.proofs.RenamedRuns.{item_as, operand_as, row_as, move_as, edge_as, block_as, trace_as}

-- ---- the body of a function under other names

-- what a list gives with items left out, changed item by item
filter_map_as : {X Y Z : Type 0} (k : X → Option Z) (l : X → Option Y) (g : Y → Z) → ((x : X) → k x ≡ option_map g (l x)) → (xs : List X) → filter_map k xs ≡ map g (filter_map l xs)
filter_map_as k l g h [] = refl
filter_map_as {Y = Y} {Z = Z} k l g h (x ∷ xs) = ap (λ (o : Option Z). cons_option o (filter_map k xs)) (h x) ∙ by (l x) (filter_map_as k l g h xs)
  where
    by : (o : Option Y) → filter_map k xs ≡ map g (filter_map l xs) → cons_option (option_map g o) (filter_map k xs) ≡ map g (cons_option o (filter_map l xs))
    by None rest = rest
    by (Some y) rest = ap (λ (zs : List Z). g y ∷ zs) rest

map_as : {X Y Z : Type 0} (k : X → Z) (l : X → Y) (g : Y → Z) → ((x : X) → k x ≡ g (l x)) → (xs : List X) → map k xs ≡ map g (map l xs)
map_as k l g h [] = refl
map_as k l g h (x ∷ xs) = rw (h x, map_as k l g h xs) refl

module _ (to : List ℕ → List ℕ) where
  operand_under : (a : Setting) (o : L.Operand) → Llvm.operand a (renamed_operand to o) ≡ operand_as Key (names_match to) (Llvm.operand a o)
  operand_under a (Constant c) = ap Fixed (sym (const_under (names_match to) a c))
  operand_under a (Parameter g i) = refl
  operand_under a (Result n) = refl

  operands_under : (a : Setting) (os : List L.Operand) → map (Llvm.operand a) (map (renamed_operand to) os) ≡ map (operand_as Key (names_match to)) (map (Llvm.operand a) os)
  operands_under a os = map_twice (Llvm.operand a) (renamed_operand to) os ∙ map_as (λ (o : L.Operand). Llvm.operand a (renamed_operand to o)) (Llvm.operand a) (operand_as Key (names_match to)) (operand_under a) os

  row_under : (a : Setting) (f : L.Function) (p : Placed) (i : Instruction)
      → Llvm.row a (renamed_function to f) (renamed_placed to p) (renamed_instruction to i) ≡ option_map (row_as Key (names_match to)) (Llvm.row a f p i)
  row_under a f p (Phi entries) = refl
  row_under a f p (Applied r) =
      let types = renamed_operand_types to f r.operands in
      let operands = operands_under a r.operands in
      ap (λ (ts : List TypeTree). Some (record { action = Applies r.op (renamed to p.type) ts (map (Llvm.operand a) (map (renamed_operand to) r.operands)); result = ResultKey p.number })) types
      ∙ ap (λ (os : List (Operand Key)). Some (record { action = Applies r.op (renamed to p.type) (map (renamed to) (map (operand_type f) r.operands)) os; result = ResultKey p.number })) operands

  rows_under : (a : Setting) (f : L.Function) (ps : List Placed)
      → filter_map (λ (p : Placed). Llvm.row a (renamed_function to f) p p.instruction) (map (renamed_placed to) ps) ≡ map (row_as Key (names_match to)) (filter_map (λ (p : Placed). Llvm.row a f p p.instruction) ps)
  rows_under a f ps =
      filter_map_map (renamed_placed to) (λ (p : Placed). Llvm.row a (renamed_function to f) p p.instruction) ps
      ∙ filter_map_as (λ (p : Placed). Llvm.row a (renamed_function to f) (renamed_placed to p) (renamed_instruction to p.instruction)) (λ (p : Placed). Llvm.row a f p p.instruction) (row_as Key (names_match to)) (λ p. row_under a f p p.instruction) ps

  source_under : (a : Setting) (e : Option (L.Operand × ℕ))
      → option_map (λ (x : L.Operand × ℕ). Llvm.operand a x.0) (option_map (renamed_phi_entry to) e) ≡ option_map (operand_as Key (names_match to)) (option_map (λ (x : L.Operand × ℕ). Llvm.operand a x.0) e)
  source_under a None = refl
  source_under a (Some e) = ap Some (operand_under a e.0)

  entry_under : (a : Setting) (from : ℕ) (es : List (L.Operand × ℕ)) → Llvm.entry_for a from (map (renamed_phi_entry to) es) ≡ option_map (operand_as Key (names_match to)) (Llvm.entry_for a from es)
  entry_under a from es =
      ap (option_map (λ (x : L.Operand × ℕ). Llvm.operand a x.0)) (find_map (renamed_phi_entry to) (λ (e : L.Operand × ℕ). nat_eq e.1 from) es)
      ∙ source_under a (find (λ (e : L.Operand × ℕ). nat_eq e.1 from) es)

  move_under : (a : Setting) (from : ℕ) (p : Placed) (i : Instruction)
      → Llvm.phi_move a from (record (renamed_placed to p) { instruction = renamed_instruction to i }) ≡ option_map (move_as Key (names_match to)) (Llvm.phi_move a from (record p { instruction = i }))
  move_under a from p (Phi entries) = ap (λ (o : Option (Operand Key)). Some (ResultKey p.number, o)) (entry_under a from entries)
  move_under a from p (Applied r) = refl

  moves_under : (a : Setting) (from : ℕ) (ps : List Placed) → filter_map (Llvm.phi_move a from) (map (renamed_placed to) ps) ≡ map (move_as Key (names_match to)) (filter_map (Llvm.phi_move a from) ps)
  moves_under a from ps =
      filter_map_map (renamed_placed to) (Llvm.phi_move a from) ps
      ∙ filter_map_as (λ (p : Placed). Llvm.phi_move a from (renamed_placed to p)) (Llvm.phi_move a from) (move_as Key (names_match to)) (λ p. move_under a from p p.instruction) ps

  moves_of : (a : Setting) (from : ℕ) (b : Option L.Block)
      → option_map_or (λ (b : L.Block). filter_map (Llvm.phi_move a from) b.instructions) (option_map (renamed_block to) b) [] ≡ map (move_as Key (names_match to)) (option_map_or (λ (b : L.Block). filter_map (Llvm.phi_move a from) b.instructions) b [])
  moves_of a from None = refl
  moves_of a from (Some b) = moves_under a from b.instructions

  edge_under : (a : Setting) (f : L.Function) (from n : ℕ) → Llvm.edge a (renamed_function to f) from n ≡ edge_as Key (names_match to) (Llvm.edge a f from n)
  edge_under a f from n =
      let place = place_under to f.blocks n in
      let moves = ap (λ (o : Option L.Block). option_map_or (λ (b : L.Block). filter_map (Llvm.phi_move a from) b.instructions) o []) (find_map (renamed_block to) (λ (b : L.Block). nat_eq b.number n) f.blocks)
      ∙ moves_of a from (find (λ (b : L.Block). nat_eq b.number n) f.blocks) in
      ap (λ (i : ℕ). record (Llvm.edge a (renamed_function to f) from n) { to = i }) place
      ∙ ap (λ (ms : List (Key × Option (Operand Key))). record (Llvm.edge a f from n) { moves = ms }) moves

  block_under : (a : Setting) (f : L.Function) (b : L.Block) → Llvm.block a (renamed_function to f) (renamed_block to b) ≡ block_as Key (names_match to) (Llvm.block a f b)
  block_under a f b =
      let ts = flat_map_agree (λ (p : Placed). targets p.instruction) (renamed_placed to) (λ (p : Placed). targets p.instruction) (λ p. renamed_targets to p.instruction) b.instructions in
      let edges = ap (map (Llvm.edge a (renamed_function to f) b.number)) ts ∙ map_as (Llvm.edge a (renamed_function to f) b.number) (Llvm.edge a f b.number) (edge_as Key (names_match to)) (edge_under a f b.number) (flat_map (λ (p : Placed). targets p.instruction) b.instructions) in
      ap (λ (es : List (Edge Key)). record (Llvm.block a (renamed_function to f) (renamed_block to b)) { edges = es }) edges
      ∙ ap (λ (rs : List (Row Key)). record (block_as Key (names_match to) (Llvm.block a f b)) { rows = rs }) (rows_under a f b.instructions)

  blocks_under : (a : Setting) (f : L.Function) → map (Llvm.block a (renamed_function to f)) (map (renamed_block to) f.blocks) ≡ map (block_as Key (names_match to)) (map (Llvm.block a f) f.blocks)
  blocks_under a f =
      map_twice (Llvm.block a (renamed_function to f)) (renamed_block to) f.blocks
      ∙ map_as (λ (b : L.Block). Llvm.block a (renamed_function to f) (renamed_block to b)) (Llvm.block a f) (block_as Key (names_match to)) (block_under a f) f.blocks

  start_under : (f : L.Function) (k : Key) → rename (names_match to) (Llvm.start f k) ≡ Llvm.start (renamed_function to f) k
  start_under f (ParamKey g i) = by (nat_eq g f.number && nat_lt i (Llvm.arity f.type)) ∙ ap (λ (n : ℕ). if nat_eq g f.number && nat_lt i n then Param i else Unset) (sym (arity_under to f.type))
    where
      by : (v : Bool) → rename (names_match to) (if v then Param i else Unset) ≡ (if v then Param i else Unset)
      by true = refl
      by false = refl
  start_under f (ResultKey n) = refl

  -- a run of the function under other names shows what one of the function shows, under those names
  pub trace_under : (a : Setting) (f : L.Function) (choices : List ℕ) → map (item_as (names_match to)) ((Llvm.body a f).trace choices) ≡ (Llvm.body a (renamed_function to f)).trace choices
  trace_under a f choices =
      trace_as Key (names_match to) same_key (Llvm.start f) (map (Llvm.block a f) f.blocks) choices
      ∙ ap (λ (s : Key → Term). trace Key same_key s (map (block_as Key (names_match to)) (map (Llvm.block a f) f.blocks)) choices) (fun_ext (start_under f))
      ∙ ap (λ (bs : List (Block Key)). trace Key same_key (Llvm.start (renamed_function to f)) bs choices) (sym (blocks_under a f))

-- ---- the same code

module _ (to : List ℕ → List ℕ) (plain under : Match) (stays : (n : List ℕ) → plain.struct n ≡ n) (named : (n : List ℕ) → under.struct n ≡ to n) (places : (n : List ℕ) (b : ℕ) → plain.block n b ≡ under.block n b) where
  term_list_under : (ts : List Term) → map (rename plain) (map (rename (names_match to)) ts) ≡ map (rename under) ts
  term_list_under [] = refl
  term_list_under (t ∷ ts) = rw (term_under to plain under stays named t, term_list_under ts) refl

  item_under : (n : List ℕ) (i : Item) → shown_under plain n (item_as (names_match to) i) ≡ shown_under under n i
  item_under n (Entered b) = ap Entered (places n b)
  item_under n (Event o ty tys ts) = cc (renamed_type to plain under stays named ty, renamed_types to plain under stays named tys, term_list_under ts)

  items_under : (n : List ℕ) (is : List Item) → map (shown_under plain n) (map (item_as (names_match to)) is) ≡ map (shown_under under n) is
  items_under n [] = refl
  items_under n (i ∷ is) = rw (item_under n i, items_under n is) refl

  body_under : (a : Setting) (f : L.Function) (b : Body) → SameBody plain f.name (Llvm.body a (renamed_function to f)) b → SameBody under f.name (Llvm.body a f) b
  body_under a f b h = record {
    blocks = subst (λ (n : ℕ). IsOneToOne (under.block f.name) n b.blocks) (length-map f.blocks (renamed_block to))
        (subst (λ (here : ℕ → ℕ). IsOneToOne here (length (map (renamed_block to) f.blocks)) b.blocks) (fun_ext (places f.name)) h.blocks);
    traces = λ cs. sym (items_under f.name ((Llvm.body a f).trace cs)) ∙ ap (map (shown_under plain f.name)) (trace_under to a f cs) ∙ h.traces cs;
  }

  bodies_under : (a : Setting) (f : L.Function) (v : Bool) (b : Option Body)
      → SameBodies plain f.name (if v then Some (Llvm.body a (renamed_function to f)) else None) b → SameBodies under f.name (if v then Some (Llvm.body a f) else None) b
  bodies_under a f true None h = absurd h
  bodies_under a f true (Some b) h = body_under a f b h
  bodies_under a f false None h = tt
  bodies_under a f false (Some b) h = absurd h

  -- what the entry of the function under other names is the same as, that of the function is
  pub renamed_entry : (a : Setting) (f : L.Function) (e : Entry) → SameEntry plain (Llvm.entry a (renamed_function to f)) e → SameEntry under (Llvm.entry a f) e
  renamed_entry a f e h = record {
    symbol = sym (renamed_symbol to plain under stays named a f) ∙ h.symbol;
    body = bodies_under a f (Llvm.has_blocks f) e.body
        (subst (λ (v : Bool). SameBodies plain f.name (if v then Some (Llvm.body a (renamed_function to f)) else None) e.body) (has_blocks_under to f) h.body);
  }

  -- ---- modules

  own_under : (fs : List L.Function) → filter (λ (f : L.Function). not (Llvm.is_intrinsic f)) (map (renamed_function to) fs) ≡ map (renamed_function to) (filter (λ (f : L.Function). not (Llvm.is_intrinsic f)) fs)
  own_under [] = refl
  own_under (f ∷ fs) = by (not (Llvm.is_intrinsic f)) (own_under fs)
    where
      by : (v : Bool) → filter (λ (f : L.Function). not (Llvm.is_intrinsic f)) (map (renamed_function to) fs) ≡ map (renamed_function to) (filter (λ (f : L.Function). not (Llvm.is_intrinsic f)) fs)
          → (if v then renamed_function to f ∷ filter (λ (f : L.Function). not (Llvm.is_intrinsic f)) (map (renamed_function to) fs) else filter (λ (f : L.Function). not (Llvm.is_intrinsic f)) (map (renamed_function to) fs))
          ≡ map (renamed_function to) (if v then f ∷ filter (λ (f : L.Function). not (Llvm.is_intrinsic f)) fs else filter (λ (f : L.Function). not (Llvm.is_intrinsic f)) fs)
      by true rest = ap (λ (gs : List L.Function). renamed_function to f ∷ gs) rest
      by false rest = rest

  names_under : (a : Setting) (fs : List L.Function) → map (λ (e : Entry). e.name) (map (Llvm.entry a) (map (renamed_function to) fs)) ≡ map (λ (e : Entry). e.name) (map (Llvm.entry a) fs)
  names_under a [] = refl
  names_under a (f ∷ fs) = ap (λ (ns : List (List ℕ)). f.name ∷ ns) (names_under a fs)

  some_entry : (a : Setting) (f : L.Function) (o : Option Entry) → SameEntries plain (Some (Llvm.entry a (renamed_function to f))) o → SameEntries under (Some (Llvm.entry a f)) o
  some_entry a f None h = absurd h
  some_entry a f (Some e) h = renamed_entry a f e h

  no_entry : (o : Option Entry) → SameEntries plain None o → SameEntries under None o
  no_entry None h = tt
  no_entry (Some e) h = absurd h

  entries_under : (a : Setting) (fs : List L.Function) (n : List ℕ) (o : Option Entry) → SameEntries plain (entry_of n (map (Llvm.entry a) (map (renamed_function to) fs))) o → SameEntries under (entry_of n (map (Llvm.entry a) fs)) o
  entries_under a [] n o h = no_entry o h
  entries_under a (f ∷ fs) n o h = by (bytes_eq f.name n) (entries_under a fs n o) h
    where
      by : (v : Bool) → (SameEntries plain (entry_of n (map (Llvm.entry a) (map (renamed_function to) fs))) o → SameEntries under (entry_of n (map (Llvm.entry a) fs)) o)
          → SameEntries plain (if v then Some (Llvm.entry a (renamed_function to f)) else entry_of n (map (Llvm.entry a) (map (renamed_function to) fs))) o
          → SameEntries under (if v then Some (Llvm.entry a f) else entry_of n (map (Llvm.entry a) fs)) o
      by true rest h = some_entry a f o h
      by false rest h = rest h

  -- what the module under other names has the same code as, the module itself has
  pub renamed_code : (d : ModuleData) (c : Code) → SameCode plain (Llvm.code_of (renamed_module to d)) c → SameCode under (Llvm.code_of d) c
  renamed_code d c h =
      let a = Llvm.setting_of d in
      let own = own_under d.functions in
      let kept = filter (λ (f : L.Function). not (Llvm.is_intrinsic f)) d.functions in
      record {
        source_names = subst IsDistinctNames (ap (λ (fs : List L.Function). map (λ (e : Entry). e.name) (map (Llvm.entry a) fs)) own ∙ names_under a kept) h.source_names;
        target_names = h.target_names;
        symbols = λ n. entries_under a kept n (entry_of n c.entries) (subst (λ (fs : List L.Function). SameEntries plain (entry_of n (map (Llvm.entry a) fs)) (entry_of n c.entries)) own (h.symbols n));
      }
