-- Functions that differ in numbers alone have one text.
use Rattle.std.proofs.Common.{◌≡◌, ℕ, suc, ◌+◌, Bool, true, false, if◌then◌else◌, List, [], ◌∷◌, ◌++◌, length, map, drop, slice_index_or, Option, Some, None, refl, ap, sym, ◌∙◌, subst}
use Rattle.std.specs.List.{AllZip, flat_map}
use Rattle.std.specs.Prelude.{decimal}
use Rattle.std.specs.Option.{option_map_or}
use Rattle.std.proofs.lemmas.Option.{same_Some}
use Rattle.support.specs.Interned.{IsDistinctList}
use Rattle.kinds.specs.Structs.{Struct}
use Rattle.llvm_core.specs.Data as D
use Rattle.llvm_core.specs.Data.{TypeTree, Operand, Constant, Parameter, Result, RowData, Instruction, Phi, Applied, Placed, Block, operand_type, param_type, placed_in}
use Rattle.kinds.specs.Types.{result_of}
use Rattle.kinds.specs.Held.{is_void}
use Rattle.ll_literals.specs.Text.{Text}
use Rattle.ll_literals.specs.Names.{global, label, printed_name}
use Rattle.ll_lines.specs.Lines as L
use Rattle.ll_lines.specs.Lines.{Typed}
use Rattle.ll_said.specs.Naming.{Unnamed, ParamAt, BlockOf, ResultOf, same_unnamed, if_unnamed, unnamed_params, unnamed_result, unnamed_block, unnamed_in, local_text, result_name, block_name, block_ref}
use Rattle.ll_said.specs.Said.{said_of, typed_of, entry_of, row_of, inst_of, gives_of, line_of, lines_of, label_of, entry_label, block_parts, parts_of, params_of, function_of}
use Rattle.ll_said.proofs.AlikeEdges.{unmapped_at, mapped_at, one_right, one_left, same_test}
use Rattle.ll_said.proofs.AlikeForm.{results_at, types_alike}
use Rattle.ll_said.proofs.KnownLaws.{found}
use Rattle.ll_said.proofs.PairLaws.{block_numbers, result_numbers, SameBlock, SameResult, OperandsAlike, EntriesAlike, RowAlike, CodeAlike, PlacedAlike, BlocksAlike, FunctionsAlike}
use Rattle.ll_said.proofs.PositionLaws.{position, position_cons, position_here}
use Rattle.ll_said.proofs.ZipLaws.{zip_length, zip_both, zip_flat, zip_left, zip_weaker}

-- what is made alike of paired items
map_same : {X Y Z : Type 0} (R : X → Y → Type 0) (f : X → Z) (g : Y → Z) → ((x : X) (y : Y) → R x y → f x ≡ g y) → (xs : List X) (ys : List Y) → AllZip R xs ys → map f xs ≡ map g ys
map_same R f g same [] [] h = refl
map_same R f g same [] (y ∷ ys) h = elim h [ ]
map_same R f g same (x ∷ xs) [] h = elim h [ ]
map_same R f g same (x ∷ xs) (y ∷ ys) h = let one = same x y h.0 in let more = map_same R f g same xs ys h.1 in cc (one, more)

pub flat_same : {X Y Z : Type 0} (R : X → Y → Type 0) (f : X → List Z) (g : Y → List Z) → ((x : X) (y : Y) → R x y → f x ≡ g y) → (xs : List X) (ys : List Y) → AllZip R xs ys → flat_map f xs ≡ flat_map g ys
flat_same R f g same [] [] h = refl
flat_same R f g same [] (y ∷ ys) h = elim h [ ]
flat_same R f g same (x ∷ xs) [] h = elim h [ ]
flat_same R f g same (x ∷ xs) (y ∷ ys) h = let one = same x y h.0 in let more = flat_same R f g same xs ys h.1 in cc (one, more)

module _ (g h : D.Function) (alike : FunctionsAlike g h) (here : IsDistinctList (block_numbers g)) (there : IsDistinctList (block_numbers h)) (left : IsDistinctList (result_numbers g)) (right : IsDistinctList (result_numbers h)) where
  -- ---- unnamed things

  abbrev UnnamedPair : Unnamed → Unnamed → Type 0
  UnnamedPair (ParamAt i) y = y ≡ ParamAt i
  UnnamedPair (BlockOf a) y = (b : ℕ) × (y ≡ BlockOf b) × SameBlock g h a b
  UnnamedPair (ResultOf a) y = (b : ℕ) × (y ≡ ResultOf b) × SameResult g h a b

  -- pairs of things are of one place where their partners are
  same_pairs : (x u y v : Unnamed) → UnnamedPair x y → UnnamedPair u v → same_unnamed x u ≡ same_unnamed y v
  same_pairs (ParamAt i) (ParamAt j) y v p q = rw (p, q) refl
  same_pairs (ParamAt i) (BlockOf b) y v p q = rw (p, q.1) refl
  same_pairs (ParamAt i) (ResultOf b) y v p q = rw (p, q.1) refl
  same_pairs (BlockOf a) (ParamAt j) y v p q = rw (p.1, q) refl
  same_pairs (BlockOf a) (BlockOf b) y v p q =
      rw (p.1, q.1) (same_test a b p.0 q.0 (λ e. one_right (block_numbers g) (block_numbers h) a p.0 q.0 here p.2 (subst (λ (k : ℕ). SameBlock g h k q.0) (sym e) q.2))
      (λ e. one_left (block_numbers g) (block_numbers h) a b p.0 there p.2 (subst (SameBlock g h b) (sym e) q.2)))
  same_pairs (BlockOf a) (ResultOf b) y v p q = rw (p.1, q.1) refl
  same_pairs (ResultOf a) (ParamAt j) y v p q = rw (p.1, q) refl
  same_pairs (ResultOf a) (BlockOf b) y v p q = rw (p.1, q.1) refl
  same_pairs (ResultOf a) (ResultOf b) y v p q =
      rw (p.1, q.1) (same_test a b p.0 q.0 (λ e. one_right (result_numbers g) (result_numbers h) a p.0 q.0 left p.2 (subst (λ (k : ℕ). SameResult g h k q.0) (sym e) q.2))
      (λ e. one_left (result_numbers g) (result_numbers h) a b p.0 right p.2 (subst (SameResult g h b) (sym e) q.2)))

  position_same : (x y : Unnamed) → UnnamedPair x y → (xs ys : List Unnamed) → AllZip UnnamedPair xs ys → position x xs ≡ position y ys
  position_same x y p [] [] z = refl
  position_same x y p [] (v ∷ ys) z = elim z [ ]
  position_same x y p (u ∷ xs) [] z = elim z [ ]
  position_same x y p (u ∷ xs) (v ∷ ys) z = by (position_same x y p xs ys z.1) (same_unnamed x u) refl (sym (same_pairs x u y v p z.0))
    where
      by : position x xs ≡ position y ys → (b : Bool) → same_unnamed x u ≡ b → same_unnamed y v ≡ same_unnamed x u → position x (u ∷ xs) ≡ position y (v ∷ ys)
      by further true e same = position_here x u xs e ∙ sym (position_here y v ys (same ∙ e))
      by further false e same = position_cons x u xs e ∙ ap (λ (k : ℕ). 1 + k) further ∙ sym (position_cons y v ys (same ∙ e))

  if_pair : (n : Text) (x y : Unnamed) → UnnamedPair x y → AllZip UnnamedPair (if_unnamed n x) (if_unnamed n y)
  if_pair [] x y p = (p, tt)
  if_pair (b ∷ bs) x y p = tt

  params_pair : (i : ℕ) (ns : List Text) → AllZip UnnamedPair (unnamed_params i ns) (unnamed_params i ns)
  params_pair i [] = tt
  params_pair i (n ∷ ns) = zip_both UnnamedPair (if_unnamed n (ParamAt i)) (unnamed_params (suc i) ns) (if_unnamed n (ParamAt i)) (unnamed_params (suc i) ns) (if_pair n (ParamAt i) (ParamAt i) refl) (params_pair (suc i) ns)

  result_pair : (p q : Placed) → PlacedAlike g h p q → AllZip UnnamedPair (unnamed_result p.type p) (unnamed_result q.type q)
  result_pair p q pair = subst (λ (t : TypeTree). AllZip UnnamedPair (unnamed_result p.type p) (unnamed_result t q)) pair.type (by (is_void p.type))
    where
      some : AllZip UnnamedPair (if_unnamed p.name (ResultOf p.number)) (if_unnamed q.name (ResultOf q.number))
      some = subst (λ (n : Text). AllZip UnnamedPair (if_unnamed p.name (ResultOf p.number)) (if_unnamed n (ResultOf q.number))) pair.name (if_pair p.name (ResultOf p.number) (ResultOf q.number) (q.number, refl, pair.number))

      by : (v : Bool) → AllZip UnnamedPair (if v then [] else if_unnamed p.name (ResultOf p.number)) (if v then [] else if_unnamed q.name (ResultOf q.number))
      by true = tt
      by false = some

  block_pair : (c d : Block) → BlocksAlike g h c d → AllZip UnnamedPair (unnamed_block c) (unnamed_block d)
  block_pair c d pair =
      zip_both UnnamedPair (if_unnamed c.name (BlockOf c.number)) (flat_map (λ (p : Placed). unnamed_result p.type p) c.instructions) (if_unnamed d.name (BlockOf d.number)) (flat_map (λ (p : Placed). unnamed_result p.type p) d.instructions)
      (subst (λ (n : Text). AllZip UnnamedPair (if_unnamed c.name (BlockOf c.number)) (if_unnamed n (BlockOf d.number))) pair.name (if_pair c.name (BlockOf c.number) (BlockOf d.number) (d.number, refl, pair.number)))
      (zip_flat UnnamedPair (λ (p : Placed). unnamed_result p.type p) (λ (p : Placed). unnamed_result p.type p) c.instructions d.instructions
      (zip_weaker (PlacedAlike g h) (λ (p q : Placed). AllZip UnnamedPair (unnamed_result p.type p) (unnamed_result q.type q)) c.instructions d.instructions result_pair pair.instructions))

  unnamed_pair : AllZip UnnamedPair (unnamed_in g) (unnamed_in h)
  unnamed_pair =
      zip_both UnnamedPair (unnamed_params 0 g.params) (flat_map unnamed_block g.blocks) (unnamed_params 0 h.params) (flat_map unnamed_block h.blocks)
      (subst (λ (ns : List Text). AllZip UnnamedPair (unnamed_params 0 g.params) (unnamed_params 0 ns)) alike.params (params_pair 0 g.params))
      (zip_flat UnnamedPair unnamed_block unnamed_block g.blocks h.blocks (zip_weaker (BlocksAlike g h) (λ (c d : Block). AllZip UnnamedPair (unnamed_block c) (unnamed_block d)) g.blocks h.blocks block_pair alike.blocks))

  -- as many of them
  pub unnamed_count : length (unnamed_in g) ≡ length (unnamed_in h)
  unnamed_count = zip_length UnnamedPair (unnamed_in g) (unnamed_in h) unnamed_pair

  -- ---- how the text speaks of a thing

  local_same : (n : Text) (x y : Unnamed) → UnnamedPair x y → local_text g n x ≡ local_text h n y
  local_same [] x y p = ap (λ (k : ℕ). 37 ∷ decimal k) (position_same x y p (unnamed_in g) (unnamed_in h) unnamed_pair)
  local_same (b ∷ bs) x y p = refl

  result_name_same : (a b : ℕ) → SameResult g h a b → result_name g a ≡ result_name h b
  result_name_same a b pair =
      let r = results_at g h alike here there left right a b pair in
      let one = ap (λ (o : Option Placed). option_map_or (λ (p : Placed). p.name) o []) (found (λ (p : Placed). p.number) (placed_in g) left r.place r.one r.one_there) in
      let other = ap (λ (o : Option Placed). option_map_or (λ (p : Placed). p.name) o []) (found (λ (p : Placed). p.number) (placed_in h) right r.place r.other r.other_there) in
      ap (result_name g) (sym r.one_number) ∙ one ∙ r.pair.name ∙ sym other ∙ ap (result_name h) r.other_number

  block_name_same : (a b : ℕ) → SameBlock g h a b → block_name g a ≡ block_name h b
  block_name_same a b pair =
      let c = unmapped_at (λ (x : Block). x.number) g.blocks pair.place a pair.left in
      let d = zip_left (BlocksAlike g h) g.blocks h.blocks alike.blocks pair.place c.0 c.1 in
      let number : d.0.number ≡ b = same_Some d.0.number b (sym (mapped_at (λ (x : Block). x.number) h.blocks pair.place d.0 d.1) ∙ pair.right) in
      let one = ap (λ (o : Option Block). option_map_or (λ (x : Block). x.name) o []) (found (λ (x : Block). x.number) g.blocks here pair.place c.0 c.1) in
      let other = ap (λ (o : Option Block). option_map_or (λ (x : Block). x.name) o []) (found (λ (x : Block). x.number) h.blocks there pair.place d.0 d.1) in
      ap (block_name g) (sym c.2) ∙ one ∙ d.2.name ∙ sym other ∙ ap (block_name h) number

  ref_same : (a b : ℕ) → SameBlock g h a b → block_ref g a ≡ block_ref h b
  ref_same a b pair = ap (λ (n : Text). local_text g n (BlockOf a)) (block_name_same a b pair) ∙ local_same (block_name h b) (BlockOf a) (BlockOf b) (b, refl, pair)

  -- ---- instructions, of a module with these structs

  module _ (structs : List Struct) where
    said_same : (o p : Operand) → OperandsAlike g h o p → said_of structs g o ≡ said_of structs h p
    said_same (Constant c) p x = ap (said_of structs h) (sym x)
    said_same (Parameter f i) p x =
        ap (λ (ns : List Text). L.Local (local_text g (slice_index_or ns i []) (ParamAt i))) alike.params
        ∙ ap L.Local (local_same (slice_index_or h.params i []) (ParamAt i) (ParamAt i) refl) ∙ ap (said_of structs h) (sym x.1)
    said_same (Result a) p x =
        ap (λ (n : Text). L.Local (local_text g n (ResultOf a))) (result_name_same a x.0 x.2)
        ∙ ap L.Local (local_same (result_name h x.0) (ResultOf a) (ResultOf x.0) (x.0, refl, x.2)) ∙ ap (said_of structs h) (sym x.1)

    typed_same : (o p : Operand) → OperandsAlike g h o p → typed_of structs g o ≡ typed_of structs h p
    typed_same o p x = let said = said_same o p x in let types = types_alike g h alike here there left right o p x in
        ap (λ (t : TypeTree). let y : Typed = record { type = t; said = said_of structs g o } in y) types ∙ ap (λ (s : L.Said). let y : Typed = record { type = operand_type h p; said = s } in y) said

    entry_same : (e d : Operand × ℕ) → EntriesAlike g h e d → entry_of structs g e ≡ entry_of structs h d
    entry_same e d x =
        ap (λ (s : L.Said). let y : L.Incoming = record { said = s; block = block_ref g e.1 } in y) (said_same e.0 d.0 x.0)
        ∙ ap (λ (t : Text). let y : L.Incoming = record { said = said_of structs h d.0; block = t } in y) (ref_same e.1 d.1 x.1)

    row_same : (r s : RowData) → RowAlike g h r s → row_of structs g r ≡ row_of structs h s
    row_same r s x =
        let op = x.op in
        let written = x.written in
        let operands = map_same (OperandsAlike g h) (typed_of structs g) (typed_of structs h) typed_same r.operands s.operands x.operands in
        let targets = map_same (SameBlock g h) (block_ref g) (block_ref h) ref_same r.targets s.targets x.targets in
        λ i. record { op = op i; written = written i; operands = operands i; targets = targets i }

    inst_same : (t : TypeTree) (x y : Instruction) → CodeAlike g h x y → inst_of structs g t x ≡ inst_of structs h t y
    inst_same t (Phi es) (Phi ds) c = ap (L.Phi t) (map_same (EntriesAlike g h) (entry_of structs g) (entry_of structs h) entry_same es ds c)
    inst_same t (Applied r) (Applied s) c = ap L.Row (row_same r s c)
    inst_same t (Phi es) (Applied s) c = elim c [ ]
    inst_same t (Applied r) (Phi ds) c = elim c [ ]

    gives_same : (t : TypeTree) (p q : Placed) → PlacedAlike g h p q → gives_of g t p ≡ gives_of h t q
    gives_same t p q pair = by (is_void t)
      where
        some : Some (local_text g p.name (ResultOf p.number)) ≡ Some (local_text h q.name (ResultOf q.number))
        some = ap (λ (n : Text). Some n) (local_same p.name (ResultOf p.number) (ResultOf q.number) (q.number, refl, pair.number) ∙ ap (λ (n : Text). local_text h n (ResultOf q.number)) pair.name)

        by : (v : Bool) → (if v then None else Some (local_text g p.name (ResultOf p.number))) ≡ (if v then None else Some (local_text h q.name (ResultOf q.number)))
        by true = refl
        by false = some

    line_same : (p q : Placed) → PlacedAlike g h p q → line_of structs g p ≡ line_of structs h q
    line_same p q pair =
        let gives : gives_of g p.type p ≡ gives_of h q.type q = gives_same p.type p q pair ∙ ap (λ (t : TypeTree). gives_of h t q) pair.type in
        let inst : inst_of structs g p.type p.instruction ≡ inst_of structs h q.type q.instruction = inst_same p.type p.instruction q.instruction pair.code ∙ ap (λ (t : TypeTree). inst_of structs h t q.instruction) pair.type in
        λ i. record { result = gives i; inst = inst i }

    -- ---- blocks and functions

    lines_same : (c d : Block) → BlocksAlike g h c d → lines_of structs g c ≡ lines_of structs h d
    lines_same c d pair = map_same (PlacedAlike g h) (λ (p : Placed). L.Does (line_of structs g p)) (λ (p : Placed). L.Does (line_of structs h p)) (λ p q x. ap L.Does (line_same p q x)) c.instructions d.instructions pair.instructions

    label_same : (c d : Block) → BlocksAlike g h c d → label_of g c ≡ label_of h d
    label_same c d pair = ap (λ (t : Text). label (drop 1 t)) (ref_same c.number d.number pair.number)

    block_same : (c d : Block) → BlocksAlike g h c d → block_parts structs g c ≡ block_parts structs h d
    block_same c d pair = let head = label_same c d pair in let lines = lines_same c d pair in λ i. L.Label (head i) ∷ lines i

    entry_label_same : (n : Text) (c d : Block) → BlocksAlike g h c d → entry_label g c n ≡ entry_label h d n
    entry_label_same [] c d pair = refl
    entry_label_same (b ∷ bs) c d pair = ap (λ (t : Text). L.Label t ∷ []) (label_same c d pair)

    parts_same : (cs ds : List Block) → AllZip (BlocksAlike g h) cs ds → parts_of structs g cs ≡ parts_of structs h ds
    parts_same [] [] pairs = refl
    parts_same [] (d ∷ ds) pairs = elim pairs [ ]
    parts_same (c ∷ cs) [] pairs = elim pairs [ ]
    parts_same (c ∷ cs) (d ∷ ds) pairs =
        let head : entry_label g c c.name ≡ entry_label h d d.name = entry_label_same c.name c d pairs.0 ∙ ap (entry_label h d) pairs.0.name in
        let lines = lines_same c d pairs.0 in
        let more = flat_same (BlocksAlike g h) (block_parts structs g) (block_parts structs h) block_same cs ds pairs.1 in
        λ i. head i ++ (lines i ++ more i)

    params_same : (i : ℕ) (ns : List Text) → params_of g i ns ≡ params_of h i ns
    params_same i [] = refl
    params_same i (n ∷ ns) =
        let type : param_type g.type i ≡ param_type h.type i = ap (λ (t : TypeTree). param_type t i) alike.type in
        let name = local_same n (ParamAt i) (ParamAt i) refl in
        let more = params_same (suc i) ns in
        λ j. (record { type = type j; name = Some (name j) }) ∷ more j

    -- what the texts say
    pub function_same : function_of structs g ≡ function_of structs h
    function_same =
        let result : result_of g.type ≡ result_of h.type = ap result_of alike.type in
        let name : global (printed_name g.name) ≡ global (printed_name h.name) = ap (λ (n : Text). global (printed_name n)) alike.name in
        let params : params_of g 0 g.params ≡ params_of h 0 h.params = params_same 0 g.params ∙ ap (params_of h 0) alike.params in
        let body = parts_same g.blocks h.blocks alike.blocks in
        λ i. record { result = result i; name = name i; params = params i; body = body i }
