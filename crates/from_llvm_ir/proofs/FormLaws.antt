-- A whole function is of the dialect's form, and nothing of it is refused by an export.
use Rattle.std.proofs.Common.{ℕ, zero, suc, ◌≡◌, inl, inr, refl, sym, ap, subst, ◌∙◌, true, false, not, List, [], ◌∷◌, ◌++◌, Option, Some, None, All, length, take, slice_get, arith}
use Rattle.std.specs.Prelude.{IfSome}
use Rattle.std.proofs.lemmas.List.{append_assoc}
use Rattle.std.proofs.lemmas.Option.{same_Some}
use Rattle.std.proofs.lemmas.List.Elements.{All-nil, All-cons, All-append, All-map}
use Rattle.meaning.proofs.MatchedLaws.{matched_length, matched_at}
use Rattle.support.proofs.ListLaws.{all_from, filter_from}
use Rattle.llvm_core.specs.Form as LF
use Rattle.llvm_core.specs.Form.{IsFormConst}
use Rattle.llvm_core.specs.Data as L
use Rattle.llvm_core.specs.Data.{ConstTree, Placed, const_type, targets}
use Rattle.dialect_types.specs.Trees.{TypeTree}
use Rattle.dialect_core.specs.declared.ops.Value.{Value}
use Rattle.dialect_core.specs.declared.ops.Successor.{Successor}
use Rattle.kinds.specs.declared.rules.Takes.{Takes}
use Rattle.kinds.specs.declared.rules.Takes.TheVariants as O
use Rattle.kinds.specs.Types.{result_of, params_of}
use Rattle.kinds.specs.Held.{IsFirstClass, IsReturned, IsHeld, IsHeldResult, own_type}
use Rattle.kinds.specs.Table.{rule_of}
use Rattle.kinds.proofs.HeldLaws.{first_class_own, returned_own, held_first_class, held_result_if, held_result_own}
use Rattle.dialect_core.specs.Rules as R
use Rattle.dialect_core.specs.Form as DF
use Rattle.dialect_core.specs.Data.{DialectOp, DialectBlock, Func, Kind, ConstantOp, FilledOp, llvm_name_of, value_type}
use Rattle.meaning.specs.Pairs.{Matched}
use Rattle.kinds.specs.Names.{is_good_name, is_own_name}
use Rattle.from_llvm_ir.specs.Imported.{own_kind, rest_of, phis_of, front_for}
use Rattle.from_llvm_ir.specs.Source.{IsUsable}
use Rattle.from_llvm_ir.specs.Known.{Known, Stands, IsConstantOp, IsHeldConst, blocks_of}
use Rattle.from_llvm_ir.specs.Converted.{IsKind, IsEdge, IsRow, IsConverted}
use Rattle.from_consts.proofs.AttrLaws.{attr_type_same}
use Rattle.from_llvm_ir.proofs.AttrLaws.{attr_short, kind_cases, own_fill}
use Rattle.from_llvm_ir.proofs.ListLaws.{other_there}
use Rattle.from_llvm_ir.proofs.RowLaws.{HaveTypes, if_own, first_class, all_typed, values_fit, values_give}
use Rattle.from_llvm_ir.proofs.NameLaws.{good_own, kept_back}
use Rattle.from_llvm_ir.proofs.OrderLaws.{ordered_at}
use Rattle.from_llvm_ir.proofs.HeldLaws.{returns_held, takes_held, operand_held, result_held_at}
use Rattle.from_llvm_ir.proofs.EndLaws.{ends_from, ends_filter, ends_as}
use Rattle.from_llvm_ir.proofs.PassLaws.{inst_form, block_form, phi_is, phi_form, row_usable, operands_usable}
use Rattle.from_llvm_ir.proofs.Whole.{IsWhole, Head, the_func, first_source, target_apart, source_at, entry, arg_typed, operand_typed}
use Rattle.from_llvm_ir.proofs.EdgeLaws.{EdgeAt, arg_at, RowAt, op_cases, op_edge}

-- ---- kinds

kind_tests : (i : L.Instruction) (κ : Kind) → IsKind i κ → (DF.is_constant_kind κ ≡ false) × (DF.is_terminator_kind κ ≡ LF.is_terminator i)
kind_tests (L.Phi es) κ h = elim h [ ]
kind_tests (L.Applied r) κ h = (ap DF.is_constant_kind h, ap DF.is_terminator_kind h)

constant_kind_tests : (c : ConstTree) (κ : Kind) → own_kind c ≡ Some κ → (DF.is_constant_kind κ ≡ true) × (DF.is_terminator_kind κ ≡ false)
constant_kind_tests c κ is = elim (kind_cases c κ is) [
  | inl h ↦ (ap DF.is_constant_kind h.is, ap DF.is_terminator_kind h.is)
  | inr h ↦ (ap DF.is_constant_kind h.is, ap DF.is_terminator_kind h.is)
]

pub constant_tests : (c : ConstTree) (o : DialectOp) → IsConstantOp c o → (DF.is_constant o ≡ true) × (DF.is_terminator o ≡ false) × (o.successors ≡ []) × (o.operands ≡ [])
constant_tests c o h =
    let kind = constant_kind_tests c h.0 h.1 in
    (ap DF.is_constant h.2 ∙ kind.0, ap DF.is_terminator h.2 ∙ kind.1, ap (λ (x : DialectOp). x.successors) h.2, ap (λ (x : DialectOp). x.operands) h.2)

-- of the width of what a row gives nothing is asked
kind_short : (i : L.Instruction) (κ : Kind) (own : Option TypeTree) → IsKind i κ → IfSome own (DF.IsShortKind κ)
kind_short (L.Phi es) κ own h = elim h [ ]
kind_short (L.Applied r) κ None h = tt
kind_short (L.Applied r) κ (Some t) h = subst (λ (x : Kind). DF.IsShortKind x t) (sym h) tt

-- a terminator is no phi
ends_kept : (p : Placed) → LF.is_last p ≡ true → not (LF.is_phi p) ≡ true
ends_kept p h = by p.instruction h
  where
    by : (i : L.Instruction) → LF.is_terminator i ≡ true → not (LF.is_phi (record p { instruction = i })) ≡ true
    by (L.Phi es) e = let no : ⊥ = cc in absurd no
    by (L.Applied r) e = refl

module _ (n : Head) (k : Known) (cs : List DialectBlock) (h : IsWhole k cs) where
  abbrev g : L.Function
  g = k.frame.source

  abbrev bs : List L.Block
  bs = blocks_of k.frame

  abbrev G : Func
  G = the_func n k cs

  -- ---- operations

  constant_form : (c : ConstTree) (o : DialectOp) → IsHeldConst c → IsConstantOp c o → DF.IsFormOp G o
  constant_form c o s m = elim (kind_cases c m.0 m.1) [
    | inl h ↦ made (FilledOp h.fill) h.is (record { type = const_type c; result = refl; value = held_first_class (const_type c) s.held; bare = refl; ends_here = refl })
        (subst (DF.IsShortFill h.fill) (sym (ap const_type h.tree)) (λ other. absurd (own_fill h.fill h.type (subst IsFormConst h.tree s.form) other)))
    | inr h ↦ let typed = sym (attr_type_same c h.attr h.of) in
        made (ConstantOp h.attr) h.is (record { value = subst IsFirstClass typed (held_first_class (const_type c) s.held); result = ap Some typed; bare = refl; ends_here = refl })
        (attr_short c h.attr s.form s.short h.of)
  ]
    where
      made : (κ : Kind) → m.0 ≡ κ → R.IsOfKind (value_type G) G [] (Some (const_type c)) [] κ → DF.IsShortKind κ (const_type c) → DF.IsFormOp G o
      made κ is kind short = subst (DF.IsFormOp G) (sym m.2) (record {
        kind = subst (R.IsOfKind (value_type G) G [] (Some (const_type c)) []) (sym is) kind;
        operands = All-nil _;
        passed = All-nil _;
        result = s.held;
        short = subst (λ (x : Kind). DF.IsShortKind x (const_type c)) (sym is) short;
      })

  -- a constant that has an operation is of a type that is translated
  known_held : (o : L.Operand) (w : Value) → Stands k o w → (c : ConstTree) → o ≡ L.Constant c → IsHeldResult (const_type c)
  known_held o w st c is = let s = subst (λ (x : L.Operand). Stands k x w) is st in held_result_if (const_type c) (h.consts s.place c s.here).held

  value_form : (o : L.Operand) (w : Value) → Stands k o w → IsUsable g o → DF.IsHeldValue G w
  value_form o w st f = (f.0, record { typed = operand_typed n k cs h f.0 o w st f.1; held = operand_held g h.form h.held f.0 o (known_held o w st) f.1 })

  values_form : (os : List L.Operand) (ws : List Value) → ((j : ℕ) (o : L.Operand) → slice_get os j ≡ Some o → IsUsable g o) → Matched (Stands k) os ws → All (DF.IsHeldValue G) ws
  values_form [] [] f m = All-nil _
  values_form [] (w ∷ ws) f m = elim m [ ]
  values_form (o ∷ os) [] f m = elim m [ ]
  values_form (o ∷ os) (w ∷ ws) f m = All-cons (DF.IsHeldValue G) w ws (value_form o w m.0 (f 0 o refl)) (values_form os ws (λ j x at. f (suc j) x at) m.1)

  -- and they have the operands' types
  values_typed : (os : List L.Operand) (ws : List Value) → ((j : ℕ) (o : L.Operand) → slice_get os j ≡ Some o → IsUsable g o) → Matched (Stands k) os ws → HaveTypes (value_type G) (LF.types_of g os) ws
  values_typed [] [] f m = tt
  values_typed [] (w ∷ ws) f m = elim m [ ]
  values_typed (o ∷ os) [] f m = elim m [ ]
  values_typed (o ∷ os) (w ∷ ws) f m =
      let u = f 0 o refl in
      (operand_typed n k cs h u.0 o w m.0 u.1 ∙ ap Some (sym u.1.typed), values_typed os ws (λ j x at. f (suc j) x at) m.1)

  edge_form : (m t : ℕ) (s : Successor) → EdgeAt k cs h m t s → R.IsEdge (value_type G) G s
  edge_form m t s e = record {
    no_entry = λ b at same. let no : 0 ≡ suc e.place = target_apart n k cs h 0 (suc e.place) b e.block at e.there (sym same ∙ e.leads) in absurd (omega (arith, no));
    args = all_from (R.IsTypedBy (value_type G)) s.args (λ y v at. let a = arg_at k cs h m t s e y v at in (a.phi.type, operand_typed n k cs h a.phi.type a.operand v a.stands a.usable));
    typed = λ y v type at_v wanted.
        let a = arg_at k cs h m t s e y v at_v in
        let takes = arg_typed n k cs h (suc e.place) y e.block s.block a.phi.type e.there e.leads a.type in
        operand_typed n k cs h a.phi.type a.operand v a.stands a.usable ∙ sym takes ∙ wanted;
  }

  passed_form : (m t : ℕ) (s : Successor) → EdgeAt k cs h m t s → All (DF.IsHeldValue G) s.args
  passed_form m t s e = all_from (DF.IsHeldValue G) s.args (λ y v at. let a = arg_at k cs h m t s e y v at in value_form a.operand v a.stands (a.phi.type, a.usable))

  -- what is returned
  returning : (x : Takes) (os : List L.Operand) (ws : List Value) → LF.IsReturning x g os → HaveTypes (value_type G) (LF.types_of g os) ws → R.IsReturning x (value_type G) (result_of G.type) ws
  returning O.Nothing os ws f m = tt
  returning (O.One a) os ws f m = tt
  returning (O.Two a b) os ws f m = tt
  returning (O.Three a b c) os ws f m = tt
  returning O.Return os ws f m = all_typed (value_type G) (result_of g.type) (LF.types_of g os) ws m (All-map (λ (t : TypeTree). t ≡ result_of g.type) (L.operand_type g) os f)

  row_kind : (m : ℕ) (p : Placed) (r : L.RowData) (ws : List Value) (ss : List Successor) (own : Option TypeTree) → LF.IsFormRow g p.type r → Matched (Stands k) r.operands ws → length ss ≡ length r.targets
      → ((y : ℕ) (s : Successor) → slice_get ss y ≡ Some s → (t : ℕ) × EdgeAt k cs h m t s) → own ≡ own_type p.type → IsReturned p.type → R.IsRow (value_type G) G r.op ws own ss
  row_kind m p r ws ss own f ops count each result returned =
      let ts = LF.types_of g r.operands in
      let have = values_typed r.operands ws (row_usable g h.form p.type r f) ops in
      record {
        values = first_class (value_type G) ts ws have f.first_class;
        count = matched_length (Stands k) r.operands ws ops ∙ f.count;
        fits = values_fit (value_type G) r.op r.written ts ws have f.fits p.type own f.first_class f.result result;
        returns = returning (rule_of r.op).takes r.operands ws f.returns have;
        result = values_give (value_type G) r.op r.written ts ws have f.fits p.type own f.first_class f.result result;
        value = subst (λ (x : Option TypeTree). IfSome x IsFirstClass) (sym result) (if_own IsFirstClass p.type (returned_own p.type returned));
        leads = (count ∙ f.leads, all_from (R.IsEdge (value_type G) G) ss (λ y s at. let e = each y s at in edge_form m e.0 s e.1));
      }

  kind_form : (m : ℕ) (p : Placed) (i : L.Instruction) (κ : Kind) (ws : List Value) (ss : List Successor) (own : Option TypeTree) → LF.IsFormInstruction g m p.type i → IsKind i κ → Matched (Stands k) (LF.operands_of i) ws → length ss ≡ length (targets i)
      → ((y : ℕ) (s : Successor) → slice_get ss y ≡ Some s → (t : ℕ) × EdgeAt k cs h m t s) → own ≡ own_type p.type → IsReturned p.type → R.IsOfKind (value_type G) G ws own ss κ
  kind_form m p (L.Phi es) κ ws ss own f is ops count each result returned = elim is [ ]
  kind_form m p (L.Applied r) κ ws ss own f is ops count each result returned = subst (R.IsOfKind (value_type G) G ws own ss) (sym is) (row_kind m p r ws ss own f ops count each result returned)

  row_form : (j : ℕ) (c : DialectBlock) (o : DialectOp) → RowAt k cs h j c o → DF.IsFormOp G o
  row_form j c o r =
      let f = inst_form g h.form r.source r.place r.block r.inst r.at r.there in
      let v = r.row.converted in
      let edge : (y : ℕ) (s : Successor) → slice_get o.successors y ≡ Some s → (t : ℕ) × EdgeAt k cs h r.block.number t s = λ y s at. (let e = op_edge k cs h j y c o r s at in (e.0, e.2)) in
      record {
        kind = kind_form r.block.number r.inst r.inst.instruction o.kind o.operands o.successors o.result f.instruction v.kind v.operands (matched_length (IsEdge k r.block.number) (targets r.inst.instruction) o.successors v.successors) edge v.result f.returned;
        operands = values_form (LF.operands_of r.inst.instruction) o.operands (operands_usable g h.form r.block.number r.inst f r.other) v.operands;
        passed = all_from (λ (s : Successor). All (DF.IsHeldValue G) s.args) o.successors (λ y s at. let e = edge y s at in passed_form r.block.number e.0 s e.1);
        result = subst (λ (x : Option TypeTree). IfSome x IsHeld) (sym v.result) (if_own IsHeld r.inst.type (held_result_own r.inst.type (result_held_at g h.held r.source r.block r.place r.inst r.at r.there)));
        short = kind_short r.inst.instruction o.kind o.result v.kind;
      }

  op_form : (j y : ℕ) (c : DialectBlock) (o : DialectOp) → slice_get cs j ≡ Some c → slice_get c.ops y ≡ Some o → DF.IsFormOp G o
  op_form j y c o at here = elim (op_cases k cs h j y c o at here) [
    | inl a ↦ constant_form a.constant o (h.consts y a.constant a.here) a.makes
    | inr r ↦ row_form j c o r
  ]

  -- ---- blocks

  phi_held : (i : ℕ) (b : L.Block) (y : ℕ) (p : Placed) → slice_get g.blocks i ≡ Some b → slice_get (phis_of b) y ≡ Some p → IsHeld p.type
  phi_held i b y p at here =
      let r = filter_from LF.is_phi b.instructions y p here in
      let es = phi_is p r.2 in
      held_result_own p.type (result_held_at g h.held i b r.0 p at r.1) (first_class_own p.type (phi_form g h.form i r.0 b p es.0 at r.1 es.1).2)

  args_form : (j i : ℕ) (b : L.Block) (c : DialectBlock) → slice_get g.blocks i ≡ Some b → IsConverted k (take j cs) j b c → All IsHeld c.args
  args_form zero i b c at v = subst (All IsHeld) (sym (v.head.args ∙ ap params_of h.form.type)) (takes_held g h.form h.held)
  args_form (suc j) i b c at v = subst (All IsHeld) (sym v.head.args) (All-map IsHeld (λ (p : Placed). p.type) (phis_of b) (all_from (λ (p : Placed). IsHeld p.type) (phis_of b) (λ y p here. phi_held i b y p at here)))

  pub constant_here : (i : ℕ) (o : DialectOp) → slice_get k.hoisted i ≡ Some o → (DF.is_constant o ≡ true) × (DF.is_terminator o ≡ false) × (o.successors ≡ []) × (o.operands ≡ [])
  constant_here i o at =
      let c = other_there k.hoisted k.constants i o (sym (matched_length IsConstantOp k.constants k.hoisted h.made)) at in
      constant_tests c.0 o (matched_at IsConstantOp k.constants k.hoisted h.made i c.0 o c.1 at)

  row_other : (b : L.Block) (rest : List DialectOp) → Matched (IsRow k b) (rest_of b) rest → (i : ℕ) (o : DialectOp) → slice_get rest i ≡ Some o → DF.is_constant o ≡ false
  row_other b rest m i o at =
      let p = other_there rest (rest_of b) i o (sym (matched_length (IsRow k b) (rest_of b) rest m)) at in
      (kind_tests p.0.instruction o.kind (matched_at (IsRow k b) (rest_of b) rest m i p.0 o p.1 at).converted.kind).0

  front_ends : (j : ℕ) → All (λ (o : DialectOp). DF.is_terminator o ≡ false) (front_for j k.hoisted)
  front_ends zero = all_from (λ (o : DialectOp). DF.is_terminator o ≡ false) k.hoisted (λ i o at. (constant_here i o at).1)
  front_ends (suc j) = All-nil _

  ends_form : (j : ℕ) (b : L.Block) (c : DialectBlock) → IsConverted k (take j cs) j b c → LF.IsFormBlock g b → DF.EndsInOnly c.ops
  ends_form j b c v f =
      let e = ends_filter LF.is_last (λ (p : Placed). not (LF.is_phi p)) b.instructions ends_kept (ends_from LF.is_last b.instructions f.ends) in
      let r = ends_as LF.is_last DF.is_terminator (IsRow k b) (rest_of b) v.rest (λ p o row. (kind_tests p.instruction o.kind row.converted.kind).1) v.rows e in
      record {
        front = front_for j k.hoisted ++ r.front;
        last = r.last;
        are = v.ops ∙ ap (λ (os : List DialectOp). front_for j k.hoisted ++ os) r.are ∙ sym (append_assoc (front_for j k.hoisted) r.front (r.last ∷ []));
        ends = r.ends;
        before = All-append (λ (o : DialectOp). DF.is_terminator o ≡ false) (front_for j k.hoisted) r.front (front_ends j) r.before;
      }

  pub block_is : (j : ℕ) (c : DialectBlock) → slice_get cs j ≡ Some c → DF.IsFormBlock G c
  block_is j c at =
      let b = source_at n k cs h j c at in
      let s = ordered_at k.frame.order g.blocks h.order j b.0 b.1 in
      let f = block_form g h.form s.place b.0 s.at in
      record {
        args = args_form j s.place b.0 c s.at b.2;
        ops = all_from (DF.IsFormOp G) c.ops (λ y o here. op_form j y c o at here);
        ends = ends_form j b.0 c b.2 f;
      }

  -- ---- the function

  first_of : {X : Type 0} (xs : List X) (x : X) → slice_get xs 0 ≡ Some x → (more : List X) × (xs ≡ x ∷ more)
  first_of [] x at = cc
  first_of (y ∷ xs) x at = (xs, ap (λ z. z ∷ xs) (same_Some y x at))

  rest_other : (j y : ℕ) (c : DialectBlock) (o : DialectOp) → slice_get cs (suc j) ≡ Some c → slice_get c.ops y ≡ Some o → DF.is_constant o ≡ false
  rest_other j y c o at here = elim (op_cases k cs h (suc j) y c o at here) [
    | inl a ↦ absurd (let no = a.first in omega (arith, no))
    | inr r ↦ (kind_tests r.inst.instruction o.kind r.row.converted.kind).0
  ]

  others_of : (j : ℕ) (c : DialectBlock) → slice_get cs (suc j) ≡ Some c → All (λ (o : DialectOp). DF.is_constant o ≡ false) c.ops
  others_of j c at = all_from (λ (o : DialectOp). DF.is_constant o ≡ false) c.ops (λ y o here. rest_other j y c o at here)

  constants_first : DF.HasConstantsFirst (entry n k cs h).0.ops
  constants_first =
      let e = entry n k cs h in
      record {
        hoisted = k.hoisted;
        rest = e.2.rest;
        are = e.2.ops;
        constants = all_from (λ (o : DialectOp). DF.is_constant o ≡ true) k.hoisted (λ i o at. (constant_here i o at).0);
        others = all_from (λ (o : DialectOp). DF.is_constant o ≡ false) e.2.rest (row_other (first_source n k cs h).0 e.2.rest e.2.rows);
      }

  pub constants_in_entry : DF.HasConstantsInEntry G
  constants_in_entry = let e = entry n k cs h in record { entry = e.0; here = e.1; first = constants_first; others = others_of }

  llvm_name : llvm_name_of G ≡ g.name
  llvm_name = kept_back g.name n.name

  pub form_of : ¬ (n.name ≡ []) → DF.IsFormFunc G
  form_of some =
      let e = entry n k cs h in
      let body = first_of cs e.0 e.1 in
      record {
        named = some;
        llvm_named = ap is_own_name llvm_name ∙ good_own g.name h.form.name h.form.own;
        good = ap is_good_name llvm_name ∙ h.form.name;
        result = h.form.result;
        types = h.form.types;
        type = h.form.type;
        returns = returns_held g h.form h.held;
        takes = takes_held g h.form h.held;
        shallow = h.form.shallow;
        linkage = refl;
        entry = e.0;
        more = body.0;
        body = body.1;
        params = e.2.head.args ∙ ap params_of h.form.type;
        blocks = all_from (DF.IsFormBlock G) cs block_is;
        block_numbers = λ i j a b at_a at_b same. target_apart n k cs h i j a b at_a at_b same;
        numbers = h.fresh;
      }
