-- What is said stays as types and constants are added.
use Rattle.std.proofs.Common.{◌≡◌, ◌<◌, ◌≤◌, ◌+◌, ℕ, suc, List, [], ◌∷◌, ◌++◌, Option, Some, None, map, length, slice_get, length-append, refl, ap, sym, ◌∙◌, All, arith}
use Rattle.std.specs.Prelude.{IfSome, slice_index_or}
use Rattle.std.specs.Option.{option_map}
use Rattle.std.proofs.lemmas.List.Elements.{All-head, All-tail, All-weaker}
use Rattle.llvm_core.specs.declared.numbers.LLVMType.{LLVMType}
use Rattle.llvm_core.specs.declared.numbers.LLVMConst.{LLVMConst}
use Rattle.llvm_core.specs.declared.types.LLVMTypeKind.{LLVMTypeKind}
use Rattle.llvm_core.specs.declared.consts.LLVMConstKind.{LLVMConstKind}
use Rattle.llvm_core.specs.Module.{Module}
use Rattle.llvm_core.specs.Sound.{IsModule}
use Rattle.llvm_core.specs.Data.{ConstTree, Struct, structs_of, trees_after, trees_of, type_trees, const_trees, type_at, const_at}
use Rattle.llvm_core.proofs.TreeLemmas.{type_at-kept, const_at-kept, const_trees-retyped}
use Rattle.llvm_core.proofs.WithinLemmas.{const_types_within}
use Rattle.ll_lines.specs.declared.lines.SaidConst.{SaidConst}
use Rattle.ll_lines.specs.declared.lines.SaidConst.TheVariants as Cs
use Rattle.ll_lines.specs.declared.lines.ConstLine.{ConstLine}
use Rattle.ll_lines.specs.declared.lines.ConstLine.TheVariants as Ls
use Rattle.ll_lines.specs.declared.lines.Said.{Said}
use Rattle.ll_lines.specs.declared.lines.Said.TheVariants as S
use Rattle.ll_lines.specs.declared.lines.Typed.{Typed}
use Rattle.ll_lines.specs.declared.lines.Incoming.{Incoming}
use Rattle.ll_lines.specs.declared.lines.Param.{Param}
use Rattle.ll_lines.specs.declared.lines.Inst.{Inst}
use Rattle.ll_lines.specs.declared.lines.Inst.TheVariants as I
use Rattle.ll_lines.specs.declared.lines.Part.{Part}
use Rattle.ll_lines.specs.declared.lines.Part.TheVariants as P
use Rattle.ll_lines.specs.declared.lines.Function.{Function}
use Rattle.ll_lines.specs.Lines as L
use Rattle.ll_lines.specs.Views.{said_view, typed_view, incoming_view, inst_view, part_view, param_view, function_view, text_of, no_const, const_view, const_line_view, table_view, IsTypeIn, IsConstIn, IsConstLineIn, IsTableIn, IsSaidIn, IsTypedIn, IsInstIn, IsPartIn, IsFunctionIn}
use Rattle.ll_bodies.specs.Constants.{const_meant}
use Rattle.ll_bodies.specs.TableViews.{AreMeant, meant_at}
use Rattle.ll_bodies.specs.AddingViews.{Keeps, function_over}

pub map_same : {X Y : Type 0} (P : X → Type 0) (f g : X → Y) → ((x : X) → P x → f x ≡ g x) → (xs : List X) → All P xs → map f xs ≡ map g xs
map_same P f g same [] h = refl
map_same P f g same (x ∷ xs) h =
    let a = same x (All-head P x xs h) in
    let b = map_same P f g same xs (All-tail P x xs h) in
    cc

module _ {K T : Type 0} (f g : List T → K → T) where
  -- what each item says the same of, all do
  after_same : (done : List T) (ks : List K) → ((i : ℕ) (k : K) → slice_get ks i ≡ Some k → (ts : List T) → f ts k ≡ g ts k) → trees_after f done ks ≡ trees_after g done ks
  after_same done [] h = refl
  after_same done (k ∷ ks) h = ap (λ (t : T). trees_after f (done ++ t ∷ []) ks) (h 0 k refl done) ∙ after_same (done ++ g done k ∷ []) ks (λ i l at. h (suc i) l at)

module _ (bytes : List ℕ) (m n : Module) (g : Keeps m n) (s : IsModule m) where
  type_same : (t : LLVMType) → IsTypeIn m t → type_at (trees_of n).types t ≡ type_at (trees_of m).types t
  type_same t h = ap (λ (ts : List LLVMTypeKind). type_at (type_trees ts) t) g.types ∙ type_at-kept m.types g.more t h

  pub const_same : (c : LLVMConst) → c.0 < length m.consts → const_at (trees_of n).consts c ≡ const_at (trees_of m).consts c
  const_same c h =
      ap (λ (cs : List LLVMConstKind). const_at (const_trees (type_trees n.types) cs) c) g.consts
      ∙ const_at-kept (type_trees n.types) m.consts g.more_consts c.0 h
      ∙ ap (λ (ts : List LLVMTypeKind). const_at (const_trees (type_trees ts) m.consts) c) g.types
      ∙ ap (λ (xs : List ConstTree). const_at xs c) (const_trees-retyped m.types g.more m.consts (const_types_within m s))

  module _ (table : List L.SaidConst) (made : ℕ) where
    written_const_same : (c : SaidConst) → IsConstIn m made c → const_view bytes (trees_of n) table c ≡ const_view bytes (trees_of m) table c
    written_const_same (Cs.Plain c) h = ap L.Plain (const_same c h)
    written_const_same (Cs.Made p) h = refl

    line_same : (l : ConstLine) → IsConstLineIn m made l → const_line_view bytes (trees_of n) table l ≡ const_line_view bytes (trees_of m) table l
    line_same (Ls.Chars ty token) h = rw (type_same ty h) refl
    line_same (Ls.Listed ty brackets cs) h = rw (type_same ty h.0, map_same (IsConstIn m made) (const_view bytes (trees_of n) table) (const_view bytes (trees_of m) table) written_const_same cs h.1) refl
    line_same (Ls.Splat ty c) h = rw (type_same ty h.0, written_const_same c h.1) refl

    said_same : (x : Said) → IsSaidIn m made x → said_view bytes (trees_of n) table x ≡ said_view bytes (trees_of m) table x
    said_same (S.Local k) h = refl
    said_same (S.Const c) h = ap L.Const (written_const_same c h)

    typed_same : (x : Typed) → IsTypedIn m made x → typed_view bytes (trees_of n) table x ≡ typed_view bytes (trees_of m) table x
    typed_same x h = rw (type_same x.ty h.0, said_same x.said h.1) refl

    incoming_same : (e : Incoming) → IsSaidIn m made e.said → incoming_view bytes (trees_of n) table e ≡ incoming_view bytes (trees_of m) table e
    incoming_same e h = rw (said_same e.said h) refl

  param_same : (p : Param) → IsTypeIn m p.ty → param_view bytes (trees_of n) p ≡ param_view bytes (trees_of m) p
  param_same p h = rw (type_same p.ty h) refl

  written_same : (o : Option LLVMType) → IfSome o (IsTypeIn m) → option_map (type_at (trees_of n).types) o ≡ option_map (type_at (trees_of m).types) o
  written_same None h = refl
  written_same (Some t) h = ap Some (type_same t h)

  module _ (table : List L.SaidConst) (made : ℕ) where
    inst_same : (i : Inst) → IsInstIn m made i → inst_view bytes (trees_of n) table i ≡ inst_view bytes (trees_of m) table i
    inst_same (I.Phi ty es) h = rw (type_same ty h.0, map_same (λ (e : Incoming). IsSaidIn m made e.said) (incoming_view bytes (trees_of n) table) (incoming_view bytes (trees_of m) table) (incoming_same table made) es h.1) refl
    inst_same (I.Row r) h = rw (written_same r.written h.0, map_same (IsTypedIn m made) (typed_view bytes (trees_of n) table) (typed_view bytes (trees_of m) table) (typed_same table made) r.operands h.1) refl

    part_same : (p : Part) → IsPartIn m made p → part_view bytes (trees_of n) table p ≡ part_view bytes (trees_of m) table p
    part_same (P.Label name) h = refl
    part_same (P.Does l) h = ap (λ (i : L.Inst). L.Does (record { result = option_map (text_of bytes) l.result; inst = i })) (inst_same l.inst h)

    lines_same : (f : Function) → IsFunctionIn m made f → function_view bytes (trees_of n) table f ≡ function_view bytes (trees_of m) table f
    lines_same f h =
        let params = map_same (λ (p : Param). IsTypeIn m p.ty) (param_view bytes (trees_of n)) (param_view bytes (trees_of m)) param_same f.params.items h.params in
        let parts = map_same (IsPartIn m made) (part_view bytes (trees_of n) table) (part_view bytes (trees_of m) table) part_same f.body.items h.body in
        rw (type_same f.result h.result, params, parts) refl

  module _ (lines : List ConstLine) (inside : IsTableIn m lines) where
    pub table_same : table_view bytes (trees_of n) lines ≡ table_view bytes (trees_of m) lines
    table_same = after_same (const_line_view bytes (trees_of n)) (const_line_view bytes (trees_of m)) [] lines (λ i l at table. line_same table i l (inside i l at))

    -- a function of lines is the same one
    pub function_same : (made : ℕ) (f : Function) → IsFunctionIn m made f → function_over bytes lines n f ≡ function_over bytes lines m f
    function_same made f h = ap (λ (table : List L.SaidConst). function_view bytes (trees_of n) table f) table_same ∙ lines_same (table_view bytes (trees_of m) lines) made f h

    -- what is meant at a place of the table is the same
    pub place_same : (i : ℕ) → meant_at bytes n lines i ≡ meant_at bytes m lines i
    place_same i =
        ap (λ (table : List L.SaidConst). const_meant (structs_of n) (slice_index_or table i no_const)) table_same
        ∙ ap (λ (ss : List Struct). const_meant ss (slice_index_or (table_view bytes (trees_of m) lines) i no_const)) g.structs

    -- the numbers of the table's constants mean the same
    pub meant_kept : (k : ℕ) (numbers : List (Option LLVMConst)) → AreMeant bytes m lines k numbers → AreMeant bytes n lines k numbers
    meant_kept k numbers a = record {
      count = a.count;
      there = λ i. more (slice_index_or numbers i None) (a.there i);
      at = λ i h.
          as_before (slice_index_or numbers i None) (a.there i) ∙ a.at i h ∙ sym (place_same i);
    }
      where
        more : (o : Option LLVMConst) → IfSome o (λ (c : LLVMConst). c.0 < length m.consts) → IfSome o (λ (c : LLVMConst). c.0 < length n.consts)
        more None h = tt
        more (Some c) h =
            let size : length n.consts ≡ length m.consts + length g.more_consts = ap (λ (ks : List LLVMConstKind). length ks) g.consts ∙ length-append m.consts g.more_consts in
            omega (arith, h, size)

        as_before : (o : Option LLVMConst) → IfSome o (λ (c : LLVMConst). c.0 < length m.consts) → option_map (const_at (trees_of n).consts) o ≡ option_map (const_at (trees_of m).consts) o
        as_before None h = refl
        as_before (Some c) h = ap Some (const_same c h)

-- ---- what is there stays

module _ (m n : Module) (g : Keeps m n) where
  pub types_more : length m.types ≤ length n.types
  types_more = let size : length n.types ≡ length m.types + length g.more = ap (λ (ks : List LLVMTypeKind). length ks) g.types ∙ length-append m.types g.more in omega (arith, size)

  pub consts_more : length m.consts ≤ length n.consts
  consts_more = let size : length n.consts ≡ length m.consts + length g.more_consts = ap (λ (ks : List LLVMConstKind). length ks) g.consts ∙ length-append m.consts g.more_consts in omega (arith, size)

-- in a module that has no fewer types and constants
module _ (m n : Module) (types : length m.types ≤ length n.types) (consts : length m.consts ≤ length n.consts) where
  type_in : (t : LLVMType) → IsTypeIn m t → IsTypeIn n t
  type_in t h = omega (arith, h, types)

  optional_in : (o : Option LLVMType) → IfSome o (IsTypeIn m) → IfSome o (IsTypeIn n)
  optional_in None h = tt
  optional_in (Some t) h = type_in t h

  const_in : (made : ℕ) (c : SaidConst) → IsConstIn m made c → IsConstIn n made c
  const_in made (Cs.Plain c) h = omega (arith, h, consts)
  const_in made (Cs.Made p) h = h

  line_in : (made : ℕ) (l : ConstLine) → IsConstLineIn m made l → IsConstLineIn n made l
  line_in made (Ls.Chars ty token) h = type_in ty h
  line_in made (Ls.Listed ty brackets cs) h = (type_in ty h.0, All-weaker (IsConstIn m made) (IsConstIn n made) (const_in made) cs h.1)
  line_in made (Ls.Splat ty c) h = (type_in ty h.0, const_in made c h.1)

  pub table_in : (lines : List ConstLine) → IsTableIn m lines → IsTableIn n lines
  table_in lines h = λ i l at. line_in i l (h i l at)

  module _ (made : ℕ) where
    said_in : (x : Said) → IsSaidIn m made x → IsSaidIn n made x
    said_in (S.Local k) h = tt
    said_in (S.Const c) h = const_in made c h

    typed_in : (x : Typed) → IsTypedIn m made x → IsTypedIn n made x
    typed_in x h = (type_in x.ty h.0, said_in x.said h.1)

    inst_in : (i : Inst) → IsInstIn m made i → IsInstIn n made i
    inst_in (I.Phi ty es) h = (type_in ty h.0, All-weaker (λ (e : Incoming). IsSaidIn m made e.said) (λ (e : Incoming). IsSaidIn n made e.said) (λ e. said_in e.said) es h.1)
    inst_in (I.Row r) h = (optional_in r.written h.0, All-weaker (IsTypedIn m made) (IsTypedIn n made) typed_in r.operands h.1)

    part_in : (p : Part) → IsPartIn m made p → IsPartIn n made p
    part_in (P.Label name) h = tt
    part_in (P.Does l) h = inst_in l.inst h

    pub function_in : (f : Function) → IsFunctionIn m made f → IsFunctionIn n made f
    function_in f h = record {
      result = type_in f.result h.result;
      params = All-weaker (λ (p : Param). IsTypeIn m p.ty) (λ (p : Param). IsTypeIn n p.ty) (λ p. type_in p.ty) f.params.items h.params;
      body = All-weaker (IsPartIn m made) (IsPartIn n made) part_in f.body.items h.body;
    }

module _ (m n : Module) (g : Keeps m n) where
  pub table_kept : (lines : List ConstLine) → IsTableIn m lines → IsTableIn n lines
  table_kept lines h = table_in m n (types_more m n g) (consts_more m n g) lines h

  pub function_kept : (made : ℕ) (f : Function) → IsFunctionIn m made f → IsFunctionIn n made f
  function_kept made f h = function_in m n (types_more m n g) (consts_more m n g) made f h
