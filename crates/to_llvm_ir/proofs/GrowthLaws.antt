-- What a module of LLVM keeps as it grows.
use Rattle.std.proofs.Common.{◌≡◌, ◌<◌, ℕ, Bool, true, false, nat_eq, eqb-true, eq-eqb, List, [], ◌∷◌, ◌++◌, Option, Some, None, All, length, map, slice_get, refl, sym, ap, ◌∙◌, arith, append_assoc, length-append}
use Rattle.std.specs.Option.{option_map, option_map_or}
use Rattle.std.proofs.lemmas.List.{append-nil}
use Rattle.std.proofs.lemmas.List.Elements.{All-weaker, All-head, All-tail}
use Rattle.std.proofs.lemmas.Option.{slice_get_within}
use Rattle.llvm_core.proofs.GrowLemmas.{param_at_kept}
use Rattle.support.proofs.InternedLaws.{interned_more}
use Rattle.support.specs.Changes.{with_change}
use Rattle.llvm_core.specs.declared.numbers.LLVMType.{LLVMType}
use Rattle.llvm_core.specs.declared.types.LLVMTypeKind.{LLVMTypeKind}
use Rattle.llvm_core.specs.declared.types.LLVMTypeKind.TheVariants as T
use Rattle.llvm_core.specs.declared.consts.LLVMConstKind.{LLVMConstKind}
use Rattle.llvm_core.specs.declared.code.LLVMValue.{LLVMValue}
use Rattle.llvm_core.specs.declared.code.LLVMValue.TheVariants as V
use Rattle.llvm_core.specs.declared.numbers.LLVMInstRef.{LLVMInstRef}
use Rattle.llvm_core.specs.declared.code.PhiEntry.{PhiEntry}
use Rattle.llvm_core.specs.declared.code.LLVMInst.{LLVMInst}
use Rattle.llvm_core.specs.declared.code.LLVMInst.TheVariants as I
use Rattle.llvm_core.specs.Code as code
use Rattle.llvm_core.specs.Code.{code_of, with_code, with_changed_inst}
use Rattle.llvm_core.proofs.ChangeLemmas.{slice_get-changed, slice_get-unchanged}
use Rattle.llvm_core.specs.declared.code.FunctionData.{FunctionData}
use Rattle.llvm_core.specs.declared.code.InstData.{InstData}
use Rattle.support.specs.Interned.{Interned}
use Rattle.llvm_core.specs.Module.{Module}
use Rattle.llvm_core.specs.Sound.{IsModule}
use Rattle.llvm_core.specs.Parts.{IsValue, IsPhi, is_phi, const_type, param_types, type_params, value_type}
use Rattle.llvm_core.specs.Data as L
use Rattle.llvm_core.specs.Data.{TypeTree, IntType, type_at, type_tree, const_at, trees_of, operand_of, type_trees, const_trees}
use Rattle.support.proofs.ListLaws.{slice_get-kept, item_there}
use Rattle.llvm_core.proofs.TreeLemmas.{type_at-kept, const_trees-retyped, const_at-kept}
use Rattle.llvm_core.proofs.DataLemmas.{type_tree_of}
use Rattle.llvm_core.proofs.WithinLemmas.{const_types_within, value_type_within}
use Rattle.to_llvm_ir.specs.Growth.{Grows, KeepsInst, IsTypeOf, AreTypesOf, HasType}

-- ---- growth

pub keeps_same : (x : InstData) → KeepsInst x x
keeps_same x = record { type = refl; phi = λ e. e }

-- functions and instructions stay
pub grows_by : (old new : Module) (more_types : List LLVMTypeKind) (more_consts : List LLVMConstKind) → new.types ≡ old.types ++ more_types → new.consts ≡ old.consts ++ more_consts → new.functions ≡ old.functions → new.insts ≡ old.insts → Grows old new
grows_by old new more_types more_consts types consts functions insts = record {
  more_types = more_types;
  types = types;
  more_consts = more_consts;
  consts = consts;
  functions = λ f x at. (x, ap (λ (xs : List FunctionData). slice_get xs f) functions ∙ at, refl);
  insts = λ i x at. (x, ap (λ (xs : List InstData). slice_get xs i) insts ∙ at, keeps_same x);
}

pub grows_refl : (m : Module) → Grows m m
grows_refl m = grows_by m m [] [] (sym (append-nil m.types)) (sym (append-nil m.consts)) refl refl

appended : {X : Type 0} (xs ys zs us vs : List X) → ys ≡ xs ++ us → zs ≡ ys ++ vs → zs ≡ xs ++ (us ++ vs)
appended xs ys zs us vs e f = f ∙ ap (λ (ws : List _). ws ++ vs) e ∙ append_assoc xs us vs

pub grows_then : (a b c : Module) → Grows a b → Grows b c → Grows a c
grows_then a b c g h = record {
  more_types = g.more_types ++ h.more_types;
  types = appended a.types b.types c.types g.more_types h.more_types g.types h.types;
  more_consts = g.more_consts ++ h.more_consts;
  consts = appended a.consts b.consts c.consts g.more_consts h.more_consts g.consts h.consts;
  functions = λ f x at. let p = g.functions f x at in let q = h.functions f p.0 p.1 in (q.0, q.1, q.2 ∙ p.2);
  insts = λ i x at. let p = g.insts i x at in let q = h.insts i p.0 p.1 in (q.0, q.1, record { type = q.2.type ∙ p.2.type; phi = λ e. q.2.phi (p.2.phi e) });
}

-- a type more, or a constant
pub grows_type : (old new : Module) (k : LLVMTypeKind) (n : ℕ) → Interned old.types new.types k n → new ≡ record old { types = new.types } → Grows old new
grows_type old new k n h rest =
    let m = interned_more old.types new.types k n h in
    grows_by old new m.0 [] m.1 (ap (λ (x : Module). x.consts) rest ∙ sym (append-nil old.consts)) (ap (λ (x : Module). x.functions) rest) (ap (λ (x : Module). x.insts) rest)

pub grows_const : (old new : Module) (k : LLVMConstKind) (n : ℕ) → Interned old.consts new.consts k n → new ≡ record old { consts = new.consts } → Grows old new
grows_const old new k n h rest =
    let m = interned_more old.consts new.consts k n h in
    grows_by old new [] m.0 (ap (λ (x : Module). x.types) rest ∙ sym (append-nil old.types)) m.1 (ap (λ (x : Module). x.functions) rest) (ap (λ (x : Module). x.insts) rest)

-- ---- types by number

pub type_kept : (old new : Module) (t : LLVMType) (tree : TypeTree) → Grows old new → IsTypeOf old t tree → IsTypeOf new t tree
type_kept old new t tree g h = (
  rw g.types (omega (arith, h.0, length-append old.types g.more_types)),
  ap (λ (ks : List LLVMTypeKind). type_at (type_trees ks) t) g.types ∙ type_at-kept old.types g.more_types t h.0 ∙ h.1,
)

pub is_of_kind : (m : Module) (t : LLVMType) (k : LLVMTypeKind) → IsModule m → slice_get m.types t.0 ≡ Some k → IsTypeOf m t (type_tree (trees_of m).types k)
is_of_kind m t k s at = (slice_get_within m.types t.0 k at, type_tree_of m t k s at)

-- the kind with a tree that is known
kind_of_int : (us : List TypeTree) (w : ℕ) (k : LLVMTypeKind) → type_tree us k ≡ IntType w → k ≡ T.Int w
kind_of_int us w (T.Int v) h = let same : v ≡ w = cc in ap T.Int same
kind_of_int us w k h = cc

pub int_at : (m : Module) (t : LLVMType) (w : ℕ) → IsModule m → IsTypeOf m t (IntType w) → slice_get m.types t.0 ≡ Some (T.Int w)
int_at m t w s h = let k = item_there m.types t.0 h.0 in k.1 ∙ ap Some (kind_of_int (trees_of m).types w k.0 (sym (type_tree_of m t k.0 s k.1) ∙ h.1))

-- ---- lists of types by number

pub types_kept : (old new : Module) (ts : List LLVMType) (trees : List TypeTree) → Grows old new → AreTypesOf old ts trees → AreTypesOf new ts trees
types_kept old new ts trees g h = (
  All-weaker (λ (t : LLVMType). t.0 < length old.types) (λ (t : LLVMType). t.0 < length new.types) (λ t lt. (type_kept old new t (type_at (trees_of old).types t) g (lt, refl)).0) ts h.0,
  same ts h.0 ∙ h.1,
)
  where
    same : (us : List LLVMType) → All (λ (t : LLVMType). t.0 < length old.types) us → map (type_at (trees_of new).types) us ≡ map (type_at (trees_of old).types) us
    same [] all = refl
    same (u ∷ us) all =
        let e = (type_kept old new u (type_at (trees_of old).types u) g (All-head (λ (t : LLVMType). t.0 < length old.types) u us all, refl)).1 in
        let f = same us (All-tail (λ (t : LLVMType). t.0 < length old.types) u us all) in
        cc

-- ---- values

-- the type of a value stays
pub value_type_kept : (old new : Module) (v : LLVMValue) (t : LLVMType) → Grows old new → value_type old v ≡ Some t → value_type new v ≡ Some t
value_type_kept old new (V.Const c) t g h = by (slice_get old.consts c.0) refl h
  where
    by : (o : Option LLVMConstKind) → slice_get old.consts c.0 ≡ o → option_map const_type o ≡ Some t → option_map const_type (slice_get new.consts c.0) ≡ Some t
    by None e k = cc
    by (Some kind) e k = ap (λ (cs : List LLVMConstKind). option_map const_type (slice_get cs c.0)) g.consts ∙ ap (option_map const_type) (slice_get-kept old.consts g.more_consts c.0 kind e) ∙ k
value_type_kept old new (V.Inst i) t g h = by (slice_get old.insts i.0) refl h
  where
    by : (o : Option InstData) → slice_get old.insts i.0 ≡ o → option_map (λ (x : InstData). x.ty) o ≡ Some t → option_map (λ (x : InstData). x.ty) (slice_get new.insts i.0) ≡ Some t
    by None e k = cc
    by (Some x) e k = let y = g.insts i.0 x e in ap (option_map (λ (x : InstData). x.ty)) y.1 ∙ ap Some y.2.type ∙ k
value_type_kept old new (V.Param f place) t g h = by (slice_get old.functions f.0) refl h
  where
    by : (o : Option FunctionData) → slice_get old.functions f.0 ≡ o → slice_get (option_map_or (param_types old) o []) place ≡ Some t → slice_get (option_map_or (param_types new) (slice_get new.functions f.0) []) place ≡ Some t
    by None e k = cc
    by (Some x) e k =
        let y = g.functions f.0 x e in
        ap (λ (o : Option FunctionData). slice_get (option_map_or (param_types new) o []) place) y.1
        ∙ ap (λ (ty : LLVMType). slice_get (type_params new.types ty) place) y.2
        ∙ ap (λ (ks : List LLVMTypeKind). slice_get (type_params ks x.ty) place) g.types
        ∙ param_at_kept old.types g.more_types x.ty place t k

-- a value that has a type is there
pub value_there : (m : Module) (v : LLVMValue) (t : LLVMType) → IsModule m → value_type m v ≡ Some t → IsValue m v
value_there m (V.Const c) t s h = by (slice_get m.consts c.0) refl h
  where
    by : (o : Option LLVMConstKind) → slice_get m.consts c.0 ≡ o → option_map const_type o ≡ Some t → c.0 < length m.consts
    by None e k = cc
    by (Some x) e k = slice_get_within m.consts c.0 x e
value_there m (V.Inst i) t s h = by (slice_get m.insts i.0) refl h
  where
    by : (o : Option InstData) → slice_get m.insts i.0 ≡ o → option_map (λ (x : InstData). x.ty) o ≡ Some t → i.0 < length m.insts
    by None e k = cc
    by (Some x) e k = slice_get_within m.insts i.0 x e
value_there m (V.Param f place) t s h = by (slice_get m.functions f.0) refl h
  where
    by : (o : Option FunctionData) → slice_get m.functions f.0 ≡ o → slice_get (option_map_or (param_types m) o []) place ≡ Some t → place < length (option_map_or (λ (x : FunctionData). x.params) (slice_get m.functions f.0) [])
    by None e k = cc
    by (Some x) e k =
        let within = slice_get_within (type_params m.types x.ty) place t k in
        let count : length x.params ≡ length (type_params m.types x.ty) = (s.functions f.0 x e).params in
        rw e (omega (arith, within, count))

pub has_type_kept : (old new : Module) (v : LLVMValue) (tree : TypeTree) → IsModule old → Grows old new → HasType old v tree → HasType new v tree
has_type_kept old new v tree s g h =
    (h.0, value_type_kept old new v h.0 g h.1, (type_kept old new h.0 tree g (value_type_within old v h.0 s (value_there old v h.0 s h.1) h.1, h.2)).1)

-- what a value names stays
pub operand_kept : (old new : Module) (v : LLVMValue) (t : LLVMType) → IsModule old → Grows old new → value_type old v ≡ Some t → operand_of (trees_of new) v ≡ operand_of (trees_of old) v
operand_kept old new (V.Const c) t s g h =
    let within : c.0 < length old.consts = value_there old (V.Const c) t s h in
    ap L.Constant
    (ap (λ (ks : List LLVMTypeKind). const_at (const_trees (type_trees ks) new.consts) c) g.types
    ∙ ap (λ (cs : List LLVMConstKind). const_at (const_trees (type_trees (old.types ++ g.more_types)) cs) c) g.consts
    ∙ const_at-kept (type_trees (old.types ++ g.more_types)) old.consts g.more_consts c.0 within
    ∙ ap (λ (cs : List L.ConstTree). const_at cs c) (const_trees-retyped old.types g.more_types old.consts (const_types_within old s)))
operand_kept old new (V.Param f place) t s g h = refl
operand_kept old new (V.Inst i) t s g h = refl

-- a phi stays one
pub phi_kept : (old new : Module) (i : LLVMInstRef) → Grows old new → IsPhi old.insts i → IsPhi new.insts i
phi_kept old new i g h = let y = g.insts i.0 h.0 h.1 in (y.0, y.1, y.2.phi h.2)

-- ---- changes of the code

-- an instruction more
pub grows_inst : (old new : Module) (more_types : List LLVMTypeKind) (x : InstData) → new.types ≡ old.types ++ more_types → new.consts ≡ old.consts → new.functions ≡ old.functions → new.insts ≡ old.insts ++ x ∷ [] → Grows old new
grows_inst old new more_types x types consts functions insts = record {
  more_types = more_types;
  types = types;
  more_consts = [];
  consts = consts ∙ sym (append-nil old.consts);
  functions = λ f y at. (y, ap (λ (xs : List FunctionData). slice_get xs f) functions ∙ at, refl);
  insts = λ i y at. (y, ap (λ (xs : List InstData). slice_get xs i) insts ∙ slice_get-kept old.insts (x ∷ []) i y at, keeps_same y);
}

changed_keeps : (e : PhiEntry) (inst : LLVMInst) → is_phi inst ≡ true → is_phi (code.with_entry inst e) ≡ true
changed_keeps e (I.Phi type entries) h = refl
changed_keeps e (I.Row r) h = cc

-- an entry more in a phi
pub grows_entry : (old new : Module) (phi : LLVMInstRef) (e : PhiEntry) → new ≡ with_code old (with_changed_inst (code_of old) phi (λ i. code.with_entry i e)) → Grows old new
grows_entry old new phi e is = record {
  more_types = [];
  types = ap (λ (m : Module). m.types) is ∙ sym (append-nil old.types);
  more_consts = [];
  consts = ap (λ (m : Module). m.consts) is ∙ sym (append-nil old.consts);
  functions = λ f x at. (x, ap (λ (m : Module). slice_get m.functions f) is ∙ at, refl);
  insts = λ i x at. by i x at (nat_eq i phi.0) refl;
}
  where
    by : (i : ℕ) (x : InstData) → slice_get old.insts i ≡ Some x → (b : Bool) → nat_eq i phi.0 ≡ b → (y : InstData) × (slice_get new.insts i ≡ Some y) × KeepsInst x y
    by i x at true same =
        let here : i ≡ phi.0 = eqb-true i phi.0 same in (
          record x { inst = code.with_entry x.inst e },
          ap (λ (m : Module). slice_get m.insts i) is ∙ ap (slice_get (with_change (λ (x : InstData). record x { inst = code.with_entry x.inst e }) phi.0 old.insts)) here
              ∙ slice_get-changed (λ (x : InstData). record x { inst = code.with_entry x.inst e }) phi.0 old.insts ∙ ap (λ (k : ℕ). option_map (λ (x : InstData). record x { inst = code.with_entry x.inst e }) (slice_get old.insts k)) (sym here)
              ∙ ap (option_map (λ (x : InstData). record x { inst = code.with_entry x.inst e })) at,
          record { type = refl; phi = changed_keeps e x.inst },
        )
    by i x at false differs = (
      x,
      ap (λ (m : Module). slice_get m.insts i) is ∙ slice_get-unchanged (λ (x : InstData). record x { inst = code.with_entry x.inst e }) phi.0 i old.insts (λ here. let k : true ≡ false = sym (eq-eqb i phi.0 here) ∙ differs in cc) ∙ at,
      keeps_same x,
    )
