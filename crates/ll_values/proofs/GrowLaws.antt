-- What is said stays as types and constants are added.
use Rattle.std.proofs.Common.{◌≡◌, ◌<◌, ◌≤◌, ℕ, List, [], ◌∷◌, Option, Some, None, length, map, slice_get, slice_index_or, refl, ap, ◌∙◌, subst, arith, All}
use Rattle.std.specs.Prelude.{IfSome}
use Rattle.std.specs.Option.{option_map}
use Rattle.std.proofs.lemmas.List.Elements.{All-head, All-tail, All-weaker}
use Rattle.std.proofs.lemmas.Option.{slice_get_within, get_or_from_slice_get}
use Rattle.support.specs.Interned.{Interned}
use Rattle.support.proofs.InternedLaws.{interned_more, interned_longer}
use Rattle.llvm_core.specs.declared.numbers.LLVMType.{LLVMType}
use Rattle.llvm_core.specs.declared.types.LLVMTypeKind.{LLVMTypeKind}
use Rattle.llvm_core.specs.declared.consts.LLVMConstKind.{LLVMConstKind}
use Rattle.llvm_core.specs.Module.{Module}
use Rattle.llvm_core.specs.Parts.{IsTypeOver}
use Rattle.llvm_core.specs.Sound.{IsModule}
use Rattle.llvm_core.specs.Data.{ConstTree, trees_of, type_trees, const_trees, type_at, types_at, const_at, type_tree, data_of}
use Rattle.llvm_core.proofs.TreeLemmas.{same_tree, type_at-kept, const_at-kept, const_trees-retyped}
use Rattle.llvm_core.proofs.WithinLemmas.{const_types_within}
use Rattle.ll_lines.specs.declared.lines.SaidConst.{SaidConst}
use Rattle.ll_lines.specs.declared.lines.SaidConst.TheVariants as C
use Rattle.ll_lines.specs.declared.lines.ConstLine.{ConstLine}
use Rattle.ll_lines.specs.declared.lines.ConstLine.TheVariants as K
use Rattle.ll_lines.specs.declared.lines.Said.{Said}
use Rattle.ll_lines.specs.declared.lines.Said.TheVariants as S
use Rattle.ll_lines.specs.declared.lines.Typed.{Typed}
use Rattle.ll_lines.specs.declared.lines.Incoming.{Incoming}
use Rattle.ll_lines.specs.declared.lines.Param.{Param}
use Rattle.ll_lines.specs.declared.lines.Inst.{Inst}
use Rattle.ll_lines.specs.declared.lines.Inst.TheVariants as I
use Rattle.ll_lines.specs.Lines as L
use Rattle.ll_lines.specs.Views.{no_const, saids_of, const_view, const_line_view, said_view, typed_view, incoming_view, inst_view, param_view, IsTypeIn, IsConstIn, IsConstLineIn, IsSaidIn, IsTypedIn, IsInstIn}
use Rattle.ll_values.specs.Growing.{Interns}

pub none_interned : (m : Module) → IsModule m → Interns m m
none_interned m s = record { type_count = omega arith; const_count = omega arith; types = λ t h. refl; consts = λ c h. refl; same_data = refl; sound = s }

pub interned_twice : (a b c : Module) → Interns a b → Interns b c → Interns a c
interned_twice a b c g h = record {
  type_count = omega (arith, g.type_count, h.type_count);
  const_count = omega (arith, g.const_count, h.const_count);
  types = λ t lt. h.types t (omega (arith, g.type_count, lt)) ∙ g.types t lt;
  consts = λ k lt. h.consts k (omega (arith, g.const_count, lt)) ∙ g.consts k lt;
  same_data = h.same_data ∙ g.same_data;
  sound = h.sound;
}

pub type_interned : (old new : Module) (k : LLVMTypeKind) (n : ℕ) → IsModule old → Interned old.types new.types k n → new ≡ record old { types = new.types } → data_of new ≡ data_of old → IsModule new → Interns old new
type_interned old new k n s h rest is sound =
    let g = interned_more old.types new.types k n h in
    let consts : new.consts ≡ old.consts = ap (λ (m : Module). m.consts) rest in
    record {
      type_count = interned_longer old.types new.types k n h;
      const_count = omega (arith, ap length consts);
      types = λ t lt. ap (λ (ts : List LLVMTypeKind). type_at (type_trees ts) t) g.1 ∙ type_at-kept old.types g.0 t lt;
      consts = λ c lt.
          ap (λ (cs : List LLVMConstKind). const_at (const_trees (type_trees new.types) cs) c) consts
          ∙ ap (λ (ts : List LLVMTypeKind). const_at (const_trees (type_trees ts) old.consts) c) g.1
          ∙ ap (λ (xs : List ConstTree). const_at xs c) (const_trees-retyped old.types g.0 old.consts (const_types_within old s));
      same_data = is;
      sound = sound;
    }

pub const_interned : (old new : Module) (k : LLVMConstKind) (n : ℕ) → Interned old.consts new.consts k n → new ≡ record old { consts = new.consts } → data_of new ≡ data_of old → IsModule new → Interns old new
const_interned old new k n h rest is sound =
    let g = interned_more old.consts new.consts k n h in
    let types : new.types ≡ old.types = ap (λ (m : Module). m.types) rest in
    record {
      type_count = omega (arith, ap length types);
      const_count = interned_longer old.consts new.consts k n h;
      types = λ t lt. ap (λ (ts : List LLVMTypeKind). type_at (type_trees ts) t) types;
      consts = λ c lt.
          ap (λ (ts : List LLVMTypeKind). const_at (const_trees (type_trees ts) new.consts) c) types
          ∙ ap (λ (cs : List LLVMConstKind). const_at (const_trees (type_trees old.types) cs) c) g.1
          ∙ const_at-kept (type_trees old.types) old.consts g.0 c.0 lt;
      same_data = is;
      sound = sound;
    }

-- a kind over earlier types keeps its tree
pub kind_same : (m n : Module) → Interns m n → (k : LLVMTypeKind) → IsTypeOver (length m.types) k → type_tree (trees_of n).types k ≡ type_tree (trees_of m).types k
kind_same m n g k h = same_tree (trees_of n).types (trees_of m).types (length m.types) (λ j lt. g.types (record { 0 = j }) lt) k h

-- so do types that are there
pub trees_same : (m n : Module) → Interns m n → (ts : List LLVMType) → All (IsTypeIn m) ts → types_at (trees_of n).types ts ≡ types_at (trees_of m).types ts
trees_same m n g [] h = refl
trees_same m n g (t ∷ ts) h =
    let first = g.types t (All-head (IsTypeIn m) t ts h) in
    let rest = trees_same m n g ts (All-tail (IsTypeIn m) t ts h) in
    cc

-- ---- lists

pub map_same : {X Y : Type 0} (P : X → Type 0) (f g : X → Y) → ((x : X) → P x → f x ≡ g x) → (xs : List X) → All P xs → map f xs ≡ map g xs
map_same P f g same [] h = refl
map_same P f g same (x ∷ xs) h =
    let a = same x (All-head P x xs h) in
    let b = map_same P f g same xs (All-tail P x xs h) in
    cc

pub all_item : {X : Type 0} (P : X → Type 0) (xs : List X) (i : ℕ) (x : X) → All P xs → slice_get xs i ≡ Some x → P x
all_item P xs i x h e = subst P (get_or_from_slice_get xs i x x e) (h i x (slice_get_within xs i x e))

-- ---- constants that are made of others

-- what a table says at the places below a number is kept
abbrev pub SaysSame : (made : ℕ) → (old new : List L.SaidConst) → Type 0
SaysSame made old new = (p : ℕ) → p < made → slice_index_or new p no_const ≡ slice_index_or old p no_const

module _ (bytes : List ℕ) (m n : Module) (g : Interns m n) (made : ℕ) (a b : List L.SaidConst) (same : SaysSame made a b) where
  pub const_same : (c : SaidConst) → IsConstIn m made c → const_view bytes (trees_of n) b c ≡ const_view bytes (trees_of m) a c
  const_same (C.Plain c) h = ap L.Plain (g.consts c h)
  const_same (C.Made p) h = same p.0 h

  pub consts_same : (cs : List SaidConst) → All (IsConstIn m made) cs → saids_of (map (const_view bytes (trees_of n) b) cs) ≡ saids_of (map (const_view bytes (trees_of m) a) cs)
  consts_same cs h = ap saids_of (map_same (IsConstIn m made) (const_view bytes (trees_of n) b) (const_view bytes (trees_of m) a) const_same cs h)

  pub const_line_same : (l : ConstLine) → IsConstLineIn m made l → const_line_view bytes (trees_of n) b l ≡ const_line_view bytes (trees_of m) a l
  const_line_same (K.Chars ty t) h = rw (g.types ty h) refl
  const_line_same (K.Listed ty brackets cs) h = rw (g.types ty h.0, consts_same cs h.1) refl
  const_line_same (K.Splat ty c) h = rw (g.types ty h.0, const_same c h.1) refl

-- ---- what is said

-- over a table that says the same
module _ (bytes : List ℕ) (m n : Module) (g : Interns m n) (made : ℕ) (a b : List L.SaidConst) (same : SaysSame made a b) where
  pub said_same : (x : Said) → IsSaidIn m made x → said_view bytes (trees_of n) b x ≡ said_view bytes (trees_of m) a x
  said_same (S.Local k) h = refl
  said_same (S.Const c) h = ap L.Const (const_same bytes m n g made a b same c h)

  pub typed_same : (x : Typed) → IsTypedIn m made x → typed_view bytes (trees_of n) b x ≡ typed_view bytes (trees_of m) a x
  typed_same x h = rw (g.types x.ty h.0, said_same x.said h.1) refl

  pub incoming_same : (e : Incoming) → IsSaidIn m made e.said → incoming_view bytes (trees_of n) b e ≡ incoming_view bytes (trees_of m) a e
  incoming_same e h = rw (said_same e.said h) refl

  written_same : (o : Option LLVMType) → IfSome o (IsTypeIn m) → option_map (type_at (trees_of n).types) o ≡ option_map (type_at (trees_of m).types) o
  written_same None h = refl
  written_same (Some t) h = ap Some (g.types t h)

  pub inst_same : (i : Inst) → IsInstIn m made i → inst_view bytes (trees_of n) b i ≡ inst_view bytes (trees_of m) a i
  inst_same (I.Phi ty es) h = rw (g.types ty h.0, map_same (λ (e : Incoming). IsSaidIn m made e.said) (incoming_view bytes (trees_of n) b) (incoming_view bytes (trees_of m) a) incoming_same es h.1) refl
  inst_same (I.Row r) h = rw (written_same r.written h.0, map_same (IsTypedIn m made) (typed_view bytes (trees_of n) b) (typed_view bytes (trees_of m) a) typed_same r.operands h.1) refl

pub param_same : (bytes : List ℕ) (m n : Module) (g : Interns m n) (p : Param) → IsTypeIn m p.ty → param_view bytes (trees_of n) p ≡ param_view bytes (trees_of m) p
param_same bytes m n g p h = rw (g.types p.ty h) refl

-- ---- what is there

module _ (m n : Module) (g : Interns m n) (made more : ℕ) (longer : made ≤ more) where
  pub const_there : (c : SaidConst) → IsConstIn m made c → IsConstIn n more c
  const_there (C.Plain c) h = omega (arith, g.const_count, h)
  const_there (C.Made p) h = omega (arith, longer, h)

  pub const_line_there : (l : ConstLine) → IsConstLineIn m made l → IsConstLineIn n more l
  const_line_there (K.Chars ty t) h = omega (arith, g.type_count, h)
  const_line_there (K.Listed ty brackets cs) h = (omega (arith, g.type_count, h.0), All-weaker (IsConstIn m made) (IsConstIn n more) const_there cs h.1)
  const_line_there (K.Splat ty c) h = (omega (arith, g.type_count, h.0), const_there c h.1)

  pub said_there : (x : Said) → IsSaidIn m made x → IsSaidIn n more x
  said_there (S.Local k) h = tt
  said_there (S.Const c) h = const_there c h

  pub typed_there : (x : Typed) → IsTypedIn m made x → IsTypedIn n more x
  typed_there x h = (omega (arith, g.type_count, h.0), said_there x.said h.1)

  written_there : (o : Option LLVMType) → IfSome o (IsTypeIn m) → IfSome o (IsTypeIn n)
  written_there None h = h
  written_there (Some t) h = omega (arith, g.type_count, h)

  pub inst_there : (i : Inst) → IsInstIn m made i → IsInstIn n more i
  inst_there (I.Phi ty es) h = (omega (arith, g.type_count, h.0), All-weaker (λ (e : Incoming). IsSaidIn m made e.said) (λ (e : Incoming). IsSaidIn n more e.said) (λ e x. said_there e.said x) es h.1)
  inst_there (I.Row r) h = (written_there r.written h.0, All-weaker (IsTypedIn m made) (IsTypedIn n more) typed_there r.operands h.1)
