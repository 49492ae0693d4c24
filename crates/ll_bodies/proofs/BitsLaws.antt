-- What is noted of vector types stays right as a module grows, and is noted of one type more.
use Rattle.std.proofs.Common.{◌≡◌, ◌<◌, ◌≤◌, ◌⊎◌, inl, inr, ℕ, ◌+◌, nat_eq, if◌then◌else◌, List, [], ◌++◌, Some, true, length, length-append, slice_get, refl, sym, ap, ◌∙◌, subst, arith, eq-eqb, ne_eqb}
use Rattle.std.specs.Option.{option_map_or}
use Rattle.std.proofs.lemmas.List.{append-nil, append_assoc}
use Rattle.std.proofs.lemmas.Bool.{cases_eq, cases_lt}
use Rattle.std.proofs.lemmas.Option.{slice_get_within}
use Rattle.support.specs.Interned.{Interned}
use Rattle.support.specs.declared.number_map.NumberMap.{NumberMap}
use Rattle.support.specs.NumberMaps.{value_at}
use Rattle.support.proofs.InternedLaws.{interned_kept, interned_cases}
use Rattle.support.proofs.ListLaws.{item_there, slice_get-kept}
use Rattle.kinds.specs.declared.fitting.Shape.{Shape}
use Rattle.kinds.specs.declared.fitting.Shape.TheVariants as S
use Rattle.kinds.specs.Fitting.{is_vector_of}
use Rattle.kinds.specs.declared.types.VectorTypeKind.{VectorTypeKind}
use Rattle.kinds.specs.declared.types.Lanes.{Lanes}
use Rattle.kinds.specs.declared.types.Lanes.TheVariants as N
use Rattle.kinds.specs.Types.{one}
use Rattle.llvm_core.specs.declared.numbers.LLVMType.{LLVMType}
use Rattle.llvm_core.specs.declared.types.LLVMTypeKind.{LLVMTypeKind}
use Rattle.llvm_core.specs.declared.types.LLVMTypeKind.TheVariants as T
use Rattle.llvm_core.specs.Module.{Module}
use Rattle.llvm_core.specs.Parts.{HasFitParts, AreLanes, shape_of, shape_at, laned_of, laned_at}
use Rattle.llvm_core.specs.Sound.{IsOfBits, IsModule}
use Rattle.llvm_core.proofs.WithinLemmas.{lanes_within}
use Rattle.ll_bodies.specs.AddingViews.{AddsTypes}
use Rattle.ll_bodies.specs.Bits.{HasBitsAt, HasBits, KeepsVectors, NotesBits, HasNeeded}

abbrev Bits : Type 0
Bits = NumberMap LLVMType

-- ---- a module that grows

of_bits_kept : (xs ys : List LLVMTypeKind) → ((i : ℕ) (k : LLVMTypeKind) → slice_get xs i ≡ Some k → slice_get ys i ≡ Some k) → (kind : VectorTypeKind) (count : ℕ) (b : LLVMType) → IsOfBits xs (N.Many kind count) b → IsOfBits ys (N.Many kind count) b
of_bits_kept xs ys kept kind count b (bit, here, is) = (bit, kept b.0 (T.Vector kind count bit) here, kept bit.0 (T.Int 1) is)

more_kept : (xs ys more : List LLVMTypeKind) → ys ≡ xs ++ more → (i : ℕ) (k : LLVMTypeKind) → slice_get xs i ≡ Some k → slice_get ys i ≡ Some k
more_kept xs ys more g i k at = ap (λ (ts : List LLVMTypeKind). slice_get ts i) g ∙ slice_get-kept xs more i k at

pub bits_kept : (a b : Module) (bits : Bits) (more : List LLVMTypeKind) → b.types ≡ a.types ++ more → KeepsVectors a b → HasBits a bits → HasBits b bits
bits_kept a b bits more g v h i kind count e at =
    let x = h i kind count e (v i kind count e at) in
    (x.0, x.1, of_bits_kept a.types b.types (more_kept a.types b.types more g) kind count x.0 x.2)

pub needed_kept : (a b : Module) (bit void : ℕ) (bits : Bits) (more : List LLVMTypeKind) → b.types ≡ a.types ++ more → KeepsVectors a b → HasNeeded a bit void bits → HasNeeded b bit void bits
needed_kept a b bit void bits more g v h = record {
  is_bit = more_kept a.types b.types more g bit (T.Int 1) h.is_bit;
  is_void = more_kept a.types b.types more g void T.Void h.is_void;
  vectors = bits_kept a b bits more g v h.vectors;
}

pub vectors_same : (a b : Module) → b.types ≡ a.types → KeepsVectors a b
vectors_same a b same i kind count e at = ap (λ (ts : List LLVMTypeKind). slice_get ts i) (sym same) ∙ at

pub vectors_twice : (a b c : Module) → KeepsVectors a b → KeepsVectors b c → KeepsVectors a c
vectors_twice a b c v w i kind count e at = v i kind count e (w i kind count e at)

-- ---- one type more is noted

-- a vector has the lanes that it says
vector_lanes : (types : List LLVMTypeKind) (t : LLVMType) (kind : VectorTypeKind) (count : ℕ) (e : LLVMType) → slice_get types t.0 ≡ Some (T.Vector kind count e) → (laned_at types t).lanes ≡ N.Many kind count
vector_lanes types t kind count e at = ap (λ o. (option_map_or (laned_of types) o (one S.Void)).lanes) at

not_one : (kind : VectorTypeKind) (count : ℕ) → N.Many kind count ≡ N.One → ⊥
not_one kind count e = absurd cc

-- what is no vector needs none
pub notes_none : (m : Module) (bits : Bits) (t : LLVMType) → (laned_at m.types t).lanes ≡ N.One → NotesBits m bits t.0 m bits
notes_none m bits t lanes i (inl h) = h
notes_none m bits t lanes i (inr (inl here)) = λ kind count e at.
    absurd (not_one kind count (sym (vector_lanes m.types t kind count e (ap (slice_get m.types) (sym here) ∙ at)) ∙ lanes))
notes_none m bits t lanes i (inr (inr behind)) = λ kind count e at. absurd (omega (arith, behind, slice_get_within m.types i (T.Vector kind count e) at))

module _ (m n : Module) (bits now : Bits) (bit ty vector : LLVMType) (kind : VectorTypeKind) (count : ℕ) (s : IsModule n) (there : ty.0 < length m.types) (is_bit : slice_get m.types bit.0 ≡ Some (T.Int 1))
    (lanes : (laned_at m.types ty).lanes ≡ N.Many kind count) (got : Interned m.types n.types (T.Vector kind count bit) vector.0)
    (noted : (q : ℕ) → value_at now q ≡ (if nat_eq vector.0 q then Some vector else (if nat_eq ty.0 q then Some vector else value_at bits q))) where
  kept : (i : ℕ) (k : LLVMTypeKind) → slice_get m.types i ≡ Some k → slice_get n.types i ≡ Some k
  kept = interned_kept m.types n.types (T.Vector kind count bit) vector.0 got

  of : IsOfBits n.types (N.Many kind count) vector
  of = (bit, got.here, kept bit.0 (T.Int 1) is_bit)

  of_same : (l : VectorTypeKind) (c : ℕ) → N.Many kind count ≡ N.Many l c → IsOfBits n.types (N.Many l c) vector
  of_same l c e = subst (λ (x : Lanes). IsOfBits n.types x vector) e of

  at_vector : (i : ℕ) → vector.0 ≡ i → HasBitsAt n now i
  at_vector i here l c e at =
      let same : N.Many kind count ≡ N.Many l c = sym (vector_lanes n.types vector kind count bit got.here) ∙ vector_lanes n.types vector l c e (ap (slice_get n.types) here ∙ at) in
      (vector, noted i ∙ ap (λ b. if b then Some vector else (if nat_eq ty.0 i then Some vector else value_at bits i)) (eq-eqb vector.0 i here), of_same l c same)

  at_type : (i : ℕ) → (vector.0 ≡ i → ⊥) → ty.0 ≡ i → HasBitsAt n now i
  at_type i other here l c e at =
      let k = item_there m.types ty.0 there in
      let old : slice_get m.types ty.0 ≡ Some (T.Vector l c e) = k.1 ∙ sym (kept ty.0 k.0 k.1) ∙ ap (slice_get n.types) here ∙ at in
      let same : N.Many kind count ≡ N.Many l c = sym lanes ∙ vector_lanes m.types ty l c e old in (
        vector,
        noted i ∙ ap (λ b. if b then Some vector else (if nat_eq ty.0 i then Some vector else value_at bits i)) (ne_eqb vector.0 i other)
            ∙ ap (λ b. if b then Some vector else value_at bits i) (eq-eqb ty.0 i here),
        of_same l c same,
      )

  at_old : (i : ℕ) → (vector.0 ≡ i → ⊥) → (ty.0 ≡ i → ⊥) → HasBitsAt m bits i → HasBitsAt n now i
  at_old i other also h l c e at = elim (interned_cases m.types n.types (T.Vector kind count bit) vector.0 got i (T.Vector l c e) at) [
    | inl old ↦ (let x = h l c e old in (
      x.0,
      noted i ∙ ap (λ b. if b then Some vector else (if nat_eq ty.0 i then Some vector else value_at bits i)) (ne_eqb vector.0 i other)
          ∙ ap (λ b. if b then Some vector else value_at bits i) (ne_eqb ty.0 i also) ∙ x.1,
      of_bits_kept m.types n.types kept l c x.0 x.2,
    ))
    | inr new ↦ absurd (other (s.types_once vector.0 i (T.Vector kind count bit) got.here (at ∙ ap (λ (k : LLVMTypeKind). Some k) new.1)))
  ]

  at_new : (i : ℕ) → (vector.0 ≡ i → ⊥) → length m.types ≤ i → HasBitsAt n now i
  at_new i other behind l c e at = elim (interned_cases m.types n.types (T.Vector kind count bit) vector.0 got i (T.Vector l c e) at) [
    | inl old ↦ absurd (omega (arith, behind, slice_get_within m.types i (T.Vector l c e) old))
    | inr new ↦ absurd (other (s.types_once vector.0 i (T.Vector kind count bit) got.here (at ∙ ap (λ (k : LLVMTypeKind). Some k) new.1)))
  ]

  pub notes_vector : NotesBits m bits ty.0 n now
  notes_vector i h = elim (cases_eq vector.0 i) [
    | inl here ↦ at_vector i here
    | inr other ↦ elim (cases_eq ty.0 i) [
      | inl here ↦ at_type i other here
      | inr also ↦ elim h [ inl old ↦ at_old i other also old | inr new ↦ elim new [ inl here ↦ absurd (also (sym here)) | inr behind ↦ at_new i other behind ] ]
    ]
  ]

-- as many bits make a vector
pub vector_fits : (m : Module) (ty bit : LLVMType) (kind : VectorTypeKind) (count : ℕ) → IsModule m → (laned_at m.types ty).lanes ≡ N.Many kind count → slice_get m.types bit.0 ≡ Some (T.Int 1) → HasFitParts m.types (T.Vector kind count bit)
vector_fits m ty bit kind count s lanes is_bit =
    let shape : shape_at m.types bit ≡ S.Int 1 = ap (λ o. option_map_or shape_of o S.Void) is_bit in
    let fit : AreLanes (N.Many kind count) = subst (λ (l : Lanes). AreLanes l) lanes (lanes_within m ty s) in
    subst (λ (x : Shape). is_vector_of count x ≡ true) (sym shape) fit

-- ---- all of them

-- those below a place are noted, and those that are new
abbrev pub AreNoted : (count : ℕ) → Module → Bits → (at : ℕ) → Type 0
AreNoted count m bits at = (i : ℕ) → (i < at) ⊎ (count ≤ i) → HasBitsAt m bits i

pub noted_none : (m : Module) (bits : Bits) → AreNoted (length m.types) m bits 0
noted_none m bits i (inl below) kind count e at = absurd (omega (arith, below))
noted_none m bits i (inr behind) kind count e at = absurd (omega (arith, behind, slice_get_within m.types i (T.Vector kind count e) at))

pub noted_more : (n : ℕ) (m k : Module) (bits now : Bits) (at next : ℕ) → next ≡ at + 1 → AreNoted n m bits at → NotesBits m bits at k now → AreNoted n k now next
noted_more n m k bits now at next is h more i there = elim there [
  | inl below ↦ elim (cases_eq i at) [ inl here ↦ more i (inr (inl here)) | inr other ↦ more i (inl (h i (inl (omega (arith, below, other, is))))) ]
  | inr behind ↦ more i (inl (h i (inr behind)))
]

pub noted_all : (n : ℕ) (m : Module) (bits : Bits) (at : ℕ) → n ≤ at → AreNoted n m bits at → HasBits m bits
noted_all n m bits at past h i = h i (by (cases_lt i at))
  where
    by : (i < at) ⊎ (at ≤ i) → (i < at) ⊎ (n ≤ i)
    by (inl below) = inl below
    by (inr behind) = inr (omega (arith, behind, past))

-- ---- types that are added

pub adds_same : (m : Module) → AddsTypes m m
adds_same m = record { more = []; types = sym (append-nil m.types); rest = refl; same = refl }

pub adds_twice : (a b c : Module) → AddsTypes a b → AddsTypes b c → AddsTypes a c
adds_twice a b c g h = record {
  more = g.more ++ h.more;
  types = h.types ∙ ap (λ (ts : List LLVMTypeKind). ts ++ h.more) g.types ∙ append_assoc a.types g.more h.more;
  rest = h.rest ∙ ap (λ (m : Module). record m { types = c.types }) g.rest;
  same = h.same ∙ g.same;
}

pub adds_longer : (a b : Module) → AddsTypes a b → length a.types ≤ length b.types
adds_longer a b g = omega (arith, ap (λ (ts : List LLVMTypeKind). length ts) g.types, length-append a.types g.more)
