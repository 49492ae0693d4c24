-- Why types are not converted, by what holds of the types that were asked for, and by what a context had before them.
use Rattle.std.proofs.Common.{ℕ, ◌≡◌, inl, inr, ◌∙◌, sym, ap, subst, List, Some}
use Rattle.std.proofs.lemmas.Option.{same_Some}
use Rattle.kinds.specs.Structs.{Struct, renamed_struct, struct_in}
use Rattle.llvm_core.specs.declared.numbers.LLVMType.{LLVMType}
use Rattle.llvm_core.specs.Module.{Module}
use Rattle.llvm_core.specs.Data as L
use Rattle.llvm_core.proofs.DataLemmas.{within_at}
use Rattle.dialect_types.specs.Legalised.{Named, Gave, GoesOn, IsLegalised}
use Rattle.dialect_types.specs.declared.struct_err.StructErr.TheVariants as S
use Rattle.dialect_types.proofs.LegalLaws.{one_name}
use Rattle.from_consts.specs.declared.conversion_err.ConversionErr.{ConversionErr}
use Rattle.from_consts.specs.declared.conversion_err.ConversionErr.TheVariants as E
use Rattle.from_consts.specs.declared.conversion_err.Unsupported.TheVariants as U
use Rattle.dialect_types.specs.Trees.{HasOtherBody}
use Rattle.from_consts.specs.Parts.{HasNamed, IsNamed}
use Rattle.from_consts.specs.Names.{called, IsConverted}
use Rattle.from_consts.specs.Given.{AddsStructs}
use Rattle.from_consts.specs.Refusals.{HasOtherStruct, IsCause}
use Rattle.from_consts.proofs.NameLaws.{converted_kept, found_either, found_in}
use Rattle.from_consts.proofs.GivesLaws.{Implies, named_as}

-- two that are what one struct is in the dialect are one
pub one_converted : (ss : List Struct) (given : List Named) (n : List ℕ) (s t : Struct) → IsConverted ss given n s → IsConverted ss given n t → s ≡ t
one_converted ss given n s t a b = a.is ∙ ap (renamed_struct (called given)) (same_Some a.struct b.struct (sym a.at ∙ b.at)) ∙ sym b.is

module _ (m : Module) where
  pub other_as : (V W : LLVMType → Type 0) (before : List Struct) (given : List Named) (i : List ℕ) → Implies V W → HasOtherStruct m V before given i → HasOtherStruct m W before given i
  other_as V W before given i to h = record { name = h.name; named = named_as m V W h.name to h.named; struct = h.struct; is = h.is; called = h.called; other = h.other; there = h.there; differs = h.differs }

  pub cause_as : (V W : LLVMType → Type 0) (before : List Struct) (given : List Named) (e : ConversionErr) → Implies V W → IsCause m V before given e → IsCause m W before given e
  cause_as V W before given (E.UndefinedValue n v) to h = h
  cause_as V W before given (E.IntConstTooWide width) to h = h
  cause_as V W before given (E.Unsupported (U.Ty of)) to (t, held, is) = (t, to t held, is)
  cause_as V W before given (E.Unsupported U.ScalableSplat) to h = h
  cause_as V W before given (E.Struct (S.DifferentBody i)) to h = other_as V W before given i to h
  cause_as V W before given (E.Struct S.NoMemory) to h = h
  cause_as V W before given E.NoMemory to h = h

  -- a struct that the context has under the identifier of another
  pub other_struct : (W : LLVMType → Type 0) (before : List Struct) (given : List Named) (n : List ℕ) (t : LLVMType) (k i : List ℕ) (s : Struct) → W t → IsNamed m t n → IsConverted (L.structs_of m) given n s → i ≡ k → s.name ≡ k → HasOtherBody before s → HasOtherStruct m W before given i
  other_struct W before given n t k i s held named is same called (o, there, differs) = record {
    name = n;
    named = (t, held, named);
    struct = s;
    is = is;
    called = called ∙ sym same;
    other = o;
    there = subst (λ (j : List ℕ). struct_in before j ≡ Some o) (called ∙ sym same) there;
    differs = differs;
  }

  -- what stands in the way once structs were added stood there before: those that were added have names of their own
  pub other_before : (V W : LLVMType → Type 0) (x given : List Named) (old new : List Struct) (i : List ℕ) → IsLegalised given → GoesOn x given → AddsStructs m V x old new → HasOtherStruct m W new given i → HasOtherStruct m W old given i
  other_before V W x given old new i legal goes (more, is, each) h = record {
    name = h.name;
    named = h.named;
    struct = h.struct;
    is = h.is;
    called = h.called;
    other = h.other;
    there = elim (found_either old more i h.other (subst (λ (ss : List Struct). struct_in ss i ≡ Some h.other) is h.there)) [
      | inl was ↦ was
      | inr (k, at) ↦ absurd (h.differs (added (within_at more (λ (s : Struct). (n : List ℕ) × HasNamed m V n × IsConverted (L.structs_of m) x n s) each k h.other at)))
    ];
    differs = h.differs;
  }
    where
      added : (n : List ℕ) × HasNamed m V n × IsConverted (L.structs_of m) x n h.other → h.other ≡ h.struct
      added (n, named, made) =
          let now = converted_kept x given (L.structs_of m) n h.other goes made in
          let gave : Gave given n i = subst (Gave given n) (found_in new i h.other h.there) now.gave in
          let same = one_name given n h.name i legal gave (subst (Gave given h.name) h.called h.is.gave) in
          one_converted (L.structs_of m) given h.name h.other h.struct (subst (λ (k : List ℕ). IsConverted (L.structs_of m) given k h.other) same now) h.is

  pub cause_before : (V W : LLVMType → Type 0) (x given : List Named) (old new : List Struct) (e : ConversionErr) → IsLegalised given → GoesOn x given → AddsStructs m V x old new → IsCause m W new given e → IsCause m W old given e
  cause_before V W x given old new (E.UndefinedValue n v) legal goes added h = h
  cause_before V W x given old new (E.IntConstTooWide width) legal goes added h = h
  cause_before V W x given old new (E.Unsupported (U.Ty of)) legal goes added h = h
  cause_before V W x given old new (E.Unsupported U.ScalableSplat) legal goes added h = h
  cause_before V W x given old new (E.Struct (S.DifferentBody i)) legal goes added h = other_before V W x given old new i legal goes added h
  cause_before V W x given old new (E.Struct S.NoMemory) legal goes added h = h
  cause_before V W x given old new E.NoMemory legal goes added h = h
