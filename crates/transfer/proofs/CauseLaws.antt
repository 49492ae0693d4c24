-- An export has no cause to refuse what an import made.
use Rattle.std.proofs.Common.{ℕ, ◌≡◌, ◌⊎◌, inl, inr, refl, sym, ◌∙◌, ap, subst, List, [], None, Some, length, slice_get, All}
use Rattle.std.proofs.lemmas.Option.{slice_get_within}
use Rattle.std.proofs.lemmas.List.Elements.{All-contains}
use Rattle.llvm_core.proofs.DataLemmas.{within_at}
use Rattle.dialect_core.specs.Data.{DialectModule, DialectBlock}
use Rattle.dialect_core.specs.ContextData.{ContextData, empty_context}
use Rattle.dialect_types.specs.Trees.{structs_of}
use Rattle.dialect_core.specs.Form.{IsFormFunc, IsExportable, FitsTarget, HasEqualEdges, StandsBefore, edges_of, uses_of}
use Rattle.llvm_core.specs.Data.{ModuleData}
use Rattle.held_types.specs.Held.{AreHeld}
use Rattle.kinds.specs.Structs.{Struct, struct_in}
use Rattle.dialect_types.specs.declared.struct_err.StructErr.TheVariants as S
use Rattle.support.proofs.ListLaws.{all_from}
use Rattle.from_llvm_ir.specs.Imported.{IsIn}
use Rattle.from_llvm_ir.specs.Structs.{AddsOnly}
use Rattle.from_llvm_ir.specs.Refusals as Import
use Rattle.from_consts.specs.declared.conversion_err.ConversionErr.{ConversionErr}
use Rattle.from_consts.specs.declared.conversion_err.ConversionErr.TheVariants as C
use Rattle.to_llvm_ir.specs.Exported as X
use Rattle.to_llvm_ir.specs.Exported.{HasBlockAt, HasEdge, IsEarlyUse, LeadsOutside, IsMismatched, HasOtherEdge}
use Rattle.to_llvm_ir.specs.declared.to_llvm_err.ToLLVMErr.{ToLLVMErr}
use Rattle.to_llvm_ir.specs.declared.to_llvm_err.ToLLVMErr.TheVariants as E
use Rattle.from_llvm_ir.specs.Refusals.{IsValid}
use Rattle.from_llvm_ir.proofs.UndefinedLaws.{no_undefined_use}
use Rattle.from_llvm_ir.proofs.RefusedLaws.{held_unsupported}
use Rattle.to_llvm_ir.proofs.GraphLaws.{stands_in_order}
use Rattle.transfer.specs.declared.transfer_err.TransferErr.{TransferErr}
use Rattle.transfer.specs.declared.transfer_err.TransferErr.TheVariants as T
use Rattle.transfer.specs.Same.{of_import, of_export, IsCause}

module _ (d : DialectModule) (forms : All IsFormFunc d.functions) (fit : All IsExportable d.functions) where
  exportable : (b : HasBlockAt d) → IsExportable b.function
  exportable b = within_at d.functions IsExportable fit b.place b.function b.here

  -- what the edge's target has
  target : (e : HasEdge d) → FitsTarget e.block.function e.edge
  target e =
      let edges = within_at e.block.function.blocks (λ (b : DialectBlock). All (FitsTarget e.block.function) (edges_of b)) (exportable e.block).targets e.block.block e.block.is e.block.there in
      within_at (edges_of e.block.is) (FitsTarget e.block.function) edges e.place e.edge e.at

  no_early_use : (c : ContextData) (name : List ℕ) → ¬ IsEarlyUse c d name
  no_early_use c name h =
      let order = (exportable h.block).in_order in
      let all = order h.block.block h.place h.block.is h.op h.block.there h.at in
      h.early (stands_in_order h.block.function h.order h.block.block h.place h.value order h.is_order (slice_get_within h.block.function.blocks h.block.block h.block.is h.block.there)
      (All-contains (StandsBefore h.block.function h.block.block h.place) (uses_of h.op) h.value all h.used))

  never_outside : (c : ContextData) (label : List ℕ) → ¬ LeadsOutside c d label
  never_outside c label h =
      let (i, b, at, is, same) = target h.edge in
      within_at h.edge.block.function.blocks (λ (b : DialectBlock). ¬ (b.number ≡ h.edge.edge.block.0)) h.outside i b at is

  never_mismatched : ¬ IsMismatched d
  never_mismatched h =
      let (i, b, at, is, same) = target h.edge in
      let form = within_at d.functions IsFormFunc forms h.edge.block.place h.edge.block.function h.edge.block.here in
      let one : i ≡ h.at = form.block_numbers i h.at b h.target at h.there (is ∙ sym h.leads) in
      let b_is : b ≡ h.target = let e = sym at ∙ ap (slice_get h.edge.block.function.blocks) one ∙ h.there in cc in
      h.differs (same ∙ ap (λ (x : DialectBlock). length x.args) b_is)

  never_other : (p t : ℕ) → ¬ HasOtherEdge d p t
  never_other p t h =
      let equal = within_at h.edge.block.function.blocks HasEqualEdges (exportable h.edge.block).equal h.edge.block.block h.edge.block.is h.edge.block.there in
      h.differs (equal h.other_place h.edge.place h.other h.edge.edge h.at h.edge.at h.same)

  -- so an export is refused for want of memory alone
  pub only_memory_exported : (c : ContextData) (e : ToLLVMErr) → X.IsCause c d e → of_export e ≡ T.NoMemory
  only_memory_exported c (E.UndefinedValue name) h = absurd (no_early_use c name h)
  only_memory_exported c (E.UndefinedBlock label) h = absurd (never_outside c label h)
  only_memory_exported c E.NumBlockArgsNumPhisMismatch h = absurd (never_mismatched h)
  only_memory_exported c (E.EdgeArgsDiffer p t) h = absurd (never_other p t h)
  only_memory_exported c E.NoMemory h = refl

none_there : (identifier : List ℕ) (s : Struct) → ¬ (struct_in [] identifier ≡ Some s)
none_there identifier s e = cc

-- an empty context has none
pub in_empty : (m : ModuleData) (c : ContextData) (e : ConversionErr) → c ≡ empty_context → Import.IsCause (structs_of c.types) m e → Import.IsCause [] m e
in_empty m c e is h = subst (λ (x : ContextData). Import.IsCause (structs_of x.types) m e) is h

not_in_none : (s : Struct) → ¬ IsIn [] s
not_in_none s h = let no : None ≡ Some s = h.1 in cc

-- so all that it has later have come
pub only_in_empty : (c new : ContextData) (is : List (List ℕ)) → c ≡ empty_context → AddsOnly (structs_of c.types) (structs_of new.types) is → All (λ (s : Struct). IsIn is s.name) (structs_of new.types)
only_in_empty c new is e h = all_from (λ (s : Struct). IsIn is s.name) (structs_of new.types) (λ j s at. elim (h j s at) [
  | inl old ↦ absurd (not_in_none s (subst (λ (x : ContextData). IsIn (structs_of x.types) s) e old))
  | inr here ↦ here
])

-- of an import into a context without structs
pub of_import_cause : (m : ModuleData) (e : ConversionErr) → Import.IsCause [] m e → IsCause m (of_import e)
of_import_cause m (C.UndefinedValue name v) h = h
of_import_cause m (C.IntConstTooWide width) h = h
of_import_cause m (C.Unsupported u) h = h
of_import_cause m (C.Struct (S.DifferentBody identifier)) h = absurd (none_there identifier h.other.other h.other.there)
of_import_cause m (C.Struct S.NoMemory) h = absurd h
of_import_cause m C.NoMemory h = tt

-- a module whose uses are valid and which is held is refused for want of memory alone
pub only_memory : (m : ModuleData) (e : TransferErr) → IsCause m e → IsValid m → AreHeld m → e ≡ T.NoMemory
only_memory m (T.Import (C.UndefinedValue name v)) h valid held = absurd (no_undefined_use m valid name v h)
only_memory m (T.Import (C.IntConstTooWide width)) h valid held = absurd (held.constants width h)
only_memory m (T.Import (C.Unsupported u)) h valid held = absurd (held_unsupported m held u h)
only_memory m (T.Import (C.Struct s)) h valid held = absurd h
only_memory m (T.Import C.NoMemory) h valid held = absurd h
only_memory m (T.Export e) h valid held = absurd h
only_memory m T.NoMemory h valid held = refl
