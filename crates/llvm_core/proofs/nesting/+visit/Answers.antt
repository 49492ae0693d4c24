-- What `nesting::visit` and what it calls owe besides what the check finds.
use Rattle.std.proofs.Common.{◌≡◌, ◌<◌, ◌∙◌, ◌+◌, inl, inr, ap, sym, subst, refl, List, All, length, ℕ, Some, arith}
use Rattle.std.specs.Prelude.{position}
use Rattle.std.proofs.lemmas.List.Elements.{All-get_or}
use Rattle.std.specs.Str.{bytes_eq}
use Rattle.llvm_core.specs.declared.numbers.LLVMType.{LLVMType}
use Rattle.llvm_core.specs.declared.types.LLVMTypeKind.{LLVMTypeKind}
use Rattle.llvm_core.specs.Parts.{IsTypeOver}
use Rattle.llvm_core.specs.Depths.{IsLeastWithin, AreNotesAt, all_nest_at, parts_nest_at, fields_nest_at}
use Rattle.llvm_core.proofs.LeastLemmas.{within_none}
use Rattle.llvm_core.proofs.NestLemmas.{all_more, all_fail, function_parts, one_deeper, too_little, no_struct, same_fields, by_opaque, by_fields, none_left}
use Rattle.llvm_core.proofs.NoteLemmas.{over_more, more_twice, grown_notes_at, notes_on, notes_on_type, notes_on_result, notes_on_params, known_least, more_known, notes_opened, notes_closed}
use Rattle.llvm_core.proofs.nesting.+visit.Goals as goal
use Rattle.llvm_core.proofs.nesting.+visit.Goals.{visit-then-left-eq0-via-then-left-eq0, visit-then-left-eq0-via-else-left-eq0+then-left-known}

-- ---- the type

pub visit-returns-then-left-eq0-clause-depth : goal.visit-returns-then-left-eq0-clause-depth
visit-returns-then-left-eq0-clause-depth t c = elim c.then-left-eq0.branch [
  | visit-then-left-eq0-via-then-left-eq0 w ↦ none_left c.args.m.now c.args.ty c.args.left w.if-left-eq0.true
  | visit-then-left-eq0-via-else-left-eq0+then-left-known w ↦ more_known c.args.m.now c.args.ty c.args.notes.now c.requires.notes c.requires.within c.args.left w.if-left-known.true
]

pub visit-returns-then-known-ne0-clause-depth : goal.visit-returns-then-known-ne0-clause-depth
visit-returns-then-known-ne0-clause-depth t c =
    (known_least c.args.m.now c.args.ty c.args.notes.now c.requires.notes c.requires.within c.if-known-ne0.true (omega (arith, c.if-left-known.false, c.requires.fuel)), c.if-left-known.false)

pub visit-visit_parts-requires : goal.visit-visit_parts-requires
visit-visit_parts-requires t c =
    let m = c.args.m.now in
    let some : ¬ (c.args.left ≡ 0) = c.if-left-eq0.false in
    let fuel = c.requires.fuel in (
      omega (arith, some),
      (
        over_more c.args.ty.0 (length m.types) c.type_kind.result.now (omega (arith, c.requires.within)) c.type_kind.ensures.parts,
        (
          c.requires.names,
          (
            omega (arith, some, fuel),
            notes_opened m c.args.ty c.args.notes.now c.requires.notes c.requires.within c.type_kind.result.now c.type_kind.ensures.kind c.type_kind.ensures.parts,
          ),
        ),
      ),
    )

pub visit-returns-in-Some-clause-depth : goal.visit-returns-in-Some-clause-depth
visit-returns-in-Some-clause-depth t c =
    let h = c.in-Some.ensures.depth in
    (one_deeper c.args.m.now c.args.ty c.type_kind.result.now c.type_kind.ensures.kind c.type_kind.ensures.parts c.in-Some.below _ h.0 refl, omega (arith, h.1))

pub visit-returns-in-Some-clause-notes : goal.visit-returns-in-Some-clause-notes
visit-returns-in-Some-clause-notes t c =
    let m = c.args.m.now in
    let h = c.in-Some.ensures.depth in
    notes_closed m c.args.ty c.args.notes.now c.requires.notes c.requires.within c.visit_parts.new.notes (1 + c.in-Some.below) c.visit_parts.ensures.notes
    (inr (one_deeper m c.args.ty c.type_kind.result.now c.type_kind.ensures.kind c.type_kind.ensures.parts c.in-Some.below _ h.0 refl))

pub visit-returns-in-None-clause-depth : goal.visit-returns-in-None-clause-depth
visit-returns-in-None-clause-depth t c =
    too_little c.args.m.now c.args.ty c.type_kind.result.now c.type_kind.ensures.kind c.type_kind.ensures.parts c.args.left c.if-left-eq0.false c.in-None.ensures.depth

pub visit-returns-in-None-clause-notes : goal.visit-returns-in-None-clause-notes
visit-returns-in-None-clause-notes t c =
    notes_closed c.args.m.now c.args.ty c.args.notes.now c.requires.notes c.requires.within c.visit_parts.new.notes 0 c.visit_parts.ensures.notes (inl c.if-known-ne0.false)

-- ---- lists of types

pub visit_all-returns-in_err-visit-clause-depth : goal.visit_all-returns-in_err-visit-clause-depth
visit_all-returns-in_err-visit-clause-depth t c =
    let m = c.args.m.now in
    let none = c.in_err-visit.ensures.depth in
    subst (IsLeastWithin (all_nest_at m c.args.types.now) c.args.left) (sym c.from_residual.ensures) (all_fail m c.args.types.now c.loop-ty.ty-index (record { 0 = 0 }) c.args.left c.loop-ty-test.true none)

pub visit_all-visit-requires : goal.visit_all-visit-requires
visit_all-visit-requires t c =
    let m = c.args.m.now in
    let grown = grown_notes_at m (all_nest_at m c.args.types.now) c.args.notes.now c.loop-ty.notes c.requires.notes c.loop-ty.invariant.notes in (
      omega arith,
      (
        All-get_or (λ (t : LLVMType). t.0 < length m.types) c.args.types.now c.loop-ty.ty-index (record { 0 = 0 }) c.loop-ty-test.true c.requires.within,
        (
          c.requires.names,
          (
            c.requires.fuel,
            notes_on_type m c.args.types.now c.loop-ty.ty-index (record { 0 = 0 }) c.loop-ty-test.true c.loop-ty.notes grown,
          ),
        ),
      ),
    )

pub visit_all-loop-ty-preserved : goal.visit_all-loop-ty-preserved
visit_all-loop-ty-preserved t c = record {
  depth = all_more c.args.m.now c.args.types.now c.loop-ty.ty-index (record { 0 = 0 }) c.args.left c.loop-ty.depth c.in_ok-visit.field-0 c.loop-ty-test.true c.loop-ty.invariant.depth c.in_ok-visit.ensures.depth c.greater-depth.result c.greater-depth.ensures;
  notes = more_twice c.args.m.now c.args.notes.now c.loop-ty.notes c.visit.new.notes c.loop-ty.invariant.notes c.visit.ensures.notes;
}

-- ---- the fields of a struct

pub visit_fields-returns-in_err-place-clause-depth : goal.visit_fields-returns-in_err-place-clause-depth
visit_fields-returns-in_err-place-clause-depth t c =
    let m = c.args.m.now in
    let name = c.args.name.now in
    let none = c.in_err-place.ensures in
    subst (IsLeastWithin (fields_nest_at m name) c.args.left) (sym c.from_residual.ensures) (no_struct m name c.args.left (ap (position (bytes_eq name)) (sym c.requires.1.1.0) ∙ sym none))

pub visit_fields-visit_all-requires : goal.visit_fields-visit_all-requires
visit_fields-visit_all-requires t c =
    let m = c.args.m.now in
    let name = c.args.name.now in
    let there = c.in_ok-place.ensures in
    let b = c.in-Some.body.now in
    let same = same_fields m name c.in_ok-place.place (ap (position (bytes_eq name)) (sym c.requires.1.1.0) ∙ sym there) b c.in-Some.ensures.body in
    let on = notes_on m (fields_nest_at m name) (all_nest_at m b.types) (λ n e. sym (same n) ∙ e) c.args.notes.now c.requires.1.1.1.1 in (
      omega arith,
      (
        subst (All (λ (t : LLVMType). t.0 < length m.types)) (sym c.as_slice.ensures) c.in-Some.ensures.within.within,
        (
          c.requires.1.1.0,
          (
            c.requires.1.1.1.0,
            subst (λ (ts : List LLVMType). AreNotesAt m (all_nest_at m ts) c.args.notes.now) (sym c.as_slice.ensures) on,
          ),
        ),
      ),
    )

pub visit_fields-returns-in-Some-clause-depth : goal.visit_fields-returns-in-Some-clause-depth
visit_fields-returns-in-Some-clause-depth t c =
    let m = c.args.m.now in
    let name = c.args.name.now in
    let there = c.in_ok-place.ensures in
    let b = c.in-Some.body.now in
    by_fields m name c.in_ok-place.place (ap (position (bytes_eq name)) (sym c.requires.1.1.0) ∙ sym there) b c.in-Some.ensures.body c.args.left c.visit_all.result
    (subst (λ (ts : List LLVMType). IsLeastWithin (all_nest_at m ts) c.args.left c.visit_all.result) c.as_slice.ensures c.visit_all.ensures.depth)

pub visit_fields-returns-in-None-clause-depth : goal.visit_fields-returns-in-None-clause-depth
visit_fields-returns-in-None-clause-depth t c =
    let m = c.args.m.now in
    let name = c.args.name.now in
    let there = c.in_ok-place.ensures in
    within_none (fields_nest_at m name) c.args.left (by_opaque m name c.in_ok-place.place (ap (position (bytes_eq name)) (sym c.requires.1.1.0) ∙ sym there) c.in-None.ensures.body)

-- ---- the parts of a type: a line for each kind with parts

pub visit_parts-visit-requires : goal.visit_parts-visit-requires
visit_parts-visit-requires t c =
    let m = c.args.m.now in (
      omega arith,
      (
        subst (IsTypeOver (length m.types)) c.in-Array.is c.requires.parts,
        (
          c.requires.names,
          (
            c.requires.fuel,
            subst (λ (k : LLVMTypeKind). AreNotesAt m (parts_nest_at m k) c.args.notes.now) c.in-Array.is c.requires.notes,
          ),
        ),
      ),
    )

pub visit_parts-visit-requires-in-Vector : goal.visit_parts-visit-requires-in-Vector
visit_parts-visit-requires-in-Vector t c =
    let m = c.args.m.now in (
      omega arith,
      (
        subst (IsTypeOver (length m.types)) c.in-Vector.is c.requires.parts,
        (
          c.requires.names,
          (
            c.requires.fuel,
            subst (λ (k : LLVMTypeKind). AreNotesAt m (parts_nest_at m k) c.args.notes.now) c.in-Vector.is c.requires.notes,
          ),
        ),
      ),
    )

pub visit_parts-visit_all-requires : goal.visit_parts-visit_all-requires
visit_parts-visit_all-requires t c =
    let m = c.args.m.now in
    let parts = subst (IsTypeOver (length m.types)) c.in-Literal.is c.requires.parts in
    let notes = subst (λ (k : LLVMTypeKind). AreNotesAt m (parts_nest_at m k) c.args.notes.now) c.in-Literal.is c.requires.notes in (
      omega arith,
      (
        subst (All (λ (t : LLVMType). t.0 < length m.types)) (sym c.as_slice.ensures) parts,
        (
          c.requires.names,
          (
            c.requires.fuel,
            subst (λ (ts : List LLVMType). AreNotesAt m (all_nest_at m ts) c.args.notes.now) (sym c.as_slice.ensures) notes,
          ),
        ),
      ),
    )

pub visit_parts-visit_fields-requires : goal.visit_parts-visit_fields-requires
visit_parts-visit_fields-requires t c =
    let m = c.args.m.now in
    let notes = subst (λ (k : LLVMTypeKind). AreNotesAt m (parts_nest_at m k) c.args.notes.now) c.in-Named.is c.requires.notes in
    (omega arith, (c.requires.names, (c.requires.fuel, subst (λ (name : List ℕ). AreNotesAt m (fields_nest_at m name) c.args.notes.now) (sym c.as_str.ensures) notes)))

pub visit_parts-visit-requires-in-Function : goal.visit_parts-visit-requires-in-Function
visit_parts-visit-requires-in-Function t c =
    let m = c.args.m.now in
    let parts = subst (IsTypeOver (length m.types)) c.in-Function.is c.requires.parts in
    let notes = subst (λ (k : LLVMTypeKind). AreNotesAt m (parts_nest_at m k) c.args.notes.now) c.in-Function.is c.requires.notes in
    (omega arith, (parts.0, (c.requires.names, (c.requires.fuel, notes_on_result m c.in-Function.result c.in-Function.params c.in-Function.variadic c.args.notes.now notes))))

pub visit_parts-visit_all-requires-in-Function : goal.visit_parts-visit_all-requires-in-Function
visit_parts-visit_all-requires-in-Function t c =
    let m = c.args.m.now in
    let params = c.in-Function.params in
    let parts = subst (IsTypeOver (length m.types)) c.in-Function.is c.requires.parts in
    let notes = subst (λ (k : LLVMTypeKind). AreNotesAt m (parts_nest_at m k) c.args.notes.now) c.in-Function.is c.requires.notes in
    let grown = grown_notes_at m (all_nest_at m params) c.args.notes.now c.visit-in-Function.new.notes (notes_on_params m c.in-Function.result params c.in-Function.variadic c.args.notes.now notes) c.visit-in-Function.ensures.notes in (
      omega arith,
      (
        subst (All (λ (t : LLVMType). t.0 < length m.types)) (sym c.as_slice-in-Function.ensures) parts.1,
        (
          c.requires.names,
          (
            c.requires.fuel,
            subst (λ (ts : List LLVMType). AreNotesAt m (all_nest_at m ts) c.visit-in-Function.new.notes) (sym c.as_slice-in-Function.ensures) grown,
          ),
        ),
      ),
    )

pub visit_parts-returns-in-Array-clause-depth : goal.visit_parts-returns-in-Array-clause-depth
visit_parts-returns-in-Array-clause-depth t c = subst (λ (k : LLVMTypeKind). IsLeastWithin (parts_nest_at c.args.m.now k) c.args.left c.visit.result) (sym c.in-Array.is) c.visit.ensures.depth

pub visit_parts-returns-in-Vector-clause-depth : goal.visit_parts-returns-in-Vector-clause-depth
visit_parts-returns-in-Vector-clause-depth t c = subst (λ (k : LLVMTypeKind). IsLeastWithin (parts_nest_at c.args.m.now k) c.args.left c.visit-in-Vector.result) (sym c.in-Vector.is) c.visit-in-Vector.ensures.depth

pub visit_parts-returns-in-Literal-clause-depth : goal.visit_parts-returns-in-Literal-clause-depth
visit_parts-returns-in-Literal-clause-depth t c =
    subst (λ (k : LLVMTypeKind). IsLeastWithin (parts_nest_at c.args.m.now k) c.args.left c.visit_all.result) (sym c.in-Literal.is)
    (subst (λ (ts : List LLVMType). IsLeastWithin (all_nest_at c.args.m.now ts) c.args.left c.visit_all.result) c.as_slice.ensures c.visit_all.ensures.depth)

pub visit_parts-returns-in-Named-clause-depth : goal.visit_parts-returns-in-Named-clause-depth
visit_parts-returns-in-Named-clause-depth t c =
    subst (λ (k : LLVMTypeKind). IsLeastWithin (parts_nest_at c.args.m.now k) c.args.left c.visit_fields.result) (sym c.in-Named.is)
    (subst (λ (name : List ℕ). IsLeastWithin (fields_nest_at c.args.m.now name) c.args.left c.visit_fields.result) c.as_str.ensures c.visit_fields.ensures.depth)

pub visit_parts-returns-in_ok-rest-in-Function-clause-depth : goal.visit_parts-returns-in_ok-rest-in-Function-clause-depth
visit_parts-returns-in_ok-rest-in-Function-clause-depth t c =
    let m = c.args.m.now in
    let h = c.in_ok-first-in-Function.ensures.depth in
    let g = subst (λ (ts : List LLVMType). IsLeastWithin (all_nest_at m ts) c.args.left (Some c.in_ok-rest-in-Function.rest)) c.as_slice-in-Function.ensures c.in_ok-rest-in-Function.ensures.depth in
    subst (λ (k : LLVMTypeKind). IsLeastWithin (parts_nest_at m k) c.args.left (Some c.greater.result)) (sym c.in-Function.is)
    (function_parts m c.in-Function.result c.in-Function.params c.in-Function.variadic c.args.left c.in_ok-first-in-Function.first c.in_ok-rest-in-Function.rest c.greater.result h g c.greater.ensures)
