-- What `module::LLVMModule::const_insert` owes besides what the check finds.
use Rattle.std.proofs.Common.{rules, ◌≡◌, ◌<◌, ◌≤◌, List, None, length, ap, sym, ◌∙◌, subst, arith}
use Rattle.std.proofs.lemmas.Option.{same_Some}
use Rattle.llvm_core.specs.declared.numbers.LLVMType.{LLVMType}
use Rattle.llvm_core.specs.declared.pieces.Piece.{Piece}
use Rattle.llvm_core.specs.declared.pieces.Piece.TheVariants as P
use Rattle.llvm_core.specs.Parts.{const_type}
use Rattle.llvm_core.specs.Sound.{IsModule}
use Rattle.llvm_core.specs.Data.{trees_of, type_at, listed}
use Rattle.llvm_core.specs.Pieces.{ArePiecesOf, piece_trees}
use Rattle.llvm_core.proofs.PieceLemmas.{pieces_fit, pieces_set}
use Rattle.llvm_core.proofs.InsertLemmas.{more_none, insert_none, insert_past, insert_there}
use Rattle.llvm_core.proofs.module.LLVMModule.const_insert.Goals as goal

pub returns-in_err-pieces-clause-grown : goal.returns-in_err-pieces-clause-grown
returns-in_err-pieces-clause-grown c = more_none c.args.self.now (subst IsModule c.self.view_is c.self.invariant)

pub returns-in_default-clause-inserted : goal.returns-in_default-clause-inserted
returns-in_default-clause-inserted c =
    let sound = subst IsModule c.self.view_is c.self.invariant in
    let (k, at, is) = c.in_ok-pieces.ensures in
    let none : c.in_ok-pieces.field-0 ≡ None = search rules in
    insert_none c.args.self.now sound c.args.aggregate k at c.args.place c.args.element (sym is ∙ none)

pub returns-in_default-clause-grown : goal.returns-in_default-clause-grown
returns-in_default-clause-grown c = more_none c.args.self.now (subst IsModule c.self.view_is c.self.invariant)

pub returns-then-place-as_slice-clause-inserted : goal.returns-then-place-as_slice-clause-inserted
returns-then-place-as_slice-clause-inserted c =
    let sound = subst IsModule c.self.view_is c.self.invariant in
    let (k, at, is) = c.in_ok-pieces.ensures in
    let ps = c.in-Some.pieces in
    let past : length ps ≤ c.args.place = omega (arith, c.if-place-as_slice.true, ap length c.as_slice.ensures) in
    insert_past c.args.self.now sound c.args.aggregate k at c.args.place c.args.element ps (sym is ∙ c.in-Some.is) past

pub returns-then-place-as_slice-clause-grown : goal.returns-then-place-as_slice-clause-grown
returns-then-place-as_slice-clause-grown c = more_none c.args.self.now (subst IsModule c.self.view_is c.self.invariant)

pub put_together-requires : goal.put_together-requires
put_together-requires c =
    let m = c.args.self.now in
    let sound = subst IsModule c.self.view_is c.self.invariant in
    let (k, at, is) = c.in_ok-pieces.ensures in
    let ps = c.in-Some.pieces in
    let of = pieces_set m (const_type k) ps c.args.place c.args.element (pieces_fit m k ps sound (sound.consts c.args.aggregate.0 k at) (sym is ∙ c.in-Some.is)) (c.requires.element k at) in
    let type = c.const_type-ty.ensures ∙ ap const_type (same_Some c.const_kind.result.now k (sym c.const_kind.ensures.kind ∙ at)) in
    subst (λ (t : LLVMType). ArePiecesOf m t c.as_slice-2.result.now) (sym type) (subst (ArePiecesOf m (const_type k)) (sym (c.as_slice-2.ensures ∙ c.set.ensures)) of)

pub returns-clause-inserted : goal.returns-clause-inserted
returns-clause-inserted c =
    let m = c.args.self.now in
    let sound = subst IsModule c.self.view_is c.self.invariant in
    let (k, at, is) = c.in_ok-pieces.ensures in
    let ps = c.in-Some.pieces in
    let lt : c.args.place < length ps = omega (arith, c.if-place-as_slice.false, ap length c.as_slice.ensures) in
    let type = c.const_type-ty.ensures ∙ ap const_type (same_Some c.const_kind.result.now k (sym c.const_kind.ensures.kind ∙ at)) in
    insert_there m sound c.args.aggregate k at c.args.place c.args.element c.put_together.new.self ps c.in_ok-c.c (sym is ∙ c.in-Some.is) lt
    (c.in_ok-c.ensures.is ∙ ap (λ (t : LLVMType). listed (type_at (trees_of m).types t) (piece_trees (trees_of m) c.as_slice-2.result.now)) type
    ∙ ap (λ (xs : List Piece). listed (type_at (trees_of m).types (const_type k)) (piece_trees (trees_of m) xs)) (c.as_slice-2.ensures ∙ c.set.ensures))
