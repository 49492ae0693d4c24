-- Each type that is looked at may be a field, but for the last.
use Rattle.std.proofs.Common.{◌≡◌, ◌<◌, ◌≤◌, ℕ, List, All, length, true, get_or, below_more, sym, ap, ◌∙◌, arith}
use Rattle.kinds.specs.Fitting.{is_field}
use Rattle.llvm_core.specs.declared.numbers.LLVMType.{LLVMType}
use Rattle.llvm_core.specs.Data.{trees_of}
use Rattle.llvm_core.specs.Parts.{shape_at}
use Rattle.ll_values.proofs.FieldLaws.{pass_all, no_field, all_fields}
use Rattle.ll_values.proofs.types.all_fields.Goals as goal

pub returns-then-not-is_field-clause-same : goal.returns-then-not-is_field-clause-same
returns-then-not-is_field-clause-same c =
    sym (no_field (trees_of c.args.m.now).types c.args.types.now c.loop-ty.ty-index c.loop-ty-test.true (ap is_field (sym c.shape_in.ensures.tree) ∙ sym c.is_field.ensures ∙ c.if-not-is_field.true))

pub loop-ty-preserved : goal.loop-ty-preserved
loop-ty-preserved c =
    below_more (λ k. is_field (shape_at c.args.m.now.types (get_or c.args.types.now k (record { 0 = 0 }))) ≡ true) c.loop-ty.ty-index c.loop-ty.invariant (ap is_field (sym c.shape_in.ensures.kept) ∙ sym c.is_field.ensures ∙ c.if-not-is_field.false)

whole : (p : LLVMType → _) (xs : List LLVMType) (n : ℕ) → length xs ≤ n → ((k : ℕ) → k < n → p (get_or xs k (record { 0 = 0 })) ≡ true) → All (λ (t : LLVMType). p t ≡ true) xs
whole p xs n end h = pass_all p xs (λ k lt. h k (omega arith))

pub returns-clause-same : goal.returns-clause-same
returns-clause-same c =
    sym (all_fields c.args.m.now c.requires.sound c.args.types.now c.requires.there (whole (λ (t : LLVMType). is_field (shape_at c.args.m.now.types t)) c.args.types.now c.loop-ty.ty-index c.loop-ty-test.false c.loop-ty.invariant))

pub returns-clause-fit : goal.returns-clause-fit
returns-clause-fit c = λ is. whole (λ (t : LLVMType). is_field (shape_at c.args.m.now.types t)) c.args.types.now c.loop-ty.ty-index c.loop-ty-test.false c.loop-ty.invariant
