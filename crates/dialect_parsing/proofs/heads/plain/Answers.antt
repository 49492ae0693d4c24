-- No type is written so.
use Rattle.dialect_parsing.proofs.PlainLaws.{no_integer, no_pointer, no_head}
use Rattle.dialect_parsing.proofs.heads.plain.Goals as goal

pub returns-in_err-width-in-Integer-clause-err : goal.returns-in_err-width-in-Integer-clause-err
returns-in_err-width-in-Integer-clause-err c = λ _ structs. no_integer structs _ _ c.in-Integer.is c.in_err-width-in-Integer.ensures.err

pub returns-in_err-space-in-Pointer-clause-err : goal.returns-in_err-space-in-Pointer-clause-err
returns-in_err-space-in-Pointer-clause-err c = λ _ structs. no_pointer structs _ _ c.in-Pointer.is c.in_err-space-in-Pointer.ensures.err

pub returns-in_default-clause-err : goal.returns-in_default-clause-err
returns-in_default-clause-err c = λ _ structs.
    no_head structs c.args.first.now c.in_default.not-Void c.in_default.not-Integer c.in_default.not-Pointer c.in_default.not-Floating c.requires.array c.requires.vector c.requires.structure c.requires.func _
