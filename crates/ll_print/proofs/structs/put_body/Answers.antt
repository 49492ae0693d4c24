-- The fields are printed as those of a struct without a name.
use Rattle.std.proofs.Common.{List, Some, None, All, length, codes, ◌<◌, ap, sym, subst, ◌∙◌}
use Rattle.llvm_core.specs.declared.numbers.LLVMType.{LLVMType}
use Rattle.llvm_core.specs.Data.{StructType, trees_of, types_at}
use Rattle.ll_print.specs.Printing.{type_text}
use Rattle.ll_print.proofs.TextLaws.{ok_is, ok_extended}
use Rattle.ll_print.proofs.StructLaws.{body_read}
use Rattle.ll_print.proofs.structs.put_body.Goals as goal

pub put_struct-requires-clause-within : goal.put_struct-requires-clause-within
put_struct-requires-clause-within c = subst (All (λ (t : LLVMType). t.0 < length c.args.m.now.types)) (sym c.as_slice.ensures) c.in-Some.ensures.within.within

pub returns-in-Some-clause-text : goal.returns-in-Some-clause-text
returns-in-Some-clause-text c =
    ok_is _ _ _ _ _ c.put_struct.ensures.text
    (body_read c.args.m.now c.args.s (Some c.in-Some.fields.now) c.in-Some.ensures.body
    ∙ ap (λ (ts : List LLVMType). type_text (StructType c.in-Some.fields.now.layout (types_at (trees_of c.args.m.now).types ts))) (sym c.as_slice.ensures))

pub returns-in-None-clause-text : goal.returns-in-None-clause-text
returns-in-None-clause-text c =
    ok_is _ _ _ _ _ (ok_extended c.extend_from_slice.result _ _ (codes "opaque") c.extend_from_slice.ensures.items) (body_read c.args.m.now c.args.s None c.in-None.ensures.body)
