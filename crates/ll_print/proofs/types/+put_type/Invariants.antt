-- How `types::put_type` and what it calls end, and what has been printed of fields.
use Rattle.std.proofs.Common.{◌≡◌, ◌+◌, ◌*◌, ◌++◌, take, map}
use Rattle.llvm_core.specs.declared.numbers.LLVMType.{LLVMType}
use Rattle.llvm_core.specs.Data.{trees_of, type_at}
use Rattle.ll_print.specs.Printing.{type_text}
use Rattle.ll_print.proofs.StrungLaws.{strung, behind_comma}
use Rattle.ll_print.proofs.FieldLaws.{first_field}
use Rattle.ll_print.proofs.ReachLaws.{reach}
use Rattle.ll_print.proofs.types.+put_type.Given as goal

-- the parts of a type are earlier ones
abbrev pub decreases-put_type : goal.decreases-put_type
decreases-put_type l = 3 * (l.ty.0 + 1)

abbrev pub decreases-put_counted : goal.decreases-put_counted
decreases-put_counted l = 3 * (l.element.0 + 1) + 1

abbrev pub decreases-put_fields : goal.decreases-put_fields
decreases-put_fields l = 3 * reach (λ (t : LLVMType). t.0) l.fields.now + 1

abbrev pub decreases-put_struct : goal.decreases-put_struct
decreases-put_struct l = 3 * reach (λ (t : LLVMType). t.0) l.fields.now + 2

abbrev pub invariant-put_fields-loop-place : goal.invariant-put_fields-loop-place
invariant-put_fields-loop-place l = l.out.items ≡ l.fn.out.items ++ strung first_field (behind_comma type_text) (take l.place (map (type_at (trees_of l.m).types) l.fields))
