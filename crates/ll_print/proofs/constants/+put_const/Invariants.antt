-- How `constants::put_const` and what it calls end, and what has been printed of elements.
use Rattle.std.proofs.Common.{◌≡◌, ◌+◌, ◌*◌, ◌++◌, take, map}
use Rattle.llvm_core.specs.declared.numbers.LLVMConst.{LLVMConst}
use Rattle.llvm_core.specs.Data.{trees_of, structs_of, const_at}
use Rattle.ll_print.specs.Parts.{element_text}
use Rattle.ll_print.proofs.StrungLaws.{strung, behind_comma}
use Rattle.ll_print.proofs.ReachLaws.{reach}
use Rattle.ll_print.proofs.constants.+put_const.Given as goal

-- the parts of a constant are earlier ones
abbrev pub decreases-put_const : goal.decreases-put_const
decreases-put_const l = 4 * (l.c.0 + 1)

abbrev pub decreases-put_element : goal.decreases-put_element
decreases-put_element l = 4 * (l.c.0 + 1) + 1

abbrev pub decreases-put_splat : goal.decreases-put_splat
decreases-put_splat l = 4 * (l.element.0 + 1) + 2

abbrev pub decreases-put_elements : goal.decreases-put_elements
decreases-put_elements l = 4 * reach (λ (c : LLVMConst). c.0) l.elements.now + 2

abbrev pub decreases-put_list : goal.decreases-put_list
decreases-put_list l = 4 * reach (λ (c : LLVMConst). c.0) l.elements.now + 3

abbrev pub invariant-put_elements-loop-place : goal.invariant-put_elements-loop-place
invariant-put_elements-loop-place l =
    let element = element_text (structs_of l.m) in
    l.out.items ≡ l.fn.out.items ++ strung element (behind_comma element) (take l.place (map (const_at (trees_of l.m).consts) l.elements))
