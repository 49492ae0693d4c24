-- What the loop of `functions::are_narrow_entries` keeps.
use Rattle.std.proofs.Common.{◌≡◌, take, true}
use Rattle.std.specs.List.{list_all}
use Rattle.llvm_core.specs.declared.code.PhiEntry.{PhiEntry}
use Rattle.llvm_form.specs.Narrow.{is_narrow_value}
use Rattle.llvm_form.proofs.functions.are_narrow_entries.Given as goal

abbrev pub invariant-loop-entry : goal.invariant-loop-entry
invariant-loop-entry l = list_all (λ (e : PhiEntry). is_narrow_value l.m e.value) (take l.entry-index l.entries) ≡ true
