-- The operands and blocks of an instruction belong to the function.
use Rattle.ll_print.proofs.instructions.put_inst.Goals as goal

pub put_phi-requires-clause-own : goal.put_phi-requires-clause-own
put_phi-requires-clause-own c = rw c.as_slice.ensures (rw c.in-Phi.is at c.requires.own)

pub put_row-requires-clause-operands : goal.put_row-requires-clause-operands
put_row-requires-clause-operands c = let own = rw c.in-Row.is at c.requires.own in own.0

pub put_row-requires-clause-targets : goal.put_row-requires-clause-targets
put_row-requires-clause-targets c = let own = rw c.in-Row.is at c.requires.own in own.1

pub put_row-requires-clause-written : goal.put_row-requires-clause-written
put_row-requires-clause-written c = let own = rw c.in-Row.is at c.requires.own in own.2
