-- What `laws::checked_types_nest` owes.
use Rattle.from_consts.proofs.CheckedLaws.{function_nests, operand_nests, result_nests, struct_nests}
use Rattle.from_consts.proofs.laws.checked_types_nest.Goals as goal

pub returns-clause-functions : goal.returns-clause-functions
returns-clause-functions c m f t checked at = function_nests m f t checked at

pub returns-clause-results : goal.returns-clause-results
returns-clause-results c m i t checked at = result_nests m i t checked at

pub returns-clause-structs : goal.returns-clause-structs
returns-clause-structs c m s x t checked sound at named = struct_nests m s x t checked sound at named

pub returns-clause-operands : goal.returns-clause-operands
returns-clause-operands c m i j x v t checked at here typed = operand_nests m i j x v t checked at here typed
