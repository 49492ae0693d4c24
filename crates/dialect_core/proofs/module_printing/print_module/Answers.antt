-- What `module_printing::print_module` owes besides what the check finds.
use Rattle.std.proofs.Common.{List, ℕ, ap, ◌++◌, ◌∙◌}
use Rattle.std.proofs.lemmas.Result.{on_ok_weaker}
use Rattle.dialect_types.specs.Trees.{structs_of}
use Rattle.dialect_core.specs.Data.{data_of}
use Rattle.dialect_core.specs.Numbering.{value_at, block_at}
use Rattle.dialect_core.proofs.ModulePrintLemmas.{module_text_is}
use Rattle.dialect_core.proofs.module_printing.print_module.Goals as goal

pub returns-clause-ok : goal.returns-clause-ok
returns-clause-ok c =
    on_ok_weaker c.print_numbered.result (λ e. e
    ∙ ap (λ (t : List ℕ). c.args.out.now.items ++ t) (module_text_is (value_at c.in_ok-numbers.numbers) (block_at c.in_ok-numbers.numbers) (structs_of c.args.ctx.now.types) (data_of c.args.ctx.now c.args.root.0.0) c.in_ok-numbers.ensures.values c.in_ok-numbers.ensures.blocks)) c.print_numbered.ensures.ok
