-- What `module::LLVMModule::named_pieces` owes besides what the check finds.
use Rattle.std.proofs.Common.{List, map, ap, sym}
use Rattle.std.specs.Option.{option_map}
use Rattle.llvm_core.specs.declared.pieces.Piece.TheVariants as P
use Rattle.llvm_core.proofs.PieceLemmas.{fields_untold}
use Rattle.llvm_core.proofs.module.LLVMModule.named_pieces.Goals as goal

pub returns-in-None : goal.returns-in-None
returns-in-None c = sym (ap (option_map (map (P.Filled c.args.fill))) (fields_untold c.args.self.now.structs c.args.name.now c.in-None.ensures.none))
