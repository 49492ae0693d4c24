-- What `llvm_rows::action` owes besides what the check finds.
use Rattle.std.proofs.Common.{List, Some, subst, sym, ap, map, ◌∙◌, All}
use Rattle.std.proofs.lemmas.List.Elements.{All-weaker}
use Rattle.std.proofs.lemmas.Option.{slice_get_within}
use Rattle.llvm_core.specs.declared.code.LLVMValue.{LLVMValue}
use Rattle.llvm_core.specs.Parts.{IsValue}
use Rattle.llvm_core.specs.Data.{trees_of, operand_of, operand_type}
use Rattle.tracing.specs.LlvmBodies.{data_in, operand_in, IsUsed}
use Rattle.tracing.proofs.LlvmLaws.{kept_at, kept_type, used_all, action_is}
use Rattle.tracing.specs.Types.{AllStand}
use Rattle.tracing.specs.TypePlaces.{trees_in}
use Rattle.tracing.specs.Tables.{contents_in}
use Rattle.tracing.specs.Bodies.{AreSources}
use Rattle.tracing.proofs.GrowLaws.{all_stay}
use Rattle.tracing.proofs.TablesLaws.{grown_then}
use Rattle.tracing.proofs.llvm_rows.action.Goals as goal

pub operand_types-requires-clause-used : goal.operand_types-requires-clause-used
operand_types-requires-clause-used c =
    let h = c.requires.here.0 in
    (h, subst (All (IsUsed c.args.m.now h)) (sym c.as_slice-values.ensures) (used_all c.args.m.now h c.requires.here.1 c.args.i c.requires.here.2 c.args.row.now c.requires.here.3))

pub sources-requires-clause-values : goal.sources-requires-clause-values
sources-requires-clause-values c =
    let m = c.args.m.now in
    let h = c.requires.here.0 in
    subst (All (IsValue m)) (sym c.as_slice-values.ensures) (All-weaker (IsUsed m h) (IsValue m) (λ v used. used.here) c.args.row.now.operands (used_all m h c.requires.here.1 c.args.i c.requires.here.2 c.args.row.now c.requires.here.3))

pub type_of-requires : goal.type_of-requires
type_of-requires c = let k = kept_at c.args.m.now c.requires.here.0 c.requires.here.1 c.args.i c.requires.here.2 c.requires.here.3.placed in slice_get_within c.args.m.now.insts c.args.i.0 k.kept k.here

pub returns-clause-is : goal.returns-clause-is
returns-clause-is c = λ h b p at.
    let m = c.args.m.now in
    let list = c.as_slice-values.ensures in
    let used = subst (All (IsUsed m h)) (sym list) (used_all m h b c.args.i p c.args.row.now at) in
    let typed = c.in_ok-result_type.ensures.grown in
    let grown = c.in_ok-operands.ensures.grown in
    let operands = subst (λ (vs : List LLVMValue). AllStand (trees_in c.operand_types.new.tables.types) c.in_ok-operand_types.operand_types (map (λ (v : LLVMValue). operand_type (data_in m h) (operand_of (trees_of m) v)) vs)) list (c.in_ok-operand_types.ensures.stand h used) in
    let stand = all_stay _ _ grown.kept.0 _ _ (all_stay _ _ typed.kept.0 _ _ operands) in
    let sources = subst (λ (vs : List LLVMValue). AreSources (contents_in c.sources.new.tables) c.in_ok-operands.operands (map (operand_in m) vs)) list c.in_ok-operands.ensures.are in
    let type = grown.kept.0 _ _ c.in_ok-result_type.ensures.stands ∙ ap Some (kept_type m c.args.i p c.type_of.result (kept_at m h b c.args.i p at.placed) c.type_of.ensures.ty) in
    action_is m h _ p.type c.args.row.now (record { result = c.in_ok-result_type.result_type; operands = c.in_ok-operand_types.operand_types }) c.in_ok-operands.operands type stand sources

pub returns-clause-grown : goal.returns-clause-grown
returns-clause-grown c = grown_then _ _ _ _ (grown_then _ _ _ _ c.in_ok-operand_types.ensures.grown c.in_ok-result_type.ensures.grown) c.in_ok-operands.ensures.grown
