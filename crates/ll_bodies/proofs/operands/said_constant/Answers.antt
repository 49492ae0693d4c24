-- What `operands::said_constant` owes besides what the check finds.
use Rattle.std.proofs.Common.{◌≡◌, ap, sym, ◌∙◌, Option, Some, None, if◌then◌else◌, subst, ◌<◌, length}
use Rattle.std.specs.Prelude.{IfSome}
use Rattle.std.specs.Option.{option_map}
use Rattle.kinds.specs.Types.{same_tree}
use Rattle.llvm_core.specs.declared.numbers.LLVMConst.{LLVMConst}
use Rattle.llvm_core.specs.Data.{ConstTree, type_at, const_at, const_type, trees_of}
use Rattle.llvm_core.specs.Data as D
use Rattle.ll_literals.specs.Chain.{◌>>=◌}
use Rattle.ll_bodies.specs.SourceViews.{made_in, const_in}
use Rattle.ll_bodies.proofs.TableLaws.{number_means, number_there}
use Rattle.ll_bodies.proofs.operands.said_constant.Goals as goal

pub constant-requires-clause-constant : goal.constant-requires-clause-constant
constant-requires-clause-constant c =
    let s = c.args.source.now in
    subst (λ (o : Option LLVMConst). IfSome o (λ (d : LLVMConst). d.0 < length s.module.now.consts)) (sym c.number.ensures ∙ c.in-Some.is)
    (number_there s.bytes.now s.module.now s.table.now (made_in s) s.consts.now c.requires.source.made c.args.said c.requires.said)

pub returns-in-Some : goal.returns-in-Some
returns-in-Some c =
    let s = c.args.source.now in
    let means = number_means s.bytes.now s.module.now s.table.now (made_in s) s.consts.now c.requires.source.made c.args.said c.requires.said in
    let is = sym means ∙ ap (option_map (const_at (trees_of s.module.now).consts)) (sym c.number.ensures ∙ c.in-Some.is) in
    ap (λ (o : Option ConstTree). o >>= λ d. if same_tree (const_type d) (type_at (trees_of s.module.now).types c.args.ty) then Some (D.Constant d) else None) is ∙ c.constant.ensures

pub returns-in-None : goal.returns-in-None
returns-in-None c =
    let s = c.args.source.now in
    let means = number_means s.bytes.now s.module.now s.table.now (made_in s) s.consts.now c.requires.source.made c.args.said c.requires.said in
    let is = sym means ∙ ap (option_map (const_at (trees_of s.module.now).consts)) (sym c.number.ensures ∙ c.in-None.is) in
    ap (λ (o : Option ConstTree). o >>= λ d. if same_tree (const_type d) (type_at (trees_of s.module.now).types c.args.ty) then Some (D.Constant d) else None) is
