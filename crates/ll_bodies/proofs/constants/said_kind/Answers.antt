-- What `constants::said_kind` owes besides what the check finds.
use Rattle.std.proofs.Common.{List, All, length, sym, subst}
use Rattle.std.proofs.lemmas.Result.{IfOk-weaker}
use Rattle.ll_lines.specs.declared.lines.ConstLine.{ConstLine}
use Rattle.ll_lines.specs.declared.lines.ConstLine.TheVariants as L
use Rattle.ll_lines.specs.declared.lines.SaidConst.{SaidConst}
use Rattle.ll_lines.specs.Views.{IsConstIn, IsConstLineIn}
use Rattle.ll_bodies.specs.TableViews.{MeansKind, line_meant}
use Rattle.ll_bodies.proofs.constants.said_kind.Goals as goal

pub said_chars-requires-clause-ty : goal.said_chars-requires-clause-ty
said_chars-requires-clause-ty c = subst (IsConstLineIn c.args.module.now (length c.args.numbers.now)) c.in-Chars.is c.requires.line

pub returns-in-Chars : goal.returns-in-Chars
returns-in-Chars c = IfOk-weaker c.said_chars.result _ _ (λ o h table meant. rw c.in-Chars.is (h table)) c.said_chars.ensures

pub said_list-requires-clause-ty : goal.said_list-requires-clause-ty
said_list-requires-clause-ty c =
    let line = subst (IsConstLineIn c.args.module.now (length c.args.numbers.now)) c.in-Listed.is c.requires.line in
    line.0

pub said_list-requires-clause-said : goal.said_list-requires-clause-said
said_list-requires-clause-said c =
    let m = c.args.module.now in
    let k = length c.args.numbers.now in
    let line = subst (IsConstLineIn m k) c.in-Listed.is c.requires.line in
    subst (λ (cs : List SaidConst). All (IsConstIn m k) cs) (sym c.as_slice.ensures) line.1

pub returns-in-Listed : goal.returns-in-Listed
returns-in-Listed c =
    let m = c.args.module.now in
    let bytes = c.args.bytes.now in
    IfOk-weaker c.said_list.result _ _ (λ o h table meant.
    rw c.in-Listed.is (subst (λ (cs : List SaidConst). MeansKind m (line_meant bytes m table (L.Listed c.in-Listed.ty c.in-Listed.brackets cs)) o) c.as_slice.ensures (h bytes table meant))) c.said_list.ensures

pub said_splat-requires-clause-ty : goal.said_splat-requires-clause-ty
said_splat-requires-clause-ty c =
    let line = subst (IsConstLineIn c.args.module.now (length c.args.numbers.now)) c.in-Splat.is c.requires.line in
    line.0

pub said_splat-requires-clause-said : goal.said_splat-requires-clause-said
said_splat-requires-clause-said c =
    let line = subst (IsConstLineIn c.args.module.now (length c.args.numbers.now)) c.in-Splat.is c.requires.line in
    line.1

pub returns-in-Splat : goal.returns-in-Splat
returns-in-Splat c = IfOk-weaker c.said_splat.result _ _ (λ o h table meant. rw c.in-Splat.is (h c.args.bytes.now table meant)) c.said_splat.ensures
