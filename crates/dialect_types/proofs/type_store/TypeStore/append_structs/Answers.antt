-- What `type_store::TypeStore::append_structs` owes besides what the check finds.
use Rattle.std.proofs.Common.{◌<◌, length, get_or, arith}
use Rattle.std.proofs.lemmas.Option.{slice_get-get_or}
use Rattle.dialect_types.specs.declared.types.TypeKind.TheVariants.{Void}
use Rattle.dialect_types.specs.Trees.{type_trees}
use Rattle.dialect_types.proofs.TextLemmas.{keeps_then, lines_step, lines_all}
use Rattle.dialect_types.proofs.type_store.TypeStore.append_structs.Goals as goal

pub returns-in_err-append_line-clause-kept : goal.returns-in_err-append_line-clause-kept
returns-in_err-append_line-clause-kept c = keeps_then _ _ _ c.loop-t.invariant.kept c.append_line.ensures.kept

pub loop-t-preserved : goal.loop-t-preserved
loop-t-preserved c =
    let ks = c.args.self.now in
    let within : c.loop-t.t < length ks = omega (arith, c.len-t-end.ensures.len) in
    let k = get_or ks c.loop-t.t Void in
    let at = slice_get-get_or ks c.loop-t.t Void within in
    record {
      printed = lines_step (type_trees ks) ks c.loop-t.t k _ _ _ at c.loop-t.invariant.printed (c.in_ok-append_line.ensures.ok k at);
      kept = keeps_then _ _ _ c.loop-t.invariant.kept c.in_ok-append_line.ensures.kept;
    }

pub returns-clause-ok : goal.returns-clause-ok
returns-clause-ok c = lines_all c.args.self.now c.loop-t.t _ _ (omega (arith, c.len-t-end.ensures.len)) c.loop-t.invariant.printed
