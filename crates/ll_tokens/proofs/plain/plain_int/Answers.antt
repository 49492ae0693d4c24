-- It ends plainly.
use Rattle.std.proofs.Common.{◌≡◌, ◌∙◌, true, slice_index, sym, ap, arith}
use Rattle.std.proofs.lemmas.List.{get_or_past}
use Rattle.ll_tokens.specs.Bytes.{ends_name}
use Rattle.ll_tokens.proofs.PlainLaws.{int}
use Rattle.ll_tokens.proofs.plain.plain_int.Goals as goal
use Rattle.ll_tokens.proofs.plain.plain_int.Goals.{then-n-bytes, else-n-bytes}

pub returns-then-ends_name : goal.returns-then-ends_name
returns-then-ends_name c =
    let bytes = c.args.bytes.now in
    let n = c.run_len-n.result in
    let end : ends_name (slice_index bytes n) ≡ true = elim c.if-n-bytes.branch [
      | then-n-bytes w ↦ ap ends_name (get_or_past bytes n 0 (omega arith))
      | else-n-bytes w ↦ sym w.ends_name.ensures ∙ sym w.value-is ∙ c.if-ends_name.true
    ] in
    int bytes n c.requires c.run_len-n.ensures.run end
