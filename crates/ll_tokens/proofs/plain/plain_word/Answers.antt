-- It ends plainly.
use Rattle.std.proofs.Common.{◌≡◌, ◌∙◌, true, slice_index, sym, ap, arith}
use Rattle.std.proofs.lemmas.List.{get_or_past}
use Rattle.ll_tokens.specs.Bytes.{ends_name}
use Rattle.ll_tokens.proofs.PlainLaws.{word, label}
use Rattle.ll_tokens.proofs.plain.plain_word.Goals as goal
use Rattle.ll_tokens.proofs.plain.plain_word.Goals.{then-n-bytes, else-n-bytes}

pub returns-then-ends_name : goal.returns-then-ends_name
returns-then-ends_name c =
    let bytes = c.args.bytes.now in
    let n = c.word_len-n.result in
    let end : ends_name (slice_index bytes n) ≡ true = elim c.if-n-bytes.branch [
      | then-n-bytes w ↦ ap ends_name (get_or_past bytes n 0 (omega arith))
      | else-n-bytes w ↦ sym w.ends_name.ensures ∙ sym w.value-is ∙ c.if-ends_name.true
    ] in
    word bytes n c.requires c.word_len-n.ensures.run end

pub returns-then-bytes-n-eq58 : goal.returns-then-bytes-n-eq58
returns-then-bytes-n-eq58 c = label c.args.bytes.now c.word_len-n.result c.requires c.word_len-n.ensures.run c.if-bytes-n-eq58.true
