-- The grammar and the words are those of LLVM text.
use Rattle.std.proofs.Common.{◌≡◌, Err, None, Some, sym, ap, ◌∙◌}
use Rattle.ll_events.proofs.EventLaws.{not_read}
use Rattle.ll_text.proofs.ReadLaws.{read_of, events_of}
use Rattle.ll_text.proofs.read.read_events.Goals as goal

pub returns-in-Ok-clause-read : goal.returns-in-Ok-clause-read
returns-in-Ok-clause-read c =
    read_of c.llvm-grammar.result c.llvm_words-words.result c.llvm-grammar.ensures c.llvm_words-words.ensures.rows c.llvm_words-words.ensures.names c.args.bytes.now _ _ c.in-Ok.ensures.found

pub returns-in-Err-BadToken-clause-not_yet : goal.returns-in-Err-BadToken-clause-not_yet
returns-in-Err-BadToken-clause-not_yet c = λ e ts es read.
    let failed = c.in-Err-BadToken.is ∙ ap Err c.in-Err-BadToken.field-0-is in
    let bad = c.events.ensures.bad _ failed in
    let both : None ≡ Some ts = sym bad.0 ∙ read.cut in
    cc

pub returns-in-Err-Refused-clause-not_yet : goal.returns-in-Err-Refused-clause-not_yet
returns-in-Err-Refused-clause-not_yet c = λ e ts es read.
    let failed = c.in-Err-Refused.is ∙ ap Err c.in-Err-Refused.field-0-is in
    not_read c.llvm-grammar.result c.llvm_words-words.result 0 c.args.bytes.now _ ts es (c.events.ensures.refused _ failed)
    (events_of c.llvm-grammar.result c.llvm_words-words.result c.llvm-grammar.ensures c.llvm_words-words.ensures.rows c.llvm_words-words.ensures.names c.args.bytes.now ts es read)
