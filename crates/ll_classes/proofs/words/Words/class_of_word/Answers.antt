-- A text is looked up in its bucket.
use Rattle.std.proofs.Common.{◌∙◌, sym, ap, ℕ, slice_get}
use Rattle.ll_classes.specs.Words.{class_among, words_at}
use Rattle.ll_classes.proofs.WordLaws.{looked_up}
use Rattle.ll_classes.proofs.words.Words.class_of_word.Goals as goal

pub returns : goal.returns
returns c =
    let w = c.args.self.now in
    c.class_in.ensures ∙ ap (λ (n : ℕ). class_among (words_at w.texts.now w.words.now (slice_get w.buckets.now n)) c.args.text.now) c.bucket_of.ensures ∙ sym (looked_up w c.args.text.now)
