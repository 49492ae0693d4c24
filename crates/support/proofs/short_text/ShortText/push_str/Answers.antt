-- What is left to show of `short_text::ShortText::push_str`.
use Rattle.std.proofs.Common.{rules, arith, sym, subst, ◌∙◌}
use Rattle.std.specs.Prelude.{IsUtf8}
use Rattle.std.proofs.lemmas.Str.{IsUtf8-had, IsUtf8-append}
use Rattle.std.proofs.lemmas.Slice.{take-put_mid}
use Rattle.support.proofs.short_text.ShortText.push_str.Goals as goal

pub invariant_of-self : goal.invariant_of-self
invariant_of-self c =
    let same = c.copy_from_slice.ensures.after ∙ c.as_bytes.ensures.value in
    (search rules, ∣ subst IsUtf8 (sym (take-put_mid _ _ c.self.inside.bytes c.copy_from_slice.new.self _ (search rules) (search rules))) (IsUtf8-append _ _ (IsUtf8-had _ c.self.invariant.1) (subst IsUtf8 (sym same) c.utf8.more)) ∣₁)
