-- What `quotes::unescaped_text` owes besides what the check finds.
use Rattle.std.proofs.Common.{◌≡◌, ◌++◌, List, ℕ, true, false, true≢false, string_bytes, ap, sym, ◌∙◌, subst, IsUtf8}
use Rattle.std.specs.Prelude.{IsOk}
use Rattle.std.proofs.lemmas.Str.{IsUtf8-string_bytes}
use Rattle.ll_literals.specs.Escapes.{unescaped}
use Rattle.ll_literals.proofs.TextBytes.{text_if, none_if}
use Rattle.ll_literals.proofs.quotes.unescaped_text.Goals as goal

pub returns-in-Ok : goal.returns-in-Ok
returns-in-Ok c =
    let said : c.unescape.new.out.items ≡ unescaped c.args.inside.now = c.in_ok-unescape.ensures ∙ ap (λ (bs : List ℕ). bs ++ unescaped c.args.inside.now) c.in_ok-bytes.ensures.items in
    let same : string_bytes c.in-Ok.text ≡ unescaped c.args.inside.now = ap (λ v. v.items) c.in-Ok.ensures.ok ∙ said in
    text_if (string_bytes c.in-Ok.text) (unescaped c.args.inside.now) same (subst IsUtf8 same (IsUtf8-string_bytes c.in-Ok.text))

pub returns : goal.returns
returns c =
    let said : c.unescape.new.out.items ≡ unescaped c.args.inside.now = c.in_ok-unescape.ensures ∙ ap (λ (bs : List ℕ). bs ++ unescaped c.args.inside.now) c.in_ok-bytes.ensures.items in
    none_if (unescaped c.args.inside.now) (λ text. let both : false ≡ true = subst IsOk c.in-Err.is (c.from_utf8.ensures.succeeds (subst IsUtf8 (sym said) text)) in absurd (true≢false (sym both)))
