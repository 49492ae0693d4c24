-- What `written::define_quoted` owes besides what the check finds.
use Rattle.std.proofs.Common.{◌≡◌, Some, string_bytes, ap, sym, ◌∙◌}
use Rattle.std.specs.Option.{option_map}
use Rattle.std.specs.Cow.{cow_str_bytes}
use Rattle.std.proofs.lemmas.Result.{on_ok_weaker}
use Rattle.ll_literals.specs.Names.{quoted_name}
use Rattle.ll_bodies.specs.ScopeViews.{local_view}
use Rattle.ll_bodies.proofs.ScopeLaws.{takes_same, refuses_same}
use Rattle.ll_bodies.proofs.WrittenLaws.{name_defined}
use Rattle.ll_bodies.proofs.written.define_quoted.Goals as goal

pub returns-in-Ok-Some-Borrowed-clause-ok : goal.returns-in-Ok-Some-Borrowed-clause-ok
returns-in-Ok-Some-Borrowed-clause-ok c =
    let x = c.in-Ok-Some-Borrowed in
    let said : Some x.name.now ≡ quoted_name c.args.written.now = sym (ap (option_map cow_str_bytes) (x.field-0-is ∙ ap Some x.field-0-0-is)) ∙ x.ensures in
    on_ok_weaker c.define_under.result
    (λ h types. takes_same types c.args.scope.now c.define_under.new.self _ _ (h types) (name_defined (quoted_name c.args.written.now) x.name.now said (local_view types c.args.local)))
    c.define_under.ensures.ok

pub returns-in-Ok-Some-Borrowed-clause-not_yet : goal.returns-in-Ok-Some-Borrowed-clause-not_yet
returns-in-Ok-Some-Borrowed-clause-not_yet c = λ e types.
    let x = c.in-Ok-Some-Borrowed in
    let said : Some x.name.now ≡ quoted_name c.args.written.now = sym (ap (option_map cow_str_bytes) (x.field-0-is ∙ ap Some x.field-0-0-is)) ∙ x.ensures in
    refuses_same types c.args.scope.now _ _ (c.define_under.ensures.not_yet e types) (name_defined (quoted_name c.args.written.now) x.name.now said (local_view types c.args.local))

pub returns-in_ok-define_escaped-in-Ok-Some-Owned-clause-ok : goal.returns-in_ok-define_escaped-in-Ok-Some-Owned-clause-ok
returns-in_ok-define_escaped-in-Ok-Some-Owned-clause-ok c = λ types.
    let x = c.in-Ok-Some-Owned in
    let said : Some (string_bytes x.name) ≡ quoted_name c.args.written.now = sym (ap (option_map cow_str_bytes) (x.field-0-is ∙ ap Some x.field-0-0-is)) ∙ x.ensures in
    takes_same types c.args.scope.now c.define_escaped.new.self _ _ (c.in_ok-define_escaped-in-Ok-Some-Owned.ensures.ok types) (name_defined (quoted_name c.args.written.now) (string_bytes x.name) said (local_view types c.args.local))
