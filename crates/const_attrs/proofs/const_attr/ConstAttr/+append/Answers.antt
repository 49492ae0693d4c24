-- What `ConstAttr::append` and what it calls owe besides what the check finds.
use Rattle.std.proofs.Common.{rules, List, ℕ, ◌++◌, length, arith, sym, ap, ◌∙◌}
use Rattle.std.proofs.lemmas.Result.{on_ok_weaker}
use Rattle.dialect_types.specs.Trees.{type_trees}
use Rattle.dialect_types.specs.Text.{joined}
use Rattle.dialect_types.proofs.TextLemmas.{joined_step, keeps_then}
use Rattle.const_attrs.specs.declared.const_attr.ConstAttr.{ConstAttr, the_lemmas}
use Rattle.const_attrs.specs.Text.{attr_text, attr_texts}
use Rattle.const_attrs.specs.Trees.{attr_tree, attr_trees, attr_data, attrs_data}
use Rattle.const_attrs.proofs.DataLaws.{aggregate_data, splat_data}
use Rattle.const_attrs.proofs.ListLaws.{types_at_index, texts_map}
use Rattle.const_attrs.proofs.PrintedLaws.{all_items, aggregate_printed, splat_printed}
use Rattle.const_attrs.proofs.const_attr.ConstAttr.+append.Goals as goal

pub append-returns-in_ok-append_each-in-Aggregate-clause-ok : goal.append-returns-in_ok-append_each-in-Aggregate-clause-ok
append-returns-in_ok-append_each-in-Aggregate-clause-ok t c =
    let ts = type_trees c.args.types.now in
    let same = ap attr_data c.in-Aggregate.is ∙ aggregate_data c.in-Aggregate.elements c.in-Aggregate.ty in
    let each = c.in_ok-append_each-in-Aggregate.ensures.ok ∙ ap (λ (xs : List ConstAttr). c.extend_from_slice.new.self.items ++ joined (attr_texts (attr_trees ts (attrs_data xs)))) c.as_slice-in-Aggregate.ensures.value in
    on_ok_weaker c.append_end.result (aggregate_printed ts (attrs_data c.in-Aggregate.elements.items) c.in-Aggregate.ty _ _ _ _ _ same c.in_ok-extend_from_slice-in-Aggregate.ensures.items each) c.append_end.ensures.ok

pub append-returns-in_ok-append-in-Splat-clause-ok : goal.append-returns-in_ok-append-in-Splat-clause-ok
append-returns-in_ok-append-in-Splat-clause-ok t c =
    let ts = type_trees c.args.types.now in
    let same = ap attr_data c.in-Splat.is ∙ splat_data c.in-Splat.element c.in-Splat.ty in
    let one = c.in_ok-append-in-Splat.ensures.ok ∙ ap (λ (x : ConstAttr). c.extend_from_slice-in-Splat.new.self.items ++ attr_text (attr_tree ts (attr_data x))) c.deref.ensures in
    on_ok_weaker c.append_end-in-Splat.result (splat_printed ts (attr_data c.in-Splat.element.value) c.in-Splat.ty _ _ _ _ _ same c.in_ok-extend_from_slice-in-Splat.ensures.items one) c.append_end-in-Splat.ensures.ok

pub append_each-append-requires : goal.append_each-append-requires
append_each-append-requires t c = (search (rules, the_lemmas), types_at_index (length c.args.types.now) c.args.elements.now c.loop-i.i c.index-elements-i.result c.requires c.loop-i-test.true c.index-elements-i.is)

pub append_each-returns-in_err-append-clause-kept : goal.append_each-returns-in_err-append-clause-kept
append_each-returns-in_err-append-clause-kept t c =
    keeps_then _ _ _ c.loop-i.invariant.kept (keeps_then _ _ _ c.in_ok-print_comma_before.ensures.kept c.append.ensures.kept)

pub append_each-loop-i-preserved : goal.append_each-loop-i-preserved
append_each-loop-i-preserved t c =
    let text = λ (x : ConstAttr). attr_text (attr_tree (type_trees c.args.types.now) (attr_data x)) in
    let here = ap (λ (x : ConstAttr). c.print_comma_before.new.out.items ++ text x) c.index-elements-i.is in
    record {
      printed =
          joined_step text c.args.elements.now c.loop-i.i c.index-elements-i.result _ _ _ _
          c.loop-i-test.true c.loop-i.invariant.printed c.in_ok-print_comma_before.ensures.ok (c.in_ok-append.ensures.ok ∙ here);
      kept = keeps_then _ _ _ c.loop-i.invariant.kept (keeps_then _ _ _ c.in_ok-print_comma_before.ensures.kept c.in_ok-append.ensures.kept);
    }

pub append_each-returns-clause-ok : goal.append_each-returns-clause-ok
append_each-returns-clause-ok t c =
    let ts = type_trees c.args.types.now in
    let xs = c.args.elements.now in
    all_items (λ (x : ConstAttr). attr_text (attr_tree ts (attr_data x))) xs c.loop-i.i _ _ (omega arith) c.loop-i.invariant.printed ∙ ap (λ (ys : List (List ℕ)). c.args.out.now.items ++ joined ys) (sym (texts_map ts xs))
