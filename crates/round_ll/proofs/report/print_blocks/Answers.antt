-- The name is that of the function, and what of the line stands where memory was wanting.
use Rattle.std.proofs.Common.{ℕ, ◌≡◌, List, ◌++◌, ◌∷◌, [], ap, codes, sym, subst, arith}
use Rattle.std.proofs.lemmas.Grind.{common_steps}
use Rattle.llvm_core.specs.Data.{data_of}
use Rattle.ll_literals.specs.Names.{printed_name}
use Rattle.round_ll.specs.Report.{name_of, places_text, HoldsFront}
use Rattle.round_ll.proofs.ReportLaws.{name_of-function, front_done, front_in_line, front_of, on_err}
use Rattle.round_ll.proofs.report.print_blocks.Goals as goal

pub returns-clause-ok : goal.returns-clause-ok
returns-clause-ok c =
    let named = ap printed_name (name_of-function c.args.«module».now c.args.blocks.now.function.0 c.function_name.result.now c.function_name.ensures) in
    grind (arith, common_steps, named)

pub returns-in_err-print_symbol-clause-err : goal.returns-in_err-print_symbol-clause-err
returns-in_err-print_symbol-clause-err c =
    let before = c.args.out.now.items in
    let after = c.print_symbol.new.out.items in
    let is : after ≡ before ++ codes "blocks @" = cc (c.in_ok-extend_from_slice.ensures.items, c.in_err-print_symbol.ensures.err) in
    on_err _ c.from_residual-in_err-print_symbol.result
    (front_of before after _ (10 ∷ []) (front_of before after _ (places_text c.args.blocks.now.places) (front_done before after (codes "blocks @") _ is)))

pub returns-in_err-print_places-clause-err : goal.returns-in_err-print_places-clause-err
returns-in_err-print_places-clause-err c =
    let named = ap printed_name (name_of-function c.args.«module».now c.args.blocks.now.function.0 c.function_name.result.now c.function_name.ensures) in
    let before = c.args.out.now.items in
    let middle = c.print_symbol.new.out.items in
    let is : middle ≡ (before ++ codes "blocks @") ++ printed_name c.function_name.result.now = cc (c.in_ok-extend_from_slice.ensures.items, c.in_ok-print_symbol.ensures.ok) in
    let places = λ (ps : List ℕ). HoldsFront middle c.print_places.new.out.items (places_text ps) in
    let here = subst places c.as_slice.ensures c.in_err-print_places.ensures.err in
    on_err _ c.from_residual-in_err-print_places.result
    (front_in_line before middle c.print_places.new.out.items (codes "blocks @") _ _ (places_text c.args.blocks.now.places) (10 ∷ []) (sym named) is here)

pub returns-in_err-push-clause-err : goal.returns-in_err-push-clause-err
returns-in_err-push-clause-err c =
    let named = ap printed_name (name_of-function c.args.«module».now c.args.blocks.now.function.0 c.function_name.result.now c.function_name.ensures) in
    let before = c.args.out.now.items in
    let after = c.push.new.self.items in
    let done = (codes "blocks @" ++ printed_name (name_of (data_of c.args.«module».now) c.args.blocks.now.function.0)) ++ places_text c.args.blocks.now.places in
    let is : after ≡ before ++ done = grind (arith, common_steps, named) in
    on_err _ c.from_residual-in_err-push.result (front_done before after done (10 ∷ []) is)
