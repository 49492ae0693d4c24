-- What `constants::named_layout` owes besides what the check finds.
use Rattle.std.proofs.Common.{◌≡◌, Option, Some, None, slice_get, sym, ap, ◌∙◌}
use Rattle.std.specs.Option.{option_map}
use Rattle.std.proofs.lemmas.Option.{same_Some, slice_get_within}
use Rattle.llvm_core.specs.declared.structs.StructData.{StructData}
use Rattle.ll_bodies.proofs.ConstantLaws.{layout_missed, layout_found}
use Rattle.ll_bodies.proofs.constants.named_layout.Goals as goal

pub returns-in_default : goal.returns-in_default
returns-in_default c = sym (layout_missed c.args.module.now c.args.name.now c.in_default.ensures.none)

pub struct_body-requires : goal.struct_body-requires
struct_body-requires c =
    let f = c.in-Some.ensures.found in
    slice_get_within c.args.module.now.structs c.in-Some.s.0 f.0 f.1

pub returns-in-Some-struct_body : goal.returns-in-Some-struct_body
returns-in-Some-struct_body c =
    let f = c.in-Some.ensures.found in
    let is = same_Some f.0.body _ (sym (ap (option_map (λ (x : StructData). x.body)) f.1) ∙ c.in-Some-struct_body.ensures.body) in
    sym (layout_found c.args.module.now c.args.name.now f.0 _ f.2 is)

pub returns-in-None : goal.returns-in-None
returns-in-None c =
    let f = c.in-Some.ensures.found in
    let is = same_Some f.0.body None (sym (ap (option_map (λ (x : StructData). x.body)) f.1) ∙ c.in-None.ensures.body) in
    sym (layout_found c.args.module.now c.args.name.now f.0 None f.2 is)
