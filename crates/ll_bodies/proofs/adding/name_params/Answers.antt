-- What `adding::name_params` owes besides what the check finds.
use Rattle.std.proofs.Common.{ℕ, List, ◌+◌, ap, sym, ◌∙◌, drop, arith}
use Rattle.std.proofs.lemmas.Option.{slice_get-get_or}
use Rattle.llvm_core.specs.Data.{ModuleData, data_of, with_param}
use Rattle.ll_bodies.specs.AddingViews.{names_in, with_params}
use Rattle.ll_bodies.proofs.AddingLaws.{renamed_within, renames_one, names_at}
use Rattle.ll_bodies.proofs.adding.name_params.Goals as goal

pub loop-param-preserved : goal.loop-param-preserved
loop-param-preserved c =
    let at = c.loop-param.param-index in
    let i = c.loop-param.invariant in
    let ps = c.args.params.now in
    let here = slice_get-get_or ps at _ c.loop-param-test.true in
    let d = data_of c.loop-param.module in
    let is = c.in_ok-set_param_name.ensures.data ∙ ap (λ (k : ℕ). with_param d c.args.f.0 k c.as_str.result.now) i.place ∙ ap (λ (t : List ℕ). with_param d c.args.f.0 at t) (c.as_str.ensures.value ∙ c.in_ok-name.ensures) in
    record {
      place = c.in_ok-place.ensures.next ∙ ap (λ (k : ℕ). k + 1) i.place;
      renames = renames_one c.args.f c.args.module.now c.loop-param.module c.set_param_name.new.self c.loop-param.place c.as_str.result.now i.renames c.in_ok-set_param_name.ensures.ok;
      left = ap (λ (z : ModuleData). with_params z c.args.f.0 (at + 1) (names_in c.args.bytes.now (drop (at + 1) ps))) is ∙ sym (names_at c.args.bytes.now d c.args.f.0 ps at _ here) ∙ i.left;
      sound = λ s. c.set_param_name.ensures.sound;
    }

pub set_param_name-requires : goal.set_param_name-requires
set_param_name-requires c =
    renamed_within c.args.f c.args.module.now c.loop-param.module c.loop-param.place c.loop-param.invariant.renames (omega (arith, c.loop-param.invariant.place, c.loop-param-test.true, c.requires))
