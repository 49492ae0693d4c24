-- The constant is the one form of the kind that was made.
use Rattle.std.proofs.Common.{◌∙◌}
use Rattle.llvm_core.specs.Consts.{one_form}
use Rattle.const_attrs.specs.Trees.{attr_data}
use Rattle.to_llvm_ir.proofs.ConstantLaws.{const_got, rest_then}
use Rattle.to_llvm_ir.proofs.GrowthLaws.{grows_const, grows_then}
use Rattle.to_llvm_ir.proofs.constants.const_for.Goals as goal

pub returns : goal.returns
returns c =
    let kind = c.in_ok-kind.ensures in
    let got = c.in_ok-c.ensures in
    let old = c.args.back.now in
    let m = c.kind_for.new.back in
    let new = c.const_get.new.self in
    record {
      is = λ ts h. const_got ts m new (attr_data c.args.value.now) c.in_ok-kind.kind (one_form m c.in_ok-kind.kind) c.in_ok-c.c (kind.form ts h) got.interned got.form;
      grows = grows_then old m new kind.grows (grows_const m new (one_form m c.in_ok-kind.kind) c.in_ok-c.c.0 got.interned got.rest);
      rest = rest_then old m new kind.rest got.rest;
      «data» = got.data ∙ kind.data;
      sound = got.sound;
    }
