-- What a function type says of what it returns and of its parameters.
use Rattle.ll_print.proofs.PartLaws.{type_of_function, types_within, params_count}
use Rattle.ll_print.proofs.functions.signature.Goals as goal

pub returns : goal.returns
returns c =
    let at = rw c.in-Function.is at c.type_kind.ensures.kind in
    let m = c.args.m.now in
    let typed = type_of_function m c.args.f c.function_type.result c.in-Function.returned c.in-Function.params c.in-Function.variadic c.requires.sound c.function_type.ensures.ty at in
    let within = types_within m.types c.function_type.result c.in-Function.returned c.in-Function.params c.in-Function.variadic at (rw c.in-Function.is at c.type_kind.ensures.parts) in
    record {
      returned = typed.returned;
      returned_within = within.0;
      within = rw c.as_slice.ensures within.1;
      all = rw c.as_slice.ensures (params_count m c.args.f c.function_type.result c.in-Function.returned c.in-Function.params c.in-Function.variadic at c.function_type.ensures.params);
      typed = rw c.as_slice.ensures typed.typed;
    }
