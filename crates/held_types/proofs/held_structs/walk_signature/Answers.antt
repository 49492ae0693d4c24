-- What `held_structs::walk_signature` owes besides what the check finds.
use Rattle.std.proofs.Common.{◌≡◌, ◌<◌, ℕ, List, All, length, true, sym, subst}
use Rattle.std.specs.Prelude.{OnOk}
use Rattle.llvm_core.specs.declared.numbers.LLVMType.{LLVMType}
use Rattle.llvm_core.specs.Depths.{nests_at, all_nest_at}
use Rattle.held_types.specs.Values.{IsInSignature}
use Rattle.held_types.specs.Walk.{IsIn, IsAmong, Walked}
use Rattle.held_types.proofs.WalkLaws.{on_ok_as, walked_both}
use Rattle.held_types.proofs.ValueLaws.{signature_at, params_within, signature_nests, signature_split, returned_in, taken_in}
use Rattle.held_types.proofs.held_structs.walk_signature.Goals as goal

pub visit-requires-clause-nested : goal.visit-requires-clause-nested
visit-requires-clause-nested c =
    let m = c.args.m.now in
    let k = c.in-Function in
    let x = signature_at m c.args.f.0 c.function_type.result c.type_kind.result.now k.result k.params k.variadic c.requires.within c.function_type.ensures.ty c.type_kind.ensures.kind k.is in
    let nested = signature_nests m c.requires.sound c.args.f.0 x.0 k.result k.params k.variadic x.1 x.2 c.requires.form in
    subst (λ (n : ℕ). nests_at m k.result n ≡ true) (sym c.deepest.ensures) nested.0

pub visit_all-requires-clause-within : goal.visit_all-requires-clause-within
visit_all-requires-clause-within c =
    let m = c.args.m.now in
    let k = c.in-Function in
    let x = signature_at m c.args.f.0 c.function_type.result c.type_kind.result.now k.result k.params k.variadic c.requires.within c.function_type.ensures.ty c.type_kind.ensures.kind k.is in
    subst (All (λ (t : LLVMType). t.0 < length m.types)) (sym c.as_slice.ensures) (params_within m x.0.ty.0 k.params k.result k.variadic c.requires.sound x.2)

pub visit_all-requires-clause-nested : goal.visit_all-requires-clause-nested
visit_all-requires-clause-nested c =
    let m = c.args.m.now in
    let k = c.in-Function in
    let x = signature_at m c.args.f.0 c.function_type.result c.type_kind.result.now k.result k.params k.variadic c.requires.within c.function_type.ensures.ty c.type_kind.ensures.kind k.is in
    let nested = signature_nests m c.requires.sound c.args.f.0 x.0 k.result k.params k.variadic x.1 x.2 c.requires.form in
    subst (λ (n : ℕ). all_nest_at m c.as_slice.result.now n ≡ true) (sym c.deepest-in-Function.ensures) (subst (λ (ts : List LLVMType). all_nest_at m ts _ ≡ true) (sym c.as_slice.ensures) nested.1)

pub returns-clause-walk : goal.returns-clause-walk
returns-clause-walk c =
    let m = c.args.m.now in
    let f = c.args.f.0 in
    let k = c.in-Function in
    let x = signature_at m f c.function_type.result c.type_kind.result.now k.result k.params k.variadic c.requires.within c.function_type.ensures.ty c.type_kind.ensures.kind k.is in
    let r = c.visit_all.result in
    let old = c.args.walk.now in
    let mid = c.visit.new.walk in
    let new = c.visit_all.new.walk in
    let both : Walked m (IsAmong m k.params) mid new → Walked m (IsInSignature m f) old new =
    λ w. walked_both m (IsIn m k.result) (IsAmong m k.params) (IsInSignature m f) old mid new c.in_ok-visit-in-Function.ensures.walk w (signature_split m c.requires.sound f x.0 k.result k.params k.variadic x.1 x.2)
    (returned_in m c.requires.sound f x.0 k.result k.params k.variadic x.1 x.2) (taken_in m c.requires.sound f x.0 k.result k.params k.variadic x.1 x.2) in
    on_ok_as r both (subst (λ (ts : List LLVMType). OnOk r (Walked m (IsAmong m ts) mid new)) c.as_slice.ensures c.visit_all.ensures.walk)
