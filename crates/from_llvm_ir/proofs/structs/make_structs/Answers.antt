-- What `structs::make_structs` owes besides what the check finds.
use Rattle.std.proofs.Common.{ℕ, List, refl, ap, sym, subst, ◌≡◌, ◌∙◌, slice_index_or}
use Rattle.std.specs.Prelude.{position}
use Rattle.std.specs.Str.{bytes_eq}
use Rattle.std.proofs.lemmas.Option.{slice_get-get_or}
use Rattle.llvm_core.specs.Data.{data_of}
use Rattle.dialect_types.specs.declared.struct_err.StructErr.TheVariants as reasons
use Rattle.dialect_types.specs.Trees.{structs_of}
use Rattle.renamed_source.specs.Names.{struct_name}
use Rattle.renamed_source.specs.Source.{pairs_of}
use Rattle.renamed_source.proofs.SourceLaws.{unfound}
use Rattle.from_llvm_ir.specs.Imported.{IsIn}
use Rattle.from_llvm_ir.specs.Structs.{source_names, identifiers, HasOtherBody}
use Rattle.from_consts.proofs.GivesLaws.{adds_none, adds_then}
use Rattle.from_llvm_ir.proofs.NamingLaws.{found_within, pairs_within, pair_found}
use Rattle.held_types.proofs.WalkLaws.{passed_on}
use Rattle.from_llvm_ir.proofs.StructLaws.{identifier_listed, only_same, only_then, making_none, held_within, all_made, sound_under, fields_held, fields_ready, step_made, step_other, name_listed}
use Rattle.from_llvm_ir.proofs.structs.make_structs.Goals as goal

pub returns-in_err-names-clause-only : goal.returns-in_err-names-clause-only
returns-in_err-names-clause-only c = only_same (structs_of c.args.ctx.now.types) (structs_of c.args.ctx.now.types) (identifiers (pairs_of c.args.pairs.now)) refl

pub loop-s-init : goal.loop-s-init
loop-s-init c =
    let first = structs_of c.args.ctx.now.types in
    record {
      added = adds_none c.args.ctx.now;
      only = only_same first first (identifiers (pairs_of c.args.pairs.now)) refl;
      making = making_none (data_of c.args.module.now) (struct_name (pairs_of c.args.pairs.now)) c.args.held.now first;
    }

pub struct_name-requires : goal.struct_name-requires
struct_name-requires c =
    let n = slice_index_or c.args.held.now c.loop-s.s-index (record { 0 = 0 }) in
    let there : IsIn c.args.held.now n = (c.loop-s.s-index, slice_get-get_or c.args.held.now c.loop-s.s-index (record { 0 = 0 }) c.loop-s-test.true) in
    held_within c.args.module.now (pairs_of c.args.pairs.now) c.args.held.now c.requires.held c.requires.names n there

pub make_struct-requires-clause-there : goal.make_struct-requires-clause-there
make_struct-requires-clause-there c =
    let n = slice_index_or c.args.held.now c.loop-s.s-index (record { 0 = 0 }) in
    let there : IsIn c.args.held.now n = (c.loop-s.s-index, slice_get-get_or c.args.held.now c.loop-s.s-index (record { 0 = 0 }) c.loop-s-test.true) in
    held_within c.args.module.now (pairs_of c.args.pairs.now) c.args.held.now c.requires.held c.requires.names n there

pub make_struct-requires-clause-sound : goal.make_struct-requires-clause-sound
make_struct-requires-clause-sound c = sound_under c.args.module.now (pairs_of c.args.pairs.now) c.args.held.now c.requires.held c.requires.names c.args.source.now c.requires.source c.structs-count.ensures.sound

pub make_struct-requires-clause-held : goal.make_struct-requires-clause-held
make_struct-requires-clause-held c =
    let n = slice_index_or c.args.held.now c.loop-s.s-index (record { 0 = 0 }) in
    let there : IsIn c.args.held.now n = (c.loop-s.s-index, slice_get-get_or c.args.held.now c.loop-s.s-index (record { 0 = 0 }) c.loop-s-test.true) in
    fields_held c.args.module.now (pairs_of c.args.pairs.now) c.args.held.now c.requires.held c.requires.names n there c.args.source.now c.requires.source c.requires.form c.requires.taken

pub make_struct-requires-clause-ready : goal.make_struct-requires-clause-ready
make_struct-requires-clause-ready c =
    let n = slice_index_or c.args.held.now c.loop-s.s-index (record { 0 = 0 }) in
    let here = slice_get-get_or c.args.held.now c.loop-s.s-index (record { 0 = 0 }) c.loop-s-test.true in
    fields_ready c.args.module.now (pairs_of c.args.pairs.now) c.args.held.now c.requires.held c.requires.names n (c.loop-s.s-index, here) c.args.source.now c.requires.source c.loop-s.s-index here (structs_of c.args.ctx.now.types)
    (structs_of c.loop-s.ctx.types) c.loop-s.invariant.making

pub returns-in_err-make_struct-in-Some-clause-other : goal.returns-in_err-make_struct-in-Some-clause-other
returns-in_err-make_struct-in-Some-clause-other c =
    let m = c.args.module.now in
    let ps = c.args.pairs.now in
    let pairs = pairs_of ps in
    let k = c.loop-s.s-index in
    let n = slice_index_or c.args.held.now k (record { 0 = 0 }) in
    let there : IsIn c.args.held.now n = (k, slice_get-get_or c.args.held.now k (record { 0 = 0 }) c.loop-s-test.true) in
    let name = c.struct_name.result.now in
    let p = slice_index_or ps c.in-Some.place c.index-pairs-place.result in
    let found = ap (position (bytes_eq name)) (sym c.in_ok-names.ensures) ∙ sym c.find.ensures ∙ c.in-Some.is in
    let within = found_within (source_names pairs) name c.in-Some.place found in
    let at_p = pair_found ps c.in-Some.place p name (slice_get-get_or ps c.in-Some.place c.index-pairs-place.result (pairs_within ps c.in-Some.place within)) found in
    let first = structs_of c.args.ctx.now.types in
    passed_on c.from_residual-in_err-make_struct-in-Some.result c.in_err-make_struct-in-Some.field-0.0 (λ e. (i : List ℕ) → e ≡ reasons.DifferentBody i → HasOtherBody first (data_of m) pairs i) c.from_residual-in_err-make_struct-in-Some.ensures.1 (λ i e.
    let other = c.in_err-make_struct-in-Some.ensures.other i e in
    subst (HasOtherBody first (data_of m) pairs) (sym other.0)
    (step_other m pairs c.args.held.now c.requires.held c.requires.names n there c.args.source.now c.requires.source k first (structs_of c.loop-s.ctx.types) name p.1 c.in-Some.place c.struct_name.ensures at_p c.loop-s.invariant.making other.1))

pub returns-in_err-make_struct-in-Some-clause-only : goal.returns-in_err-make_struct-in-Some-clause-only
returns-in_err-make_struct-in-Some-clause-only c =
    let ps = c.args.pairs.now in
    let name = c.struct_name.result.now in
    let p = slice_index_or ps c.in-Some.place c.index-pairs-place.result in
    let found = ap (position (bytes_eq name)) (sym c.in_ok-names.ensures) ∙ sym c.find.ensures ∙ c.in-Some.is in
    let within = found_within (source_names (pairs_of ps)) name c.in-Some.place found in
    let at_p = pair_found ps c.in-Some.place p name (slice_get-get_or ps c.in-Some.place c.index-pairs-place.result (pairs_within ps c.in-Some.place within)) found in
    only_then (structs_of c.args.ctx.now.types) (structs_of c.loop-s.ctx.types) (structs_of c.make_struct.new.ctx.types) (identifiers (pairs_of ps)) p.1 (identifier_listed (pairs_of ps) c.in-Some.place name p.1 at_p) c.loop-s.invariant.only
    c.in_err-make_struct-in-Some.ensures.only

pub returns-clause-only : goal.returns-clause-only
returns-clause-only c = c.loop-s.invariant.only

pub unreachable-requires : goal.unreachable-requires
unreachable-requires c =
    let n = slice_index_or c.args.held.now c.loop-s.s-index (record { 0 = 0 }) in
    let there : IsIn c.args.held.now n = (c.loop-s.s-index, slice_get-get_or c.args.held.now c.loop-s.s-index (record { 0 = 0 }) c.loop-s-test.true) in
    let name = c.struct_name.result.now in
    let listed = name_listed c.args.module.now (pairs_of c.args.pairs.now) c.args.held.now c.requires.held c.requires.names n there c.requires.listed.0 c.requires.listed.1 name c.struct_name.ensures in
    unfound c.in_ok-names.names name (sym c.find.ensures ∙ c.in-None.is) (subst (λ (ns : List (List ℕ)). IsIn ns name) (sym c.in_ok-names.ensures) listed)

pub loop-s-preserved : goal.loop-s-preserved
loop-s-preserved c =
    let m = c.args.module.now in
    let ps = c.args.pairs.now in
    let k = c.loop-s.s-index in
    let n = slice_index_or c.args.held.now k (record { 0 = 0 }) in
    let here = slice_get-get_or c.args.held.now k (record { 0 = 0 }) c.loop-s-test.true in
    let name = c.struct_name.result.now in
    let p = slice_index_or ps c.in-Some.place c.index-pairs-place.result in
    let found = ap (position (bytes_eq name)) (sym c.in_ok-names.ensures) ∙ sym c.find.ensures ∙ c.in-Some.is in
    let within = found_within (source_names (pairs_of ps)) name c.in-Some.place found in
    let at_p = pair_found ps c.in-Some.place p name (slice_get-get_or ps c.in-Some.place c.index-pairs-place.result (pairs_within ps c.in-Some.place within)) found in
    record {
      added = adds_then c.args.ctx.now c.loop-s.ctx c.make_struct.new.ctx c.loop-s.invariant.added c.make_struct.ensures.added;
      only = only_then (structs_of c.args.ctx.now.types) (structs_of c.loop-s.ctx.types) (structs_of c.make_struct.new.ctx.types) (identifiers (pairs_of ps)) p.1 (identifier_listed (pairs_of ps) c.in-Some.place name p.1 at_p) c.loop-s.invariant.only
          c.make_struct.ensures.only;
      making = step_made m (pairs_of ps) c.args.held.now c.requires.held c.requires.names n (k, here) c.args.source.now c.requires.source k (structs_of c.args.ctx.now.types) (structs_of c.loop-s.ctx.types) name p.1 c.in-Some.place
          c.struct_name.ensures at_p c.loop-s.invariant.making here (structs_of c.make_struct.new.ctx.types) c.in_ok-make_struct-in-Some.ensures.put;
    }

pub returns-clause-made : goal.returns-clause-made
returns-clause-made c =
    let pairs = pairs_of c.args.pairs.now in
    all_made (data_of c.args.module.now) (struct_name pairs) c.args.held.now c.loop-s.s-index pairs (structs_of c.args.ctx.now.types) (structs_of c.loop-s.ctx.types) refl c.requires.names c.requires.listed.0 c.requires.listed.1 c.requires.held
    c.loop-s-test.false c.loop-s.invariant.making
