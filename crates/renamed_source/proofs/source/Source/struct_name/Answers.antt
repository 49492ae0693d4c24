-- The goals of `source::Source::struct_name` that the tactics leave.
use Rattle.std.proofs.Common.{◌≡◌, ◌<◌, Some, length, slice_get, slice_index_or, arith, subst, sym}
use Rattle.llvm_core.specs.Module.{Module}
use Rattle.llvm_core.specs.declared.types.LLVMTypeKind.TheVariants as T
use Rattle.renamed_source.proofs.SourceLaws.{place_read, place_bound, seen_named, seen_unnamed}
use Rattle.renamed_source.proofs.source.Source.struct_name.Goals as goal
use Rattle.renamed_source.proofs.source.Source.struct_name.Goals.{In_ok-place}

kept : (c : In_ok-place) → slice_get c.self.inside.places.items c.args.ty.0 ≡ Some (Some c.in_ok-place.place)
kept c =
    place_read c.self.inside.«module».now.types c.self.inside.pairs.now c.self.inside.places.items c.self.invariant c.args.ty.0 c.in_ok-place.place c.index.result.now
    (subst (λ (m : Module). c.args.ty.0 < length m.types) (sym c.self.view_is) c.requires) c.index.ensures c.in_ok-place.was

within : (c : In_ok-place) → c.in_ok-place.place < length c.self.inside.pairs.now
within c = place_bound c.self.inside.«module».now.types c.self.inside.pairs.now c.self.inside.places.items c.self.invariant c.args.ty.0 c.in_ok-place.place (kept c)

pub offset_bounds-self-inside-place : goal.offset_bounds-self-inside-place
offset_bounds-self-inside-place c = omega (arith, within c, c.self.told)

pub bounds-self-inside-place : goal.bounds-self-inside-place
bounds-self-inside-place c = within c

pub returns-in_err-place-clause-none : goal.returns-in_err-place-clause-none
returns-in_err-place-clause-none c = λ answered n seen.
    let at = c.self.inside in
    let types = at.«module».now.types in
    seen_unnamed types at.pairs.now at.places.items c.self.invariant c.args.ty.0 c.index.result.now (subst (λ (m : Module). c.args.ty.0 < length m.types) (sym c.self.view_is) c.requires) c.index.ensures c.in_err-place.was n
    (subst (λ (m : Module). slice_get m.types c.args.ty.0 ≡ Some (T.Named n)) (sym c.self.view_is) seen)

pub returns-clause-some : goal.returns-clause-some
returns-clause-some c =
    subst (λ (m : Module). slice_get m.types c.args.ty.0 ≡ Some (T.Named (slice_index_or c.self.inside.pairs.now c.in_ok-place.place c.index-self-place.result).1)) c.self.view_is
    (seen_named c.self.inside.«module».now.types c.self.inside.pairs.now c.self.inside.places.items c.self.invariant c.args.ty.0 c.in_ok-place.place c.index-self-place.result (kept (goal.at.returns-clause-some c).In_ok-place))
