-- What `functions::import_function` owes besides what the check finds.
use Rattle.std.proofs.Common.{◌≡◌, ◌∙◌, refl, length, sym, ap, subst, List, ℕ, arith}
use Rattle.dialect_types.specs.Trees.{structs_of}
use Rattle.dialect_core.specs.declared.ops.BlockData.{BlockData}
use Rattle.from_consts.specs.declared.conversion_err.ConversionErr.TheVariants as E
use Rattle.dialect_types.proofs.LegalLaws.{gave_kept}
use Rattle.held_types.proofs.WalkLaws.{passed_on}
use Rattle.from_llvm_ir.proofs.NameLaws.{goes_same, goes_then}
use Rattle.from_llvm_ir.specs.Order.{IsInverse, IsRpo}
use Rattle.from_llvm_ir.specs.Walks.{graph_of}
use Rattle.from_llvm_ir.specs.Match.{IsPlaces}
use Rattle.from_llvm_ir.proofs.FrameLaws.{frame_length}
use Rattle.from_llvm_ir.proofs.OrderedLaws.{rpo_places, places_counted}
use Rattle.from_llvm_ir.proofs.FoundLaws.{still_ready}
use Rattle.from_llvm_ir.proofs.StartLaws.{framed, is_framed, no_heads, function_whole}
use Rattle.from_llvm_ir.proofs.UndefinedLaws.{refused}
use Rattle.from_llvm_ir.proofs.KeepLaws.{keeps_none, keeps_then}
use Rattle.from_llvm_ir.proofs.functions.import_function.Goals as goal

pub places_of-requires : goal.places_of-requires
places_of-requires g c =
    let s = c.requires.source in
    let order = c.as_slice.result.now in
    let r = subst (IsRpo (graph_of s.0)) (sym c.as_slice.ensures.value) (c.in_ok-order.ensures.rpo s.0 s.1) in
    places_counted (length s.0.blocks) order (rpo_places s.0 order s.1.form r)

pub import_body-requires : goal.import_body-requires
import_body-requires g c = λ given on.
    let s = c.requires.source in
    let d = c.requires.«module» in
    let m = c.args.source.now in
    let order = c.as_slice-2.result.now in
    let func = c.in_ok-func.func in
    let name = c.args.name.now in
    let declared = c.in_ok-func.ensures.declared s.0 s.1 d.0 d.1 d.2 in
    let gave = gave_kept c.args.names.now given s.0.name name on (c.requires.name s.0 s.1) in
    let ready = still_ready m c.args.f (structs_of c.args.ctx.now.types) (structs_of c.declare.new.ctx.types) s.0 s.0 s.1 s.2 (c.declare.ensures.kept d.0 d.1 d.2 0 0 (omega arith) (omega arith)).structs s.1 in
    let r = subst (IsRpo (graph_of s.0)) (sym c.as_slice-2.ensures.value) (c.in_ok-order.ensures.rpo s.0 s.1) in (
      framed given d.0 c.args.body d.1 func.0.0 name s.0 order (length c.declare.new.ctx.blocks) (structs_of c.declare.new.ctx.types),
      is_framed m c.args.f given s.0 d.0 c.args.body d.1 func.0.0 name order (length c.declare.new.ctx.blocks) (structs_of c.declare.new.ctx.types) s.1 (rpo_places s.0 order s.1.form r) declared.legal gave ready,
      refl,
      no_heads given name s.0 c.declare.new.ctx d.0 c.args.body d.1 func order declared c.in_ok-func.ensures.func,
      refl,
    )

pub returns-in_err-order-clause-err : goal.returns-in_err-order-clause-err
returns-in_err-order-clause-err g c = passed_on c.from_residual.result c.in_err-order.field-0.0 _ c.from_residual.ensures.1 c.in_err-order.ensures.err

pub returns-in_err-import_body-clause-err : goal.returns-in_err-import_body-clause-err
returns-in_err-import_body-clause-err g c =
    passed_on c.from_residual-in_err-import_body.result c.in_err-import_body.field-0.0 _ c.from_residual-in_err-import_body.ensures.1
    (λ h source.
    let d = c.requires.«module» in
    let m = c.args.source.now in
    let order = c.as_slice-2.result.now in
    let func = c.in_ok-func.func in
    let r = subst (IsRpo (graph_of h)) (sym c.as_slice-2.ensures.value) (c.in_ok-order.ensures.rpo h source) in
    let inverse = subst (λ (os : List ℕ). IsInverse os c.in_ok-places.places) (c.as_slice.ensures.value ∙ sym c.as_slice-2.ensures.value) c.in_ok-places.ensures.inverse in
    let given = c.import_body.new.names in
    let name = c.args.name.now in
    let declared = c.in_ok-func.ensures.declared h source d.0 d.1 d.2 in
    let gave = gave_kept c.args.names.now given h.name name c.import_body.ensures.grows (c.requires.name h source) in
    let s = c.requires.source in
    let ready = still_ready m c.args.f (structs_of c.args.ctx.now.types) (structs_of c.declare.new.ctx.types) s.0 h s.1 s.2 (c.declare.ensures.kept d.0 d.1 d.2 0 0 (omega arith) (omega arith)).structs source in
    refused h source.form order c.in_ok-places.places (c.in_ok-order.ensures.dominated h source) r.once r.reached r.passed inverse c.in_err-import_body.field-0.0
    (c.in_err-import_body.ensures.err (framed given d.0 c.args.body d.1 func.0.0 name h order (length c.declare.new.ctx.blocks) (structs_of c.declare.new.ctx.types))
    (is_framed m c.args.f given h d.0 c.args.body d.1 func.0.0 name order (length c.declare.new.ctx.blocks) (structs_of c.declare.new.ctx.types) source (rpo_places h order source.form r) declared.legal gave ready) refl
    (no_heads given name h c.declare.new.ctx d.0 c.args.body d.1 func order declared c.in_ok-func.ensures.func) (goes_same given)
    c.in_ok-places.places inverse))

pub returns-clause-ok : goal.returns-clause-ok
returns-clause-ok g c = λ h source n d building given on.
    let m = c.args.source.now in
    let order = c.as_slice-2.result.now in
    let func = c.in_ok-func.func in
    let r = subst (IsRpo (graph_of h)) (sym c.as_slice-2.ensures.value) (c.in_ok-order.ensures.rpo h source) in
    let places = rpo_places h order source.form r in
    let name = c.args.name.now in
    let declared = c.in_ok-func.ensures.declared h source n d building in
    let gave = gave_kept c.args.names.now given h.name name (goes_then c.args.names.now c.import_body.new.names given c.import_body.ensures.grows on) (c.requires.name h source) in
    let s = c.requires.source in
    let ready = still_ready m c.args.f (structs_of c.args.ctx.now.types) (structs_of c.declare.new.ctx.types) s.0 h s.1 s.2 (c.declare.ensures.kept n d building 0 0 (omega arith) (omega arith)).structs source in
    let fr = framed given n c.args.body d func.0.0 name h order (length c.declare.new.ctx.blocks) (structs_of c.declare.new.ctx.types) in
    let is = is_framed m c.args.f given h n c.args.body d func.0.0 name order (length c.declare.new.ctx.blocks) (structs_of c.declare.new.ctx.types) source places declared.legal gave ready in
    let filled = c.in_ok-import_body.ensures.ok fr is refl (no_heads given name h c.declare.new.ctx n c.args.body d func order declared c.in_ok-func.ensures.func) on in
    let same = c.as_slice.ensures.value ∙ sym c.as_slice-2.ensures.value in
    function_whole m c.args.f fr c.import_body.new.ctx filled.0 (length order) is (sym (frame_length m c.args.f fr order is refl)) filled.1
    (record { function = c.args.f; places = c.in_ok-places.places }) refl
    (subst (λ (os : List ℕ). IsInverse os c.in_ok-places.places) same c.in_ok-places.ensures.inverse)
    (subst (λ (k : ℕ). IsPlaces k c.in_ok-places.places) (ap (λ (os : List ℕ). length os) same ∙ places.count) c.in_ok-places.ensures.places)
    r.depth_first (c.in_ok-order.ensures.dominated h source)

pub returns-in_err-func-clause-kept : goal.returns-in_err-func-clause-kept
returns-in_err-func-clause-kept g c = λ m d h n b before behind. c.declare.ensures.kept m d h n b before behind

pub returns-in_err-import_body-clause-kept : goal.returns-in_err-import_body-clause-kept
returns-in_err-import_body-clause-kept g c = λ m d h n b before behind.
    let there : length c.declare.new.ctx.blocks ≡ length c.args.ctx.now.blocks = ap (λ (bs : List BlockData). length bs) c.in_ok-func.ensures.blocks in
    keeps_then n b c.args.ctx.now c.declare.new.ctx c.import_body.new.ctx (c.declare.ensures.kept m d h n b before behind)
    (c.import_body.ensures.kept n b (omega (arith, before, h.there, c.in_ok-func.ensures.number)) (omega (arith, behind, h.held.block, there)))

pub returns-clause-kept : goal.returns-clause-kept
returns-clause-kept g c = λ m d h n b before behind.
    let there : length c.declare.new.ctx.blocks ≡ length c.args.ctx.now.blocks = ap (λ (bs : List BlockData). length bs) c.in_ok-func.ensures.blocks in
    keeps_then n b c.args.ctx.now c.declare.new.ctx c.import_body.new.ctx (c.declare.ensures.kept m d h n b before behind)
    (c.import_body.ensures.kept n b (omega (arith, before, h.there, c.in_ok-func.ensures.number)) (omega (arith, behind, h.held.block, there)))

pub checked_order-requires : goal.checked_order-requires
checked_order-requires g c = (c.requires.source.0, c.requires.source.1)

pub declare-requires-clause-source : goal.declare-requires-clause-source
declare-requires-clause-source g c = c.requires.source

pub declare-requires-clause-module : goal.declare-requires-clause-module
declare-requires-clause-module g c = c.requires.«module»

pub returns-in_err-order-clause-kept : goal.returns-in_err-order-clause-kept
returns-in_err-order-clause-kept g c = λ m d h n b before behind. keeps_none n b c.args.ctx.now

pub returns-in_err-places-clause-kept : goal.returns-in_err-places-clause-kept
returns-in_err-places-clause-kept g c = λ m d h n b before behind. keeps_none n b c.args.ctx.now

pub returns-in_err-places-clause-err : goal.returns-in_err-places-clause-err
returns-in_err-places-clause-err g c = passed_on c.from_residual-in_err-places.result E.NoMemory _ c.from_residual-in_err-places.ensures.1 (λ h source. tt)

pub returns-in_err-func-clause-err : goal.returns-in_err-func-clause-err
returns-in_err-func-clause-err g c = passed_on c.from_residual-in_err-func.result E.NoMemory _ c.from_residual-in_err-func.ensures.1 (λ h source. tt)

pub returns-in_err-order-clause-grows : goal.returns-in_err-order-clause-grows
returns-in_err-order-clause-grows g c = goes_same c.args.names.now

pub returns-in_err-places-clause-grows : goal.returns-in_err-places-clause-grows
returns-in_err-places-clause-grows g c = goes_same c.args.names.now

pub returns-in_err-func-clause-grows : goal.returns-in_err-func-clause-grows
returns-in_err-func-clause-grows g c = goes_same c.args.names.now

pub returns-in_err-import_body-clause-grows : goal.returns-in_err-import_body-clause-grows
returns-in_err-import_body-clause-grows g c = c.import_body.ensures.grows

pub returns-clause-grows : goal.returns-clause-grows
returns-clause-grows g c = c.import_body.ensures.grows
