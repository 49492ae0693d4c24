-- The type was given, so it stands for that of its number; making room gives nothing; structs stay the ones meant.
use Rattle.std.proofs.Common.{refl}
use Rattle.dialect_types.specs.declared.types.TypeHandle.{TypeHandle}
use Rattle.to_llvm_ir.specs.Conversion.{IsWithin}
use Rattle.to_llvm_ir.proofs.ConversionLaws.{gives_then, gives_types, stands_if, within_there}
use Rattle.to_llvm_ir.proofs.GrowthLaws.{grows_refl}
use Rattle.to_llvm_ir.proofs.MeantLaws.{meant_kept}
use Rattle.to_llvm_ir.proofs.type_conversion.convert_type.Goals as goal

pub returns-in_err-make_room-clause-gives : goal.returns-in_err-make_room-clause-gives
returns-in_err-make_room-clause-gives c =
    let ks = c.args.ctx.now.types in
    gives_types ks (λ u. IsWithin ks u c.args.ty) c.args.back.now c.args.back.now c.args.tcctx.now c.make_room.new.tcctx c.requires.context c.in_err-make_room.ensures.same (grows_refl c.args.back.now) refl refl

pub give-requires : goal.give-requires
give-requires c =
    let ks = c.args.ctx.now.types in
    let room = c.in_ok-make_room.ensures in
    let none = gives_types ks (λ u. IsWithin ks u c.args.ty) c.args.back.now c.args.back.now c.args.tcctx.now c.make_room.new.tcctx c.requires.context room.same (grows_refl c.args.back.now) refl refl in
    record {
      stored = room.stored;
      there = λ u inner. within_there ks room.stored.grounded c.args.ty u c.requires.within inner;
      widths = c.requires.widths;
      context = none.context;
      room = room.room;
    }

pub returns-clause-stands : goal.returns-clause-stands
returns-clause-stands c = stands_if c.give.result c.args.ctx.now.types c.give.new.back c.give.new.tcctx c.args.ty c.give.ensures.gives.context c.give.ensures.given

pub returns-clause-gives : goal.returns-clause-gives
returns-clause-gives c =
    let ks = c.args.ctx.now.types in
    let room = c.in_ok-make_room.ensures in
    let W = λ (u : TypeHandle). IsWithin ks u c.args.ty in
    let none = gives_types ks W c.args.back.now c.args.back.now c.args.tcctx.now c.make_room.new.tcctx c.requires.context room.same (grows_refl c.args.back.now) refl refl in
    gives_then ks room.stored.once W W W (λ u h. h) (λ u h. h) c.args.back.now c.args.back.now c.give.new.back c.args.tcctx.now c.make_room.new.tcctx c.give.new.tcctx none c.give.ensures.gives

pub returns-clause-meant : goal.returns-clause-meant
returns-clause-meant c =
    let ks = c.args.ctx.now.types in
    meant_kept ks c.in_ok-make_room.ensures.stored.once (λ (u : TypeHandle). IsWithin ks u c.args.ty) c.args.back.now c.give.new.back c.args.tcctx.now c.give.new.tcctx (returns-clause-gives c)
