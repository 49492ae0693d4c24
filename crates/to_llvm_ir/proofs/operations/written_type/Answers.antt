-- The type of a result is there, and of the form; no other word of the table writes one.
use Rattle.std.proofs.Common.{◌≡◌, Option, None, refl, sym}
use Rattle.kinds.specs.declared.rules.Gives.{Gives}
use Rattle.kinds.specs.declared.rules.Gives.TheVariants as G
use Rattle.kinds.specs.Typing.{written_for}
use Rattle.kinds.proofs.HeldLaws.{held_result_if}
use Rattle.dialect_types.specs.Trees.{TypeTree}
use Rattle.to_llvm_ir.proofs.GrowthLaws.{grows_refl}
use Rattle.to_llvm_ir.proofs.OpLaws.{result_there, result_held}
use Rattle.to_llvm_ir.proofs.operations.written_type.Goals as goal

none_written : (g : Gives) (own : Option TypeTree) → (g ≡ G.Written → ⊥) → written_for g own ≡ None
none_written G.Nothing own h = refl
none_written G.First own h = refl
none_written G.Second own h = refl
none_written G.Written own h = absurd (h refl)
none_written G.Bits own h = refl

pub value_type-requires-clause-within : goal.value_type-requires-clause-within
value_type-requires-clause-within c = result_there c.args.ctx.now c.args.op c.result_type.result c.in-Some.ty c.requires.typed c.result_type.ensures c.in-Some.is

pub value_type-requires-clause-held : goal.value_type-requires-clause-held
value_type-requires-clause-held c = held_result_if _ (result_held c.args.ctx.now c.args.op c.requires.spot.0 c.result_type.result c.in-Some.ty c.requires.spot.1 c.result_type.ensures c.in-Some.is).1

pub returns-in-None-clause-grows : goal.returns-in-None-clause-grows
returns-in-None-clause-grows c = grows_refl c.args.back.now

pub returns-in_default : goal.returns-in_default
returns-in_default c = record {
  written = λ s spot. record { there = tt; is = sym (none_written c.args.gives s.op.result c.in_default.not-Written) };
  grows = grows_refl c.args.back.now;
  rest = refl;
  «data» = refl;
  sound = c.requires.sound;
}
