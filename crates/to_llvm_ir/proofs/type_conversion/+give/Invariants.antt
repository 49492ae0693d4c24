-- How `type_conversion::give` and what it calls end, and what was given for a list so far.
use Rattle.std.proofs.Common.{◌≡◌, ◌≤◌, ◌+◌, ◌*◌, Some, length, map, take}
use Rattle.dialect_types.proofs.PrintedTypes.{reach}
use Rattle.to_llvm_ir.specs.Conversion.{Gives, given_at, numbers_in, types_in}
use Rattle.to_llvm_ir.specs.Giving.{IsWithinSome}
use Rattle.to_llvm_ir.proofs.type_conversion.+give.Given as goal

-- the parts of a type are earlier ones
abbrev pub decreases-give : goal.decreases-give
decreases-give l = 6 * l.ty.0 + 5

abbrev pub decreases-make : goal.decreases-make
decreases-make l = 6 * reach (numbers_in l.kind.now) + 4

abbrev pub decreases-give_kind : goal.decreases-give_kind
decreases-give_kind l = 6 * reach (numbers_in l.kind.now) + 2

abbrev pub decreases-give_struct : goal.decreases-give_struct
decreases-give_struct l = 6 * reach (types_in l.body.now) + 3

abbrev pub decreases-give_body : goal.decreases-give_body
decreases-give_body l = 6 * reach (types_in l.body.now) + 2

abbrev pub decreases-give_all : goal.decreases-give_all
decreases-give_all l = 6 * reach l.types.now + 1

abbrev pub invariant-give_all-loop-ty : goal.invariant-give_all-loop-ty
invariant-give_all-loop-ty l = record {
  gives : Gives l.ctx.types (IsWithinSome l.ctx.types l.types) l.fn.back l.fn.tcctx l.back l.tcctx;
  room : length l.ctx.types ≤ length l.tcctx.given.items;
  given : map (given_at l.tcctx) (take l.ty-index l.types) ≡ map Some l.given;
}
