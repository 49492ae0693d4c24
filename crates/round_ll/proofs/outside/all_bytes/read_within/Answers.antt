-- A read that failed took no more than was still allowed.
use Rattle.std.proofs.Common.{◌+◌, arith, length-take}
use Rattle.round_ll.proofs.ToldLemmas.{GaveAtMost-more}
use Rattle.round_ll.proofs.outside.all_bytes.read_within.Goals as goal

pub returns-in_err-read_piece-clause-front : goal.returns-in_err-read_piece-clause-front
returns-in_err-read_piece-clause-front g c =
    GaveAtMost-more (c.args.most + 1) _ _ _ _ _ c.loop-bytes.invariant.bytes c.read_piece.ensures.front
    (omega (arith, c.read_piece.auto.buf, c.min-room.ensures, c.len-in-loop-bytes.ensures, length-take c.min-room.result c.loop-bytes.buf))
