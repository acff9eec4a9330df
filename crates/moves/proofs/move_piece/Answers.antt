use native.Mathlib.Omega.{arith}
use Rattle.moves.proofs.Records.{cut-law, filled-law}
use Rattle.moves.proofs.move_piece.Goals as goal

pub returns-then-v-w : goal.returns-then-v-w
returns-then-v-w c = cut-law c.args.s.now c.args.t.now c.args.from c.args.m c.args.w c.args.to c.args.v c.requires.0 _ c.if-v-w.true c.copy_part.ensures

pub returns : goal.returns
returns c = filled-law c.args.s.now c.args.t.now c.args.from c.args.m c.args.w c.args.to c.args.v c.requires.0 _ _ (omega (arith, c.if-v-w.false)) c.requires.1.1.1 c.requires.1.0
    c.copy_part-2.ensures c.clear_part.ensures
