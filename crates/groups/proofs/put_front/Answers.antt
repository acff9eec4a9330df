use native.Mathlib.Omega.{arith}
use lib.Seq.{length-take-le}
use Rattle.octets.proofs.Laws.{prefix-count}
use Rattle.groups.proofs.Laws.{front-law}
use borrow.Author.Rules.{rules}
use Rattle.groups.proofs.put_front.Goals as goal

pub slice_bounds-copy_in-end : goal.slice_bounds-copy_in-end
slice_bounds-copy_in-end c = prefix-count 96 c.args.a (search rules)

pub copy_in-requires : goal.copy_in-requires
copy_in-requires c = let l = length-take-le 96 c.args.a (search rules) in omega (arith, l, c.requires)

pub returns : goal.returns
returns c = front-law _ _ _ c.args.a _ 96 144 c.requires (omega arith) (search rules) c.copy_in.ensures c.copy_in-2.ensures
