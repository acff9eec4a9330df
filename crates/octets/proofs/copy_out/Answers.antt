use Rattle.octets.specs.Octets.{part}
use Rattle.std.proofs.Common.{◌≡◌, ◌+◌, ◌-◌, length, arith}
use Rattle.octets.proofs.copy_out.Goals as goal

pub returns : goal.returns
unfolding part
returns c =
    let n = length c.args.dst.now in
    let e : c.args.at + n - c.args.at ≡ n = omega arith in rw e at c.copy_from_slice.ensures.after
