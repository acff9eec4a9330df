use Rattle.octets.proofs.Scan.{bit_le}
use native.Mathlib.Omega.{arith}
use Rattle.table.proofs.moved.Goals as goal

pub overflow_add-result : goal.overflow_add-result
overflow_add-result c = omega (arith, bit_le c.args.is, c.one_if-i.ensures)

pub overflow_cast-result-2 : goal.overflow_cast-result-2
overflow_cast-result-2 c = omega (arith, bit_le c.args.is, c.one_if-i.ensures)
