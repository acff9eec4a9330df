use Rattle.std.proofs.Common.{◌≡◌, ℕ, ◌+◌, ◌-◌, ◌%◌, ◌^◌, ltb, ap, arith}
use Rattle.rules.specs.Book.{due}
use Rattle.deadlines.proofs.is_due.Goals as goal

pub returns : goal.returns
unfolding due
returns c = let a = c.args in let h : c.wrapping_sub_u32-gone.result ≡ (a.time + 2 ^ 32 - a.at) % 2 ^ 32 = omega arith in ap (λ (x : ℕ). ltb x (2 ^ 31)) h
