use Rattle.std.proofs.Common.{ℕ, ◌+◌, ◌*◌, ◌^◌, ◌<◌, ◌≤◌, lt_of_le_of_lt, mod-eq_of_lt, mul-le-mul_left, arith, pow_mono}
use Rattle.rules.specs.declared.Clock.{Clock}
use Rattle.rules.specs.Given.{Paced}
use Rattle.rules.specs.Book.{delay}
use Rattle.deadlines.proofs.delay_of.Goals as goal

pub overflow_shl-result : goal.overflow_shl-result
overflow_shl-result c = omega arith

-- the longest delay is within 32 bits, and no other is longer
delay-fits : (κ : Clock) (sync : ℕ) → Paced κ → sync ≤ κ.limit + 1 → κ.period * 2 ^ sync < 2 ^ 32
delay-fits κ sync h l = lt_of_le_of_lt (mul-le-mul_left κ.period (pow_mono l)) h.fits

-- nothing is shifted out
pub returns : goal.returns
unfolding delay
returns c = mod-eq_of_lt (delay-fits _ _ c.requires.0 c.requires.1)
