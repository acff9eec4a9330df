use Rattle.std.proofs.Common.{◌≡◌, ◌+◌, ◌-◌, ◌%◌, ◌^◌, arith}
use Rattle.lookups.proofs.Laws.{left-due, left-ahead}
use Rattle.lookups.proofs.time_left.Goals as goal

pub returns-then-due : goal.returns-then-due
returns-then-due c = left-due _ _ _ c.is_due-due.ensures c.if-due.true

pub returns : goal.returns
returns c = let a = c.args in
    let h : c.wrapping_sub_u32-ahead.result ≡ (a.at + 2 ^ 32 - a.time) % 2 ^ 32 = omega arith in
    left-ahead _ _ _ c.is_due-due.ensures _ c.if-due.false h
