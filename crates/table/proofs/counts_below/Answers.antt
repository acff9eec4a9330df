use Rattle.table.proofs.Laws.{reach}
use native.Mathlib.Omega.{arith}
use mathlib.Core.Path.{sym}
use Rattle.octets.proofs.Scan.{count_none, count-step, count_fits, count-through, count-le}
use Rattle.table.specs.Table.{decode_table, slot, in_use, is_open, is_good}
use borrow.Author.Rules.{rules}
use Rattle.table.proofs.counts_below.Goals as goal

pub loop-k-init : goal.loop-k-init
loop-k-init c = (search rules, (sym (count_none _), (sym (count_none _), sym (count_none _))))

pub is_used-requires : goal.is_used-requires
is_used-requires c = reach c.args.t.now c.args.w c.args.n c.loop-k.k c.requires.0 c.loop-k-test.true

pub overflow_add-used : goal.overflow_add-used
overflow_add-used c = let l = c.loop-k in
    omega (arith, count_fits (λ k. in_use (slot (decode_table c.args.t.now) k)) l.k l.used c.one_if-used.result c.is_used.result l.invariant.1.0 c.one_if-used.ensures)

pub is_open-requires : goal.is_open-requires
is_open-requires c = reach c.args.t.now c.args.w c.args.n c.loop-k.k c.requires.0 c.loop-k-test.true

pub overflow_add-opened : goal.overflow_add-opened
overflow_add-opened c = let l = c.loop-k in
    omega (arith, count_fits (λ k. is_open (slot (decode_table c.args.t.now) k)) l.k l.opened c.one_if-opened.result c.is_open.result l.invariant.1.1.0 c.one_if-opened.ensures)

pub is_good-requires : goal.is_good-requires
is_good-requires c = reach c.args.t.now c.args.w c.args.n c.loop-k.k c.requires.0 c.loop-k-test.true

pub overflow_add-good : goal.overflow_add-good
overflow_add-good c = let l = c.loop-k in
    omega (arith, count_fits (λ k. is_good (slot (decode_table c.args.t.now) k)) l.k l.good c.one_if-good.result c.is_good.result l.invariant.1.1.1 c.one_if-good.ensures)

pub loop-k-preserved : goal.loop-k-preserved
loop-k-preserved c = let l = c.loop-k in (
  search rules,
  (
    count-step _ l.k l.used c.one_if-used.result _ l.invariant.1.0 c.is_used.ensures c.one_if-used.ensures,
    (
      count-step _ l.k l.opened c.one_if-opened.result _ l.invariant.1.1.0 c.is_open.ensures c.one_if-opened.ensures,
      count-step _ l.k l.good c.one_if-good.result _ l.invariant.1.1.1 c.is_good.ensures c.one_if-good.ensures,
    ),
  ),
)

pub overflow_cast-result : goal.overflow_cast-result
overflow_cast-result c = let l = c.loop-k in
    omega (arith, count-le (λ k. in_use (slot (decode_table c.args.t.now) k)) l.k, l.invariant.0, l.invariant.1.0, c.requires.1)

pub overflow_cast-result-2 : goal.overflow_cast-result-2
overflow_cast-result-2 c = let l = c.loop-k in
    omega (arith, count-le (λ k. is_open (slot (decode_table c.args.t.now) k)) l.k, l.invariant.0, l.invariant.1.1.0, c.requires.1)

pub overflow_cast-result-3 : goal.overflow_cast-result-3
overflow_cast-result-3 c = let l = c.loop-k in
    omega (arith, count-le (λ k. is_good (slot (decode_table c.args.t.now) k)) l.k, l.invariant.0, l.invariant.1.1.1, c.requires.1)

pub returns : goal.returns
returns c = let l = c.loop-k in
    (count-through _ _ _ _ l.invariant.0 c.loop-k-test.false l.invariant.1.0, (count-through _ _ _ _ l.invariant.0 c.loop-k-test.false l.invariant.1.1.0, count-through _ _ _ _ l.invariant.0 c.loop-k-test.false l.invariant.1.1.1))
