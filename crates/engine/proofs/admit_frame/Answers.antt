use mathlib.Core.Path.{refl}
use Rattle.std.proofs.Common.{ap, not}
use Rattle.engine.proofs.Headers.{few-counted, stock-asks, listed-asks}
use Rattle.engine.proofs.Frames.{frame-stock, frame-token, frame-verdict, frame-read}
use Rattle.engine.proofs.admit_frame.Goals as goal

pub listed-requires : goal.listed-requires
listed-requires c = few-counted c.args.h c.requires.0

pub fresh_ok-requires : goal.fresh_ok-requires
fresh_ok-requires c = listed-asks _ _ _ c.args.fresh.now c.listed.ensures (stock-asks c.args.h c.requires.0 c.requires.1 _ c.width_of-w.ensures.0 c.width_of-w.ensures.1)

pub returns-then-not-fresh_ok : goal.returns-then-not-fresh_ok
returns-then-not-fresh_ok c = frame-stock _ _ _ _ _ _ _ _ c.width_of-w.ensures.0 c.listed.ensures c.fresh_ok.ensures _ (ap not c.if-not-fresh_ok.true) refl

pub returns-then-expected-ne32 : goal.returns-then-expected-ne32
returns-then-expected-ne32 c = frame-token _ _ _ _ _ _ _ _ c.width_of-w.ensures.0 c.listed.ensures c.fresh_ok.ensures _ (ap not c.if-not-fresh_ok.false) c.if-expected-ne32.true refl

pub returns-then-verdict-gt1 : goal.returns-then-verdict-gt1
returns-then-verdict-gt1 c =
    frame-verdict _ _ _ _ _ _ _ _ c.width_of-w.ensures.0 c.listed.ensures c.fresh_ok.ensures _ (ap not c.if-not-fresh_ok.false) c.if-expected-ne32.false c.if-verdict-gt1.true refl

pub listed-requires-2 : goal.listed-requires-2
listed-requires-2 c = few-counted c.args.h c.requires.0

pub returns : goal.returns
returns c =
    frame-read _ _ _ _ _ _ _ _ c.width_of-w.ensures.0 c.listed.ensures c.fresh_ok.ensures _ _ _ c.listed-2.ensures c.read.ensures.view (ap not c.if-not-fresh_ok.false) c.if-expected-ne32.false
    c.if-verdict-gt1.false c.ok_or.ensures.value
