-- `frame::write_body` meets its contract: its answers by laws of Laws.
use mathlib.Core.Path.{refl}
use native.Mathlib.Omega.{arith}
use Rattle.frame.proofs.Laws.{too_long, all-stored}
use Rattle.frame.proofs.write_body.Goals as goal

pub returns-then-all-lt-HEAD : goal.returns-then-all-lt-HEAD
returns-then-all-lt-HEAD c = too_long _ _ _ _ _ _ (omega arith)

pub returns-then-all-token : goal.returns-then-all-token
returns-then-all-token c = too_long _ _ _ _ _ _ (omega arith)

pub returns-then-all-at : goal.returns-then-all-at
returns-then-all-at c = too_long _ _ _ _ _ _ (omega arith)

pub returns : goal.returns
returns c = all-stored _ _ _ _ _ _ _ _ _ _ (omega arith) refl c.put_head.ensures c.copy_in.ensures c.copy_in-2.ensures
