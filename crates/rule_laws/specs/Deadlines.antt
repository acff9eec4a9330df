-- "A deadline then moves only when a frame is sent, or a run or link starts or ends" (request b): of a record p that becomes q.
use Rattle.std.specs.Prelude.{◌≡◌, true, false}
use Rattle.record.specs.declared.Peer.{Peer}
use Rattle.rules.specs.Book.{has_run, has_link}

-- t0 and t1 are what they were
pub record Still (p q : Peer) : Type 0 where
  pub t0 : q.run.t0 ≡ p.run.t0
  pub t1 : q.link.t1 ≡ p.link.t1

-- its run or its link ends. The starts need no row of their own: a run starts with a Commit sent, and a link as its run ends, also where it replaces a link.
pub data Ends (p q : Peer) : Type 0 where
  run_ends : has_run p ≡ true → has_run q ≡ false → Ends p q
  link_ends : has_link p ≡ true → has_link q ≡ false → Ends p q
