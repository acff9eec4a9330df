-- THE REPLY TO A 76 for the run's group: it gives up above the limit, and then the token is not stored; else the Commit goes out again with the token, and is
-- counted. A 76 for another group is one of the drops.
use mathlib.Core.Path.{◌≡◌, refl, ap, ◌∙◌}
use Prim.Native.Nat.{◌+◌, ◌≤◌, ◌<◌}
use borrow.Author.Tests.{eq-eqb, le-ltb, lt-ltb}
use Rattle.record.specs.declared.Peer.{Peer}
use Rattle.rules.specs.Parts.{with_sync, with_token}
use Rattle.rules.specs.Message.{Message}
use Rattle.rules.specs.declared.Act.TheVariants.{ReplyToken}
use Rattle.rules.specs.declared.Frames.TheVariants.{One}
use Rattle.rules.specs.Book.{Terms, Call, commit_frame, sending, abandoning, retransmitting, replying_token, perform, commit_committed, commit_act, frame_act, on_frame}

module _ (t : Terms) (c : Call) (p : Peer) (m : Message) (s : p.run.state ≡ 1) (f : m.sequence ≡ 1) (z : m.status ≡ 76) (g : m.group ≡ p.run.group) where
  reply-named : frame_act t c p m ≡ ReplyToken
  unfolding frame_act commit_act commit_committed
  reply-named = rw (f, s, z, eq-eqb _ _ g) refl

  -- "it gives up above the limit": what a run given up leaves, whatever the 76 carries
  pub reply-given-up : c.clock.limit < p.run.sync → on_frame t c p m ≡ abandoning p
  unfolding on_frame perform replying_token retransmitting
  reply-given-up l = ap (perform t c p m) reply-named ∙ rw (lt-ltb _ _ l) refl

  -- "and raises Sync": t0 goes by the raised one
  pub reply-counted : p.run.sync ≤ c.clock.limit → on_frame t c p m
      ≡ sending c.clock p (with_sync (with_token p.run m.toklen m.token) (p.run.sync + 1)) (One (commit_frame p.run.group)) 0
  unfolding on_frame perform replying_token retransmitting
  reply-counted l = ap (perform t c p m) reply-named ∙ rw (le-ltb _ _ l) refl
