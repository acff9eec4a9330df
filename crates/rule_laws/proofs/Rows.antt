-- A ROW FOR EACH KIND OF OUTCOME, with what it sets, the deadlines among it, and what it leaves as it was; and which outcome is in which row.
use mathlib.Core.Path.{◌≡◌, refl}
use mathlib.Core.Bool.{true}
use mathlib.Core.List.{List}
use Prim.Native.Nat.{ℕ, ◌+◌, ◌≤◌}
use Rattle.record.specs.declared.Run.{Run}
use Rattle.record.specs.declared.Link.{Link}
use Rattle.record.specs.declared.Peer.{Peer}
use Rattle.record.specs.Layout.{no_run, no_link}
use Rattle.rules.specs.Message.{Message}
use Rattle.rules.specs.declared.Event.TheVariants as event
use Rattle.rules.specs.declared.Frames.{Frames}
use Rattle.rules.specs.declared.Frames.TheVariants.{None, One}
use Rattle.rules.specs.Parts.{with_mark, with_sync, with_sc, heard_again, with_token, with_run, with_link}
use Rattle.rules.specs.Parts as changed
use Rattle.rules.specs.declared.Clock.{Clock}
use Rattle.rules.specs.Book.{◌is◌, Step, commit_frame, deadline, delay, set_t0, sending, answering, refusing, settled, abandoning, ending_link, dropping, supersede, formed_run, forming, started_run, starting, link_of_run, accepting}
use Rattle.rule_laws.proofs.Outcomes.{whether, settle-outcomes}

-- ---- the rows

-- the record but for its run, and but for its link
pub record AroundRun (p q : Peer) : Type 0 where
  pub used : q.used ≡ p.used
  pub address : q.address ≡ p.address
  pub link : q.link ≡ p.link

pub record AroundLink (p q : Peer) : Type 0 where
  pub used : q.used ≡ p.used
  pub address : q.address ≡ p.address
  pub run : q.run ≡ p.run

-- what every run in being keeps unless a token comes, the group is changed or a pair is formed
pub record SameRun (r x : Run) : Type 0 where
  pub state : x.state ≡ r.state
  pub rejected : x.rejected ≡ r.rejected
  pub group : x.group ≡ r.group
  pub toklen : x.toklen ≡ r.toklen
  pub own : x.own ≡ r.own
  pub peer : x.peer ≡ r.peer
  pub token : x.token ≡ r.token

-- t0 is set by the run's own Sync
pub record T0Set (κ : Clock) (r : Run) : Type 0 where
  pub t0 : r.t0 ≡ deadline κ.time (delay κ r.sync)

-- a repeat is made within the limit, and Sync counts it
pub record Counted (κ : Clock) (p : Peer) (s : Step) : Type 0 where
  pub low : p.run.sync ≤ κ.limit
  pub sync : s.peer.run.sync ≡ p.run.sync + 1

-- a drop changes nothing, sends nothing and tells nothing
pub record Dropped (p : Peer) (s : Step) : Type 0 where
  pub event : s.event ≡ event.None
  pub frames : s.frames ≡ None
  pub afresh : s.afresh ≡ 0
  pub peer : s.peer ≡ p

-- an answer without a run changes nothing
pub record Answered (p : Peer) (s : Step) : Type 0 where
  pub event : s.event ≡ event.None
  pub afresh : s.afresh ≡ 0
  pub peer : s.peer ≡ p
  pub t0 : s.peer.run.t0 ≡ p.run.t0
  pub t1 : s.peer.link.t1 ≡ p.link.t1

-- neither does a refusal for want of a slot
pub record Refused (p : Peer) (s : Step) : Type 0 where
  pub event : s.event ≡ event.None
  pub frames : s.frames ≡ None
  pub afresh : s.afresh ≡ 0
  pub refused : s.refused ≡ true
  pub peer : s.peer ≡ p
  pub t0 : s.peer.run.t0 ≡ p.run.t0
  pub t1 : s.peer.link.t1 ≡ p.link.t1

-- the reply to a 76, a repeat too, changes the token and t0
pub record Replied (κ : Clock) (p : Peer) (s : Step) : Type 0 where
  pub event : s.event ≡ event.None
  pub afresh : s.afresh ≡ 0
  pub around : AroundRun p s.peer
  pub counted : Counted κ p s
  pub state : s.peer.run.state ≡ p.run.state
  pub rejected : s.peer.run.rejected ≡ p.run.rejected
  pub sc : s.peer.run.sc ≡ p.run.sc
  pub group : s.peer.run.group ≡ p.run.group
  pub own : s.peer.run.own ≡ p.run.own
  pub peer : s.peer.run.peer ≡ p.run.peer
  pub set : T0Set κ s.peer.run

-- a switch of group changes the group, the rejected ones, the own commit and t0
pub record Switched (κ : Clock) (p : Peer) (s : Step) : Type 0 where
  pub event : s.event ≡ event.None
  pub afresh : s.afresh ≡ s.peer.run.group
  pub around : AroundRun p s.peer
  pub state : s.peer.run.state ≡ p.run.state
  pub sync : s.peer.run.sync ≡ p.run.sync
  pub sc : s.peer.run.sc ≡ p.run.sc
  pub toklen : s.peer.run.toklen ≡ p.run.toklen
  pub peer : s.peer.run.peer ≡ p.run.peer
  pub token : s.peer.run.token ≡ p.run.token
  pub set : T0Set κ s.peer.run

-- any other repeat changes Sc and t0
pub record Repeated (κ : Clock) (p : Peer) (s : Step) : Type 0 where
  pub event : s.event ≡ event.None
  pub afresh : s.afresh ≡ 0
  pub around : AroundRun p s.peer
  pub counted : Counted κ p s
  pub run : SameRun p.run s.peer.run
  pub set : T0Set κ s.peer.run

-- a formed pair: Confirmed, Sync 0, Sc 1, none rejected, t0 set; the token stays; a link is marked and keeps its t1
pub record Formed (κ : Clock) (p : Peer) (s : Step) : Type 0 where
  pub event : s.event ≡ event.None
  pub used : s.peer.used ≡ 1
  pub link : s.peer.link ≡ supersede p.link
  pub state : s.peer.run.state ≡ 2
  pub sync : s.peer.run.sync ≡ 0
  pub rejected : s.peer.run.rejected ≡ 0
  pub sc : s.peer.run.sc ≡ 1
  pub toklen : s.peer.run.toklen ≡ p.run.toklen
  pub token : s.peer.run.token ≡ p.run.token
  pub set : T0Set κ s.peer.run
  pub t1 : s.peer.link.t1 ≡ p.link.t1

-- a start: Committed, Sync 0, no token, t0 set; a link stays as it is, its mark too
pub record Started (κ : Clock) (p : Peer) (address : List ℕ) (group : ℕ) (fresh : List ℕ) (s : Step) : Type 0 where
  pub event : s.event ≡ event.None
  pub frames : s.frames ≡ One (commit_frame group)
  pub afresh : s.afresh ≡ group
  pub used : s.peer.used ≡ 1
  pub at : s.peer.address ≡ address
  pub link : s.peer.link ≡ p.link
  pub state : s.peer.run.state ≡ 1
  pub sync : s.peer.run.sync ≡ 0
  pub toklen : s.peer.run.toklen ≡ 0
  pub own : s.peer.run.own ≡ fresh
  pub set : T0Set κ s.peer.run

-- the run becomes the link, t1 a day after the reading
pub record Accepted (time : ℕ) (p : Peer) (s : Step) : Type 0 where
  pub event : s.event ≡ event.Accepted
  pub frames : s.frames ≡ None
  pub afresh : s.afresh ≡ 0
  pub used : s.peer.used ≡ p.used
  pub address : s.peer.address ≡ p.address
  pub run : s.peer.run ≡ no_run
  pub finished : s.peer.link.finished ≡ 1
  pub superseded : s.peer.link.superseded ≡ 0
  pub sync : s.peer.link.sync ≡ p.run.sync
  pub group : s.peer.link.group ≡ p.run.group
  pub t1 : s.peer.link.t1 ≡ deadline time 86400000
  pub own : s.peer.link.own ≡ p.run.own
  pub peer : s.peer.link.peer ≡ p.run.peer

-- the run ends and a link stays, t1 with it, or the record is freed
pub record Abandoned (p : Peer) (s : Step) : Type 0 where
  pub event : s.event ≡ event.Abandoned
  pub frames : s.frames ≡ None
  pub afresh : s.afresh ≡ 0
  pub peer : s.peer ≡ settled (with_run p no_run)
  pub t1 : (p.link.finished ≡ 0 → ⊥) → s.peer.link.t1 ≡ p.link.t1

-- the link ends and a run stays, t0 with it, or the record is freed
pub record Ended (p : Peer) (s : Step) : Type 0 where
  pub event : s.event ≡ event.Ended
  pub frames : s.frames ≡ None
  pub afresh : s.afresh ≡ 0
  pub peer : s.peer ≡ settled (with_link p no_link)
  pub t0 : (p.run.state ≡ 0 → ⊥) → s.peer.run.t0 ≡ p.run.t0

-- a link hears a Confirm again: Rc, and Sync by at most one
pub record Again (κ : Clock) (p : Peer) (s : Step) : Type 0 where
  pub event : s.event ≡ event.None
  pub afresh : s.afresh ≡ 0
  pub around : AroundLink p s.peer
  pub low : p.link.sync ≤ κ.limit
  pub sync : s.peer.link.sync ≤ p.link.sync + 1
  pub finished : s.peer.link.finished ≡ p.link.finished
  pub superseded : s.peer.link.superseded ≡ p.link.superseded
  pub group : s.peer.link.group ≡ p.link.group
  pub own : s.peer.link.own ≡ p.link.own
  pub peer : s.peer.link.peer ≡ p.link.peer
  pub t0 : s.peer.run.t0 ≡ p.run.t0
  pub t1 : s.peer.link.t1 ≡ p.link.t1

pub data Did (κ : Clock) (p : Peer) (s : Step) : Type 0 where
  dropped : Dropped p s → Did κ p s
  answered : Answered p s → Did κ p s
  refused : Refused p s → Did κ p s
  replied : Replied κ p s → Did κ p s
  switched : Switched κ p s → Did κ p s
  repeated : Repeated κ p s → Did κ p s
  formed : Formed κ p s → Did κ p s
  started : (address : List ℕ) (group : ℕ) (fresh : List ℕ) → Started κ p address group fresh s → Did κ p s
  accepted : Accepted κ.time p s → Did κ p s
  abandoned : Abandoned p s → Did κ p s
  ended : Ended p s → Did κ p s
  again : Again κ p s → Did κ p s

-- ---- the acts have their rows

-- a mark leaves Sync and t1
pub supersede-sync : (l : Link) → (supersede l).sync ≡ l.sync
unfolding supersede
supersede-sync l = whether (λ (x : Link). x.sync ≡ l.sync) (l.finished is 0) l (with_mark l 1) (λ e. refl) (λ e. refl)

supersede-t1 : (l : Link) → (supersede l).t1 ≡ l.t1
unfolding supersede
supersede-t1 l = whether (λ (x : Link). x.t1 ≡ l.t1) (l.finished is 0) l (with_mark l 1) (λ e. refl) (λ e. refl)

-- a link keeps t1 where the run ends, and a run keeps t0 where the link ends
abandoned-t1 : (p : Peer) → (p.link.finished ≡ 0 → ⊥) → (settled (with_run p no_run)).link.t1 ≡ p.link.t1
unfolding with_run
abandoned-t1 p d = settle-outcomes (λ (q : Peer). q.link.t1 ≡ p.link.t1) (with_run p no_run) (λ x y. absurd (d y)) (λ z. refl)

ended-t0 : (p : Peer) → (p.run.state ≡ 0 → ⊥) → (settled (with_link p no_link)).run.t0 ≡ p.run.t0
unfolding with_link
ended-t0 p d = settle-outcomes (λ (q : Peer). q.run.t0 ≡ p.run.t0) (with_link p no_link) (λ x y. absurd (d x)) (λ z. refl)

module _ (κ : Clock) (p : Peer) where
  pub drop-row : Did κ p (dropping p)
  unfolding dropping answering
  drop-row = dropped (record { event = refl; frames = refl; afresh = refl; peer = refl })

  pub answer-row : (fs : Frames) → Did κ p (answering p fs)
  unfolding answering
  answer-row fs = answered (record { event = refl; afresh = refl; peer = refl; t0 = refl; t1 = refl })

  pub refuse-row : Did κ p (refusing p)
  unfolding refusing
  refuse-row = refused (record { event = refl; frames = refl; afresh = refl; refused = refl; peer = refl; t0 = refl; t1 = refl })

  pub token-row : (m : Message) → p.run.sync ≤ κ.limit
      → Did κ p (sending κ p (with_sync (with_token p.run m.toklen m.token) (p.run.sync + 1)) (One (commit_frame p.run.group)) 0)
  unfolding with_sync with_token sending with_run set_t0
  token-row m h =
      replied (record {
        event = refl;
        afresh = refl;
        around = record { used = refl; address = refl; link = refl };
        counted = record { low = h; sync = refl };
        state = refl;
        rejected = refl;
        sc = refl;
        group = refl;
        own = refl;
        peer = refl;
        set = record { t0 = refl };
      })

  pub switch-row : (rejected g : ℕ) (fresh : List ℕ) (fs : Frames) → Did κ p (sending κ p (changed.switched p.run rejected g fresh) fs g)
  unfolding changed.switched sending with_run set_t0
  switch-row rejected g fresh fs =
      switched (record {
        event = refl;
        afresh = refl;
        around = record { used = refl; address = refl; link = refl };
        state = refl;
        sync = refl;
        sc = refl;
        toklen = refl;
        peer = refl;
        token = refl;
        set = record { t0 = refl };
      })

  pub count-row : (sc : ℕ) (fs : Frames) → p.run.sync ≤ κ.limit → Did κ p (sending κ p (with_sync (with_sc p.run sc) (p.run.sync + 1)) fs 0)
  unfolding with_sync with_sc sending with_run set_t0
  count-row sc fs h =
      repeated (record {
        event = refl;
        afresh = refl;
        around = record { used = refl; address = refl; link = refl };
        counted = record { low = h; sync = refl };
        run = record { state = refl; rejected = refl; group = refl; toklen = refl; own = refl; peer = refl; token = refl };
        set = record { t0 = refl };
      })

  pub form-row : (address : List ℕ) (g : ℕ) (own theirs : List ℕ) (fs : Frames) (afresh : ℕ) → Did κ p (forming κ p address g own theirs fs afresh)
  unfolding forming formed_run set_t0
  form-row address g own theirs fs afresh =
      formed (record {
        event = refl;
        used = refl;
        link = refl;
        state = refl;
        sync = refl;
        rejected = refl;
        sc = refl;
        toklen = refl;
        token = refl;
        set = record { t0 = refl };
        t1 = supersede-t1 p.link;
      })

  pub start-row : (address : List ℕ) (group : ℕ) (fresh : List ℕ) → Started κ p address group fresh (starting κ p address group fresh)
  unfolding starting set_t0 started_run
  start-row address group fresh =
      record {
        event = refl;
        frames = refl;
        afresh = refl;
        used = refl;
        at = refl;
        link = refl;
        state = refl;
        sync = refl;
        toklen = refl;
        own = refl;
        set = record { t0 = refl };
      }

  pub accept-row : (counter : ℕ) → Did κ p (accepting p counter κ.time)
  unfolding accepting link_of_run
  accept-row counter =
      accepted (record {
        event = refl;
        frames = refl;
        afresh = refl;
        used = refl;
        address = refl;
        run = refl;
        finished = refl;
        superseded = refl;
        sync = refl;
        group = refl;
        t1 = refl;
        own = refl;
        peer = refl;
      })

  pub abandon-row : Did κ p (abandoning p)
  unfolding abandoning
  abandon-row = abandoned (record { event = refl; frames = refl; afresh = refl; peer = refl; t1 = abandoned-t1 p })

  pub end_row : Did κ p (ending_link p)
  unfolding ending_link
  end_row = ended (record { event = refl; frames = refl; afresh = refl; peer = refl; t0 = ended-t0 p })

  pub hear-row : (counter sync : ℕ) (fs : Frames) → p.link.sync ≤ κ.limit → sync ≤ p.link.sync + 1 → Did κ p (answering (with_link p (heard_again p.link counter sync)) fs)
  unfolding answering with_link heard_again
  hear-row counter sync fs h k =
      again (record {
        event = refl;
        afresh = refl;
        around = record { used = refl; address = refl; run = refl };
        low = h;
        sync = k;
        finished = refl;
        superseded = refl;
        group = refl;
        own = refl;
        peer = refl;
        t0 = refl;
        t1 = refl;
      })
