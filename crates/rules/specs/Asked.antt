-- What each act may count on: what its ladders have tested by the time they name it. One row for each act, whichever rung names it; for Drop, one row for
-- each of the rungs that do.
use Rattle.std.specs.Prelude.{◌≡◌, true, false, ◌≤◌, ◌<◌}
use Rattle.octets.specs.Octets.{same}
use Rattle.record.specs.declared.Peer.{Peer}
use Rattle.rules.specs.Message.{Message}
use Rattle.rules.specs.declared.Act.{Act}
use Rattle.rules.specs.declared.Act.TheVariants.{Drop, RefuseGroup, AskToken, NoSlot, AnswerCommit, ConfirmCommit, ReplyToken, SwitchGroup, RepeatCommit, RepeatRefusal, ResendBoth, ConfirmAgain, GiveUp, Accept, HearAgain, HearLast, EndLink, Begin}
use Rattle.rules.specs.Book.{Terms, Call, unsupported, linked, lacks_token, wrong_token, our_fresh, equals_fresh, equals_own, unverified, outranks}

-- no run in being, as the ladders test it
pub record NoRun (p : Peer) : Type 0 where
  pub not_committed : p.run.state ≡ 1 → ⊥
  pub not_confirmed : p.run.state ≡ 2 → ⊥

-- ---- the drops, place by place: "every drop in 01's rules" (request b). Of the tests above it in its ladder a row asks that none names another act.

-- a status 0 Commit in a supported group
pub record Supported (m : Message) : Type 0 where
  pub commit : m.sequence ≡ 1
  pub status : m.status ≡ 0
  pub listed : unsupported m ≡ false

-- one that is not answered with a 76: Open is below the threshold, or it has a token
pub record Entitled (t : Terms) (m : Message) : Type 0 where
  pub supported : Supported m
  pub token : lacks_token t m ≡ false

pub data Drops (t : Terms) (c : Call) (p : Peer) (m : Message) : Type 0 where
  -- "Commit, no run, in this order: status nonzero, drop;
  idle_status : NoRun p → m.sequence ≡ 1 → (m.status ≡ 0 → ⊥) → Drops t c p m
  --  finished link with that group and peer scalar, drop;
  idle_linked : NoRun p → Supported m → linked p m ≡ true → Drops t c p m
  --  wrong token, drop;
  idle_token : NoRun p → Entitled t m → wrong_token t c m ≡ true → Drops t c p m
  --  then commit equal to our stock's,
  idle_equal : NoRun p → Entitled t m → equals_fresh t c m ≡ true → Drops t c p m
  --  or verdict 0, drop;"
  idle_verdict : NoRun p → Entitled t m → unverified c ≡ true → Drops t c p m
  -- "Commit in Committed: 76: … other group, drop.
  committed_76 : p.run.state ≡ 1 → m.sequence ≡ 1 → m.status ≡ 76 → (m.group ≡ p.run.group → ⊥) → Drops t c p m
  --  77: … Other group, drop.
  committed_77 : p.run.state ≡ 1 → m.sequence ≡ 1 → m.status ≡ 77 → (m.group ≡ p.run.group → ⊥) → Drops t c p m
  --  Other nonzero status, drop.
  committed_status : p.run.state ≡ 1 → m.sequence ≡ 1 → (m.status ≡ 76 → ⊥) → (m.status ≡ 77 → ⊥) → (m.status ≡ 0 → ⊥) → Drops t c p m
  --  0: … Supported but not ours: … lower: verdict 0
  lower_verdict : p.run.state ≡ 1 → Supported m → (m.group ≡ p.run.group → ⊥) → outranks t c ≡ false → unverified c ≡ true → Drops t c p m
  --  or equal to our stock's, drop;
  lower_equal : p.run.state ≡ 1 → Supported m → (m.group ≡ p.run.group → ⊥) → outranks t c ≡ false → equals_fresh t c m ≡ true → Drops t c p m
  --  Ours: equal to our commit
  ours_equal : p.run.state ≡ 1 → Supported m → m.group ≡ p.run.group → equals_own p m ≡ true → Drops t c p m
  --  or verdict 0, drop;"
  ours_verdict : p.run.state ≡ 1 → Supported m → m.group ≡ p.run.group → unverified c ≡ true → Drops t c p m
  -- "Confirm in Committed: nonzero status, drop;"
  committed_confirm : p.run.state ≡ 1 → (m.sequence ≡ 1 → ⊥) → (m.status ≡ 0 → ⊥) → Drops t c p m
  -- "Confirmed. Commit: status nonzero, drop;
  confirmed_status : p.run.state ≡ 2 → m.sequence ≡ 1 → (m.status ≡ 0 → ⊥) → Drops t c p m
  --  Sync above 5, give up; group differs, drop;"
  confirmed_group : p.run.state ≡ 2 → m.sequence ≡ 1 → p.run.sync ≤ c.clock.limit → (m.group ≡ p.run.group → ⊥) → Drops t c p m
  -- "Confirm: status nonzero
  confirmed_confirm : p.run.state ≡ 2 → (m.sequence ≡ 1 → ⊥) → (m.status ≡ 0 → ⊥) → Drops t c p m
  --  or verdict 0, drop;"
  confirmed_verdict : p.run.state ≡ 2 → (m.sequence ≡ 1 → ⊥) → unverified c ≡ true → Drops t c p m
  -- "Link, no run, Confirm: status nonzero, drop;
  link_status : NoRun p → (p.link.finished ≡ 0 → ⊥) → (m.sequence ≡ 1 → ⊥) → (m.status ≡ 0 → ⊥) → Drops t c p m
  --  its Sync above 5, link ends; counter not above Rc, drop;
  link_counter : NoRun p → (p.link.finished ≡ 0 → ⊥) → (m.sequence ≡ 1 → ⊥) → p.link.sync ≤ c.clock.limit → m.counter ≤ p.link.rc → Drops t c p m
  --  verdict 0, drop;"
  link_verdict : NoRun p → (p.link.finished ≡ 0 → ⊥) → (m.sequence ≡ 1 → ⊥) → p.link.sync ≤ c.clock.limit → unverified c ≡ true → Drops t c p m
  -- "Confirm with neither: drop."
  neither : NoRun p → p.link.finished ≡ 0 → (m.sequence ≡ 1 → ⊥) → Drops t c p m

-- ---- every act

-- a commit that is supported and verified
pub record Offer (m : Message) (c : Call) : Type 0 where
  pub status : m.status ≡ 0
  pub listed : m.listed ≡ true
  pub verified : c.verified ≡ true

pub data Asked (t : Terms) (c : Call) (p : Peer) (m : Message) : Act → Type 0 where
  -- without a run
  refuse_group : NoRun p → m.status ≡ 0 → m.listed ≡ false → Asked t c p m RefuseGroup
  ask_token : NoRun p → m.status ≡ 0 → m.listed ≡ true → Asked t c p m AskToken
  no-slot : NoRun p → t.full ≡ true → Asked t c p m NoSlot
  begin : NoRun p → t.full ≡ false → Asked t c p m Begin
  -- without a run, a slot being there, or in Committed
  answer_commit : (p.run.state ≡ 2 → ⊥) → ((p.run.state ≡ 1 → ⊥) → t.full ≡ false) → Offer m c → same m.commit (our_fresh t c m) ≡ false
      → Asked t c p m AnswerCommit
  -- in Committed
  confirm_commit : p.run.state ≡ 1 → Offer m c → m.group ≡ p.run.group → same m.commit p.run.own ≡ false → Asked t c p m ConfirmCommit
  reply_token : p.run.state ≡ 1 → m.status ≡ 76 → m.group ≡ p.run.group → Asked t c p m ReplyToken
  switch_group : p.run.state ≡ 1 → m.status ≡ 77 → m.group ≡ p.run.group → Asked t c p m SwitchGroup
  repeat_commit : p.run.state ≡ 1 → m.status ≡ 0 → Asked t c p m RepeatCommit
  repeat_refusal : p.run.state ≡ 1 → m.status ≡ 0 → m.listed ≡ false → Asked t c p m RepeatRefusal
  -- in Confirmed
  resend_both : p.run.state ≡ 2 → m.status ≡ 0 → p.run.sync ≤ c.clock.limit → m.group ≡ p.run.group → Asked t c p m ResendBoth
  confirm_again : p.run.state ≡ 2 → m.status ≡ 0 → Asked t c p m ConfirmAgain
  give_up : p.run.state ≡ 2 → m.status ≡ 0 → c.clock.limit < p.run.sync → Asked t c p m GiveUp
  accept : p.run.state ≡ 2 → (m.sequence ≡ 1 → ⊥) → m.status ≡ 0 → c.verified ≡ true → Asked t c p m Accept
  -- with a link and no run
  hear_again : NoRun p → (p.link.finished ≡ 0 → ⊥) → p.link.sync ≤ c.clock.limit → p.link.rc < m.counter → c.verified ≡ true → Asked t c p m HearAgain
  hear_last : NoRun p → (p.link.finished ≡ 0 → ⊥) → p.link.sync ≤ c.clock.limit → p.link.rc < m.counter → c.verified ≡ true → Asked t c p m HearLast
  -- always
  end_link : Asked t c p m EndLink
  -- in one of its places
  drop : Drops t c p m → Asked t c p m Drop
