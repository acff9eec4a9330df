-- EVERY ACT KEEPS A RECORD SOUND, and so every rule does.
use mathlib.Core.Path.{◌≡◌, refl, sym, subst}
use mathlib.Core.Bool.{Bool, true, false}
use mathlib.Core.List.{List}
use Prim.Native.Nat.{ℕ, ◌+◌, ◌≤◌, ◌<◌}
use native.Mathlib.Omega.{arith}
use lib.Dec.{lit<, lit≤}
use lib.ListN.{length, length-replicate}
use Rattle.std.specs.Prelude.{if◌then◌else◌}
use Rattle.octets.proofs.Scan.{clash}
use Rattle.octets.proofs.Tests.{zero-zeros}
use Rattle.groups.specs.Groups.{width}
use Rattle.groups.proofs.Laws.{bytes-zeros}
use Rattle.record.specs.declared.Peer.{Peer}
use Rattle.soundness.proofs.Laws.{run-states, run-is-committed, link-is-finished}
use Rattle.rules.specs.Message.{Message}
use Rattle.rules.specs.declared.Act.{Act}
use Rattle.rules.specs.declared.Act.TheVariants as act
use Rattle.rules.specs.Book.{◌is◌, holds, Terms, Call, Step, silence, t0_due, perform, dropping, refusing, answering_commit, confirming_commit, repeating_commit, repeating_refusal, confirming_again, resending_both, hearing_again, hearing_last, commit_act, confirm_act, clock_act, on_frame, on_clock, on_start}
use Rattle.rules.specs.Asked.{NoRun, Asked, refuse_group, ask_token, no-slot, begin, answer_commit, confirm_commit, reply_token, switch_group, repeat_commit, repeat_refusal, resend_both, confirm_again, give_up, accept, hear_again, hear_last, end_link, drop}
use Rattle.rules.proofs.Ladders.{start-asked, commit-asked, confirm-asked, frame-asked, clock-asked}
use Rattle.rule_laws.proofs.Outcomes.{repeat-outcomes}
use Rattle.rule_laws.proofs.Keeps.{Place, Lists, Stored, Stock, Heard, Kept, Keeps, parts, listed_at, fresh-stored, heard-stored, answer_keeps, abandon-keeps, end-keeps, form-keeps, accept-keeps, hear-keeps, same-keeps, raised_keeps, start-keeps, switch-keeps, reply-keeps}

-- what a call hands over
pub record Handed (t : Terms) (c : Call) (m : Message) : Type 0 where
  pub place : Place t.own c.address
  pub lists : Lists t.groups
  pub some : 0 < length t.groups
  pub heard : Heard t.groups m
  pub counter : m.counter < 65536
  pub low : c.clock.limit + 1 < 256

-- the acts that use a fresh commit, or would
abbrev pub uses_fresh : Act → Bool
uses_fresh act.Drop = false
uses_fresh act.RefuseGroup = false
uses_fresh act.AskToken = false
uses_fresh act.NoSlot = false
uses_fresh act.AnswerCommit = true
uses_fresh act.ConfirmCommit = false
uses_fresh act.ReplyToken = false
uses_fresh act.SwitchGroup = true
uses_fresh act.RepeatCommit = false
uses_fresh act.RepeatRefusal = false
uses_fresh act.ResendBoth = false
uses_fresh act.ConfirmAgain = false
uses_fresh act.GiveUp = false
uses_fresh act.Accept = false
uses_fresh act.HearAgain = false
uses_fresh act.HearLast = false
uses_fresh act.EndLink = false
uses_fresh act.Begin = true

module _ (t : Terms) (c : Call) (p : Peer) (m : Message) (h : Handed t c m) (k : Kept t.own t.groups (c.clock.limit + 1) c.address p) where
  abbrev Sound : Step → Type 0
  Sound s = Keeps t.own t.groups (c.clock.limit + 1) c.address s

  within : c.clock.limit + 1 ≤ c.clock.limit + 1
  within = omega arith

  stored-own : p.run.state ≡ 1 → m.group ≡ p.run.group → Stored m.group p.run.own
  stored-own s g =
      let q = parts t.own t.groups (c.clock.limit + 1) c.address p k in
      let f = run-is-committed t.groups (c.clock.limit + 1) p.run s q.run in
      subst (λ (x : ℕ). Stored x p.run.own) (sym g) (record { long = q.fit_run.shape.own; bytes = q.fit_run.own; tail = f.own })

  -- EVERY ACT keeps a record sound
  pub sound-act : {a : Act} → (uses_fresh a ≡ true → Stock t.groups c.fresh) → Asked t c p m a → Sound (perform t c p m a)
  unfolding perform dropping refusing answering_commit confirming_commit repeating_commit repeating_refusal confirming_again resending_both hearing_again hearing_last
  sound-act S (drop d) = answer_keeps _ _ _ _ p _ k
  sound-act S (refuse_group r z l) = answer_keeps _ _ _ _ p _ k
  sound-act S (ask_token r z l) = answer_keeps _ _ _ _ p _ k
  sound-act S (no-slot r e) = record { kept = k }
  sound-act S (begin r e) = start-keeps _ _ _ _ c.clock p _ _ h.place h.lists k (listed_at t.groups 0 _ h.some refl) ((S refl).each 0 h.some)
  sound-act S (answer_commit d r o e) =
      let g = h.heard.group o.listed in
      form-keeps _ _ _ _ c.clock p c.address m.group _ m.commit _ _ h.place h.lists k refl g (fresh-stored t.groups c.fresh m.group (S refl) g)
      (heard-stored t.own t.groups (c.clock.limit + 1) c.address m h.heard o.listed)
  sound-act S (confirm_commit s o g e) =
      form-keeps _ _ _ _ c.clock p c.address m.group _ m.commit _ _ h.place h.lists k refl (h.heard.group o.listed) (stored-own s g)
      (heard-stored t.own t.groups (c.clock.limit + 1) c.address m h.heard o.listed)
  sound-act S (reply_token s z g) = reply-keeps _ _ _ _ c.clock p m within h.low h.heard k s
  sound-act S (switch_group s z g) = switch-keeps _ _ _ _ c.clock p c.fresh h.lists (S refl) k s
  sound-act S (repeat_commit s z) = same-keeps _ _ _ _ c.clock p _ within h.low k s
  sound-act S (repeat_refusal s z l) = same-keeps _ _ _ _ c.clock p _ within h.low k s
  sound-act S (resend_both s z l g) = raised_keeps _ _ _ _ c.clock p _ k s (omega arith) h.low
  sound-act S (confirm_again s z) =
      repeat-outcomes Sound c.clock p _ _ (λ e. abandon-keeps _ _ _ _ p k) (λ e. raised_keeps _ _ _ _ c.clock p _ k s (omega arith) h.low)
  sound-act S (give_up s z e) = abandon-keeps _ _ _ _ p k
  sound-act S (accept s d z v) = accept-keeps _ _ _ _ p m.counter c.clock.time k s h.counter
  sound-act S (hear_again r n l i v) = hear-keeps _ _ _ _ p m.counter _ _ k n h.counter (omega arith) h.low
  sound-act S (hear_last r n l i v) =
      hear-keeps _ _ _ _ p m.counter _ _ k n h.counter (link-is-finished t.groups (c.clock.limit + 1) p.link n (parts t.own t.groups (c.clock.limit + 1) c.address p k).link).sync h.low
  sound-act S end_link = end-keeps _ _ _ _ p k

  -- whatever Commit, Confirm or frame comes
  module _ (S : Stock t.groups c.fresh) where
    pub commit-keeps : m.sequence ≡ 1 → Sound (perform t c p m (commit_act t c p m))
    commit-keeps f = sound-act (λ e. S) (commit-asked t c p m f)

    pub confirm-keeps : (m.sequence ≡ 1 → ⊥) → Sound (perform t c p m (confirm_act c p m))
    confirm-keeps d = sound-act (λ e. S) (confirm-asked t c p m d)

    pub frame-keeps : Sound (on_frame t c p m)
    unfolding on_frame
    frame-keeps = sound-act (λ e. S) (frame-asked t c p m)

-- nothing is heard at a start and at a deadline
heard-nothing : (gs : List ℕ) → Heard gs silence
heard-nothing gs =
    record {
      group = λ e. absurd (clash e refl);
      long = length-replicate {A = ℕ} width 0;
      bytes = bytes-zeros width;
      tail = λ e. absurd (clash e refl);
      short = lit≤ tt;
      token = length-replicate {A = ℕ} 256 0;
      octets = bytes-zeros 256;
      rest = zero-zeros 256;
    }

module _ (t : Terms) (c : Call) (p : Peer) (place : Place t.own c.address) (lists : Lists t.groups) (some : 0 < length t.groups) (low : c.clock.limit + 1 < 256)
    (k : Kept t.own t.groups (c.clock.limit + 1) c.address p) where
  silent : Handed t c silence
  silent = record { place = place; lists = lists; some = some; heard = heard-nothing t.groups; counter = lit< tt; low = low }

  -- a start, where no run is in being
  pub begin-keeps : Stock t.groups c.fresh → NoRun p → Keeps t.own t.groups (c.clock.limit + 1) c.address (on_start t c p)
  unfolding on_start
  begin-keeps S r = sound-act t c p silence silent k (λ e. S) (start-asked t c p silence r)

  -- a deadline: no act of the clock uses a fresh commit
  clock-uses : uses_fresh (clock_act p c.clock.time) ≡ false
  unfolding clock_act
  clock-uses = go (holds (t0_due p c.clock.time)) (p.run.state is 2)
    where
      go : (a b : Bool) → uses_fresh (if a then (if b then act.ConfirmAgain else act.RepeatCommit) else act.EndLink) ≡ false
      go true true = refl
      go true false = refl
      go false b = refl

  pub expire-keeps : Keeps t.own t.groups (c.clock.limit + 1) c.address (on_clock t c p)
  unfolding on_clock
  expire-keeps =
      sound-act t c p silence silent k (λ e. absurd (clash e clock-uses))
      (clock-asked t c p (run-states t.groups (c.clock.limit + 1) p.run (parts t.own t.groups (c.clock.limit + 1) c.address p k).run))
