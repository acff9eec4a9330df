-- Each act's step is of the kinds that the list of calls tells apart: a clause for each row of what its ladders have tested.
use mathlib.Core.Path.{◌≡◌, refl, sym, ap, subst}
use mathlib.Core.Logic.{◌⊎◌, inl, inr}
use mathlib.Core.Bool.{Bool, true, false, not}
use mathlib.Core.List.{List}
use Prim.Native.Nat.{ℕ, ◌+◌, ◌≤◌, ◌<◌}
use lib.Dec.{eqb}
use lib.ListN.{length, get_or}
use borrow.Author.Tests.{eqb-true, ne_eqb, ltb-false}
use Rattle.std.specs.Prelude.{if◌then◌else◌, Option, Some, None}
use Rattle.octets.proofs.Scan.{clash}
use Rattle.groups.specs.Groups.{fresh_for, fresh_at, listed, first_left}
use Rattle.groups.proofs.Laws.{chosen}
use Rattle.record.specs.declared.Run.{Run}
use Rattle.record.specs.declared.Link.{Link}
use Rattle.record.specs.declared.Peer.{Peer}
use Rattle.record.specs.Layout.{no_run, no_link, no_peer}
use Rattle.rules.specs.declared.Frames.TheVariants.{One}
use Rattle.rules.specs.Message.{Message}
use Rattle.rules.specs.declared.Act.{Act}
use Rattle.rules.specs.declared.Act.TheVariants.{Drop, RefuseGroup, AskToken, NoSlot, AnswerCommit, ConfirmCommit, ReplyToken, SwitchGroup, RepeatCommit, RepeatRefusal, ResendBoth, ConfirmAgain, GiveUp, Accept, HearAgain, HearLast, EndLink, Begin}
use Rattle.rules.specs.Parts.{with_sync, with_sc, with_token, switched, heard_again, with_run, with_link}
use Rattle.rules.specs.declared.Clock.{Clock}
use Rattle.rules.specs.Book.{◌is◌, ◌isnt◌, ◌above◌, holds, Terms, silence, in_committed, in_confirmed, has_link, unsupported, linked, lacks_token, wrong_token, equals_fresh, equals_own, unverified, outranks, no_slot, spent, link_spent, t0_due, set_t0, sending, answering, refusing, settled, abandoning, ending_link, retransmitting, dropping, formed_run, forming, started_run, starting, switching_to, switching, link_of_run, accepting, answering_commit, confirming_commit, replying_token, repeating_commit, repeating_refusal, confirming_again, resending_both, hearing_last, hearing_again, start_act, commit_idle, commit_committed, commit_confirmed, confirm_committed, confirm_confirmed, confirm_linked, clock_act, commit_act, confirm_act, frame_act, perform, on_frame, on_clock, on_start}
use Rattle.rules.specs.Book as book
use Rattle.rules.specs.Asked.{NoRun, Asked, refuse_group, ask_token, no-slot, begin, answer_commit, confirm_commit, reply_token, switch_group, repeat_commit, repeat_refusal, resend_both, confirm_again, give_up, accept, hear_again, hear_last, end_link, drop}
use Rattle.rules.proofs.Ladders.{frame-asked, clock-asked}
use Rattle.agreement.specs.Calls.{Call}
use Rattle.agreement.specs.Story.{is_start, is_frame, stock_in}
use Rattle.agreement.proofs.Rules.{either, Whole, SameRun, SameLink, Afresh, Hears, Verified, Does, quiet, informs, starts, switches, forms_fresh, forms_own, repeats, repeats_both, repeats_confirm, accepts, abandons, ends, answers}

-- the run state is 0, 1 or 2
pub data State (n : ℕ) : Type 0 where
  idle : n ≡ 0 → State n
  committed : n ≡ 1 → State n
  confirmed : n ≡ 2 → State n

without : (p : Peer) → State p.run.state → NoRun p → p.run.state ≡ 0
without p (idle e) r = e
without p (committed e) r = absurd (r.not_committed e)
without p (confirmed e) r = absurd (r.not_confirmed e)

unconfirmed : {n : ℕ} → State n → (n ≡ 2 → ⊥) → (n ≡ 0) ⊎ (n ≡ 1)
unconfirmed (idle e) d = inl e
unconfirmed (committed e) d = inr e
unconfirmed (confirmed e) d = absurd (d e)

states : {n : ℕ} → State n → (n ≡ 0) ⊎ ((n ≡ 1) ⊎ (n ≡ 2))
states (idle e) = inl e
states (committed e) = inr (inl e)
states (confirmed e) = inr (inr e)

-- ---- what a message is to the rules, with this verdict, and what the stock has

pub record Heard (gs : List ℕ) (c : Call) (m : Message) (verdict : Bool) : Type 0 where
  pub commit : m.status ≡ 0 → m.listed ≡ true → Hears gs c m.group m.commit × (listed gs m.group ≡ true)
  pub confirm : (m.sequence ≡ 1 → ⊥) → m.status ≡ 0 → verdict ≡ true → Verified gs c

pub record Stocked (gs : List ℕ) (c : Call) : Type 0 where
  pub group : (g : ℕ) → listed gs g ≡ true → Afresh gs c g (fresh_for gs (stock_in gs c) g)
  pub place : (i g : ℕ) → i < length gs → get_or gs i 0 ≡ g → Afresh gs c g (fresh_at (stock_in gs c) i)

-- ---- which acts a Commit names, and which every other message: a commit is used afresh for a Commit alone, and none begins

unfoldable fits : Bool → Act → Bool
fits commit Drop = true
fits commit RefuseGroup = true
fits commit AskToken = true
fits commit NoSlot = true
fits commit AnswerCommit = commit
fits commit ConfirmCommit = true
fits commit ReplyToken = true
fits commit SwitchGroup = commit
fits commit RepeatCommit = true
fits commit RepeatRefusal = true
fits commit ResendBoth = true
fits commit ConfirmAgain = true
fits commit GiveUp = true
fits commit Accept = true
fits commit HearAgain = true
fits commit HearLast = true
fits commit EndLink = true
fits commit Begin = false

record Fits (commit : Bool) (a : Act) : Type 0 where
  pub yes : fits commit a ≡ true

ok : {x : Bool} (a : Act) → fits x a ≡ true → Fits x a
ok a e = record { yes = e }

both : {x : Bool} (b : Bool) {y z : Act} → Fits x y → Fits x z → Fits x (if b then y else z)
both true f g = f
both false f g = g

module _ (t : Terms) (c : book.Call) (p : Peer) (m : Message) where
  idle-fits : Fits true (commit_idle t c p m)
  unfolding commit_idle fits
  idle-fits =
      let d : Fits true Drop = ok Drop refl in
      both (m.status isnt 0) d (both (unsupported m) (ok RefuseGroup refl) (both (linked p m) d (both (lacks_token t m) (ok AskToken refl)
      (both (wrong_token t c m) d (both (equals_fresh t c m) d (both (unverified c) d (both (no_slot t) (ok NoSlot refl) (ok AnswerCommit refl))))))))

  committed-fits : Fits true (commit_committed t c p m)
  unfolding commit_committed fits
  committed-fits =
      let d : Fits true Drop = ok Drop refl in
      both (m.status is 76) (both (m.group is p.run.group) (ok ReplyToken refl) d)
      (both (m.status is 77) (both (m.group is p.run.group) (ok SwitchGroup refl) d) (both (m.status isnt 0) d (both (unsupported m) (ok RepeatRefusal refl)
      (both (m.group isnt p.run.group) (both (outranks t c) (ok RepeatCommit refl) (both (unverified c) d (both (equals_fresh t c m) d (ok AnswerCommit refl))))
      (both (equals_own p m) d (both (unverified c) d (ok ConfirmCommit refl)))))))

  commit-fits : Fits true (commit_act t c p m)
  unfolding commit_act commit_confirmed fits
  commit-fits =
      let d : Fits true Drop = ok Drop refl in
      both (in_committed p) committed-fits
      (both (in_confirmed p) (both (m.status isnt 0) d (both (spent c p) (ok GiveUp refl) (both (m.group isnt p.run.group) d (ok ResendBoth refl)))) idle-fits)

  confirm-fits : Fits false (confirm_act c p m)
  unfolding confirm_act confirm_committed confirm_confirmed confirm_linked fits
  confirm-fits =
      let d : Fits false Drop = ok Drop refl in
      both (in_committed p) (both (m.status isnt 0) d (ok RepeatCommit refl))
      (both (in_confirmed p) (both (m.status isnt 0) d (both (unverified c) d (ok Accept refl)))
      (both (has_link p) (both (m.status isnt 0) d (both (link_spent c p) (ok EndLink refl) (both (not (m.counter above p.link.rc)) d (both (unverified c) d
      (both (m.counter is 65535) (ok HearLast refl) (ok HearAgain refl)))))) d))

  frame-fits : Fits (m.sequence is 1) (frame_act t c p m)
  unfolding frame_act
  frame-fits = go (m.sequence is 1)
    where
      go : (b : Bool) → Fits b (if b then commit_act t c p m else confirm_act c p m)
      go true = commit-fits
      go false = confirm-fits

clock-fits : (p : Peer) (time : ℕ) → Fits false (clock_act p time)
unfolding clock_act fits
clock-fits p time = both (holds (t0_due p time)) (both (in_confirmed p) (ok ConfirmAgain refl) (ok RepeatCommit refl)) (ok EndLink refl)

-- ---- the acts

same-run : (p : Peer) → SameRun p p
same-run p = record { free = λ e. e; state = refl; group = refl; own = refl; peer = refl; sync = refl; sc = refl }

same-link : (p : Peer) → SameLink p p
same-link p = record { free = λ e. e; finished = refl; superseded = refl; group = refl; own = refl; peer = refl }

pub no-run-state : (r : Run) → r ≡ no_run → r.state ≡ 0
unfolding no_run
no-run-state r e = ap (λ (x : Run). x.state) e

pub no-link-finished : (l : Link) → l ≡ no_link → l.finished ≡ 0
unfolding no_link
no-link-finished l e = ap (λ (x : Link). x.finished) e

heard-link : (p : Peer) (rc sync : ℕ) → (p.link.finished ≡ 0 → ⊥) → SameLink p (with_link p (heard_again p.link rc sync))
unfolding with_link heard_again
heard-link p rc sync d = record { free = λ e. absurd (d (no-link-finished p.link e)); finished = refl; superseded = refl; group = refl; own = refl; peer = refl }

heard-run : (p : Peer) (rc sync : ℕ) → SameRun p (with_link p (heard_again p.link rc sync))
unfolding with_link
heard-run p rc sync = record { free = λ e. e; state = refl; group = refl; own = refl; peer = refl; sync = refl; sc = refl }

module _ (gs : List ℕ) (c : Call) (κ : Clock) (p : Peer) (n : is_start c ≡ false) (W : Whole p) where
  dropped : Does gs κ.limit c p (dropping p)
  unfolding dropping answering
  dropped = quiet n (same-run p) (same-link p)

  denied : Does gs κ.limit c p (refusing p)
  unfolding refusing
  denied = quiet n (same-run p) (same-link p)

  informed : (x g : ℕ) → p.run.state ≡ 0 → eqb x 0 ≡ false → Does gs κ.limit c p (answering p (One (record { sequence = 1; status = x; group = g; counter = 0 })))
  unfolding answering
  informed x g s k = informs n s k

  abandoned : Does gs κ.limit c p (abandoning p)
  unfolding abandoning settled with_run no_run no_peer
  abandoned =
      abandons n (either (λ (q : Peer). q.run ≡ no_run) (p.link.finished is 0) (λ e. refl) (λ e. refl))
      (either (λ (q : Peer). q.link ≡ p.link) (p.link.finished is 0) (λ e. sym (W.link (eqb-true _ _ e))) (λ e. refl))

  ended : Does gs κ.limit c p (ending_link p)
  unfolding ending_link settled with_link no_link no_peer
  ended =
      ends n (either (λ (q : Peer). q.run ≡ p.run) (p.run.state is 0) (λ e. sym (W.run (eqb-true _ _ e))) (λ e. refl))
      (either (λ (q : Peer). q.link ≡ no_link) (p.run.state is 0) (λ e. refl) (λ e. refl))

  -- Repeat in Committed, and in Confirmed
  retransmitted : (r : Run) (x g : ℕ) → p.run.state ≡ 1 → r.state ≡ 1 → r.group ≡ p.run.group → r.own ≡ p.run.own
      → Does gs κ.limit c p (retransmitting κ p r (One (record { sequence = 1; status = x; group = g; counter = 0 })))
  unfolding retransmitting sending with_run set_t0 with_sync
  retransmitted r x g s z u o =
      either (Does gs κ.limit c p) (p.run.sync above κ.limit) (λ e. abandoned)
      (λ e. repeats n s (ltb-false _ _ e) (record { state = z; sync = refl; group = u; own = o }) refl)

  replied : (m : Message) → p.run.state ≡ 1 → Does gs κ.limit c p (replying_token κ p m)
  unfolding replying_token with_token
  replied m s = retransmitted (with_token p.run m.toklen m.token) 0 p.run.group s s refl refl

  confirmed-again : p.run.state ≡ 2 → Does gs κ.limit c p (confirming_again κ p)
  unfolding confirming_again retransmitting sending with_run set_t0 with_sync with_sc
  confirmed-again s =
      either (Does gs κ.limit c p) (p.run.sync above κ.limit) (λ e. abandoned)
      (λ e. repeats_confirm n s (ltb-false _ _ e) (record { state = s; sync = refl; sc = refl; group = refl; own = refl; peer = refl }) refl)

  resent : p.run.state ≡ 2 → p.run.sync ≤ κ.limit → Does gs κ.limit c p (resending_both κ p)
  unfolding resending_both sending with_run set_t0 with_sync with_sc
  resent s l = repeats_both n s l (record { state = s; sync = refl; sc = refl; group = refl; own = refl; peer = refl }) refl

  -- Form
  formed-fresh : (address : List ℕ) (m : Message) (own : List ℕ) → (p.run.state ≡ 0) ⊎ (p.run.state ≡ 1) → Afresh gs c m.group own
      → Hears gs c m.group m.commit → Does gs κ.limit c p (answering_commit κ p address m own)
  unfolding answering_commit forming formed_run set_t0
  formed-fresh address m own s f k = forms_fresh n s f k (record { state = refl; sync = refl; sc = refl; group = refl; own = refl; peer = refl }) refl

  formed-own : (address : List ℕ) (m : Message) → p.run.state ≡ 1 → m.group ≡ p.run.group → Hears gs c m.group m.commit
      → Does gs κ.limit c p (confirming_commit κ p address m)
  unfolding confirming_commit forming formed_run set_t0
  formed-own address m s e k =
      forms_own n s (subst (λ (x : ℕ). Hears gs c x m.commit) e k) (record { state = refl; sync = refl; sc = refl; group = e; own = refl; peer = refl }) refl

  switched-to : (rejected : ℕ) (k : Option (ℕ × ℕ)) → first_left gs 0 rejected ≡ k → p.run.state ≡ 1 → Stocked gs c
      → Does gs κ.limit c p (switching_to κ p rejected k (stock_in gs c))
  unfolding switching_to sending with_run set_t0 switched
  switched-to rejected (Some (i, g)) e s S =
      let k = chosen gs rejected i g e in switches n s (S.place i g k.0 k.1) (record { state = s; sync = refl; group = refl; own = refl }) refl
  switched-to rejected None e s S = abandoned

  switched-over : p.run.state ≡ 1 → Stocked gs c → Does gs κ.limit c p (switching κ p gs (stock_in gs c))
  unfolding switching
  switched-over s S = switched-to _ _ refl s S

  accepted : (counter time : ℕ) → p.run.state ≡ 2 → Verified gs c → Does gs κ.limit c p (accepting p counter time)
  unfolding accepting link_of_run
  accepted counter time s v = accepts n s v refl refl refl refl refl refl

  -- a link's Confirm
  heard-last : (rc : ℕ) → (p.link.finished ≡ 0 → ⊥) → Does gs κ.limit c p (hearing_last p rc)
  unfolding hearing_last answering
  heard-last rc d = quiet n (heard-run p rc p.link.sync) (heard-link p rc p.link.sync d)

  heard-again : (rc : ℕ) → p.run.state ≡ 0 → (p.link.finished ≡ 0 → ⊥) → Does gs κ.limit c p (hearing_again p rc)
  unfolding hearing_again answering with_link
  heard-again rc s d = answers n s (rw (ne_eqb _ _ d) refl) refl (heard-link p rc (p.link.sync + 1) d)

-- ---- the rules

module _ (t : Terms) (b : book.Call) (c : Call) (p : Peer) (m : Message) (n : is_start c ≡ false) (same : b.fresh ≡ stock_in t.groups c)
    (W : Whole p) (z : State p.run.state) (H : Heard t.groups c m b.verified) (S : (m.sequence is 1) ≡ true → Stocked t.groups c) where
  act-does : {a : Act} → Asked t b p m a → fits (m.sequence is 1) a ≡ true → Does t.groups b.clock.limit c p (perform t b p m a)
  unfolding perform fits repeating_commit repeating_refusal
  act-does (refuse_group r s l) f = informed t.groups c b.clock p n W 77 m.group (without p z r) refl
  act-does (ask_token r s l) f = informed t.groups c b.clock p n W 76 m.group (without p z r) refl
  act-does (no-slot r u) f = denied t.groups c b.clock p n W
  act-does (begin r u) f = absurd (clash f refl)
  act-does (answer_commit d u o e) f =
      let k = H.commit o.status o.listed in
      let w = (S f).group m.group k.1 in
      formed-fresh t.groups c b.clock p n W b.address m _ (unconfirmed z d)
      (subst (λ (x : List (List ℕ)). Afresh t.groups c m.group (fresh_for t.groups x m.group)) (sym same) w) k.0
  act-does (confirm_commit s o g e) f = formed-own t.groups c b.clock p n W b.address m s g (H.commit o.status o.listed).0
  act-does (reply_token s q g) f = replied t.groups c b.clock p n W m s
  act-does (switch_group s q g) f =
      subst (λ (x : List (List ℕ)). Does t.groups b.clock.limit c p (switching b.clock p t.groups x)) (sym same)
      (switched-over t.groups c b.clock p n W s (S f))
  act-does (repeat_commit s q) f = retransmitted t.groups c b.clock p n W p.run 0 p.run.group s s refl refl
  act-does (repeat_refusal s q l) f = retransmitted t.groups c b.clock p n W p.run 77 m.group s s refl refl
  act-does (resend_both s q l g) f = resent t.groups c b.clock p n W s l
  act-does (confirm_again s q) f = confirmed-again t.groups c b.clock p n W s
  act-does (give_up s q l) f = abandoned t.groups c b.clock p n W
  act-does (accept s d q v) f = accepted t.groups c b.clock p n W m.counter b.clock.time s (H.confirm d q v)
  act-does (hear_again r d l h v) f = heard-again t.groups c b.clock p n W m.counter (without p z r) d
  act-does (hear_last r d l h v) f = heard-last t.groups c b.clock p n W m.counter d
  act-does end_link f = ended t.groups c b.clock p n W
  act-does (drop d) f = dropped t.groups c b.clock p n W

  pub frame-does : Does t.groups b.clock.limit c p (on_frame t b p m)
  unfolding on_frame
  frame-does = act-does (frame-asked t b p m) (frame-fits t b p m).yes

-- a clock call brings no frame
pub clock-does : (t : Terms) (b : book.Call) (c : Call) (p : Peer) → is_start c ≡ false → b.fresh ≡ stock_in t.groups c → Whole p → State p.run.state
    → Heard t.groups c silence b.verified → Does t.groups b.clock.limit c p (on_clock t b p)
unfolding on_clock
clock-does t b c p n same W z H =
    act-does t b c p silence n same W z H (λ e. absurd (clash e refl)) (clock-asked t b p (states z)) (clock-fits p b.clock.time).yes

-- a start that is not refused: "Committed, first group, fresh commit"
pub start-does : (t : Terms) (b : book.Call) (c : Call) (p : Peer) → is_start c ≡ true → is_frame c ≡ false → p.run.state ≡ 0
    → Afresh t.groups c (get_or t.groups 0 0) (fresh_at b.fresh 0) → (on_start t b p).refused ≡ false → Does t.groups b.clock.limit c p (on_start t b p)
unfolding on_start start_act perform refusing starting started_run set_t0 holds
start-does t b c p e f s a r = go t.full r
  where
    go : (x : Bool) → (perform t b p silence (if x then NoSlot else Begin)).refused ≡ false → Does t.groups b.clock.limit c p (perform t b p silence (if x then NoSlot else Begin))
    go true q = absurd (clash refl q)
    go false q = starts e f s a (record { state = refl; sync = refl; group = refl; own = refl }) refl
