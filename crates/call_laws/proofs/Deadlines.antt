-- A DEADLINE MOVES ONLY when a frame is sent, or a run or link ends: for every call but set up, and every address. And where a call answers neither frame nor
-- event, a kill apart, none moves.
use Rattle.std.specs.Prelude.{Option, Some, None, Result, Ok}
use mathlib.Core.Path.{◌≡◌, refl, sym, ap, ◌∙◌, subst}
use mathlib.Core.Logic.{inl, inr}
use mathlib.Core.Bool.{Bool, true, false, ◌||◌}
use mathlib.Core.List.{List}
use Prim.Native.Nat.{ℕ, ◌^◌, ◌<◌}
use native.Mathlib.Decide.{ℕ_discrete}
use lib.ListN.{length}
use Rattle.octets.specs.Octets.{Bytes, same_address}
use Rattle.octets.proofs.Scan.{clash, cases}
use Rattle.octets.proofs.Tests.{same-address}
use Rattle.record.specs.declared.Peer.{Peer}
use Rattle.record.specs.Layout.{no_run, no_link, no_peer}
use Rattle.record.proofs.Laws.{shape-peer}
use Rattle.soundness.proofs.Laws.{run-states, peer-unused, peer-in-use}
use Rattle.table.specs.Table.{decode_table, slot, look_by, look, sound, entry}
use Rattle.table.proofs.Laws.{entry-found}
use Rattle.rules.specs.Book.{has_run, has_link, Step, silence, on_start, on_frame, on_clock}
use Rattle.rules.proofs.Ladders.{start-asked, frame-asked, clock-asked}
use Rattle.rule_laws.specs.Deadlines.{Still, Ends, run_ends, link_ends}
use Rattle.rule_laws.proofs.Deadlines.{StepMoves, still, has_sent, has_ended, act-moves}
use Rattle.rule_laws.proofs.Keeps.{Kept, parts}
use Rattle.answers.specs.Answers.{Report, Left, turned, said}
use Rattle.answers.proofs.Ending.{Finished, Turned, denied, done, turn-ends}
use Rattle.calls.specs.Calls.{start_turn, start_step, initiates, kill_turn, kill_step, kills, frame_turn, frame_step, receives, due_slot, clock_step, expires}
use Rattle.call_laws.specs.Isolation.{PeerCall, initiate, kill, receive, expire, Handed, an_initiate, a_kill, a_receive, an_expire, left}
use Rattle.call_laws.specs.Deadlines.{StillAt, Moves, sends, ends, Silent, is_kill}
use Rattle.call_laws.proofs.Good.{groups_in, own_in, high_in, entered-kept, start-entered, kill-entered, frame-entered, no-run, initiate_good, kill_good, receive_good, due-kept, due-entry, expire_address}
use Rattle.call_laws.proofs.Ends.{look-found, entered-finds, takes, clock-ends}
use Rattle.call_laws.proofs.Sound.{expire-keeps-none}
use Rattle.causes.specs.declared.Refusal.{Refusal}

-- a record that stays keeps its deadlines
same-still : (p q : Peer) → q ≡ p → Still p q
same-still p q e = record { t0 = ap (λ (x : Peer). x.run.t0) e; t1 = ap (λ (x : Peer). x.link.t1) e }

unchanged-still : (t a : List ℕ) (l : Left) → l.table ≡ t → StillAt t a l
unchanged-still t a l e = same-still _ _ (ap (λ (u : List ℕ). look (decode_table u) a) e)

-- ---- a step that is done, about the address x

module _ (t x : List ℕ) (k : Bool) (l : Left) (s : Step) (F : Finished t x s l) where
  moves-here : StepMoves k (look (decode_table t) x) s → (StillAt t x l → ⊥) → Moves t x k l
  unfolding said
  moves-here (still q) d = absurd (d (subst (Still (look (decode_table t) x)) (sym F.here) q))
  moves-here (has_sent q) d = sends (ap (λ (r : Report). r.address) F.answer) (λ e. q (sym (ap (λ (r : Report). r.frames) F.answer) ∙ e))
  moves-here (has_ended q u) d =
      ends (ap (λ (r : Report). r.address) F.answer) (subst (Ends (look (decode_table t) x)) (sym F.here) q)
      (λ e. u (sym (ap (λ (r : Report). r.event) F.answer) ∙ e))

  -- of any address a
  step-moves : (a : List ℕ) → length x ≡ 6 → Bytes x → length a ≡ 6 → Bytes a → StepMoves k (look (decode_table t) x) s → (StillAt t a l → ⊥) → Moves t a k l
  step-moves a lx bx la ba m = elim (cases (same_address x a)) [
    | inl e ↦ subst (λ (y : List ℕ). (StillAt t y l → ⊥) → Moves t y k l) (same-address x a (lx ∙ sym la) bx ba e) (moves-here m)
    | inr n ↦ λ d. absurd (d (same-still _ _ (F.elsewhere a n)))
  ]

-- a call about x: refused, or its step is done
turn-moves : (w : Result (Option ℕ) Refusal) (g : Option ℕ → Step) (t x a : List ℕ) (k : Bool) → length x ≡ 6 → Bytes x → length a ≡ 6 → Bytes a → Turned w g t x
    → ((f : Option ℕ) → w ≡ Ok f → StepMoves k (look (decode_table t) x) (g f)) → (StillAt t a (turned w g t x) → ⊥) → Moves t a k (turned w g t x)
turn-moves w g t x a k lx bx la ba (denied c e) m d = absurd (d (unchanged-still t a (turned w g t x) (ap (λ (l : Left). l.table) e)))
turn-moves w g t x a k lx bx la ba (done f q F) m d = step-moves t x k (turned w g t x) (g f) F a lx bx la ba (m f q) d

-- ---- each call's step

module _ (t x : List ℕ) (b : Bytes t) (lx : length x ≡ 6) (bx : Bytes x) where
  start-moves : (time : ℕ) (fresh : List ℕ) (f : Option ℕ) → start_turn (entry t x) t fresh ≡ Ok f → StepMoves false (look (decode_table t) x) (start_step (decode_table t) f x time fresh)
  unfolding start_step on_start
  start-moves time fresh f e =
      let w = start-entered t x fresh (entry t x) f refl e in
      subst (λ (p : Peer). StepMoves false p (start_step (decode_table t) f x time fresh)) (look-found (decode_table t) x f (entered-finds t x f w.0))
      (act-moves _ _ (look_by (decode_table t) f) silence (high_in t) (entered-kept t x b lx bx f w.0) (start-asked _ _ _ silence (no-run _ w.2)))

  frame-moves : (time : ℕ) (frame fresh expected : List ℕ) (verdict : ℕ) (f : Option ℕ) → frame_turn (entry t x) t frame fresh expected verdict ≡ Ok f
      → StepMoves false (look (decode_table t) x) (frame_step (decode_table t) f x time frame fresh expected verdict)
  unfolding frame_step on_frame
  frame-moves time frame fresh expected verdict f e =
      let w = (frame-entered t x frame fresh expected verdict (entry t x) f refl e).0 in
      subst (λ (p : Peer). StepMoves false p (frame_step (decode_table t) f x time frame fresh expected verdict)) (look-found (decode_table t) x f (entered-finds t x f w))
      (act-moves _ _ (look_by (decode_table t) f) _ (high_in t) (entered-kept t x b lx bx f w) (frame-asked _ _ _ _))

  -- a kill frees a record that was in use, so that it had a run or a link
  freed-moves : (p : Peer) → Kept (own_in t) (groups_in t) (high_in t) x p → StepMoves true p kill_step
  unfolding kill_step no_peer no_run no_link
  freed-moves p k = elim (ℕ_discrete p.used 0) [
    | yes z ↦ still (same-still p no_peer (sym (peer-unused _ _ _ p (shape-peer k.fits) k.form z)))
    | no d ↦ go (has_run p) (has_link p) refl refl (peer-in-use _ _ _ p d k.form).some
  ]
    where
      go : (u v : Bool) → has_run p ≡ u → has_link p ≡ v → (u || v) ≡ true → StepMoves true p kill_step
      go true v h i z = has_ended (run_ends h refl) (λ e. refl)
      go false true h i z = has_ended (link_ends i refl) (λ e. refl)
      go false false h i z = absurd (clash z refl)

  kill-moves : (f : Option ℕ) → kill_turn (entry t x) ≡ Ok f → StepMoves true (look (decode_table t) x) kill_step
  kill-moves f e =
      let w = kill-entered t x (entry t x) f refl e in
      subst (λ (p : Peer). StepMoves true p kill_step) (look-found (decode_table t) x f (entered-finds t x f w)) (freed-moves (look_by (decode_table t) f) (entered-kept t x b lx bx f w))

-- the clock call, by whose deadline it takes
module _ (t : List ℕ) (time : ℕ) (b : Bytes t) (ht : time < 2 ^ 32) (a : List ℕ) (la : length a ≡ 6) (ba : Bytes a) where
  due-moves : (k : ℕ) → (s : sound t ≡ true) → (e : due_slot (decode_table t) time ≡ Some k)
      → StepMoves false (look (decode_table t) (slot (decode_table t) k).address) (clock_step (decode_table t) k time)
  unfolding clock_step on_clock look_by
  due-moves k s e =
      let kept = due-kept t time k b s e in
      subst (λ (p : Peer). StepMoves false p (clock_step (decode_table t) k time))
      (look-found (decode_table t) (slot (decode_table t) k).address (Some k) (entry-found t _ (Some k) (due-entry t time k b s e)).1.1)
      (act-moves _ _ (slot (decode_table t) k) silence (high_in t) kept
      (clock-asked _ _ _ (run-states (groups_in t) (high_in t) (slot (decode_table t) k).run (parts (own_in t) (groups_in t) (high_in t) _ _ kept).run)))

  unsound-clock : sound t ≡ false → (expires t time).table ≡ t
  unfolding expires
  unsound-clock n = rw n refl

  clock-moves : (f : Option ℕ) → due_slot (decode_table t) time ≡ f → (StillAt t a (expires t time) → ⊥) → Moves t a false (expires t time)
  clock-moves None e = λ d. absurd (d (unchanged-still t a (expires t time) (expire-keeps-none t time b e)))
  clock-moves (Some k) e = elim (cases (sound t)) [
    | inl s ↦
        let x = expire_address t time k b s e in
        subst (λ (l : Left). (StillAt t a l → ⊥) → Moves t a false l) (sym (takes t time k s e))
        (step-moves t (slot (decode_table t) k).address false _ _ (clock-ends t time k s e b ht) a x.0 x.1 la ba (due-moves k s e))
    | inr n ↦ λ d. absurd (d (unchanged-still t a (expires t time) (unsound-clock n)))
  ]

-- FOR EVERY CALL but set up and EVERY ADDRESS: where t0 or t1 of the address's record is not what it was, the call's answer is about the address, and sends a
-- frame, or the address's run or link ended; the answer tells the end, a kill's apart
pub deadlines-move : (t a : List ℕ) (c : PeerCall) → Bytes t → length a ≡ 6 → Bytes a → Handed c → (StillAt t a (left t c) → ⊥) → Moves t a (is_kill c) (left t c)
unfolding initiates kills receives
deadlines-move t a (initiate address time fresh) b la ba (an_initiate lx bx ht bf) =
    turn-moves _ _ t address a false lx bx la ba (turn-ends _ _ t address b lx bx (λ f e. initiate_good t address time fresh f b lx bx ht bf e)) (start-moves t address b lx bx time fresh)
deadlines-move t a (kill address) b la ba (a_kill lx bx) =
    turn-moves _ _ t address a true lx bx la ba (turn-ends _ _ t address b lx bx (λ f e. kill_good t address f b lx bx e)) (kill-moves t address b lx bx)
deadlines-move t a (receive address time frame fresh expected verdict) b la ba (a_receive lx bx ht br bf be hv) =
    turn-moves _ _ t address a false lx bx la ba
    (turn-ends _ _ t address b lx bx (λ f e. receive_good t address time frame fresh expected verdict f b lx bx ht br bf be hv e))
    (frame-moves t address b lx bx time frame fresh expected verdict)
deadlines-move t a (expire time) b la ba (an_expire ht) = clock-moves t time b ht a la ba (due_slot (decode_table t) time) refl

-- SO WHERE A CALL ANSWERS NEITHER FRAME NOR EVENT, a kill apart, every deadline of every address is what it was: a host need not set its timer anew
pub silent-still : (t a : List ℕ) (c : PeerCall) → Bytes t → length a ≡ 6 → Bytes a → Handed c → is_kill c ≡ false → Silent (left t c) → StillAt t a (left t c)
silent-still t a c b la ba h n q = elim (ℕ_discrete (look (decode_table (left t c).table) a).run.t0 (look (decode_table t) a).run.t0) [
  | yes e ↦ elim (ℕ_discrete (look (decode_table (left t c).table) a).link.t1 (look (decode_table t) a).link.t1) [
    | yes f ↦ record { t0 = e; t1 = f }
    | no d ↦ absurd (untold (deadlines-move t a c b la ba h (λ s. d s.t1)))
  ]
  | no d ↦ absurd (untold (deadlines-move t a c b la ba h (λ s. d s.t0)))
]
  where
    untold : Moves t a (is_kill c) (left t c) → ⊥
    untold (sends e f) = f q.frames
    untold (ends e x y) = clash (y q.event) n
