-- ISOLATION: two sound tables that are alike for an address give the same answer and leave the address the same record, whatever else they hold.
use mathlib.Core.Path.{◌≡◌, refl, sym, ap, ◌∙◌, subst}
use mathlib.Core.Bool.{Bool, true, false, not, ◌&&◌}
use mathlib.Core.List.{List}
use Prim.Native.Nat.{ℕ, ◌^◌, ◌<◌}
use native.Mathlib.Omega.{arith}
use lib.Dec.{eqb, ltb}
use lib.ListN.{length}
use borrow.Author.Tests.{eqb-true}
use Rattle.std.specs.Prelude.{if◌then◌else◌, Option, Some, None, Result, Ok, Err, is_none}
use Rattle.octets.specs.Octets.{Bytes}
use Rattle.octets.proofs.Scan.{clash, and_left}
use Rattle.groups.specs.Groups.{fresh_ok}
use Rattle.record.specs.declared.Peer.{Peer}
use Rattle.record.specs.declared.Settings.{Settings}
use Rattle.record.specs.declared.Form.{Form}
use Rattle.record.specs.Layout.{width_in, groups_of, no_peer, period_of, limit_of}
use Rattle.soundness.specs.Soundness.{usable}
use Rattle.table.specs.Table.{Table, decode_table, slot, belongs, finds, look_by, look, sound, entry}
use Rattle.table.proofs.Laws.{found_below}
use Rattle.initial.specs.Initial.{slots_for, initial_ok, initial_table}
use Rattle.rules.specs.declared.Act.TheVariants.{ConfirmAgain, RepeatCommit, EndLink}
use Rattle.rules.specs.Book.{◌is◌, has_run, holds, t0_due, silence, Terms, Call, Step, clock_act, perform, on_clock}
use Rattle.message.specs.View.{view}
use Rattle.causes.specs.declared.Refusal.{Refusal}
use Rattle.causes.specs.declared.Refusal.TheVariants as why
use Rattle.answers.specs.Answers.{Left, ends, turned, refuse, refused, said, quiet}
use Rattle.answers.proofs.Laws.{clashed}
use Rattle.answers.proofs.Ending.{Turned, denied, done, turn-ends}
use Rattle.writer.specs.Writer.{writes_parts, writes_record_by, writes_record}
use Rattle.calls.specs.Calls.{terms_of, clock_of, initializes, admit_start, start_turn, start_step, initiates, kill_turn, kill_step, kills, admit_frame, frame_turn, frame_step, receives, due_slot, clock_step, expires}
use Rattle.call_laws.specs.Alike.{SameFor, Alike}
use Rattle.call_laws.proofs.Good.{initiate_good, kill_good, receive_good}
use Rattle.call_laws.proofs.Ends.{Came, came, unsound, unusable, lacks, has, finish-answer, said-not, due_left, due-answer, takes, clock-ends}

-- ---- both tables come to the same

pub data Met (t u a : List ℕ) : Result (Option ℕ) Refusal → Result (Option ℕ) Refusal → Type 0 where
  neither : Met t u a (Err why.Address) (Err why.Address)
  lack_both : Met t u a (Ok None) (Ok None)
  have_both : {k j : ℕ} → slot (decode_table t) k ≡ slot (decode_table u) j → Met t u a (Ok (Some k)) (Ok (Some j))

lacking : (T : Table) (a : List ℕ) → finds T a ≡ None → (look T a).used ≡ 0
unfolding look look_by no_peer
lacking T a e = rw e

having : (T : Table) (a : List ℕ) (k : ℕ) → finds T a ≡ Some k → (look T a).used ≡ 1
unfolding look look_by belongs
having T a k e = rw e (eqb-true _ _ (and_left _ _ (found_below T a k e).1))

slot_of : (T : Table) (a : List ℕ) (k : ℕ) → finds T a ≡ Some k → slot T k ≡ look T a
unfolding look look_by
slot_of T a k e = ap (look_by T) (sym e)

-- tables of the same first period and Sync limit have the same clock
same_clock : (t u : List ℕ) (time : ℕ) → period_of (decode_table t).header.settings.period ≡ period_of (decode_table u).header.settings.period
    → limit_of (decode_table t).header.settings.limit ≡ limit_of (decode_table u).header.settings.limit
    → clock_of (decode_table t).header time ≡ clock_of (decode_table u).header time
same_clock t u time p l = λ i. record { time = time; period = p i; limit = l i }

module _ (t u a : List ℕ) (S : SameFor t u a) where
  same-used : (look (decode_table t) a).used ≡ (look (decode_table u) a).used
  same-used = ap (λ (p : Peer). p.used) S.peer

  same-usable : usable (decode_table t).header.own a ≡ usable (decode_table u).header.own a
  same-usable = ap (λ (o : List ℕ). usable o a) S.own

  both : (k j : ℕ) → finds (decode_table t) a ≡ Some k → finds (decode_table u) a ≡ Some j → Met t u a (Ok (Some k)) (Ok (Some j))
  both k j f h = have_both (slot_of (decode_table t) a k f ∙ S.peer ∙ sym (slot_of (decode_table u) a j h))

  met : (E F : Result (Option ℕ) Refusal) → Came t a E → Came u a F → Met t u a E F
  met E F (unsound s) d = absurd (clash S.sound₁ s)
  met E F (unusable s q) (unsound s₁) = absurd (clash S.sound₂ s₁)
  met E F (lacks s q f) (unsound s₁) = absurd (clash S.sound₂ s₁)
  met E F (has s q f) (unsound s₁) = absurd (clash S.sound₂ s₁)
  met E F (unusable s q) (unusable s₁ q₁) = neither
  met E F (unusable s q) (lacks s₁ q₁ f) = absurd (clash (same-usable ∙ q₁) q)
  met E F (unusable s q) (has s₁ q₁ f) = absurd (clash (same-usable ∙ q₁) q)
  met E F (lacks s q f) (unusable s₁ q₁) = absurd (clash q (same-usable ∙ q₁))
  met E F (has s q f) (unusable s₁ q₁) = absurd (clash q (same-usable ∙ q₁))
  met E F (lacks s q f) (lacks s₁ q₁ f₁) = lack_both
  met E F (lacks s q f) (has {k} s₁ q₁ f₁) = absurd (omega (arith, same-used, lacking (decode_table t) a f, having (decode_table u) a k f₁))
  met E F (has {k} s q f) (lacks s₁ q₁ f₁) = absurd (omega (arith, same-used, having (decode_table t) a k f, lacking (decode_table u) a f₁))
  met E F (has s q f) (has s₁ q₁ f₁) = both _ _ f f₁

-- ---- turns that are alike

pub data Paired (g h : Option ℕ → Step) : Result (Option ℕ) Refusal → Result (Option ℕ) Refusal → Type 0 where
  both_refuse : {c : Refusal} → Paired g h (Err c) (Err c)
  both_go : {f₁ k₁ : Option ℕ} → g f₁ ≡ h k₁ → Paired g h (Ok f₁) (Ok k₁)

paired-if : (g h : Option ℕ → Step) (b : Bool) (c : Refusal) (w x : Result (Option ℕ) Refusal) → Paired g h w x → Paired g h (if b then Err c else w) (if b then Err c else x)
paired-if g h true c w x p = both_refuse
paired-if g h false c w x p = p

paired-go : (g h : Option ℕ → Step) (w x : Result (Option ℕ) Refusal) (f k : Option ℕ) → Paired g h w x → w ≡ Ok f → x ≡ Ok k → g f ≡ h k
paired-go g h w x f k both_refuse p q = clashed p
paired-go g h w x f k (both_go {f₁} {k₁} e) p q =
    let i : f₁ ≡ f = cc in
    let j : k₁ ≡ k = cc in
    ap g (sym i) ∙ e ∙ ap h j

module _ (g h : Option ℕ → Step) (t u a : List ℕ) where
  -- THE SAME ANSWER
  paired-answer : (w x : Result (Option ℕ) Refusal) → Paired g h w x → (turned w g t a).answer ≡ (turned x h u a).answer
  unfolding turned
  paired-answer w x (both_refuse {c}) = refl
  paired-answer w x (both_go {f₁} {k₁} e) =
      finish-answer t f₁ (g f₁) a ∙ ap (λ (s : Step). if s.refused then refused why.Full else said s a) e ∙ sym (finish-answer u k₁ (h k₁) a)

-- THE SAME RECORD
module _ (g h : Option ℕ → Step) (t u a : List ℕ) (w x : Result (Option ℕ) Refusal) (p : Paired g h w x) (same : (turned w g t a).answer ≡ (turned x h u a).answer) (l : look (decode_table t) a ≡ look (decode_table u) a) where
  paired-record : Turned w g t a → Turned x h u a → look (decode_table (turned w g t a).table) a ≡ look (decode_table (turned x h u a).table) a
  paired-record (denied c e) (denied d q) =
      ap (λ (y : Left). look (decode_table y.table) a) e ∙ l ∙ sym (ap (λ (y : Left). look (decode_table y.table) a) q)
  paired-record (denied c e) (done k q F) = absurd (said-not _ a c (sym F.answer ∙ sym same ∙ ap (λ (y : Left). y.answer) e))
  paired-record (done f q F) (denied d e) = absurd (said-not _ a d (sym F.answer ∙ same ∙ ap (λ (y : Left). y.answer) e))
  paired-record (done f q F) (done k r H) = F.here ∙ ap (λ (s : Step). s.peer) (paired-go g h w x f k p q r) ∙ sym H.here

-- what isolation says of a call: the same answer, and the same record left
pub record Isolated (a : List ℕ) (l m : Left) : Type 0 where
  pub answer : l.answer ≡ m.answer
  pub peer : look (decode_table l.table) a ≡ look (decode_table m.table) a

isolated : (g h : Option ℕ → Step) (t u a : List ℕ) (w x : Result (Option ℕ) Refusal) → SameFor t u a → Paired g h w x → Turned w g t a → Turned x h u a → Isolated a (turned w g t a) (turned x h u a)
isolated g h t u a w x S p m n =
    let e = paired-answer g h t u a w x p in
    record { answer = e; peer = paired-record g h t u a w x p e S.peer m n }

-- ---- what the rules are told is the same

terms-same : (t u a : List ℕ) → Alike t u a → (f k : Option ℕ) → is_none f ≡ is_none k → terms_of (decode_table t) f ≡ terms_of (decode_table u) k
terms-same t u a A f k n = go _ _ _ _ _ _ _ _ _ _ A.same.own A.same.groups A.crowded n A.full
  where
    go : (o p g h : List ℕ) (c d x y v w : Bool) → o ≡ p → g ≡ h → c ≡ d → x ≡ y → v ≡ w
        → ◌≡◌ {A = Terms} (record { own = o; groups = g; crowded = c; full = x && v }) (record { own = p; groups = h; crowded = d; full = y && w })
    go o p g h c d x y v w e i j k l = cc

-- ---- Start

admit-start-paired : (g h : Option ℕ → Step) (T U : Table) (f k : Option ℕ) (fresh : List ℕ) → groups_of T.header ≡ groups_of U.header → width_in T.header ≡ width_in U.header → look_by T f ≡ look_by U k → g f ≡ h k
    → Paired g h (admit_start T f fresh) (admit_start U k fresh)
unfolding admit_start
admit-start-paired g h T U f k fresh p w q e =
    rw (p, w, q) (paired-if g h (not (fresh_ok (width_in U.header) (groups_of U.header) fresh)) why.Fresh _ _ (paired-if g h (has_run (look_by U k)) why.Running (Ok f) (Ok k) (both_go e)))

module _ (t u a : List ℕ) (A : Alike t u a) where
  start-same : (time : ℕ) (fresh : List ℕ) (f k : Option ℕ) → is_none f ≡ is_none k → look_by (decode_table t) f ≡ look_by (decode_table u) k
      → start_step (decode_table t) f a time fresh ≡ start_step (decode_table u) k a time fresh
  unfolding start_step
  start-same time fresh f k n q =
      let e = terms-same t u a A f k n in
      let κ = same_clock t u time A.same.period A.same.limit in
      let w = A.same.width in
      rw (q, e, κ, w)

  start-paired : (time : ℕ) (fresh : List ℕ) (E F : Result (Option ℕ) Refusal) → Met t u a E F
      → Paired (λ f. start_step (decode_table t) f a time fresh) (λ f. start_step (decode_table u) f a time fresh) (start_turn E t fresh) (start_turn F u fresh)
  unfolding start_turn look_by
  start-paired time fresh E F neither = both_refuse
  start-paired time fresh E F lack_both = admit-start-paired _ _ (decode_table t) (decode_table u) None None fresh A.same.groups A.same.width refl (start-same time fresh None None refl refl)
  start-paired time fresh E F (have_both {k} {j} q) =
      admit-start-paired _ _ (decode_table t) (decode_table u) (Some k) (Some j) fresh A.same.groups A.same.width q (start-same time fresh (Some k) (Some j) refl q)

pub initiate-isolated : (t u a : List ℕ) (time : ℕ) (fresh : List ℕ) → Bytes t → Bytes u → length a ≡ 6 → Bytes a → time < 2 ^ 32 → Bytes fresh → Alike t u a
    → Isolated a (initiates t a time fresh) (initiates u a time fresh)
unfolding initiates
initiate-isolated t u a time fresh bt bu la ba ht bf A =
    isolated _ _ t u a _ _ A.same (start-paired t u a A time fresh (entry t a) (entry u a) (met t u a A.same (entry t a) (entry u a) (came t a) (came u a)))
    (turn-ends _ _ t a bt la ba (λ f e. initiate_good t a time fresh f bt la ba ht bf e))
    (turn-ends _ _ u a bu la ba (λ f e. initiate_good u a time fresh f bu la ba ht bf e))

-- ---- Kill

kill-paired : (t u a : List ℕ) (E F : Result (Option ℕ) Refusal) → Met t u a E F → Paired (λ f. kill_step) (λ f. kill_step) (kill_turn E) (kill_turn F)
unfolding kill_turn
kill-paired t u a E F neither = both_refuse
kill-paired t u a E F lack_both = both_refuse
kill-paired t u a E F (have_both q) = both_go refl

pub kill-isolated : (t u a : List ℕ) → Bytes t → Bytes u → length a ≡ 6 → Bytes a → SameFor t u a → Isolated a (kills t a) (kills u a)
unfolding kills
kill-isolated t u a bt bu la ba S =
    isolated _ _ t u a _ _ S (kill-paired t u a (entry t a) (entry u a) (met t u a S (entry t a) (entry u a) (came t a) (came u a)))
    (turn-ends _ _ t a bt la ba (λ f e. kill_good t a f bt la ba e))
    (turn-ends _ _ u a bu la ba (λ f e. kill_good u a f bu la ba e))

-- ---- Frame received

admit-frame-paired : (g h : Option ℕ → Step) (T U : Table) (f k : Option ℕ) (frame fresh expected : List ℕ) (verdict : ℕ) → groups_of T.header ≡ groups_of U.header → width_in T.header ≡ width_in U.header → g f ≡ h k
    → Paired g h (admit_frame T f frame fresh expected verdict) (admit_frame U k frame fresh expected verdict)
unfolding admit_frame
admit-frame-paired g h T U f k frame fresh expected verdict p w e =
    rw (p, w)
    (paired-if g h (not (fresh_ok (width_in U.header) (groups_of U.header) fresh)) why.Fresh _ _
    (paired-if g h (not (eqb (length expected) 32)) why.Token _ _
    (paired-if g h (ltb 1 verdict) why.Verdict _ _
    (paired-if g h ((view (groups_of U.header) frame).sequence is 0) why.Body (Ok f) (Ok k) (both_go e)))))

module _ (t u a : List ℕ) (A : Alike t u a) (time : ℕ) (frame fresh expected : List ℕ) (verdict : ℕ) where
  frame_same : (f k : Option ℕ) → is_none f ≡ is_none k → look_by (decode_table t) f ≡ look_by (decode_table u) k
      → frame_step (decode_table t) f a time frame fresh expected verdict ≡ frame_step (decode_table u) k a time frame fresh expected verdict
  unfolding frame_step
  frame_same f k n q =
      let e = terms-same t u a A f k n in
      let κ = same_clock t u time A.same.period A.same.limit in
      let g = A.same.groups in
      let w = A.same.width in
      rw (q, e, κ, g, w)

  frame-paired : (E F : Result (Option ℕ) Refusal) → Met t u a E F
      → Paired (λ f. frame_step (decode_table t) f a time frame fresh expected verdict) (λ f. frame_step (decode_table u) f a time frame fresh expected verdict)
      (frame_turn E t frame fresh expected verdict) (frame_turn F u frame fresh expected verdict)
  unfolding frame_turn look_by
  frame-paired E F neither = both_refuse
  frame-paired E F lack_both =
      admit-frame-paired _ _ (decode_table t) (decode_table u) None None frame fresh expected verdict A.same.groups A.same.width
      (frame_same None None refl refl)
  frame-paired E F (have_both {k} {j} q) =
      admit-frame-paired _ _ (decode_table t) (decode_table u) (Some k) (Some j) frame fresh expected verdict A.same.groups A.same.width
      (frame_same (Some k) (Some j) refl q)

pub receive-isolated : (t u a : List ℕ) (time : ℕ) (frame fresh expected : List ℕ) (verdict : ℕ) → Bytes t → Bytes u → length a ≡ 6 → Bytes a → time < 2 ^ 32
    → Bytes frame → Bytes fresh → Bytes expected → verdict < 2 ^ 8 → Alike t u a
    → Isolated a (receives t a time frame fresh expected verdict) (receives u a time frame fresh expected verdict)
unfolding receives
receive-isolated t u a time frame fresh expected verdict bt bu la ba ht br bf be hv A =
    isolated _ _ t u a _ _ A.same (frame-paired t u a A time frame fresh expected verdict (entry t a) (entry u a) (met t u a A.same (entry t a) (entry u a) (came t a) (came u a)))
    (turn-ends _ _ t a bt la ba (λ f e. receive_good t a time frame fresh expected verdict f bt la ba ht br bf be hv e))
    (turn-ends _ _ u a bu la ba (λ f e. receive_good u a time frame fresh expected verdict f bu la ba ht br bf be hv e))

-- ---- Clock: given which record it takes, that record and the reading alone

-- of what the table says beside the clock's times, a deadline's act asks nothing
clock-alone : (T U : Table) (f k : Option ℕ) (c : Call) (p : Peer) → on_clock (terms_of T f) c p ≡ on_clock (terms_of U k) c p
unfolding on_clock clock_act perform
clock-alone T U f k c p = go (holds (t0_due p c.clock.time)) (p.run.state is 2)
  where
    go : (x y : Bool) → perform (terms_of T f) c p silence (if x then (if y then ConfirmAgain else RepeatCommit) else EndLink)
        ≡ perform (terms_of U k) c p silence (if x then (if y then ConfirmAgain else RepeatCommit) else EndLink)
    go true true = refl
    go true false = refl
    go false y = refl

clock-same : (T U : Table) (k j time : ℕ) → clock_of T.header time ≡ clock_of U.header time → slot T k ≡ slot U j → clock_step T k time ≡ clock_step U j time
unfolding clock_step
clock-same T U k j time κ q = rw (q, κ) (clock-alone T U (Some k) (Some j) _ (slot U j))

pub expire-isolated : (t u : List ℕ) (time k j : ℕ) → Bytes t → Bytes u → time < 2 ^ 32 → sound t ≡ true → sound u ≡ true
    → period_of (decode_table t).header.settings.period ≡ period_of (decode_table u).header.settings.period
    → limit_of (decode_table t).header.settings.limit ≡ limit_of (decode_table u).header.settings.limit
    → due_slot (decode_table t) time ≡ Some k → due_slot (decode_table u) time ≡ Some j → slot (decode_table t) k ≡ slot (decode_table u) j
    → Isolated (slot (decode_table t) k).address (expires t time) (expires u time)
expire-isolated t u time k j bt bu ht st su ep el et eu q =
    rw (takes t time k st et, takes u time j su eu)
    (let w = clock-same (decode_table t) (decode_table u) k j time (same_clock t u time ep el) q in
    record {
      answer = due-answer t time k ∙ ap (λ (s : Step). said s (slot (decode_table t) k).address) w ∙ ap (λ (p : Peer). said (clock_step (decode_table u) j time) p.address) q
          ∙ sym (due-answer u time j);
      peer = (clock-ends t time k st et bt ht).here ∙ ap (λ (s : Step). s.peer) w
          ∙ sym (ap (λ (p : Peer). look (decode_table (due_left u time j).table) p.address) q ∙ (clock-ends u time j su eu bu ht).here);
    })

-- ---- Set up looks at no octet of what the buffer held

pub initialize-isolated : (f : Form) (t u own : List ℕ) (s : Settings) → length t ≡ length u → (initializes f t own s).answer ≡ (initializes f u own s).answer
unfolding initializes ends
initialize-isolated f t u own s e = rw e (go (initial_ok f s own (length u)))
  where
    go : (b : Bool) → (if b then ends (quiet own) (initial_table f s own (slots_for f (length u))) else refuse t why.Settings).answer
        ≡ (if b then ends (quiet own) (initial_table f s own (slots_for f (length u))) else refuse u why.Settings).answer
    go true = refl
    go false = refl

pub initialize-blind : (f : Form) (t u own : List ℕ) (s : Settings) → length t ≡ length u → initial_ok f s own (length t) ≡ true → (initializes f t own s).table ≡ (initializes f u own s).table
unfolding initializes
initialize-blind f t u own s e w = let v : initial_ok f s own (length u) ≡ true = subst (λ (n : ℕ). initial_ok f s own n ≡ true) e w in rw (w, v, e)

-- ---- the writers

write-record-met : (t u a : List ℕ) (sequence : ℕ) (value out : List ℕ) (E F : Result (Option ℕ) Refusal) → groups_of (decode_table t).header ≡ groups_of (decode_table u).header → Met t u a E F
    → writes_record_by E t sequence value out ≡ writes_record_by F u sequence value out
unfolding writes_record_by
write-record-met t u a sequence value out E F g neither = refl
write-record-met t u a sequence value out E F g lack_both = refl
write-record-met t u a sequence value out E F g (have_both q) = rw (g, q)

pub write-record-isolated : (t u a : List ℕ) (sequence : ℕ) (value out : List ℕ) → SameFor t u a → writes_record t a sequence value out ≡ writes_record u a sequence value out
unfolding writes_record
write-record-isolated t u a sequence value out S =
    write-record-met t u a sequence value out (entry t a) (entry u a) S.groups (met t u a S (entry t a) (entry u a) (came t a) (came u a))

pub write-parts-isolated : (t u : List ℕ) (sequence status group counter : ℕ) (token rest out : List ℕ) → sound t ≡ true → sound u ≡ true
    → groups_of (decode_table t).header ≡ groups_of (decode_table u).header → writes_parts t sequence status group counter token rest out ≡ writes_parts u sequence status group counter token rest out
unfolding writes_parts
write-parts-isolated t u sequence status group counter token rest out s w g = rw (s, w, g)
