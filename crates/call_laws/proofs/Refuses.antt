-- EACH REFUSAL exactly when its cause holds and none before it does, for every call; and A REFUSAL leaves every lent octet.
use mathlib.Core.Path.{◌≡◌, refl, sym, ap, ◌∙◌, subst}
use mathlib.Core.Bool.{Bool, true, false, not, ◌&&◌}
use mathlib.Core.List.{List, [], ◌∷◌, ◌++◌}
use Prim.Native.Nat.{ℕ, ◌≤◌, ◌<◌}
use native.Mathlib.Omega.{arith}
use lib.Dec.{eqb, ltb}
use lib.ListN.{length}
use borrow.Author.Tests.{eq-eqb, ne_eqb, ltb-true, not-true}
use Rattle.std.specs.Prelude.{if◌then◌else◌, Option, Some, None, Result, Ok, Err}
use Rattle.causes.specs.Causes.{number}
use Rattle.octets.specs.Octets.{put}
use Rattle.octets.proofs.Scan.{clash, and_left, and_right, and_both}
use Rattle.groups.specs.Groups.{fresh_ok}
use Rattle.frame.specs.Writing.{Drawn, Octets, Outside, parts_body, written, leaves}
use Rattle.record.specs.declared.Settings.{Settings}
use Rattle.record.specs.declared.Form.{Form}
use Rattle.record.specs.Layout.{width_in, groups_of}
use Rattle.table.specs.Table.{Table, decode_table, slot, finds, look_by, look, sound, entry}
use Rattle.initial.specs.Initial.{slots_for, initial_ok, initial_table}
use Rattle.rules.specs.Book.{◌is◌, has_run, Step}
use Rattle.rule_laws.specs.Slots.{is_no_slot}
use Rattle.rule_laws.proofs.Slots.{frame_refused, start-refused}
use Rattle.message.specs.View.{view}
use Rattle.causes.specs.declared.Refusal.{Refusal}
use Rattle.causes.specs.declared.Refusal.TheVariants as why
use Rattle.answers.specs.Outcome.{Outcome}
use Rattle.answers.specs.Outcome as outcome
use Rattle.answers.specs.Answers.{Report, returned, ends, seating, finish_at, finishes, turned, refuse, refused, said, quiet, none_due}
use Rattle.writer.specs.Writer.{refuse_out, draws, writes_parts, record_body, writes_record_by, writes_record}
use Rattle.moves.specs.declared.Direction.{Direction}
use Rattle.moves.specs.declared.Direction.TheVariants.{Forward, Back}
use Rattle.moves.specs.Moves.{source_form, target_form, moved, is_of, hindered, hindrance, fitting, Moved, refuse_move, moves}
use Rattle.calls.specs.Calls.{full, initializes, admit_start, start_turn, start_step, initiates, kill_turn, kill_step, kills, admit_frame, frame_turn, frame_step, receives, due_slot, expires_by, expires}
use Rattle.call_laws.specs.Causes.{Cause, first_cause, no_cause, rising, unlike, distinct, absent, set_up_causes, start_causes, kill_causes, frame_names, frame_causes, clock_causes, outside, longer, parts_causes, record_causes, move_causes}
use Rattle.call_laws.proofs.Ends.{Came, came, unsound, unusable, lacks, has, look-found, due-answer, refuse-outcome, go-outcome, outcome-if}

-- ---- a list of causes

-- both follow from each other
pub record Iff (A B : Type 0) : Type 0 where
  pub to : A → B
  pub from : B → A

-- the number of the first cause that holds, 0 where none does
abbrev pub first_number : List Cause → ℕ
first_number cs = first_cause number cs 0

-- EXACTLY: a cause's number if and only if that cause holds and none before it does, and 0 if and only if none holds
pub record Exact (n : ℕ) (cs : List Cause) : Type 0 where
  pub each : (before : List Cause) (c : Cause) (after : List Cause) → cs ≡ before ++ (c ∷ after) → Iff (n ≡ number c.why) ((no_cause before && c.holds) ≡ true)
  pub none : Iff (n ≡ 0) (no_cause cs ≡ true)

first-map : {A B : Type 0} (f : A → B) (r : Refusal → A) (cs : List Cause) (o : A) → f (first_cause r cs o) ≡ first_cause (λ c. f (r c)) cs (f o)
unfolding first_cause
first-map f r [] o = refl
first-map f r (c ∷ cs) o = go c.holds (first-map f r cs o)
  where
    go : (b : Bool) → f (first_cause r cs o) ≡ first_cause (λ d. f (r d)) cs (f o)
        → f (if b then r c.why else first_cause r cs o) ≡ (if b then f (r c.why) else first_cause (λ d. f (r d)) cs (f o))
    go true e = refl
    go false e = e

-- what differing numbers say of the first cause
other : (n : ℕ) (c : Cause) (cs : List Cause) → unlike n (c ∷ cs) ≡ true → n ≡ number c.why → ⊥
unfolding unlike
other n c cs r e = clash (eq-eqb _ _ e) (not-true _ (and_left _ _ r))

module _ (c : Cause) (cs : List Cause) (r : distinct (c ∷ cs) ≡ true) where
  some : number c.why ≡ 0 → ⊥
  unfolding distinct
  some e = clash (eq-eqb _ _ e) (not-true _ (and_left _ _ r))

  behind : (unlike (number c.why) cs && distinct cs) ≡ true
  unfolding distinct
  behind = and_right (not (eqb (number c.why) 0)) _ r

  others : unlike (number c.why) cs ≡ true
  others = and_left _ _ behind

  later : distinct cs ≡ true
  later = and_right (unlike (number c.why) cs) _ behind

-- a number that is neither 0 nor one of theirs
first-unlike : (n : ℕ) (cs : List Cause) → (n ≡ 0 → ⊥) → unlike n cs ≡ true → first_number cs ≡ n → ⊥
unfolding first_cause unlike
first-unlike n [] d r e = d (sym e)
first-unlike n (c ∷ cs) d r e = go c.holds (first-unlike n cs d (and_right (not (eqb n (number c.why))) _ r)) e
  where
    go : (b : Bool) → (first_number cs ≡ n → ⊥) → (if b then number c.why else first_number cs) ≡ n → ⊥
    go true w q = other n c cs r (sym q)
    go false w q = w q

none-zero : (cs : List Cause) → distinct cs ≡ true → Iff (first_number cs ≡ 0) (no_cause cs ≡ true)
unfolding first_cause no_cause distinct
none-zero [] r = record { to = λ e. refl; from = λ e. refl }
none-zero (c ∷ cs) r = go c.holds (none-zero cs (later c cs r))
  where
    go : (b : Bool) → Iff (first_number cs ≡ 0) (no_cause cs ≡ true) → Iff ((if b then number c.why else first_number cs) ≡ 0) ((not b && no_cause cs) ≡ true)
    go true w = record { to = λ e. absurd (some c cs r e); from = λ e. absurd (clash e refl) }
    go false w = w

module _ (c : Cause) (after : List Cause) where
  -- a cause before it has another number
  apart-at : (n : ℕ) (ds : List Cause) → unlike n (ds ++ (c ∷ after)) ≡ true → n ≡ number c.why → ⊥
  unfolding unlike
  apart-at n [] r e = other n c after r e
  apart-at n (d ∷ ds) r e = apart-at n ds (and_right (not (eqb n (number d.why))) _ r) e

  exact-at : (before : List Cause) → distinct (before ++ (c ∷ after)) ≡ true → Iff (first_number (before ++ (c ∷ after)) ≡ number c.why) ((no_cause before && c.holds) ≡ true)
  unfolding first_cause no_cause
  exact-at [] r = go c.holds
    where
      go : (b : Bool) → Iff ((if b then number c.why else first_number after) ≡ number c.why) ((true && b) ≡ true)
      go true = record { to = λ e. refl; from = λ e. refl }
      go false = record { to = λ e. absurd (first-unlike (number c.why) after (some c after r) (others c after r) e); from = λ e. absurd (clash e refl) }
  exact-at (d ∷ ds) r = go d.holds (exact-at ds (later d (ds ++ (c ∷ after)) r))
    where
      go : (b : Bool) → Iff (first_number (ds ++ (c ∷ after)) ≡ number c.why) ((no_cause ds && c.holds) ≡ true)
          → Iff ((if b then number d.why else first_number (ds ++ (c ∷ after))) ≡ number c.why) (((not b && no_cause ds) && c.holds) ≡ true)
      go true w = record { to = λ e. absurd (apart-at (number d.why) ds (others d (ds ++ (c ∷ after)) r) e); from = λ e. absurd (clash e refl) }
      go false w = w

-- an answer that is the first cause's, of causes whose numbers differ
pub exact-distinct : {A : Type 0} (f : A → ℕ) (r : Refusal → A) (o : A) (cs : List Cause) (x : A) → ((c : Refusal) → f (r c) ≡ number c) → f o ≡ 0 → distinct cs ≡ true → x ≡ first_cause r cs o
    → Exact (f x) cs
unfolding first_cause
exact-distinct f r o cs x e z w q =
    record {
      each = λ before c after s.
          subst (λ (n : ℕ). Iff (n ≡ number c.why) ((no_cause before && c.holds) ≡ true)) (sym (says ∙ ap first_number s))
          (exact-at c after before (subst (λ (l : List Cause). distinct l ≡ true) s w));
      none = subst (λ (n : ℕ). Iff (n ≡ 0) (no_cause cs ≡ true)) (sym says) (none-zero cs w);
    }
  where
    same_first : (l : List Cause) (m : ℕ) → m ≡ 0 → first_cause (λ c. f (r c)) l m ≡ first_number l
    same_first [] m k = k
    same_first (d ∷ l) m k = rw (e d.why, same_first l m k)

    says : f x ≡ first_number cs
    says = ap f q ∙ first-map f r cs o ∙ same_first cs (f o) z

-- numbers that rise differ
rising-unlike : (m n : ℕ) (cs : List Cause) → m ≤ n → rising n cs ≡ true → unlike m cs ≡ true
unfolding rising unlike
rising-unlike m n [] h r = refl
rising-unlike m n (c ∷ cs) h r =
    let l : n < number c.why = ltb-true _ _ (and_left _ _ r) in
    and_both _ _ (ap not (ne_eqb m (number c.why) (λ e. absurd (omega (arith, e))))) (rising-unlike m (number c.why) cs (omega arith) (and_right (ltb n (number c.why)) _ r))

rising-distinct : (n : ℕ) (cs : List Cause) → rising n cs ≡ true → distinct cs ≡ true
unfolding rising distinct
rising-distinct n [] r = refl
rising-distinct n (c ∷ cs) r =
    let l : n < number c.why = ltb-true _ _ (and_left _ _ r) in
    let q : rising (number c.why) cs ≡ true = and_right (ltb n (number c.why)) _ r in
    and_both _ _ (ap not (ne_eqb (number c.why) 0 (λ e. absurd (omega (arith, e))))) (and_both _ _ (rising-unlike (number c.why) (number c.why) cs (omega arith) q) (rising-distinct (number c.why) cs q))

-- an answer that is the first cause's
pub exact : {A : Type 0} (f : A → ℕ) (r : Refusal → A) (o : A) (cs : List Cause) (x : A) → ((c : Refusal) → f (r c) ≡ number c) → f o ≡ 0 → rising 0 cs ≡ true → x ≡ first_cause r cs o
    → Exact (f x) cs
exact f r o cs x e z w q = exact-distinct f r o cs x e z (rising-distinct 0 cs w) q

-- ---- Set up

pub initialize-refuses : (f : Form) (t own : List ℕ) (s : Settings) → (initializes f t own s).answer.outcome ≡ first_cause outcome.Refused (set_up_causes f t own s) outcome.Done
unfolding initializes first_cause set_up_causes ends quiet refused
initialize-refuses f t own s = go (initial_ok f s own (length t))
  where
    go : (b : Bool) → (if b then ends (quiet own) (initial_table f s own (slots_for f (length t))) else refuse t why.Settings).answer.outcome ≡ (if not b then outcome.Refused why.Settings else outcome.Done)
    go true = refl
    go false = refl

-- ---- Start

start-outcome : (t a fresh : List ℕ) (time : ℕ) (f : Option ℕ) → finds (decode_table t) a ≡ f
    → (turned (admit_start (decode_table t) f fresh) (λ g. start_step (decode_table t) g a time fresh) t a).answer.outcome
    ≡ (if not (fresh_ok (width_in (decode_table t).header) (groups_of (decode_table t).header) fresh) then outcome.Refused why.Fresh
    else if has_run (look (decode_table t) a) then outcome.Refused why.Running
    else if absent (decode_table t) a && full (decode_table t) then outcome.Refused why.Full
    else outcome.Done)
unfolding admit_start start_step absent
start-outcome t a fresh time f e =
    outcome-if _ t a (not (fresh_ok (width_in (decode_table t).header) (groups_of (decode_table t).header) fresh)) why.Fresh _ _
    (rw (← look-found (decode_table t) a f e, e) (outcome-if _ t a (has_run (look_by (decode_table t) f)) why.Running (Ok f) _
    (go-outcome _ t a f ∙ ap (λ (b : Bool). if b then outcome.Refused why.Full else outcome.Done) (start-refused _ _ (look_by (decode_table t) f)))))

start-refuses-by : (t a fresh : List ℕ) (time : ℕ) (E : Result (Option ℕ) Refusal) → Came t a E
    → (turned (start_turn E t fresh) (λ f. start_step (decode_table t) f a time fresh) t a).answer.outcome ≡ first_cause outcome.Refused (start_causes t a fresh) outcome.Done
unfolding start_turn first_cause start_causes turned refused
start-refuses-by t a fresh time E (unsound s) = rw s
start-refuses-by t a fresh time E (unusable s u) = rw (s, u)
start-refuses-by t a fresh time E (lacks s u f) = rw (s, u) (start-outcome t a fresh time None f)
start-refuses-by t a fresh time E (has {k} s u f) = rw (s, u) (start-outcome t a fresh time (Some k) f)

pub initiate-refuses : (t a : List ℕ) (time : ℕ) (fresh : List ℕ) → (initiates t a time fresh).answer.outcome ≡ first_cause outcome.Refused (start_causes t a fresh) outcome.Done
unfolding initiates
initiate-refuses t a time fresh = start-refuses-by t a fresh time (entry t a) (came t a)

start-rises : (t a fresh : List ℕ) → rising 0 (start_causes t a fresh) ≡ true
unfolding rising start_causes
start-rises t a fresh = refl

pub initiate-exact : (t a : List ℕ) (time : ℕ) (fresh : List ℕ) → Exact (returned (initiates t a time fresh).answer.outcome) (start_causes t a fresh)
initiate-exact t a time fresh = exact returned outcome.Refused outcome.Done (start_causes t a fresh) _ (λ c. refl) refl (start-rises t a fresh) (initiate-refuses t a time fresh)

-- ---- Kill

kill-refuses-by : (t a : List ℕ) (E : Result (Option ℕ) Refusal) → Came t a E → (turned (kill_turn E) (λ f. kill_step) t a).answer.outcome ≡ first_cause outcome.Refused (kill_causes t a) outcome.Done
unfolding kill_turn kill_step first_cause kill_causes absent
kill-refuses-by t a E (unsound s) = rw s (refuse-outcome _ t a why.Unsound)
kill-refuses-by t a E (unusable s u) = rw (s, u) (refuse-outcome _ t a why.Address)
kill-refuses-by t a E (lacks s u f) = rw (s, u, f) (refuse-outcome _ t a why.NoRecord)
kill-refuses-by t a E (has {k} s u f) = rw (s, u, f) (go-outcome (λ x. kill_step) t a (Some k))

pub kill-refuses : (t a : List ℕ) → (kills t a).answer.outcome ≡ first_cause outcome.Refused (kill_causes t a) outcome.Done
unfolding kills
kill-refuses t a = kill-refuses-by t a (entry t a) (came t a)

kill-rises : (t a : List ℕ) → rising 0 (kill_causes t a) ≡ true
unfolding rising kill_causes
kill-rises t a = refl

pub kill-exact : (t a : List ℕ) → Exact (returned (kills t a).answer.outcome) (kill_causes t a)
kill-exact t a = exact returned outcome.Refused outcome.Done (kill_causes t a) _ (λ c. refl) refl (kill-rises t a) (kill-refuses t a)

-- ---- Frame received

frame-full : (t a : List ℕ) (time : ℕ) (frame fresh expected : List ℕ) (verdict : ℕ) (f : Option ℕ) → finds (decode_table t) a ≡ f
    → (frame_step (decode_table t) f a time frame fresh expected verdict).refused ≡ is_no_slot (frame_names t a time frame fresh expected verdict)
unfolding frame_step frame_names look
frame-full t a time frame fresh expected verdict f e =
    subst (λ (x : Option ℕ). (frame_step (decode_table t) x a time frame fresh expected verdict).refused ≡ is_no_slot (frame_names t a time frame fresh expected verdict)) e (frame_refused _ _ _ _)

frame-outcome : (t a : List ℕ) (time : ℕ) (frame fresh expected : List ℕ) (verdict : ℕ) (f : Option ℕ) → finds (decode_table t) a ≡ f
    → (turned (admit_frame (decode_table t) f frame fresh expected verdict) (λ g. frame_step (decode_table t) g a time frame fresh expected verdict) t a).answer.outcome
    ≡ (if not (fresh_ok (width_in (decode_table t).header) (groups_of (decode_table t).header) fresh) then outcome.Refused why.Fresh
    else if not (eqb (length expected) 32) then outcome.Refused why.Token
    else if ltb 1 verdict then outcome.Refused why.Verdict
    else if (view (groups_of (decode_table t).header) frame).sequence is 0 then outcome.Refused why.Body
    else if is_no_slot (frame_names t a time frame fresh expected verdict) then outcome.Refused why.Full
    else outcome.Done)
unfolding admit_frame
frame-outcome t a time frame fresh expected verdict f e =
    outcome-if _ t a (not (fresh_ok (width_in (decode_table t).header) (groups_of (decode_table t).header) fresh)) why.Fresh _ _
    (outcome-if _ t a (not (eqb (length expected) 32)) why.Token _ _
    (outcome-if _ t a (ltb 1 verdict) why.Verdict _ _
    (outcome-if _ t a ((view (groups_of (decode_table t).header) frame).sequence is 0) why.Body (Ok f) _
    (go-outcome _ t a f
    ∙ ap (λ (b : Bool). if b then outcome.Refused why.Full else outcome.Done) (frame-full t a time frame fresh expected verdict f e)))))

frame-refuses-by : (t a : List ℕ) (time : ℕ) (frame fresh expected : List ℕ) (verdict : ℕ) (E : Result (Option ℕ) Refusal) → Came t a E
    → (turned (frame_turn E t frame fresh expected verdict) (λ f. frame_step (decode_table t) f a time frame fresh expected verdict) t a).answer.outcome
    ≡ first_cause outcome.Refused (frame_causes t a time frame fresh expected verdict) outcome.Done
unfolding frame_turn first_cause frame_causes
frame-refuses-by t a time frame fresh expected verdict E (unsound s) = rw s (refuse-outcome _ t a why.Unsound)
frame-refuses-by t a time frame fresh expected verdict E (unusable s u) = rw (s, u) (refuse-outcome _ t a why.Address)
frame-refuses-by t a time frame fresh expected verdict E (lacks s u f) = rw (s, u) (frame-outcome t a time frame fresh expected verdict None f)
frame-refuses-by t a time frame fresh expected verdict E (has {k} s u f) = rw (s, u) (frame-outcome t a time frame fresh expected verdict (Some k) f)

pub receive-refuses : (t a : List ℕ) (time : ℕ) (frame fresh expected : List ℕ) (verdict : ℕ)
    → (receives t a time frame fresh expected verdict).answer.outcome ≡ first_cause outcome.Refused (frame_causes t a time frame fresh expected verdict) outcome.Done
unfolding receives
receive-refuses t a time frame fresh expected verdict = frame-refuses-by t a time frame fresh expected verdict (entry t a) (came t a)

frame-rises : (t a : List ℕ) (time : ℕ) (frame fresh expected : List ℕ) (verdict : ℕ) → rising 0 (frame_causes t a time frame fresh expected verdict) ≡ true
unfolding rising frame_causes
frame-rises t a time frame fresh expected verdict = refl

pub receive-exact : (t a : List ℕ) (time : ℕ) (frame fresh expected : List ℕ) (verdict : ℕ)
    → Exact (returned (receives t a time frame fresh expected verdict).answer.outcome) (frame_causes t a time frame fresh expected verdict)
receive-exact t a time frame fresh expected verdict =
    exact returned outcome.Refused outcome.Done (frame_causes t a time frame fresh expected verdict) _ (λ c. refl) refl (frame-rises t a time frame fresh expected verdict)
    (receive-refuses t a time frame fresh expected verdict)

-- ---- Clock

-- a record that is served, or none
abbrev pub served : Option ℕ → Outcome
served (Some k) = outcome.Done
served None = outcome.NoneDue

serve-outcome : (f : Option ℕ) (t : List ℕ) (time : ℕ) → (expires_by f t time).answer.outcome ≡ served f
unfolding expires_by ends none_due said
serve-outcome (Some k) t time = ap (λ (r : Report). r.outcome) (due-answer t time k)
serve-outcome None t time = refl

pub expire-refuses : (t : List ℕ) (time : ℕ) → (expires t time).answer.outcome ≡ first_cause outcome.Refused (clock_causes t) (served (due_slot (decode_table t) time))
unfolding expires first_cause clock_causes refused
expire-refuses t time = go (sound t)
  where
    go : (b : Bool) → (if b then expires_by (due_slot (decode_table t) time) t time else refuse t why.Unsound).answer.outcome
        ≡ (if not b then outcome.Refused why.Unsound else served (due_slot (decode_table t) time))
    go true = serve-outcome (due_slot (decode_table t) time) t time
    go false = refl

clock-rises : (t : List ℕ) → rising 0 (clock_causes t) ≡ true
unfolding rising clock_causes
clock-rises t = refl

served-zero : (f : Option ℕ) → returned (served f) ≡ 0
served-zero (Some k) = refl
served-zero None = refl

pub expire-exact : (t : List ℕ) (time : ℕ) → Exact (returned (expires t time).answer.outcome) (clock_causes t)
expire-exact t time =
    exact returned outcome.Refused (served (due_slot (decode_table t) time)) (clock_causes t) _ (λ c. refl) (served-zero (due_slot (decode_table t) time)) (clock-rises t) (expire-refuses t time)

-- ---- Set up

set-up-rises : (f : Form) (t own : List ℕ) (s : Settings) → rising 0 (set_up_causes f t own s) ≡ true
unfolding rising set_up_causes
set-up-rises f t own s = refl

pub initialize-exact : (f : Form) (t own : List ℕ) (s : Settings) → Exact (returned (initializes f t own s).answer.outcome) (set_up_causes f t own s)
initialize-exact f t own s = exact returned outcome.Refused outcome.Done (set_up_causes f t own s) _ (λ c. refl) refl (set-up-rises f t own s) (initialize-refuses f t own s)

-- ---- the writers

-- the length written
abbrev pub drawn_length : Drawn → ℕ
drawn_length Outside = 0
drawn_length (Octets s) = length s

-- what a writer returns: 0, or the cause's number
abbrev pub returned_by : Result ℕ Refusal → ℕ
returned_by (Ok n) = 0
returned_by (Err c) = number c

draws_answer : (d : Drawn) (out : List ℕ) → (draws d out).answer ≡ (if outside d then Err why.Body else if longer d out then Err why.Short else Ok (drawn_length d))
unfolding draws written
draws_answer Outside out = refl
draws_answer (Octets s) out = refl

pub write-parts-refuses : (t : List ℕ) (sequence status group counter : ℕ) (token rest out : List ℕ)
    → (writes_parts t sequence status group counter token rest out).answer
    ≡ first_cause Err (parts_causes t (parts_body (groups_of (decode_table t).header) sequence status group counter token rest) out)
    (Ok (drawn_length (parts_body (groups_of (decode_table t).header) sequence status group counter token rest)))
unfolding writes_parts first_cause parts_causes
write-parts-refuses t sequence status group counter token rest out = go (sound t) (parts_body (groups_of (decode_table t).header) sequence status group counter token rest)
  where
    go : (b : Bool) (d : Drawn) → (if b then draws d out else refuse_out out why.Unsound).answer
        ≡ (if not b then Err why.Unsound else if outside d then Err why.Body else if longer d out then Err why.Short else Ok (drawn_length d))
    go true d = draws_answer d out
    go false d = refl

parts-rises : (t : List ℕ) (d : Drawn) (out : List ℕ) → rising 0 (parts_causes t d out) ≡ true
unfolding rising parts_causes
parts-rises t d out = refl

pub write-parts-exact : (t : List ℕ) (sequence status group counter : ℕ) (token rest out : List ℕ)
    → Exact (returned_by (writes_parts t sequence status group counter token rest out).answer)
    (parts_causes t (parts_body (groups_of (decode_table t).header) sequence status group counter token rest) out)
write-parts-exact t sequence status group counter token rest out =
    exact returned_by Err _ _ _ (λ c. refl) refl (parts-rises t _ out) (write-parts-refuses t sequence status group counter token rest out)

-- what is drawn for an address: its record's frame
abbrev pub drawn_record : List ℕ → List ℕ → ℕ → List ℕ → Drawn
drawn_record t a sequence value = record_body (groups_of (decode_table t).header) (look (decode_table t) a) sequence value

slot-look : (T : Table) (a : List ℕ) (k : ℕ) → finds T a ≡ Some k → slot T k ≡ look T a
unfolding look look_by
slot-look T a k e = ap (look_by T) (sym e)

write-record-by : (t a : List ℕ) (sequence : ℕ) (value out : List ℕ) (E : Result (Option ℕ) Refusal) → Came t a E
    → (writes_record_by E t sequence value out).answer ≡ first_cause Err (record_causes t a (drawn_record t a sequence value) out) (Ok (drawn_length (drawn_record t a sequence value)))
unfolding writes_record_by first_cause record_causes absent
write-record-by t a sequence value out E (unsound s) = rw s
write-record-by t a sequence value out E (unusable s u) = rw (s, u)
write-record-by t a sequence value out E (lacks s u f) = rw (s, u, f)
write-record-by t a sequence value out E (has {k} s u f) =
    let e : slot (decode_table t) k ≡ look (decode_table t) a = slot-look (decode_table t) a k f in
    rw (s, u, f, ← e) (draws_answer (record_body (groups_of (decode_table t).header) (slot (decode_table t) k) sequence value) out)

pub write-record-refuses : (t a : List ℕ) (sequence : ℕ) (value out : List ℕ)
    → (writes_record t a sequence value out).answer ≡ first_cause Err (record_causes t a (drawn_record t a sequence value) out) (Ok (drawn_length (drawn_record t a sequence value)))
unfolding writes_record
write-record-refuses t a sequence value out = write-record-by t a sequence value out (entry t a) (came t a)

record-rises : (t a : List ℕ) (d : Drawn) (out : List ℕ) → rising 0 (record_causes t a d out) ≡ true
unfolding rising record_causes
record-rises t a d out = refl

pub write-record-exact : (t a : List ℕ) (sequence : ℕ) (value out : List ℕ)
    → Exact (returned_by (writes_record t a sequence value out).answer) (record_causes t a (drawn_record t a sequence value) out)
write-record-exact t a sequence value out = exact returned_by Err _ _ _ (λ c. refl) refl (record-rises t a _ out) (write-record-refuses t a sequence value out)

-- ---- A REFUSAL leaves every lent octet

refused-turn : (w : Result (Option ℕ) Refusal) (g : Option ℕ → Step) (t a : List ℕ) (c : Refusal) → (turned w g t a).answer.outcome ≡ outcome.Refused c → (turned w g t a).table ≡ t
unfolding turned refused said finishes finish_at ends
refused-turn (Err d) g t a c e = refl
refused-turn (Ok f) g t a c e = go (g f).refused (seating (decode_table t) f) e
  where
    go : (b : Bool) (x : Option ℕ) → (if b then refuse t why.Full else finish_at x t (g f) a).answer.outcome ≡ outcome.Refused c → (if b then refuse t why.Full else finish_at x t (g f) a).table ≡ t
    go true x q = refl
    go false (Some k) q = let z : ◌≡◌ {A = ℕ} 0 1 = cc in absurd (omega arith)
    go false None q = let z : ◌≡◌ {A = ℕ} 0 1 = cc in absurd (omega arith)

pub initialize-refused : (f : Form) (t own : List ℕ) (s : Settings) (c : Refusal) → (initializes f t own s).answer.outcome ≡ outcome.Refused c → (initializes f t own s).table ≡ t
unfolding initializes ends quiet
initialize-refused f t own s c e = go (initial_ok f s own (length t)) e
  where
    go : (b : Bool) → (if b then ends (quiet own) (initial_table f s own (slots_for f (length t))) else refuse t why.Settings).answer.outcome ≡ outcome.Refused c
        → (if b then ends (quiet own) (initial_table f s own (slots_for f (length t))) else refuse t why.Settings).table ≡ t
    go true q = let z : ◌≡◌ {A = ℕ} 0 1 = cc in absurd (omega arith)
    go false q = refl

pub initiate-refused : (t a : List ℕ) (time : ℕ) (fresh : List ℕ) (c : Refusal) → (initiates t a time fresh).answer.outcome ≡ outcome.Refused c → (initiates t a time fresh).table ≡ t
unfolding initiates
initiate-refused t a time fresh c e = refused-turn _ _ t a c e

pub kill-refused : (t a : List ℕ) (c : Refusal) → (kills t a).answer.outcome ≡ outcome.Refused c → (kills t a).table ≡ t
unfolding kills
kill-refused t a c e = refused-turn _ _ t a c e

pub receive-refused : (t a : List ℕ) (time : ℕ) (frame fresh expected : List ℕ) (verdict : ℕ) (c : Refusal)
    → (receives t a time frame fresh expected verdict).answer.outcome ≡ outcome.Refused c → (receives t a time frame fresh expected verdict).table ≡ t
unfolding receives
receive-refused t a time frame fresh expected verdict c e = refused-turn _ _ t a c e

pub expire-refused : (t : List ℕ) (time : ℕ) (c : Refusal) → (expires t time).answer.outcome ≡ outcome.Refused c → (expires t time).table ≡ t
unfolding expires
expire-refused t time c e = go (sound t) e
  where
    due : (f : Option ℕ) → served f ≡ outcome.Refused c → (expires_by f t time).table ≡ t
    due (Some k) q = let z : ◌≡◌ {A = ℕ} 0 1 = cc in absurd (omega arith)
    due None q = let z : ◌≡◌ {A = ℕ} 0 1 = cc in absurd (omega arith)

    go : (b : Bool) → (if b then expires_by (due_slot (decode_table t) time) t time else refuse t why.Unsound).answer.outcome ≡ outcome.Refused c
        → (if b then expires_by (due_slot (decode_table t) time) t time else refuse t why.Unsound).table ≡ t
    go true q = due (due_slot (decode_table t) time) (sym (serve-outcome (due_slot (decode_table t) time) t time) ∙ q)
    go false q = refl

-- a writer that refuses leaves the buffer
draws-refused : (d : Drawn) (out : List ℕ) (c : Refusal) → (draws d out).answer ≡ Err c → (draws d out).out ≡ out
unfolding draws written leaves
draws-refused Outside out c e = refl
draws-refused (Octets s) out c e = go (ltb (length out) (length s)) e
  where
    go : (b : Bool) → ◌≡◌ {A = Result ℕ Refusal} (if b then Err why.Short else Ok (length s)) (Err c) → (if b then out else put out 0 s) ≡ out
    go true q = refl
    go false q = let z : ◌≡◌ {A = ℕ} 0 1 = cc in absurd (omega arith)

pub write-parts-refused : (t : List ℕ) (sequence status group counter : ℕ) (token rest out : List ℕ) (c : Refusal)
    → (writes_parts t sequence status group counter token rest out).answer ≡ Err c → (writes_parts t sequence status group counter token rest out).out ≡ out
unfolding writes_parts
write-parts-refused t sequence status group counter token rest out c e = go (sound t) (parts_body (groups_of (decode_table t).header) sequence status group counter token rest) e
  where
    go : (b : Bool) (d : Drawn) → (if b then draws d out else refuse_out out why.Unsound).answer ≡ Err c → (if b then draws d out else refuse_out out why.Unsound).out ≡ out
    go true d q = draws-refused d out c q
    go false d q = refl

pub write-record-refused : (t a : List ℕ) (sequence : ℕ) (value out : List ℕ) (c : Refusal)
    → (writes_record t a sequence value out).answer ≡ Err c → (writes_record t a sequence value out).out ≡ out
unfolding writes_record writes_record_by
write-record-refused t a sequence value out c e = go (entry t a) e
  where
    go : (E : Result (Option ℕ) Refusal) → (writes_record_by E t sequence value out).answer ≡ Err c → (writes_record_by E t sequence value out).out ≡ out
    go (Err r) q = refl
    go (Ok None) q = refl
    go (Ok (Some k)) q = draws-refused _ out c q

-- ---- a move, in either direction

pub move-refuses : (d : Direction) (source target : List ℕ) → (moves d source target).answer ≡ first_cause outcome.Refused (move_causes d source target) outcome.Done
unfolding moves first_cause move_causes
move-refuses d source target =
    go (is_of (source_form d) source) (hindered d (decode_table source).header) (fitting (target_form d) (decode_table source).header target)
  where
    go : (a b c : Bool)
        → (if not a then refuse_move target why.Unsound else if b then refuse_move target (hindrance d) else if not c then refuse_move target why.Target
        else record { answer = outcome.Done; target = moved (target_form d) source }).answer
        ≡ (if not a then outcome.Refused why.Unsound else if b then outcome.Refused (hindrance d) else if not c then outcome.Refused why.Target else outcome.Done)
    go false b c = refl
    go true true c = refl
    go true false false = refl
    go true false true = refl

move-distinct : (d : Direction) (source target : List ℕ) → distinct (move_causes d source target) ≡ true
unfolding distinct unlike move_causes
move-distinct Forward source target = refl
move-distinct Back source target = refl

pub move-exact : (d : Direction) (source target : List ℕ) → Exact (returned (moves d source target).answer) (move_causes d source target)
move-exact d source target =
    exact-distinct returned outcome.Refused outcome.Done (move_causes d source target) _ (λ c. refl) refl (move-distinct d source target) (move-refuses d source target)

-- one that refuses leaves its target
pub move-refused : (d : Direction) (source target : List ℕ) (c : Refusal) → (moves d source target).answer ≡ outcome.Refused c → (moves d source target).target ≡ target
unfolding moves
move-refused d source target c e =
    go (is_of (source_form d) source) (hindered d (decode_table source).header) (fitting (target_form d) (decode_table source).header target) e
  where
    move : Bool → Bool → Bool → Moved
    move a b x =
        if not a then refuse_move target why.Unsound else if b then refuse_move target (hindrance d) else if not x then refuse_move target why.Target
        else record { answer = outcome.Done; target = moved (target_form d) source }

    go : (a b x : Bool) → (move a b x).answer ≡ outcome.Refused c → (move a b x).target ≡ target
    go false b x q = refl
    go true true x q = refl
    go true false false q = refl
    go true false true q = let z : ◌≡◌ {A = ℕ} 0 1 = cc in absurd (omega arith)
