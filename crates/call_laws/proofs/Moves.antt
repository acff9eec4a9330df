-- AFTER A MOVE: two tables of the same contents, whatever forms they have, answer every list of further calls alike and stay alike, each with its own stocks.
use mathlib.Core.Path.{◌≡◌, refl, sym, ap, ◌∙◌, subst}
use mathlib.Core.Bool.{Bool, true, false, not}
use mathlib.Core.List.{List, [], ◌∷◌, ◌++◌}
use Prim.Native.Nat.{ℕ, zero, suc, ◌+◌, ◌*◌, ◌/◌, ◌^◌, ◌≤◌, ◌<◌}
use native.Mathlib.Omega.{arith}
use native.Mathlib.Nat.{mul-zero, mul-suc, mul-div_cancel_left}
use lib.ListN.{length, take, drop, get_or, length-append}
use lib.Seq.{take_at, drop_at, length-take-le}
use borrow.Author.Tests.{eqb-true, eq-eqb, ne_eqb}
use Rattle.std.specs.Prelude.{if◌then◌else◌, Option, Some, None, Result, Ok, Err}
use Rattle.octets.specs.Octets.{Bytes, part}
use Rattle.octets.proofs.Laws.{length_part, bytes_take, bytes_drop, bytes-append}
use Rattle.octets.proofs.Scan.{and_left}
use Rattle.groups.specs.Groups.{width, commit_length, listed, stored, Storable, commits_of, fresh_of, fresh_at, fresh_ok}
use Rattle.groups.proofs.Laws.{commit-fits, stored_bytes, storable-zeros, storable-short, cut-long, cut_fits, room_in}
use Rattle.groups.proofs.Fresh.{fresh-part, fresh-length}
use Rattle.record.specs.declared.Form.{Form}
use Rattle.record.specs.declared.Peer.{Peer}
use Rattle.record.specs.Layout.{form_of, width_in, groups_of}
use Rattle.record.proofs.Laws.{form-width, Served, narrow-served, wide-served}
use Rattle.soundness.specs.Soundness.{usable, commit_ok}
use Rattle.soundness.proofs.Laws.{header-width}
use Rattle.soundness.proofs.Storable.{header-room}
use Rattle.table.specs.Table.{Table, width_of, decode_table, encode_table, slot, used_count, open_count, good_count, finds, free_slot, look_by, sound, entry, recounted, with_peer, placed}
use Rattle.table.proofs.Laws.{sound-header}
use Rattle.table.proofs.Kept.{good-storable, placed-decoded}
use Rattle.good_links.specs.GoodLinks.{filled}
use Rattle.good_links.proofs.GoodLinks.{filled-same, fills-sound}
use Rattle.rules.specs.Book.{Step}
use Rattle.rule_laws.proofs.Keeps.{listed_at}
use Rattle.causes.specs.declared.Refusal.TheVariants as why
use Rattle.answers.specs.Outcome as outcome
use Rattle.answers.specs.Answers.{Left, ends, seating, finish_at, finishes, turned, refuse, refused, said, none_due}
use Rattle.answers.proofs.Laws.{entered-seated, unchanged-ends}
use Rattle.answers.proofs.Theorems.{Good}
use Rattle.calls.specs.Calls.{crowded, full, terms_of, clock_of, fresh_in, admit_start, start_turn, start_step, initiates, kill_turn, kill_step, kills, admit_frame, frame_turn, frame_step, receives, due_slot, clock_step, expires_by, expires}
use Rattle.writer.specs.Writer.{writes_parts, writes_record_by, writes_record}
use Rattle.lookups.specs.Lookups.{next_deadline, asks_deadline, offset_by, asks_offset, asks_good}
use Rattle.lookups.proofs.GoodLinks.{sound-answered}
use Rattle.moves.specs.declared.Direction.{Direction}
use Rattle.moves.specs.declared.Direction.TheVariants.{Forward, Back}
use Rattle.moves.specs.Moves.{source_form, target_form, resized, moved, SameContents, is_of, hindered, hindrance, fitting, Moved, refuse_move, moves}
use Rattle.moves.proofs.Laws.{moved_same, moved-size, movable, source-size}
use Rattle.call_laws.specs.Isolation.{an_initiate, a_kill, a_receive, an_expire}
use Rattle.call_laws.specs.Moves.{SameStock, same_parts, both_wrong, Further, answered, filled_so, wrote, told, reply, leaves, after_all, replies}
use Rattle.call_laws.specs.Moves.{HandedOver, a_call, a_fill, a_parts, a_record, a_frame, a_question, a_time, AllHandedOver, none, more, refilled}
use Rattle.call_laws.specs.Moves.{Partner, same_start, same_kill, same_frame, same_clock, same_fill, same_parts_written, same_record_written, same_read, same_good, same_deadline, Partners, both_end, both_more, AnsweredAlike}
use Rattle.call_laws.proofs.Good.{groups_in, commits-stock, go_same, start-entered, frame-entered, initiate_good, kill_good, receive_good, expire_good, expire_address}
use Rattle.call_laws.proofs.Ends.{finish-answer, due_left, takes}
use Rattle.call_laws.proofs.Sound.{turn-keeps, expire-keeps-none}
use Rattle.call_laws.proofs.Isolated.{write-parts-isolated}
use Rattle.call_laws.proofs.Isolation.{Stays, stays-itself, stays_on, call_stays}
use Rattle.causes.specs.declared.Refusal.{Refusal}

-- ---- a table in another form: all that calls ask of it is the same but for its width

module _ (T : Table) (n : ℕ) where
  finds-sized : (a : List ℕ) → finds (resized n T) a ≡ finds T a
  unfolding finds slot
  finds-sized a = refl

  free-sized : free_slot (resized n T) ≡ free_slot T
  unfolding free_slot slot
  free-sized = refl

  look-sized : (f : Option ℕ) → look_by (resized n T) f ≡ look_by T f
  unfolding look_by slot
  look-sized (Some k) = refl
  look-sized None = refl

  terms-sized : (f : Option ℕ) → terms_of (resized n T) f ≡ terms_of T f
  unfolding crowded full free_slot slot
  terms-sized f = refl

  due-sized : (time : ℕ) → due_slot (resized n T) time ≡ due_slot T time
  unfolding due_slot slot
  due-sized time = refl

  placed-sized : (k : ℕ) (p : Peer) → placed (resized n T) k p ≡ resized n (placed T k p)
  unfolding placed recounted with_peer used_count open_count good_count slot
  placed-sized k p = refl

-- ---- the same stocks: both take them or neither does, and what is taken is the same commits

module _ (W W' : ℕ) (gs s z : List ℕ) where
  fresh-alike : SameStock W W' (length gs) s z → fresh_ok W' gs z ≡ fresh_ok W gs s
  unfolding fresh_ok
  fresh-alike (same_parts p q e) = rw (eq-eqb _ _ p, eq-eqb _ _ q, e) refl
  fresh-alike (both_wrong p q) = rw (ne_eqb _ _ p, ne_eqb _ _ q) refl

  stock-alike : SameStock W W' (length gs) s z → fresh_ok W gs s ≡ true → fresh_of W' z ≡ fresh_of W s
  unfolding fresh_ok
  stock-alike (same_parts p q e) o = sym e
  stock-alike (both_wrong p q) o = absurd (p (eqb-true _ _ (and_left _ _ o)))

-- ---- what a call comes to, and its step

module _ (T U : Table) (n : ℕ) (e : U ≡ resized n T) where
  terms-alike : (f : Option ℕ) → terms_of U f ≡ terms_of T f
  terms-alike f = ap (λ (X : Table). terms_of X f) e ∙ terms-sized T n f

  slot-alike : (k : ℕ) → slot U k ≡ slot T k
  unfolding slot
  slot-alike k = ap (λ (X : Table). slot X k) e

  look-alike : (f : Option ℕ) → look_by U f ≡ look_by T f
  look-alike f = ap (λ (X : Table). look_by X f) e ∙ look-sized T n f

  clock-alike : (time : ℕ) → clock_of U.header time ≡ clock_of T.header time
  clock-alike time = ap (λ (X : Table). clock_of X.header time) e

  groups-alike : groups_of U.header ≡ groups_of T.header
  groups-alike = ap (λ (X : Table). groups_of X.header) e

  seat-alike : (f : Option ℕ) → seating U f ≡ seating T f
  unfolding seating
  seat-alike (Some k) = refl
  seat-alike None = ap free_slot e ∙ free-sized T n

  -- a stock in each one's own length
  module _ (s z : List ℕ) (S : SameStock (width_in T.header) (width_in U.header) (length (groups_of T.header)) s z) where
    taken-alike : fresh_ok (width_in U.header) (groups_of U.header) z ≡ fresh_ok (width_in T.header) (groups_of T.header) s
    taken-alike = ap (λ (gs : List ℕ). fresh_ok (width_in U.header) gs z) groups-alike ∙ fresh-alike (width_in T.header) (width_in U.header) (groups_of T.header) s z S

    admit-start-alike : (f : Option ℕ) → admit_start U f z ≡ admit_start T f s
    unfolding admit_start
    admit-start-alike f = rw (taken-alike, look-alike f) refl

    start-step-alike : (f : Option ℕ) (a : List ℕ) (time : ℕ) → fresh_in U.header z ≡ fresh_in T.header s → start_step U f a time z ≡ start_step T f a time s
    unfolding start_step
    start-step-alike f a time q = rw (terms-alike f, clock-alike time, q, look-alike f) refl

    admit-frame-alike : (f : Option ℕ) (frame expected : List ℕ) (verdict : ℕ) → admit_frame U f frame z expected verdict ≡ admit_frame T f frame s expected verdict
    unfolding admit_frame
    admit-frame-alike f frame expected verdict = rw (taken-alike, groups-alike) refl

    frame-step-alike : (f : Option ℕ) (a : List ℕ) (time : ℕ) (frame expected : List ℕ) (verdict : ℕ) → fresh_in U.header z ≡ fresh_in T.header s
        → frame_step U f a time frame z expected verdict ≡ frame_step T f a time frame s expected verdict
    unfolding frame_step
    frame-step-alike f a time frame expected verdict q = rw (terms-alike f, clock-alike time, q, look-alike f, groups-alike) refl

  clock-step-alike : (k time : ℕ) → clock_step U k time ≡ clock_step T k time
  unfolding clock_step
  clock-step-alike k time = rw (terms-alike (Some k), clock-alike time, slot-alike k) refl

-- ---- where none is due

none-answer : (t : List ℕ) (time : ℕ) → sound t ≡ true → due_slot (decode_table t) time ≡ None → (expires t time).answer ≡ none_due
unfolding expires expires_by ends
none-answer t time s e = rw (s, e) refl

-- ---- a fill of a sound table is not refused

fill_done : (t : List ℕ) → Bytes t → sound t ≡ true → sound (filled t) ≡ true
fill_done t b s = ap sound (filled-same t b s) ∙ s

-- ---- two tables of the same contents

-- what is said of one call at both: the same answer, and tables that stay alike
record AlikeLeft (l m : Left) : Type 0 where
  pub answer : l.answer ≡ m.answer
  pub left : SameContents l.table m.table

-- what one table says is what the other does, but for a size: its own
own-size : (X Y : Table) (n : ℕ) → X ≡ resized n Y → X ≡ resized X.header.geometry.size Y
own-size X Y n e = e ∙ ap (λ (m : ℕ). resized m Y) (sym (ap (λ (Z : Table). Z.header.geometry.size) e))

module _ (t u : List ℕ) (S : SameContents t u) where
  abbrev size : ℕ
  size = (decode_table u).header.geometry.size

  -- the same slot, the same refusal
  pub entry-alike : (a : List ℕ) → entry u a ≡ entry t a
  unfolding entry
  entry-alike a =
      let e : usable (decode_table u).header.own a ≡ usable (decode_table t).header.own a = ap (λ (X : Table). usable X.header.own a) S.table in
      let f : finds (decode_table u) a ≡ finds (decode_table t) a = ap (λ (X : Table). finds X a) S.table ∙ finds-sized (decode_table t) size a in
      rw (S.sound₁, S.sound₂, e, f) refl

  module _ (a : List ℕ) (la : length a ≡ 6) (ba : Bytes a) where
    -- A RECORD STORED in both tables leaves tables that say the same
    module _ (f : Option ℕ) (s : Step) (G : Good t a f s) (H : Good u a f s) where
      stored_at : (x : List ℕ) → Bytes x → Good x a f s → (k : ℕ) → decode_table (encode_table (placed (decode_table x) k s.peer)) ≡ placed (decode_table x) k s.peer
      stored_at x b K k =
          let w = (entered-seated x a f K.came).whole in
          placed-decoded x k s.peer b w K.fits (good-storable x s.peer w K.fits K.form)

      finish-says : (b : Bool) (x : Option ℕ)
          → decode_table (if b then refuse u why.Full else finish_at x u s a).table ≡ resized size (decode_table (if b then refuse t why.Full else finish_at x t s a).table)
      unfolding finish_at ends placed
      finish-says true x = S.table
      finish-says false (Some k) =
          stored_at u S.bytes₂ H k ∙ ap (λ (X : Table). placed X k s.peer) S.table ∙ placed-sized (decode_table t) size k s.peer
          ∙ ap (resized size) (sym (stored_at t S.bytes₁ G k))
      finish-says false None =
          ap decode_table (unchanged-ends (said s a) u S.bytes₂ S.sound₂) ∙ S.table
          ∙ ap (λ (x : List ℕ). resized size (decode_table x)) (sym (unchanged-ends (said s a) t S.bytes₁ S.sound₁))

      finished-alike : decode_table (finishes u f s a).table ≡ resized size (decode_table (finishes t f s a).table)
      unfolding finishes
      finished-alike = rw (seat-alike (decode_table t) (decode_table u) size S.table f) (finish-says s.refused (seating (decode_table t) f))

    -- EVERY CALL ABOUT AN ADDRESS whose step is the same at both
    module _ (g h : Option ℕ → Step) where
      turn-answers : (w : Result (Option ℕ) Refusal) → ((f : Option ℕ) → w ≡ Ok f → g f ≡ h f) → (turned w g t a).answer ≡ (turned w h u a).answer
      unfolding turned
      turn-answers (Err c) e = refl
      turn-answers (Ok f) e =
          finish-answer t f (g f) a ∙ ap (λ (s : Step). if s.refused then refused why.Full else said s a) (e f refl) ∙ sym (finish-answer u f (h f) a)

      turn-says : (w : Result (Option ℕ) Refusal) → ((f : Option ℕ) → w ≡ Ok f → g f ≡ h f) → ((f : Option ℕ) → w ≡ Ok f → Good t a f (g f)) → ((f : Option ℕ) → w ≡ Ok f → Good u a f (h f))
          → decode_table (turned w h u a).table ≡ resized size (decode_table (turned w g t a).table)
      unfolding turned
      turn-says (Err c) e G H = S.table
      turn-says (Ok f) e G H =
          subst (λ (s : Step). Good u a f s → decode_table (finishes u f s a).table ≡ resized size (decode_table (finishes t f (g f) a).table)) (e f refl)
          (λ K. finished-alike f (g f) (G f refl) K) (H f refl)

      turn-alike : (w : Result (Option ℕ) Refusal) → ((f : Option ℕ) → w ≡ Ok f → g f ≡ h f) → ((f : Option ℕ) → w ≡ Ok f → Good t a f (g f)) → ((f : Option ℕ) → w ≡ Ok f → Good u a f (h f))
          → AlikeLeft (turned w g t a) (turned w h u a)
      turn-alike w e G H =
          let K = turn-keeps w g t a S.bytes₁ la ba S.sound₁ G in
          let L = turn-keeps w h u a S.bytes₂ la ba S.sound₂ H in
          record {
            answer = turn-answers w e;
            left = record {
              bytes₁ = K.bytes;
              bytes₂ = L.bytes;
              sound₁ = K.table.sound;
              sound₂ = L.table.sound;
              table = own-size (decode_table (turned w h u a).table) (decode_table (turned w g t a).table) size (turn-says w e G H);
            };
          }

  -- ---- the calls about peers

  -- Start
  start-turn-alike : (s z : List ℕ) → SameStock (width_of t) (width_of u) (length (groups_in t)) s z → (E : Result (Option ℕ) Refusal) → start_turn E u z ≡ start_turn E t s
  unfolding start_turn decode_table
  start-turn-alike s z P (Err r) = refl
  start-turn-alike s z P (Ok None) = admit-start-alike (decode_table t) (decode_table u) size S.table s z P None
  start-turn-alike s z P (Ok (Some k)) = admit-start-alike (decode_table t) (decode_table u) size S.table s z P (Some k)

  initiate-alike : (a : List ℕ) (time : ℕ) (s z : List ℕ) → length a ≡ 6 → Bytes a → time < 2 ^ 32 → Bytes s → Bytes z
      → SameStock (width_of t) (width_of u) (length (groups_in t)) s z → AlikeLeft (initiates t a time s) (initiates u a time z)
  unfolding initiates decode_table
  initiate-alike a time s z la ba ht bs bz P =
      let same : start_turn (entry u a) u z ≡ start_turn (entry t a) t s = ap (λ (E : Result (Option ℕ) Refusal). start_turn E u z) (entry-alike a) ∙ start-turn-alike s z P (entry t a) in
      rw same
      (turn-alike a la ba (λ f. start_step (decode_table t) f a time s) (λ f. start_step (decode_table u) f a time z) (start_turn (entry t a) t s)
      (λ f e.
      let o = (start-entered t a s (entry t a) f refl e).1 in
      sym (start-step-alike (decode_table t) (decode_table u) size S.table s z P f a time (stock-alike (width_of t) (width_of u) (groups_in t) s z P o)))
      (λ f e. initiate_good t a time s f S.bytes₁ la ba ht bs e)
      (λ f e. initiate_good u a time z f S.bytes₂ la ba ht bz (same ∙ e)))

  -- Kill
  kill-alike : (a : List ℕ) → length a ≡ 6 → Bytes a → AlikeLeft (kills t a) (kills u a)
  unfolding kills
  kill-alike a la ba =
      let same : kill_turn (entry u a) ≡ kill_turn (entry t a) = ap kill_turn (entry-alike a) in
      rw same
      (turn-alike a la ba (λ f. kill_step) (λ f. kill_step) (kill_turn (entry t a)) (λ f e. refl) (λ f e. kill_good t a f S.bytes₁ la ba e)
      (λ f e. kill_good u a f S.bytes₂ la ba (same ∙ e)))

  -- Frame received
  module _ (frame s z expected : List ℕ) (verdict : ℕ) (P : SameStock (width_of t) (width_of u) (length (groups_in t)) s z) where
    frame-turn-alike : (E : Result (Option ℕ) Refusal) → frame_turn E u frame z expected verdict ≡ frame_turn E t frame s expected verdict
    unfolding frame_turn decode_table
    frame-turn-alike (Err r) = refl
    frame-turn-alike (Ok None) = admit-frame-alike (decode_table t) (decode_table u) size S.table s z P None frame expected verdict
    frame-turn-alike (Ok (Some k)) = admit-frame-alike (decode_table t) (decode_table u) size S.table s z P (Some k) frame expected verdict

    receive-alike : (a : List ℕ) (time : ℕ) → length a ≡ 6 → Bytes a → time < 2 ^ 32 → Bytes frame → Bytes s → Bytes z → Bytes expected → verdict < 2 ^ 8
        → AlikeLeft (receives t a time frame s expected verdict) (receives u a time frame z expected verdict)
    unfolding receives decode_table
    receive-alike a time la ba ht br bs bz be hv =
        let same : frame_turn (entry u a) u frame z expected verdict ≡ frame_turn (entry t a) t frame s expected verdict =
        ap (λ (E : Result (Option ℕ) Refusal). frame_turn E u frame z expected verdict) (entry-alike a) ∙ frame-turn-alike (entry t a) in
        rw same
        (turn-alike a la ba (λ f. frame_step (decode_table t) f a time frame s expected verdict) (λ f. frame_step (decode_table u) f a time frame z expected verdict)
        (frame_turn (entry t a) t frame s expected verdict)
        (λ f e.
        let o = (frame-entered t a frame s expected verdict (entry t a) f refl e).1 in
        sym (frame-step-alike (decode_table t) (decode_table u) size S.table s z P f a time frame expected verdict (stock-alike (width_of t) (width_of u) (groups_in t) s z P o)))
        (λ f e. receive_good t a time frame s expected verdict f S.bytes₁ la ba ht br bs be hv e)
        (λ f e. receive_good u a time frame z expected verdict f S.bytes₂ la ba ht br bz be hv (same ∙ e)))

  -- Clock: the same record, or none
  due-alike : (time : ℕ) → due_slot (decode_table u) time ≡ due_slot (decode_table t) time
  due-alike time = ap (λ (X : Table). due_slot X time) S.table ∙ due-sized (decode_table t) size time

  module _ (time : ℕ) (ht : time < 2 ^ 32) where
    expire-due-alike : (k : ℕ) → due_slot (decode_table t) time ≡ Some k → AlikeLeft (due_left t time k) (due_left u time k)
    unfolding turned
    expire-due-alike k e =
        let d : due_slot (decode_table u) time ≡ Some k = due-alike time ∙ e in
        let q : slot (decode_table u) k ≡ slot (decode_table t) k = slot-alike (decode_table t) (decode_table u) size S.table k in
        let six = expire_address t time k S.bytes₁ S.sound₁ e in
        let G = expire_good t time k S.bytes₁ ht S.sound₁ e in
        let H = subst (λ (p : Peer). Good u p.address (Some k) (clock_step (decode_table u) k time)) q (expire_good u time k S.bytes₂ ht S.sound₂ d) in
        subst (λ (p : Peer). AlikeLeft (due_left t time k) (finishes u (Some k) (clock_step (decode_table u) k time) p.address)) (sym q)
        (turn-alike (slot (decode_table t) k).address six.0 six.1 (λ f. clock_step (decode_table t) k time) (λ f. clock_step (decode_table u) k time) (Ok (Some k))
        (λ f w. sym (clock-step-alike (decode_table t) (decode_table u) size S.table k time))
        (λ f w. subst (λ (x : Option ℕ). Good t (slot (decode_table t) k).address x (clock_step (decode_table t) k time)) (go_same w) G)
        (λ f w. subst (λ (x : Option ℕ). Good u (slot (decode_table t) k).address x (clock_step (decode_table u) k time)) (go_same w) H))

    expire-alike : AlikeLeft (expires t time) (expires u time)
    expire-alike = go (due_slot (decode_table t) time) refl
      where
        go : (f : Option ℕ) → due_slot (decode_table t) time ≡ f → AlikeLeft (expires t time) (expires u time)
        go (Some k) e = rw (takes t time k S.sound₁ e, takes u time k S.sound₂ (due-alike time ∙ e)) (expire-due-alike k e)
        go None e =
            let d : due_slot (decode_table u) time ≡ None = due-alike time ∙ e in
            record {
              answer = none-answer t time S.sound₁ e ∙ sym (none-answer u time S.sound₂ d);
              left = rw (expire-keeps-none t time S.bytes₁ e, expire-keeps-none u time S.bytes₂ d) S;
            }

  -- ---- the others

  write-parts-alike : (sequence status group counter : ℕ) (token rest out : List ℕ)
      → writes_parts t sequence status group counter token rest out ≡ writes_parts u sequence status group counter token rest out
  write-parts-alike sequence status group counter token rest out =
      write-parts-isolated t u sequence status group counter token rest out S.sound₁ S.sound₂ (sym (groups-alike (decode_table t) (decode_table u) size S.table))

  write-record-by : (E : Result (Option ℕ) Refusal) (sequence : ℕ) (value out : List ℕ) → writes_record_by E t sequence value out ≡ writes_record_by E u sequence value out
  unfolding writes_record_by
  write-record-by (Err r) sequence value out = refl
  write-record-by (Ok None) sequence value out = refl
  write-record-by (Ok (Some k)) sequence value out =
      rw (groups-alike (decode_table t) (decode_table u) size S.table, slot-alike (decode_table t) (decode_table u) size S.table k) refl

  write-record-alike : (a : List ℕ) (sequence : ℕ) (value out : List ℕ) → writes_record t a sequence value out ≡ writes_record u a sequence value out
  unfolding writes_record
  write-record-alike a sequence value out = rw (entry-alike a) (write-record-by (entry t a) sequence value out)

  good-alike : asks_good (take 32 t) ≡ asks_good (take 32 u)
  unfolding good_count slot
  good-alike =
      let e : good_count (decode_table u) ≡ good_count (decode_table t) = ap good_count S.table in
      sound-answered t S.bytes₁ S.sound₁ ∙ ap Ok (sym e) ∙ sym (sound-answered u S.bytes₂ S.sound₂)

  deadline-alike : (time : ℕ) → asks_deadline t time ≡ asks_deadline u time
  unfolding asks_deadline next_deadline slot
  deadline-alike time =
      let e : next_deadline (decode_table u) time ≡ next_deadline (decode_table t) time = ap (λ (X : Table). next_deadline X time) S.table in
      rw (S.sound₁, S.sound₂, e) refl

  -- WHERE A RECORD LIES: the same slot, or the same refusal, each in its own form
  pub find-alike : (a : List ℕ) → (asks_offset t a ≡ offset_by (entry t a) (width_of t)) × (asks_offset u a ≡ offset_by (entry t a) (width_of u))
  unfolding asks_offset
  find-alike a = (refl, ap (λ (E : Result (Option ℕ) Refusal). offset_by E (width_of u)) (entry-alike a))

  -- ---- every further call: the same reply, and tables that stay alike

  further-replies : (c d : Further) → Partner (width_of t) (width_of u) (length (groups_in t)) c d → HandedOver c → HandedOver d → reply t c ≡ reply u d
  further-replies c d (same_start P) (a_call (an_initiate la ba ht bs)) (a_call (an_initiate ma ca it bz)) = ap answered (initiate-alike _ _ _ _ la ba ht bs bz P).answer
  further-replies c d same_kill (a_call (a_kill la ba)) k = ap answered (kill-alike _ la ba).answer
  further-replies c d (same_frame P) (a_call (a_receive la ba ht br bs be hv)) (a_call (a_receive ma ca it cr bz ce iv)) =
      ap answered (receive-alike _ _ _ _ _ P _ _ la ba ht br bs bz be hv).answer
  further-replies c d same_clock (a_call (an_expire ht)) k = ap answered (expire-alike _ ht).answer
  further-replies c d same_fill h k = ap filled_so (fill_done t S.bytes₁ S.sound₁ ∙ sym (fill_done u S.bytes₂ S.sound₂))
  further-replies c d same_parts_written h k = ap wrote (write-parts-alike _ _ _ _ _ _ _)
  further-replies c d same_record_written h k = ap wrote (write-record-alike _ _ _ _)
  further-replies c d same_read h k = rw (S.sound₁, S.sound₂, groups-alike (decode_table t) (decode_table u) size S.table) refl
  further-replies c d same_good h k = ap told good-alike
  further-replies c d same_deadline h k = ap told (deadline-alike _)

  further-leaves : (c d : Further) → Partner (width_of t) (width_of u) (length (groups_in t)) c d → HandedOver c → HandedOver d → SameContents (leaves t c) (leaves u d)
  further-leaves c d (same_start P) (a_call (an_initiate la ba ht bs)) (a_call (an_initiate ma ca it bz)) = (initiate-alike _ _ _ _ la ba ht bs bz P).left
  further-leaves c d same_kill (a_call (a_kill la ba)) k = (kill-alike _ la ba).left
  further-leaves c d (same_frame P) (a_call (a_receive la ba ht br bs be hv)) (a_call (a_receive ma ca it cr bz ce iv)) =
      (receive-alike _ _ _ _ _ P _ _ la ba ht br bs bz be hv).left
  further-leaves c d same_clock (a_call (an_expire ht)) k = (expire-alike _ ht).left
  further-leaves c d same_fill h k = rw (fills-sound t S.bytes₁ S.sound₁, fills-sound u S.bytes₂ S.sound₂) S
  further-leaves c d same_parts_written h k = S
  further-leaves c d same_record_written h k = S
  further-leaves c d same_read h k = S
  further-leaves c d same_good h k = S
  further-leaves c d same_deadline h k = S

-- ---- the width and the groups of a table stay

further-stays : (t : List ℕ) (c : Further) → Bytes t → sound t ≡ true → HandedOver c → Stays t (leaves t c)
further-stays t f b s (a_call {c} h) = call_stays t c b s h
further-stays t f b s a_fill = subst (Stays t) (sym (fills-sound t b s)) (stays-itself t b s)
further-stays t f b s a_parts = stays-itself t b s
further-stays t f b s a_record = stays-itself t b s
further-stays t f b s a_frame = stays-itself t b s
further-stays t f b s a_question = stays-itself t b s
further-stays t f b s a_time = stays-itself t b s

after-all-stays : (t : List ℕ) (cs : List Further) → Bytes t → sound t ≡ true → AllHandedOver cs → Stays t (after_all t cs)
unfolding after_all
after-all-stays t [] b s none = stays-itself t b s
after-all-stays t (c ∷ cs) b s (more h hs) =
    let R = after-all-stays t cs b s hs in stays_on t (after_all t cs) _ R (further-stays (after_all t cs) c R.bytes R.sound h)

-- and so do the lengths of its stocks
partner-stays : (t u v w : List ℕ) (c d : Further) → Stays t v → Stays u w → Partner (width_of t) (width_of u) (length (groups_in t)) c d
    → Partner (width_of v) (width_of w) (length (groups_in v)) c d
unfolding decode_table
partner-stays t u v w c d X Y P =
    subst (λ (m : ℕ). Partner (width_of v) (width_of w) m c d) (sym (ap (length {A = ℕ}) X.groups))
    (subst (λ (m : ℕ). Partner (width_of v) m (length (groups_in t)) c d) (sym Y.width) (subst (λ (m : ℕ). Partner m (width_of u) (length (groups_in t)) c d) (sym X.width) P))

-- AFTER A MOVE: two tables of the same contents give every list of further calls the same answers and stay of the same contents, the stocks of each being the
-- same parts in its own length
pub further-alike : (t u : List ℕ) (cs ds : List Further) → SameContents t u → Partners (width_of t) (width_of u) (length (groups_of (decode_table t).header)) cs ds
    → AllHandedOver cs → AllHandedOver ds → AnsweredAlike t u cs ds
unfolding after_all replies
further-alike t u [] [] S both_end none none = record { replies = refl; left = S }
further-alike t u [] (d ∷ ds) S p _ _ = elim p [ ]
further-alike t u (c ∷ cs) [] S p _ _ = elim p [ ]
further-alike t u (c ∷ cs) (d ∷ ds) S (both_more P Ps) (more h hs) (more k ks) =
    let A = further-alike t u cs ds S Ps hs ks in
    let Q = partner-stays t u (after_all t cs) (after_all u ds) c d (after-all-stays t cs S.bytes₁ S.sound₁ hs) (after-all-stays u ds S.bytes₂ S.sound₂ ks) P in
    let x : reply (after_all t cs) c ≡ reply (after_all u ds) d = further-replies (after_all t cs) (after_all u ds) A.left c d Q h k in
    let y : replies t cs ≡ replies u ds = A.replies in
    record { replies = rw (x, y) refl; left = further-leaves (after_all t cs) (after_all u ds) A.left c d Q h k }

-- by the numbers of their widths
further-by : (t u : List ℕ) (W W' : ℕ) (cs ds : List Further) → width_of t ≡ W → width_of u ≡ W' → SameContents t u → Partners W W' (length (groups_of (decode_table t).header)) cs ds
    → AllHandedOver cs → AllHandedOver ds → AnsweredAlike t u cs ds
further-by t u W W' cs ds x y S P hs ks =
    further-alike t u cs ds S
    (subst (λ (m : ℕ). Partners (width_of t) m (length (groups_of (decode_table t).header)) cs ds) (sym y)
    (subst (λ (m : ℕ). Partners m W' (length (groups_of (decode_table t).header)) cs ds) (sym x) P)) hs ks

-- ---- AFTER EITHER MOVE

-- a move that is not refused leaves the moved table
move-done : (d : Direction) (source target : List ℕ) → (moves d source target).answer ≡ outcome.Done
    → (is_of (source_form d) source ≡ true) × (hindered d (decode_table source).header ≡ false) × ((moves d source target).target ≡ moved (target_form d) source)
unfolding moves
move-done d source target e =
    go (is_of (source_form d) source) (hindered d (decode_table source).header) (fitting (target_form d) (decode_table source).header target) e
  where
    move : Bool → Bool → Bool → Moved
    move a b c =
        if not a then refuse_move target why.Unsound else if b then refuse_move target (hindrance d) else if not c then refuse_move target why.Target
        else record { answer = outcome.Done; target = moved (target_form d) source }

    go : (a b c : Bool) → (move a b c).answer ≡ outcome.Done → (a ≡ true) × (b ≡ false) × ((move a b c).target ≡ moved (target_form d) source)
    go false b c q = let z : ◌≡◌ {A = ℕ} 0 1 = cc in absurd (omega arith)
    go true true c q = let z : ◌≡◌ {A = ℕ} 0 1 = cc in absurd (omega arith)
    go true false false q = let z : ◌≡◌ {A = ℕ} 0 1 = cc in absurd (omega arith)
    go true false true q = (refl, refl, refl)

served-forms : (d : Direction) → Served (source_form d) × Served (target_form d)
served-forms Forward = (narrow-served, wide-served)
served-forms Back = (wide-served, narrow-served)

served-width : (f : Form) (t : List ℕ) → Served f → (decode_table t).header.geometry.size ≡ f.size → width_of t ≡ f.width
unfolding decode_table
served-width f t F e = ap (λ (n : ℕ). (form_of n).width) e ∙ ap (λ (x : Form). x.width) F.told

module _ (d : Direction) (source target : List ℕ) (b : Bytes source) (e : (moves d source target).answer ≡ outcome.Done) where
  abbrev after-move : List ℕ
  after-move = (moves d source target).target

  -- THE TARGET says what its source does
  pub move_same : SameContents source after-move
  move_same = let w = move-done d source target e in subst (SameContents source) (sym w.2) (moved_same (target_form d) source (movable d source b w.0 w.1))

  source-width : width_of source ≡ (source_form d).width
  source-width = served-width (source_form d) source (served-forms d).0 (source-size (source_form d) source (move-done d source target e).0)

  target-width : width_of after-move ≡ (target_form d).width
  target-width =
      let w = move-done d source target e in
      served-width (target_form d) after-move (served-forms d).1
      (ap (λ (x : List ℕ). (decode_table x).header.geometry.size) w.2 ∙ moved-size (target_form d) source (movable d source b w.0 w.1))

  -- ANY FURTHER CALLS get the answers that the unmoved table would have given, stocks of 144 octets a group at the one being those of 198 at the other
  pub move-alike : (cs ds : List Further) → Partners (source_form d).width (target_form d).width (length (groups_of (decode_table source).header)) cs ds
      → AllHandedOver cs → AllHandedOver ds → AnsweredAlike source after-move cs ds
  move-alike cs ds P hs ks = further-by source after-move (source_form d).width (target_form d).width cs ds source-width target-width move_same P hs ks

-- ---- THE SAME STOCK EXISTS, and how it looks

-- parts that W' octets hold without loss, cut or filled up to W' octets, are the same values
module _ (W W' : ℕ) (w : W ≤ width) (w' : W' ≤ width) where
  part-long : (s : List ℕ) → length (take W' (stored (take W s))) ≡ W'
  part-long s = cut-long W' (take W s) w' (cut_fits W s w)

  refilled-length : (n : ℕ) (s : List ℕ) → length (refilled W W' n s) ≡ W' * n
  unfolding refilled
  refilled-length zero s = sym (mul-zero W')
  refilled-length (suc n) s =
      length-append (take W' (stored (take W s))) (refilled W W' n (drop W s)) ∙ omega (arith, part-long s, refilled-length n (drop W s), mul-suc W' n)

  refilled-commits : (n : ℕ) (s : List ℕ) → ((i : ℕ) → i < n → Storable W' (fresh_at (commits_of W n s) i)) → commits_of W n s ≡ commits_of W' n (refilled W W' n s)
  unfolding refilled commits_of fresh_at
  refilled-commits zero s f = refl
  refilled-commits (suc n) s f =
      let r = refilled W W' n (drop W s) in
      let h : take W' (take W' (stored (take W s)) ++ r) ≡ take W' (stored (take W s)) = take_at (take W' (stored (take W s))) r W' (part-long s) in
      let k : drop W' (take W' (stored (take W s)) ++ r) ≡ r = drop_at (take W' (stored (take W s))) r W' (part-long s) in
      let c : stored (take W' (stored (take W s))) ≡ stored (take W s) = (f 0 (omega arith)).same in
      let q : commits_of W n (drop W s) ≡ commits_of W' n r = refilled-commits n (drop W s) (λ i l. f (suc i) (omega arith)) in
      rw (h, k, c, q) refl

-- octets
pub refilled-bytes : (W W' n : ℕ) (s : List ℕ) → Bytes s → Bytes (refilled W W' n s)
unfolding refilled
refilled-bytes W W' zero s b = λ i. omega arith
refilled-bytes W W' (suc n) s b =
    bytes-append (take W' (stored (take W s))) (refilled W W' n (drop W s)) (bytes_take W' (stored (take W s)) (stored_bytes (take W s) (bytes_take W s b)))
    (refilled-bytes W W' n (drop W s) (bytes_drop W s b))

-- as many parts as there are octets for
fresh-count : (W n : ℕ) (s : List ℕ) → 1 ≤ W → length s ≡ W * n → fresh_of W s ≡ commits_of W n s
unfolding fresh_of
fresh-count W n s p l = ap (λ (k : ℕ). commits_of W k s) (ap (λ (k : ℕ). k / W) l ∙ mul-div_cancel_left n p)

-- parts that lose nothing
refilled_same : (W W' n : ℕ) (s : List ℕ) → 1 ≤ W → W ≤ width → 1 ≤ W' → W' ≤ width → length s ≡ W * n → ((i : ℕ) → i < n → Storable W' (fresh_at (fresh_of W s) i))
    → SameStock W W' n s (refilled W W' n s)
refilled_same W W' n s p w p' w' l f =
    let c : fresh_of W s ≡ commits_of W n s = fresh-count W n s p l in
    let m : length (refilled W W' n s) ≡ W' * n = refilled-length W W' w w' n s in
    let q : commits_of W n s ≡ commits_of W' n (refilled W W' n s) =
    refilled-commits W W' w w' n s (subst (λ (x : List (List ℕ)). (i : ℕ) → i < n → Storable W' (fresh_at x i)) c f) in
    same_parts l m (c ∙ q ∙ sym (fresh-count W' n (refilled W W' n s) p' m))

-- FILLED UP: every stock of the right length, whatever its parts
pub stock-partner : (W W' n : ℕ) (s : List ℕ) → 1 ≤ W → W ≤ W' → W' ≤ width → length s ≡ W * n → SameStock W W' n s (refilled W W' n s)
stock-partner W W' n s p h w' l = refilled_same W W' n s p (omega arith) (omega arith) w' l (λ i k. short i (room_in W i n (length s) k l))
  where
    short : (i : ℕ) → W * i + W ≤ length s → Storable W' (fresh_at (fresh_of W s) i)
    short i r = subst (Storable W') (sym (fresh-part W i s p r)) (storable-short W' (part s (W * i) W) w' (omega (arith, h, length_part s (W * i) W r)))

-- a commit of a group that W octets have room for
group-storable : (W g : ℕ) (c : List ℕ) → W ≤ width → commit_length g ≤ W → length c ≡ width → commit_ok g c ≡ true → Storable W c
unfolding commit_ok
group-storable W g c w h l z =
    let f = commit-fits g in
    let m : length (take (commit_length g) c) ≡ commit_length g = length-take-le (commit_length g) c (omega arith) in
    subst (Storable W) (storable-zeros (commit_length g) c f l z).same (storable-short W (take (commit_length g) c) w (omega arith))

width-in : (t : List ℕ) → sound t ≡ true → (1 ≤ width_of t) × (width_of t ≤ width)
unfolding decode_table
width-in t e = let w = header-width (decode_table t).header (sound-header t e) in (omega (arith, w), form-width _)

-- EITHER WAY: every stock that the one table takes has its partner at the other, octets again
module _ (t u : List ℕ) (S : SameContents t u) (s : List ℕ) (b : Bytes s) (o : fresh_ok (width_of t) (groups_of (decode_table t).header) s ≡ true) where
  abbrev partner : List ℕ
  partner = refilled (width_of t) (width_of u) (length (groups_of (decode_table t).header)) s

  part-fits : (i : ℕ) → i < length (groups_in t) → Storable (width_of u) (fresh_at (fresh_of (width_of t) s) i)
  unfolding decode_table
  part-fits i h =
      let w = width-in t S.sound₁ in
      let g : groups_in u ≡ groups_in t = groups-alike (decode_table t) (decode_table u) (decode_table u).header.geometry.size S.table in
      let x = subst (λ (gs : List ℕ). listed gs (get_or (groups_in t) i 0) ≡ true) (sym g) (listed_at (groups_in t) i (get_or (groups_in t) i 0) h refl) in
      let r = (header-room (decode_table u).header (sound-header u S.sound₂)).each (get_or (groups_in t) i 0) x in
      let K = (commits-stock (width_of t) (groups_in t) s w.0 w.1 b o).each i h in
      group-storable (width_of u) (get_or (groups_in t) i 0) (fresh_at (fresh_of (width_of t) s) i) (width-in u S.sound₂).1 r K.long K.tail

  pub taken-partner : SameStock (width_of t) (width_of u) (length (groups_of (decode_table t).header)) s partner
  taken-partner =
      let w = width-in t S.sound₁ in
      let v = width-in u S.sound₂ in
      refilled_same (width_of t) (width_of u) (length (groups_in t)) s w.0 w.1 v.0 v.1 (fresh-length (width_of t) (groups_in t) s o) part-fits

  pub taken-bytes : Bytes partner
  taken-bytes = refilled-bytes (width_of t) (width_of u) (length (groups_in t)) s b
