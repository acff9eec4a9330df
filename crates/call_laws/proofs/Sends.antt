-- WHAT A CALL SENDS the writer can write from the table just left, and a reader whose list has the group reads it back.
use Rattle.std.specs.Prelude.{Option, Some, None, Result, Ok}
use mathlib.Core.Path.{◌≡◌, refl, sym, ap, ◌∙◌, subst}
use mathlib.Core.Logic.{◌⊎◌, inl, inr}
use mathlib.Core.Bool.{Bool, true, false}
use mathlib.Core.List.{List, []}
use Prim.Native.Nat.{ℕ, ◌^◌, ◌≤◌, ◌<◌}
use native.Mathlib.Omega.{arith}
use lib.Dec.{lit<}
use lib.ListN.{length, take, length-take}
use borrow.Author.Tests.{eq-eqb, ne_eqb, le-ltb}
use Rattle.octets.specs.Octets.{Bytes}
use Rattle.groups.specs.Groups.{listed, commit_length}
use Rattle.groups.proofs.Laws.{commit-fits}
use Rattle.frame.specs.Frame.{commit_body, token_request_body, group_refusal_body, confirm_body}
use Rattle.frame.specs.Writing.{Drawn, Octets, draw_commit, draw_token_request, draw_group_refusal, draw_confirm, draw_commits, parts_body}
use Rattle.frame.proofs.RoundTrip.{commit-reads, commit-token-back, commit_back, token-request-reads, token-request-back, group-refusal-reads, confirm-reads, confirm-back}
use Rattle.record.specs.declared.Counts.{Counts}
use Rattle.record.specs.declared.Header.{Header}
use Rattle.record.specs.declared.Run.{Run}
use Rattle.record.specs.declared.Peer.{Peer}
use Rattle.record.specs.Layout.{counted, no_peer, no_run, no_link}
use Rattle.soundness.specs.Soundness.{usable, run_ok}
use Rattle.soundness.proofs.Laws.{run-is-committed, run-is-confirmed, run-states}
use Rattle.table.specs.Table.{decode_table, slot, finds, look_by, look, sound, entry}
use Rattle.table.proofs.Laws.{found_below}
use Rattle.rules.specs.declared.Frame.{Frame}
use Rattle.rules.specs.declared.Frames.{Frames}
use Rattle.rules.specs.Book.{Step}
use Rattle.message.specs.View.{message}
use Rattle.rule_laws.proofs.Keeps.{Kept, parts}
use Rattle.rule_laws.proofs.Tells.{Told, a_commit, a_confirm, an_answer, a_request, a_refusal, Tells, tell_none, tell_one, tell_two, Truthful, States, frame-tells, start-tells, clock-tells}
use Rattle.causes.specs.declared.Refusal.{Refusal}
use Rattle.answers.specs.Answers.{Report, Left, ends, turned, refuse, refused, said, none_due}
use Rattle.answers.proofs.Ending.{Finished, Turned, denied, done, turn-ends}
use Rattle.writer.specs.Writer.{draws, writes_parts, record_commit, record_confirm, record_body, writes_record_by, writes_record}
use Rattle.calls.specs.Calls.{start_step, initiates, kill_turn, kill_step, kills, frame_step, receives, due_slot, clock_step, expires_by, expires}
use Rattle.call_laws.specs.Writable.{CommitWritten, ConfirmWritten, RequestWritten, RefusalWritten, Writable, as_commit, as_confirm, as_request, as_refusal, Writables, write_none, write_one, write_two}
use Rattle.call_laws.proofs.Ends.{takes, clock-ends}
use Rattle.call_laws.proofs.Good.{own_in, groups_in, high_in, slot_kept, entered-usable, entered-kept, start-entered, frame-entered, no-run, viewed, due-kept, due-place, initiate_good, kill_good, receive_good}

-- ---- the record of an address

-- an address whose record has a run or a link is in the table
pub record Seen (t a : List ℕ) : Type 0 where
  pub k : ℕ
  pub entry : entry t a ≡ Ok (Some k)
  pub slot : slot (decode_table t) k ≡ look (decode_table t) a
  pub kept : Kept (own_in t) (groups_in t) (high_in t) (look (decode_table t) a).address (look (decode_table t) a)

module _ (t a : List ℕ) (b : Bytes t) (s : sound t ≡ true) (q : usable (own_in t) a ≡ true) where
  seen_by : (f : Option ℕ) → finds (decode_table t) a ≡ f → (((look (decode_table t) a).run.state ≡ 0) × ((look (decode_table t) a).link.finished ≡ 0) → ⊥) → Seen t a
  unfolding entry look look_by no_peer no_run no_link
  seen_by (Some k) e h =
      let i : slot (decode_table t) k ≡ look (decode_table t) a = ap (look_by (decode_table t)) (sym e) in
      record {
        k = k;
        entry = rw (s, q, e);
        slot = i;
        kept = subst (λ (p : Peer). Kept (own_in t) (groups_in t) (high_in t) p.address p) i (slot_kept t s b k (found_below (decode_table t) a k e).0);
      }
  seen_by None e h = absurd (h (rw e, rw e))

  seen : (((look (decode_table t) a).run.state ≡ 0) × ((look (decode_table t) a).link.finished ≡ 0) → ⊥) → Seen t a
  seen h = seen_by (finds (decode_table t) a) refl h

  seen-writes : Seen t a → (sequence : ℕ) (value out : List ℕ) (d : Drawn) → record_body (groups_in t) (look (decode_table t) a) sequence value ≡ d → writes_record t a sequence value out ≡ draws d out
  unfolding writes_record writes_record_by
  seen-writes S sequence value out d e =
      ap (λ (E : Result (Option ℕ) Refusal). writes_record_by E t sequence value out) S.entry
      ∙ ap (λ (p : Peer). draws (record_body (groups_in t) p sequence value) out) S.slot ∙ ap (λ (x : Drawn). draws x out) e

-- ---- a run's Commit

module _ (gs : List ℕ) (high : ℕ) (r : Run) (ok : run_ok gs high r ≡ true) (d : r.state ≡ 0 → ⊥) where
  run-facts : (listed gs r.group ≡ true) × (r.toklen ≤ 256)
  run-facts = go (run-states gs high r ok)
    where
      go : (r.state ≡ 0) ⊎ ((r.state ≡ 1) ⊎ (r.state ≡ 2)) → (listed gs r.group ≡ true) × (r.toklen ≤ 256)
      go (inl e) = absurd (d e)
      go (inr (inl e)) = let f = run-is-committed gs high r e ok in (f.listed, f.token.short)
      go (inr (inr e)) = let f = run-is-confirmed gs high r e ok in (f.listed, f.token.short)

draw-commit : (gs : List ℕ) (g : ℕ) (token commit : List ℕ) → listed gs g ≡ true → length token ≤ 256 → length commit ≡ commit_length g → draw_commit gs g token commit ≡ Octets (commit_body g token commit)
unfolding draw_commit
draw-commit gs g token commit l h e = rw (l, le-ltb 256 (length token) h, eq-eqb (length commit) (commit_length g) e)

record-commit : (gs : List ℕ) (p : Peer) (value : List ℕ) (d : Drawn) → (p.run.state ≡ 0 → ⊥)
    → draw_commit gs p.run.group (take p.run.toklen p.run.token) (take (commit_length p.run.group) p.run.own) ≡ d → record_body gs p 1 value ≡ d
unfolding record_body record_commit
record-commit gs p value d h e = rw (ne_eqb p.run.state 0 h) e

taken : (n : ℕ) (l : List ℕ) → n ≤ length l → length (take n l) ≡ n
taken n l h = simp length-take (omega arith)

taken-le : (n : ℕ) (l : List ℕ) → length (take n l) ≤ n
taken-le n l = simp length-take (omega arith)

module _ (t a : List ℕ) (b : Bytes t) (s : sound t ≡ true) (q : usable (own_in t) a ≡ true) where
  commit-written : (g : ℕ) → (look (decode_table t) a).run.group ≡ g → ((look (decode_table t) a).run.state ≡ 0 → ⊥) → CommitWritten t a g
  commit-written g e h =
      record {
        token = token;
        commit = commit;
        token_is = refl;
        commit_is = refl;
        writes = λ value out. seen-writes t a b s q S 1 value out _ (record-commit (groups_in t) p value _ h drawn);
        reads = λ gs l. commit-reads gs g token commit l low small long;
        token_back = commit-token-back g token commit;
        commit_back = commit_back g token commit long;
      }
    where
      p : Peer
      p = look (decode_table t) a

      S : Seen t a
      S = seen t a b s q (λ z. h z.0)

      token : List ℕ
      token = take p.run.toklen p.run.token

      commit : List ℕ
      commit = take (commit_length g) p.run.own

      facts : (listed (groups_in t) p.run.group ≡ true) × (p.run.toklen ≤ 256)
      facts = run-facts (groups_in t) (high_in t) p.run (parts (own_in t) (groups_in t) (high_in t) _ p S.kept).run h

      small : length token ≤ 256
      small = omega (arith, taken-le p.run.toklen p.run.token, facts.1)

      long : length commit ≡ commit_length g
      long = taken (commit_length g) p.run.own (omega (arith, commit-fits g, S.kept.fits.run.shape.own))

      low : g < 65536
      low = subst (λ (n : ℕ). n < 65536) e S.kept.fits.run.shape.group

      drawn : draw_commit (groups_in t) p.run.group token (take (commit_length p.run.group) p.run.own) ≡ Octets (commit_body g token commit)
      drawn =
          ap (λ (n : ℕ). draw_commit (groups_in t) n token (take (commit_length n) p.run.own)) e
          ∙ draw-commit (groups_in t) g token commit (subst (λ (n : ℕ). listed (groups_in t) n ≡ true) e facts.0) small long

-- ---- a Confirm

draw-confirm : (n : ℕ) (value : List ℕ) → length value ≡ 32 → draw_confirm n value ≡ Octets (confirm_body n value)
unfolding draw_confirm
draw-confirm n value e = rw (eq-eqb (length value) 32 e)

confirm-of-run : (gs : List ℕ) (p : Peer) (value : List ℕ) → p.run.state ≡ 2 → length value ≡ 32 → record_body gs p 2 value ≡ Octets (confirm_body p.run.sc value)
unfolding record_body record_confirm
confirm-of-run gs p value e l = rw e (draw-confirm p.run.sc value l)

confirm-of-link : (gs : List ℕ) (p : Peer) (value : List ℕ) → p.run.state ≡ 0 → (p.link.finished ≡ 0 → ⊥) → length value ≡ 32 → record_body gs p 2 value ≡ Octets (confirm_body 65535 value)
unfolding record_body record_confirm
confirm-of-link gs p value e d l = rw (e, ne_eqb p.link.finished 0 d) (draw-confirm 65535 value l)

confirm-written : (t a : List ℕ) (n : ℕ) → n < 65536 → ((value out : List ℕ) → length value ≡ 32 → writes_record t a 2 value out ≡ draws (Octets (confirm_body n value)) out) → ConfirmWritten t a n
confirm-written t a n h w = record { writes = w; reads = λ gs value l. confirm-reads gs n value h l; value_back = λ value l. confirm-back n value l }

-- ---- a 76 and a 77, from their parts

parts-written : (t : List ℕ) (status g : ℕ) (token rest out : List ℕ) (d : Drawn) → sound t ≡ true → draw_commits (groups_in t) status g token rest ≡ d → writes_parts t 1 status g 0 token rest out ≡ draws d out
unfolding writes_parts parts_body
parts-written t status g token rest out d s e = rw s (ap (λ (x : Drawn). draws x out) e)

draw-request : (gs : List ℕ) (g : ℕ) (token : List ℕ) → 1 ≤ length token → length token ≤ 256 → draw_commits gs 76 g token [] ≡ Octets (token_request_body g token)
unfolding draw_commits draw_token_request
draw-request gs g token h l = rw (ne_eqb (length token) 0 (λ z. omega arith), le-ltb 256 (length token) l)

draw-refusal : (gs : List ℕ) (g : ℕ) → draw_commits gs 77 g [] [] ≡ Octets (group_refusal_body g)
unfolding draw_commits draw_group_refusal
draw-refusal gs g = refl

request-written : (t : List ℕ) (g : ℕ) → sound t ≡ true → g < 65536 → RequestWritten t g
request-written t g s h =
    record {
      writes = λ token out l m. parts-written t 76 g token [] out _ s (draw-request (groups_in t) g token l m);
      reads = λ gs token l m. token-request-reads gs g token h l m;
      token_back = λ token. token-request-back g token;
    }

refusal-written : (t : List ℕ) (g : ℕ) → sound t ≡ true → g < 65536 → RefusalWritten t g
refusal-written t g s h = record { writes = λ out. parts-written t 77 g [] [] out _ s (draw-refusal (groups_in t) g); reads = λ gs. group-refusal-reads gs g h }

-- ---- what the address's record tells can be written

module _ (t a : List ℕ) (b : Bytes t) (s : sound t ≡ true) (q : usable (own_in t) a ≡ true) where
  told-written : (x : Frame) → Told (look (decode_table t) a) x → Writable t a x
  told-written x (a_commit {g} e h) = as_commit (commit-written t a b s q g e h)
  told-written x (a_confirm {n} e h) =
      let S = seen t a b s q (λ z. omega (arith, z.0)) in
      as_confirm (confirm-written t a n (subst (λ (m : ℕ). m < 65536) e S.kept.fits.run.shape.sc)
      (λ value out l. subst (λ (m : ℕ). writes_record t a 2 value out ≡ draws (Octets (confirm_body m value)) out) e
      (seen-writes t a b s q S 2 value out _ (confirm-of-run (groups_in t) (look (decode_table t) a) value h l))))
  told-written x (an_answer e h) =
      let S = seen t a b s q (λ z. h z.1) in
      as_confirm (confirm-written t a 65535 (lit< tt) (λ value out l. seen-writes t a b s q S 2 value out _ (confirm-of-link (groups_in t) (look (decode_table t) a) value e h l)))
  told-written x (a_request {g} h) = as_request (request-written t g s h)
  told-written x (a_refusal {g} h) = as_refusal (refusal-written t g s h)

  tells-written : (fs : Frames) → Tells (look (decode_table t) a) fs → Writables t a fs
  tells-written fs tell_none = write_none
  tells-written fs (tell_one {x} h) = write_one (told-written x h)
  tells-written fs (tell_two {x} {y} h k) = write_two (told-written x h) (told-written y k)

-- ---- the end of a call

own-kept : (h k : Header) (n : Counts) → k ≡ counted h n → k.own ≡ h.own
own-kept h k n e = ap (λ (x : Header). x.own) e

finish-writes : (t a : List ℕ) (s : Step) (l : Left) → usable (own_in t) a ≡ true → Finished t a s l → Truthful s → Writables l.table a l.answer.frames
unfolding said
finish-writes t a s l q F T =
    let o : own_in l.table ≡ own_in t = own-kept (decode_table t).header (decode_table l.table).header _ F.header in
    subst (Writables l.table a) (sym (ap (λ (r : Report). r.frames) F.answer))
    (tells-written l.table a F.bytes F.sound (subst (λ (x : List ℕ). usable x a ≡ true) (sym o) q) s.frames (subst (λ (p : Peer). Tells p s.frames) (sym F.here) T.tells))

refused-writes : (t a : List ℕ) (c : Refusal) (l : Left) → l ≡ refuse t c → Writables l.table a l.answer.frames
unfolding refused
refused-writes t a c l e = subst (λ (x : Left). Writables x.table a x.answer.frames) (sym e) write_none

turn-writes : (w : Result (Option ℕ) Refusal) (g : Option ℕ → Step) (t a : List ℕ) → ((f : Option ℕ) → w ≡ Ok f → (usable (own_in t) a ≡ true) × Truthful (g f)) → Turned w g t a
    → Writables (turned w g t a).table a (turned w g t a).answer.frames
turn-writes w g t a T (denied c e) = refused-writes t a c _ e
turn-writes w g t a T (done f e F) = let h = T f e in finish-writes t a (g f) _ h.0 F h.1

-- ---- each call

-- a sound record's run is in one of its states
kept-states : (own gs : List ℕ) (high : ℕ) (a : List ℕ) (p : Peer) → Kept own gs high a p → States p
kept-states own gs high a p k = run-states gs high p.run (parts own gs high a p k).run

pub initiate-writes : (t a : List ℕ) (time : ℕ) (fresh : List ℕ) → Bytes t → length a ≡ 6 → Bytes a → time < 2 ^ 32 → Bytes fresh
    → Writables (initiates t a time fresh).table a (initiates t a time fresh).answer.frames
unfolding initiates start_step
initiate-writes t a time fresh b la ba ht bf =
    turn-writes _ _ t a
    (λ f e. let w = start-entered t a fresh (entry t a) f refl e in (entered-usable t a f w.0, start-tells _ _ _ (kept-states _ _ _ a _ (entered-kept t a b la ba f w.0)) (no-run _ w.2)))
    (turn-ends _ _ t a b la ba (λ f e. initiate_good t a time fresh f b la ba ht bf e))

pub receive-writes : (t a : List ℕ) (time : ℕ) (frame fresh expected : List ℕ) (verdict : ℕ) → Bytes t → length a ≡ 6 → Bytes a → time < 2 ^ 32
    → Bytes frame → Bytes fresh → Bytes expected → verdict < 2 ^ 8
    → Writables (receives t a time frame fresh expected verdict).table a (receives t a time frame fresh expected verdict).answer.frames
unfolding receives frame_step message
receive-writes t a time frame fresh expected verdict b la ba ht br bf be hv =
    turn-writes _ _ t a
    (λ f e.
    let c = (frame-entered t a frame fresh expected verdict (entry t a) f refl e).0 in
    (entered-usable t a f c, frame-tells _ _ _ _ (viewed (groups_in t) frame br).group (kept-states _ _ _ a _ (entered-kept t a b la ba f c))))
    (turn-ends _ _ t a b la ba (λ f e. receive_good t a time frame fresh expected verdict f b la ba ht br bf be hv e))

kill-none : (t a : List ℕ) (r : Report) → r ≡ said kill_step a → Writables t a r.frames
unfolding said kill_step
kill-none t a r e = subst (λ (x : Report). Writables t a x.frames) (sym e) write_none

said-address : (s : Step) (a : List ℕ) → (said s a).address ≡ a
unfolding said
said-address s a = refl

abbrev AtItsAddress : Left → Type 0
AtItsAddress l = Writables l.table l.answer.address l.answer.frames

finish-writes-at : (t a : List ℕ) (s : Step) (l : Left) → usable (own_in t) a ≡ true → Finished t a s l → Truthful s → AtItsAddress l
finish-writes-at t a s l q F T =
    subst (λ (x : List ℕ). Writables l.table x l.answer.frames) (sym (ap (λ (r : Report). r.address) F.answer ∙ said-address s a)) (finish-writes t a s l q F T)

-- set up and kill send nothing; the clock's answer has the address
pub kill-writes : (t a : List ℕ) → Bytes t → length a ≡ 6 → Bytes a → Writables (kills t a).table a (kills t a).answer.frames
unfolding kills
kill-writes t a b la ba = go (turn-ends _ _ t a b la ba (λ f e. kill_good t a f b la ba e))
  where
    go : Turned (kill_turn (entry t a)) (λ f. kill_step) t a → Writables (turned (kill_turn (entry t a)) (λ f. kill_step) t a).table a (turned (kill_turn (entry t a)) (λ f. kill_step) t a).answer.frames
    go (denied c e) = refused-writes t a c _ e
    go (done f e F) = kill-none _ a _ F.answer

module _ (t : List ℕ) (time : ℕ) (b : Bytes t) (ht : time < 2 ^ 32) where
  clock-step-tells : (k : ℕ) → sound t ≡ true → due_slot (decode_table t) time ≡ Some k → Truthful (clock_step (decode_table t) k time)
  unfolding clock_step
  clock-step-tells k s e = clock-tells _ _ _ (kept-states _ _ _ _ _ (due-kept t time k b s e))

  pub expire-writes : Writables (expires t time).table (expires t time).answer.address (expires t time).answer.frames
  unfolding expires expires_by ends refused none_due
  expire-writes = go (sound t) refl (due_slot (decode_table t) time) refl
    where
      go : (x : Bool) → sound t ≡ x → (f : Option ℕ) → due_slot (decode_table t) time ≡ f → AtItsAddress (expires t time)
      go true s (Some k) e =
          subst AtItsAddress (sym (takes t time k s e))
          (finish-writes-at t _ _ _ (due-place t time k b s e).usable (clock-ends t time k s e b ht) (clock-step-tells k s e))
      go true s None e = rw (s, e) write_none
      go false s f e = rw s write_none
