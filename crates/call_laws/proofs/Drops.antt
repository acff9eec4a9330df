-- A DROPPED FRAME CHANGES NOTHING: in every place where the rules drop a frame, the frame call leaves the table as it was lent, octet for octet.
use mathlib.Core.Path.{◌≡◌, refl, sym, ap, ◌∙◌}
use mathlib.Core.Bool.{Bool, true, false}
use mathlib.Core.List.{List}
use Prim.Native.Nat.{ℕ}
use native.Mathlib.Omega.{arith}
use Rattle.octets.specs.Octets.{Bytes}
use Rattle.std.specs.Prelude.{if◌then◌else◌, Option, Some, None, Result, Ok, Err}
use Rattle.record.specs.declared.Peer.{Peer}
use Rattle.table.specs.Table.{decode_table, encode_table, placed, slot, free_slot, look_by, sound, entry}
use Rattle.table.proofs.Kept.{placed-again}
use Rattle.rules.specs.declared.Act.TheVariants.{Drop}
use Rattle.rules.specs.Book.{Step, answering}
use Rattle.rules.proofs.Drops.{drop_named, named-drop}
use Rattle.causes.specs.declared.Refusal.TheVariants as why
use Rattle.answers.specs.Answers.{ends, seating, finish_at, finishes, turned, refuse, refused, said, quiet}
use Rattle.answers.proofs.Laws.{free-record, unchanged-ends}
use Rattle.calls.specs.Calls.{frame_turn, frame_step, receives}
use Rattle.call_laws.specs.Causes.{frame_names}
use Rattle.call_laws.specs.Isolation.{PeerCall, after}
use Rattle.call_laws.specs.Drops.{FrameDrops, Unchanged, AllDrop, no_more, one_more}
use Rattle.call_laws.proofs.Good.{entered-sound, frame-entered}
use Rattle.call_laws.proofs.Ends.{finish-answer}
use Rattle.call_laws.proofs.Refuses.{Iff}
use Rattle.call_laws.proofs.DropStep.{drop-step}
use Rattle.causes.specs.declared.Refusal.{Refusal}

-- a step that leaves the record as it was found leaves every octet: it is stored in its slot again, or the free record in a free slot, or nowhere
module _ (t a : List ℕ) (b : Bytes t) (w : sound t ≡ true) (s : Step) where
  stored-again : (k : ℕ) → s.peer ≡ slot (decode_table t) k → encode_table (placed (decode_table t) k s.peer) ≡ t
  stored-again k e = ap (λ (p : Peer). encode_table (placed (decode_table t) k p)) e ∙ placed-again t k b w

  pub same-finish : (f : Option ℕ) → s.peer ≡ look_by (decode_table t) f → (finishes t f s a).table ≡ t
  unfolding finishes finish_at ends placed seating look_by
  same-finish (Some k) e = go s.refused
    where
      go : (x : Bool) → (if x then refuse t why.Full else finish_at (Some k) t s a).table ≡ t
      go true = refl
      go false = stored-again k e
  same-finish None e = go s.refused (free_slot (decode_table t)) refl
    where
      go : (x : Bool) (g : Option ℕ) → free_slot (decode_table t) ≡ g → (if x then refuse t why.Full else finish_at g t s a).table ≡ t
      go true g q = refl
      go false None q = unchanged-ends (said s a) t b w
      go false (Some k) q = stored-again k (e ∙ sym (free-record t k b w q))

module _ (t a : List ℕ) (time : ℕ) (frame fresh expected : List ℕ) (verdict : ℕ) where
  -- the places are those where the ladders name Drop
  pub dropped-exactly : Iff (FrameDrops t a time frame fresh expected verdict) (frame_names t a time frame fresh expected verdict ≡ Drop)
  unfolding frame_names
  dropped-exactly = record { to = drop_named _ _ _ _; from = named-drop _ _ _ _ }

  module _ (b : Bytes t) (d : FrameDrops t a time frame fresh expected verdict) where
    turn-unchanged : (w : Result (Option ℕ) Refusal) → frame_turn (entry t a) t frame fresh expected verdict ≡ w
        → Unchanged t a (turned w (λ f. frame_step (decode_table t) f a time frame fresh expected verdict) t a)
    unfolding turned refused answering said quiet
    turn-unchanged (Err c) e = record { table = refl; answer = λ q. let z : ◌≡◌ {A = ℕ} 0 1 = cc in absurd (omega arith) }
    turn-unchanged (Ok f) e =
        let E = (frame-entered t a frame fresh expected verdict (entry t a) f refl e).0 in
        let q = drop-step t a time frame fresh expected verdict b d f E in
        record {
          table = same-finish t a b (entered-sound t a f E) _ f (ap (λ (s : Step). s.peer) q);
          answer = λ z. finish-answer t f _ a ∙ ap (λ (s : Step). if s.refused then refused why.Full else said s a) q;
        }

    -- IN EVERY PLACE where the rules drop a frame, the call leaves every octet and names no frame
    pub dropped-unchanged : Unchanged t a (receives t a time frame fresh expected verdict)
    unfolding receives
    dropped-unchanged = turn-unchanged (frame_turn (entry t a) t frame fresh expected verdict) refl

-- so that dropped frames leave every octet however many there are, and with them every deadline: no retry is held off
pub all-dropped-unchanged : (t : List ℕ) (ds : List PeerCall) → Bytes t → AllDrop t ds → after t ds ≡ t
unfolding after
all-dropped-unchanged t ds b no_more = refl
all-dropped-unchanged t ds b (one_more {a} {time} {frame} {fresh} {expected} {verdict} {cs} d n) =
    ap (λ (u : List ℕ). (receives u a time frame fresh expected verdict).table) (all-dropped-unchanged t cs b n) ∙ (dropped-unchanged t a time frame fresh expected verdict b d).table
