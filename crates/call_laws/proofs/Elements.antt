-- A frame call with a status 0 Confirm equals the frame call with its first 40 octets.
use Rattle.std.specs.Prelude.{Option, Some, None, Result, Ok, Err}
use mathlib.Core.Path.{◌≡◌, refl}
use mathlib.Core.List.{List}
use Prim.Native.Nat.{ℕ}
use lib.ListN.{take}
use Rattle.frame.specs.Frame.{read_body}
use Rattle.frame.specs.declared.Body.TheVariants as body
use Rattle.frame.proofs.Trailing.{trailing}
use Rattle.record.specs.Layout.{groups_of}
use Rattle.table.specs.Table.{decode_table, entry}
use Rattle.message.specs.View.{view, message}
use Rattle.message.proofs.Laws.{confirm-view, confirm-message}
use Rattle.calls.specs.Calls.{admit_frame, frame_turn, frame_step, receives}
use Rattle.call_laws.specs.Elements.{FirstAlone}
use Rattle.causes.specs.declared.Refusal.TheVariants as why
use Rattle.causes.specs.declared.Refusal.{Refusal}

-- two frames of one view and one message are one frame to a call
module _ (t frame other : List ℕ) (v : view (groups_of (decode_table t).header) frame ≡ view (groups_of (decode_table t).header) other)
    (m : message (groups_of (decode_table t).header) frame ≡ message (groups_of (decode_table t).header) other) where
  same-admitted : (f : Option ℕ) (fresh expected : List ℕ) (verdict : ℕ) → admit_frame (decode_table t) f frame fresh expected verdict ≡ admit_frame (decode_table t) f other fresh expected verdict
  unfolding admit_frame
  same-admitted f fresh expected verdict = rw v

  same_turn : (E : Result (Option ℕ) Refusal) (fresh expected : List ℕ) (verdict : ℕ) → frame_turn E t frame fresh expected verdict ≡ frame_turn E t other fresh expected verdict
  unfolding frame_turn
  same_turn (Err r) fresh expected verdict = refl
  same_turn (Ok None) fresh expected verdict = same-admitted _ fresh expected verdict
  same_turn (Ok (Some k)) fresh expected verdict = same-admitted _ fresh expected verdict

  same_received : (a : List ℕ) (time : ℕ) (fresh expected : List ℕ) (verdict : ℕ) → receives t a time frame fresh expected verdict ≡ receives t a time other fresh expected verdict
  unfolding receives frame_step
  same_received a time fresh expected verdict = rw (same_turn (entry t a) fresh expected verdict, m)

pub first_alone : (gs frame : List ℕ) (n : ℕ) → read_body gs frame ≡ Some (body.Confirm n) → FirstAlone frame
first_alone gs frame n e =
    let w = trailing gs frame n e in
    record {
      alone = λ t a time fresh expected verdict.
          let hs = groups_of (decode_table t).header in
          same_received t frame (take 40 frame) (confirm-view hs frame (take 40 frame) n (w.read hs) (w.first hs))
          (confirm-message hs frame (take 40 frame) n (w.read hs) (w.first hs)) a time fresh expected verdict;
    }
