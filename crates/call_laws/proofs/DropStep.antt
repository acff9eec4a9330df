-- A DROPPED FRAME'S STEP: the record as it was found, and nothing said.
use Rattle.std.specs.Prelude.{Option}
use mathlib.Core.Path.{◌≡◌, subst}
use mathlib.Core.List.{List}
use Prim.Native.Nat.{ℕ}
use Rattle.octets.specs.Octets.{Bytes}
use Rattle.table.specs.Table.{decode_table, look_by, look}
use Rattle.rules.specs.declared.Frames.TheVariants as frames
use Rattle.rules.specs.Book.{answering}
use Rattle.rules.proofs.Drops.{drop-unchanged}
use Rattle.answers.proofs.Laws.{Entered}
use Rattle.calls.specs.Calls.{frame_step}
use Rattle.call_laws.specs.Drops.{FrameDrops}
use Rattle.call_laws.proofs.Ends.{entered-finds}

module _ (t a : List ℕ) (time : ℕ) (frame fresh expected : List ℕ) (verdict : ℕ) where
  module _ (b : Bytes t) (d : FrameDrops t a time frame fresh expected verdict) where
    -- the call's step: the record as it was found, and nothing said
    pub drop-step : (f : Option ℕ) → Entered t a f → frame_step (decode_table t) f a time frame fresh expected verdict ≡ answering (look_by (decode_table t) f) frames.None
    unfolding frame_step look
    drop-step f e =
        subst (λ (g : Option ℕ). frame_step (decode_table t) g a time frame fresh expected verdict ≡ answering (look_by (decode_table t) g) frames.None) (entered-finds t a f e)
        (drop-unchanged _ _ _ _ d)
