-- What an act does in the octets of a record: the record that its definition names is left there, and the rest of the definition is answered.
use Rattle.std.specs.Prelude.{◌≡◌, true, false, List, ℕ}
use Rattle.record.specs.Layout.{decode_peer}
use Rattle.rules.specs.declared.Event.{Event}
use Rattle.rules.specs.declared.Event.TheVariants as event
use Rattle.rules.specs.declared.Frames.{Frames}
use Rattle.rules.specs.declared.Frames.TheVariants as frames
use Rattle.rules.specs.Book.{Step}
use Rattle.rules.specs.declared.Said.{Said}

abbrev pub saying : Step → Said
saying s = record { event = s.event; frames = s.frames; afresh = s.afresh; refused = s.refused }

abbrev pub saying_frames : Frames → Said
saying_frames fs = record { event = event.None; frames = fs; afresh = 0; refused = false }

abbrev pub saying_event : Event → Said
saying_event e = record { event = e; frames = frames.None; afresh = 0; refused = false }

abbrev pub saying_refused : Said
saying_refused = record { event = event.None; frames = frames.None; afresh = 0; refused = true }

-- the octets left say the step's record, and the answer is what the step says
pub record Does (W : ℕ) (x : Said) (left : List ℕ) (s : Step) : Type 0 where
  pub leaves : decode_peer W left ≡ s.peer
  pub says : x ≡ saying s
