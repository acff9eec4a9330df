-- A MOVED TABLE goes on as its printer's table: at whatever place of the list it is moved, every story stays and every record says what it said.
use mathlib.Core.Path.{◌≡◌, refl, ap, ◌∙◌}
use mathlib.Core.Logic.{◌⊎◌, inl, inr}
use mathlib.Core.List.{List, ◌∷◌}
use Prim.Native.Nat.{ℕ}
use Rattle.protocol.specs.Model.{Side}
use Rattle.octets.specs.Octets.{Bytes}
use Rattle.table.specs.Table.{decode_table, look}
use Rattle.causes.specs.declared.Refusal.{Refusal}
use Rattle.answers.specs.Outcome as outcome
use Rattle.moves.specs.declared.Direction.{Direction}
use Rattle.moves.specs.Moves.{target_form, moved, SameContents, moves}
use Rattle.agreement.specs.Calls.{move, Entry, AllHanded, more, is_done, table_after, table_of}
use Rattle.agreement.specs.Story.{Story, story_after, story_of}
use Rattle.agreement.proofs.Engine.{same-look, move-refused, move-leaves, move-keeps, move-idle}
use Rattle.agreement.proofs.History.{idle-apart, held_of, by_side}
use Rattle.agreement.proofs.Valid.{table_same}
use Rattle.agreement.proofs.Demand.{lawful}

-- ---- one move

move-story : (t : List ℕ) (d : Direction) (target a : List ℕ) (s : Story) → story_after t (move d target) a s ≡ s
move-story t d target a s = idle-apart t (move d target) a s (move-idle t d target)

move-look : (t : List ℕ) (d : Direction) (target a : List ℕ) → Bytes t → look (decode_table (table_after t (move d target))) a ≡ look (decode_table t) a
move-look t d target a b = go (move-keeps t d target b)
  where
    go : (table_after t (move d target) ≡ t) ⊎ SameContents t (table_after t (move d target)) → look (decode_table (table_after t (move d target))) a ≡ look (decode_table t) a
    go (inl e) = ap (λ (u : List ℕ). look (decode_table u) a) e
    go (inr S) = same-look t _ S a

-- ---- a move in the list

-- MOVES TELL NOTHING: every printer's story of every address stays, and so does every record
pub move-apart : (e : Entry) (h : List Entry) (d : Direction) (target : List ℕ) → e.call ≡ move d target → AllHanded (e ∷ h)
    → ((X : Side) (a : List ℕ) → (story_of (e ∷ h) X a ≡ story_of h X a) × (look (decode_table (table_of (e ∷ h) X)) a ≡ look (decode_table (table_of h X)) a))
unfolding table_of story_of
move-apart e h d target q (more k H) X a = (
  by_side (λ (s : Story). s ≡ story_of h X a) e.side X (λ z. rw q (move-story (table_of h X) d target a (story_of h X a))) refl,
  by_side (λ (t : List ℕ). look (decode_table t) a ≡ look (decode_table (table_of h X)) a) e.side X (λ z. rw q (move-look (table_of h X) d target a (held_of lawful H X).bytes)) refl,
)

-- A MOVE THAT IS DONE makes its target the printer's table: the source in the other form
pub move-used : (e : Entry) (h : List Entry) (d : Direction) (target : List ℕ) → e.call ≡ move d target
    → (moves d (table_of h e.side) target).answer ≡ outcome.Done → table_of (e ∷ h) e.side ≡ moved (target_form d) (table_of h e.side)
move-used e h d target q k =
    table_same e h ∙ ap (table_after (table_of h e.side)) q ∙ move-leaves (table_of h e.side) d target (ap is_done k)

-- A REFUSED ONE leaves the printer its table, whatever target it was lent
pub move-unused : (e : Entry) (h : List Entry) (d : Direction) (target : List ℕ) (c : Refusal) → e.call ≡ move d target
    → (moves d (table_of h e.side) target).answer ≡ outcome.Refused c → table_of (e ∷ h) e.side ≡ table_of h e.side
move-unused e h d target c q k =
    table_same e h ∙ ap (table_after (table_of h e.side)) q ∙ move-refused (table_of h e.side) d target (ap is_done k)
