-- Calls that change nothing: the writer's, which may stand in the list or be struck out of it, and a set up with a reserved octet of its settings set.
use mathlib.Core.Path.{◌≡◌, refl, ap, ◌∙◌}
use mathlib.Core.Bool.{Bool, true, false}
use mathlib.Core.List.{List, [], ◌∷◌}
use Prim.Native.Nat.{ℕ}
use Rattle.protocol.specs.Model.{Side, A, B}
use Rattle.std.specs.Prelude.{if◌then◌else◌}
use Rattle.octets.proofs.Scan.{clash}
use Rattle.record.specs.declared.Form.{Form}
use Rattle.record.specs.Layout.{form_of}
use Rattle.record.specs.SettingsOctets.{reserved_zero}
use Rattle.causes.specs.declared.Refusal.TheVariants as why
use Rattle.answers.specs.Answers.{returned, refuse, refused, none_due}
use Rattle.calls.specs.Calls.{initializes_from}
use Rattle.agreement.specs.Calls.{Writing, Call, initialize, initiate, kill, receive, expire, write, fill, move, Entry, left, done, table_after, mine, table_of, answer_of, is_write, without_writes}
use Rattle.agreement.specs.Story.{Story, story_after, story_of, Alike}
use Rattle.agreement.proofs.History.{idle-apart}
use Rattle.agreement.proofs.Valid.{table_same}

-- ---- the writer's calls

write-table : (t : List ℕ) (w : Writing) → table_after t (write w) ≡ t
unfolding table_after
write-table t w = refl

write-story : (t : List ℕ) (w : Writing) (a : List ℕ) (s : Story) → story_after t (write w) a s ≡ s
unfolding done none_due
write-story t w a s = idle-apart t (write w) a s refl

a_write : (c : Call) → is_write c ≡ true → (w : Writing) × (c ≡ write w)
a_write (initialize size buffer own settings) e = absurd (clash e refl)
a_write (initiate address time fresh) e = absurd (clash e refl)
a_write (kill address) e = absurd (clash e refl)
a_write (receive address time frame fresh expected verdict) e = absurd (clash e refl)
a_write (expire time) e = absurd (clash e refl)
a_write (write w) e = (w, refl)
a_write fill e = absurd (clash e refl)
a_write (move d target) e = absurd (clash e refl)

mine-kept : {T : Type 0} (X Z : Side) {s t : T} → s ≡ t → mine X Z s t ≡ t
mine-kept A A e = e
mine-kept A B e = refl
mine-kept B A e = refl
mine-kept B B e = e

more-alike : {e : Entry} {h k : List Entry} → Alike h k → Alike (e ∷ h) (e ∷ k)
unfolding table_of story_of
more-alike {e} {h} {k} Q = record {
  table = λ X. rw (Q.table X);
  story = λ X a. rw (Q.table X, Q.story X a);
}

write-alike : (e : Entry) {h k : List Entry} (w : Writing) → e.call ≡ write w → Alike h k → Alike (e ∷ h) k
unfolding table_of story_of
write-alike e {h} {k} w q Q = record {
  table = λ X. rw q (mine-kept e.side X (write-table (table_of h X) w)) ∙ Q.table X;
  story = λ X a. rw q (mine-kept e.side X (write-story (table_of h X) w a (story_of h X a))) ∙ Q.story X a;
}

-- WRITER'S CALLS CHANGE NOTHING: the list without them leaves the same tables and tells the same stories
pub writes-struck : (h : List Entry) → Alike h (without_writes h)
unfolding without_writes
writes-struck [] = record { table = λ X. refl; story = λ X a. refl }
writes-struck (e ∷ h) = go (is_write e.call) refl (writes-struck h)
  where
    go : (b : Bool) → is_write e.call ≡ b → Alike h (without_writes h) → Alike (e ∷ h) (if b then without_writes h else e ∷ without_writes h)
    go true q Q = let x = a_write e.call q in write-alike e x.0 x.1 Q
    go false q Q = more-alike Q

-- ---- a set up with a reserved octet set

reserved-left : (f : Form) (t own s : List ℕ) → reserved_zero s ≡ false → initializes_from f t own s ≡ refuse t why.Settings
unfolding initializes_from
reserved-left f t own s e = rw e

reserved-number : (f : Form) (buffer own s : List ℕ) → reserved_zero s ≡ false → returned (initializes_from f buffer own s).answer.outcome ≡ 1
unfolding refused
reserved-number f buffer own s e = rw (reserved-left f buffer own s e)

reserved-table : (t : List ℕ) (size : ℕ) (buffer own s : List ℕ) → reserved_zero s ≡ false → table_after t (initialize size buffer own s) ≡ t
unfolding table_after done refused
reserved-table t size buffer own s e = rw (reserved-left (form_of size) buffer own s e)

-- A SET UP WITH A RESERVED OCTET SET is refused 1 in the list too, and its printer keeps its table
pub reserved-refused : (e : Entry) (h : List Entry) (size : ℕ) (buffer own settings : List ℕ) → e.call ≡ initialize size buffer own settings → reserved_zero settings ≡ false
    → (returned (answer_of h e).outcome ≡ 1) × (table_of (e ∷ h) e.side ≡ table_of h e.side)
reserved-refused e h size buffer own settings q z = (
  ap (λ (c : Call). returned (left (table_of h e.side) c).answer.outcome) q ∙ reserved-number (form_of size) buffer own settings z,
  table_same e h ∙ ap (table_after (table_of h e.side)) q ∙ reserved-table (table_of h e.side) size buffer own settings z,
)
