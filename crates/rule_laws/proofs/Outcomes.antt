-- The outcomes of an act that tests for itself, with what is known where each is reached: to show a property of its step, show it of each outcome.
use mathlib.Core.Path.{◌≡◌, refl}
use mathlib.Core.Bool.{Bool, true, false}
use mathlib.Core.List.{List}
use Prim.Native.Nat.{ℕ, ◌+◌, ◌≤◌, ◌<◌}
use borrow.Author.Tests.{eqb-true, eqb-false, ltb-true, ltb-false}
use Rattle.std.specs.Prelude.{if◌then◌else◌, Option, Some, None}
use Rattle.groups.specs.Groups.{fresh_at, first_left, index_of, mark}
use Rattle.record.specs.declared.Run.{Run}
use Rattle.record.specs.declared.Peer.{Peer}
use Rattle.record.specs.Layout.{no_peer}
use Rattle.rules.specs.declared.Frames.{Frames}
use Rattle.rules.specs.declared.Frames.TheVariants.{One}
use Rattle.rules.specs.Parts.{with_sync, switched}
use Rattle.rules.specs.declared.Clock.{Clock}
use Rattle.rules.specs.Book.{◌is◌, ◌above◌, Step, commit_frame, sending, settled, abandoning, retransmitting, switching_to, switching}

pub whether : {A : Type 0} (P : A → Type 0) (b : Bool) (x y : A) → (b ≡ true → P x) → (b ≡ false → P y) → P (if b then x else y)
whether P true x y f g = f refl
whether P false x y f g = g refl

-- "77: our group": a group is left, or none is
pub switch-outcomes : (P : Step → Type 0) (κ : Clock) (p : Peer) (groups : List ℕ) (fresh : List (List ℕ)) →
    ((i g : ℕ) → first_left groups 0 (mark p.run.rejected (index_of groups p.run.group)) ≡ Some (i, g)
    → P (sending κ p (switched p.run (mark p.run.rejected (index_of groups p.run.group)) g (fresh_at fresh i)) (One (commit_frame g)) g))
    → (first_left groups 0 (mark p.run.rejected (index_of groups p.run.group)) ≡ None → P (abandoning p))
    → P (switching κ p groups fresh)
unfolding switching switching_to
switch-outcomes P κ p groups fresh f g = go (mark p.run.rejected (index_of groups p.run.group)) (first_left groups 0 (mark p.run.rejected (index_of groups p.run.group))) f g
  where
    go : (r : ℕ) (c : Option (ℕ × ℕ)) →
        ((i g : ℕ) → c ≡ Some (i, g) → P (sending κ p (switched p.run r g (fresh_at fresh i)) (One (commit_frame g)) g))
        → (c ≡ None → P (abandoning p)) → P (switching_to κ p r c fresh)
    go r (Some (i, g)) f h = f i g refl
    go r None f h = h refl

pub repeat-outcomes : (P : Step → Type 0) (κ : Clock) (p : Peer) (r : Run) (fs : Frames) →
    (κ.limit < p.run.sync → P (abandoning p))
    → (p.run.sync ≤ κ.limit → P (sending κ p (with_sync r (p.run.sync + 1)) fs 0))
    → P (retransmitting κ p r fs)
unfolding retransmitting
repeat-outcomes P κ p r fs f g =
    whether P (p.run.sync above κ.limit) (abandoning p) (sending κ p (with_sync r (p.run.sync + 1)) fs 0)
    (λ e. f (ltb-true _ _ e)) (λ e. g (ltb-false _ _ e))

pub settle-outcomes : (P : Peer → Type 0) (p : Peer) →
    (p.run.state ≡ 0 → p.link.finished ≡ 0 → P no_peer) → (((p.run.state ≡ 0) × (p.link.finished ≡ 0) → ⊥) → P p) → P (settled p)
unfolding settled
settle-outcomes P p f g =
    whether P (p.run.state is 0) (if p.link.finished is 0 then no_peer else p) p
    (λ e. whether P (p.link.finished is 0) no_peer p (λ h. f (eqb-true _ _ e) (eqb-true _ _ h)) (λ h. g (λ k. eqb-false _ _ h k.1)))
    (λ e. g (λ k. eqb-false _ _ e k.0))
