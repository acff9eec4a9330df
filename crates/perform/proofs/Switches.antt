-- A change of group: the first group that is left, or none.
use Rattle.std.specs.Prelude.{Option, Some, None}
use mathlib.Core.Path.{◌≡◌, refl, subst}
use mathlib.Core.List.{List}
use Prim.Native.Nat.{ℕ, ◌<◌}
use lib.ListN.{length}
use Rattle.groups.specs.Groups.{first_left, index_of, mark, fresh_at}
use Rattle.groups.proofs.Laws.{chosen}
use Rattle.record.specs.declared.Peer.{Peer}
use Rattle.rules.specs.declared.Clock.{Clock}
use Rattle.rules.specs.declared.Frames.TheVariants.{One}
use Rattle.rules.specs.declared.Said.{Said}
use Rattle.rules.specs.Parts.{switched}
use Rattle.rules.specs.Book.{commit_frame, sending, abandoning, switching_to, switching}
use Rattle.rules.specs.Said.{Does}

-- what is left lies within the list
pub switch-room : (gs : List ℕ) (rejected k g : ℕ) (x : Option (ℕ × ℕ)) → x ≡ first_left gs 0 rejected → x ≡ Some (k, g) → k < length gs
switch-room gs rejected k g x a b = let e : first_left gs 0 rejected ≡ Some (k, g) = cc in (chosen gs rejected k g e).0

to-group : (κ : Clock) (p : Peer) (rejected k g : ℕ) (fresh : List (List ℕ)) →
    switching_to κ p rejected (Some (k, g)) fresh ≡ sending κ p (switched p.run rejected g (fresh_at fresh k)) (One (commit_frame g)) g
unfolding switching_to
to-group κ p rejected k g fresh = refl

to_none : (κ : Clock) (p : Peer) (rejected : ℕ) (fresh : List (List ℕ)) → switching_to κ p rejected None fresh ≡ abandoning p
unfolding switching_to
to_none κ p rejected fresh = refl

pub switch-law :
    (W : ℕ) (κ : Clock) (p : Peer) (gs : List ℕ) (fresh : List (List ℕ)) (x : Said) (left : List ℕ) (ours before i rejected k g : ℕ) (c : Option (ℕ × ℕ)) (own : List ℕ) →
    ours ≡ p.run.group → before ≡ p.run.rejected →
    i ≡ index_of gs ours → rejected ≡ mark before i → c ≡ first_left gs 0 rejected → c ≡ Some (k, g) → own ≡ fresh_at fresh k →
    Does W x left (sending κ p (switched p.run rejected g own) (One (commit_frame g)) g) → Does W x left (switching κ p gs fresh)
unfolding switching
switch-law W κ p gs fresh x left ours before i rejected k g c own a b d e f h j l =
    let q : sending κ p (switched p.run rejected g own) (One (commit_frame g)) g ≡ switching κ p gs fresh = cc (to-group κ p rejected k g fresh) in
    subst (Does W x left) q l

pub switch-none :
    (W : ℕ) (κ : Clock) (p : Peer) (gs : List ℕ) (fresh : List (List ℕ)) (x : Said) (left : List ℕ) (ours before i rejected : ℕ) (c : Option (ℕ × ℕ)) →
    ours ≡ p.run.group → before ≡ p.run.rejected → i ≡ index_of gs ours → rejected ≡ mark before i → c ≡ first_left gs 0 rejected → c ≡ None →
    Does W x left (abandoning p) → Does W x left (switching κ p gs fresh)
unfolding switching
switch-none W κ p gs fresh x left ours before i rejected c a b d e f h j =
    let q : abandoning p ≡ switching κ p gs fresh = cc (to_none κ p rejected fresh) in
    subst (Does W x left) q j
