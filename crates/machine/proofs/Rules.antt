-- Performing what the ladder says is the rule.
use mathlib.Core.Path.{◌≡◌, refl, sym, ◌∙◌, subst}
use mathlib.Core.Bool.{Bool, true, false, not}
use mathlib.Core.List.{List}
use Prim.Native.Nat.{ℕ}
use lib.Dec.{eqb}
use lib.ListN.{get_or}
use borrow.Author.Tests.{eq-eqb, ne_eqb, not-true, not-false}
use Rattle.std.specs.Prelude.{if◌then◌else◌}
use Rattle.groups.specs.Groups.{fresh_at}
use Rattle.record.specs.Layout.{decode_peer}
use Rattle.record.specs.declared.Peer.{Peer}
use Rattle.rules.specs.Message.{Message}
use Rattle.rules.specs.declared.Given.{Given}
use Rattle.rules.specs.declared.Act.{Act}
use Rattle.rules.specs.declared.Act.TheVariants as act
use Rattle.rules.specs.declared.Said.{Said}
use Rattle.rules.specs.Book.{holds, Terms, Call, silence, t0_due, frame_act, clock_act, start_act, refusing, ending_link, starting, repeating_commit, confirming_again, perform, on_frame, on_clock, on_start}
use Rattle.rules.specs.Given.{terms, call, Able}
use Rattle.rules.specs.Said.{Does, saying_refused}
use Rattle.rules.proofs.Branches.{holds-true, holds-false, answered-true, answered-false}
use Rattle.rules.proofs.Ladders.{able, frame-asked}

module _ (W : ℕ) (groups : List ℕ) (fresh : List (List ℕ)) (g : Given) (p : Peer) (m : Message) (a : Act) (e : a ≡ frame_act (terms g groups) (call g fresh) p m) where
  pub asked-able : Able g.clock a p
  asked-able = able (terms g groups) (call g fresh) p m a _ e (frame-asked (terms g groups) (call g fresh) p m)

  pub framed : (x : Said) (left : List ℕ) → Does W x left (perform (terms g groups) (call g fresh) p m a) → Does W x left (on_frame (terms g groups) (call g fresh) p m)
  unfolding on_frame
  framed x left d = subst (λ (b : Act). Does W x left (perform (terms g groups) (call g fresh) p m b)) e d

-- ---- a deadline

module _ (t : Terms) (c : Call) (p : Peer) (first : Bool) (e : first ≡ t0_due p c.clock.time) (W : ℕ) (x : Said) (left : List ℕ) where
  pub clock-ends : not first ≡ true → Does W x left (ending_link p) → Does W x left (on_clock t c p)
  unfolding on_clock clock_act perform
  clock-ends q d = let z : holds (t0_due p c.clock.time) ≡ false = answered-false _ first e (not-true first q) in rw z d

  pub clock-confirms : (state : ℕ) → not first ≡ false → state ≡ p.run.state → state ≡ 2 → Does W x left (confirming_again c.clock p) → Does W x left (on_clock t c p)
  unfolding on_clock clock_act perform
  clock-confirms state q s k d =
      let z : holds (t0_due p c.clock.time) ≡ true = answered-true _ first e (not-false first q) in
      let y : eqb p.run.state 2 ≡ true = eq-eqb _ _ (sym s ∙ k) in
      rw (z, y) d

  pub clock-repeats : (state : ℕ) → not first ≡ false → state ≡ p.run.state → (state ≡ 2 → ⊥) → Does W x left (repeating_commit c.clock p) → Does W x left (on_clock t c p)
  unfolding on_clock clock_act perform
  clock-repeats state q s k d =
      let z : holds (t0_due p c.clock.time) ≡ true = answered-true _ first e (not-false first q) in
      let y : eqb p.run.state 2 ≡ false = ne_eqb _ _ (λ i. k (s ∙ i)) in
      rw (z, y) d

-- ---- a start

pub start-begins : (W : ℕ) (t : Terms) (c : Call) (p : Peer) (x : Said) (left : List ℕ) → t.full ≡ false
    → Does W x left (starting c.clock p c.address (get_or t.groups 0 0) (fresh_at c.fresh 0)) → Does W x left (on_start t c p)
unfolding on_start start_act perform
start-begins W t c p x left e d = go t.full e
  where
    go : (b : Bool) → b ≡ false → Does W x left (perform t c p silence (if holds b then act.NoSlot else act.Begin))
    go b q = let z : holds b ≡ false = holds-false b q in rw z d

pub start-refused : (W : ℕ) (t : Terms) (c : Call) (s : List ℕ) (x : Said) → t.full ≡ true → x ≡ saying_refused → Does W x s (on_start t c (decode_peer W s))
unfolding on_start start_act perform refusing
start-refused W t c s x e q = go t.full e
  where
    go : (b : Bool) → b ≡ true → Does W x s (perform t c (decode_peer W s) silence (if holds b then act.NoSlot else act.Begin))
    go b z = let y : holds b ≡ true = holds-true b z in rw y (record { leaves = refl; says = q })
