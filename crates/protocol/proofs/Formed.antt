-- Every pair of a link both printers formed, where what is accepted the other made a Confirm over: no more is asked.
use mathlib.Core.Path.{◌≡◌, refl, subst, subst⁻¹}
use mathlib.Core.Logic.{◌⊎◌, inl, inr, ⊎_elim}
use mathlib.Core.Bool.{Bool}
use mathlib.Core.List.{List, [], ◌∷◌}
use Prim.Native.Nat.{ℕ}
use lib.ListN.{length}
use Rattle.protocol.specs.Model.{Commit, Side, A, B, other, Run, nothing, committed, confirmed, Link, unlinked, finished, Peer, Act, fresh, form_fresh, form_own, send_commit, send_confirm, send_both, accept, end_run, end_link, end_both, idle, Call, by, marked, act, state, Forms, SendsConfirm, At, now, earlier, Once, LinkPair, Pair, Guard, Right, Rightful}

-- what holds of X and of the other holds of both
pub sides : (P : Side → Type 0) (X : Side) → P X → P (other X) → (Z : Side) → P Z
sides P A p q A = p
sides P A p q B = q
sides P B p q A = q
sides P B p q B = p

pub state-same : (X : Side) (e : Act) (h : List Call) → state (by X e ∷ h) X ≡ act e (state h X)
state-same A e h = refl
state-same B e h = refl

pub state-other : (X : Side) (e : Act) (h : List Call) → state (by X e ∷ h) (other X) ≡ state h (other X)
state-other A e h = refl
state-other B e h = refl

pub later : {P : Act → Type 0} {Z : Side} {h : List Call} {c : Call} → Once P Z h → Once P Z (c ∷ h)
later o = (o.0, earlier o.1)

-- what holds of both printers after one call more: of X what it did, of the other what was
pub after : (P : Side → List Call → Peer → Type 0) (X : Side) (e : Act) (h : List Call) → P X (by X e ∷ h) (act e (state h X))
    → P (other X) (by X e ∷ h) (state h (other X)) → (Z : Side) → P Z (by X e ∷ h) (state (by X e ∷ h) Z)
after P X e h p q =
    sides (λ Z. P Z (by X e ∷ h) (state (by X e ∷ h) Z)) X (subst⁻¹ (P X (by X e ∷ h)) (state-same X e h) p)
    (subst⁻¹ (P (other X) (by X e ∷ h)) (state-other X e h) q)

-- What holds after every history.

abbrev RunFormed : Side → List Call → Run → Type 0
RunFormed Z h nothing = Unit {0}
RunFormed Z h (committed c) = Unit {0}
RunFormed Z h (confirmed c p) = Once (Forms c p) Z h

abbrev LinkFormed : Side → List Call → Link → Type 0
LinkFormed Z h unlinked = Unit {0}
LinkFormed Z h (finished c p m) = Once (Forms c p) Z h × Once (Forms p c) (other Z) h

abbrev PeerFormed : Side → List Call → Peer → Type 0
PeerFormed Z h s = RunFormed Z h s.run × LinkFormed Z h s.link

record Made (h : List Call) : Type 0 where
  made : (Z : Side) (c p : Commit) (t : ℕ) → At (SendsConfirm c p) Z t h → Once (Forms c p) Z h
  formed : (Z : Side) → PeerFormed Z h (state h Z)

run-later : (Z : Side) (c : Call) (h : List Call) (r : Run) → RunFormed Z h r → RunFormed Z (c ∷ h) r
run-later Z c h nothing f = tt
run-later Z c h (committed d) f = tt
run-later Z c h (confirmed d p) f = later f

link-later : (Z : Side) (c : Call) (h : List Call) (l : Link) → LinkFormed Z h l → LinkFormed Z (c ∷ h) l
link-later Z c h unlinked f = tt
link-later Z c h (finished d p m) f = (later f.0, later f.1)

link-marked : (Z : Side) (c : Call) (h : List Call) (l : Link) → LinkFormed Z h l → LinkFormed Z (c ∷ h) (marked l)
link-marked Z c h unlinked f = tt
link-marked Z c h (finished d p m) f = (later f.0, later f.1)

peer-later : (Z : Side) (c : Call) (h : List Call) (s : Peer) → PeerFormed Z h s → PeerFormed Z (c ∷ h) s
peer-later Z c h s f = (run-later Z c h s.run f.0, link-later Z c h s.link f.1)

-- One call more.

module _ (X : Side) (h : List Call) (M : Made h) where
  run_is : (r : Run) → (state h X).run ≡ r → RunFormed X h r
  run_is r e = subst (RunFormed X h) e (M.formed X).0

  -- what a Confirm is made over was formed
  link-formed : (c p : Commit) (l : Link) → LinkFormed X h l → LinkPair l c p → Once (Forms c p) X h
  link-formed c p unlinked f o = absurd o
  link-formed c p (finished d q m) f o = rw (o.0, o.1) f.0

  pair-formed : (c p : Commit) (r : Run) (l : Link) → RunFormed X h r → LinkFormed X h l → Pair r l c p → Once (Forms c p) X h
  pair-formed c p nothing l f g o = link-formed c p l g o
  pair-formed c p (committed d) l f g o = absurd o
  pair-formed c p (confirmed d q) l f g o = rw (o.0, o.1) f

  confirm-formed : (d q : Commit) (e : Act) → Guard e (state h X) → SendsConfirm d q e → Forms d q e ⊎ Once (Forms d q) X h
  confirm-formed d q (fresh c) o u = absurd u
  confirm-formed d q (form_fresh c p) o u = inl u
  confirm-formed d q (form_own c p) o u = inl u
  confirm-formed d q (send_commit c) o u = absurd u
  confirm-formed d q (send_confirm c p) o u = inr (rw (u.0, u.1) (pair-formed c p (state h X).run (state h X).link (M.formed X).0 (M.formed X).1 o))
  confirm-formed d q (send_both c p) o u = inr (rw (u.0, u.1) (run_is (confirmed c p) o))
  confirm-formed d q (accept c p) o u = absurd u
  confirm-formed d q end_run o u = absurd u
  confirm-formed d q end_link o u = absurd u
  confirm-formed d q end_both o u = absurd u
  confirm-formed d q idle o u = absurd u

  formed-after : (e : Act) → Guard e (state h X) → Right X e h → PeerFormed X (by X e ∷ h) (act e (state h X))
  formed-after (fresh c) o r = (tt, link-later X (by X (fresh c)) h (state h X).link (M.formed X).1)
  formed-after (form_fresh c p) o r = ((length h, now {e = form_fresh c p} refl refl (refl, refl)), link-marked X (by X (form_fresh c p)) h (state h X).link (M.formed X).1)
  formed-after (form_own c p) o r = ((length h, now {e = form_own c p} refl refl (refl, refl)), link-marked X (by X (form_own c p)) h (state h X).link (M.formed X).1)
  formed-after (send_commit c) o r = peer-later X (by X (send_commit c)) h (state h X) (M.formed X)
  formed-after (send_confirm c p) o r = peer-later X (by X (send_confirm c p)) h (state h X) (M.formed X)
  formed-after (send_both c p) o r = peer-later X (by X (send_both c p)) h (state h X) (M.formed X)
  formed-after (accept c p) o r = let w = r c p (refl, refl) in (tt, (later (run_is (confirmed c p) o), later (M.made (other X) p c w.0 w.1)))
  formed-after end_run o r = (tt, link-later X (by X end_run) h (state h X).link (M.formed X).1)
  formed-after end_link o r = (run-later X (by X end_link) h (state h X).run (M.formed X).0, tt)
  formed-after end_both o r = (tt, tt)
  formed-after idle o r = peer-later X (by X idle) h (state h X) (M.formed X)

  module _ (e : Act) (o : Guard e (state h X)) (r : Right X e h) where
    made_after : (Z : Side) (c p : Commit) (t : ℕ) → At (SendsConfirm c p) Z t (by X e ∷ h) → Once (Forms c p) Z (by X e ∷ h)
    made_after Z c p t (now z q a) = rw z (⊎_elim (λ u. (length h, now refl refl u)) later (confirm-formed c p e o a))
    made_after Z c p t (earlier k) = later (M.made Z c p t k)

    step : Made (by X e ∷ h)
    step = record { made = made_after; formed = after PeerFormed X e h (formed-after e o r) (peer-later (other X) (by X e) h (state h (other X)) (M.formed (other X))) }

never : {P : Act → Type 0} {Z : Side} {t : ℕ} → ¬ At P Z t []
never o = elim o [ ]

all_made : (h : List Call) → Rightful h → Made h
all_made [] v = record { made = λ Z c p t o. absurd (never o); formed = λ Z. (tt, tt) }
all_made (by X e ∷ h) v = step X h (all_made h v.1) e v.0.0 v.0.1

-- the other printer formed every link's pair
pub formed-before : (h : List Call) → Rightful h → (X : Side) (c p : Commit) (m : Bool) → (state h X).link ≡ finished c p m → Once (Forms p c) (other X) h
formed-before h v X c p m e = let f = subst (LinkFormed X h) e ((all_made h v).formed X).1 in f.1
