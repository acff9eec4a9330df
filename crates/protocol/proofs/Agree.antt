-- The two printers agree: where both links are finished and neither is marked, the two pairs are one, exchanged.
use mathlib.Core.Path.{◌≡◌, refl, sym, subst}
use mathlib.Core.Logic.{◌⊎◌, inl, inr, ⊎_elim}
use mathlib.Core.Bool.{false}
use mathlib.Core.List.{List, [], ◌∷◌}
use Prim.Native.Nat.{ℕ, suc, ◌≤◌, ◌<◌}
use native.Mathlib.Nat.{eq-or-lt_of_le, le_of_suc-le-suc}
use native.Mathlib.Omega.{arith}
use lib.ListN.{length}
use Rattle.protocol.specs.Model.{Commit, Side, A, B, other, Run, nothing, committed, confirmed, Link, unlinked, finished, Act, fresh, form_fresh, form_own, send_commit, send_confirm, send_both, accept, end_run, end_link, end_both, idle, Call, by, marked, act, state, Uses, Forms, SendsCommit, At, now, earlier, Once, Own, Unused, World, Ok, Valid, Right, Rightful}
use Rattle.protocol.proofs.Formed.{later, after, formed-before}

-- Sides.

not-other : (X : Side) → ¬ (X ≡ other X)
not-other A e = let z : ◌≡◌ {A = ℕ} 0 1 = cc in omega arith
not-other B e = let z : ◌≡◌ {A = ℕ} 0 1 = cc in omega arith

-- Times.

before : {P : Act → Type 0} {Z : Side} {t : ℕ} {h : List Call} → At P Z t h → t < length h
before (now z e p) = omega arith
before (earlier o) = let l = before o in omega arith

-- one call at a time
both : {P Q : Act → Type 0} {Z Y : Side} {t : ℕ} {h : List Call} → At P Z t h → At Q Y t h → (e : Act) × P e × Q e
both (now {e = a} z e p) (now y d q) = (a, p, q)
both (now z e p) (earlier k) = let l = before k in absurd (omega arith)
both (earlier o) (now y d q) = let l = before o in absurd (omega arith)
both (earlier o) (earlier k) = both o k

-- What holds after every history.

-- all pairs that Z formed, it formed before the time u
abbrev FormedBefore : Side → List Call → ℕ → Type 0
FormedBefore Z h u = (c p : Commit) (t : ℕ) → At (Forms c p) Z t h → t < u

-- Z used c afresh and formed no pair since
abbrev Ready : Side → List Call → Commit → Type 0
Ready Z h c = (u : ℕ) × At (Uses c) Z u h × FormedBefore Z h u

-- the pair that Z formed last
abbrev Last : Side → List Call → Commit → Commit → Type 0
Last Z h c p = (t : ℕ) × At (Forms c p) Z t h × FormedBefore Z h (suc t)

abbrev RunFact : Side → List Call → Run → Type 0
RunFact Z h nothing = Unit {0}
RunFact Z h (committed c) = Ready Z h c
RunFact Z h (confirmed c p) = Last Z h c p

abbrev LinkFact : Side → List Call → Link → Type 0
LinkFact Z h unlinked = Unit {0}
LinkFact Z h (finished c p m) = m ≡ false → Last Z h c p

-- Z used c afresh not after t, and after every pair that it formed before t
abbrev UsedFor : Side → List Call → Commit → ℕ → Type 0
UsedFor Z h c t = (u : ℕ) × (u ≤ t) × At (Uses c) Z u h × ((d q : Commit) (s : ℕ) → At (Forms d q) Z s h → s < t → s < u)

record Inv (h : List Call) : Type 0 where
  once : (Z : Side) (c : Commit) (t u : ℕ) → At (Uses c) Z t h → At (Uses c) Z u h → t ≡ u
  sent : (Z : Side) (c : Commit) (t : ℕ) → At (SendsCommit c) Z t h → Once (Uses c) Z h
  own : (Z : Side) (c p : Commit) (t : ℕ) → At (Forms c p) Z t h → UsedFor Z h c t
  peer : (Z : Side) (c p : Commit) (t : ℕ) → At (Forms c p) Z t h → (u : ℕ) × (u < t) × At (Uses p) (other Z) u h
  run : (Z : Side) → RunFact Z h (state h Z).run
  link : (Z : Side) → LinkFact Z h (state h Z).link

never : {P : Act → Type 0} {Z : Side} {t : ℕ} → ¬ At P Z t []
never o = elim o [ ]

start : Inv []
start = record {
  once = λ Z c t u o k. absurd (never o);
  sent = λ Z c t o. absurd (never o);
  own = λ Z c p t o. absurd (never o);
  peer = λ Z c p t o. absurd (never o);
  run = λ Z. tt;
  link = λ Z. tt;
}

-- One call more: what it uses, sends and forms.

module _ (X : Side) (h : List Call) (I : Inv h) where
  -- what the run sends again was used afresh
  own-used : (c : Commit) (r : Run) → RunFact X h r → Own r c → Once (Uses c) X h
  own-used c nothing f o = absurd o
  own-used c (committed d) f o = rw o (f.0, f.1)
  own-used c (confirmed d p) f o = rw o (let k = I.own X d p f.0 f.1 in (k.0, k.2))

  run_is : (r : Run) → (state h X).run ≡ r → RunFact X h r
  run_is r e = rw e at (I.run X)

  use-new : (d : Commit) (e : Act) → Ok X e h → Uses d e → Unused X d h
  use-new d (fresh c) o u = rw u o.1
  use-new d (form_fresh c p) o u = rw u o.1.0
  use-new d (form_own c p) o u = absurd u
  use-new d (send_commit c) o u = absurd u
  use-new d (send_confirm c p) o u = absurd u
  use-new d (send_both c p) o u = absurd u
  use-new d (accept c p) o u = absurd u
  use-new d end_run o u = absurd u
  use-new d end_link o u = absurd u
  use-new d end_both o u = absurd u
  use-new d idle o u = absurd u

  commit-used : (d : Commit) (e : Act) → Ok X e h → SendsCommit d e → Uses d e ⊎ Once (Uses d) X h
  commit-used d (fresh c) o u = inl u
  commit-used d (form_fresh c p) o u = inl u
  commit-used d (form_own c p) o u = absurd u
  commit-used d (send_commit c) o u = inr (rw u (own-used c (state h X).run (I.run X) o.0))
  commit-used d (send_confirm c p) o u = absurd u
  commit-used d (send_both c p) o u = inr (rw u (own-used c (confirmed c p) (run_is (confirmed c p) o.0) refl))
  commit-used d (accept c p) o u = absurd u
  commit-used d end_run o u = absurd u
  commit-used d end_link o u = absurd u
  commit-used d end_both o u = absurd u
  commit-used d idle o u = absurd u

  form-own : (d q : Commit) (e : Act) → Ok X e h → Forms d q e → Uses d e ⊎ Ready X h d
  form-own d q (fresh c) o u = absurd u
  form-own d q (form_fresh c p) o u = inl u.0
  form-own d q (form_own c p) o u = inr (rw u.0 (run_is (committed c) o.0))
  form-own d q (send_commit c) o u = absurd u
  form-own d q (send_confirm c p) o u = absurd u
  form-own d q (send_both c p) o u = absurd u
  form-own d q (accept c p) o u = absurd u
  form-own d q end_run o u = absurd u
  form-own d q end_link o u = absurd u
  form-own d q end_both o u = absurd u
  form-own d q idle o u = absurd u

  form-peer : (d q : Commit) (e : Act) → Ok X e h → Forms d q e → Once (Uses q) (other X) h
  form-peer d q (fresh c) o u = absurd u
  form-peer d q (form_fresh c p) o u = rw u.1 (I.sent (other X) p o.1.1.0 o.1.1.1)
  form-peer d q (form_own c p) o u = rw u.1 (I.sent (other X) p o.1.0 o.1.1)
  form-peer d q (send_commit c) o u = absurd u
  form-peer d q (send_confirm c p) o u = absurd u
  form-peer d q (send_both c p) o u = absurd u
  form-peer d q (accept c p) o u = absurd u
  form-peer d q end_run o u = absurd u
  form-peer d q end_link o u = absurd u
  form-peer d q end_both o u = absurd u
  form-peer d q idle o u = absurd u

-- What a run and a link rest on stays true where the printer forms no pair.

module _ (Z X : Side) (e : Act) (h : List Call) (quiet : (c p : Commit) → Z ≡ X → ¬ Forms c p e) where
  before-keep : {u : ℕ} → FormedBefore Z h u → FormedBefore Z (by X e ∷ h) u
  before-keep f c p t (now z q k) = absurd (quiet c p z k)
  before-keep f c p t (earlier k) = f c p t k

  run-keep : (r : Run) → RunFact Z h r → RunFact Z (by X e ∷ h) r
  run-keep nothing f = tt
  run-keep (committed c) f = (f.0, earlier f.1, before-keep f.2)
  run-keep (confirmed c p) f = (f.0, earlier f.1, before-keep f.2)

  link-keep : (l : Link) → LinkFact Z h l → LinkFact Z (by X e ∷ h) l
  link-keep unlinked f = tt
  link-keep (finished c p m) f = λ k. let l = f k in (l.0, earlier l.1, before-keep l.2)

link-marked : (Z : Side) (c : Call) (h : List Call) (l : Link) → LinkFact Z h l → LinkFact Z (c ∷ h) (marked l)
link-marked Z c h unlinked f = tt
link-marked Z a h (finished c p m) f = λ k. let z : ◌≡◌ {A = ℕ} 0 1 = cc in absurd (omega arith)

-- One call more keeps all of it.

module _ (X : Side) (h : List Call) (I : Inv h) where
  run-after : (e : Act) → Ok X e h → RunFact X (by X e ∷ h) (act e (state h X)).run
  run-after (fresh c) o = (length h, now refl refl refl, before-keep X X (fresh c) h (λ d q z k. k) (λ d q t k. before k))
  run-after (form_fresh c p) o = (length h, now {e = form_fresh c p} refl refl (refl, refl), λ d q t k. before k)
  run-after (form_own c p) o = (length h, now {e = form_own c p} refl refl (refl, refl), λ d q t k. before k)
  run-after (send_commit c) o = run-keep X X (send_commit c) h (λ d q z k. k) (state h X).run (I.run X)
  run-after (send_confirm c p) o = run-keep X X (send_confirm c p) h (λ d q z k. k) (state h X).run (I.run X)
  run-after (send_both c p) o = run-keep X X (send_both c p) h (λ d q z k. k) (state h X).run (I.run X)
  run-after (accept c p) o = tt
  run-after end_run o = tt
  run-after end_link o = run-keep X X end_link h (λ d q z k. k) (state h X).run (I.run X)
  run-after end_both o = tt
  run-after idle o = run-keep X X idle h (λ d q z k. k) (state h X).run (I.run X)

  link-after : (e : Act) → Ok X e h → LinkFact X (by X e ∷ h) (act e (state h X)).link
  link-after (fresh c) o = link-keep X X (fresh c) h (λ d q z k. k) (state h X).link (I.link X)
  link-after (form_fresh c p) o = link-marked X (by X (form_fresh c p)) h (state h X).link (I.link X)
  link-after (form_own c p) o = link-marked X (by X (form_own c p)) h (state h X).link (I.link X)
  link-after (send_commit c) o = link-keep X X (send_commit c) h (λ d q z k. k) (state h X).link (I.link X)
  link-after (send_confirm c p) o = link-keep X X (send_confirm c p) h (λ d q z k. k) (state h X).link (I.link X)
  link-after (send_both c p) o = link-keep X X (send_both c p) h (λ d q z k. k) (state h X).link (I.link X)
  link-after (accept c p) o =
      let f = run_is X h I (confirmed c p) o.0 in λ k. (f.0, earlier f.1, before-keep X X (accept c p) h (λ d q z k. k) f.2)
  link-after end_run o = link-keep X X end_run h (λ d q z k. k) (state h X).link (I.link X)
  link-after end_link o = tt
  link-after end_both o = tt
  link-after idle o = link-keep X X idle h (λ d q z k. k) (state h X).link (I.link X)

  module _ (e : Act) (o : Ok X e h) where
    once_after : (Z : Side) (c : Commit) (t u : ℕ) → At (Uses c) Z t (by X e ∷ h) → At (Uses c) Z u (by X e ∷ h) → t ≡ u
    once_after Z c t u (now z q a) (now y r b) = omega arith
    once_after Z c t u (now z q a) (earlier k) = absurd (use-new X h I c e o a (u, rw z at k))
    once_after Z c t u (earlier k) (now z q a) = absurd (use-new X h I c e o a (t, rw z at k))
    once_after Z c t u (earlier k) (earlier l) = I.once Z c t u k l

    sent-after : (Z : Side) (c : Commit) (t : ℕ) → At (SendsCommit c) Z t (by X e ∷ h) → Once (Uses c) Z (by X e ∷ h)
    sent-after Z c t (now z q a) = rw z (⊎_elim (λ u. (length h, now refl refl u)) later (commit-used X h I c e o a))
    sent-after Z c t (earlier k) = later (I.sent Z c t k)

    own-now : (c p : Commit) → Forms c p e → Uses c e ⊎ Ready X h c → UsedFor X (by X e ∷ h) c (length h)
    own-now c p f (inl u) = (length h, omega arith, now refl refl u, λ d q s k l. l)
    own-now c p f (inr r) = (r.0, (let l = before r.1 in omega arith), earlier r.1, go)
      where
        go : (d q : Commit) (s : ℕ) → At (Forms d q) X s (by X e ∷ h) → s < length h → s < r.0
        go d q s (now z i k) l = absurd (omega arith)
        go d q s (earlier k) l = r.2 d q s k

    own-after : (Z : Side) (c p : Commit) (t : ℕ) → At (Forms c p) Z t (by X e ∷ h) → UsedFor Z (by X e ∷ h) c t
    own-after Z c p t (now z q f) = rw (z, q) (own-now c p f (form-own X h I c p e o f))
    own-after Z c p t (earlier k) = (u.0, u.1, earlier u.2, go)
      where
        u : UsedFor Z h c t
        u = I.own Z c p t k

        go : (d q : Commit) (s : ℕ) → At (Forms d q) Z s (by X e ∷ h) → s < t → s < u.0
        go d q s (now z i f) l = let m = before k in absurd (omega arith)
        go d q s (earlier f) l = u.3 d q s f l

    peer-after : (Z : Side) (c p : Commit) (t : ℕ) → At (Forms c p) Z t (by X e ∷ h) → (u : ℕ) × (u < t) × At (Uses p) (other Z) u (by X e ∷ h)
    peer-after Z c p t (now z q f) = rw (z, q) (let u = form-peer X h I c p e o f in (u.0, before u.1, earlier u.1))
    peer-after Z c p t (earlier k) = let u = I.peer Z c p t k in (u.0, u.1, earlier u.2)

    still : (c p : Commit) → other X ≡ X → ¬ Forms c p e
    still c p z f = not-other X (sym z)

    step : Inv (by X e ∷ h)
    step = record {
      once = once_after;
      sent = sent-after;
      own = own-after;
      peer = peer-after;
      run = after (λ Z k s. RunFact Z k s.run) X e h (run-after e o) (run-keep (other X) X e h still (state h (other X)).run (I.run (other X)));
      link = after (λ Z k s. LinkFact Z k s.link) X e h (link-after e o) (link-keep (other X) X e h still (state h (other X)).link (I.link (other X)));
    }

inv : (h : List Call) → Valid h → Inv h
inv [] v = start
inv (by X e ∷ h) v = step X h (inv h v.1) e v.0

-- The theorem.

-- what is asked of the history is enough for the pairs of single links
world-right : (X : Side) (e : Act) (h : List Call) → World X e h → Right X e h
world-right X (fresh c) h w d q a = absurd a
world-right X (form_fresh c p) h w d q a = absurd a
world-right X (form_own c p) h w d q a = absurd a
world-right X (send_commit c) h w d q a = absurd a
world-right X (send_confirm c p) h w d q a = absurd a
world-right X (send_both c p) h w d q a = absurd a
world-right X (accept c p) h w d q a = rw (a.0, a.1) w
world-right X end_run h w d q a = absurd a
world-right X end_link h w d q a = absurd a
world-right X end_both h w d q a = absurd a
world-right X idle h w d q a = absurd a

valid-rightful : (h : List Call) → Valid h → Rightful h
valid-rightful [] v = tt
valid-rightful (by X e ∷ h) v = ((v.0.0, world-right X e h v.0.1), valid-rightful h v.1)

link-is : (h : List Call) → Valid h → (X : Side) (l : Link) → (state h X).link ≡ l → LinkFact X h l
link-is h v X l e = subst (LinkFact X h) e ((inv h v).link X)

same-form : (c p d q : Commit) (e : Act) → Forms c p e → Forms d q e → (c ≡ d) × (p ≡ q)
same-form c p d q (fresh a) f g = absurd f
same-form c p d q (form_fresh a b) f g = (cc, cc)
same-form c p d q (form_own a b) f g = (cc, cc)
same-form c p d q (send_commit a) f g = absurd f
same-form c p d q (send_confirm a b) f g = absurd f
same-form c p d q (send_both a b) f g = absurd f
same-form c p d q (accept a b) f g = absurd f
same-form c p d q end_run f g = absurd f
same-form c p d q end_link f g = absurd f
same-form c p d q end_both f g = absurd f
same-form c p d q idle f g = absurd f

-- two disagreeing pairs, each formed by the other printer before its own last, would each be used before the other
cycle : (X : Side) (h : List Call) → Inv h → (a b c d : Commit) (t u s r : ℕ)
    → At (Forms a b) X t h → At (Forms d c) X u h → At (Forms c d) (other X) s h → At (Forms b a) (other X) r h
    → u < t → r < s → ⊥
cycle A h I a b c d t u s r f g k l ut rs =
    let x = I.own A a b t f in
    let y = I.peer B b a r l in
    let v = I.own B c d s k in
    let w = I.peer A d c u g in
    omega (arith, x.3 d c u g ut, v.3 b a r l rs, I.once A a x.0 y.0 x.2 y.2, I.once B c v.0 w.0 v.2 w.2)
cycle B h I a b c d t u s r f g k l ut rs =
    let x = I.own B a b t f in
    let y = I.peer A b a r l in
    let v = I.own A c d s k in
    let w = I.peer B d c u g in
    omega (arith, x.3 d c u g ut, v.3 b a r l rs, I.once B a x.0 y.0 x.2 y.2, I.once A c v.0 w.0 v.2 w.2)

same-time : (Z : Side) (h : List Call) (c p d q : Commit) (t u : ℕ) → At (Forms c p) Z t h → At (Forms d q) Z u h → t ≡ u → (c ≡ d) × (p ≡ q)
same-time Z h c p d q t u f g e = let k = both f (rw (← e) at g) in same-form c p d q k.0 k.1 k.2

meet : (X : Side) (h : List Call) → Inv h → (a b c d : Commit) → Last X h a b → Last (other X) h c d
    → Once (Forms d c) X h → Once (Forms b a) (other X) h → (a ≡ d) × (b ≡ c)
meet X h I a b c d f k g l = first (eq-or-lt_of_le (le_of_suc-le-suc (f.2 d c g.0 g.1)))
  where
    second : g.0 < f.0 → (l.0 ≡ k.0) ⊎ (l.0 < k.0) → (a ≡ d) × (b ≡ c)
    second ut (inl e) = let q = same-time (other X) h b a c d l.0 k.0 l.1 k.1 e in (q.1, q.0)
    second ut (inr rs) = absurd (cycle X h I a b c d f.0 g.0 k.0 l.0 f.1 g.1 k.1 l.1 ut rs)

    first : (g.0 ≡ f.0) ⊎ (g.0 < f.0) → (a ≡ d) × (b ≡ c)
    first (inl e) = same-time X h a b d c f.0 g.0 f.1 g.1 (sym e)
    first (inr ut) = second ut (eq-or-lt_of_le (le_of_suc-le-suc (k.2 b a l.0 l.1)))

pub agreement : (h : List Call) → Valid h → (a b c d : Commit)
    → (state h A).link ≡ finished a b false → (state h B).link ≡ finished c d false → (a ≡ d) × (b ≡ c)
agreement h v a b c d e f =
    let k = formed-before h (valid-rightful h v) A a b false e in
    let l = formed-before h (valid-rightful h v) B c d false f in
    meet A h (inv h v) a b c d (link-is h v A (finished a b false) e refl) (link-is h v B (finished c d false) f refl) l k
