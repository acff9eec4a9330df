-- What the functions show: tests on octets are the tests on the values that the octets say.
use Rattle.std.specs.Prelude.{Option, Some, None}
use mathlib.Core.Path.{◌≡◌, refl, sym, ap, ◌∙◌}
use mathlib.Core.Bool.{Bool, true, false, not, ◌&&◌, ◌||◌}
use mathlib.Core.List.{List, [], ◌∷◌}
use Prim.Native.Nat.{ℕ, zero, suc, ◌+◌, ◌-◌, ◌*◌, ◌/◌, ◌^◌, ◌≤◌, ◌<◌}
use native.Mathlib.Omega.{arith}
use native.Mathlib.Nat.{one-le-pow, div-lt_iff_lt-mul, le-div_iff_mul-le}
use native.Mathlib.Decide.{ℕ_discrete}
use lib.Dec.{eqb, leb, ltb, lit<}
use lib.ListN.{length, take, drop, get_or}
use borrow.Author.Tests.{eq-eqb, ne_eqb, le-leb, lt-leb, lt-ltb, le-ltb}
use Rattle.octets.specs.Octets.{part, num, all_zero, Bytes}
use Rattle.octets.specs.Scan.{all_below}
use Rattle.octets.proofs.Laws.{part-all}
use Rattle.groups.specs.Groups.{width, listable, listed, place, index_of, marked, stored}
use Rattle.groups.proofs.Laws.{stored-zeros, stored-zero, listed-place}
use Rattle.record.specs.Codec.{cut}
use Rattle.record.specs.Layout.{decode_run, decode_link, decode_peer, run_size, link_size, record_size, link_at, run_peer_at, run_token_at, run_of, run_widths, link_of, link_widths}
use Rattle.record.specs.declared.Form.{Form}
use Rattle.record.specs.declared.Run.{Run}
use Rattle.record.specs.declared.Peer.{Peer}
use Rattle.record.proofs.Laws.{zero-run-test, zero-link-test, zero-peer-test, peer-at, three-is}
use Rattle.record.proofs.Windows.{state-law, finished-law, address-law, run-window, link-window}
use Rattle.soundness.specs.Soundness.{groups_ok, all_listable, each_once, commit_ok, token_ok, rejected_ok, committed_ok, confirmed_ok, finished_ok, run_ok, link_ok, usable, in_use_ok, free_ok, peer_ok}

-- ---- no mark past the listed groups

pub none-past : (x n : ℕ) → eqb (x / 2 ^ n) 0 ≡ ltb x (2 ^ n)
none-past x n = elim (ℕ_discrete (x / 2 ^ n) 0) [
  | yes e ↦ eq-eqb (x / 2 ^ n) 0 e ∙ sym (lt-ltb x (2 ^ n) (below e))
  | no d ↦ ne_eqb (x / 2 ^ n) 0 d ∙ sym (le-ltb x (2 ^ n) (above d))
]
  where
    p : 0 < 2 ^ n
    p = one-le-pow n 2 (lit< tt)

    below : x / 2 ^ n ≡ 0 → x < 2 ^ n
    below e = let h : x < 1 * 2 ^ n = (div-lt_iff_lt-mul p).0 (omega (arith, e)) in omega arith

    above : (x / 2 ^ n ≡ 0 → ⊥) → 2 ^ n ≤ x
    above d = let q : 1 ≤ x / 2 ^ n = omega (arith, d) in let h : 1 * 2 ^ n ≤ x = (le-div_iff_mul-le p).0 q in omega arith

-- ---- zeros of a part, and of the whole

pub tail_all : (s : List ℕ) (at n m : ℕ) (r : Bool) → n ≡ 0 → r ≡ all_zero (part s at m) → r ≡ all_zero (drop n (part s at m))
tail_all s at n m r e q = rw e q

pub tail-stored : (s : List ℕ) (at n m : ℕ) (r : Bool) → r ≡ all_zero (drop n (stored (part s at m))) → r ≡ all_zero (drop n (part s at m))
tail-stored s at n m r q = q ∙ stored-zeros (part s at m) n

pub zero-whole : (s : List ℕ) (n : ℕ) (r : Bool) → length s ≡ n → r ≡ all_zero (part s 0 n) → r ≡ all_zero s
zero-whole s n r e q = q ∙ ap all_zero (part-all s n e)

pub zero-length : (s : List ℕ) (r : Bool) → r ≡ all_zero (drop 0 (stored (part s 0 (length s)))) → r ≡ all_zero s
zero-length s r q = zero-whole s (length s) r refl (tail-stored s 0 0 (length s) r q)

-- the peer's commit of a run, from where it begins to the token
pub peer-zeros : (W at end : ℕ) (s : List ℕ) (r : Bool) → at ≡ run_peer_at W → end ≡ run_token_at W → r ≡ all_zero (take (end - at) (drop at s)) → r ≡ all_zero (decode_run W s).peer
unfolding decode_run run_of run_widths cut part
peer-zeros W at end s r e f q =
    let m : end - at ≡ W = omega arith in
    q ∙ ap (λ (n : ℕ). all_zero (take n (drop at s))) m ∙ ap (λ (n : ℕ). all_zero (take W (drop n s))) e ∙ sym (stored-zero (take W (drop (13 + W) s)))

-- ---- groups

zero_one : (b : ℕ) → all_zero (b ∷ []) ≡ eqb b 0
unfolding all_zero all_below
zero_one b = refl

zero-two : (a b : ℕ) → all_zero (a ∷ b ∷ []) ≡ (eqb a 0 && eqb b 0)
unfolding all_zero all_below
zero-two a b = refl

and-true : (b : Bool) → (b && true) ≡ b
and-true true = refl
and-true false = refl

or-false : (b : Bool) → (b || false) ≡ b
or-false true = refl
or-false false = refl

and_assoc : (a b c : Bool) → ((a && b) && c) ≡ (a && (b && c))
and_assoc true b c = refl
and_assoc false b c = refl

-- the test of a third group behind that of two
third-too : (j k d i e : Bool) → (((j && k) && d) && (i && e)) ≡ ((j && (k && i)) && (d && e))
third-too false k d i e = refl
third-too true false d i e = refl
third-too true true true i e = refl
third-too true true false true e = refl
third-too true true false false e = refl

eqb-sym : (a b : ℕ) → eqb a b ≡ eqb b a
eqb-sym a b = elim (ℕ_discrete a b) [
  | yes e ↦ eq-eqb a b e ∙ sym (eq-eqb b a (sym e))
  | no d ↦ ne_eqb a b d ∙ sym (ne_eqb b a (λ q. d (sym q)))
]

-- of three things no two are the same
once-three : (x y z : Bool) → (not (x || (y || false)) && (not (z || false) && true)) ≡ (not x && (not y && not z))
once-three true y z = refl
once-three false true z = refl
once-three false false true = refl
once-three false false false = refl

module _ (f : Form) (a b c : ℕ) where
  groups-one : 1 ≤ f.groups → groups_ok f 1 (a ∷ b ∷ c ∷ []) ≡ (listable f.width a && (eqb b 0 && eqb c 0))
  unfolding groups_ok all_listable each_once listed
  groups-one h = rw (le-leb 1 f.groups h, and-true (listable f.width a), zero-two b c) refl

  groups-two : 2 ≤ f.groups → groups_ok f 2 (a ∷ b ∷ c ∷ []) ≡ ((listable f.width a && listable f.width b) && (not (eqb a b) && eqb c 0))
  unfolding groups_ok all_listable each_once listed
  groups-two h = rw (le-leb 2 f.groups h, and-true (listable f.width b), or-false (eqb b a), eqb-sym b a, and-true (not (eqb a b)), zero_one c) refl

  groups-three : 3 ≤ f.groups → groups_ok f 3 (a ∷ b ∷ c ∷ []) ≡ ((listable f.width a && (listable f.width b && listable f.width c)) && (not (eqb a b) && (not (eqb a c) && not (eqb b c))))
  unfolding groups_ok all_listable each_once listed all_zero all_below
  groups-three h =
      rw (le-leb 3 f.groups h, and-true (listable f.width c), eqb-sym b a, eqb-sym c a, eqb-sym c b, and-true (not (eqb a b || (eqb a c || false)) && (not (eqb b c || false) && true)), once-three (eqb a b) (eqb a c) (eqb b c)) refl

groups_none : (f : Form) (gs : List ℕ) → groups_ok f 0 gs ≡ false
unfolding groups_ok
groups_none f gs = refl

pub groups-more : (f : Form) (n : ℕ) (gs : List ℕ) → f.groups < n → false ≡ groups_ok f n gs
unfolding groups_ok
groups-more f n gs h = sym (rw (le-leb 1 n (omega arith), lt-leb n f.groups h) refl)

module _ (f : Form) (n : ℕ) (gs : List ℕ) (l : length gs ≡ 3) (h : n ≤ f.groups) (W : ℕ) (w : W ≡ f.width) (j : Bool) (p : j ≡ listable W (get_or gs 0 0)) where
  pub groups-is-one : n ≡ 1 → (j && (eqb (get_or gs 1 0) 0 && eqb (get_or gs 2 0) 0)) ≡ groups_ok f n gs
  groups-is-one e =
      rw (e, p, w) (sym (ap (groups_ok f 1) (sym (three-is gs l)) ∙ groups-one f (get_or gs 0 0) (get_or gs 1 0) (get_or gs 2 0) (omega arith)))

  module _ (k : Bool) (q : k ≡ listable W (get_or gs 1 0)) where
    pub groups-is-two : n ≡ 2 → (((j && k) && not (eqb (get_or gs 0 0) (get_or gs 1 0))) && eqb (get_or gs 2 0) 0) ≡ groups_ok f n gs
    groups-is-two e =
        and_assoc (j && k) (not (eqb (get_or gs 0 0) (get_or gs 1 0))) (eqb (get_or gs 2 0) 0) ∙ rw (e, p, q, w) (sym (ap (groups_ok f 2) (sym (three-is gs l)) ∙ groups-two f (get_or gs 0 0) (get_or gs 1 0) (get_or gs 2 0) (omega arith)))

    pub groups-is-three : (i : Bool) → n ≡ 3 → i ≡ listable W (get_or gs 2 0)
        → (((j && k) && not (eqb (get_or gs 0 0) (get_or gs 1 0))) && (i && (not (eqb (get_or gs 0 0) (get_or gs 2 0)) && not (eqb (get_or gs 1 0) (get_or gs 2 0))))) ≡ groups_ok f n gs
    groups-is-three i e r =
        third-too j k (not (eqb (get_or gs 0 0) (get_or gs 1 0))) i _ ∙ rw (e, p, q, r, w) (sym (ap (groups_ok f 3) (sym (three-is gs l)) ∙ groups-three f (get_or gs 0 0) (get_or gs 1 0) (get_or gs 2 0) (omega arith)))

pub groups-else : (f : Form) (n : ℕ) (gs : List ℕ) → f.groups ≤ 3 → (n ≡ 1 → ⊥) → (n ≡ 2 → ⊥) → (n ≡ 3 → ⊥) → false ≡ groups_ok f n gs
groups-else f zero gs h p q r = sym (groups_none f gs)
groups-else f (suc n) gs h p q r = groups-more f (suc n) gs (omega arith)

-- ---- a listed group, the marks and the rest of a run in Committed

-- the marks by the place of the run's group
module _ (gs : List ℕ) (r : Run) (rejected group : ℕ) (f : Option ℕ) (k : rejected ≡ r.rejected) (g : group ≡ r.group) (e : f ≡ place gs group) where
  pub marks-at : (i past : ℕ) (own : Bool) → f ≡ Some i → own ≡ marked rejected i → past ≡ rejected / 2 ^ length gs
      → (eqb past 0 && not own) ≡ (listed gs r.group && rejected_ok gs r)
  unfolding rejected_ok index_of
  marks-at i past own q o p =
      let z : place gs r.group ≡ Some i = ap (place gs) (sym g) ∙ sym e ∙ q in
      rw (listed-place gs r.group, z, p, o, k, none-past r.rejected (length gs)) refl

  pub marks-none : f ≡ None → false ≡ (listed gs r.group && rejected_ok gs r)
  marks-none q =
      let z : place gs r.group ≡ None = ap (place gs) (sym g) ∙ sym e ∙ q in
      sym (rw (listed-place gs r.group, z) refl)

-- the group's test stands before the others'
group-first : (a j c l t : Bool) → (a && ((l && j) && (c && t))) ≡ (a && (j && (c && (l && t))))
group-first true true true true t = refl
group-first true true true false t = refl
group-first true true false true t = refl
group-first true true false false t = refl
group-first true false c true t = refl
group-first true false c false t = refl
group-first false j c l t = refl

pub committed-by : (gs : List ℕ) (high : ℕ) (r : Run)
    → (leb r.sync high && ((listed gs r.group && rejected_ok gs r) && (eqb r.sc 0 && (token_ok r && (commit_ok r.group r.own && all_zero r.peer))))) ≡ committed_ok gs high r
unfolding committed_ok
committed-by gs high r =
    group-first (leb r.sync high) (rejected_ok gs r) (eqb r.sc 0) (listed gs r.group) (token_ok r && (commit_ok r.group r.own && all_zero r.peer))

-- ---- the state decides which test it is

run-state : (W : ℕ) (s : List ℕ) → (decode_run W s).state ≡ num (part s 0 1)
unfolding decode_run run_of run_widths cut
run-state W s = refl

link-finished : (W : ℕ) (s : List ℕ) → (decode_link W s).finished ≡ num (part s 0 1)
unfolding decode_link link_of link_widths cut
link-finished W s = refl

module _ (W : ℕ) (s gs : List ℕ) (high state : ℕ) (r : Bool) (p : state ≡ num (part s 0 1)) where
  is_state : (n : ℕ) → state ≡ n → eqb (decode_run W s).state n ≡ true
  is_state n e = eq-eqb _ n (run-state W s ∙ sym p ∙ e)

  isnt-state : (n : ℕ) → (state ≡ n → ⊥) → eqb (decode_run W s).state n ≡ false
  isnt-state n d = ne_eqb _ n (λ e. d (p ∙ sym (run-state W s) ∙ e))

  pub run-nothing : W ≤ width → Bytes s → length s ≡ run_size W → state ≡ 0 → r ≡ all_zero s → r ≡ run_ok gs high (decode_run W s)
  unfolding run_ok
  run-nothing w b h q e = rw (is_state 0 q) (e ∙ zero-run-test W s w b h)

  pub run-committed : (state ≡ 0 → ⊥) → state ≡ 1 → r ≡ committed_ok gs high (decode_run W s) → r ≡ run_ok gs high (decode_run W s)
  unfolding run_ok
  run-committed d q e = rw (isnt-state 0 d, is_state 1 q) e

  pub run-confirmed : (state ≡ 0 → ⊥) → (state ≡ 1 → ⊥) → state ≡ 2 → r ≡ confirmed_ok gs high (decode_run W s) → r ≡ run_ok gs high (decode_run W s)
  unfolding run_ok
  run-confirmed d d₁ q e = rw (isnt-state 0 d, isnt-state 1 d₁, is_state 2 q) e

  pub link-nothing : W ≤ width → Bytes s → length s ≡ link_size W → state ≡ 0 → r ≡ all_zero s → r ≡ link_ok gs high (decode_link W s)
  unfolding link_ok
  link-nothing w b h q e = let z : eqb (decode_link W s).finished 0 ≡ true = eq-eqb _ 0 (link-finished W s ∙ sym p ∙ q) in rw z (e ∙ zero-link-test W s w b h)

  pub link-finish : (state ≡ 0 → ⊥) → r ≡ finished_ok gs high (decode_link W s) → r ≡ link_ok gs high (decode_link W s)
  unfolding link_ok
  link-finish d e = let z : eqb (decode_link W s).finished 0 ≡ false = ne_eqb _ 0 (λ q. d (p ∙ sym (link-finished W s) ∙ q)) in rw z e

pub run-other : (W : ℕ) (s gs : List ℕ) (high state : ℕ) → state ≡ num (part s 0 1) → (state ≡ 0 → ⊥) → (state ≡ 1 → ⊥) → (state ≡ 2 → ⊥) → false ≡ run_ok gs high (decode_run W s)
unfolding run_ok
run-other W s gs high state p d d₁ d₂ = rw (isnt-state W s gs high state false p 0 d, isnt-state W s gs high state false p 1 d₁, isnt-state W s gs high state false p 2 d₂) refl

-- ---- the record

module _ (W : ℕ) (own s gs : List ℕ) (high used : ℕ) (r : Bool) (p : used ≡ num (part s 0 1)) where
  pub peer-free : W ≤ width → Bytes s → length s ≡ record_size W → used ≡ 0 → r ≡ all_zero s → r ≡ peer_ok own gs high (decode_peer W s)
  unfolding peer_ok free_ok
  peer-free w b h q e =
      let z : eqb (decode_peer W s).used 0 ≡ true = eq-eqb _ 0 (ap (λ (x : Peer). x.used) (peer-at W s) ∙ sym p ∙ q) in
      rw z (e ∙ zero-peer-test W s w b h)

  pub peer-used : (used ≡ 0 → ⊥) → r ≡ in_use_ok own gs high (decode_peer W s) → r ≡ peer_ok own gs high (decode_peer W s)
  unfolding peer_ok
  peer-used d e = let z : eqb (decode_peer W s).used 0 ≡ false = ne_eqb _ 0 (λ q. d (p ∙ sym (ap (λ (x : Peer). x.used) (peer-at W s)) ∙ q)) in rw z e

pub in-use-law : (W at end : ℕ) (own s gs a : List ℕ) (high used state finished : ℕ) (u r l : Bool) → length s ≡ record_size W → at ≡ link_at W → end ≡ record_size W
    → used ≡ num (part s 0 1) → a ≡ part s 1 6 → state ≡ num (part s 7 1) → finished ≡ num (part s (at + 0) 1)
    → u ≡ usable own a → r ≡ run_ok gs high (decode_run W (take (at - 7) (drop 7 s))) → l ≡ link_ok gs high (decode_link W (take (end - at) (drop at s)))
    → (eqb used 1 && (u && (r && (l && (not (eqb state 0) || not (eqb finished 0)))))) ≡ in_use_ok own gs high (decode_peer W s)
unfolding in_use_ok
in-use-law W at end own s gs a high used state finished u r l h p q eu ea es ef eb er el =
    let f₁ : used ≡ (decode_peer W s).used = eu ∙ sym (ap (λ (x : Peer). x.used) (peer-at W s)) in
    let f₂ : u ≡ usable own (decode_peer W s).address = eb ∙ ap (usable own) (ea ∙ sym (address-law W s)) in
    let f₃ : r ≡ run_ok gs high (decode_peer W s).run = er ∙ ap (run_ok gs high) (run-window W s h (at - 7) (omega arith)) in
    let f₄ : l ≡ link_ok gs high (decode_peer W s).link = el ∙ ap (link_ok gs high) (link-window W s h at (end - at) p (omega arith)) in
    let f₅ : state ≡ (decode_peer W s).run.state = es ∙ sym (state-law W s) in
    let f₆ : finished ≡ (decode_peer W s).link.finished = ef ∙ sym (finished-law W s at p) in
    rw (f₁, f₂, f₃, f₄, f₅, f₆) refl

-- ---- powers of two

pub powers : (n : ℕ) → n ≤ 8 → get_or (1 ∷ 2 ∷ 4 ∷ 8 ∷ 16 ∷ 32 ∷ 64 ∷ 128 ∷ 256 ∷ []) n 0 ≡ 2 ^ n
powers zero h = refl
powers (suc zero) h = refl
powers (suc (suc zero)) h = refl
powers (suc (suc (suc zero))) h = refl
powers (suc (suc (suc (suc zero)))) h = refl
powers (suc (suc (suc (suc (suc zero))))) h = refl
powers (suc (suc (suc (suc (suc (suc zero)))))) h = refl
powers (suc (suc (suc (suc (suc (suc (suc zero))))))) h = refl
powers (suc (suc (suc (suc (suc (suc (suc (suc zero)))))))) h = refl
powers (suc (suc (suc (suc (suc (suc (suc (suc (suc n))))))))) h = absurd (omega arith)
