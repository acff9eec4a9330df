-- A record that has its form is stored without loss with every width that has room for the listed groups: whoever keeps the form need not know of a width.
use mathlib.Core.Path.{◌≡◌, refl, sym, ap, ◌∙◌, subst}
use mathlib.Core.Logic.{inl, inr}
use mathlib.Core.Bool.{true}
use mathlib.Core.List.{List}
use Prim.Native.Nat.{ℕ, ◌+◌, ◌-◌, ◌≤◌}
use native.Mathlib.Omega.{arith}
use native.Mathlib.Decide.{ℕ_discrete}
use lib.ListN.{length, drop, replicate, length-replicate}
use lib.Seq.{drop-drop}
use Rattle.octets.specs.Octets.{all_zero}
use Rattle.octets.proofs.Tests.{zero_is, zero-zeros}
use Rattle.groups.specs.Groups.{width, commit_length, listed, Storable}
use Rattle.groups.proofs.Laws.{drop-zeros, storable-zeros, listable-room}
use Rattle.record.specs.Layout.{width_in, groups_of, no_run, no_link, no_peer}
use Rattle.record.specs.declared.Run.{Run}
use Rattle.record.specs.declared.Link.{Link}
use Rattle.record.specs.declared.Peer.{Peer}
use Rattle.record.specs.declared.Header.{Header}
use Rattle.record.proofs.Laws.{ShapeRun, ShapeLink, ShapePeer, StorableRun, StorableLink, StorablePeer, form-width}
use Rattle.soundness.specs.Soundness.{commit_ok, run_ok, link_ok, peer_ok, header_ok}
use Rattle.soundness.proofs.Laws.{run-unused, link-unused, peer-unused, run-states, run-is-committed, run-is-confirmed, link-is-finished, peer-in-use, header-listed}

-- a width that has room for every listed group
pub record Room (W : ℕ) (gs : List ℕ) : Type 0 where
  pub most : W ≤ width
  pub each : (g : ℕ) → listed gs g ≡ true → commit_length g ≤ W

-- ---- with room for the groups, a record is stored without loss

zero-later : (c : List ℕ) (n m : ℕ) → n ≤ m → all_zero (drop n c) ≡ true → all_zero (drop m c) ≡ true
zero-later c n m h z =
    let q : n + (m - n) ≡ m = omega arith in
    let d : drop m c ≡ drop (m - n) (drop n c) = ap (λ (k : ℕ). drop k c) (sym q) ∙ sym (drop-drop (m - n) n c) in
    ap all_zero (d ∙ ap (drop (m - n)) (zero_is (drop n c) (length (drop n c)) refl z) ∙ drop-zeros (length (drop n c)) (m - n)) ∙ zero-zeros (length (drop n c) - (m - n))

module _ (W : ℕ) (gs : List ℕ) (R : Room W gs) where
  of-group : (g : ℕ) (c : List ℕ) → length c ≡ width → listed gs g ≡ true → commit_ok g c ≡ true → Storable W c
  unfolding commit_ok
  of-group g c l i ok = storable-zeros W c R.most l (zero-later c (commit_length g) W (R.each g i) ok)

  of-zeros : (c : List ℕ) → length c ≡ width → all_zero c ≡ true → Storable W c
  of-zeros c l z = storable-zeros W c R.most l (zero-later c 0 W (omega arith) z)

  no-commit : Storable W (replicate width 0)
  no-commit = of-zeros (replicate width 0) (length-replicate {A = ℕ} width 0) (zero-zeros width)

  no-run : StorableRun W no_run
  unfolding no_run
  no-run = record { own = no-commit; peer = no-commit }

  no-link : StorableLink W no_link
  unfolding no_link
  no-link = record { own = no-commit; peer = no-commit }

  no-peer : StorablePeer W no_peer
  unfolding no_peer
  no-peer = record { run = no-run; link = no-link }

  pub run-storable : (high : ℕ) (r : Run) → ShapeRun width r → run_ok gs high r ≡ true → StorableRun W r
  run-storable high r f ok = elim (run-states gs high r ok) [
    | inl e ↦ subst (StorableRun W) (sym (run-unused gs high r f ok e)) no-run
    | inr q ↦ elim q [
      | inl e ↦ let k = run-is-committed gs high r e ok in record { own = of-group r.group r.own f.own k.listed k.own; peer = of-zeros r.peer f.peer k.peer }
      | inr e ↦
          let k = run-is-confirmed gs high r e ok in
          record { own = of-group r.group r.own f.own k.listed k.own; peer = of-group r.group r.peer f.peer k.listed k.peer }
    ]
  ]

  pub link-storable : (high : ℕ) (l : Link) → ShapeLink width l → link_ok gs high l ≡ true → StorableLink W l
  link-storable high l f ok = elim (ℕ_discrete l.finished 0) [
    | yes e ↦ subst (StorableLink W) (sym (link-unused gs high l f ok e)) no-link
    | no d ↦
        let k = link-is-finished gs high l d ok in
        record { own = of-group l.group l.own f.own k.listed k.own; peer = of-group l.group l.peer f.peer k.listed k.peer }
  ]

  pub peer-storable : (own : List ℕ) (high : ℕ) (p : Peer) → ShapePeer width p → peer_ok own gs high p ≡ true → StorablePeer W p
  peer-storable own high p f ok = elim (ℕ_discrete p.used 0) [
    | yes e ↦ subst (StorablePeer W) (sym (peer-unused own gs high p f ok e)) no-peer
    | no d ↦ let k = peer-in-use own gs high p d ok in record { run = run-storable high p.run f.run k.run; link = link-storable high p.link f.link k.link }
  ]

-- ---- the width of a header that has its form has room for its groups

pub header-room : (h : Header) → header_ok h ≡ true → Room (width_in h) (groups_of h)
header-room h ok = record { most = form-width h.geometry.size; each = λ g l. listable-room (width_in h) g (header-listed h ok g l) }
