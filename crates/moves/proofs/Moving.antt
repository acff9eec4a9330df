-- What a move shows: which way it goes, its causes in order, and the target that it leaves.
use mathlib.Core.Path.{◌≡◌, refl, sym, ap, ◌∙◌, subst}
use mathlib.Core.Bool.{Bool, true, false, not, ◌&&◌}
use mathlib.Core.List.{List}
use Prim.Native.Nat.{ℕ, ◌^◌, ◌≤◌, ◌<◌}
use native.Mathlib.Omega.{arith}
use native.Mathlib.Nat.{mul-le-mul}
use Rattle.std.specs.Prelude.{Result, Ok, Err}
use lib.Dec.{eqb, ltb}
use lib.ListN.{length}
use borrow.Author.Tests.{eq-eqb, ne_eqb}
use Rattle.groups.specs.Groups.{width, listed}
use Rattle.record.specs.declared.Form.{Form}
use Rattle.record.specs.declared.Header.{Header}
use Rattle.record.specs.Layout.{groups_of, record_size, record_at}
use Rattle.record.proofs.Laws.{Served, narrow-served, wide-served, served-width}
use Rattle.table.specs.Table.{decode_table, checked, Looked}
use Rattle.soundness.proofs.Laws.{header-count}
use Rattle.table.proofs.Laws.{unsound, sound-header, sound-small}
use Rattle.table.proofs.Octets.{after-header}
use Rattle.causes.specs.declared.Refusal.{Refusal}
use Rattle.causes.specs.declared.Refusal.TheVariants as why
use Rattle.causes.specs.Causes.{passes}
use Rattle.moves.specs.declared.Direction.{Direction}
use Rattle.moves.specs.declared.Direction.TheVariants.{Forward, Back}
use Rattle.moves.specs.Moves.{source_form, target_form, moved, is_of, hindered, hindrance, fitting, Moved, refuse_move, moves, settled, Moves, Carried}

-- ---- which way

module _ (d : Direction) (h : Header) (x : Bool) (r : Result (Unit {0}) Refusal) where
  pub forward-law : d ≡ Forward → x ≡ ltb 60 h.geometry.slots → r ≡ passes (not x) why.Slots → r ≡ passes (not (hindered d h)) (hindrance d)
  forward-law e q l = rw e (l ∙ ap (λ (y : Bool). passes (not y) why.Slots) q)

  pub back-law : d ≡ Back → x ≡ listed (groups_of h) 21 → r ≡ passes (not x) why.Group → r ≡ passes (not (hindered d h)) (hindrance d)
  back-law e q l = rw e (l ∙ ap (λ (y : Bool). passes (not y) why.Group) q)

-- a test that was passed, and one that was not
passed-free : (b : Bool) (c : Refusal) (u : Unit {0}) → passes (not b) c ≡ Ok u → b ≡ false
passed-free false c u e = refl
passed-free true c u e = let z : ◌≡◌ {A = ℕ} 0 1 = cc in absurd (omega arith)

stopped : (b : Bool) (c e : Refusal) → passes (not b) c ≡ Err e → (b ≡ true) × (e ≡ c)
stopped true c e q = let z : c ≡ e = cc in (refl, sym z)
stopped false c e q = let z : ◌≡◌ {A = ℕ} 0 1 = cc in absurd (omega arith)

target-served : (d : Direction) → Served (target_form d)
target-served Forward = wide-served
target-served Back = narrow-served

-- ---- the answers, cause by cause

refused-by : (m : Moved) (target : List ℕ) (c : Refusal) (r : Result (Unit {0}) Refusal) → r ≡ Err c → m ≡ refuse_move target c → Moves r target m
refused-by m target c r k e = record { answer = ap settled k ∙ ap (λ (x : Moved). x.answer) (sym e); target = ap (λ (x : Moved). x.target) (sym e) }

module _ (d : Direction) (s target : List ℕ) where
  -- an unsound source, or one of the other form
  not-of : (r : Result (Unit {0}) Refusal) → r ≡ Err why.Unsound → is_of (source_form d) s ≡ false → Moves r target (moves d s target)
  unfolding moves
  not-of r k e = refused-by _ target why.Unsound r k (rw e refl)

  pub move-unsound : (c : Refusal) (r : Result (Unit {0}) Refusal) → r ≡ Err c → checked s ≡ Err c → Moves r target (moves d s target)
  unfolding is_of
  move-unsound c r k e = let u = unsound s c e in not-of r (k ∙ ap Err u.1) (ap (λ (b : Bool). b && eqb (decode_table s).header.geometry.size (source_form d).size) u.0)

  module _ (h : Header) (L : Looked s h) where
    pub few-groups : h.settings.count ≤ 3
    few-groups = subst (λ (g : Header). g.settings.count ≤ 3) (sym L.header) (header-count (decode_table s).header (sound-header s L.whole))

    few : h.geometry.slots ≤ 64
    few = subst (λ (g : Header). g.geometry.slots ≤ 64) (sym L.header) (sound-small s L.whole)

    pub move-other : (f : Form) → f ≡ source_form d → (h.geometry.size ≡ f.size → ⊥) → Moves (Err why.Unsound) target (moves d s target)
    unfolding is_of
    move-other f ef n = not-of _ refl (rw L.whole (ne_eqb _ _ (λ q. n (ap (λ (g : Header). g.geometry.size) L.header ∙ q ∙ ap (λ (x : Form). x.size) (sym ef)))))

    module _ (f : Form) (ef : f ≡ source_form d) (z : h.geometry.size ≡ f.size) where
      of-form : is_of (source_form d) s ≡ true
      unfolding is_of
      of-form = rw L.whole (eq-eqb _ _ (ap (λ (g : Header). g.geometry.size) (sym L.header) ∙ z ∙ ap (λ (x : Form). x.size) ef))

      pub move-hindered : (c : Refusal) (r : Result (Unit {0}) Refusal) → r ≡ Err c → passes (not (hindered d h)) (hindrance d) ≡ Err c → Moves r target (moves d s target)
      unfolding moves
      move-hindered c r k q =
          let w = stopped (hindered d h) (hindrance d) c q in
          let y : hindered d (decode_table s).header ≡ true = ap (hindered d) (sym L.header) ∙ w.0 in
          refused-by _ target c r k (rw (of-form, y) (ap (refuse_move target) (sym w.1)))

      module _ (u : Unit {0}) (q : passes (not (hindered d h)) (hindrance d) ≡ Ok u) (g : Form) (eg : g ≡ target_form d) where
        free : hindered d (decode_table s).header ≡ false
        free = ap (hindered d) (sym L.header) ∙ passed-free (hindered d h) (hindrance d) u q

        served : Served g
        served = subst Served (sym eg) (target-served d)

        -- the target's length, as a number of 64 bits
        pub target_fits : (g.width ≤ width) × (record_at g.width h.geometry.slots < 2 ^ 64)
        unfolding record_at
        target_fits =
            let w = served-width g served in
            let a : record_size g.width ≤ 1080 = omega (arith, w) in
            (w, omega (arith, mul-le-mul a few))

        new-length : (n : ℕ) → n ≡ record_at g.width h.geometry.slots → n ≡ record_at (target_form d).width (decode_table s).header.geometry.slots
        new-length n en = en ∙ (λ i. record_at (eg i).width (L.header i).geometry.slots)

        pub move-misfits : (n : ℕ) → n ≡ record_at g.width h.geometry.slots → (length target ≡ n → ⊥) → Moves (Err why.Target) target (moves d s target)
        unfolding moves fitting
        move-misfits n en l =
            let y : eqb (length target) (record_at (target_form d).width (decode_table s).header.geometry.slots) ≡ false = ne_eqb _ _ (λ p. l (p ∙ sym (new-length n en))) in
            refused-by _ target why.Target _ refl (rw (of-form, free, y) refl)

        pub carried : (n : ℕ) → n ≡ record_at g.width h.geometry.slots → length target ≡ n → Carried g s h target
        carried n en l = record {
          sound = L.whole;
          header = L.header;
          told = served.told;
          most = served-width g served;
          long = l ∙ en;
          head = omega (arith, l, en, after-header g.width h.geometry.slots);
        }

        pub move-done : (n : ℕ) (v : List ℕ) → n ≡ record_at g.width h.geometry.slots → length target ≡ n → v ≡ moved g s → Moves (Ok tt) v (moves d s target)
        unfolding moves fitting
        move-done n v en l ev =
            let y : eqb (length target) (record_at (target_form d).width (decode_table s).header.geometry.slots) ≡ true = eq-eqb _ _ (l ∙ new-length n en) in
            rw (of-form, free, y) (record { answer = refl; target = ev ∙ ap (λ (x : Form). moved x s) eg })
