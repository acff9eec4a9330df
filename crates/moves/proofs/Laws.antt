-- THE MOVED TABLE is sound and says the same as its source; there and back gives the same octets.
use mathlib.Core.Path.{◌≡◌, refl, sym, ap, ◌∙◌, subst}
use mathlib.Core.Bool.{Bool, true, false, not, ◌||◌}
use mathlib.Core.List.{List, [], ◌∷◌}
use Prim.Native.Nat.{ℕ, suc, ◌≤◌, ◌<◌}
use native.Mathlib.Omega.{arith}
use lib.Dec.{eqb, lit≤}
use lib.ListN.{length, get_or}
use lib.Seq.{length-take-le}
use borrow.Author.Tests.{eqb-true, eq-eqb, le-leb, le-ltb, ltb-false}
use Rattle.octets.specs.Octets.{Bytes}
use Rattle.std.specs.Prelude.{if◌then◌else◌}
use Rattle.octets.proofs.Scan.{clash, and_left, and_right, and_both}
use Rattle.groups.specs.Groups.{known, commit_length, listable, listed}
use Rattle.groups.proofs.Laws.{listable-known, listable-room, listable-narrow, listable-wide}
use Rattle.record.specs.declared.Form.{Form}
use Rattle.record.specs.declared.Peer.{Peer}
use Rattle.record.specs.declared.Header.{Header}
use Rattle.record.specs.Layout.{narrow, wide, form_of, form_in, width_in, groups_of, record_at, no_peer}
use Rattle.record.proofs.Laws.{StorablePeer, shape-peer, Served, narrow-served, wide-served, served-width}
use Rattle.soundness.specs.Soundness.{all_listable, each_once, groups_ok, settings_ok, header_ok}
use Rattle.soundness.proofs.Laws.{Groups, form-groups-ok, settings-form, form-settings, header-form, form-header, header-groups, header-slots, header-listed}
use Rattle.soundness.proofs.Storable.{header-room, peer-storable}
use Rattle.table.specs.Table.{Table, width_of, decode_table, encode_table, slots, slot, used_count, open_count, good_count, sound}
use Rattle.table.proofs.Octets.{Fits, none, more, FitTable, decode-encode, encode-decode, bytes-table}
use Rattle.table.proofs.Laws.{sound-header, sound-whole, sound-peer, peers-held}
use Rattle.table.proofs.Fit.{fit-decoded, fit-slot}
use Rattle.table.proofs.Kept as kept
use Rattle.causes.specs.declared.Refusal.{Refusal}
use Rattle.causes.specs.declared.Refusal.TheVariants as why
use Rattle.answers.specs.Outcome.{Outcome}
use Rattle.answers.specs.Outcome as outcome
use Rattle.moves.specs.declared.Direction.{Direction}
use Rattle.moves.specs.declared.Direction.TheVariants.{Forward, Back}
use Rattle.moves.specs.Moves.{source_form, target_form, opposite, sized, resized, moved, SameContents, is_of, hindered, hindrance, fitting, Moved, refuse_move, moves}

-- ---- the listed groups in the other form

or_right : (a b : Bool) → b ≡ true → (a || b) ≡ true
or_right true b e = refl
or_right false b e = e

-- what is listable with one width of every listed group is so with another
listable-by : (W W' : ℕ) (gs : List ℕ) → ((g : ℕ) → listed gs g ≡ true → listable W g ≡ true → listable W' g ≡ true) → all_listable W gs ≡ true → all_listable W' gs ≡ true
unfolding all_listable listed
listable-by W W' [] f a = refl
listable-by W W' (x ∷ gs) f a =
    and_both (listable W' x) _ (f x (or_left (eqb x x) (listed gs x) (eq-eqb x x refl)) (and_left (listable W x) _ a))
    (listable-by W W' gs (λ g l. f g (or_right (eqb x g) (listed gs g) l)) (and_right (listable W x) _ a))
  where
    or_left : (a b : Bool) → a ≡ true → (a || b) ≡ true
    or_left true b e = refl
    or_left false b e = absurd (clash e refl)

-- more room
listable-more : (W W' g : ℕ) → W ≤ W' → listable W g ≡ true → listable W' g ≡ true
unfolding listable
listable-more W W' g h l = and_both (known g) _ (listable-known W g l) (le-leb (commit_length g) W' (omega (arith, h, listable-room W g l)))

-- 144 octets, without group 21
listable-less : (g : ℕ) → (g ≡ 21 → ⊥) → listable 198 g ≡ true → listable 144 g ≡ true
listable-less g d l = listable-narrow g ∙ go (eqb g 19) (eqb g 20) (eqb g 21) refl (sym (listable-wide g) ∙ l)
  where
    go : (a b c : Bool) → eqb g 21 ≡ c → (a || (b || c)) ≡ true → (a || b) ≡ true
    go true b c e o = refl
    go false true c e o = refl
    go false false true e o = absurd (d (eqb-true g 21 e))
    go false false false e o = o

-- groups 19 and 20, each once, are two at most
between : (g : ℕ) → listable 144 g ≡ true → (19 ≤ g) × (g ≤ 20)
between g l = go (eqb g 19) (eqb g 20) refl refl (sym (listable-narrow g) ∙ l)
  where
    go : (a b : Bool) → eqb g 19 ≡ a → eqb g 20 ≡ b → (a || b) ≡ true → (19 ≤ g) × (g ≤ 20)
    go true b e f o = let q : g ≡ 19 = eqb-true g 19 e in (omega arith, omega arith)
    go false true e f o = let q : g ≡ 20 = eqb-true g 20 f in (omega arith, omega arith)
    go false false e f o = absurd (clash o refl)

or-false : (a b : Bool) → not (a || b) ≡ true → (a ≡ false) × (not b ≡ true)
or-false true b e = absurd (clash e refl)
or-false false b e = (refl, e)

unlike : (x y : ℕ) → eqb x y ≡ false → x ≡ y → ⊥
unlike x y e q = clash (eq-eqb x y q) e

no_third : (x y z : ℕ) → 19 ≤ x → x ≤ 20 → 19 ≤ y → y ≤ 20 → 19 ≤ z → z ≤ 20 → (y ≡ x → ⊥) → (z ≡ x → ⊥) → (z ≡ y → ⊥) → ⊥
no_third x y z x₁ x₂ y₁ y₂ z₁ z₂ d e f = omega (arith, d, e, f)

two-at-most : (gs : List ℕ) → all_listable 144 gs ≡ true → each_once gs ≡ true → length gs ≤ 2
unfolding all_listable each_once listed
two-at-most [] a o = omega arith
two-at-most (x ∷ []) a o = omega arith
two-at-most (x ∷ (y ∷ [])) a o = omega arith
two-at-most (x ∷ (y ∷ (z ∷ gs))) a o =
    let p = or-false (eqb y x) _ (and_left (not (listed (y ∷ (z ∷ gs)) x)) _ o) in
    let q = or-false (eqb z x) _ p.1 in
    let r = or-false (eqb z y) _ (and_left (not (listed (z ∷ gs) y)) _ (and_right (not (listed (y ∷ (z ∷ gs)) x)) _ o)) in
    let s = and_right (listable 144 x) _ a in
    let bx = between x (and_left (listable 144 x) _ a) in
    let by = between y (and_left (listable 144 y) _ s) in
    let bz = between z (and_left (listable 144 z) _ (and_right (listable 144 y) _ s)) in
    absurd (no_third x y z bx.0 bx.1 by.0 by.1 bz.0 bz.1 (unlike y x p.0) (unlike z x q.0) (unlike z y r.0))

-- ---- the header in the other form

-- the groups of a header, as the target's form wants them
module _ (h : Header) (ok : header_ok h ≡ true) where
  -- from 144 octets to 198
  groups-forward : h.geometry.size ≡ 864 → groups_ok wide h.settings.count h.settings.groups ≡ true
  unfolding form_of
  groups-forward e =
      let g = subst (λ (n : ℕ). Groups (form_of n) h.settings.count h.settings.groups) e (header-groups h ok) in
      let few = g.few in
      form-groups-ok wide h.settings.count h.settings.groups
      (record { some = g.some; few = omega (arith, few); listable = listable-by 144 198 (groups_of h) (λ x l. listable-more 144 198 x (lit≤ tt)) g.listable; once = g.once; rest = g.rest })

  -- and back, without group 21
  groups-back : length h.settings.groups ≡ 3 → h.geometry.size ≡ 1080 → listed (groups_of h) 21 ≡ false → groups_ok narrow h.settings.count h.settings.groups ≡ true
  unfolding form_of
  groups-back three e without =
      let g = subst (λ (n : ℕ). Groups (form_of n) h.settings.count h.settings.groups) e (header-groups h ok) in
      let few = g.few in
      let a : all_listable 144 (groups_of h) ≡ true =
      listable-by 198 144 (groups_of h) (λ x l. listable-less x (λ q. clash (subst (λ (y : ℕ). listed (groups_of h) y ≡ true) q l) without)) g.listable in
      let n : length (groups_of h) ≡ h.settings.count = length-take-le h.settings.count h.settings.groups (omega (arith, few, three)) in
      form-groups-ok narrow h.settings.count h.settings.groups
      (record { some = g.some; few = omega (arith, n, two-at-most (groups_of h) a g.once); listable = a; once = g.once; rest = g.rest })

-- a header that has its form, with the record size of a form that is served and that has room for its slots and takes its groups, has its form
header-moved : (h : Header) (f : Form) → Served f → header_ok h ≡ true → h.geometry.slots ≤ f.slots → groups_ok f h.settings.count h.settings.groups ≡ true
    → header_ok (sized h f.size) ≡ true
header-moved h f S ok few g =
    let k = header-form h ok in
    let s = settings-form (form_in h) h.settings k.settings in
    form-header (sized h f.size) (record {
      geometry = record { some = k.geometry.some; few = subst (λ (x : Form). h.geometry.slots ≤ x.slots) (sym S.told) few; first = k.geometry.first };
      spare = k.spare;
      own = k.own;
      settings = subst (λ (x : Form). settings_ok x h.settings ≡ true) (sym S.told)
          (form-settings f h.settings (record { groups = g; threshold = s.threshold; period = s.period; limit = s.limit }));
    })

-- ---- the table in the other form

fits_by : {W W' : ℕ} {ps : List Peer} → Fits W ps → ((k : ℕ) → k < length ps → StorablePeer W' (get_or ps k no_peer)) → Fits W' ps
fits_by none f = none
fits_by (more h i r) f = more h (f 0 (omega arith)) (fits_by r (λ k l. f (suc k) (omega arith)))

-- what is asked of a source and of the target's form: a sound table whose slots and groups the form takes
pub record Movable (f : Form) (t : List ℕ) : Type 0 where
  pub bytes : Bytes t
  pub sound : sound t ≡ true
  pub served : Served f
  pub few : slots (decode_table t) ≤ f.slots
  pub groups : groups_ok f (decode_table t).header.settings.count (decode_table t).header.settings.groups ≡ true

module _ (f : Form) (t : List ℕ) (M : Movable f t) where
  abbrev T : Table
  T = decode_table t

  held : length T.peers ≡ slots T
  held = peers-held t (slots T) (sound-whole t M.sound)

  moved-header : header_ok (sized T.header f.size) ≡ true
  moved-header = header-moved T.header f M.served (sound-header t M.sound) M.few M.groups

  fit-source : FitTable T
  fit-source = fit-decoded t (slots T) M.bytes (sound-whole t M.sound)

  moved_fit : FitTable (resized f.size T)
  unfolding slot
  moved_fit =
      let h = fit-source.header in
      let small = M.served.made in
      record {
        header = record {
          shape = record {
            geometry = record { slots = h.shape.geometry.slots; size = omega (arith, small, served-width f M.served); first = h.shape.geometry.first };
            counts = h.shape.counts;
            spare = h.shape.spare;
            own = h.shape.own;
            settings = h.shape.settings;
          };
          own = h.own;
        };
        peers = fits_by fit-source.peers (λ k l. storable k l);
      }
    where
      storable : (k : ℕ) → k < length T.peers → StorablePeer (width_in (sized T.header f.size)) (get_or T.peers k no_peer)
      storable k l =
          peer-storable _ _ (header-room (sized T.header f.size) moved-header) _ _ (slot T k) (shape-peer (fit-slot T k fit-source l))
          (sound-peer t M.sound k (omega (arith, l, held)))

  moved-form : kept.Form (resized f.size T)
  unfolding slot used_count open_count good_count
  moved-form = let F = kept.sound-form t M.sound in record { header = moved-header; each = F.each; apart = F.apart; counts = F.counts }

  -- THE SAME CONTENTS
  moved-table : decode_table (moved f t) ≡ resized f.size T
  unfolding moved
  moved-table = decode-encode (resized f.size T) moved_fit

  -- A SOUND TABLE, of the form f
  moved-sound : sound (moved f t) ≡ true
  unfolding moved
  moved-sound = kept.form-sound (resized f.size T) moved_fit held moved-form

  moved-bytes : Bytes (moved f t)
  unfolding moved
  moved-bytes = bytes-table (resized f.size T) moved_fit

  pub moved-size : (decode_table (moved f t)).header.geometry.size ≡ f.size
  moved-size = ap (λ (X : Table). X.header.geometry.size) moved-table

  pub moved_same : SameContents t (moved f t)
  moved_same = record { bytes₁ = M.bytes; bytes₂ = moved-bytes; sound₁ = M.sound; sound₂ = moved-sound; table = moved-table ∙ ap (λ (n : ℕ). resized n T) (sym moved-size) }

-- ---- tables of the same contents

pub same_refl : (t : List ℕ) → Bytes t → sound t ≡ true → SameContents t t
same_refl t b s = record { bytes₁ = b; bytes₂ = b; sound₁ = s; sound₂ = s; table = refl }

pub same-sym : (t u : List ℕ) → SameContents t u → SameContents u t
same-sym t u S = record {
  bytes₁ = S.bytes₂;
  bytes₂ = S.bytes₁;
  sound₁ = S.sound₂;
  sound₂ = S.sound₁;
  table = ap (resized (decode_table t).header.geometry.size) (sym S.table);
}

pub same-trans : (t u v : List ℕ) → SameContents t u → SameContents u v → SameContents t v
same-trans t u v S R = record {
  bytes₁ = S.bytes₁;
  bytes₂ = R.bytes₂;
  sound₁ = S.sound₁;
  sound₂ = R.sound₂;
  table = R.table ∙ ap (resized (decode_table v).header.geometry.size) S.table;
}

-- and of the same form they are the same octets
pub same-octets : (t u : List ℕ) → SameContents t u → (decode_table u).header.geometry.size ≡ (decode_table t).header.geometry.size → t ≡ u
same-octets t u S e =
    sym (encode-decode t (slots (decode_table t)) S.bytes₁ (sound-whole t S.sound₁))
    ∙ ap encode_table (sym (S.table ∙ ap (λ (n : ℕ). resized n (decode_table t)) e))
    ∙ encode-decode u (slots (decode_table u)) S.bytes₂ (sound-whole u S.sound₂)

-- ---- what a move asks is what its target's form asks

pub source_sound : (f : Form) (t : List ℕ) → is_of f t ≡ true → sound t ≡ true
unfolding is_of
source_sound f t e = and_left (sound t) _ e

pub source-size : (f : Form) (t : List ℕ) → is_of f t ≡ true → (decode_table t).header.geometry.size ≡ f.size
unfolding is_of
source-size f t e = eqb-true _ _ (and_right (sound t) _ e)

-- the slots of a sound table are no more than its form has
few-slots : (t : List ℕ) (n : ℕ) → sound t ≡ true → (decode_table t).header.geometry.size ≡ n → slots (decode_table t) ≤ (form_of n).slots
few-slots t n s e = subst (λ (m : ℕ). slots (decode_table t) ≤ (form_of m).slots) e (header-form (decode_table t).header (sound-header t s)).geometry.few

pub movable : (d : Direction) (t : List ℕ) → Bytes t → is_of (source_form d) t ≡ true → hindered d (decode_table t).header ≡ false → Movable (target_form d) t
movable Forward t b o n = record {
  bytes = b;
  sound = source_sound narrow t o;
  served = wide-served;
  few = ltb-false 60 (slots (decode_table t)) n;
  groups = groups-forward (decode_table t).header (sound-header t (source_sound narrow t o)) (source-size narrow t o);
}
movable Back t b o n = record {
  bytes = b;
  sound = source_sound wide t o;
  served = narrow-served;
  few = few;
  groups = groups-back (decode_table t).header (sound-header t (source_sound wide t o)) three (source-size wide t o) n;
}
  where
    few : slots (decode_table t) ≤ 64
    few = omega (arith, header-slots (decode_table t).header (sound-header t (source_sound wide t o)))

    three : length (decode_table t).header.settings.groups ≡ 3
    three = (fit-decoded t (slots (decode_table t)) b (sound-whole t (source_sound wide t o))).header.shape.settings.groups

-- ---- a move that is done

-- what it has passed
pub record Passed (d : Direction) (t target : List ℕ) : Type 0 where
  pub source : is_of (source_form d) t ≡ true
  pub free : hindered d (decode_table t).header ≡ false
  pub fits : fitting (target_form d) (decode_table t).header target ≡ true

clashed : {c : Refusal} {X : Type 0} → ◌≡◌ {A = Outcome} (outcome.Refused c) outcome.Done → X
clashed e = let z : ◌≡◌ {A = ℕ} 0 1 = cc in absurd (omega arith)

module _ (d : Direction) (t target : List ℕ) where
  pub done-passed : (moves d t target).answer ≡ outcome.Done → Passed d t target
  unfolding moves
  done-passed e = go (is_of (source_form d) t) (hindered d (decode_table t).header) (fitting (target_form d) (decode_table t).header target) refl refl refl e
    where
      go : (x y z : Bool) → is_of (source_form d) t ≡ x → hindered d (decode_table t).header ≡ y → fitting (target_form d) (decode_table t).header target ≡ z
          → (if not x then refuse_move target why.Unsound else if y then refuse_move target (hindrance d) else if not z then refuse_move target why.Target else record { answer = outcome.Done; target = moved (target_form d) t }).answer ≡ outcome.Done
          → Passed d t target
      go false y z ex ey ez q = clashed q
      go true true z ex ey ez q = clashed q
      go true false false ex ey ez q = clashed q
      go true false true ex ey ez q = record { source = ex; free = ey; fits = ez }

  -- and what passes them is done: the target is the source in the other form
  pub passed-done : Passed d t target → moves d t target ≡ record { answer = outcome.Done; target = moved (target_form d) t }
  unfolding moves
  passed-done D = rw (D.source, D.free, D.fits) refl

  pub done-movable : Bytes t → Passed d t target → Movable (target_form d) t
  done-movable b D = movable d t b D.source D.free

-- ---- the way back

source-width : (d : Direction) → form_of (source_form d).size ≡ source_form d
unfolding form_of
source-width Forward = refl
source-width Back = refl

back-source : (d : Direction) → target_form d ≡ source_form (opposite d)
back-source Forward = refl
back-source Back = refl

back_target : (d : Direction) → target_form (opposite d) ≡ source_form d
back_target Forward = refl
back_target Back = refl

-- nothing hinders the way back: a table of 864-octet records lists no 21, one of 1,080 has 60 slots at most
no_room : listable 144 21 ≡ false
no_room = listable-narrow 21

back-free : (d : Direction) (t : List ℕ) (n : ℕ) → is_of (source_form d) t ≡ true → hindered (opposite d) (sized (decode_table t).header n) ≡ false
unfolding form_of
back-free Forward t n o = go (listed (groups_of (decode_table t).header) 21) refl
  where
    ok : header_ok (decode_table t).header ≡ true
    ok = sound-header t (source_sound narrow t o)

    go : (b : Bool) → listed (groups_of (decode_table t).header) 21 ≡ b → b ≡ false
    go true l = absurd (clash (subst (λ (m : ℕ). listable (form_of m).width 21 ≡ true) (source-size narrow t o) (header-listed (decode_table t).header ok 21 l)) no_room)
    go false l = refl
back-free Back t n o = le-ltb 60 (slots (decode_table t)) (few-slots t 1080 (source_sound wide t o) (source-size wide t o))

module _ (d : Direction) (t target back : List ℕ) (b : Bytes t) (D : Passed d t target) (l : length back ≡ length t) where
  abbrev there : List ℕ
  there = moved (target_form d) t

  movable-there : Movable (target_form d) t
  movable-there = done-movable d t target b D

  same-there : SameContents t there
  same-there = moved_same (target_form d) t movable-there

  size-there : (decode_table there).header.geometry.size ≡ (source_form (opposite d)).size
  size-there = moved-size (target_form d) t movable-there ∙ ap (λ (f : Form). f.size) (back-source d)

  whole_back : length back ≡ record_at (target_form (opposite d)).width (slots (decode_table there))
  unfolding decode_table
  whole_back =
      let n : width_of t ≡ (target_form (opposite d)).width =
      ap (λ (m : ℕ). (form_of m).width) (source-size (source_form d) t D.source) ∙ ap (λ (f : Form). f.width) (source-width d ∙ sym (back_target d)) in
      l ∙ sound-whole t (source_sound (source_form d) t D.source) ∙ (λ i. record_at (n i) (slots (sym same-there.table i)))

  done-back : Passed (opposite d) there back
  unfolding is_of fitting
  done-back = record {
    source = and_both (sound there) _ same-there.sound₂ (eq-eqb _ _ size-there);
    free = subst (λ (T : Table). hindered (opposite d) T.header ≡ false) (sym same-there.table) (back-free d t _ D.source);
    fits = eq-eqb _ _ whole_back;
  }

  same_back : moved (target_form (opposite d)) there ≡ t
  same_back =
      let M = done-movable (opposite d) there back same-there.bytes₂ done-back in
      let S = same-trans t there _ same-there (moved_same (target_form (opposite d)) there M) in
      sym (same-octets t _ S (moved-size (target_form (opposite d)) there M ∙ ap (λ (f : Form). f.size) (back_target d) ∙ sym (source-size (source_form d) t D.source)))

-- THERE AND BACK gives the same octets, from either form, whatever the two targets held
pub there_and_back : (d : Direction) (t target back : List ℕ) → Bytes t → (moves d t target).answer ≡ outcome.Done → length back ≡ length t
    → moves (opposite d) (moves d t target).target back ≡ record { answer = outcome.Done; target = t }
there_and_back d t target back b e l =
    let D = done-passed d t target e in
    ap (λ (m : Moved). moves (opposite d) m.target back) (passed-done d t target D)
    ∙ passed-done (opposite d) (moved (target_form d) t) back (done-back d t target back b D l)
    ∙ ap (λ (u : List ℕ). record { answer = outcome.Done; target = u }) (same_back d t target back b D l)
