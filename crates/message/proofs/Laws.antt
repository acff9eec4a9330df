-- Laws of the view of a frame and of its message.
use Rattle.std.specs.Prelude.{Option, Some, None, option_map}
use mathlib.Core.Path.{◌≡◌, refl, sym, ap, ◌∙◌, subst}
use mathlib.Core.List.{List}
use Prim.Native.Nat.{ℕ, ◌≤◌}
use native.Mathlib.Omega.{arith}
use lib.Dec.{lit≤}
use lib.ListN.{length, take, length-take}
use Rattle.octets.specs.Octets.{part}
use mathlib.Core.Bool.{Bool, true, false}
use Rattle.groups.specs.Groups.{width, listed, commit_length, stored, Storable}
use Rattle.groups.proofs.Laws.{storable-short, storable-none}
use Rattle.frame.specs.Frame.{read_body, token_of, commit_of}
use Rattle.frame.specs.declared.Body.{Body}
use Rattle.frame.specs.declared.Body.TheVariants as body
use Rattle.frame.proofs.Laws.{commit-short}
use Rattle.frame.proofs.Shapes.{headed, commit-shape, token-request-shape}
use Rattle.frame.proofs.RoundTrip.{commit-length-read}
use Rattle.message.specs.declared.View.{View}
use Rattle.message.specs.View.{view_of, view, read_view, commit_in, message}

-- the shape that a body is of
pub view-law : (B y : Body) (r : View) → B ≡ y → r ≡ view_of (Some y) → r ≡ view_of (Some B)
view-law B y r e q = q ∙ ap (λ b. view_of (Some b)) (sym e)

pub view-length : (B y : Body) → B ≡ y → (view_of (Some B)).toklen ≤ 256 → (view_of (Some y)).toklen ≤ 256
view-length B y e h = subst (λ (z : Body). (view_of (Some z)).toklen ≤ 256) e h

-- a token that was read is at most 256 octets
pub read-token : (gs frame : List ℕ) (x : Option Body) → x ≡ read_body gs frame → (view_of x).toklen ≤ 256
read-token gs frame (Some (body.Commit g n)) e = (commit-shape gs frame g n (sym e)).token
read-token gs frame (Some (body.Unsupported g)) e = lit≤ tt
read-token gs frame (Some (body.TokenRequest g n)) e = (token-request-shape gs frame g n (sym e)).token
read-token gs frame (Some (body.GroupRefusal g)) e = lit≤ tt
read-token gs frame (Some (body.OtherCommit s)) e = lit≤ tt
read-token gs frame (Some (body.Confirm n)) e = lit≤ tt
read-token gs frame (Some (body.OtherConfirm s)) e = lit≤ tt
read-token gs frame None e = lit≤ tt

-- a reader makes the view of a body that is of one of the shapes, and of no other
pub view-made : (gs frame : List ℕ) (x : Option Body) (b : Body) (v : View) → x ≡ read_body gs frame → x ≡ Some b → v ≡ view_of (Some b) → Some v ≡ read_view gs frame
unfolding read_view
view-made gs frame x b v e q r = rw (r, ← e, q) refl

pub view-none : (gs frame : List ℕ) (x : Option Body) → x ≡ read_body gs frame → x ≡ None → None ≡ read_view gs frame
unfolding read_view
view-none gs frame x e q = rw (← e, q) refl

-- what a reader hands on: the view, of a body that is of one of the shapes
pub view-read : (gs frame : List ℕ) (v : View) → read_view gs frame ≡ Some v → (v ≡ view gs frame) × (v.sequence ≡ 0 → ⊥) × (v.toklen ≤ 256)
unfolding view read_view
view-read gs frame v e = go (read_body gs frame) refl e
  where
    shaped : (b : Body) → (view_of (Some b)).sequence ≡ 0 → ⊥
    shaped (body.Commit g n) z = omega arith
    shaped (body.Unsupported g) z = omega arith
    shaped (body.TokenRequest g n) z = omega arith
    shaped (body.GroupRefusal g) z = omega arith
    shaped (body.OtherCommit s) z = omega arith
    shaped (body.Confirm n) z = omega arith
    shaped (body.OtherConfirm s) z = omega arith

    go : (x : Option Body) → x ≡ read_body gs frame → option_map (λ b. view_of (Some b)) x ≡ Some v → (v ≡ view_of (read_body gs frame)) × (v.sequence ≡ 0 → ⊥) × (v.toklen ≤ 256)
    go (Some b) q e =
        let r : view_of (Some b) ≡ v = cc in
        (sym r ∙ ap view_of q, (λ z. shaped b (ap (λ (w : View). w.sequence) r ∙ z)), subst (λ (w : View). w.toklen ≤ 256) r (read-token gs frame (Some b) q))
    go None q e = let z : ◌≡◌ {A = ℕ} 0 1 = cc in absurd (omega arith)

pub view-unread : (gs frame : List ℕ) → read_view gs frame ≡ None → (view gs frame).sequence ≡ 0
unfolding view read_view
view-unread gs frame e = go (read_body gs frame) e
  where
    go : (x : Option Body) → option_map (λ b. view_of (Some b)) x ≡ None → (view_of x).sequence ≡ 0
    go (Some b) e = let z : ◌≡◌ {A = ℕ} 0 1 = cc in absurd (omega arith)
    go None e = refl

pub view-short : (gs frame : List ℕ) → (view gs frame).toklen ≤ 256
unfolding view
view-short gs frame = read-token gs frame (read_body gs frame) refl

-- the commit of a frame is stored without loss with every width that has room for the listed groups
pub message-storable : (W : ℕ) (gs frame : List ℕ) → W ≤ width → ((g : ℕ) → listed gs g ≡ true → commit_length g ≤ W) → Storable W (message gs frame).commit
unfolding message view commit_in
message-storable W gs frame w room = go (read_body gs frame) refl
  where
    go : (x : Option Body) → read_body gs frame ≡ x → Storable W (commit_in frame (view_of x).listed (view_of x).group (view_of x).toklen)
    go (Some (body.Commit g n)) e = storable-short W (commit_of frame g n) w (omega (arith, commit-length-read gs frame g n e, room g (commit-shape gs frame g n e).supported))
    go (Some (body.Unsupported g)) e = storable-none W w
    go (Some (body.TokenRequest g n)) e = storable-none W w
    go (Some (body.GroupRefusal g)) e = storable-none W w
    go (Some (body.OtherCommit s)) e = storable-none W w
    go (Some (body.Confirm n)) e = storable-none W w
    go (Some (body.OtherConfirm s)) e = storable-none W w
    go None e = storable-none W w

-- where it lies: as much of it as the body has, and nothing of a body that has none
module _ (frame : List ℕ) (listed : Bool) (group n : ℕ) where
  pub heard-commit : (r : List ℕ) → listed ≡ true → r ≡ commit_of frame group n → (length r ≤ width) × (stored r ≡ commit_in frame listed group n)
  unfolding commit_in
  heard-commit r l e = (rw e (commit-short frame group n), rw (l, e) refl)

  pub heard-none : listed ≡ false → (length (take 0 frame) ≤ width) × (stored (take 0 frame) ≡ commit_in frame listed group n)
  unfolding commit_in stored
  heard-none l = (lit≤ tt, rw l refl)

-- a body that was read is at most 2,304 octets
pub view-long : (gs frame : List ℕ) → ((view gs frame).sequence ≡ 0 → ⊥) → length frame ≤ 2304
unfolding view
view-long gs frame h = (headed gs frame (read_body gs frame) refl (λ e. h (ap (λ (x : Option Body). (view_of x).sequence) (sym e)))).0.longest

-- of a status 0 Confirm the rules see its counter and nothing else
module _ (gs s u : List ℕ) (n : ℕ) (e : read_body gs s ≡ Some (body.Confirm n)) (f : read_body gs u ≡ Some (body.Confirm n)) where
  pub confirm-view : view gs s ≡ view gs u
  unfolding view
  confirm-view = rw (e, f)

  pub confirm-message : message gs s ≡ message gs u
  unfolding message view token_of part commit_in
  confirm-message = rw (e, f)

-- a token that was read has room
pub token-short : (s r : List ℕ) (n : ℕ) → n ≤ 256 → r ≡ token_of s n → length r ≤ 256
unfolding token_of part
token-short s r n h e = rw (e, length-take) (omega arith)
