-- A record as it is stored with another width: four pieces, each some octets as they are and then a commit, cut or filled up.
use mathlib.Core.Path.{◌≡◌, refl, sym, ap, ◌∙◌}
use mathlib.Core.List.{List, [], ◌∷◌, ◌++◌, map, append_assoc, append-nil}
use Prim.Native.Nat.{ℕ, ◌+◌, ◌-◌, ◌≤◌}
use native.Mathlib.Omega.{arith}
use lib.ListN.{length, take, drop, replicate, length-append, length-replicate}
use lib.Seq.{length-take-le, take-append-le, take-append-add}
use borrow.Rule.Slice.PartMut.{put_mid}
use Rattle.octets.specs.Octets.{Bytes, part, put}
use Rattle.octets.proofs.Laws.{length_part, put-put, part-part, part-add, mid-put, oct-part, bytes-part}
use Rattle.groups.specs.Groups.{width, stored}
use Rattle.groups.proofs.Laws.{stored-length, take-zeros}
use Rattle.record.specs.Codec.{cut, glue, total}
use Rattle.record.specs.Layout.{run_size, link_size, record_size, run_peer_at, run_token_at, link_at, link_peer_at, run_widths, run_fields, run_of, encode_run, decode_run, link_widths, link_fields, link_of, encode_link, decode_link, peer_widths, peer_fields, peer_of, encode_peer, decode_peer}
use Rattle.record.proofs.Codec.{lay, lay-all}

-- a commit from at, as it is stored with W' octets
abbrev recut : ℕ → ℕ → List ℕ → ℕ → List ℕ
recut W W' s at = take W' (stored (part s at W))

module _ (W W' : ℕ) (s : List ℕ) (b : Bytes s) where
  -- the numbers of a run, side by side
  run-numbers : (x : List ℕ) → part s 0 1 ++ (part s 1 1 ++ (part s 2 1 ++ (part s 3 2 ++ (part s 5 2 ++ (part s 7 2 ++ (part s 9 4 ++ x)))))) ≡ part s 0 13 ++ x
  run-numbers x = rw (part-add s 0 9 4, part-add s 0 7 2, part-add s 0 5 2, part-add s 0 3 2, part-add s 0 2 1, part-add s 0 1 1) (simp append_assoc)

  run-pieces : length s ≡ run_size W → encode_run W' (decode_run W s) ≡ part s 0 13 ++ (recut W W' s 13 ++ (recut W W' s (13 + W) ++ part s (13 + W + W) 256))
  unfolding encode_run decode_run run_fields run_of run_widths cut glue
  run-pieces h =
      let k : 13 ≤ length s = omega arith in
      rw (
        oct-part s 0 1 b (omega arith),
        oct-part s 1 1 b (omega arith),
        oct-part s 2 1 b (omega arith),
        oct-part s 3 2 b (omega arith),
        oct-part s 5 2 b (omega arith),
        oct-part s 7 2 b (omega arith),
        oct-part s 9 4 b (omega arith),
        append-nil,
      )
      (run-numbers _)

  link-numbers : (x : List ℕ) → part s 0 1 ++ (part s 1 1 ++ (part s 2 1 ++ (part s 3 1 ++ (part s 4 2 ++ (part s 6 2 ++ (part s 8 4 ++ x)))))) ≡ part s 0 12 ++ x
  link-numbers x = rw (part-add s 0 8 4, part-add s 0 6 2, part-add s 0 4 2, part-add s 0 3 1, part-add s 0 2 1, part-add s 0 1 1) (simp append_assoc)

  link-pieces : length s ≡ link_size W → encode_link W' (decode_link W s) ≡ part s 0 12 ++ (recut W W' s 12 ++ recut W W' s (12 + W))
  unfolding encode_link decode_link link_fields link_of link_widths cut glue
  link-pieces h =
      let k : 12 ≤ length s = omega arith in
      rw (
        oct-part s 0 1 b (omega arith),
        oct-part s 1 1 b (omega arith),
        oct-part s 2 1 b (omega arith),
        oct-part s 3 1 b (omega arith),
        oct-part s 4 2 b (omega arith),
        oct-part s 6 2 b (omega arith),
        oct-part s 8 4 b (omega arith),
        append-nil,
      )
      (link-numbers _)

-- m octets from at, and the commit behind them
abbrev pub piece : ℕ → ℕ → List ℕ → ℕ → ℕ → List ℕ
piece W W' s at m = part s at m ++ recut W W' s (at + m)

-- THE FOUR PIECES of a record: in front of each commit what lies there, up to the run's own commit, nothing, up to the link's own commit, nothing
unfoldable pub pieces : ℕ → ℕ → List ℕ → List (List ℕ)
pieces W W' s = piece W W' s 0 20 ∷ piece W W' s (20 + W) 0 ∷ piece W W' s (20 + W + W) 268 ∷ piece W W' s (288 + W + W + W) 0 ∷ []

module _ (W W' : ℕ) (s : List ℕ) (b : Bytes s) (h : length s ≡ record_size W) where
  abbrev run : List ℕ
  run = part s 7 (total (run_widths W))

  abbrev link : List ℕ
  link = part s (7 + total (run_widths W)) (total (link_widths W))

  run_long : total (run_widths W) ≡ run_size W
  unfolding total run_widths
  run_long = omega arith

  link-long : total (link_widths W) ≡ link_size W
  unfolding total link_widths
  link-long = omega arith

  in-run : (at n : ℕ) → at + n ≤ run_size W → part run at n ≡ part s (7 + at) n
  in-run at n l = part-part s 7 (total (run_widths W)) at n (omega (arith, l, run_long))

  in-link : (at n : ℕ) → at + n ≤ link_size W → part link at n ≡ part s (276 + W + W + at) n
  in-link at n l =
      let e : 7 + total (run_widths W) + at ≡ 276 + W + W + at = omega (arith, run_long) in
      part-part s (7 + total (run_widths W)) (total (link_widths W)) at n (omega (arith, l, link-long)) ∙ ap (λ (k : ℕ). part s k n) e

  -- the same octets, told by where they begin in the record
  run-in-record : encode_run W' (decode_run W run) ≡ part s 7 13 ++ (recut W W' s 20 ++ (recut W W' s (20 + W) ++ part s (20 + W + W) 256))
  run-in-record =
      let e₁ : 7 + (13 + W) ≡ 20 + W = omega arith in
      let e₂ : 7 + (13 + W + W) ≡ 20 + W + W = omega arith in
      run-pieces W W' run (bytes-part s 7 _ b) (length_part s 7 _ (omega (arith, h, run_long)) ∙ run_long)
      ∙ rw (in-run 0 13 (omega arith), in-run 13 W (omega arith), in-run (13 + W) W (omega arith), in-run (13 + W + W) 256 (omega arith), e₁, e₂) refl

  link-in-record : encode_link W' (decode_link W link) ≡ part s (276 + W + W) 12 ++ (recut W W' s (288 + W + W) ++ recut W W' s (288 + W + W + W))
  link-in-record =
      let e₀ : 276 + W + W + 0 ≡ 276 + W + W = omega arith in
      let e₁ : 276 + W + W + 12 ≡ 288 + W + W = omega arith in
      let e₂ : 276 + W + W + (12 + W) ≡ 288 + W + W + W = omega arith in
      link-pieces W W' link (bytes-part s _ _ b) (length_part s _ _ (omega (arith, h, run_long, link-long)) ∙ link-long)
      ∙ rw (in-link 0 12 (omega arith), in-link 12 W (omega arith), in-link (12 + W) W (omega arith), e₀, e₁, e₂) refl

  joined : (a b₁ c d e f g i j : List ℕ) → a ++ (b₁ ++ ((c ++ (d ++ (e ++ f))) ++ ((g ++ (i ++ j)) ++ [])))
      ≡ ((a ++ (b₁ ++ c)) ++ d) ++ (([] ++ e) ++ (((f ++ g) ++ i) ++ (([] ++ j) ++ [])))
  joined a b₁ c d e f g i j = simp (append_assoc, append-nil)

  front : part s 0 1 ++ (part s 1 6 ++ part s 7 13) ≡ part s 0 20
  front = sym (rw (part-add s 0 7 13, part-add s 0 1 6) (simp append_assoc))

  middle : part s (20 + W + W) 256 ++ part s (276 + W + W) 12 ≡ part s (20 + W + W) 268
  middle = let e : 20 + W + W + 256 ≡ 276 + W + W = omega arith in sym (part-add s (20 + W + W) 256 12 ∙ rw e refl)

  pub record-pieces : encode_peer W' (decode_peer W s) ≡ glue (pieces W W' s)
  unfolding encode_peer decode_peer peer_fields peer_of peer_widths cut glue pieces part
  record-pieces =
      let e₁ : 20 + W + 0 ≡ 20 + W = omega arith in
      let e₂ : 20 + W + W + 268 ≡ 288 + W + W = omega arith in
      let e₃ : 288 + W + W + W + 0 ≡ 288 + W + W + W = omega arith in
      rw (e₁, e₂, e₃, ← front, ← middle, oct-part s 0 1 b (omega (arith, h)), run-in-record, link-in-record)
      (joined (part s 0 1) (part s 1 6) (part s 7 13) (recut W W' s 20) (recut W W' s (20 + W)) (part s (20 + W + W) 256) (part s (276 + W + W) 12) (recut W W' s (288 + W + W)) (recut W W' s (288 + W + W + W)))

-- ---- what the copies show

-- a slice of n octets
pub slice-part : (s : List ℕ) (at n : ℕ) → take (at + n - at) (drop at s) ≡ part s at n
unfolding part
slice-part s at n = let e : at + n - at ≡ n = omega arith in rw e refl

pub clear-law : (t y : List ℕ) (at n : ℕ) → at + n ≤ length t → y ≡ replicate (length (take (at + n - at) (drop at t))) 0 → put_mid at (at + n - at) t y ≡ put t at (replicate n 0)
clear-law t y at n h e =
    let m : at + n - at ≡ n = omega arith in
    let l : length (take (at + n - at) (drop at t)) ≡ n = ap length (slice-part t at n) ∙ length_part t at n h in
    let q : y ≡ replicate n 0 = e ∙ ap (λ (k : ℕ). replicate k 0) l in
    mid-put at (at + n - at) t y (ap length q ∙ length-replicate {A = ℕ} n 0 ∙ sym m) ∙ ap (put t at) q

-- a commit that is cut
cut-piece : (W W' : ℕ) (s : List ℕ) (at m : ℕ) → W' ≤ W → at + m + W ≤ length s → part s at (m + W') ≡ piece W W' s at m
unfolding stored part
cut-piece W W' s at m h l =
    let n : length (part s (at + m) W) ≡ W = length_part s (at + m) W l in
    let e : at + m + 0 ≡ at + m = omega arith in
    part-add s at m W' ∙ ap (λ (x : List ℕ). part s at m ++ x)
    (sym (take-append-le W' (part s (at + m) W) (replicate (width - length (part s (at + m) W)) 0) (omega arith) ∙ part-part s (at + m) W 0 W' (omega arith) ∙ ap (λ (k : ℕ). part s k W') e))

-- and one that is filled up with zeros
filled-commit : (c : List ℕ) (W W' : ℕ) → length c ≡ W → W ≤ W' → W' ≤ width → take W' (stored c) ≡ c ++ replicate (W' - W) 0
unfolding stored
filled-commit c W W' e h l =
    let q : W' ≡ length c + (W' - W) = omega arith in
    ap (λ (k : ℕ). take k (c ++ replicate (width - length c) 0)) q ∙ take-append-add c (replicate (width - length c) 0) (W' - W)
    ∙ ap (λ (x : List ℕ). c ++ x) (take-zeros (W' - W) (width - length c) (omega arith))

filled-piece : (W W' : ℕ) (s : List ℕ) (at m : ℕ) → W ≤ W' → W' ≤ width → at + m + W ≤ length s → part s at (m + W) ++ replicate (W' - W) 0 ≡ piece W W' s at m
filled-piece W W' s at m h l n =
    ap (λ (x : List ℕ). x ++ replicate (W' - W) 0) (part-add s at m W) ∙ append_assoc (part s at m) (part s (at + m) W) (replicate (W' - W) 0)
    ∙ ap (λ (x : List ℕ). part s at m ++ x) (sym (filled-commit (part s (at + m) W) W W' (length_part s (at + m) W n) h l))

-- what `move_piece` shows
module _ (s t : List ℕ) (from m W to W' : ℕ) (f : from + m + W ≤ length s) where
  pub cut-law : (u : List ℕ) → W' ≤ W → u ≡ put t to (part s from (m + W')) → u ≡ put t to (piece W W' s from m)
  cut-law u h e = e ∙ ap (put t to) (cut-piece W W' s from m h f)

  pub filled-law : (u v : List ℕ) → W ≤ W' → W' ≤ width → to + m + W' ≤ length t → u ≡ put t to (part s from (m + W)) → v ≡ put u (to + m + W) (replicate (W' - W) 0)
      → v ≡ put t to (piece W W' s from m)
  filled-law u v h l g e q =
      let n : length (part s from (m + W)) ≡ m + W = length_part s from (m + W) (omega arith) in
      let k : to + m + W ≡ to + length (part s from (m + W)) = omega arith in
      q ∙ ap (λ (x : List ℕ). put x (to + m + W) (replicate (W' - W) 0)) e ∙ ap (λ (i : ℕ). put (put t to (part s from (m + W))) i (replicate (W' - W) 0)) k
      ∙ put-put t to (part s from (m + W)) (replicate (W' - W) 0) (omega (arith, length-replicate {A = ℕ} (W' - W) 0)) ∙ ap (put t to) (filled-piece W W' s from m h l f)

length-piece : (W W' : ℕ) (s : List ℕ) (at m : ℕ) → W ≤ width → W' ≤ width → at + m + W ≤ length s → length (piece W W' s at m) ≡ m + W'
length-piece W W' s at m h l n =
    let c : length (part s (at + m) W) ≡ W = length_part s (at + m) W n in
    let q : length (recut W W' s (at + m)) ≡ W' = length-take-le W' (stored (part s (at + m) W)) (omega (arith, stored-length (part s (at + m) W) (omega arith))) in
    length-append (part s at m) (recut W W' s (at + m)) ∙ omega (arith, length_part s at m (omega arith), q)

pieces-long : (W W' : ℕ) (s : List ℕ) → W ≤ width → W' ≤ width → length s ≡ record_size W
    → map length (pieces W W' s) ≡ (20 + W') ∷ (0 + W') ∷ (268 + W') ∷ (0 + W') ∷ []
unfolding pieces
pieces-long W W' s h l n =
    let a = length-piece W W' s 0 20 h l (omega arith) in
    let b = length-piece W W' s (20 + W) 0 h l (omega arith) in
    let c = length-piece W W' s (20 + W + W) 268 h l (omega arith) in
    let d = length-piece W W' s (288 + W + W + W) 0 h l (omega arith) in
    cc (a, b, c, d)

-- what `move_record` shows; a₂ to a₄ are where the pieces begin in the source, b₂ to b₄ in the target
pub move-record-law : (W W' : ℕ) (s t t₁ t₂ t₃ t₄ : List ℕ) (a₂ b₂ a₃ b₃ a₄ b₄ : ℕ) → W ≤ width → W' ≤ width → Bytes s → length s ≡ record_size W → length t ≡ record_size W'
    → a₂ ≡ 7 + run_peer_at W → b₂ ≡ 7 + run_peer_at W' → a₃ ≡ 7 + run_token_at W → b₃ ≡ 7 + run_token_at W' → a₄ ≡ link_at W + link_peer_at W → b₄ ≡ link_at W' + link_peer_at W'
    → t₁ ≡ put t 0 (piece W W' s 0 20) → t₂ ≡ put t₁ b₂ (piece W W' s a₂ 0) → t₃ ≡ put t₂ b₃ (piece W W' s a₃ 268) → t₄ ≡ put t₃ b₄ (piece W W' s a₄ 0)
    → t₄ ≡ encode_peer W' (decode_peer W s)
unfolding lay pieces total
move-record-law W W' s t t₁ t₂ t₃ t₄ a₂ b₂ a₃ b₃ a₄ b₄ h l b n m p₂ q₂ p₃ q₃ p₄ q₄ e₁ e₂ e₃ e₄ =
    let i₂ : a₂ ≡ 20 + W = omega arith in
    let i₃ : a₃ ≡ 20 + W + W = omega arith in
    let i₄ : a₄ ≡ 288 + W + W + W = omega arith in
    let j₂ : b₂ ≡ 0 + (20 + W') = omega arith in
    let j₃ : b₃ ≡ 0 + (20 + W') + (0 + W') = omega arith in
    let j₄ : b₄ ≡ 0 + (20 + W') + (0 + W') + (268 + W') = omega arith in
    e₄ ∙ rw (e₃, e₂, e₁, i₂, i₃, i₄, j₂, j₃, j₄)
    (lay-all ((20 + W') ∷ (0 + W') ∷ (268 + W') ∷ (0 + W') ∷ []) (pieces W W' s) t (pieces-long W W' s h l n) (m ∙ omega arith)) ∙ sym (record-pieces W W' s b n)
