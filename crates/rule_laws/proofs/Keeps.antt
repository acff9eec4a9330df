-- What an act makes of a record that fits and has the form, with sound inputs, fits and has the form too, or is the free one, and is the address's.
use Rattle.std.specs.Prelude.{Option, Some, None, is_some}
use mathlib.Core.Path.{◌≡◌, refl, sym, ap, ◌∙◌, subst}
use mathlib.Core.Bool.{Bool, true, false, not, ◌||◌}
use mathlib.Core.List.{List, [], ◌∷◌}
use mathlib.Core.Logic.{inl, inr}
use Prim.Native.Nat.{ℕ, zero, suc, ◌+◌, ◌-◌, ◌*◌, ◌/◌, ◌%◌, ◌^◌, ◌≤◌, ◌<◌}
use native.Mathlib.Omega.{arith}
use native.Mathlib.Decide.{ℕ_discrete}
use native.Mathlib.Nat.{mod-lt, div-lt_iff_lt-mul, mul_comm, lt-div-mul-add, mul-le-mul_right, add-mul, pow-suc}
use lib.Pow.{pow-add}
use lib.Dec.{eqb, lit<, lit≤}
use lib.ListN.{length, drop, get_or, replicate, length-replicate}
use borrow.Author.Tests.{eqb-false, eq-eqb, ne_eqb, not-true}
use Rattle.octets.specs.Octets.{Bytes, all_zero}
use Rattle.octets.proofs.Laws.{bytes-part}
use Rattle.octets.proofs.Scan.{clash, and_left, and_right}
use Rattle.octets.proofs.Tests.{zero-zeros}
use Rattle.groups.specs.Groups.{width, known, listed, fresh_of, fresh_at, fresh_for, index_of, place, place_from, place_or0, mark, marked}
use Rattle.groups.proofs.Laws.{place-from, stored_bytes, none-marked, pow_pos, room_in, chosen, place_at, listed-place}
use Rattle.groups.proofs.Fresh.{fresh-part, fresh-width}
use Rattle.record.specs.declared.Run.{Run}
use Rattle.record.specs.declared.Link.{Link}
use Rattle.record.specs.declared.Peer.{Peer}
use Rattle.record.specs.Layout.{no_run, no_link, no_peer}
use Rattle.record.proofs.Laws.{FitRun, FitLink, FitPeer, shape-peer, fit-no-run, fit-no-link, fit-no-peer}
use Rattle.soundness.specs.Soundness.{usable, each_once, commit_ok, token_ok, rejected_ok, committed_ok, confirmed_ok, run_ok, link_ok, peer_ok}
use Rattle.soundness.proofs.Laws.{Token, Committed, Confirmed, Finished, no-run-ok, no-link-ok, no-peer-ok, run-unused, peer-unused, run-is-committed, committed-is-run, run-is-confirmed, confirmed-is-run, run-states, link-is-finished, finished-is-link, peer-in-use, in-use-peer}
use Rattle.rules.specs.declared.Frames.{Frames}
use Rattle.rules.specs.declared.Frames.TheVariants.{One}
use Rattle.rules.specs.Parts.{with_sync, with_sc, with_token, switched, heard_again, with_run, with_link}
use Rattle.rules.specs.declared.Clock.{Clock}
use Rattle.rules.specs.Book.{Step, commit_frame, deadline, delay, set_t0, sending, answering, settled, abandoning, retransmitting, supersede, formed_run, forming, link_of_run, accepting, ending_link, started_run, starting, switching, replying_token}
use Rattle.rules.specs.Message.{Message}
use Rattle.rule_laws.proofs.Outcomes.{whether, switch-outcomes, repeat-outcomes, settle-outcomes}

-- ---- what is handed over

-- the call's address
pub record Place (own a : List ℕ) : Type 0 where
  pub six : length a ≡ 6
  pub bytes : Bytes a
  pub usable : usable own a ≡ true

-- the listed groups: known ones, each once
pub record Lists (gs : List ℕ) : Type 0 where
  pub few : length gs ≤ 8
  pub known : (g : ℕ) → listed gs g ≡ true → known g ≡ true
  pub once : each_once gs ≡ true

-- a commit of a group as it is stored
pub record Stored (g : ℕ) (c : List ℕ) : Type 0 where
  pub long : length c ≡ width
  pub bytes : Bytes c
  pub tail : commit_ok g c ≡ true

-- the fresh commits of the listed groups
pub record Stock (gs : List ℕ) (fresh : List (List ℕ)) : Type 0 where
  pub each : (i : ℕ) → i < length gs → Stored (get_or gs i 0) (fresh_at fresh i)

-- a stock lent as octets, W for each group
pub stock-form : (W : ℕ) (gs s : List ℕ) → 1 ≤ W → W ≤ width → length s ≡ W * length gs → Bytes s
    → ((i : ℕ) → i < length gs → commit_ok (get_or gs i 0) (fresh_at (fresh_of W s) i) ≡ true) → Stock gs (fresh_of W s)
stock-form W gs s p w l b f =
    record {
      each = λ i h. let r = room_in W i (length gs) (length s) h l in
          record {
            long = fresh-width W i s p w r;
            bytes = subst Bytes (sym (fresh-part W i s p r)) (stored_bytes _ (bytes-part s (W * i) W b));
            tail = f i h;
          };
    }

-- a received Commit as the rules see it
pub record Heard (gs : List ℕ) (m : Message) : Type 0 where
  pub group : m.listed ≡ true → listed gs m.group ≡ true
  pub long : length m.commit ≡ width
  pub bytes : Bytes m.commit
  pub tail : m.listed ≡ true → commit_ok m.group m.commit ≡ true
  pub short : m.toklen ≤ 256
  pub token : length m.token ≡ 256
  pub octets : Bytes m.token
  pub rest : all_zero (drop m.toklen m.token) ≡ true

-- ---- what is kept

-- a record that the address may have: it fits, it has the form, and it is the address's if it is in use
pub record Kept (own gs : List ℕ) (high : ℕ) (a : List ℕ) (p : Peer) : Type 0 where
  pub fits : FitPeer width p
  pub form : peer_ok own gs high p ≡ true
  pub place : (p.used ≡ 0 → ⊥) → p.address ≡ a

pub record Keeps (own gs : List ℕ) (high : ℕ) (a : List ℕ) (s : Step) : Type 0 where
  pub kept : Kept own gs high a s.peer

-- run and link, whether the record is in use or free
pub record Parts (gs : List ℕ) (high : ℕ) (p : Peer) : Type 0 where
  pub run : run_ok gs high p.run ≡ true
  pub link : link_ok gs high p.link ≡ true
  pub fit_run : FitRun width p.run
  pub fit_link : FitLink width p.link

pub kept_free : (own gs : List ℕ) (high : ℕ) (a : List ℕ) → Kept own gs high a no_peer
unfolding no_peer
kept_free own gs high a = record { fits = fit-no-peer; form = no-peer-ok own gs high; place = λ d. absurd (d refl) }

parts_free : (gs : List ℕ) (high : ℕ) → Parts gs high no_peer
unfolding no_peer
parts_free gs high = record { run = no-run-ok gs high; link = no-link-ok gs high; fit_run = fit-no-run; fit_link = fit-no-link }

module _ (own gs : List ℕ) (high : ℕ) (a : List ℕ) where
  unused : (p : Peer) → Kept own gs high a p → p.used ≡ 0 → p ≡ no_peer
  unused p k e = peer-unused own gs high p (shape-peer k.fits) k.form e

  pub parts : (p : Peer) → Kept own gs high a p → Parts gs high p
  parts p k = elim (ℕ_discrete p.used 0) [
    | yes e ↦ subst (λ (q : Peer). Parts gs high q) (sym (unused p k e)) (parts_free gs high)
    | no d ↦ let f = peer-in-use own gs high p d k.form in record { run = f.run; link = f.link; fit_run = k.fits.run; fit_link = k.fits.link }
  ]

  -- a record with a run, or with a link, is in use
  pub run-used : (p : Peer) → Kept own gs high a p → (p.run.state ≡ 0 → ⊥) → p.used ≡ 1
  unfolding no_peer no_run
  run-used p k h = elim (ℕ_discrete p.used 0) [
    | yes e ↦ absurd (h (ap (λ (q : Peer). q.run.state) (unused p k e)))
    | no d ↦ (peer-in-use own gs high p d k.form).used
  ]

  pub link-used : (p : Peer) → Kept own gs high a p → (p.link.finished ≡ 0 → ⊥) → p.used ≡ 1
  unfolding no_peer no_link
  link-used p k h = elim (ℕ_discrete p.used 0) [
    | yes e ↦ absurd (h (ap (λ (q : Peer). q.link.finished) (unused p k e)))
    | no d ↦ (peer-in-use own gs high p d k.form).used
  ]

  -- the address of a record in use is a usable one
  pub place_of : (p : Peer) → Kept own gs high a p → p.used ≡ 1 → Place own a
  place_of p k e =
      let d : p.used ≡ 0 → ⊥ = λ z. omega arith in
      let q = k.place d in
      record { six = ap length (sym q) ∙ k.fits.address; bytes = subst Bytes q k.fits.bytes; usable = subst (λ (x : List ℕ). usable own x ≡ true) q (peer-in-use own gs high p d k.form).usable }

  some_of : (x y : ℕ) → ((x ≡ 0) × (y ≡ 0) → ⊥) → (not (eqb x 0) || not (eqb y 0)) ≡ true
  some_of x y h = elim (ℕ_discrete x 0) [
    | yes e ↦ elim (ℕ_discrete y 0) [ yes f ↦ absurd (h (e, f)) | no d ↦ rw (eq-eqb x 0 e, ne_eqb y 0 d) refl ]
    | no d ↦ rw (ne_eqb x 0 d) refl
  ]

  -- a record in use, from its parts
  seated : (q : Peer) → Place own a → q.used ≡ 1 → q.address ≡ a → Parts gs high q → ((q.run.state ≡ 0) × (q.link.finished ≡ 0) → ⊥) → Kept own gs high a q
  seated q c u e f h =
      record {
        fits = record { used = omega arith; address = ap length e ∙ c.six; bytes = subst Bytes (sym e) c.bytes; run = f.fit_run; link = f.fit_link };
        form = in-use-peer own gs high q (record {
          used = u;
          usable = subst (λ (x : List ℕ). usable own x ≡ true) (sym e) c.usable;
          run = f.run;
          link = f.link;
          some = some_of q.run.state q.link.finished h;
        });
        place = λ d. e;
      }

  settle-keeps : (q : Peer) → Parts gs high q → (((q.run.state ≡ 0) × (q.link.finished ≡ 0) → ⊥) → (q.used ≡ 1) × ((q.address ≡ a) × Place own a)) → Kept own gs high a (settled q)
  settle-keeps q f h =
      settle-outcomes (Kept own gs high a) q (λ x y. kept_free own gs high a) (λ d. let w = h d in seated q w.1.1 w.0 w.1.0 f d)

-- ---- numbers

deadline-fits : (time wait : ℕ) → deadline time wait < 4294967296
unfolding deadline
deadline-fits time wait = mod-lt (time + wait) {m = 4294967296} (lit< tt)

pub known-fits : (g : ℕ) → known g ≡ true → g < 65536
unfolding known
known-fits g e = elim (ℕ_discrete g 19) [
  | yes p ↦ omega arith
  | no d ↦ elim (ℕ_discrete g 20) [
    | yes p ↦ omega arith
    | no d₁ ↦ elim (ℕ_discrete g 21) [ yes p ↦ omega arith | no d₂ ↦ absurd (clash e (rw (ne_eqb g 19 d, ne_eqb g 20 d₁, ne_eqb g 21 d₂) refl)) ]
  ]
]

pub group-fits : (gs : List ℕ) (g : ℕ) → Lists gs → listed gs g ≡ true → g < 65536
group-fits gs g l e = known-fits g (l.known g e)

-- as many groups as bits
pow-few : (n : ℕ) → n ≤ 8 → 2 ^ n ≤ 256
pow-few zero h = lit≤ tt
pow-few (suc zero) h = lit≤ tt
pow-few (suc (suc zero)) h = lit≤ tt
pow-few (suc (suc (suc zero))) h = lit≤ tt
pow-few (suc (suc (suc (suc zero)))) h = lit≤ tt
pow-few (suc (suc (suc (suc (suc zero))))) h = lit≤ tt
pow-few (suc (suc (suc (suc (suc (suc zero)))))) h = lit≤ tt
pow-few (suc (suc (suc (suc (suc (suc (suc zero))))))) h = lit≤ tt
pow-few (suc (suc (suc (suc (suc (suc (suc (suc zero)))))))) h = lit≤ tt
pow-few (suc (suc (suc (suc (suc (suc (suc (suc (suc n))))))))) h = absurd (omega arith)

-- a mark stays below the list's bits
mark-below : (rejected i n : ℕ) → rejected < 2 ^ n → i < n → mark rejected i < 2 ^ n
unfolding mark marked
mark-below r i n h k =
    whether (λ (x : ℕ). x < 2 ^ n) (eqb (r / 2 ^ i % 2) 1) r (r + 2 ^ i) (λ e. h)
    (λ e. fits (2 ^ i) (2 ^ (n - (i + 1))) (2 ^ n) r (pow_pos i) (split i (n - (i + 1)) n (omega arith)) h (eqb-false _ 1 e))
  where
    split : (i j n : ℕ) → i + suc j ≡ n → 2 ^ i * (2 * 2 ^ j) ≡ 2 ^ n
    split i j n e = let p : 2 ^ suc j ≡ 2 ^ j * 2 = pow-suc 2 j in let q : 2 ^ (i + suc j) ≡ 2 ^ i * 2 ^ suc j = pow-add 2 i (suc j) in rw (← e, q, p, mul_comm (2 ^ j) 2) refl

    even : (q N : ℕ) → q < 2 * N → (q % 2 ≡ 1 → ⊥) → q + 2 ≤ 2 * N
    even q N l d = omega arith

    fits : (P N W x : ℕ) → 0 < P → P * (2 * N) ≡ W → x < W → (x / P % 2 ≡ 1 → ⊥) → x + P < W
    fits P N W x p n h d =
        let l : x / P < 2 * N = (div-lt_iff_lt-mul p).1 (rw (mul_comm (2 * N) P, n) h) in
        let b : x < x / P * P + P = lt-div-mul-add p in
        let q = even (x / P) N l d in
        let r : (x / P + 2) * P ≤ 2 * N * P = mul-le-mul_right P q in
        let s : (x / P + 2) * P ≡ x / P * P + 2 * P = add-mul (x / P) 2 P in
        let t : 2 * N * P ≡ W = mul_comm (2 * N) P ∙ n in
        omega (arith, b, r, s, t)

-- ---- places in the list

pub listed_at : (gs : List ℕ) (k g : ℕ) → k < length gs → get_or gs k 0 ≡ g → listed gs g ≡ true
unfolding listed
listed_at [] k g h e = absurd (omega arith)
listed_at (x ∷ gs) zero g h e = rw (eq-eqb x g e) refl
listed_at (x ∷ gs) (suc k) g h e = or_right (eqb x g) (listed gs g) (listed_at gs k g (omega arith) e)
  where
    or_right : (b c : Bool) → c ≡ true → (b || c) ≡ true
    or_right true c e = refl
    or_right false c e = e

placed_at : (gs : List ℕ) (i k g : ℕ) → each_once gs ≡ true → k < length gs → get_or gs k 0 ≡ g → place_from gs i g ≡ Some (i + k)
unfolding place_from each_once
placed_at [] i k g o h e = absurd (omega arith)
placed_at (x ∷ gs) i zero g o h e = let z : i + 0 ≡ i = omega arith in rw (eq-eqb x g e, z) refl
placed_at (x ∷ gs) i (suc k) g o h e =
    let l : listed gs g ≡ true = listed_at gs k g (omega arith) e in
    let n : listed gs x ≡ false = not-true _ (and_left _ _ o) in
    let d : x ≡ g → ⊥ = λ q. clash l (subst (λ (y : ℕ). listed gs y ≡ false) q n) in
    let z : i + suc k ≡ suc i + k = omega arith in
    rw (ne_eqb x g d, z) (placed_at gs (suc i) k g (and_right (not (listed gs x)) _ o) (omega arith) e)

pub index-nth : (gs : List ℕ) (k g : ℕ) → each_once gs ≡ true → k < length gs → get_or gs k 0 ≡ g → index_of gs g ≡ k
unfolding index_of
index-nth gs k g o h e = let z : 0 + k ≡ k = omega arith in ap place_or0 (place-from gs g ∙ placed_at gs 0 k g o h e) ∙ z

-- the place of a listed group
pub index_listed : (gs : List ℕ) (g : ℕ) → listed gs g ≡ true → (index_of gs g < length gs) × (get_or gs (index_of gs g) 0 ≡ g)
unfolding index_of
index_listed gs g l = go (place gs g) refl (sym (listed-place gs g) ∙ l)
  where
    go : (f : Option ℕ) → place gs g ≡ f → is_some f ≡ true → (place_or0 f < length gs) × (get_or gs (place_or0 f) 0 ≡ g)
    go (Some k) e n = place_at gs g k e
    go None e n = absurd (clash n refl)

-- the fresh commit of a listed group
pub fresh-stored : (gs : List ℕ) (fresh : List (List ℕ)) (g : ℕ) → Stock gs fresh → listed gs g ≡ true → Stored g (fresh_for gs fresh g)
unfolding fresh_for
fresh-stored gs fresh g s l =
    let w = index_listed gs g l in
    subst (λ (x : ℕ). Stored x (fresh_at fresh (index_of gs g))) w.1 (s.each (index_of gs g) w.0)

-- ---- runs

t0-fits : (κ : Clock) (r : Run) → FitRun width r → FitRun width (set_t0 κ r)
unfolding set_t0
t0-fits κ r f =
    let s = f.shape in
    record {
      shape = record {
        state = s.state;
        sync = s.sync;
        rejected = s.rejected;
        sc = s.sc;
        group = s.group;
        toklen = s.toklen;
        t0 = deadline-fits κ.time (delay κ r.sync);
        own = s.own;
        peer = s.peer;
        token = s.token;
      };
      own = f.own;
      peer = f.peer;
      token = f.token;
    }

-- a run in being keeps its form whatever t0 is
t0-form : (gs : List ℕ) (high : ℕ) (κ : Clock) (r : Run) → (r.state ≡ 0 → ⊥) → run_ok gs high r ≡ true → run_ok gs high (set_t0 κ r) ≡ true
unfolding run_ok set_t0 committed_ok confirmed_ok rejected_ok token_ok
t0-form gs high κ r d ok = rw (ne_eqb r.state 0 d) (rw (ne_eqb r.state 0 d) at ok)

no-token : Token no_run
unfolding no_run
no-token = record { short = lit≤ tt; rest = zero-zeros 256 }

-- any run's token
token-of : (gs : List ℕ) (high : ℕ) (r : Run) → FitRun width r → run_ok gs high r ≡ true → Token r
token-of gs high r f ok = elim (run-states gs high r ok) [
  | inl e ↦ subst Token (sym (run-unused gs high r f.shape ok e)) no-token
  | inr u ↦ elim u [ inl e ↦ (run-is-committed gs high r e ok).token | inr e ↦ (run-is-confirmed gs high r e ok).token ]
]

counted-fits : (r : Run) (sync sc : ℕ) → FitRun width r → sync < 256 → sc < 65536 → FitRun width (with_sync (with_sc r sc) sync)
unfolding with_sync with_sc
counted-fits r sync sc f h k =
    let s = f.shape in
    record {
      shape = record {
        state = s.state;
        sync = h;
        rejected = s.rejected;
        sc = k;
        group = s.group;
        toklen = s.toklen;
        t0 = s.t0;
        own = s.own;
        peer = s.peer;
        token = s.token;
      };
      own = f.own;
      peer = f.peer;
      token = f.token;
    }

counted-committed : (gs : List ℕ) (high : ℕ) (r : Run) (sync : ℕ) → Committed gs high r → sync ≤ high → Committed gs high (with_sync r sync)
unfolding with_sync
counted-committed gs high r sync f h =
    record {
      sync = h;
      below = f.below;
      clear = f.clear;
      sc = f.sc;
      listed = f.listed;
      token = record { short = f.token.short; rest = f.token.rest };
      own = f.own;
      peer = f.peer;
    }

counted-confirmed : (gs : List ℕ) (high : ℕ) (r : Run) (sync : ℕ) → Confirmed gs high r → sync ≤ high → r.sync + 1 ≡ sync → Confirmed gs high (with_sync (with_sc r (r.sc + 1)) sync)
unfolding with_sync with_sc
counted-confirmed gs high r sync f h e =
    record {
      sync = h;
      rejected = f.rejected;
      sc = omega (arith, f.sc);
      listed = f.listed;
      token = record { short = f.token.short; rest = f.token.rest };
      own = f.own;
      peer = f.peer;
    }

-- the token of a reply
token-fits : (gs : List ℕ) (r : Run) (m : Message) → FitRun width r → Heard gs m → FitRun width (with_token r m.toklen m.token)
unfolding with_token
token-fits gs r m f h =
    let s = f.shape in
    record {
      shape = record {
        state = s.state;
        sync = s.sync;
        rejected = s.rejected;
        sc = s.sc;
        group = s.group;
        toklen = omega (arith, h.short);
        t0 = s.t0;
        own = s.own;
        peer = s.peer;
        token = h.token;
      };
      own = f.own;
      peer = f.peer;
      token = h.octets;
    }

token-committed : (gs : List ℕ) (high : ℕ) (r : Run) (m : Message) → Committed gs high r → Heard gs m → Committed gs high (with_token r m.toklen m.token)
unfolding with_token
token-committed gs high r m f h =
    record {
      sync = f.sync;
      below = f.below;
      clear = f.clear;
      sc = f.sc;
      listed = f.listed;
      token = record { short = h.short; rest = h.rest };
      own = f.own;
      peer = f.peer;
    }

-- a switch of group
switched-fits : (r : Run) (rejected g : ℕ) (fresh : List ℕ) → FitRun width r → rejected < 256 → g < 65536 → Stored g fresh → FitRun width (switched r rejected g fresh)
unfolding switched
switched-fits r rejected g fresh f h k c =
    let s = f.shape in
    record {
      shape = record {
        state = s.state;
        sync = s.sync;
        rejected = h;
        sc = s.sc;
        group = k;
        toklen = s.toklen;
        t0 = s.t0;
        own = c.long;
        peer = s.peer;
        token = s.token;
      };
      own = c.bytes;
      peer = f.peer;
      token = f.token;
    }

switched-committed : (gs : List ℕ) (high : ℕ) (r : Run) (rejected g : ℕ) (fresh : List ℕ) → Committed gs high r → rejected < 2 ^ length gs → marked rejected (index_of gs g) ≡ false
    → listed gs g ≡ true → Stored g fresh → Committed gs high (switched r rejected g fresh)
unfolding switched
switched-committed gs high r rejected g fresh f h m l c =
    record {
      sync = f.sync;
      below = h;
      clear = m;
      sc = f.sc;
      listed = l;
      token = record { short = f.token.short; rest = f.token.rest };
      own = c.tail;
      peer = f.peer;
    }

-- a run that starts
started-fits : (g : ℕ) (fresh : List ℕ) → g < 65536 → Stored g fresh → FitRun width (started_run g fresh)
unfolding started_run
started-fits g fresh k c =
    record {
      shape = record {
        state = lit< tt;
        sync = lit< tt;
        rejected = lit< tt;
        sc = lit< tt;
        group = k;
        toklen = lit< tt;
        t0 = lit< tt;
        own = c.long;
        peer = length-replicate {A = ℕ} width 0;
        token = length-replicate {A = ℕ} 256 0;
      };
      own = c.bytes;
      peer = zero-bytes width;
      token = zero-bytes 256;
    }
  where
    zero-bytes : (n : ℕ) → Bytes (replicate n 0)
    zero-bytes zero i = lit< tt
    zero-bytes (suc n) zero = lit< tt
    zero-bytes (suc n) (suc i) = zero-bytes n i

started-committed : (gs : List ℕ) (high : ℕ) (g : ℕ) (fresh : List ℕ) → listed gs g ≡ true → Stored g fresh → Committed gs high (started_run g fresh)
unfolding started_run
started-committed gs high g fresh l c =
    record {
      sync = omega arith;
      below = pow_pos (length gs);
      clear = none-marked (index_of gs g);
      sc = refl;
      listed = l;
      token = record { short = lit≤ tt; rest = zero-zeros 256 };
      own = c.tail;
      peer = zero-zeros width;
    }

-- a pair that is formed
formed-fits : (κ : Clock) (r : Run) (g : ℕ) (own theirs : List ℕ) → FitRun width r → g < 65536 → Stored g own → Stored g theirs → FitRun width (formed_run κ r g own theirs)
unfolding formed_run set_t0
formed-fits κ r g own theirs f k c d =
    let s = f.shape in
    record {
      shape = record {
        state = lit< tt;
        sync = lit< tt;
        rejected = lit< tt;
        sc = lit< tt;
        group = k;
        toklen = s.toklen;
        t0 = deadline-fits κ.time (delay κ 0);
        own = c.long;
        peer = d.long;
        token = s.token;
      };
      own = c.bytes;
      peer = d.bytes;
      token = f.token;
    }

formed-confirmed : (gs : List ℕ) (high : ℕ) (κ : Clock) (r : Run) (g : ℕ) (own theirs : List ℕ) → Token r → listed gs g ≡ true → Stored g own → Stored g theirs
    → Confirmed gs high (formed_run κ r g own theirs)
unfolding formed_run set_t0
formed-confirmed gs high κ r g own theirs t l c d =
    record {
      sync = omega arith;
      rejected = refl;
      sc = refl;
      listed = l;
      token = record { short = t.short; rest = t.rest };
      own = c.tail;
      peer = d.tail;
    }

formed-state : (κ : Clock) (r : Run) (g : ℕ) (own theirs : List ℕ) → (formed_run κ r g own theirs).state ≡ 2
unfolding formed_run set_t0
formed-state κ r g own theirs = refl

-- ---- links

linked-fits : (r : Run) (counter time : ℕ) → FitRun width r → counter < 65536 → FitLink width (link_of_run r counter time)
unfolding link_of_run
linked-fits r counter time f h =
    let s = f.shape in
    record {
      shape = record {
        finished = lit< tt;
        superseded = lit< tt;
        sync = s.sync;
        spare = lit< tt;
        group = s.group;
        rc = h;
        t1 = deadline-fits time 86400000;
        own = s.own;
        peer = s.peer;
      };
      own = f.own;
      peer = f.peer;
    }

linked-finished : (gs : List ℕ) (high : ℕ) (r : Run) (counter time : ℕ) → Confirmed gs high r → Finished gs high (link_of_run r counter time)
unfolding link_of_run
linked-finished gs high r counter time f =
    record { finished = refl; superseded = lit≤ tt; sync = f.sync; spare = refl; listed = f.listed; own = f.own; peer = f.peer }

heard-fits : (l : Link) (rc sync : ℕ) → FitLink width l → rc < 65536 → sync < 256 → FitLink width (heard_again l rc sync)
unfolding heard_again
heard-fits l rc sync f h k =
    let s = f.shape in
    record {
      shape = record {
        finished = s.finished;
        superseded = s.superseded;
        sync = k;
        spare = s.spare;
        group = s.group;
        rc = h;
        t1 = s.t1;
        own = s.own;
        peer = s.peer;
      };
      own = f.own;
      peer = f.peer;
    }

heard-finished : (gs : List ℕ) (high : ℕ) (l : Link) (rc sync : ℕ) → Finished gs high l → sync ≤ high → Finished gs high (heard_again l rc sync)
unfolding heard_again
heard-finished gs high l rc sync f h =
    record { finished = f.finished; superseded = f.superseded; sync = h; spare = f.spare; listed = f.listed; own = f.own; peer = f.peer }

-- a link with its mark set
marked-link : Link → Link
marked-link l =
    record { finished = l.finished; superseded = 1; sync = l.sync; spare = l.spare; group = l.group; rc = l.rc; t1 = l.t1; own = l.own; peer = l.peer }

superseded-fits : (l : Link) → FitLink width l → FitLink width (supersede l)
unfolding supersede marked-link
superseded-fits l f =
    whether (FitLink width) (eqb l.finished 0) l (marked-link l) (λ e. f)
    (λ e. let s = f.shape in
    record {
      shape = record {
        finished = s.finished;
        superseded = lit< tt;
        sync = s.sync;
        spare = s.spare;
        group = s.group;
        rc = s.rc;
        t1 = s.t1;
        own = s.own;
        peer = s.peer;
      };
      own = f.own;
      peer = f.peer;
    })

superseded-form : (gs : List ℕ) (high : ℕ) (l : Link) → link_ok gs high l ≡ true → link_ok gs high (supersede l) ≡ true
unfolding supersede marked-link
superseded-form gs high l ok =
    whether (λ (x : Link). link_ok gs high x ≡ true) (eqb l.finished 0) l (marked-link l) (λ e. ok)
    (λ e. let f = link-is-finished gs high l (eqb-false _ _ e) ok in
    finished-is-link gs high (marked-link l)
    (record { finished = f.finished; superseded = lit≤ tt; sync = f.sync; spare = f.spare; listed = f.listed; own = f.own; peer = f.peer }))

-- ---- acts

module _ (own gs : List ℕ) (high : ℕ) (a : List ℕ) where
  -- frames are sent for a run in being
  send-keeps : (κ : Clock) (p : Peer) (r : Run) (fs : Frames) (fresh : ℕ) → Kept own gs high a p → p.used ≡ 1 → (r.state ≡ 0 → ⊥) → run_ok gs high r ≡ true → FitRun width r
      → Keeps own gs high a (sending κ p r fs fresh)
  unfolding sending with_run set_t0
  send-keeps κ p r fs fresh k u d ok f =
      let c = parts own gs high a p k in
      record {
        kept = seated own gs high a _ (place_of own gs high a p k u) u (k.place (λ z. omega arith))
            (record { run = t0-form gs high κ r d ok; link = c.link; fit_run = t0-fits κ r f; fit_link = c.fit_link }) (λ z. d z.0);
      }

  pub answer_keeps : (p : Peer) (fs : Frames) → Kept own gs high a p → Keeps own gs high a (answering p fs)
  unfolding answering
  answer_keeps p fs k = record { kept = k }

  pub abandon-keeps : (p : Peer) → Kept own gs high a p → Keeps own gs high a (abandoning p)
  unfolding abandoning with_run no_run
  abandon-keeps p k =
      let c = parts own gs high a p k in
      record {
        kept = settle-keeps own gs high a (with_run p no_run) (record { run = no-run-ok gs high; link = c.link; fit_run = fit-no-run; fit_link = c.fit_link })
            (λ d. let u = link-used own gs high a p k (λ z. d (refl, z)) in (u, (k.place (λ z. omega arith), place_of own gs high a p k u)));
      }

  pub end-keeps : (p : Peer) → Kept own gs high a p → Keeps own gs high a (ending_link p)
  unfolding ending_link with_link no_link
  end-keeps p k =
      let c = parts own gs high a p k in
      record {
        kept = settle-keeps own gs high a (with_link p no_link) (record { run = c.run; link = no-link-ok gs high; fit_run = c.fit_run; fit_link = fit-no-link })
            (λ d. let u = run-used own gs high a p k (λ z. d (z, refl)) in (u, (k.place (λ z. omega arith), place_of own gs high a p k u)));
      }

  pub form-keeps : (κ : Clock) (p : Peer) (b : List ℕ) (g : ℕ) (mine theirs : List ℕ) (fs : Frames) (fresh : ℕ) → Place own a → Lists gs → Kept own gs high a p → b ≡ a
      → listed gs g ≡ true → Stored g mine → Stored g theirs → Keeps own gs high a (forming κ p b g mine theirs fs fresh)
  unfolding forming
  form-keeps κ p b g mine theirs fs fresh w l k e m c d =
      let q = parts own gs high a p k in
      let s : (formed_run κ p.run g mine theirs).state ≡ 2 = formed-state κ p.run g mine theirs in
      record {
        kept = seated own gs high a _ w refl e
            (record {
              run = confirmed-is-run gs high _ s (formed-confirmed gs high κ p.run g mine theirs (token-of gs high p.run q.fit_run q.run) m c d);
              link = superseded-form gs high p.link q.link;
              fit_run = formed-fits κ p.run g mine theirs q.fit_run (group-fits gs g l m) c d;
              fit_link = superseded-fits p.link q.fit_link;
            })
            (λ z. omega (arith, s, z.0));
      }

  pub accept-keeps : (p : Peer) (counter time : ℕ) → Kept own gs high a p → p.run.state ≡ 2 → counter < 65536 → Keeps own gs high a (accepting p counter time)
  unfolding accepting
  accept-keeps p counter time k e h =
      let q = parts own gs high a p k in
      let u = run-used own gs high a p k (λ z. omega arith) in
      let f = linked-finished gs high p.run counter time (run-is-confirmed gs high p.run e q.run) in
      record {
        kept = seated own gs high a _ (place_of own gs high a p k u) u (k.place (λ z. omega arith))
            (record { run = no-run-ok gs high; link = finished-is-link gs high _ f; fit_run = fit-no-run; fit_link = linked-fits p.run counter time q.fit_run h })
            (λ z. omega (arith, f.finished, z.1));
      }

  pub hear-keeps : (p : Peer) (counter sync : ℕ) (fs : Frames) → Kept own gs high a p → (p.link.finished ≡ 0 → ⊥) → counter < 65536 → sync ≤ high → high < 256
      → Keeps own gs high a (answering (with_link p (heard_again p.link counter sync)) fs)
  unfolding answering with_link
  hear-keeps p counter sync fs k d h j w =
      let q = parts own gs high a p k in
      let u = link-used own gs high a p k d in
      let f = heard-finished gs high p.link counter sync (link-is-finished gs high p.link d q.link) j in
      record {
        kept = seated own gs high a _ (place_of own gs high a p k u) u (k.place (λ z. omega arith))
            (record { run = q.run; link = finished-is-link gs high _ f; fit_run = q.fit_run; fit_link = heard-fits p.link counter sync q.fit_link h (omega arith) })
            (λ z. omega (arith, f.finished, z.1));
      }

  -- "Repeat", in Committed, where the run that goes on is in Committed too: the record's, or the record's with another token; and in Confirmed
  repeat-keeps : (κ : Clock) (p : Peer) (r : Run) (fs : Frames) → κ.limit + 1 ≤ high → high < 256 → Kept own gs high a p → p.run.state ≡ 1
      → r.state ≡ 1 → Committed gs high r → FitRun width r → Keeps own gs high a (retransmitting κ p r fs)
  unfolding with_sync with_sc
  repeat-keeps κ p r fs t w k e d f g =
      let u = run-used own gs high a p k (λ z. omega arith) in
      repeat-outcomes (Keeps own gs high a) κ p r fs (λ h. abandon-keeps p k)
      (λ h. send-keeps κ p _ fs 0 k u (λ z. omega arith) (committed-is-run gs high _ d (counted-committed gs high r (p.run.sync + 1) f (omega arith)))
      (counted-fits r (p.run.sync + 1) r.sc g (omega arith) g.shape.sc))

  pub same-keeps : (κ : Clock) (p : Peer) (fs : Frames) → κ.limit + 1 ≤ high → high < 256 → Kept own gs high a p → p.run.state ≡ 1
      → Keeps own gs high a (retransmitting κ p p.run fs)
  same-keeps κ p fs t w k e =
      let q = parts own gs high a p k in repeat-keeps κ p p.run fs t w k e e (run-is-committed gs high p.run e q.run) q.fit_run

  pub reply-keeps : (κ : Clock) (p : Peer) (m : Message) → κ.limit + 1 ≤ high → high < 256 → Heard gs m → Kept own gs high a p → p.run.state ≡ 1
      → Keeps own gs high a (replying_token κ p m)
  unfolding replying_token with_token
  reply-keeps κ p m t w h k e =
      let q = parts own gs high a p k in
      repeat-keeps κ p (with_token p.run m.toklen m.token) _ t w k e e (token-committed gs high p.run m (run-is-committed gs high p.run e q.run) h)
      (token-fits gs p.run m q.fit_run h)

  pub raised_keeps : (κ : Clock) (p : Peer) (fs : Frames) → Kept own gs high a p → p.run.state ≡ 2 → p.run.sync + 1 ≤ high → high < 256
      → Keeps own gs high a (sending κ p (with_sync (with_sc p.run (p.run.sc + 1)) (p.run.sync + 1)) fs 0)
  unfolding with_sync with_sc
  raised_keeps κ p fs k e h w =
      let q = parts own gs high a p k in
      let u = run-used own gs high a p k (λ z. omega arith) in
      let f = run-is-confirmed gs high p.run e q.run in
      send-keeps κ p _ fs 0 k u (λ z. omega arith) (confirmed-is-run gs high _ e (counted-confirmed gs high p.run (p.run.sync + 1) f h refl))
      (counted-fits p.run (p.run.sync + 1) (p.run.sc + 1) q.fit_run (omega arith) (omega (arith, f.sc)))

  -- a start
  pub start-keeps : (κ : Clock) (p : Peer) (g : ℕ) (fresh : List ℕ) → Place own a → Lists gs → Kept own gs high a p → listed gs g ≡ true → Stored g fresh
      → Keeps own gs high a (starting κ p a g fresh)
  unfolding starting set_t0 started_run
  start-keeps κ p g fresh w l k m c =
      let q = parts own gs high a p k in
      let s : (set_t0 κ (started_run g fresh)).state ≡ 1 = refl in
      record {
        kept = seated own gs high a _ w refl refl
            (record {
              run = t0-form gs high κ (started_run g fresh) (λ z. omega (arith, z)) (committed-is-run gs high _ refl (started-committed gs high g fresh m c));
              link = q.link;
              fit_run = t0-fits κ _ (started-fits g fresh (group-fits gs g l m) c);
              fit_link = q.fit_link;
            })
            (λ z. omega (arith, s, z.0));
      }

  -- "77: our group"
  pub switch-keeps : (κ : Clock) (p : Peer) (fresh : List (List ℕ)) → Lists gs → Stock gs fresh → Kept own gs high a p → p.run.state ≡ 1 → Keeps own gs high a (switching κ p gs fresh)
  unfolding switched
  switch-keeps κ p fresh l s k e =
      let q = parts own gs high a p k in
      let u = run-used own gs high a p k (λ z. omega arith) in
      let f = run-is-committed gs high p.run e q.run in
      let b = mark-below p.run.rejected (index_of gs p.run.group) (length gs) f.below (index_listed gs p.run.group f.listed).0 in
      let n = pow-few (length gs) l.few in
      switch-outcomes (Keeps own gs high a) κ p gs fresh
      (λ i g h.
      let w = chosen gs (mark p.run.rejected (index_of gs p.run.group)) i g h in
      let m = listed_at gs i g w.0 w.1 in
      let c = subst (λ (x : ℕ). Stored x (fresh_at fresh i)) w.1 (s.each i w.0) in
      let z = subst (λ (x : ℕ). marked (mark p.run.rejected (index_of gs p.run.group)) x ≡ false) (sym (index-nth gs i g l.once w.0 w.1)) w.2 in
      send-keeps κ p _ (One (commit_frame g)) g k u (λ y. omega arith) (committed-is-run gs high _ e (switched-committed gs high p.run _ g (fresh_at fresh i) f b z m c))
      (switched-fits p.run _ g (fresh_at fresh i) q.fit_run (omega arith) (group-fits gs g l m) c))
      (λ h. abandon-keeps p k)

  -- a received commit is stored as one of its group
  pub heard-stored : (m : Message) → Heard gs m → m.listed ≡ true → Stored m.group m.commit
  heard-stored m h e = record { long = h.long; bytes = h.bytes; tail = h.tail e }
