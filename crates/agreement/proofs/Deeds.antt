-- What a call is to one address: an act of the protocol, with what its answer says of it.
use mathlib.Core.Path.{◌≡◌, refl, sym, ap, ◌∙◌, subst}
use mathlib.Core.Bool.{Bool, true, false}
use mathlib.Core.List.{List}
use Prim.Native.Nat.{ℕ, ◌+◌}
use lib.Dec.{eqb}
use Rattle.protocol.specs.Model.{Commit, Act, end_both, idle, act, Uses, Forms, SendsCommit, Accepts, Guard, nothing, unlinked}
use Rattle.protocol.specs.Repeats.{Tally}
use Rattle.octets.specs.Octets.{same_address}
use Rattle.octets.proofs.Scan.{clash}
use Rattle.record.specs.declared.Run.{Run}
use Rattle.record.specs.declared.Peer.{Peer}
use Rattle.record.specs.Layout.{no_peer, no_run, no_link}
use Rattle.table.specs.Table.{decode_table, look, sound}
use Rattle.rules.specs.declared.Frame.{Frame}
use Rattle.rules.specs.declared.Frames.{Frames}
use Rattle.rules.specs.declared.Frames.TheVariants.{None}
use Rattle.rules.specs.Book.{Step}
use Rattle.answers.specs.Answers.{Report, said}
use Rattle.calls.specs.Calls.{kill_step}
use Rattle.call_laws.proofs.Good.{high-low}
use Rattle.agreement.specs.Calls.{Call, kill, receive, left, done, table_after}
use Rattle.agreement.specs.Story.{Pair, Story, is_frame, is_confirm, is_accepted, uses_afresh, used_afresh, forms_pair, groups_in, limit_in}
use Rattle.agreement.specs.Sent.{Among}
use Rattle.agreement.proofs.Rules.{Hears, Verified, verified}
use Rattle.agreement.proofs.Shows.{RunShows, no-run, unpaired, paired, Shows, shows-state, shows-whole, zero-two, one-two}
use Rattle.agreement.proofs.Ruled.{no-run-state}
use Rattle.agreement.proofs.Engine.{Told, a_start, a_frame, a_clock, Ends, idles, goes_on, sets_up, frees, steps, same-look}
use Rattle.agreement.proofs.History.{look-same-address}
use Rattle.agreement.proofs.Acts.{own_commit, peer_commit, view, view_run, view_link, Over, Did, did}

-- a frame call from the address b
pub data From (b : List ℕ) : Call → Type 0 where
  from : {a : List ℕ} {time : ℕ} {frame fresh expected : List ℕ} {verdict : ℕ} → same_address a b ≡ true → From b (receive a time frame fresh expected verdict)

-- the call c, done or not, with the answer r, is the act e to the address b, whose record was p and is q; u is the table left
pub record FormsHere (gs : List ℕ) (c : Call) (d : Bool) (r : Report) (b : List ℕ) (q : Peer) (x y : Commit) : Type 0 where
  pub done : d ≡ true
  pub to : same_address r.address b ≡ true
  pub came : From b c
  pub hears : Hears gs c y.group y.octets
  pub forms : forms_pair c r ≡ true
  pub state : q.run.state ≡ 2
  pub own : x ≡ own_commit q
  pub peer : y ≡ peer_commit q

pub record UsesHere (gs : List ℕ) (c : Call) (d : Bool) (r : Report) (b : List ℕ) (x : Commit) : Type 0 where
  pub done : d ≡ true
  pub to : same_address r.address b ≡ true
  pub afresh : uses_afresh r ≡ true
  pub used : used_afresh gs c r ≡ x

pub record AcceptsHere (gs : List ℕ) (c : Call) (d : Bool) (r : Report) (b : List ℕ) (p : Peer) (x y : Commit) : Type 0 where
  pub done : d ≡ true
  pub came : From b c
  pub right : Verified gs c
  pub event : is_accepted r.event ≡ true
  pub state : p.run.state ≡ 2
  pub own : x ≡ own_commit p
  pub peer : y ≡ peer_commit p

pub record Deed (gs : List ℕ) (c : Call) (d : Bool) (r : Report) (u b : List ℕ) (p q : Peer) (e : Act) : Type 0 where
  pub moves : act e (view p) ≡ view q
  pub may : Guard e (view p)
  pub uses : (x : Commit) → Uses x e → UsesHere gs c d r b x
  pub forms : (x y : Commit) → Forms x y e → FormsHere gs c d r b q x y
  pub accepts : (x y : Commit) → Accepts x y e → AcceptsHere gs c d r b p x y
  pub commits : d ≡ true → same_address r.address b ≡ true → (x : Frame) → Among x r.frames → is_confirm x ≡ false → eqb x.status 0 ≡ true
      → (sound u ≡ true) × SendsCommit (own_commit q) e
  pub confirms : d ≡ true → same_address r.address b ≡ true → (x : Frame) → Among x r.frames → is_confirm x ≡ true → Over q x e

-- the call is refused, or about another address
apart-deed : (gs : List ℕ) (c : Call) (d : Bool) (r : Report) (u b : List ℕ) (p : Peer) → (d ≡ true → same_address r.address b ≡ true → ⊥) → Deed gs c d r u b p p idle
apart-deed gs c d r u b p n = record {
  moves = refl;
  may = tt;
  uses = λ x w. absurd w;
  forms = λ x y w. absurd w;
  accepts = λ x y w. absurd w;
  commits = λ k a x m i j. absurd (n k a);
  confirms = λ k a x m i. absurd (n k a);
}

pub none-sent : {x : Frame} {fs : Frames} {X : Type 0} → fs ≡ None → Among x fs → X
none-sent {x} e m = elim (subst (Among x) e m) [ ]

pub view-none : view no_peer ≡ record { run = nothing; link = unlinked }
unfolding view view_run view_link no_peer no_run no_link
view-none = refl

-- a kill or a set up
ended-deed : (gs : List ℕ) (c : Call) (d : Bool) (r : Report) (u b : List ℕ) (p q : Peer) → q ≡ no_peer → r.frames ≡ None → Deed gs c d r u b p q end_both
ended-deed gs c d r u b p q e f = record {
  moves = sym (ap view e ∙ view-none);
  may = tt;
  uses = λ x w. absurd w;
  forms = λ x y w. absurd w;
  accepts = λ x y w. absurd w;
  commits = λ k a x m i j. none-sent f m;
  confirms = λ k a x m i. none-sent f m;
}

came_from : {a b : List ℕ} {c : Call} → Told a c → is_frame c ≡ true → same_address a b ≡ true → From b c
came_from a_start f e = absurd (clash f refl)
came_from a_frame f e = from e
came_from a_clock f e = absurd (clash f refl)

verified-frame : {gs : List ℕ} {c : Call} → Verified gs c → is_frame c ≡ true
verified-frame (verified e) = refl

-- a step at the address
step-deed : (gs : List ℕ) (c : Call) (u a b : List ℕ) (p : Peer) (o : Step) (e : Act) → Told a c → same_address a b ≡ true → sound u ≡ true → Did gs c p o e
    → Deed gs c true (said o a) u b p o.peer e
unfolding said
step-deed gs c u a b p o e k s w D = record {
  moves = D.moves;
  may = D.may;
  uses = λ x v. let z = D.uses x v in record { done = refl; to = s; afresh = rw z.0; used = z.1 };
  forms = λ x y v. let z = D.forms x y v in record {
    done = refl;
    to = s;
    came = came_from k z.hears.frame s;
    hears = z.hears;
    forms = rw z.answers z.hears.frame;
    state = z.state;
    own = z.own;
    peer = z.peer;
  };
  accepts = λ x y v. let z = D.accepts x y v in record {
    done = refl;
    came = came_from k (verified-frame z.right) s;
    right = z.right;
    event = z.event;
    state = z.state;
    own = z.own;
    peer = z.peer;
  };
  commits = λ d t x m i j. (w, D.commits x m i j);
  confirms = λ d t x m i. D.confirms x m i;
}

-- ---- Sc in Confirmed

run-counted : {limit : ℕ} {r : Run} {b d : Bool} {f : Commit} {x : Pair} {ks : List Tally} → RunShows limit r b d f x ks → r.state ≡ 2 → r.sc ≡ r.sync + 1
run-counted (no-run e) s = zero-two (no-run-state _ e) s
run-counted (unpaired e a b c d f u) s = one-two e s
run-counted (paired e a b c d f g u) s = f

pub shows-counted : (limit : ℕ) (p : Peer) (s : Story) → Shows limit p s → p.run.state ≡ 2 → p.run.sc ≡ p.run.sync + 1
shows-counted limit p s S = run-counted S.run

-- ---- every call

deed-at : {gs : List ℕ} {c : Call} {d f : Bool} {r v : Report} {u b : List ℕ} {p q x y : Peer} {e : Act} → d ≡ f → r ≡ v → x ≡ p → y ≡ q
    → Deed gs c f v u b p q e → Deed gs c d r u b x y e
deed-at {gs} {c} {d} {f} {r} {v} {u} {b} {p} {q} {x} {y} {e} i j k l D =
    subst (λ (z : Bool). Deed gs c z r u b x y e) (sym i) (subst (λ (z : Report). Deed gs c f z u b x y e) (sym j)
    (subst (λ (z : Peer). Deed gs c f v u b z y e) (sym k) (subst (λ (z : Peer). Deed gs c f v u b p z e) (sym l) D)))

said-to : (r : Report) (o : Step) (a : List ℕ) → r ≡ said o a → r.address ≡ a
unfolding said
said-to r o a e = rw e

pub kill-frames : (r : Report) (a : List ℕ) → r ≡ said kill_step a → r.frames ≡ None
unfolding said kill_step
kill-frames r a e = rw e

kill-peer : kill_step.peer ≡ no_peer
unfolding kill_step
kill-peer = refl

module _ (t : List ℕ) where
  abbrev DeedOf : Call → List ℕ → Act → Type 0
  DeedOf c b e = Deed (groups_in t) c (done t c) (left t c).answer (table_after t c) b (look (decode_table t) b) (look (decode_table (table_after t c)) b) e

  pub deed : {c : Call} (b : List ℕ) (s : Story) → Ends t c → Shows (limit_in t) (look (decode_table t) b) s → (e : Act) × DeedOf c b e
  deed {c} b s (idles d e) S =
      (idle, deed-at refl refl refl (ap (λ (x : List ℕ). look (decode_table x) b) e) (apart-deed (groups_in t) c (done t c) _ _ b _ (λ k a. clash k d)))
  deed {c} b s (goes_on d U) S = (idle, deed-at refl refl refl (same-look t _ U b) (apart-deed (groups_in t) c (done t c) _ _ b _ (λ k a. clash k d)))
  deed b s (sets_up d f y n i) S = (end_both, ended-deed _ _ _ _ _ b _ _ (n b) f)
  deed b s (frees {a} d M) S = go (same_address a b) refl
    where
      go : (x : Bool) → same_address a b ≡ x → (e : Act) × DeedOf (kill a) b e
      go true e = (end_both, ended-deed _ _ _ _ _ b _ _ (look-same-address _ a b e ∙ M.here ∙ kill-peer) (kill-frames _ a M.answer))
      go false e = (
        idle,
        deed-at refl refl refl (M.elsewhere b e)
            (apart-deed _ _ _ _ _ b _ (λ k w. clash (ap (λ (x : List ℕ). same_address x b) (sym (said-to _ kill_step a M.answer)) ∙ w) e)),
      )
  deed {c} b s (steps a o k d M D) S = go (same_address a b) refl
    where
      go : (x : Bool) → same_address a b ≡ x → (e : Act) × DeedOf c b e
      go true e =
          let p = look-same-address (decode_table t) a b e in
          let g = subst (λ (q : Peer). Shows (limit_in t) q s) p S in
          let z = did (groups_in t) c (limit_in t) (high-low t M.was) (look (decode_table t) a) (shows-counted _ _ s g) (D (shows-whole _ _ s g) (shows-state _ _ s g)) in
          (z.0, deed-at d M.answer p (look-same-address _ a b e ∙ M.here) (step-deed (groups_in t) c (table_after t c) a b _ o z.0 k e M.sound z.1))
      go false e = (
        idle,
        deed-at refl refl refl (M.elsewhere b e)
            (apart-deed _ _ _ _ _ b _ (λ k w. clash (ap (λ (x : List ℕ). same_address x b) (sym (said-to _ o a M.answer)) ∙ w) e)),
      )
