-- A list of calls that keeps to what is needed of it is a list of acts that the protocol allows.
use Rattle.std.specs.Prelude.{Some}
use mathlib.Core.Path.{◌≡◌, refl, sym, ap, ◌∙◌, subst, subst⁻¹}
use mathlib.Core.Bool.{Bool, true, false}
use mathlib.Core.List.{List, [], ◌∷◌}
use Prim.Native.Nat.{ℕ}
use lib.Dec.{eqb}
use lib.ListN.{length}
use borrow.Author.Tests.{eqb-false, not-true}
use Rattle.protocol.specs.Model.{Commit, Side, A, B, other, Act, fresh, form_fresh, form_own, send_commit, send_confirm, send_both, accept, end_run, end_link, end_both, idle, act, state, Uses, Forms, SendsCommit, SendsConfirm, Accepts, At, now, earlier, Once, Unused, Guard, World, Valid}
use Rattle.protocol.specs.Model as model
use Rattle.protocol.specs.Repeats.{Tally}
use Rattle.protocol.proofs.Formed.{state-same, state-other, sides}
use Rattle.octets.specs.Octets.{same_address}
use Rattle.octets.proofs.Scan.{clash}
use Rattle.groups.specs.Groups.{stored}
use Rattle.frame.specs.Frame.{read_body, commit_of}
use Rattle.frame.specs.Writing.{Octets}
use Rattle.frame.specs.declared.Body.TheVariants as body
use Rattle.record.specs.declared.Run.{Run}
use Rattle.record.specs.declared.Link.{Link}
use Rattle.record.specs.declared.Peer.{Peer}
use Rattle.record.specs.Layout.{no_peer, no_link}
use Rattle.table.specs.Table.{decode_table, look}
use Rattle.rules.specs.declared.Frame.{Frame}
use Rattle.rules.specs.Book.{◌is◌}
use Rattle.agreement.specs.Calls.{Call, receive, Entry, Handed, AllHanded, none, more, table_after, mine, table_of, answer_of, stepped, Comes, last, sooner}
use Rattle.agreement.specs.Story.{Pair, exchanged, Story, is_confirm, frame_of, groups_in, limit_in, story_of}
use Rattle.agreement.specs.Story as story
use Rattle.agreement.specs.Sent.{drawn, expected_of, SendsBy, link_pair, made_over, SentOver}
use Rattle.agreement.specs.Statement as statement
use Rattle.agreement.specs.Statement.{Says, no-link, a_link}
use Rattle.agreement.specs.Needed.{UsesMutually, SentCommit, Rightful, Needed}
use Rattle.agreement.proofs.Rules.{Verified, verified}
use Rattle.agreement.proofs.Ruled.{no-run-state}
use Rattle.agreement.proofs.Shows.{Padded, RunShows, no-run, unpaired, paired, Shows, zero-two, one-two}
use Rattle.agreement.proofs.Stock.{sound-listing}
use Rattle.agreement.proofs.Engine.{Lawful, call_ends, fresh-look}
use Rattle.agreement.proofs.History.{look-same-address, held_of, shown, empty-slot}
use Rattle.agreement.proofs.Acts.{own_commit, view, Over, over_run, over_link, commit_is}
use Rattle.agreement.proofs.Wire.{FromRecord, record-from, parts-not, reads-own}
use Rattle.agreement.proofs.Deeds.{From, from, Deed, deed, view-none}

-- ---- what a story says where its record is Confirmed, or linked

abbrev pub pair_of : Peer → Pair
pair_of p = record { group = p.run.group; own = p.run.own; peer = p.run.peer }

abbrev pub link_pair_of : Peer → Pair
link_pair_of p = record { group = p.link.group; own = p.link.own; peer = p.link.peer }

pub pair_is : (x : Pair) {g : ℕ} {o p : List ℕ} → x.group ≡ g → x.own ≡ o → x.peer ≡ p → x ≡ record { group = g; own = o; peer = p }
pair_is x {g} {o} {p} e f k =
    ap (λ (y : ℕ). record { group = y; own = x.own; peer = x.peer }) e ∙ (ap (λ (y : List ℕ). record { group = g; own = y; peer = x.peer }) f
    ∙ ap (λ (y : List ℕ). record { group = g; own = o; peer = y }) k)

run-paired : {limit : ℕ} {r : Run} {b d : Bool} {f : Commit} {x : Pair} {ks : List Tally} → RunShows limit r b d f x ks → r.state ≡ 2
    → (b ≡ true) × (d ≡ true) × (x ≡ record { group = r.group; own = r.own; peer = r.peer })
run-paired (no-run e) s = zero-two (no-run-state _ e) s
run-paired (unpaired e a b c d f u) s = one-two e s
run-paired (paired {p = p} e a b c d f g u) s = (refl, refl, pair_is p a b c)

run-padded : {limit : ℕ} {r : Run} {b d : Bool} {f : Commit} {x : Pair} {ks : List Tally} → RunShows limit r b d f x ks → (r.state ≡ 0 → ⊥) → Padded r.group r.own
run-padded (no-run e) s = absurd (s (no-run-state _ e))
run-padded (unpaired e a b c d f u) s = c
run-padded (paired e a b c d f g u) s = d

pub shows-pair : (limit : ℕ) (p : Peer) (s : Story) → Shows limit p s → p.run.state ≡ 2 → s.pair ≡ pair_of p
shows-pair limit p s S e = (run-paired S.run e).2

no-link-clash : eqb no_link.finished 0 ≡ false → ⊥
unfolding no_link
no-link-clash f = clash refl f

says-link : {l : story.Link} {k : Link} (q : Pair) → Says l k → eqb k.finished 0 ≡ false → link_pair l q ≡ record { group = k.group; own = k.own; peer = k.peer }
says-link q no-link f = absurd (no-link-clash f)
says-link q (a_link {p = p} e a b c d) f = pair_is p (sym b) (sym c) (sym d)

-- ---- the call of an act

abbrev pub own_of : Pair → Commit
own_of p = record { group = p.group; octets = p.own }

abbrev pub peer_of : Pair → Commit
peer_of p = record { group = p.group; octets = p.peer }

record FrameCall (b : List ℕ) (c : Call) : Type 0 where
  address : List ℕ
  time : ℕ
  frame : List ℕ
  fresh : List ℕ
  expected : List ℕ
  verdict : ℕ
  whole : c ≡ receive address time frame fresh expected verdict
  near : same_address address b ≡ true

frame-call : {b : List ℕ} {c : Call} → From b c → FrameCall b c
frame-call (from {a = a} {time = t} {frame = f} {fresh = r} {expected = x} {verdict = v} s) =
    record { address = a; time = t; frame = f; fresh = r; expected = x; verdict = v; whole = refl; near = s }

record ConfirmCall (gs b : List ℕ) (c : Call) : Type 0 where
  address : List ℕ
  time : ℕ
  frame : List ℕ
  fresh : List ℕ
  expected : List ℕ
  counter : ℕ
  whole : c ≡ receive address time frame fresh expected 1
  near : same_address address b ≡ true
  reads : read_body gs frame ≡ Some (body.Confirm counter)

confirm-near : {b a f r x : List ℕ} {t v : ℕ} → From b (receive a t f r x v) → same_address a b ≡ true
confirm-near (from s) = s

confirm-call : {gs b : List ℕ} {c : Call} → Verified gs c → From b c → ConfirmCall gs b c
confirm-call (verified {address = a} {time = t} {frame = f} {fresh = r} {expected = x} {n = n} e) w =
    record { address = a; time = t; frame = f; fresh = r; expected = x; counter = n; whole = refl; near = confirm-near w; reads = e }

pub other-other : (X : Side) → other (other X) ≡ X
other-other A = refl
other-other B = refl

-- the world's part of an act, from what it uses, forms and accepts
world-of : (X : Side) (e : Act) (k : List model.Call)
    → ((c : Commit) → Uses c e → Unused X c k)
    → ((c q : Commit) → Forms c q e → Once (SendsCommit q) (other X) k)
    → ((c q : Commit) → Accepts c q e → Once (SendsConfirm q c) (other X) k)
    → World X e k
world-of X (fresh c) k u f a = u c refl
world-of X (form_fresh c p) k u f a = (u c refl, f c p (refl, refl))
world-of X (form_own c p) k u f a = f c p (refl, refl)
world-of X (send_commit c) k u f a = tt
world-of X (send_confirm c p) k u f a = tt
world-of X (send_both c p) k u f a = tt
world-of X (accept c p) k u f a = a c p (refl, refl)
world-of X end_run k u f a = tt
world-of X end_link k u f a = tt
world-of X end_both k u f a = tt
world-of X idle k u f a = tt

-- a use of Z in a list of calls
record UsedIn (own : Side → List ℕ) (c : Commit) (Z : Side) (h : List Entry) : Type 0 where
  call : Entry
  by : Z ≡ call.side
  before : List Entry
  comes : Comes call before h
  uses : UsesMutually own c before call

-- ---- the acts of a list of calls

mine-same : {T : Type 0} (X : Side) (s t : T) → mine X X s t ≡ s
mine-same A s t = refl
mine-same B s t = refl

mine-other : {T : Type 0} (X : Side) (s t : T) → mine X (other X) s t ≡ t
mine-other A s t = refl
mine-other B s t = refl

pub table_same : (e : Entry) (h : List Entry) → table_of (e ∷ h) e.side ≡ table_after (table_of h e.side) e.call
unfolding table_of
table_same e h = mine-same e.side _ _

table-other : (e : Entry) (h : List Entry) → table_of (e ∷ h) (other e.side) ≡ table_of h (other e.side)
unfolding table_of
table-other e h = mine-other e.side _ _

module _ (L : Lawful) (own : Side → List ℕ) where
  abbrev peer_at : List Entry → Side → Peer
  peer_at h X = look (decode_table (table_of h X)) (own (other X))

  abbrev DeedAt : List Entry → Entry → Act → Type 0
  DeedAt h e a =
      Deed (groups_in (table_of h e.side)) e.call (stepped h e) (answer_of h e) (table_after (table_of h e.side) e.call) (own (other e.side))
      (peer_at h e.side) (look (decode_table (table_after (table_of h e.side) e.call)) (own (other e.side))) a

  pub deed-of : {e : Entry} {h : List Entry} → Handed e → AllHanded h → (a : Act) × DeedAt h e a
  deed-of {e} {h} k H =
      deed (table_of h e.side) (own (other e.side)) (story_of h e.side (own (other e.side)))
      (call_ends L (table_of h e.side) (held_of L H e.side) k.call) (shown L H e.side (own (other e.side)))

  unfoldable pub hist : {h : List Entry} → AllHanded h → List model.Call
  hist none = []
  hist (more {e = e} k H) = model.by e.side (deed-of k H).0 ∷ hist H

  -- the record just left, where the call is the printer's own
  left-peer : (e : Entry) (h : List Entry) → peer_at (e ∷ h) e.side ≡ look (decode_table (table_after (table_of h e.side) e.call)) (own (other e.side))
  left-peer e h = ap (λ (t : List ℕ). look (decode_table t) (own (other e.side))) (table_same e h)

  look_none : (X : Side) → peer_at [] X ≡ no_peer
  unfolding table_of
  look_none X = fresh-look (decode_table []) (own (other X)) empty-slot

  -- the protocol's state is what the records say
  pub states : {h : List Entry} (H : AllHanded h) (X : Side) → state (hist H) X ≡ view (peer_at h X)
  unfolding hist
  states none X = sym (ap view (look_none X) ∙ view-none)
  states (more {e = e} {h = h} k H) X =
      sides (λ Z. state (hist (more k H)) Z ≡ view (peer_at (e ∷ h) Z)) e.side
      (state-same e.side (deed-of k H).0 (hist H) ∙ (ap (act (deed-of k H).0) (states H e.side) ∙ ((deed-of k H).1.moves ∙ ap view (sym (left-peer e h)))))
      (state-other e.side (deed-of k H).0 (hist H) ∙ (states H (other e.side) ∙ ap (λ (t : List ℕ). view (look (decode_table t) (own (other (other e.side))))) (sym (table-other e h))))
      X

  uses-of : {e : Entry} {h : List Entry} (k : Handed e) (H : AllHanded h) (c : Commit) → Uses c (deed-of k H).0 → UsesMutually own c h e
  uses-of k H c u =
      let w = (deed-of k H).1.uses c u in record { uses = record { stepped = w.done; afresh = w.afresh; used = w.used }; to = w.to }

  -- a commit that the protocol has used, a call of the list used
  used-in : {h : List Entry} (H : AllHanded h) (c : Commit) (Z : Side) (t : ℕ) → At (Uses c) Z t (hist H) → UsedIn own c Z h
  unfolding hist
  used-in none c Z t o = elim o [ ]
  used-in (more {e = e} {h = h} k H) c Z t (now z q u) = record { call = e; by = z; before = h; comes = last; uses = uses-of k H c u }
  used-in (more k H) c Z t (earlier o) = let w = used-in H c Z t o in record { call = w.call; by = w.by; before = w.before; comes = sooner w.comes; uses = w.uses }

  -- what a call of the list did, the protocol has done
  once-at : {e : Entry} {before h : List Entry} (P : Act → Type 0) (Y : Side) → Comes e before h → (H : AllHanded h)
      → ((k : Handed e) (K : AllHanded before) → P (deed-of k K).0) → Y ≡ e.side → Once P Y (hist H)
  unfolding hist
  once-at P Y last (more k H) f z = (length (hist H), now z refl (f k H))
  once-at P Y (sooner c) (more k H) f z = let o = once-at P Y c H f z in (o.0, earlier o.1)

  module _ {e : Entry} {h : List Entry} (k : Handed e) (H : AllHanded h) where
    abbrev address : List ℕ
    address = own (other e.side)

    abbrev now-left : Peer
    now-left = look (decode_table (table_after (table_of h e.side) e.call)) address

    shown-left : Shows (limit_in (table_of (e ∷ h) e.side)) now-left (story_of (e ∷ h) e.side address)
    shown-left = subst (λ (q : Peer). Shows (limit_in (table_of (e ∷ h) e.side)) q (story_of (e ∷ h) e.side address)) (left-peer e h) (shown L (more k H) e.side address)

    -- a Confirm sent
    confirm-made : (octets : List ℕ) (x : Frame) (p : Pair) → SendsBy e.side address octets h e x → is_confirm x ≡ true
        → made_over x (story_of (e ∷ h) e.side address) ≡ p → SendsConfirm (own_of p) (peer_of p) (deed-of k H).0
    confirm-made octets x p S i m = go ((deed-of k H).1.confirms S.stepped S.to x S.among i)
      where
        go : Over now-left x (deed-of k H).0 → SendsConfirm (own_of p) (peer_of p) (deed-of k H).0
        go (over_run f s c) =
            let z : (story_of (e ∷ h) e.side address).pair ≡ p = rw f at m in
            subst (λ (y : Pair). SendsConfirm (own_of y) (peer_of y) (deed-of k H).0) (sym (shows-pair _ now-left _ shown-left s) ∙ z) c
        go (over_link f s c) =
            let z : link_pair (story_of (e ∷ h) e.side address).link (story_of (e ∷ h) e.side address).pair ≡ p = rw f at m in
            subst (λ (y : Pair). SendsConfirm (own_of y) (peer_of y) (deed-of k H).0) (sym (says-link _ shown-left.link (not-true _ s)) ∙ z) c

    -- a Commit sent, and read
    commit-sent : (gs octets : List ℕ) (g n : ℕ) (x : Frame) → read_body gs octets ≡ Some (body.Commit g n) → SendsBy e.side address octets h e x
        → SendsCommit (record { group = g; octets = stored (commit_of octets g n) }) (deed-of k H).0
    commit-sent gs octets g n x r S = go (x.status is 0) refl
      where
        u : List ℕ
        u = table_after (table_of h e.side) e.call

        made : drawn u (answer_of h e).address e.value (expected_of e.call) x ≡ Octets octets
        made = subst (λ (t : List ℕ). drawn t (answer_of h e).address e.value (expected_of e.call) x ≡ Octets octets) (table_same e h) S.made

        near : look (decode_table u) address ≡ look (decode_table u) (answer_of h e).address
        near = look-same-address (decode_table u) (answer_of h e).address address S.to

        own-one : (x.status is 0) ≡ true → FromRecord gs octets g n r (groups_in u) (look (decode_table u) (answer_of h e).address) x.sequence
            → SendsCommit (record { group = g; octets = stored (commit_of octets g n) }) (deed-of k H).0
        own-one z F =
            let w = (deed-of k H).1.commits S.stepped S.to x S.among F.commit z in
            let G = subst (λ (q : Peer). FromRecord gs octets g n r (groups_in u) q x.sequence) (sym near) F in
            let P = run-padded shown-left.run (eqb-false _ _ G.some) in
            subst (λ (y : Commit). SendsCommit y (deed-of k H).0) (sym (reads-own gs octets g n r (groups_in u) now-left x.sequence (sound-listing u w.0) G P)) w.1

        go : (b : Bool) → (x.status is 0) ≡ b → SendsCommit (record { group = g; octets = stored (commit_of octets g n) }) (deed-of k H).0
        go true z = own-one z (record-from gs octets g n r (groups_in u) _ x.sequence e.value (rw z at made))
        go false z = absurd (parts-not gs octets g n r (groups_in u) x.sequence x.status x.group x.counter _ z (rw z at made))

  -- the same where the printer is named
  confirm-made-by : {e : Entry} {h : List Entry} (k : Handed e) (H : AllHanded h) (Y : Side) (octets : List ℕ) (x : Frame) (p : Pair) → e.side ≡ Y
      → SendsBy Y (own (other Y)) octets h e x → is_confirm x ≡ true → made_over x (story_of (e ∷ h) Y (own (other Y))) ≡ p → SendsConfirm (own_of p) (peer_of p) (deed-of k H).0
  confirm-made-by {e} {h} k H Y octets x p z =
      subst (λ (Z : Side). SendsBy Z (own (other Z)) octets h e x → is_confirm x ≡ true → made_over x (story_of (e ∷ h) Z (own (other Z))) ≡ p
      → SendsConfirm (own_of p) (peer_of p) (deed-of k H).0) z (confirm-made k H octets x p)

  commit-sent-by : {e : Entry} {h : List Entry} (k : Handed e) (H : AllHanded h) (Y : Side) (gs octets : List ℕ) (g n : ℕ) (x : Frame) → e.side ≡ Y
      → read_body gs octets ≡ Some (body.Commit g n) → SendsBy Y (own (other Y)) octets h e x → SendsCommit (record { group = g; octets = stored (commit_of octets g n) }) (deed-of k H).0
  commit-sent-by {e} {h} k H Y gs octets g n x z r =
      subst (λ (Z : Side). SendsBy Z (own (other Z)) octets h e x → SendsCommit (record { group = g; octets = stored (commit_of octets g n) }) (deed-of k H).0) z
      (commit-sent k H gs octets g n x r)

  once-commit : {h : List Entry} (H : AllHanded h) (Y : Side) (gs : List ℕ) (c : Commit) → SentCommit Y (own (other Y)) gs c h → Once (SendsCommit c) Y (hist H)
  once-commit H Y gs c C =
      let S = C.sent in
      subst (λ (d : Commit). Once (SendsCommit d) Y (hist H)) (sym (commit_is c refl (sym C.commit)))
      (once-at _ Y S.comes H (λ k K. commit-sent-by k K Y gs C.octets c.group C.token S.frame S.sends.by C.reads S.sends) (sym S.sends.by))

  once-confirm : {h : List Entry} (H : AllHanded h) (Y : Side) (octets : List ℕ) (p : Pair) → SentOver Y (own (other Y)) octets p h
      → Once (SendsConfirm (own_of p) (peer_of p)) Y (hist H)
  once-confirm H Y octets p S =
      once-at _ Y S.comes H (λ k K. confirm-made-by k K Y octets S.frame p S.sends.by S.sends S.confirm S.over) (sym S.sends.by)

  -- what is needed of the calls before the last
  rightful-before : (e : Entry) (h : List Entry) → Rightful own (e ∷ h) → Rightful own h
  rightful-before e h P = record { right = λ X d before a time frame fresh expected n c. P.right X d before a time frame fresh expected n (sooner c) }

  needed-before : (e : Entry) (h : List Entry) → Needed own (e ∷ h) → Needed own h
  needed-before e h P = record {
    once = λ d f before sooner' x c. P.once d f before sooner' x (sooner c);
    only = λ X d before a time frame fresh expected verdict g n c. P.only X d before a time frame fresh expected verdict g n (sooner c);
    rightful = rightful-before e h P.rightful;
  }

  -- this printer's address, by the other one
  back : (X : Side) (F : List ℕ → Type 0) → F (own X) → F (own (other (other X)))
  back X F s = subst (λ (Z : Side). F (own Z)) (sym (other-other X)) s

  module _ {e : Entry} {h : List Entry} (k : Handed e) (H : AllHanded h) (P : Needed own (e ∷ h)) where
    uses-first : (c : Commit) → Uses c (deed-of k H).0 → Unused e.side c (hist H)
    uses-first c u o =
        let v = used-in H c e.side o.0 o.1 in P.once e v.call h v.before c last v.comes (sym v.by) (uses-of k H c u) v.uses

    forms-sent : (c q : Commit) → Forms c q (deed-of k H).0 → Once (SendsCommit q) (other e.side) (hist H)
    forms-sent c q f =
        let w = (deed-of k H).1.forms c q f in
        let x = frame-call w.came in
        let n = w.hears.token in
        let gs = groups_in (table_of h e.side) in
        let z : frame_of e.call ≡ x.frame = ap frame_of x.whole in
        let r : read_body gs x.frame ≡ Some (body.Commit q.group n) = rw z at w.hears.reads in
        let y : q.octets ≡ stored (commit_of x.frame q.group n) = rw z at w.hears.stored_as in
        let d : Commit = record { group = q.group; octets = stored (commit_of x.frame q.group n) } in
        let C = P.only e.side e h x.address x.time x.frame x.fresh x.expected x.verdict q.group n last w.done refl x.whole x.near r w.forms in
        subst (λ (b : Commit). Once (SendsCommit b) (other e.side) (hist H)) (sym (commit_is q refl y))
        (once-commit H (other e.side) gs d (back e.side (λ a. SentCommit (other e.side) a gs d h) C))

  module _ {e : Entry} {h : List Entry} (k : Handed e) (H : AllHanded h) (P : Rightful own (e ∷ h)) where
    accepts-made : (c q : Commit) → Accepts c q (deed-of k H).0 → Once (SendsConfirm q c) (other e.side) (hist H)
    accepts-made c q a =
        let w = (deed-of k H).1.accepts c q a in
        let x = confirm-call w.right w.came in
        let m = run-paired (shown L H e.side (own (other e.side))).run w.state in
        let S = P.right e.side e h x.address x.time x.frame x.fresh x.expected x.counter last w.done refl x.whole x.near x.reads m.0 m.1 w.event in
        let p = exchanged (pair_of (peer_at h e.side)) in
        let T = subst (λ (x : Pair). SentOver (other e.side) (own e.side) S.0 (exchanged x) h) m.2 S.1 in
        subst (λ (d : Commit). Once (SendsConfirm q d) (other e.side) (hist H)) (sym w.own)
        (subst (λ (d : Commit). Once (SendsConfirm d (own_commit (peer_at h e.side))) (other e.side) (hist H)) (sym w.peer)
        (once-confirm H (other e.side) S.0 p (back e.side (λ b. SentOver (other e.side) b S.0 p h) T)))

  -- the rules see to the printer's own part of an act
  may-act : {e : Entry} {h : List Entry} (k : Handed e) (H : AllHanded h) → Guard (deed-of k H).0 (state (hist H) e.side)
  may-act {e} k H = subst⁻¹ (Guard (deed-of k H).0) (states H e.side) (deed-of k H).1.may

  pub rightful : {h : List Entry} (H : AllHanded h) → Rightful own h → model.Rightful (hist H)
  unfolding hist
  rightful none P = tt
  rightful (more {e = e} {h = h} k H) P = ((may-act k H, accepts-made k H P), rightful H (rightful-before e h P))

  pub valid : {h : List Entry} (H : AllHanded h) → Needed own h → Valid (hist H)
  unfolding hist
  valid none P = tt
  valid (more {e = e} {h = h} k H) P = (
    (
      may-act k H,
      world-of e.side (deed-of k H).0 (hist H) (uses-first k H P) (forms-sent k H P) (accepts-made k H P.rightful),
    ),
    valid H (needed-before e h P),
  )

  -- ---- a pair that the protocol has formed, a call of the list formed

  form-here : {e : Entry} {h : List Entry} (k : Handed e) (H : AllHanded h) (p : Pair) → Forms (own_of p) (peer_of p) (deed-of k H).0
      → statement.Formed e.side (own (other e.side)) p (e ∷ h)
  form-here {e} {h} k H p f =
      let w = (deed-of k H).1.forms (own_of p) (peer_of p) f in
      let g : p.group ≡ (now-left k H).run.group = ap (λ (c : Commit). c.group) w.own in
      let o : p.own ≡ (now-left k H).run.own = ap (λ (c : Commit). c.octets) w.own in
      let t : p.peer ≡ (now-left k H).run.peer = ap (λ (c : Commit). c.octets) w.peer in
      record {
        call = e;
        before = h;
        comes = last;
        by = refl;
        stepped = w.done;
        to = w.to;
        forms = w.forms;
        pair = shows-pair _ (now-left k H) _ (shown-left k H) w.state ∙ sym (pair_is p g o t);
      }

  pub formed-in : {h : List Entry} (H : AllHanded h) (Y : Side) (p : Pair) (t : ℕ) → At (Forms (own_of p) (peer_of p)) Y t (hist H) → statement.Formed Y (own (other Y)) p h
  unfolding hist
  formed-in none Y p t o = elim o [ ]
  formed-in (more {e = e} {h = h} k H) Y p t (now z q f) =
      subst (λ (Z : Side). statement.Formed Z (own (other Z)) p (e ∷ h)) (sym z) (form-here k H p f)
  formed-in (more k H) Y p t (earlier o) =
      let w = formed-in H Y p t o in
      record { call = w.call; before = w.before; comes = sooner w.comes; by = w.by; stepped = w.stepped; to = w.to; forms = w.forms; pair = w.pair }
