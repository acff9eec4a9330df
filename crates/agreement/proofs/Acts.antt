-- Each step is one act of the protocol: what the record says before and after, and what the step uses, forms, accepts and sends.
use mathlib.Core.Path.{◌≡◌, refl, sym, ap, ◌∙◌}
use mathlib.Core.Logic.{◌⊎◌, inl, inr}
use mathlib.Core.Bool.{Bool, true, false}
use mathlib.Core.List.{List}
use Prim.Native.Nat.{ℕ, ◌+◌, ◌≤◌, ◌<◌}
use native.Mathlib.Omega.{arith}
use lib.Dec.{eqb}
use borrow.Author.Tests.{ne_eqb, not-true}
use Rattle.protocol.specs.Model.{Commit, nothing, committed, confirmed, unlinked, finished, Act, fresh, form_fresh, form_own, send_commit, send_confirm, send_both, accept, end_run, end_link, idle, act, Uses, Forms, SendsCommit, SendsConfirm, Accepts, Unpaired, Guard}
use Rattle.protocol.specs.Model as model
use Rattle.std.specs.Prelude.{if◌then◌else◌}
use Rattle.octets.proofs.Scan.{clash}
use Rattle.groups.specs.Groups.{fresh_for}
use Rattle.record.specs.declared.Run.{Run}
use Rattle.record.specs.declared.Link.{Link}
use Rattle.record.specs.declared.Peer.{Peer}
use Rattle.record.specs.Layout.{no_run, no_link}
use Rattle.rules.specs.declared.Frame.{Frame}
use Rattle.rules.specs.declared.Frames.TheVariants.{None, One, Two}
use Rattle.rules.specs.Book.{Step}
use Rattle.rules.specs.Book.{◌is◌, ◌isnt◌, supersede}
use Rattle.agreement.specs.Calls.{Call}
use Rattle.agreement.specs.Story.{stock_in, some_frame, is_confirm, is_first_confirm, is_accepted}
use Rattle.agreement.specs.Sent.{Among, only, first, second}
use Rattle.agreement.proofs.Rules.{SameRun, SameLink, Afresh, Hears, Verified, Does, quiet, informs, starts, switches, forms_fresh, forms_own, repeats, repeats_both, repeats_confirm, accepts, abandons, ends, answers}

-- ---- what a record is to the protocol

abbrev pub own_commit : Peer → Commit
own_commit p = record { group = p.run.group; octets = p.run.own }

abbrev pub peer_commit : Peer → Commit
peer_commit p = record { group = p.run.group; octets = p.run.peer }

abbrev pub link_own : Peer → Commit
link_own p = record { group = p.link.group; octets = p.link.own }

abbrev pub link_peer : Peer → Commit
link_peer p = record { group = p.link.group; octets = p.link.peer }

unfoldable pub view_run : Run → model.Run
view_run r =
    if r.state is 1 then committed (record { group = r.group; octets = r.own })
    else if r.state is 2 then confirmed (record { group = r.group; octets = r.own }) (record { group = r.group; octets = r.peer })
    else nothing

unfoldable pub view_link : Link → model.Link
view_link l =
    if l.finished is 0 then unlinked
    else finished (record { group = l.group; octets = l.own }) (record { group = l.group; octets = l.peer }) (l.superseded isnt 0)

unfoldable pub view : Peer → model.Peer
view p = record { run = view_run p.run; link = view_link p.link }

pub commit_is : (d : Commit) {g : ℕ} {o : List ℕ} → d.group ≡ g → d.octets ≡ o → d ≡ record { group = g; octets = o }
commit_is d {g} {o} e f = ap (λ (x : ℕ). record { group = x; octets = d.octets }) e ∙ ap (λ (x : List ℕ). record { group = g; octets = x }) f

view-nothing : (r : Run) → r.state ≡ 0 → view_run r ≡ nothing
unfolding view_run
view-nothing r e = rw e

pub view-no-run : (r : Run) → r ≡ no_run → view_run r ≡ nothing
unfolding view_run no_run
view-no-run r e = rw e

pub view-committed : (r : Run) {g : ℕ} {o : List ℕ} → r.state ≡ 1 → r.group ≡ g → r.own ≡ o → view_run r ≡ committed (record { group = g; octets = o })
unfolding view_run
view-committed r e f k = rw (e, f, k)

pub view-confirmed : (r : Run) {g : ℕ} {o p : List ℕ} → r.state ≡ 2 → r.group ≡ g → r.own ≡ o → r.peer ≡ p
    → view_run r ≡ confirmed (record { group = g; octets = o }) (record { group = g; octets = p })
unfolding view_run
view-confirmed r e f k m = rw (e, f, k, m)

view-same-run : (p q : Peer) → SameRun p q → view_run p.run ≡ view_run q.run
unfolding view_run
view-same-run p q E = rw (E.state, E.group, E.own, E.peer)

view-same-link : (p q : Peer) → SameLink p q → view_link p.link ≡ view_link q.link
unfolding view_link
view-same-link p q E = rw (E.finished, E.superseded, E.group, E.own, E.peer)

view-supersede : (l : Link) → view_link (supersede l) ≡ model.marked (view_link l)
unfolding view_link supersede
view-supersede l = go (l.finished is 0) refl
  where
    go : (b : Bool) → (l.finished is 0) ≡ b → view_link (supersede l) ≡ model.marked (view_link l)
    go true e = rw (e, e)
    go false e = rw (e, e)

pub view-no-link : (l : Link) → l ≡ no_link → view_link l ≡ unlinked
unfolding view_link no_link
view-no-link l e = rw e

view-finished : (l : Link) (g : ℕ) (o p : List ℕ) → l.finished ≡ 1 → l.superseded ≡ 0 → l.group ≡ g → l.own ≡ o → l.peer ≡ p
    → view_link l ≡ finished (record { group = g; octets = o }) (record { group = g; octets = p }) false
unfolding view_link
view-finished l g o p e f k m n = rw (e, f, k, m, n)

pub peer-is : {r s : model.Run} {k l : model.Link} → r ≡ s → k ≡ l → ◌≡◌ {A = model.Peer} (record { run = r; link = k }) (record { run = s; link = l })
peer-is {r} {s} {k} {l} e f = ap (λ (x : model.Run). record { run = x; link = k }) e ∙ ap (λ (x : model.Link). record { run = s; link = x }) f

-- ---- what the act says of the step

-- a Confirm was made over the pair of the run left, or with counter 65,535 over the link's
pub data Over (q : Peer) (x : Frame) (e : Act) : Type 0 where
  over_run : eqb x.counter 65535 ≡ false → q.run.state ≡ 2 → SendsConfirm (own_commit q) (peer_commit q) e → Over q x e
  over_link : eqb x.counter 65535 ≡ true → q.link.finished isnt 0 ≡ true → SendsConfirm (link_own q) (link_peer q) e → Over q x e

pub record Forming (gs : List ℕ) (c : Call) (o : Step) (d q : Commit) : Type 0 where
  pub hears : Hears gs c q.group q.octets
  pub answers : some_frame is_first_confirm o.frames ≡ true
  pub state : o.peer.run.state ≡ 2
  pub own : d ≡ own_commit o.peer
  pub peer : q ≡ peer_commit o.peer

pub record Accepting (gs : List ℕ) (c : Call) (p : Peer) (o : Step) (d q : Commit) : Type 0 where
  pub right : Verified gs c
  pub event : is_accepted o.event ≡ true
  pub state : p.run.state ≡ 2
  pub own : d ≡ own_commit p
  pub peer : q ≡ peer_commit p

pub record Did (gs : List ℕ) (c : Call) (p : Peer) (o : Step) (e : Act) : Type 0 where
  pub moves : act e (view p) ≡ view o.peer
  pub may : Guard e (view p)
  pub uses : (d : Commit) → Uses d e → (eqb o.afresh 0 ≡ false) × (record { group = o.afresh; octets = fresh_for gs (stock_in gs c) o.afresh } ≡ d)
  pub forms : (d q : Commit) → Forms d q e → Forming gs c o d q
  pub accepts : (d q : Commit) → Accepts d q e → Accepting gs c p o d q
  pub commits : (x : Frame) → Among x o.frames → is_confirm x ≡ false → eqb x.status 0 ≡ true → SendsCommit (own_commit o.peer) e
  pub confirms : (x : Frame) → Among x o.frames → is_confirm x ≡ true → Over o.peer x e

none-among : {x : Frame} {X : Type 0} → Among x None → X
none-among m = elim m [ ]

-- the frames of an answer, one by one
among_one : {y : Frame} (P : Frame → Type 0) → P y → (x : Frame) → Among x (One y) → P x
among_one P p x only = p

among_two : {y z : Frame} (P : Frame → Type 0) → P y → P z → (x : Frame) → Among x (Two y z) → P x
among_two P p q x first = p
among_two P p q x second = q

used-is : (gs : List ℕ) (c : Call) (g : ℕ) (own : List ℕ) (d : Commit) → Afresh gs c g own → d ≡ record { group = g; octets = own }
    → (eqb g 0 ≡ false) × (record { group = g; octets = fresh_for gs (stock_in gs c) g } ≡ d)
used-is gs c g own d A e = (A.some, ap (λ (x : List ℕ). record { group = g; octets = x }) (sym A.stock) ∙ sym e)

own_is : (q : Peer) {g : ℕ} {o : List ℕ} → q.run.group ≡ g → q.run.own ≡ o → own_commit q ≡ record { group = g; octets = o }
own_is q e f = commit_is (own_commit q) e f

peer-commit-is : (q : Peer) {g : ℕ} {o : List ℕ} → q.run.group ≡ g → q.run.peer ≡ o → peer_commit q ≡ record { group = g; octets = o }
peer-commit-is q e f = commit_is (peer_commit q) e f

small-counter : (n m limit : ℕ) → n ≡ m + 1 → m ≤ limit → limit + 1 < 256 → eqb (n + 1) 65535 ≡ false
small-counter n m limit e l k = ne_eqb (n + 1) 65535 (λ z. omega arith)

link-pair : (l : Link) → eqb l.finished 0 ≡ false
    → model.LinkPair (view_link l) (record { group = l.group; octets = l.own }) (record { group = l.group; octets = l.peer })
unfolding view_link
link-pair l e = rw e (refl, refl)

module _ (gs : List ℕ) (c : Call) where
  -- nothing happens to the protocol
  idle-did : (p q : Peer) (o : Step) → o.peer ≡ q → view p ≡ view q → ((x : Frame) → Among x o.frames → is_confirm x ≡ false → eqb x.status 0 ≡ true → ⊥)
      → ((x : Frame) → Among x o.frames → is_confirm x ≡ true → ⊥) → Did gs c p o idle
  idle-did p q o k e m n = record {
    moves = e ∙ ap view (sym k);
    may = tt;
    uses = λ d u. absurd u;
    forms = λ d q u. absurd u;
    accepts = λ d q u. absurd u;
    commits = λ x a i j. absurd (m x a i j);
    confirms = λ x a i. absurd (n x a i);
  }

  pub did : (limit : ℕ) → limit + 1 < 256 → (p : Peer) {o : Step} → (p.run.state ≡ 2 → p.run.sc ≡ p.run.sync + 1) → Does gs limit c p o → (e : Act) × Did gs c p o e
  unfolding view
  did limit low p K (quiet {q} n E L) =
      (idle, idle-did p q _ refl (peer-is (view-same-run p q E) (view-same-link p q L)) (λ x m i j. none-among m) (λ x m i. none-among m))
  did limit low p K (informs n s y) =
      (idle, idle-did p p _ refl refl (among_one (λ x. is_confirm x ≡ false → eqb x.status 0 ≡ true → ⊥) (λ i j. clash j y)) (among_one (λ x. is_confirm x ≡ true → ⊥) (λ i. clash i refl)))
  did limit low p K (starts {q} {g} {own} n m s A C k) = (
    fresh (record { group = g; octets = own }),
    record {
      moves = peer-is (sym (view-committed q.run C.state C.group C.own)) (ap view_link (sym k));
      may = rw (view-nothing p.run s) tt;
      uses = λ d u. used-is gs c g own d A u;
      forms = λ d q u. absurd u;
      accepts = λ d q u. absurd u;
      commits = λ x m i j. own_is q C.group C.own;
      confirms = among_one (λ x. is_confirm x ≡ true → Over q x _) (λ i. absurd (clash i refl));
    },
  )
  did limit low p K (switches {q} {g} {own} n s A C k) = (
    fresh (record { group = g; octets = own }),
    record {
      moves = peer-is (sym (view-committed q.run C.state C.group C.own)) (ap view_link (sym k));
      may = rw (view-committed p.run s refl refl) tt;
      uses = λ d u. used-is gs c g own d A u;
      forms = λ d q u. absurd u;
      accepts = λ d q u. absurd u;
      commits = λ x m i j. own_is q C.group C.own;
      confirms = among_one (λ x. is_confirm x ≡ true → Over q x _) (λ i. absurd (clash i refl));
    },
  )
  did limit low p K (forms_fresh {q} {g} {own} {theirs} n s A H C k) = (
    form_fresh (record { group = g; octets = own }) (record { group = g; octets = theirs }),
    record {
      moves = peer-is (sym (view-confirmed q.run C.state C.group C.own C.peer)) (sym (ap view_link k ∙ view-supersede p.link));
      may = unpaired s;
      uses = λ d u. used-is gs c g own d A u;
      forms = λ d r u. record {
        hears = rw u.1 H;
        answers = refl;
        state = C.state;
        own = u.0 ∙ sym (own_is q C.group C.own);
        peer = u.1 ∙ sym (peer-commit-is q C.group C.peer);
      };
      accepts = λ d q u. absurd u;
      commits = λ x m i j. own_is q C.group C.own;
      confirms = among_two (λ x. is_confirm x ≡ true → Over q x (form_fresh (record { group = g; octets = own }) (record { group = g; octets = theirs })))
          (λ i. absurd (clash i refl)) (λ i. over_run refl C.state (own_is q C.group C.own, peer-commit-is q C.group C.peer));
    },
  )
    where
      unpaired : (p.run.state ≡ 0) ⊎ (p.run.state ≡ 1) → Unpaired (view_run p.run)
      unpaired (inl e) = rw (view-nothing p.run e) tt
      unpaired (inr e) = rw (view-committed p.run e refl refl) tt
  did limit low p K (forms_own {q} {theirs} n s H C k) = (
    form_own (own_commit p) (record { group = p.run.group; octets = theirs }),
    record {
      moves = peer-is (sym (view-confirmed q.run C.state C.group C.own C.peer)) (sym (ap view_link k ∙ view-supersede p.link));
      may = view-committed p.run s refl refl;
      uses = λ d u. absurd u;
      forms = λ d r u. record {
        hears = rw u.1 H;
        answers = refl;
        state = C.state;
        own = u.0 ∙ sym (own_is q C.group C.own);
        peer = u.1 ∙ sym (peer-commit-is q C.group C.peer);
      };
      accepts = λ d q u. absurd u;
      commits = among_one (λ x. is_confirm x ≡ false → eqb x.status 0 ≡ true → SendsCommit (own_commit q) (form_own (own_commit p) (record { group = p.run.group; octets = theirs })))
          (λ i j. absurd (clash refl i));
      confirms = among_one (λ x. is_confirm x ≡ true → Over q x (form_own (own_commit p) (record { group = p.run.group; octets = theirs })))
          (λ i. over_run refl C.state (own_is q C.group C.own, peer-commit-is q C.group C.peer));
    },
  )
  did limit low p K (repeats {q} n s m C k) = (
    send_commit (own_commit p),
    record {
      moves = peer-is (view-committed p.run s refl refl ∙ sym (view-committed q.run C.state C.group C.own)) (ap view_link (sym k));
      may = rw (view-committed p.run s refl refl);
      uses = λ d u. absurd u;
      forms = λ d q u. absurd u;
      accepts = λ d q u. absurd u;
      commits = λ x m i j. own_is q C.group C.own;
      confirms = among_one (λ x. is_confirm x ≡ true → Over q x (send_commit (own_commit p))) (λ i. absurd (clash i refl));
    },
  )
  did limit low p K (repeats_both {q} n s m C k) = (
    send_both (own_commit p) (peer_commit p),
    record {
      moves = peer-is (view-confirmed p.run s refl refl refl ∙ sym (view-confirmed q.run C.state C.group C.own C.peer)) (ap view_link (sym k));
      may = view-confirmed p.run s refl refl refl;
      uses = λ d u. absurd u;
      forms = λ d q u. absurd u;
      accepts = λ d q u. absurd u;
      commits = λ x m i j. own_is q C.group C.own;
      confirms = among_two (λ x. is_confirm x ≡ true → Over q x (send_both (own_commit p) (peer_commit p)))
          (λ i. absurd (clash i refl)) (λ i. over_run (small-counter _ _ limit (K s) m low) C.state (own_is q C.group C.own, peer-commit-is q C.group C.peer));
    },
  )
  did limit low p K (repeats_confirm {q} n s m C k) = (
    send_confirm (own_commit p) (peer_commit p),
    record {
      moves = peer-is (view-confirmed p.run s refl refl refl ∙ sym (view-confirmed q.run C.state C.group C.own C.peer)) (ap view_link (sym k));
      may = rw (view-confirmed p.run s refl refl refl) (refl, refl);
      uses = λ d u. absurd u;
      forms = λ d q u. absurd u;
      accepts = λ d q u. absurd u;
      commits = among_one (λ x. is_confirm x ≡ false → eqb x.status 0 ≡ true → SendsCommit (own_commit q) (send_confirm (own_commit p) (peer_commit p))) (λ i j. absurd (clash refl i));
      confirms = among_one (λ x. is_confirm x ≡ true → Over q x (send_confirm (own_commit p) (peer_commit p)))
          (λ i. over_run (small-counter _ _ limit (K s) m low) C.state (own_is q C.group C.own, peer-commit-is q C.group C.peer));
    },
  )
  did limit low p K (accepts {q} n s v k i j g x y) = (
    accept (own_commit p) (peer_commit p),
    record {
      moves = peer-is (sym (view-no-run q.run k)) (sym (view-finished q.link _ _ _ i j g x y));
      may = view-confirmed p.run s refl refl refl;
      uses = λ d u. absurd u;
      forms = λ d q u. absurd u;
      accepts = λ d r u. record { right = v; event = refl; state = s; own = u.0; peer = u.1 };
      commits = λ x m i j. none-among m;
      confirms = λ x m i. none-among m;
    },
  )
  did limit low p K (abandons {q} n k i) = (
    end_run,
    record {
      moves = peer-is (sym (view-no-run q.run k)) (ap view_link (sym i));
      may = tt;
      uses = λ d u. absurd u;
      forms = λ d q u. absurd u;
      accepts = λ d q u. absurd u;
      commits = λ x m i j. none-among m;
      confirms = λ x m i. none-among m;
    },
  )
  did limit low p K (ends {q} n k i) = (
    end_link,
    record {
      moves = peer-is (ap view_run (sym k)) (sym (view-no-link q.link i));
      may = tt;
      uses = λ d u. absurd u;
      forms = λ d q u. absurd u;
      accepts = λ d q u. absurd u;
      commits = λ x m i j. none-among m;
      confirms = λ x m i. none-among m;
    },
  )
  did limit low p K (answers {q} n s f k E) = (
    send_confirm (link_own p) (link_peer p),
    record {
      moves = peer-is (ap view_run (sym k)) (view-same-link p q E);
      may = rw (view-nothing p.run s) (link-pair p.link (not-true _ f));
      uses = λ d u. absurd u;
      forms = λ d q u. absurd u;
      accepts = λ d q u. absurd u;
      commits = among_one (λ x. is_confirm x ≡ false → eqb x.status 0 ≡ true → SendsCommit (own_commit q) (send_confirm (link_own p) (link_peer p))) (λ i j. absurd (clash refl i));
      confirms = among_one (λ x. is_confirm x ≡ true → Over q x (send_confirm (link_own p) (link_peer p)))
          (λ i. over_link refl (rw E.finished f) (commit_is (link_own q) E.group E.own, commit_is (link_peer q) E.group E.peer));
    },
  )
