-- A record says what the story of its address says, and every step keeps that so.
use mathlib.Core.Path.{◌≡◌, refl, sym, ap, ◌∙◌, subst}
use mathlib.Core.Logic.{inl, inr}
use mathlib.Core.Bool.{Bool, true, false}
use mathlib.Core.List.{List, ◌∷◌}
use Prim.Native.Nat.{ℕ, suc, ◌+◌, ◌≤◌}
use native.Mathlib.Omega.{arith}
use native.Mathlib.Numerals.{add-one}
use lib.Dec.{eqb}
use lib.ListN.{take}
use borrow.Author.Tests.{eqb-true, ne_eqb}
use Rattle.protocol.specs.Model.{Commit}
use Rattle.protocol.specs.Repeats.{Tally, latest, AtMost, newest_limit}
use Rattle.protocol.proofs.Repeats.{begun-at-most, more-at-most}
use Rattle.octets.proofs.Scan.{clash}
use Rattle.groups.specs.Groups.{stored, commit_length}
use Rattle.record.specs.declared.Run.{Run}
use Rattle.record.specs.declared.Link.{Link}
use Rattle.record.specs.declared.Peer.{Peer}
use Rattle.record.specs.Layout.{no_run, no_link, no_peer}
use Rattle.rules.specs.Book.{Step}
use Rattle.rules.specs.Book.{◌is◌, supersede}
use Rattle.message.specs.View.{view, message, commit_in}
use Rattle.answers.specs.Answers.{said}
use Rattle.agreement.specs.Calls.{Call}
use Rattle.agreement.specs.Story.{Pair, unlinked, finished, marked, Story, answered, told, cleared}
use Rattle.agreement.specs.Story as story
use Rattle.agreement.specs.Statement.{Says, no-link, a_link}
use Rattle.agreement.proofs.Rules.{either, Whole, SameRun, SameLink, Does, quiet, informs, starts, switches, forms_fresh, forms_own, repeats, repeats_both, repeats_confirm, accepts, abandons, ends, answers}
use Rattle.agreement.proofs.Ruled.{State, idle, committed, confirmed, no-run-state}

pub impossible : {X : Type 0} (n : ℕ) {a b : ℕ} → n ≡ a → n ≡ b → (a ≡ b → ⊥) → X
impossible n e f g = absurd (g (sym e ∙ f))

pub zero_one : {X : Type 0} {n : ℕ} → n ≡ 0 → n ≡ 1 → X
zero_one e f = impossible _ e f (λ z. omega arith)

pub zero-two : {X : Type 0} {n : ℕ} → n ≡ 0 → n ≡ 2 → X
zero-two e f = impossible _ e f (λ z. omega arith)

pub one-two : {X : Type 0} {n : ℕ} → n ≡ 1 → n ≡ 2 → X
one-two e f = impossible _ e f (λ z. omega arith)

-- a stored commit of the group g
abbrev pub Padded : ℕ → List ℕ → Type 0
Padded g c = stored (take (commit_length g) c) ≡ c

-- ---- the run

-- the run of a record in a table of this Sync limit, which is its own while it lasts
pub data RunShows (limit : ℕ) (r : Run) : Bool → Bool → Commit → Pair → List Tally → Type 0 where
  no-run : {f : Commit} {p : Pair} {ks : List Tally} → r ≡ no_run → RunShows limit r false false f p ks
  unpaired : {f : Commit} {p : Pair} {k : Tally} {ks : List Tally} → r.state ≡ 1 → f.group ≡ r.group → f.octets ≡ r.own → Padded r.group r.own
      → k.before ≡ r.sync → k.after ≡ 0 → k.limit ≡ limit → RunShows limit r true false f p (k ∷ ks)
  paired : {f : Commit} {p : Pair} {k : Tally} {ks : List Tally} → r.state ≡ 2 → p.group ≡ r.group → p.own ≡ r.own → p.peer ≡ r.peer → Padded r.group r.own
      → r.sc ≡ r.sync + 1 → k.after ≡ r.sync → k.limit ≡ limit → RunShows limit r true true f p (k ∷ ks)

pub record Shows (limit : ℕ) (p : Peer) (s : Story) : Type 0 where
  pub run : RunShows limit p.run s.running s.stands s.fresh s.pair s.runs
  pub link : Says s.link p.link
  pub repeats : AtMost s.runs

run-state : {limit : ℕ} {r : Run} {b d : Bool} {f : Commit} {p : Pair} {ks : List Tally} → RunShows limit r b d f p ks → State r.state
run-state (no-run e) = idle (no-run-state _ e)
run-state (unpaired e a b c d f u) = committed e
run-state (paired e a b c d f g u) = confirmed e

run-free : {limit : ℕ} {r : Run} {b d : Bool} {f : Commit} {p : Pair} {ks : List Tally} → RunShows limit r b d f p ks → r.state ≡ 0 → r ≡ no_run
run-free (no-run e) z = e
run-free (unpaired e a b c d f u) z = zero_one z e
run-free (paired e a b c d f g u) z = zero-two z e

link-free : {l : story.Link} {k : Link} → Says l k → k.finished ≡ 0 → k ≡ no_link
link-free no-link z = refl
link-free (a_link f a b c d) z = zero_one z f

-- Sync counts the run's repeats since it began or, once its pair stands, since then
run-counts : {limit : ℕ} {r : Run} {b d : Bool} {f : Commit} {p : Pair} {ks : List Tally} → RunShows limit r b d f p ks → b ≡ true → r.sync ≡ latest d ks
run-counts (no-run e) q = absurd (clash q refl)
run-counts (unpaired e a b c d z u) q = sym d
run-counts (paired e a b c d g z u) q = sym z

-- and the newest run's limit is the table's as long as the run lasts
run-limit : {limit : ℕ} {r : Run} {b d : Bool} {f : Commit} {p : Pair} {ks : List Tally} → RunShows limit r b d f p ks → b ≡ true → newest_limit ks ≡ limit
run-limit (no-run e) q = absurd (clash q refl)
run-limit (unpaired e a b c d z u) q = u
run-limit (paired e a b c d g z u) q = u

pub shows-limit : (limit : ℕ) (p : Peer) (s : Story) → Shows limit p s → s.running ≡ true → newest_limit s.runs ≡ limit
shows-limit limit p s S q = run-limit S.run q

pub shows-counts : (limit : ℕ) (p : Peer) (s : Story) → Shows limit p s → s.running ≡ true → p.run.sync ≡ latest s.stands s.runs
shows-counts limit p s S q = run-counts S.run q

pub shows-state : (limit : ℕ) (p : Peer) (s : Story) → Shows limit p s → State p.run.state
shows-state limit p s S = run-state S.run

pub shows-whole : (limit : ℕ) (p : Peer) (s : Story) → Shows limit p s → Whole p
shows-whole limit p s S = record { run = run-free S.run; link = link-free S.link }

-- a run whose fields are the same shows the same
same-shows : {limit : ℕ} {p q : Peer} {b d : Bool} {f : Commit} {x : Pair} {ks : List Tally} → SameRun p q → RunShows limit p.run b d f x ks → RunShows limit q.run b d f x ks
same-shows E (no-run e) = no-run (E.free e)
same-shows {q = q} {f = f} E (unpaired e a b c d z u) =
    unpaired (E.state ∙ e) (a ∙ sym E.group) (b ∙ sym E.own) (rw (E.group, E.own) c) (d ∙ sym E.sync) z u
same-shows E (paired e a b c d g z u) =
    paired (E.state ∙ e) (a ∙ sym E.group) (b ∙ sym E.own) (c ∙ sym E.peer) (rw (E.group, E.own) d) (rw (E.sc, E.sync) g) (z ∙ sym E.sync) u

says_same : {l : story.Link} {k : Link} (j : Link) → Says l k → (k ≡ no_link → j ≡ no_link) → j.finished ≡ k.finished → j.superseded ≡ k.superseded
    → j.group ≡ k.group → j.own ≡ k.own → j.peer ≡ k.peer → Says l j
says_same j no-link n f a b c d = subst (Says unlinked) (sym (n refl)) no-link
says_same j (a_link f a b c d) n f' a' b' c' d' = a_link (f' ∙ f) (a' ∙ a) (b' ∙ b) (c' ∙ c) (d' ∙ d)

same-says : {p q : Peer} {l : story.Link} → SameLink p q → Says l p.link → Says l q.link
same-says {q = q} E h = says_same q.link h E.free E.finished E.superseded E.group E.own E.peer

kept-says : {l : story.Link} {k j : Link} → j ≡ k → Says l k → Says l j
kept-says {l} e h = subst (Says l) (sym e) h

equal-shows : {limit : ℕ} {r q : Run} {b d : Bool} {f : Commit} {x : Pair} {ks : List Tally} → q ≡ r → RunShows limit r b d f x ks → RunShows limit q b d f x ks
equal-shows {limit = limit} {b = b} {d = d} {f = f} {x = x} {ks = ks} e h = subst (λ (y : Run). RunShows limit y b d f x ks) (sym e) h

-- Sc is above 0 in Confirmed
not-one : (n m : ℕ) → n ≡ m + 1 → eqb (n + 1) 1 ≡ false
not-one n m e = ne_eqb (n + 1) 1 (λ z. omega arith)

-- ---- a step keeps the run's part

module _ (gs : List ℕ) (limit : ℕ) (c : Call) (a : List ℕ) (l : story.Link) where
  abbrev After : Step → Bool → Bool → Commit → Pair → List Tally → Story
  After o b d f x ks = answered gs limit c (said o a) (record { fresh = f; pair = x; running = b; stands = d; link = l; runs = ks })

  abbrev RunAfter : Step → Bool → Bool → Commit → Pair → List Tally → Type 0
  RunAfter o b d f x ks =
      RunShows limit o.peer.run (After o b d f x ks).running (After o b d f x ks).stands (After o b d f x ks).fresh (After o b d f x ks).pair (After o b d f x ks).runs

  run-kept : {p : Peer} {o : Step} {b d : Bool} {f : Commit} {x : Pair} {ks : List Tally} → Does gs limit c p o → RunShows limit p.run b d f x ks → RunAfter o b d f x ks
  unfolding told said view message commit_in
  run-kept (quiet n E L) (no-run e) = rw n (no-run (E.free e))
  run-kept (quiet n E L) (unpaired e a b c d z u) = rw n (same-shows E (unpaired e a b c d z u))
  run-kept (quiet n E L) (paired e a b c d g z u) = rw n (same-shows E (paired e a b c d g z u))
  run-kept (informs n s x) (no-run e) = rw n (no-run e)
  run-kept (informs n s x) (unpaired e a b c d z u) = zero_one s e
  run-kept (informs n s x) (paired e a b c d g z u) = zero-two s e
  run-kept (starts n m s A C k) (no-run e) =
      rw (n, A.some) (unpaired C.state (sym C.group) (sym (C.own ∙ A.stock)) (rw (C.group, C.own) A.padded) (sym C.sync) refl refl)
  run-kept (starts n m s A C k) (unpaired e a b c d z u) = zero_one s e
  run-kept (starts n m s A C k) (paired e a b c d g z u) = zero-two s e
  run-kept (switches n s A C k) (no-run e) = zero_one (no-run-state _ e) s
  run-kept (switches n s A C k) (unpaired e a b c d z u) =
      rw (n, A.some) (unpaired C.state (sym C.group) (sym (C.own ∙ A.stock)) (rw (C.group, C.own) A.padded) (d ∙ sym C.sync) z u)
  run-kept (switches n s A C k) (paired e a b c d g z u) = one-two s e
  run-kept (forms_fresh n s A H C k) (no-run e) =
      rw (n, A.some, H.frame, H.reads)
      (paired C.state (sym C.group) (sym (C.own ∙ A.stock)) (sym (C.peer ∙ H.stored_as)) (rw (C.group, C.own) A.padded) (rw (C.sc, C.sync)) (sym C.sync) refl)
  run-kept (forms_fresh n s A H C k) (unpaired e a b c d z u) =
      rw (n, A.some, H.frame, H.reads)
      (paired C.state (sym C.group) (sym (C.own ∙ A.stock)) (sym (C.peer ∙ H.stored_as)) (rw (C.group, C.own) A.padded) (rw (C.sc, C.sync)) (z ∙ sym C.sync) u)
  run-kept (forms_fresh n (inl s) A H C k) (paired e a b c d g z u) = zero-two s e
  run-kept (forms_fresh n (inr s) A H C k) (paired e a b c d g z u) = one-two s e
  run-kept (forms_own n s H C k) (no-run e) = zero_one (no-run-state _ e) s
  run-kept (forms_own n s H C k) (unpaired e a b c d z u) =
      rw (n, H.frame, H.reads)
      (paired C.state (sym C.group) (b ∙ sym C.own) (sym (C.peer ∙ H.stored_as)) (rw (C.group, C.own) c) (rw (C.sc, C.sync)) (z ∙ sym C.sync) u)
  run-kept (forms_own n s H C k) (paired e a b c d g z u) = one-two s e
  run-kept (repeats n s m C k) (no-run e) = zero_one (no-run-state _ e) s
  run-kept (repeats n s m C k) (unpaired e a b c d z u) =
      rw n (unpaired C.state (a ∙ sym C.group) (b ∙ sym C.own) (rw (C.group, C.own) c) (ap suc d ∙ sym (C.sync ∙ add-one _)) z u)
  run-kept (repeats n s m C k) (paired e a b c d g z u) = one-two s e
  run-kept (repeats_both n s m C k) (no-run e) = zero-two (no-run-state _ e) s
  run-kept (repeats_both n s m C k) (unpaired e a b c d z u) = one-two e s
  run-kept (repeats_both n s m C k) (paired e a b c d g z u) =
      rw (n, not-one _ _ g)
      (paired C.state (a ∙ sym C.group) (b ∙ sym C.own) (c ∙ sym C.peer) (rw (C.group, C.own) d) (rw (C.sc, C.sync, g)) (ap suc z ∙ sym (C.sync ∙ add-one _)) u)
  run-kept (repeats_confirm n s m C k) (no-run e) = zero-two (no-run-state _ e) s
  run-kept (repeats_confirm n s m C k) (unpaired e a b c d z u) = one-two e s
  run-kept (repeats_confirm n s m C k) (paired e a b c d g z u) =
      rw (n, not-one _ _ g)
      (paired C.state (a ∙ sym C.group) (b ∙ sym C.own) (c ∙ sym C.peer) (rw (C.group, C.own) d) (rw (C.sc, C.sync, g)) (ap suc z ∙ sym (C.sync ∙ add-one _)) u)
  run-kept (accepts n s v k i j g x y) (no-run e) = zero-two (no-run-state _ e) s
  run-kept (accepts n s v k i j g x y) (unpaired e a b c d z u) = one-two e s
  run-kept (accepts n s v k i j g x y) (paired e a b c d h z u) = rw n (no-run k)
  run-kept (abandons n k i) (no-run e) = rw n (no-run k)
  run-kept (abandons n k i) (unpaired e a b c d z u) = rw n (no-run k)
  run-kept (abandons n k i) (paired e a b c d g z u) = rw n (no-run k)
  run-kept (ends n k i) (no-run e) = rw n (no-run (k ∙ e))
  run-kept (ends n k i) (unpaired e a b c d z u) = rw n (equal-shows k (unpaired e a b c d z u))
  run-kept (ends n k i) (paired e a b c d g z u) = rw n (equal-shows k (paired e a b c d g z u))
  run-kept (answers n s f k E) (no-run e) = rw n (no-run (k ∙ e))
  run-kept (answers n s f k E) (unpaired e a b c d z u) = zero_one s e
  run-kept (answers n s f k E) (paired e a b c d g z u) = zero-two s e

-- ---- a step keeps the link's part

unmarked : {l : story.Link} {k : Link} → Says l k → Says (marked false l) k
unmarked no-link = no-link
unmarked (a_link f a b c d) = a_link f a b c d

superseded : {l : story.Link} {k : Link} → Says l k → Says (marked true l) (supersede k)
unfolding supersede no_link
superseded no-link = no-link
superseded (a_link {p = p} {l = k} f a b c d) = either (Says (finished p true)) (k.finished is 0) (λ e. zero_one (eqb-true _ _ e) f) (λ e. a_link f refl b c d)

module _ (gs : List ℕ) (limit : ℕ) (c : Call) (a : List ℕ) where
  link-kept : {p : Peer} {o : Step} {b d : Bool} {f : Commit} {x : Pair} {ks : List Tally} {l : story.Link} → Does gs limit c p o → RunShows limit p.run b d f x ks → Says l p.link
      → Says (After gs limit c a l o b d f x ks).link o.peer.link
  unfolding told said
  link-kept (quiet n E L) r h = unmarked (same-says L h)
  link-kept (informs n s x) r h = unmarked h
  link-kept (starts n m s A C k) r h = unmarked (kept-says k h)
  link-kept (switches n s A C k) r h = unmarked (kept-says k h)
  link-kept (forms_fresh n s A H C k) r h = rw H.frame (kept-says k (superseded h))
  link-kept (forms_own n s H C k) r h = rw H.frame (kept-says k (superseded h))
  link-kept (repeats n s m C k) r h = unmarked (kept-says k h)
  link-kept (repeats_both n s m C k) (no-run e) h = zero-two (no-run-state _ e) s
  link-kept (repeats_both n s m C k) (unpaired e a b c d z u) h = one-two e s
  link-kept (repeats_both n s m C k) (paired e a b c d g z u) h = rw (not-one _ _ g) (unmarked (kept-says k h))
  link-kept (repeats_confirm n s m C k) (no-run e) h = zero-two (no-run-state _ e) s
  link-kept (repeats_confirm n s m C k) (unpaired e a b c d z u) h = one-two e s
  link-kept (repeats_confirm n s m C k) (paired e a b c d g z u) h = rw (not-one _ _ g) (unmarked (kept-says k h))
  link-kept (accepts n s v k i j g x y) (no-run e) h = zero-two (no-run-state _ e) s
  link-kept (accepts n s v k i j g x y) (unpaired e a b c d z u) h = one-two e s
  link-kept (accepts n s v k i j g x y) (paired e a b c d w z u) h = a_link i j (g ∙ sym a) (x ∙ sym b) (y ∙ sym c)
  link-kept (abandons n k i) r h = kept-says i h
  link-kept (ends n k i) r h = kept-says i no-link
  link-kept (answers n s f k E) r h = unmarked (same-says E h)

  -- ---- and the bound on repeats

  repeats-kept : {p : Peer} {o : Step} {b d : Bool} {f : Commit} {x : Pair} {ks : List Tally} (l : story.Link) → Does gs limit c p o → RunShows limit p.run b d f x ks → AtMost ks
      → AtMost (After gs limit c a l o b d f x ks).runs
  unfolding told said
  repeats-kept l (quiet n E L) (no-run e) h = rw n h
  repeats-kept l (quiet n E L) (unpaired e a b c d z u) h = rw n h
  repeats-kept l (quiet n E L) (paired e a b c d g z u) h = rw n h
  repeats-kept l (informs n s x) (no-run e) h = rw n h
  repeats-kept l (informs n s x) (unpaired e a b c d z u) h = zero_one s e
  repeats-kept l (informs n s x) (paired e a b c d g z u) h = zero-two s e
  repeats-kept l (starts n m s A C k) r h = rw n (begun-at-most limit _ h)
  repeats-kept l (switches n s A C k) (no-run e) h = zero_one (no-run-state _ e) s
  repeats-kept l (switches n s A C k) (unpaired e a b c d z u) h = rw (n, A.some) h
  repeats-kept l (switches n s A C k) (paired e a b c d g z u) h = one-two s e
  repeats-kept l (forms_fresh n s A H C k) (no-run e) h = rw (n, H.frame) (begun-at-most limit _ h)
  repeats-kept l (forms_fresh n s A H C k) (unpaired e a b c d z u) h = rw (n, A.some, H.frame) h
  repeats-kept l (forms_fresh n (inl s) A H C k) (paired e a b c d g z u) h = zero-two s e
  repeats-kept l (forms_fresh n (inr s) A H C k) (paired e a b c d g z u) h = one-two s e
  repeats-kept l (forms_own n s H C k) (no-run e) h = zero_one (no-run-state _ e) s
  repeats-kept l (forms_own n s H C k) (unpaired e a b c d z u) h = rw (n, H.frame) h
  repeats-kept l (forms_own n s H C k) (paired e a b c d g z u) h = one-two s e
  repeats-kept l (repeats n s m C k) (no-run e) h = zero_one (no-run-state _ e) s
  repeats-kept l (repeats n s m C k) (unpaired {k = t} {ks = ts} e a b c d z u) h = rw n (let y : t.before ≤ t.limit = rw (d, u) m in more-at-most false t ts y h)
  repeats-kept l (repeats n s m C k) (paired e a b c d g z u) h = one-two s e
  repeats-kept l (repeats_both n s m C k) (no-run e) h = zero-two (no-run-state _ e) s
  repeats-kept l (repeats_both n s m C k) (unpaired e a b c d z u) h = one-two e s
  repeats-kept l (repeats_both n s m C k) (paired {k = t} {ks = ts} e a b c d g z u) h =
      rw (n, not-one _ _ g) (let y : t.after ≤ t.limit = rw (z, u) m in more-at-most true t ts y h)
  repeats-kept l (repeats_confirm n s m C k) (no-run e) h = zero-two (no-run-state _ e) s
  repeats-kept l (repeats_confirm n s m C k) (unpaired e a b c d z u) h = one-two e s
  repeats-kept l (repeats_confirm n s m C k) (paired {k = t} {ks = ts} e a b c d g z u) h =
      rw (n, not-one _ _ g) (let y : t.after ≤ t.limit = rw (z, u) m in more-at-most true t ts y h)
  repeats-kept l (accepts n s v k i j g x y) (no-run e) h = zero-two (no-run-state _ e) s
  repeats-kept l (accepts n s v k i j g x y) (unpaired e a b c d z u) h = one-two e s
  repeats-kept l (accepts n s v k i j g x y) (paired e a b c d w z u) h = rw n h
  repeats-kept l (abandons n k i) (no-run e) h = rw n h
  repeats-kept l (abandons n k i) (unpaired e a b c d z u) h = rw n h
  repeats-kept l (abandons n k i) (paired e a b c d g z u) h = rw n h
  repeats-kept l (ends n k i) (no-run e) h = rw n h
  repeats-kept l (ends n k i) (unpaired e a b c d z u) h = rw n h
  repeats-kept l (ends n k i) (paired e a b c d g z u) h = rw n h
  repeats-kept l (answers n s f k E) (no-run e) h = rw n h
  repeats-kept l (answers n s f k E) (unpaired e a b c d z u) h = zero_one s e
  repeats-kept l (answers n s f k E) (paired e a b c d g z u) h = zero-two s e

  -- a step of the rules keeps all of it
  pub shows_kept : (p : Peer) (o : Step) (s : Story) → Does gs limit c p o → Shows limit p s → Shows limit o.peer (answered gs limit c (said o a) s)
  shows_kept p o s D S =
      record { run = run-kept gs limit c a s.link D S.run; link = link-kept D S.run S.link; repeats = repeats-kept s.link D S.run S.repeats }

-- a kill or a set up keeps it, whatever the limit of the table left
pub shows-cleared : (limit : ℕ) (s : Story) → AtMost s.runs → Shows limit no_peer (cleared s)
unfolding cleared no_peer
shows-cleared limit s h = record { run = no-run refl; link = no-link; repeats = h }
