-- After every list of calls each printer's record of each address says what its story says, and no run has more repeats than its limit + 1: no premise is
-- asked.
use mathlib.Core.Path.{◌≡◌, refl, sym, ap, ◌∙◌, subst}
use mathlib.Core.Bool.{Bool, true, false, not, ◌&&◌, ◌||◌}
use mathlib.Core.List.{List, [], ◌∷◌}
use native.Mathlib.Nat.{zero-div}
use Prim.Native.Nat.{ℕ, ◌≤◌}
use lib.Dec.{eqb, lit<}
use borrow.Author.Tests.{eqb-true}
use Rattle.protocol.specs.Model.{Side, A, B}
use Rattle.protocol.specs.Repeats.{begun, none, run, Limited}
use Rattle.protocol.proofs.Repeats.{more-limited}
use Rattle.std.specs.Prelude.{if◌then◌else◌}
use Rattle.octets.specs.Scan.{first_below}
use Rattle.octets.specs.Octets.{Bytes, num, same_address}
use Rattle.octets.proofs.Scan.{clash}
use Rattle.record.specs.declared.Peer.{Peer}
use Rattle.record.specs.Layout.{record_size, no_peer, limit_of}
use Rattle.record.specs.SettingsOctets.{settings_of}
use Rattle.table.specs.Table.{Table, width_of, decode_table, peers_of, slot, slots, in_use, belongs, finds, look, look_by, sound}
use Rattle.rules.specs.Book.{Step}
use Rattle.answers.specs.Answers.{Report, said}
use Rattle.calls.specs.Calls.{kill_step}
use Rattle.call_laws.proofs.Good.{limit-of}
use Rattle.agreement.specs.Calls.{Call, initialize, kill, Entry, AllHanded, none, more, last, sooner, left, done, is_initialize, table_after, mine, table_of}
use Rattle.agreement.specs.Story.{Story, nothing_yet, is_start, sends, uses_afresh, forms_pair, told, answered, clears, cleared, is_about, told_by, story_after, story_of, groups_in, limit_in}
use Rattle.agreement.specs.Statement.{no-link, SetTo}
use Rattle.agreement.proofs.Rules.{either}
use Rattle.agreement.proofs.Shows.{Shows, no-run, shows-state, shows-whole, shows_kept, shows-cleared}
use Rattle.good_links.proofs.GoodLinks.{fills-none}
use Rattle.agreement.proofs.Engine.{Lawful, Told, a_start, a_frame, a_clock, Held, sound-held, Ends, idles, goes_on, sets_up, frees, steps, call_ends, same-look, same-limit, fresh-look}

-- ---- addresses are the same where their numbers are

pub look-same-address : (T : Table) (a b : List ℕ) → same_address a b ≡ true → look T b ≡ look T a
unfolding look finds belongs same_address
look-same-address T a b e =
    ap (λ (n : ℕ). look_by T (first_below (λ k. in_use (slot T k) && eqb (num (slot T k).address) n) (slots T))) (sym (eqb-true _ _ e))

-- ---- what a call is about

about-idle : (t : List ℕ) (c : Call) (a : List ℕ) → done t c ≡ false → is_about t c a ≡ false
about-idle t c a e = rw e (go (is_initialize c))
  where
    go : (b : Bool) → (if b then false else false) ≡ false
    go true = refl
    go false = refl

pub about-told : (t : List ℕ) {c : Call} {x : List ℕ} (a : List ℕ) → Told x c → is_about t c a ≡ (done t c && same_address (left t c).answer.address a)
about-told t a a_start = refl
about-told t a a_frame = refl
about-told t a a_clock = refl

pub told-by : (t : List ℕ) {c : Call} {x : List ℕ} (s : Story) → Told x c → told_by t c s ≡ answered (groups_in t) (limit_in t) c (left t c).answer s
told-by t s a_start = refl
told-by t s a_frame = refl
told-by t s a_clock = refl

said-address : (r : Report) (o : Step) (a : List ℕ) → r ≡ said o a → r.address ≡ a
unfolding said
said-address r o a e = rw e

-- a call that is about the address, or not
pub story-about : (t : List ℕ) (c : Call) (a : List ℕ) (s : Story) → is_about t c a ≡ true → story_after t c a s ≡ told_by t c s
unfolding story_after
story-about t c a s e = rw e

pub story-apart : (t : List ℕ) (c : Call) (a : List ℕ) (s : Story) → is_about t c a ≡ false → story_after t c a s ≡ s
unfolding story_after
story-apart t c a s e = rw e

pub idle-apart : (t : List ℕ) (c : Call) (a : List ℕ) (s : Story) → done t c ≡ false → story_after t c a s ≡ s
idle-apart t c a s e = story-apart t c a s (about-idle t c a e)

-- a step is about an address just where the step's address is the same
pub step-about : (t : List ℕ) {c : Call} (a b : List ℕ) (o : Step) → Told a c → done t c ≡ true → (left t c).answer ≡ said o a → is_about t c b ≡ same_address a b
step-about t {c} a b o k d e = about-told t b k ∙ rw (d, said-address _ o a e)

pub kill-about : (t : List ℕ) (x a b : List ℕ) (o : Step) → done t (kill x) ≡ true → (left t (kill x)).answer ≡ said o a → is_about t (kill x) b ≡ same_address a b
kill-about t x a b o d e = rw (d, said-address _ o a e)

killed : kill_step.peer ≡ no_peer
unfolding kill_step
killed = refl

-- ---- one call

shows-at : {n m : ℕ} {p q : Peer} {r s : Story} → m ≡ n → q ≡ p → s ≡ r → Shows n p r → Shows m q s
shows-at {n} {m} {p} {q} {r} {s} i e f h = subst (λ (k : ℕ). Shows k q s) (sym i) (subst (Shows n q) (sym f) (subst (λ (x : Peer). Shows n x r) (sym e) h))

module _ (t : List ℕ) where
  held_after : {c : Call} → Held t → Ends t c → Held (table_after t c)
  held_after b (idles d e) = subst Held (sym e) b
  held_after b (goes_on d S) = sound-held _ S.bytes₂ S.sound₂
  held_after b (sets_up d f y n i) = y
  held_after b (frees d M) = sound-held _ M.bytes M.sound
  held_after b (steps a o k d M D) = sound-held _ M.bytes M.sound

  shows-after : {c : Call} (b : List ℕ) (s : Story) → Ends t c → Shows (limit_in t) (look (decode_table t) b) s
      → Shows (limit_in (table_after t c)) (look (decode_table (table_after t c)) b) (story_after t c b s)
  shows-after {c} b s (idles d e) h = shows-at (ap (λ (u : List ℕ). limit_in u) e) (ap (λ (u : List ℕ). look (decode_table u) b) e) (idle-apart t c b s d) h
  shows-after {c} b s (goes_on d S) h = shows-at (same-limit t _ S) (same-look t _ S b) (idle-apart t c b s d) h
  shows-after b s (sets_up d f y n i) h = shows-at refl (n b) (story-about t _ b s d) (shows-cleared _ s h.repeats)
  shows-after b s (frees {a} d M) h = go (same_address a b) refl
    where
      go : (x : Bool) → same_address a b ≡ x → Shows (limit_in (table_after t (kill a))) (look (decode_table (table_after t (kill a))) b) (story_after t (kill a) b s)
      go true e =
          shows-at refl (look-same-address _ a b e ∙ M.here ∙ killed) (story-about t (kill a) b s (kill-about t a a b kill_step d M.answer ∙ e)) (shows-cleared _ s h.repeats)
      go false e = shows-at M.limit (M.elsewhere b e) (story-apart t (kill a) b s (kill-about t a a b kill_step d M.answer ∙ e)) h
  shows-after {c} b s (steps a o k d M D) h = go (same_address a b) refl
    where
      go : (x : Bool) → same_address a b ≡ x → Shows (limit_in (table_after t c)) (look (decode_table (table_after t c)) b) (story_after t c b s)
      go true e =
          let p = look-same-address (decode_table t) a b e in
          let g = subst (λ (q : Peer). Shows (limit_in t) q s) p h in
          shows-at M.limit (look-same-address _ a b e ∙ M.here)
          (story-about t c b s (step-about t a b o k d M.answer ∙ e) ∙ told-by t s k ∙ ap (λ (r : Report). answered (groups_in t) (limit_in t) c r s) M.answer)
          (shows_kept (groups_in t) (limit_in t) c a (look (decode_table t) a) o s (D (shows-whole _ _ s g) (shows-state _ _ s g)) g)
      go false e = shows-at M.limit (M.elsewhere b e) (story-apart t c b s (step-about t a b o k d M.answer ∙ e)) h

-- a run that begins has the limit of the call's table, and every other keeps its own
module _ (P : ℕ → Type 0) where
  answered-limited : (gs : List ℕ) (limit : ℕ) (c : Call) (r : Report) (s : Story) → P limit → Limited P s.runs → Limited P (answered gs limit c r s).runs
  unfolding told
  answered-limited gs limit c r s e h =
      either (Limited P) (is_start c || (forms_pair c r && not s.running)) (λ b. run {r = begun limit} e h)
      (λ b. either (Limited P) (s.running && (sends r.frames && (not (uses_afresh r) && not (forms_pair c r)))) (λ m. more-limited P s.stands s.runs h) (λ m. h))

  story-limited : (t : List ℕ) (c : Call) (b : List ℕ) (s : Story) → (clears c ≡ false → P (limit_in t)) → Limited P s.runs → Limited P (story_after t c b s).runs
  unfolding story_after cleared
  story-limited t c b s e h =
      either (λ (x : Story). Limited P x.runs) (is_about t c b)
      (λ i. either (λ (x : Story). Limited P x.runs) (clears c) (λ q. h) (λ q. answered-limited (groups_in t) (limit_in t) c (left t c).answer s (e q) h))
      (λ i. h)

  -- a step is made in a sound table alone
  limits-after : (t : List ℕ) {c : Call} (b : List ℕ) (s : Story) → (sound t ≡ true → P (limit_in t)) → Ends t c → Limited P s.runs → Limited P (story_after t c b s).runs
  limits-after t {c} b s p (idles d e) h = rw (idle-apart t c b s d) h
  limits-after t {c} b s p (goes_on d S) h = rw (idle-apart t c b s d) h
  limits-after t b s p (sets_up d f y n i) h = story-limited t _ b s (λ q. absurd (clash refl q)) h
  limits-after t b s p (frees d M) h = story-limited t _ b s (λ q. p M.was) h
  limits-after t b s p (steps a o k d M D) h = story-limited t _ b s (λ q. p M.was) h

-- what a set up's Sync limit stands for, the table has from then on
limit-after : (n : ℕ) (t : List ℕ) {c : Call} → (sound t ≡ true → limit_in t ≡ n)
    → ((size : ℕ) (buffer own settings : List ℕ) → done t c ≡ true → c ≡ initialize size buffer own settings → limit_of (settings_of settings).limit ≡ n)
    → Ends t c → sound (table_after t c) ≡ true → limit_in (table_after t c) ≡ n
limit-after n t p z (idles d e) s = ap (λ (u : List ℕ). limit_in u) e ∙ p (subst (λ (u : List ℕ). sound u ≡ true) e s)
limit-after n t p z (goes_on d S) s = same-limit t _ S ∙ p S.sound₁
limit-after n t p z (sets_up {size} {buffer} {own} {settings} d f y m i) s = i ∙ z size buffer own settings d refl
limit-after n t p z (frees d M) s = M.limit ∙ p M.was
limit-after n t p z (steps a o k d M D) s = M.limit ∙ p M.was

-- ---- every list of calls

mine-same : {T : Type 0} (X : Side) (s t : T) → mine X X s t ≡ s
mine-same A s t = refl
mine-same B s t = refl

-- what holds where the call is the printer's own, and where it is the other's
pub by_side : {T : Type 0} (P : T → Type 0) (X Z : Side) {s t : T} → (X ≡ Z → P s) → P t → P (mine X Z s t)
by_side P A A p q = p refl
by_side P A B p q = q
by_side P B A p q = q
by_side P B B p q = p refl

no_bytes : Bytes []
no_bytes i = lit< tt

pub empty-slot : (k : ℕ) → slot (decode_table []) k ≡ no_peer
unfolding slot decode_table peers_of
empty-slot k = rw (zero-div (record_size (width_of []))) refl

nothing-shown : (limit : ℕ) → Shows limit no_peer nothing_yet
unfolding no_peer
nothing-shown limit = record { run = no-run refl; link = no-link; repeats = none }

shown_by : (a : List ℕ) (Y Z : Side) (t u : List ℕ) {r s : Story} → Shows (limit_in t) (look (decode_table t) a) r → Shows (limit_in u) (look (decode_table u) a) s
    → Shows (limit_in (mine Y Z u t)) (look (decode_table (mine Y Z u t)) a) (mine Y Z s r)
shown_by a A A t u p q = q
shown_by a A B t u p q = p
shown_by a B A t u p q = p
shown_by a B B t u p q = q

no_table : sound [] ≡ false
unfolding sound
no_table = refl

set_before : {n : ℕ} {X : Side} {c : Entry} {h : List Entry} → SetTo n X (c ∷ h) → SetTo n X h
set_before S e before size buffer address settings k = S e before size buffer address settings (sooner k)

module _ (L : Lawful) where
  pub held_of : {h : List Entry} → AllHanded h → (X : Side) → Held (table_of h X)
  unfolding table_of
  held_of none X = record { bytes = no_bytes; filled = fills-none }
  held_of (more {e = e} {h = h} k H) X =
      by_side Held e.side X (λ q. held_after (table_of h X) (held_of H X) (call_ends L (table_of h X) (held_of H X) k.call)) (held_of H X)

  pub shown : {h : List Entry} → AllHanded h → (X : Side) (a : List ℕ) → Shows (limit_in (table_of h X)) (look (decode_table (table_of h X)) a) (story_of h X a)
  unfolding table_of story_of
  shown none X a = shows-at refl (fresh-look (decode_table []) a empty-slot) refl (nothing-shown _)
  shown (more {e = e} {h = h} k H) X a =
      shown_by a e.side X (table_of h X) _ (shown H X a)
      (shows-after (table_of h X) a (story_of h X a) (call_ends L (table_of h X) (held_of H X) k.call) (shown H X a))

  -- every run's limit is in its range
  pub limits : {h : List Entry} → AllHanded h → (X : Side) (a : List ℕ) → Limited (λ n. (1 ≤ n) × (n ≤ 10)) (story_of h X a).runs
  unfolding story_of
  limits none X a = none
  limits (more {e = e} {h = h} k H) X a =
      by_side (λ (s : Story). Limited (λ n. (1 ≤ n) × (n ≤ 10)) s.runs) e.side X
      (λ q. limits-after _ (table_of h X) a (story_of h X a) (limit-of (table_of h X)) (call_ends L (table_of h X) (held_of H X) k.call) (limits H X a)) (limits H X a)

  -- where a printer's set ups all have the limit n, its table has, and every run of it
  set-limit : (n : ℕ) (X : Side) {h : List Entry} → AllHanded h → SetTo n X h → sound (table_of h X) ≡ true → limit_in (table_of h X) ≡ n
  unfolding table_of
  set-limit n X none S = λ s. absurd (clash s no_table)
  set-limit n X (more {e = e} {h = h} k H) S =
      by_side (λ (t : List ℕ). sound t ≡ true → limit_in t ≡ n) e.side X
      (λ q. limit-after n (table_of h X) (set-limit n X H (set_before S))
      (λ size buffer own settings d c. S e h size buffer own settings last (subst (λ (Y : Side). done (table_of h Y) e.call ≡ true) (sym q) d) q c)
      (call_ends L (table_of h X) (held_of H X) k.call))
      (set-limit n X H (set_before S))

  pub set-limits : (n : ℕ) (X : Side) {h : List Entry} → AllHanded h → SetTo n X h → (a : List ℕ) → Limited (λ m. m ≡ n) (story_of h X a).runs
  unfolding story_of
  set-limits n X none S a = none
  set-limits n X (more {e = e} {h = h} k H) S a =
      by_side (λ (s : Story). Limited (λ m. m ≡ n) s.runs) e.side X
      (λ q. limits-after _ (table_of h X) a (story_of h X a) (set-limit n X H (set_before S)) (call_ends L (table_of h X) (held_of H X) k.call) (set-limits n X H (set_before S) a))
      (set-limits n X H (set_before S) a)
