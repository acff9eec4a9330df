-- Lists of calls of the two printers whose outcomes are known, whatever their groups and forms: where such a list stands, what its calls use and send, that it
-- keeps to the premises of demand 3, and that all that it hands over can be.
use mathlib.Core.Path.{◌≡◌, refl, sym, ap, ◌∙◌, subst}
use mathlib.Core.Bool.{true, false, not, ◌&&◌}
use mathlib.Core.List.{List, [], ◌∷◌, ◌++◌}
use Prim.Native.Nat.{ℕ, zero, suc, ◌-◌, ◌+◌, ◌<◌}
use native.Mathlib.Omega.{arith}
use lib.Dec.{lit<}
use lib.ListN.{length, replicate, get_or}
use Rattle.protocol.specs.Model.{Side, A, B, other, Commit}
use Rattle.std.specs.Prelude.{if◌then◌else◌, Some}
use Rattle.octets.specs.Octets.{Bytes, oct, same_address}
use Rattle.octets.proofs.Laws.{bytes-append, bytes-oct}
use Rattle.octets.proofs.Scan.{clash}
use Rattle.groups.specs.Groups.{commit_length}
use Rattle.frame.specs.Frame.{read_body, sequence_of, commit_body, group_refusal_body, confirm_body, body, head}
use Rattle.frame.specs.Writing.{Octets}
use Rattle.frame.specs.declared.Body.TheVariants as body_is
use Rattle.frame.proofs.Shapes.{confirm-shape}
use Rattle.frame.proofs.RoundTrip.{body-sequence}
use Rattle.record.specs.Layout.{limit_of}
use Rattle.record.specs.SettingsOctets.{settings_of}
use Rattle.rules.specs.declared.Frame.{Frame}
use Rattle.rules.specs.Book.{confirm_frame}
use Rattle.answers.specs.Answers.{Left}
use Rattle.agreement.specs.Calls.{an_initialize, an_initiate, a_receive, Handed, Call, initialize, receive, Entry, left, is_done, is_initialize, done, table_after, table_of, stepped, Comes, last, sooner}
use Rattle.agreement.specs.Calls as calls-of
use Rattle.agreement.specs.Story.{Pair, exchanged, Story, nothing_yet, uses_afresh, used_afresh, answered, clears, cleared, story_after, story_of, groups_in, limit_in}
use Rattle.agreement.specs.Sent.{drawn, expected_of, Among, SendsBy, Sent, SentOver}
use Rattle.agreement.specs.Statement.{Uses, Meets, run, link, Premises, SetTo}
use Rattle.witness.specs.Printers.{own, Printer, settings, commit, filled, value, set_up, starts, gets}

-- ---- where a list stands: both tables, and the story that each printer has of the other

pub record At (h : List Entry) (a b : List ℕ) (s z : Story) : Type 0 where
  pub table_A : table_of h A ≡ a
  pub table_B : table_of h B ≡ b
  pub story_A : story_of h A (own B) ≡ s
  pub story_B : story_of h B (own A) ≡ z

pub at_none : At [] [] [] nothing_yet nothing_yet
unfolding table_of story_of
at_none = record { table_A = refl; table_B = refl; story_A = refl; story_B = refl }

-- the table that a call leaves, and what it tells of the address b, by its outcome l from the table t
abbrev pub leave_by : List ℕ → Call → Left → List ℕ
leave_by t c l = if is_initialize c && not (is_done l.answer.outcome) then t else l.table

abbrev pub tell_by : List ℕ → Call → Left → List ℕ → Story → Story
tell_by t c l b s =
    if (if is_initialize c then is_done l.answer.outcome else is_done l.answer.outcome && same_address l.answer.address b)
    then (if clears c then cleared s else answered (groups_in t) (limit_in t) c l.answer s)
    else s

table-after : {t u : List ℕ} (c : Call) {l : Left} → u ≡ t → left t c ≡ l → table_after u c ≡ leave_by t c l
unfolding table_after done
table-after {t} c e p = ap (λ (x : List ℕ). table_after x c) e ∙ ap (leave_by t c) p

story-after : {t u : List ℕ} (c : Call) (b : List ℕ) {r s : Story} {l : Left} → u ≡ t → r ≡ s → left t c ≡ l → story_after u c b r ≡ tell_by t c l b s
unfolding story_after done
story-after {t} c b {r} {s} e f p =
    ap (λ (x : List ℕ). story_after x c b r) e ∙ (ap (λ (x : Story). story_after t c b x) f ∙ ap (λ (x : Left). tell_by t c x b s) p)

-- one call more, of A or of B
pub by-A : {h : List Entry} {a b u : List ℕ} {s z r : Story} {c : Call} {v : List ℕ} {l : Left} → At h a b s z → left a c ≡ l → tell_by a c l (own B) s ≡ r
    → leave_by a c l ≡ u → At (record { side = A; call = c; value = v } ∷ h) u b r z
unfolding table_of story_of
by-A {c} w p q e = record {
  table_A = table-after c w.table_A p ∙ e;
  table_B = w.table_B;
  story_A = story-after c (own B) w.table_A w.story_A p ∙ q;
  story_B = w.story_B;
}

pub by-B : {h : List Entry} {a b u : List ℕ} {s z r : Story} {c : Call} {v : List ℕ} {l : Left} → At h a b s z → left b c ≡ l → tell_by b c l (own A) z ≡ r
    → leave_by b c l ≡ u → At (record { side = B; call = c; value = v } ∷ h) a u s r
unfolding table_of story_of
by-B {c} w p q e = record {
  table_A = w.table_A;
  table_B = table-after c w.table_B p ∙ e;
  story_A = w.story_A;
  story_B = story-after c (own A) w.table_B w.story_B p ∙ q;
}

-- ---- a call whose table and outcome are known: what it sends

pub outcome-of : (h : List Entry) (e : Entry) {t : List ℕ} {l : Left} → table_of h e.side ≡ t → left t e.call ≡ l → left (table_of h e.side) e.call ≡ l
outcome-of h e q p = ap (λ (t : List ℕ). left t e.call) q ∙ p

-- the frame x of its answer, made from the table u that it leaves
pub sends-by : {h : List Entry} {e : Entry} {t u a octets : List ℕ} {l : Left} {x : Frame} → table_of h e.side ≡ t → left t e.call ≡ l
    → is_done l.answer.outcome ≡ true → same_address l.answer.address a ≡ true → Among x l.answer.frames → table_of (e ∷ h) e.side ≡ u
    → drawn u l.answer.address e.value (expected_of e.call) x ≡ Octets octets → SendsBy e.side a octets h e x
unfolding done
sends-by {h} {e} {t} {u} {a} {octets} {l} {x} q p d s m w z =
    let k = outcome-of h e q p in
    record {
      by = refl;
      stepped = ap (λ (y : Left). is_done y.answer.outcome) k ∙ d;
      to = ap (λ (y : Left). same_address y.answer.address a) k ∙ s;
      among = subst (λ (y : Left). Among x y.answer.frames) (sym k) m;
      made = ap (λ (y : Left). drawn (table_of (e ∷ h) e.side) y.answer.address e.value (expected_of e.call) x) k
          ∙ (ap (λ (y : List ℕ). drawn y l.answer.address e.value (expected_of e.call) x) w ∙ z);
    }

pub sent : {e : Entry} {before h : List Entry} {a octets : List ℕ} {x : Frame} → Comes e before h → SendsBy e.side a octets before e x → Sent e.side a octets h
sent {e} {before} {h} {a} {octets} {x} c S = record { call = e; before = before; comes = c; frame = x; sends = S }

-- a Confirm with counter 1 is made over the pair of the story that the call leaves
pub sent-over : {e : Entry} {before h : List Entry} {a octets : List ℕ} {s : Story} → Comes e before h → SendsBy e.side a octets before e (confirm_frame 1)
    → story_of (e ∷ before) e.side a ≡ s → SentOver e.side a octets s.pair h
sent-over {e} {before} {h} {a} {octets} {s} c S q =
    record { call = e; before = before; comes = c; frame = confirm_frame 1; sends = S; confirm = refl; over = ap (λ (x : Story). x.pair) q }

sent-at-all : {X : Side} {a octets : List ℕ} {p : Pair} {h : List Entry} → SentOver X a octets p h → Sent X a octets h
sent-at-all S = record { call = S.call; before = S.before; comes = S.comes; frame = S.frame; sends = S.sends }

-- ---- what the calls use afresh: commits are told by their first octet, and the newest use has the highest

abbrev pub first_octet : Commit → ℕ
first_octet f = get_or f.octets 0 0

pub no-use : {h : List Entry} {e : Entry} {t : List ℕ} {l : Left} → table_of h e.side ≡ t → left t e.call ≡ l → uses_afresh l.answer ≡ false
    → (f : Commit) → ¬ Uses f h e
no-use {h} {e} q p n f u = clash (ap (λ (x : Left). uses_afresh x.answer) (sym (outcome-of h e q p)) ∙ u.afresh) n

pub one-use : {h : List Entry} {e : Entry} {t : List ℕ} {l : Left} {m : ℕ} → table_of h e.side ≡ t → left t e.call ≡ l
    → first_octet (used_afresh (groups_in t) e.call l.answer) ≡ m → (f : Commit) → Uses f h e → first_octet f ≡ m
one-use {h} {e} {t} {l} q p z f u =
    ap first_octet (sym u.used ∙ (ap (λ (x : Left). used_afresh (groups_in (table_of h e.side)) e.call x.answer) (outcome-of h e q p)
    ∙ ap (λ (x : List ℕ). used_afresh (groups_in x) e.call l.answer) q)) ∙ z

pub data Below : ℕ → List Entry → Type 0 where
  nobody : {n : ℕ} → Below n []
  skips : {n : ℕ} {e : Entry} {h : List Entry} → ((f : Commit) → ¬ Uses f h e) → Below n h → Below n (e ∷ h)
  uses : {n : ℕ} {e : Entry} {h : List Entry} (m : ℕ) → m < n → ((f : Commit) → Uses f h e → first_octet f ≡ m) → Below m h → Below n (e ∷ h)

below-use : {n : ℕ} {d : Entry} {before h : List Entry} (f : Commit) → Below n h → Comes d before h → Uses f before d → first_octet f < n
below-use f nobody c u = elim c [ ]
below-use f (skips none_of b) last u = absurd (none_of f u)
below-use f (skips none_of b) (sooner c) u = below-use f b c u
below-use f (uses m l o b) last u = let z = o f u in omega arith
below-use f (uses m l o b) (sooner c) u = let w = below-use f b c u in omega arith

below-once : {n : ℕ} {e d : Entry} {before back h : List Entry} (f : Commit) → Below n h → Comes e before h → Comes d back before → Uses f before e → ¬ Uses f back d
below-once f nobody k c u v = elim k [ ]
below-once f (skips none_of b) last c u v = none_of f u
below-once f (skips none_of b) (sooner k) c u v = below-once f b k c u v
below-once f (uses m l o b) last c u v =
    let w = below-use f b c v in
    let z = o f u in omega arith
below-once f (uses m l o b) (sooner k) c u v = below-once f b k c u v

-- ---- what the premises ask of a call for itself, made after the calls h

pub record Keeps (e : Entry) (h : List Entry) : Type 0 where
  pub stays : (size : ℕ) (b o s : List ℕ) → e.call ≡ initialize size b o s → o ≡ own e.side
  pub hears : (X : Side) (a : List ℕ) (t : ℕ) (f r x : List ℕ) (v : ℕ) → e.side ≡ X → e.call ≡ receive a t f r x v → Sent (other X) (own X) f h
  pub trusts : (X : Side) (a : List ℕ) (t : ℕ) (f r x : List ℕ) (n : ℕ) (p : Pair) → e.side ≡ X → e.call ≡ receive a t f r x 1
      → read_body (groups_in (table_of h X)) f ≡ Some (body_is.Confirm n) → Meets (story_of h X (own (other X))) p → SentOver (other X) (own X) f (exchanged p) h

not_call : {X : Type 0} → ◌≡◌ {A = ℕ} 0 1 → X
not_call z = absurd (omega arith)

pub set-up-keeps : (P : Printer) {h : List Entry} → Keeps (set_up P) h
set-up-keeps P = record {
  stays = λ n b o s e. cc;
  hears = λ Y a t f r x v z e. not_call cc;
  trusts = λ Y a t f r x n p z e k m. not_call cc;
}

pub start-keeps : {X : Side} {stock : List ℕ} {h : List Entry} → Keeps (starts X stock) h
start-keeps = record {
  stays = λ n b o s e. not_call cc;
  hears = λ Y a t f r x v z e. not_call cc;
  trusts = λ Y a t f r x n p z e k m. not_call cc;
}

frame-hears : (X : Side) (frame stock : List ℕ) (v : ℕ) (h : List Entry) → Sent (other X) (own X) frame h
    → (Y : Side) (a : List ℕ) (t : ℕ) (f r x : List ℕ) (w : ℕ) → X ≡ Y → (gets X frame stock v).call ≡ receive a t f r x w → Sent (other Y) (own Y) f h
frame-hears X frame stock v h S Y a t f r x w z e =
    let q : frame ≡ f = cc in subst (λ (Z : Side). Sent (other Z) (own Z) f h) z (subst (λ (g : List ℕ). Sent (other X) (own X) g h) q S)

-- a frame with sequence 1 is no Confirm
no-confirm : (gs f : List ℕ) (n : ℕ) → sequence_of f ≡ 1 → read_body gs f ≡ Some (body_is.Confirm n) → ⊥
no-confirm gs f n i e = let z : ◌≡◌ {A = ℕ} 1 2 = sym i ∙ (confirm-shape gs f n e).sequence in absurd (omega arith)

pub commit-sequence : (g : ℕ) (c : List ℕ) → sequence_of (commit_body g [] c) ≡ 1
unfolding commit_body
commit-sequence g c = body-sequence 1 0 g [] c (lit< tt)

pub refusal-sequence : (g : ℕ) → sequence_of (group_refusal_body g) ≡ 1
unfolding group_refusal_body
refusal-sequence g = body-sequence 1 77 g [] [] (lit< tt)

pub commit-keeps : {X : Side} {frame stock : List ℕ} {v : ℕ} {h : List Entry} → sequence_of frame ≡ 1 → Sent (other X) (own X) frame h → Keeps (gets X frame stock v) h
commit-keeps {X} {frame} {stock} {v} {h} i S = record {
  stays = λ n b o s e. not_call cc;
  hears = frame-hears X frame stock v h S;
  trusts = λ Y a t f r x n p z e q m.
      let j : frame ≡ f = cc in absurd (no-confirm (groups_in (table_of h Y)) frame n i (ap (read_body (groups_in (table_of h Y))) j ∙ q));
}

-- the pair that a Confirm meets is the run's
met : (s : Story) (p : Pair) → s.running ≡ true → Meets s p → s.pair ≡ p
met s p b (run x y z) = z
met s p b (link x y) = absurd (clash b x)

pub confirm-keeps : {X : Side} {frame stock : List ℕ} {v : ℕ} {h : List Entry} {s : Story} → story_of h X (own (other X)) ≡ s → s.running ≡ true
    → SentOver (other X) (own X) frame (exchanged s.pair) h → Keeps (gets X frame stock v) h
confirm-keeps {X} {frame} {stock} {v} {h} {s} k b S = record {
  stays = λ n b' o s' e. not_call cc;
  hears = frame-hears X frame stock v h (sent-at-all S);
  trusts = λ Y a t f r x n p z e i m.
      let j : frame ≡ f = cc in
      let g = subst (λ (Z : Side). Meets (story_of h Z (own (other Z))) p) (sym z) m in
      let y : s.pair ≡ p = met s p b (subst (λ (o : Story). Meets o p) k g) in
      subst (λ (Z : Side). SentOver (other Z) (own Z) f (exchanged p) h) z
      (subst (λ (o : List ℕ). SentOver (other X) (own X) o (exchanged p) h) j (subst (λ (o : Pair). SentOver (other X) (own X) frame (exchanged o) h) y S));
}

-- ---- the premises

-- every call of a list keeps to them
pub data Every : List Entry → Type 0 where
  end : Every []
  and : {e : Entry} {h : List Entry} → Keeps e h → Every h → Every (e ∷ h)

every-comes : {e : Entry} {before h : List Entry} → Every h → Comes e before h → Keeps e before
every-comes end c = elim c [ ]
every-comes (and p r) last = p
every-comes (and p r) (sooner c) = every-comes r c

pub premises-of : {h : List Entry} {n : ℕ} → Every h → Below n h → Premises own h
premises-of k u = record {
  stay = λ e before size b o z c d q. (every-comes k c).stays size b o z q;
  once = λ e d before back f c b. below-once f u c b;
  only = λ X e before a t f r x v c d z q n. (every-comes k c).hears X a t f r x v z q;
  right = λ X e before a t f r x n p c d z q m. (every-comes k c).trusts X a t f r x n p z q;
}

-- ---- what the printers of a list are set to: the Sync limit of every set up stands for its printer's

pub data Sets (limits : Side → ℕ) : List Entry → Type 0 where
  nothing : Sets limits []
  sets : (P : Printer) {h : List Entry} → limit_of (settings_of (settings P)).limit ≡ limits P.side → Sets limits h → Sets limits (set_up P ∷ h)
  begins : {X : Side} {stock : List ℕ} {h : List Entry} → Sets limits h → Sets limits (starts X stock ∷ h)
  hears : {X : Side} {octets stock : List ℕ} {v : ℕ} {h : List Entry} → Sets limits h → Sets limits (gets X octets stock v ∷ h)

pub sets-to : {limits : Side → ℕ} {h : List Entry} → Sets limits h → (X : Side) → SetTo (limits X) X h
sets-to nothing X e before size b o s c d z q = elim c [ ]
sets-to {limits} (sets P l r) X e before size b o s last d z q =
    let j : settings P ≡ s = cc in subst (λ (x : List ℕ). limit_of (settings_of x).limit ≡ limits X) j (l ∙ ap limits z)
sets-to (sets P l r) X e before size b o s (sooner c) d z q = sets-to r X e before size b o s c d z q
sets-to (begins r) X e before size b o s last d z q = not_call cc
sets-to (begins r) X e before size b o s (sooner c) d z q = sets-to r X e before size b o s c d z q
sets-to (hears r) X e before size b o s last d z q = not_call cc
sets-to (hears r) X e before size b o s (sooner c) d z q = sets-to r X e before size b o s c d z q

-- ---- all that is handed over can be

-- octets, one by one
pub data Small : List ℕ → Type 0 where
  no_octet : Small []
  octet : {x : ℕ} {s : List ℕ} → x < 256 → Small s → Small (x ∷ s)

pub bytes_of : {s : List ℕ} → Small s → Bytes s
bytes_of no_octet i = lit< tt
bytes_of (octet l r) zero = l
bytes_of (octet l r) (suc i) = bytes_of r i

small_same : (n k : ℕ) → k < 256 → Small (replicate n k)
small_same zero k l = no_octet
small_same (suc n) k l = octet l (small_same n k l)

bytes_same : (n k : ℕ) → k < 256 → Bytes (replicate n k)
bytes_same n k l = bytes_of (small_same n k l)

own-six : (X : Side) → calls-of.Octets 6 (own X)
own-six A = record { many = refl; bytes = bytes_of (octet (lit< tt) (octet (lit< tt) (octet (lit< tt) (octet (lit< tt) (octet (lit< tt) (octet (lit< tt) no_octet)))))) }
own-six B = record { many = refl; bytes = bytes_of (octet (lit< tt) (octet (lit< tt) (octet (lit< tt) (octet (lit< tt) (octet (lit< tt) (octet (lit< tt) no_octet)))))) }

value-handed : (n : ℕ) → n < 256 → calls-of.Octets 32 (value n)
value-handed n l = record { many = refl; bytes = bytes_same 32 n l }

settings-handed : (P : Printer) → length P.groups < 256 → Bytes P.groups → P.period < 256 → P.limit < 256 → calls-of.Octets 16 (settings P)
settings-handed P l b p m =
    let z : 0 < 256 = lit< tt in
    record {
      many = refl;
      bytes = bytes_of (octet l (octet z (octet (b 0) (octet z (octet (b 1) (octet z (octet (b 2) (octet z (octet (lit< tt) (octet z (octet p (octet z (octet m (small_same 3 0 z))))))))))))));
    }

pub filled-bytes : (W group n : ℕ) → n < 256 → Bytes (filled W group n)
filled-bytes W group n l =
    bytes-append (commit group n) (replicate (W - commit_length group) 0) (bytes_same (commit_length group) n l) (bytes_same (W - commit_length group) 0 (lit< tt))

body_bytes : (q x f : ℕ) (r : List ℕ) → Bytes r → Bytes (body q x f [] r)
unfolding body head
body_bytes q x f r b =
    bytes-append (oct 2 3 ++ (oct 2 q ++ (oct 2 x ++ oct 2 f))) r
    (bytes-append (oct 2 3) (oct 2 q ++ (oct 2 x ++ oct 2 f)) (bytes-oct 2 3)
    (bytes-append (oct 2 q) (oct 2 x ++ oct 2 f) (bytes-oct 2 q) (bytes-append (oct 2 x) (oct 2 f) (bytes-oct 2 x) (bytes-oct 2 f)))) b

pub commit-bytes : (group n : ℕ) → n < 256 → Bytes (commit_body group [] (commit group n))
unfolding commit_body
commit-bytes group n l = body_bytes 1 0 group (commit group n) (bytes_same (commit_length group) n l)

pub refusal-bytes : (group : ℕ) → Bytes (group_refusal_body group)
unfolding group_refusal_body
refusal-bytes group = body_bytes 1 77 group [] (bytes_of no_octet)

pub confirm-bytes : (counter n : ℕ) → n < 256 → Bytes (confirm_body counter (value n))
unfolding confirm_body
confirm-bytes counter n l = body_bytes 2 0 counter (value n) (bytes_same 32 n l)

pub set-up-handed : (P : Printer) → length P.groups < 256 → Bytes P.groups → P.period < 256 → P.limit < 256 → Handed (set_up P)
set-up-handed P l b p m = record {
  call = an_initialize (bytes_same (32 + P.size) 0 (lit< tt)) (own-six P.side) (settings-handed P l b p m);
  value = value-handed 0 (lit< tt);
}

pub start-handed : (X : Side) (stock : List ℕ) → Bytes stock → Handed (starts X stock)
start-handed X stock s = record { call = an_initiate (own-six (other X)) (lit< tt) s; value = value-handed 0 (lit< tt) }

pub frame-handed : (X : Side) (frame stock : List ℕ) (v : ℕ) → Bytes frame → Bytes stock → v < 256 → Handed (gets X frame stock v)
frame-handed X frame stock v f s l = record {
  call = a_receive (own-six (other X)) (lit< tt) f s (bytes_same 32 0 (lit< tt)) (lit< tt);
  value = value-handed v l;
}
