-- A frame received: causes 4 to 7, and its step in a slot of the table and outside it.
use mathlib.Core.Path.{◌≡◌, refl, sym, ap, ◌∙◌, subst}
use mathlib.Core.Bool.{Bool, true, false, not}
use mathlib.Core.List.{List}
use Prim.Native.Nat.{ℕ, ◌≤◌, ◌<◌}
use native.Mathlib.Omega.{arith}
use lib.Dec.{eqb, ltb, lit≤}
use lib.ListN.{length, take}
use lib.Seq.{take_all}
use borrow.Author.Tests.{eq-eqb, ne_eqb, lt-ltb, le-ltb, eqb-true}
use Rattle.octets.specs.Octets.{Bytes, part}
use Rattle.std.specs.Prelude.{if◌then◌else◌, Option, Some, None, Result, Ok, Err, ok_or}
use Rattle.octets.proofs.Scan.{clash}
use Rattle.groups.specs.Groups.{Storable, fresh_ok}
use Rattle.record.specs.declared.Header.{Header}
use Rattle.record.specs.Layout.{groups_of, width_in, decode_peer, no_peer}
use Rattle.soundness.specs.Soundness.{header_ok}
use Rattle.soundness.proofs.Storable.{header-room}
use Rattle.table.specs.Table.{Table, decode_table, encode_table, recounted, slot, look_by, sound, entry, Enters}
use Rattle.table.proofs.Kept.{recounted-again}
use Rattle.table.specs.declared.Entrance.{Entrance}
use Rattle.rules.specs.declared.Given.{Given}
use Rattle.rules.specs.Message.{Message}
use Rattle.rules.specs.declared.Said.{Said}
use Rattle.rules.specs.Book.{◌is◌, Terms, Call, Step, on_frame}
use Rattle.rules.specs.Given.{terms, call}
use Rattle.rules.specs.Said.{Does, saying}
use Rattle.rule_laws.proofs.Slots.{frame-seated}
use Rattle.message.specs.declared.View.{View}
use Rattle.message.specs.View.{view, read_view, message_of, message}
use Rattle.message.proofs.Laws.{view-read, view-unread, message-storable}
use Rattle.causes.specs.declared.Refusal.{Refusal}
use Rattle.causes.specs.declared.Refusal.TheVariants as why
use Rattle.answers.specs.Answers.{Report, Leaves, ends, refuse, seating, refused, said, answered, finish_at, finishes}
use Rattle.answers.proofs.Laws.{clashed, turned-refused, turned-go}
use Rattle.calls.specs.Calls.{terms_of, clock_of, brings, fresh_in, admit_frame, frame_turn, frame_step, receives}
use Rattle.engine.specs.InSlot.{Held, Stocks, given_by, slotless, Brought, AdmitsFrame, DoesAt, answers_outside}
use Rattle.engine.proofs.Headers.{entered-held}
use Rattle.engine.proofs.Windows.{look-seat, seat-done}
use Rattle.engine.proofs.Starts.{seat-none, seated-terms, unseated-terms, brought, stock-tested, stocks}

unrefused : {c : Refusal} {v : View} {X : Type 0} → ◌≡◌ {A = Result View Refusal} (Err c) (Ok v) → X
unrefused e = let z : ◌≡◌ {A = ℕ} 0 1 = cc in absurd (omega arith)

-- ---- causes 4, 5, 6, 7

-- the tests, over the width and the listed groups alone
abbrev admission : ℕ → List ℕ → Option ℕ → List ℕ → List ℕ → List ℕ → ℕ → Result (Option ℕ) Refusal
admission W gs f frame fresh expected verdict =
    if not (fresh_ok W gs fresh) then Err why.Fresh
    else if not (eqb (length expected) 32) then Err why.Token
    else if ltb 1 verdict then Err why.Verdict
    else if (view gs frame).sequence is 0 then Err why.Body
    else Ok f

module _ (h : Header) (frame fresh expected : List ℕ) (verdict : ℕ) where
  abbrev admits : Option ℕ → Result (Option ℕ) Refusal
  admits f = admission (width_in h) (groups_of h) f frame fresh expected verdict

  admitted : (f : Option ℕ) (x : Result (Option ℕ) Refusal) → admits f ≡ x → (T : Table) → h ≡ T.header → admit_frame T f frame fresh expected verdict ≡ x
  unfolding admit_frame
  admitted f x q T e = ap (λ (g : Header). admission (width_in g) (groups_of g) f frame fresh expected verdict) (sym e) ∙ q

  refuses : (r : Result View Refusal) (c : Refusal) → r ≡ Err c → ((f : Option ℕ) → admits f ≡ Err c) → AdmitsFrame r h frame fresh expected verdict
  refuses r c e q =
      record {
        refuses = λ d z T f i. let w : c ≡ d = cc in admitted f (Err d) (q f ∙ ap Err w) T i;
        goes = λ v z. unrefused (sym e ∙ z);
        view = λ v z. unrefused (sym e ∙ z);
        short = λ v z. unrefused (sym e ∙ z);
      }

  module _ (w : ℕ) (gs : List ℕ) (b : Bool) (ew : w ≡ width_in h) (eg : gs ≡ groups_of h) (eb : b ≡ fresh_ok w gs fresh) (r : Result View Refusal) where
    tested : (x : Bool) → not b ≡ x → not (fresh_ok (width_in h) (groups_of h) fresh) ≡ x
    tested x q = stock-tested h fresh w b x ew (eb ∙ ap (λ (y : List ℕ). fresh_ok w y fresh) eg) q

    pub frame-stock : not b ≡ true → r ≡ Err why.Fresh → AdmitsFrame r h frame fresh expected verdict
    frame-stock q e = let z = tested true q in refuses r why.Fresh e (λ f. rw z refl)

    pub frame-token : not b ≡ false → (length expected ≡ 32 → ⊥) → r ≡ Err why.Token → AdmitsFrame r h frame fresh expected verdict
    frame-token q d e = let z = tested false q in refuses r why.Token e (λ f. rw (z, ne_eqb _ _ d) refl)

    pub frame-verdict : not b ≡ false → length expected ≡ 32 → 1 < verdict → r ≡ Err why.Verdict → AdmitsFrame r h frame fresh expected verdict
    frame-verdict q d v e = let z = tested false q in refuses r why.Verdict e (λ f. rw (z, eq-eqb _ _ d, lt-ltb _ _ v) refl)

    -- the body, and the view of it that the reader hands on
    module _ (qs : List ℕ) (o : Option View) (es : qs ≡ groups_of h) (eo : o ≡ read_view qs frame) where
      read-is : o ≡ read_view (groups_of h) frame
      read-is = eo ∙ ap (λ (y : List ℕ). read_view y frame) es

      pub frame-body : not b ≡ false → length expected ≡ 32 → verdict ≤ 1 → o ≡ None → r ≡ Err why.Body → AdmitsFrame r h frame fresh expected verdict
      frame-body q d v n e =
          let z = tested false q in
          let y : eqb (view (groups_of h) frame).sequence 0 ≡ true = eq-eqb _ _ (view-unread (groups_of h) frame (sym read-is ∙ n)) in
          refuses r why.Body e (λ f. rw (z, eq-eqb _ _ d, le-ltb _ _ v, y) refl)

      pub frame-go : (seen : View) → not b ≡ false → length expected ≡ 32 → verdict ≤ 1 → o ≡ Some seen → r ≡ Ok seen → AdmitsFrame r h frame fresh expected verdict
      frame-go seen q d v n e =
          let z = tested false q in
          let s = view-read (groups_of h) frame seen (sym read-is ∙ n) in
          let y : eqb (view (groups_of h) frame).sequence 0 ≡ false = ne_eqb _ _ (λ i. s.1 (ap (λ (x : View). x.sequence) s.0 ∙ i)) in
          record {
            refuses = λ c i. unrefused (sym i ∙ e);
            goes = λ x i T f j. admitted f (Ok f) (rw (z, eq-eqb _ _ d, le-ltb _ _ v, y) refl) T j;
            view = λ x i. let k : seen ≡ x = cc in sym k ∙ s.0;
            short = λ x i. let k : seen ≡ x = cc in subst (λ (u : View). u.toklen ≤ 256) k s.2;
          }

      pub frame-read : not b ≡ false → length expected ≡ 32 → verdict ≤ 1 → r ≡ ok_or o why.Body → AdmitsFrame r h frame fresh expected verdict
      frame-read q d v e = go o refl e
        where
          go : (x : Option View) → o ≡ x → r ≡ ok_or x why.Body → AdmitsFrame r h frame fresh expected verdict
          go (Some seen) n e = frame-go seen q d v n e
          go None n e = frame-body q d v n e

-- a frame that goes on
pub record Gone (t : List ℕ) (h : Header) (f : Option ℕ) (fresh expected : List ℕ) : Type 0 where
  pub held : Held t h f
  pub stock : Stocks h fresh
  pub token : length expected ≡ 32

goes : (T : Table) (f g : Option ℕ) (frame fresh expected : List ℕ) (verdict : ℕ) → admit_frame T f frame fresh expected verdict ≡ Ok g
    → (fresh_ok (width_in T.header) (groups_of T.header) fresh ≡ true) × ((eqb (length expected) 32 ≡ true) × (f ≡ g))
unfolding admit_frame
goes T f g frame fresh expected verdict e =
    go (fresh_ok (width_in T.header) (groups_of T.header) fresh) (eqb (length expected) 32) (ltb 1 verdict) ((view (groups_of T.header) frame).sequence is 0) e
  where
    go : (b x v m : Bool) → (if not b then Err why.Fresh else if not x then Err why.Token else if v then Err why.Verdict else if m then Err why.Body else Ok f) ≡ Ok g
        → (b ≡ true) × ((x ≡ true) × (f ≡ g))
    go false x v m q = clashed q
    go true false v m q = clashed q
    go true true true m q = clashed q
    go true true false true q = clashed q
    go true true false false q = (refl, (refl, cc))

pub frame-goes : (t : List ℕ) (h : Header) (frame fresh expected : List ℕ) (verdict : ℕ) (f g : Option ℕ) → Held t h f → admit_frame (decode_table t) f frame fresh expected verdict ≡ Ok g
    → Gone t h g fresh expected
frame-goes t h frame fresh expected verdict f g H e =
    let w = goes (decode_table t) f g frame fresh expected verdict e in
    let G = subst (Held t h) w.1.1 H in
    record { held = G; stock = stocks t h g fresh G w.0; token = eqb-true _ _ w.1.0 }

-- the expected token by value
pub token-all : (s r : List ℕ) → length s ≡ 32 → r ≡ part s 0 32 → r ≡ s
unfolding part
token-all s r l e = e ∙ take_all 32 s (omega (arith, l))

-- ---- the step

-- outside the table
module _ (s : Step) (a : List ℕ) (x : Said) (r : Report) (e : x ≡ saying s) where
  pub outside-refused : x.refused ≡ true → r ≡ refused why.Full → r ≡ answers_outside s a
  outside-refused q z = z ∙ go s.refused (sym (ap (λ (y : Said). y.refused) e) ∙ q)
    where
      go : (b : Bool) → b ≡ true → refused why.Full ≡ (if b then refused why.Full else said s a)
      go true i = refl
      go false i = let y : ◌≡◌ {A = ℕ} 0 1 = cc in absurd (omega arith)

  pub outside-said : x.refused ≡ false → r ≡ answered x a → r ≡ answers_outside s a
  unfolding said
  outside-said q z = z ∙ ap (λ (y : Said). answered y a) e ∙ go s.refused (sym (ap (λ (y : Said). y.refused) e) ∙ q)
    where
      go : (b : Bool) → b ≡ false → answered (saying s) a ≡ (if b then refused why.Full else said s a)
      go true i = let y : ◌≡◌ {A = ℕ} 0 1 = cc in absurd (omega arith)
      go false i = refl

-- the rule on a free record says what the step of the free record says
pub outside-says : (t : Terms) (c : Call) (m : Message) (w : ℕ) (s left : List ℕ) (x : Said) → decode_peer w s ≡ no_peer
    → Does w x left (on_frame t c (decode_peer w s) m) → x ≡ saying (on_frame t c no_peer m)
outside-says t c m w s left x e d = d.says ∙ (λ i. saying (on_frame t c (e i) m))

-- no slot: the table stays
outside-leaves : (t : List ℕ) (f : Option ℕ) (s : Step) (a : List ℕ) (r : Report) → Bytes t → sound t ≡ true → seating (decode_table t) f ≡ None → r ≡ answers_outside s a → Leaves r t (finishes t f s a)
unfolding finishes finish_at ends
outside-leaves t f s a r b w e z = subst (λ (g : Option ℕ). Leaves r t (if s.refused then refuse t why.Full else finish_at g t s a)) (sym e) (go s.refused z)
  where
    go : (b : Bool) → r ≡ (if b then refused why.Full else said s a) → Leaves r t (if b then refuse t why.Full else finish_at None t s a)
    go true q = record { answer = q; table = refl }
    go false q = record { answer = q; table = sym (recounted-again t b w) }

module _ (t : List ℕ) (h : Header) (f : Option ℕ) (H : Held t h f) (g : Given) (B : Brought g h) (m : Message) (gs : List ℕ) (eg : gs ≡ groups_of h) (fresh : List (List ℕ)) (r : Report) where
  -- in the slot
  pub hear-seated : (k : ℕ) (j : Option ℕ) (u v : List ℕ) (x : Said) → Bytes t → j ≡ seating (decode_table t) f → j ≡ Some k
      → DoesAt x u t k (on_frame (terms g gs) (call g fresh) (slot (decode_table t) k) m) → (r ≡ answered x g.address) × (v ≡ encode_table (recounted (decode_table u)))
      → Leaves r v (finishes t f (on_frame (terms_of (decode_table t) f) (call g fresh) (look_by (decode_table t) f) m) g.address)
  hear-seated k j u v x b p q d w =
      let e : seating (decode_table t) f ≡ Some k = sym p ∙ q in
      let T = seated-terms g h (decode_table t) f k H.header B e in
      let P = look-seat t f k b H.seated e in
      seat-done t f k u v g.address x _ _ r e (frame-seated _ _ _ m (ap (λ (y : Terms). y.full) (sym T) ∙ B.full)) ((λ i. on_frame (sym T i) (call g fresh) (P i) m) ∙ (λ i. on_frame (terms g (sym eg i)) (call g fresh) (slot (decode_table t) k) m)) d w

  -- without one
  look_none : seating (decode_table t) f ≡ None → look_by (decode_table t) f ≡ no_peer
  unfolding look_by
  look_none e = ap (look_by (decode_table t)) (seat-none (decode_table t) f e).0

  pub hear-unseated : (j : Option ℕ) (y : Given) → Bytes t → j ≡ seating (decode_table t) f → j ≡ None → y ≡ slotless g
      → r ≡ answers_outside (on_frame (terms y gs) (call y fresh) no_peer m) y.address
      → Leaves r t (finishes t f (on_frame (terms_of (decode_table t) f) (call g fresh) (look_by (decode_table t) f) m) g.address)
  hear-unseated j y b p q ey z =
      let e : seating (decode_table t) f ≡ None = sym p ∙ q in
      let T = unseated-terms g h (decode_table t) f H.header B e in
      outside-leaves t f _ g.address r b H.seated.whole e
      (z ∙ ap (λ (l : List ℕ). answers_outside (on_frame (terms y l) (call y fresh) no_peer m) y.address) eg
      ∙ ap (λ (i : Given). answers_outside (on_frame (terms i (groups_of h)) (call i fresh) no_peer m) i.address) ey
      ∙ (λ i. answers_outside (on_frame (T i) (call g fresh) (sym (look_none e) i) m) g.address))

-- the step of the call
pub frame_is : (t : List ℕ) (f : Option ℕ) (a : List ℕ) (time : ℕ) (frame fresh expected token : List ℕ) (verdict : ℕ) (h : Header) (w : View) (g : Given)
    → h ≡ (decode_table t).header → w ≡ view (groups_of h) frame → token ≡ expected → g ≡ given_by h a time token (verdict is 1)
    → on_frame (terms_of (decode_table t) f) (call g (fresh_in h fresh)) (look_by (decode_table t) f) (message_of frame w) ≡ frame_step (decode_table t) f a time frame fresh expected verdict
unfolding frame_step message
frame_is t f a time frame fresh expected token verdict h w g eh ew et eg =
    let W : w ≡ view (groups_of (decode_table t).header) frame = ew ∙ ap (λ (x : Header). view (groups_of x) frame) eh in
    let C : call g (fresh_in h fresh) ≡ brings a (clock_of (decode_table t).header time) (fresh_in (decode_table t).header fresh) expected (verdict is 1) =
    ap (λ (x : Given). call x (fresh_in h fresh)) eg ∙ (λ i. brings a (clock_of (eh i) time) (fresh_in (eh i) fresh) (et i) (verdict is 1)) in
    λ i. on_frame (terms_of (decode_table t) f) (C i) (look_by (decode_table t) f) (message_of frame (W i))

-- the commit of a frame as it was read is stored with the table's width without loss
pub frame-storable : (h : Header) (frame : List ℕ) (v : View) (w : ℕ) → header_ok h ≡ true → v ≡ view (groups_of h) frame → w ≡ width_in h → Storable w (message_of frame v).commit
unfolding message
frame-storable h frame v w ok e ew =
    let R = header-room h ok in
    subst (λ (W : ℕ). Storable W (message_of frame v).commit) (sym ew)
    (subst (λ (x : View). Storable (width_in h) (message_of frame x).commit) (sym e) (message-storable (width_in h) (groups_of h) frame R.most R.each))

-- what a call brings
pub given-brought : (h : Header) (a : List ℕ) (time : ℕ) (expected : List ℕ) (v : Bool) (g : Given) → g ≡ given_by h a time expected v → Brought g h
given-brought h a time expected v g e = subst (λ (x : Given). Brought x h) (sym e) (brought h a time expected v)

pub receive-goes : (t a frame fresh expected : List ℕ) (verdict : ℕ) (e : Entrance) → Enters e t a → (A : Result View Refusal) → AdmitsFrame A e.header frame fresh expected verdict → (v : View) → A ≡ Ok v
    → Gone t e.header e.slot fresh expected
receive-goes t a frame fresh expected verdict e E A K v q = frame-goes t e.header frame fresh expected verdict e.slot e.slot (entered-held t a e E) (K.goes v q (decode_table t) e.slot E.looked.header)

-- the call, by what its address came to
module _ (t a : List ℕ) (time : ℕ) (frame fresh expected : List ℕ) (verdict : ℕ) (r : Report) where
  pub receive-unentered : (c : Refusal) → entry t a ≡ Err c → r ≡ refused c → Leaves r t (receives t a time frame fresh expected verdict)
  unfolding receives frame_turn
  receive-unentered c e z = turned-refused _ _ t a (Err c) (sym (ap (λ (y : Result (Option ℕ) Refusal). frame_turn y t frame fresh expected verdict) e)) r c refl z

  module _ (e : Entrance) (E : Enters e t a) (A : Result View Refusal) (K : AdmitsFrame A e.header frame fresh expected verdict) where
    turn_of : (x : Result (Option ℕ) Refusal) → admit_frame (decode_table t) e.slot frame fresh expected verdict ≡ x → x ≡ frame_turn (entry t a) t frame fresh expected verdict
    unfolding frame_turn
    turn_of x q = sym q ∙ ap (λ (y : Result (Option ℕ) Refusal). frame_turn y t frame fresh expected verdict) (sym E.entry)

    pub receive-refused : (c : Refusal) → A ≡ Err c → r ≡ refused c → Leaves r t (receives t a time frame fresh expected verdict)
    unfolding receives
    receive-refused c q z = turned-refused _ _ t a (Err c) (turn_of (Err c) (K.refuses c q (decode_table t) e.slot E.looked.header)) r c refl z

    module _ (v : View) (q : A ≡ Ok v) where
      pub receive-went : (token : List ℕ) (g : Given) (cs : List (List ℕ)) (u : List ℕ) → token ≡ expected → g ≡ given_by e.header a time token (verdict is 1) → cs ≡ fresh_in e.header fresh
          → Leaves r u (finishes t e.slot (on_frame (terms_of (decode_table t) e.slot) (call g cs) (look_by (decode_table t) e.slot) (message_of frame v)) g.address)
          → Leaves r u (receives t a time frame fresh expected verdict)
      unfolding receives
      receive-went token g cs u et eg ec l =
          let M = λ (x : List (List ℕ)). on_frame (terms_of (decode_table t) e.slot) (call g x) (look_by (decode_table t) e.slot) (message_of frame v) in
          let S = ap M ec ∙ frame_is t e.slot a time frame fresh expected token verdict e.header v g E.looked.header (K.view v q) et eg in
          let L : Leaves r u (finishes t e.slot (frame_step (decode_table t) e.slot a time frame fresh expected verdict) a) =
          subst (λ (x : List ℕ). Leaves r u (finishes t e.slot (frame_step (decode_table t) e.slot a time frame fresh expected verdict) x)) (ap (λ (x : Given). x.address) eg)
          (subst (λ (x : Step). Leaves r u (finishes t e.slot x g.address)) S l) in
          turned-go _ _ t a (Ok e.slot) (turn_of (Ok e.slot) (K.goes v q (decode_table t) e.slot E.looked.header)) r e.slot _ u refl refl L
