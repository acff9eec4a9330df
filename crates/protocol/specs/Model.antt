-- Two printers that run the handshake with each other, without octets: what a call does, the state that a list of calls leaves, and what the calls
-- must keep to.
-- A history is a list of calls with the newest first; the time of a call is the number of calls before it.
use Rattle.std.specs.Prelude.{◌≡◌, Bool, true, false, List, [], ◌∷◌, ℕ, length}

-- a commit: its group, and scalar and element
pub record Commit : Type 0 where
  pub group : ℕ
  pub octets : List ℕ

pub data Side : Type 0 where
  A B : Side

abbrev pub other : Side → Side
other A = B
other B = A

-- what a printer has with the other one: a run, and a link
pub data Run : Type 0 where
  nothing : Run
  committed : (own : Commit) → Run
  confirmed : (own peer : Commit) → Run

pub data Link : Type 0 where
  unlinked : Link
  finished : (own peer : Commit) (mark : Bool) → Link

pub record Peer : Type 0 where
  pub run : Run
  pub link : Link

-- what a call does, with the commits that it works on
pub data Act : Type 0 where
  fresh : (own : Commit) → Act
  form_fresh : (own peer : Commit) → Act
  form_own : (own peer : Commit) → Act
  send_commit : (own : Commit) → Act
  send_confirm : (own peer : Commit) → Act
  send_both : (own peer : Commit) → Act
  accept : (own peer : Commit) → Act
  end_run end_link end_both idle : Act

pub data Call : Type 0 where
  by : Side → Act → Call

-- The state.

abbrev pub marked : Link → Link
marked unlinked = unlinked
marked (finished c p m) = finished c p true

abbrev pub act : Act → Peer → Peer
act (fresh c) s = record { run = committed c; link = s.link }
act (form_fresh c p) s = record { run = confirmed c p; link = marked s.link }
act (form_own c p) s = record { run = confirmed c p; link = marked s.link }
act (send_commit c) s = s
act (send_confirm c p) s = s
act (send_both c p) s = s
act (accept c p) s = record { run = nothing; link = finished c p false }
act end_run s = record { run = nothing; link = s.link }
act end_link s = record { run = s.run; link = unlinked }
act end_both s = record { run = nothing; link = unlinked }
act idle s = s

abbrev pub turn : Side → Side → Peer → Peer → Peer
turn A A s t = s
turn A B s t = t
turn B A s t = t
turn B B s t = s

-- what Z has after the history
abbrev pub state : List Call → Side → Peer
state [] Z = record { run = nothing; link = unlinked }
state (by X e ∷ h) Z = turn X Z (act e (state h Z)) (state h Z)

-- What a call uses afresh, forms and sends.

abbrev pub Uses : Commit → Act → Type 0
Uses d (fresh c) = d ≡ c
Uses d (form_fresh c p) = d ≡ c
Uses d (form_own c p) = ⊥
Uses d (send_commit c) = ⊥
Uses d (send_confirm c p) = ⊥
Uses d (send_both c p) = ⊥
Uses d (accept c p) = ⊥
Uses d end_run = ⊥
Uses d end_link = ⊥
Uses d end_both = ⊥
Uses d idle = ⊥

abbrev pub Forms : Commit → Commit → Act → Type 0
Forms d q (fresh c) = ⊥
Forms d q (form_fresh c p) = (d ≡ c) × (q ≡ p)
Forms d q (form_own c p) = (d ≡ c) × (q ≡ p)
Forms d q (send_commit c) = ⊥
Forms d q (send_confirm c p) = ⊥
Forms d q (send_both c p) = ⊥
Forms d q (accept c p) = ⊥
Forms d q end_run = ⊥
Forms d q end_link = ⊥
Forms d q end_both = ⊥
Forms d q idle = ⊥

abbrev pub SendsCommit : Commit → Act → Type 0
SendsCommit d (fresh c) = d ≡ c
SendsCommit d (form_fresh c p) = d ≡ c
SendsCommit d (form_own c p) = ⊥
SendsCommit d (send_commit c) = d ≡ c
SendsCommit d (send_confirm c p) = ⊥
SendsCommit d (send_both c p) = d ≡ c
SendsCommit d (accept c p) = ⊥
SendsCommit d end_run = ⊥
SendsCommit d end_link = ⊥
SendsCommit d end_both = ⊥
SendsCommit d idle = ⊥

abbrev pub SendsConfirm : Commit → Commit → Act → Type 0
SendsConfirm d q (fresh c) = ⊥
SendsConfirm d q (form_fresh c p) = (d ≡ c) × (q ≡ p)
SendsConfirm d q (form_own c p) = (d ≡ c) × (q ≡ p)
SendsConfirm d q (send_commit c) = ⊥
SendsConfirm d q (send_confirm c p) = (d ≡ c) × (q ≡ p)
SendsConfirm d q (send_both c p) = (d ≡ c) × (q ≡ p)
SendsConfirm d q (accept c p) = ⊥
SendsConfirm d q end_run = ⊥
SendsConfirm d q end_link = ⊥
SendsConfirm d q end_both = ⊥
SendsConfirm d q idle = ⊥

abbrev pub Accepts : Commit → Commit → Act → Type 0
Accepts d q (fresh c) = ⊥
Accepts d q (form_fresh c p) = ⊥
Accepts d q (form_own c p) = ⊥
Accepts d q (send_commit c) = ⊥
Accepts d q (send_confirm c p) = ⊥
Accepts d q (send_both c p) = ⊥
Accepts d q (accept c p) = (d ≡ c) × (q ≡ p)
Accepts d q end_run = ⊥
Accepts d q end_link = ⊥
Accepts d q end_both = ⊥
Accepts d q idle = ⊥

-- a call of Z at the time t does what P says
pub data At (P : Act → Type 0) (Z : Side) (t : ℕ) : List Call → Type 0 where
  now : {X : Side} {e : Act} {h : List Call} → Z ≡ X → t ≡ length h → P e → At P Z t (by X e ∷ h)
  earlier : {c : Call} {h : List Call} → At P Z t h → At P Z t (c ∷ h)

abbrev pub Once : (Act → Type 0) → Side → List Call → Type 0
Once P Z h = (t : ℕ) × At P Z t h

-- What the calls keep to.

-- a fresh commit is used where no pair stands
abbrev pub Unpaired : Run → Type 0
Unpaired nothing = Unit {0}
Unpaired (committed c) = Unit {0}
Unpaired (confirmed c p) = ⊥

-- the commit that a run sends again, and the pair that a run, or without one a link, makes a Confirm over
abbrev pub Own : Run → Commit → Type 0
Own nothing d = ⊥
Own (committed c) d = d ≡ c
Own (confirmed c p) d = d ≡ c

abbrev pub LinkPair : Link → Commit → Commit → Type 0
LinkPair unlinked d q = ⊥
LinkPair (finished c p m) d q = (d ≡ c) × (q ≡ p)

abbrev pub Pair : Run → Link → Commit → Commit → Type 0
Pair nothing l d q = LinkPair l d q
Pair (committed c) l d q = ⊥
Pair (confirmed c p) l d q = (d ≡ c) × (q ≡ p)

-- X has not used c
abbrev pub Unused : Side → Commit → List Call → Type 0
Unused X c h = ¬ Once (Uses c) X h

-- what a printer's own state must be for the act: the rules see to this
abbrev pub Guard : Act → Peer → Type 0
Guard (fresh c) s = Unpaired s.run
Guard (form_fresh c p) s = Unpaired s.run
Guard (form_own c p) s = s.run ≡ committed c
Guard (send_commit c) s = Own s.run c
Guard (send_confirm c p) s = Pair s.run s.link c p
Guard (send_both c p) s = s.run ≡ confirmed c p
Guard (accept c p) s = s.run ≡ confirmed c p
Guard end_run s = Unit {0}
Guard end_link s = Unit {0}
Guard end_both s = Unit {0}
Guard idle s = Unit {0}

-- what came before: a printer uses a commit once, the other sent what comes from it, and made the Confirm that is accepted over the same pair
abbrev pub World : Side → Act → List Call → Type 0
World X (fresh c) h = Unused X c h
World X (form_fresh c p) h = Unused X c h × Once (SendsCommit p) (other X) h
World X (form_own c p) h = Once (SendsCommit p) (other X) h
World X (send_commit c) h = Unit {0}
World X (send_confirm c p) h = Unit {0}
World X (send_both c p) h = Unit {0}
World X (accept c p) h = Once (SendsConfirm p c) (other X) h
World X end_run h = Unit {0}
World X end_link h = Unit {0}
World X end_both h = Unit {0}
World X idle h = Unit {0}

-- X may act so after the history
abbrev pub Ok : Side → Act → List Call → Type 0
Ok X e h = Guard e (state h X) × World X e h

abbrev pub Valid : List Call → Type 0
Valid [] = Unit {0}
Valid (by X e ∷ h) = Ok X e h × Valid h

-- less than that: what is accepted, the other made a Confirm over
abbrev pub Right : Side → Act → List Call → Type 0
Right X e h = (c p : Commit) → Accepts c p e → Once (SendsConfirm p c) (other X) h

abbrev pub Rightful : List Call → Type 0
Rightful [] = Unit {0}
Rightful (by X e ∷ h) = (Guard e (state h X) × Right X e h) × Rightful h
