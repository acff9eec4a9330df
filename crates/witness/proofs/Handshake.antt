-- The two lists in group 21 keep to the premises of demand 3; the handshake ends with two clear links that agree, and after the second one A's link is
-- clear, B's is marked, and they differ.
use mathlib.Core.Path.{◌≡◌, refl, ap}
use mathlib.Core.Bool.{true, false}
use mathlib.Core.List.{List, [], ◌∷◌}
use Prim.Native.Nat.{ℕ, ◌<◌}
use lib.Dec.{lit<}
use Rattle.protocol.specs.Model.{Side, A, B}
use Rattle.octets.specs.Octets.{Bytes}
use Rattle.frame.specs.Frame.{commit_body, confirm_body}
use Rattle.rules.specs.Book.{commit_frame, confirm_frame}
use Rattle.agreement.specs.Calls.{Handed, AllHanded, Entry, last, sooner}
use Rattle.agreement.specs.Calls as calls-of
use Rattle.agreement.specs.Story.{finished, Story, nothing_yet, story_of}
use Rattle.agreement.specs.Sent.{only, first, second, SendsBy}
use Rattle.agreement.specs.Statement.{Premises, Demand3}
use Rattle.agreement.proofs.Demand.{demand3}
use Rattle.witness.specs.Printers.{own, commit, value, set_up}
use Rattle.witness.specs.Handshake.{wide, stock, start, gets_commit, gets_confirm, ready, started, answered, confirmed, accepted, handshake, started_again, answered_again, confirmed_again, again}
use Rattle.witness.proofs.Lists.{At, at_none, by-A, by-B, sends-by, sent, sent-over, no-use, one-use, Below, nobody, skips, uses, set-up-keeps, start-keeps, commit-sequence, commit-keeps, confirm-keeps, Every, end, and, premises-of, no_octet, octet, bytes_of, filled-bytes, commit-bytes, confirm-bytes, set-up-handed, start-handed, frame-handed}
use Rattle.witness.proofs.Plays.{empty, pair, after-start-A, after-commit-B, after-commit-A, after-accept-A, after-accept-B, after-start-again, after-commit-again-B, after-commit-again-A, after-accept-again-A, story-start-A, story-commit-B, story-commit-A, story-accept-A, story-accept-B, story-start-again, story-commit-again-B, story-commit-again-A, story-accept-again-A, plays, tells}

-- ---- where the lists stand after each call

abbrev ready-A : List Entry
ready-A = set_up (wide A) ∷ []

at_1 : At ready-A (empty (wide A)) [] nothing_yet nothing_yet
at_1 = by-A at_none plays.set_up_A tells.set_up_A refl

at-2 : At ready (empty (wide A)) (empty (wide B)) nothing_yet nothing_yet
at-2 = by-B at_1 plays.set_up_B tells.set_up_B refl

at-3 : At started after-start-A.table (empty (wide B)) story-start-A nothing_yet
at-3 = by-A at-2 plays.start_A tells.start_A refl

at-4 : At answered after-start-A.table after-commit-B.table story-start-A story-commit-B
at-4 = by-B at-3 plays.commit_B tells.commit_B refl

at_5 : At confirmed after-commit-A.table after-commit-B.table story-commit-A story-commit-B
at_5 = by-A at-4 plays.commit_A tells.commit_A refl

at-6 : At accepted after-accept-A.table after-commit-B.table story-accept-A story-commit-B
at-6 = by-A at_5 plays.accept_A tells.accept_A refl

at_7 : At handshake after-accept-A.table after-accept-B.table story-accept-A story-accept-B
at_7 = by-B at-6 plays.accept_B tells.accept_B refl

at_8 : At started_again after-start-again.table after-accept-B.table story-start-again story-accept-B
at_8 = by-A at_7 plays.start_again tells.start_again refl

at_9 : At answered_again after-start-again.table after-commit-again-B.table story-start-again story-commit-again-B
at_9 = by-B at_8 plays.commit_again_B tells.commit_again_B refl

at-10 : At confirmed_again after-commit-again-A.table after-commit-again-B.table story-commit-again-A story-commit-again-B
at-10 = by-A at_9 plays.commit_again_A tells.commit_again_A refl

at-11 : At again after-accept-again-A.table after-commit-again-B.table story-accept-again-A story-commit-again-B
at-11 = by-A at-10 plays.accept_again_A tells.accept_again_A refl

-- ---- what is sent

sends-A1 : SendsBy A (own B) (commit_body 21 [] (commit 21 1)) ready (start A 1) (commit_frame 21)
sends-A1 = sends-by at-2.table_A plays.start_A refl tells.to_B only at-3.table_A tells.draws_A1

sends-B2 : SendsBy B (own A) (commit_body 21 [] (commit 21 2)) started (gets_commit B 1 2 4) (commit_frame 21)
sends-B2 = sends-by at-3.table_B plays.commit_B refl tells.to_A first at-4.table_B tells.draws_B2

sends-B4 : SendsBy B (own A) (confirm_body 1 (value 4)) started (gets_commit B 1 2 4) (confirm_frame 1)
sends-B4 = sends-by at-3.table_B plays.commit_B refl tells.to_A second at-4.table_B tells.draws_B4

sends-A5 : SendsBy A (own B) (confirm_body 1 (value 5)) answered (gets_commit A 2 3 5) (confirm_frame 1)
sends-A5 = sends-by at-4.table_A plays.commit_A refl tells.to_B only at_5.table_A tells.draws_A5

sends-A6 : SendsBy A (own B) (commit_body 21 [] (commit 21 6)) handshake (start A 6) (commit_frame 21)
sends-A6 = sends-by at_7.table_A plays.start_again refl tells.to_B only at_8.table_A tells.draws_A6

sends-B7 : SendsBy B (own A) (commit_body 21 [] (commit 21 7)) started_again (gets_commit B 6 7 8) (commit_frame 21)
sends-B7 = sends-by at_8.table_B plays.commit_again_B refl tells.to_A first at_9.table_B tells.draws_B7

sends-B8 : SendsBy B (own A) (confirm_body 1 (value 8)) started_again (gets_commit B 6 7 8) (confirm_frame 1)
sends-B8 = sends-by at_8.table_B plays.commit_again_B refl tells.to_A second at_9.table_B tells.draws_B8

-- ---- what is used afresh, and what each call gets from the other printer

first-uses : Below 6 handshake
first-uses =
    skips (no-use at-6.table_B plays.accept_B refl)
    (skips (no-use at_5.table_A plays.accept_A refl)
    (skips (no-use at-4.table_A plays.commit_A refl)
    (uses 2 (lit< tt) (one-use at-3.table_B plays.commit_B tells.uses_2)
    (uses 1 (lit< tt) (one-use at-2.table_A plays.start_A tells.uses_1)
    (skips (no-use at_1.table_B plays.set_up_B refl)
    (skips (no-use at_none.table_A plays.set_up_A refl)
    nobody))))))

all-uses : Below 8 again
all-uses =
    skips (no-use at-10.table_A plays.accept_again_A refl)
    (skips (no-use at_9.table_A plays.commit_again_A refl)
    (uses 7 (lit< tt) (one-use at_8.table_B plays.commit_again_B tells.uses_7)
    (uses 6 (lit< tt) (one-use at_7.table_A plays.start_again tells.uses_6)
    first-uses)))

first-keep : Every handshake
first-keep =
    and (confirm-keeps at-6.story_B refl (sent-over (sooner last) sends-A5 at_5.story_A))
    (and (confirm-keeps at_5.story_A refl (sent-over (sooner last) sends-B4 at-4.story_B))
    (and (commit-keeps (commit-sequence 21 (commit 21 2)) (sent last sends-B2))
    (and (commit-keeps (commit-sequence 21 (commit 21 1)) (sent last sends-A1))
    (and start-keeps
    (and (set-up-keeps (wide B)) (and (set-up-keeps (wide A)) end))))))

all_keep : Every again
all_keep =
    and (confirm-keeps at-10.story_A refl (sent-over (sooner last) sends-B8 at_9.story_B))
    (and (commit-keeps (commit-sequence 21 (commit 21 7)) (sent last sends-B7))
    (and (commit-keeps (commit-sequence 21 (commit 21 6)) (sent last sends-A6))
    (and start-keeps
    first-keep)))

-- ---- the theorems

-- THE HANDSHAKE keeps to the premises, and ends with two clear links that agree
pub handshake-premises : Premises own handshake
handshake-premises = premises-of first-keep first-uses

pub handshake-links : ((story_of handshake A (own B)).link ≡ finished (pair 21 1 2) false) × ((story_of handshake B (own A)).link ≡ finished (pair 21 2 1) false)
handshake-links = (ap (λ (s : Story). s.link) at_7.story_A, ap (λ (s : Story). s.link) at_7.story_B)

-- THE MARK IS NEEDED: both links are finished, the premises hold, and the links differ; B's is marked
pub again-premises : Premises own again
again-premises = premises-of all_keep all-uses

pub again-links : ((story_of again A (own B)).link ≡ finished (pair 21 6 7) false) × ((story_of again B (own A)).link ≡ finished (pair 21 2 1) true)
again-links = (ap (λ (s : Story). s.link) at-11.story_A, ap (λ (s : Story). s.link) at-11.story_B)

-- ---- all that is handed over can be

stock-bytes : (n : ℕ) → n < 256 → Bytes (stock n)
stock-bytes n l = filled-bytes 198 21 n l

wide-handed : (X : Side) → Handed (set_up (wide X))
wide-handed X = set-up-handed (wide X) (lit< tt) (bytes_of (octet (lit< tt) no_octet)) (lit< tt) (lit< tt)

commit-handed : (X : Side) (m n v : ℕ) → m < 256 → n < 256 → v < 256 → Handed (gets_commit X m n v)
commit-handed X m n v i j k = frame-handed X _ _ v (commit-bytes 21 m i) (stock-bytes n j) k

confirm-handed : (X : Side) (v : ℕ) → v < 256 → Handed (gets_confirm X v)
confirm-handed X v k = frame-handed X _ _ 0 (confirm-bytes 1 v k) (stock-bytes 0 (lit< tt)) (lit< tt)

pub handshake-handed : AllHanded handshake
handshake-handed =
    calls-of.more (confirm-handed B 5 (lit< tt)) (calls-of.more (confirm-handed A 4 (lit< tt)) (calls-of.more (commit-handed A 2 3 5 (lit< tt) (lit< tt) (lit< tt))
    (calls-of.more (commit-handed B 1 2 4 (lit< tt) (lit< tt) (lit< tt)) (calls-of.more (start-handed A (stock 1) (stock-bytes 1 (lit< tt)))
    (calls-of.more (wide-handed B) (calls-of.more (wide-handed A) calls-of.none))))))

pub again-handed : AllHanded again
again-handed =
    calls-of.more (confirm-handed A 8 (lit< tt)) (calls-of.more (commit-handed A 7 3 9 (lit< tt) (lit< tt) (lit< tt)) (calls-of.more (commit-handed B 6 7 8 (lit< tt) (lit< tt) (lit< tt))
    (calls-of.more (start-handed A (stock 6) (stock-bytes 6 (lit< tt))) handshake-handed)))

-- demand 3 holds of both lists, premises and all
pub handshake-demand3 : Demand3 own handshake
handshake-demand3 = demand3 own handshake handshake-handed

pub again-demand3 : Demand3 own again
again-demand3 = demand3 own again again-handed
