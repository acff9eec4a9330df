-- The list of printers of unlike forms keeps to the premises of demand 3: B refuses group 21 and keeps nothing of it, A goes on in 19, and it ends with two
-- clear links that agree, though A's table stores a commit with 198 octets and B's with 144.
use mathlib.Core.Path.{◌≡◌, refl, sym, ap, ◌∙◌}
use mathlib.Core.Bool.{false}
use mathlib.Core.List.{[], ◌∷◌}
use Prim.Native.Nat.{ℕ, ◌<◌}
use lib.Dec.{lit<}
use Rattle.protocol.specs.Model.{Side, A, B}
use Rattle.octets.specs.Octets.{Bytes, part, num}
use Rattle.octets.proofs.Laws.{bytes-append}
use Rattle.frame.specs.Frame.{commit_body, group_refusal_body, confirm_body}
use Rattle.record.specs.Layout.{no_link, limit_of}
use Rattle.record.specs.SettingsOctets.{settings_of}
use Rattle.table.specs.Table.{width_of}
use Rattle.rules.specs.declared.Event.TheVariants as event
use Rattle.rules.specs.declared.Frames.TheVariants as frames
use Rattle.rules.specs.Book.{commit_frame, group_refusal_frame, confirm_frame}
use Rattle.agreement.specs.Calls.{AllHanded, left, table_of, last, sooner}
use Rattle.agreement.specs.Calls as calls-of
use Rattle.agreement.specs.Story.{finished, Story, nothing_yet, story_of}
use Rattle.agreement.specs.Sent.{only, first, second, SendsBy}
use Rattle.agreement.specs.Statement.{Premises, SetTo, Demand3}
use Rattle.agreement.proofs.Demand.{demand3}
use Rattle.witness.specs.Printers.{own, commit, filled, value, set_up}
use Rattle.witness.specs.Fallback.{newer, older, newer_stock, older_stock, offer, refusal, switch, answer, confirm, ready, offered, refused, switched, answered, confirmed, accepted, fallback}
use Rattle.witness.proofs.Lists.{Sets, nothing, sets, begins, hears, sets-to, At, at_none, by-A, by-B, outcome-of, sends-by, sent, sent-over, no-use, one-use, Below, nobody, skips, uses, set-up-keeps, start-keeps, commit-sequence, refusal-sequence, commit-keeps, confirm-keeps, Every, end, and, premises-of, no_octet, octet, bytes_of, filled-bytes, commit-bytes, refusal-bytes, confirm-bytes, set-up-handed, start-handed, frame-handed}
use Rattle.witness.proofs.Plays.{committed, linked, one, empty, running, resting, says, pair, after-offer, after-refusal, after-switch, after-answer, after-confirm, after-newer-accepts, after-older-accepts, story-offer, story-switch, story-answer, story-confirm, story-newer-accepts, story-older-accepts, plays, tells}

-- ---- where the list stands after each call

at_1 : At (set_up newer ∷ []) (empty newer) [] nothing_yet nothing_yet
at_1 = by-A at_none plays.set_up_newer tells.set_up_newer refl

at-2 : At ready (empty newer) (empty older) nothing_yet nothing_yet
at-2 = by-B at_1 plays.set_up_older tells.set_up_older refl

at-3 : At offered after-offer.table (empty older) story-offer nothing_yet
at-3 = by-A at-2 plays.offers tells.offers refl

at-4 : At refused after-offer.table after-refusal.table story-offer nothing_yet
at-4 = by-B at-3 plays.refuses tells.refuses refl

at_5 : At switched after-switch.table after-refusal.table story-switch nothing_yet
at_5 = by-A at-4 plays.switches tells.switches refl

at-6 : At answered after-switch.table after-answer.table story-switch story-answer
at-6 = by-B at_5 plays.answers tells.answers refl

at_7 : At confirmed after-confirm.table after-answer.table story-confirm story-answer
at_7 = by-A at-6 plays.confirms tells.confirms refl

at_8 : At accepted after-newer-accepts.table after-answer.table story-newer-accepts story-answer
at_8 = by-A at_7 plays.newer-accepts tells.newer-accepts refl

at_9 : At fallback after-newer-accepts.table after-older-accepts.table story-newer-accepts story-older-accepts
at_9 = by-B at_8 plays.older-accepts tells.older-accepts refl

-- ---- what is sent

sends-offer : SendsBy A (own B) (commit_body 21 [] (commit 21 1)) ready offer (commit_frame 21)
sends-offer = sends-by at-2.table_A plays.offers refl tells.to_B only at-3.table_A tells.draws_offer

sends-refusal : SendsBy B (own A) (group_refusal_body 21) offered refusal (group_refusal_frame 21)
sends-refusal = sends-by at-3.table_B plays.refuses refl tells.to_A only at-4.table_B tells.draws_refusal

sends-switch : SendsBy A (own B) (commit_body 19 [] (commit 19 5)) refused switch (commit_frame 19)
sends-switch = sends-by at-4.table_A plays.switches refl tells.to_B only at_5.table_A tells.draws_switch

sends-answer : SendsBy B (own A) (commit_body 19 [] (commit 19 6)) switched answer (commit_frame 19)
sends-answer = sends-by at_5.table_B plays.answers refl tells.to_A first at-6.table_B tells.draws_answer

sends-older-confirm : SendsBy B (own A) (confirm_body 1 (value 8)) switched answer (confirm_frame 1)
sends-older-confirm = sends-by at_5.table_B plays.answers refl tells.to_A second at-6.table_B tells.draws_older_confirm

sends-newer-confirm : SendsBy A (own B) (confirm_body 1 (value 9)) answered confirm (confirm_frame 1)
sends-newer-confirm = sends-by at-6.table_A plays.confirms refl tells.to_B only at_7.table_A tells.draws_newer_confirm

-- ---- what is used afresh, and what each call gets from the other printer

all-uses : Below 7 fallback
all-uses =
    skips (no-use at_8.table_B plays.older-accepts refl)
    (skips (no-use at_7.table_A plays.newer-accepts refl)
    (skips (no-use at-6.table_A plays.confirms refl)
    (uses 6 (lit< tt) (one-use at_5.table_B plays.answers tells.answer_uses)
    (uses 5 (lit< tt) (one-use at-4.table_A plays.switches tells.switch_uses)
    (skips (no-use at-3.table_B plays.refuses refl)
    (uses 1 (lit< tt) (one-use at-2.table_A plays.offers tells.offer_uses)
    (skips (no-use at_1.table_B plays.set_up_older refl)
    (skips (no-use at_none.table_A plays.set_up_newer refl)
    nobody))))))))

all_keep : Every fallback
all_keep =
    and (confirm-keeps at_8.story_B refl (sent-over (sooner last) sends-newer-confirm at_7.story_A))
    (and (confirm-keeps at_7.story_A refl (sent-over (sooner last) sends-older-confirm at-6.story_B))
    (and (commit-keeps (commit-sequence 19 (commit 19 6)) (sent last sends-answer))
    (and (commit-keeps (commit-sequence 19 (commit 19 5)) (sent last sends-switch))
    (and (commit-keeps (refusal-sequence 21) (sent last sends-refusal))
    (and (commit-keeps (commit-sequence 21 (commit 21 1)) (sent last sends-offer))
    (and start-keeps
    (and (set-up-keeps older) (and (set-up-keeps newer) end))))))))

-- ---- the theorems

-- B answers the Commit in 21 with one frame, sequence 1, status 77, group 21, and its table is octet for octet what it was
pub fallback-refused : (left (table_of offered B) refusal.call ≡ says B event.None (frames.One (group_refusal_frame 21)) 0 (table_of offered B))
    × (table_of refused B ≡ table_of offered B)
fallback-refused = (
  outcome-of offered refusal at-3.table_B plays.refuses ∙ ap (says B event.None (frames.One (group_refusal_frame 21)) 0) (sym at-3.table_B),
  at-4.table_B ∙ sym at-3.table_B,
)

-- A has marked its first group, 21, as rejected, and its run is in the next one, 19, with that group's part of the stock; t0 is its own first period ahead
pub fallback-switched : table_of switched A ≡ running newer (committed 250 19 1 5) no_link
fallback-switched = at_5.table_A

-- THE FALLBACK keeps to the premises, and ends with two clear links in group 19 that agree
pub fallback-premises : Premises own fallback
fallback-premises = premises-of all_keep all-uses

pub fallback-links : ((story_of fallback A (own B)).link ≡ finished (pair 19 5 6) false) × ((story_of fallback B (own A)).link ≡ finished (pair 19 6 5) false)
fallback-links = (ap (λ (s : Story). s.link) at_9.story_A, ap (λ (s : Story). s.link) at_9.story_B)

-- the tables that hold them, each of its own form, and the octets that each stores a commit with
pub fallback-tables : (table_of fallback A ≡ resting newer (linked 19 5 6 0)) × (table_of fallback B ≡ resting older (linked 19 6 5 0))
fallback-tables = (at_9.table_A, at_9.table_B)

pub fallback-widths : (width_of (table_of fallback A) ≡ 198) × (width_of (table_of fallback B) ≡ 144)
fallback-widths = (ap width_of at_9.table_A ∙ tells.newer_width, ap width_of at_9.table_B ∙ tells.older_width)

-- the printers are set differently: A's limit is 10, and B's entry of 0 stands for the factory's 5
abbrev pub limits : Side → ℕ
limits A = 10
limits B = 5

all_set : Sets limits fallback
unfolding settings_of limit_of part num
all_set = hears (hears (hears (hears (hears (hears (begins (sets older refl (sets newer refl nothing))))))))

pub fallback-set : (X : Side) → SetTo (limits X) X fallback
fallback-set = sets-to all_set

-- and each run has the limit of its own printer's table
pub fallback-runs : ((story_of fallback A (own B)).runs ≡ one (limits A)) × ((story_of fallback B (own A)).runs ≡ one (limits B))
fallback-runs = (ap (λ (s : Story). s.runs) at_9.story_A, ap (λ (s : Story). s.runs) at_9.story_B)

-- ---- all that is handed over can be

newer-bytes : (n m : ℕ) → n < 256 → m < 256 → Bytes (newer_stock n m)
newer-bytes n m i j = bytes-append (filled 198 21 n) (filled 198 19 m) (filled-bytes 198 21 n i) (filled-bytes 198 19 m j)

older-bytes : (n : ℕ) → n < 256 → Bytes (older_stock n)
older-bytes n i = filled-bytes 144 19 n i

pub fallback-handed : AllHanded fallback
fallback-handed =
    calls-of.more (frame-handed B _ _ 0 (confirm-bytes 1 9 (lit< tt)) (older-bytes 0 (lit< tt)) (lit< tt))
    (calls-of.more (frame-handed A _ _ 0 (confirm-bytes 1 8 (lit< tt)) (newer-bytes 0 0 (lit< tt) (lit< tt)) (lit< tt))
    (calls-of.more (frame-handed A _ _ 9 (commit-bytes 19 6 (lit< tt)) (newer-bytes 7 7 (lit< tt) (lit< tt)) (lit< tt))
    (calls-of.more (frame-handed B _ _ 8 (commit-bytes 19 5 (lit< tt)) (older-bytes 6 (lit< tt)) (lit< tt))
    (calls-of.more (frame-handed A _ _ 0 (refusal-bytes 21) (newer-bytes 4 5 (lit< tt) (lit< tt)) (lit< tt))
    (calls-of.more (frame-handed B _ _ 0 (commit-bytes 21 1 (lit< tt)) (older-bytes 3 (lit< tt)) (lit< tt))
    (calls-of.more (start-handed A _ (newer-bytes 1 2 (lit< tt) (lit< tt)))
    (calls-of.more (set-up-handed older (lit< tt) (bytes_of (octet (lit< tt) no_octet)) (lit< tt) (lit< tt))
    (calls-of.more (set-up-handed newer (lit< tt) (bytes_of (octet (lit< tt) (octet (lit< tt) no_octet))) (lit< tt) (lit< tt)) calls-of.none))))))))

-- demand 3 holds of it, premises and all
pub fallback-demand3 : Demand3 own fallback
fallback-demand3 = demand3 own fallback fallback-handed
