-- What each call of the lists answers and leaves, what it tells, what it uses afresh and what it sends: computed, octet by octet.
use mathlib.Core.Path.{◌≡◌, refl}
use mathlib.Core.Bool.{Bool, true, false}
use mathlib.Core.List.{List, [], ◌∷◌}
use Prim.Native.Nat.{ℕ}
use lib.ListN.{length, get_or, replicate}
use Rattle.protocol.specs.Model.{Side, A, B, other, Commit}
use Rattle.protocol.specs.Repeats.{Tally}
use Rattle.octets.specs.Octets.{same_address}
use Rattle.groups.specs.Groups.{width}
use Rattle.frame.specs.Frame.{commit_body, group_refusal_body, confirm_body}
use Rattle.frame.specs.Writing.{Octets}
use Rattle.record.specs.declared.Run.{Run}
use Rattle.record.specs.declared.Link.{Link}
use Rattle.record.specs.declared.Peer.{Peer}
use Rattle.record.specs.Layout.{no_run, no_link, no_peer}
use Rattle.table.specs.Table.{width_of, encode_table, is_good}
use Rattle.rules.specs.declared.Frames.{Frames}
use Rattle.rules.specs.declared.Frames.TheVariants as frames
use Rattle.rules.specs.declared.Event.{Event}
use Rattle.rules.specs.declared.Event.TheVariants as event
use Rattle.rules.specs.Book.{commit_frame, group_refusal_frame, confirm_frame}
use Rattle.answers.specs.Outcome as outcome
use Rattle.answers.specs.Answers.{Left}
use Rattle.octets.specs.Octets as octets
use Rattle.octets.specs.Scan.{bit}
use Rattle.octets.specs.Scan as scan
use Rattle.groups.specs.Groups as groups
use Rattle.frame.specs.Frame as frame
use Rattle.frame.specs.Writing as writing
use Rattle.record.specs.Codec as codec
use Rattle.record.specs.Layout as layout
use Rattle.record.specs.SettingsOctets as settings-octets
use Rattle.soundness.specs.Soundness as soundness
use Rattle.table.specs.Table as tables
use Rattle.initial.specs.Initial as initial
use Rattle.rules.specs.Parts as parts
use Rattle.rules.specs.Book as book
use Rattle.message.specs.View as seen
use Rattle.answers.specs.Answers as answers
use Rattle.calls.specs.Calls as calls
use Rattle.writer.specs.Writer as writer
use Rattle.agreement.specs.Calls.{left}
use Rattle.agreement.specs.Story.{Pair, unlinked, finished, Story, nothing_yet, used_afresh, groups_in}
use Rattle.agreement.specs.Story as stories
use Rattle.agreement.specs.Sent.{drawn}
use Rattle.witness.specs.Printers.{own, Printer, commit, filled, value, set_up}
use Rattle.witness.specs.Handshake.{wide, start, gets_commit, gets_confirm}
use Rattle.witness.specs.Fallback.{newer, older, offer, refusal, switch, answer, confirm, newer_accepts, older_accepts}
use Rattle.witness.proofs.Lists.{tell_by, first_octet}

-- ---- runs, links and tables: t0 is the run's deadline, n the octet of the own commit, m that of the peer's

abbrev pub committed : ℕ → ℕ → ℕ → ℕ → Run
committed t0 group rejected n =
    record {
      state = 1;
      sync = 0;
      rejected = rejected;
      sc = 0;
      group = group;
      toklen = 0;
      t0 = t0;
      own = filled width group n;
      peer = replicate width 0;
      token = replicate 256 0;
    }

abbrev pub confirmed : ℕ → ℕ → ℕ → ℕ → Run
confirmed t0 group n m =
    record {
      state = 2;
      sync = 0;
      rejected = 0;
      sc = 1;
      group = group;
      toklen = 0;
      t0 = t0;
      own = filled width group n;
      peer = filled width group m;
      token = replicate 256 0;
    }

abbrev pub linked : ℕ → ℕ → ℕ → ℕ → Link
linked group n m mark =
    record { finished = 1; superseded = mark; sync = 0; spare = 0; group = group; rc = 1; t1 = 86400000; own = filled width group n; peer = filled width group m }

-- the table of a printer with its one record, or none
abbrev pub table : Printer → ℕ → ℕ → Peer → List ℕ
table P used opened p =
    encode_table (record {
      header = record {
        geometry = record { slots = 1; size = P.size; first = 32 };
        counts = record { used = used; opened = opened; good = bit (is_good p) };
        spare = 0;
        own = own P.side;
        settings =
            record {
              count = length P.groups;
              groups = get_or P.groups 0 0 ∷ get_or P.groups 1 0 ∷ get_or P.groups 2 0 ∷ [];
              threshold = 5;
              period = P.period;
              limit = P.limit;
            };
      };
      peers = p ∷ [];
    })

abbrev pub empty : Printer → List ℕ
empty P = table P 0 0 no_peer

abbrev pub running : Printer → Run → Link → List ℕ
running P r l = table P 1 1 (record { used = 1; address = own (other P.side); run = r; link = l })

abbrev pub resting : Printer → Link → List ℕ
resting P l = table P 1 0 (record { used = 1; address = own (other P.side); run = no_run; link = l })

-- ---- what each call answers and leaves

abbrev pub sets : Printer → Left
sets P =
    record { answer = record { outcome = outcome.Done; event = event.None; frames = frames.None; afresh = 0; address = own P.side }; table = empty P }

abbrev pub says : Side → Event → Frames → ℕ → List ℕ → Left
says X e fs g t = record { answer = record { outcome = outcome.Done; event = e; frames = fs; afresh = g; address = own (other X) }; table = t }

-- of the handshake
abbrev pub after-start-A : Left
after-start-A = says A event.None (frames.One (commit_frame 21)) 21 (running (wide A) (committed 40 21 0 1) no_link)

abbrev pub after-commit-B : Left
after-commit-B = says B event.None (frames.Two (commit_frame 21) (confirm_frame 1)) 21 (running (wide B) (confirmed 40 21 2 1) no_link)

abbrev pub after-commit-A : Left
after-commit-A = says A event.None (frames.One (confirm_frame 1)) 0 (running (wide A) (confirmed 40 21 1 2) no_link)

abbrev pub after-accept-A : Left
after-accept-A = says A event.Accepted frames.None 0 (resting (wide A) (linked 21 1 2 0))

abbrev pub after-accept-B : Left
after-accept-B = says B event.Accepted frames.None 0 (resting (wide B) (linked 21 2 1 0))

abbrev pub after-start-again : Left
after-start-again = says A event.None (frames.One (commit_frame 21)) 21 (running (wide A) (committed 40 21 0 6) (linked 21 1 2 0))

abbrev pub after-commit-again-B : Left
after-commit-again-B = says B event.None (frames.Two (commit_frame 21) (confirm_frame 1)) 21 (running (wide B) (confirmed 40 21 7 6) (linked 21 2 1 1))

abbrev pub after-commit-again-A : Left
after-commit-again-A = says A event.None (frames.One (confirm_frame 1)) 0 (running (wide A) (confirmed 40 21 6 7) (linked 21 1 2 1))

abbrev pub after-accept-again-A : Left
after-accept-again-A = says A event.Accepted frames.None 0 (resting (wide A) (linked 21 6 7 0))

-- of the fallback: B keeps no record of what it refuses, and A marks its first group as rejected
abbrev pub after-offer : Left
after-offer = says A event.None (frames.One (commit_frame 21)) 21 (running newer (committed 250 21 0 1) no_link)

abbrev pub after-refusal : Left
after-refusal = says B event.None (frames.One (group_refusal_frame 21)) 0 (empty older)

abbrev pub after-switch : Left
after-switch = says A event.None (frames.One (commit_frame 19)) 19 (running newer (committed 250 19 1 5) no_link)

abbrev pub after-answer : Left
after-answer = says B event.None (frames.Two (commit_frame 19) (confirm_frame 1)) 19 (running older (confirmed 40 19 6 5) no_link)

abbrev pub after-confirm : Left
after-confirm = says A event.None (frames.One (confirm_frame 1)) 0 (running newer (confirmed 250 19 5 6) no_link)

abbrev pub after-newer-accepts : Left
after-newer-accepts = says A event.Accepted frames.None 0 (resting newer (linked 19 5 6 0))

abbrev pub after-older-accepts : Left
after-older-accepts = says B event.Accepted frames.None 0 (resting older (linked 19 6 5 0))

-- ---- what each call tells its printer's story of the other

abbrev pub used : ℕ → ℕ → Commit
used group n = record { group = group; octets = filled width group n }

abbrev pub pair : ℕ → ℕ → ℕ → Pair
pair group n m = record { group = group; own = filled width group n; peer = filled width group m }

abbrev story : Commit → Pair → Bool → Bool → stories.Link → List Tally → Story
story f p running stands l ks = record { fresh = f; pair = p; running = running; stands = stands; link = l; runs = ks }

-- a run without a repeat, in a table of a Sync limit, and two of them
abbrev none : ℕ → Tally
none limit = record { before = 0; after = 0; limit = limit }

abbrev pub one : ℕ → List Tally
one limit = none limit ∷ []

abbrev two : ℕ → List Tally
two limit = none limit ∷ none limit ∷ []

-- of the handshake
abbrev pub story-start-A : Story
story-start-A = story (used 21 1) nothing_yet.pair true false unlinked (one 5)

abbrev pub story-commit-B : Story
story-commit-B = story (used 21 2) (pair 21 2 1) true true unlinked (one 5)

abbrev pub story-commit-A : Story
story-commit-A = story (used 21 1) (pair 21 1 2) true true unlinked (one 5)

abbrev pub story-accept-A : Story
story-accept-A = story (used 21 1) (pair 21 1 2) false false (finished (pair 21 1 2) false) (one 5)

abbrev pub story-accept-B : Story
story-accept-B = story (used 21 2) (pair 21 2 1) false false (finished (pair 21 2 1) false) (one 5)

abbrev pub story-start-again : Story
story-start-again = story (used 21 6) (pair 21 1 2) true false (finished (pair 21 1 2) false) (two 5)

abbrev pub story-commit-again-B : Story
story-commit-again-B = story (used 21 7) (pair 21 7 6) true true (finished (pair 21 2 1) true) (two 5)

abbrev pub story-commit-again-A : Story
story-commit-again-A = story (used 21 6) (pair 21 6 7) true true (finished (pair 21 1 2) true) (two 5)

abbrev pub story-accept-again-A : Story
story-accept-again-A = story (used 21 6) (pair 21 6 7) false false (finished (pair 21 6 7) false) (two 5)

-- of the fallback: to B's story a refusal adds nothing
abbrev pub story-offer : Story
story-offer = story (used 21 1) nothing_yet.pair true false unlinked (one 10)

abbrev pub story-switch : Story
story-switch = story (used 19 5) nothing_yet.pair true false unlinked (one 10)

abbrev pub story-answer : Story
story-answer = story (used 19 6) (pair 19 6 5) true true unlinked (one 5)

abbrev pub story-confirm : Story
story-confirm = story (used 19 5) (pair 19 5 6) true true unlinked (one 10)

abbrev pub story-newer-accepts : Story
story-newer-accepts = story (used 19 5) (pair 19 5 6) false false (finished (pair 19 5 6) false) (one 10)

abbrev pub story-older-accepts : Story
story-older-accepts = story (used 19 6) (pair 19 6 5) false false (finished (pair 19 6 5) false) (one 5)

-- ---- every call of the lists, computed

pub record Plays : Type 0 where
  pub set_up_A : left [] (set_up (wide A)).call ≡ sets (wide A)
  pub set_up_B : left [] (set_up (wide B)).call ≡ sets (wide B)
  pub start_A : left (empty (wide A)) (start A 1).call ≡ after-start-A
  pub commit_B : left (empty (wide B)) (gets_commit B 1 2 4).call ≡ after-commit-B
  pub commit_A : left after-start-A.table (gets_commit A 2 3 5).call ≡ after-commit-A
  pub accept_A : left after-commit-A.table (gets_confirm A 4).call ≡ after-accept-A
  pub accept_B : left after-commit-B.table (gets_confirm B 5).call ≡ after-accept-B
  pub start_again : left after-accept-A.table (start A 6).call ≡ after-start-again
  pub commit_again_B : left after-accept-B.table (gets_commit B 6 7 8).call ≡ after-commit-again-B
  pub commit_again_A : left after-start-again.table (gets_commit A 7 3 9).call ≡ after-commit-again-A
  pub accept_again_A : left after-commit-again-A.table (gets_confirm A 8).call ≡ after-accept-again-A
  pub set_up_newer : left [] (set_up newer).call ≡ sets newer
  pub set_up_older : left [] (set_up older).call ≡ sets older
  pub offers : left (empty newer) offer.call ≡ after-offer
  pub refuses : left (empty older) refusal.call ≡ after-refusal
  pub switches : left after-offer.table switch.call ≡ after-switch
  pub answers : left after-refusal.table answer.call ≡ after-answer
  pub confirms : left after-switch.table confirm.call ≡ after-confirm
  pub newer-accepts : left after-confirm.table newer_accepts.call ≡ after-newer-accepts
  pub older-accepts : left after-answer.table older_accepts.call ≡ after-older-accepts

-- the stories; the frames, by the octets that they are sent as; of the commits used afresh, the first octet; the width that a table stores a commit with
pub record Tells : Type 0 where
  pub set_up_A : tell_by [] (set_up (wide A)).call (sets (wide A)) (own B) nothing_yet ≡ nothing_yet
  pub set_up_B : tell_by [] (set_up (wide B)).call (sets (wide B)) (own A) nothing_yet ≡ nothing_yet
  pub start_A : tell_by (empty (wide A)) (start A 1).call after-start-A (own B) nothing_yet ≡ story-start-A
  pub commit_B : tell_by (empty (wide B)) (gets_commit B 1 2 4).call after-commit-B (own A) nothing_yet ≡ story-commit-B
  pub commit_A : tell_by after-start-A.table (gets_commit A 2 3 5).call after-commit-A (own B) story-start-A ≡ story-commit-A
  pub accept_A : tell_by after-commit-A.table (gets_confirm A 4).call after-accept-A (own B) story-commit-A ≡ story-accept-A
  pub accept_B : tell_by after-commit-B.table (gets_confirm B 5).call after-accept-B (own A) story-commit-B ≡ story-accept-B
  pub start_again : tell_by after-accept-A.table (start A 6).call after-start-again (own B) story-accept-A ≡ story-start-again
  pub commit_again_B : tell_by after-accept-B.table (gets_commit B 6 7 8).call after-commit-again-B (own A) story-accept-B ≡ story-commit-again-B
  pub commit_again_A : tell_by after-start-again.table (gets_commit A 7 3 9).call after-commit-again-A (own B) story-start-again ≡ story-commit-again-A
  pub accept_again_A : tell_by after-commit-again-A.table (gets_confirm A 8).call after-accept-again-A (own B) story-commit-again-A ≡ story-accept-again-A
  pub set_up_newer : tell_by [] (set_up newer).call (sets newer) (own B) nothing_yet ≡ nothing_yet
  pub set_up_older : tell_by [] (set_up older).call (sets older) (own A) nothing_yet ≡ nothing_yet
  pub offers : tell_by (empty newer) offer.call after-offer (own B) nothing_yet ≡ story-offer
  pub refuses : tell_by (empty older) refusal.call after-refusal (own A) nothing_yet ≡ nothing_yet
  pub switches : tell_by after-offer.table switch.call after-switch (own B) story-offer ≡ story-switch
  pub answers : tell_by after-refusal.table answer.call after-answer (own A) nothing_yet ≡ story-answer
  pub confirms : tell_by after-switch.table confirm.call after-confirm (own B) story-switch ≡ story-confirm
  pub newer-accepts : tell_by after-confirm.table newer_accepts.call after-newer-accepts (own B) story-confirm ≡ story-newer-accepts
  pub older-accepts : tell_by after-answer.table older_accepts.call after-older-accepts (own A) story-answer ≡ story-older-accepts
  pub draws_A1 : drawn after-start-A.table (own B) (value 0) [] (commit_frame 21) ≡ Octets (commit_body 21 [] (commit 21 1))
  pub draws_B2 : drawn after-commit-B.table (own A) (value 4) (value 0) (commit_frame 21) ≡ Octets (commit_body 21 [] (commit 21 2))
  pub draws_B4 : drawn after-commit-B.table (own A) (value 4) (value 0) (confirm_frame 1) ≡ Octets (confirm_body 1 (value 4))
  pub draws_A5 : drawn after-commit-A.table (own B) (value 5) (value 0) (confirm_frame 1) ≡ Octets (confirm_body 1 (value 5))
  pub draws_A6 : drawn after-start-again.table (own B) (value 0) [] (commit_frame 21) ≡ Octets (commit_body 21 [] (commit 21 6))
  pub draws_B7 : drawn after-commit-again-B.table (own A) (value 8) (value 0) (commit_frame 21) ≡ Octets (commit_body 21 [] (commit 21 7))
  pub draws_B8 : drawn after-commit-again-B.table (own A) (value 8) (value 0) (confirm_frame 1) ≡ Octets (confirm_body 1 (value 8))
  pub draws_offer : drawn after-offer.table (own B) (value 0) [] (commit_frame 21) ≡ Octets (commit_body 21 [] (commit 21 1))
  pub draws_refusal : drawn after-refusal.table (own A) (value 0) (value 0) (group_refusal_frame 21) ≡ Octets (group_refusal_body 21)
  pub draws_switch : drawn after-switch.table (own B) (value 0) (value 0) (commit_frame 19) ≡ Octets (commit_body 19 [] (commit 19 5))
  pub draws_answer : drawn after-answer.table (own A) (value 8) (value 0) (commit_frame 19) ≡ Octets (commit_body 19 [] (commit 19 6))
  pub draws_older_confirm : drawn after-answer.table (own A) (value 8) (value 0) (confirm_frame 1) ≡ Octets (confirm_body 1 (value 8))
  pub draws_newer_confirm : drawn after-confirm.table (own B) (value 9) (value 0) (confirm_frame 1) ≡ Octets (confirm_body 1 (value 9))
  pub uses_1 : first_octet (used_afresh (groups_in (empty (wide A))) (start A 1).call after-start-A.answer) ≡ 1
  pub uses_2 : first_octet (used_afresh (groups_in (empty (wide B))) (gets_commit B 1 2 4).call after-commit-B.answer) ≡ 2
  pub uses_6 : first_octet (used_afresh (groups_in after-accept-A.table) (start A 6).call after-start-again.answer) ≡ 6
  pub uses_7 : first_octet (used_afresh (groups_in after-accept-B.table) (gets_commit B 6 7 8).call after-commit-again-B.answer) ≡ 7
  pub offer_uses : first_octet (used_afresh (groups_in (empty newer)) offer.call after-offer.answer) ≡ 1
  pub switch_uses : first_octet (used_afresh (groups_in after-offer.table) switch.call after-switch.answer) ≡ 5
  pub answer_uses : first_octet (used_afresh (groups_in after-refusal.table) answer.call after-answer.answer) ≡ 6
  pub newer_width : width_of after-newer-accepts.table ≡ 198
  pub older_width : width_of after-older-accepts.table ≡ 144
  pub to_A : same_address (own A) (own A) ≡ true
  pub to_B : same_address (own B) (own B) ≡ true

computed : Plays × Tells
unfolding octets.part octets.put octets.num octets.oct octets.all_zero octets.same octets.same_address octets.zero_address octets.individual
    octets.higher scan.all_below scan.count_below scan.first_below scan.last_below groups.scalar_length groups.element_length groups.commit_length
    groups.known groups.stored groups.listed groups.index_of groups.marked groups.mark groups.first_left groups.commits_of
    groups.fresh_of groups.fresh_at groups.fresh_for groups.tails_ok groups.fresh_ok groups.listable frame.read_listed frame.read_offer
    frame.read_token_request frame.read_group_refusal frame.read_commit frame.whole_after frame.whole_elements frame.elements_of frame.read_confirm
    frame.read_body frame.token_of frame.scalar_of frame.element_of frame.commit_of frame.value_of frame.head frame.body frame.commit_body
    frame.token_request_body frame.group_refusal_body frame.confirm_body writing.draw_commit writing.draw_token_request writing.draw_group_refusal
    writing.draw_confirm writing.draw_commits writing.draw_confirms writing.parts_body writing.parts_read writing.written writing.leaves codec.cut
    codec.glue codec.total layout.run_widths layout.run_fields layout.run_of layout.encode_run layout.decode_run layout.link_widths layout.link_fields
    layout.link_of layout.encode_link layout.decode_link layout.peer_widths layout.peer_fields layout.peer_of layout.encode_peer layout.decode_peer
    layout.record_at layout.form_of layout.header_widths layout.front_fields layout.back_fields layout.header_fields layout.header_front layout.header_back
    layout.header_of layout.encode_header layout.decode_header layout.no_run layout.no_link layout.no_peer layout.period_of layout.limit_of
    settings-octets.settings_of settings-octets.reserved_zero soundness.own_ok soundness.usable soundness.each_once soundness.groups_ok soundness.period_ok soundness.limit_ok
    soundness.settings_ok soundness.geometry_ok soundness.bounds_ok soundness.header_ok soundness.commit_ok soundness.token_ok soundness.rejected_ok soundness.committed_ok
    soundness.confirmed_ok soundness.run_ok soundness.finished_ok soundness.link_ok soundness.free_ok soundness.in_use_ok soundness.peer_ok
    soundness.all_listable tables.peers_of tables.octets_of tables.decode_table tables.encode_table tables.slot tables.belongs tables.used_count
    tables.open_count tables.finds tables.free_slot tables.look_by tables.look tables.slots_ok tables.alone tables.addresses_ok tables.counts_ok tables.good_count
    tables.sound tables.entry tables.recounted tables.with_peer tables.key tables.new_key initial.slots_for initial.length_ok
    initial.initial_header initial.initial_table initial.initial_ok parts.switched parts.with_run book.deadline book.holds book.linked_with book.start_act
    book.commit_idle book.commit_committed book.confirm_confirmed book.commit_act book.confirm_act book.frame_act book.delay book.set_t0 book.supersede
    book.formed_run book.forming book.started_run book.starting book.link_of_run book.accepting book.answering_commit book.confirming_commit book.perform
    book.on_frame book.on_start book.answering book.sending book.switching book.switching_to seen.view seen.stored_token seen.commit_in seen.message
    answers.said answers.quiet answers.seating answers.ends answers.finish_at answers.finishes answers.turned calls.crowded calls.full
    calls.initializes calls.initializes_from calls.admit_start calls.start_turn calls.start_step calls.initiates calls.admit_frame calls.frame_turn
    calls.frame_step calls.receives writer.draws writer.writes_parts writer.record_commit writer.record_confirm writer.record_body writer.writes_record_by
    writer.writes_record stories.told stories.cleared
computed = (
  record {
    set_up_A = refl;
    set_up_B = refl;
    start_A = refl;
    commit_B = refl;
    commit_A = refl;
    accept_A = refl;
    accept_B = refl;
    start_again = refl;
    commit_again_B = refl;
    commit_again_A = refl;
    accept_again_A = refl;
    set_up_newer = refl;
    set_up_older = refl;
    offers = refl;
    refuses = refl;
    switches = refl;
    answers = refl;
    confirms = refl;
    newer-accepts = refl;
    older-accepts = refl;
  },
  record {
    set_up_A = refl;
    set_up_B = refl;
    start_A = refl;
    commit_B = refl;
    commit_A = refl;
    accept_A = refl;
    accept_B = refl;
    start_again = refl;
    commit_again_B = refl;
    commit_again_A = refl;
    accept_again_A = refl;
    set_up_newer = refl;
    set_up_older = refl;
    offers = refl;
    refuses = refl;
    switches = refl;
    answers = refl;
    confirms = refl;
    newer-accepts = refl;
    older-accepts = refl;
    draws_A1 = refl;
    draws_B2 = refl;
    draws_B4 = refl;
    draws_A5 = refl;
    draws_A6 = refl;
    draws_B7 = refl;
    draws_B8 = refl;
    draws_offer = refl;
    draws_refusal = refl;
    draws_switch = refl;
    draws_answer = refl;
    draws_older_confirm = refl;
    draws_newer_confirm = refl;
    uses_1 = refl;
    uses_2 = refl;
    uses_6 = refl;
    uses_7 = refl;
    offer_uses = refl;
    switch_uses = refl;
    answer_uses = refl;
    newer_width = refl;
    older_width = refl;
    to_A = refl;
    to_B = refl;
  },
)

pub plays : Plays
plays = computed.0

pub tells : Tells
tells = computed.1
