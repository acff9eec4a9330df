-- Every edge of the table holds, by computation.
use mathlib.Core.Path.{◌≡◌, refl}
use mathlib.Core.Bool.{true}
use Rattle.octets.specs.Octets as octets
use Rattle.octets.specs.Scan as scan
use Rattle.groups.specs.Groups as groups
use Rattle.frame.specs.Frame as frame
use Rattle.record.specs.Layout as layout
use Rattle.record.specs.SettingsOctets as settings
use Rattle.soundness.specs.Soundness as soundness
use Rattle.table.specs.Table as tables
use Rattle.initial.specs.Initial as initial
use Rattle.rules.specs.Parts as parts
use Rattle.rules.specs.Book as book
use Rattle.message.specs.View as views
use Rattle.calls.specs.Calls as calls
use Rattle.edges.specs.Edges as edge
use Rattle.edges.specs.Edges.{edges, all_hold}

pub edges-hold : all_hold edges ≡ true
unfolding octets.part octets.num octets.oct octets.all_zero octets.same scan.all_below scan.count_below scan.first_below scan.last_below
    groups.scalar_length groups.element_length groups.commit_length groups.stored groups.listed groups.index_of groups.commits_of
    groups.fresh_of groups.fresh_at groups.fresh_for groups.tails_ok groups.fresh_ok frame.read_listed frame.read_offer frame.read_commit frame.whole_after frame.whole_elements frame.elements_of
    frame.read_confirm frame.read_body frame.read_token_request frame.scalar_of frame.element_of frame.commit_of frame.head layout.no_run layout.no_link layout.no_peer
    layout.record_at layout.form_of layout.period_of layout.limit_of initial.slots_for initial.length_ok initial.initial_ok initial.initial_header settings.settings_of
    octets.individual octets.zero_address octets.same_address groups.known groups.listable groups.marked soundness.own_ok soundness.all_listable soundness.each_once soundness.groups_ok soundness.period_ok soundness.limit_ok
    soundness.settings_ok soundness.commit_ok soundness.token_ok soundness.rejected_ok soundness.committed_ok soundness.confirmed_ok soundness.run_ok soundness.finished_ok soundness.link_ok tables.slot tables.open_count tables.free_slot tables.look_by tables.recounted tables.with_peer tables.placed
    parts.with_sync parts.with_sc parts.with_token parts.heard_again parts.with_run parts.with_link book.deadline book.due book.holds book.linked_with book.t0_due book.t1_due book.expired
    book.start_act book.commit_idle book.commit_committed book.confirm_linked book.clock_act book.commit_act book.confirm_act book.frame_act book.delay book.set_t0
    book.sending book.answering book.settled book.abandoning book.retransmitting book.dropping book.forming book.started_run book.starting
    book.answering_commit book.repeating_commit book.replying_token book.confirming_again book.hearing_again book.hearing_last book.ending_link book.perform book.on_frame book.on_clock book.on_start
    views.view views.commit_in views.message calls.crowded calls.full calls.start_step calls.admit_frame calls.frame_step
    calls.due_slot calls.clock_step edge.named edge.answer edge.holds edge.all_hold
edges-hold = refl
