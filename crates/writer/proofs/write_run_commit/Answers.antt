-- `writer::write_run_commit` meets its contract: each branch by its law of Laws.
use mathlib.Core.Path.{sym}
use Prim.Native.Nat.{◌≤◌}
use lib.ListN.{length}
use lib.Seq.{length-take-le}
use Rattle.record.specs.Reading.{peer_in}
use borrow.Author.Rules.{rules}
use Rattle.writer.proofs.Laws.{token-held, own_held, commit-none, commit-run}
use Rattle.writer.proofs.write_run_commit.Goals as goal

pub returns-then-state-eq0 : goal.returns-then-state-eq0
returns-then-state-eq0 c = commit-none _ (peer_in c.args.peer.now) _ _ c.state-state.ensures c.if-state-eq0.true

pub slice_bounds-write_commit-end : goal.slice_bounds-write_commit-end
slice_bounds-write_commit-end c = sym (length-take-le _ _ (token-held c.args.peer.now.octets.now c.args.peer.now.width (search rules) c.requires _ c.state-state.ensures c.if-state-eq0.false _ _
    c.toklen-m.ensures c.token-token.ensures))

pub slice_bounds-write_commit-end-2 : goal.slice_bounds-write_commit-end-2
slice_bounds-write_commit-end-2 c = let own-in : c.commit_length-l.result ≤ length c.own-own.result.now = own_held c.args.peer.now.octets.now c.args.peer.now.width (search rules) c.requires _ c.state-state.ensures c.if-state-eq0.false _ _
    c.own-own.result.now c.group-group.ensures c.commit_length-l.ensures.0 c.own-own.ensures.0 in sym (length-take-le _ _ own-in)

pub returns : goal.returns
returns c = let own-in : c.commit_length-l.result ≤ length c.own-own.result.now = let k = c in
    own_held k.args.peer.now.octets.now k.args.peer.now.width (search rules) k.requires _ c.state-state.ensures c.if-state-eq0.false _ _
    c.own-own.result.now c.group-group.ensures c.commit_length-l.ensures.0 c.own-own.ensures.0 in let k = c in
    commit-run _ (peer_in k.args.peer.now) _ _ c.state-state.ensures _ _ _ _ _ _ _ c.if-state-eq0.false
    c.group-group.ensures c.toklen-m.ensures c.token-token.ensures c.commit_length-l.ensures.0 own-in c.own-own.ensures.1
    c.write_commit.ensures
