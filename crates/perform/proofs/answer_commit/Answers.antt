use mathlib.Core.Path.{◌∙◌}
use Rattle.message.specs.Received.{message_in}
use Rattle.acts.proofs.Laws.{run_lent, run-kept}
use Rattle.perform.proofs.Performs.{answer-law, commit-storable}
use borrow.Author.Rules.{rules}
use Rattle.perform.proofs.answer_commit.Goals as goal

pub form_pair-requires : goal.form_pair-requires
form_pair-requires c = let r = c.requires in
    let n = c.store_own.auto.r ∙ run_lent _ _ c.args.s.now c.link_at-at.ensures r.size in
    let t = commit-storable _ _ (message_in c.args.heard.now) c.commit-theirs.ensures.1 (search rules) in
    (r.paced, (run-kept _ _ c.args.s.now c.store_own.new.r c.link_at-at.ensures r.size n, (r.most, (c.commit-theirs.ensures.0, t))))

pub returns : goal.returns
returns c = let r = c.requires in
    let n = c.store_own.auto.r ∙ run_lent _ _ c.args.s.now c.link_at-at.ensures r.size in
    answer-law _ _ c.link_at-at.ensures _ _ c.store_own.new.r _ _ (message_in c.args.heard.now) _ _ _ _ _ _ _ r.size n
    c.store_own.ensures c.fresh_for-own.ensures.1 c.commit-theirs.ensures.1 c.commit_frame-commit.ensures c.confirm_frame-confirm.ensures c.form_pair.ensures
