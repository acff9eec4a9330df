use Rattle.perform.proofs.Repeats.{resend-law}
use Rattle.perform.proofs.resend_both.Goals as goal

pub returns : goal.returns
returns c = resend-law _ _ _ _ _ _ _ _ _ _ c.group-group.ensures c.sync-sync.ensures c.sc-sc.ensures c.commit_frame-commit.ensures c.confirm_frame-confirm.ensures c.send_counted.ensures
