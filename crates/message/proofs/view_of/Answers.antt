use native.Mathlib.Omega.{arith}
use Rattle.frame.specs.declared.Body.TheVariants as body
use Rattle.message.proofs.Laws.{view-law, view-length}
use Rattle.message.proofs.view_of.Goals as goal

pub overflow_cast-token : goal.overflow_cast-token
overflow_cast-token c = omega (arith, view-length _ (body.Commit _ _) c.in-Commit.is c.requires)

pub overflow_cast-token-in-TokenRequest : goal.overflow_cast-token-in-TokenRequest
overflow_cast-token-in-TokenRequest c = omega (arith, view-length _ (body.TokenRequest _ _) c.in-TokenRequest.is c.requires)

pub returns-in-Commit : goal.returns-in-Commit
returns-in-Commit c = view-law _ (body.Commit _ _) _ c.in-Commit.is c.commit_view.ensures

pub returns-in-Unsupported : goal.returns-in-Unsupported
returns-in-Unsupported c = view-law _ (body.Unsupported _) _ c.in-Unsupported.is c.commit_view-in-Unsupported.ensures

pub returns-in-TokenRequest : goal.returns-in-TokenRequest
returns-in-TokenRequest c = view-law _ (body.TokenRequest _ _) _ c.in-TokenRequest.is c.commit_view-in-TokenRequest.ensures

pub returns-in-GroupRefusal : goal.returns-in-GroupRefusal
returns-in-GroupRefusal c = view-law _ (body.GroupRefusal _) _ c.in-GroupRefusal.is c.commit_view-in-GroupRefusal.ensures

pub returns-in-OtherCommit : goal.returns-in-OtherCommit
returns-in-OtherCommit c = view-law _ (body.OtherCommit _) _ c.in-OtherCommit.is c.commit_view-in-OtherCommit.ensures

pub returns-in-Confirm : goal.returns-in-Confirm
returns-in-Confirm c = view-law _ (body.Confirm _) _ c.in-Confirm.is c.confirm_view.ensures

pub returns-in-OtherConfirm : goal.returns-in-OtherConfirm
returns-in-OtherConfirm c = view-law _ (body.OtherConfirm _) _ c.in-OtherConfirm.is c.confirm_view-in-OtherConfirm.ensures
