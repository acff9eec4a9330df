-- `sae::sae_read` meets its contract: each return by its law of Laws.
use Rattle.sae.proofs.Laws.{read-done, read-refused}
use Rattle.sae.proofs.sae_read.Goals as goal

pub returns-in-Ok : goal.returns-in-Ok
returns-in-Ok c = read-done _ _ _ _ c.read.ensures _ c.in-Ok.is

pub returns-in-Err : goal.returns-in-Err
returns-in-Err c = read-refused _ _ _ _ c.read.ensures _ _ c.in-Err.is c.from.ensures
