use mathlib.Core.Path.{refl}
use borrow.Author.Rules.{rules}
use Rattle.record.proofs.Windows.{own-part}
use Rattle.record.proofs.reading.Record.own.Goals as goal

pub returns : goal.returns
returns c = own-part _ _ _ _ (search rules) refl refl
