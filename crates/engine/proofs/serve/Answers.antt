use Rattle.answers.specs.Answers.{telling}
use Rattle.std.proofs.Common.{ap, refl}
use Rattle.engine.proofs.Headers.{held-reached}
use Rattle.engine.proofs.Windows.{slot-changed}
use Rattle.engine.proofs.Starts.{given-clocked}
use Rattle.engine.proofs.Clocks.{served}
use borrow.Author.Rules.{rules}
use Rattle.engine.proofs.serve.Goals as goal

pub address_at-address-requires : goal.address_at-address-requires
address_at-address-requires c = held-reached _ c.args.h _ c.requires _ c.width_of-w.ensures

pub standing_of-was-requires : goal.standing_of-was-requires
standing_of-was-requires c = held-reached _ c.args.h _ c.requires _ c.width_of-w.ensures

pub expire_at-said-requires : goal.expire_at-said-requires
expire_at-said-requires c = (c.requires, given-clocked c.args.h _ _ _ _ _ c.given_of-g.ensures)

pub finish_at-requires : goal.finish_at-requires
finish_at-requires c = slot-changed _ c.args.h _ c.requires _ _ _ _ (search rules) c.expire_at-said.ensures
    c.standing_of-was.ensures

pub returns : goal.returns
returns c = served _ c.args.h _ c.requires _ _ _ _ _ _ _
    c.address_at-address.ensures
    c.given_of-g.ensures
    c.expire_at-said.ensures (ap telling c.finish_at.ensures.0, c.finish_at.ensures.1)
