use mathlib.Core.Path.{◌≡◌, refl}
use lib.ListN.{length}
use Rattle.acts.proofs.Laws.{form-pair-law}
use borrow.Author.Rules.{rules}
use Rattle.acts.proofs.form_pair.Goals as goal

pub form_run-requires : goal.form_run-requires
form_run-requires c = (c.requires.0, (search rules, c.requires.1.1))

pub returns : goal.returns
returns c = let address-long : length c.args.address ≡ 6 = search rules in form-pair-law _ _ _ c.link_at-at.ensures c.record_size-end.ensures _ c.requires.1.0 _ _ _ _ c.args.address _ _ _ _ _ _
    (search rules) (search rules) address-long c.form_run.ensures c.supersede_link.ensures c.put8.ensures c.put_array.ensures refl
