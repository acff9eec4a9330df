-- `frame::read_offer` meets its contract: each branch by its law of Reading.
use Rattle.frame.proofs.Reading.{field-number, field-reached, offer-short, offer-listed, offer-other}
use Rattle.frame.proofs.read_offer.Goals as goal

pub returns-then-frame-lt-HEAD : goal.returns-then-frame-lt-HEAD
returns-then-frame-lt-HEAD c = offer-short _ _ c.if-frame-lt-HEAD.true

pub read_listed-requires : goal.read_listed-requires
read_listed-requires c = field-reached c.field_at-f.result _ _ 6 c.field_at-f.ensures c.requires

pub returns-then-is_listed : goal.returns-then-is_listed
returns-then-is_listed c = offer-listed _ _ _ _ c.if-frame-lt-HEAD.false (field-number c.field_at-f.result _ _ 6 c.field_at-f.ensures c.requires) c.is_listed.ensures _ c.if-is_listed.true c.read_listed.ensures

pub returns : goal.returns
returns c = offer-other _ _ _ _ c.if-frame-lt-HEAD.false (field-number c.field_at-f.result _ _ 6 c.field_at-f.ensures c.requires) c.is_listed.ensures c.if-is_listed.false
