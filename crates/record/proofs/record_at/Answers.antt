use Rattle.record.proofs.Laws.{record-product}
use borrow.Author.Rules.{rules}
use Rattle.record.proofs.record_at.Goals as goal

pub overflow_mul-result : goal.overflow_mul-result
overflow_mul-result c = search (rules, record-product c.args.w c.args.k _ c.record_size.ensures)

pub overflow_add-result : goal.overflow_add-result
overflow_add-result c = search (rules, record-product c.args.w c.args.k _ c.record_size.ensures)

pub returns : goal.returns
returns c = record-product c.args.w c.args.k _ c.record_size.ensures
