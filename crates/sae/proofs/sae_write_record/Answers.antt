-- `sae::sae_write_record` meets its contract: each return by its law of Laws.
use Rattle.sae.proofs.Laws.{counted-record, wrote-replied}
use Rattle.sae.proofs.sae_write_record.Goals as goal

pub wrote_reply-requires : goal.wrote_reply-requires
wrote_reply-requires c = counted-record _ _ _ _ _ _ _ c.write_record-w.ensures

pub returns : goal.returns
returns c = wrote-replied _ _ _ _ _ _ c.write_record-w.ensures c.wrote_reply.ensures.0 c.wrote_reply.ensures.1
