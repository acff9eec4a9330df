-- `sae::sae_write_parts` meets its contract: each return by its law of Laws.
use Rattle.sae.proofs.Laws.{counted-parts, wrote-replied}
use Rattle.sae.proofs.sae_write_parts.Goals as goal

pub wrote_reply-requires : goal.wrote_reply-requires
wrote_reply-requires c = counted-parts _ _ _ _ _ _ _ _ _ _ c.write_parts-w.ensures

pub returns : goal.returns
returns c = wrote-replied _ _ _ _ _ _ c.write_parts-w.ensures c.wrote_reply.ensures.0 c.wrote_reply.ensures.1
