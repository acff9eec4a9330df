-- The peer that one record's octets say.
use Rattle.record.specs.declared.Peer.{Peer}
use Rattle.record.specs.declared.reading.Record.{Record}
use Rattle.record.specs.Layout.{decode_peer}

abbrev pub peer_in : Record → Peer
peer_in r = decode_peer r.width r.octets.now
