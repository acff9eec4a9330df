use Rattle.record.specs.Codec.{cut}
use Rattle.record.specs.Layout.{decode_header, header_of, header_widths}
use Rattle.record.proofs.load_header.Goals as goal

pub returns : goal.returns
unfolding decode_header header_of header_widths cut
returns c = cc
