-- `decoder::decode_fragments` meets its contract. Assumes nothing.
use Rattle.decoder.proofs.DecodeLoop.{decoding_none}
use Rattle.decoder.proofs.decode_fragments.Goals as goal

pub loop-i-init : goal.loop-i-init
loop-i-init c = decoding_none _ _ _ _ _ c.requires.0 c.zero-states.ensures
