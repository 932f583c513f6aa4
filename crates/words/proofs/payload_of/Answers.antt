-- `payload_of`: a mask of 26 ones is a remainder.
use lib.Bits.{and_mask}
use Rattle.words.specs.Word.{payload_of}
use Rattle.words.proofs.payload_of.Goals as goal

pub returns : goal.returns
unfolding payload_of
returns c = and_mask c.args.w 26
