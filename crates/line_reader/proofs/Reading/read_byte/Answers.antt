-- `read_byte`: a line feed, or any other byte.
use Rattle.line_reader.specs.Text.{follows_feed, follows_byte}
use Rattle.line_reader.proofs.Reading.read_byte.Goals as goal

pub returns-then-b-eq10 : goal.returns-then-b-eq10
returns-then-b-eq10 c = follows_feed _ _ _ _ _ c.if-b-eq10.true c.store-self.ensures c.at_end-self.ensures c.next_line-self.ensures

pub returns-else-b-eq10 : goal.returns-else-b-eq10
returns-else-b-eq10 c = follows_byte _ _ _ c.if-b-eq10.false c.requires.room c.within-self.ensures
