-- The members are linked one after the other.
use Rattle.ring_members.proofs.Linked.{tables_stand}
use Rattle.ring_members.proofs.link_members.Goals as goal

pub returns : goal.returns
returns c = tables_stand _ _ _ _ _ _ _ _ c.new-links.ensures c.highest.ensures.is c.link_bytes-last.ensures.linked c.byte_at.ensures c.link_byte.ensures.linked
