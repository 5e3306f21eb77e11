use Rattle.std.proofs.Common.{◌≡◌}
use Rattle.ring_links.specs.Links.{listed}
use Rattle.ring_members.specs.Members.{set_written}
use Rattle.ring_members.proofs.write_members.Given as goal

-- the first i bytes are written
abbrev pub invariant-loop-i : goal.invariant-loop-i
invariant-loop-i l = l.byte-items ≡ set_written l.initial.byte-items (listed l.links) l.i
