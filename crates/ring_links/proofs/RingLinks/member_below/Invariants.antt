use Rattle.std.proofs.Common.{◌-◌}
use Rattle.ring_links.specs.Links.{listed}
use Rattle.ring_links.proofs.Walks.{PassedNobody}
use Rattle.ring_links.proofs.RingLinks.member_below.Given as goal

abbrev pub invariant-loop-distance : goal.invariant-loop-distance
invariant-loop-distance l = PassedNobody (listed l.self) l.a l.distance

abbrev pub decreases-loop-distance : goal.decreases-loop-distance
decreases-loop-distance l = 126 - l.distance
