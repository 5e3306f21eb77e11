use Rattle.std.proofs.Common.{◌<◌, ◌≡◌}
use Rattle.ring_members.specs.Members.{chain_of, bytes_linked}
use Rattle.ring_members.proofs.link_bytes.Given as goal

abbrev pub invariant-loop-i : goal.invariant-loop-i
invariant-loop-i l = (chain_of l.links l.last ≡ bytes_linked (chain_of l.initial.links l.before) l.set l.i) × (l.last < 126)
