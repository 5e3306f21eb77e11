use Rattle.std.proofs.Common.{◌<◌, ◌≡◌}
use Rattle.ring_members.specs.Members.{chain_of, bits_linked}
use Rattle.ring_members.proofs.link_byte.Given as goal

abbrev pub invariant-loop-k : goal.invariant-loop-k
invariant-loop-k l = (chain_of l.links l.last ≡ bits_linked (chain_of l.initial.links l.before) l.byte l.a l.k) × (l.last < 126)
