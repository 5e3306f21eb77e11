-- The tables of own alone: own linked to itself in 252 entries of 127; and those entries by themselves, where own is no address.
use Rattle.std.proofs.Common.{◌≡◌, ℕ, ◌<◌, ◌≤◌}
use Rattle.std.proofs.Math.ListN.{replicate, length-replicate, get_or-replicate}
use Rattle.ring_addresses.specs.Set.{only}
use Rattle.ring_links.specs.Links.{links_of, link_of}
use Rattle.ring_links.specs.LinkLaws.{none_links, alone_links}

pub alone_linked : (own : ℕ) → own < 126 → link_of (replicate 252 127) own own ≡ links_of (only own)
unfolding link_of
alone_linked own = alone_links (replicate {A = ℕ} 252 127) (length-replicate {A = ℕ} 252 127) (λ k l. get_or-replicate {A = ℕ} 252 k 127 0 l) own

pub nobody_linked : (own : ℕ) → 126 ≤ own → replicate 252 127 ≡ links_of (only own)
nobody_linked own = none_links (replicate {A = ℕ} 252 127) (length-replicate {A = ℕ} 252 127) (λ k l. get_or-replicate {A = ℕ} 252 k 127 0 l) own
