-- Definitions first; then what is said of a ring to which a set is added, and of weights. In proofs/ are the ring that a set makes
-- (Laws), its tables in one pass (Linked), the bytes of its members (WeightLaws), and the ring back from the set of its members (Back).
pub mod Members
pub mod Laws
pub mod Weights
