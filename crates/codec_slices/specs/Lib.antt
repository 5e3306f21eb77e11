-- The definitions. In proofs/ are the one law over a field's place and width (Places), what the calls lean on (Parts), and the round
-- trip over lists of widths (Round).
pub mod Slices
