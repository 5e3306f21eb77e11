-- The bus by what was sent on it; what the code keeps of it; then what it is that this is enough: for what waits, and for what arrives.
-- That it is enough is proved in proofs/.
pub mod Wire
pub mod Kept
pub mod Waits
pub mod Arrives
