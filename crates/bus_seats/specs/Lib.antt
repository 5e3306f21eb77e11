-- What the code keeps of a seat; then that its turns are those of the bus.
pub mod Kept
pub mod Turns
