-- What a poll keeps where no telegram has our own address and each application declines; then that each poll of a simulated bus is such.
pub mod Steady
pub mod Online
