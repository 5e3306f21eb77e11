-- The rows and what each says, then the theorem that all hold.
pub mod Table
pub mod Examples
