pub mod Loops
pub mod StringLoops
pub mod Powers
pub mod AmountLemmas
pub mod Ascii
pub mod NumberLoops
pub mod LexLoops
pub mod Reading
