pub mod Spells
mod Fronts
mod Skeleton
mod Places
mod Operators
mod Levels
mod Names
mod Following
mod BackParts
mod Statements
mod Back
mod Depth
mod Lexical
mod Formed
mod Renumbered
mod ReadFormed
mod Laid
mod Followers
mod LexedNumbers
mod LexedStrings
mod Lexed
mod Clean
pub mod Paired
mod Printed
mod Examples
mod Writing
mod Laying
pub mod WithoutPlaces
