pub mod Firsts
pub mod Walks
pub mod EdgeLaws
pub mod Walked
pub mod Entering
pub mod Climbs
