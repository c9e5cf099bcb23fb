pub mod Unpacked
pub mod Stacks
pub mod Filling
pub mod Parking
pub mod Shown
pub mod Counting
