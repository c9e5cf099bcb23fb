pub mod Printing
