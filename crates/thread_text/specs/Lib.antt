pub mod ThreadText
