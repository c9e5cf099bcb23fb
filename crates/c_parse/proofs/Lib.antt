pub mod Files
pub mod Names
pub mod Numbers
pub mod Places
pub mod Laws
