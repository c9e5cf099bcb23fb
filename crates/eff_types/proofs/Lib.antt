pub mod EffectLaws
pub mod Likenesses
pub mod RefusalLaw
pub mod Sameness
pub mod Shapes
pub mod TypeLaws
pub mod Outside
pub mod ConversionLines
