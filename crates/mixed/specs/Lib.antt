pub mod Texts
pub mod Mixeds
pub mod MixedLaws
pub mod Counts
