pub mod Fits
pub mod PatchLaws
pub mod PutRuns
pub mod ReadBack
pub mod Runs
pub mod Sign
pub mod Signed
