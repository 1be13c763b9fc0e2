pub mod Buckets
pub mod Division
pub mod Proper
pub mod Ranking
pub mod RankedOrder
pub mod Found
pub mod Index
pub mod Distances
