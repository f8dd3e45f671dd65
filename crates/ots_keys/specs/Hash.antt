-- The one form that all hashes of RFC 8554 have.
pub use Rattle.lane_chains.specs.Hash.{hash_under}
