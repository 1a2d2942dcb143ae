-- The words on pools that contracts of this crate use, passed on.
pub use Rattle.store_parts.specs.Pools.{members_of}
