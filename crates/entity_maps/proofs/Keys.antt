-- The order of kinds and ids, as among entities.
pub use Rattle.entity_core.proofs.Keys.{key_total, key_exact}
