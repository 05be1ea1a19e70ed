pub mod QuotaSpace
