pub mod TxnId
pub mod UuidText
