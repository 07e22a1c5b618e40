pub mod Balances
pub mod Sites
pub mod SitesCode
pub mod Telemetry
