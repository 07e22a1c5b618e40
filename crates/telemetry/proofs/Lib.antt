pub mod BalanceTableLaws
pub mod RatioLaws
pub mod ShareLaws
pub mod SiteLaws
pub mod SitesLaws
