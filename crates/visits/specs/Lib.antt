pub mod Crane
pub mod CraneCode
pub mod Season
pub mod SeasonCode
pub mod Seasons
pub mod Weeks
