pub mod CraneLaws
pub mod SeasonLaws
pub mod SeasonTableLaws
pub mod SweepLaws
pub mod WeekLaws
pub mod WindowLaws
