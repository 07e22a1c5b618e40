pub mod LentLaws
pub mod StageLaws
