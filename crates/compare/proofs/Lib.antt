pub mod AppearanceLaws
pub mod CauseLaws
pub mod ComparisonLaws
pub mod ComparisonTableLaws
pub mod NumberLaws
pub mod OrderLaws
pub mod RenamedLaws
