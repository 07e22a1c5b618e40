pub mod TextLaws
pub mod LineLaws
pub mod ShareLaws
pub mod PrefixLaws
pub mod LentLaws
pub mod ExampleLaws
