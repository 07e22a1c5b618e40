pub mod LinkFile
pub mod Division
