pub mod FewStarts
pub mod RunsAmong
