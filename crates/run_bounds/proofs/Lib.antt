pub mod NumbersThatPass
pub mod FewTurnsHaveLines
pub mod LinesTaken
pub mod RunBound
