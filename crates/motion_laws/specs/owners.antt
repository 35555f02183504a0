-- Who holds an axis or a group in stopping, and that commands are where they are shown.
pub mod Holders
pub mod Shown
