mod SortedLines
pub mod Given
pub mod Causes
pub mod Taken
pub mod Loading
