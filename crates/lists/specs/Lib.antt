pub mod Lists
pub mod Tables
pub mod Tests
