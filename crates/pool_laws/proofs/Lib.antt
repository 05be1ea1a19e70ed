pub mod Answered
pub mod Program
pub mod Purges
pub mod Reasons
pub mod Served
pub mod Within
