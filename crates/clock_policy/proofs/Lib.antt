pub mod MemberLists
pub mod Ascending
