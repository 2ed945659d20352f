pub mod ServedSplits
pub mod HeadToHead
