pub mod Exemptions
pub mod FileFacts
pub mod KernelList
pub mod LineEnds
pub mod NearNames
pub mod Passing
pub mod Users
