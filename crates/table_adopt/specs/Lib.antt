pub mod Courses
pub mod Kernel
pub mod Laws
pub mod PlanParts
pub mod Plans
pub mod Reports
pub mod Steps
