pub mod Classes
pub mod Draft
pub mod Leads
pub mod Part
pub mod Plan
pub mod PlanText
pub mod SamePlan
