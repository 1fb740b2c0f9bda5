mod ChangeLaws
pub mod Cutting
mod FirstPlace
mod HistoryLaws
mod RefreshLaws
mod SurfaceLaws
pub mod MakesLaws
pub mod PlanLaws
pub mod RangeLaws
