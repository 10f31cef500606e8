pub mod CaseLaws
pub mod PointReadings
pub mod FillsLaws
pub mod RankingLaws
pub mod RanksLaws
pub mod RunsLaws
pub mod JudgedLaws
