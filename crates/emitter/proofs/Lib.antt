pub mod Laying
pub mod PartsLaws
pub mod LaidLaws
pub mod DirectionsLaws
