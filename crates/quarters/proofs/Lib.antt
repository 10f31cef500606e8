pub mod QuartersLaws
