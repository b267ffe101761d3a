pub mod CallViews
pub mod ResultViews
pub mod Views
