pub mod TokenViews
