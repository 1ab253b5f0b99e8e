pub mod KeptBox
