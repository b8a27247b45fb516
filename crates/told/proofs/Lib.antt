pub mod SixNumbers
