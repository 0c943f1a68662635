pub mod LastTwo
