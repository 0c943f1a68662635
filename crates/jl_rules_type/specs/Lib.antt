pub mod Sides
