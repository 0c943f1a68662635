pub mod QuietMean
