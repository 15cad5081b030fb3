pub mod StandsFor
