pub mod BusLaws
pub mod QuietLaws
