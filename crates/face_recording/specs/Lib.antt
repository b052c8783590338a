pub mod Face
