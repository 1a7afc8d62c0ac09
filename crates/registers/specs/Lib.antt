pub mod Handles
