pub mod Verified
