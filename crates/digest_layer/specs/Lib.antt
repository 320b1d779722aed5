pub mod ToyDigests
