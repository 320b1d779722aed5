-- `read`, `give`
mod Filling
