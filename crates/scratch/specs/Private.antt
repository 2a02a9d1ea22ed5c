-- What private functions of the crates above promise each other of scratch planes: no public contract cites it.
pub mod Alike
