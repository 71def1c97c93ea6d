pub mod Test
pub mod Sets
pub mod Laws
pub mod Good
pub mod Numbers
