-- `Orders`: the passes over two monomials. `Laws`: what the order means.
pub mod Orders
pub mod Laws
